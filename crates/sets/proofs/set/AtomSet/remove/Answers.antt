-- The bit of an atom is cleared, and was there where the atom was a member.
use Rattle.std.proofs.Common.{◌≡◌, ◌/◌, length, sym, rules}
use Rattle.sets.specs.Limits.{max_atoms}
use Rattle.sets.proofs.Sets.{has_not_atom, less_no_atom, has_test, has_less, size_less}
use Rattle.sets.proofs.set.AtomSet.remove.Goals as goal

pub returns-in_default : goal.returns-in_default
returns-in_default c =
    record { answer = sym (has_not_atom c.args.self.now c.args.atom c.in_default.ensures); after = less_no_atom c.args.self.now c.args.atom c.in_default.ensures; size = search rules }

pub returns : goal.returns
returns c =
    let s = c.args.self.now in
    let sixteen : length s.words ≡ max_atoms / 64 = search rules in
    let test = has_test s c.args.atom (c.in-Some.word, c.in-Some.bit) c.in-Some.ensures sixteen in
    record {
      answer = test;
      after = has_less s c.args.atom (c.in-Some.word, c.in-Some.bit) c.in-Some.ensures sixteen;
      size = size_less s c.args.atom (c.in-Some.word, c.in-Some.bit) c.in-Some.ensures sixteen _ test;
    }
