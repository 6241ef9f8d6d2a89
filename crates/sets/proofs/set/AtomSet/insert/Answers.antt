-- The bit of an atom is set, and is new where it was not.
use Rattle.std.proofs.Common.{◌≡◌, ◌/◌, Bool, true, false, not, ◌&&◌, eqb, get_or, length, refl, rules}
use lib.Bits.{bit_and}
use Rattle.sets.specs.Limits.{max_atoms}
use Rattle.sets.proofs.Sets.{has_test, has_more, size_more}
use Rattle.sets.proofs.set.AtomSet.insert.Goals as goal

not_not : (t : Bool) → t ≡ (true && not (not t))
not_not true = refl
not_not false = refl

pub returns : goal.returns
returns c =
    let s = c.args.self.now in
    let sixteen : length s.words ≡ max_atoms / 64 = search rules in
    let new = eqb (bit_and (get_or s.words c.in-Some.word 0) c.in-Some.bit) 0 in
    let test = has_test s c.args.atom (c.in-Some.word, c.in-Some.bit) c.in-Some.ensures sixteen in
    record {
      answer = rw (← test, c.in-Some.ensures.atom) (not_not new);
      after = has_more s c.args.atom (c.in-Some.word, c.in-Some.bit) c.in-Some.ensures sixteen;
      size = size_more s c.args.atom (c.in-Some.word, c.in-Some.bit) c.in-Some.ensures sixteen new test;
    }
