-- Each word loses the bits of the other set's.
use Rattle.std.proofs.Common.{get_or, arith, rules, tests}
use Rattle.sets.proofs.Differing.{Lacks, given_each, has_difference}
use Rattle.sets.proofs.set.AtomSet.difference.Goals as goal

pub returns : goal.returns
returns c =
    has_difference c.args.self.now c.args.other.now (record { words = c.from_fn.result })
    (λ k low. given_each _ _ (λ i w. Lacks (get_or c.args.self.now.words i 0) (get_or c.args.other.now.words i 0) w) (λ i y q h. search (rules, tests)) c.from_fn.result 0 16 c.from_fn.ensures.items.each k (omega arith) low)
