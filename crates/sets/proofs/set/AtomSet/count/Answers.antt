-- Sixteen words have at most 64 ones each, and as many as the set has atoms.
use Rattle.std.proofs.Common.{arith, rules, tests, ◌∙◌}
use Rattle.std.proofs.lemmas.Iterator.{YieldsList-from_slice, YieldsList-from_map}
use Rattle.std.proofs.lemmas.Iterator.Adapters.{fits_from_length, at_most_from_yields_List}
use Rattle.std.proofs.lemmas.Iterator.Consumers.{sum_from_yields_List}
use Rattle.sets.proofs.Bitset.{word_ones}
use Rattle.sets.proofs.Sets.{size_words}
use Rattle.sets.proofs.set.AtomSet.count.Goals as goal

pub sum-requires-clause-fits : goal.sum-requires-clause-fits
sum-requires-clause-fits c =
    fits_from_length _ _ 16 _ (at_most_from_yields_List (YieldsList-from_slice c.args.self.now.words cc) (omega arith)) c.map.ensures.closure (omega arith) (λ x r q k. search (rules, tests))

pub returns : goal.returns
returns c =
    sum_from_yields_List _ _ c.sum.ensures.ran (YieldsList-from_map _ word_ones (YieldsList-from_slice c.args.self.now.words cc) c.map.ensures.closure (λ x r q k. search rules))
    ∙ size_words c.args.self.now (omega arith)
