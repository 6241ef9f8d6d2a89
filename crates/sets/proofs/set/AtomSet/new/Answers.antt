-- Sixteen words of zeros mark nothing.
use Rattle.sets.proofs.Sets.{has_zeros, size_none}
use Rattle.sets.proofs.set.AtomSet.new.Goals as goal

pub returns : goal.returns
returns c = record { none = has_zeros 16; size = size_none _ (has_zeros 16) }
