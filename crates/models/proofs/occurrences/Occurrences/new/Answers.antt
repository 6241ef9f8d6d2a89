use Rattle.std.proofs.Common.{◌+◌, refl}
use Rattle.sets.specs.Limits.{max_atoms}
use Rattle.models.proofs.Chained.{bare}
use Rattle.models.proofs.occurrences.Occurrences.new.Goals as goal

pub invariant_of-result-clause-starts : goal.invariant_of-result-clause-starts
invariant_of-result-clause-starts c a = bare _ (max_atoms + 1) refl _ a
