-- What a rejection is printed as. Assumes nothing.
use Rattle.std.specs.Prelude.{ℕ, List, codes}
use Rattle.base.specs.declared.misfit.Misfit.TheVariants.{NoForm, OutOfRange, NotRising, PastLimit}
use Rattle.rules.specs.declared.rejection.Rejection.{Rejection}
use Rattle.rules.specs.declared.rejection.Rejection.TheVariants.{Unfit, OutOfMemory}

abbrev pub told_rejection : Rejection → List ℕ
told_rejection (Unfit NoForm) = codes "not expected there"
told_rejection (Unfit OutOfRange) = codes "out of range"
told_rejection (Unfit NotRising) = codes "not above the one before"
told_rejection (Unfit PastLimit) = codes "past a limit"
told_rejection OutOfMemory = codes "memory allocation failed"
