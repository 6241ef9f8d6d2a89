-- What loading words answers, for every kind of source. Assumes nothing.
use Rattle.std.specs.Prelude.{◌≡◌, ℕ, List, Some, None, Ok, Err, Option, Result, codes}
use Rattle.base.specs.Refusals.{refused_at, told}
use Rattle.base.specs.declared.misfit.Misfit.{Misfit}
use Rattle.base.specs.declared.refusal.Refusal.{Refusal}
use Rattle.base.specs.declared.loading.LoadError.{LoadError}
use Rattle.base.specs.declared.loading.LoadError.TheVariants.{Refused, OutOfMemory}

-- reading goes on where no misfit is found, and refuses the word at the place else
abbrev pub or_refuse : {M : Type 0} → Option Misfit → ℕ → Result M Refusal → Result M Refusal
or_refuse None place rest = rest
or_refuse (Some m) place rest = Err (refused_at m place)

-- what the reader of one word answers: what the word means, or why it does not fit
abbrev pub Fitted : {X : Type 0} → Option Misfit → X → Result X Misfit → Type 0
Fitted misfit x (Ok y) = (misfit ≡ None) × (y ≡ x)
Fitted misfit x (Err m) = misfit ≡ Some m

-- by what the words read as: what they mean stands afterwards, or what stood before
abbrev pub Loaded : {M : Type 0} → Result M Refusal → M → Result (Unit {0}) LoadError → M → Type 0
Loaded read before (Ok done) after = read ≡ Ok after
Loaded read before (Err (Refused f)) after = (read ≡ Err f) × (after ≡ before)
Loaded read before (Err OutOfMemory) after = after ≡ before

-- the same of a reader that makes a new value, which means what the words read as
abbrev pub Read : {M X : Type 0} → Result M Refusal → (X → M) → Result X LoadError → Type 0
Read read meaning (Ok x) = read ≡ Ok (meaning x)
Read read meaning (Err (Refused f)) = read ≡ Err f
Read read meaning (Err OutOfMemory) = Unit {0}

-- what such an error is printed as
abbrev pub told_error : LoadError → List ℕ
told_error (Refused f) = told f
told_error OutOfMemory = codes "memory allocation failed"
