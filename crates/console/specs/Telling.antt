-- What is printed in the end: a text, or the line of the refusal that stands in its place. Assumes nothing.
use Rattle.std.specs.Prelude.{◌≡◌, ℕ, Bool, true, false, List, Ok, Err, Result}
use Rattle.base.specs.declared.loading.LoadError.{LoadError}
use Rattle.base.specs.declared.loading.LoadError.TheVariants.{Refused, OutOfMemory}
use Rattle.texts.specs.Texts.{refusal_line}

-- T holds of what is printed, and of whether all was passed
abbrev pub Tells : {X : Type 0} → (X → List ℕ) → (Bool → List ℕ → Type 0) → Result X LoadError → Type 0
Tells bytes T (Ok text) = T true (bytes text)
Tells bytes T (Err (Refused f)) = T false (refusal_line f)
Tells bytes T (Err OutOfMemory) = Unit {0}

-- the text is printed where there is one, and the line of the refusal in its place, which is not passed; want of memory prints nothing
abbrev pub Printed : {X : Type 0} → (X → List ℕ) → Result X LoadError → Bool → List ℕ → Type 0
Printed bytes (Ok text) passed printed = (passed ≡ true) × (printed ≡ bytes text)
Printed bytes (Err (Refused f)) passed printed = (passed ≡ false) × (printed ≡ refusal_line f)
Printed bytes (Err OutOfMemory) passed printed = ⊥
