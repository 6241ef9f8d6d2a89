-- The digits of a number, read from the first on. Assumes nothing.
use Rattle.std.proofs.Common.{◌≡◌, ℕ, ◌+◌, ◌*◌, ◌^◌, ◌<◌, ◌≤◌, List, [], ◌∷◌, length, get_or, drop, subst, mul-le-mul_left, arith}
use Rattle.std.specs.Str.Parse.{AllDigits, digits_value, digits_value_after}
use Rattle.std.specs.Char.{digit_value}
use Rattle.std.proofs.lemmas.List.{drop_more}

-- number is what the digits before rest write
pub record Left (radix number : ℕ) (digits rest : List ℕ) : Type 0 where
  pub valued : digits_value_after radix number rest ≡ digits_value radix digits
  pub whole : AllDigits radix rest → AllDigits radix digits
  pub part : AllDigits radix digits → AllDigits radix rest

-- the digits of what is left, by the first of them
first_left : {radix number : ℕ} {digits : List ℕ} (i : ℕ) → i < length digits → Left radix number digits (drop i digits) → Left radix number digits (get_or digits i 0 ∷ drop (i + 1) digits)
first_left {radix} {number} {digits} i within = subst (Left radix number digits) (drop_more digits i 0 within)

value_at_least : (radix number : ℕ) (digits : List ℕ) → 0 < radix → number ≤ digits_value_after radix number digits
value_at_least radix number [] some = omega arith
value_at_least radix number (c ∷ cs) some =
    let grown : number * 1 ≤ number * radix = mul-le-mul_left number (omega arith) in
    omega (arith, value_at_least radix (number * radix + digit_value c) cs some)

pub too_large : {radix number : ℕ} {digits : List ℕ} (i : ℕ) → i < length digits → 0 < radix → 2 ^ 32 ≤ number * radix + digit_value (get_or digits i 0) → Left radix number digits (drop i digits) →
    digits_value radix digits < 2 ^ 32 → ⊥
too_large {radix} {number} {digits} i within some large left small =
    omega (arith, (first_left i within left).valued, value_at_least radix (number * radix + digit_value (get_or digits i 0)) (drop (i + 1) digits) some)
