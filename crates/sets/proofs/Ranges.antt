-- `find` over a range, said of a test of numbers. Assumes nothing.
use Rattle.std.proofs.Common.{◌≡◌, ℕ, ◌+◌, ◌<◌, ◌≤◌, Bool, true, false, List, Some, None, Option, MatchOption, sym, ap, arith}
use Rattle.std.specs.Bool.{⊤}
use denote.Ref.{Bor}
use denote.Param.Members.{Mut}
use Rattle.std.specs.declared.ops.Range.{Range}
use Rattle.std.specs.List.{FoldsTo}
use Rattle.std.specs.Iterator.{YieldsThen}
use Rattle.std.specs.Fn.{CalledAt}
use Rattle.std.proofs.iter.Yields.{nat_range_steps}
use Rattle.std.proofs.lemmas.Iterator.{first_from_Range}

-- the smallest number from `low` to `high` that passes a test
abbrev pub FirstOf : (ℕ → Bool) → ℕ → ℕ → Option ℕ → Type 0
FirstOf p low high r = MatchOption r
    ((k : ℕ) → low ≤ k → k ≤ high → p k ≡ false)
    (λ i. (low ≤ i) × (i ≤ high) × (p i ≡ true) × ((k : ℕ) → low ≤ k → k < i → p k ≡ false))

pub first_from : {F : Type 0} {g : Mut F (Bor ℕ × Unit {0}) Bool} (p : ℕ → Bool) (low high : ℕ) (s u : Range ℕ) (f : F) (r : Option ℕ)
    → s ≡ record { start = low; end = high + 1 }
    → (xs : List ℕ) × (j : F) × YieldsThen nat_range_steps s xs r u × FoldsTo (λ h x q. CalledAt g h x false q) f xs j × MatchOption r ⊤ (λ x. (h : F) × CalledAt g j x true h)
    → ((x : ℕ) (b : Bool) (q : F) → CalledAt g f x b q → (q ≡ f) × (b ≡ p x))
    → FirstOf p low high r
first_from p low high s u f r is d k =
    by r (first_from_Range s u f r (λ x. p x ≡ true) (λ x. p x ≡ false) d (λ x q c. sym (k x true q c).1) (λ x q c. let o = k x false q c in (o.0, sym o.1)))
  where
    start : s.start ≡ low
    start = ap (λ (t : Range ℕ). t.start) is

    end : s.end ≡ high + 1
    end = ap (λ (t : Range ℕ). t.end) is

    by : (o : Option ℕ) → MatchOption o ((i : ℕ) → s.start ≤ i → i < s.end → p i ≡ false) (λ i. (s.start ≤ i) × (i < s.end) × (p i ≡ true) × ((j : ℕ) → s.start ≤ j → j < i → p j ≡ false)) → FirstOf p low high o
    by None h = λ i a b. h i (omega (arith, start)) (omega (arith, end))
    by (Some i) h = (omega (arith, start, h.0), omega (arith, end, h.1), h.2, λ j a b. h.3 j (omega (arith, start)) b)
