-- Which payloads fit in an opening word and in a job word. Assumes nothing.
use Rattle.std.proofs.Common.{◌≡◌, ℕ, ◌+◌, ◌/◌, ◌^◌, ◌<◌, ◌≤◌, Bool, true, false, not, leb, Some, None, Option, refl, ap, ap₂, ⊎_elim, arith}
use Rattle.std.proofs.lemmas.Nat.{pow_pos, div_below, le-div}
use Rattle.std.proofs.lemmas.Bool.{cases_lt, and_parts, and_from, not-false, leb-true, leb-false, le-leb, lt-leb}
use Rattle.base.specs.declared.words.Kind.{Kind}
use Rattle.base.specs.declared.words.Kind.TheVariants.{Head, Positive, Negative, Member, TrueNode, FalseNode, Link, Opening}
use Rattle.base.specs.declared.misfit.Misfit.{Misfit}
use Rattle.base.specs.declared.misfit.Misfit.TheVariants.{NoForm, OutOfRange, PastLimit}
use Rattle.rules.specs.Growing.{cause_if, names}
use Rattle.sharing.specs.Limits.{max_heads, max_jobs, count_bits, ink_bits}
use Rattle.sharing.specs.Encoding.{counts_in, in_range, opening_misfit, job_in, job_misfit}
use Rattle.sharing.specs.declared.reading.Counts.{Counts}

-- a number shifted away has few bits
pub shifted_out : (x k : ℕ) → x / 2 ^ k ≤ 0 → x < 2 ^ k
shifted_out x k h =
    ⊎_elim (λ l. l) (λ (l : 2 ^ k ≤ x). absurd (omega (arith, le-div 1 x (2 ^ k) (pow_pos k) (omega arith)))) (cases_lt x (2 ^ k))

pub shifted_in : (x k : ℕ) → 0 < x / 2 ^ k → 2 ^ k ≤ x
shifted_in x k h =
    ⊎_elim (λ (l : x < 2 ^ k). absurd (omega (arith, div_below x (2 ^ k) 1 (pow_pos k) (omega arith)))) (λ l. l) (cases_lt x (2 ^ k))

module _ (H p : ℕ) (short : p < 2 ^ (ink_bits + max_heads)) where
  pub job_fits : (job_in p).heads < 2 ^ H → job_misfit H Member p ≡ None
  job_fits h =
      ap₂ (λ s t. cause_if s NoForm (cause_if t OutOfRange None)) (lt-leb (2 ^ (ink_bits + max_heads)) p short) (lt-leb (2 ^ H) (job_in p).heads h)

  pub job_outside : 2 ^ H ≤ (job_in p).heads → job_misfit H Member p ≡ Some OutOfRange
  job_outside h =
      ap₂ (λ s t. cause_if s NoForm (cause_if t OutOfRange None)) (lt-leb (2 ^ (ink_bits + max_heads)) p short) (le-leb (2 ^ H) (job_in p).heads h)

pub counts_within : (c : Counts) → 1 ≤ c.heads → c.heads ≤ max_heads → c.jobs ≤ max_jobs → in_range c ≡ true
counts_within c some few jobs =
    and_from (names max_heads c.heads) (leb c.jobs max_jobs)
    (and_from (leb 1 c.heads) (leb c.heads max_heads) (le-leb 1 c.heads some) (le-leb c.heads max_heads few))
    (le-leb c.jobs max_jobs jobs)

pub record InRange (c : Counts) : Type 0 where
  pub some_heads : 1 ≤ c.heads
  pub few_heads : c.heads ≤ max_heads
  pub few_jobs : c.jobs ≤ max_jobs

pub within_range : (c : Counts) → in_range c ≡ true → InRange c
within_range c e =
    let parts = and_parts (names max_heads c.heads) (leb c.jobs max_jobs) e in
    let heads = and_parts (leb 1 c.heads) (leb c.heads max_heads) parts.0 in
    record {
      some_heads = leb-true 1 c.heads heads.0;
      few_heads = leb-true c.heads max_heads heads.1;
      few_jobs = leb-true c.jobs max_jobs parts.1;
    }

module _ (p : ℕ) where
  pub opening_outside : in_range (counts_in p) ≡ false → opening_misfit Opening p ≡ Some PastLimit
  opening_outside e = ap (λ t. cause_if (not t) PastLimit (cause_if (leb (2 ^ (count_bits + count_bits)) p) NoForm None)) e

  pub opening_fits : in_range (counts_in p) ≡ true → p < 2 ^ (count_bits + count_bits) → opening_misfit Opening p ≡ None
  opening_fits e h = ap₂ (λ t s. cause_if (not t) PastLimit (cause_if s NoForm None)) e (lt-leb (2 ^ (count_bits + count_bits)) p h)

pub misfit_clash : {X : Type 0} {m : Misfit} → ◌≡◌ {A = Option Misfit} (Some m) None → X
misfit_clash e = let z : ◌≡◌ {A = ℕ} 0 1 = cc in absurd (omega arith)

-- neither of two tests told a cause
neither : (s t : Bool) (m n : Misfit) → cause_if s m (cause_if t n None) ≡ None → (s ≡ false) × (t ≡ false)
neither true t m n e = misfit_clash e
neither false true m n e = misfit_clash e
neither false false m n e = (refl, refl)

-- a word that fits as a job
pub record FitsJob (H : ℕ) (k : Kind) (p : ℕ) : Type 0 where
  pub member : k ≡ Member
  pub short : p < 2 ^ (ink_bits + max_heads)
  pub on_heads : (job_in p).heads < 2 ^ H

pub fits_job : (H : ℕ) (k : Kind) (p : ℕ) → job_misfit H k p ≡ None → FitsJob H k p
fits_job H Head p e = misfit_clash e
fits_job H Positive p e = misfit_clash e
fits_job H Negative p e = misfit_clash e
fits_job H Member p e =
    let n = neither (leb (2 ^ (ink_bits + max_heads)) p) (leb (2 ^ H) (job_in p).heads) NoForm OutOfRange e in
    record { member = refl; short = leb-false (2 ^ (ink_bits + max_heads)) p n.0; on_heads = leb-false (2 ^ H) (job_in p).heads n.1 }
fits_job H TrueNode p e = misfit_clash e
fits_job H FalseNode p e = misfit_clash e
fits_job H Link p e = misfit_clash e
fits_job H Opening p e = misfit_clash e

-- a word that fits as the opening word
pub record FitsOpening (k : Kind) (p : ℕ) : Type 0 where
  pub opening : k ≡ Opening
  pub counts : InRange (counts_in p)
  pub short : p < 2 ^ (count_bits + count_bits)

pub fits_opening : (k : Kind) (p : ℕ) → opening_misfit k p ≡ None → FitsOpening k p
fits_opening Head p e = misfit_clash e
fits_opening Positive p e = misfit_clash e
fits_opening Negative p e = misfit_clash e
fits_opening Member p e = misfit_clash e
fits_opening TrueNode p e = misfit_clash e
fits_opening FalseNode p e = misfit_clash e
fits_opening Link p e = misfit_clash e
fits_opening Opening p e =
    let n = neither (not (in_range (counts_in p))) (leb (2 ^ (count_bits + count_bits)) p) PastLimit NoForm e in
    record { opening = refl; counts = within_range (counts_in p) (not-false (in_range (counts_in p)) n.0); short = leb-false (2 ^ (count_bits + count_bits)) p n.1 }
