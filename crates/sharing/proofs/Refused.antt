-- A refusal's place is the first at which the words stop being the beginning of a sheet's words. Assumes nothing.
use Rattle.std.proofs.Common.{◌≡◌, ℕ, zero, suc, ◌+◌, ◌^◌, ◌<◌, ◌≤◌, ◌⊎◌, List, [], ◌∷◌, ◌++◌, map, length, take, replicate, Some, None, Ok, Err, Option, Result, sym, refl, ap, ◌∙◌, subst, inl, inr, ⊎_elim, arith}
use Rattle.std.specs.List.{AllByRecursion}
use Rattle.std.proofs.lemmas.Nat.{pow_pos}
use Rattle.std.proofs.ByRecursion.{All-append, All-take}
use Rattle.std.proofs.lemmas.List.{length-replicate}
use Rattle.base.specs.Words.{kind, payload, word, Words}
use Rattle.base.specs.Refusals.{value_of, refused_at}
use Rattle.base.specs.Loading.{or_refuse}
use Rattle.base.specs.declared.misfit.Misfit.{Misfit}
use Rattle.base.specs.declared.misfit.Misfit.TheVariants.{NoForm, OutOfRange, NotRising, PastLimit}
use Rattle.base.specs.declared.refusal.Refusal.{Refusal}
use Rattle.base.specs.declared.refusal.Refusal.TheVariants as refusal
use Rattle.sharing.specs.Limits.{max_heads}
use Rattle.sharing.specs.Sheets.{Sheet, no_job}
use Rattle.sharing.specs.Encoding.{job_word, sheet_words, JobOver, IsSheet, counts_in, opening_misfit, job_in, job_misfit, with_job, bare, read_jobs, sheet_of_words}
use Rattle.sharing.specs.Laws.{Begins, RefusedAt, RefusedWhereNoSheetGoesOn}
use Rattle.sharing.proofs.Misfits.{fits_opening}
use Rattle.sharing.proofs.Stepwise.{read_end, read_extra, read_missing, read_next}
use Rattle.sharing.proofs.Encoded.{refusal_clash, with_jobs, jobs_taken, taken_encoded, encoded_taken}

refused_value : (m : Misfit) (place : ℕ) → value_of (refused_at m place) ≡ place
refused_value NoForm place = refl
refused_value OutOfRange place = refl
refused_value NotRising place = refl
refused_value PastLimit place = refl

same_refusal : {f g : Refusal} → ◌≡◌ {A = Result Sheet Refusal} (Err f) (Err g) → f ≡ g
same_refusal e = cc

-- what made a reader refuse: this word, or a later one
stopped : (m : Option Misfit) (place : ℕ) (rest : Result Sheet Refusal) (f : Refusal) → or_refuse m place rest ≡ Err f →
    ((x : Misfit) × (m ≡ Some x) × (f ≡ refused_at x place)) ⊎ ((m ≡ None) × (rest ≡ Err f))
stopped None place rest f e = inr (refl, e)
stopped (Some x) place rest f e = inl (x, refl, sym (same_refusal e))

-- the words of jobs that may go nowhere, by which any beginning goes on
abbrev blanks : ℕ → List ℕ
blanks left = map job_word (replicate left no_job)

blanks_small : (left : ℕ) → Words (blanks left)
unfolding word
blanks_small zero = tt
blanks_small (suc left) = (omega arith, blanks_small left)

blanks_over : (H left : ℕ) → AllByRecursion (JobOver H) (replicate left no_job)
blanks_over H zero = tt
blanks_over H (suc left) = (record { on_heads = pow_pos H; inked = omega arith }, blanks_over H left)

blanks_taken : (left : ℕ) (S : Sheet) (place : ℕ) → S.heads ≤ max_heads → read_jobs left S place (blanks left) ≡ Ok (with_jobs S (replicate left no_job))
blanks_taken left S place few =
    ap (λ k. read_jobs k S place (blanks left)) (sym (length-replicate left no_job)) ∙ jobs_taken S place (replicate left no_job) few (blanks_over S.heads left)

-- how far the words of jobs begin a sheet's: the words up to the place decide the refusal, and those before it go on
record Stops (left : ℕ) (S : Sheet) (place : ℕ) (ws : List ℕ) (f : Refusal) : Type 0 where
  at : ℕ
  value : value_of f ≡ place + at
  there : at ≤ length ws
  stuck : at < length ws → (rest : List ℕ) → read_jobs left S place (take (at + 1) ws ++ rest) ≡ Err f
  rest : List ℕ
  small : Words rest
  sheet : Sheet
  goes_on : read_jobs left S place (take at ws ++ rest) ≡ Ok sheet

stops : (left : ℕ) (S : Sheet) (place : ℕ) (ws : List ℕ) (f : Refusal) → S.heads ≤ max_heads → read_jobs left S place ws ≡ Err f → Stops left S place ws f
stops zero S place [] f few e = refusal_clash (sym e ∙ read_end S place)
stops zero S place (w ∷ ws) f few e =
    let is = same_refusal (sym (read_extra S place w ws) ∙ e) in
    record {
      at = 0;
      value = ap value_of (sym is) ∙ omega arith;
      there = omega arith;
      stuck = λ h rest. read_extra S place w rest ∙ ap Err is;
      rest = [];
      small = tt;
      sheet = S;
      goes_on = read_end S place;
    }
stops (suc left) S place [] f few e =
    record {
      at = 0;
      value = ap value_of (same_refusal (sym e ∙ read_missing left S place)) ∙ omega arith;
      there = omega arith;
      stuck = λ h. absurd (omega arith);
      rest = blanks (suc left);
      small = blanks_small (suc left);
      sheet = with_jobs S (replicate (suc left) no_job);
      goes_on = blanks_taken (suc left) S place few;
    }
stops (suc left) S place (w ∷ ws) f few e =
    let next = λ (vs : List ℕ). read_jobs left (with_job S (job_in (payload w))) (place + 1) vs in
    let m = job_misfit S.heads (kind w) (payload w) in
    ⊎_elim
    (λ s. record {
      at = 0;
      value = ap value_of s.2 ∙ refused_value s.0 place ∙ omega arith;
      there = omega arith;
      stuck = λ h rest. read_next left S place w rest ∙ ap (λ x. or_refuse x place (next rest)) s.1 ∙ ap Err (sym s.2);
      rest = blanks (suc left);
      small = blanks_small (suc left);
      sheet = with_jobs S (replicate (suc left) no_job);
      goes_on = blanks_taken (suc left) S place few;
    })
    (λ s.
    let later = stops left (with_job S (job_in (payload w))) (place + 1) ws f few s.1 in
    let behind : suc later.at + 1 ≡ suc (later.at + 1) = omega arith in
    record {
      at = suc later.at;
      value = later.value ∙ omega arith;
      there = omega (arith, later.there);
      stuck = λ h rest.
          ap (λ k. read_jobs (suc left) S place (take k (w ∷ ws) ++ rest)) behind
          ∙ read_next left S place w (take (later.at + 1) ws ++ rest)
          ∙ ap (λ x. or_refuse x place (next (take (later.at + 1) ws ++ rest))) s.0
          ∙ later.stuck (omega arith) rest;
      rest = later.rest;
      small = later.small;
      sheet = later.sheet;
      goes_on = read_next left S place w (take later.at ws ++ later.rest) ∙ ap (λ x. or_refuse x place (next (take later.at ws ++ later.rest))) s.0 ∙ later.goes_on;
    })
    (stopped m place (next ws) f (sym (read_next left S place w ws) ∙ e))

-- every sheet's words begin with no words
begun : Begins []
begun =
    let S = bare 1 in
    (sheet_words S, S, record { limited = record { some_heads = omega arith; few_heads = omega arith; few_jobs = omega arith }; over = tt; encoded = refl })

-- words that are refused are no sheet's
no_sheet : (ws : List ℕ) (f : Refusal) → sheet_of_words ws ≡ Err f → (S : Sheet) → IsSheet S ws → ⊥
no_sheet ws f e S is = refusal_clash (sym e ∙ encoded_taken ws S is)

refused_opening : (w : ℕ) (ws : List ℕ) (f : Refusal) (m : Misfit) → sheet_of_words (w ∷ ws) ≡ Err f → opening_misfit (kind w) (payload w) ≡ Some m → f ≡ refused_at m 0 → RefusedAt (w ∷ ws) 0
refused_opening w ws f m e unfit is = record {
  there = omega arith;
  before = begun;
  stuck = λ h b.
      no_sheet (w ∷ b.0) f
      (ap (λ x. or_refuse x 0 (read_jobs (counts_in (payload w)).jobs (bare (counts_in (payload w)).heads) 1 b.0)) unfit ∙ ap Err (sym is)) b.1 b.2;
  missing = λ h. absurd (omega arith);
}

pub refused_where_no_sheet_goes_on : RefusedWhereNoSheetGoesOn
refused_where_no_sheet_goes_on [] small f e =
    let none : refusal.NoForm 0 ≡ f = same_refusal e in
    subst (λ g. RefusedAt [] (value_of g)) none (record { there = omega arith; before = begun; stuck = λ h. absurd (omega arith); missing = λ h. no_sheet [] f e })
refused_where_no_sheet_goes_on (w ∷ ws) small f e =
    let p = payload w in
    let c = counts_in p in
    let m = opening_misfit (kind w) p in
    let jobs = λ (vs : List ℕ). read_jobs c.jobs (bare c.heads) 1 vs in
    ⊎_elim
    (λ s. subst (RefusedAt (w ∷ ws)) (sym (ap value_of s.2 ∙ refused_value s.0 0)) (refused_opening w ws f s.0 e s.1 s.2))
    (λ s.
    let t = stops c.jobs (bare c.heads) 1 ws f (fits_opening (kind w) p s.0).counts.few_heads s.1 in
    let place : value_of f ≡ suc t.at = t.value ∙ omega arith in
    let behind : suc t.at + 1 ≡ suc (t.at + 1) = omega arith in
    let opened : (vs : List ℕ) → sheet_of_words (w ∷ vs) ≡ jobs vs = λ vs. ap (λ x. or_refuse x 0 (jobs vs)) s.0 in
    subst (RefusedAt (w ∷ ws)) (sym place) (record {
      there = omega (arith, t.there);
      before = (
        t.rest,
        t.sheet,
        taken_encoded (w ∷ (take t.at ws ++ t.rest))
            (small.0, All-append (λ x. x < 2 ^ 32) (take t.at ws) t.rest (All-take (λ x. x < 2 ^ 32) t.at ws small.1) t.small) t.sheet
            (opened (take t.at ws ++ t.rest) ∙ t.goes_on),
      );
      stuck = λ h b.
          no_sheet (take (suc t.at + 1) (w ∷ ws) ++ b.0) f
          (ap (λ k. sheet_of_words (take k (w ∷ ws) ++ b.0)) behind ∙ opened (take (t.at + 1) ws ++ b.0) ∙ t.stuck (omega arith) b.0) b.1 b.2;
      missing = λ h. no_sheet (w ∷ ws) f e;
    }))
    (stopped m 0 (jobs ws) f e)
