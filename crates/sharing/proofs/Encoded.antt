-- Words are taken exactly if they are those of a sheet within the limits. Assumes nothing.
use Rattle.std.proofs.Common.{◌≡◌, ℕ, zero, suc, ◌+◌, ◌*◌, ◌/◌, ◌%◌, ◌^◌, ◌<◌, ◌≤◌, List, [], ◌∷◌, ◌++◌, map, length, Some, None, Ok, Err, Option, Result, sym, refl, ap, ◌∙◌, subst, ap₂, arith, pow_mono}
use Rattle.std.specs.List.{AllByRecursion}
use Rattle.std.proofs.lemmas.Nat.{shr_split, shr_high, mod_low}
use Rattle.std.proofs.lemmas.List.{append_assoc, append-nil}
use Rattle.base.specs.Words.{kind, payload, word, Words}
use Rattle.base.specs.Loading.{or_refuse}
use Rattle.base.specs.declared.words.Kind.{Kind}
use Rattle.base.specs.declared.words.Kind.TheVariants.{Member, Opening}
use Rattle.base.specs.declared.misfit.Misfit.{Misfit}
use Rattle.base.specs.declared.refusal.Refusal.{Refusal}
use Rattle.base.proofs.WordForms.{kind_word, payload_word, word_of}
use Rattle.sharing.specs.Limits.{max_heads, count_bits, ink_bits}
use Rattle.sharing.specs.Sheets.{Sheet, Limited}
use Rattle.sharing.specs.Encoding.{opening_word, job_word, JobOver, IsSheet, counts_in, opening_misfit, job_in, job_misfit, with_job, bare, read_jobs, sheet_of_words}
use Rattle.sharing.specs.Laws.{TakenExactlyIfEncoded}
use Rattle.sharing.specs.declared.reading.Counts.{Counts}
use Rattle.sharing.specs.declared.sheet.Job.{Job}
use Rattle.sharing.proofs.Misfits.{job_fits, counts_within, opening_fits, fits_job, fits_opening}
use Rattle.sharing.proofs.Stepwise.{read_end, read_extra, read_missing, read_next}

pub refusal_clash : {X : Type 0} {f : Refusal} {S : Sheet} → ◌≡◌ {A = Result Sheet Refusal} (Err f) (Ok S) → X
refusal_clash e = let z : ◌≡◌ {A = ℕ} 0 1 = cc in absurd (omega arith)

pub same_sheet : {S T : Sheet} → ◌≡◌ {A = Result Sheet Refusal} (Ok S) (Ok T) → S ≡ T
same_sheet e = cc

-- what made a reader go on
pub taken : (m : Option Misfit) (place : ℕ) (rest : Result Sheet Refusal) (Q : Sheet) → or_refuse m place rest ≡ Ok Q → (m ≡ None) × (rest ≡ Ok Q)
taken None place rest Q e = (refl, e)
taken (Some m) place rest Q e = refusal_clash e

-- a sheet with more jobs behind its own
abbrev pub with_jobs : Sheet → List Job → Sheet
with_jobs S js = record { heads = S.heads; jobs = S.jobs ++ js }

with_more : (S : Sheet) (job : Job) (js : List Job) → with_jobs (with_job S job) js ≡ with_jobs S (job ∷ js)
with_more S job js = ap (λ ks. record { heads = S.heads; jobs = ks }) (append_assoc S.jobs (job ∷ []) js)

with_none : (S : Sheet) → with_jobs S [] ≡ S
with_none S = ap (λ ks. record { heads = S.heads; jobs = ks }) (append-nil S.jobs)

-- a word of a kind is made of it and its payload
word_with : (w : ℕ) (k : Kind) → w < 2 ^ 32 → kind w ≡ k → w ≡ word k (payload w)
word_with w k small is = sym (word_of w small) ∙ ap (λ x. word x (payload w)) is

-- a word that fits as a job is that job's
module _ (H w : ℕ) (small : w < 2 ^ 32) (fits : job_misfit H (kind w) (payload w) ≡ None) where
  abbrev p : ℕ
  p = payload w

  job_back : w ≡ job_word (job_in p)
  job_back = word_with w Member small (fits_job H (kind w) p fits).member ∙ ap (word Member) (sym (shr_split p max_heads))

  job_over : JobOver H (job_in p)
  job_over = let f = fits_job H (kind w) p fits in record { on_heads = f.on_heads; inked = omega (arith, f.short) }

-- the word of a job fits, and reads as that job
module _ (H : ℕ) (job : Job) (few : H ≤ max_heads) (over : JobOver H job) where
  abbrev q : ℕ
  q = job.ink * 2 ^ max_heads + job.heads

  narrow : job.heads < 2 ^ max_heads
  narrow = omega (arith, over.on_heads, pow_mono few)

  q_below : q < 2 ^ (ink_bits + max_heads)
  q_below = omega (arith, over.inked, narrow)

  job_again : job_in q ≡ job
  job_again = ap₂ (λ h i. record { heads = h; ink = i }) (mod_low job.ink max_heads job.heads narrow) (shr_high job.ink max_heads job.heads narrow)

  pub job_read : job_in (payload (job_word job)) ≡ job
  job_read = ap job_in (payload_word Member q (omega (arith, q_below))) ∙ job_again

  pub job_taken : job_misfit H (kind (job_word job)) (payload (job_word job)) ≡ None
  job_taken =
      ap₂ (job_misfit H) (kind_word Member q (omega (arith, q_below))) (payload_word Member q (omega (arith, q_below)))
      ∙ job_fits H q q_below (subst (λ h. h < 2 ^ H) (ap (λ (j : Job). j.heads) (sym job_again)) over.on_heads)

-- what the words of the jobs mean
pub record Jobs (left : ℕ) (S : Sheet) (ws : List ℕ) (Q : Sheet) : Type 0 where
  pub jobs : List Job
  pub grown : Q ≡ with_jobs S jobs
  pub encoded : ws ≡ map job_word jobs
  pub all : length jobs ≡ left
  pub over : AllByRecursion (JobOver S.heads) jobs

jobs_encoded : (left : ℕ) (S : Sheet) (place : ℕ) (ws : List ℕ) (Q : Sheet) → Words ws → read_jobs left S place ws ≡ Ok Q → Jobs left S ws Q
jobs_encoded zero S place [] Q small e = record { jobs = []; grown = same_sheet (sym e ∙ read_end S place) ∙ sym (with_none S); encoded = refl; all = refl; over = tt }
jobs_encoded zero S place (w ∷ ws) Q small e = refusal_clash (sym (read_extra S place w ws) ∙ e)
jobs_encoded (suc left) S place [] Q small e = refusal_clash (sym (read_missing left S place) ∙ e)
jobs_encoded (suc left) S place (w ∷ ws) Q small e =
    let job = job_in (payload w) in
    let t = taken (job_misfit S.heads (kind w) (payload w)) place (read_jobs left (with_job S job) (place + 1) ws) Q (sym (read_next left S place w ws) ∙ e) in
    let later = jobs_encoded left (with_job S job) (place + 1) ws Q small.1 t.1 in
    record {
      jobs = job ∷ later.jobs;
      grown = later.grown ∙ with_more S job later.jobs;
      encoded = ap₂ (λ v vs. v ∷ vs) (job_back S.heads w small.0 t.0) later.encoded;
      all = ap suc later.all;
      over = (job_over S.heads w small.0 t.0, later.over);
    }

pub jobs_taken : (S : Sheet) (place : ℕ) (js : List Job) → S.heads ≤ max_heads → AllByRecursion (JobOver S.heads) js → read_jobs (length js) S place (map job_word js) ≡ Ok (with_jobs S js)
jobs_taken S place [] few over = read_end S place ∙ ap Ok (sym (with_none S))
jobs_taken S place (job ∷ js) few over =
    let ws = map job_word js in
    read_next (length js) S place (job_word job) ws
    ∙ ap₂ (λ m (j : Job). or_refuse m place (read_jobs (length js) (with_job S j) (place + 1) ws)) (job_taken S.heads job few over.0) (job_read S.heads job few over.0)
    ∙ jobs_taken (with_job S job) (place + 1) js few over.1
    ∙ ap Ok (with_more S job js)

pub taken_encoded : (ws : List ℕ) → Words ws → (S : Sheet) → sheet_of_words ws ≡ Ok S → IsSheet S ws
taken_encoded [] small S e = refusal_clash e
taken_encoded (w ∷ ws) small S e =
    let p = payload w in
    let c = counts_in p in
    let t = taken (opening_misfit (kind w) p) 0 (read_jobs c.jobs (bare c.heads) 1 ws) S e in
    let opening = fits_opening (kind w) p t.0 in
    let jobs = jobs_encoded c.jobs (bare c.heads) 1 ws S small.1 t.1 in
    let whole : p ≡ c.heads * 2 ^ count_bits + length jobs.jobs = omega (arith, opening.short, jobs.all) in
    subst (λ (T : Sheet). IsSheet T (w ∷ ws)) (sym jobs.grown) (record {
      limited = record {
        some_heads = opening.counts.some_heads;
        few_heads = opening.counts.few_heads;
        few_jobs = omega (arith, jobs.all, opening.counts.few_jobs);
      };
      over = jobs.over;
      encoded = ap₂ (λ v vs. v ∷ vs) (word_with w Opening small.0 opening.opening ∙ ap (word Opening) whole) jobs.encoded;
    })

-- the opening word of a sheet fits, and reads as its counts
module _ (S : Sheet) (limited : Limited S) where
  abbrev o : ℕ
  o = S.heads * 2 ^ count_bits + length S.jobs

  o_counts : counts_in o ≡ record { heads = S.heads; jobs = length S.jobs }
  o_counts =
      let heads : o / 2 ^ count_bits % 2 ^ count_bits ≡ S.heads = omega (arith, limited.few_heads, limited.few_jobs) in
      let jobs : o % 2 ^ count_bits ≡ length S.jobs = omega (arith, limited.few_heads, limited.few_jobs) in
      ap₂ (λ h j. record { heads = h; jobs = j }) heads jobs

  o_below : o < 2 ^ (count_bits + count_bits)
  o_below = omega (arith, limited.few_heads, limited.few_jobs)

  pub opening_read : counts_in (payload (opening_word S)) ≡ record { heads = S.heads; jobs = length S.jobs }
  opening_read = ap counts_in (payload_word Opening o (omega (arith, o_below))) ∙ o_counts

  pub opening_taken : opening_misfit (kind (opening_word S)) (payload (opening_word S)) ≡ None
  opening_taken =
      let heads = ap (λ (c : Counts). c.heads) o_counts in
      let jobs = ap (λ (c : Counts). c.jobs) o_counts in
      ap₂ opening_misfit (kind_word Opening o (omega (arith, o_below))) (payload_word Opening o (omega (arith, o_below)))
      ∙ opening_fits o
      (counts_within (counts_in o) (omega (arith, heads, limited.some_heads)) (omega (arith, heads, limited.few_heads)) (omega (arith, jobs, limited.few_jobs)))
      o_below

  -- what follows it is read as that many jobs
  pub opening_then : (ws : List ℕ) → sheet_of_words (opening_word S ∷ ws) ≡ read_jobs (length S.jobs) (bare S.heads) 1 ws
  opening_then ws = ap₂ (λ m (c : Counts). or_refuse m 0 (read_jobs c.jobs (bare c.heads) 1 ws)) opening_taken opening_read

pub encoded_taken : (ws : List ℕ) (S : Sheet) → IsSheet S ws → sheet_of_words ws ≡ Ok S
encoded_taken ws S is =
    ap sheet_of_words is.encoded ∙ opening_then S is.limited (map job_word S.jobs) ∙ jobs_taken (bare S.heads) 1 S.jobs is.limited.few_heads is.over

pub taken_exactly_if_encoded : TakenExactlyIfEncoded
taken_exactly_if_encoded ws small S = (taken_encoded ws small S, encoded_taken ws S)
