-- The steps of reading a sheet. Assumes nothing.
use Rattle.std.proofs.Common.{◌≡◌, ℕ, suc, ◌+◌, ◌-◌, ◌<◌, ◌≤◌, List, [], ◌∷◌, length, get_or, drop, Some, None, Ok, Err, Result, sym, refl, ap, ◌∙◌, ap₂, arith}
use Rattle.std.proofs.lemmas.List.{at_drop_more, at_drop_all}
use Rattle.base.specs.Words.{kind, payload}
use Rattle.base.specs.Refusals.{refused_at}
use Rattle.base.specs.Loading.{or_refuse}
use Rattle.base.specs.declared.misfit.Misfit.{Misfit}
use Rattle.base.specs.declared.refusal.Refusal.{Refusal}
use Rattle.base.specs.declared.refusal.Refusal.TheVariants as refusal
use Rattle.sharing.specs.Sheets.{Sheet}
use Rattle.sharing.specs.Encoding.{opening_misfit, counts_in, job_in, job_misfit, with_job, bare, read_jobs, sheet_of_words}
use Rattle.sharing.specs.declared.reading.Counts.{Counts}
use Rattle.sharing.specs.declared.sheet.Job.{Job}

pub read_end : (S : Sheet) (place : ℕ) → read_jobs 0 S place [] ≡ Ok S
unfolding read_jobs
read_end S place = refl

pub read_extra : (S : Sheet) (place w : ℕ) (ws : List ℕ) → read_jobs 0 S place (w ∷ ws) ≡ Err (refusal.NoForm place)
unfolding read_jobs
read_extra S place w ws = refl

pub read_missing : (left : ℕ) (S : Sheet) (place : ℕ) → read_jobs (suc left) S place [] ≡ Err (refusal.NoForm place)
unfolding read_jobs
read_missing left S place = refl

pub read_next : (left : ℕ) (S : Sheet) (place w : ℕ) (ws : List ℕ) →
    read_jobs (suc left) S place (w ∷ ws) ≡ or_refuse (job_misfit S.heads (kind w) (payload w)) place (read_jobs left (with_job S (job_in (payload w))) (place + 1) ws)
unfolding read_jobs
read_next left S place w ws =
    let next : suc place ≡ place + 1 = omega arith in
    ap (λ k. or_refuse (job_misfit S.heads (kind w) (payload w)) place (read_jobs left (with_job S (job_in (payload w))) k ws)) next

-- the opening word, and then the others
pub opening_taken : (w : ℕ) (ws : List ℕ) (c : Counts) → opening_misfit (kind w) (payload w) ≡ None → c ≡ counts_in (payload w) →
    sheet_of_words (w ∷ ws) ≡ read_jobs (c.jobs - 0) (bare c.heads) 1 ws
opening_taken w ws c fits is =
    let all : c.jobs ≡ c.jobs - 0 = omega arith in
    ap₂ (λ m (k : Counts). or_refuse m 0 (read_jobs k.jobs (bare k.heads) 1 ws)) fits (sym is) ∙ ap (λ k. read_jobs k (bare c.heads) 1 ws) all

-- the word behind so many jobs, of the J that are counted
module _ (J : ℕ) (S : Sheet) (ws : List ℕ) (i : ℕ) where
  abbrev here : ℕ
  here = get_or ws i 0

  abbrev from : Result Sheet Refusal
  from = read_jobs (J - i) S (i + 1) (drop i ws)

  module _ (inside : i < length ws) where
    step : i < J → from ≡ or_refuse (job_misfit S.heads (kind here) (payload here)) (i + 1) (read_jobs (J - (i + 1)) (with_job S (job_in (payload here))) (i + 1 + 1) (drop (i + 1) ws))
    step counted =
        let left : J - i ≡ suc (J - (i + 1)) = omega arith in
        ap (λ k. read_jobs k S (i + 1) (drop i ws)) left
        ∙ at_drop_more (read_jobs (suc (J - (i + 1))) S (i + 1)) ws i 0 inside
        ∙ read_next (J - (i + 1)) S (i + 1) here (drop (i + 1) ws)

    pub job_taken : (job : Job) → i < J → job_misfit S.heads (kind here) (payload here) ≡ None → job ≡ job_in (payload here) →
        from ≡ read_jobs (J - (i + 1)) (with_job S job) (i + 1 + 1) (drop (i + 1) ws)
    job_taken job counted fits is =
        step counted ∙ ap₂ (λ m j. or_refuse m (i + 1) (read_jobs (J - (i + 1)) (with_job S j) (i + 1 + 1) (drop (i + 1) ws))) fits (sym is)

    pub job_refused : (m : Misfit) → i < J → job_misfit S.heads (kind here) (payload here) ≡ Some m → from ≡ Err (refused_at m (i + 1))
    job_refused m counted unfit =
        step counted ∙ ap (λ x. or_refuse x (i + 1) (read_jobs (J - (i + 1)) (with_job S (job_in (payload here))) (i + 1 + 1) (drop (i + 1) ws))) unfit

    pub jobs_extra : J ≤ i → from ≡ Err (refusal.NoForm (i + 1))
    jobs_extra all =
        let left : J - i ≡ 0 = omega arith in
        ap (λ k. read_jobs k S (i + 1) (drop i ws)) left ∙ at_drop_more (read_jobs 0 S (i + 1)) ws i 0 inside ∙ read_extra S (i + 1) here (drop (i + 1) ws)

  module _ (past : length ws ≤ i) where
    pub job_missing : i < J → from ≡ Err (refusal.NoForm (i + 1))
    job_missing counted =
        let left : J - i ≡ suc (J - (i + 1)) = omega arith in
        ap (λ k. read_jobs k S (i + 1) (drop i ws)) left
        ∙ at_drop_all (read_jobs (suc (J - (i + 1))) S (i + 1)) ws i past
        ∙ read_missing (J - (i + 1)) S (i + 1)

    pub jobs_end : J ≤ i → from ≡ Ok S
    jobs_end all =
        let left : J - i ≡ 0 = omega arith in
        ap (λ k. read_jobs k S (i + 1) (drop i ws)) left ∙ at_drop_all (read_jobs 0 S (i + 1)) ws i past ∙ read_end S (i + 1)
