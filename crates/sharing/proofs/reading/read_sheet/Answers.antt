-- The opening word, each job word, and the end of the words.
use Rattle.std.proofs.Common.{◌≡◌, ◌<◌, ◌+◌, ◌-◌, ◌∷◌, length, get_or, drop, None, sym, ap, ◌∙◌, arith, rules}
use Rattle.std.proofs.lemmas.Grind.{common_steps}
use Rattle.std.proofs.lemmas.List.{length_push}
use Rattle.base.specs.Words.{kind, payload}
use Rattle.base.specs.declared.misfit.Misfit.{Misfit}
use Rattle.sharing.specs.Sheets.{Sheet, sheet_of}
use Rattle.sharing.specs.Encoding.{counts_in, opening_misfit, job_in, job_misfit, bare, read_jobs, sheet_of_words}
use Rattle.sharing.specs.declared.reading.Counts.{Counts}
use Rattle.sharing.proofs.Misfits.{fits_opening}
use Rattle.sharing.proofs.Stepwise.{opening_taken, job_taken, job_refused, job_missing, jobs_end, jobs_extra}
use Rattle.sharing.proofs.reading.read_sheet.Goals as goal

pub loop-index-init : goal.loop-index-init
loop-index-init c =
    let w = c.in-Some.first.now in
    let counts = c.in_ok-counts.counts in
    let fits : (opening_misfit (kind w) (payload w) ≡ None) × (counts ≡ counts_in (payload w)) = grind (arith, common_steps) in
    let whole : c.args.words.now ≡ w ∷ c.in-Some.rest.now = search rules in
    let is : bare counts.heads ≡ sheet_of c.bare-sheet.result = sym c.bare-sheet.ensures in
    record {
      reads = ap sheet_of_words whole ∙ opening_taken w c.in-Some.rest.now counts fits.0 fits.1 ∙ ap (λ (S : Sheet). read_jobs (counts.jobs - 0) S 1 c.in-Some.rest.now) is;
      heads = ap (λ (S : Sheet). S.heads) (sym is);
      jobs = ap (λ (S : Sheet). length S.jobs) (sym is);
      inside = omega arith;
      few = omega (arith, (fits_opening (kind w) (payload w) fits.0).counts.few_jobs, ap (λ (k : Counts). k.jobs) fits.1);
    }

pub returns-then-index-counts : goal.returns-then-index-counts
returns-then-index-counts c =
    c.loop-index.invariant.reads ∙ jobs_extra c.in_ok-counts.counts.jobs (sheet_of c.loop-index.sheet) c.in-Some.rest.now c.loop-index.index c.loop-index-test.true (omega arith)

pub returns-in_err-map_err : goal.returns-in_err-map_err
returns-in_err-map_err c =
    let counted : c.loop-index.index < c.in_ok-counts.counts.jobs = omega arith in
    let inv = c.loop-index.invariant in
    let now = λ (m : Misfit). job_refused c.in_ok-counts.counts.jobs (sheet_of c.loop-index.sheet) c.in-Some.rest.now c.loop-index.index c.loop-index-test.true m counted in
    grind (arith, common_steps, now)

pub loop-index-preserved : goal.loop-index-preserved
loop-index-preserved c =
    let S = sheet_of c.loop-index.sheet in
    let job = c.in_ok-map_err.field-0 in
    let w = get_or c.in-Some.rest.now c.loop-index.index 0 in
    let fits : (job_misfit S.heads (kind w) (payload w) ≡ None) × (job ≡ job_in (payload w)) = grind (arith, common_steps) in
    record {
      reads = c.loop-index.invariant.reads ∙ job_taken c.in_ok-counts.counts.jobs S c.in-Some.rest.now c.loop-index.index c.loop-index-test.true job (omega arith) fits.0 fits.1
          ∙ ap (λ (T : Sheet). read_jobs (c.in_ok-counts.counts.jobs - (c.loop-index.index + 1)) T (c.loop-index.index + 1 + 1) (drop (c.loop-index.index + 1) c.in-Some.rest.now)) (sym c.add.ensures);
      heads = ap (λ (T : Sheet). T.heads) c.add.ensures ∙ c.loop-index.invariant.heads;
      jobs = omega (arith, ap (λ (T : Sheet). length T.jobs) c.add.ensures, length_push S.jobs job, c.loop-index.invariant.jobs);
      inside = omega arith;
      few = c.loop-index.invariant.few;
    }

pub returns-then-rest-counts : goal.returns-then-rest-counts
returns-then-rest-counts c =
    let missing = job_missing c.in_ok-counts.counts.jobs (sheet_of c.loop-index.sheet) c.in-Some.rest.now c.loop-index.index (omega arith) (omega arith) in
    grind (arith, common_steps)

pub returns : goal.returns
returns c =
    c.loop-index.invariant.reads ∙ jobs_end c.in_ok-counts.counts.jobs (sheet_of c.loop-index.sheet) c.in-Some.rest.now c.loop-index.index (omega arith) (omega arith)
