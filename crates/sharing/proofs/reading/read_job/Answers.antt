-- The bits above the heads decide.
use Rattle.std.proofs.Common.{◌≡◌, ◌/◌, ◌^◌, ◌<◌, ◌≤◌, sym, ap, ◌∙◌, subst, ap₂, rules, arith}
use Rattle.std.proofs.lemmas.Nat.{and_mask}
use Rattle.base.specs.Words.{kind, payload}
use Rattle.base.specs.declared.words.Kind.TheVariants.{Member}
use Rattle.sharing.specs.Limits.{max_heads}
use Rattle.sharing.specs.Encoding.{job_in, job_misfit}
use Rattle.sharing.proofs.Misfits.{shifted_out, shifted_in, job_fits, job_outside}
use Rattle.sharing.proofs.reading.read_job.Goals as goal

pub returns-then-job-heads-gt0 : goal.returns-then-job-heads-gt0
returns-then-job-heads-gt0 c =
    let H = c.args.heads in
    let p = c.from.result.payload in
    let member : kind c.args.word ≡ Member = search rules in
    let whole : payload c.args.word ≡ p = search rules in
    let above = subst (λ x. 0 < x / 2 ^ H) (and_mask p max_heads) c.if-job-heads-gt0.true in
    ap₂ (job_misfit H) member whole ∙ job_outside H p (omega arith) (shifted_in (job_in p).heads H above)

pub returns : goal.returns
returns c =
    let H = c.args.heads in
    let p = c.from.result.payload in
    let member : kind c.args.word ≡ Member = search rules in
    let whole : p ≡ payload c.args.word = search rules in
    let above = subst (λ x. x / 2 ^ H ≤ 0) (and_mask p max_heads) c.if-job-heads-gt0.false in (
      ap₂ (job_misfit H) member (sym whole) ∙ job_fits H p (omega arith) (shifted_out (job_in p).heads H above),
      ap (λ x. record { heads = x; ink = p / 2 ^ max_heads }) (and_mask p max_heads) ∙ ap job_in whole,
    )
