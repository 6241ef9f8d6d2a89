-- Each round is the next stage, and where the first set stops growing all is settled.
use Rattle.std.proofs.Common.{◌≡◌, ℕ, ◌<◌, true, false, is_some, Some, None, Option, sym, ap, ◌∙◌, subst, arith, MatchOption}
use Rattle.std.proofs.lemmas.Bool.{false≢true}
use Rattle.sets.specs.Sets.{has, size, In, Least}
use Rattle.sets.specs.declared.set.AtomSet.{AtomSet}
use Rattle.sets.proofs.Sets.{size_grows, size_most}
use Rattle.settling.proofs.Stages.{Staged, staged_start, staged_more, low_in_next, trues_exact, falses_exact, open_exact}
use Rattle.settling.proofs.settling.settle.Goals as goal

pub loop-round-init : goal.loop-round-init
loop-round-init g c =
    let P = g.S.RuleSource.meaning c.args.source.now in
    let r = c.after-round.result in
    subst (λ (low : AtomSet). Staged P (has low) (has r.high) (has r.next)) (sym c.after-round.ensures.low)
    (staged_start P (has c.new.result) (has r.high) (has r.next) c.new.ensures.none c.after-round.ensures.high c.after-round.ensures.next)

-- what a search for a member that another set lacks found, or that there is none
module _ (s o : AtomSet) where
  abbrev Outside : ℕ → Type 0
  Outside a = In (has s) a × (has o a ≡ false)

  found : (r : Option ℕ) → MatchOption r ((a : ℕ) → In (has s) a → In (has o) a) (Least Outside) → is_some r ≡ true → (a : ℕ) × Outside a
  found None cases t = absurd (false≢true t)
  found (Some a) cases t = (a, cases.0)

  found_none : (r : Option ℕ) → MatchOption r ((a : ℕ) → In (has s) a → In (has o) a) (Least Outside) → is_some r ≡ false → (a : ℕ) → In (has s) a → In (has o) a
  found_none None cases t = cases
  found_none (Some a) cases t = absurd (false≢true (sym t))

pub loop-round-smaller : goal.loop-round-smaller
loop-round-smaller g c =
    let P = g.S.RuleSource.meaning c.args.source.now in
    let r = c.loop-round.round in
    let new = found r.next r.low c.first_outside.result c.first_outside.ensures (sym c.is_some.ensures ∙ c.loop-round-test.true) in
    let up = low_in_next P (has r.low) (has r.high) (has r.next) c.loop-round.invariant in
    let more : size r.low < size r.next = size_grows r.low r.next up new.0 new.1.1 new.1.0 in
    let same : size c.after-round-in-loop-round.result.low ≡ size r.next = ap size c.after-round-in-loop-round.ensures.low in
    omega (arith, size_most r.next)

pub loop-round-preserved : goal.loop-round-preserved
loop-round-preserved g c =
    let P = g.S.RuleSource.meaning c.args.source.now in
    let old = c.loop-round.round in
    let r = c.after-round-in-loop-round.result in
    subst (λ (low : AtomSet). Staged P (has low) (has r.high) (has r.next)) (sym c.after-round-in-loop-round.ensures.low)
    (staged_more P (has old.low) (has old.high) (has old.next) c.loop-round.invariant (has r.high) (has r.next) c.after-round-in-loop-round.ensures.high c.after-round-in-loop-round.ensures.next)

pub returns : goal.returns
returns g c =
    let P = g.S.RuleSource.meaning c.args.source.now in
    let r = c.loop-round.round in
    let covered = found_none r.next r.low c.first_outside.result c.first_outside.ensures (sym c.is_some.ensures ∙ c.loop-round-test.false) in
    let open' = has c.difference.result in
    record {
      trues = trues_exact P (has r.low) (has r.high) (has r.next) c.loop-round.invariant covered;
      falses = falses_exact P (has r.low) (has r.high) (has r.next) c.loop-round.invariant covered open' c.difference.ensures;
      unsettled = open_exact P (has r.low) (has r.high) (has r.next) c.loop-round.invariant covered open' c.difference.ensures;
    }
