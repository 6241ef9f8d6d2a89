-- What is told of a plan and a hold list that are refused. Assumes nothing.
use Rattle.std.proofs.Common.{◌≡◌, ℕ, false, List, Ok, Err, Option, Result, refl, ap, subst, subst₂}
use Rattle.base.specs.declared.refusal.Refusal.{Refusal}
use Rattle.sets.specs.Sets.{Atoms}
use Rattle.rules.specs.Program.{Program}
use Rattle.case.specs.Calls.{Offered}
use Rattle.texts.specs.Texts.{refusal_line}
use Rattle.console.specs.Printouts.{ToldRules}
use Rattle.console.specs.Passing.{Passing, PassingPlan}

module _ (P : Program) (ps hs : List ℕ) (plan held : Option Atoms) (f : Refusal) where
  told_refused : Passing P ps hs (Err f) plan held → ToldRules P ps hs false (refusal_line f)
  told_refused p = go p.0 p.1 p.2
    where
      go : (x : Result (Unit {0}) Refusal) → Offered P ps x → PassingPlan P ps hs x (Err f) plan held → ToldRules P ps hs false (refusal_line f)
      go (Ok done) offered h = (Ok tt, offered, (Err f, h.answer, record { fails = refl; told = refl }))
      go (Err g) offered h = (Err g, offered, (let same : f ≡ g = cc in record { fails = refl; told = ap refusal_line same }))

  -- the same by the rules and the words that the calls were made with
  pub refused_told : (Q : Program) (xs ys : List ℕ) → Q ≡ P → xs ≡ ps → ys ≡ hs → Passing Q xs ys (Err f) plan held → ToldRules P ps hs false (refusal_line f)
  refused_told Q xs ys rules is_plan is_hold p =
      told_refused (subst (λ (X : Program). Passing X ps hs (Err f) plan held) rules (subst₂ (λ (x y : List ℕ). Passing Q x y (Err f) plan held) is_plan is_hold p))
