-- What stands after one call more. Assumes nothing.
use Rattle.std.proofs.Common.{◌≡◌, ℕ, ◌⊎◌, List, [], ◌∷◌, ◌++◌, length, Some, None, Option, sym, refl, ap, ◌∙◌, subst, inl, inr, ⊎_elim, arith}
use Rattle.std.proofs.lemmas.List.{append_assoc, length-append}
use Rattle.sets.specs.Sets.{Atoms}
use Rattle.rules.specs.Program.{◌∈◌, Program}
use Rattle.case.specs.Calls.{IsPlan, IsHold}
use Rattle.runs.specs.Runs.{Call, offer, hold, listed, PlanStands, HoldStands, Stands}
use Rattle.runs.proofs.Points.{in_push, in_last, in_front, last_split}

-- a call that is no passed offer and no passed hold changes nothing
pub plan_stays : (P : Program) (calls : List Call) (M : Atoms) (c : Call) → ((ws : List ℕ) → offer ws ≡ c → ¬ IsPlan P ws) → PlanStands P calls M → PlanStands P (calls ++ (c ∷ [])) M
plan_stays P calls M c quiet s = record {
  before = s.before;
  words = s.words;
  after = s.after ++ (c ∷ []);
  split = ap (λ xs. xs ++ (c ∷ [])) s.split ∙ append_assoc s.before (offer s.words ∷ s.after) (c ∷ []);
  passes = s.passes;
  is = s.is;
  last = λ ws m. ⊎_elim (s.last ws) (quiet ws) (in_push (offer ws) s.after c m);
}

pub hold_stays : (P : Program) (calls : List Call) (M A : Atoms) (c : Call) → ((ws : List ℕ) → offer ws ≡ c → ¬ IsPlan P ws) → ((ws : List ℕ) → hold ws ≡ c → ¬ IsHold P M ws) → HoldStands P calls M A → HoldStands P (calls ++ (c ∷ [])) M A
hold_stays P calls M A c quiet quiet' s = record {
  before = s.before;
  words = s.words;
  after = s.after ++ (c ∷ []);
  split = ap (λ xs. xs ++ (c ∷ [])) s.split ∙ append_assoc s.before (hold s.words ∷ s.after) (c ∷ []);
  plan = s.plan;
  passes = s.passes;
  is = s.is;
  last_offer = λ ws m. ⊎_elim (s.last_offer ws) (quiet ws) (in_push (offer ws) s.after c m);
  last_hold = λ ws m. ⊎_elim (s.last_hold ws) (quiet' ws) (in_push (hold ws) s.after c m);
}

module _ (P : Program) (calls : List Call) (c : Call) where
  -- the last call is the offer that stands, or the plan stood before it
  plan_back : (M : Atoms) → PlanStands P (calls ++ (c ∷ [])) M → ((ws : List ℕ) × (c ≡ offer ws) × IsPlan P ws × (M ≡ listed ws)) ⊎ (PlanStands P calls M × ((ws : List ℕ) → c ≡ offer ws → ¬ IsPlan P ws))
  plan_back M s =
      ⊎_elim (λ o. inl (s.words, o.0, s.passes, s.is))
      (λ o. inr (
        record {
          before = s.before;
          words = s.words;
          after = o.0;
          split = o.2;
          passes = s.passes;
          is = s.is;
          last = λ ws m. s.last ws (subst (λ xs. offer ws ∈ xs) (sym o.1) (in_front o.0 (offer ws) c m));
        },
        λ ws e. s.last ws (subst (λ xs. offer ws ∈ xs) (sym o.1) (subst (λ x. x ∈ (o.0 ++ (c ∷ []))) e (in_last o.0 c))),
      ))
      (last_split calls c s.before (offer s.words) s.after s.split)

  hold_back : (M A : Atoms) → HoldStands P (calls ++ (c ∷ [])) M A → ((ws : List ℕ) × (c ≡ hold ws) × PlanStands P calls M × IsHold P M ws × (A ≡ listed ws)) ⊎ (HoldStands P calls M A × ((ws : List ℕ) → c ≡ offer ws → ¬ IsPlan P ws) × ((ws : List ℕ) → c ≡ hold ws → ¬ IsHold P M ws))
  hold_back M A s =
      ⊎_elim (λ o. inl (s.words, o.0, subst (λ xs. PlanStands P xs M) (sym o.1) s.plan, s.passes, s.is))
      (λ o. inr (
        record {
          before = s.before;
          words = s.words;
          after = o.0;
          split = o.2;
          plan = s.plan;
          passes = s.passes;
          is = s.is;
          last_offer = λ ws m. s.last_offer ws (subst (λ xs. offer ws ∈ xs) (sym o.1) (in_front o.0 (offer ws) c m));
          last_hold = λ ws m. s.last_hold ws (subst (λ xs. hold ws ∈ xs) (sym o.1) (in_front o.0 (hold ws) c m));
        },
        λ ws e. s.last_offer ws (subst (λ xs. offer ws ∈ xs) (sym o.1) (subst (λ x. x ∈ (o.0 ++ (c ∷ []))) e (in_last o.0 c))),
        λ ws e. s.last_hold ws (subst (λ xs. hold ws ∈ xs) (sym o.1) (subst (λ x. x ∈ (o.0 ++ (c ∷ []))) e (in_last o.0 c))),
      ))
      (last_split calls c s.before (hold s.words) s.after s.split)

pub stands_new : (P : Program) → Stands P [] None None
stands_new P = record {
  plan_is = λ M. (λ s. let n = ap length s.split in absurd (omega (arith, length-append s.before (offer s.words ∷ s.after))), λ e. (cc));
  hold_is = λ M A. (λ s. let n = ap length s.split in absurd (omega (arith, length-append s.before (hold s.words ∷ s.after))), λ e. let h = e.0 in (cc));
}

pub stands_offer : (P : Program) (calls : List Call) (plan held : Option Atoms) (ws : List ℕ) → Stands P calls plan held → IsPlan P ws → Stands P (calls ++ (offer ws ∷ [])) (Some (listed ws)) None
stands_offer P calls plan held ws t p = record {
  plan_is = λ M. (
    λ s. ⊎_elim (λ o. let e = o.1 in let i = o.3 in let same : ws ≡ o.0 = cc in ap Some (ap listed same ∙ sym i)) (λ o. absurd (o.1 ws refl p)) (plan_back P calls (offer ws) M s),
    λ e. record { before = calls; words = ws; after = []; split = refl; passes = p; is = (cc); last = λ _ m. absurd m },
  );
  hold_is = λ M A. (
    λ s. ⊎_elim (λ o. let e = o.1 in (cc)) (λ o. absurd (o.1 ws refl p)) (hold_back P calls (offer ws) M A s),
    λ e. let h = e.1 in (cc),
  );
}

pub stands_hold : (P : Program) (calls : List Call) (M : Atoms) (held : Option Atoms) (ws : List ℕ) → Stands P calls (Some M) held → IsHold P M ws → Stands P (calls ++ (hold ws ∷ [])) (Some M) (Some (listed ws))
stands_hold P calls M held ws t p = record {
  plan_is = λ N. (
    λ s. ⊎_elim (λ o. let e = o.1 in (cc)) (λ o. (t.plan_is N).0 o.0) (plan_back P calls (hold ws) N s),
    λ e. plan_stays P calls N (hold ws) (λ xs h _. (cc)) ((t.plan_is N).1 e),
  );
  hold_is = λ N A. (
    λ s. ⊎_elim (λ o. let e = o.1 in let i = o.4 in let same : ws ≡ o.0 = cc in ((t.plan_is N).0 o.2, ap Some (ap listed same ∙ sym i)))
        (λ o. let e = ((t.hold_is N A).0 o.0).0 in let same : M ≡ N = cc in absurd (o.2 ws refl (subst (λ m. IsHold P m ws) same p)))
        (hold_back P calls (hold ws) N A s),
    λ e. let h = e.0 in let k = e.1 in let same : M ≡ N = cc in record { before = calls; words = ws; after = []; split = refl; plan = (t.plan_is N).1 h; passes = subst (λ m. IsHold P m ws) same p; is = (cc); last_offer = λ _ m. absurd m; last_hold = λ _ m. absurd m },
  );
}

-- any call that is no passed offer and no passed hold
pub stands_quiet : (P : Program) (calls : List Call) (plan held : Option Atoms) (c : Call) → ((ws : List ℕ) → c ≡ offer ws → ¬ IsPlan P ws) → ((ws : List ℕ) (M : Atoms) → c ≡ hold ws → plan ≡ Some M → ¬ IsHold P M ws) → Stands P calls plan held → Stands P (calls ++ (c ∷ [])) plan held
stands_quiet P calls plan held c no_offer no_hold t = record {
  plan_is = λ M. (
    λ s. ⊎_elim (λ o. absurd (no_offer o.0 o.1 o.2)) (λ o. (t.plan_is M).0 o.0) (plan_back P calls c M s),
    λ e. plan_stays P calls M c (λ ws h. no_offer ws (sym h)) ((t.plan_is M).1 e),
  );
  hold_is = λ M A. (
    λ s. ⊎_elim (λ o. absurd (no_hold o.0 M o.1 ((t.plan_is M).0 o.2) o.3)) (λ o. (t.hold_is M A).0 o.0) (hold_back P calls c M A s),
    λ e. hold_stays P calls M A c (λ ws h. no_offer ws (sym h)) (λ ws h. no_hold ws M (sym h) e.0) ((t.hold_is M A).1 e),
  );
}
