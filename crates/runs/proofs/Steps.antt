-- A case that answers each call exactly keeps what stands. Assumes nothing.
use Rattle.std.proofs.Common.{◌≡◌, ℕ, ◌↔◌, List, [], ◌∷◌, ◌++◌, Ok, Err, Option, Result, sym, refl, subst}
use Rattle.base.specs.declared.refusal.Refusal.{Refusal}
use Rattle.sets.specs.Sets.{Atoms}
use Rattle.rules.specs.Program.{Program}
use Rattle.case.specs.Calls.{IsPlan, IsHold, HoldPasses, after_offer, hold_after_offer, hold_after_hold}
use Rattle.runs.specs.Runs.{Call, offer, hold, propose, status, Stands}
use Rattle.runs.specs.Steps.{Change}
use Rattle.runs.proofs.Standing.{stands_offer, stands_hold, stands_quiet}

module _ (P : Program) (calls : List Call) (plan held : Option Atoms) (s : Stands P calls plan held) where
  offer_next : (ws : List ℕ) (x : Result (Unit {0}) Refusal) → (x ≡ Ok tt) ↔ IsPlan P ws → Stands P (calls ++ (offer ws ∷ [])) (after_offer x ws plan) (hold_after_offer x held)
  offer_next ws (Ok done) law = stands_offer P calls plan held ws s (law.0 refl)
  offer_next ws (Err f) law =
      stands_quiet P calls plan held (offer ws) (λ xs e p. let same : xs ≡ ws = cc in let o = law.1 (subst (IsPlan P) same p) in (cc)) (λ xs M e. (cc)) s

  after_hold : (ws : List ℕ) (x : Result (Unit {0}) Refusal) → (x ≡ Ok tt) ↔ HoldPasses P plan ws → Stands P (calls ++ (hold ws ∷ [])) plan (hold_after_hold x ws held)
  after_hold ws (Ok done) law =
      let o = law.0 refl in
      subst (λ p. Stands P (calls ++ (hold ws ∷ [])) p (hold_after_hold (Ok done) ws held)) (sym o.1) (stands_hold P calls o.0 held ws (subst (λ p. Stands P calls p held) o.1 s) o.2)
  after_hold ws (Err f) law =
      stands_quiet P calls plan held (hold ws) (λ xs e. (cc)) (λ xs M e h p. let same : xs ≡ ws = cc in let o = law.1 (M, h, subst (IsHold P M) same p) in (cc)) s

  -- a call that is neither an offer nor a hold
  after_quiet : (c : Call) → ((ws : List ℕ) → ¬ (c ≡ offer ws)) → ((ws : List ℕ) → ¬ (c ≡ hold ws)) → (plan' held' : Option Atoms) → (plan' ≡ plan) × (held' ≡ held) → Stands P (calls ++ (c ∷ [])) plan' held'
  after_quiet c no_offer no_hold plan' held' same =
      subst (λ p. Stands P (calls ++ (c ∷ [])) p held') (sym same.0) (subst (λ h. Stands P (calls ++ (c ∷ [])) plan h) (sym same.1) (stands_quiet P calls plan held c (λ ws e. absurd (no_offer ws e)) (λ ws M e. absurd (no_hold ws e)) s))

  pub stands_next : (c : Call) (plan' held' : Option Atoms) → Change P c plan held plan' held' → Stands P (calls ++ (c ∷ [])) plan' held'
  stands_next (offer ws) plan' held' o =
      subst (λ p. Stands P (calls ++ (offer ws ∷ [])) p held') (sym o.plan_next) (subst (λ h. Stands P (calls ++ (offer ws ∷ [])) (after_offer o.result ws plan) h) (sym o.held_next) (offer_next ws o.result o.law))
  stands_next (hold ws) plan' held' o =
      subst (λ p. Stands P (calls ++ (hold ws ∷ [])) p held') (sym o.plan_next) (subst (λ h. Stands P (calls ++ (hold ws ∷ [])) plan h) (sym o.held_next) (after_hold ws o.result o.law))
  stands_next (propose room) plan' held' same = after_quiet (propose room) (λ xs e. (cc)) (λ xs e. (cc)) plan' held' same
  stands_next (status a) plan' held' same = after_quiet (status a) (λ xs e. (cc)) (λ xs e. (cc)) plan' held' same
