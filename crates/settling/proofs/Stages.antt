-- The stages of the alternating fixpoint. Assumes nothing.
use Rattle.std.proofs.Common.{◌≡◌, ℕ, zero, suc, Bool, true, false, not, ◌&&◌, ◌↔◌, sym, refl, ◌∙◌, ⊎_elim}
use Rattle.std.proofs.lemmas.Bool.{cases_Bool, false≢true, not-true, not_from_false, and_parts, and_from, both_ways}
use Rattle.sets.specs.Sets.{Atoms, In}
use Rattle.rules.specs.Program.{Program}
use Rattle.models.specs.Derives.{Derives, Exactly}
use Rattle.settling.specs.Settling.{T, U, SettledTrue, SettledFalse, Unsettled}
use Rattle.models.proofs.Deriving.{antitone}

module _ (P : Program) where
  -- deriving twice grows with its set
  pub twice : (X Y : ℕ → Type 0) → ((a : ℕ) → X a → Y a) → (a : ℕ) → Derives P (Derives P X) a → Derives P (Derives P Y) a
  twice X Y s a d = antitone P (Derives P X) (Derives P Y) (λ b y. antitone P Y X s y) d

  pub grows : (k a : ℕ) → T P k a → T P (suc k) a
  grows zero a t = absurd t
  grows (suc k) a t = twice (T P k) (T P (suc k)) (grows k) a t

  -- what a stage settles true can be true by it
  pub T_in_U : (k a : ℕ) → T P k a → U P k a
  T_in_U zero a t = absurd t
  T_in_U (suc k) a t = antitone P (U P k) (T P (suc k)) (λ b h. antitone P (U P k) (T P k) (T_in_U k) h) t

  -- a stage at which T stops growing has all that is settled
  module _ (k : ℕ) (stop : (a : ℕ) → T P (suc k) a → T P k a) where
    pub T_most : (j a : ℕ) → T P j a → T P k a
    T_most zero a t = absurd t
    T_most (suc j) a t = stop a (twice (T P j) (T P k) (T_most j) a t)

    pub U_least : (j a : ℕ) → U P k a → U P j a
    U_least j a u = antitone P (T P k) (T P j) (T_most j) u

  -- a test that derives from a test for a set derives from the set
  next_stage : (X Z : Atoms) (S : ℕ → Type 0) → Exactly X S → Exactly Z (Derives P (In X)) → Exactly Z (Derives P S)
  next_stage X Z S e f a =
      (λ t. antitone P (In X) S (λ b h. (e b).1 h) ((f a).0 t), λ d. (f a).1 (antitone P S (In X) (λ b h. (e b).0 h) d))

-- three tests for T, U and the T behind it
pub record Staged (P : Program) (low high next : Atoms) : Type 0 where
  pub stage : ℕ
  pub is_low : Exactly low (T P stage)
  pub is_high : Exactly high (U P stage)
  pub is_next : Exactly next (T P (suc stage))

staged : (P : Program) (low high next : Atoms) (k : ℕ) → Exactly low (T P k) → Exactly high (Derives P (In low)) → Exactly next (Derives P (In high)) → Staged P low high next
staged P low high next k is_low h n =
    let is_high = next_stage P low high (T P k) is_low h in
    record { stage = k; is_low = is_low; is_high = is_high; is_next = next_stage P high next (U P k) is_high n }

module _ (P : Program) (low high next : Atoms) where
  pub staged_start : ((a : ℕ) → low a ≡ false) → Exactly high (Derives P (In low)) → Exactly next (Derives P (In high)) → Staged P low high next
  staged_start none h n = staged P low high next 0 (λ a. (λ t. absurd (both_ways (low a) (none a) t), λ t. absurd t)) h n

  pub staged_more : Staged P low high next → (high' next' : Atoms) → Exactly high' (Derives P (In next)) → Exactly next' (Derives P (In high')) → Staged P next high' next'
  staged_more s high' next' h n = staged P next high' next' (suc s.stage) s.is_next h n

  module _ (s : Staged P low high next) where
    pub low_in_next : (a : ℕ) → In low a → In next a
    low_in_next a t = (s.is_next a).1 (grows P s.stage a ((s.is_low a).0 t))

    module _ (covered : (a : ℕ) → In next a → In low a) where
      stop : (a : ℕ) → T P (suc s.stage) a → T P s.stage a
      stop a t = (s.is_low a).0 (covered a ((s.is_next a).1 t))

      pub trues_exact : Exactly low (SettledTrue P)
      trues_exact a = (λ t. (s.stage, (s.is_low a).0 t), λ m. (s.is_low a).1 (T_most P s.stage stop m.0 a m.1))

      -- what is not in U any more is settled false
      false_exact : (a : ℕ) → (high a ≡ false) ↔ SettledFalse P a
      false_exact a = (
        (λ o. (s.stage, λ u. both_ways (high a) o ((s.is_high a).1 u))),
        λ m. ⊎_elim (λ t. absurd (m.1 (U_least P s.stage stop m.0 a ((s.is_high a).0 t)))) (λ o. o) (cases_Bool (high a)),
      )

      low_in_high : (a : ℕ) → In low a → In high a
      low_in_high a t = (s.is_high a).1 (T_in_U P s.stage a ((s.is_low a).0 t))

      module _ (open' : Atoms) (is_open : (a : ℕ) → open' a ≡ (high a && not (low a))) where
        -- in neither test exactly if not in U any more
        neither : (a : ℕ) → (high a ≡ false) ↔ ((not (low a) && not (open' a)) ≡ true)
        neither a = rw (is_open a) (go (low a) (high a) (low_in_high a))
          where
            go : (l h : Bool) → (l ≡ true → h ≡ true) → (h ≡ false) ↔ ((not l && not (h && not l)) ≡ true)
            go true true up = ((λ e. sym e), λ e. sym e)
            go true false up = absurd (false≢true (up refl))
            go false true up = ((λ e. sym e), λ e. sym e)
            go false false up = ((λ e. refl), λ e. refl)

        pub falses_exact : Exactly (λ a. not (low a) && not (open' a)) (SettledFalse P)
        falses_exact a = ((λ t. (false_exact a).0 ((neither a).1 t)), λ m. (neither a).0 ((false_exact a).1 m))

        pub open_exact : Exactly open' (Unsettled P)
        open_exact a = (
          (λ t. let parts = and_parts (high a) (not (low a)) (sym (is_open a) ∙ t) in
              ((λ m. both_ways (low a) (not-true (low a) parts.1) ((trues_exact a).1 m)), λ m. both_ways (high a) ((false_exact a).1 m) parts.0)),
          λ u. is_open a ∙ and_from (high a) (not (low a))
              (⊎_elim (λ t. t) (λ o. absurd (u.1 ((false_exact a).0 o))) (cases_Bool (high a)))
              (⊎_elim (λ t. absurd (u.0 ((trues_exact a).0 t))) (not_from_false (low a)) (cases_Bool (low a))),
        )
