-- All pre-assumptions together are an assumption. Assumes nothing.
use Rattle.std.proofs.Common.{◌≡◌, ℕ, zero, suc, ◌⊎◌, List, [], ◌∷◌, length, sym, refl, ap, subst, inl, inr, ⊎_elim, arith}
use Rattle.std.proofs.lemmas.Bool.{cases_Bool, not_from_false, not-true, both_ways}
use Rattle.sets.specs.Sets.{Atoms, In}
use Rattle.rules.specs.Program.{◌∈◌, Rule, Program}
use Rattle.reducts.specs.Reducts.{head_outside, negative_reduct}
use Rattle.models.specs.Derives.{Exactly, AnswerSet}
use Rattle.models.proofs.Lists.{in_kept, kept_in}
use Rattle.settling.specs.Settling.{T, U}
use Rattle.settling.specs.Assuming.{PreAssumption, Assumption}
use Rattle.settling.specs.Laws.{AllPreAssumptionsAreAnAssumption}
use Rattle.models.proofs.Finding.{find, less}
use Rattle.models.proofs.Deriving.{shift, antitone, last, derives?}
use Rattle.settling.proofs.Stages.{grows, T_most, U_least}

module _ (P : Program) where
  unfoldable pub T? : (k a : ℕ) → Dec (T P k a)
  T? zero a = no (λ t. t)
  T? (suc k) a = derives? P (U P k) (derives? P (T P k) (T? k)) a

  -- R: the heads that are not in T(k) yet
  stops : (R : List ℕ) (k : ℕ) → ((r : Rule) → r ∈ P.rules → (r.head ∈ R) ⊎ T P k r.head) → ((a : ℕ) → a ∈ R → ¬ T P (suc k) a) → (K : ℕ) × ((a : ℕ) → T P (suc K) a → T P K a)
  stops R k cover none = (k, λ a t. let o = last P (U P k) t in ⊎_elim (λ h. absurd (none a (subst (λ x. x ∈ R) o.2 h) t)) (λ h. subst (T P k) o.2 h) (cover o.0 o.1))

  chase : (n : ℕ) (R : List ℕ) (k : ℕ) → length R ≡ n → ((r : Rule) → r ∈ P.rules → (r.head ∈ R) ⊎ T P k r.head) → (K : ℕ) × ((a : ℕ) → T P (suc K) a → T P K a)
  chase zero R k e cover = ⊎_elim (stops R k cover) (λ f. let l = less f.0 R f.1 in let s = l.shorter in absurd (omega arith)) (find (T P (suc k)) (T? (suc k)) R)
  chase (suc n) R k e cover =
      ⊎_elim (stops R k cover) (λ f.
      let l = less f.0 R f.1 in
      let s = l.shorter in
      chase n l.rest (suc k) (omega arith) (λ r m. ⊎_elim (λ h. ⊎_elim (λ e. inr (subst (T P (suc k)) (sym e) f.2)) inl (l.split r.head h)) (λ t. inr (grows P k r.head t)) (cover r m)))
      (find (T P (suc k)) (T? (suc k)) R)

  heads : List Rule → List ℕ
  heads [] = []
  heads (r ∷ rs) = r.head ∷ heads rs

  in_heads : (r : Rule) (rs : List Rule) → r ∈ rs → r.head ∈ heads rs
  unfolding heads
  in_heads r [] m = m
  in_heads r (q ∷ rs) (inl e) = inl (ap (λ x. x.head) e)
  in_heads r (q ∷ rs) (inr m) = inr (in_heads r rs m)

  -- a stage at which T stops growing
  stage : (K : ℕ) × ((a : ℕ) → T P (suc K) a → T P K a)
  stage = chase (length (heads P.rules)) (heads P.rules) 0 refl (λ r m. inl (in_heads r P.rules m))

  pub K : ℕ
  K = stage.0

  pub T_all : (k a : ℕ) → T P k a → T P K a
  unfolding K
  T_all k a t = T_most P stage.0 stage.1 k a t

  pub U_all : (k a : ℕ) → U P K a → U P k a
  unfolding K
  U_all k a u = U_least P stage.0 stage.1 k a u

-- an answer set holds every T
pub T_in : (P : Program) (M : Atoms) → AnswerSet P M → (k a : ℕ) → T P k a → In M a
T_in P M ans zero a t = absurd t
T_in P M ans (suc k) a t = (ans a).1 (antitone P (U P k) (In M) (λ b m. antitone P (In M) (T P k) (T_in P M ans k) ((ans b).0 m)) t)

-- a rule whose head is not struck stays
pub stays : (P : Program) (A : Atoms) (r : Rule) → r ∈ P.rules → ¬ In A r.head → r ∈ (negative_reduct P A).rules
stays P A r m n = in_kept (head_outside A) r P.rules m (⊎_elim (λ t. absurd (n t)) (λ f. not_from_false (A r.head) f) (cases_Bool (A r.head)))

pub came : (P : Program) (A : Atoms) (r : Rule) → r ∈ (negative_reduct P A).rules → r ∈ P.rules
came P A r m = (kept_in (head_outside A) r P.rules m).0

pub gone : (P : Program) (A : Atoms) (r : Rule) → r ∈ (negative_reduct P A).rules → ¬ In A r.head
gone P A r m h = both_ways (A r.head) (not-true (A r.head) (kept_in (head_outside A) r P.rules m).1) h

module _ (P : Program) (M A : Atoms) (ans : AnswerSet P M) (exact : Exactly A (PreAssumption P M)) where
  abbrev S : Program
  S = negative_reduct P A

  upper_from : (k : ℕ) → ((a : ℕ) → T P k a → T S k a) → (a : ℕ) → U S k a → U P k a
  upper_from k low a u = shift S P (T S k) (T P k) (λ r m n d. (came P A r m, λ b h t. n b h (low b t))) u

  lower : (k a : ℕ) → T P k a → T S k a
  lower zero a t = absurd t
  lower (suc k) a t = shift P S (U P k) (U S k) (λ r m n d. (stays P A r m (λ h. ((exact r.head).0 h).assumable.unsettled.0 (suc k, d)), λ b h u. n b h (upper_from k (lower k) b u))) t

  -- a negative atom outside M is impossible in the struck program
  impossible : (r : Rule) (b : ℕ) → r ∈ P.rules → b ∈ r.neg → ¬ In M b → ¬ U S (K P) b
  impossible r b m h out u =
      let p : PreAssumption P M b = record {
        assumable = record { negative = (r, m, h); unsettled = ((λ t. out (T_in P M ans t.0 b t.1)), λ f. f.1 (U_all P f.0 b (upper_from (K P) (lower (K P)) b u))) };
        outside = out;
      } in
      let o = last S (T S (K P)) u in
      gone P A o.0 o.1 (subst (In A) (sym o.2) ((exact b).1 p))

  M_in_T : (a : ℕ) → In M a → T S (suc (K P)) a
  M_in_T a m = shift P S (In M) (U S (K P)) (λ r i n d. (stays P A r i (λ h. ((exact r.head).0 h).outside ((ans r.head).1 d)), λ b h. impossible r b i h (n b h))) ((ans a).0 m)

  U_in_M : (a : ℕ) → U S (suc (K P)) a → In M a
  U_in_M a u = (ans a).1 (shift S P (T S (suc (K P))) (In M) (λ r i n d. (came P A r i, λ b h m. n b h (M_in_T b m))) u)

  all_assumed : Assumption P M A
  all_assumed = record { pre = λ a h. (exact a).0 h; settles = λ a. record { inside = λ m. (suc (K P), M_in_T a m); outside = λ n. (suc (K P), λ u. n (U_in_M a u)) } }

pub all_pre_assumptions : AllPreAssumptionsAreAnAssumption
all_pre_assumptions P M A ans exact = all_assumed P M A ans exact
