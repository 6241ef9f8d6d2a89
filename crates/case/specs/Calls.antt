-- What each call of a case answers, and what stands after it. Assumes nothing.
use Rattle.std.specs.Prelude.{◌≡◌, ℕ, Bool, cond, ◌⊎◌, ◌↔◌, List, map, Some, None, Ok, Err, Option, Result}
use Rattle.base.specs.Words.{payload, word}
use Rattle.base.specs.Buffers.{WroteInRoom}
use Rattle.base.specs.declared.words.Kind.TheVariants.{TrueNode, FalseNode}
use Rattle.base.specs.declared.refusal.Refusal.{Refusal}
use Rattle.base.specs.declared.refusal.Refusal.TheVariants as refusal
use Rattle.base.specs.declared.refusal.Refusal.TheVariants.{NoPlan, NoSuchAtom}
use Rattle.sets.specs.Sets.{Atoms, In, Least}
use Rattle.rules.specs.Program.{◌∈◌, Program, Rising}
use Rattle.rules.specs.Growing.{names}
use Rattle.lists.specs.Lists.{IsList, list_of_words, among}
use Rattle.lists.specs.Writing.{list_room}
use Rattle.texts.specs.Buffered.{report_room, report}
use Rattle.reducts.specs.Reducts.{negative_reduct}
use Rattle.models.specs.Derives.{Exactly, AnswerSet}
use Rattle.models.specs.Judging.{Judged}
use Rattle.settling.specs.Settling.{SettledTrue, SettledFalse, Unsettled, SettledAs}
use Rattle.settling.specs.Assuming.{PreAssumption, Assumption}

-- the verdict on what words read as: the refusal of the first word at fault, or that of the set of the atoms
abbrev pub Verdict : (Atoms → Result (Unit {0}) Refusal → Type 0) → Result (List ℕ) Refusal → Result (Unit {0}) Refusal → Type 0
Verdict Judges (Ok atoms) r = Judges (among atoms) r
Verdict Judges (Err f) r = r ≡ Err f

-- offer refuses the first word at fault, then judges the plan
abbrev pub Offered : Program → List ℕ → Result (Unit {0}) Refusal → Type 0
Offered P ws r = Verdict (Judged P) (list_of_words P.atoms ws) r

-- the words list a set of which this holds
pub record Lists (n : ℕ) (Holds : Atoms → Type 0) (ws : List ℕ) : Type 0 where
  pub atoms : List ℕ
  pub listed : IsList n atoms ws
  pub holds : Holds (among atoms)

-- the words are those of a plan that is an answer set
abbrev pub IsPlan : Program → List ℕ → Type 0
IsPlan P ws = Lists P.atoms (AnswerSet P) ws

-- the words are those of a hold list that is an assumption with respect to the plan M
abbrev pub IsHold : Program → Atoms → List ℕ → Type 0
IsHold P M ws = Lists P.atoms (Assumption P M) ws

-- A passes as an assumption, or the smallest atom is told that is no pre-assumption, or, if there is none, the smallest that is not settled as M has it
abbrev pub Assumed : Program → Atoms → Atoms → Result (Unit {0}) Refusal → Type 0
Assumed P M A (Ok done) = Assumption P M A
Assumed P M A (Err (refusal.NotPreAssumption a)) = Least (λ b. In A b × (¬ PreAssumption P M b)) a
Assumed P M A (Err (refusal.NotSettled a)) = ((b : ℕ) → In A b → PreAssumption P M b) × Least (λ b. ¬ SettledAs (negative_reduct P A) M b) a
Assumed P M A (Err (refusal.RuleNotSatisfied i)) = ⊥
Assumed P M A (Err (refusal.NotDerived a)) = ⊥
Assumed P M A (Err (refusal.NoForm place)) = ⊥
Assumed P M A (Err (refusal.OutOfRange place)) = ⊥
Assumed P M A (Err (refusal.NotRising place)) = ⊥
Assumed P M A (Err (refusal.PastLimit place)) = ⊥
Assumed P M A (Err refusal.NoPlan) = ⊥
Assumed P M A (Err refusal.NoHoldList) = ⊥
Assumed P M A (Err (refusal.NoSuchAtom atom)) = ⊥
Assumed P M A (Err (refusal.BufferTooShort needed)) = ⊥
Assumed P M A (Err refusal.WrongRoot) = ⊥
Assumed P M A (Err (refusal.WrongNode place)) = ⊥
Assumed P M A (Err (refusal.Unsupported place)) = ⊥
Assumed P M A (Err (refusal.Unreached place)) = ⊥
Assumed P M A (Err (refusal.Circular place)) = ⊥

-- hold needs a plan, refuses the first word at fault, then judges the hold list
abbrev pub Held : Program → Option Atoms → List ℕ → Result (Unit {0}) Refusal → Type 0
Held P None ws r = r ≡ Err refusal.NoPlan
Held P (Some M) ws r = Verdict (Assumed P M) (list_of_words P.atoms ws) r

-- hold passes exactly the words of an assumption with respect to the standing plan
abbrev pub HoldPasses : Program → Option Atoms → List ℕ → Type 0
HoldPasses P plan ws = (M : Atoms) × (plan ≡ Some M) × IsHold P M ws

-- a passed plan stands, a refused one leaves what stood
abbrev pub after_offer : Result (Unit {0}) Refusal → List ℕ → Option Atoms → Option Atoms
after_offer (Ok done) ws before = Some (among (map payload ws))
after_offer (Err f) ws before = before

-- a passed plan strikes off any hold list
abbrev pub hold_after_offer : Result (Unit {0}) Refusal → Option Atoms → Option Atoms
hold_after_offer (Ok done) before = None
hold_after_offer (Err f) before = before

-- a passed hold list replaces the one before
abbrev pub hold_after_hold : Result (Unit {0}) Refusal → List ℕ → Option Atoms → Option Atoms
hold_after_hold (Ok done) ws before = Some (among (map payload ws))
hold_after_hold (Err f) ws before = before

-- the words of all pre-assumptions, rising
pub record Proposal (P : Program) (M : Atoms) (ws : List ℕ) : Type 0 where
  pub atoms : List ℕ
  pub listed : IsList P.atoms atoms ws
  pub exact : (a : ℕ) → (a ∈ atoms) ↔ PreAssumption P M a

-- propose needs a plan and then room, and writes all pre-assumptions
abbrev pub Proposed : Program → Option Atoms → List ℕ → Result ℕ Refusal → List ℕ → Type 0
Proposed P None old r new = (r ≡ Err refusal.NoPlan) × (new ≡ old)
Proposed P (Some M) old r new = (ws : List ℕ) × Proposal P M ws × WroteInRoom list_room ws old r new

-- a true node word for an atom of the set, and a false one for any other
abbrev pub node_word : Atoms → ℕ → ℕ
node_word trues a = word (cond (trues a) TrueNode FalseNode) a

-- the words of all settled atoms from 1 to n, rising by atom, each with its status
pub record SettledWords (P : Program) (ws : List ℕ) : Type 0 where
  pub atoms : List ℕ
  pub rising : Rising 0 P.atoms atoms
  pub exact : (a : ℕ) → In (names P.atoms) a → (a ∈ atoms) ↔ (SettledTrue P a ⊎ SettledFalse P a)
  pub trues : Atoms
  pub true_exact : Exactly trues (SettledTrue P)
  pub encoded : ws ≡ map (node_word trues) atoms

-- settled needs room, and writes what the rules settle
abbrev pub SettledTold : Program → List ℕ → Result ℕ Refusal → List ℕ → Type 0
SettledTold P old r new = (ws : List ℕ) × SettledWords P ws × WroteInRoom list_room ws old r new

-- status tells whether an atom of the rules is in the plan
abbrev pub status_answer : ℕ → Option Atoms → ℕ → Result Bool Refusal
status_answer n None a = Err NoPlan
status_answer n (Some plan) a = cond (names n a) (Ok (plan a)) (Err (NoSuchAtom a))

-- report needs a hold list and then room, and writes the plan's atoms with their signs and letters
abbrev pub Reported : Program → Option Atoms → Option Atoms → List ℕ → Result ℕ Refusal → List ℕ → Type 0
Reported P plan None old r new = (r ≡ Err refusal.NoHoldList) × (new ≡ old)
Reported P None (Some A) old r new = ⊥
Reported P (Some M) (Some A) old r new = (unsettled : Atoms) × Exactly unsettled (Unsettled P) × WroteInRoom report_room (report P.atoms M A unsettled) old r new
