-- Plans and hold lists as words: member words with strictly rising atoms. Assumes nothing.
use Rattle.std.specs.Prelude.{◌≡◌, ℕ, suc, Bool, false, cond, ◌||◌, List, [], ◌∷◌, map, Some, None, Ok, Err, Option, Result, ◌==◌, nat_le}
use Rattle.sets.specs.Sets.{has}
use Rattle.base.specs.Words.{kind, payload, word}
use Rattle.base.specs.Refusals.{refused_at}
use Rattle.sets.specs.declared.set.AtomSet.{AtomSet}
use Rattle.base.specs.declared.words.Kind.{Kind}
use Rattle.base.specs.declared.words.Kind.TheVariants.{Head, Positive, Negative, Member, TrueNode, FalseNode, Link, Opening}
use Rattle.base.specs.declared.misfit.Misfit.{Misfit}
use Rattle.base.specs.declared.misfit.Misfit.TheVariants.{NoForm, OutOfRange, NotRising}
use Rattle.base.specs.declared.refusal.Refusal.{Refusal}
use Rattle.rules.specs.Program.{Rising}
use Rattle.rules.specs.Growing.{names}

-- the words are member words of rising atoms from 1 to n
pub record IsList (n : ℕ) (atoms ws : List ℕ) : Type 0 where
  pub rising : Rising 0 n atoms
  pub encoded : ws ≡ map (word Member) atoms

-- why a word does not fit in a list over the atoms 1 to n, behind the atom `last`
abbrev pub member_misfit : ℕ → ℕ → Kind → ℕ → Option Misfit
member_misfit n last Member a = cond (names n a) (cond (nat_le a last) (Some NotRising) None) (Some OutOfRange)
member_misfit n last Head a = Some NoForm
member_misfit n last Positive a = Some NoForm
member_misfit n last Negative a = Some NoForm
member_misfit n last TrueNode a = Some NoForm
member_misfit n last FalseNode a = Some NoForm
member_misfit n last Link a = Some NoForm
member_misfit n last Opening a = Some NoForm

-- the atom of a word in front of what follows it, or the refusal of the word at the place
abbrev pub put_or_refuse : Option Misfit → ℕ → ℕ → Result (List ℕ) Refusal → Result (List ℕ) Refusal
put_or_refuse None place a (Ok rest) = Ok (a ∷ rest)
put_or_refuse None place a (Err f) = Err f
put_or_refuse (Some m) place a rest = Err (refused_at m place)

-- the words from a place on, behind the atom `last`
unfoldable pub read_from : ℕ → ℕ → ℕ → List ℕ → Result (List ℕ) Refusal
read_from n last place [] = Ok []
read_from n last place (w ∷ ws) = put_or_refuse (member_misfit n last (kind w) (payload w)) place (payload w) (read_from n (payload w) (suc place) ws)

-- the atoms of a list, or the refusal of the first word at fault
abbrev pub list_of_words : ℕ → List ℕ → Result (List ℕ) Refusal
list_of_words n ws = read_from n 0 0 ws

-- the set of the atoms on a list
abbrev pub among : List ℕ → ℕ → Bool
among [] a = false
among (b ∷ bs) a = a == b || among bs a

-- what a reader answers: the set of the atoms of the list, or its refusal
abbrev pub ListRead : Result (List ℕ) Refusal → Result AtomSet Refusal → Type 0
ListRead read (Ok set) = (atoms : List ℕ) × (read ≡ Ok atoms) × ((a : ℕ) → has set a ≡ among atoms a)
ListRead read (Err f) = read ≡ Err f
