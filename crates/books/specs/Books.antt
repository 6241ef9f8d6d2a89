-- Rule books as words: what each word must be in its place, and which program the words mean. Assumes nothing.
use Rattle.std.specs.Prelude.{◌≡◌, ℕ, suc, ◌≤◌, cond, List, [], ◌∷◌, ◌++◌, map, length, Some, None, Ok, Err, Option, Result, nat_le}
use Rattle.std.specs.List.{flat_map}
use Rattle.sets.specs.Limits.{max_atoms}
use Rattle.base.specs.Words.{kind, payload, word}
use Rattle.base.specs.Loading.{or_refuse}
use Rattle.base.specs.declared.words.Kind.{Kind}
use Rattle.base.specs.declared.words.Kind.TheVariants.{Head, Positive, Negative, Member, TrueNode, FalseNode, Link, Opening}
use Rattle.base.specs.declared.misfit.Misfit.{Misfit}
use Rattle.base.specs.declared.misfit.Misfit.TheVariants.{NoForm, PastLimit}
use Rattle.base.specs.declared.refusal.Refusal.{Refusal}
use Rattle.base.specs.declared.refusal.Refusal.TheVariants as refusal
use Rattle.base.specs.declared.loading.LoadError.{LoadError}
use Rattle.base.specs.declared.loading.LoadError.TheVariants as load_error
use Rattle.base.specs.Refusals.{refused_at}
use Rattle.rules.specs.declared.rejection.Rejection.{Rejection}
use Rattle.rules.specs.declared.rejection.Rejection.TheVariants as rejection
use Rattle.rules.specs.Program.{Rule, Program, Within}
use Rattle.rules.specs.Asked.{plus, minus}
use Rattle.rules.specs.Growing.{with_rule, with_literal, rule_misfit, literal_misfit, cause_if}
use Rattle.books.specs.Limits.{max_words}

-- a rule as words: its head, its positive atoms, its negative atoms
abbrev pub rule_words : Rule → List ℕ
rule_words r = word Head r.head ∷ (map (word Positive) r.pos ++ map (word Negative) r.neg)

-- a program as words: the atom count, and then the rules
abbrev pub book_words : Program → List ℕ
book_words P = word Opening P.atoms ∷ flat_map rule_words P.rules

-- the words are those of a well-formed program within the limits
pub record IsBook (P : Program) (ws : List ℕ) : Type 0 where
  pub within : Within P
  pub short : length ws ≤ max_words
  pub encoded : ws ≡ book_words P

-- why a word does not fit as the opening word
abbrev pub opening_misfit : Kind → ℕ → Option Misfit
opening_misfit Head n = Some NoForm
opening_misfit Positive n = Some NoForm
opening_misfit Negative n = Some NoForm
opening_misfit Member n = Some NoForm
opening_misfit TrueNode n = Some NoForm
opening_misfit FalseNode n = Some NoForm
opening_misfit Link n = Some NoForm
opening_misfit Opening n = cond (nat_le n max_atoms) None (Some PastLimit)

-- why a word does not fit behind the words of P
abbrev pub kind_misfit : Program → Kind → ℕ → Option Misfit
kind_misfit P Head a = rule_misfit P a
kind_misfit P Positive a = literal_misfit P (plus a)
kind_misfit P Negative a = literal_misfit P (minus a)
kind_misfit P Member a = Some NoForm
kind_misfit P TrueNode a = Some NoForm
kind_misfit P FalseNode a = Some NoForm
kind_misfit P Link a = Some NoForm
kind_misfit P Opening a = Some NoForm

abbrev pub word_misfit : Program → ℕ → ℕ → Option Misfit
word_misfit P place w = cause_if (nat_le max_words place) PastLimit (kind_misfit P (kind w) (payload w))

-- the program with what a word adds to it
abbrev pub with_kind : Program → Kind → ℕ → Program
with_kind P Head a = with_rule P a
with_kind P Positive a = with_literal P (plus a)
with_kind P Negative a = with_literal P (minus a)
with_kind P Member a = P
with_kind P TrueNode a = P
with_kind P FalseNode a = P
with_kind P Link a = P
with_kind P Opening a = P

abbrev pub with_word : Program → ℕ → Program
with_word P w = with_kind P (kind w) (payload w)

-- the words behind those of P, from a place on
unfoldable pub read_on : Program → ℕ → List ℕ → Result Program Refusal
read_on P place [] = Ok P
read_on P place (w ∷ ws) = or_refuse (word_misfit P place w) place (read_on (with_word P w) (suc place) ws)

abbrev pub bare : ℕ → Program
bare n = record { atoms = n; rules = [] }

-- the program of the opening word alone
abbrev pub opening_of_words : List ℕ → Result Program Refusal
opening_of_words [] = Err (refusal.NoForm 0)
opening_of_words (w ∷ ws) = or_refuse (opening_misfit (kind w) (payload w)) 0 (Ok (bare (payload w)))

-- the program of the words, or the refusal of the first word at fault
abbrev pub book_of_words : List ℕ → Result Program Refusal
book_of_words [] = Err (refusal.NoForm 0)
book_of_words (w ∷ ws) = or_refuse (opening_misfit (kind w) (payload w)) 0 (read_on (bare (payload w)) 1 ws)

-- why words are not loaded whose word at a place was rejected
abbrev pub rejected_at : ℕ → Rejection → LoadError
rejected_at place (rejection.Unfit m) = load_error.Refused (refused_at m place)
rejected_at place rejection.OutOfMemory = load_error.OutOfMemory
