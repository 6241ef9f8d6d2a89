-- The kind and the payload of a word. Assumes nothing.
use Rattle.std.specs.Prelude.{ℕ, zero, suc, ◌+◌, ◌*◌, ◌/◌, ◌%◌, ◌^◌, ◌<◌, List}
use Rattle.std.specs.List.{AllByRecursion}
use Rattle.base.specs.declared.words.Kind.{Kind}
use Rattle.base.specs.declared.words.Kind.TheVariants.{Head, Positive, Negative, Member, TrueNode, FalseNode, Link, Opening}

-- the number that a kind has in a word
abbrev pub code : Kind → ℕ
code Head = 0
code Positive = 1
code Negative = 2
code Member = 3
code TrueNode = 4
code FalseNode = 5
code Link = 6
code Opening = 7

abbrev pub kind_with : ℕ → Kind
kind_with zero = Head
kind_with (suc zero) = Positive
kind_with (suc (suc zero)) = Negative
kind_with (suc (suc (suc zero))) = Member
kind_with (suc (suc (suc (suc zero)))) = TrueNode
kind_with (suc (suc (suc (suc (suc zero))))) = FalseNode
kind_with (suc (suc (suc (suc (suc (suc zero)))))) = Link
kind_with (suc (suc (suc (suc (suc (suc (suc k))))))) = Opening

-- bits 31 to 29 of a word, and bits 28 to 0
unfoldable pub kind : ℕ → Kind
kind w = kind_with (w / 2 ^ 29)

unfoldable pub payload : ℕ → ℕ
payload w = w % 2 ^ 29

-- the word of a kind and a payload
unfoldable pub word : Kind → ℕ → ℕ
word k p = code k * 2 ^ 29 + p

-- words have 32 bits
abbrev pub Words : List ℕ → Type 0
Words ws = AllByRecursion (λ w. w < 2 ^ 32) ws
