-- A word is its kind and its payload, and each word is made of one of both. Assumes nothing.
use Rattle.std.proofs.Common.{◌≡◌, ℕ, zero, suc, ◌+◌, ◌*◌, ◌/◌, ◌%◌, ◌^◌, ◌<◌, ◌≤◌, sym, refl, ap, ◌∙◌, arith}
use Rattle.std.proofs.lemmas.Nat.{pow_pos, shr_split, shr_high, mod_low, mod_below}
use Rattle.base.specs.declared.words.Kind.{Kind}
use Rattle.base.specs.declared.words.Kind.TheVariants.{Head, Positive, Negative, Member, TrueNode, FalseNode, Link, Opening}
use Rattle.base.specs.Words.{code, kind_with, kind, payload, word}

kind_code : (k : Kind) → kind_with (code k) ≡ k
kind_code Head = refl
kind_code Positive = refl
kind_code Negative = refl
kind_code Member = refl
kind_code TrueNode = refl
kind_code FalseNode = refl
kind_code Link = refl
kind_code Opening = refl

code_kind : (n : ℕ) → n < 8 → code (kind_with n) ≡ n
code_kind zero h = refl
code_kind (suc zero) h = refl
code_kind (suc (suc zero)) h = refl
code_kind (suc (suc (suc zero))) h = refl
code_kind (suc (suc (suc (suc zero)))) h = refl
code_kind (suc (suc (suc (suc (suc zero))))) h = refl
code_kind (suc (suc (suc (suc (suc (suc zero)))))) h = refl
code_kind (suc (suc (suc (suc (suc (suc (suc zero))))))) h = refl
code_kind (suc (suc (suc (suc (suc (suc (suc (suc n)))))))) h = absurd (omega arith)

-- a code has three bits
pub code_below : (k : Kind) → code k < 8
code_below Head = omega arith
code_below Positive = omega arith
code_below Negative = omega arith
code_below Member = omega arith
code_below TrueNode = omega arith
code_below FalseNode = omega arith
code_below Link = omega arith
code_below Opening = omega arith

-- the kind of a word that was made of a kind and a payload
pub kind_word : (k : Kind) (p : ℕ) → p < 2 ^ 29 → kind (word k p) ≡ k
unfolding kind word
kind_word k p h = ap kind_with (shr_high (code k) 29 p h) ∙ kind_code k

-- its payload
pub payload_word : (k : Kind) (p : ℕ) → p < 2 ^ 29 → payload (word k p) ≡ p
unfolding payload word
payload_word k p h = mod_low (code k) 29 p h

-- a word of 32 bits is made of its kind and its payload
pub word_of : (w : ℕ) → w < 2 ^ 32 → word (kind w) (payload w) ≡ w
unfolding kind payload word
word_of w h = ap (λ x. x * 2 ^ 29 + w % 2 ^ 29) (code_kind (w / 2 ^ 29) (omega arith)) ∙ shr_split w 29

-- a payload has 29 bits
pub payload_below : (w : ℕ) → payload w < 2 ^ 29
unfolding payload
payload_below w = mod_below w (2 ^ 29) (pow_pos 29)

-- and a number of 29 bits is its own payload
pub payload_small : (n : ℕ) → n < 2 ^ 29 → payload n ≡ n
unfolding payload
payload_small n h = omega arith

-- the kind by its number, and the one from 7 on
pub kind_at : (w n : ℕ) → w / 2 ^ 29 ≡ n → kind_with n ≡ kind w
unfolding kind
kind_at w n e = ap kind_with (sym e)

opening_from : (n : ℕ) → 7 ≤ n → Opening ≡ kind_with n
opening_from zero h = absurd (omega arith)
opening_from (suc zero) h = absurd (omega arith)
opening_from (suc (suc zero)) h = absurd (omega arith)
opening_from (suc (suc (suc zero))) h = absurd (omega arith)
opening_from (suc (suc (suc (suc zero)))) h = absurd (omega arith)
opening_from (suc (suc (suc (suc (suc zero))))) h = absurd (omega arith)
opening_from (suc (suc (suc (suc (suc (suc zero)))))) h = absurd (omega arith)
opening_from (suc (suc (suc (suc (suc (suc (suc n))))))) h = refl

pub kind_opening : (w : ℕ) → 7 ≤ w / 2 ^ 29 → Opening ≡ kind w
unfolding kind
kind_opening w h = opening_from (w / 2 ^ 29) h
