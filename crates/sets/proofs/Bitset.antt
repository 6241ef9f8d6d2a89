-- What a row of 64-bit words marks after a bit is set or cleared, and how many it marks. Assumes nothing.
use Rattle.std.proofs.Common.{◌≡◌, ℕ, zero, suc, ◌+◌, ◌-◌, ◌*◌, ◌/◌, ◌%◌, ◌^◌, ◌<◌, ◌≤◌, Bool, true, false, cond, not, eqb, ◌≢◌, ◌⊎◌, List, length, get_or, set, take, replicate, sum_by, sym, refl, ap, ◌∙◌, ap₂, inl, inr, ⊎_elim, add-zero, add-suc, zero-mul, one-mul, add-one, one-add, arith, eq-eqb, ne_eqb}
use native.Mathlib.Nat.{mod-one}
use lib.Bits.{bit_and, bit_or}
use lib.Count.{ones, ones_cat}
use Rattle.std.specs.Int.{bit_at, bit_not, w64}
use Rattle.std.proofs.lemmas.Nat.{one_shl, pow_pos, mod-pow-add, div-mul-add, mod-mul-add, mod_below}
use Rattle.std.proofs.lemmas.Nat.Bits.{and_pow, bit_at-lt, bit_at-zero, bit_at_set_same, bit_at_set_other, bit_at_clear_same, bit_at_clear_other}
use Rattle.std.proofs.lemmas.List.{get_or-set_same, get_or-set_other, get_or-replicate, get_or_past, length-replicate}
use Rattle.std.proofs.lemmas.List.Sums.{sum_by_more}
use Rattle.std.proofs.lemmas.Bool.{cases_eq, cases_lt}
use Rattle.sets.specs.Sets.{bit_of, marked, rising}
use Rattle.sets.proofs.Rising.{length_rising_none, length_rising_more}

-- The row after one word was written: bit i is v, the others are as before.
module _ (words : List ℕ) (i w : ℕ) (v : Bool) (in_words_lem : i / 64 < length words) (here : eqb (bit_at w (i % 64)) 1 ≡ v)
    (there : (j : ℕ) → j < 64 → j ≢ i % 64 → bit_at w j ≡ bit_at (get_or words (i / 64) 0) j) where
  bit_of_set : (b : ℕ) → bit_of (set words (i / 64) w) b ≡ cond (eqb b i) v (bit_of words b)
  bit_of_set b = ⊎_elim same other (cases_eq b i)
    where
      same : b ≡ i → bit_of (set words (i / 64) w) b ≡ cond (eqb b i) v (bit_of words b)
      same e =
          ap (bit_of (set words (i / 64) w)) e ∙ ap (λ x. eqb (bit_at x (i % 64)) 1) (get_or-set_same words (i / 64) w 0 in_words_lem) ∙ here
          ∙ sym (ap (λ t. cond t v (bit_of words b)) (eq-eqb b i e))

      word : b ≢ i → (b / 64 ≡ i / 64) ⊎ (b / 64 ≢ i / 64) → bit_at (get_or (set words (i / 64) w) (b / 64) 0) (b % 64) ≡ bit_at (get_or words (b / 64) 0) (b % 64)
      word d (inl q) =
          ap (λ x. bit_at (get_or (set words (i / 64) w) x 0) (b % 64)) q ∙ ap (λ x. bit_at x (b % 64)) (get_or-set_same words (i / 64) w 0 in_words_lem)
          ∙ there (b % 64) (omega arith) (λ r. d (omega arith)) ∙ ap (λ x. bit_at (get_or words x 0) (b % 64)) (sym q)
      word d (inr q) = ap (λ x. bit_at x (b % 64)) (get_or-set_other words (i / 64) (b / 64) w 0 q)

      other : b ≢ i → bit_of (set words (i / 64) w) b ≡ cond (eqb b i) v (bit_of words b)
      other d = ap (λ x. eqb x 1) (word d (cases_eq (b / 64) (i / 64))) ∙ sym (ap (λ t. cond t v (bit_of words b)) (ne_eqb b i d))

-- a bit that stands at a place of its own
tested : (x p : ℕ) → x < 2 → 0 < p → not (eqb (x * p) 0) ≡ eqb x 1
tested zero p h l = ap (λ y. not (eqb y 0)) (zero-mul p)
tested (suc zero) p h l = ap (λ y. not (eqb y 0)) (one-mul p) ∙ ap not (ne_eqb p 0 (λ e. omega arith))
tested (suc (suc x)) p h l = absurd (omega arith)

-- a test of atoms, in terms of bits
pub marked_at : (words : List ℕ) (a : ℕ) → 1 ≤ a → marked words a ≡ bit_of words (a - 1)
marked_at words zero h = absurd (omega arith)
marked_at words (suc i) h = let e : suc i - 1 ≡ i = omega arith in ap (bit_of words) (sym e)

module _ (words : List ℕ) (a : ℕ) (one : 1 ≤ a) (in_words_lem : (a - 1) / 64 < length words) where
  -- at the atoms, what is so at the bits
  at_atoms : (new : List ℕ) (v : Bool) → ((b : ℕ) → bit_of new b ≡ cond (eqb b (a - 1)) v (bit_of words b)) → (b : ℕ) → marked new b ≡ cond (eqb b a) v (marked words b)
  at_atoms new v h zero = sym (ap (λ t. cond t v false) (ne_eqb 0 a (λ e. omega arith)))
  at_atoms new v h (suc i) = h i ∙ ap (λ t. cond t v (bit_of words i)) (⊎_elim same other (cases_eq i (a - 1)))
    where
      same : i ≡ a - 1 → eqb i (a - 1) ≡ eqb (suc i) a
      same e = eq-eqb i (a - 1) e ∙ sym (eq-eqb (suc i) a (omega arith))

      other : i ≢ a - 1 → eqb i (a - 1) ≡ eqb (suc i) a
      other d = ne_eqb i (a - 1) d ∙ sym (ne_eqb (suc i) a (λ e. d (omega arith)))

  -- the row with the bit of atom a set, and with it cleared
  module _ (word bit : ℕ) (here : word ≡ (a - 1) / 64) (one_bit : bit ≡ 2 ^ ((a - 1) % 64)) where
    mask : bit ≡ 1 * 2 ^ ((a - 1) % 64) % 2 ^ 64
    mask = one_bit ∙ sym (one_shl ((a - 1) % 64) 64 (omega arith))

    pub marked_with : (b : ℕ) → marked (set words word (bit_or (get_or words word 0) bit)) b ≡ cond (eqb b a) true (marked words b)
    marked_with =
        rw (here, mask)
        (at_atoms _ true (bit_of_set words (a - 1) _ true in_words_lem (ap (λ x. eqb x 1) (bit_at_set_same w64 _ ((a - 1) % 64) (omega arith)))
        (λ j l d. bit_at_set_other w64 (get_or words ((a - 1) / 64) 0) ((a - 1) % 64) (omega arith) j d)))

    pub marked_without : (b : ℕ) → marked (set words word (bit_and (get_or words word 0) (bit_not w64 bit))) b ≡ cond (eqb b a) false (marked words b)
    marked_without =
        rw (here, mask)
        (at_atoms _ false (bit_of_set words (a - 1) _ false in_words_lem (ap (λ x. eqb x 1) (bit_at_clear_same w64 (get_or words ((a - 1) / 64) 0) ((a - 1) % 64) (omega arith)))
        (λ j l d. bit_at_clear_other w64 (get_or words ((a - 1) / 64) 0) ((a - 1) % 64) (omega arith) j l d)))

    -- the test of the bit
    pub marked_by : not (eqb (bit_and (get_or words word 0) bit) 0) ≡ marked words a
    marked_by =
        rw (here, one_bit)
        (ap (λ x. not (eqb x 0)) (and_pow (get_or words ((a - 1) / 64) 0) ((a - 1) % 64))
        ∙ tested (bit_at (get_or words ((a - 1) / 64) 0) ((a - 1) % 64)) (2 ^ ((a - 1) % 64)) (bit_at-lt _ ((a - 1) % 64)) (pow_pos ((a - 1) % 64))
        ∙ sym (marked_at words a one))

-- a row of zeros
pub marked_zeros : (n a : ℕ) → marked (replicate n 0) a ≡ false
marked_zeros n zero = refl
marked_zeros n (suc i) = ap (λ w. eqb (bit_at w (i % 64)) 1) (⊎_elim inside past (cases_lt (i / 64) n)) ∙ ap (λ x. eqb x 1) (bit_at-zero (i % 64))
  where
    inside : i / 64 < n → get_or {A = ℕ} (replicate n 0) (i / 64) 0 ≡ 0
    inside h = get_or-replicate n (i / 64) 0 0 h

    past : n ≤ i / 64 → get_or {A = ℕ} (replicate n 0) (i / 64) 0 ≡ 0
    past h = get_or_past (replicate n 0) (i / 64) 0 (omega (arith, length-replicate {A = ℕ} n 0))

ones_bit : (x : ℕ) → x < 2 → ones x ≡ x
unfolding ones
ones_bit zero h = refl
ones_bit (suc zero) h = refl
ones_bit (suc (suc x)) h = absurd (omega arith)

-- one more bit of a word
ones_more : (w k : ℕ) → ones (w % 2 ^ (1 + k)) ≡ ones (w % 2 ^ k) + bit_at w k
ones_more w k =
    let r : w % 2 ^ k < 2 ^ k = mod_below w (2 ^ k) (pow_pos k) in
    let e = ap ones (mod-pow-add w 1 k) ∙ ones_cat k (w / 2 ^ k % 2) (w % 2 ^ k) r in
    omega (arith, e, ones_bit (bit_at w k) (bit_at-lt w k))

one_of : (x : ℕ) → x < 2 → cond (eqb x 1) 1 0 ≡ x
one_of zero h = refl
one_of (suc zero) h = refl
one_of (suc (suc x)) h = absurd (omega arith)

-- the ones of a word of 64 bits
abbrev pub word_ones : ℕ → ℕ
word_ones w = ones (w % 2 ^ 64)

module _ (words : List ℕ) where
  -- the bits below k of word i
  count_bits : (i k : ℕ) → k ≤ 64 → length (rising (marked words) (i * 64 + k)) ≡ length (rising (marked words) (i * 64)) + ones (get_or words i 0 % 2 ^ k)
  count_bits i zero h =
      let none : ones (get_or words i 0 % 1) ≡ 0 = ap ones (mod-one (get_or words i 0)) ∙ ones_bit 0 (omega arith) in
      omega (arith, ap (λ x. length (rising (marked words) x)) (add-zero (i * 64)), none)
  count_bits i (suc k) h =
      let here : bit_at (get_or words ((i * 64 + k) / 64) 0) ((i * 64 + k) % 64) ≡ bit_at (get_or words i 0) k =
      ap₂ (λ x y. bit_at (get_or words x 0) y) (div-mul-add i 64 k h) (mod-mul-add i 64 k h) in
      let one = ap (λ x. cond (eqb x 1) 1 0) here ∙ one_of (bit_at (get_or words i 0) k) (bit_at-lt (get_or words i 0) k) in
      omega (
        arith,
        ap (λ x. length (rising (marked words) x)) (add-suc (i * 64) k),
        length_rising_more (marked words) (i * 64 + k),
        one,
        count_bits i k (omega arith),
        ones_more (get_or words i 0) k,
        ap (λ x. ones (get_or words i 0 % 2 ^ x)) (one-add k),
      )

  -- the ones of the first words, summed
  pub count_words : (n : ℕ) → n ≤ length words → length (rising (marked words) (n * 64)) ≡ sum_by word_ones (take n words)
  count_words zero h = length_rising_none (marked words)
  count_words (suc n) h =
      let next : suc n * 64 ≡ n * 64 + 64 = omega arith in
      omega (
        arith,
        ap (λ x. length (rising (marked words) x)) next,
        count_bits n 64 (omega arith),
        count_words n (omega arith),
        sum_by_more word_ones words n 0 h,
        ap (λ m. sum_by word_ones (take m words)) (add-one n),
      )
