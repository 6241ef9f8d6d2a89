-- What is known of every set of atoms, and of a set after one bit is written. Assumes nothing.
use Rattle.std.proofs.Common.{◌≡◌, ℕ, ◌+◌, ◌-◌, ◌/◌, ◌<◌, ◌≤◌, Bool, true, false, cond, not, ◌&&◌, ◌||◌, eqb, leb, ◌≢◌, List, length, get_or, map, set, replicate, sum, sum_by, sym, refl, ap, ◌∙◌, ⊎_elim, arith}
use lib.Bits.{bit_and, bit_or}
use Rattle.std.specs.Int.{bit_not, w64}
use Rattle.std.proofs.lemmas.List.{take_all}
use Rattle.std.proofs.lemmas.List.Sums.{sum-map}
use Rattle.std.proofs.lemmas.Bool.{cases_eq, and_parts, and_from, and_left, and_right, leb-true, le-leb, lt-leb, eq-eqb, ne_eqb}
use Rattle.sets.specs.Limits.{max_atoms}
use Rattle.sets.specs.declared.set.AtomSet.{AtomSet}
use Rattle.sets.specs.Sets.{is_atom, IsPlace, marked, has, rising, members, size}
use Rattle.sets.proofs.Bitset.{marked_zeros, marked_with, marked_without, marked_by, word_ones, count_words}
use Rattle.sets.proofs.Rising.{rising_ext, rising_nothing, rising_passes, rising_place, length_rising_one, length_rising_less, length_rising_most}

-- a number from 1 to 1,024 is an atom
pub is_atom_from : (a : ℕ) → 1 ≤ a → a ≤ max_atoms → is_atom a ≡ true
is_atom_from a low high = and_from (leb 1 a) (leb a max_atoms) (le-leb 1 a low) (le-leb a max_atoms high)

-- an atom is at least 1
pub is_atom_low : (a : ℕ) → is_atom a ≡ true → 1 ≤ a
is_atom_low a h = leb-true 1 a (and_parts (leb 1 a) (leb a max_atoms) h).0

-- an atom is at most 1,024
pub is_atom_high : (a : ℕ) → is_atom a ≡ true → a ≤ max_atoms
is_atom_high a h = leb-true a max_atoms (and_parts (leb 1 a) (leb a max_atoms) h).1

-- 0 is no atom
pub is_atom_zero : (a : ℕ) → a ≡ 0 → is_atom a ≡ false
is_atom_zero a e = ap is_atom e

-- a number past 1,024 is no atom
pub is_atom_past : (a : ℕ) → max_atoms < a → is_atom a ≡ false
is_atom_past a h = and_right (leb 1 a) (leb a max_atoms) (lt-leb a max_atoms h)

-- a member is an atom
pub has_is_atom : (s : AtomSet) (a : ℕ) → has s a ≡ true → is_atom a ≡ true
unfolding has
has_is_atom s a h = (and_parts (is_atom a) (marked s.words a) h).0

-- a member is at least 1, and at most 1,024
pub has_low : (s : AtomSet) (a : ℕ) → has s a ≡ true → 1 ≤ a
has_low s a h = is_atom_low a (has_is_atom s a h)

pub has_high : (s : AtomSet) (a : ℕ) → has s a ≡ true → a ≤ max_atoms
has_high s a h = is_atom_high a (has_is_atom s a h)

-- a number that is no atom is no member
pub has_not_atom : (s : AtomSet) (a : ℕ) → is_atom a ≡ false → has s a ≡ false
unfolding has
has_not_atom s a h = and_left (is_atom a) (marked s.words a) h

-- at an atom, the words decide
pub has_marked : (s : AtomSet) (a : ℕ) → is_atom a ≡ true → has s a ≡ marked s.words a
unfolding has
has_marked s a h = ap (λ t. t && marked s.words a) h

-- a set has at most 1,024 atoms
pub size_most : (s : AtomSet) → size s ≤ max_atoms
size_most s = length_rising_most (has s) max_atoms

-- each number in the list of the members is a member
pub members_has : (s : AtomSet) (i d : ℕ) → i < size s → has s (get_or (members s) i d) ≡ true
members_has s i d h = rising_passes (has s) max_atoms i d h

-- each member has a place in the list of the members
pub has_place : (s : AtomSet) (a : ℕ) → has s a ≡ true → (i : ℕ) × (i < size s) × (get_or (members s) i 0 ≡ a)
has_place s a h = rising_place (has s) max_atoms a (has_low s a h) (has_high s a h) h

-- the size is the number of marked bits
pub size_marked : (s : AtomSet) → size s ≡ length (rising (marked s.words) max_atoms)
size_marked s = ap length (rising_ext (has s) (marked s.words) max_atoms (λ b low high. has_marked s b (is_atom_from b low high)))

-- and the ones of the words, summed
pub size_words : (s : AtomSet) → length s.words ≡ max_atoms / 64 → sum (map word_ones s.words) ≡ size s
size_words s sixteen =
    sum-map word_ones s.words
    ∙ ap (sum_by word_ones) (sym (take_all (max_atoms / 64) s.words (omega arith)))
    ∙ sym (count_words s.words (max_atoms / 64) (omega arith))
    ∙ sym (size_marked s)

-- words of zeros mark nothing
pub has_zeros : (n a : ℕ) → has (record { words = replicate n 0 }) a ≡ false
unfolding has
has_zeros n a = and_right (is_atom a) (marked (replicate n 0) a) (marked_zeros n a)

-- a set without members has size 0
pub size_none : (s : AtomSet) → ((a : ℕ) → has s a ≡ false) → size s ≡ 0
size_none s h = ap length (rising_nothing (has s) max_atoms (λ a low high. h a))

-- a set with all members of another and one more is larger
pub size_grows : (s t : AtomSet) → ((b : ℕ) → has s b ≡ true → has t b ≡ true) → (a : ℕ) → has s a ≡ false → has t a ≡ true → size s < size t
size_grows s t grows a out in_set = length_rising_less (has s) (has t) grows a (has_low t a in_set) out in_set max_atoms (has_high t a in_set)

-- A set whose words were written so that atom a is marked as v has it, and the others as before.
module _ (s : AtomSet) (words : List ℕ) (a : ℕ) (v : Bool) (atom : is_atom a ≡ true)
    (write : (b : ℕ) → marked words b ≡ cond (eqb b a) v (marked s.words b)) where
  abbrev written : AtomSet
  written = record { words = words }

  has_here : has written a ≡ v
  has_here = has_marked written a atom ∙ write a ∙ ap (λ t. cond t v (marked s.words a)) (eq-eqb a a refl)

  has_there : (b : ℕ) → b ≢ a → has written b ≡ has s b
  unfolding has
  has_there b d = ap (λ t. is_atom b && t) (write b ∙ ap (λ t. cond t v (marked s.words b)) (ne_eqb b a d))

  has_written : (b : ℕ) → has written b ≡ cond (eqb b a) v (has s b)
  has_written b = ⊎_elim same other (cases_eq b a)
    where
      same : b ≡ a → has written b ≡ cond (eqb b a) v (has s b)
      same e = ap (has written) e ∙ has_here ∙ sym (ap (λ t. cond t v (has s b)) (eq-eqb b a e))

      other : b ≢ a → has written b ≡ cond (eqb b a) v (has s b)
      other d = has_there b d ∙ sym (ap (λ t. cond t v (has s b)) (ne_eqb b a d))

cond_or : (e x : Bool) → cond e true x ≡ (x || (e && true))
cond_or true true = refl
cond_or true false = refl
cond_or false true = refl
cond_or false false = refl

cond_and : (e x : Bool) → cond e false x ≡ (x && not e)
cond_and true true = refl
cond_and true false = refl
cond_and false true = refl
cond_and false false = refl

-- The bit of atom a, tested, set and cleared.
module _ (s : AtomSet) (a : ℕ) (p : ℕ × ℕ) (place : IsPlace a p) (sixteen : length s.words ≡ max_atoms / 64) where
  inside : (a - 1) / 64 < length s.words
  inside = omega (arith, is_atom_high a place.atom)

  pub has_test : not (eqb (bit_and (get_or s.words p.0 0) p.1) 0) ≡ has s a
  has_test = marked_by s.words a (is_atom_low a place.atom) inside p.0 p.1 place.word place.bit ∙ sym (has_marked s a place.atom)

  -- a bit that is written as it was leaves the set as it was
  size_same : (words : List ℕ) (v : Bool) → ((b : ℕ) → marked words b ≡ cond (eqb b a) v (marked s.words b)) → has s a ≡ v → size (record { words = words }) ≡ size s
  size_same words v write e =
      ap length
      (rising_ext (has (record { words = words })) (has s) max_atoms
      (λ b low high.
      has_written s words a v place.atom write b
      ∙ ⊎_elim (λ q. ap (λ t. cond t v (has s b)) (eq-eqb b a q) ∙ sym e ∙ ap (has s) (sym q)) (λ d. ap (λ t. cond t v (has s b)) (ne_eqb b a d)) (cases_eq b a)))

  abbrev with_bit : List ℕ
  with_bit = set s.words p.0 (bit_or (get_or s.words p.0 0) p.1)

  write_with : (b : ℕ) → marked with_bit b ≡ cond (eqb b a) true (marked s.words b)
  write_with = marked_with s.words a (is_atom_low a place.atom) inside p.0 p.1 place.word place.bit

  pub has_more : (b : ℕ) → has (record { words = with_bit }) b ≡ (has s b || (eqb b a && is_atom a))
  has_more b = has_written s with_bit a true place.atom write_with b ∙ cond_or (eqb b a) (has s b) ∙ ap (λ t. has s b || (eqb b a && t)) (sym place.atom)

  pub size_more : (new : Bool) → not new ≡ has s a → size (record { words = with_bit }) ≡ size s + cond new 1 0
  size_more true e =
      length_rising_one (has s) (has (record { words = with_bit })) a (is_atom_low a place.atom) (sym e) (has_here s with_bit a true place.atom write_with)
      (λ b d. sym (has_there s with_bit a true place.atom write_with b d)) max_atoms (is_atom_high a place.atom)
  size_more false e = omega (arith, size_same with_bit true write_with (sym e))

  abbrev without_bit : List ℕ
  without_bit = set s.words p.0 (bit_and (get_or s.words p.0 0) (bit_not w64 p.1))

  write_without : (b : ℕ) → marked without_bit b ≡ cond (eqb b a) false (marked s.words b)
  write_without = marked_without s.words a (is_atom_low a place.atom) inside p.0 p.1 place.word place.bit

  pub has_less : (b : ℕ) → has (record { words = without_bit }) b ≡ (has s b && not (eqb b a))
  has_less b = has_written s without_bit a false place.atom write_without b ∙ cond_and (eqb b a) (has s b)

  pub size_less : (member : Bool) → member ≡ has s a → size (record { words = without_bit }) + cond member 1 0 ≡ size s
  size_less true e =
      sym
      (length_rising_one (has (record { words = without_bit })) (has s) a (is_atom_low a place.atom) (has_here s without_bit a false place.atom write_without) (sym e)
      (has_there s without_bit a false place.atom write_without) max_atoms (is_atom_high a place.atom))
  size_less false e = omega (arith, size_same without_bit false write_without (sym e))

-- a number that is no atom takes nothing out
pub less_no_atom : (s : AtomSet) (a : ℕ) → is_atom a ≡ false → (b : ℕ) → has s b ≡ (has s b && not (eqb b a))
less_no_atom s a none b =
    ⊎_elim
    (λ e. let out = has_not_atom s b (ap is_atom e ∙ none) in out ∙ sym (and_left (has s b) (not (eqb b a)) out))
    (λ d. simp (ne_eqb b a d, and_true))
    (cases_eq b a)
  where
    and_true : (x : Bool) → (x && true) ≡ x
    and_true true = refl
    and_true false = refl
