-- A buffer with the words for the atoms passed in front. Assumes nothing.
use Rattle.std.proofs.Common.{◌≡◌, ℕ, suc, ◌+◌, ◌-◌, ◌<◌, ◌≤◌, Bool, true, false, cond, List, [], ◌∷◌, ◌++◌, map, length, get_or, drop, set, Some, None, sym, refl, ap, ◌∙◌, arith}
use Rattle.std.proofs.lemmas.List.{append_assoc, append-nil, length-append, length-map, map-append, length-drop, drop_more}
use Rattle.std.proofs.Math.Seq.{set-append_seam}
use Rattle.base.specs.Buffers.{written_over}
use Rattle.sets.specs.Sets.{Atoms, rising}
use Rattle.sets.proofs.Rising.{length_rising_most}
use Rattle.lists.specs.Writing.{words_for, word_if}

-- one more is written behind what was
pub written_more : {X : Type 0} (new old : List X) (x : X) → length new < length old → set (written_over new old) (length new) x ≡ written_over (new ++ (x ∷ [])) old
written_more new old x h =
    let longer : 1 + length new ≡ length (new ++ (x ∷ [])) = omega (arith, length-append new (x ∷ [])) in
    ap (λ r. set (new ++ r) (length new) x) (drop_more old (length new) x h) ∙ set-append_seam new (get_or old (length new) x) (drop (length new + 1) old) x
    ∙ ap (λ k. new ++ (x ∷ drop k old)) (omega (arith, longer))
    ∙ sym (append_assoc new (x ∷ []) (drop (length (new ++ (x ∷ []))) old))

pub length_written : {X : Type 0} (new old : List X) → length new ≤ length old → length (written_over new old) ≡ length old
length_written new old h = length-append new (drop (length new) old) ∙ omega (arith, length-drop (length new) old)

module _ (marked : Atoms) (word : ℕ → ℕ) where
  pub words_few : (n : ℕ) → length (words_for marked word n) ≤ n
  words_few n = omega (arith, length-map (rising marked n) word, length_rising_most marked n)

  words_none : words_for marked word 0 ≡ []
  unfolding rising
  words_none = refl

  words_next : (n : ℕ) → words_for marked word (suc n) ≡ words_for marked word n ++ cond (marked (suc n)) (word (suc n) ∷ []) []
  unfolding rising
  words_next n = map-append word (rising marked n) (cond (marked (suc n)) (suc n ∷ []) []) ∙ ap (λ xs. words_for marked word n ++ xs) (go (marked (suc n)))
    where
      go : (b : Bool) → map word (cond b (suc n ∷ []) []) ≡ cond b (word (suc n) ∷ []) []
      go true = refl
      go false = refl

  module _ (a : ℕ) where
    unmarked : word_if marked word a ≡ None → marked a ≡ false
    unmarked = go (marked a)
      where
        go : (b : Bool) → cond b (Some (word a)) None ≡ None → b ≡ false
        go true e = grind arith
        go false e = refl

    marked_by : (w : ℕ) → word_if marked word a ≡ Some w → (marked a ≡ true) × (word a ≡ w)
    marked_by w = go (marked a)
      where
        go : (b : Bool) → cond b (Some (word a)) None ≡ Some w → (b ≡ true) × (word a ≡ w)
        go true e = (refl, cc)
        go false e = grind arith

  -- the atoms below `atom` have been passed
  pub record Passed (old out : List ℕ) (atom count : ℕ) : Type 0 where
    pub from_one : 1 ≤ atom
    pub counted : count ≡ length (words_for marked word (atom - 1))
    pub wrote : out ≡ written_over (words_for marked word (atom - 1)) old

  pub passed_none : (old : List ℕ) → Passed old old 1 0
  passed_none old = record { from_one = omega arith; counted = sym (ap length words_none); wrote = sym (ap (λ new. written_over new old) words_none) }

  pub count_few : (old out : List ℕ) (atom count : ℕ) → Passed old out atom count → count < atom
  count_few old out atom count p = omega (arith, words_few (atom - 1), p.counted, p.from_one)

  pub passed_length : (old out : List ℕ) (atom count : ℕ) → atom ≤ length old → Passed old out atom count → length out ≡ length old
  passed_length old out atom count h p = ap length p.wrote ∙ length_written (words_for marked word (atom - 1)) old (omega (arith, words_few (atom - 1)))

  module _ (old out : List ℕ) (atom count : ℕ) (p : Passed old out atom count) where
    up : (atom + 1) - 1 ≡ suc (atom - 1)
    up = omega (arith, p.from_one)

    back : suc (atom - 1) ≡ atom
    back = omega (arith, p.from_one)

    pub passed_over : word_if marked word atom ≡ None → Passed old out (atom + 1) count
    passed_over e =
        let same : words_for marked word ((atom + 1) - 1) ≡ words_for marked word (atom - 1) =
        ap (words_for marked word) up ∙ words_next (atom - 1) ∙ ap (λ k. words_for marked word (atom - 1) ++ cond (marked k) (word k ∷ []) []) back
        ∙ ap (λ b. words_for marked word (atom - 1) ++ cond b (word atom ∷ []) []) (unmarked atom e) ∙ append-nil (words_for marked word (atom - 1)) in
        record { from_one = omega arith; counted = p.counted ∙ sym (ap length same); wrote = p.wrote ∙ sym (ap (λ new. written_over new old) same) }

    pub passed_with : (w : ℕ) → word_if marked word atom ≡ Some w → atom ≤ length old → Passed old (set out count w) (atom + 1) (count + 1)
    passed_with w e room =
        let new = words_for marked word (atom - 1) in
        let is = marked_by atom w e in
        let same : words_for marked word ((atom + 1) - 1) ≡ new ++ (w ∷ []) =
        ap (words_for marked word) up ∙ words_next (atom - 1) ∙ ap (λ k. new ++ cond (marked k) (word k ∷ []) []) back
        ∙ ap (λ b. new ++ cond b (word atom ∷ []) []) is.0 ∙ ap (λ x. new ++ (x ∷ [])) is.1 in
        record {
          from_one = omega arith;
          counted = omega (arith, p.counted, length-append new (w ∷ []), ap length same);
          wrote = ap (λ xs. set xs count w) p.wrote ∙ ap (λ k. set (written_over new old) k w) p.counted
              ∙ written_more new old w (omega (arith, words_few (atom - 1), p.from_one)) ∙ sym (ap (λ xs. written_over xs old) same);
        }
