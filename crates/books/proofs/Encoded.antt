-- Words are taken exactly if they are those of a program within the limits. Assumes nothing.
use Rattle.std.proofs.Common.{◌≡◌, ℕ, zero, suc, ◌+◌, ◌-◌, ◌^◌, ◌<◌, ◌≤◌, Bool, true, false, List, [], ◌∷◌, ◌++◌, map, length, get_or, take, drop, None, Ok, sym, refl, ap, ◌∙◌, subst, ap₂, arith}
use Rattle.books.specs.Limits.{max_words}
use Rattle.sets.specs.Limits.{max_atoms}
use Rattle.std.specs.List.{flat_map}
use Rattle.std.proofs.lemmas.List.{append_assoc, append-nil, map-append, map_push, flat_map_more, nil_from_length, take_more, take_all, drop_more, drop_all, set_split, length_push, length-append, length-map}
use Rattle.std.proofs.lemmas.Simd.{map-map}
use Rattle.std.proofs.lemmas.Bool.Decides.{nat_tests}
use Rattle.base.specs.Words.{kind, payload, word, Words}
use Rattle.base.specs.declared.words.Kind.{Kind}
use Rattle.base.specs.declared.words.Kind.TheVariants.{Head, Positive, Negative, Member, TrueNode, FalseNode, Link, Opening}
use Rattle.base.proofs.WordForms.{kind_word, payload_word, word_of}
use Rattle.rules.specs.Program.{Rule, Program, body_size, Within}
use Rattle.rules.specs.Asked.{plus, minus, body, no_rule, rule_at, literal_at}
use Rattle.rules.specs.Growing.{longer, last_rule, with_literal, first_rules, literal_misfit}
use Rattle.rules.specs.declared.literal.Literal.{Literal}
use Rattle.rules.proofs.Lookup.{cons_at, rule_inside}
use Rattle.rules.proofs.Copied.{at_place, partly, partly_none, partly_more, partly_all, this_over, rule_allowed, literal_allowed}
use Rattle.rules.proofs.Fits.{LiteralFits, rule_fits, literal_fits, rule_within, literal_within}
use Rattle.base.specs.Loading.{or_refuse}
use Rattle.books.specs.Books.{rule_words, book_words, IsBook, opening_misfit, kind_misfit, word_misfit, with_kind, with_word, read_on, bare, book_of_words}
use Rattle.books.specs.Laws.{TakenExactlyIfEncoded}
use Rattle.books.proofs.Stepwise.{misfit_clash, refusal_clash, same_program, read_on_end, read_on_next, taken, before_limit, kind_fits, adds, free}

abbrev sign : Bool → Kind
sign true = Positive
sign false = Negative

-- a literal as a word
abbrev literal_word : Literal → ℕ
literal_word l = word (sign l.positive) l.atom

longer_words : (r : Rule) (l : Literal) → (l.positive ≡ true → length r.neg ≡ 0) → rule_words (longer r l) ≡ rule_words r ++ literal_word l ∷ []
longer_words r l placed = by_sign l.positive l.atom placed
  where
    by_sign : (s : Bool) (a : ℕ) → (s ≡ true → length r.neg ≡ 0) → rule_words (longer r (record { atom = a; positive = s })) ≡ rule_words r ++ word (sign s) a ∷ []
    by_sign true a placed =
        let none = nil_from_length r.neg (placed refl) in
        ap (λ ns. word Head r.head ∷ (map (word Positive) (r.pos ++ a ∷ []) ++ map (word Negative) ns)) none
        ∙ ap (λ ws. word Head r.head ∷ ws) (append-nil (map (word Positive) (r.pos ++ a ∷ [])) ∙ map_push (word Positive) r.pos a ∙ ap (λ ws. ws ++ word Positive a ∷ []) (sym (append-nil (map (word Positive) r.pos))))
        ∙ ap (λ ns. word Head r.head ∷ (map (word Positive) r.pos ++ map (word Negative) ns ++ word Positive a ∷ [])) (sym none)
    by_sign false a placed =
        ap (λ ws. word Head r.head ∷ ws)
        (ap (λ ws. map (word Positive) r.pos ++ ws) (map_push (word Negative) r.neg a)
        ∙ sym (append_assoc (map (word Positive) r.pos) (map (word Negative) r.neg) (word Negative a ∷ [])))

-- the words of a program whose last rule is r
last_words : (n : ℕ) (rs : List Rule) (r : Rule) → book_words (record { atoms = n; rules = rs ++ r ∷ [] }) ≡ book_words (record { atoms = n; rules = rs }) ++ rule_words r
last_words n rs r = sym (flat_map_more rule_words (word Opening n ∷ []) rs r)

module _ (P : Program) (l : Literal) (f : LiteralFits P l) where
  abbrev others : List Rule
  others = take (length P.rules - 1) P.rules

  split_last : P.rules ≡ others ++ last_rule P ∷ []
  split_last =
      let rs = P.rules in
      let i = length rs - 1 in
      sym (take_all (i + 1) rs (omega arith))
      ∙ take_more rs i no_rule (omega (arith, f.started))
      ∙ ap (λ (r : Rule). others ++ r ∷ []) (sym (rule_inside P (length rs) (omega (arith, f.started))))

  split_longer : (with_literal P l).rules ≡ others ++ longer (last_rule P) l ∷ []
  split_longer =
      let rs = P.rules in
      let i = length rs - 1 in
      set_split rs i (longer (last_rule P) l) (omega (arith, f.started))
      ∙ ap (λ qs. others ++ longer (last_rule P) l ∷ qs) (drop_all (suc i) rs (omega arith))

  literal_words : book_words (with_literal P l) ≡ book_words P ++ literal_word l ∷ []
  literal_words =
      let n = P.atoms in
      let before = book_words (record { atoms = n; rules = others }) in
      ap (λ rs. book_words (record { atoms = n; rules = rs })) split_longer
      ∙ last_words n others (longer (last_rule P) l)
      ∙ ap (λ ws. before ++ ws) (longer_words (last_rule P) l f.placed)
      ∙ sym (append_assoc before (rule_words (last_rule P)) (literal_word l ∷ []))
      ∙ ap (λ ws. ws ++ literal_word l ∷ []) (sym (ap (λ rs. book_words (record { atoms = n; rules = rs })) split_last ∙ last_words n others (last_rule P)))

-- Q is P with what one more word means
record Grown (P Q : Program) (w : ℕ) : Type 0 where
  within : Within Q
  encoded : book_words Q ≡ book_words P ++ w ∷ []

literal_grown : (P : Program) (l : Literal) → Within P → literal_misfit P l ≡ None → Grown P (with_literal P l) (literal_word l)
literal_grown P l w e = let f = literal_fits P l e in record { within = literal_within P l f w; encoded = literal_words P l f }

grown : (P : Program) (k : Kind) (a : ℕ) → Within P → kind_misfit P k a ≡ None → Grown P (with_kind P k a) (word k a)
grown P Head a w e = record { within = rule_within P a (rule_fits P a e) w; encoded = last_words P.atoms P.rules (record { head = a; pos = []; neg = [] }) }
grown P Positive a w e = literal_grown P (plus a) w e
grown P Negative a w e = literal_grown P (minus a) w e
grown P Member a w e = misfit_clash e
grown P TrueNode a w e = misfit_clash e
grown P FalseNode a w e = misfit_clash e
grown P Link a w e = misfit_clash e
grown P Opening a w e = misfit_clash e

-- a book with a word that fits behind it
more_book : (P : Program) (us : List ℕ) (w : ℕ) → IsBook P us → w < 2 ^ 32 → word_misfit P (length us) w ≡ None → IsBook (with_word P w) (us ++ w ∷ [])
more_book P us w b small e =
    let g = grown P (kind w) (payload w) b.within (kind_fits P (length us) w e) in
    record {
      within = g.within;
      short = omega (arith, length_push us w, before_limit P (length us) w e);
      encoded = ap₂ (λ vs v. vs ++ v ∷ []) b.encoded (sym (word_of w small)) ∙ sym g.encoded;
    }

all_book : (ws : List ℕ) (P Q : Program) (us : List ℕ) → IsBook P us → Words ws → read_on P (length us) ws ≡ Ok Q → IsBook Q (us ++ ws)
all_book [] P Q us b small e = subst (IsBook Q) (sym (append-nil us)) (subst (λ (R : Program). IsBook R us) (same_program (sym (read_on_end P (length us)) ∙ e)) b)
all_book (w ∷ ws) P Q us b small e =
    let t = taken (word_misfit P (length us) w) (length us) (read_on (with_word P w) (length us + 1) ws) Q (sym (read_on_next P (length us) w ws) ∙ e) in
    subst (IsBook Q) (append_assoc us (w ∷ []) ws)
    (all_book ws (with_word P w) Q (us ++ w ∷ []) (more_book P us w b small.0 t.fits) small.1
    (ap (λ k. read_on (with_word P w) k ws) (length_push us w) ∙ t.then))

opening_book : (w : ℕ) → w < 2 ^ 32 → opening_misfit (kind w) (payload w) ≡ None → IsBook (bare (payload w)) (w ∷ [])
opening_book w small e =
    let o = opens (kind w) (payload w) e in
    record {
      within = record { few_atoms = o.1; few_rules = omega arith; light = omega arith; over = tt };
      short = omega arith;
      encoded = ap (λ v. v ∷ []) (sym (word_of w small) ∙ ap (λ k. word k (payload w)) o.0);
    }
  where
    opens : (k : Kind) (n : ℕ) → opening_misfit k n ≡ None → (k ≡ Opening) × (n ≤ max_atoms)
    opens Head n e = misfit_clash e
    opens Positive n e = misfit_clash e
    opens Negative n e = misfit_clash e
    opens Member n e = misfit_clash e
    opens TrueNode n e = misfit_clash e
    opens FalseNode n e = misfit_clash e
    opens Link n e = misfit_clash e
    opens Opening n e = (refl, grind (arith, nat_tests))

pub taken_encoded : (ws : List ℕ) → Words ws → (P : Program) → book_of_words ws ≡ Ok P → IsBook P ws
taken_encoded [] small P e = refusal_clash e
taken_encoded (w ∷ ws) small P e =
    let t = taken (opening_misfit (kind w) (payload w)) 0 (read_on (bare (payload w)) 1 ws) P e in
    all_book ws (bare (payload w)) P (w ∷ []) (opening_book w small.0 t.fits) small.1 t.then

-- the words of a body are those of its literals
body_words : (r : Rule) → rule_words r ≡ word Head r.head ∷ map literal_word (body r)
body_words r =
    ap (λ ws. word Head r.head ∷ ws)
    (sym (map-append literal_word (map plus r.pos) (map minus r.neg) ∙ ap₂ (λ us vs. us ++ vs) (map-map literal_word plus r.pos) (map-map literal_word minus r.neg)))

body_length : (r : Rule) → length (body r) ≡ body_size r
body_length r = length-append (map plus r.pos) (map minus r.neg) ∙ ap₂ (λ a b. a + b) (length-map r.pos plus) (length-map r.neg minus)

next_literal : (r : Rule) (k : ℕ) → k < body_size r → drop k (body r) ≡ get_or (plus 0 ∷ body r) (k + 1) (plus 0) ∷ drop (k + 1) (body r)
next_literal r k h =
    drop_more (body r) k (plus 0) (omega (arith, body_length r))
    ∙ ap (λ (l : Literal). l ∷ drop (k + 1) (body r)) (sym (cons_at (plus 0) (plus 0) (body r) (k + 1) (omega arith) ∙ ap (λ j. get_or (body r) j (plus 0)) (omega arith)))

literal_kind : (P : Program) (l : Literal) → (kind_misfit P (sign l.positive) l.atom ≡ literal_misfit P l) × (with_kind P (sign l.positive) l.atom ≡ with_literal P l)
literal_kind P l = by_sign l.positive l.atom
  where
    by_sign : (s : Bool) (a : ℕ) → (kind_misfit P (sign s) a ≡ literal_misfit P (record { atom = a; positive = s })) × (with_kind P (sign s) a ≡ with_literal P (record { atom = a; positive = s }))
    by_sign true a = (refl, refl)
    by_sign false a = (refl, refl)

-- a word that may stand at a place, and then the others
takes : (P Q : Program) (k : Kind) (a place : ℕ) (ws : List ℕ) → a ≤ max_atoms → place < max_words → kind_misfit P k a ≡ None → with_kind P k a ≡ Q → read_on P place (word k a ∷ ws) ≡ read_on Q (place + 1) ws
takes P Q k a place ws low h fits grown =
    let small : a < 2 ^ 29 = omega arith in
    read_on_next P place (word k a) ws
    ∙ ap₂ (λ m (R : Program). or_refuse m place (read_on R (place + 1) ws)) (free P k a small place h fits) (adds P k a small ∙ grown)

module _ (P : Program) (w : Within P) where
  module _ (i : ℕ) (inside : i < length P.rules) (rest : List ℕ) where
    abbrev r : Rule
    r = rule_at P (i + 1)

    -- the last n literals of the rule behind the first i
    takes_literals : (n k place : ℕ) → k + n ≡ body_size r → place + n ≤ max_words → read_on (partly P i k) place (map literal_word (drop k (body r)) ++ rest) ≡ read_on (partly P i (body_size r)) (place + n) rest
    takes_literals zero k place at h =
        ap₂ (λ j ls. read_on (partly P i j) place (map literal_word ls ++ rest)) (omega arith) (drop_all k (body r) (omega (arith, body_length r)))
        ∙ ap (λ p. read_on (partly P i (body_size r)) p rest) (omega arith)
    takes_literals (suc n) k place at h =
        let below : k < body_size r = omega arith in
        let l = literal_at P (i + 1) (k + 1) in
        let next = next_literal r k below in
        let allowed = literal_allowed P i inside w k l refl below in
        let fits = (literal_kind (partly P i k) l).0 ∙ allowed in
        let grown = (literal_kind (partly P i k) l).1 ∙ partly_more P i inside w k l refl below in
        let low : l.atom ≤ max_atoms = omega (arith, (literal_fits (partly P i k) l allowed).high, w.few_atoms) in
        ap (λ ls. read_on (partly P i k) place (map literal_word ls ++ rest)) next
        ∙ takes (partly P i k) (partly P i (k + 1)) (sign l.positive) l.atom place (map literal_word (drop (k + 1) (body r)) ++ rest) low (omega arith) fits grown
        ∙ takes_literals n (k + 1) (place + 1) (omega arith) (omega arith)
        ∙ ap (λ p. read_on (partly P i (body_size r)) p rest) (omega arith)

    takes_rule : (place : ℕ) → place + (1 + body_size r) ≤ max_words → read_on (first_rules P i) place (rule_words r ++ rest) ≡ read_on (first_rules P (i + 1)) (place + (1 + body_size r)) rest
    takes_rule place h =
        let over = this_over P i inside w in
        ap (λ ws. read_on (first_rules P i) place (ws ++ rest)) (body_words r)
        ∙ takes (first_rules P i) (partly P i 0) Head r.head place (map literal_word (body r) ++ rest) (omega (arith, over.head_high, w.few_atoms)) (omega arith) (rule_allowed P i inside w) (partly_none P i inside)
        ∙ takes_literals (body_size r) 0 (place + 1) (omega arith) (omega arith)
        ∙ ap₂ (λ (Q : Program) p. read_on Q p rest) (partly_all P i inside) (omega arith)

  -- the last n rules
  takes_rules : (n i place : ℕ) → i + n ≡ length P.rules → place + length (flat_map rule_words (drop i P.rules)) ≤ max_words → read_on (first_rules P i) place (flat_map rule_words (drop i P.rules)) ≡ Ok P
  takes_rules zero i place at h =
      ap₂ (λ rs qs. read_on (record { atoms = P.atoms; rules = rs }) place (flat_map rule_words qs)) (take_all i P.rules (omega arith)) (drop_all i P.rules (omega arith))
      ∙ read_on_end P place
  takes_rules (suc n) i place at h =
      let inside : i < length P.rules = omega arith in
      let r = rule_at P (i + 1) in
      let rest = flat_map rule_words (drop (i + 1) P.rules) in
      let next : flat_map rule_words (drop i P.rules) ≡ rule_words r ++ rest = ap (flat_map rule_words) (drop_more P.rules i no_rule inside) ∙ ap (λ (q : Rule). rule_words q ++ rest) (sym (at_place P i)) in
      let size : length (flat_map rule_words (drop i P.rules)) ≡ 1 + body_size r + length rest = omega (arith, ap length next, length-append (rule_words r) rest, ap length (body_words r), length-map (body r) literal_word, body_length r) in
      ap (read_on (first_rules P i) place) next
      ∙ takes_rule i inside rest place (omega arith)
      ∙ takes_rules n (i + 1) (place + (1 + body_size r)) (omega arith) (omega arith)

  takes_book : length (book_words P) ≤ max_words → book_of_words (book_words P) ≡ Ok P
  takes_book h =
      let small : P.atoms < 2 ^ 29 = omega (arith, w.few_atoms) in
      ap₂ (λ k n. or_refuse (opening_misfit k n) 0 (read_on (bare n) 1 (flat_map rule_words P.rules))) (kind_word Opening P.atoms small) (payload_word Opening P.atoms small)
      ∙ ap (λ m. or_refuse m 0 (read_on (bare P.atoms) 1 (flat_map rule_words P.rules))) opens
      ∙ takes_rules (length P.rules) 0 1 (omega arith) (omega arith)
    where
      opens : opening_misfit Opening P.atoms ≡ None
      opens = let few = w.few_atoms in grind (arith, nat_tests)

pub encoded_taken : (ws : List ℕ) (P : Program) → IsBook P ws → book_of_words ws ≡ Ok P
encoded_taken ws P b = ap book_of_words b.encoded ∙ takes_book P b.within (subst (λ vs. length vs ≤ max_words) b.encoded b.short)

pub taken_exactly_if_encoded : TakenExactlyIfEncoded
taken_exactly_if_encoded ws small P = (taken_encoded ws small P, encoded_taken ws P)
