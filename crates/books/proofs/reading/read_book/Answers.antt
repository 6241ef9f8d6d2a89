use Rattle.std.proofs.Common.{◌≡◌, ℕ, ◌+◌, ◌<◌, List, [], ◌∷◌, ◌++◌, length, get_or, drop, true, is_ok, Ok, Err, Result, refl, sym, ap, ◌∙◌, subst, arith, rules}
use Rattle.std.specs.Prelude.{MatchResult, ⊤}
use Rattle.std.specs.List.{enumerate_from}
use Rattle.std.proofs.lemmas.Iterator.{YieldsList-from_slice}
use Rattle.std.proofs.lemmas.Iterator.Adapters.{YieldsList-from_skip}
use Rattle.std.proofs.lemmas.Iterator.Consumers.{YieldsList-from_enumerate, YieldsList-turn, YieldsList-end}
use Rattle.std.proofs.lemmas.List.{at_drop_all, get_or_default, get_or-drop, length-drop, length_push}
use Rattle.std.proofs.lemmas.List.FromFn.{get_or-enumerate_from, length-enumerate_from}
use Rattle.base.specs.declared.loading.LoadError.{LoadError}
use Rattle.base.specs.declared.loading.LoadError.TheVariants as load_error
use Rattle.base.specs.Refusals.{refused_at}
use Rattle.base.specs.Loading.{Read}
use Rattle.rules.specs.Program.{Program}
use Rattle.rules.specs.Growing.{Added}
use Rattle.rules.specs.Tables.{program}
use Rattle.rules.specs.declared.table.RuleTable.{RuleTable}
use Rattle.rules.specs.declared.rejection.Rejection.{Rejection}
use Rattle.rules.specs.declared.rejection.Rejection.TheVariants.{Unfit, OutOfMemory}
use Rattle.books.specs.Limits.{max_words}
use Rattle.books.specs.Books.{book_of_words, word_misfit, with_word, read_on, rejected_at}
use Rattle.books.proofs.Stepwise.{word_taken, word_refused, read_on_end, before_limit}
use Rattle.books.proofs.reading.read_book.Goals as goal

-- where a word stands that comes when k have come behind the opening word
record Numbered (ws : List ℕ) (k place word : ℕ) : Type 0 where
  at : place ≡ k + 1
  inside : place < length ws
  read : word ≡ get_or ws place 0

numbered : (ws : List ℕ) (k place word : ℕ) → k < length (drop 1 (enumerate_from 0 ws)) → ◌≡◌ {A = ℕ × ℕ} (place, word) (get_or (drop 1 (enumerate_from 0 ws)) k (place, word)) → Numbered ws k place word
numbered ws k place word h e =
    let inside : 1 + k < length ws = omega (arith, length-drop 1 (enumerate_from 0 ws), length-enumerate_from 0 ws) in
    let is : ◌≡◌ {A = ℕ × ℕ} (place, word) (0 + (1 + k), get_or ws (1 + k) word) = e ∙ get_or-drop 1 (enumerate_from 0 ws) k (place, word) ∙ get_or-enumerate_from 0 ws (1 + k) (place, word) inside in
    let at : place ≡ 1 + k = ap (λ (p : ℕ × ℕ). p.0) is ∙ omega arith in
    record {
      at = omega arith;
      inside = omega arith;
      read = ap (λ (p : ℕ × ℕ). p.1) is ∙ get_or_default ws (1 + k) word 0 inside ∙ ap (λ i. get_or ws i 0) (sym at);
    }

module _ (ws : List ℕ) (P Q : Program) (k place word : ℕ) (n : Numbered ws k place word) (so : book_of_words ws ≡ read_on P (k + 1) (drop (k + 1) ws)) where
  so_far : book_of_words ws ≡ read_on P place (drop place ws)
  so_far = so ∙ ap (λ i. read_on P i (drop i ws)) (sym n.at)

  taken_word : (r : Result (Unit {0}) Rejection) → is_ok r ≡ true → Added (word_misfit P place word) P (with_word P word) r Q → (book_of_words ws ≡ read_on Q (place + 1) (drop (place + 1) ws)) × (place < max_words)
  taken_word (Ok u) e a =
      let fits = ap (word_misfit P place) (sym n.read) ∙ a.0 in
      (so_far ∙ word_taken P ws place Q n.inside fits (a.1 ∙ ap (with_word P) n.read), before_limit P place word a.0)
  taken_word (Err x) e a = cc

  refused_word : (r : Result (Unit {0}) Rejection) (d : Result (Unit {0}) LoadError) (x : LoadError) → is_ok d ≡ is_ok r → MatchResult r (λ _. ⊤) (λ e. d ≡ Err (rejected_at place e)) → d ≡ Err x → Added (word_misfit P place word) P (with_word P word) r Q → Read (book_of_words ws) program (Err x)
  refused_word (Ok u) d x v m e a = cc
  refused_word (Err (Unfit misfit)) d x v m e a =
      let is : load_error.Refused (refused_at misfit place) ≡ x = cc in
      subst (λ (y : LoadError). Read (book_of_words ws) program (Err y)) is (so_far ∙ word_refused P ws place misfit (refused_at misfit place) n.inside (ap (word_misfit P place) (sym n.read) ∙ a.0) refl)
  refused_word (Err OutOfMemory) d x v m e a =
      let is : load_error.OutOfMemory ≡ x = cc in
      subst (λ (y : LoadError). Read (book_of_words ws) program (Err y)) is tt

pub loop-place-preserved : goal.loop-place-preserved
loop-place-preserved c =
    let ws = c.args.words.now in
    let xs = c.loop-place.yielded in
    let turn = YieldsList-turn (YieldsList-from_skip 1 (YieldsList-from_enumerate (YieldsList-from_slice ws (cc)) (cc)) (cc)) xs _ c.loop-place.yielded_by _ _ (c.in-Some.place, c.in-Some.word) c.in-Some.is c.next.ensures.steps in
    let n = numbered ws (length xs) c.in-Some.place c.in-Some.word.now turn.0 turn.1 in
    let t = taken_word ws (program c.loop-place.table) (program c.add_word.new.table) (length xs) c.in-Some.place c.in-Some.word.now n c.loop-place.invariant.0 c.add_word.result (sym c.map_err.ensures.variant ∙ ap is_ok c.in_ok-map_err.was) c.add_word.ensures in
    let next : c.in-Some.place + 1 ≡ length (xs ++ (c.in-Some.place, c.in-Some.word) ∷ []) + 1 = omega (arith, n.at, length_push xs (c.in-Some.place, c.in-Some.word)) in
    (t.0 ∙ ap (λ i. read_on (program c.add_word.new.table) i (drop i ws)) next, omega (arith, t.1, next))

pub returns-in_err-map_err : goal.returns-in_err-map_err
returns-in_err-map_err c =
    let ws = c.args.words.now in
    let xs = c.loop-place.yielded in
    let turn = YieldsList-turn (YieldsList-from_skip 1 (YieldsList-from_enumerate (YieldsList-from_slice ws (cc)) (cc)) (cc)) xs _ c.loop-place.yielded_by _ _ (c.in-Some.place, c.in-Some.word) c.in-Some.is c.next.ensures.steps in
    let n = numbered ws (length xs) c.in-Some.place c.in-Some.word.now turn.0 turn.1 in
    let m : MatchResult c.add_word.result (λ _. ⊤) (λ e. c.map_err.result ≡ Err (rejected_at c.in-Some.place e)) = search rules in
    let is : c.from_residual-in_err-map_err.result ≡ Err c.in_err-map_err.field-0.0 = search rules in
    subst (λ (d : Result RuleTable LoadError). Read (book_of_words ws) program d) (sym is)
    (refused_word ws (program c.loop-place.table) (program c.add_word.new.table) (length xs) c.in-Some.place c.in-Some.word.now n c.loop-place.invariant.0 c.add_word.result c.map_err.result c.in_err-map_err.field-0.0 c.map_err.ensures.variant m c.in_err-map_err.was c.add_word.ensures)

pub returns : goal.returns
returns c =
    let P = program c.loop-place.table in
    let ws = c.args.words.now in
    let place = length c.loop-place.yielded + 1 in
    let end = YieldsList-end (YieldsList-from_skip 1 (YieldsList-from_enumerate (YieldsList-from_slice ws (cc)) (cc)) (cc)) c.loop-place.yielded _ c.loop-place.yielded_by _ _ c.in-None.is c.next.ensures.steps in
    c.loop-place.invariant.0 ∙ at_drop_all (read_on P place) ws place (omega (arith, end.1, length-drop 1 (enumerate_from 0 ws), length-enumerate_from 0 ws)) ∙ read_on_end P place
