-- An atom is its own payload.
use Rattle.std.proofs.Common.{◌≡◌, ℕ, ◌≤◌, false, cond, not, ◌&&◌, leb, Some, None, Option, sym, ap, ◌∙◌, arith}
use Rattle.std.proofs.lemmas.Bool.{le-leb, and_from, not_from_false}
use Rattle.sets.specs.Limits.{max_atoms}
use Rattle.sets.specs.Sets.{has}
use Rattle.base.specs.Words.{word, payload}
use Rattle.base.specs.declared.words.Kind.{Kind}
use Rattle.base.specs.declared.words.Kind.TheVariants.{TrueNode, FalseNode}
use Rattle.base.proofs.WordForms.{payload_small}
use Rattle.settling.specs.declared.settling.WellFounded.{WellFounded}
use Rattle.case.specs.Calls.{node_word}
use Rattle.case.proofs.telling.StatusesAtomMarks.word_for.Goals as goal
use Rattle.case.proofs.telling.StatusesAtomMarks.word_for.Goals.{then-contains-2, else-contains-2}

-- the word of an atom that is marked
marked : (w : WellFounded) (a : ℕ) (k : Kind) → a ≤ max_atoms → has w.unsettled a ≡ false → k ≡ cond (has w.trues a) TrueNode FalseNode → ◌≡◌ {A = Option ℕ} (Some (word k (payload a))) (cond (leb a max_atoms && not (has w.unsettled a)) (Some (node_word (has w.trues) a)) None)
marked w a k low open' kind =
    ap (λ p. Some (word k p)) (payload_small a (omega (arith, low))) ∙ ap (λ x. Some (word x a)) kind
    ∙ sym (ap (λ b. cond b (Some (node_word (has w.trues) a)) None) (and_from (leb a max_atoms) (not (has w.unsettled a)) (le-leb a max_atoms low) (not_from_false (has w.unsettled a) open')))

pub returns : goal.returns
returns c =
    let w = c.args.self.now.settled in
    let a = c.args.atom in
    let kind : c.if-contains-2.kind ≡ cond (has w.trues a) TrueNode FalseNode =
    elim c.if-contains-2.branch [
      | then-contains-2 b ↦ b.kind-is ∙ ap (λ t. cond t TrueNode FalseNode) (sym b.if-contains-2.true ∙ c.contains-2.ensures)
      | else-contains-2 b ↦ b.kind-is ∙ ap (λ t. cond t TrueNode FalseNode) (sym b.if-contains-2.false ∙ c.contains-2.ensures)
    ] in
    ap Some c.from.ensures ∙ marked w a c.if-contains-2.kind c.if-atom-gt-MAX_ATOMS.false (sym c.if-contains.ensures) kind
