-- A buffer that a call wrote to. Assumes nothing.
use Rattle.std.proofs.Common.{◌≡◌, ℕ, ◌≤◌, cond, leb, List, ◌++◌, length, take, drop, Ok, Err, Result, ap, ◌∙◌, ⊎_elim, arith}
use Rattle.std.proofs.lemmas.List.{length-append, take-take, take-append-le, take_all}
use Rattle.std.proofs.lemmas.Bool.{cases_Bool, leb-true, le-leb}
use Rattle.base.specs.Buffers.{written_over, WroteInRoom}
use Rattle.base.specs.declared.refusal.Refusal.{Refusal}
use Rattle.base.specs.declared.refusal.Refusal.TheVariants.{BufferTooShort}

module _ {X : Type 0} (needed : ℕ) (ws old new : List X) where
  -- a call that answered a number wrote as much, and had the room that it needs
  module _ (count : ℕ) (w : WroteInRoom needed ws old (Ok count) new) where
    pub written : (needed ≤ length old) × (count ≡ length ws) × (new ≡ written_over ws old)
    written = ⊎_elim
        (λ t. let e : ◌≡◌ {A = Result ℕ Refusal} (Ok count) (Ok (length ws)) = w.answer ∙ ap (λ b. cond b (Ok (length ws)) (Err (BufferTooShort needed))) t in
        (leb-true needed (length old) t, (cc), w.wrote ∙ ap (λ b. cond b (written_over ws old) old) t))
        (λ f. absurd (let e : ◌≡◌ {A = Result ℕ Refusal} (Ok count) (Err (BufferTooShort needed)) = w.answer ∙ ap (λ b. cond b (Ok (length ws)) (Err (BufferTooShort needed))) f in let z : ◌≡◌ {A = ℕ} 0 1 = cc in omega arith))
        (cases_Bool (leb needed (length old)))

    -- what is kept of the buffer where all behind the number is cut off
    pub kept_front : (rest : List X) → take count (take (length old) (new ++ rest)) ≡ ws
    kept_front rest =
        let o = written in
        let few = w.enough in
        let back = drop (length ws) old in
        let room : count ≤ length old = omega (arith, o.0, o.1) in
        let long : length ws ≤ length (ws ++ back) = omega (arith, length-append ws back) in
        take-take count (length old) (new ++ rest) room
        ∙ ap (λ k. take k (new ++ rest)) o.1 ∙ ap (λ xs. take (length ws) (xs ++ rest)) o.2
        ∙ take-append-le (length ws) (ws ++ back) rest long ∙ take-append-le (length ws) ws back (omega arith) ∙ take_all (length ws) ws (omega arith)

  -- with the room that it needs no call refuses
  pub never_refused : (f : Refusal) → needed ≤ length old → WroteInRoom needed ws old (Err f) new → ⊥
  never_refused f h w =
      let e : ◌≡◌ {A = Result ℕ Refusal} (Err f) (Ok (length ws)) = w.answer ∙ ap (λ b. cond b (Ok (length ws)) (Err (BufferTooShort needed))) (le-leb needed (length old) h) in
      let z : ◌≡◌ {A = ℕ} 0 1 = cc in omega arith
