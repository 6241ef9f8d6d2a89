-- What was found of a text is all that it is. Assumes nothing.
use Rattle.std.proofs.Common.{◌≡◌, ℕ, List, [], ◌∷◌, length, get_or, refl, ap, subst, inl, inr, arith}
use Rattle.std.proofs.lemmas.List.{nil_from_length}
use Rattle.runs.specs.Runs.{Call}
use Rattle.lines.specs.Calls.{skipped, asks}
use Rattle.lines.specs.Lines.{LineOf, PassedOver, Reads}
use Rattle.lines.proofs.Named.{begins_late, line_only}

pub empty_over : (text : List ℕ) → length text ≡ 0 → PassedOver text
empty_over text none = inl (nil_from_length text none)

pub marked_over : (text : List ℕ) → get_or text 0 0 ≡ 35 → PassedOver text
marked_over [] marked = inl refl
marked_over (b ∷ rest) marked = inr (rest, ap (λ x. x ∷ rest) marked)

line_counts : (text : List ℕ) (c : Call) → LineOf c text → PassedOver text → ⊥
line_counts text c l (inl none) = omega (arith, begins_late text c l, ap (λ xs. get_or xs 0 0) none)
line_counts text c l (inr (rest, marked)) = omega (arith, begins_late text c l, ap (λ xs. get_or xs 0 0) marked)

pub reads_skipped : {text : List ℕ} → PassedOver text → Reads text skipped
reads_skipped {text} over =
    record {
      passed_over = (λ _. over, λ _. refl);
      call = λ c. (λ e. let z : ◌≡◌ {A = ℕ} 0 1 = cc in absurd (omega arith), λ l. absurd (line_counts text c l over));
      neither = (λ e. let z : ◌≡◌ {A = ℕ} 0 1 = cc in absurd (omega arith), λ none. absurd (none.0 over));
    }

pub reads_call : {text : List ℕ} (c : Call) → LineOf c text → Reads text (asks c)
reads_call {text} c l =
    record {
      passed_over = (λ e. let z : ◌≡◌ {A = ℕ} 0 1 = cc in absurd (omega arith), λ over. absurd (line_counts text c l over));
      call = λ d. (λ e. let same : c ≡ d = cc in subst (λ x. LineOf x text) same l, λ m. let same : d ≡ c = line_only text c d l m in cc);
      neither = (λ e. let z : ◌≡◌ {A = ℕ} 0 1 = cc in absurd (omega arith), λ none. absurd (none.1 c l));
    }
