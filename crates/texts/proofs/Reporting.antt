-- The lines of a report, one atom more, and the line of a refusal. Assumes nothing.
use Rattle.std.proofs.Common.{◌≡◌, ℕ, suc, ◌-◌, ◌≤◌, Bool, true, false, cond, List, ◌++◌, codes, decimal, sym, refl, ap, ◌∙◌, append_assoc, arith}
use Rattle.base.specs.Refusals.{told}
use Rattle.base.specs.declared.refusal.Refusal.{Refusal}
use Rattle.texts.specs.Texts.{atom_line, atom_lines, refusal_line}
use Rattle.texts.specs.Buffered.{sign}

signed : (planned : Bool) → codes " " ++ (sign planned ++ codes "\n") ≡ cond planned (codes " +\n") (codes " -\n")
signed true = refl
signed false = refl

-- a text with the line of atom a written behind it
pub lines_more : (plan : ℕ → Bool) (front text after : List ℕ) (a : ℕ) → 1 ≤ a → text ≡ front ++ atom_lines plan (a - 1) →
    after ≡ text ++ (decimal a ++ (codes " " ++ (sign (plan a) ++ codes "\n"))) → after ≡ front ++ atom_lines plan a
lines_more plan front text after a low before grown =
    let next : suc (a - 1) ≡ a = omega arith in
    grown
    ∙ ap (λ line. text ++ (decimal a ++ line)) (signed (plan a))
    ∙ ap (λ lines. lines ++ atom_line plan a) before
    ∙ append_assoc front (atom_lines plan (a - 1)) (atom_line plan a)
    ∙ ap (λ line. front ++ (atom_lines plan (a - 1) ++ line)) (ap (atom_line plan) (sym next))
    ∙ ap (λ n. front ++ atom_lines plan n) next

pub line_of_refusal : (f : Refusal) → told f ++ codes "\n" ≡ refusal_line f
line_of_refusal f = simp append_assoc
