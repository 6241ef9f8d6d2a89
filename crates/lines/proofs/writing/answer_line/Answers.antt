use Rattle.std.proofs.Common.{◌≡◌, ◌++◌, string_bytes, codes, ◌∙◌, append_assoc}
use Rattle.std.proofs.lemmas.Result.{IfOk-weaker}
use Rattle.base.specs.Refusals.{told}
use Rattle.base.specs.declared.refusal.Refusal.{Refusal}
use Rattle.texts.specs.Texts.{refusal_line}
use Rattle.lines.proofs.writing.answer_line.Goals as goal

told_line : (f : Refusal) → told f ++ codes "\n" ≡ refusal_line f
told_line f = simp append_assoc

pub returns-in-Err : goal.returns-in-Err
returns-in-Err c =
    rw c.in-Err.is (IfOk-weaker c.format.result (λ text. string_bytes text ≡ told c.in-Err.refusal ++ codes "\n") (λ text. string_bytes text ≡ refusal_line c.in-Err.refusal) (λ text e. e ∙ told_line c.in-Err.refusal) c.format.ensures.ok)
