use Rattle.std.proofs.Common.{◌≡◌, ℕ, ◌+◌, ◌/◌, ◌%◌, ◌^◌, ◌<◌, ◌≤◌, length, decimal, sym, ap, ◌∙◌, arith}
use Rattle.std.proofs.lemmas.List.{length_push}
use Rattle.std.proofs.lemmas.Fmt.{decimal_digit, decimal_step, decimal_nonempty}
use Rattle.texts.proofs.Placed.{wrote_as, wrote_then}
use Rattle.texts.proofs.writing.Writer.+number.Goals as goal

one_more : (n : ℕ) → 10 ≤ n → n < 2 ^ 64 → length (decimal n) ≡ length (decimal (n / 10)) + 1
one_more n many small = ap length (decimal_step n many (omega arith)) ∙ length_push (decimal (n / 10)) (48 + n % 10)

pub digit-requires-clause-room : goal.digit-requires-clause-room
digit-requires-clause-room t c = omega (arith, decimal_nonempty c.args.value (omega arith))

pub returns-then-value-lt10 : goal.returns-then-value-lt10
returns-then-value-lt10 t c = wrote_as (sym (decimal_digit c.args.value c.if-value-lt10.true)) c.digit.ensures

pub number-requires : goal.number-requires
number-requires t c = (omega arith, omega (arith, one_more c.args.value (omega arith) (omega arith)))

pub digit-requires-2-clause-room : goal.digit-requires-2-clause-room
digit-requires-2-clause-room t c = omega (arith, one_more c.args.value (omega arith) (omega arith), c.number.ensures.long, c.number.ensures.until)

pub returns : goal.returns
returns t c = wrote_as (sym (decimal_step c.args.value (omega arith) (omega arith))) (wrote_then c.number.ensures c.digit-2.ensures)
