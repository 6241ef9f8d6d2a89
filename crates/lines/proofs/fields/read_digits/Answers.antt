use Rattle.std.proofs.Common.{ap, arith}
use Rattle.std.specs.Char.{digit_value}
use Rattle.lines.proofs.Valued.{too_large}
use Rattle.lines.proofs.fields.read_digits.Goals as goal

pub returns-in_err-checked_mul : goal.returns-in_err-checked_mul
returns-in_err-checked_mul c =
    rw c.from_residual-in_err-checked_mul.ensures (λ all.
    let large = c.in_err-checked_mul.ensures in
    too_large c.loop-byte.byte-index c.loop-byte-test.true (omega arith) (omega arith) c.loop-byte.invariant.1 all.1)

pub returns-in_err-number : goal.returns-in_err-number
returns-in_err-number c =
    rw c.from_residual-in_err-number.ensures (λ all.
    let same = ap digit_value c.from.ensures in
    let digit = c.in_ok-digit.ensures.value.1 in
    let product = c.in_ok-checked_mul.ensures.1 in
    let large = c.in_err-number.ensures in
    too_large c.loop-byte.byte-index c.loop-byte-test.true (omega arith) (omega arith) c.loop-byte.invariant.1 all.1)
