use Rattle.std.proofs.Common.{◌^◌, ◌<◌, drop}
use Rattle.lines.proofs.Valued.{Left}
use Rattle.lines.proofs.fields.read_digits.Given as goal

abbrev pub invariant-loop-byte : goal.invariant-loop-byte
invariant-loop-byte l = (l.number < 2 ^ 32) × Left l.radix l.number l.digits (drop l.byte-index l.digits)
