use Rattle.std.proofs.Common.{length, ap, ap₂, arith, rules}
use Rattle.texts.specs.Buffered.{refusal_text}
use Rattle.texts.proofs.Lengths.{refusal_fits, length_refusal_text}
use Rattle.texts.proofs.Placed.{wrote_as, wrote_then, wrote_in_room, wrote_in_no_room}
use Rattle.texts.proofs.refusals.write_refusal.Goals as goal

pub returns-then-out-lt-REFUSAL_ROOM : goal.returns-then-out-lt-REFUSAL_ROOM
returns-then-out-lt-REFUSAL_ROOM c = wrote_in_no_room c.if-out-lt-REFUSAL_ROOM.true (refusal_fits c.args.number c.args.value (omega arith) (omega arith))

pub labelled-requires : goal.labelled-requires
labelled-requires c =
    let fits = refusal_fits c.from.result c.args.value (omega arith) (omega arith) in
    omega (arith, length_refusal_text c.from.result c.args.value, ap length c.new-line.ensures.out)

pub labelled-requires-2 : goal.labelled-requires-2
labelled-requires-2 c =
    let fits = refusal_fits c.from.result c.from-2.result (omega arith) (omega arith) in
    omega (arith, length_refusal_text c.from.result c.from-2.result, ap length c.new-line.ensures.out, c.labelled.ensures.long, c.labelled.ensures.until)

pub text-requires : goal.text-requires
text-requires c =
    let fits = refusal_fits c.from.result c.from-2.result (omega arith) (omega arith) in
    omega (
      arith,
      length_refusal_text c.from.result c.from-2.result,
      ap length c.new-line.ensures.out,
      c.labelled.ensures.long,
      c.labelled.ensures.until,
      c.labelled-2.ensures.long,
      c.labelled-2.ensures.until,
    )

pub returns : goal.returns
returns c =
    wrote_in_room c.if-out-lt-REFUSAL_ROOM.false (refusal_fits c.args.number c.args.value (omega arith) (omega arith)) c.new-line.ensures.at c.new-line.ensures.out
    (wrote_as (ap₂ refusal_text c.from.ensures c.from-2.ensures) (wrote_then c.labelled.ensures (wrote_then c.labelled-2.ensures c.text.ensures)))
    c.written.ensures (search rules)
