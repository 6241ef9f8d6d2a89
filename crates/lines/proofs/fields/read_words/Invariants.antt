use Rattle.std.proofs.Common.{◌≡◌, vec_items}
use Rattle.std.specs.Slice.Iter.{chunks_rest, chunks_size}
use Rattle.lines.proofs.Spaced.{Sofar}
use Rattle.lines.proofs.fields.read_words.Given as goal

abbrev pub invariant-loop-field : goal.invariant-loop-field
invariant-loop-field l =
    goal.iterator-loop-field.can_next l.field-iterator
    × goal.iterator-loop-field.is_finite l.field-iterator
    × (chunks_size l.field-iterator ≡ 9)
    × Sofar l.fields (vec_items l.words) (chunks_rest l.field-iterator)
