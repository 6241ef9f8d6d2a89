use Rattle.std.proofs.Common.{length, string_bytes, decimal}
use lib.Utf8.{encode}
use Rattle.lines.proofs.Written.{words_more, words_all, words_read}
use Rattle.lines.proofs.writing.words_line.Goals as goal

pub loop-word-preserved : goal.loop-word-preserved
loop-word-preserved c =
    let i = c.loop-word.word-index in
    let written = rw (c.in_radix.ensures, c.laid_out.ensures) at c.in_ok-write.ensures.bytes in
    words_more (decimal (length c.args.words.now)) (string_bytes c.loop-word.text) (string_bytes c.write.new.self) c.args.words.now i c.loop-word-test.true (c.type_inv.words i).fits c.loop-word.invariant written

pub returns : goal.returns
unfolding encode
returns c =
    record {
      whole =
          words_all (string_bytes c.loop-word.text) (string_bytes c.push.new.self) c.args.words.now c.loop-word.word-index c.loop-word-test.false c.loop-word.invariant
          c.in_ok-push.ensures.bytes;
      read = words_read c.args.words.now (λ i. (c.type_inv.words i).fits);
    }
