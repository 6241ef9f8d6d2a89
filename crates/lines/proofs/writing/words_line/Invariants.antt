use Rattle.std.proofs.Common.{◌≡◌, ◌++◌, length, take, string_bytes, decimal}
use Rattle.std.specs.List.{flat_map}
use Rattle.lines.specs.Answers.{word_text}
use Rattle.lines.proofs.writing.words_line.Given as goal

abbrev pub invariant-loop-word : goal.invariant-loop-word
invariant-loop-word l = string_bytes l.text ≡ decimal (length l.words) ++ flat_map word_text (take l.word-index l.words)
