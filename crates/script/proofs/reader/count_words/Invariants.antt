-- Those counted and those left are all.
use Rattle.std.proofs.Common.{◌≡◌, ◌+◌, length}
use Rattle.script_words.specs.Numbers.{words_of}
use Rattle.script.proofs.reader.count_words.Given as goal

abbrev pub invariant-loop-words : goal.invariant-loop-words
invariant-loop-words l = l.count + length (words_of l.words.line.now) ≡ length (words_of l.fn.words.line.now)
