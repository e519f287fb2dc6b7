-- The words that are left decide.
use Rattle.std.proofs.Common.{◌≡◌, drop}
use Rattle.script.specs.Tables.{block_word_in}
use Rattle.script.proofs.tables.block_word_in.Given as goal

abbrev pub invariant-loop-block_word : goal.invariant-loop-block_word
invariant-loop-block_word l = block_word_in l.known l.word ≡ block_word_in (drop l.block_word-index l.known) l.word
