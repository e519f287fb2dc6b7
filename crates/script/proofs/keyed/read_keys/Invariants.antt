-- What is given so far, with the words that are left.
use Rattle.std.proofs.Common.{◌≡◌}
use Rattle.script_words.specs.Numbers.{words_of}
use Rattle.script.specs.Reading.{read_keys, nothing_given}
use Rattle.script.proofs.keyed.read_keys.Given as goal

abbrev pub invariant-loop-word : goal.invariant-loop-word
invariant-loop-word l = record {
  rest : read_keys l.verb nothing_given (words_of l.fn.words.line.now) ≡ read_keys l.verb l.given (words_of l.values.line.now);
  same : words_of l.left.line.now ≡ words_of l.values.line.now;
}
