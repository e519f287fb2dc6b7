-- The rest of the text, and the words that it has.
use Rattle.std.proofs.Common.{◌≡◌, ◌-◌, ◌≤◌, length, drop}
use Rattle.script_words.specs.Numbers.{words_of}
use Rattle.script.proofs.diagnosis.place_of.Given as goal

abbrev pub invariant-loop-more : goal.invariant-loop-more
invariant-loop-more l = record {
  tail : l.line ≡ drop (length l.text - length l.line) l.text;
  within : length l.line ≤ length l.text;
  words : words_of l.line ≡ drop (length (words_of l.text) - l.more) (words_of l.text);
  kept : length (words_of l.text) - l.more ≤ length (words_of l.text) - l.wrong.left;
  few : l.more ≤ length (words_of l.text);
}

abbrev pub decreases-loop-more : goal.decreases-loop-more
decreases-loop-more l = l.more
