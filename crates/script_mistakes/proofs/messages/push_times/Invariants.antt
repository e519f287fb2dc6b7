-- So many are there.
use Rattle.std.proofs.Common.{◌≡◌, ◌++◌, replicate}
use Rattle.script_mistakes.proofs.messages.push_times.Given as goal

abbrev pub invariant-loop-done : goal.invariant-loop-done
invariant-loop-done l = l.text.items ≡ l.initial.text.items ++ replicate l._done l.byte
