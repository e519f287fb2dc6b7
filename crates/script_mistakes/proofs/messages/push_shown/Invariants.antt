-- The bytes so far are there.
use Rattle.std.proofs.Common.{◌≡◌, ◌++◌, map, take}
use Rattle.script_mistakes.specs.Marked.{shown}
use Rattle.script_mistakes.proofs.messages.push_shown.Given as goal

abbrev pub invariant-loop-byte : goal.invariant-loop-byte
invariant-loop-byte l = l.text.items ≡ l.initial.text.items ++ map shown (take l.byte-index l.line)
