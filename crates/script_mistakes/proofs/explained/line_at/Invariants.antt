-- So many lines were passed over.
use Rattle.std.proofs.Common.{◌≡◌, ◌+◌, length}
use Rattle.script_mistakes.proofs.explained.line_at.Given as goal

abbrev pub invariant-loop-line : goal.invariant-loop-line
invariant-loop-line l = l.left + length l.yielded ≡ l.fn.index
