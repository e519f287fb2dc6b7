-- What the lines so far asked was taken, and none of them was bad.
use Rattle.std.proofs.Common.{◌≡◌, length}
use Rattle.script.specs.Script.{lines_of}
use Rattle.script.proofs.ScriptLaws.{SoFar}
use Rattle.script.proofs.lines.read_lines.Given as goal

abbrev pub invariant-loop-line : goal.invariant-loop-line
invariant-loop-line l =
    (l.number ≡ length l.yielded) × SoFar l.fn.blocks (lines_of l.fn.text) (length l.yielded) l.turns.script.items l.turns.waiting.items l.inside l.sectors
