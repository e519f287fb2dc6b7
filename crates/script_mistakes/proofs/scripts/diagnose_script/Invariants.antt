-- So many lines were read, and none was bad.
use Rattle.std.proofs.Common.{◌≡◌, length}
use Rattle.script.specs.Script.{lines_of}
use Rattle.script_mistakes.proofs.ReadLaws.{ReadTo}
use Rattle.script_mistakes.proofs.scripts.diagnose_script.Given as goal

abbrev pub invariant-loop-line : goal.invariant-loop-line
invariant-loop-line l = (l.number ≡ length l.yielded) × ReadTo (lines_of l.text) (length l.yielded) l.inside l.sectors
