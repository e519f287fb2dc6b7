-- What the lines so far ask.
use Rattle.std.proofs.Common.{◌≡◌, take}
use Rattle.run_line_answers.specs.run_specs_Blocks.{requests_in}
use Rattle.run_blocks.proofs.together.requests_of.Given as goal

abbrev pub invariant-loop-i : goal.invariant-loop-i
invariant-loop-i l = l.requests.items ≡ requests_in (take l.i l.lines)
