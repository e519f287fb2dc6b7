-- What is counted so far, and what is left to count.
use Rattle.std.proofs.Common.{◌≡◌, ◌+◌, drop}
use Rattle.run_session.specs.Sessions.{block_length}
use Rattle.run_session.proofs.blocks.block_length.Given as goal

abbrev pub invariant-loop-i : goal.invariant-loop-i
invariant-loop-i l = block_length l.lines ≡ l.i + block_length (drop l.i l.lines)
