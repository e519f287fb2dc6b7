-- What is counted so far, and what is left to count.
use Rattle.std.proofs.Common.{◌≡◌, ◌+◌, drop}
use Rattle.run_session.specs.Sessions.{front_length}
use Rattle.run_session.proofs.blocks.front_length.Given as goal

abbrev pub invariant-loop-i : goal.invariant-loop-i
invariant-loop-i l = front_length l.lines ≡ l.i + front_length (drop l.i l.lines)
