use Rattle.script_io.proofs.Pushes.{IsWritten}
use Rattle.script_io.proofs.adapters.write_whole.Given as goal

abbrev pub invariant-loop : goal.invariant-loop
invariant-loop g l = IsWritten (g.W.Write.contents l.initial.writer) (g.W.Write.contents l.writer) l.initial.rest l.rest
