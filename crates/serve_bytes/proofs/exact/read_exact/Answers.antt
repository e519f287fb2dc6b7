use Rattle.std.proofs.Common.{ℕ, arith}
use Rattle.std.proofs.lemmas.List.{length-take, length-drop}
use Rattle.serve_bytes.proofs.Filling.{filled_more}
use Rattle.serve_bytes.proofs.exact.read_exact.Goals as goal

pub loop-done-preserved : goal.loop-done-preserved
loop-done-preserved g c = record {
  filled = filled_more _ _ _ _ c.loop-done.into c.pull.new.into c.loop-done.done c.in-Ok.count c.loop-done.invariant.filled (omega (arith, c.pull.auto.into, length-take {A = ℕ}, length-drop {A = ℕ})) (omega (arith, c.pull.auto.into, c.in-Ok.ensures.within)) c.in-Ok.ensures.pulled;
  faults = omega (arith, c.loop-done.invariant.faults, c.pull.ensures.cause.never_falls);
}
