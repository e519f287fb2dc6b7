use Rattle.std.proofs.Common.{ℕ, arith, ◌-◌}
use Rattle.std.proofs.lemmas.List.{length-take, length-append}
use Rattle.serve_bytes.proofs.Filling.{passed_more, ended_behind, failed_behind}
use Rattle.serve_bytes.proofs.exact.skip.Goals as goal

pub loop-left-preserved : goal.loop-left-preserved
loop-left-preserved g c = record {
  below = omega arith;
  passed = passed_more _ _ _ _ c.read_exact.new.into _ (c.args.count - c.loop-left.left) c.min-some.result _ c.loop-left.invariant.passed (omega (arith, c.read_exact.auto.into, length-take {A = ℕ}, length-append {A = ℕ})) (omega arith) c.in-Ok.ensures.read;
  faults = omega (arith, c.loop-left.invariant.faults, c.read_exact.ensures.blamed.never_falls);
}

pub returns-in-Err-Ended-clause-skipped : goal.returns-in-Err-Ended-clause-skipped
returns-in-Err-Ended-clause-skipped g c =
    rw c.in-Err-Ended.field-0-is (ended_behind _ _ _ _ c.read_exact.new.into (c.args.count - c.loop-left.left) c.in-Err-Ended.there _ c.loop-left.invariant.passed (omega (arith, c.read_exact.auto.into, length-take {A = ℕ}, length-append {A = ℕ})) (rw c.in-Err-Ended.field-0-is at c.in-Err-Ended.ensures.read))

pub returns-in-Err-Failed-clause-skipped : goal.returns-in-Err-Failed-clause-skipped
returns-in-Err-Failed-clause-skipped g c =
    failed_behind _ _ _ _ c.read_exact.new.into (c.args.count - c.loop-left.left) _ c.loop-left.invariant.passed (omega (arith, c.read_exact.auto.into, length-take {A = ℕ}, length-append {A = ℕ})) (rw c.in-Err-Failed.field-0-is at c.in-Err-Failed.ensures.read)
