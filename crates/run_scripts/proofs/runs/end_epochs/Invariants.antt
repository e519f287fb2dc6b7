-- The epochs so far reach up to the next one's first mark.
use Rattle.std.proofs.Common.{◌≡◌}
use Rattle.run_session.specs.run_specs_Histories.{histories_of}
use Rattle.run_scripts.specs.Runs.{AreEndedBelow}
use Rattle.run_scripts.proofs.runs.end_epochs.Given as goal

abbrev pub invariant-loop-i : goal.invariant-loop-i
invariant-loop-i l = record {
  same : histories_of l.epochs.items ≡ histories_of l.fn.epochs.items;
  ended : AreEndedBelow l.i l.ops l.epochs.items;
}
