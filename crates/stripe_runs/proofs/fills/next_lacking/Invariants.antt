use Rattle.stripe_row.specs.Rows.{reading_of, AreHeld}
use Rattle.stripe_runs.proofs.fills.next_lacking.Given as goal

abbrev pub invariant-loop-role : goal.invariant-loop-role
invariant-loop-role l = AreHeld (reading_of l.members) l.row l.first l.role
