use Rattle.std.proofs.Common.{◌≡◌, ◌+◌, ◌<◌, ◌≤◌, ℕ}
use Rattle.stripe_row.specs.Rows.{reading_of, is_held}
use Rattle.stripe_runs.specs.declared.runs.Run.{Run}
use Rattle.stripe_runs.specs.Runs.{IsRunAt}
use Rattle.stripe_runs.proofs.runs.run_at.Given as goal

abbrev pub invariant-loop-role : goal.invariant-loop-role
invariant-loop-role l = record {
  some : 0 < l.count;
  most : l.count ≤ l.initial.count;
  held : (role j : ℕ) → role < l.role → j < l.count → is_held (reading_of l.members) role (l.row + j) ≡ is_held (reading_of l.members) role l.row;
  longest : (run : Run) → run.at ≡ l.at → IsRunAt (reading_of l.members) l.shape l.rows run → run.count ≤ l.count;
}
