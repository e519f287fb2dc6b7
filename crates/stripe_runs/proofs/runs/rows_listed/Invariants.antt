use Rattle.std.proofs.Common.{◌≡◌, ◌+◌, ◌<◌, ℕ}
use Rattle.std.specs.Prelude.{slice_index}
use Rattle.stripe_runs.proofs.runs.rows_listed.Given as goal

abbrev pub invariant-loop-count : goal.invariant-loop-count
invariant-loop-count l = (j : ℕ) → j < l.count → slice_index l.rows (l.at + j) ≡ slice_index l.rows l.at + j
