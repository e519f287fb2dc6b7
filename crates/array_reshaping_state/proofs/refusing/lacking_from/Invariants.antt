use Rattle.std.proofs.Common.{◌-◌, ◌<◌, ◌≤◌, ℕ}
use Rattle.reshape_progress.specs.history_Stands.{shape_for}
use Rattle.reshape_progress.specs.array_members_Lacking.{DoesWithout}
use Rattle.array_reshaping_state.proofs.refusing.lacking_from.Given as goal

abbrev pub decreases-loop-at : goal.decreases-loop-at
decreases-loop-at l = l.to - l.at

abbrev pub invariant-loop-at : goal.invariant-loop-at
invariant-loop-at l = record {
  from : l.first ≤ l.at;
  fine : (x : ℕ) → l.first ≤ x → x < l.at → DoesWithout (shape_for l.members.newest x) l.members;
}
