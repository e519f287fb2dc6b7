use Rattle.std.proofs.Common.{◌-◌, ◌<◌, ◌≤◌, ℕ}
use Rattle.stripe_io.specs.history_Stands.{shape_for}
use Rattle.stripe_io.specs.array_members_Lacking.{DoesWithout}
use Rattle.stripe_region_read.proofs.fetching.too_many_in.Given as goal

abbrev pub decreases-loop-at : goal.decreases-loop-at
decreases-loop-at l = l.to - l.at

abbrev pub invariant-loop-at : goal.invariant-loop-at
invariant-loop-at l = record {
  from : l.from ≤ l.at;
  fine : (x : ℕ) → l.from ≤ x → x < l.at → DoesWithout (shape_for l.members.newest x) l.members;
}
