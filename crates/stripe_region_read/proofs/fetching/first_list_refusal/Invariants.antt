use Rattle.std.proofs.Common.{◌-◌, ◌<◌, ◌≤◌, ℕ}
use Rattle.stripe_region_read.specs.Stretches.{IsUnrelied}
use Rattle.stripe_region_read.proofs.fetching.first_list_refusal.Given as goal

abbrev pub decreases-loop-at : goal.decreases-loop-at
decreases-loop-at l = l.to - l.at

abbrev pub invariant-loop-at : goal.invariant-loop-at
invariant-loop-at l = record {
  from : l.from ≤ l.at;
  fine : (x : ℕ) → l.from ≤ x → x < l.at → IsUnrelied l.relied l.members x → ⊥;
}
