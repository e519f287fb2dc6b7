use Rattle.std.proofs.Common.{◌≡◌, ◌≤◌, ◌+◌, ◌*◌, ◌^◌}
use Rattle.sb_add_spare.specs.array_members_Status.{recovery_left}
use Rattle.array_state.proofs.asking.recovery_left.Given as goal

-- the steps of the roles before this one are counted
abbrev pub invariant-loop-role : goal.invariant-loop-role
invariant-loop-role l = (l.left ≡ recovery_left l.work l.members l.role) × (l.left ≤ l.role * (2 ^ 48 + 1))
