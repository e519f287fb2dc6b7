use Rattle.std.proofs.Common.{◌≡◌, ◌<◌, ℕ, false}
use Rattle.array_fixed_io.specs.stripe_row_Rows.{reading_of}
use Rattle.array_fixed_io.specs.array_members_Placed.{is_unassigned}
use Rattle.array_fixed_sync.proofs.choosing.first_unassigned.Given as goal

-- no lower one passes
abbrev pub invariant-loop-role : goal.invariant-loop-role
invariant-loop-role l = (role : ℕ) → role < l.role → is_unassigned (reading_of l.members) role ≡ false
