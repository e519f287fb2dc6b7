use Rattle.std.proofs.Common.{◌≡◌, ◌<◌, ℕ, false}
use Rattle.array_fixed_io.specs.sb_specs_Reading.{role_state}
use Rattle.array_fixed_io.specs.stripe_row_Rows.{reading_of}
use Rattle.array_fixed_io.specs.array_type_Rebuilding.{recovers}
use Rattle.array_fixed_sync.proofs.choosing.first_recovering.Given as goal

-- no lower one passes
abbrev pub invariant-loop-role : goal.invariant-loop-role
invariant-loop-role l = (role : ℕ) → role < l.role → recovers (role_state (reading_of l.members) role) ≡ false
