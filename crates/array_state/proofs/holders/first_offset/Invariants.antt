use Rattle.std.proofs.Common.{◌≡◌, ◌<◌, ℕ, true}
use Rattle.sb_add_spare.specs.stripe_row_Rows.{reading_of}
use Rattle.sb_add_spare.specs.array_members_Placed.{is_unassigned}
use Rattle.array_state.proofs.holders.first_offset.Given as goal

-- no role before this one is held
abbrev pub invariant-loop-role : goal.invariant-loop-role
invariant-loop-role l = (role : ℕ) → role < l.role → is_unassigned (reading_of l.members) role ≡ true
