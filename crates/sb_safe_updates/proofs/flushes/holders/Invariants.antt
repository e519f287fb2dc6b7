use Rattle.std.proofs.Common.{◌≡◌, ◌<◌, ℕ, true, Some}
use Rattle.raid_layout.specs.raid_types_Shapes.{has_slot}
use Rattle.sb_update.specs.sb_specs_Reading.{role_state, holder}
use Rattle.array_members.specs.stripe_row_Rows.{reading_of}
use Rattle.sb_safe_updates.proofs.flushes.holders.Given as goal

abbrev pub invariant-loop-role : goal.invariant-loop-role
invariant-loop-role l = record {
  all : (role slot : ℕ) → role < l.role → holder (role_state (reading_of l.members) role) ≡ Some slot → has_slot l.set slot ≡ true;
  only : (slot : ℕ) → has_slot l.set slot ≡ true → (role : ℕ) × (holder (role_state (reading_of l.members) role) ≡ Some slot);
}
