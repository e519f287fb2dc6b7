use Rattle.std.proofs.Common.{◌≡◌, ◌<◌, ℕ, true, Some}
use Rattle.array_reshaping_steps.specs.raid_types_Shapes.{has_slot}
use Rattle.array_reshaping_steps.specs.sb_specs_Reading.{role_state, holder}
use Rattle.array_reshaping_steps.specs.stripe_row_Rows.{reading_of}
use Rattle.array_transition.proofs.ending.holders_below.Given as goal

-- those of the roles before this one are in the set, and no others
abbrev pub invariant-loop-role : goal.invariant-loop-role
invariant-loop-role l = record {
  all : (role slot : ℕ) → role < l.role → holder (role_state (reading_of l.members) role) ≡ Some slot → has_slot l.set slot ≡ true;
  only : (slot : ℕ) → has_slot l.set slot ≡ true → (role : ℕ) × (role < l.role) × (holder (role_state (reading_of l.members) role) ≡ Some slot);
}
