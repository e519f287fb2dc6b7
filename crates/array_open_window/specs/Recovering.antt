-- The slots that recover a role.
use Rattle.std.specs.Prelude.{◌≡◌, ℕ, true}
use Rattle.array_reshaping_state.specs.raid_types_Shapes.{has_slot}
use Rattle.array_reshaping_state.specs.raid_types_the_Role_TheVariants.{Recovering}
use Rattle.array_reshaping_state.specs.sb_specs_the_Members.{Members}
use Rattle.array_reshaping_state.specs.sb_specs_Reading.{role_state}
use Rattle.array_reshaping_state.specs.stripe_row_Rows.{reading_of}

-- these are the slots that recover a role: in a reshape they count as absent
pub record AreRecovering (members : Members) (slots : ℕ) : Type 0 where
  pub each : (role slot : ℕ) → role_state (reading_of members) role ≡ Recovering slot → has_slot slots slot ≡ true
  pub only : (slot : ℕ) → has_slot slots slot ≡ true → (role : ℕ) × (role_state (reading_of members) role ≡ Recovering slot)
