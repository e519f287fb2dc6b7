use Rattle.std.proofs.Common.{◌≡◌, ◌<◌, ℕ, true}
use Rattle.array_reshaping_state.specs.raid_types_Shapes.{has_slot}
use Rattle.array_reshaping_state.specs.raid_types_the_Role_TheVariants.{Recovering}
use Rattle.array_reshaping_state.specs.sb_specs_Reading.{role_state}
use Rattle.array_reshaping_state.specs.stripe_row_Rows.{reading_of}
use Rattle.array_open_window.proofs.recovering.recovering_slots.Given as goal

-- the slots that recover a role before this one
abbrev pub invariant-loop-role : goal.invariant-loop-role
invariant-loop-role l = ((role slot : ℕ) → role < l.role → role_state (reading_of l.members) role ≡ Recovering slot → has_slot l.slots slot ≡ true)
    × ((slot : ℕ) → has_slot l.slots slot ≡ true → (role : ℕ) × (role_state (reading_of l.members) role ≡ Recovering slot))
