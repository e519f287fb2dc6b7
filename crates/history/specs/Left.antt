-- The background steps that are left at an opening, and what the opening tells: its losses and its status.
use Rattle.std.specs.Prelude.{ℕ, ◌+◌, ◌-◌, ◌*◌, ◌/◌, Bool, true, false, if◌then◌else◌, min, List, [], ◌∷◌, length, map, fold, count_by, is_some}
use Rattle.std.specs.Option.{option_map_or}
use Rattle.raid_types.specs.declared.places.Shape.{Shape}
use Rattle.raid_types.specs.declared.status.Role.{Role}
use Rattle.raid_types.specs.declared.status.Role.TheVariants.{Whole, Recovering, Missing}
use Rattle.raid_types.specs.Shapes.{stripe_sectors}
use Rattle.history.specs.declared.events.LostCause.{LostCause}
use Rattle.history.specs.declared.events.LostCause.TheVariants.{Absent, Recovering as WasRecovering}
use Rattle.bank.specs.Tape.{Contents}
use Rattle.reshape_plan.specs.reshape_geometry_Geometry.{ceiling, steps_of, beyond}
use Rattle.sb_read_laws.specs.sb_specs_Reading.{Scope, Reading, is_reshaping, is_backward, is_clean, shape_of, final_shape, own_of}
use Rattle.history.specs.ActiveSection.{active_section}

-- ---- steps

-- a resync of an array with one shape: each stripe, and its end
abbrev pub resync_steps : Shape → ℕ → ℕ
resync_steps shape size = size / shape.chunk + 1

-- A resync in a reshape at a position: the stripes of both regions, and its end. The region that the list begins with
-- takes the stripes up to the position, the other one those from it on.
abbrev pub resync_steps_between : Shape → Shape → ℕ → ℕ → ℕ
resync_steps_between below above size position =
    ceiling position (stripe_sectors below) + (size / above.chunk - position / stripe_sectors above) + 1

abbrev pub resync_steps_at : Shape → Shape → ℕ → Bool → ℕ → ℕ
resync_steps_at old new size back position =
    if back then resync_steps_between old new size position else resync_steps_between new old size position

-- a rebuild from a spare: the spare gets the role, each stripe, and its end
abbrev pub spare_rebuild_steps : Shape → ℕ → ℕ
spare_rebuild_steps shape size = 1 + size / shape.chunk + 1

-- a rebuild of a slot that holds the rows below an offset: each stripe from there on, and its end
abbrev pub rebuild_steps : Shape → ℕ → ℕ → ℕ
rebuild_steps shape size offset = size / shape.chunk - offset / shape.chunk + 1

-- ---- an opening

-- a reshape that an opening finds, with its resync where the array is dirty; a held window is entered already, and a
-- resync follows it
abbrev pub reshape_left : Scope → Contents → Reading → ℕ
reshape_left scope c r =
    let sb = r.newest in
    let held = active_section scope c r in
    (if is_clean sb then 0
    else resync_steps_at (shape_of sb) (final_shape sb) sb.size (is_backward sb) (option_map_or (beyond (is_backward sb)) held sb.reshape_position))
    + (steps_of (shape_of sb) (final_shape sb) sb.size (is_backward sb) sb.reshape_position - (if is_some held then 1 else 0))

abbrev pub is_absent : Role → Bool
is_absent Missing = true
is_absent (Whole slot) = false
is_absent (Recovering slot) = false

-- the steps to rebuild a role that a slot has in part
abbrev pub recovery_left : Reading → Role → ℕ
recovery_left r (Recovering slot) =
    rebuild_steps (shape_of r.newest) r.newest.size (option_map_or (λ sb. sb.recovery_offset) (own_of r slot) 0)
recovery_left r (Whole slot) = 0
recovery_left r Missing = 0

-- without a reshape: the resync of a dirty array, each slot that recovers, and as many other roles as there are spares
abbrev pub idle_left : Reading → ℕ
idle_left r =
    (if is_clean r.newest then 0 else resync_steps (shape_of r.newest) r.newest.size)
    + fold (λ n role. n + recovery_left r role) 0 r.roles
    + min (count_by is_absent r.roles) (length r.spares) * spare_rebuild_steps (shape_of r.newest) r.newest.size

abbrev pub left_at_opening : Scope → Contents → Reading → ℕ
left_at_opening scope c r = if is_reshaping r.newest then reshape_left scope c r else idle_left r

-- a role as an opening counts it: while a reshape is active, a recovering slot counts as absent
abbrev pub opened_role : Bool → Role → Role
opened_role reshaping (Whole slot) = Whole slot
opened_role reshaping (Recovering slot) = if reshaping then Missing else Recovering slot
opened_role reshaping Missing = Missing

abbrev pub opened_roles : Reading → List Role
opened_roles r = map (opened_role (is_reshaping r.newest)) r.roles

-- the losses that an opening enters first: one for each of these roles that isn't whole, in order, counted from this one
abbrev pub found_losses : ℕ → List Role → List (ℕ × LostCause)
found_losses role [] = []
found_losses role (Whole slot ∷ roles) = found_losses (role + 1) roles
found_losses role (Recovering slot ∷ roles) = (role, WasRecovering) ∷ found_losses (role + 1) roles
found_losses role (Missing ∷ roles) = (role, Absent) ∷ found_losses (role + 1) roles
