-- Where the plans of an array go that are open, and which histories tell neither a limit nor a reshape.
use Rattle.std.specs.Prelude.{◌≡◌, Bool, true, false, if◌then◌else◌, List, Some, MatchOption, ⊤}
use Rattle.std.specs.List.{list_any, All}
use Rattle.history_invariant_laws.specs.raid_types_the_Shape.{Shape}
use Rattle.array_reshaping_state.specs.reshape_plan_Plans.{last_shape}
use Rattle.array_reshaping_state.specs.sb_specs_Reading.{is_reshaping, shape_of, final_shape}
use Rattle.array_reshaping_state.specs.history_the_Entry.{Entry}
use Rattle.array_reshaping_state.specs.history_the_Event.{Event}
use Rattle.array_reshaping_state.specs.history_the_Event_TheVariants.{Visible, Planned, Step}
use Rattle.array_reshaping_state.specs.history_the_StepKind_TheVariants.{Begun, Finished, TakenOver}
use Rattle.array_reshaping_state.specs.history_Reshaped.{open_plans, planned_shape}
use Rattle.array_reshaping_state.specs.history_World.{World, reading_at}
use Rattle.array_reshaping_state.specs.reshape_request_Left.{phases_of}
use Rattle.history_invariant_laws.specs.Reliable.{IsReliable}
use Rattle.array_specs.specs.Parts.{RunningParts}

-- ---- where plans go

-- each plan that is open goes to this shape
abbrev pub GoTo : World → Shape → List Entry → Type 0
GoTo world shape entries = All (λ plan. planned_shape world plan.end plan.event ≡ Some shape) (open_plans entries)

-- the shape of the array once the active reshape and the phases ahead have ended
abbrev pub aim_of : {B : Type 0} → RunningParts B → Shape
aim_of array = last_shape (if is_reshaping array.parts.members.newest then final_shape array.parts.members.newest else shape_of array.parts.members.newest) (phases_of array.ahead)

-- each plan that is open goes there, where what the history says can be relied on
abbrev pub ArePlansKept : {B : Type 0} → Type 0 → World → RunningParts B → Type 0
ArePlansKept tells world array = tells → IsReliable world array.parts.entries → GoTo world (aim_of array) array.parts.entries

-- ---- a history without a limit or a reshape

-- the event tells a plan, a limit of the visible size, or that the array's shape is about to change or has changed
abbrev pub turns_shape : Event → Bool
turns_shape (Visible limit count) = true
turns_shape (Planned left wish) = true
turns_shape (Step Begun left) = true
turns_shape (Step Finished left) = true
turns_shape (Step TakenOver left) = true
turns_shape event = false

-- The array keeps its shape: its opening found no reshape, and these entries tell neither a plan, a limit nor a reshape.
pub record KeepsShape (world : World) (entries : List Entry) : Type 0 where
  pub found : MatchOption (reading_at world world.first) ⊤ (λ r. is_reshaping r.newest ≡ false)
  pub none : list_any (λ e. turns_shape e.event) entries ≡ false
