-- A reshape ends: what it leaves.
use Rattle.std.specs.Prelude.{◌≡◌, ◌⊎◌, ℕ, ◌+◌, ◌*◌, ◌<◌, ◌≤◌, ◌++◌, nat_lt, true, List, [], ◌∷◌, Some, if◌then◌else◌}
use Rattle.array_reshaping_steps.specs.raid_types_Shapes.{has_slot, data_disks}
use Rattle.array_reshaping_steps.specs.raid_types_the_Refusal.{Refusal}
use Rattle.array_reshaping_steps.specs.raid_types_the_Who.{Who}
use Rattle.array_reshaping_steps.specs.bank_the_Operation.{Operation}
use Rattle.array_reshaping_steps.specs.bank_Given.{Given, IsFaulted, NeverFalls}
use Rattle.array_reshaping_steps.specs.sb_specs_the_Members.{Members}
use Rattle.array_reshaping_steps.specs.sb_specs_Reading.{shape_of, final_shape, list_length, role_state, holder}
use Rattle.array_reshaping_steps.specs.sb_specs_Reads.{has_spare}
use Rattle.array_reshaping_steps.specs.stripe_row_Rows.{reading_of, present}
use Rattle.array_reshaping_steps.specs.history_the_Entry.{Entry}
use Rattle.array_reshaping_steps.specs.history_the_Event.{Event}
use Rattle.array_reshaping_steps.specs.history_the_Event_TheVariants.{Step, Resized}
use Rattle.array_reshaping_steps.specs.history_the_StepKind_TheVariants.{Finished}
use Rattle.array_reshaping_steps.specs.history_Plain.{entries_of}
use Rattle.array_reshaping_steps.specs.history_append_Losing.{losses_of}
use Rattle.array_reshaping_steps.specs.crash_safety_laws_Marking.{AreOthersPresent}
use Rattle.array_reshaping_steps.specs.reshape_begin_end_Finished.{IsOver}
use Rattle.array_reshaping_steps.specs.array_members_Lacking.{AreTooMany}
use Rattle.array_reshaping_steps.specs.array_members_Moving.{Grows}
use Rattle.array_reshaping_steps.specs.array_members_Placed.{is_unassigned, AreStillHeld, AreWhole}
use Rattle.array_reshaping_steps.specs.array_members_Rebuilding.{Held}
use Rattle.array_reshaping_steps.specs.array_call_specs_Calls.{AreLossesBy, IsEndOf, TellNoLoss}
use Rattle.array_reshaping_steps.specs.reshape_progress_Laws.{closed}
use Rattle.array_reshaping_steps.specs.array_specs_Parts.{RunningParts, left_in, still_left}
use Rattle.array_transition.specs.Begun.{StaysItself, AreSparesKeptOrFailed}

-- a reshape to more data disks makes the list longer as it ends
abbrev pub ended_length : ℕ → ℕ → List Event
ended_length before size = if nat_lt before size then Resized size ∷ [] else []

-- A call entered what its flush lost, that the reshape ended, with so many steps left, and behind it the new length, where the list gets longer, and what its update lost. Each role of the new
-- shape that no slot holds then, but held before, is told, and of the spares and the slots of other roles each that is no spare then.
pub record IsEndedWith (who : Who) (before size : ℕ) (was later : Members) (old new : List Entry) (left : ℕ) : Type 0 where
  pub roles : ℕ
  pub spares : ℕ
  pub late : ℕ
  pub late_spares : ℕ
  pub end : ℕ
  pub roles_told : (role : ℕ) → role < (shape_of later.newest).disks → is_unassigned (reading_of later) role ≡ true
      → (is_unassigned (reading_of was) role ≡ true) ⊎ ((has_slot roles role ≡ true) ⊎ (has_slot late role ≡ true))
  pub spares_told : (slot : ℕ) → has_spare was.spares slot ≡ true → (has_spare later.spares slot ≡ true) ⊎ ((has_slot spares slot ≡ true) ⊎ (has_slot late_spares slot ≡ true))
  pub dropped_told : (role slot : ℕ) → (final_shape was.newest).disks ≤ role → holder (role_state (reading_of was) role) ≡ Some slot
      → (has_spare later.spares slot ≡ true) ⊎ ((has_slot roles role ≡ true) ⊎ (has_slot late_spares slot ≡ true))
  pub is : new ≡ old ++ entries_of who end (losses_of roles spares ++ Step Finished left ∷ (ended_length before size ++ losses_of late late_spares))

-- each slot that held a role which the new shape hasn't is a spare, or it has failed
abbrev pub AreDroppedSpares : Members → Members → (ℕ → ℕ) → (ℕ → ℕ) → Type 0
AreDroppedSpares old new before after = (role slot : ℕ) → (final_shape old.newest).disks ≤ role → holder (role_state (reading_of old) role) ≡ Some slot → (has_spare new.spares slot ≡ true) ⊎ IsFaulted slot before after

-- each slot that held a role of the new shape holds it still, or it has failed
abbrev pub AreKeptOrFailed : Members → Members → (ℕ → ℕ) → (ℕ → ℕ) → Type 0
AreKeptOrFailed old new before after = (role slot : ℕ) → role + 1 ≤ (final_shape old.newest).disks → holder (role_state (reading_of old) role) ≡ Some slot
    → (holder (role_state (reading_of new) role) ≡ Some slot) ⊎ IsFaulted slot before after

-- the slot was a spare, or held a role which the new shape hasn't
abbrev pub WasSpareOrDropped : Members → ℕ → Type 0
WasSpareOrDropped old slot = (has_spare old.spares slot ≡ true) ⊎ ((role : ℕ) × ((final_shape old.newest).disks ≤ role) × (holder (role_state (reading_of old) role) ≡ Some slot))

-- so it is of each spare
abbrev pub AreSparesOrDropped : Members → Members → Type 0
AreSparesOrDropped old new = (slot : ℕ) → has_spare new.spares slot ≡ true → WasSpareOrDropped old slot

-- The reshape has ended: no shape in force missed too many roles, and the superblocks say the new shape alone; the list is as long as it has room for, and the same phases are ahead. Each role
-- that a slot holds is one that it held, and each slot of a dropped role is a spare, as are the former ones, but those slots that failed in it. Nothing is changed on the slots but superblocks.
pub record IsReshapeEnded {B : Type 0} (tells : Type 0) (given : Given) (tape tape' : List Operation) (before after : ℕ → ℕ) (who : Who) (old new : RunningParts B) : Type 0 where
  pub could : (refusal : Refusal) → AreTooMany old.parts.members refusal → ⊥
  pub entered : IsEndedWith who (list_length old.parts.members.newest) (list_length new.parts.members.newest) old.parts.members new.parts.members old.parts.entries new.parts.entries (still_left new.parts.work new.parts.members new.ahead)
  pub ended : IsEndOf tells new.parts.first new.parts.entries tape'
  pub grows : Grows tells tape tape'
  pub over : IsOver old.parts.members.newest new.parts.members.newest
  pub left : AreWhole old.parts.members → TellNoLoss old.parts.entries new.parts.entries → still_left new.parts.work new.parts.members new.ahead + 1 ≡ left_in old.parts.work old.parts.members old.course old.ahead
  pub long : list_length new.parts.members.newest ≡ data_disks (final_shape old.parts.members.newest) * old.parts.members.newest.size
  pub held : AreStillHeld old.parts.members new.parts.members
  pub kept : AreKeptOrFailed old.parts.members new.parts.members before after
  pub dropped : AreDroppedSpares old.parts.members new.parts.members before after
  pub spares : AreSparesOrDropped old.parts.members new.parts.members
  pub spares_kept : AreSparesKeptOrFailed old.parts.members new.parts.members before after
  pub losses : AreLossesBy (Held old.parts.members) (WasSpareOrDropped old.parts.members) before after old.parts.entries new.parts.entries
  pub never_falls : NeverFalls before after
  pub others : tells → AreOthersPresent (present given tape) (present given tape')
  pub course : new.course ≡ closed 0
  pub ahead : new.ahead ≡ old.ahead
  pub steps : new.parts.steps + 2 ≡ old.parts.steps
  pub same : StaysItself old new
