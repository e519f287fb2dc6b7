-- What the stored superblocks say of an array that runs.
use Rattle.std.specs.Prelude.{◌≡◌, ℕ, ◌≤◌, true, false, length, Some, IfSome}
use Rattle.array_reply_specs.specs.raid_types_Shapes.{has_slot}
use Rattle.array_transition.specs.sb_specs_the_Members.{Members}
use Rattle.array_transition.specs.sb_specs_Reading.{Reading, holder, role_state, is_reshaping, next_window}
use Rattle.array_transition.specs.sb_specs_Reads.{SaysSame, has_spare}
use Rattle.array_transition.specs.stripe_row_Rows.{reading_of}
use Rattle.array_reply_specs.specs.history_Growing.{EndBy}
use Rattle.array_reply_specs.specs.history_Transfers.{last_end_from}
use Rattle.array_transition.specs.history_World.{World, reading_at}
use Rattle.array_transition.specs.array_members_Rebuilding.{MayHold}
use Rattle.array_transition.specs.reshape_progress_Course.{hidden_in}
use Rattle.array_transition.specs.array_reshaping_state_Due.{unsure_in}
use Rattle.array_reply_specs.specs.history_invariant_laws_Reliable.{IsReliable, AreToldGone}
use Rattle.array_transition.specs.array_specs_Parts.{RunningParts}

-- At this mark the stored superblocks say what these members do: the array's shapes and its size, how far a reshape has come, and whether it is clean; each role that has a holder is on it, whole or recovering as it is there; and of the slots that weren't lost the same are spares.
pub record AreStoredAt (world : World) (mark : ℕ) (members : Members) : Type 0 where
  pub found : Reading
  pub is : reading_at world mark ≡ Some found
  pub array : SaysSame members.newest found.newest
  pub held : (role slot : ℕ) → holder (role_state (reading_of members) role) ≡ Some slot → role_state found role ≡ role_state (reading_of members) role
  pub spares : (slot : ℕ) → has_slot members.lost slot ≡ false → has_spare found.spares slot ≡ has_spare members.spares slot

-- What is known of an array is so, by its history and by what is stored. No slot that holds a role or is a spare was lost; in a reshape a window whose section is stored, or may be, is the next one. Where its history can be relied on, each role that
-- is missing is told gone by it; and where its last entry ended, which is within the tape, the stored superblocks say what its members do, as long as one of them is left.
pub record IsStoredBy {B : Type 0} (world : World) (array : RunningParts B) : Type 0 where
  pub begun : world.first ≤ length world.tape
  pub ends : EndBy (length world.tape) array.parts.entries
  pub unlost : (role slot : ℕ) → MayHold array.parts.members role slot → has_slot array.parts.members.lost slot ≡ false
  pub window : is_reshaping array.parts.members.newest ≡ true → IfSome (hidden_in array.course.window) (λ span. next_window array.parts.members.newest ≡ Some span) × IfSome (unsure_in array.course.window) (λ span. next_window array.parts.members.newest ≡ Some span)
  pub gone : IsReliable world array.parts.entries → AreToldGone world array.parts.entries array.parts.members
  pub stored : IsReliable world array.parts.entries → (role slot : ℕ) → MayHold array.parts.members role slot → AreStoredAt world (last_end_from world.first array.parts.entries) array.parts.members
