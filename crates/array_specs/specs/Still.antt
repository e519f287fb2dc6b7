-- What the calls of an array without a reshape tell of it.
use Rattle.std.specs.Prelude.{◌≡◌, ◌≢◌, ℕ, false, List, [], ◌∷◌, length, drop, Some, None}
use Rattle.array_reshaping_state.specs.raid_types_the_Status.{Status}
use Rattle.array_reshaping_state.specs.bank_the_Operation.{Operation}
use Rattle.array_reshaping_state.specs.bank_Given.{Given}
use Rattle.array_reshaping_state.specs.bank_Tape.{disk}
use Rattle.array_reshaping_state.specs.sb_specs_the_Members.{Members}
use Rattle.array_reshaping_state.specs.sb_specs_Reading.{is_clean, shape_of, list_length, role_state, holder}
use Rattle.array_reshaping_state.specs.stripe_row_Rows.{reading_of, present}
use Rattle.array_reshaping_state.specs.history_the_Entry.{Entry}
use Rattle.array_reshaping_state.specs.history_OneShape.{is_lost}
use Rattle.array_specs.specs.Parts.{RunningParts, visible_in, still_left}

-- this status tells the array as it is
pub record IsStillStatus {B : Type 0} (array : RunningParts B) (status : Status) : Type 0 where
  pub shape : status.shape ≡ shape_of array.parts.members.newest
  pub target : status.target ≡ None
  pub position : status.position ≡ 0
  pub size : status.size ≡ array.parts.members.newest.size
  pub length : status.length ≡ list_length array.parts.members.newest
  pub visible : status.visible ≡ visible_in array
  pub clean : status.clean ≡ is_clean array.parts.members.newest
  pub events : status.events ≡ array.parts.members.newest.events
  pub left : status.left ≡ still_left array.parts.work array.parts.members array.ahead
  pub roles : status.roles ≡ array.parts.members.roles
  pub spares : status.spares ≡ array.parts.members.spares

-- What a stop leaves of the slots that held a role that these new entries don't tell lost: all is as it is, and nothing else, but for the superblocks.
abbrev pub AreLeftSettled : Members → List Entry → List Entry → Given → List Operation → Type 0
AreLeftSettled members old new given tape = (role slot k : ℕ) → holder (role_state (reading_of members) role) ≡ Some slot → is_lost (drop (length old) new) role ≡ false → k ≢ 8
    → disk given.start tape slot k ≡ present given tape slot k ∷ []
