-- What an array keeps between its calls, by whether its superblocks tell an active reshape.
use Rattle.std.specs.Prelude.{◌≡◌, ℕ, Bool, true, false, if◌then◌else◌, MatchBool}
use Rattle.array_state.specs.raid_types_the_Status.{Status}
use Rattle.sb_election.specs.sb_specs_Reading.{is_reshaping}
use Rattle.array_reshaping_laws.specs.array_specs_Parts.{RunningParts, left_in, still_left}
use Rattle.array_reshaping_laws.specs.array_specs_Calls.{IsStatusFor}
use Rattle.array_reshaping_laws.specs.array_specs_Still.{IsStillStatus}

-- one record while a reshape is active, and another while none is
pub record KeepsBy (active : Bool) (moving still : Type 0) : Type 0 where
  pub moves : active ≡ true → moving
  pub rests : active ≡ false → still

-- the steps that are left: of the reshape that is active, or else of what is under way on members that have one shape; of a pending resync, and of the phases ahead
abbrev pub running_left : {B : Type 0} → RunningParts B → ℕ
running_left array =
    if is_reshaping array.parts.members.newest then left_in array.parts.work array.parts.members array.course array.ahead
    else still_left array.parts.work array.parts.members array.ahead

-- this status tells the array as it is
abbrev pub IsShownAs : {B : Type 0} → RunningParts B → Status → Type 0
IsShownAs array status = MatchBool (is_reshaping array.parts.members.newest) (IsStatusFor array status) (IsStillStatus array status)
