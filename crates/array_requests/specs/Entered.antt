-- What callers' calls enter, whatever they ask.
use Rattle.std.specs.Prelude.{◌≡◌, ◌++◌, ◌<◌, ◌≤◌, List, ⊤}
use Rattle.std.specs.List.{All}
use Rattle.array_open.specs.sb_specs_Reading.{is_reshaping}
use Rattle.history_append.specs.history_the_Entry.{Entry}
use Rattle.history_append.specs.history_the_Event.{Event}
use Rattle.history_append.specs.history_the_Event_TheVariants.{Stopped, Halted}
use Rattle.history_append.specs.history_the_Request.{Request}
use Rattle.history_append.specs.history_the_Request_TheVariants.{Steps as AsksSteps}
use Rattle.history_append.specs.history_Flat.{next_number}
use Rattle.array_open.specs.reshape_request_Left.{phases_of}
use Rattle.array_open.specs.array_Calls.{running_left}
use Rattle.array_open.specs.array_reply_specs_Going.{HasNoReshape}
use Rattle.array_open.specs.array_specs_Parts.{RunningParts}
use Rattle.array_requests.specs.Turning.{IsTurningTold}

-- the event ends no epoch
abbrev pub GoesOn : Event → Type 0
GoesOn Stopped = ⊥
GoesOn Halted = ⊥
GoesOn event = ⊤

-- the entry is of a call that its caller made between these histories
abbrev pub IsOfNewCall : List Entry → List Entry → Entry → Type 0
IsOfNewCall old new e = (next_number e.caller old ≤ e.number) × (e.number < next_number e.caller new)

-- the history of an array tells a reshape that is active in it, or ahead
abbrev pub TellsTurning : {B : Type 0} → RunningParts B → Type 0
TellsTurning array = IsTurningTold (is_reshaping array.parts.members.newest) (phases_of array.ahead) array.parts.entries

-- More is entered, in new calls, and none of it ends the epoch. Where the history told a reshape that is active or ahead, it still does.
pub record HasEntered {B : Type 0} (old new : RunningParts B) : Type 0 where
  pub more : List Entry
  pub grown : new.parts.entries ≡ old.parts.entries ++ more
  pub calls : All (IsOfNewCall old.parts.entries new.parts.entries) more
  pub going : All (λ e. GoesOn e.event) more
  pub turning : TellsTurning old → TellsTurning new

-- behind a request for steps no reshape is active, nor ahead, where none is left
abbrev pub RestsBehind : {B : Type 0} → Request → RunningParts B → Type 0
RestsBehind (AsksSteps most) new = running_left new ≡ 0 → HasNoReshape new
RestsBehind request new = ⊤
