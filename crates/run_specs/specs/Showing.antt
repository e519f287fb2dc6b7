-- What an array tells of itself.
use Rattle.std.specs.Prelude.{◌≡◌, ℕ, ◌≤◌, List, length, slice_get, MatchOption}
use Rattle.script.specs.history_the_Entry.{Entry}
use Rattle.script.specs.history_the_Event.{Event}
use Rattle.script.specs.history_the_Event_TheVariants.{Shown}
use Rattle.script.specs.history_Flat.{visible_of}
use Rattle.array_requests.specs.array_specs_Parts.{RunningParts}
use Rattle.array_requests.specs.array_Calls.{IsShownAs}

-- the event tells a list of so many sectors, how many of them can be read and written by the entries before it, at most 16 roles and at most 32 spares
abbrev pub IsShown : ℕ → List Entry → Event → Type 0
IsShown size before (Shown status) = (status.length ≡ size) × (status.visible ≡ visible_of size before) × (length status.roles ≤ 16) × (length status.spares ≤ 32)
IsShown size before event = ⊥

-- the event tells the array as it is
abbrev pub TellsArray : {B : Type 0} → RunningParts B → Event → Type 0
TellsArray array (Shown status) = IsShownAs array status
TellsArray array event = ⊥

-- the entry at this place does
abbrev pub IsToldAt : {B : Type 0} → RunningParts B → List Entry → ℕ → Type 0
IsToldAt array entries place = MatchOption (slice_get entries place) ⊥ (λ e. TellsArray array e.event)
