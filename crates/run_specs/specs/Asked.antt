-- One line of the script to a running array.
use Rattle.std.specs.Prelude.{◌≡◌, ℕ, ◌+◌, ◌++◌, List, [], ◌∷◌, length, Result, Ok, Err, IsTrue, IsFalse}
use Rattle.std.specs.List.{All}
use Rattle.array_requests.specs.raid_types_the_NoMemory.{NoMemory}
use Rattle.array_requests.specs.raid_types_the_Who.{Who}
use Rattle.script.specs.history_the_Entry.{Entry}
use Rattle.script.specs.history_the_Event.{Event}
use Rattle.script.specs.history_Flat.{next_number, length_of}
use Rattle.script.specs.history_OneShape.{IsOfCall}
use Rattle.script.specs.history_Legal.{MayBeInner}
use Rattle.script.specs.declared.lines.Line.{Line}
use Rattle.script.specs.declared.lines.Line.TheVariants.{Step}
use Rattle.run_specs.specs.Replies.{FitsLine, leaves_more, steps_at_once}

-- the script's next call
abbrev pub script_who : List Entry → Who
script_who entries = record { caller = 0; number = next_number 0 entries }

-- The script's next call entered these entries, and the one behind them, which answers the line and stands at this place.
pub record IsAskedAt (size : ℕ) (line : Line) (old new : List Entry) (place : ℕ) : Type 0 where
  pub inner : List Entry
  pub event : Event
  pub end : ℕ
  pub own : All (λ e. IsOfCall (script_who old) e) inner
  pub inside : All (λ e. MayBeInner e.event) inner
  pub is : new ≡ old ++ (inner ++ record { caller = 0; number = next_number 0 old; end = end; event = event } ∷ [])
  pub fits : FitsLine size (old ++ inner) (record { caller = 0; number = next_number 0 old; end = end; event = event }) line
  pub at_end : place + 1 ≡ length new

-- or memory was short, and nothing was entered
abbrev pub IsAsked : ℕ → Line → List Entry → List Entry → Result ℕ NoMemory → Type 0
IsAsked size line old new (Ok place) = IsAskedAt size line old new place
IsAsked size line old new (Err fault) = new ≡ old

-- The calls of a wait so far, whose replies stand at these places: each leaves more to do.
abbrev pub IsStillWaiting : ℕ → List Entry → List ℕ → List Entry → Type 0
IsStillWaiting size old [] new = new ≡ old
IsStillWaiting size old (place ∷ places) new = (between : List Entry) × (asked : IsAskedAt size (Step steps_at_once) old between place)
    × IsTrue (leaves_more asked.event) × IsStillWaiting size between places new

-- The calls of a wait, and the last one, whose reply stands at this place.
pub record IsWaitedFor (size : ℕ) (old new : List Entry) (place : ℕ) : Type 0 where
  pub earlier : List ℕ
  pub between : List Entry
  pub waiting : IsStillWaiting size old earlier between
  pub asked : IsAskedAt size (Step steps_at_once) between new place
  pub done : IsFalse (leaves_more asked.event)

-- or memory was short for one of them, which entered nothing
abbrev pub IsWaited : ℕ → List Entry → List Entry → Result ℕ NoMemory → Type 0
IsWaited size old new (Ok place) = IsWaitedFor size old new place
IsWaited size old new (Err fault) = (earlier : List ℕ) × IsStillWaiting size old earlier new

-- More entries stand behind the old ones, and by them a list of the one length has the other.
pub record IsSizedBy (before after : ℕ) (old new : List Entry) : Type 0 where
  pub more : List Entry
  pub grown : new ≡ old ++ more
  pub sized : after ≡ length_of before more
