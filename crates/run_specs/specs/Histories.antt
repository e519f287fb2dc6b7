-- The histories of a run's arrays, in the order in which these were opened.
use Rattle.std.specs.Prelude.{◌≡◌, ℕ, Bool, true, false, List, [], ◌∷◌, map, slice_get, Option, IsTrue, IsFalse, ⊤}
use Rattle.std.specs.List.{All}
use Rattle.std.specs.Option.{option_and_then}
use Rattle.script.specs.history_the_Entry.{Entry}
use Rattle.script.specs.history_the_Epoch.{Epoch}
use Rattle.script.specs.history_the_Event.{Event}
use Rattle.script.specs.history_the_Event_TheVariants.{Stopped, Halted}

-- how an array was opened: its uuid, a bit for each slot that did not fail, and the mark; and its entries
pub record History : Type 0 where
  pub uuid : List ℕ
  pub given : ℕ
  pub first : ℕ
  pub entries : List Entry

abbrev pub history_of : Epoch → History
history_of epoch = record { uuid = epoch.uuid; given = epoch.given; first = epoch.first; entries = epoch.entries.items }

abbrev pub histories_of : List Epoch → List History
histories_of epochs = map history_of epochs

-- the entry at a place of the history with this number
abbrev pub entry_at : List History → ℕ → ℕ → Option Entry
entry_at histories epoch place = option_and_then (λ h. slice_get h.entries place) (slice_get histories epoch)

-- the events with which an epoch ends
abbrev pub is_end : Event → Bool
is_end Stopped = true
is_end Halted = true
is_end event = false

-- none of these entries ends its epoch
abbrev pub AreGoing : List Entry → Type 0
AreGoing entries = All (λ e. IsFalse (is_end e.event)) entries

-- none stands behind one that does
abbrev pub EndsOnce : List Entry → Type 0
EndsOnce [] = ⊤
EndsOnce (e ∷ entries) = (IsTrue (is_end e.event) → entries ≡ []) × EndsOnce entries
