-- Reads and writes over a flat list that stood at the opening, and the moments at which entries are made.
use Rattle.std.specs.Prelude.{◌≡◌, ℕ, ◌+◌, ◌<◌, ◌≤◌, List, [], length, slice_index_or, MatchOption, MatchBool, nat_lt, ⊤}
use Rattle.std.specs.Option.{option_map_or}
use Rattle.raid_types.specs.Sectors.{Sector}
use Rattle.raid_types.specs.declared.answers.Refusal.{Refusal}
use Rattle.raid_types.specs.declared.answers.Refusal.TheVariants.{PastEnd, TooManyMissing}
use Rattle.history.specs.declared.events.Event.{Event}
use Rattle.history.specs.declared.events.Event.TheVariants.{Refused}
use Rattle.history.specs.declared.events.Entry.{Entry}
use Rattle.history.specs.Flat.{last_of, visible_of, now}

-- where the last entry ended; the opening, if there is none
abbrev pub last_end_from : ℕ → List Entry → ℕ
last_end_from first before = option_map_or (λ e. e.end) (last_of before) first

-- an entry ends where the one before it ended or later, and within so many operations
pub record IsTimedBetween (first ops : ℕ) (before : List Entry) (e : Entry) : Type 0 where
  pub rises : last_end_from first before ≤ e.end
  pub within : e.end ≤ ops

-- a read ends within the visible size, and each of its sectors is what the list holds now
pub record IsReadOver (list : List Sector) (before : List Entry) (at : ℕ) (body : List Sector) : Type 0 where
  pub within : at + length body ≤ visible_of (length list) before
  pub holds : (i : ℕ) → i < length body → slice_index_or body i [] ≡ now list before (at + i)

abbrev pub EndsWithinOver : List Sector → List Entry → ℕ → List Sector → Type 0
EndsWithinOver list before at body = at + length body ≤ visible_of (length list) before

abbrev pub IsTooMany : Event → Type 0
IsTooMany (Refused (TooManyMissing count tolerance)) = ⊤
IsTooMany event = ⊥

-- a call that left a torn write ends with TooManyMissing
pub record IsTornOver (list : List Sector) (before : List Entry) (at : ℕ) (body : List Sector) (rest : List Entry) : Type 0 where
  pub within : EndsWithinOver list before at body
  pub refused : MatchOption (last_of rest) ⊥ (λ e. IsTooMany e.event)

abbrev pub IsPastEnd : Refusal → Type 0
IsPastEnd (PastEnd visible) = ⊤
IsPastEnd refusal = ⊥

-- a read or write up to `to` is refused: PastEnd exactly where that is past the visible size
abbrev pub IsRefusedAt : ℕ → ℕ → (Refusal → Type 0) → Refusal → Type 0
IsRefusedAt visible to IsListed refusal = MatchBool (nat_lt visible to) (IsPastEnd refusal) (IsListed refusal × ¬ IsPastEnd refusal)
