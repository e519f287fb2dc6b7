-- A list of entries, and the counters that are kept beside it.
use Rattle.std.specs.Prelude.{◌≡◌, ℕ, suc, ◌≤◌, ◌==◌, if◌then◌else◌, List, [], ◌∷◌, length}
use Rattle.history.specs.declared.entries.Counter.{Counter}
use Rattle.history.specs.declared.events.Entry.{Entry}
use Rattle.history.specs.Flat.{next_number}

-- the entries, the oldest first, and how many more fit without further memory
pub record EntryList : Type 0 where
  pub items : List Entry
  pub room : ℕ

-- a caller's next number, as these counters keep it
abbrev pub counted : List Counter → ℕ → ℕ
counted [] caller = 0
counted (counter ∷ counters) caller = if counter.caller == caller then counter.next else counted counters caller

-- the place of the caller's counter; behind the last one, where it has none
abbrev pub counter_place : List Counter → ℕ → ℕ
counter_place [] caller = 0
counter_place (counter ∷ counters) caller = if counter.caller == caller then 0 else suc (counter_place counters caller)

-- each caller's counter is its next number
pub record IsCounted (counters : List Counter) (entries : List Entry) : Type 0 where
  pub numbers : (caller : ℕ) → counted counters caller ≡ next_number caller entries
  pub few : (caller : ℕ) → next_number caller entries ≤ length entries
