-- A list of which some rows are delayed: kept in memory, and not yet written to the members.
use Rattle.std.specs.Prelude.{◌≡◌, ℕ, ◌<◌, Bool, true, false, if◌then◌else◌, List, [], length, slice_index_or, Option, Some, None}
use Rattle.std.specs.Option.{option_map_or}
use Rattle.std.specs.List.{find}
use Rattle.raid_layout.specs.raid_types_Sectors.{Sector}
use Rattle.raid_layout.specs.raid_types_Shapes.{has_slot}
use Rattle.raid_layout.specs.raid_types_the_Shape.{Shape}
use Rattle.raid_layout.specs.raid_types_the_Side.{Side}
use Rattle.raid_layout.specs.raid_types_the_Place.{Place}
use Rattle.bank.specs.Tape.{IsIn}
use Rattle.raid_layout.specs.Layout.{place}
use Rattle.stripe_cache.specs.declared.cached.Cached.{Cached}
use Rattle.stripe_cache.specs.Rows.{Rows, is_row, held_row, is_delayed, without}

-- The side on which each sector of the list is, and the shape by which a side places its sectors. In an array of one shape all are on one side.
pub record Sides : Type 0 where
  pub side : ℕ → Side
  pub shape : Side → Shape

-- where a sector of the list has its place
abbrev pub placed : Sides → ℕ → Place
placed sides x = place (sides.shape (sides.side x)) x

-- the sector has its place in this row
abbrev pub is_in_row : Sides → ℕ → Cached → Bool
is_in_row sides x cached = is_row (sides.side x) (placed sides x).row cached

-- the row of a sector, where the cache holds it
abbrev pub held_at : Sides → Rows → ℕ → Option Cached
held_at sides rows x = held_row (sides.side x) (placed sides x).row rows

-- the sector that a kept row has for a role
abbrev pub sector_in : Cached → ℕ → Sector
sector_in cached role = slice_index_or cached.body role []

-- ---- the overlay

-- the stored list with the rows of the cache over it
abbrev pub overlaid : Sides → Rows → (ℕ → Sector) → ℕ → Sector
overlaid sides rows stored x = option_map_or (λ cached. sector_in cached (placed sides x).role) (held_at sides rows x) (stored x)

-- The list is what is stored with the delayed rows over it, and of a row's sectors those alone may differ whose roles are changed.
pub record AreDelayed (sides : Sides) (rows : Rows) (stored list : ℕ → Sector) : Type 0 where
  pub over : (x : ℕ) → overlaid sides rows stored x ≡ list x
  pub unchanged : (x : ℕ) (cached : Cached) → held_at sides rows x ≡ Some cached → has_slot cached.changed (placed sides x).role ≡ false → stored x ≡ list x

-- the stored list with this row written
abbrev pub with_row : Sides → Cached → (ℕ → Sector) → ℕ → Sector
with_row sides cached stored x = if is_in_row sides x cached then sector_in cached (placed sides x).role else stored x

-- each sector that is stored is one that a crash may leave: the last flushed value, or a later one
abbrev pub AreStoredAllowed : ℕ → (ℕ → List Sector) → (ℕ → Sector) → Type 0
AreStoredAllowed size values stored = (x : ℕ) → x < size → IsIn (values x) (stored x)

-- ---- the cache

-- the row is held
abbrev pub IsHeld : Rows → Cached → Type 0
IsHeld rows cached = held_row cached.side cached.row rows ≡ Some cached

-- Each row that is held is one below the size, of as many sectors as its side's shape has disks; all sectors that this shape places there are on its side.
pub record IsRowOfSide (sides : Sides) (size : ℕ) (cached : Cached) : Type 0 where
  pub whole : length cached.body ≡ (sides.shape cached.side).disks
  pub below : cached.row < size
  pub region : (x : ℕ) → (place (sides.shape cached.side) x).row ≡ cached.row → sides.side x ≡ cached.side

abbrev pub AreRowsOfSides : Sides → ℕ → Rows → Type 0
AreRowsOfSides sides size rows = (cached : Cached) → IsHeld rows cached → IsRowOfSide sides size cached

-- the rows without the last used one that passes a test: any delayed row, or one of a side within some rows
abbrev pub taken : (Cached → Bool) → Rows → Rows
taken test rows = record rows { held = without test rows.held }

-- no delayed row is held
abbrev pub IsNoneDelayed : Rows → Type 0
IsNoneDelayed rows = find is_delayed rows.held ≡ None

-- the cache that holds nothing
abbrev pub no_rows : ℕ → Rows
no_rows room = record { held = []; room = room }

-- What a write makes of one row: the list has the row's sectors there, which are the former ones but for the changed roles, and is as it was elsewhere.
pub record IsRowWritten (sides : Sides) (cached : Cached) (list list' : ℕ → Sector) : Type 0 where
  pub here : (x : ℕ) → is_in_row sides x cached ≡ true → sector_in cached (placed sides x).role ≡ list' x
  pub same : (x : ℕ) → is_in_row sides x cached ≡ true → has_slot cached.changed (placed sides x).role ≡ false → list' x ≡ list x
  pub other : (x : ℕ) → is_in_row sides x cached ≡ false → list' x ≡ list x
