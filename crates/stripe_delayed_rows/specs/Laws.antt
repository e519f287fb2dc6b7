-- What keeps the overlay right.
use Rattle.std.specs.Prelude.{◌≡◌, ℕ, ◌<◌, ◌⊎◌, Bool, true, false, List, [], ◌∷◌, Some, None}
use Rattle.std.specs.List.{find}
use Rattle.raid_layout.specs.raid_types_Sectors.{Sector}
use Rattle.raid_layout.specs.raid_types_Shapes.{has_slot}
use Rattle.raid_layout.specs.raid_types_the_Side.{Side}
use Rattle.bank.specs.Tape.{IsIn}
use Rattle.stripe_cache.specs.declared.cached.Cached.{Cached}
use Rattle.stripe_cache.specs.Rows.{Rows, held_row, is_delayed, kept, used, leaving}
use Rattle.stripe_cache.specs.Apart.{IsCache}
use Rattle.stripe_delayed_rows.specs.Overlay.{Sides, placed, is_in_row, held_at, sector_in, AreDelayed, with_row, AreStoredAllowed, IsHeld, IsRowOfSide, AreRowsOfSides, taken, IsNoneDelayed, no_rows, IsRowWritten}

-- ---- reads

-- A read of the members gives what is stored; with the cache's rows over it, it gives the list.
abbrev pub ReadsAreTheList : Type 0
ReadsAreTheList = (sides : Sides) (rows : Rows) (stored list : ℕ → Sector) (read over : ℕ → Sector) → AreDelayed sides rows stored list
    → (x : ℕ) → read x ≡ stored x
    → ((cached : Cached) → held_at sides rows x ≡ Some cached → over x ≡ sector_in cached (placed sides x).role) → (held_at sides rows x ≡ None → over x ≡ read x)
    → over x ≡ list x

-- ---- an empty cache

-- Where no row is delayed the list itself is stored; so it is by an empty cache, over any list.
abbrev pub UndelayedIsStored : Type 0
UndelayedIsStored = (sides : Sides) (rows : Rows) (stored list : ℕ → Sector) → IsNoneDelayed rows → AreDelayed sides rows stored list → (x : ℕ) → stored x ≡ list x

abbrev pub EmptyIsDelayed : Type 0
EmptyIsDelayed = (sides : Sides) (room : ℕ) (stored list : ℕ → Sector) → ((x : ℕ) → stored x ≡ list x) → AreDelayed sides (no_rows room) stored list

-- ---- a row is kept

-- A use of a row changes nothing.
abbrev pub UsedIsDelayed : Type 0
UsedIsDelayed = (sides : Sides) (rows : Rows) (side : Side) (row : ℕ) (stored list : ℕ → Sector) → IsCache rows → AreDelayed sides rows stored list
    → AreDelayed sides (used side row rows) stored list

-- A write of a row that is kept is in the list, and nothing is stored, where no delayed row has to leave.
abbrev pub KeptIsDelayed : Type 0
KeptIsDelayed = (sides : Sides) (rows : Rows) (cached : Cached) (stored list list' : ℕ → Sector) → IsCache rows → leaving cached rows ≡ None
    → IsRowWritten sides cached list list' → AreDelayed sides rows stored list → AreDelayed sides (kept cached rows) stored list'

-- Where one has to, it is stored by then.
abbrev pub EvictedIsDelayed : Type 0
EvictedIsDelayed = (sides : Sides) (rows : Rows) (cached gone : Cached) (stored list list' : ℕ → Sector) → IsCache rows → leaving cached rows ≡ Some gone
    → IsRowWritten sides cached list list' → AreDelayed sides rows stored list → AreDelayed sides (kept cached rows) (with_row sides gone stored) list'

-- Where memory is short, a row that isn't held is stored at once.
abbrev pub WrittenThroughIsDelayed : Type 0
WrittenThroughIsDelayed = (sides : Sides) (rows : Rows) (cached : Cached) (stored list list' : ℕ → Sector) → held_row cached.side cached.row rows ≡ None
    → IsRowWritten sides cached list list' → AreDelayed sides rows stored list → AreDelayed sides rows (with_row sides cached stored) list'

-- ---- a row is written out

-- A row that is taken out and stored leaves the list.
abbrev pub TakenIsDelayed : Type 0
TakenIsDelayed = (sides : Sides) (test : Cached → Bool) (rows : Rows) (gone : Cached) (stored list : ℕ → Sector) → IsCache rows → find test rows.held ≡ Some gone
    → AreDelayed sides rows stored list → AreDelayed sides (taken test rows) (with_row sides gone stored) list

-- What the row has is the list's, and what of it isn't changed is stored already.
abbrev pub RowsAreOfTheList : Type 0
RowsAreOfTheList = (sides : Sides) (rows : Rows) (gone : Cached) (stored list : ℕ → Sector) → IsCache rows → IsHeld rows gone → AreDelayed sides rows stored list
    → (x : ℕ) → is_in_row sides x gone ≡ true → (sector_in gone (placed sides x).role ≡ list x) × (has_slot gone.changed (placed sides x).role ≡ false → stored x ≡ list x)

-- The row that leaves is held before, and so is the one that is taken out.
abbrev pub LeavingIsHeld : Type 0
LeavingIsHeld = (rows : Rows) (cached gone : Cached) → IsCache rows → leaving cached rows ≡ Some gone → IsHeld rows gone × (is_delayed gone ≡ true)

abbrev pub TakenIsHeld : Type 0
TakenIsHeld = (test : Cached → Bool) (rows : Rows) (gone : Cached) → IsCache rows → find test rows.held ≡ Some gone → IsHeld rows gone × (test gone ≡ true)

-- ---- what a crash may leave

-- A row of the list that is stored keeps each stored sector among the values that a crash may leave; more values do, too.
abbrev pub StoringRowsIsAllowed : Type 0
StoringRowsIsAllowed = (sides : Sides) (gone : Cached) (size : ℕ) (values : ℕ → List Sector) (stored list : ℕ → Sector)
    → ((x : ℕ) → is_in_row sides x gone ≡ true → sector_in gone (placed sides x).role ≡ list x) → AreStoredAllowed size values list
    → AreStoredAllowed size values stored → AreStoredAllowed size values (with_row sides gone stored)

abbrev pub MoreIsAllowed : Type 0
MoreIsAllowed = (size : ℕ) (values more : ℕ → List Sector) (stored : ℕ → Sector) → ((x : ℕ) → x < size → (v : Sector) → IsIn (values x) v → IsIn (more x) v)
    → AreStoredAllowed size values stored → AreStoredAllowed size more stored

-- After a flush that wrote all out the list alone is left.
abbrev pub FlushedIsAllowed : Type 0
FlushedIsAllowed = (sides : Sides) (rows : Rows) (size : ℕ) (stored list : ℕ → Sector) → IsNoneDelayed rows → AreDelayed sides rows stored list
    → AreStoredAllowed size (λ x. list x ∷ []) stored

-- ---- the rows

abbrev pub FewStayFew : Type 0
FewStayFew = (rows : Rows) → IsCache rows → ((side : Side) (row : ℕ) → IsCache (used side row rows)) × ((cached : Cached) → IsCache (kept cached rows)) × ((test : Cached → Bool) → IsCache (taken test rows))

abbrev pub RowsStayOfSides : Type 0
RowsStayOfSides = (sides : Sides) (size : ℕ) (rows : Rows) → IsCache rows → AreRowsOfSides sides size rows
    → ((side : Side) (row : ℕ) → AreRowsOfSides sides size (used side row rows))
    × ((cached : Cached) → IsRowOfSide sides size cached → AreRowsOfSides sides size (kept cached rows))
    × ((test : Cached → Bool) → AreRowsOfSides sides size (taken test rows))

-- ---- in a reshape

-- The position moves: where no row is delayed of the sectors that change sides, all stays.
abbrev pub MovedIsDelayed : Type 0
MovedIsDelayed = (sides moved : Sides) (rows : Rows) (stored list : ℕ → Sector)
    → ((side : Side) → moved.shape side ≡ sides.shape side)
    → ((x : ℕ) → (moved.side x ≡ sides.side x) ⊎ ((held_at sides rows x ≡ None) × (held_at moved rows x ≡ None)))
    → AreDelayed sides rows stored list → AreDelayed moved rows stored list

-- The reshape is over: its new side is the array's only one, by the same places.
abbrev pub RenamedIsDelayed : Type 0
RenamedIsDelayed = (sides one : Sides) (rows : Rows) (stored list : ℕ → Sector)
    → ((x : ℕ) → (one.side x ≡ sides.side x) × (one.shape (sides.side x) ≡ sides.shape (sides.side x)))
    → AreDelayed sides rows stored list → AreDelayed one rows stored list

-- a sector that changes sides is in no row of its new side, where the rows were of their sides, and none of its former side, where that was written out
abbrev pub NoneOfTheWindow : Type 0
NoneOfTheWindow = (sides moved : Sides) (size : ℕ) (rows : Rows) (x : ℕ) → AreRowsOfSides sides size rows → ((side : Side) → moved.shape side ≡ sides.shape side)
    → (moved.side x ≡ sides.side x → ⊥) → held_at moved rows x ≡ None
