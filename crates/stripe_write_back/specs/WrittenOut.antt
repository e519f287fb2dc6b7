-- Rows that are delayed, written out one after another.
use Rattle.std.specs.Prelude.{◌≡◌, ◌⊎◌, ℕ, ◌<◌, Bool, true, false, List, Some}
use Rattle.std.specs.List.{find}
use Rattle.stripe_delayed_store.specs.raid_types_Sectors.{Sector, sectors_of, IsWhole}
use Rattle.stripe_delayed_store.specs.raid_types_Shapes.{has_slot}
use Rattle.stripe_delayed_store.specs.raid_types_the_Shape.{Shape}
use Rattle.stripe_delayed_store.specs.raid_types_the_Side.{Side}
use Rattle.stripe_delayed_store.specs.raid_types_the_Role_TheVariants.{Recovering}
use Rattle.stripe_delayed_store.specs.bank_Given.{Given}
use Rattle.stripe_delayed_store.specs.bank_Tape.{Contents}
use Rattle.stripe_delayed_store.specs.sb_specs_the_Members.{Members}
use Rattle.stripe_delayed_store.specs.sb_specs_Reading.{shape_of, role_state}
use Rattle.stripe_delayed_store.specs.stripe_row_Rows.{reading_of}
use Rattle.stripe_delayed_store.specs.stripe_row_Writes.{OthersStand}
use Rattle.stripe_delayed_store.specs.stripe_list_Full.{AreWholeIn, RowStands}
use Rattle.stripe_delayed_store.specs.raid_parity_Rows.{IsRowOf, sector_of}
use Rattle.stripe_delayed_store.specs.stripe_list_Writing.{AreDataOf, IsFull, HasFull, StaysRebuilt}
use Rattle.stripe_delayed_store.specs.array_members_Placed.{IsPlaced}
use Rattle.stripe_delayed_store.specs.array_members_Moving.{IsMoved}
use Rattle.stripe_delayed_store.specs.array_members_Lacking.{ListStands, AreOtherRowsKept}
use Rattle.stripe_delayed_rows.specs.stripe_cache_the_Cached.{Cached}
use Rattle.stripe_delayed_rows.specs.stripe_cache_Rows.{Rows}
use Rattle.stripe_delayed_rows.specs.stripe_cache_Apart.{IsCache}
use Rattle.stripe_delayed_rows.specs.Overlay.{Sides, placed, is_in_row, sector_in, AreDelayed, AreStoredAllowed, AreRowsOfSides, IsHeld, IsNoneDelayed, taken}
use Rattle.stripe_delayed_store.specs.Rows.{DifferWhereChanged}

-- From one stored list to the next, by this list: each sector is stored as before, or as the list has it.
abbrev pub IsNearer : (ℕ → Sector) → (ℕ → Sector) → (ℕ → Sector) → Type 0
IsNearer list stored stored' = (x : ℕ) → (stored' x ≡ stored x) ⊎ (stored' x ≡ list x)

-- What a list that is stored afterwards is worth: the cache's rows over it are the list still, it stands on the members, each row stands on that stood, where the list is
-- whole, and what was rebuilt stays so.
pub record IsStoredAfter (sides : Sides) (old new : Members) (before after : Contents) (rows' : Rows) (stored list stored' : ℕ → Sector) : Type 0 where
  pub delayed : AreDelayed sides rows' stored' list
  pub stands : ListStands new after stored'
  pub nearer : IsNearer list stored stored'
  pub rows : (row : ℕ) → AreWholeIn (shape_of old.newest) list row → RowStands (reading_of old) before (shape_of old.newest) stored row → RowStands (reading_of new) after (shape_of old.newest) stored' row
  pub rebuilt : (role slot row : ℕ) → role < (shape_of old.newest).disks → role_state (reading_of new) role ≡ Recovering slot
      → HasFull (reading_of old) before (shape_of old.newest) stored row role slot → HasFull (reading_of new) after (shape_of old.newest) stored' row role slot

-- Rows were written out, by which the cache holds fewer: whatever was stored and stood, such a list is stored afterwards.
pub record IsWrittenOut (sides : Sides) (old new : Members) (before after : Contents) (rows rows' : Rows) : Type 0 where
  pub out : (stored list : ℕ → Sector) → AreDelayed sides rows stored list → ListStands old before stored
      → (stored' : ℕ → Sector) × IsStoredAfter sides old new before after rows' stored list stored'

-- these bytes are the row's
pub record AreBytesOf (cached : Cached) (bytes : List ℕ) : Type 0 where
  pub whole : IsWhole bytes
  pub sectors : sectors_of bytes ≡ cached.body

-- What a row's writing leaves, for any bytes of it: by a list that has them the row is full, and what was rebuilt stays so; each other row is kept.
pub record IsRowWrittenOut (shape : Shape) (gone : Cached) (new : Members) (before after : Contents) : Type 0 where
  pub bytes : List ℕ
  pub are : AreBytesOf gone bytes
  pub others : AreOtherRowsKept (λ other. other ≡ gone.row) (reading_of new) before after
  pub full : (list : ℕ → Sector) → AreDataOf shape list gone.row (sector_of bytes) → IsFull (reading_of new) after shape list gone.row
  pub rebuilt : (stored list : ℕ → Sector) → AreDataOf shape list gone.row (sector_of bytes) → DifferWhereChanged shape gone.row gone.changed stored list
      → StaysRebuilt (reading_of new) before after shape stored list gone.row

-- the list has the row's sectors, and what of them isn't changed is stored
abbrev pub HasRow : Sides → Cached → (ℕ → Sector) → (ℕ → Sector) → Type 0
HasRow sides gone stored list = (x : ℕ) → is_in_row sides x gone ≡ true
    → (sector_in gone (placed sides x).role ≡ list x) × (has_slot gone.changed (placed sides x).role ≡ false → stored x ≡ list x)

-- all sectors are on one side, and have one shape
abbrev pub one_side : Side → Shape → Sides
one_side side shape = record { side = λ x. side; shape = λ s. shape }

-- Each row that is held has this side, and what of it isn't changed stands on the members, whatever is known of the list.
abbrev pub AreRowsStanding : Members → Contents → Side → Rows → Type 0
AreRowsStanding m c side rows = (cached : Cached) → IsHeld rows cached
    → (cached.side ≡ side) × ((bytes : List ℕ) → AreBytesOf cached bytes → OthersStand c (reading_of m) (shape_of m.newest) cached.row bytes cached.changed)

-- ---- laws

-- A row that is taken out can be written as it is kept, by the list: it has as many bytes as a row has, they are the list's, they differ from what is stored at changed
-- roles alone, and what isn't changed stands.
pub record CanBeWritten (c : Contents) (members : Members) (gone : Cached) (bytes : List ℕ) (stored list : ℕ → Sector) : Type 0 where
  pub size : IsRowOf (shape_of members.newest).disks bytes
  pub own : AreDataOf (shape_of members.newest) list gone.row (sector_of bytes)
  pub differ : DifferWhereChanged (shape_of members.newest) gone.row gone.changed stored list
  pub others : OthersStand c (reading_of members) (shape_of members.newest) gone.row bytes gone.changed

abbrev pub RowsCanBeTaken : Type 0
RowsCanBeTaken = (given : Given) (sides : Sides) (members : Members) (c : Contents) (test : Cached → Bool) (rows : Rows) (gone : Cached) (bytes : List ℕ) (stored list : ℕ → Sector) → IsPlaced given members → IsCache rows
    → AreRowsOfSides sides members.newest.size rows → find test rows.held ≡ Some gone → sides.shape gone.side ≡ shape_of members.newest → AreBytesOf gone bytes
    → AreDelayed sides rows stored list → ListStands members c stored → CanBeWritten c members gone bytes stored list

-- One row that is taken out and written is a row written out.
abbrev pub OneRowIsWrittenOut : Type 0
OneRowIsWrittenOut = (given : Given) (sides : Sides) (old new : Members) (before after : Contents) (test : Cached → Bool) (rows : Rows) (gone : Cached) → IsPlaced given old → IsMoved given old new → IsCache rows
    → AreRowsOfSides sides old.newest.size rows → find test rows.held ≡ Some gone → sides.shape gone.side ≡ shape_of old.newest
    → IsRowWrittenOut (shape_of old.newest) gone new before after → IsWrittenOut sides old new before after rows (taken test rows)

-- And row by row more of them.
abbrev pub WrittenOutRowByRow : Type 0
WrittenOutRowByRow = (given : Given) (sides : Sides) (a b c : Members) (one two three : Contents) (rows rows' rows'' : Rows) → IsMoved given a b → IsMoved given b c → IsWrittenOut sides a b one two rows rows'
    → IsWrittenOut sides b c two three rows' rows'' → IsWrittenOut sides a c one three rows rows''

-- What is nearer to an allowed list is allowed, where it was so before.
abbrev pub NearerIsAllowed : Type 0
NearerIsAllowed = (size : ℕ) (values : ℕ → List Sector) (stored list stored' : ℕ → Sector) → IsNearer list stored stored' → AreStoredAllowed size values stored → AreStoredAllowed size values list
    → AreStoredAllowed size values stored'

-- Where none is delayed any more the list itself stands on the members, with each row that stood, and what was rebuilt is the list's.
pub record HasListStored (old new : Members) (before after : Contents) (stored list : ℕ → Sector) : Type 0 where
  pub stands : ListStands new after list
  pub rows : (row : ℕ) → AreWholeIn (shape_of old.newest) list row → RowStands (reading_of old) before (shape_of old.newest) stored row → RowStands (reading_of new) after (shape_of old.newest) list row
  pub rebuilt : (role slot row : ℕ) → role < (shape_of old.newest).disks → role_state (reading_of new) role ≡ Recovering slot
      → HasFull (reading_of old) before (shape_of old.newest) stored row role slot → HasFull (reading_of new) after (shape_of old.newest) list row role slot

abbrev pub WrittenOutListsStand : Type 0
WrittenOutListsStand = (sides : Sides) (old new : Members) (before after : Contents) (rows rows' : Rows) (stored list : ℕ → Sector) → IsWrittenOut sides old new before after rows rows' → IsNoneDelayed rows'
    → AreDelayed sides rows stored list → ListStands old before stored → HasListStored old new before after stored list

-- What isn't changed of the other rows stands on once a row is written.
abbrev pub RowsStandOn : Type 0
RowsStandOn = (given : Given) (old new : Members) (before after : Contents) (side : Side) (test : Cached → Bool) (rows : Rows) (gone : Cached) → IsMoved given old new → IsCache rows → find test rows.held ≡ Some gone
    → AreOtherRowsKept (λ other. other ≡ gone.row) (reading_of new) before after → AreRowsStanding old before side rows → AreRowsStanding new after side (taken test rows)
