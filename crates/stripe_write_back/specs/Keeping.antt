-- A row that a write changed is kept in place of being written.
use Rattle.std.specs.Prelude.{◌≡◌, ◌⊎◌, ℕ, ◌<◌, List, Some, None, bit_or}
use Rattle.std.specs.Option.{option_map_or}
use Rattle.stripe_delayed_store.specs.raid_types_Sectors.{Sector, sectors_of}
use Rattle.stripe_delayed_store.specs.raid_types_the_Role_TheVariants.{Recovering}
use Rattle.stripe_delayed_store.specs.raid_types_the_Side.{Side}
use Rattle.stripe_delayed_store.specs.bank_Given.{Given}
use Rattle.stripe_delayed_store.specs.bank_Tape.{Contents}
use Rattle.stripe_delayed_store.specs.sb_specs_the_Members.{Members}
use Rattle.stripe_delayed_store.specs.sb_specs_Reading.{shape_of, role_state}
use Rattle.stripe_delayed_store.specs.stripe_row_Rows.{reading_of}
use Rattle.stripe_delayed_store.specs.stripe_list_Full.{AreWholeIn, RowStands}
use Rattle.stripe_delayed_store.specs.stripe_list_Writing.{HasFull}
use Rattle.stripe_delayed_store.specs.array_members_Placed.{IsPlaced}
use Rattle.stripe_delayed_store.specs.array_members_Moving.{IsMoved}
use Rattle.stripe_delayed_store.specs.array_members_Lacking.{ListStands}
use Rattle.stripe_delayed_rows.specs.stripe_cache_the_Cached.{Cached}
use Rattle.stripe_delayed_rows.specs.stripe_cache_Rows.{Rows, held_row, kept, leaving}
use Rattle.stripe_delayed_rows.specs.stripe_cache_Apart.{IsCache}
use Rattle.stripe_delayed_rows.specs.Overlay.{Sides, AreDelayed, AreRowsOfSides, IsRowOfSide, IsRowWritten}
use Rattle.stripe_write_back.specs.WrittenOut.{IsNearer, IsRowWrittenOut}

-- the row of these bytes
abbrev pub row_of : Side → ℕ → List ℕ → ℕ → Cached
row_of side row bytes changed = record { side = side; row = row; body = sectors_of bytes; changed = changed }

-- What a list that is stored afterwards is worth, where the list became another by the write of a row: the cache's rows over it are the new list, it stands on the
-- members, each sector is stored as before, or as one of the two lists has it; each row stands that stood, where both are whole, and what was rebuilt stays so.
pub record IsStoredNew (sides : Sides) (old new : Members) (before after : Contents) (rows' : Rows) (stored list list' stored' : ℕ → Sector) : Type 0 where
  pub delayed : AreDelayed sides rows' stored' list'
  pub stands : ListStands new after stored'
  pub nearer : IsNearer list stored stored' ⊎ IsNearer list' stored stored'
  pub rows : (row : ℕ) → AreWholeIn (shape_of old.newest) list row → AreWholeIn (shape_of old.newest) list' row → RowStands (reading_of old) before (shape_of old.newest) stored row
      → RowStands (reading_of new) after (shape_of old.newest) stored' row
  pub rebuilt : (role slot row : ℕ) → role < (shape_of old.newest).disks → role_state (reading_of new) role ≡ Recovering slot
      → HasFull (reading_of old) before (shape_of old.newest) stored row role slot → HasFull (reading_of new) after (shape_of old.newest) stored' row role slot

-- A row was kept, or written: whatever was stored and stood, such a list is stored afterwards.
pub record IsRowKept (sides : Sides) (cached : Cached) (old new : Members) (before after : Contents) (rows rows' : Rows) : Type 0 where
  pub kept : (stored list list' : ℕ → Sector) → AreDelayed sides rows stored list → ListStands old before stored → IsRowWritten sides cached list list'
      → (stored' : ℕ → Sector) × IsStoredNew sides old new before after rows' stored list list' stored'

-- ---- laws: where no row leaves; where one does, and is written; and where the row is written itself

abbrev pub KeptRowsStay : Type 0
KeptRowsStay = (sides : Sides) (m : Members) (c : Contents) (rows : Rows) (cached : Cached) → IsCache rows → leaving cached rows ≡ None → IsRowKept sides cached m m c c rows (kept cached rows)

abbrev pub EvictedRowsAreWritten : Type 0
EvictedRowsAreWritten = (given : Given) (sides : Sides) (old new : Members) (before after : Contents) (rows : Rows) (cached gone : Cached) → IsPlaced given old → IsMoved given old new → IsCache rows
    → AreRowsOfSides sides old.newest.size rows → leaving cached rows ≡ Some gone → sides.shape gone.side ≡ shape_of old.newest → IsRowWrittenOut (shape_of old.newest) gone new before after
    → IsRowKept sides cached old new before after rows (kept cached rows)

abbrev pub RowsAreWrittenThrough : Type 0
RowsAreWrittenThrough = (given : Given) (sides : Sides) (old new : Members) (before after : Contents) (rows : Rows) (cached : Cached) → IsPlaced given old → IsMoved given old new
    → held_row cached.side cached.row rows ≡ None → IsRowOfSide sides old.newest.size cached → sides.shape cached.side ≡ shape_of old.newest → IsRowWrittenOut (shape_of old.newest) cached new before after
    → IsRowKept sides cached old new before after rows rows

-- all roles of the row that are changed, once it is kept
abbrev pub all_changed : Side → ℕ → ℕ → Rows → ℕ
all_changed side row changed rows = option_map_or (λ old. bit_or old.changed changed) (held_row side row rows) changed
