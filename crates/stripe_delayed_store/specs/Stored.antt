-- What is stored on the members once a row is written to them, and a write that is told before it is done.
use Rattle.std.specs.Prelude.{◌≡◌, ◌≢◌, ℕ, ◌<◌, ◌∷◌, Bool, true, if◌then◌else◌}
use Rattle.sb_safe_updates.specs.raid_types_Sectors.{Sector}
use Rattle.sb_safe_updates.specs.raid_types_the_Shape.{Shape}
use Rattle.sb_safe_updates.specs.raid_types_the_Role_TheVariants.{Recovering}
use Rattle.sb_safe_updates.specs.bank_Given.{Given}
use Rattle.sb_safe_updates.specs.bank_Tape.{Contents}
use Rattle.sb_safe_updates.specs.raid_layout_Layout.{place}
use Rattle.sb_safe_updates.specs.sb_specs_the_Members.{Members}
use Rattle.sb_safe_updates.specs.sb_specs_Reading.{Scope, shape_of, role_state}
use Rattle.sb_safe_updates.specs.stripe_row_Rows.{reading_of}
use Rattle.sb_safe_updates.specs.stripe_list_Full.{AreWholeIn, RowStands}
use Rattle.sb_safe_updates.specs.stripe_list_Writing.{IsFull, HasFull, StaysRebuilt}
use Rattle.sb_safe_updates.specs.crash_views_Views.{Disk, Ledger}
use Rattle.sb_safe_updates.specs.crash_safety_laws_Steady.{IsSafeNow}
use Rattle.sb_safe_updates.specs.array_members_Placed.{IsPlaced}
use Rattle.sb_safe_updates.specs.array_members_Moving.{IsMoved}
use Rattle.sb_safe_updates.specs.array_members_Lacking.{ListStands, AreOtherRowsKept}

-- ---- a write that is only told

-- the ledger with a write of some sectors told, which may be unsettled
abbrev pub with_write : (ℕ → Bool) → (ℕ → Sector) → Ledger → Ledger
with_write covers body told = record told {
  values = λ x. if covers x then body x ∷ told.values x else told.values x;
  unclean = true;
}

-- It leaves an array safe: nothing is written.
abbrev pub DelayedWritesStaySafe : (sound : Type 0) → Type 0
DelayedWritesStaySafe sound = (scope : Scope) (given : Given) (told : Ledger) (covers : ℕ → Bool) (body : ℕ → Sector) (members : Members) (d : Disk)
    → IsSafeNow sound scope given told members d → IsSafeNow sound scope given (with_write covers body told) members d

-- ---- a row that is stored

-- the stored list with one row of the list
pub record IsRowStored (shape : Shape) (row : ℕ) (list stored stored' : ℕ → Sector) : Type 0 where
  pub here : (x : ℕ) → (place shape x).row ≡ row → stored' x ≡ list x
  pub other : (x : ℕ) → (place shape x).row ≢ row → stored' x ≡ stored x

-- What stands once the row is written: the stored list, the row with its parity, each other row that stood, and what was rebuilt.
pub record HasRowStood (old new : Members) (before after : Contents) (row : ℕ) (list stored stored' : ℕ → Sector) : Type 0 where
  pub stands : ListStands old before stored → ListStands new after stored'
  pub good : AreWholeIn (shape_of old.newest) list row → RowStands (reading_of new) after (shape_of old.newest) stored' row
  pub rows : (r : ℕ) → r ≢ row → RowStands (reading_of old) before (shape_of old.newest) stored r → RowStands (reading_of new) after (shape_of old.newest) stored' r
  pub rebuilt : (role slot r : ℕ) → role < (shape_of old.newest).disks → role_state (reading_of new) role ≡ Recovering slot
      → HasFull (reading_of old) before (shape_of old.newest) stored r role slot → HasFull (reading_of new) after (shape_of old.newest) stored' r role slot

abbrev pub StoredRowsStand : Type 0
StoredRowsStand = (given : Given) (old new : Members) (before after : Contents) (row : ℕ) (list stored stored' : ℕ → Sector) → IsPlaced given old → IsMoved given old new
    → AreOtherRowsKept (λ other. other ≡ row) (reading_of new) before after → IsFull (reading_of new) after (shape_of old.newest) list row
    → StaysRebuilt (reading_of new) before after (shape_of old.newest) stored list row
    → IsRowStored (shape_of old.newest) row list stored stored' → HasRowStood old new before after row list stored stored'
