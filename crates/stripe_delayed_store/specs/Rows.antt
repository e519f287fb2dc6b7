-- A row that was kept in memory is written.
use Rattle.std.specs.Prelude.{◌≡◌, ℕ, false, List, IsTrue}
use Rattle.sb_safe_updates.specs.raid_types_the_Shape.{Shape}
use Rattle.sb_safe_updates.specs.raid_types_Sectors.{Sector}
use Rattle.sb_safe_updates.specs.raid_types_Shapes.{has_slot, is_valid_shape}
use Rattle.sb_safe_updates.specs.raid_layout_Layout.{place}
use Rattle.sb_safe_updates.specs.bank_Tape.{Contents}
use Rattle.sb_safe_updates.specs.sb_specs_Reading.{Reading}
use Rattle.sb_safe_updates.specs.raid_parity_Rows.{sector_of}
use Rattle.sb_safe_updates.specs.stripe_row_Writes.{OthersStand}
use Rattle.sb_safe_updates.specs.stripe_list_Full.{DataStands}
use Rattle.sb_safe_updates.specs.stripe_list_Writing.{AreDataOf}

-- Of a row two lists differ at changed roles alone.
abbrev pub DifferWhereChanged : Shape → ℕ → ℕ → (ℕ → Sector) → (ℕ → Sector) → Type 0
DifferWhereChanged shape row changed list list' = (x : ℕ) → (place shape x).row ≡ row → has_slot changed (place shape x).role ≡ false → list x ≡ list' x

-- What stands of a row that is stored as the one list lets it be written by the other, where these roles alone are changed.
abbrev pub StoredRowsCanBeWritten : Type 0
StoredRowsCanBeWritten = (r : Reading) (c : Contents) (shape : Shape) (row changed : ℕ) (bytes : List ℕ) (stored list : ℕ → Sector) → IsTrue (is_valid_shape shape)
    → DataStands r c shape stored row → AreDataOf shape list row (sector_of bytes) → DifferWhereChanged shape row changed stored list → OthersStand c r shape row bytes changed
