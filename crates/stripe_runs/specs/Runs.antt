-- Rows one behind the other, of one stripe.
use Rattle.std.specs.Prelude.{◌≡◌, ℕ, ◌+◌, ◌/◌, ◌<◌, ◌≤◌, false, List, length, slice_index, Some}
use Rattle.raid_layout.specs.raid_types_the_Shape.{Shape}
use Rattle.raid_layout.specs.raid_types_Sectors.{Sector}
use Rattle.raid_layout.specs.raid_types_Shapes.{has_slot}
use Rattle.stripe_row.specs.bank_Given.{Given}
use Rattle.stripe_row.specs.bank_Tape.{Contents}
use Rattle.stripe_row.specs.sb_specs_Reading.{Reading, data_offset_of}
use Rattle.stripe_row.specs.Rows.{is_held, held_slot, IsRow}
use Rattle.stripe_runs.specs.declared.runs.Run.{Run}

-- so many rows from this one on are of one stripe
abbrev pub IsOneStripe : Shape → ℕ → ℕ → Type 0
IsOneStripe shape row count = (j : ℕ) → j < count → (row + j) / shape.chunk ≡ row / shape.chunk

-- and each role is held in all of them, or in none
pub record AreAlike (r : Reading) (shape : Shape) (row count : ℕ) : Type 0 where
  pub stripe : IsOneStripe shape row count
  pub held : (role j : ℕ) → role < shape.disks → j < count → is_held r role (row + j) ≡ is_held r role row

-- the run's rows stand in the list, one behind the other from its place on, and are alike
pub record IsRunAt (r : Reading) (shape : Shape) (rows : List ℕ) (run : Run) : Type 0 where
  pub some : 0 < run.count
  pub within : run.at + run.count ≤ length rows
  pub listed : (j : ℕ) → j < run.count → slice_index rows (run.at + j) ≡ run.row + j
  pub alike : AreAlike r shape run.row run.count

-- the members have the run's rows, of which there is one at least, and they are alike
pub record AreRowsOf (given : Given) (r : Reading) (shape : Shape) (run : Run) : Type 0 where
  pub first : IsRow given r shape run.row
  pub some : 0 < run.count
  pub below : run.row + run.count ≤ r.newest.size
  pub alike : AreAlike r shape run.row run.count

-- ---- inside

-- this is the sector of a role in a row whose slot holds it and wasn't lost
abbrev pub IsHeldSector : Contents → Reading → ℕ → ℕ → ℕ → Sector → Type 0
IsHeldSector c r lost role row sector =
    (slot : ℕ) → held_slot r role row ≡ Some slot → has_slot lost slot ≡ false → sector ≡ c slot (data_offset_of r slot + row)
