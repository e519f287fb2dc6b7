-- A reshape in which the rows of the new shape begin some sectors before those of the old one, on each member.
use Rattle.std.specs.Prelude.{◌≡◌, ◌≤◌, ◌<◌, ◌⊎◌, ℕ, ◌+◌, ◌-◌, false, Some}
use Rattle.reshape_geometry.specs.raid_types_the_Shape.{Shape}
use Rattle.reshape_geometry.specs.raid_types_the_Span.{Span}
use Rattle.reshape_geometry.specs.raid_types_the_Side_TheVariants.{Old, New}
use Rattle.reshape_geometry.specs.Geometry.{unit, list_end, side, window, rows, row_at, IsIn}
use Rattle.stripe_region_laws.specs.Regions.{IsUnderWay}

-- the sectors by which the new rows have to lie before the old ones: as many as the first window has rows
abbrev pub least_shift : Shape → Shape → ℕ
least_shift old new = (rows new 0 (unit old new)).hi

-- where a member whose data begin at this offset has a row of the old region, and one of the new
abbrev pub old_place : ℕ → ℕ → ℕ
old_place offset row = offset + row

abbrev pub new_place : ℕ → ℕ → ℕ → ℕ
new_place offset by row = offset - by + row

-- a forward reshape that stands at a position on the unit, with enough room before the data
pub record IsShifting (old new : Shape) (size position by : ℕ) : Type 0 where
  pub way : IsUnderWay old new size false position
  pub enough : least_shift old new ≤ by

-- A row that the next window writes: the member has it, it lies before each row in which an old sector stands, those of the window among them;
-- no new sector stands in it, and the new sectors that will are the window's, or past the list's end.
pub record IsShiftedRow (old new : Shape) (size position by : ℕ) (span : Span) (row : ℕ) : Type 0 where
  pub below : row < size
  pub before : (offset y : ℕ) → by ≤ offset → y < list_end old new size → side false position y ≡ Old
      → new_place offset by row < old_place offset (row_at old y)
  pub behind : (x : ℕ) → x < list_end old new size → side false position x ≡ New → row_at new x ≡ row → ⊥
  pub begins : (x : ℕ) → row_at new x ≡ row → span.lo ≤ x
  pub ends : (x : ℕ) → row_at new x ≡ row → (x < span.hi) ⊎ (list_end old new size ≤ x)

abbrev pub ShiftedWindowsOverwriteNothing : Type 0
ShiftedWindowsOverwriteNothing =
    (old new : Shape) (size position by : ℕ) (span : Span) (row : ℕ) → IsShifting old new size position by
    → window old new size false position ≡ Some span → IsIn row (rows new span.lo span.hi)
    → IsShiftedRow old new size position by span row

-- Whatever the shift, none among them, a forward window reaches no row of an old sector beyond it. So only its own sectors need another place
-- while it is copied: a section, or room.
abbrev pub WindowsReachNoOtherRow : Type 0
WindowsReachNoOtherRow =
    (old new : Shape) (size position by offset : ℕ) (span : Span) (row y : ℕ) → IsUnderWay old new size false position → by ≤ offset
    → window old new size false position ≡ Some span → IsIn row (rows new span.lo span.hi)
    → span.hi ≤ y → y < list_end old new size → new_place offset by row < old_place offset (row_at old y)

-- the new region lies before the old one, whatever the shift
abbrev pub ShiftedRegionsAreApart : Type 0
ShiftedRegionsAreApart =
    (old new : Shape) (size position by offset x y : ℕ) → IsUnderWay old new size false position → by ≤ offset
    → x < list_end old new size → y < list_end old new size → side false position x ≡ New → side false position y ≡ Old
    → new_place offset by (row_at new x) < old_place offset (row_at old y)

-- a row of the first window stands where the first old row does
pub record Overwrites (old new : Shape) (size by : ℕ) (span : Span) : Type 0 where
  pub written : IsIn by (rows new span.lo span.hi)
  pub same : (offset : ℕ) → by ≤ offset → new_place offset by by ≡ old_place offset (row_at old 0)
  pub lives : side false 0 0 ≡ Old

abbrev pub SmallerShiftsOverwrite : Type 0
SmallerShiftsOverwrite =
    (old new : Shape) (size by : ℕ) (span : Span) → IsUnderWay old new size false 0 → unit old new ≤ list_end old new size
    → by < least_shift old new → window old new size false 0 ≡ Some span → Overwrites old new size by span
