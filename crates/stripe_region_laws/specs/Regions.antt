-- Two regions of a reshape under way: the rows of the new sectors, and those of the old sectors that still live.
use Rattle.std.specs.Prelude.{◌≡◌, ◌≢◌, ◌≤◌, ◌<◌, ◌⊎◌, ℕ, Bool, true, false, Some}
use Rattle.reshape_geometry.specs.raid_types_the_Shape.{Shape}
use Rattle.reshape_geometry.specs.raid_types_the_Span.{Span}
use Rattle.reshape_geometry.specs.raid_types_the_Side_TheVariants.{Old, New}
use Rattle.reshape_geometry.specs.raid_types_Shapes.{data_disks}
use Rattle.reshape_geometry.specs.Geometry.{AreInForce, list_end, side, window, rows, row_at, IsIn, IsOnUnit}

-- forward to as many data disks or more, backward to as many or fewer
abbrev pub IsDirected : Shape → Shape → Bool → Type 0
IsDirected old new false = data_disks old ≤ data_disks new
IsDirected old new true = data_disks new ≤ data_disks old

-- a reshape that stands at a position on the unit
pub record IsUnderWay (old new : Shape) (size : ℕ) (back : Bool) (position : ℕ) : Type 0 where
  pub force : AreInForce old new size
  pub directed : IsDirected old new back
  pub within : position ≤ list_end old new size
  pub on_unit : IsOnUnit old new size position

-- no new sector stands in a row in which an old one does
abbrev pub RegionsAreApart : Type 0
RegionsAreApart =
    (old new : Shape) (size : ℕ) (back : Bool) (position x y : ℕ) → IsUnderWay old new size back position
    → x < list_end old new size → y < list_end old new size → side back position x ≡ New → side back position y ≡ Old
    → row_at new x ≢ row_at old y

-- A row that the next window writes: the member has it, no old sector beyond the window stands in it, no new sector does, and the new sectors that
-- will are the window's, or past the list's end.
pub record IsWindowRow (old new : Shape) (size : ℕ) (back : Bool) (position : ℕ) (span : Span) (row : ℕ) : Type 0 where
  pub below : row < size
  pub beyond : (y : ℕ) → y < list_end old new size → side back position y ≡ Old → (IsIn y span → ⊥) → row_at old y ≢ row
  pub behind : (x : ℕ) → x < list_end old new size → side back position x ≡ New → row_at new x ≢ row
  pub begins : (x : ℕ) → row_at new x ≡ row → span.lo ≤ x
  pub ends : (x : ℕ) → row_at new x ≡ row → (x < span.hi) ⊎ (list_end old new size ≤ x)

abbrev pub WindowsWriteTheirRows : Type 0
WindowsWriteTheirRows =
    (old new : Shape) (size : ℕ) (back : Bool) (position : ℕ) (span : Span) (row : ℕ) → IsUnderWay old new size back position
    → window old new size back position ≡ Some span → IsIn row (rows new span.lo span.hi)
    → IsWindowRow old new size back position span row
