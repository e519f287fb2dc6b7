-- What the steps of a reshape into free room leave of the list.
use Rattle.std.specs.Prelude.{◌≡◌, ◌⊎◌, ℕ, ◌+◌, ◌-◌, ◌<◌, ◌≤◌, true, false, List, [], slice_index_or, Some, None, map, option_map, if◌then◌else◌}
use Rattle.history.specs.raid_types_the_Shape.{Shape}
use Rattle.history.specs.raid_types_the_Side.{Side}
use Rattle.history.specs.raid_types_the_Side_TheVariants.{Old, New}
use Rattle.history.specs.raid_types_the_Span.{Span}
use Rattle.history.specs.raid_types_Sectors.{Sector}
use Rattle.history.specs.raid_types_Shapes.{is_valid_shape}
use Rattle.history.specs.bank_Tape.{Contents, IsDrawn, IsIn as IsOneOf}
use Rattle.history.specs.sb_codec_the_Sb.{Sb}
use Rattle.history.specs.reshape_geometry_Geometry.{side, rows, IsIn}
use Rattle.reshape_shift_laws.specs.stripe_region_laws_Regions.{IsUnderWay}
use Rattle.reshape_shift_laws.specs.Shifts.{least_shift}
use Rattle.history.specs.sb_specs_Reading.{Scope, Reading, reading, is_reshaping, is_backward, shape_of, final_shape, list_length, next_window, role_state, rows_held, holder, own_of, data_offset_of}
use Rattle.history.specs.Stands.{placed_sector, shape_for}
use Rattle.crash_shift_views.specs.Shifted.{shift_by, has_shift, down_by, own_shift, new_offset_of, placed_from, shifted_sector, shifted_list, shift_refusal}

-- Where no superblock has a new offset, a sector is the one that an assembly reads, its backup left aside.
abbrev pub PlainImagesReadAlike : Type 0
PlainImagesReadAlike = (c : Contents) (r : Reading) (x : ℕ) → has_shift r.newest ≡ false → ((slot : ℕ) → own_shift r slot ≡ 0)
    → shifted_sector c r x ≡ placed_sector c r (shape_for r.newest x) x

-- ---- a window is copied

-- a forward reshape into free room, at a position on the unit, of members whose data offsets leave that room behind the superblock
pub record IsShiftingReading (r : Reading) : Type 0 where
  pub active : is_reshaping r.newest ≡ true
  pub forth : is_backward r.newest ≡ false
  pub way : IsUnderWay (shape_of r.newest) (final_shape r.newest) r.newest.size false r.newest.reshape_position
  pub shifted : has_shift r.newest ≡ true
  pub enough : least_shift (shape_of r.newest) (final_shape r.newest) ≤ down_by r.newest.new_offset
  pub room : (role slot : ℕ) → holder (role_state r role) ≡ Some slot → 10 + down_by r.newest.new_offset ≤ data_offset_of r slot

-- a place behind a slot's superblock, at the new offset, in one of the rows that the window writes
pub record IsWindowSector (r : Reading) (span : Span) (s k : ℕ) : Type 0 where
  pub row : ℕ
  pub behind : 10 ≤ k
  pub written : IsIn row (rows (final_shape r.newest) span.lo span.hi)
  pub place_is : k ≡ new_offset_of r s + row

-- only such sectors may have other contents, and those whatever they are
abbrev pub IsWindowWritten : Reading → Span → Contents → Contents → Type 0
IsWindowWritten r span c e = (s k : ℕ) → (e s k ≡ c s k) ⊎ IsWindowSector r span s k

-- Whatever the window writes, each sector of the list reads as before.
abbrev pub CopiedWindowsReadAlike : Type 0
CopiedWindowsReadAlike = (c e : Contents) (r : Reading) (span : Span) (x : ℕ) → IsShiftingReading r → next_window r.newest ≡ Some span
    → IsWindowWritten r span c e → x < list_length r.newest → shifted_sector e r x ≡ shifted_sector c r x

-- And so does the whole list, and what the superblocks say.
abbrev pub CopiedImagesStandAlike : Type 0
CopiedImagesStandAlike = (scope : Scope) (c e : Contents) (r : Reading) (span : Span) → reading scope c ≡ Some r → IsShiftingReading r → next_window r.newest ≡ Some span
    → IsWindowWritten r span c e → (reading scope e ≡ Some r) × (shifted_list scope e ≡ shifted_list scope c)

-- ---- each image of a crash

-- An image reads as a reshape into free room that stands before this window, with the new offsets of another reading; and where it isn't
-- refused, its list has this length and these values.
pub record IsImageRight (scope : Scope) (n : ℕ) (values : ℕ → List Sector) (first : Reading) (span : Span) (c : Contents) : Type 0 where
  pub found : Reading
  pub is : reading scope c ≡ Some found
  pub shifting : IsShiftingReading found
  pub next : next_window found.newest ≡ Some span
  pub shape : final_shape found.newest ≡ final_shape first.newest
  pub offsets : (slot : ℕ) → new_offset_of found slot ≡ new_offset_of first slot
  pub sized : list_length found.newest ≡ n
  pub allowed : shift_refusal scope.sizes.sectors found ≡ None → (x : ℕ) → x < n → IsOneOf (values x) (slice_index_or (shifted_list scope c) x [])

-- each sector has no new values, or is a place that the window writes, whatever it holds then
abbrev pub IsCopied : Reading → Span → (ℕ → ℕ → List Sector) → (ℕ → ℕ → List Sector) → Type 0
IsCopied r span d e = (s k : ℕ) → ((v : Sector) → IsOneOf (e s k) v → IsOneOf (d s k) v) ⊎ IsWindowSector r span s k

-- Where each image of a crash before the copy is right, so is each of a crash in it, or behind it, before the position moves.
abbrev pub CopiesStayRight : Type 0
CopiesStayRight = (scope : Scope) (n : ℕ) (values : ℕ → List Sector) (first : Reading) (span : Span) (d e : ℕ → ℕ → List Sector)
    → ((s k : ℕ) → (v : Sector) × IsOneOf (d s k) v) → IsCopied first span d e
    → ((c : Contents) → IsDrawn d c → IsImageRight scope n values first span c)
    → (c : Contents) → IsDrawn e c → IsImageRight scope n values first span c

-- ---- the window is recorded

abbrev pub recorded : Span → Reading → Reading
recorded span r = record r { newest = record r.newest { reshape_position = span.hi } }

-- Where the window's sectors stand by the new shape at the new offset, the list stands behind it, too.
abbrev pub RecordedWindowsStand : Type 0
RecordedWindowsStand = (c : Contents) (r : Reading) (span : Span) (list : ℕ → Sector) → IsShiftingReading r → next_window r.newest ≡ Some span
    → ((x : ℕ) → x < list_length r.newest → (IsIn x span → ⊥) → shifted_sector c r x ≡ list x)
    → ((x : ℕ) → IsIn x span → placed_from (new_offset_of r) c r (final_shape r.newest) x ≡ list x)
    → (x : ℕ) → x < list_length r.newest → shifted_sector c (recorded span r) x ≡ list x

-- ---- the ends

-- what is read of the roles of a shape, and of their rows, is the same
pub record AreRolesAlike (shape : Shape) (r q : Reading) : Type 0 where
  pub roles : (role : ℕ) → role < shape.disks → role_state q role ≡ role_state r role
  pub rows : (role : ℕ) → role < shape.disks → rows_held q (role_state r role) ≡ rows_held r (role_state r role)

-- A reading before a reshape begins, and one with its first position.
pub record IsBegun (r q : Reading) : Type 0 where
  pub still : is_reshaping r.newest ≡ false
  pub plain : has_shift r.newest ≡ false
  pub own : (slot : ℕ) → own_shift r slot ≡ 0
  pub active : is_reshaping q.newest ≡ true
  pub forth : is_backward q.newest ≡ false
  pub first : q.newest.reshape_position ≡ 0
  pub shape : shape_of q.newest ≡ shape_of r.newest
  pub valid : is_valid_shape (shape_of r.newest) ≡ true
  pub alike : AreRolesAlike (shape_of r.newest) r q
  pub offsets : (slot : ℕ) → data_offset_of q slot ≡ data_offset_of r slot

abbrev pub BeginsReadAlike : Type 0
BeginsReadAlike = (c : Contents) (r q : Reading) (x : ℕ) → IsBegun r q → shifted_sector c q x ≡ shifted_sector c r x

-- A reading with the last position, and one behind the end of the reshape, of which each slot's superblock may be the last one or the one before.
pub record IsEnded (r q : Reading) : Type 0 where
  pub active : is_reshaping r.newest ≡ true
  pub forth : is_backward r.newest ≡ false
  pub last : r.newest.reshape_position ≡ list_length r.newest
  pub still : is_reshaping q.newest ≡ false
  pub shape : shape_of q.newest ≡ final_shape r.newest
  pub valid : is_valid_shape (final_shape r.newest) ≡ true
  pub alike : AreRolesAlike (final_shape r.newest) r q
  pub offsets : (role slot : ℕ) → holder (role_state r role) ≡ Some slot → new_offset_of q slot ≡ new_offset_of r slot

abbrev pub EndsReadAlike : Type 0
EndsReadAlike = (c : Contents) (r q : Reading) (x : ℕ) → IsEnded r q → x < list_length r.newest → shifted_sector c q x ≡ shifted_sector c r x

-- a slot in the update that ends the reshape: with its own superblock of before, or with one whose data offset has moved down
pub record HasFormerOffset (r q : Reading) (slot : ℕ) : Type 0 where
  pub sb : Sb
  pub own : own_of q slot ≡ Some sb
  pub was : own_of r slot ≡ Some sb
  pub shifted : has_shift sb ≡ true
  pub same : sb.new_offset ≡ r.newest.new_offset

pub record HasNewOffset (r q : Reading) (slot : ℕ) : Type 0 where
  pub sb : Sb
  pub own : own_of q slot ≡ Some sb
  pub plain : has_shift sb ≡ false
  pub moved : sb.data_offset ≡ data_offset_of r slot - down_by r.newest.new_offset

-- Each has the new offset that it had.
abbrev pub EndingSlotsKeepTheirPlace : Type 0
EndingSlotsKeepTheirPlace = (r q : Reading) (slot : ℕ) → has_shift r.newest ≡ true → has_shift q.newest ≡ false
    → HasFormerOffset r q slot ⊎ HasNewOffset r q slot → new_offset_of q slot ≡ new_offset_of r slot

-- ---- the region's reading

-- a superblock with its new offset for its data offset
abbrev pub lower : Sb → Sb → Sb
lower newest sb = record sb { data_offset = sb.data_offset - shift_by newest sb }

-- the same superblocks, each so
abbrev pub lowered : Reading → Reading
lowered r = record r { own = map (option_map (lower r.newest)) r.own }

abbrev pub reading_at : Reading → Side → Reading
reading_at r Old = r
reading_at r New = lowered r

-- the reading by which this sector of the list stands
abbrev pub reading_on : Reading → ℕ → Reading
reading_on r x = if is_reshaping r.newest then reading_at r (side (is_backward r.newest) r.newest.reshape_position x) else lowered r

-- Each sector reads as an assembly would read it from its region's reading: what is said of rows by a reading needs no other words.
abbrev pub RegionsReadLowered : Type 0
RegionsReadLowered = (c : Contents) (r : Reading) (x : ℕ) → is_valid_shape (shape_for r.newest x) ≡ true
    → shifted_sector c r x ≡ placed_sector c (reading_on r x) (shape_for r.newest x) x
