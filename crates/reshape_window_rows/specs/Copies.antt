-- The rows that the copy of a window writes, and those that are zeroed behind the list: by which list they stand, and what a stop may leave of them.
use Rattle.std.specs.Prelude.{◌≡◌, ◌⊎◌, ℕ, ◌+◌, ◌-◌, ◌*◌, ◌/◌, ◌<◌, ◌≤◌, false, List, length, Some}
use Rattle.raid_layout.specs.raid_types_the_Shape.{Shape}
use Rattle.raid_layout.specs.raid_types_the_Span.{Span}
use Rattle.raid_layout.specs.raid_types_Sectors.{Sector, zero_sector}
use Rattle.raid_layout.specs.raid_types_Shapes.{data_disks, stripe_sectors}
use Rattle.reshape_begin_end.specs.sb_codec_the_Sb.{Sb}
use Rattle.reshape_begin_end.specs.bank_Tape.{Contents}
use Rattle.raid_layout.specs.Layout.{place, row_roles}
use Rattle.reshape_begin_end.specs.reshape_geometry_Geometry.{ceiling, IsIn}
use Rattle.reshape_begin_end.specs.raid_parity_Rows.{sector_of}
use Rattle.reshape_begin_end.specs.sb_specs_Reading.{Reading, final_shape, list_length, role_state, holder, data_offset_of}
use Rattle.reshape_begin_end.specs.stripe_row_Rows.{is_held}
use Rattle.reshape_begin_end.specs.stripe_row_Writes.{is_parity}
use Rattle.reshape_begin_end.specs.stripe_list_Full.{full_sector, RowStands}

-- ---- the list

-- the buffer has the window's sectors of the list, one after the other
abbrev pub HasWindow : Span → List ℕ → (ℕ → Sector) → Type 0
HasWindow span buffer list = (x : ℕ) → IsIn x span → sector_of buffer (x - span.lo) ≡ list x

-- the bytes have room for exactly the window's sectors
abbrev pub IsRoomFor : Span → List ℕ → Type 0
IsRoomFor span buffer = length buffer ≡ 512 * (span.hi - span.lo)

-- the places that the new shape has behind the list's end
abbrev pub tail_of : Sb → Span
tail_of newest = record { lo = list_length newest; hi = data_disks (final_shape newest) * newest.size }

-- the list is zero there
abbrev pub IsZeroIn : Span → (ℕ → Sector) → Type 0
IsZeroIn tail list = (x : ℕ) → IsIn x tail → list x ≡ zero_sector

-- A list that has the buffer's sectors in the window, and zeros in its tail.
pub record IsCopied (span : Span) (buffer : List ℕ) (tail : Span) (list : ℕ → Sector) : Type 0 where
  pub window : HasWindow span buffer list
  pub zeros : IsZeroIn tail list

-- ---- the rows

-- each sector that has its place in the row by this shape is the window's, or one of the tail
abbrev pub IsOwnRow : Shape → Span → Span → ℕ → Type 0
IsOwnRow shape span tail row = (x : ℕ) → (place shape x).row ≡ row → IsIn x span ⊎ IsIn x tail

-- the bytes of a row have the full sector of each data role
abbrev pub HasFullData : Shape → (ℕ → Sector) → ℕ → List ℕ → Type 0
HasFullData shape list row bytes = (role : ℕ) → role < shape.disks → is_parity (row_roles shape row) role ≡ false → sector_of bytes role ≡ full_sector shape list row role

-- one of the stripes of this shape that the window touches
abbrev pub IsStripeOf : Shape → Span → ℕ → Type 0
IsStripeOf shape span stripe = (span.lo / stripe_sectors shape ≤ stripe) × (stripe < ceiling span.hi (stripe_sectors shape))

-- a stripe of this shape behind those of a list with this end, among so many rows
abbrev pub IsPastStripe : Shape → ℕ → ℕ → ℕ → Type 0
IsPastStripe shape size end stripe = (ceiling end (stripe_sectors shape) ≤ stripe) × (stripe < size / shape.chunk)

-- each sector has its former values, or is such a place
abbrev pub IsChangedAt : (ℕ → ℕ → Type 0) → (ℕ → ℕ → List Sector) → (ℕ → ℕ → List Sector) → Type 0
IsChangedAt P d e = (s k : ℕ) → (e s k ≡ d s k) ⊎ P s k

-- The place of a role in one of the rows from one up to another.
pub record IsRowsPlace (r : Reading) (from to : ℕ) (s k : ℕ) : Type 0 where
  pub role : ℕ
  pub row : ℕ
  pub held : holder (role_state r role) ≡ Some s
  pub low : from ≤ row
  pub high : row < to
  pub place : k ≡ data_offset_of r s + row

-- ---- the read

-- where the array is synced, the row of each sector of the window that no slot holds in the end stands as the list, with its parity
abbrev pub AreLackingGood : Reading → Reading → Contents → Shape → Span → (ℕ → Sector) → Type 0
AreLackingGood old new c shape span list = (x : ℕ) → IsIn x span → is_held new (place shape x).role (place shape x).row ≡ false → RowStands old c shape list (place shape x).row
