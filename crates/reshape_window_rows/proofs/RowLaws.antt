-- One row of a window: what its bytes have, and what its write leaves.
use Rattle.std.proofs.Common.{◌≡◌, inl, inr, ℕ, ◌-◌, ◌<◌, true, List, sym, ◌∙◌, ap}
use Rattle.raid_layout.specs.raid_types_the_Shape.{Shape}
use Rattle.raid_layout.specs.raid_types_the_Place.{Place}
use Rattle.raid_layout.specs.raid_types_the_Span.{Span}
use Rattle.raid_layout.specs.raid_types_Sectors.{Sector, zero_sector}
use Rattle.raid_layout.specs.raid_types_Shapes.{is_valid_shape}
use Rattle.raid_layout.specs.Layout.{place}
use Rattle.reshape_begin_end.specs.reshape_geometry_Geometry as geometry
use Rattle.reshape_begin_end.specs.raid_parity_Rows.{sector_of}
use Rattle.reshape_begin_end.specs.stripe_row_Writes.{new_sector}
use Rattle.reshape_begin_end.specs.stripe_list_Full.{full_sector}
use Rattle.reshape_begin_end.proofs.stripe_list_FullLaws.{data_here, full-data, new-full}
use Rattle.reshape_window_rows.specs.Copies.{IsCopied, IsOwnRow, HasFullData}

-- a sector of the window that lies in the buffer is the full one of its place
pub copied_here : (shape : Shape) → is_valid_shape shape ≡ true → (span : Span) (buffer : List ℕ) (tail : Span) (list : ℕ → Sector) (role row x : ℕ) → IsCopied span buffer tail list
    → place shape x ≡ record { role = role; row = row } → geometry.IsIn x span → sector_of buffer (x - span.lo) ≡ full_sector shape list row role
copied_here shape valid span buffer tail list role row x copied at inside = copied.window x inside ∙ sym (full-data shape list role row x valid at)

-- and a sector that is none of the window is zero
pub zero_here : (shape : Shape) → is_valid_shape shape ≡ true → (span : Span) (buffer : List ℕ) (tail : Span) (list : ℕ → Sector) (role row x : ℕ) → IsOwnRow shape span tail row → IsCopied span buffer tail list
    → place shape x ≡ record { role = role; row = row } → (geometry.IsIn x span → ⊥) → zero_sector ≡ full_sector shape list row role
zero_here shape valid span buffer tail list role row x own copied at outside = elim (own x (ap (λ (p : Place). p.row) at)) [
  | inl inside ↦ absurd (outside inside)
  | inr past ↦ sym (full-data shape list role row x valid at ∙ copied.zeros x past)
]

-- a row of full data has a full new row
pub new_full : (shape : Shape) → is_valid_shape shape ≡ true → (list : ℕ → Sector) (row : ℕ) (bytes : List ℕ) → HasFullData shape list row bytes
    → (role : ℕ) → role < shape.disks → new_sector shape row bytes role ≡ full_sector shape list row role
new_full shape valid list row bytes has = new-full shape list row bytes valid (λ role x lt at. has role lt (data_here shape role row x valid at) ∙ full-data shape list role row x valid at)
