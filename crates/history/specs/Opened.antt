-- What an opening must find, so that what is promised of the epoch holds.
use Rattle.std.specs.Prelude.{◌≡◌, ℕ, ◌-◌, ◌<◌, ◌≤◌, false, ◌&&◌, ◌⊎◌, Some, IfSome, IsTrue, IsFalse}
use Rattle.raid_types.specs.declared.places.Span.{Span}
use Rattle.raid_types.specs.declared.places.Side.TheVariants.{New}
use Rattle.sb_read_laws.specs.sb_codec_the_Sb.{Sb}
use Rattle.bank.specs.Tape.{Contents}
use Rattle.raid_types.specs.Sectors.{zero_sector}
use Rattle.history.specs.World.{contents_at, World, reading_at}
use Rattle.sb_read_laws.specs.raid_layout_Layout.{place, stripe_of}
use Rattle.reshape_plan.specs.reshape_geometry_Geometry.{side}
use Rattle.sb_read_laws.specs.sb_specs_Reading.{Scope, Reading, is_clean, is_reshaping, is_backward, list_length, next_window, final_shape}
use Rattle.history.specs.ActiveSection.{active_section}
use Rattle.bank_backup.specs.Section.{is_header_of, names_span}
use Rattle.history.specs.Stands.{covers, shape_for, placed_sector}
use Rattle.history.specs.Reshaped.{IsGoodRow}
use Rattle.history.specs.Losses.{was_dirty}

-- the row of each sector that no active section covers is good under the shape of its region
abbrev pub HasGoodRows : Scope → Contents → Reading → Type 0
HasGoodRows scope c r = (x : ℕ) → x < list_length r.newest → IsFalse (covers (active_section scope c r) x)
    → IsGoodRow c r (shape_for r.newest x) (place (shape_for r.newest x) x).row

-- the span lies wholly in the new region
abbrev pub IsAllNew : Sb → Span → Type 0
IsAllNew sb span = (x : ℕ) → span.lo ≤ x → x < span.hi → side (is_backward sb) sb.reshape_position x ≡ New

-- a section that the header names is that of the next window, or lies in the new region
abbrev pub HasFittingSections : Scope → Contents → Sb → Type 0
HasFittingSections scope c sb = (backup : ℕ) (span : Span) → scope.backup ≡ Some backup
    → IsTrue (is_header_of scope.uuid (c backup 0) && names_span (c backup 0) span)
    → (next_window sb ≡ Some span) ⊎ IsAllNew sb span

-- behind the list's last sector the rest of its stripe is zero, where a forward reshape has gone through
abbrev pub HasZeroTail : Contents → Reading → Type 0
HasZeroTail c r = IsFalse (is_backward r.newest) → r.newest.reshape_position ≡ list_length r.newest
    → (x : ℕ) → list_length r.newest ≤ x
    → stripe_of (final_shape r.newest) x ≡ stripe_of (final_shape r.newest) (list_length r.newest - 1)
    → placed_sector c r (final_shape r.newest) x ≡ zero_sector

pub record IsSound (scope : Scope) (c : Contents) (r : Reading) : Type 0 where
  pub rows : IsTrue (is_clean r.newest) → HasGoodRows scope c r
  pub sections : IsTrue (is_reshaping r.newest) → HasFittingSections scope c r.newest
  pub tail : IsTrue (is_reshaping r.newest) → HasZeroTail c r

-- the contents at the opening are sound
abbrev pub OpensSound : World → Type 0
OpensSound world = IfSome (reading_at world world.first) (IsSound world.scope (contents_at world world.first))

-- opened clean, and what it found was sound: the premise of what is said of parity
pub record OpensGood (world : World) : Type 0 where
  pub clean : was_dirty world ≡ false
  pub sound : OpensSound world
