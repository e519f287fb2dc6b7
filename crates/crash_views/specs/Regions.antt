-- An array that is read from its members, of one shape or of two: where each sector of its list stands, and what it is refused for.
use Rattle.std.specs.Prelude.{◌≡◌, ℕ, ◌≤◌, true, false, length, Option, Some, None, unwrap_or, IsTrue}
use Rattle.std.specs.Option.{option_or}
use Rattle.history.specs.raid_types_the_Place.{Place}
use Rattle.history.specs.raid_types_the_Span.{Span}
use Rattle.history.specs.raid_types_the_Refusal.{Refusal}
use Rattle.history.specs.raid_types_Sectors.{Sector}
use Rattle.history.specs.bank_Given.{Given}
use Rattle.history.specs.bank_Tape.{Contents}
use Rattle.history.specs.sb_codec_the_Sb.{Sb}
use Rattle.history.specs.raid_layout_Layout.{place}
use Rattle.history.specs.reshape_geometry_Geometry.{is_size}
use Rattle.history.specs.sb_specs_the_Members.{Members}
use Rattle.history.specs.sb_specs_Reading.{Scope, Reading, is_reshaping, is_backward, shape_of, final_shape, role_count, list_length, next_window, role_state, rows_held, holder, data_offset_of}
use Rattle.history.specs.sb_specs_Verdict.{members_refusal, members_missing, dirty_degraded, off_unit, AreValidShapes}
use Rattle.history.specs.sb_specs_Reads.{SaysSame, roles_refusal}
use Rattle.stripe_list.specs.stripe_row_Rows.{reading_of, IsHolder, IsTolerated}
use Rattle.stripe_list.specs.stripe_row_Writes.{AreApart}
use Rattle.history.specs.ActiveSection.{section_for}
use Rattle.history.specs.Stands.{shape_for, backup_absent, refusal_of}

-- ---- the backup's header

-- the slot of the backup, and the header in it
abbrev pub backup_of : Scope → ℕ
backup_of scope = unwrap_or scope.backup 0

abbrev pub header_in : Scope → Contents → Sector
header_in scope c = c (backup_of scope) 0

-- the span of the active section, by the newest superblock and this header
abbrev pub open_by : Scope → Sb → Sector → Option Span
open_by scope newest header = section_for scope (λ s k. header) scope.backup (next_window newest)

-- ---- the members

-- where a sector of the list stands, by what the newest superblock says
abbrev pub place_by : Sb → ℕ → Place
place_by newest x = place (shape_for newest x) x

-- The shapes in force fit the size, and the position of an active reshape stands on their unit.
pub record AreShapesFit (newest : Sb) : Type 0 where
  pub valid : AreValidShapes newest
  pub size : IsTrue (is_size newest.size (shape_of newest).chunk)
  pub final_size : IsTrue (is_size newest.size (final_shape newest).chunk)
  pub level : (final_shape newest).level ≡ (shape_of newest).level
  pub unit : off_unit newest ≡ None
  pub position : is_reshaping newest ≡ true → newest.reshape_position ≤ list_length newest
  pub delta : is_reshaping newest ≡ true → is_backward newest ≡ false → (shape_of newest).disks ≤ (final_shape newest).disks
  pub delta_back : is_reshaping newest ≡ true → is_backward newest ≡ true → (final_shape newest).disks ≤ (shape_of newest).disks

-- The members of an array of one shape or two: each role that a slot holds has a slot of its own, where its rows lie behind the superblock.
pub record ArePlaced (scope : Scope) (given : Given) (members : Members) : Type 0 where
  pub fit : AreShapesFit members.newest
  pub roles : length members.roles ≡ role_count members.newest
  pub holders : (role slot : ℕ) → holder (role_state (reading_of members) role) ≡ Some slot → IsHolder given (reading_of members) slot
  pub behind : (role slot : ℕ) → holder (role_state (reading_of members) role) ≡ Some slot → 10 ≤ data_offset_of (reading_of members) slot
  pub members_own : (role slot : ℕ) → holder (role_state (reading_of members) role) ≡ Some slot → scope.backup ≡ Some slot → ⊥
  pub apart : AreApart (reading_of members)
  pub backup : backup_absent scope members.newest ≡ None

-- no shape in force misses more roles than it tolerates
pub record DoWithout (members : Members) : Type 0 where
  pub old : IsTolerated (reading_of members) (shape_of members.newest)
  pub final : IsTolerated (reading_of members) (final_shape members.newest)

-- ---- what is read

-- The reading says what these members do: of the array and of its reshape, of the roles, of the rows that are held of each and where
-- they begin. It is refused for the roles alone.
pub record IsReadOf (scope : Scope) (m : Members) (r : Reading) : Type 0 where
  pub array : SaysSame m.newest r.newest
  pub roles : r.roles ≡ m.roles
  pub rows : (role : ℕ) → rows_held r (role_state (reading_of m) role) ≡ rows_held (reading_of m) (role_state (reading_of m) role)
  pub offsets : (role slot : ℕ) → holder (role_state (reading_of m) role) ≡ Some slot → data_offset_of r slot ≡ data_offset_of (reading_of m) slot
  pub refused : members_refusal scope.sizes.sectors r ≡ roles_refusal r.newest r.roles

-- what the members are refused for: a shape that misses too many roles, or a missing role that holds data while the array is dirty
abbrev pub refusal_for : Members → Option Refusal
refusal_for m = option_or (members_missing m.newest m.roles) (dirty_degraded m.newest m.roles)

-- What is read as members say is refused for that, and for nothing else.
abbrev pub RefusedForMissing : Type 0
RefusedForMissing = (scope : Scope) (given : Given) (m : Members) (r : Reading) → ArePlaced scope given m → IsReadOf scope m r → refusal_of scope r ≡ refusal_for m
