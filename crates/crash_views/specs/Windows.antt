-- What the steps of a window leave of a view: its section is stored, its stripes are copied, and it is recorded.
use Rattle.std.specs.Prelude.{◌≡◌, ◌≢◌, ◌⊎◌, ◌↔◌, ℕ, ◌+◌, ◌-◌, ◌<◌, ◌≤◌, true, false, List, [], ◌∷◌, Option, Some, None, Contains}
use Rattle.history.specs.raid_types_the_Span.{Span}
use Rattle.history.specs.raid_types_Sectors.{Sector}
use Rattle.history.specs.bank_Given.{Given}
use Rattle.history.specs.bank_Tape.{Contents, IsIn}
use Rattle.history.specs.sb_codec_the_Sb.{Sb}
use Rattle.history.specs.raid_layout_Layout.{place}
use Rattle.history.specs.reshape_geometry_Geometry.{rows, beyond, is_critical}
use Rattle.history.specs.reshape_geometry_Geometry as geometry
use Rattle.history.specs.sb_specs_the_Members.{Members}
use Rattle.history.specs.sb_specs_Reading.{Scope, is_clean, is_reshaping, is_backward, shape_of, final_shape, list_length, next_window, role_count, role_state, holder, data_offset_of}
use Rattle.stripe_list.specs.stripe_row_Rows.{reading_of, is_missing, held_slot}
use Rattle.stripe_list.specs.Full.{DataStands, RowStands}
use Rattle.stripe_list.specs.Writing.{IsPutting}
use Rattle.history.specs.raid_types_the_Shape.{Shape}
use Rattle.history.specs.bank_backup_Section.{names_span}
use Rattle.history.specs.Stands.{shape_for, covers}
use Rattle.crash_views.specs.Regions.{backup_of, open_by, place_by, DoWithout, ArePlaced}
use Rattle.crash_views.specs.Views.{Disk, Ledger, IsHeaderFit, AreHeadersFit, IsTail, IsTailZero, IsViewRight}

-- a stop leaves something in each sector
abbrev pub IsSomewhere : Disk → Type 0
IsSomewhere d = (s k : ℕ) → (v : Sector) × IsIn (d s k) v

-- these values are among those
abbrev pub IsLess : List Sector → List Sector → Type 0
IsLess old now = (v : Sector) → IsIn now v → IsIn old v

-- each sector has no new values, or it is such a place
abbrev pub IsWrittenAt : (ℕ → ℕ → Type 0) → Disk → Disk → Type 0
IsWrittenAt P d e = (s k : ℕ) → IsLess (d s k) (e s k) ⊎ P s k

-- fewer values: as a flush leaves them
abbrev pub AreFewer : Disk → Disk → Type 0
AreFewer d e = (s k : ℕ) (v : Sector) → IsIn (e s k) v → IsIn (d s k) v

-- A view stays right where a stop may leave less.
abbrev pub FewerStayRight : (sound : Type 0) → Type 0
FewerStayRight sound = (scope : Scope) (given : Given) (told : Ledger) (m : Members) (d e : Disk) → AreFewer d e
    → IsViewRight sound scope given told m d → IsViewRight sound scope given told m e

-- ---- the section

-- no header that a stop leaves has an active section
abbrev pub HasNoSection : Scope → Members → Disk → Type 0
HasNoSection scope m d = (header : Sector) → IsIn (d (backup_of scope) 0) header → open_by scope m.newest header ≡ None

-- sectors of the backup behind its header are written, and nothing else
abbrev pub IsStoring : Scope → Disk → Disk → Type 0
IsStoring scope d e = IsWrittenAt (λ s k. (scope.backup ≡ Some s) × (k ≢ 0)) d e

-- While no section is active, its sectors may be written.
abbrev pub StoringStaysRight : (sound : Type 0) → Type 0
StoringStaysRight sound = (scope : Scope) (given : Given) (told : Ledger) (m : Members) (d e : Disk) → IsSomewhere d → HasNoSection scope m d → IsStoring scope d e
    → IsViewRight sound scope given told m d → IsViewRight sound scope given told m e

-- this header may stand in the backup beside the former ones, and nothing else is written
pub record IsNaming (scope : Scope) (header : Sector) (d e : Disk) : Type 0 where
  pub header_is : (v : Sector) → IsIn (e (backup_of scope) 0) v → IsIn (d (backup_of scope) 0) v ⊎ (v ≡ header)
  pub others : (s k : ℕ) → (s ≢ backup_of scope) ⊎ (k ≢ 0) → e s k ≡ d s k

-- what the section has that a header makes active is allowed
abbrev pub IsSectionAllowed : Scope → Members → (ℕ → List Sector) → Disk → Sector → Type 0
IsSectionAllowed scope m values d header = (span : Span) → open_by scope m.newest header ≡ Some span
    → (x : ℕ) → span.lo ≤ x → x < span.hi → (v : Sector) → IsIn (d (backup_of scope) (8 + (x - span.lo))) v → IsIn (values x) v

-- Where some header of before has no active section, and the section of the new one is allowed, that may be written, if it fits.
abbrev pub NamingStaysRight : (sound : Type 0) → Type 0
NamingStaysRight sound = (scope : Scope) (given : Given) (told : Ledger) (m : Members) (header plain : Sector) (d e : Disk) → IsSomewhere d
    → IsIn (d (backup_of scope) 0) plain → open_by scope m.newest plain ≡ None → IsSectionAllowed scope m told.values d header
    → (is_reshaping m.newest ≡ true → sound → IsHeaderFit scope m.newest header) → IsNaming scope header d e
    → IsViewRight sound scope given told m d → IsViewRight sound scope given told m e

-- ---- the copy

-- the place of a role in one of the rows that the window writes
pub record IsWindowPlace (m : Members) (span : Span) (s k : ℕ) : Type 0 where
  pub role : ℕ
  pub row : ℕ
  pub held : holder (role_state (reading_of m) role) ≡ Some s
  pub written : geometry.IsIn row (rows (final_shape m.newest) span.lo span.hi)
  pub place : k ≡ data_offset_of (reading_of m) s + row

-- each sector has no new values, or is such a place, whatever it holds then
abbrev pub IsCopying : Members → Span → Disk → Disk → Type 0
IsCopying m span d e = IsWrittenAt (IsWindowPlace m span) d e

-- The next window, of which every header that a stop leaves has the section active, or which isn't critical.
pub record IsCopyable (scope : Scope) (m : Members) (span : Span) (d : Disk) : Type 0 where
  pub next : next_window m.newest ≡ Some span
  pub kept : ((header : Sector) → IsIn (d (backup_of scope) 0) header → open_by scope m.newest header ≡ Some span)
      ⊎ (is_critical (shape_of m.newest) (final_shape m.newest) m.newest.size (is_backward m.newest) span ≡ false)

-- Its rows may be written, before the position moves: no image reads the list there.
abbrev pub CopyingStaysRight : (sound : Type 0) → Type 0
CopyingStaysRight sound = (scope : Scope) (given : Given) (told : Ledger) (m : Members) (span : Span) (d e : Disk) → IsSomewhere d → IsCopyable scope m span d → IsCopying m span d e
    → IsViewRight sound scope given told m d → IsViewRight sound scope given told m e

-- ---- other stretches

-- superblocks are written, of other slots than the backup, where the section begins at that sector
abbrev pub IsUpdating : Scope → Disk → Disk → Type 0
IsUpdating scope d e = IsWrittenAt (λ s k. (k ≡ 8) × (scope.backup ≡ Some s → ⊥)) d e

-- That leaves each view as right as it was, whether images still read it or not.
abbrev pub UpdatingStaysRight : (sound : Type 0) → Type 0
UpdatingStaysRight sound = (scope : Scope) (given : Given) (told : Ledger) (m : Members) (d e : Disk) → IsSomewhere d → IsUpdating scope d e
    → IsViewRight sound scope given told m d → IsViewRight sound scope given told m e

-- each sector of the list in one of these rows is placed by this shape
abbrev pub IsOfRegion : Members → Shape → (ℕ → Type 0) → Type 0
IsOfRegion m shape touched = (x : ℕ) → x < list_length m.newest → touched (place_by m.newest x).row → shape_for m.newest x ≡ shape

-- Sectors of the list that stand in one row are placed by one shape: new ones and old ones have no row in common.
abbrev pub RegionRowsAreOne : Type 0
RegionRowsAreOne = (scope : Scope) (given : Given) (m : Members) (x y : ℕ) → ArePlaced scope given m → is_reshaping m.newest ≡ true → x < list_length m.newest → y < list_length m.newest
    → (place_by m.newest x).row ≡ (place_by m.newest y).row → shape_for m.newest x ≡ shape_for m.newest y

-- Rows of one region are written in a dirty array, by a list of allowed values that is zero in the tail: a view stays right, also where a window is open.
abbrev pub PuttingStaysRight : (sound : Type 0) → Type 0
PuttingStaysRight sound = (scope : Scope) (given : Given) (told : Ledger) (m : Members) (shape : Shape) (list : ℕ → Sector) (written : List ℕ) (d e : Disk) → is_clean m.newest ≡ false
    → IsOfRegion m shape (Contains written) → ((x : ℕ) → x < list_length m.newest → IsIn (told.values x) (list x)) → (sound → IsTailZero m.newest list)
    → IsPutting (reading_of m) shape list (Contains written) d e
    → IsViewRight sound scope given told m d → IsViewRight sound scope given told m e

-- ---- the list on the members

-- a sector of the list that isn't hidden
pub record IsShown (hidden : Option Span) (newest : Sb) (x : ℕ) : Type 0 where
  pub within : x < list_length newest
  pub outside : covers hidden x ≡ false

-- each sector that isn't hidden stands where its place is held: in the new shape, or in the old one
abbrev pub ListStands : Option Span → Members → Contents → (ℕ → Sector) → Type 0
ListStands hidden m c list = (x slot : ℕ) → IsShown hidden m.newest x → held_slot (reading_of m) (place_by m.newest x).role (place_by m.newest x).row ≡ Some slot
    → c slot (data_offset_of (reading_of m) slot + (place_by m.newest x).row) ≡ list x

-- and its row stands as the list, by the shape of its region
abbrev pub RowsStand : Option Span → Members → Contents → (ℕ → Sector) → Type 0
RowsStand hidden m c list = (x : ℕ) → IsShown hidden m.newest x → RowStands (reading_of m) c (shape_for m.newest x) list (place_by m.newest x).row

-- Without a reshape that says of each row what it said of an array of one shape.
abbrev pub StillStands : Type 0
StillStands = (scope : Scope) (given : Given) (m : Members) (c : Contents) (list : ℕ → Sector) → ArePlaced scope given m → is_reshaping m.newest ≡ false
    → (ListStands None m c list ↔ ((row : ℕ) → row < m.newest.size → DataStands (reading_of m) c (shape_of m.newest) list row))
    × (RowsStand None m c list ↔ ((row : ℕ) → row < m.newest.size → RowStands (reading_of m) c (shape_of m.newest) list row))

-- ---- the window is recorded

-- the members with the position behind the window
abbrev pub moved_past : Span → Members → Members
moved_past span m = record m { newest = record m.newest { reshape_position = beyond (is_backward m.newest) span } }

-- A header that names a window fits before it and behind it.
abbrev pub NextHeadersFit : Type 0
NextHeadersFit = (scope : Scope) (given : Given) (m : Members) (span : Span) (header : Sector) → ArePlaced scope given m → next_window m.newest ≡ Some span → names_span header span ≡ true
    → IsHeaderFit scope m.newest header × IsHeaderFit scope (moved_past span m).newest header

-- Where the window's rows stand by the new shape, as the list, and the window was hidden, the list stands once the position has moved.
abbrev pub MovedStands : Type 0
MovedStands = (scope : Scope) (given : Given) (m : Members) (span : Span) (c : Contents) (list : ℕ → Sector) → ArePlaced scope given m → next_window m.newest ≡ Some span
    → ((row : ℕ) → geometry.IsIn row (rows (final_shape m.newest) span.lo span.hi) → DataStands (reading_of m) c (final_shape m.newest) list row)
    → ListStands (Some span) m c list → ListStands None (moved_past span m) c list

abbrev pub MovedRowsStand : Type 0
MovedRowsStand = (scope : Scope) (given : Given) (m : Members) (span : Span) (c : Contents) (list : ℕ → Sector) → ArePlaced scope given m → next_window m.newest ≡ Some span
    → ((row : ℕ) → geometry.IsIn row (rows (final_shape m.newest) span.lo span.hi) → RowStands (reading_of m) c (final_shape m.newest) list row)
    → RowsStand (Some span) m c list → RowsStand None (moved_past span m) c list

-- and the members are placed there
abbrev pub MovedIsPlaced : Type 0
MovedIsPlaced = (scope : Scope) (given : Given) (m : Members) (span : Span) → ArePlaced scope given m → next_window m.newest ≡ Some span → ArePlaced scope given (moved_past span m)

-- each role that a slot holds in the tail has the list's sector there
abbrev pub AreTailsStanding : Members → Contents → (ℕ → Sector) → Type 0
AreTailsStanding m c list = (x slot : ℕ) → IsTail m.newest x → held_slot (reading_of m) (place (final_shape m.newest) x).role (place (final_shape m.newest) x).row ≡ Some slot
    → c slot (data_offset_of (reading_of m) slot + (place (final_shape m.newest) x).row) ≡ list x

-- Where the rows of the last window stand, the tail behind it does.
abbrev pub MovedTailsStand : Type 0
MovedTailsStand = (scope : Scope) (given : Given) (m : Members) (span : Span) (c : Contents) (list : ℕ → Sector) → ArePlaced scope given m → next_window m.newest ≡ Some span
    → ((row : ℕ) → geometry.IsIn row (rows (final_shape m.newest) span.lo span.hi) → DataStands (reading_of m) c (final_shape m.newest) list row) → AreTailsStanding (moved_past span m) c list

-- a stop leaves what the holders of roles have as it is, but for their superblocks
abbrev pub AreHoldersFlushed : Members → Contents → Disk → Type 0
AreHoldersFlushed m c d = (role slot k : ℕ) → holder (role_state (reading_of m) role) ≡ Some slot → k ≢ 8 → d slot k ≡ c slot k ∷ []

-- What is needed of members of which the holders are flushed: their roles are told, and a dirty mark; the list stands there, of allowed values, and
-- where they are clean its rows; no section is active, and a reshape only where that is told; in one the headers fit, and the tail stands, of zeros.
pub record IsFlushedRight (sound : Type 0) (scope : Scope) (given : Given) (told : Ledger) (m : Members) (c : Contents) (list : ℕ → Sector) (d : Disk) : Type 0 where
  pub placed : ArePlaced scope given m
  pub sized : list_length m.newest ≡ told.size
  pub flushed : AreHoldersFlushed m c d
  pub allowed : (x : ℕ) → x < list_length m.newest → IsIn (told.values x) (list x)
  pub stands : ListStands None m c list
  pub rows : is_clean m.newest ≡ true → DoWithout m → sound → RowsStand None m c list
  pub plain : HasNoSection scope m d
  pub missing : (role : ℕ) → role < role_count m.newest → is_missing (reading_of m) role ≡ true → told.gone role ≡ true
  pub unclean : is_clean m.newest ≡ false → told.unclean ≡ true
  pub reshaping : is_reshaping m.newest ≡ true → told.reshaping ≡ true
  pub headers : is_reshaping m.newest ≡ true → sound → AreHeadersFit scope m d
  pub zeros : sound → IsTailZero m.newest list
  pub tails : sound → AreTailsStanding m c list

-- Such members are a view that is right.
abbrev pub FlushedIsRight : (sound : Type 0) → Type 0
FlushedIsRight sound = (scope : Scope) (given : Given) (told : Ledger) (m : Members) (c : Contents) (list : ℕ → Sector) (d : Disk)
    → IsFlushedRight sound scope given told m c list d → IsViewRight sound scope given told m d
