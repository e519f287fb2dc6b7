-- Stretches of the list that are placed by one shape, and how far the parity of their rows is to be relied on.
use Rattle.std.specs.Prelude.{◌≡◌, ◌⊎◌, ℕ, ◌+◌, ◌*◌, ◌/◌, ◌<◌, ◌≤◌, nat_le, true, if◌then◌else◌, Option, Some}
use Rattle.stripe_io.specs.raid_types_the_Shape.{Shape}
use Rattle.stripe_io.specs.raid_types_the_Span.{Span}
use Rattle.stripe_io.specs.raid_types_the_Refusal.{Refusal}
use Rattle.stripe_io.specs.raid_types_the_Refusal_TheVariants.{NotResynced as Unsynced}
use Rattle.stripe_io.specs.raid_types_Sectors.{Sector}
use Rattle.stripe_io.specs.raid_types_Shapes.{stripe_sectors, tolerance}
use Rattle.stripe_io.specs.sb_codec_the_Sb.{Sb}
use Rattle.stripe_io.specs.bank_Tape.{Contents}
use Rattle.stripe_io.specs.raid_layout_Layout.{place}
use Rattle.stripe_io.specs.sb_specs_the_Members.{Members}
use Rattle.stripe_io.specs.sb_specs_Reading.{list_length, data_offset_of}
use Rattle.stripe_io.specs.stripe_row_Rows.{reading_of, is_missing, held_slot}
use Rattle.stripe_io.specs.stripe_list_Full.{RowStands}
use Rattle.stripe_io.specs.history_Stands.{shape_for}
use Rattle.stripe_io.specs.crash_views_Regions.{place_by}
use Rattle.stripe_io.specs.crash_views_Windows.{IsShown}
use Rattle.stripe_io.specs.array_members_Lacking.{lacking, LacksTooMany}

-- each sector from this one up to that one is placed by this shape
abbrev pub IsStretch : Sb → Shape → ℕ → ℕ → Type 0
IsStretch newest shape from to = (x : ℕ) → from ≤ x → x < to → shape_for newest x ≡ shape

-- so many sectors from this one on stand on one role, in rows one behind the other
abbrev pub IsOneRun : Shape → ℕ → ℕ → Type 0
IsOneRun shape first count = (i : ℕ) → i < count → ((place shape (first + i)).role ≡ (place shape first).role) × ((place shape (first + i)).row ≡ (place shape first).row + i)

-- the rows of this shape whose parity is to be relied on, where it is up to this sector of the list: those of the stripes below it, or all
abbrev pub relied_rows : Sb → ℕ → Shape → ℕ
relied_rows newest relied shape = if nat_le (list_length newest) relied then newest.size else relied / stripe_sectors shape * shape.chunk

-- of the sectors below this one, each that isn't hidden stands in a row that stands as the list
abbrev pub RowsStandTo : Option Span → ℕ → Members → Contents → (ℕ → Sector) → Type 0
RowsStandTo hidden relied m c list = (x : ℕ) → x < relied → IsShown hidden m.newest x → RowStands (reading_of m) c (shape_for m.newest x) list (place_by m.newest x).row

-- ---- where the list stands

-- one of these sectors is placed by this shape
abbrev pub IsShapeOf : Sb → ℕ → ℕ → Shape → Type 0
IsShapeOf newest from to shape = (x : ℕ) × (from ≤ x) × (x < to) × (shape_for newest x ≡ shape)

-- each sector that isn't hidden, and is placed by one of these shapes, stands where its place is held
abbrev pub ListStandsIn : (Shape → Type 0) → Option Span → Members → Contents → (ℕ → Sector) → Type 0
ListStandsIn among hidden m c list = (x slot : ℕ) → among (shape_for m.newest x) → IsShown hidden m.newest x
    → held_slot (reading_of m) (place_by m.newest x).role (place_by m.newest x).row ≡ Some slot → c slot (data_offset_of (reading_of m) slot + (place_by m.newest x).row) ≡ list x

-- and its row stands as the list, as far as to this sector
abbrev pub RowsStandIn : (Shape → Type 0) → Option Span → ℕ → Members → Contents → (ℕ → Sector) → Type 0
RowsStandIn among hidden relied m c list = (x : ℕ) → x < relied → among (shape_for m.newest x) → IsShown hidden m.newest x → RowStands (reading_of m) c (shape_for m.newest x) list (place_by m.newest x).row

-- ---- why it isn't read

-- this sector lies on a missing role, in a row whose parity isn't to be relied on
abbrev pub IsUnrelied : ℕ → Members → ℕ → Type 0
IsUnrelied relied m x =
    (is_missing (reading_of m) (place_by m.newest x).role ≡ true) × (relied_rows m.newest relied (shape_for m.newest x) ≤ (place_by m.newest x).row)

-- so it is, or more roles of its shape are missing than that tolerates
abbrev pub IsLacked : ℕ → Members → ℕ → Type 0
IsLacked relied m x = (tolerance (shape_for m.newest x) < lacking (shape_for m.newest x) m) ⊎ IsUnrelied relied m x

-- why a read from this sector up to that one isn't done: more roles of the shape of one of them are missing than that tolerates, or one of them can't be had
abbrev pub IsListUnread : ℕ → ℕ → ℕ → Members → Refusal → Type 0
IsListUnread relied from to m refusal = (x : ℕ) × (from ≤ x) × (x < to)
    × (LacksTooMany (shape_for m.newest x) m refusal ⊎ ((refusal ≡ Unsynced (place_by m.newest x).role) × IsUnrelied relied m x))
