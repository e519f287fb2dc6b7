-- The regions of the list on either side of the position, and what stands behind its end.
use Rattle.std.specs.Prelude.{◌≡◌, ℕ, ◌+◌, ◌*◌, ◌/◌, ◌<◌, ◌≤◌, if◌then◌else◌, Some}
use Rattle.stripe_region_read.specs.raid_types_the_Shape.{Shape}
use Rattle.stripe_region_read.specs.raid_types_Sectors.{Sector}
use Rattle.stripe_region_read.specs.raid_types_Shapes.{stripe_sectors}
use Rattle.stripe_region_read.specs.bank_Tape.{Contents}
use Rattle.stripe_region_read.specs.sb_codec_the_Sb.{Sb}
use Rattle.stripe_region_read.specs.raid_layout_Layout.{place}
use Rattle.stripe_region_read.specs.reshape_geometry_Geometry.{ceiling}
use Rattle.stripe_region_read.specs.sb_specs_the_Members.{Members}
use Rattle.stripe_region_read.specs.sb_specs_Reading.{is_reshaping, list_length, data_offset_of}
use Rattle.stripe_region_read.specs.stripe_row_Rows.{reading_of, held_slot}
use Rattle.stripe_region_read.specs.history_Stands.{shape_for}

-- ---- the regions

-- the sectors of the list below this one are the region below the position; without a reshape there is none
abbrev pub low_end : Sb → ℕ
low_end newest = if is_reshaping newest then newest.reshape_position else 0

-- the shape that places them, and that of the others
abbrev pub low_shape : Sb → Shape
low_shape newest = shape_for newest 0

abbrev pub high_shape : Sb → Shape
high_shape newest = shape_for newest (low_end newest)

-- how many stripes they have, of which the last may go past the position, where the list ends there
abbrev pub low_stripes : Sb → ℕ
low_stripes newest = ceiling (low_end newest) (stripe_sectors (low_shape newest))

-- the first stripe of the others
abbrev pub high_stripe : Sb → ℕ
high_stripe newest = low_end newest / stripe_sectors (high_shape newest)

-- ---- behind the list's end

-- Where the region below the position ends with the list, within a stripe, what slots hold of that stripe behind the end is the list's too.
abbrev pub AreEndsStanding : Members → Contents → (ℕ → Sector) → Type 0
AreEndsStanding m c list = (x slot : ℕ) → list_length m.newest ≤ x → (place (low_shape m.newest) x).row < low_stripes m.newest * (low_shape m.newest).chunk
    → held_slot (reading_of m) (place (low_shape m.newest) x).role (place (low_shape m.newest) x).row ≡ Some slot
    → c slot (data_offset_of (reading_of m) slot + (place (low_shape m.newest) x).row) ≡ list x
