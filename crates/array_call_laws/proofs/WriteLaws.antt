-- The rows that a resync has mended are those of whole stripes.
use Rattle.std.proofs.Common.{◌≡◌, ℕ, true, Option, Some, None}
use Rattle.array_call_specs.specs.raid_types_Shapes.{is_multiple}
use Rattle.array_call_specs.specs.bank_Given.{Given}
use Rattle.array_call_specs.proofs.raid_layout_Places.{chunk_some}
use Rattle.array_call_specs.specs.sb_specs_the_Members.{Members}
use Rattle.array_call_specs.specs.sb_specs_Reading.{shape_of}
use Rattle.array_call_specs.specs.array_members_Placed.{IsPlaced}
use Rattle.array_call_specs.specs.array_members_Lacking.{synced_rows}
use Rattle.array_call_specs.proofs.array_members_Stripes.{stripes-multiple}
use Rattle.array_call_specs.proofs.array_members_Fit.{valid, multiple}

pub mended-multiple : (given : Given) (m : Members) → IsPlaced given m → (resync : Option ℕ) → is_multiple (synced_rows resync m) (shape_of m.newest).chunk ≡ true
mended-multiple given m placed None = multiple given m placed
mended-multiple given m placed (Some mended) = stripes-multiple mended (shape_of m.newest).chunk (chunk_some (shape_of m.newest) (valid given m placed))
