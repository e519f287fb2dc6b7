-- The flat list that stored bytes stand for, and what an assembly of them answers.
use Rattle.std.specs.Prelude.{ℕ, ◌+◌, Bool, false, not, ◌&&◌, ◌||◌, nat_le, nat_lt, if◌then◌else◌, min, List, [], Option, Some, None, unwrap_or, option_map}
use Rattle.std.specs.Option.{option_map_or, option_or}
use Rattle.raid_types.specs.declared.places.Shape.{Shape}
use Rattle.raid_types.specs.declared.places.Span.{Span}
use Rattle.raid_types.specs.declared.places.Side.{Side}
use Rattle.raid_types.specs.declared.places.Side.TheVariants.{Old, New}
use Rattle.raid_types.specs.declared.answers.Refusal.{Refusal}
use Rattle.raid_types.specs.declared.answers.Refusal.TheVariants.{NoSuperblock, BackupAbsent}
use Rattle.raid_types.specs.Shapes.{has_slot}
use Rattle.raid_types.specs.Search.{tabulate}
use Rattle.sb_read_laws.specs.sb_codec_the_Sb.{Sb}
use Rattle.raid_types.specs.Sectors.{Sector}
use Rattle.bank.specs.Tape.{Contents}
use Rattle.sb_read_laws.specs.raid_layout_Layout.{place, row_roles}
use Rattle.raid_parity.specs.Parity.{Row, fill}
use Rattle.reshape_plan.specs.reshape_geometry_Geometry.{side}
use Rattle.sb_read_laws.specs.sb_specs_Reading.{Scope, Reading, reading, is_reshaping, is_backward, shape_of, final_shape, list_length, role_state, rows_held, holder, data_offset_of}
use Rattle.sb_read_laws.specs.sb_specs_Verdict.{unit_of, members_refusal}
use Rattle.history.specs.ActiveSection.{active_section}
use Rattle.bank_backup.specs.Section.{section_sector}

-- ---- the flat list

-- a role's sector of a row, where a slot holds it
abbrev pub held_sector : Contents → Reading → ℕ → ℕ → Option Sector
held_sector c r role row =
    if nat_lt row (rows_held r (role_state r role))
    then option_map (λ slot. c slot (data_offset_of r slot + row)) (holder (role_state r role))
    else None

-- a row under a shape, as the disks hold it
abbrev pub held_row : Contents → Reading → Shape → ℕ → Row
held_row c r shape row = tabulate shape.disks (λ role. held_sector c r role row)

-- the shape of a side
abbrev pub shape_at : Sb → Side → Shape
shape_at sb Old = shape_of sb
shape_at sb New = final_shape sb

-- the shape that places a sector: the one in force, or that of its side
abbrev pub shape_for : Sb → ℕ → Shape
shape_for sb x = if is_reshaping sb then shape_at sb (side (is_backward sb) sb.reshape_position x) else shape_of sb

-- a sector at its place, or filled from its row where no slot holds it
abbrev pub placed_sector : Contents → Reading → Shape → ℕ → Sector
placed_sector c r shape x =
    let at = place shape x in
    unwrap_or (held_sector c r at.role at.row) (fill (row_roles shape at.row) (held_row c r shape at.row) at.role)

abbrev pub covers : Option Span → ℕ → Bool
covers None x = false
covers (Some span) x = nat_le span.lo x && nat_lt x span.hi

-- sector x of the flat list: the active section's where that covers it, else the one at its place
abbrev pub standing_sector : Scope → Contents → Reading → ℕ → Sector
standing_sector scope c r x =
    if covers (active_section scope c r) x
    then option_map_or (λ span. section_sector (c (unwrap_or scope.backup 0)) span x) (active_section scope c r) []
    else placed_sector c r (shape_for r.newest x) x

-- the flat list that the contents stand for; empty where no superblock is there
unfoldable pub stands : Scope → Contents → List Sector
stands scope c = option_map_or (λ r. tabulate (list_length r.newest) (standing_sector scope c r)) (reading scope c) []

-- ---- the verdict

-- the smaller of the unit and the list's end
abbrev pub reach_of : Sb → ℕ
reach_of sb = min (unit_of sb) (list_length sb)

-- the backup slot is there, and long enough for any window
abbrev pub has_room : Scope → ℕ → Bool
has_room scope reach = option_map_or (λ backup. has_slot scope.given backup && nat_le (8 + reach) (scope.sizes.sectors backup)) scope.backup false

abbrev pub backup_absent : Scope → Sb → Option Refusal
backup_absent scope sb = if not (is_reshaping sb) || has_room scope (reach_of sb) then None else Some BackupAbsent

-- the members' refusals come before the backup's
abbrev pub refusal_of : Scope → Reading → Option Refusal
refusal_of scope r = option_or (members_refusal scope.sizes.sectors r) (backup_absent scope r.newest)

-- the first refusal that an assembly meets, and none where it is Ok
unfoldable pub verdict : Scope → Contents → Option Refusal
verdict scope c = option_map_or (refusal_of scope) (reading scope c) (Some NoSuperblock)
