-- Rows whose data lie in one list of bytes, a role's sectors one behind the other, and whose parity lies in two others.
use Rattle.std.specs.Prelude.{ℕ, ◌+◌, ◌*◌, ◌==◌, if◌then◌else◌, List, slice_index, slice_range}
use Rattle.raid_parity.specs.raid_types_the_RowRoles.{RowRoles}
use Rattle.raid_parity.specs.Exponents.{is_q}
use Rattle.raid_parity.specs.Rows.{sector_of}

-- the 512 bytes from a place on
abbrev pub sector_at : List ℕ → ℕ → List ℕ
sector_at bytes place = slice_range bytes place (place + 512)

-- the sector of a role in the i-th row: the data of each role begin at a place of its own
abbrev pub gathered : RowRoles → List ℕ → List ℕ → List ℕ → List ℕ → ℕ → ℕ → List ℕ
gathered roles bytes starts p q i role =
    if role == roles.p then sector_of p i
    else (if is_q roles role then sector_of q i else sector_at bytes (slice_index starts role + 512 * i))
