-- Many rows in one buffer: of each role the sectors of all rows, one behind the other.
use Rattle.std.specs.Prelude.{ℕ, ◌+◌, ◌*◌, ◌≤◌, List}
use Rattle.raid_parity.specs.Rows.{sector_of}
use Rattle.raid_parity_simd.specs.declared.buffers.TheConstants.{BUFFER_ROWS, ROLE_SECTORS, ROLE_BYTES}

-- how many rows have room in a buffer, and how many sectors and bytes lie from a role's first to the next role's
abbrev pub buffer_rows : ℕ
buffer_rows = BUFFER_ROWS

abbrev pub role_sectors : ℕ
role_sectors = ROLE_SECTORS

abbrev pub role_bytes : ℕ
role_bytes = ROLE_BYTES

-- the sector of a role in the i-th row of a buffer
abbrev pub buffered : List ℕ → ℕ → ℕ → List ℕ
buffered bytes i role = sector_of bytes (role_sectors * role + i)

-- so many rows from this one on have their room in a buffer of so many bytes, for each of these roles
pub record IsRun (disks first count size : ℕ) : Type 0 where
  pub rows : first + count ≤ buffer_rows
  pub roles : role_bytes * disks ≤ size
