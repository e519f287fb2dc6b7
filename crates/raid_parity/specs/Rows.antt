-- Rows that are given as bytes, role after role, and rows of which some roles lack.
use Rattle.std.specs.Prelude.{◌≡◌, ◌≢◌, ℕ, ◌+◌, ◌*◌, ◌<◌, ◌≤◌, Bool, false, ◌==◌, if◌then◌else◌, List, length, slice_index, slice_range, Some, None, IfSome}
use Rattle.std.specs.Option.{option_map_or}
use Rattle.raid_types.specs.declared.places.RowRoles.{RowRoles}
use Rattle.raid_types.specs.Search.{tabulate}
use Rattle.raid_types.specs.Sectors.{Sector}
pub use Rattle.raid_types.specs.Sectors.{IsSector}
use Rattle.raid_parity.specs.Exponents.{is_q, exponent}
use Rattle.raid_parity.specs.Parity.{Row, fill}
use Rattle.raid_gf256.specs.Field.{power_of_two}

-- The roles of a row: at most sixteen disks, of which P is one, and Q another where there is one.
pub record IsRowRoles (roles : RowRoles) : Type 0 where
  pub most : roles.disks ≤ 16
  pub p : roles.p < roles.disks
  pub q : IfSome roles.q (λ q. (q < roles.disks) × (q ≢ roles.p))

-- how many lacking roles a row can do without
abbrev pub parity_count : RowRoles → ℕ
parity_count roles = option_map_or (λ q. 2) roles.q 1

-- the bytes that are a row of so many disks
abbrev pub IsRowOf : ℕ → List ℕ → Type 0
IsRowOf disks bytes = length bytes ≡ 512 * disks

-- the sector of a role
abbrev pub sector_of : List ℕ → ℕ → Sector
sector_of bytes role = slice_range bytes (512 * role) (512 * role + 512)

-- the row of these sectors, without those of the roles that lack
abbrev pub row_without : (ℕ → Bool) → ℕ → (ℕ → Sector) → Row
row_without lacks disks sectors = tabulate disks (λ role. if lacks role then None else Some (sectors role))

-- the row of these sectors
abbrev pub whole_row : ℕ → (ℕ → Sector) → Row
whole_row disks sectors = row_without (λ role. false) disks sectors

-- a role's sector of such a row, filled where it lacks
abbrev pub filled_sector : RowRoles → (ℕ → Bool) → ℕ → (ℕ → Sector) → ℕ → Sector
filled_sector roles lacks disks sectors role = if lacks role then fill roles (row_without lacks disks sectors) role else sectors role

-- byte `at` of a role's sector, and of each
abbrev pub byte_of : List ℕ → ℕ → ℕ → ℕ
byte_of bytes role at = slice_index bytes (512 * role + at)

abbrev pub bytes_at : ℕ → List ℕ → ℕ → List ℕ
bytes_at disks bytes at = tabulate disks (λ role. byte_of bytes role at)

-- how often a role counts in the equation of P, all of whose terms have the sum 0
abbrev pub p_weight : RowRoles → ℕ → ℕ
p_weight roles role = if is_q roles role then 0 else 1

-- how often it counts in that of Q
abbrev pub q_weight : RowRoles → ℕ → ℕ → ℕ
q_weight roles q role = if role == roles.p then 0 else (if role == q then 1 else power_of_two (exponent roles q role))
