-- What the fill of a good row is: the row's own sectors, and nothing else.
use Rattle.std.specs.Prelude.{◌≡◌, ℕ, ◌<◌, ◌≤◌, Bool, length, IsFalse}
use Rattle.raid_types.specs.declared.places.RowRoles.{RowRoles}
use Rattle.raid_types.specs.Sectors.{Sector}
use Rattle.raid_parity.specs.Parity.{fill, lacking_in, AreEquationsMet}
use Rattle.raid_parity.specs.Rows.{IsRowRoles, IsSector, parity_count, row_without, whole_row}

-- These sectors are a row whose equations hold, and no more of its roles lack than it has parities.
pub record IsGoodBut (roles : RowRoles) (sectors : ℕ → Sector) (lacks : ℕ → Bool) : Type 0 where
  pub valid : IsRowRoles roles
  pub whole : (role : ℕ) → role < roles.disks → IsSector (sectors role)
  pub good : AreEquationsMet roles (whole_row roles.disks sectors)
  pub tolerated : length (lacking_in (row_without lacks roles.disks sectors)) ≤ parity_count roles

-- each role is filled with its own sector
abbrev pub FillsAreOwn : Type 0
FillsAreOwn = (roles : RowRoles) (sectors : ℕ → Sector) (lacks : ℕ → Bool) (role : ℕ) → IsGoodBut roles sectors lacks
    → role < roles.disks → fill roles (row_without lacks roles.disks sectors) role ≡ sectors role

-- two such rows that agree on all roles that don't lack are the same row
abbrev pub FillsAreUnique : Type 0
FillsAreUnique = (roles : RowRoles) (one two : ℕ → Sector) (lacks : ℕ → Bool)
    → IsGoodBut roles one lacks → IsGoodBut roles two lacks
    → ((role : ℕ) → role < roles.disks → IsFalse (lacks role) → one role ≡ two role)
    → (role : ℕ) → role < roles.disks → one role ≡ two role

-- the row is as good without the lacking sectors
abbrev pub GoodRowsStayGood : Type 0
GoodRowsStayGood = (roles : RowRoles) (sectors : ℕ → Sector) (lacks : ℕ → Bool) → IsGoodBut roles sectors lacks
    → AreEquationsMet roles (row_without lacks roles.disks sectors)
