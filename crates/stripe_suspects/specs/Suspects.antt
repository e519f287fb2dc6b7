-- Bad rows, and the role that is to blame for one.
use Rattle.std.specs.Prelude.{ℕ, ◌<◌, ◌==◌, if◌then◌else◌, IsSome}
use Rattle.raid_parity.specs.raid_types_the_RowRoles.{RowRoles}
use Rattle.raid_types.specs.Sectors.{Sector, IsSector}
use Rattle.raid_parity.specs.Parity.{AreEquationsMet}
use Rattle.raid_parity.specs.Rows.{whole_row}
use Rattle.stripe_suspects.specs.declared.judged.Judged.{Judged}
use Rattle.stripe_suspects.specs.declared.judged.Judged.TheVariants.{Good, Suspect, Unknown}

-- the equations of a row of these sectors hold
abbrev pub IsGood : RowRoles → (ℕ → Sector) → Type 0
IsGood roles sectors = AreEquationsMet roles (whole_row roles.disks sectors)

-- they don't
abbrev pub IsBad : RowRoles → (ℕ → Sector) → Type 0
IsBad roles sectors = IsGood roles sectors → ⊥

-- these sectors, with another one on one role
abbrev pub with_sector : (ℕ → Sector) → ℕ → Sector → ℕ → Sector
with_sector sectors role sector other = if other == role then sector else sectors other

-- The role is the suspect of a bad row of level 6: some contents of its sector alone make the equations hold.
pub record IsSuspect (roles : RowRoles) (sectors : ℕ → Sector) (role : ℕ) : Type 0 where
  pub level : IsSome roles.q
  pub bad : IsBad roles sectors
  pub below : role < roles.disks
  pub contents : Sector
  pub whole : IsSector contents
  pub mends : IsGood roles (with_sector sectors role contents)

-- what was told of the row is so
abbrev pub IsJudged : RowRoles → (ℕ → Sector) → Judged → Type 0
IsJudged roles sectors Good = IsGood roles sectors
IsJudged roles sectors (Suspect role) = IsSuspect roles sectors role
IsJudged roles sectors Unknown = IsBad roles sectors × ((role : ℕ) → IsSuspect roles sectors role → ⊥)
