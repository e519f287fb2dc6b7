-- Superblocks that are held as members had it before they lost slots.
use Rattle.std.specs.Prelude.{◌≡◌, ℕ, List}
use Rattle.crash_views.specs.raid_types_Sectors.{Sector}
use Rattle.crash_views.specs.sb_specs_the_Members.{Members}
use Rattle.crash_views.specs.sb_specs_Reading.{Scope}
use Rattle.crash_views.specs.stripe_row_Rows.{members_without}
use Rattle.crash_safety_laws.specs.Held.{IsHeldBy}

-- The superblocks are held as these members had it before they lost slots which are still to be named, if there are any.
pub record IsHeldSince (scope : Scope) (former members : Members) (d : ℕ → ℕ → List Sector) : Type 0 where
  pub gone : ℕ
  pub since : members ≡ members_without gone former
  pub held : IsHeldBy scope former d
