-- What a cache holds of a list, over what was read of it.
use Rattle.std.specs.Prelude.{◌≡◌, ℕ, length, Option, Some, None, IfSome}
use Rattle.raid_layout.specs.raid_types_the_Shape.{Shape}
use Rattle.raid_layout.specs.raid_types_Sectors.{Sector}
use Rattle.raid_layout.specs.raid_types_the_Side.{Side}
use Rattle.stripe_delayed_rows.specs.stripe_cache_the_Cached.{Cached}
use Rattle.stripe_delayed_rows.specs.stripe_cache_Rows.{Rows, held_row}
use Rattle.stripe_delayed_rows.specs.stripe_cache_Apart.{IsCache}
use Rattle.stripe_delayed_rows.specs.Overlay.{sector_in}

-- the sector of a row that is held takes the place of what was read
abbrev pub IsOver : Option Cached → ℕ → Sector → Sector → Type 0
IsOver None role old new = new ≡ old
IsOver (Some cached) role old new = new ≡ sector_in cached role

-- The cache holds the same rows as before, each once.
pub record AreSameRows (old new : Rows) : Type 0 where
  pub held : (side : Side) (row : ℕ) → held_row side row new ≡ held_row side row old
  pub room : new.room ≡ old.room
  pub cache : IsCache old → IsCache new

-- each row of the side that is held has as many sectors as the shape has disks
abbrev pub HasRowsOf : Side → Shape → Rows → Type 0
HasRowsOf side shape rows = (row : ℕ) → IfSome (held_row side row rows) (λ held. length held.body ≡ shape.disks)
