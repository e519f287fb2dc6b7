-- The device numbers that superblocks of an array bear.
use Rattle.std.specs.Prelude.{◌≡◌, ◌⊎◌, ℕ, Bool, true, false, List, Option, Some}
use Rattle.crash_views.specs.raid_types_Sectors.{Sector}
use Rattle.crash_views.specs.raid_types_Shapes.{has_slot}
use Rattle.sb_update_laws.specs.sb_codec_the_Sb.{Sb}
use Rattle.crash_views.specs.sb_specs_the_Members.{Members}
use Rattle.crash_views.specs.sb_specs_Reading.{Scope}
use Rattle.crash_views.specs.sb_specs_Outcome.{live_set}
use Rattle.crash_views.specs.sb_specs_Update.{own_in}
use Rattle.crash_views.specs.sb_specs_Held.{MayRead}
use Rattle.crash_safety_laws.specs.Marking.{marking}

-- each number that a slot's kept superblock bears, or one that it may show, is told of it
pub record AreCarried (scope : Scope) (carried : ℕ → ℕ → Bool) (own : List (Option Sb)) (d : ℕ → ℕ → List Sector) : Type 0 where
  pub kept : (slot : ℕ) (sb : Sb) → own_in own slot ≡ Some sb → carried slot sb.dev_number ≡ true
  pub shown : (slot : ℕ) (sb : Sb) → MayRead scope d slot (Some sb) → carried slot sb.dev_number ≡ true

-- A live slot, of which the number of its kept superblock is told.
pub record BearsOwn (members : Members) (carried : ℕ → ℕ → Bool) (slot : ℕ) : Type 0 where
  pub live : has_slot (live_set members (marking members false)) slot ≡ true
  pub there : has_slot members.lost slot ≡ false
  pub own : (sb : Sb) → own_in members.own slot ≡ Some sb → carried slot sb.dev_number ≡ true

-- of each slot the numbers are told that were before, or it is such a one
abbrev pub AreToldAnew : Members → (ℕ → ℕ → Bool) → (ℕ → ℕ → Bool) → Type 0
AreToldAnew members old new = (slot : ℕ) → ((number : ℕ) → old slot number ≡ true → new slot number ≡ true) ⊎ BearsOwn members new slot
