-- The example's statement: two slots keep a copy of one sector, and a stop never leaves both half-way.
use Rattle.std.specs.Prelude.{◌≡◌, ◌⊎◌, ℕ, List}
use Rattle.raid_types.specs.Sectors.{Sector}
use Rattle.bank.specs.Tape.{Contents, IsIn, IsDrawn}

-- An image has the new bytes in the first copy, or in the second a value from before; each copy has one of the two.
pub record IsOldOrNew (at : ℕ) (new : Sector) (before : ℕ → ℕ → List Sector) (c : Contents) : Type 0 where
  pub first : (c 0 at ≡ new) ⊎ IsIn (before 0 at) (c 0 at)
  pub second : (c 1 at ≡ new) ⊎ IsIn (before 1 at) (c 1 at)
  pub one_whole : (c 0 at ≡ new) ⊎ IsIn (before 1 at) (c 1 at)

-- each image of a mark is one of these
abbrev pub EachIsOldOrNew : ℕ → Sector → (ℕ → ℕ → List Sector) → (ℕ → ℕ → List Sector) → Type 0
EachIsOldOrNew at new before d = (c : Contents) → IsDrawn d c → IsOldOrNew at new before c
