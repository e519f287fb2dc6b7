-- In which order a stripe is rebuilt.
use Rattle.std.specs.Prelude.{◌⊎◌, ℕ, List}
use Rattle.sb_safe_updates.specs.raid_types_Sectors.{Sector}
use Rattle.sb_safe_updates.specs.stripe_list_Writing.{AreSuperblocksKept}
use Rattle.sb_safe_updates.specs.Named.{AreDataKept}

-- Between two moments, at this mark: no data was written yet, or the superblocks are what they are in the end. So none is written behind data.
abbrev pub IsNamedFirst : (ℕ → ℕ → List Sector) → (ℕ → ℕ → List Sector) → (ℕ → ℕ → List Sector) → Type 0
IsNamedFirst first last e = AreDataKept first e ⊎ AreSuperblocksKept last e
