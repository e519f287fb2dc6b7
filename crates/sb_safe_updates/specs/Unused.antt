-- What updates and flushes leave of slots that have no part in the array, as the backup's.
use Rattle.std.specs.Prelude.{◌≡◌, ℕ, false}
use Rattle.raid_layout.specs.raid_types_Sectors.{Sector}
use Rattle.raid_layout.specs.raid_types_Shapes.{has_slot}
use Rattle.sb_update.specs.bank_Tape.{IsIn}
use Rattle.sb_update.specs.sb_specs_the_Members.{Members}
use Rattle.sb_update.specs.sb_specs_Outcome.{live_set}
use Rattle.array_members.specs.crash_views_Views.{Disk}
use Rattle.array_members.specs.crash_safety_laws_Marking.{marking}

-- the slot holds no role and is no spare
abbrev pub IsUnused : Members → ℕ → Type 0
IsUnused members slot = has_slot (live_set members (marking members false)) slot ≡ false

-- a stop may leave nothing new of them
abbrev pub IsUnusedKept : Members → Disk → Disk → Type 0
IsUnusedKept members d e = (s k : ℕ) (v : Sector) → IsUnused members s → IsIn (e s k) v → IsIn (d s k) v
