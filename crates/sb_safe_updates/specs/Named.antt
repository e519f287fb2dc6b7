-- What names and marks leave of the superblocks, and what they don't touch.
use Rattle.std.specs.Prelude.{◌≡◌, ◌≢◌, ℕ, ◌<◌, true, List}
use Rattle.raid_layout.specs.raid_types_Sectors.{Sector}
use Rattle.sb_update.specs.bank_Tape.{Kept}
use Rattle.sb_update.specs.sb_specs_the_Members.{Members}
use Rattle.sb_update.specs.sb_specs_Reading.{role_count, entry_of}
use Rattle.array_members.specs.stripe_row_Rows.{reading_of}
use Rattle.array_members.specs.Placed.{is_unassigned}

-- Each role that no slot holds is named missing: by the newest superblock no device, whose numbers are below 128, has it.
abbrev pub AreNamedMissing : Members → Type 0
AreNamedMissing m = (role : ℕ) → role < role_count m.newest → is_unassigned (reading_of m) role ≡ true → (device : ℕ) → device < 128 → entry_of m.newest device ≡ role → ⊥

-- no data is written: what a stop may leave of each sector but the superblocks is as it was, or a flush has settled it
abbrev pub AreDataKept : (ℕ → ℕ → List Sector) → (ℕ → ℕ → List Sector) → Type 0
AreDataKept d e = (s k : ℕ) → k ≢ 8 → Kept (d s k) (e s k)
