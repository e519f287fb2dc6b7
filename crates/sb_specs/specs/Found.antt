-- What is asked of the superblocks that an opening finds, besides that they are refused for nothing.
use Rattle.std.specs.Prelude.{List, Option, ◌≡◌, ℕ, ◌<◌, length, slice_index, Some}
use Rattle.bank.specs.raid_types_Sectors.{Sector}
use Rattle.sb_codec.specs.declared.sb.Sb.{Sb}
use Rattle.bank.specs.Tape.{Contents}
use Rattle.sb_specs.specs.Update.{own_in}

-- two sectors of bytes
pub record IsInSectors (at : ℕ → Sector) : Type 0 where
  pub eighth : length (at 8) ≡ 512
  pub ninth : length (at 9) ≡ 512
  pub bytes : (k : ℕ) → slice_index (at 9) k < 256

-- each of these superblocks stands in such ones in its slot
abbrev pub AreInSectors : Contents → List (Option Sb) → Type 0
AreInSectors c own = (s : ℕ) (sb : Sb) → own_in own s ≡ Some sb → IsInSectors (c s)
