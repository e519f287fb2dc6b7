-- What updates of the superblocks record: the clean mark, a slot that gets a role, and one that is made a spare.
use Rattle.std.specs.Prelude.{◌≡◌, ◌≢◌, ℕ, ◌-◌, ◌^◌, Bool, replicate, slice_set, if◌then◌else◌, Option, Some, None}
use Rattle.crash_views.specs.bank_Tape.{Contents}
use Rattle.sb_update_laws.specs.sb_codec_the_Sb.{Sb}
use Rattle.crash_views.specs.sb_specs_the_Give_TheVariants.{Same}
use Rattle.crash_views.specs.sb_specs_the_Give_TheVariants as give
use Rattle.crash_views.specs.sb_specs_the_Change.{Change}
use Rattle.crash_views.specs.sb_specs_the_Members.{Members}

-- resync_offset is all ones where the array is clean, and 0 where it is dirty
abbrev pub resync_of : Bool → ℕ
resync_of clean = if clean then 2 ^ 64 - 1 else 0

-- the update that marks an array clean or dirty
abbrev pub marking : Members → Bool → Change
marking members clean = record { shared = record members.newest { resync_offset = resync_of clean }; gives = replicate 32 Same; added = None }

-- the update that makes a slot the holder of a role, which it recovers from this row on, or that is whole
abbrev pub giving : Members → ℕ → ℕ → Option ℕ → Change
giving members slot role recovery = record { shared = members.newest; gives = slice_set (replicate 32 Same) slot (give.Role role recovery); added = None }

-- the update that makes a slot a spare, with this superblock
abbrev pub adding : Members → ℕ → Sb → Change
adding members slot sb = record { shared = members.newest; gives = replicate 32 Same; added = Some (slot, sb) }

-- every sector but the superblocks is as it was
abbrev pub AreOthersPresent : (before after : Contents) → Type 0
AreOthersPresent before after = (s k : ℕ) → k ≢ 8 → after s k ≡ before s k
