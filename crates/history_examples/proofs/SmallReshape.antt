-- The superblocks of a small array: level 5 on two disks that goes to three, chunk 8, size 32. The unit is 16.
use Rattle.std.proofs.Common.{ℕ, zero, suc, List, [], ◌∷◌, ◌++◌, replicate, Some}
use Rattle.history.specs.raid_types_Sectors.{Sector}
use Rattle.history.specs.sb_codec_Superblock.{checksum}
use Rattle.history.proofs.bank_Listed.{Slot, listed_sizes}
use Rattle.history.specs.sb_specs_Reading.{Scope}
use Rattle.history.specs.bank_backup_Written.{bytes_of}

abbrev pub uuid : List ℕ
uuid = replicate 16 7

abbrev unused : ℕ → List ℕ
unused zero = []
unused (suc n) = 254 ∷ 255 ∷ unused n

-- what the superblocks say: the feature bits, the disks, the position, how many disks are new, the new level and chunk, and
-- the last byte of resync_offset, eight times
pub record Says : Type 0 where
  pub features : ℕ
  pub disks : ℕ
  pub position : ℕ
  pub more : ℕ
  pub level : ℕ
  pub chunk : ℕ
  pub resync : ℕ

-- reshaping from two disks to three at this position, clean or dirty; and three disks alone
abbrev pub reshaping : ℕ → ℕ → Says
reshaping position resync = record { features = 4; disks = 3; position = position; more = 1; level = 5; chunk = 8; resync = resync }

abbrev pub three : Says
three = record { features = 0; disks = 3; position = 0; more = 0; level = 0; chunk = 0; resync = 255 }

abbrev unsummed : Says → ℕ → ℕ → List ℕ → List ℕ
unsummed says dev events sum =
    bytes_of 4 0xa92b4efc ++ bytes_of 4 1 ++ bytes_of 4 says.features ++ bytes_of 4 0 ++ uuid ++ replicate 40 0
    ++ bytes_of 4 5 ++ bytes_of 4 2 ++ bytes_of 8 32 ++ bytes_of 4 8 ++ bytes_of 4 says.disks ++ bytes_of 4 0
    ++ bytes_of 4 says.level ++ bytes_of 8 says.position ++ bytes_of 4 says.more ++ bytes_of 4 2 ++ bytes_of 4 says.chunk ++ bytes_of 4 0
    ++ bytes_of 8 16 ++ bytes_of 8 32 ++ bytes_of 8 8 ++ bytes_of 8 0 ++ bytes_of 4 dev ++ replicate 28 0 ++ bytes_of 8 0
    ++ bytes_of 8 events ++ replicate 8 says.resync ++ sum
    ++ bytes_of 4 128 ++ replicate 32 0 ++ bytes_of 2 0 ++ bytes_of 2 1 ++ bytes_of 2 2 ++ unused 125

abbrev pub superblock : Says → ℕ → ℕ → Sector
superblock says dev events = unsummed says dev events (bytes_of 4 (checksum (unsummed says dev events (bytes_of 4 0) ++ replicate 512 0)))

-- a member with these 32 rows from sector 16 on
abbrev pub member : Sector → List Sector → Slot
member sb rows = replicate 8 [] ++ sb ∷ replicate 512 0 ∷ replicate 6 [] ++ rows

-- three members and a backup of 24 sectors
abbrev pub scope : List Slot → Scope
scope slots = record { uuid = uuid; given = 15; backup = Some 3; sizes = listed_sizes slots }
