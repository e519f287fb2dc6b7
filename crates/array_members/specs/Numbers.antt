-- The device numbers that superblocks of an array may bear.
use Rattle.std.specs.Prelude.{◌≡◌, ℕ, ◌+◌, ◌-◌, ◌^◌, ◌<◌, ◌≤◌, Bool, true, not, ◌&&◌, ◌||◌, ◌==◌, if◌then◌else◌, nat_le, nat_lt, List, ◌++◌, length, take, replicate, slice_index, slice_index_or, bit_and, decimal, bytes_eq, Option}
use Rattle.sha1.specs.Sha1.{sha1}
use Rattle.uuid.specs.Parts.{with_version, with_variant}
use Rattle.uuid.specs.declared.Variant.TheVariants.{RFC4122}
use Rattle.uuid.specs.declared.Version.TheVariants.{Sha1}
use Rattle.crash_role_laws.specs.raid_types_Sectors.{Sector}
use Rattle.crash_role_laws.specs.raid_types_Search.{least_below, tabulate}
use Rattle.crash_role_laws.specs.raid_types_Shapes.{has_slot}
use Rattle.crash_role_laws.specs.sb_codec_the_Sb.{Sb}
use Rattle.crash_role_laws.specs.sb_codec_Superblock.{two_by_two}
use Rattle.crash_role_laws.specs.bank_Given.{Given, sizes}
use Rattle.crash_role_laws.specs.sb_specs_Outcome.{set_of}
use Rattle.crash_role_laws.specs.sb_specs_Reading.{Scope, is_seen, entry_of}
use Rattle.array_members.specs.declared.work.Work.{Work}

-- the slot's superblock may bear the number; one from 128 on counts as such
abbrev pub bears : Work → ℕ → ℕ → Bool
bears work slot number = nat_le 128 number || (nat_lt slot 32 && has_slot (slice_index work.carried number) slot)

-- some slot's superblock may
abbrev pub is_carried : Work → ℕ → Bool
is_carried work number = not (slice_index_or work.carried number 1 == 0)

-- Of these slots, which may bear a number, those that may once this one bears a new number: it may bear that one too, or bears it only.
abbrev pub bearers : Bool → ℕ → Bool → ℕ → ℕ
bearers only slot is slots = set_of 32 (λ s. if s == slot then is || (not only && has_slot slots s) else has_slot slots s)

-- the slots that may bear each number then
abbrev pub bearing : Bool → ℕ → ℕ → Work → Work
bearing only slot number work = record work { carried = tabulate 128 (λ n. bearers only slot (n == number) (slice_index work.carried n)) }

-- the uuid of a device: version 5, of the array's uuid and the decimal digits of the device's number
abbrev pub device_uuid : List ℕ → ℕ → List ℕ
device_uuid array number = with_version (with_variant (take 16 (sha1 (array ++ decimal number))) RFC4122) Sha1

-- The superblock of a new spare of the array with this uuid, whose slot has so many sectors and these role entries in the superblock's second
-- sector: the array's fields are the newest's, its name and creation time among them, and those of the device are new.
abbrev pub spare_sb : Sb → List ℕ → ℕ → ℕ → ℕ → List ℕ → Sb
spare_sb newest uuid number offset sectors second = record newest {
  magic = 0xa92b4efc;
  major = 1;
  feature_map = bit_and newest.feature_map (4 + 32);
  set_uuid = uuid;
  data_offset = offset;
  data_size = sectors - offset;
  super_offset = 8;
  recovery_offset = 0;
  dev_number = number;
  cnt_corrected_read = 0;
  device_uuid = device_uuid uuid number;
  devflags = 0;
  bblog_shift = 0;
  bblog_size = 0;
  bblog_offset = 0;
  utime = 0;
  sb_csum = 0;
  max_dev = 128;
  pad3 = replicate 32 0;
  dev_roles = take 128 newest.dev_roles ++ second;
}

-- A superblock with which a slot is made a spare: it says what the newest does, and the array's data fits behind it.
pub record IsSpareSb (given : Given) (newest : Sb) (slot : ℕ) (sb : Sb) : Type 0 where
  pub uuid : List ℕ
  pub number : ℕ
  pub offset : ℕ
  pub second : List ℕ
  pub is : sb ≡ spare_sb newest uuid number offset (given.sectors slot) second
  pub few : number < 128
  pub free : 0xfffe ≤ entry_of newest number
  pub long : length second ≡ 256
  pub small : (k : ℕ) → slice_index second k < 65536
  pub behind : 10 ≤ offset
  pub within : offset + newest.size ≤ given.sectors slot
  pub short : given.sectors slot < 2 ^ 64

-- the slot is looked at for the array that the superblock is of
pub record IsOfScope (scope : Scope) (given : Given) (slot : ℕ) (sb : Sb) : Type 0 where
  pub sizes_are : scope.sizes ≡ sizes given
  pub seen : is_seen scope slot ≡ true
  pub array : bytes_eq sb.set_uuid scope.uuid ≡ true

-- these entries stand in the sector
pub record AreSecondEntries (entries : List ℕ) (sector : Sector) : Type 0 where
  pub long : length sector ≡ 512
  pub bytes : (k : ℕ) → slice_index sector k < 256
  pub entries_are : two_by_two sector ≡ entries

-- the smallest number that none may bear and that has no role
abbrev pub free_number : Sb → Work → Option ℕ
free_number newest work = least_below 128 (λ number. not (is_carried work number) && nat_le 0xfffe (entry_of newest number))
