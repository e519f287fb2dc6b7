-- What an array is made of: the superblocks of its members.
use Rattle.std.specs.Prelude.{ℕ, ◌-◌, List}
use Rattle.array_found_laws.specs.sb_codec_the_Sb.{Sb}
use Rattle.array_create_assemble.specs.declared.spec.CreateSpec.{CreateSpec}
use Rattle.sb_add_spare.specs.array_members_Numbers.{device_uuid}
use Rattle.sb_add_spare.specs.history_Created.{Device, created}

-- the device with a number, on a slot of so many sectors, with these role entries in its second sector
abbrev pub device_of : CreateSpec → ℕ → ℕ → List ℕ → Device
device_of spec number sectors second = record {
  number = number;
  offset = spec.offset;
  size = sectors - spec.offset;
  uuid = device_uuid spec.uuid number;
  second = second;
}

-- its superblock; the checksum is put right when it is written
abbrev pub created_sb : CreateSpec → ℕ → ℕ → List ℕ → Sb
created_sb spec number sectors second = created spec.uuid spec.shape spec.size (device_of spec number sectors second)
