-- The superblocks that an array is created with, and that an added slot gets. The checksum is put right when they are written.
use Rattle.std.specs.Prelude.{ℕ, ◌-◌, ◌^◌, nat_lt, if◌then◌else◌, bit_and, List, ◌++◌, take, replicate, pos}
use Rattle.raid_types.specs.declared.places.Shape.{Shape}
use Rattle.raid_types.specs.Search.{tabulate}
use Rattle.sb_read_laws.specs.sb_codec_the_Sb.{Sb}

-- What a superblock says of its own device: the number, where the rows begin and how many sectors there are from there on,
-- the device's uuid, and the role entries in its second sector, which stays as it is.
pub record Device : Type 0 where
  pub number : ℕ
  pub offset : ℕ
  pub size : ℕ
  pub uuid : List ℕ
  pub second : List ℕ

-- the role entries of a new array: device n has role n, and no other number has one
abbrev pub first_entries : ℕ → List ℕ
first_entries disks = tabulate 128 (λ number. if nat_lt number disks then number else 0xfffe)

-- of a new array: clean, with event count 1, and zero where nothing else is said
abbrev pub created : List ℕ → Shape → ℕ → Device → Sb
created uuid shape size device = record {
  magic = 0xa92b4efc;
  major = 1;
  feature_map = 0;
  pad0 = 0;
  set_uuid = uuid;
  set_name = replicate 32 0;
  ctime = 0;
  level = shape.level;
  layout = shape.layout;
  size = size;
  chunksize = shape.chunk;
  raid_disks = shape.disks;
  bitmap_offset = 0;
  new_level = 0;
  reshape_position = 0;
  delta_disks = pos 0;
  new_layout = 0;
  new_chunk = 0;
  new_offset = pos 0;
  data_offset = device.offset;
  data_size = device.size;
  super_offset = 8;
  recovery_offset = 0;
  dev_number = device.number;
  cnt_corrected_read = 0;
  device_uuid = device.uuid;
  devflags = 0;
  bblog_shift = 0;
  bblog_size = 0;
  bblog_offset = 0;
  utime = 0;
  events = 1;
  resync_offset = 2 ^ 64 - 1;
  sb_csum = 0;
  max_dev = 128;
  pad3 = replicate 32 0;
  dev_roles = first_entries shape.disks ++ device.second;
}

-- Of a slot that is added: the array, its name among it, its reshape and its state as the newest superblock has them, without
-- bit 2; its own device; and zero where neither says anything.
abbrev pub added : Sb → Device → Sb
added newest device = record newest {
  feature_map = bit_and newest.feature_map (2 ^ 32 - 1 - 2);
  data_offset = device.offset;
  data_size = device.size;
  recovery_offset = 0;
  dev_number = device.number;
  cnt_corrected_read = 0;
  device_uuid = device.uuid;
  devflags = 0;
  bblog_shift = 0;
  bblog_size = 0;
  bblog_offset = 0;
  utime = 0;
  max_dev = 128;
  pad3 = replicate 32 0;
  dev_roles = take 128 newest.dev_roles ++ device.second;
}
