-- Superblocks with the same fields are equal.
use Rattle.std.proofs.Common.{◌≡◌}
use Rattle.sb_codec.specs.declared.sb.Sb.{Sb}

pub record HaveSameFields (a b : Sb) : Type 0 where
  pub magic : a.magic ≡ b.magic
  pub major : a.major ≡ b.major
  pub feature_map : a.feature_map ≡ b.feature_map
  pub pad0 : a.pad0 ≡ b.pad0
  pub set_uuid : a.set_uuid ≡ b.set_uuid
  pub set_name : a.set_name ≡ b.set_name
  pub ctime : a.ctime ≡ b.ctime
  pub level : a.level ≡ b.level
  pub layout : a.layout ≡ b.layout
  pub size : a.size ≡ b.size
  pub chunksize : a.chunksize ≡ b.chunksize
  pub raid_disks : a.raid_disks ≡ b.raid_disks
  pub bitmap_offset : a.bitmap_offset ≡ b.bitmap_offset
  pub new_level : a.new_level ≡ b.new_level
  pub reshape_position : a.reshape_position ≡ b.reshape_position
  pub delta_disks : a.delta_disks ≡ b.delta_disks
  pub new_layout : a.new_layout ≡ b.new_layout
  pub new_chunk : a.new_chunk ≡ b.new_chunk
  pub new_offset : a.new_offset ≡ b.new_offset
  pub data_offset : a.data_offset ≡ b.data_offset
  pub data_size : a.data_size ≡ b.data_size
  pub super_offset : a.super_offset ≡ b.super_offset
  pub recovery_offset : a.recovery_offset ≡ b.recovery_offset
  pub dev_number : a.dev_number ≡ b.dev_number
  pub cnt_corrected_read : a.cnt_corrected_read ≡ b.cnt_corrected_read
  pub device_uuid : a.device_uuid ≡ b.device_uuid
  pub devflags : a.devflags ≡ b.devflags
  pub bblog_shift : a.bblog_shift ≡ b.bblog_shift
  pub bblog_size : a.bblog_size ≡ b.bblog_size
  pub bblog_offset : a.bblog_offset ≡ b.bblog_offset
  pub utime : a.utime ≡ b.utime
  pub events : a.events ≡ b.events
  pub resync_offset : a.resync_offset ≡ b.resync_offset
  pub sb_csum : a.sb_csum ≡ b.sb_csum
  pub max_dev : a.max_dev ≡ b.max_dev
  pub pad3 : a.pad3 ≡ b.pad3
  pub dev_roles : a.dev_roles ≡ b.dev_roles

pub from-fields : (a b : Sb) → HaveSameFields a b → a ≡ b
from-fields a b same = λ i. record {
  magic = same.magic i;
  major = same.major i;
  feature_map = same.feature_map i;
  pad0 = same.pad0 i;
  set_uuid = same.set_uuid i;
  set_name = same.set_name i;
  ctime = same.ctime i;
  level = same.level i;
  layout = same.layout i;
  size = same.size i;
  chunksize = same.chunksize i;
  raid_disks = same.raid_disks i;
  bitmap_offset = same.bitmap_offset i;
  new_level = same.new_level i;
  reshape_position = same.reshape_position i;
  delta_disks = same.delta_disks i;
  new_layout = same.new_layout i;
  new_chunk = same.new_chunk i;
  new_offset = same.new_offset i;
  data_offset = same.data_offset i;
  data_size = same.data_size i;
  super_offset = same.super_offset i;
  recovery_offset = same.recovery_offset i;
  dev_number = same.dev_number i;
  cnt_corrected_read = same.cnt_corrected_read i;
  device_uuid = same.device_uuid i;
  devflags = same.devflags i;
  bblog_shift = same.bblog_shift i;
  bblog_size = same.bblog_size i;
  bblog_offset = same.bblog_offset i;
  utime = same.utime i;
  events = same.events i;
  resync_offset = same.resync_offset i;
  sb_csum = same.sb_csum i;
  max_dev = same.max_dev i;
  pad3 = same.pad3 i;
  dev_roles = same.dev_roles i;
}
