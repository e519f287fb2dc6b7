use Rattle.std.proofs.Common.{rules, w32, ◌∙◌}
use Rattle.std.proofs.lemmas.Int.{to_z-of_z}
use Rattle.sb_codec.proofs.SameFields.{from-fields}
use Rattle.sb_codec.proofs.codec.fields_of.Goals as goal

pub returns : goal.returns
returns c = from-fields _ _ (record {
  magic = c.u32_at.ensures;
  major = c.u32_at-2.ensures;
  feature_map = c.u32_at-3.ensures;
  pad0 = c.u32_at-4.ensures;
  set_uuid = c.bytes_at.ensures;
  set_name = c.bytes_at-2.ensures;
  ctime = c.u64_at.ensures;
  level = c.u32_at-5.ensures;
  layout = c.u32_at-6.ensures;
  size = c.u64_at-2.ensures;
  chunksize = c.u32_at-7.ensures;
  raid_disks = c.u32_at-8.ensures;
  bitmap_offset = c.u32_at-9.ensures;
  new_level = c.u32_at-10.ensures;
  reshape_position = c.u64_at-3.ensures;
  delta_disks = to_z-of_z w32 _ (search rules) ∙ c.i32_at.ensures;
  new_layout = c.u32_at-11.ensures;
  new_chunk = c.u32_at-12.ensures;
  new_offset = to_z-of_z w32 _ (search rules) ∙ c.i32_at-2.ensures;
  data_offset = c.u64_at-4.ensures;
  data_size = c.u64_at-5.ensures;
  super_offset = c.u64_at-6.ensures;
  recovery_offset = c.u64_at-7.ensures;
  dev_number = c.u32_at-13.ensures;
  cnt_corrected_read = c.u32_at-14.ensures;
  device_uuid = c.bytes_at-3.ensures;
  devflags = c.u8_at.ensures;
  bblog_shift = c.u8_at-2.ensures;
  bblog_size = c.u16_at.ensures;
  bblog_offset = c.u32_at-15.ensures;
  utime = c.u64_at-8.ensures;
  events = c.u64_at-9.ensures;
  resync_offset = c.u64_at-10.ensures;
  sb_csum = c.u32_at-16.ensures;
  max_dev = c.u32_at-17.ensures;
  pad3 = c.bytes_at-4.ensures;
  dev_roles = c.roles.ensures;
})
