use Rattle.std.proofs.Common.{◌≡◌, ◌≤◌, refl, ◌∙◌, arith, slice_range}
use borrow.Rule.Slice.PartMut.{put_mid}
use Rattle.raid_types.specs.Bytes.{field}
use Rattle.sb_codec.specs.Superblock.{two_by_two}
use Rattle.sb_codec.proofs.Encoded.{IsWritten, fields-are, valid-is, second_half-kept, max_dev-stands}
use Rattle.sb_codec.proofs.codec.encode.Goals as goal
use Rattle.sb_codec.proofs.codec.encode.Goals.{After-put_u32}

pub checksum_of-sum-requires : goal.checksum_of-sum-requires
checksum_of-sum-requires c =
    let sb = c.args.sb.now in
    let stands : field (put_mid 256 256 c.put_fields.new.sectors c.put_roles.new.bytes) 220 4 ≡ sb.max_dev =
    max_dev-stands sb (two_by_two (slice_range c.args.sectors.now 256 1024)) c.put_fields.new.sectors c.put_roles.new.bytes
    (omega arith) c.put_fields.ensures.fields in
    let room : sb.max_dev ≤ 384 = c.requires.writable.max_dev in
    omega arith

written : (c : After-put_u32) → IsWritten c.args.sb.now c.args.sectors.now c.put_fields.new.sectors
    (put_mid 256 256 c.put_fields.new.sectors c.put_roles.new.bytes) c.put_u32.new.sectors c.put_roles.new.bytes
written c = record {
  old_long = omega arith;
  first_long = omega arith;
  fields = c.put_fields.ensures.fields;
  kept = c.put_fields.ensures.after;
  front_long = omega arith;
  entries = c.put_roles.ensures;
  others = c.requires.roles;
  table = refl;
  sum = c.put_u32.ensures.value ∙ c.checksum_of-sum.ensures;
  before = c.put_u32.ensures.before;
  after = c.put_u32.ensures.after;
}

pub returns-clause-valid : goal.returns-clause-valid
returns-clause-valid c = valid-is (written c) c.requires.writable

pub returns-clause-fields : goal.returns-clause-fields
returns-clause-fields c = fields-are (written c)

pub returns-clause-second_half : goal.returns-clause-second_half
returns-clause-second_half c = second_half-kept (written c)
