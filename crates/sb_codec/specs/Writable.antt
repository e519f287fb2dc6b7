-- What a superblock has before it is written.
use Rattle.std.specs.Prelude.{◌≡◌, ◌≤◌}
use Rattle.sb_codec.specs.declared.sb.Sb.{Sb}

-- of version 1.2, with no more role entries than its two sectors hold
pub record IsWritable (sb : Sb) : Type 0 where
  pub magic : sb.magic ≡ 0xa92b4efc
  pub major : sb.major ≡ 1
  pub super_offset : sb.super_offset ≡ 8
  pub max_dev : sb.max_dev ≤ 384
