-- The version 1.2 superblock in the bytes of sectors 8 and 9 of a slot.
use Rattle.std.specs.Prelude.{ℕ, ◌+◌, ◌-◌, ◌*◌, ◌/◌, ◌%◌, ◌^◌, Bool, ◌&&◌, ◌==◌, nat_le, nat_lt, if◌then◌else◌, List, [], ◌∷◌, ◌++◌, take, slice_range, ℤ, pos, negsuc, Option, Some, None}
use Rattle.raid_types.specs.Sectors.{Sector}
use Rattle.raid_types.specs.Bytes.{little, field}
use Rattle.sb_codec.specs.declared.sb.Sb.{Sb}

-- four bytes as a signed number
abbrev pub signed : ℕ → ℤ
signed n = if nat_lt n (2 ^ 31) then pos n else negsuc (2 ^ 32 - 1 - n)

-- the bytes as numbers of two bytes each
abbrev pub two_by_two : List ℕ → List ℕ
two_by_two (low ∷ high ∷ bytes) = (low + 256 * high) ∷ two_by_two bytes
two_by_two bytes = []

-- the fields in these 1,024 bytes
abbrev pub sb_of : List ℕ → Sb
sb_of bytes = record {
  magic = field bytes 0 4;
  major = field bytes 4 4;
  feature_map = field bytes 8 4;
  pad0 = field bytes 12 4;
  set_uuid = slice_range bytes 16 32;
  set_name = slice_range bytes 32 64;
  ctime = field bytes 64 8;
  level = field bytes 72 4;
  layout = field bytes 76 4;
  size = field bytes 80 8;
  chunksize = field bytes 88 4;
  raid_disks = field bytes 92 4;
  bitmap_offset = field bytes 96 4;
  new_level = field bytes 100 4;
  reshape_position = field bytes 104 8;
  delta_disks = signed (field bytes 112 4);
  new_layout = field bytes 116 4;
  new_chunk = field bytes 120 4;
  new_offset = signed (field bytes 124 4);
  data_offset = field bytes 128 8;
  data_size = field bytes 136 8;
  super_offset = field bytes 144 8;
  recovery_offset = field bytes 152 8;
  dev_number = field bytes 160 4;
  cnt_corrected_read = field bytes 164 4;
  device_uuid = slice_range bytes 168 184;
  devflags = field bytes 184 1;
  bblog_shift = field bytes 185 1;
  bblog_size = field bytes 186 2;
  bblog_offset = field bytes 188 4;
  utime = field bytes 192 8;
  events = field bytes 200 8;
  resync_offset = field bytes 208 8;
  sb_csum = field bytes 216 4;
  max_dev = field bytes 220 4;
  pad3 = slice_range bytes 224 256;
  dev_roles = two_by_two (slice_range bytes 256 1024);
}

-- the sum of the bytes as numbers of four bytes each, the lowest byte first; a last half is added as it stands
abbrev pub word_sum : List ℕ → ℕ
word_sum (a ∷ b ∷ c ∷ d ∷ bytes) = little (a ∷ b ∷ c ∷ d ∷ []) + word_sum bytes
word_sum bytes = little bytes

-- Of the fields and as many role entries as max_dev says, with the checksum itself taken as zero: the low 32
-- bits of the sum plus its high 32 bits, kept to 32 bits.
abbrev pub checksum : List ℕ → ℕ
checksum bytes =
    let summed = word_sum (take 216 bytes ++ (0 ∷ 0 ∷ 0 ∷ 0 ∷ []) ++ slice_range bytes 220 (256 + 2 * field bytes 220 4)) in
    (summed % 2 ^ 32 + summed / 2 ^ 32) % 2 ^ 32

-- these 1,024 bytes are a superblock
abbrev pub is_valid : List ℕ → Bool
is_valid bytes =
    (field bytes 0 4 == 0xa92b4efc) && (field bytes 4 4 == 1) && (field bytes 144 8 == 8)
    && nat_le (field bytes 220 4) 384 && (field bytes 216 4 == checksum bytes)

-- sectors 8 and 9 of a slot, whose sectors are given by number
abbrev pub superblock_bytes : (ℕ → Sector) → List ℕ
superblock_bytes slot = slot 8 ++ slot 9

-- the valid superblock of a slot of so many sectors, if it has one
abbrev pub superblock_in : ℕ → (ℕ → Sector) → Option Sb
superblock_in sectors slot =
    if nat_le 10 sectors && is_valid (superblock_bytes slot) then Some (sb_of (superblock_bytes slot)) else None
