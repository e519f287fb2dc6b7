-- The superblock in the first bytes of a file.
use Rattle.std.specs.Prelude.{ℕ, Bool, ◌&&◌, nat_le, if◌then◌else◌, List, length, slice_range, Option, Some, None}
use Rattle.sb_codec.specs.Superblock.{is_valid, sb_of}
use Rattle.sb_codec.specs.declared.sb.Sb.{Sb}

-- its two sectors are 8 and 9
abbrev pub superblock_sectors : List ℕ → List ℕ
superblock_sectors front = slice_range front 4096 5120

-- the valid superblock of the file, if it has one
unfoldable pub superblock_at : List ℕ → Option Sb
superblock_at front =
    if nat_le 5120 (length front) && is_valid (superblock_sectors front) then Some (sb_of (superblock_sectors front)) else None
