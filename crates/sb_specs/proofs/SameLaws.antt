-- What is written elsewhere than in the superblocks doesn't change the reading.
use Rattle.std.proofs.Common.{◌≡◌, ℕ, cond, ◌&&◌, ◌++◌, ap, ap₂, Some, None, option_map, leb}
use Rattle.bank.specs.raid_types_Sectors.{Sector}
use Rattle.reshape_geometry.specs.raid_types_Search.{tabulate}
use Rattle.bank.specs.Tape.{Contents}
use Rattle.sb_codec.specs.Superblock.{superblock_in, is_valid, sb_of}
use Rattle.sb_specs.specs.Reading.{Scope, reading, reading_by, superblocks, newest_of, is_seen, of_array}
use Rattle.sb_specs.specs.Same.{HaveSameSuperblocks, ReadingIsOfSuperblocks}

superblock_in-same : (sectors : ℕ) (a b : ℕ → Sector) → a 8 ≡ b 8 → a 9 ≡ b 9 → superblock_in sectors a ≡ superblock_in sectors b
superblock_in-same sectors a b eighth ninth =
    ap (λ bytes. cond (leb 10 sectors && is_valid bytes) (Some (sb_of bytes)) None) (ap₂ (λ x y. x ++ y) eighth ninth)

superblocks-same : (scope : Scope) (c d : Contents) → HaveSameSuperblocks c d → superblocks scope c ≡ superblocks scope d
superblocks-same scope c d same = ap (tabulate scope.sizes.slots) (λ i slot.
    of_array scope.uuid (cond (is_seen scope slot)
    (superblock_in-same (scope.sizes.sectors slot) (c slot) (d slot) (same.eighth slot) (same.ninth slot) i) None))

pub reading-same : ReadingIsOfSuperblocks
unfolding reading
reading-same scope c d same =
    ap (λ own. option_map (reading_by scope.sizes.sectors own) (newest_of own)) (superblocks-same scope c d same)
