use Rattle.std.proofs.Common.{◌≡◌, ℕ, ◌*◌, ◌<◌, length, get_or}
use Rattle.raid_parity.specs.Parity.{q_byte}
use Rattle.raid_parity_simd.specs.Parts.{AreParts, IsOutside, part_byte, part_bytes}
use Rattle.raid_parity_simd.proofs.sums.set_q.Given as goal

-- the blocks that were set
abbrev pub invariant-loop-block : goal.invariant-loop-block
invariant-loop-block l = record {
  whole : length l.bytes ≡ length l.fn.bytes;
  parts : AreParts l.roles.disks l.starts l.len (length l.bytes);
  done : (k : ℕ) → k < l.block * 64 → part_byte l.bytes l.starts l.q k ≡ q_byte l.roles l.q (part_bytes l.roles.disks l.fn.bytes l.starts k);
  outside : (place : ℕ) → IsOutside (get_or l.starts l.q 0) (l.block * 64) place → get_or l.bytes place 0 ≡ get_or l.fn.bytes place 0;
}
