use Rattle.std.proofs.Common.{◌≡◌, ℕ, ◌*◌, ◌<◌, length, get_or}
use Rattle.raid_parity_simd.specs.Parts.{AreParts, IsOutside, part_byte, emptied, solved}
use Rattle.raid_parity_simd.proofs.solve.set_two.Given as goal

-- the blocks that were set
abbrev pub invariant-loop-block : goal.invariant-loop-block
invariant-loop-block l = record {
  parts : AreParts l.roles.disks l.starts l.len (length l.bytes);
  first : (k : ℕ) → k < l.block * 64
      → part_byte l.bytes l.starts l.first k ≡ solved l.roles l.q l.factors.first_plain l.factors.first_weighed (emptied (λ role. part_byte l.fn.bytes l.starts role k) l.first l.second);
  second : (k : ℕ) → k < l.block * 64
      → part_byte l.bytes l.starts l.second k ≡ solved l.roles l.q l.factors.second_plain l.factors.second_weighed (emptied (λ role. part_byte l.fn.bytes l.starts role k) l.first l.second);
  outside : (place : ℕ) → IsOutside (get_or l.starts l.first 0) (l.block * 64) place → IsOutside (get_or l.starts l.second 0) (l.block * 64) place
      → get_or l.bytes place 0 ≡ get_or l.fn.bytes place 0;
}
