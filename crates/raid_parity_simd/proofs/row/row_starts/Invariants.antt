use Rattle.std.proofs.Common.{◌≡◌, ℕ, ◌*◌, ◌<◌, length, get_or}
use Rattle.raid_parity_simd.specs.Parts.{role_limit}
use Rattle.raid_parity_simd.proofs.row.row_starts.Given as goal

-- the starts that were set
abbrev pub invariant-loop-role : goal.invariant-loop-role
invariant-loop-role l = record {
  whole : length l.starts ≡ role_limit;
  there : (j : ℕ) → j < l.role → get_or l.starts j 0 ≡ 512 * j;
}
