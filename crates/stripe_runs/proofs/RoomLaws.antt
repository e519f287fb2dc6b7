-- The room of a role's sectors of a run in a buffer.
use Rattle.std.proofs.Common.{◌≡◌, ◌≢◌, ◌⊎◌, inl, inr, ℕ, ◌+◌, ◌*◌, ◌<◌, ◌≤◌, arith}
use Rattle.std.proofs.lemmas.Bool.{cases_lt, cases_eq}
use Rattle.raid_parity_simd.specs.Buffers.{IsRun, buffer_rows, role_sectors}
use Rattle.raid_parity_simd.specs.Parts.{IsOutside}

pub run_room : (disks first count size role : ℕ) → IsRun disks first count size → role < disks → 512 * (role_sectors * role + first + count) ≤ size
run_room disks first count size role run lt = omega (arith, run.rows, run.roles, lt)

-- another role's sectors lie outside of it
pub apart_roles : (first count i role other : ℕ) → first + count ≤ buffer_rows → i < role_sectors → other ≢ role → IsOutside (role_sectors * role + first) count (role_sectors * other + i)
apart_roles first count i role other rows low ne = elim (cases_lt other role) [
  | inl below ↦ inl (omega (arith, below, low))
  | inr above ↦ inr (omega (arith, above, ne, rows))
]

-- and so do other rows'
pub apart_rows : (first count i role other : ℕ) → first + count ≤ buffer_rows → i < role_sectors → IsOutside first count i → IsOutside (role_sectors * role + first) count (role_sectors * other + i)
apart_rows first count i role other rows low out = elim (cases_eq other role) [
  | inr ne ↦ apart_roles first count i role other rows low ne
  | inl same ↦ shifted out same
]
  where
    shifted : (i < first) ⊎ (first + count ≤ i) → other ≡ role → IsOutside (role_sectors * role + first) count (role_sectors * other + i)
    shifted (inl below) same = inl (omega (arith, below, same))
    shifted (inr above) same = inr (omega (arith, above, same))
