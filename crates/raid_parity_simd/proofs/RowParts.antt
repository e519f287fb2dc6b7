-- The sectors of one row as parts, and those of a run of rows in a buffer.
use Rattle.std.proofs.Common.{◌≡◌, ◌≢◌, ℕ, ◌+◌, ◌*◌, ◌<◌, ◌≤◌, inl, inr, List, length, get_or, arith}
use Rattle.std.proofs.lemmas.Bool.{cases_lt}
use Rattle.raid_parity.specs.raid_types_the_RowRoles.{RowRoles}
use Rattle.raid_parity.specs.Rows.{IsRowRoles, IsRowOf}
use Rattle.raid_parity_simd.specs.Buffers.{IsRun, role_sectors, role_bytes}
use Rattle.raid_parity_simd.specs.Parts.{AreParts, IsOutside, role_limit}

-- ---- one row

module _ (roles : RowRoles) (is : IsRowRoles roles) (starts : List ℕ) (row_starts : (r : ℕ) → r < role_limit → get_or starts r 0 ≡ 512 * r) where
  pub row_start : (r : ℕ) → r < roles.disks → get_or starts r 0 ≡ 512 * r
  row_start r hr = row_starts r (let most = is.most in omega (arith, most))

  pub row_parts : (row : List ℕ) → IsRowOf roles.disks row → AreParts roles.disks starts 512 (length row)
  row_parts row whole = record {
    within = λ r hr. omega (arith, row_start r hr, whole);
    rising = λ r s lt hs. omega (arith, row_start r (omega arith), row_start s hs);
    cut = omega arith;
  }

  -- another sector of the row is outside
  pub row_outside : (r m at : ℕ) → m < roles.disks → r ≢ m → at < 512 → IsOutside (get_or starts m 0) 512 (512 * r + at)
  row_outside r m at hm ne lt = elim (cases_lt r m) [
    | inl below ↦ inl (omega (arith, row_start m hm))
    | inr above ↦ inr (omega (arith, row_start m hm))
  ]

-- ---- a run of rows

module _ (roles : RowRoles) (is : IsRowRoles roles) (starts : List ℕ) (first count : ℕ)
    (run_starts : (r : ℕ) → r < role_limit → get_or starts r 0 ≡ role_bytes * r + 512 * first) (size : ℕ) (run : IsRun roles.disks first count size) where
  pub run_start : (r : ℕ) → r < roles.disks → get_or starts r 0 ≡ role_bytes * r + 512 * first
  run_start r hr = run_starts r (let most = is.most in omega (arith, most))

  pub run_parts : AreParts roles.disks starts (512 * count) size
  run_parts =
      let rows = run.rows in
      let room = run.roles in
      record {
        within = λ r hr. omega (arith, run_start r hr, rows, room);
        rising = λ r s lt hs. omega (arith, run_start r (omega arith), run_start s hs, rows);
        cut = omega arith;
      }

  -- the sectors of the run's rows
  pub run_place : (i r : ℕ) → r < roles.disks → get_or starts r 0 + 512 * i ≡ 512 * (role_sectors * r + (first + i))
  run_place i r hr = omega (arith, run_start r hr)

  pub run_within : (i : ℕ) → i < count → (r : ℕ) → r < roles.disks → 512 * (role_sectors * r + (first + i)) + 512 ≤ size
  run_within i lt r hr = let rows = run.rows in let room = run.roles in omega (arith, rows, room)

  -- a sector of another role or of another row is outside
  pub run_outside_role : (i r m at : ℕ) → i < role_sectors → m < roles.disks → r ≢ m → at < 512
      → IsOutside (get_or starts m 0) (512 * count) (512 * (role_sectors * r + i) + at)
  run_outside_role i r m at hi hm ne lt =
      let rows = run.rows in
      elim (cases_lt r m) [
        | inl below ↦ inl (omega (arith, run_start m hm, rows))
        | inr above ↦ inr (omega (arith, run_start m hm, rows))
      ]

  pub run_outside_row : (i r m at : ℕ) → i < role_sectors → IsOutside first count i → m < roles.disks → at < 512
      → IsOutside (get_or starts m 0) (512 * count) (512 * (role_sectors * r + i) + at)
  run_outside_row i r m at hi outside hm lt =
      let rows = run.rows in
      elim (cases_lt r m) [
        | inl below ↦ inl (omega (arith, run_start m hm, rows))
        | inr above ↦ elim (cases_lt m r) [
          | inl behind ↦ inr (omega (arith, run_start m hm, rows))
          | inr same ↦
              let e : r ≡ m = omega arith in
              elim outside [
                | inl before ↦ inl (omega (arith, run_start m hm, e))
                | inr behind ↦ inr (omega (arith, run_start m hm, e))
              ]
        ]
      ]
