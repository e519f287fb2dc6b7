-- The rows of the stripes that are copied, and of those that are zeroed.
use Rattle.std.proofs.Common.{◌≡◌, inl, inr, ℕ, ◌+◌, ◌*◌, ◌/◌, ◌<◌, ◌≤◌, true, arith}
use Rattle.std.proofs.lemmas.Bool.{cases_lt}
use Rattle.std.proofs.lemmas.Bool.Decides.{nat_tests}
use Rattle.std.proofs.Math.Nat.{mul-le-mul_right}
use Rattle.reshape_window_rows.specs.raid_types_Shapes.{is_multiple, stripe_sectors}
use Rattle.reshape_window_rows.proofs.raid_layout_Places.{chunk_some}
use Rattle.reshape_window_rows.specs.reshape_geometry_Geometry.{ceiling}
use Rattle.reshape_window_rows.proofs.reshape_geometry_Divisions.{next_multiple, quotient}
use Rattle.reshape_window_steps.specs.Laws.{RowsAreOfStripes, PastRowsAreOfStripes}

module _ (row chunk : ℕ) (some : 0 < chunk) where
  -- the quotient lies between those of the bounds
  above : (a : ℕ) → a * chunk ≤ row → a ≤ row / chunk
  above a low = elim (cases_lt (row / chunk) a) [
    | inl less ↦ absurd (let more = next_multiple (row / chunk) a chunk less in let q = quotient row chunk some in omega (arith, more, q.1, low))
    | inr ge ↦ ge
  ]

  below : (b : ℕ) → row < b * chunk → row / chunk < b
  below b high = elim (cases_lt (row / chunk) b) [
    | inl less ↦ less
    | inr ge ↦ absurd (let le : b * chunk ≤ row / chunk * chunk = mul-le-mul_right chunk ge in let q = quotient row chunk some in omega (arith, le, q.0, high))
  ]

  inside : (row / chunk * chunk ≤ row) × (row < (row / chunk + 1) * chunk)
  inside = let q = quotient row chunk some in (q.0, let high = q.1 in omega (arith, high))

pub rows-of-stripes : RowsAreOfStripes
rows-of-stripes shape span row valid at =
    let some = chunk_some shape valid in (
      row / shape.chunk,
      (above row shape.chunk some (span.lo / stripe_sectors shape) at.0, below row shape.chunk some (ceiling span.hi (stripe_sectors shape)) at.1),
      inside row shape.chunk some,
    )

pub past-rows-of-stripes : PastRowsAreOfStripes
past-rows-of-stripes shape size end row valid multiple past within =
    let some = chunk_some shape valid in
    let whole = times size shape.chunk multiple in (
      row / shape.chunk,
      (above row shape.chunk some (ceiling end (stripe_sectors shape)) past, below row shape.chunk some (size / shape.chunk) (omega (arith, within, whole))),
      inside row shape.chunk some,
    )
  where
    times : (n k : ℕ) → is_multiple n k ≡ true → n / k * k ≡ n
    times n k is = grind (arith, nat_tests, is)
