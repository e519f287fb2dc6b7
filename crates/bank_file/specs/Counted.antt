-- How a file's failures are counted.
use Rattle.std.specs.Prelude.{◌≡◌, ◌≤◌, ◌+◌, ◌-◌, ◌^◌, ℕ, min, Result, IsOk, IsErr}

-- A call on a file that never failed may succeed, and any other fails. Each failure is counted, up to u64's end.
pub record IsCounted {T E : Type 0} (before after : ℕ) (result : Result T E) : Type 0 where
  pub never_falls : before ≤ after
  pub done : IsOk result → (before ≡ 0) × (after ≡ 0)
  pub failed : IsErr result → after ≡ min (before + 1) (2 ^ 64 - 1)
