-- What a call does to the bytes that a source has left and to those that a sink has taken, where it tells them.
use Rattle.std.specs.Prelude.{◌≡◌, ℕ, ◌++◌, List, [], take, Result, IfOk, OnOk, OnErr}

-- At `Ok(n)` the first n bytes that were left stand at the buffer's front, and n is 0 only at the end. An `Err` moved nothing.
pub record Pulled {E : Type 0} (tells : Type 0) (result : Result ℕ E) (old new buffer : List ℕ) : Type 0 where
  pub moved : tells → IfOk result (λ n. old ≡ take n buffer ++ new)
  pub ended : tells → IfOk result (λ n. n ≡ 0 → old ≡ [])
  pub kept : tells → OnErr result (new ≡ old)

-- At `Ok` the whole piece was taken, and at an `Err` the first few bytes of it.
pub record Pushed {T E : Type 0} (tells : Type 0) (result : Result T E) (old new piece : List ℕ) : Type 0 where
  pub whole : tells → OnOk result (new ≡ old ++ piece)
  pub front : tells → (n : ℕ) × (new ≡ old ++ take n piece)
