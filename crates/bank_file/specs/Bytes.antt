-- Bytes at offsets, read and written.
use Rattle.std.specs.Prelude.{◌≡◌, ◌⊎◌, ◌+◌, ◌-◌, ◌^◌, ◌<◌, ◌≤◌, ℕ, min, List, slice_index, Result, Ok, Err}

-- the first bytes of a buffer, so many, are those from the offset on
abbrev pub AreBytes : (ℕ → ℕ) → ℕ → ℕ → List ℕ → Type 0
AreBytes bytes offset count buffer = (i : ℕ) → i < count → slice_index buffer i ≡ bytes (offset + i)

-- The first bytes of a buffer, so many, were put at the offset, and all other bytes are as before.
pub record IsPut (before after : ℕ → ℕ) (offset count : ℕ) (buffer : List ℕ) : Type 0 where
  pub inside : (i : ℕ) → i < count → after (offset + i) ≡ slice_index buffer i
  pub outside : (i : ℕ) → (i < offset) ⊎ (offset + count ≤ i) → after i ≡ before i

-- no byte changed
abbrev pub AreSame : (ℕ → ℕ) → (ℕ → ℕ) → Type 0
AreSame before after = (i : ℕ) → after i ≡ before i

-- one more that moved nothing was counted, up to u64's end
abbrev pub HasStumbled : ℕ → ℕ → Type 0
HasStumbled before after = min (before + 1) (2 ^ 64 - 1) ≤ after

-- A call moved a byte, or stumbled, which is counted.
abbrev pub HasMoved : {E : Type 0} → Result ℕ E → ℕ → ℕ → Type 0
HasMoved (Ok count) before after = (before ≤ after) × HasStumbled before (after + count)
HasMoved (Err e) before after = (before ≤ after) × HasStumbled before after
