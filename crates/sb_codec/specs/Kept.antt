-- What a write leaves as it was.
use Rattle.std.specs.Prelude.{◌≡◌, ℕ, List, take, drop}

-- the bytes before this offset
pub record KeptBefore (offset : ℕ) (old new : List ℕ) : Type 0 where
  pub same : take offset old ≡ take offset new

-- the bytes from this offset on
pub record KeptFrom (offset : ℕ) (old new : List ℕ) : Type 0 where
  pub same : drop offset old ≡ drop offset new
