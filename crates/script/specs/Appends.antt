-- What a call does that appends a text.
use Rattle.std.specs.Prelude.{◌≡◌, ℕ, ◌+◌, ◌<◌, ◌≤◌, ◌++◌, List, length, Vec, vec_capacity, Result, OnOk, OnErr}

-- At an Ok the whole text stands behind what stood there. An Err comes only where that doesn't fit the room that there was.
pub record Appends {Z T E : Type 0} (old new : Vec ℕ Z) (result : Result T E) (text : List ℕ) : Type 0 where
  pub whole : OnOk result (new.items ≡ old.items ++ text)
  pub full : OnErr result (vec_capacity old < length (old.items ++ text))
  pub room : vec_capacity old ≤ vec_capacity new

-- At an Ok at most so many bytes stand behind what stood there. An Err comes only where so many don't fit the room that there was.
pub record AppendsFew {Z T E : Type 0} (most : ℕ) (old new : Vec ℕ Z) (result : Result T E) : Type 0 where
  pub few : OnOk result (length new.items ≤ length old.items + most)
  pub full : OnErr result (vec_capacity old < length old.items + most)
