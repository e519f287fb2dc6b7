-- Elements of a list of numbers.
use Rattle.std.proofs.Common.{ℕ, ◌<◌, List, length}
use Rattle.std.specs.Prelude.{Contains, slice_index_or}
use Rattle.std.proofs.lemmas.List.Elements.{All-contains_itself}

-- the element at a place is there
pub contains-at : (xs : List ℕ) (k : ℕ) → k < length xs → Contains xs (slice_index_or xs k 0)
contains-at xs k lt = All-contains_itself xs k 0 lt
