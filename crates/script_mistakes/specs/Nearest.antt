-- Which of several names is nearest to a word.
use Rattle.std.specs.Prelude.{ℕ, ◌<◌, ◌≤◌, List, [], length, slice_index_or, nat_eq, Option, Some, None}
use Rattle.strsim.specs.Edits.{levenshtein_row}

-- how many letters are to be put in, left out or changed
abbrev pub letters_apart : List ℕ → List ℕ → ℕ
letters_apart word name = levenshtein_row nat_eq word name (length name)

-- none is as near as the limit, or this one is, and no other is nearer
abbrev pub IsNearest : List ℕ → List (List ℕ) → ℕ → Option ℕ → Type 0
IsNearest word names most None = (k : ℕ) → k < length names → most < letters_apart word (slice_index_or names k [])
IsNearest word names most (Some i) =
    (i < length names) × (letters_apart word (slice_index_or names i []) ≤ most)
    × ((k : ℕ) → k < length names → letters_apart word (slice_index_or names i []) ≤ letters_apart word (slice_index_or names k []))
