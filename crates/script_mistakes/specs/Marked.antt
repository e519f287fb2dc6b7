-- A line with marks below it.
use Rattle.std.specs.Prelude.{ℕ, ◌&&◌, nat_le, if◌then◌else◌, List, [], ◌∷◌, ◌++◌, map, max, replicate}

-- a byte as it is shown: one that isn't printable ASCII as `?`
abbrev pub shown : ℕ → ℕ
shown byte = if nat_le 32 byte && nat_le byte 126 then byte else 63

abbrev pub marked : List ℕ → ℕ → ℕ → List ℕ
marked line column width = map shown line ++ 10 ∷ [] ++ replicate column 32 ++ replicate (max width 1) 94 ++ 10 ∷ []
