-- What a SEED writes.
use Rattle.std.specs.Prelude.{ℕ, ◌+◌, ◌%◌, ◌^◌, List, ◌++◌}
use Rattle.std.specs.Int.{w32, to_le_bytes}
use Rattle.history.specs.raid_types_Search.{tabulate}

-- byte b of sector x, from byte 8 on
abbrev pub seed_byte : ℕ → ℕ → ℕ → ℕ
seed_byte seed x b = (seed + x + b) % 256

-- sector x: the seed, then the place's low 32 bits, both little-endian, then a byte for each place in the sector
unfoldable pub seed_sector : ℕ → ℕ → List ℕ
seed_sector seed x =
    to_le_bytes w32 seed ++ to_le_bytes w32 (x % 2 ^ 32) ++ tabulate 504 (λ k. seed_byte seed x (8 + k))

-- the sectors from this place on, so many
abbrev pub seeded : ℕ → ℕ → ℕ → List (List ℕ)
seeded seed first count = tabulate count (λ k. seed_sector seed (first + k))
