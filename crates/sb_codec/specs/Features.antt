-- The bits of the feature map.
use Rattle.std.specs.Prelude.{ℕ, ◌-◌, ◌+◌, ◌^◌, bit_and}

-- the bits other than 2, 4 and 32
abbrev pub refused_bits : ℕ → ℕ
refused_bits features = bit_and features (2 ^ 32 - 1 - (2 + 4 + 32))
