-- A big-endian number has one form.
use Rattle.std.proofs.Common.{◌≡◌, ℕ, ◌^◌, ◌<◌, sym, ap, ◌∙◌}
use Rattle.std.specs.Int.{w16, w32, w64, to_be_bytes, from_be_bytes}
use Rattle.std.proofs.lemmas.Nat.{from_be_bytes-to_be_bytes_2, from_be_bytes-to_be_bytes_4, from_be_bytes-to_be_bytes_8}

pub same_16 : (a b : ℕ) → a < 2 ^ 16 → b < 2 ^ 16 → to_be_bytes w16 a ≡ to_be_bytes w16 b → a ≡ b
same_16 a b small_a small_b e = sym (from_be_bytes-to_be_bytes_2 a small_a) ∙ ap (from_be_bytes w16) e ∙ from_be_bytes-to_be_bytes_2 b small_b

pub same_32 : (a b : ℕ) → a < 2 ^ 32 → b < 2 ^ 32 → to_be_bytes w32 a ≡ to_be_bytes w32 b → a ≡ b
same_32 a b small_a small_b e = sym (from_be_bytes-to_be_bytes_4 a small_a) ∙ ap (from_be_bytes w32) e ∙ from_be_bytes-to_be_bytes_4 b small_b

pub same_64 : (a b : ℕ) → a < 2 ^ 64 → b < 2 ^ 64 → to_be_bytes w64 a ≡ to_be_bytes w64 b → a ≡ b
same_64 a b small_a small_b e = sym (from_be_bytes-to_be_bytes_8 a small_a) ∙ ap (from_be_bytes w64) e ∙ from_be_bytes-to_be_bytes_8 b small_b
