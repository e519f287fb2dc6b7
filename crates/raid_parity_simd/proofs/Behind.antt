-- The bytes from a place on.
use Rattle.std.proofs.Common.{◌≡◌, ℕ, ◌+◌, ◌-◌, ◌<◌, ◌≤◌, List, length, get_or, take, drop, ap, ◌∙◌, arith}
use Rattle.std.proofs.lemmas.List.{get_or-take, get_or-drop, length-take, length-drop}
use Rattle.raid_parity_simd.specs.Places.{plain_sum, weighed_sum}
use Rattle.raid_parity_simd.proofs.PlaceSums.{plain_sum-same, weighed_sum-same}

abbrev pub behind : List ℕ → ℕ → List ℕ
behind bytes at = take (length bytes - at) (drop at bytes)

pub behind-room : (bytes : List ℕ) (at place : ℕ) → place + at + 64 ≤ length bytes → place + 64 ≤ length (behind bytes at)
behind-room bytes at place room =
    let taken = length-take (length bytes - at) (drop at bytes) in
    let dropped = length-drop at bytes in
    omega (arith, taken, dropped)

pub behind_byte : (bytes : List ℕ) (at place i : ℕ) → place + at + 64 ≤ length bytes → i < 64 → get_or (behind bytes at) (place + i) 0 ≡ get_or bytes (place + (at + i)) 0
behind_byte bytes at place i room lt =
    let same : at + (place + i) ≡ place + (at + i) = omega arith in
    get_or-take (length bytes - at) (drop at bytes) (place + i) 0 (omega arith) ∙ get_or-drop at bytes (place + i) 0 ∙ ap (λ (k : ℕ). get_or bytes k 0) same

module _ (bytes list : List ℕ) (count at i : ℕ) (room : (j : ℕ) → j < count → get_or list j 0 + at + 64 ≤ length bytes) (lt : i < 64) where
  pub plain_behind : plain_sum count (λ j. get_or (behind bytes at) (get_or list j 0 + i) 0) ≡ plain_sum count (λ j. get_or bytes (get_or list j 0 + (at + i)) 0)
  plain_behind = plain_sum-same count _ _ (λ j l. behind_byte bytes at (get_or list j 0) i (room j l) lt)

  pub weighed_behind : weighed_sum count (λ j. get_or (behind bytes at) (get_or list j 0 + i) 0) ≡ weighed_sum count (λ j. get_or bytes (get_or list j 0 + (at + i)) 0)
  weighed_behind = weighed_sum-same count _ _ (λ j l. behind_byte bytes at (get_or list j 0) i (room j l) lt)
