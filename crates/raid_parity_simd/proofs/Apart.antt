-- Parts of which none lies over another, and blocks that are stored in them.
use Rattle.std.proofs.Common.{◌≡◌, ◌≢◌, ℕ, ◌+◌, ◌-◌, ◌<◌, ◌≤◌, inl, inr, List, length, get_or, sym, ap, ◌∙◌, arith}
use Rattle.std.specs.Simd.Lanes.{put_chunk}
use Rattle.std.proofs.lemmas.Simd.{get_or-put_chunk_below, get_or-put_chunk_at, get_or-put_chunk_above}
use Rattle.std.proofs.lemmas.Bool.{cases_lt}
use Rattle.raid_parity_simd.specs.Parts.{AreParts, IsOutside}
use Rattle.raid_parity_simd.specs.Places.{ArePlaces}

-- a place outside a range is outside each shorter one within it
pub outside_within : (start len at size k : ℕ) → at + size ≤ len → IsOutside start len k → IsOutside (start + at) size k
outside_within start len at size k le outside = elim outside [
  | inl below ↦ inl (omega arith)
  | inr above ↦ inr (omega arith)
]

pub outside_begun : (start len size k : ℕ) → size ≤ len → IsOutside start len k → IsOutside start size k
outside_begun start len size k le outside = elim outside [
  | inl below ↦ inl below
  | inr above ↦ inr (omega arith)
]

-- what a block leaves that is stored in a part that holds g of the place at each place before
pub stored_part : (start at k : ℕ) (g : ℕ → ℕ) (xs ys : List ℕ) → length ys ≡ 64 → start + at + 64 ≤ length xs
    → ((j : ℕ) → j < 64 → get_or ys j 0 ≡ g (at + j)) → ((i : ℕ) → i < at → get_or xs (start + i) 0 ≡ g i)
    → k < at + 64 → get_or (put_chunk (start + at) xs ys) (start + k) 0 ≡ g k
stored_part start at k g xs ys len fits block before lt =
    elim (cases_lt k at) [
      | inl below ↦ get_or-put_chunk_below (start + at) xs ys (start + k) 0 (omega arith) ∙ before k below
      | inr above ↦
          let e : start + at + (k - at) ≡ start + k = omega arith in
          let f : at + (k - at) ≡ k = omega arith in
          let j : k - at < length ys = omega arith in
          let room : start + at + length ys ≤ length xs = omega arith in
          ap (λ (x : ℕ). get_or (put_chunk (start + at) xs ys) x 0) (sym e)
          ∙ get_or-put_chunk_at (start + at) xs ys (k - at) 0 j room ∙ block (k - at) (omega arith) ∙ ap g f
    ]

-- what it leaves elsewhere
pub stored_outside : (at k : ℕ) (xs ys : List ℕ) → length ys ≡ 64 → IsOutside at 64 k → get_or (put_chunk at xs ys) k 0 ≡ get_or xs k 0
stored_outside at k xs ys len outside = elim outside [
  | inl below ↦ get_or-put_chunk_below at xs ys k 0 below
  | inr above ↦ get_or-put_chunk_above at xs ys k 0 (omega arith)
]

pub kept_part : (start len at k : ℕ) (xs ys : List ℕ) → length ys ≡ 64 → at + 64 ≤ len → IsOutside start len k → get_or (put_chunk (start + at) xs ys) k 0 ≡ get_or xs k 0
kept_part start len at k xs ys lanes le outside = stored_outside (start + at) k xs ys lanes (outside_within start len at 64 k le outside)

module _ {disks len size : ℕ} {starts : List ℕ} (parts : AreParts disks starts len size) where
  -- a place in one part is outside the other
  pub apart : (r s k : ℕ) → r < disks → s < disks → r ≢ s → k < len → IsOutside (get_or starts s 0) len (get_or starts r 0 + k)
  apart r s k hr hs ne lt = elim (cases_lt r s) [
    | inl below ↦ let h = parts.rising r s below hs in inl (omega (arith, h))
    | inr above ↦ let h = parts.rising s r (omega arith) hr in inr (omega (arith, h))
  ]

  -- the places of parts have room for a block
  pub place_room : (list : List ℕ) (count at : ℕ) → ArePlaces disks starts list count → at + 64 ≤ len → (j : ℕ) → j < count → get_or list j 0 + at + 64 ≤ size
  place_room list count at places le j lt =
      let found = places.of_role j lt in
      let within = parts.within found.0 found.1 in
      omega (arith, found.2, within)
