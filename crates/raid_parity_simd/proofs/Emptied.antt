-- Two parts in which a block is cleared.
use Rattle.std.proofs.Common.{◌≡◌, ◌≢◌, ℕ, ◌+◌, ◌<◌, ◌≤◌, inl, inr, cond, eqb, eq-eqb, ne_eqb, ◌||◌, List, length, get_or, replicate, refl, sym, ap, ap₂, ◌∙◌, arith}
use Rattle.std.specs.Simd.Lanes.{put_chunk}
use Rattle.std.proofs.lemmas.Bool.{cases_eq}
use Rattle.std.proofs.lemmas.Simd.{get_or-put_chunk_at, get_or-replicate}
use Rattle.std.specs.Int.Bits.{bit_xor}
use Rattle.raid_parity.specs.raid_gf256_Field.{product}
use Rattle.raid_parity.specs.raid_types_the_RowRoles.{RowRoles}
use Rattle.raid_parity.specs.Parity.{p_byte, q_byte}
use Rattle.raid_parity.specs.Rows.{IsRowRoles}
use Rattle.raid_parity.proofs.Columns.{tabulate-same}
use Rattle.raid_parity.proofs.Lacking.{or_right}
use Rattle.raid_parity_simd.specs.Parts.{AreParts, IsOutside, part_byte, emptied, solved}
use Rattle.raid_parity_simd.proofs.Apart.{apart, stored_outside, kept_part}

pub emptied-first : (f : ℕ → ℕ) (a b : ℕ) → emptied f a b a ≡ 0
emptied-first f a b = ap (λ x. cond (x || eqb a b) 0 (f a)) (eq-eqb a a refl)

pub emptied-second : (f : ℕ → ℕ) (a b : ℕ) → emptied f a b b ≡ 0
emptied-second f a b = ap (λ x. cond x 0 (f b)) (or_right (eqb b a) (eqb b b) (eq-eqb b b refl))

pub emptied-other : (f : ℕ → ℕ) (a b r : ℕ) → r ≢ a → r ≢ b → emptied f a b r ≡ f r
emptied-other f a b r na nb = ap₂ (λ x y. cond (x || y) 0 (f r)) (ne_eqb r a na) (ne_eqb r b nb)

-- two columns that agree on the other roles are the same then
pub emptied-same : (f g : ℕ → ℕ) (a b r : ℕ) → (r ≢ a → r ≢ b → f r ≡ g r) → emptied f a b r ≡ emptied g a b r
emptied-same f g a b r same = elim (cases_eq r a) [
  | inl e ↦ ap (emptied f a b) e ∙ emptied-first f a b ∙ sym (ap (emptied g a b) e ∙ emptied-first g a b)
  | inr na ↦ elim (cases_eq r b) [
    | inl e ↦ ap (emptied f a b) e ∙ emptied-second f a b ∙ sym (ap (emptied g a b) e ∙ emptied-second g a b)
    | inr nb ↦ emptied-other f a b r na nb ∙ same na nb ∙ sym (emptied-other g a b r na nb)
  ]
]

pub solved-same : (roles : RowRoles) → IsRowRoles roles → (q : ℕ) → q < roles.disks → (plain weighed : ℕ) (f g : ℕ → ℕ) → ((r : ℕ) → r < roles.disks → f r ≡ g r)
    → solved roles q plain weighed f ≡ solved roles q plain weighed g
solved-same roles is q hq plain weighed f g same =
    let columns = tabulate-same roles.disks f g same in
    ap₂ (λ x y. bit_xor (product plain x) (product weighed y))
    (ap₂ bit_xor (ap (p_byte roles) columns) (same roles.p is.p))
    (ap₂ bit_xor (ap (q_byte roles q) columns) (same q hq))

abbrev pub zeros : List ℕ
zeros = replicate 64 0

module _ {disks len size : ℕ} {starts : List ℕ} (parts : AreParts disks starts len size) (bytes mid cleared : List ℕ) (a b at : ℕ) (ha : a < disks) (hb : b < disks)
    (room : at + 64 ≤ len) (whole : length bytes ≡ size) (mid_whole : length mid ≡ length bytes)
    (mid_is : mid ≡ put_chunk (get_or starts a 0 + at) bytes zeros) (cleared_is : cleared ≡ put_chunk (get_or starts b 0 + at) mid zeros) where
  abbrev a_start : ℕ
  a_start = get_or starts a 0

  abbrev b_start : ℕ
  b_start = get_or starts b 0

  pub cleared_byte : (i r : ℕ) → i < 64 → r < disks → part_byte cleared starts r (at + i) ≡ emptied (λ role. part_byte bytes starts role (at + i)) a b r
  cleared_byte i r lt hr =
      let f : ℕ → ℕ = λ role. part_byte bytes starts role (at + i) in
      let place : ℕ = get_or starts r 0 + (at + i) in
      ap (λ (x : List ℕ). get_or x place 0) cleared_is ∙ elim (cases_eq r b) [
        | inl e ↦
            let same : place ≡ b_start + at + i = ap (λ k. get_or starts k 0 + (at + i)) e ∙ omega arith in
            let fits = parts.within b hb in
            ap (λ (x : ℕ). get_or (put_chunk (b_start + at) mid zeros) x 0) same
            ∙ get_or-put_chunk_at (b_start + at) mid zeros i 0 lt (omega (arith, fits, whole, mid_whole)) ∙ get_or-replicate 64 i 0 0 lt
            ∙ sym (ap (emptied f a b) e ∙ emptied-second f a b)
        | inr nb ↦
            kept_part b_start len at place mid zeros refl room (apart parts r b (at + i) hr hb nb (omega arith))
            ∙ ap (λ (x : List ℕ). get_or x place 0) mid_is ∙ elim (cases_eq r a) [
              | inl e ↦
                  let same : place ≡ a_start + at + i = ap (λ k. get_or starts k 0 + (at + i)) e ∙ omega arith in
                  let fits = parts.within a ha in
                  ap (λ (x : ℕ). get_or (put_chunk (a_start + at) bytes zeros) x 0) same
                  ∙ get_or-put_chunk_at (a_start + at) bytes zeros i 0 lt (omega (arith, fits, whole)) ∙ get_or-replicate 64 i 0 0 lt
                  ∙ sym (ap (emptied f a b) e ∙ emptied-first f a b)
              | inr na ↦
                  kept_part a_start len at place bytes zeros refl room (apart parts r a (at + i) hr ha na (omega arith))
                  ∙ sym (emptied-other f a b r na nb)
            ]
      ]

  pub cleared_outside : (place : ℕ) → IsOutside (a_start + at) 64 place → IsOutside (b_start + at) 64 place → get_or cleared place 0 ≡ get_or bytes place 0
  cleared_outside place oa ob =
      ap (λ (x : List ℕ). get_or x place 0) cleared_is ∙ stored_outside (b_start + at) place mid zeros refl ob
      ∙ ap (λ (x : List ℕ). get_or x place 0) mid_is ∙ stored_outside (a_start + at) place bytes zeros refl oa
