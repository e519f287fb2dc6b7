-- One missing sector, set without a look at what stands there.
use Rattle.std.proofs.Common.{◌≡◌, ◌≢◌, ℕ, ◌+◌, ◌*◌, ◌<◌, ◌==◌, inl, inr, true, false, cond, List, length, get_or, replicate, Some, sym, ap, ◌∙◌, arith}
use Rattle.std.specs.Simd.Lanes.{put_chunk}
use Rattle.std.proofs.lemmas.Bool.{cases_lt, cases_eq}
use Rattle.std.proofs.lemmas.Simd.{get_or-put_chunk_below, get_or-put_chunk_at, get_or-put_chunk_above, get_or-replicate, length-replicate}
use Rattle.std.specs.Int.Bits.{bit_xor}
use Rattle.raid_parity.specs.raid_gf256_Field.{product, power_of_two}
use Rattle.raid_parity.proofs.raid_gf256_FieldLaws.{product-one_l}
use Rattle.raid_parity.specs.raid_types_the_RowRoles.{RowRoles}
use Rattle.raid_parity.specs.Exponents.{is_q, is_data, exponent}
use Rattle.raid_parity.specs.Parity.{p_byte, q_byte, fill}
use Rattle.raid_parity.specs.Rows.{IsRowRoles, IsRowOf, byte_of, bytes_at, sector_of, row_without, p_weight}
use Rattle.raid_parity.proofs.Totals.{total-same, put, put-same, put-other}
use Rattle.raid_parity.proofs.Columns.{data_at_q, q_at, data_sum-agrees, rest, rest-put, p_rest}
use Rattle.raid_parity.proofs.Filling.{q_at_q}
use Rattle.raid_parity.proofs.Contents.{q_from}
use Rattle.raid_parity.proofs.RowBytes.{one_filled}
use Rattle.raid_parity_simd.proofs.Rests.{xor_twice}

module _ (roles : RowRoles) (is : IsRowRoles roles) (old new : List ℕ) (m : ℕ) (lt : m < roles.disks) (was : IsRowOf roles.disks old)
    (whole : IsRowOf roles.disks new) (small : (place : ℕ) → get_or new place 0 < 256)
    (others : (r at : ℕ) → at < 512 → r ≢ m → byte_of new r at ≡ byte_of old r at) where
  zeros : List ℕ
  zeros = replicate 512 0

  zeros-len : length zeros ≡ 512
  unfolding zeros
  zeros-len = length-replicate {A = ℕ} 512 0

  zero_at : (at : ℕ) → at < 512 → get_or zeros at 0 ≡ 0
  unfolding zeros
  zero_at at below = get_or-replicate 512 at 0 0 below

  -- the row with zeros in the missing sector
  abbrev cleared : List ℕ
  cleared = put_chunk (512 * m) old zeros

  cleared_there : (at : ℕ) → at < 512 → byte_of cleared m at ≡ 0
  cleared_there at below = get_or-put_chunk_at (512 * m) old zeros at 0 (omega (arith, zeros-len)) (omega (arith, zeros-len, was)) ∙ zero_at at below

  cleared_others : (r at : ℕ) → at < 512 → r ≢ m → byte_of cleared r at ≡ byte_of old r at
  cleared_others r at below ne = elim (cases_lt r m) [
    | inl before ↦ get_or-put_chunk_below (512 * m) old zeros (512 * r + at) 0 (omega arith)
    | inr behind ↦ get_or-put_chunk_above (512 * m) old zeros (512 * r + at) 0 (omega (arith, zeros-len))
  ]

  new_others : (r at : ℕ) → at < 512 → r ≢ m → byte_of new r at ≡ byte_of cleared r at
  new_others r at below ne = others r at below ne ∙ sym (cleared_others r at below ne)

  -- Q, from the data
  pub filled_by_data : roles.q ≡ Some m → ((at : ℕ) → at < 512 → byte_of new m at ≡ q_byte roles m (bytes_at roles.disks old at))
      → sector_of new m ≡ fill roles (row_without (λ role. role == m) roles.disks (sector_of old)) m
  filled_by_data has_q there =
      one_filled roles is old cleared new m lt cleared_there cleared_others new_others whole small
      (λ at_q at below.
      there at below
      ∙ data_sum-agrees (λ role. power_of_two (exponent roles m role)) roles roles.disks (λ r. byte_of old r at) (λ r. byte_of cleared r at) (λ r _ data_r.
      sym (cleared_others r at below (λ e. let other : is_data roles r ≡ false = data_at_q roles r (ap (is_q roles) e ∙ q_at roles m has_q) in absurd (cc)))))
      (λ not_q. let at_q : is_q roles m ≡ true = q_at roles m has_q in absurd (cc))
      (λ at_q. (has_q, q_at_q roles is m has_q))

  -- another role, from all but Q
  pub filled_by_rest : is_q roles m ≡ false
      → ((at : ℕ) → at < 512 → byte_of new m at ≡ bit_xor (bit_xor (p_byte roles (bytes_at roles.disks old at)) (byte_of old roles.p at)) (byte_of old m at))
      → sector_of new m ≡ fill roles (row_without (λ role. role == m) roles.disks (sector_of old)) m
  filled_by_rest not_q there =
      one_filled roles is old cleared new m lt cleared_there cleared_others new_others whole small
      (λ at_q. absurd (cc))
      (λ _ at below.
      let f : ℕ → ℕ = λ r. byte_of old r at in
      let g : ℕ → ℕ = λ r. byte_of cleared r at in
      let with_it : rest roles.disks (p_weight roles) f ≡ bit_xor (rest roles.disks (p_weight roles) g) (f m) =
      total-same roles.disks (λ r. product (p_weight roles r) (f r)) (λ r. product (p_weight roles r) (put g m (f m) r)) (λ r l.
      ap (product (p_weight roles r)) (elim (cases_eq r m) [
        | inl e ↦ rw e (sym (put-same g m (f m)))
        | inr ne ↦ sym (cleared_others r at below ne) ∙ sym (put-other g m (f m) r ne)
      ]))
      ∙ rest-put roles.disks m (f m) (p_weight roles) g lt (cleared_there at below)
      ∙ ap (bit_xor (rest roles.disks (p_weight roles) g)) (ap (λ b. product (cond b 0 1) (f m)) not_q ∙ product-one_l (f m)) in
      there at below ∙ ap (λ x. bit_xor x (f m)) (p_rest roles is f ∙ with_it) ∙ xor_twice (rest roles.disks (p_weight roles) g) (f m)
      ∙ sym (p_rest roles is g))
      (λ at_q. let has_q : roles.q ≡ Some m = q_from roles m at_q in (has_q, q_at_q roles is m has_q))
