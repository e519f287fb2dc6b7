-- From the bytes of a row's sectors, wherever they lie, to its parity and to its fill.
use Rattle.std.proofs.Common.{◌≡◌, ◌≢◌, ℕ, ◌<◌, Bool, true, false, cond, eqb, ◌||◌, List, length, get_or, Some, None, sym, ap, ap₂, ◌∙◌}
use Rattle.std.specs.Int.Bits.{bit_xor}
use Rattle.raid_parity.specs.raid_gf256_Field.{product, power_of_two}
use Rattle.raid_parity.specs.raid_types_Search.{tabulate}
use Rattle.raid_parity.specs.raid_types_the_RowRoles.{RowRoles}
use Rattle.raid_parity.specs.Exponents.{is_q, is_data, exponent}
use Rattle.raid_parity.specs.Parity.{p_byte, q_byte, q_holds_at, p_holds, fill, AreEquationsMet}
use Rattle.raid_parity.specs.Rows.{IsRowRoles, byte_of, bytes_at, sector_of, row_without, whole_row, p_weight, q_weight}
use Rattle.raid_parity.proofs.Totals.{same_xor}
use Rattle.raid_parity.proofs.Columns.{tabulate-same, data_sum-agrees, p_rest, q_rest, p_holds-from, q_holds-from, q_of}
use Rattle.raid_parity.proofs.Contents.{whole-good}
use Rattle.raid_parity.proofs.Filling.{det}
use Rattle.raid_parity.proofs.Solving.{determinant-is}
use Rattle.raid_parity.proofs.RowBytes.{two_filled}
use Rattle.raid_parity_simd.specs.Factors.{AreFactors}
use Rattle.raid_parity_simd.specs.Parts.{emptied, solved}
use Rattle.raid_parity_simd.proofs.Cleared.{filled_by_data, filled_by_rest}
use Rattle.raid_parity_simd.proofs.Emptied.{emptied-first, emptied-second, emptied-other}
use Rattle.raid_parity_simd.proofs.Joined.{joined, joined-row, joined-byte, joined-same, joined-lt, joined-sector}

-- ---- parity

module _ (roles : RowRoles) (is : IsRowRoles roles) (old new : ℕ → List ℕ)
    (data_same : (r : ℕ) → r < roles.disks → is_data roles r ≡ true → new r ≡ old r)
    (p_set : (at : ℕ) → at < 512 → get_or (new roles.p) at 0 ≡ p_byte roles (tabulate roles.disks (λ r. get_or (old r) at 0))) where
  p_met : (at : ℕ) → at < 512 → p_holds roles (tabulate roles.disks (λ r. get_or (new r) at 0)) ≡ true
  p_met at lt =
      p_holds-from roles is (λ r. get_or (new r) at 0) (sym (p_rest roles is (λ r. get_or (new r) at 0))
      ∙ same_xor _ _ (data_sum-agrees (λ role. 1) roles roles.disks (λ r. get_or (new r) at 0) (λ r. get_or (old r) at 0) (λ r hr d. ap (λ (s : List ℕ). get_or s at 0) (data_same r hr d))
      ∙ sym (p_set at lt)))

  pub good_without_q : roles.q ≡ None → AreEquationsMet roles (whole_row roles.disks new)
  good_without_q none = whole-good roles roles.disks new p_met (λ at lt. ap (q_holds_at roles (tabulate roles.disks (λ r. get_or (new r) at 0))) none)

  pub good_with_q : (q : ℕ) → roles.q ≡ Some q → ((at : ℕ) → at < 512 → get_or (new q) at 0 ≡ q_byte roles q (tabulate roles.disks (λ r. get_or (old r) at 0)))
      → AreEquationsMet roles (whole_row roles.disks new)
  good_with_q q has_q q_set = whole-good roles roles.disks new p_met (λ at lt.
      q_holds-from roles is (λ r. get_or (new r) at 0) q has_q (sym (q_rest roles is (λ r. get_or (new r) at 0) q has_q)
      ∙ same_xor _ _ (data_sum-agrees (λ role. power_of_two (exponent roles q role)) roles roles.disks (λ r. get_or (new r) at 0) (λ r. get_or (old r) at 0)
      (λ r hr d. ap (λ (s : List ℕ). get_or s at 0) (data_same r hr d))
      ∙ sym (q_set at lt))))

-- ---- roles that lack

module _ (roles : RowRoles) (is : IsRowRoles roles) (old new : ℕ → List ℕ) (old_whole : (r : ℕ) → r < roles.disks → length (old r) ≡ 512)
    (new_whole : (r : ℕ) → r < roles.disks → length (new r) ≡ 512) (small : (r at : ℕ) → r < roles.disks → at < 512 → get_or (new r) at 0 < 256) where
  abbrev f : ℕ → ℕ → ℕ
  f r at = get_or (old r) at 0

  abbrev g : ℕ → ℕ → ℕ
  g r at = get_or (new r) at 0

  abbrev old_row : List ℕ
  old_row = joined roles.disks f

  abbrev new_row : List ℕ
  new_row = joined roles.disks g

  -- the bytes of a column
  column : (at : ℕ) → at < 512 → bytes_at roles.disks old_row at ≡ tabulate roles.disks (λ r. get_or (old r) at 0)
  column at lt = tabulate-same roles.disks (λ r. byte_of old_row r at) (λ r. f r at) (λ r hr. joined-byte roles.disks f r at hr lt)

  others_same : (lacks : ℕ → Bool) → row_without lacks roles.disks (sector_of old_row) ≡ row_without lacks roles.disks old
  others_same lacks =
      tabulate-same roles.disks (λ r. cond (lacks r) None (Some (sector_of old_row r))) (λ r. cond (lacks r) None (Some (old r))) (λ r hr.
      ap (λ (s : List ℕ). cond (lacks r) None (Some s)) (joined-sector roles.disks old r hr (old_whole r hr)))

  from_rows : (lacks : ℕ → Bool) (m : ℕ) → m < roles.disks → sector_of new_row m ≡ fill roles (row_without lacks roles.disks (sector_of old_row)) m
      → new m ≡ fill roles (row_without lacks roles.disks old) m
  from_rows lacks m hm filled =
      sym (joined-sector roles.disks new m hm (new_whole m hm)) ∙ filled ∙ ap (λ row. fill roles row m) (others_same lacks)

  -- one
  module _ (m : ℕ) (hm : m < roles.disks) (others : (r : ℕ) → r < roles.disks → r ≢ m → new r ≡ old r) where
    rows_same : (r at : ℕ) → at < 512 → r ≢ m → byte_of new_row r at ≡ byte_of old_row r at
    rows_same r at lt ne = joined-same roles.disks g f r at lt (λ hr. ap (λ (s : List ℕ). get_or s at 0) (others r hr ne))

    pub one_by_data : roles.q ≡ Some m → ((at : ℕ) → at < 512 → get_or (new m) at 0 ≡ q_byte roles m (tabulate roles.disks (λ r. get_or (old r) at 0)))
        → new m ≡ fill roles (row_without (λ role. eqb role m) roles.disks old) m
    one_by_data has_q there =
        from_rows (λ role. eqb role m) m hm (filled_by_data roles is old_row new_row m hm (joined-row roles.disks f) (joined-row roles.disks g) (joined-lt roles.disks g small) rows_same has_q
        (λ at lt. joined-byte roles.disks g m at hm lt ∙ there at lt ∙ ap (q_byte roles m) (sym (column at lt))))

    pub one_by_rest : is_q roles m ≡ false
        → ((at : ℕ) → at < 512 → get_or (new m) at 0 ≡ bit_xor (bit_xor (p_byte roles (tabulate roles.disks (λ r. get_or (old r) at 0))) (get_or (old roles.p) at 0)) (get_or (old m) at 0))
        → new m ≡ fill roles (row_without (λ role. eqb role m) roles.disks old) m
    one_by_rest not_q there =
        from_rows (λ role. eqb role m) m hm (filled_by_rest roles is old_row new_row m hm (joined-row roles.disks f) (joined-row roles.disks g) (joined-lt roles.disks g small) rows_same not_q
        (λ at lt. joined-byte roles.disks g m at hm lt ∙ there at lt
        ∙ sym (ap₂ bit_xor (ap₂ bit_xor (ap (p_byte roles) (column at lt)) (joined-byte roles.disks f roles.p at is.p lt)) (joined-byte roles.disks f m at hm lt))))

  -- two
  module _ (q : ℕ) (has_q : roles.q ≡ Some q) (a b : ℕ) (ha : a < roles.disks) (hb : b < roles.disks) (ne : a ≢ b)
      (others : (r : ℕ) → r < roles.disks → r ≢ a → r ≢ b → new r ≡ old r)
      (a_plain a_weighed b_plain b_weighed : ℕ) (factors : AreFactors roles q a b a_plain a_weighed b_plain b_weighed)
      (a_there : (at : ℕ) → at < 512 → get_or (new a) at 0 ≡ solved roles q a_plain a_weighed (emptied (λ r. get_or (old r) at 0) a b))
      (b_there : (at : ℕ) → at < 512 → get_or (new b) at 0 ≡ solved roles q b_plain b_weighed (emptied (λ r. get_or (old r) at 0) a b)) where
    abbrev h : ℕ → ℕ → ℕ
    h r at = emptied (λ k. get_or (old k) at 0) a b r

    abbrev cleared : List ℕ
    cleared = joined roles.disks h

    cleared_column : (at : ℕ) → at < 512 → bytes_at roles.disks cleared at ≡ tabulate roles.disks (emptied (λ r. get_or (old r) at 0) a b)
    cleared_column at lt = tabulate-same roles.disks (λ r. byte_of cleared r at) (λ r. h r at) (λ r hr. joined-byte roles.disks h r at hr lt)

    abbrev s : ℕ → ℕ
    s at = bit_xor (p_byte roles (tabulate roles.disks (emptied (λ r. get_or (old r) at 0) a b))) (h roles.p at)

    abbrev t : ℕ → ℕ
    t at = bit_xor (q_byte roles q (tabulate roles.disks (emptied (λ r. get_or (old r) at 0) a b))) (h q at)

    inverse_is : product (det roles is q has_q a b) factors.over ≡ 1
    inverse_is =
        ap (λ x. product x factors.over) (determinant-is (p_weight roles a) (p_weight roles b) (q_weight roles q a) (q_weight roles q b)) ∙ factors.inverse

    pub both_solved : (m : ℕ) → m < roles.disks → new m ≡ fill roles (row_without (λ role. eqb role a || eqb role b) roles.disks old) m
    both_solved m hm =
        from_rows (λ role. eqb role a || eqb role b) m hm
        (two_filled roles is q has_q old_row cleared new_row a b ha hb ne
        (λ at lt. joined-byte roles.disks h a at ha lt ∙ emptied-first (λ r. get_or (old r) at 0) a b)
        (λ at lt. joined-byte roles.disks h b at hb lt ∙ emptied-second (λ r. get_or (old r) at 0) a b)
        (λ r at lt na nb. joined-same roles.disks h f r at lt (λ hr. emptied-other (λ k. get_or (old k) at 0) a b r na nb))
        (λ r at lt na nb. joined-same roles.disks g h r at lt (λ hr. ap (λ (x : List ℕ). get_or x at 0) (others r hr na nb) ∙ sym (emptied-other (λ k. get_or (old k) at 0) a b r na nb)))
        (joined-row roles.disks g) (joined-lt roles.disks g small) factors.over factors.small inverse_is s t
        (λ at lt. sym (ap₂ bit_xor (ap (p_byte roles) (cleared_column at lt)) (joined-byte roles.disks h roles.p at is.p lt)))
        (λ at lt. sym (ap₂ bit_xor (ap (q_byte roles q) (cleared_column at lt)) (joined-byte roles.disks h q at (q_of roles is q has_q).0 lt)))
        (λ at lt. joined-byte roles.disks g a at ha lt ∙ a_there at lt ∙ ap₂ (λ x y. bit_xor (product x (s at)) (product y (t at))) factors.first_plain factors.first_weighed)
        (λ at lt. joined-byte roles.disks g b at hb lt ∙ b_there at lt ∙ ap₂ (λ x y. bit_xor (product x (s at)) (product y (t at))) factors.second_plain factors.second_weighed)
        m hm)
