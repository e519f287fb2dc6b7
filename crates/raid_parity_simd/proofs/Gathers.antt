-- The rows that are gathered from several slices.
use Rattle.std.proofs.Common.{◌≡◌, ◌≢◌, ℕ, ◌+◌, ◌-◌, ◌*◌, ◌<◌, Bool, true, false, cond, eq-eqb, ne_eqb, List, get_or, drop, Some, None, refl, sym, ap, ◌∙◌, arith}
use Rattle.std.proofs.lemmas.List.{get_or-take, get_or-drop}
use Rattle.raid_parity.specs.raid_types_Search.{tabulate}
use Rattle.raid_parity.specs.raid_types_the_RowRoles.{RowRoles}
use Rattle.raid_parity.specs.Exponents.{is_q, is_data}
use Rattle.raid_parity.specs.Parity.{p_byte, q_byte, AreEquationsMet}
use Rattle.raid_parity.specs.Rows.{IsRowRoles, sector_of, whole_row}
use Rattle.raid_parity.proofs.Bytes.{sector_byte}
use Rattle.raid_parity.proofs.Columns.{tabulate-same, data_at_p, data_at_q, q_at, q_of}
use Rattle.raid_parity_simd.specs.Gathered.{sector_at, gathered}
use Rattle.raid_parity_simd.proofs.RowFills.{good_without_q, good_with_q}

module _ (roles : RowRoles) (is : IsRowRoles roles) (bytes starts p q : List ℕ) (i : ℕ) where
  abbrev laid : ℕ → List ℕ
  laid r = sector_at bytes (get_or starts r 0 + 512 * i)

  abbrev row : ℕ → List ℕ
  row = gathered roles bytes starts p q i

  byte : (r at : ℕ) → at < 512 → get_or (laid r) at 0 ≡ get_or bytes (get_or starts r 0 + (512 * i + at)) 0
  byte r at lt =
      let place : ℕ = get_or starts r 0 + 512 * i in
      let same : place + at ≡ get_or starts r 0 + (512 * i + at) = omega arith in
      get_or-take (place + 512 - place) (drop place bytes) at 0 (omega arith) ∙ get_or-drop place bytes at 0 ∙ ap (λ (k : ℕ). get_or bytes k 0) same

  column : (at : ℕ) → at < 512 → tabulate roles.disks (λ r. get_or bytes (get_or starts r 0 + (512 * i + at)) 0) ≡ tabulate roles.disks (λ r. get_or (laid r) at 0)
  column at lt = tabulate-same roles.disks (λ r. get_or bytes (get_or starts r 0 + (512 * i + at)) 0) (λ r. get_or (laid r) at 0) (λ r _. sym (byte r at lt))

  at_p : row roles.p ≡ sector_of p i
  at_p = ap (λ b. cond b (sector_of p i) (cond (is_q roles roles.p) (sector_of q i) (laid roles.p))) (eq-eqb roles.p roles.p refl)

  elsewhere : (r : ℕ) → r ≢ roles.p → row r ≡ cond (is_q roles r) (sector_of q i) (laid r)
  elsewhere r ne = ap (λ b. cond b (sector_of p i) (cond (is_q roles r) (sector_of q i) (laid r))) (ne_eqb r roles.p ne)

  at_data : (r : ℕ) → r < roles.disks → is_data roles r ≡ true → row r ≡ laid r
  at_data r _ d =
      elsewhere r (λ e. let other : is_data roles r ≡ false = ap (is_data roles) e ∙ data_at_p roles in absurd (cc))
      ∙ ap (λ b. cond b (sector_of q i) (laid r)) (not_q (is_q roles r) refl)
    where
      not_q : (b : Bool) → is_q roles r ≡ b → b ≡ false
      not_q false e = refl
      not_q true e = let other : is_data roles r ≡ false = data_at_q roles r e in absurd (cc)

  p_bytes : ((at : ℕ) → at < 512 → get_or p (512 * i + at) 0 ≡ p_byte roles (tabulate roles.disks (λ r. get_or bytes (get_or starts r 0 + (512 * i + at)) 0)))
      → (at : ℕ) → at < 512 → get_or (row roles.p) at 0 ≡ p_byte roles (tabulate roles.disks (λ r. get_or (laid r) at 0))
  p_bytes there at lt =
      ap (λ (s : List ℕ). get_or s at 0) at_p ∙ sector_byte p i at lt ∙ there at lt ∙ ap (p_byte roles) (column at lt)

  pub gathered_plain : roles.q ≡ None
      → ((at : ℕ) → at < 512 → get_or p (512 * i + at) 0 ≡ p_byte roles (tabulate roles.disks (λ r. get_or bytes (get_or starts r 0 + (512 * i + at)) 0)))
      → AreEquationsMet roles (whole_row roles.disks row)
  gathered_plain none there = good_without_q roles is laid row at_data (p_bytes there) none

  pub gathered_both : (k : ℕ) → roles.q ≡ Some k
      → ((at : ℕ) → at < 512 → get_or p (512 * i + at) 0 ≡ p_byte roles (tabulate roles.disks (λ r. get_or bytes (get_or starts r 0 + (512 * i + at)) 0)))
      → ((at : ℕ) → at < 512 → get_or q (512 * i + at) 0 ≡ q_byte roles k (tabulate roles.disks (λ r. get_or bytes (get_or starts r 0 + (512 * i + at)) 0)))
      → AreEquationsMet roles (whole_row roles.disks row)
  gathered_both k has_q p_there q_there =
      good_with_q roles is laid row at_data (p_bytes p_there) k has_q
      (λ at lt.
      let at_q : row k ≡ sector_of q i = elsewhere k (q_of roles is k has_q).1 ∙ ap (λ b. cond b (sector_of q i) (laid k)) (q_at roles k has_q) in
      ap (λ (s : List ℕ). get_or s at 0) at_q ∙ sector_byte q i at lt ∙ q_there at lt ∙ ap (q_byte roles k) (column at lt))
