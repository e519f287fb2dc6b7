-- The sectors of one row that lie at their places in the parts of roles: what the bytes of the parts say of them.
use Rattle.std.proofs.Common.{◌≡◌, ◌≢◌, ℕ, ◌+◌, ◌-◌, ◌*◌, ◌<◌, ◌≤◌, false, eqb, ◌||◌, List, length, get_or, drop, Some, None, sym, ap, ap₂, ◌∙◌, arith}
use Rattle.std.proofs.lemmas.List.{length-take, length-drop}
use Rattle.std.specs.Int.Bits.{bit_xor}
use Rattle.raid_parity.specs.raid_types_Search.{tabulate}
use Rattle.raid_parity.specs.raid_types_the_RowRoles.{RowRoles}
use Rattle.raid_parity.specs.Exponents.{is_q, is_data}
use Rattle.raid_parity.specs.Parity.{p_byte, q_byte, fill, AreEquationsMet}
use Rattle.raid_parity.specs.Rows.{IsRowRoles, sector_of, row_without, whole_row}
use Rattle.raid_parity.proofs.Bytes.{sector_byte}
use Rattle.raid_parity.proofs.Columns.{tabulate-same, data_at_p, data_at_q, q_at, q_of}
use Rattle.raid_parity.proofs.RowBytes.{sector_of-same}
use Rattle.raid_parity_simd.specs.Factors.{AreFactors}
use Rattle.raid_parity_simd.specs.Parts.{part_byte, part_bytes, emptied, solved}
use Rattle.raid_parity_simd.proofs.Emptied.{emptied-same, solved-same}
use Rattle.raid_parity_simd.proofs.Rests.{xor_twice}
use Rattle.raid_parity_simd.proofs.RowFills.{good_without_q, good_with_q, one_by_data, one_by_rest, both_solved}

module _ (roles : RowRoles) (is : IsRowRoles roles) (old new starts : List ℕ) (base : ℕ) (number : ℕ → ℕ)
    (places : (r : ℕ) → r < roles.disks → get_or starts r 0 + base ≡ 512 * number r)
    (size : length new ≡ length old) (within : (r : ℕ) → r < roles.disks → 512 * number r + 512 ≤ length old)
    (small : (place : ℕ) → get_or new place 0 < 256) where
  abbrev before : ℕ → List ℕ
  before r = sector_of old (number r)

  abbrev after : ℕ → List ℕ
  after r = sector_of new (number r)

  byte : (bytes : List ℕ) (r at : ℕ) → r < roles.disks → at < 512 → get_or (sector_of bytes (number r)) at 0 ≡ part_byte bytes starts r (base + at)
  byte bytes r at hr lt =
      let same : 512 * number r + at ≡ get_or starts r 0 + (base + at) = omega (arith, places r hr) in
      sector_byte bytes (number r) at lt ∙ ap (λ (k : ℕ). get_or bytes k 0) same

  column : (at : ℕ) → at < 512 → part_bytes roles.disks old starts (base + at) ≡ tabulate roles.disks (λ r. get_or (before r) at 0)
  column at lt = tabulate-same roles.disks (λ r. part_byte old starts r (base + at)) (λ r. get_or (before r) at 0) (λ r hr. sym (byte old r at hr lt))

  long : (bytes : List ℕ) (k : ℕ) → 512 * k + 512 ≤ length bytes → length (sector_of bytes k) ≡ 512
  long bytes k le = length-take (512 * k + 512 - 512 * k) (drop (512 * k) bytes) ∙ omega (arith, length-drop (512 * k) bytes)

  before-long : (r : ℕ) → r < roles.disks → length (before r) ≡ 512
  before-long r hr = long old (number r) (within r hr)

  after-long : (r : ℕ) → r < roles.disks → length (after r) ≡ 512
  after-long r hr = long new (number r) (let h = within r hr in omega (arith, h, size))

  after-lt : (r at : ℕ) → r < roles.disks → at < 512 → get_or (after r) at 0 < 256
  after-lt r at hr lt = rw (sector_byte new (number r) at lt) (small (512 * number r + at))

  kept : (r : ℕ) → r < roles.disks → ((at : ℕ) → at < 512 → part_byte new starts r (base + at) ≡ part_byte old starts r (base + at)) → after r ≡ before r
  kept r hr same = sector_of-same old new (number r) size (λ at lt.
      sym (sector_byte new (number r) at lt) ∙ byte new r at hr lt ∙ same at lt ∙ sym (byte old r at hr lt) ∙ sector_byte old (number r) at lt)

  -- P alone, where there is no Q
  pub plain_set : roles.q ≡ None
      → ((at : ℕ) → at < 512 → part_byte new starts roles.p (base + at)
      ≡ bit_xor (bit_xor (p_byte roles (part_bytes roles.disks old starts (base + at))) (part_byte old starts roles.p (base + at))) (part_byte old starts roles.p (base + at)))
      → ((r : ℕ) → r < roles.disks → r ≢ roles.p → (at : ℕ) → at < 512 → part_byte new starts r (base + at) ≡ part_byte old starts r (base + at))
      → AreEquationsMet roles (whole_row roles.disks after)
  plain_set none there others =
      good_without_q roles is before after
      (λ r hr d. kept r hr (others r hr (λ e. let other : is_data roles r ≡ false = ap (is_data roles) e ∙ data_at_p roles in absurd (cc))))
      (λ at lt.
      byte new roles.p at is.p lt ∙ there at lt
      ∙ xor_twice (p_byte roles (part_bytes roles.disks old starts (base + at))) (part_byte old starts roles.p (base + at))
      ∙ ap (p_byte roles) (column at lt))
      none

  -- P and Q
  pub both_set : (q : ℕ) → roles.q ≡ Some q
      → ((at : ℕ) → at < 512 → part_byte new starts roles.p (base + at) ≡ p_byte roles (part_bytes roles.disks old starts (base + at)))
      → ((at : ℕ) → at < 512 → part_byte new starts q (base + at) ≡ q_byte roles q (part_bytes roles.disks old starts (base + at)))
      → ((r : ℕ) → r < roles.disks → r ≢ roles.p → r ≢ q → (at : ℕ) → at < 512 → part_byte new starts r (base + at) ≡ part_byte old starts r (base + at))
      → AreEquationsMet roles (whole_row roles.disks after)
  both_set q has_q p_there q_there others =
      good_with_q roles is before after
      (λ r hr d. kept r hr (others r hr
      (λ e. let other : is_data roles r ≡ false = ap (is_data roles) e ∙ data_at_p roles in absurd (cc))
      (λ e. let other : is_data roles r ≡ false = data_at_q roles r (ap (is_q roles) e ∙ q_at roles q has_q) in absurd (cc))))
      (λ at lt. byte new roles.p at is.p lt ∙ p_there at lt ∙ ap (p_byte roles) (column at lt))
      q has_q
      (λ at lt. byte new q at (q_of roles is q has_q).0 lt ∙ q_there at lt ∙ ap (q_byte roles q) (column at lt))

  -- one role
  module _ (m : ℕ) (hm : m < roles.disks)
      (others : (r : ℕ) → r < roles.disks → r ≢ m → (at : ℕ) → at < 512 → part_byte new starts r (base + at) ≡ part_byte old starts r (base + at)) where
    pub q_filled : roles.q ≡ Some m
        → ((at : ℕ) → at < 512 → part_byte new starts m (base + at) ≡ q_byte roles m (part_bytes roles.disks old starts (base + at)))
        → after m ≡ fill roles (row_without (λ role. eqb role m) roles.disks before) m
    q_filled has_q there =
        one_by_data roles is before after before-long after-long after-lt m hm (λ r hr ne. kept r hr (others r hr ne)) has_q
        (λ at lt. byte new m at hm lt ∙ there at lt ∙ ap (q_byte roles m) (column at lt))

    pub rest_filled : is_q roles m ≡ false
        → ((at : ℕ) → at < 512 → part_byte new starts m (base + at)
        ≡ bit_xor (bit_xor (p_byte roles (part_bytes roles.disks old starts (base + at))) (part_byte old starts roles.p (base + at))) (part_byte old starts m (base + at)))
        → after m ≡ fill roles (row_without (λ role. eqb role m) roles.disks before) m
    rest_filled not_q there =
        one_by_rest roles is before after before-long after-long after-lt m hm (λ r hr ne. kept r hr (others r hr ne)) not_q
        (λ at lt.
        byte new m at hm lt ∙ there at lt
        ∙ ap₂ bit_xor (ap₂ bit_xor (ap (p_byte roles) (column at lt)) (sym (byte old roles.p at is.p lt))) (sym (byte old m at hm lt)))

  -- two roles
  pub two_solved : (q : ℕ) → roles.q ≡ Some q → (a b : ℕ) → a < roles.disks → b < roles.disks → a ≢ b
      → ((r : ℕ) → r < roles.disks → r ≢ a → r ≢ b → (at : ℕ) → at < 512 → part_byte new starts r (base + at) ≡ part_byte old starts r (base + at))
      → (a_plain a_weighed b_plain b_weighed : ℕ) → AreFactors roles q a b a_plain a_weighed b_plain b_weighed
      → ((at : ℕ) → at < 512 → part_byte new starts a (base + at) ≡ solved roles q a_plain a_weighed (emptied (λ r. part_byte old starts r (base + at)) a b))
      → ((at : ℕ) → at < 512 → part_byte new starts b (base + at) ≡ solved roles q b_plain b_weighed (emptied (λ r. part_byte old starts r (base + at)) a b))
      → (m : ℕ) → m < roles.disks → after m ≡ fill roles (row_without (λ role. eqb role a || eqb role b) roles.disks before) m
  two_solved q has_q a b ha hb ne others a_plain a_weighed b_plain b_weighed factors a_there b_there =
      let hq = (q_of roles is q has_q).0 in
      let bytes : (at : ℕ) → at < 512 → (r : ℕ) → r < roles.disks
      → emptied (λ k. part_byte old starts k (base + at)) a b r ≡ emptied (λ k. get_or (before k) at 0) a b r = λ at lt r hr.
      emptied-same (λ k. part_byte old starts k (base + at)) (λ k. get_or (before k) at 0) a b r (λ _ _. sym (byte old r at hr lt)) in
      both_solved roles is before after before-long after-long after-lt q has_q a b ha hb ne (λ r hr na nb. kept r hr (others r hr na nb))
      a_plain a_weighed b_plain b_weighed factors
      (λ at lt. byte new a at ha lt ∙ a_there at lt
      ∙ solved-same roles is q hq a_plain a_weighed (emptied (λ k. part_byte old starts k (base + at)) a b) (emptied (λ k. get_or (before k) at 0) a b) (bytes at lt))
      (λ at lt. byte new b at hb lt ∙ b_there at lt
      ∙ solved-same roles is q hq b_plain b_weighed (emptied (λ k. part_byte old starts k (base + at)) a b) (emptied (λ k. get_or (before k) at 0) a b) (bytes at lt))
