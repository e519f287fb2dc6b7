-- The sums over the roles that the walk has passed: the data at so many steps behind Q or more.
use Rattle.std.proofs.Common.{◌≡◌, ◌≢◌, ℕ, suc, ◌+◌, ◌-◌, ◌<◌, ◌≤◌, inl, inr, Bool, true, false, cond, ◌&&◌, nat_lt, nat_le, Some, refl, sym, ap, ap₂, ◌∙◌, arith}
use Rattle.std.proofs.lemmas.Bool.{cases_lt, cases_eq}
use Rattle.std.proofs.lemmas.Bool.Decides.{nat_tests}
use Rattle.std.specs.Int.Bits.{bit_xor}
use Rattle.raid_gf256.specs.Field.{double, product, power_of_two}
use Rattle.raid_gf256.proofs.FieldLaws.{double-zero, product-one_l, product-lt, double-product, product_slides, power-lt}
use Rattle.raid_types.specs.declared.places.RowRoles.{RowRoles}
use Rattle.raid_parity.specs.Exponents.{is_q, is_data, steps_behind, exponent}
use Rattle.raid_parity.specs.Rows.{IsRowRoles}
use Rattle.raid_parity.proofs.Totals.{total, total-same, total-zero, total-double, total-put, put, put-same, put-other}
use Rattle.raid_parity.proofs.Columns.{data_at_p, data_at_q, q_at, bool_cases, weighed, weighed-is}
use Rattle.raid_parity.proofs.Walk.{steps_of_q, steps-lt, steps-injective}

-- ---- exponents by steps, of which P's does not count

abbrev pub exponent_after : ℕ → ℕ → ℕ
exponent_after p_steps k = k - cond (nat_lt p_steps k) 1 0

after_step : (p k : ℕ) → k ≢ p → exponent_after p (k + 1) ≡ exponent_after p k + 1
after_step p k ne = grind (arith, nat_tests)

after_p : (p : ℕ) → exponent_after p (p + 1) ≡ exponent_after p p
after_p p = grind (arith, nat_tests)

after_later : (p k j : ℕ) → k ≤ j → exponent_after p k ≤ exponent_after p j
after_later p k j le = grind (arith, nat_tests)

pub after_injective : (p j k : ℕ) → j ≢ p → k ≢ p → exponent_after p j ≡ exponent_after p k → j ≡ k
after_injective p j k nj nk e = grind (arith, nat_tests)

after_none : (p : ℕ) → exponent_after p 0 ≡ 0
after_none p = grind (arith, nat_tests)

-- ---- what was passed

le-true : (a b : ℕ) → a ≤ b → nat_le a b ≡ true
le-true a b h = grind (arith, nat_tests)

le-false : (a b : ℕ) → b < a → nat_le a b ≡ false
le-false a b h = grind (arith, nat_tests)

and_no : (b : Bool) → (b && false) ≡ false
and_no true = refl
and_no false = refl

-- it holds data and lies this many steps behind Q or more
pub passed : RowRoles → ℕ → ℕ → ℕ → Bool
passed roles q k r = is_data roles r && nat_le k (steps_behind roles q r)

-- f at the roles that were passed
pub plain_part : RowRoles → ℕ → (ℕ → ℕ) → ℕ → ℕ → ℕ
plain_part roles q f k r = cond (passed roles q k r) (f r) 0

-- the same, each with the weight that it has by then
pub weighed_part : RowRoles → ℕ → (ℕ → ℕ) → ℕ → ℕ → ℕ
weighed_part roles q f k r =
    cond (passed roles q k r) (product (power_of_two (exponent roles q r - exponent_after (steps_behind roles q roles.p) k)) (f r)) 0

module _ (roles : RowRoles) (is : IsRowRoles roles) (q : ℕ) (has_q : roles.q ≡ Some q) (q_below : q < roles.disks) where
  abbrev p_steps : ℕ
  p_steps = steps_behind roles q roles.p

  passed_yes : (k r : ℕ) → is_data roles r ≡ true → k ≤ steps_behind roles q r → passed roles q k r ≡ true
  unfolding passed
  passed_yes k r data_role le = ap₂ (λ a b. a && b) data_role (le-true k (steps_behind roles q r) le)

  passed_no : (k r : ℕ) → is_data roles r ≡ false → passed roles q k r ≡ false
  unfolding passed
  passed_no k r other = ap (λ a. a && nat_le k (steps_behind roles q r)) other

  passed_not_yet : (k r : ℕ) → steps_behind roles q r < k → passed roles q k r ≡ false
  unfolding passed
  passed_not_yet k r lt = ap (λ b. is_data roles r && b) (le-false k (steps_behind roles q r) lt) ∙ and_no (is_data roles r)

  data_not_p : (r : ℕ) → is_data roles r ≡ true → r ≢ roles.p
  data_not_p r data_role e =
      let no_data : is_data roles r ≡ false = ap (is_data roles) e ∙ data_at_p roles in
      absurd (cc)

  data_not_q : (r : ℕ) → is_data roles r ≡ true → r ≢ q
  data_not_q r data_role e =
      let no_data : is_data roles r ≡ false = data_at_q roles r (ap (is_q roles) e ∙ q_at roles q has_q) in
      absurd (cc)

  module _ (f : ℕ → ℕ) where
    -- at first nothing was passed roles q
    nothing_passed : (r : ℕ) → r < roles.disks → passed roles q (roles.disks - 1) r ≡ false
    nothing_passed r lt =
        elim (bool_cases (is_data roles r)) [
          | inr other ↦ passed_no (roles.disks - 1) r other
          | inl data_role ↦ passed_not_yet (roles.disks - 1) r (elim (cases_lt (steps_behind roles q r) (roles.disks - 1)) [
            | inl less ↦ less
            | inr last ↦
                let top : steps_behind roles q r ≡ steps_behind roles q q =
                omega (arith, steps-lt roles q q_below r lt, steps_of_q roles q q_below) in
                absurd (data_not_q r data_role (steps-injective roles q q_below r q lt q_below top))
          ])
        ]

    pub plain_start : total roles.disks (plain_part roles q f (roles.disks - 1)) ≡ 0
    unfolding plain_part
    plain_start = total-zero roles.disks (plain_part roles q f (roles.disks - 1)) (λ r lt. ap (λ b. cond b (f r) 0) (nothing_passed r lt))

    pub weighed_start : total roles.disks (weighed_part roles q f (roles.disks - 1)) ≡ 0
    unfolding weighed_part
    weighed_start = total-zero roles.disks (weighed_part roles q f (roles.disks - 1)) (λ r lt.
        ap (λ b. cond b (product (power_of_two (exponent roles q r - exponent_after p_steps (roles.disks - 1))) (f r)) 0) (nothing_passed r lt))

    -- P is passed roles q without a change
    passed_over_p : (k r : ℕ) → r < roles.disks → p_steps ≡ k → passed roles q k r ≡ passed roles q (k + 1) r
    passed_over_p k r lt at_p =
        elim (bool_cases (is_data roles r)) [
          | inr other ↦ passed_no k r other ∙ sym (passed_no (k + 1) r other)
          | inl data_role ↦ elim (cases_lt (steps_behind roles q r) (k + 1)) [
            | inr far ↦ passed_yes k r data_role (omega arith) ∙ sym (passed_yes (k + 1) r data_role far)
            | inl near ↦ passed_not_yet k r (elim (cases_lt (steps_behind roles q r) k) [
              | inl less ↦ less
              | inr same ↦
                  let e : steps_behind roles q r ≡ steps_behind roles q roles.p = omega arith in
                  absurd (data_not_p r data_role (steps-injective roles q q_below r roles.p lt is.p e))
            ]) ∙ sym (passed_not_yet (k + 1) r near)
          ]
        ]

    pub plain_over_p : (k : ℕ) → p_steps ≡ k → total roles.disks (plain_part roles q f k) ≡ total roles.disks (plain_part roles q f (k + 1))
    unfolding plain_part
    plain_over_p k at_p = total-same roles.disks (plain_part roles q f k) (plain_part roles q f (k + 1)) (λ r lt. ap (λ b. cond b (f r) 0) (passed_over_p k r lt at_p))

    pub weighed_over_p : (k : ℕ) → p_steps ≡ k → total roles.disks (weighed_part roles q f k) ≡ total roles.disks (weighed_part roles q f (k + 1))
    unfolding weighed_part
    weighed_over_p k at_p =
        let same : exponent_after p_steps k ≡ exponent_after p_steps (k + 1) = rw at_p (sym (after_p k)) in
        total-same roles.disks (weighed_part roles q f k) (weighed_part roles q f (k + 1)) (λ r lt.
        ap₂ (λ b e. cond b (product (power_of_two (exponent roles q r - e)) (f r)) 0) (passed_over_p k r lt at_p) same)

    -- a data role is passed roles q
    module _ (small : (r : ℕ) → r < roles.disks → f r < 256) (m k : ℕ) (m_below : m < roles.disks) (at_m : steps_behind roles q m ≡ k) (data_m : is_data roles m ≡ true) where
      m_passed : passed roles q k m ≡ true
      m_passed = passed_yes k m data_m (omega arith)

      m_not_yet : passed roles q (k + 1) m ≡ false
      m_not_yet = passed_not_yet (k + 1) m (omega arith)

      others_same : (r : ℕ) → r < roles.disks → r ≢ m → passed roles q k r ≡ passed roles q (k + 1) r
      others_same r lt ne =
          elim (bool_cases (is_data roles r)) [
            | inr other ↦ passed_no k r other ∙ sym (passed_no (k + 1) r other)
            | inl data_role ↦ elim (cases_lt (steps_behind roles q r) (k + 1)) [
              | inr far ↦ passed_yes k r data_role (omega arith) ∙ sym (passed_yes (k + 1) r data_role far)
              | inl near ↦ passed_not_yet k r (elim (cases_lt (steps_behind roles q r) k) [
                | inl less ↦ less
                | inr same ↦
                    let e : steps_behind roles q r ≡ steps_behind roles q m = omega arith in
                    absurd (ne (steps-injective roles q q_below r m lt m_below e))
              ]) ∙ sym (passed_not_yet (k + 1) r near)
            ]
          ]

      plain_term : (r : ℕ) → r < roles.disks → plain_part roles q f k r ≡ put (plain_part roles q f (k + 1)) m (f m) r
      unfolding plain_part
      plain_term r lt = elim (cases_eq r m) [
        | inl e ↦ rw e (ap (λ b. cond b (f m) 0) m_passed ∙ sym (put-same (plain_part roles q f (k + 1)) m (f m)))
        | inr ne ↦ ap (λ b. cond b (f r) 0) (others_same r lt ne) ∙ sym (put-other (plain_part roles q f (k + 1)) m (f m) r ne)
      ]

      pub plain_over : total roles.disks (plain_part roles q f k) ≡ bit_xor (total roles.disks (plain_part roles q f (k + 1))) (f m)
      unfolding plain_part
      plain_over =
          total-same roles.disks (plain_part roles q f k) (put (plain_part roles q f (k + 1)) m (f m)) plain_term
          ∙ total-put roles.disks m (f m) (plain_part roles q f (k + 1)) m_below (ap (λ b. cond b (f m) 0) m_not_yet)

      p_elsewhere : k ≢ p_steps
      p_elsewhere e =
          let same : steps_behind roles q m ≡ steps_behind roles q roles.p = at_m ∙ e in
          data_not_p m data_m (steps-injective roles q q_below m roles.p m_below is.p same)

      -- one more doubling for each role that was passed roles q before
      doubled_term : (r : ℕ) → r < roles.disks → passed roles q (k + 1) r ≡ true
          → product (power_of_two (exponent roles q r - exponent_after p_steps k)) (f r)
          ≡ double (product (power_of_two (exponent roles q r - exponent_after p_steps (k + 1))) (f r))
      unfolding power_of_two
      doubled_term r lt was =
          let far : k + 1 ≤ steps_behind roles q r = elim (cases_lt (steps_behind roles q r) (k + 1)) [
            | inl near ↦ let not_yet : passed roles q (k + 1) r ≡ false = passed_not_yet (k + 1) r near in absurd (cc)
            | inr far ↦ far
          ] in
          let later : exponent_after p_steps (k + 1) ≤ exponent_after p_steps (steps_behind roles q r) = after_later p_steps (k + 1) (steps_behind roles q r) far in
          let step : exponent_after p_steps (k + 1) ≡ exponent_after p_steps k + 1 = after_step p_steps k p_elsewhere in
          let more : exponent roles q r - exponent_after p_steps k ≡ suc (exponent roles q r - exponent_after p_steps (k + 1)) =
          differ (exponent roles q r) (exponent_after p_steps k) (exponent_after p_steps (k + 1)) later step in
          ap (λ e. product (power_of_two e) (f r)) more
          ∙ product_slides (power_of_two (exponent roles q r - exponent_after p_steps (k + 1))) (f r) (power-lt (exponent roles q r - exponent_after p_steps (k + 1))) (small r lt)
          ∙ sym (double-product (power_of_two (exponent roles q r - exponent_after p_steps (k + 1))) (f r) (small r lt))
        where
          differ : (e a b : ℕ) → b ≤ e → b ≡ a + 1 → e - a ≡ suc (e - b)
          differ e a b le step = omega arith

      weighed_others : (r : ℕ) → r < roles.disks → r ≢ m → weighed_part roles q f k r ≡ double (weighed_part roles q f (k + 1) r)
      unfolding weighed_part
      weighed_others r lt ne = elim (bool_cases (passed roles q (k + 1) r)) [
        | inl was ↦
            ap (λ b. cond b (product (power_of_two (exponent roles q r - exponent_after p_steps k)) (f r)) 0) (others_same r lt ne ∙ was)
            ∙ doubled_term r lt was
            ∙ sym (ap (λ b. double (cond b (product (power_of_two (exponent roles q r - exponent_after p_steps (k + 1))) (f r)) 0)) was)
        | inr not_yet ↦
            ap (λ b. cond b (product (power_of_two (exponent roles q r - exponent_after p_steps k)) (f r)) 0) (others_same r lt ne ∙ not_yet)
            ∙ sym double-zero
            ∙ sym (ap (λ b. double (cond b (product (power_of_two (exponent roles q r - exponent_after p_steps (k + 1))) (f r)) 0)) not_yet)
      ]

      weighed_here : weighed_part roles q f k m ≡ f m
      unfolding weighed_part power_of_two
      weighed_here =
          let first : exponent roles q m - exponent_after p_steps k ≡ 0 = rw at_m (same_less (exponent_after p_steps k)) in
          ap₂ (λ b e. cond b (product (power_of_two e) (f m)) 0) m_passed first ∙ product-one_l (f m)
        where
          same_less : (e : ℕ) → e - e ≡ 0
          same_less e = omega arith

      weighed_small : (r : ℕ) → r < roles.disks → weighed_part roles q f (k + 1) r < 256
      unfolding weighed_part
      weighed_small r lt = elim (bool_cases (passed roles q (k + 1) r)) [
        | inl was ↦ rw was (product-lt (power_of_two (exponent roles q r - exponent_after p_steps (k + 1))) (f r) (small r lt))
        | inr not_yet ↦ rw not_yet (omega arith)
      ]

      pub weighed_over : total roles.disks (weighed_part roles q f k) ≡ bit_xor (double (total roles.disks (weighed_part roles q f (k + 1)))) (f m)
      unfolding weighed_part
      weighed_over =
          total-same roles.disks (weighed_part roles q f k) (put (λ r. double (weighed_part roles q f (k + 1) r)) m (f m)) (λ r lt. elim (cases_eq r m) [
            | inl e ↦ rw e (weighed_here ∙ sym (put-same (λ r. double (weighed_part roles q f (k + 1) r)) m (f m)))
            | inr ne ↦ weighed_others r lt ne ∙ sym (put-other (λ r. double (weighed_part roles q f (k + 1) r)) m (f m) r ne)
          ])
          ∙ total-put roles.disks m (f m) (λ r. double (weighed_part roles q f (k + 1) r)) m_below
          (ap (λ b. double (cond b (product (power_of_two (exponent roles q m - exponent_after p_steps (k + 1))) (f m)) 0)) m_not_yet ∙ double-zero)
          ∙ ap (λ x. bit_xor x (f m)) (sym (total-double roles.disks (weighed_part roles q f (k + 1)) weighed_small))

    -- in the end all data were passed roles q
    all_passed : (r : ℕ) → passed roles q 0 r ≡ is_data roles r
    all_passed r = elim (bool_cases (is_data roles r)) [
      | inl data_role ↦ passed_yes 0 r data_role (omega arith) ∙ sym data_role
      | inr other ↦ passed_no 0 r other ∙ sym other
    ]

    pub plain_end : total roles.disks (plain_part roles q f 0) ≡ total roles.disks (weighed (λ role. 1) roles f)
    unfolding plain_part
    plain_end = total-same roles.disks (plain_part roles q f 0) (weighed (λ role. 1) roles f) (λ r lt.
        ap (λ b. cond b (f r) 0) (all_passed r) ∙ ap (λ x. cond (is_data roles r) x 0) (sym (product-one_l (f r))) ∙ sym (weighed-is (λ role. 1) roles f r))

    pub weighed_end : total roles.disks (weighed_part roles q f 0) ≡ total roles.disks (weighed (λ role. power_of_two (exponent roles q role)) roles f)
    unfolding weighed_part
    weighed_end = total-same roles.disks (weighed_part roles q f 0) (weighed (λ role. power_of_two (exponent roles q role)) roles f) (λ r lt.
        ap₂ (λ b e. cond b (product (power_of_two (exponent roles q r - e)) (f r)) 0) (all_passed r) (after_none p_steps)
        ∙ ap (λ e. cond (is_data roles r) (product (power_of_two e) (f r)) 0) (less_none (exponent roles q r))
        ∙ sym (weighed-is (λ role. power_of_two (exponent roles q role)) roles f r))
      where
        less_none : (e : ℕ) → e - 0 ≡ e
        less_none e = omega arith
