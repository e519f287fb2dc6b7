-- The role by which the differences are explained is the suspect, and no other is.
use Rattle.std.proofs.Common.{◌≡◌, ◌≢◌, inl, inr, ℕ, ◌<◌, Bool, true, false, cond, eqb, eq-eqb, ne_eqb, eqb-true, length, get_or, Some, refl, sym, ap, ap₂, ◌∙◌, arith}
use Rattle.std.proofs.lemmas.Bool.{cases_eq, cases_lt}
use Rattle.std.proofs.lemmas.List.{get_or_past}
use Rattle.std.specs.Int.Bits.{bit_xor, xor_lt}
use Rattle.raid_parity.specs.raid_gf256_Field.{product, power_of_two}
use Rattle.raid_parity.proofs.raid_gf256_FieldLaws.{product-one_l, product-zero_l}
use Rattle.raid_parity.specs.raid_types_the_RowRoles.{RowRoles}
use Rattle.raid_parity.specs.raid_types_Search.{tabulate}
use Rattle.raid_types.specs.Sectors.{Sector, IsSector}
use Rattle.raid_parity.proofs.raid_types_Tabulated.{length-tabulate, get_or-tabulate}
use Rattle.raid_parity.specs.Exponents.{is_q, exponent}
use Rattle.raid_parity.specs.Rows.{IsRowRoles, p_weight, q_weight}
use Rattle.raid_parity.proofs.Totals.{xor_same, same_xor}
use Rattle.raid_parity.proofs.Columns.{rest, q_at, q_not_at, q_of}
use Rattle.stripe_suspects.specs.Suspects.{IsBad, with_sector, IsSuspect}
use Rattle.stripe_suspects.specs.Rule.{p_difference, q_difference, explains, Explains, TheRuleIsExact}
use Rattle.stripe_suspects.proofs.Changing.{xor_twice, rest-changed, byte, p_is, q_is, good-gives, good-from, rest-small, with-same, with-other}

module _ (roles : RowRoles) (is : IsRowRoles roles) (q : ℕ) (has_q : roles.q ≡ Some q) where
  -- ---- the weights of a role

  power : ℕ → ℕ
  power m = power_of_two (exponent roles q m)

  p_at_q : (m : ℕ) → m ≡ q → p_weight roles m ≡ 0
  p_at_q m e = ap (λ b. cond b 0 1) (ap (is_q roles) e ∙ q_at roles q has_q)

  p_else : (m : ℕ) → m ≢ q → p_weight roles m ≡ 1
  p_else m ne = ap (λ b. cond b 0 1) (q_not_at roles q m has_q ne)

  q_at_p : (m : ℕ) → m ≡ roles.p → q_weight roles q m ≡ 0
  q_at_p m e = ap (λ b. cond b 0 (cond (eqb m q) 1 (power_of_two (exponent roles q m)))) (eq-eqb m roles.p e)

  q_at_own : (m : ℕ) → m ≢ roles.p → m ≡ q → q_weight roles q m ≡ 1
  q_at_own m ne e = ap₂ (λ a b. cond a 0 (cond b 1 (power_of_two (exponent roles q m)))) (ne_eqb m roles.p ne) (eq-eqb m q e)

  q_else : (m : ℕ) → m ≢ roles.p → m ≢ q → q_weight roles q m ≡ power_of_two (exponent roles q m)
  q_else m np nq = ap₂ (λ a b. cond a 0 (cond b 1 (power_of_two (exponent roles q m)))) (ne_eqb m roles.p np) (ne_eqb m q nq)

  apart : (m : ℕ) → m ≡ roles.p → m ≢ q
  apart m e same = (q_of roles is q has_q).1 (sym same ∙ e)

  -- ---- one byte: what a role has to change by

  explains_p : (m e f : ℕ) → m ≡ roles.p → explains roles q m e f ≡ eqb f 0
  explains_p m e f at = ap (λ b. cond b (eqb f 0) (cond (eqb m q) (eqb e 0) (eqb f (product (power_of_two (exponent roles q m)) e)))) (eq-eqb m roles.p at)

  explains_q : (m e f : ℕ) → m ≢ roles.p → m ≡ q → explains roles q m e f ≡ eqb e 0
  explains_q m e f np at =
      ap₂ (λ a b. cond a (eqb f 0) (cond b (eqb e 0) (eqb f (product (power_of_two (exponent roles q m)) e)))) (ne_eqb m roles.p np) (eq-eqb m q at)

  explains_data : (m e f : ℕ) → m ≢ roles.p → m ≢ q → explains roles q m e f ≡ eqb f (product (power_of_two (exponent roles q m)) e)
  explains_data m e f np nq =
      ap₂ (λ a b. cond a (eqb f 0) (cond b (eqb e 0) (eqb f (product (power_of_two (exponent roles q m)) e)))) (ne_eqb m roles.p np) (ne_eqb m q nq)

  -- a change by d that takes both differences away
  record Takes (m e f d : ℕ) : Type 0 where
    from_p : e ≡ product (p_weight roles m) d
    from_q : f ≡ product (q_weight roles q m) d

  chosen : ℕ → ℕ → ℕ → ℕ
  chosen m e f = cond (eqb m q) f e

  takes-from : (m e f : ℕ) → explains roles q m e f ≡ true → Takes m e f (chosen m e f)
  unfolding chosen
  takes-from m e f explained = elim (cases_eq m roles.p) [
    | inl at_p ↦
        let nq : m ≢ q = apart m at_p in
        let d : chosen m e f ≡ e = ap (λ b. cond b f e) (ne_eqb m q nq) in
        let zero : f ≡ 0 = eqb-true f 0 (sym (explains_p m e f at_p) ∙ explained) in
        record {
          from_p = sym (ap₂ product (p_else m nq) d ∙ product-one_l e);
          from_q = zero ∙ sym (ap₂ product (q_at_p m at_p) d ∙ product-zero_l e);
        }
    | inr np ↦ elim (cases_eq m q) [
      | inl at_q ↦
          let d : chosen m e f ≡ f = ap (λ b. cond b f e) (eq-eqb m q at_q) in
          let zero : e ≡ 0 = eqb-true e 0 (sym (explains_q m e f np at_q) ∙ explained) in
          record {
            from_p = zero ∙ sym (ap₂ product (p_at_q m at_q) d ∙ product-zero_l f);
            from_q = sym (ap₂ product (q_at_own m np at_q) d ∙ product-one_l f);
          }
      | inr nq ↦
          let d : chosen m e f ≡ e = ap (λ b. cond b f e) (ne_eqb m q nq) in
          let same : f ≡ product (power_of_two (exponent roles q m)) e = eqb-true f _ (sym (explains_data m e f np nq) ∙ explained) in
          record {
            from_p = sym (ap₂ product (p_else m nq) d ∙ product-one_l e);
            from_q = same ∙ sym (ap₂ product (q_else m np nq) d);
          }
    ]
  ]

  explains-from : (m e f d : ℕ) → Takes m e f d → explains roles q m e f ≡ true
  explains-from m e f d takes = elim (cases_eq m roles.p) [
    | inl at_p ↦ explains_p m e f at_p ∙ eq-eqb f 0 (takes.from_q ∙ ap (λ w. product w d) (q_at_p m at_p) ∙ product-zero_l d)
    | inr np ↦ elim (cases_eq m q) [
      | inl at_q ↦ explains_q m e f np at_q ∙ eq-eqb e 0 (takes.from_p ∙ ap (λ w. product w d) (p_at_q m at_q) ∙ product-zero_l d)
      | inr nq ↦
          let same : e ≡ d = takes.from_p ∙ ap (λ w. product w d) (p_else m nq) ∙ product-one_l d in
          explains_data m e f np nq ∙ eq-eqb f _ (takes.from_q ∙ ap₂ product (q_else m np nq) (sym same))
    ]
  ]

  -- ---- the whole sector

  module _ (sectors : ℕ → Sector) (whole : (r : ℕ) → r < roles.disks → IsSector (sectors r)) (m : ℕ) (lt : m < roles.disks) where
    -- a sum over the row with another sector on the role
    changed : (weight : ℕ → ℕ) (sector : Sector) → IsSector sector → (at : ℕ)
        → rest roles.disks weight (byte roles is q has_q (with_sector sectors m sector) at)
        ≡ bit_xor (rest roles.disks weight (byte roles is q has_q sectors at)) (product (weight m) (bit_xor (get_or (sectors m) at 0) (get_or sector at 0)))
    changed weight sector own at =
        let own_byte : get_or (with_sector sectors m sector m) at 0 ≡ get_or sector at 0 = ap (λ s. get_or s at 0) (with-same sectors m sector) in
        rest-changed roles.disks m weight (byte roles is q has_q sectors at) (byte roles is q has_q (with_sector sectors m sector) at) lt ((whole m lt).bytes at)
        (rw own_byte (own.bytes at))
        (λ r l ne. ap (λ s. get_or s at 0) (with-other sectors m sector r ne))
        ∙ ap (λ x. bit_xor (rest roles.disks weight (byte roles is q has_q sectors at)) (product (weight m) (bit_xor (get_or (sectors m) at 0) x))) own_byte

    abbrev e : ℕ → ℕ
    e = p_difference roles sectors

    abbrev f : ℕ → ℕ
    f = q_difference roles q sectors

    pub only : IsSuspect roles sectors m → Explains roles q m (p_difference roles sectors) (q_difference roles q sectors)
    only suspect at below =
        let zeros = good-gives roles is q has_q (with_sector sectors m suspect.contents) suspect.mends at below in
        let d : ℕ = bit_xor (get_or (sectors m) at 0) (get_or suspect.contents at 0) in
        explains-from m (e at) (f at) (bit_xor (get_or (sectors m) at 0) (get_or suspect.contents at 0)) (record {
          from_p = p_is roles is q has_q sectors at ∙ xor_same _ _ (sym (changed (p_weight roles) suspect.contents suspect.whole at) ∙ zeros.0);
          from_q = q_is roles is q has_q sectors at ∙ xor_same _ _ (sym (changed (q_weight roles q) suspect.contents suspect.whole at) ∙ zeros.1);
        })

    mended : Sector
    mended = tabulate 512 (λ at. bit_xor (get_or (sectors m) at 0) (chosen m (e at) (f at)))

    chosen-lt : (at : ℕ) → chosen m (e at) (f at) < 256
    unfolding chosen
    chosen-lt at = by (eqb m q)
      where
        by : (b : Bool) → cond b (f at) (e at) < 256
        by true = rw (q_is roles is q has_q sectors at) (rest-small roles is q has_q (q_weight roles q) sectors whole at)
        by false = rw (p_is roles is q has_q sectors at) (rest-small roles is q has_q (p_weight roles) sectors whole at)

    mended-at : (at : ℕ) → at < 512 → get_or mended at 0 ≡ bit_xor (get_or (sectors m) at 0) (chosen m (e at) (f at))
    unfolding mended
    mended-at at below = get_or-tabulate 512 (λ at. bit_xor (get_or (sectors m) at 0) (chosen m (e at) (f at))) at 0 below

    mended-length : length mended ≡ 512
    unfolding mended
    mended-length = length-tabulate 512 (λ at. bit_xor (get_or (sectors m) at 0) (chosen m (e at) (f at)))

    mended-whole : IsSector mended
    mended-whole = record {
      whole = mended-length;
      bytes = λ at. elim (cases_lt at 512) [
        | inl below ↦ rw (mended-at at below) (xor_lt 8 (get_or (sectors m) at 0) (chosen m (e at) (f at)) ((whole m lt).bytes at) (chosen-lt at))
        | inr past ↦ let zero : get_or mended at 0 ≡ 0 = get_or_past mended at 0 (omega (arith, past, mended-length)) in omega (arith, zero)
      ];
    }

    pub found : IsBad roles sectors → Explains roles q m (p_difference roles sectors) (q_difference roles q sectors) → IsSuspect roles sectors m
    found bad explained = record {
      level = rw has_q refl;
      bad = bad;
      below = lt;
      contents = mended;
      whole = mended-whole;
      mends = good-from roles is q has_q (with_sector sectors m mended) (λ at below.
          let takes = takes-from m (e at) (f at) (explained at below) in
          let d : bit_xor (get_or (sectors m) at 0) (get_or mended at 0) ≡ chosen m (e at) (f at) =
          ap (bit_xor (get_or (sectors m) at 0)) (mended-at at below) ∙ xor_twice (get_or (sectors m) at 0) (chosen m (e at) (f at)) in (
            changed (p_weight roles) mended mended-whole at
                ∙ same_xor _ _ (sym (p_is roles is q has_q sectors at) ∙ takes.from_p ∙ ap (product (p_weight roles m)) (sym d)),
            changed (q_weight roles q) mended mended-whole at
                ∙ same_xor _ _ (sym (q_is roles is q has_q sectors at) ∙ takes.from_q ∙ ap (product (q_weight roles q m)) (sym d)),
          ));
    }

pub the-rule-is-exact : TheRuleIsExact
the-rule-is-exact roles q sectors role is has_q whole bad lt = record {
  found = found roles is q has_q sectors whole role lt bad;
  only = only roles is q has_q sectors whole role lt;
}
