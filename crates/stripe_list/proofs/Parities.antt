-- Any data have a parity: the row of these data and what the parity roles are filled with is good.
use Rattle.std.proofs.Common.{◌≡◌, inl, inr, ℕ, ◌<◌, Bool, true, false, not, cond, if◌then◌else◌, ◌==◌, eqb, eq-eqb, eqb-true, List, get_or, Option, Some, None, refl, sym, ap, ◌∙◌, subst, arith}
use Rattle.std.proofs.lemmas.Bool.{cases_lt, cases_eq}
use Rattle.std.proofs.lemmas.List.{get_or_past}
use Rattle.raid_layout.specs.raid_types_the_RowRoles.{RowRoles}
use Rattle.raid_layout.specs.raid_types_Search.{tabulate}
use Rattle.raid_layout.specs.raid_types_Sectors.{Sector}
use Rattle.raid_layout.proofs.raid_types_Tabulated.{length-tabulate, get_or-tabulate}
use Rattle.stripe_row.specs.raid_gf256_Field.{product, power_of_two}
use Rattle.stripe_row.proofs.raid_gf256_FieldLaws.{product-lt}
use Rattle.stripe_row.specs.raid_parity_Exponents.{is_data, is_q, exponent}
use Rattle.stripe_row.specs.raid_parity_Parity.{Row, data_sum, p_byte, q_byte, p_holds, q_holds_at, fill, AreEquationsMet}
use Rattle.stripe_row.specs.raid_parity_Rows.{IsRowRoles, IsSector, row_without, whole_row, filled_sector}
use Rattle.stripe_row.proofs.raid_parity_Totals.{total-lt}
use Rattle.stripe_row.proofs.raid_parity_Columns.{bool_cases, tabulate-same, weighed, weighed-is, data_sum-tabulate, data_sum-agrees, data_at_p, data_at_q, data_else, q_at, q_of}
use Rattle.stripe_row.proofs.raid_parity_Contents.{whole-good, q_from}
use Rattle.stripe_row.proofs.raid_parity_OwnFills.{fills-are-own}
use Rattle.stripe_row.specs.Writes.{is_parity, IsGoodRow}
use Rattle.stripe_row.proofs.NewRow.{parity_few}

-- ---- sums are bytes

module _ (roles : RowRoles) (f : ℕ → ℕ) (small : (r : ℕ) → r < roles.disks → is_data roles r ≡ true → f r < 256) where
  weighed-lt : (weight : ℕ → ℕ) (r : ℕ) → r < roles.disks → weighed weight roles f r < 256
  weighed-lt weight r lt = subst (λ (x : ℕ). x < 256) (sym (weighed-is weight roles f r)) (elim (bool_cases (is_data roles r)) [
    | inl here ↦ subst (λ (b : Bool). cond b (product (weight r) (f r)) 0 < 256) (sym here) (product-lt (weight r) (f r) (small r lt here))
    | inr other ↦ subst (λ (b : Bool). cond b (product (weight r) (f r)) 0 < 256) (sym other) (omega arith)
  ])

  sum-lt : (weight : ℕ → ℕ) → data_sum weight roles 0 (tabulate roles.disks f) < 256
  sum-lt weight = subst (λ (x : ℕ). x < 256) (sym (data_sum-tabulate weight roles roles.disks f)) (total-lt roles.disks (weighed weight roles f) (weighed-lt weight))

-- ---- the parity of given data

-- a sector of these bytes
of_bytes : (ℕ → ℕ) → Sector
of_bytes f = tabulate 512 f

byte-of : (f : ℕ → ℕ) (at : ℕ) → at < 512 → get_or (of_bytes f) at 0 ≡ f at
unfolding of_bytes
byte-of f at lt = get_or-tabulate 512 f at 0 lt

is_sector : (f : ℕ → ℕ) → ((at : ℕ) → f at < 256) → IsSector (of_bytes f)
unfolding of_bytes
is_sector f small = record {
  whole = length-tabulate 512 f;
  bytes = λ at. elim (cases_lt at 512) [
    | inl below ↦ subst (λ (x : ℕ). x < 256) (sym (get_or-tabulate 512 f at 0 below)) (small at)
    | inr past ↦ subst (λ (x : ℕ). x < 256) (sym (get_or_past (tabulate 512 f) at 0 (omega (arith, length-tabulate 512 f, past)))) (omega arith)
  ];
}

three : (d p : Bool) (x y z : Sector) → Sector
three d p x y z = if d then x else (if p then y else z)

three-first : (d p : Bool) (x y z : Sector) → d ≡ true → three d p x y z ≡ x
unfolding three
three-first true p x y z met = refl
three-first false p x y z met = absurd (cc)

three-second : (d p : Bool) (x y z : Sector) → d ≡ false → p ≡ true → three d p x y z ≡ y
unfolding three
three-second true p x y z plain met = absurd (cc)
three-second false true x y z plain met = refl
three-second false false x y z plain met = absurd (cc)

three-third : (d p : Bool) (x y z : Sector) → d ≡ false → p ≡ false → three d p x y z ≡ z
unfolding three
three-third true p x y z plain none = absurd (cc)
three-third false true x y z plain none = absurd (cc)
three-third false false x y z plain none = refl

one_of : (b : Bool) (x y : Sector) → (b ≡ false → x ≡ y) → ◌≡◌ {A = Option Sector} (if b then None else Some x) (if b then None else Some y)
one_of true x y same = refl
one_of false x y same = ap (λ s. Some s) (same refl)

chosen : (b : Bool) (x f s : Sector) → (b ≡ true → x ≡ f) → (b ≡ false → x ≡ s) → x ≡ (if b then f else s)
chosen true x f s met other = met refl
chosen false x f s met other = other refl

negated : (b : Bool) → not b ≡ false → b ≡ true
negated true is = refl
negated false is = absurd (cc)

module _ (roles : RowRoles) (valid : IsRowRoles roles) (base : ℕ → Sector) (whole : (r : ℕ) → r < roles.disks → is_data roles r ≡ true → IsSector (base r)) where
  abbrev column_at : ℕ → List ℕ
  column_at at = tabulate roles.disks (λ r. get_or (base r) at 0)

  small : (at r : ℕ) → r < roles.disks → is_data roles r ≡ true → get_or (base r) at 0 < 256
  small at r lt here = (whole r lt here).bytes at

  abbrev p_sector : Sector
  p_sector = of_bytes (λ at. p_byte roles (column_at at))

  abbrev q_sector : ℕ → Sector
  q_sector q = of_bytes (λ at. q_byte roles q (column_at at))

  -- the row with its parity, each byte of which is the sum that its equation says
  made : ℕ → Sector
  made r = three (is_data roles r) (r == roles.p) (base r) p_sector (q_sector r)

  made-data : (r : ℕ) → is_data roles r ≡ true → made r ≡ base r
  unfolding made
  made-data r here = three-first (is_data roles r) (r == roles.p) (base r) p_sector (q_sector r) here

  made-p : made roles.p ≡ p_sector
  unfolding made
  made-p = three-second (is_data roles roles.p) (roles.p == roles.p) (base roles.p) p_sector (q_sector roles.p) (data_at_p roles) (eq-eqb roles.p roles.p refl)

  made-q : (q : ℕ) → roles.q ≡ Some q → made q ≡ q_sector q
  unfolding made
  made-q q has = three-third (is_data roles q) (q == roles.p) (base q) p_sector (q_sector q) (data_at_q roles q (q_at roles q has)) (apart (eqb q roles.p) refl)
    where
      apart : (b : Bool) → eqb q roles.p ≡ b → eqb q roles.p ≡ false
      apart b is = elim (bool_cases (eqb q roles.p)) [
        | inl same ↦ absurd ((q_of roles valid q has).1 (eqb-true q roles.p same))
        | inr other ↦ other
      ]

  made-sector : (r : ℕ) → r < roles.disks → IsSector (made r)
  made-sector r lt = elim (bool_cases (is_data roles r)) [
    | inl here ↦ subst IsSector (sym (made-data r here)) (whole r lt here)
    | inr other ↦ elim (cases_eq r roles.p) [
      | inl p ↦ subst IsSector (sym (ap made p ∙ made-p)) (is_sector (λ at. p_byte roles (column_at at)) (λ at. sum-lt roles (λ r. get_or (base r) at 0) (small at) (λ role. 1)))
      | inr apart ↦ elim (bool_cases (is_q roles r)) [
        | inl q ↦ subst IsSector (sym (made-q r (q_from roles r q))) (is_sector (λ at. q_byte roles r (column_at at)) (λ at. sum-lt roles (λ r. get_or (base r) at 0) (small at) (λ role. power_of_two (exponent roles r role))))
        | inr none ↦ absurd (let e = data_else roles r apart none in cc)
      ]
    ]
  ]

  same_sum : (weight : ℕ → ℕ) (at : ℕ) → data_sum weight roles 0 (tabulate roles.disks (λ r. get_or (made r) at 0)) ≡ data_sum weight roles 0 (column_at at)
  same_sum weight at = data_sum-agrees weight roles roles.disks (λ r. get_or (made r) at 0) (λ r. get_or (base r) at 0) (λ r lt here. ap (λ (s : Sector). get_or s at 0) (made-data r here))

  p_met : (at : ℕ) → at < 512 → p_holds roles (tabulate roles.disks (λ r. get_or (made r) at 0)) ≡ true
  p_met at lt = eq-eqb (p_byte roles (tabulate roles.disks (λ r. get_or (made r) at 0))) (get_or (tabulate roles.disks (λ r. get_or (made r) at 0)) roles.p 0)
      (same_sum (λ role. 1) at
      ∙ sym (get_or-tabulate roles.disks (λ r. get_or (made r) at 0) roles.p 0 valid.p ∙ ap (λ (s : Sector). get_or s at 0) made-p ∙ byte-of (λ at. p_byte roles (column_at at)) at lt))

  q_met_at : (o : Option ℕ) → roles.q ≡ o → (at : ℕ) → at < 512 → q_holds_at roles (tabulate roles.disks (λ r. get_or (made r) at 0)) o ≡ true
  q_met_at None has at lt = refl
  q_met_at (Some q) has at lt = eq-eqb (q_byte roles q (tabulate roles.disks (λ r. get_or (made r) at 0))) (get_or (tabulate roles.disks (λ r. get_or (made r) at 0)) q 0)
      (same_sum (λ role. power_of_two (exponent roles q role)) at
      ∙ sym (get_or-tabulate roles.disks (λ r. get_or (made r) at 0) q 0 (q_of roles valid q has).0 ∙ ap (λ (s : Sector). get_or s at 0) (made-q q has) ∙ byte-of (λ at. q_byte roles q (column_at at)) at lt))

  made-good : AreEquationsMet roles (whole_row roles.disks made)
  made-good = whole-good roles roles.disks made p_met (q_met_at roles.q refl)

  -- which is what the parity roles are filled with
  made-is : (role : ℕ) → role < roles.disks → made role ≡ filled_sector roles (is_parity roles) roles.disks base role
  made-is role lt = chosen (is_parity roles role) (made role) (fill roles (row_without (is_parity roles) roles.disks base) role) (base role)
      (λ parity. sym (fills-are-own roles made (is_parity roles) role (record { valid = valid; whole = made-sector; good = made-good; tolerated = parity_few roles made }) lt)
      ∙ ap (λ (w : Row). fill roles w role) (tabulate-same roles.disks (λ r. if is_parity roles r then None else Some (made r)) (λ r. if is_parity roles r then None else Some (base r))
      (λ r l. one_of (is_parity roles r) (made r) (base r) (λ here. made-data r (negated (is_data roles r) here)))))
      (λ here. made-data role (negated (is_data roles role) here))

  pub filled-good : IsGoodRow roles (filled_sector roles (is_parity roles) roles.disks base)
  filled-good = record {
    valid = valid;
    whole = λ role lt. subst IsSector (made-is role lt) (made-sector role lt);
    good = subst (λ (w : Row). AreEquationsMet roles w)
        (tabulate-same roles.disks (λ r. Some (made r)) (λ r. Some (filled_sector roles (is_parity roles) roles.disks base r)) (λ r lt. ap (λ (s : Sector). Some s) (made-is r lt))) made-good;
  }

-- rows of the same data have the same parity
pub filled-same : (roles : RowRoles) (disks : ℕ) (one two : ℕ → Sector) → ((r : ℕ) → r < disks → is_parity roles r ≡ false → one r ≡ two r)
    → (role : ℕ) → role < disks → filled_sector roles (is_parity roles) disks one role ≡ filled_sector roles (is_parity roles) disks two role
filled-same roles disks one two same role lt = by (is_parity roles role) refl
  where
    row-same : row_without (is_parity roles) disks one ≡ row_without (is_parity roles) disks two
    row-same = tabulate-same disks (λ r. if is_parity roles r then None else Some (one r)) (λ r. if is_parity roles r then None else Some (two r)) (λ r l. one_of (is_parity roles r) (one r) (two r) (same r l))

    by : (b : Bool) → is_parity roles role ≡ b
        → (if b then fill roles (row_without (is_parity roles) disks one) role else one role) ≡ (if b then fill roles (row_without (is_parity roles) disks two) role else two role)
    by true is = ap (λ (w : Row). fill roles w role) row-same
    by false is = same role lt is
