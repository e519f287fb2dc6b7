-- The sums over the data roles whose exponents are this one or greater.
use Rattle.std.proofs.Common.{◌≡◌, ◌≢◌, ℕ, ◌+◌, ◌-◌, ◌<◌, ◌≤◌, inl, inr, true, false, cond, nat_lt, List, length, get_or, Some, refl, sym, ap, ◌∙◌, arith}
use Rattle.std.proofs.Math.ListN.{set}
use Rattle.std.proofs.lemmas.List.{get_or-set_same, get_or-set_other}
use Rattle.std.proofs.lemmas.Bool.{cases_eq}
use Rattle.std.proofs.lemmas.Bool.Decides.{nat_tests}
use Rattle.std.specs.Int.Bits.{bit_xor}
use Rattle.raid_parity.specs.raid_gf256_Field.{double, power_of_two}
use Rattle.raid_parity.specs.raid_types_Search.{tabulate}
use Rattle.raid_parity.specs.raid_types_the_RowRoles.{RowRoles}
use Rattle.raid_parity.specs.Exponents.{is_data, steps_behind, exponent}
use Rattle.raid_parity.specs.Parity.{data_sum}
use Rattle.raid_parity.specs.Rows.{IsRowRoles}
use Rattle.raid_parity.proofs.Totals.{total}
use Rattle.raid_parity.proofs.Columns.{q_of, q_not_at, data_at_p, data_else, data_sum-tabulate}
use Rattle.raid_parity.proofs.Walk.{steps_of_q, steps_after, steps_upto, steps-lt, steps-injective}
use Rattle.raid_parity.proofs.Parts.{plain_part, weighed_part, plain_start, weighed_start, plain_over_p, weighed_over_p, plain_over, weighed_over, plain_end, weighed_end}

-- one more place that holds what all before it hold
pub placed : (P : ℕ → ℕ → Type 0) (xs : List ℕ) (k x : ℕ) → k < length xs → ((j : ℕ) → j < k → P j (get_or xs j 0)) → P k x
    → (j : ℕ) → j < k + 1 → P j (get_or (set xs k x) j 0)
placed P xs k x lt before here j below = elim (cases_eq j k) [
  | inl same ↦ rw same (rw (get_or-set_same xs k x 0 lt) here)
  | inr ne ↦ rw (get_or-set_other xs k j x 0 ne) (before j (omega arith))
]

-- how many steps behind Q the data role of an exponent lies, where P lies p steps behind
abbrev pub steps_of : ℕ → ℕ → ℕ
steps_of p e = e + cond (nat_lt e p) 0 1

steps-is : (p s e : ℕ) → s ≢ p → s - cond (nat_lt p s) 1 0 ≡ e → s ≡ steps_of p e
steps-is p s e ne is = grind (arith, nat_tests)

steps_top : (p d : ℕ) → p + 1 < d → steps_of p (d - 2) ≡ d - 1
steps_top p d lt = grind (arith, nat_tests)

steps_next : (p e : ℕ) → steps_of p e + 1 ≢ p → steps_of p (e + 1) ≡ steps_of p e + 1
steps_next p e ne = grind (arith, nat_tests)

steps_next_p : (p e : ℕ) → steps_of p e + 1 ≡ p → steps_of p (e + 1) ≡ p + 1
steps_next_p p e is = grind (arith, nat_tests)

steps_last : (p : ℕ) → p ≢ 0 → steps_of p 0 ≡ 0
steps_last p ne = grind (arith, nat_tests)

steps_last_p : (p : ℕ) → p ≡ 0 → steps_of p 0 ≡ p + 1
steps_last_p p is = grind (arith, nat_tests)

steps_not_p : (p e : ℕ) → steps_of p e ≢ p
steps_not_p p e is = grind (arith, nat_tests)

steps_exponent : (p e : ℕ) → steps_of p e - cond (nat_lt p (steps_of p e)) 1 0 ≡ e
steps_exponent p e = grind (arith, nat_tests)

steps_within : (p e d : ℕ) → e + 2 < d → steps_of p e + 1 < d
steps_within p e d lt = grind (arith, nat_tests)

pub steps_later : (p e : ℕ) → p ≤ e → e + 1 ≡ steps_of p e
steps_later p e le = grind (arith, nat_tests)

pub steps_sooner : (p e : ℕ) → e < p → e ≡ steps_of p e
steps_sooner p e lt = grind (arith, nat_tests)

-- f at the data roles of this exponent or greater ones
pub plain_from : RowRoles → ℕ → (ℕ → ℕ) → ℕ → ℕ
plain_from roles q f e = total roles.disks (plain_part roles q f (steps_of (steps_behind roles q roles.p) e))

-- the same, each with the weight that it has by then
pub weighed_from : RowRoles → ℕ → (ℕ → ℕ) → ℕ → ℕ
weighed_from roles q f e = total roles.disks (weighed_part roles q f (steps_of (steps_behind roles q roles.p) e))

module _ (roles : RowRoles) (is : IsRowRoles roles) (q : ℕ) (has_q : roles.q ≡ Some q) where
  abbrev below : q < roles.disks
  below = (q_of roles is q has_q).0

  abbrev p_steps : ℕ
  p_steps = steps_behind roles q roles.p

  pub p_early : p_steps + 1 < roles.disks
  p_early =
      let lt : p_steps < roles.disks = steps-lt roles q below roles.p is.p in
      let apart : p_steps ≢ roles.disks - 1 = λ e.
      let same : roles.p ≡ q = steps-injective roles q below roles.p q is.p below (e ∙ sym (steps_of_q roles q below)) in
      (q_of roles is q has_q).1 (sym same) in
      omega arith

  steps_of_data : (m e : ℕ) → m < roles.disks → is_data roles m ≡ true → exponent roles q m ≡ e → steps_behind roles q m ≡ steps_of p_steps e
  steps_of_data m e lt data_m at_e =
      steps-is p_steps (steps_behind roles q m) e
      (λ same.
      let it : m ≡ roles.p = steps-injective roles q below m roles.p lt is.p same in
      let other : is_data roles m ≡ false = ap (is_data roles) it ∙ data_at_p roles in
      absurd (cc))
      at_e

  -- the role that lies so many steps behind Q
  module _ (e s : ℕ) (lt : e + 2 < roles.disks) (steps : s ≡ steps_of p_steps e) where
    pub forward : q + 1 + s < roles.disks → steps_behind roles q (q + 1 + s) ≡ s
    forward within = steps_after roles q below (q + 1 + s) within (omega arith) ∙ omega arith

    pub round : roles.disks ≤ q + 1 + s → steps_behind roles q (q + 1 + s - roles.disks) ≡ s
    round beyond =
        let near : s + 1 < roles.disks = rw steps (steps_within p_steps e roles.disks lt) in
        steps_upto roles q below (q + 1 + s - roles.disks) (omega arith) ∙ omega arith

    -- holds data, with this exponent
    pub role_holds_data : (r : ℕ) → steps_behind roles q r ≡ s → is_data roles r ≡ true
    role_holds_data r at_r =
        let near : s + 1 < roles.disks = rw steps (steps_within p_steps e roles.disks lt) in
        let not_p : r ≢ roles.p = λ same. steps_not_p p_steps e (sym steps ∙ sym at_r ∙ ap (λ (k : ℕ). steps_behind roles q k) same) in
        let not_q : r ≢ q = λ same.
        let top : s ≡ roles.disks - 1 = sym at_r ∙ ap (λ (k : ℕ). steps_behind roles q k) same ∙ steps_of_q roles q below in
        omega arith in
        data_else roles r not_p (q_not_at roles q r has_q not_q)

    pub role_exponent : (r : ℕ) → steps_behind roles q r ≡ s → exponent roles q r ≡ e
    role_exponent r at_r = ap (λ (k : ℕ). k - cond (nat_lt p_steps k) 1 0) (at_r ∙ steps) ∙ steps_exponent p_steps e

  module _ (f : ℕ → ℕ) where
    pub plain_first : plain_from roles q f (roles.disks - 2) ≡ 0
    unfolding plain_from
    plain_first = ap (λ (k : ℕ). total roles.disks (plain_part roles q f k)) (steps_top p_steps roles.disks p_early) ∙ plain_start roles is q has_q below f

    pub weighed_first : weighed_from roles q f (roles.disks - 2) ≡ 0
    unfolding weighed_from
    weighed_first = ap (λ (k : ℕ). total roles.disks (weighed_part roles q f k)) (steps_top p_steps roles.disks p_early) ∙ weighed_start roles is q has_q below f

    -- P between two of them does not count
    plain_between : (e : ℕ) → total roles.disks (plain_part roles q f (steps_of p_steps e + 1)) ≡ total roles.disks (plain_part roles q f (steps_of p_steps (e + 1)))
    plain_between e = elim (cases_eq (steps_of p_steps e + 1) p_steps) [
      | inl same ↦
          ap (λ (k : ℕ). total roles.disks (plain_part roles q f k)) same ∙ plain_over_p roles is q has_q below f p_steps refl
          ∙ ap (λ (k : ℕ). total roles.disks (plain_part roles q f k)) (sym (steps_next_p p_steps e same))
      | inr ne ↦ ap (λ (k : ℕ). total roles.disks (plain_part roles q f k)) (sym (steps_next p_steps e ne))
    ]

    weighed_between : (e : ℕ) → total roles.disks (weighed_part roles q f (steps_of p_steps e + 1)) ≡ total roles.disks (weighed_part roles q f (steps_of p_steps (e + 1)))
    weighed_between e = elim (cases_eq (steps_of p_steps e + 1) p_steps) [
      | inl same ↦
          ap (λ (k : ℕ). total roles.disks (weighed_part roles q f k)) same ∙ weighed_over_p roles is q has_q below f p_steps refl
          ∙ ap (λ (k : ℕ). total roles.disks (weighed_part roles q f k)) (sym (steps_next_p p_steps e same))
      | inr ne ↦ ap (λ (k : ℕ). total roles.disks (weighed_part roles q f k)) (sym (steps_next p_steps e ne))
    ]

    -- the data role of the next exponent
    pub plain_next : ((r : ℕ) → r < roles.disks → f r < 256) → (m e : ℕ) → m < roles.disks → is_data roles m ≡ true → exponent roles q m ≡ e
        → plain_from roles q f e ≡ bit_xor (plain_from roles q f (e + 1)) (f m)
    unfolding plain_from
    plain_next small m e lt data_m at_e =
        plain_over roles is q has_q below f small m (steps_of p_steps e) lt (steps_of_data m e lt data_m at_e) data_m
        ∙ ap (λ (x : ℕ). bit_xor x (f m)) (plain_between e)

    pub weighed_next : ((r : ℕ) → r < roles.disks → f r < 256) → (m e : ℕ) → m < roles.disks → is_data roles m ≡ true → exponent roles q m ≡ e
        → weighed_from roles q f e ≡ bit_xor (double (weighed_from roles q f (e + 1))) (f m)
    unfolding weighed_from
    weighed_next small m e lt data_m at_e =
        weighed_over roles is q has_q below f small m (steps_of p_steps e) lt (steps_of_data m e lt data_m at_e) data_m
        ∙ ap (λ (x : ℕ). bit_xor (double x) (f m)) (weighed_between e)

    -- all of them
    pub plain_last : plain_from roles q f 0 ≡ data_sum (λ role. 1) roles 0 (tabulate roles.disks f)
    unfolding plain_from
    plain_last =
        elim (cases_eq p_steps 0) [
          | inl same ↦
              ap (λ (k : ℕ). total roles.disks (plain_part roles q f k)) (steps_last_p p_steps same)
              ∙ sym (plain_over_p roles is q has_q below f p_steps refl) ∙ ap (λ (k : ℕ). total roles.disks (plain_part roles q f k)) same
          | inr ne ↦ ap (λ (k : ℕ). total roles.disks (plain_part roles q f k)) (steps_last p_steps ne)
        ]
        ∙ plain_end roles is q has_q below f ∙ sym (data_sum-tabulate (λ role. 1) roles roles.disks f)

    pub weighed_last : weighed_from roles q f 0 ≡ data_sum (λ role. power_of_two (exponent roles q role)) roles 0 (tabulate roles.disks f)
    unfolding weighed_from
    weighed_last =
        elim (cases_eq p_steps 0) [
          | inl same ↦
              ap (λ (k : ℕ). total roles.disks (weighed_part roles q f k)) (steps_last_p p_steps same)
              ∙ sym (weighed_over_p roles is q has_q below f p_steps refl) ∙ ap (λ (k : ℕ). total roles.disks (weighed_part roles q f k)) same
          | inr ne ↦ ap (λ (k : ℕ). total roles.disks (weighed_part roles q f k)) (steps_last p_steps ne)
        ]
        ∙ weighed_end roles is q has_q below f ∙ sym (data_sum-tabulate (λ role. power_of_two (exponent roles q role)) roles roles.disks f)
