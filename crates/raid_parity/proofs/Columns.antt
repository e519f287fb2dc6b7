-- Columns as functions of the role, and the equations of a row as sums over all roles.
use Rattle.std.proofs.Common.{◌≡◌, ◌≢◌, ℕ, zero, suc, ◌+◌, ◌<◌, ◌⊎◌, inl, inr, Bool, true, false, cond, eqb, eq-eqb, ne_eqb, eqb-true, not, ◌&&◌, List, [], ◌∷◌, ◌++◌, length, map, set, get_or, Some, None, Option, refl, sym, ap, ap₂, ◌∙◌, arith, length-set, get_or-set_same, get_or-set_other, add-zero}
use Rattle.std.proofs.lemmas.Bool.{cases_eq}
use Rattle.std.proofs.lemmas.List.{ext_get_or, map-append}
use Rattle.std.specs.Int.Bits.{bit_xor, xor_assoc, xor_zero_l, xor_zero_r}
use Rattle.raid_gf256.specs.Field.{product, power_of_two}
use Rattle.raid_gf256.proofs.FieldLaws.{product-one_l, product-zero_l, product-zero_r}
use Rattle.raid_types.specs.declared.places.RowRoles.{RowRoles}
use Rattle.raid_types.specs.Search.{tabulate}
use Rattle.raid_types.proofs.Tabulated.{length-tabulate, get_or-tabulate}
use Rattle.raid_parity.specs.Exponents.{is_this_q, is_q, is_data, exponent}
use Rattle.raid_parity.specs.Parity.{data_sum, p_holds, q_holds, q_holds_at}
use Rattle.raid_parity.specs.Rows.{IsRowRoles, p_weight, q_weight}
use Rattle.raid_parity.proofs.Totals.{total, total-suc, total-none, total-same, total-add, total-alone, total-put, put, put-same, put-other, xor_same, same_xor}

pub bool_cases : (b : Bool) → (b ≡ true) ⊎ (b ≡ false)
bool_cases true = inl refl
bool_cases false = inr refl

-- ---- tabulated lists

pub tabulate-same : {X : Type 0} (n : ℕ) (f g : ℕ → X) → ((r : ℕ) → r < n → f r ≡ g r) → tabulate n f ≡ tabulate n g
unfolding tabulate
tabulate-same zero f g same = refl
tabulate-same (suc n) f g same =
    ap₂ (λ xs x. xs ++ x ∷ []) (tabulate-same n f g (λ r lt. same r (omega arith))) (same n (omega arith))

pub map-tabulate : {X Y : Type 0} (h : X → Y) (n : ℕ) (f : ℕ → X) → map h (tabulate n f) ≡ tabulate n (λ r. h (f r))
unfolding tabulate
map-tabulate h zero f = refl
map-tabulate h (suc n) f = map-append h (tabulate n f) (f n ∷ []) ∙ ap (λ xs. xs ++ h (f n) ∷ []) (map-tabulate h n f)

pub set-tabulate : (n m x : ℕ) (f : ℕ → ℕ) → m < n → set (tabulate n f) m x ≡ tabulate n (put f m x)
set-tabulate n m x f lt =
    let len : length (set (tabulate n f) m x) ≡ n = length-set (tabulate n f) m x ∙ length-tabulate n f in
    ext_get_or 0 (set (tabulate n f) m x) (tabulate n (put f m x)) (len ∙ sym (length-tabulate n (put f m x))) (λ r l.
    let below : r < n = omega (arith, len, l) in
    let there : m < length (tabulate n f) = omega (arith, length-tabulate n f, lt) in
    elim (cases_eq r m) [
      | inl e ↦ ap (λ k. get_or (set (tabulate n f) m x) k 0) e ∙ get_or-set_same (tabulate n f) m x 0 there
          ∙ sym (get_or-tabulate n (put f m x) r 0 below ∙ ap (put f m x) e ∙ put-same f m x)
      | inr ne ↦ get_or-set_other (tabulate n f) m r x 0 ne ∙ get_or-tabulate n f r 0 below
          ∙ sym (get_or-tabulate n (put f m x) r 0 below ∙ put-other f m x r ne)
    ])

-- ---- the sum of the data

pub weighed : (ℕ → ℕ) → RowRoles → (ℕ → ℕ) → ℕ → ℕ
weighed weight roles f r = cond (is_data roles r) (product (weight r) (f r)) 0

pub weighed-is : (weight : ℕ → ℕ) (roles : RowRoles) (f : ℕ → ℕ) (r : ℕ) → weighed weight roles f r ≡ cond (is_data roles r) (product (weight r) (f r)) 0
unfolding weighed
weighed-is weight roles f r = refl

data_sum-snoc : (weight : ℕ → ℕ) (roles : RowRoles) (role : ℕ) (xs : List ℕ) (y : ℕ)
    → data_sum weight roles role (xs ++ y ∷ [])
    ≡ bit_xor (data_sum weight roles role xs) (cond (is_data roles (role + length xs)) (product (weight (role + length xs)) y) 0)
data_sum-snoc weight roles role [] y =
    xor_zero_r (cond (is_data roles role) (product (weight role) y) 0)
    ∙ sym (xor_zero_l (cond (is_data roles (role + 0)) (product (weight (role + 0)) y) 0)
    ∙ ap (λ k. cond (is_data roles k) (product (weight k) y) 0) (add-zero role))
data_sum-snoc weight roles role (x ∷ xs) y =
    let place : role + 1 + length xs ≡ role + length (x ∷ xs) = omega arith in
    ap (bit_xor (cond (is_data roles role) (product (weight role) x) 0))
    (data_sum-snoc weight roles (role + 1) xs y
    ∙ ap (λ k. bit_xor (data_sum weight roles (role + 1) xs) (cond (is_data roles k) (product (weight k) y) 0)) place)
    ∙ sym (xor_assoc (cond (is_data roles role) (product (weight role) x) 0) (data_sum weight roles (role + 1) xs)
    (cond (is_data roles (role + length (x ∷ xs))) (product (weight (role + length (x ∷ xs))) y) 0))

pub data_sum-tabulate : (weight : ℕ → ℕ) (roles : RowRoles) (n : ℕ) (f : ℕ → ℕ)
    → data_sum weight roles 0 (tabulate n f) ≡ total n (weighed weight roles f)
unfolding tabulate weighed
data_sum-tabulate weight roles zero f = sym (total-none (weighed weight roles f))
data_sum-tabulate weight roles (suc n) f =
    let place : 0 + length (tabulate n f) ≡ n = omega (arith, length-tabulate n f) in
    data_sum-snoc weight roles 0 (tabulate n f) (f n)
    ∙ ap (λ k. bit_xor (data_sum weight roles 0 (tabulate n f)) (cond (is_data roles k) (product (weight k) (f n)) 0)) place
    ∙ ap (λ x. bit_xor x (weighed weight roles f n)) (data_sum-tabulate weight roles n f)
    ∙ sym (total-suc n (weighed weight roles f))

-- only the data count
pub data_sum-agrees : (weight : ℕ → ℕ) (roles : RowRoles) (n : ℕ) (f g : ℕ → ℕ) → ((r : ℕ) → r < n → is_data roles r ≡ true → f r ≡ g r)
    → data_sum weight roles 0 (tabulate n f) ≡ data_sum weight roles 0 (tabulate n g)
unfolding weighed
data_sum-agrees weight roles n f g same =
    data_sum-tabulate weight roles n f
    ∙ total-same n (weighed weight roles f) (weighed weight roles g) (λ r lt. elim (bool_cases (is_data roles r)) [
      | inl data_role ↦ ap (λ x. cond (is_data roles r) (product (weight r) x) 0) (same r lt data_role)
      | inr other ↦ ap (λ b. cond b (product (weight r) (f r)) 0) other ∙ sym (ap (λ b. cond b (product (weight r) (g r)) 0) other)
    ])
    ∙ sym (data_sum-tabulate weight roles n g)

-- one role more
pub total-more : (n : ℕ) (f : ℕ → ℕ) → total (n + 1) f ≡ bit_xor (total n f) (f n)
total-more n f = let e : n + 1 ≡ suc n = omega arith in ap (λ k. total k f) e ∙ total-suc n f

pub total-data : (n : ℕ) (roles : RowRoles) (f : ℕ → ℕ) → is_data roles n ≡ true
    → total (n + 1) (weighed (λ r. 1) roles f) ≡ bit_xor (total n (weighed (λ r. 1) roles f)) (f n)
unfolding weighed
total-data n roles f data_role =
    total-more n (weighed (λ r. 1) roles f)
    ∙ ap (bit_xor (total n (weighed (λ r. 1) roles f))) (ap (λ b. cond b (product 1 (f n)) 0) data_role ∙ product-one_l (f n))

pub total-other : (n : ℕ) (roles : RowRoles) (f : ℕ → ℕ) → is_data roles n ≡ false
    → total (n + 1) (weighed (λ r. 1) roles f) ≡ total n (weighed (λ r. 1) roles f)
unfolding weighed
total-other n roles f other =
    total-more n (weighed (λ r. 1) roles f)
    ∙ ap (λ b. bit_xor (total n (weighed (λ r. 1) roles f)) (cond b (product 1 (f n)) 0)) other
    ∙ xor_zero_r (total n (weighed (λ r. 1) roles f))

-- ---- which roles are data

pub data_at_p : (roles : RowRoles) → is_data roles roles.p ≡ false
data_at_p roles = ap (λ b. not b && not (is_q roles roles.p)) (eq-eqb roles.p roles.p refl)

and_no : (b : Bool) → (b && false) ≡ false
and_no true = refl
and_no false = refl

pub data_at_q : (roles : RowRoles) (r : ℕ) → is_q roles r ≡ true → is_data roles r ≡ false
data_at_q roles r e = ap (λ b. not (eqb r roles.p) && not b) e ∙ and_no (not (eqb r roles.p))

pub data_else : (roles : RowRoles) (r : ℕ) → r ≢ roles.p → is_q roles r ≡ false → is_data roles r ≡ true
data_else roles r ne e = ap₂ (λ a b. not a && not b) (ne_eqb r roles.p ne) e

pub q_is : (roles : RowRoles) (q r : ℕ) → roles.q ≡ Some q → is_q roles r ≡ eqb q r
q_is roles q r e = ap (λ o. is_this_q o r) e

pub q_at : (roles : RowRoles) (q : ℕ) → roles.q ≡ Some q → is_q roles q ≡ true
q_at roles q e = q_is roles q q e ∙ eq-eqb q q refl

pub q_not_at : (roles : RowRoles) (q r : ℕ) → roles.q ≡ Some q → r ≢ q → is_q roles r ≡ false
q_not_at roles q r e ne = q_is roles q r e ∙ ne_eqb q r (λ same. ne (sym same))

pub q_of : (roles : RowRoles) → IsRowRoles roles → (q : ℕ) → roles.q ≡ Some q → (q < roles.disks) × (q ≢ roles.p)
q_of roles is q e = rw e at is.q

q_not_p_in : (p : ℕ) (o : Option ℕ) → ((q : ℕ) → o ≡ Some q → q ≢ p) → is_this_q o p ≡ false
q_not_p_in p None apart = refl
q_not_p_in p (Some q) apart = ne_eqb q p (apart q refl)

pub q_not_p : (roles : RowRoles) → IsRowRoles roles → is_q roles roles.p ≡ false
q_not_p roles is = q_not_p_in roles.p roles.q (λ q e. (q_of roles is q e).1)

-- ---- the equations as sums over all roles

abbrev pub rest : ℕ → (ℕ → ℕ) → (ℕ → ℕ) → ℕ
rest n weight f = total n (λ r. product (weight r) (f r))

pub rest-put : (n m x : ℕ) (weight f : ℕ → ℕ) → m < n → f m ≡ 0
    → rest n weight (put f m x) ≡ bit_xor (rest n weight f) (product (weight m) x)
rest-put n m x weight f lt nothing =
    total-same n (λ r. product (weight r) (put f m x r)) (put (λ r. product (weight r) (f r)) m (product (weight m) x)) (λ r l. elim (cases_eq r m) [
      | inl e ↦ rw e (ap (product (weight m)) (put-same f m x) ∙ sym (put-same (λ r. product (weight r) (f r)) m (product (weight m) x)))
      | inr ne ↦ ap (product (weight r)) (put-other f m x r ne) ∙ sym (put-other (λ r. product (weight r) (f r)) m (product (weight m) x) r ne)
    ])
    ∙ total-put n m (product (weight m) x) (λ r. product (weight r) (f r)) lt (ap (product (weight m)) nothing ∙ product-zero_r (weight m))

module _ (roles : RowRoles) (is : IsRowRoles roles) (f : ℕ → ℕ) where
  p_term : (r : ℕ) → bit_xor (weighed (λ role. 1) roles f r) (put (λ k. 0) roles.p (f roles.p) r) ≡ product (p_weight roles r) (f r)
  unfolding weighed
  p_term r =
      elim (cases_eq r roles.p) [
        | inl e ↦ rw e (ap₂ (λ b x. bit_xor (cond b (product 1 (f roles.p)) 0) x) (data_at_p roles) (put-same (λ k. 0) roles.p (f roles.p))
            ∙ xor_zero_l (f roles.p) ∙ sym (ap (λ b. product (cond b 0 1) (f roles.p)) (q_not_p roles is) ∙ product-one_l (f roles.p)))
        | inr ne ↦ ap (bit_xor (cond (is_data roles r) (product 1 (f r)) 0)) (put-other (λ k. 0) roles.p (f roles.p) r ne)
            ∙ xor_zero_r (cond (is_data roles r) (product 1 (f r)) 0)
            ∙ elim (bool_cases (is_q roles r)) [
              | inl here ↦ ap (λ b. cond b (product 1 (f r)) 0) (data_at_q roles r here) ∙ sym (ap (λ b. product (cond b 0 1) (f r)) here ∙ product-zero_l (f r))
              | inr not_q ↦ ap (λ b. cond b (product 1 (f r)) 0) (data_else roles r ne not_q) ∙ sym (ap (λ b. product (cond b 0 1) (f r)) not_q)
            ]
      ]

  -- with P's byte added, the sum of the data is that over all roles
  pub p_rest : bit_xor (data_sum (λ role. 1) roles 0 (tabulate roles.disks f)) (f roles.p) ≡ rest roles.disks (p_weight roles) f
  p_rest =
      ap₂ bit_xor (data_sum-tabulate (λ role. 1) roles roles.disks f)
      (sym (total-alone roles.disks roles.p (put (λ k. 0) roles.p (f roles.p)) is.p (λ r l ne. put-other (λ k. 0) roles.p (f roles.p) r ne) ∙ put-same (λ k. 0) roles.p (f roles.p)))
      ∙ sym (total-add roles.disks (weighed (λ role. 1) roles f) (put (λ k. 0) roles.p (f roles.p)))
      ∙ total-same roles.disks _ _ (λ r l. p_term r)

  pub p_holds-gives : p_holds roles (tabulate roles.disks f) ≡ true → rest roles.disks (p_weight roles) f ≡ 0
  p_holds-gives h =
      sym p_rest ∙ same_xor _ _ (eqb-true (data_sum (λ role. 1) roles 0 (tabulate roles.disks f)) (get_or (tabulate roles.disks f) roles.p 0) h
      ∙ get_or-tabulate roles.disks f roles.p 0 is.p)

  pub p_holds-from : rest roles.disks (p_weight roles) f ≡ 0 → p_holds roles (tabulate roles.disks f) ≡ true
  p_holds-from e =
      eq-eqb (data_sum (λ role. 1) roles 0 (tabulate roles.disks f)) (get_or (tabulate roles.disks f) roles.p 0)
      (xor_same _ _ (p_rest ∙ e) ∙ sym (get_or-tabulate roles.disks f roles.p 0 is.p))

  module _ (q : ℕ) (has_q : roles.q ≡ Some q) where
    q_term : (r : ℕ) → bit_xor (weighed (λ role. power_of_two (exponent roles q role)) roles f r) (put (λ k. 0) q (f q) r) ≡ product (q_weight roles q r) (f r)
    unfolding weighed
    q_term r =
        let apart : q ≢ roles.p = (q_of roles is q has_q).1 in
        elim (cases_eq r roles.p) [
          | inl e ↦
              let other : r ≢ q = λ same. apart (sym same ∙ e) in
              ap₂ (λ b x. bit_xor (cond b (product (power_of_two (exponent roles q r)) (f r)) 0) x) (ap (is_data roles) e ∙ data_at_p roles) (put-other (λ k. 0) q (f q) r other)
              ∙ sym (ap (λ b. product (cond b 0 (cond (eqb r q) 1 (power_of_two (exponent roles q r)))) (f r)) (eq-eqb r roles.p e) ∙ product-zero_l (f r))
          | inr ne ↦ elim (cases_eq r q) [
            | inl same ↦
                ap₂ (λ b x. bit_xor (cond b (product (power_of_two (exponent roles q r)) (f r)) 0) x)
                (data_at_q roles r (ap (is_q roles) same ∙ q_at roles q has_q)) (ap (put (λ k. 0) q (f q)) same ∙ put-same (λ k. 0) q (f q))
                ∙ xor_zero_l (f q) ∙ ap f (sym same)
                ∙ sym (ap₂ (λ a b. product (cond a 0 (cond b 1 (power_of_two (exponent roles q r)))) (f r)) (ne_eqb r roles.p ne) (eq-eqb r q same) ∙ product-one_l (f r))
            | inr other ↦
                ap₂ (λ b x. bit_xor (cond b (product (power_of_two (exponent roles q r)) (f r)) 0) x)
                (data_else roles r ne (q_not_at roles q r has_q other)) (put-other (λ k. 0) q (f q) r other)
                ∙ xor_zero_r (product (power_of_two (exponent roles q r)) (f r))
                ∙ sym (ap₂ (λ a b. product (cond a 0 (cond b 1 (power_of_two (exponent roles q r)))) (f r)) (ne_eqb r roles.p ne) (ne_eqb r q other))
          ]
        ]

    -- the same for Q, whose weights are powers of two
    pub q_rest : bit_xor (data_sum (λ role. power_of_two (exponent roles q role)) roles 0 (tabulate roles.disks f)) (f q) ≡ rest roles.disks (q_weight roles q) f
    q_rest =
        ap₂ bit_xor (data_sum-tabulate (λ role. power_of_two (exponent roles q role)) roles roles.disks f)
        (sym (total-alone roles.disks q (put (λ k. 0) q (f q)) (q_of roles is q has_q).0 (λ r l ne. put-other (λ k. 0) q (f q) r ne) ∙ put-same (λ k. 0) q (f q)))
        ∙ sym (total-add roles.disks (weighed (λ role. power_of_two (exponent roles q role)) roles f) (put (λ k. 0) q (f q)))
        ∙ total-same roles.disks _ _ (λ r l. q_term r)

    pub q_holds-gives : q_holds roles (tabulate roles.disks f) ≡ true → rest roles.disks (q_weight roles q) f ≡ 0
    q_holds-gives h =
        let at : q_holds_at roles (tabulate roles.disks f) (Some q) ≡ true = ap (q_holds_at roles (tabulate roles.disks f)) (sym has_q) ∙ h in
        sym q_rest ∙ same_xor _ _ (eqb-true (data_sum (λ role. power_of_two (exponent roles q role)) roles 0 (tabulate roles.disks f)) (get_or (tabulate roles.disks f) q 0) at
        ∙ get_or-tabulate roles.disks f q 0 (q_of roles is q has_q).0)

    pub q_holds-from : rest roles.disks (q_weight roles q) f ≡ 0 → q_holds roles (tabulate roles.disks f) ≡ true
    q_holds-from e =
        ap (q_holds_at roles (tabulate roles.disks f)) has_q
        ∙ eq-eqb (data_sum (λ role. power_of_two (exponent roles q role)) roles 0 (tabulate roles.disks f)) (get_or (tabulate roles.disks f) q 0)
        (xor_same _ _ (q_rest ∙ e) ∙ sym (get_or-tabulate roles.disks f q 0 (q_of roles is q has_q).0))
