-- The lacking bytes of a column: where a column has the held bytes and meets the equations, it is what the held ones
-- are filled to.
use Rattle.std.proofs.Common.{◌≡◌, ◌≢◌, ℕ, ◌+◌, ◌-◌, ◌*◌, ◌/◌, ◌%◌, ◌^◌, ◌<◌, ◌≤◌, inl, inr, Bool, true, false, cond, eqb, eq-eqb, ne_eqb, ◌&&◌, nat_lt, [], ◌∷◌, length, set, Some, refl, sym, ap, ap₂, ◌∙◌, arith}
use Rattle.std.proofs.lemmas.Bool.{cases_eq, and_parts}
use Rattle.std.specs.Int.Bits.{bit_xor, xor_comm, xor_assoc, xor_zero_l, xor_zero_r}
use Rattle.raid_gf256.specs.Field.{product, power_of_two}
use Rattle.raid_gf256.proofs.FieldLaws.{product-one_l, product-zero_l, product-zero_r, power-lt, power_pos, power-injective, inverse, inverse-lt, product-inverse, zero_or_more}
use Rattle.raid_types.specs.declared.places.RowRoles.{RowRoles}
use Rattle.raid_types.specs.Search.{tabulate}
use Rattle.raid_parity.specs.Exponents.{is_q, steps_behind, exponent}
use Rattle.raid_parity.specs.Parity.{p_holds, q_holds, fits, with_digits, filled}
use Rattle.raid_parity.specs.Rows.{IsRowRoles, p_weight, q_weight}
use Rattle.raid_parity.proofs.FilledLaws.{filled-only}
use Rattle.raid_parity.proofs.Totals.{total-same, put, put-same, put-other, xor_same}
use Rattle.raid_parity.proofs.Columns.{tabulate-same, set-tabulate, rest, rest-put, p_holds-gives, p_holds-from, q_holds-gives, q_holds-from, q_of, q_at, q_not_at, q_not_p}
use Rattle.raid_parity.proofs.Solving.{determinant, determinant-is, determinant-lt, determinant-swap, first_is}
use Rattle.raid_parity.proofs.Walk.{steps-injective, steps-lt}
use Rattle.raid_parity.proofs.Parts.{after_injective}

-- ---- one role

digit : (n m k : ℕ) (f : ℕ → ℕ) → m < n → k < 256 → with_digits (m ∷ []) k (tabulate n f) ≡ tabulate n (put f m k)
digit n m k f lt small =
    let e : k % 256 ≡ k = omega arith in
    ap (λ x. set (tabulate n f) m x) e ∙ set-tabulate n m k f lt

pub put_agrees : (n m : ℕ) (f g : ℕ → ℕ) → ((r : ℕ) → r < n → r ≢ m → g r ≡ f r) → (r : ℕ) → r < n → put f m (g m) r ≡ g r
put_agrees n m f g same r lt = elim (cases_eq r m) [
  | inl e ↦ rw e (put-same f m (g m))
  | inr ne ↦ put-other f m (g m) r ne ∙ sym (same r lt ne)
]

pub filled_one : (roles : RowRoles) (n m : ℕ) (weight f g : ℕ → ℕ) → m < n → f m ≡ 0 → g m < 256
    → ((r : ℕ) → r < n → r ≢ m → g r ≡ f r) → weight m ≡ 1
    → ((h : ℕ → ℕ) → fits roles (m ∷ []) (tabulate n h) ≡ true → rest n weight h ≡ 0)
    → ((h : ℕ → ℕ) → rest n weight h ≡ 0 → fits roles (m ∷ []) (tabulate n h) ≡ true)
    → rest n weight g ≡ 0 → filled roles (m ∷ []) (tabulate n f) ≡ tabulate n g
filled_one roles n m weight f g lt nothing small same unit gives from meets =
    filled-only roles (m ∷ []) (tabulate n f) (g m) small
    (ap (fits roles (m ∷ [])) digits ∙ from g meets)
    (λ k less fit. alone k less (gives (put f m k) (ap (fits roles (m ∷ [])) (sym (digit n m k f lt less)) ∙ fit)))
    ∙ digits
  where
    agrees : (r : ℕ) → r < n → put f m (g m) r ≡ g r
    agrees = put_agrees n m f g same

    digits : with_digits (m ∷ []) (g m) (tabulate n f) ≡ tabulate n g
    digits = digit n m (g m) f lt small ∙ tabulate-same n (put f m (g m)) g agrees

    with_value : (x : ℕ) → rest n weight (put f m x) ≡ bit_xor (rest n weight f) x
    with_value x = rest-put n m x weight f lt nothing ∙ ap (bit_xor (rest n weight f)) (ap (λ u. product u x) unit ∙ product-one_l x)

    own : rest n weight f ≡ g m
    own = xor_same (rest n weight f) (g m) (sym (with_value (g m)) ∙ total-same n (λ r. product (weight r) (put f m (g m) r)) (λ r. product (weight r) (g r)) (λ r l. ap (product (weight r)) (agrees r l)) ∙ meets)

    alone : (k : ℕ) → k < 256 → rest n weight (put f m k) ≡ 0 → k ≡ g m
    alone k less zero_rest = sym (xor_same (rest n weight f) k (sym (with_value k) ∙ zero_rest)) ∙ own

-- ---- two roles

pub digits_two : (n a b k : ℕ) (f : ℕ → ℕ) → a < n → b < n → with_digits (a ∷ b ∷ []) k (tabulate n f) ≡ tabulate n (put (put f a (k % 256)) b (k / 256 % 256))
digits_two n a b k f ha hb =
    ap (λ c. set c b (k / 256 % 256)) (set-tabulate n a (k % 256) f ha) ∙ set-tabulate n b (k / 256 % 256) (put f a (k % 256)) hb

pub puts_agree : (n a b : ℕ) (f g : ℕ → ℕ) → ((r : ℕ) → r < n → r ≢ a → r ≢ b → g r ≡ f r) → (r : ℕ) → r < n → put (put f a (g a)) b (g b) r ≡ g r
puts_agree n a b f g same r lt = elim (cases_eq r b) [
  | inl e ↦ rw e (put-same (put f a (g a)) b (g b))
  | inr nb ↦ put-other (put f a (g a)) b (g b) r nb ∙ elim (cases_eq r a) [
    | inl e ↦ rw e (put-same f a (g a))
    | inr na ↦ put-other f a (g a) r na ∙ sym (same r lt na nb)
  ]
]

pub with_two : (n a b x y : ℕ) (weight f : ℕ → ℕ) → a < n → b < n → a ≢ b → f a ≡ 0 → f b ≡ 0
    → rest n weight (put (put f a x) b y) ≡ bit_xor (rest n weight f) (bit_xor (product (weight a) x) (product (weight b) y))
with_two n a b x y weight f ha hb ne za zb =
    rest-put n b y weight (put f a x) hb (put-other f a x b (λ e. ne (sym e)) ∙ zb)
    ∙ ap (λ u. bit_xor u (product (weight b) y)) (rest-put n a x weight f ha za)
    ∙ xor_assoc (rest n weight f) (product (weight a) x) (product (weight b) y)

pub p_weight-lt : (roles : RowRoles) (r : ℕ) → p_weight roles r < 256
p_weight-lt roles r = cond_lt (is_q roles r)
  where
    cond_lt : (b : Bool) → cond b 0 1 < 256
    cond_lt true = omega arith
    cond_lt false = omega arith

pub q_weight-lt : (roles : RowRoles) (q r : ℕ) → q_weight roles q r < 256
q_weight-lt roles q r = cond_lt (eqb r roles.p) (eqb r q) (power_of_two (exponent roles q r)) (power-lt (exponent roles q r))
  where
    cond_lt : (b c : Bool) (x : ℕ) → x < 256 → cond b 0 (cond c 1 x) < 256
    cond_lt true c x h = omega arith
    cond_lt false true x h = omega arith
    cond_lt false false x h = h

module _ (roles : RowRoles) (is : IsRowRoles roles) (q : ℕ) (has_q : roles.q ≡ Some q) where
  abbrev pub det : ℕ → ℕ → ℕ
  det a b = determinant (p_weight roles a) (p_weight roles b) (q_weight roles q a) (q_weight roles q b)

  module _ (a b : ℕ) (f g : ℕ → ℕ) (ha : a < roles.disks) (hb : b < roles.disks) (ne : a ≢ b) (solvable : 0 < det a b) (za : f a ≡ 0) (zb : f b ≡ 0)
      (small_a : g a < 256) (small_b : g b < 256) (same : (r : ℕ) → r < roles.disks → r ≢ a → r ≢ b → g r ≡ f r)
      (meets_p : rest roles.disks (p_weight roles) g ≡ 0) (meets_q : rest roles.disks (q_weight roles q) g ≡ 0) where
    abbrev n : ℕ
    n = roles.disks

    abbrev whole : ℕ
    whole = g a + 256 * g b

    whole_small : whole < 256 ^ length (a ∷ b ∷ [])
    whole_small = omega arith

    low : whole % 256 ≡ g a
    low = omega arith

    high : whole / 256 % 256 ≡ g b
    high = omega arith

    agrees : (r : ℕ) → r < n → put (put f a (g a)) b (g b) r ≡ g r
    agrees = puts_agree n a b f g same

    digits : with_digits (a ∷ b ∷ []) whole (tabulate n f) ≡ tabulate n g
    digits = digits_two n a b whole f ha hb ∙ ap₂ (λ x y. tabulate n (put (put f a x) b y)) low high ∙ tabulate-same n (put (put f a (g a)) b (g b)) g agrees

    sums : (weight : ℕ → ℕ) (x y : ℕ) → rest n weight (put (put f a x) b y) ≡ 0 → bit_xor (product (weight a) x) (product (weight b) y) ≡ rest n weight f
    sums weight x y e = sym (xor_same (rest n weight f) (bit_xor (product (weight a) x) (product (weight b) y)) (sym (with_two n a b x y weight f ha hb ne za zb) ∙ e))

    own : (weight : ℕ → ℕ) → rest n weight g ≡ 0 → bit_xor (product (weight a) (g a)) (product (weight b) (g b)) ≡ rest n weight f
    own weight e = sums weight (g a) (g b) (total-same n (λ r. product (weight r) (put (put f a (g a)) b (g b) r)) (λ r. product (weight r) (g r)) (λ r l. ap (product (weight r)) (agrees r l)) ∙ e)

    abbrev over : ℕ
    over = inverse (det a b)

    takes_back : product (det a b) over ≡ 1
    takes_back = product-inverse (det a b) (determinant-lt (p_weight roles a) (p_weight roles b) (q_weight roles q a) (q_weight roles q b) (q_weight-lt roles q a) (q_weight-lt roles q b)) solvable

    first_alone : (x y : ℕ) → x < 256 → y < 256 → bit_xor (product (p_weight roles a) x) (product (p_weight roles b) y) ≡ rest n (p_weight roles) f
        → bit_xor (product (q_weight roles q a) x) (product (q_weight roles q b) y) ≡ rest n (q_weight roles q) f
        → x ≡ product over (bit_xor (product (q_weight roles q b) (rest n (p_weight roles) f)) (product (p_weight roles b) (rest n (q_weight roles q) f)))
    first_alone x y hx hy plain weighed =
        first_is (p_weight roles a) (p_weight roles b) (q_weight roles q a) (q_weight roles q b) (p_weight-lt roles a) (p_weight-lt roles b) (q_weight-lt roles q a) (q_weight-lt roles q b)
        over x y (rest n (p_weight roles) f) (rest n (q_weight roles q) f) (inverse-lt (det a b)) hx hy takes_back plain weighed

    second_alone : (x y : ℕ) → x < 256 → y < 256 → bit_xor (product (p_weight roles a) x) (product (p_weight roles b) y) ≡ rest n (p_weight roles) f
        → bit_xor (product (q_weight roles q a) x) (product (q_weight roles q b) y) ≡ rest n (q_weight roles q) f
        → y ≡ product over (bit_xor (product (q_weight roles q a) (rest n (p_weight roles) f)) (product (p_weight roles a) (rest n (q_weight roles q) f)))
    second_alone x y hx hy plain weighed =
        first_is (p_weight roles b) (p_weight roles a) (q_weight roles q b) (q_weight roles q a) (p_weight-lt roles b) (p_weight-lt roles a) (q_weight-lt roles q b) (q_weight-lt roles q a)
        over y x (rest n (p_weight roles) f) (rest n (q_weight roles q) f) (inverse-lt (det a b)) hy hx
        (ap (λ d. product d over) (determinant-swap (p_weight roles a) (p_weight roles b) (q_weight roles q a) (q_weight roles q b)) ∙ takes_back)
        (xor_comm (product (p_weight roles b) y) (product (p_weight roles a) x) ∙ plain)
        (xor_comm (product (q_weight roles q b) y) (product (q_weight roles q a) x) ∙ weighed)

    alone : (k : ℕ) → k < 256 ^ length (a ∷ b ∷ [])
        → (p_holds roles (tabulate n (put (put f a (k % 256)) b (k / 256 % 256))) ≡ true) × (q_holds roles (tabulate n (put (put f a (k % 256)) b (k / 256 % 256))) ≡ true)
        → k ≡ whole
    alone k less both =
        let plain = sums (p_weight roles) (k % 256) (k / 256 % 256) (p_holds-gives roles is (put (put f a (k % 256)) b (k / 256 % 256)) both.0) in
        let weighed = sums (q_weight roles q) (k % 256) (k / 256 % 256) (q_holds-gives roles is (put (put f a (k % 256)) b (k / 256 % 256)) q has_q both.1) in
        let x : k % 256 ≡ g a = first_alone (k % 256) (k / 256 % 256) (omega arith) (omega arith) plain weighed
        ∙ sym (first_alone (g a) (g b) small_a small_b (own (p_weight roles) meets_p) (own (q_weight roles q) meets_q)) in
        let y : k / 256 % 256 ≡ g b = second_alone (k % 256) (k / 256 % 256) (omega arith) (omega arith) plain weighed
        ∙ sym (second_alone (g a) (g b) small_a small_b (own (p_weight roles) meets_p) (own (q_weight roles q) meets_q)) in
        put_together k (g a) (g b) less x y
      where
        put_together : (k x y : ℕ) → k < 65536 → k % 256 ≡ x → k / 256 % 256 ≡ y → k ≡ x + 256 * y
        put_together k x y h e1 e2 = omega arith

    -- two roles, whose weights can be solved for
    pub filled_two : filled roles (a ∷ b ∷ []) (tabulate roles.disks f) ≡ tabulate roles.disks g
    filled_two =
        filled-only roles (a ∷ b ∷ []) (tabulate n f) whole whole_small
        (ap (fits roles (a ∷ b ∷ [])) digits ∙ ap₂ (λ x y. x && y) (p_holds-from roles is g meets_p) (q_holds-from roles is g q has_q meets_q))
        (λ k less fit. alone k less (and_parts (p_holds roles (tabulate n (put (put f a (k % 256)) b (k / 256 % 256)))) (q_holds roles (tabulate n (put (put f a (k % 256)) b (k / 256 % 256))))
        (ap (fits roles (a ∷ b ∷ [])) (sym (digits_two n a b k f ha hb)) ∙ fit)))
        ∙ digits

  -- ---- the weights of two roles can be solved for

  at_p : p_weight roles roles.p ≡ 1
  at_p = ap (λ b. cond b 0 1) (q_not_p roles is)

  q_at_p : q_weight roles q roles.p ≡ 0
  q_at_p = ap (λ b. cond b 0 (cond (eqb roles.p q) 1 (power_of_two (exponent roles q roles.p)))) (eq-eqb roles.p roles.p refl)

  at_q : p_weight roles q ≡ 0
  at_q = ap (λ b. cond b 0 1) (q_at roles q has_q)

  q_elsewhere : (r : ℕ) → r ≢ roles.p → q_weight roles q r ≡ cond (eqb r q) 1 (power_of_two (exponent roles q r))
  q_elsewhere r np = ap (λ b. cond b 0 (cond (eqb r q) 1 (power_of_two (exponent roles q r)))) (ne_eqb r roles.p np)

  pub q_at_q : q_weight roles q q ≡ 1
  q_at_q = q_elsewhere q (q_of roles is q has_q).1 ∙ ap (λ b. cond b 1 (power_of_two (exponent roles q q))) (eq-eqb q q refl)

  pub not_at_q : (r : ℕ) → r ≢ q → p_weight roles r ≡ 1
  not_at_q r nq = ap (λ b. cond b 0 1) (q_not_at roles q r has_q nq)

  q_at_data : (r : ℕ) → r ≢ roles.p → r ≢ q → q_weight roles q r ≡ power_of_two (exponent roles q r)
  q_at_data r np nq = q_elsewhere r np ∙ ap (λ b. cond b 1 (power_of_two (exponent roles q r))) (ne_eqb r q nq)

  q_pos : (r : ℕ) → r ≢ roles.p → 0 < q_weight roles q r
  q_pos r np = elim (cases_eq r q) [
    | inl e ↦ let one : q_weight roles q r ≡ 1 = ap (q_weight roles q) e ∙ q_at_q in omega (arith, one)
    | inr nq ↦ let power = power_pos (exponent roles q r) in omega (arith, power, q_at_data r np nq)
  ]

  exponents_differ : (a b : ℕ) → a < roles.disks → b < roles.disks → a ≢ b → a ≢ roles.p → b ≢ roles.p → exponent roles q a ≢ exponent roles q b
  exponents_differ a b ha hb ne na nb e =
      let below : q < roles.disks = (q_of roles is q has_q).0 in
      ne (steps-injective roles q below a b ha hb
      (after_injective (steps_behind roles q roles.p) (steps_behind roles q a) (steps_behind roles q b)
      (λ same. na (steps-injective roles q below a roles.p ha is.p same)) (λ same. nb (steps-injective roles q below b roles.p hb is.p same)) e))

  exponent-lt : (r : ℕ) → r < roles.disks → exponent roles q r < 255
  exponent-lt r lt =
      let steps = steps-lt roles q (q_of roles is q has_q).0 r lt in
      let most = is.most in
      below (steps_behind roles q r) (cond (nat_lt (steps_behind roles q roles.p) (steps_behind roles q r)) 1 0) roles.disks steps most
    where
      below : (s d n : ℕ) → s < n → n ≤ 16 → s - d < 255
      below s d n h m = omega arith

  differ_pos : (x y : ℕ) → x ≢ y → 0 < bit_xor x y
  differ_pos x y ne = elim (zero_or_more (bit_xor x y)) [
    | inl nothing ↦ absurd (ne (xor_same x y nothing))
    | inr pos ↦ pos
  ]

  pub det_pos : (a b : ℕ) → a < roles.disks → b < roles.disks → a ≢ b → 0 < det a b
  det_pos a b ha hb ne = rw (determinant-is (p_weight roles a) (p_weight roles b) (q_weight roles q a) (q_weight roles q b)) (elim (cases_eq a roles.p) [
    | inl a_p ↦
        let value : bit_xor (product (p_weight roles a) (q_weight roles q b)) (product (p_weight roles b) (q_weight roles q a)) ≡ q_weight roles q b =
        ap₂ bit_xor (ap (λ u. product u (q_weight roles q b)) (ap (p_weight roles) a_p ∙ at_p) ∙ product-one_l (q_weight roles q b))
        (ap (product (p_weight roles b)) (ap (q_weight roles q) a_p ∙ q_at_p) ∙ product-zero_r (p_weight roles b)) ∙ xor_zero_r (q_weight roles q b) in
        let pos = q_pos b (λ e. ne (a_p ∙ sym e)) in
        omega (arith, value, pos)
    | inr a_not_p ↦ elim (cases_eq b roles.p) [
      | inl b_p ↦
          let value : bit_xor (product (p_weight roles a) (q_weight roles q b)) (product (p_weight roles b) (q_weight roles q a)) ≡ q_weight roles q a =
          ap₂ bit_xor (ap (product (p_weight roles a)) (ap (q_weight roles q) b_p ∙ q_at_p) ∙ product-zero_r (p_weight roles a))
          (ap (λ u. product u (q_weight roles q a)) (ap (p_weight roles) b_p ∙ at_p) ∙ product-one_l (q_weight roles q a)) ∙ xor_zero_l (q_weight roles q a) in
          let pos = q_pos a a_not_p in
          omega (arith, value, pos)
      | inr b_not_p ↦ elim (cases_eq a q) [
        | inl a_q ↦
            let value : bit_xor (product (p_weight roles a) (q_weight roles q b)) (product (p_weight roles b) (q_weight roles q a)) ≡ 1 =
            ap₂ bit_xor (ap (λ u. product u (q_weight roles q b)) (ap (p_weight roles) a_q ∙ at_q) ∙ product-zero_l (q_weight roles q b))
            (ap₂ product (not_at_q b (λ e. ne (a_q ∙ sym e))) (ap (q_weight roles q) a_q ∙ q_at_q) ∙ product-one_l 1) ∙ xor_zero_l 1 in
            omega (arith, value)
        | inr a_not_q ↦ elim (cases_eq b q) [
          | inl b_q ↦
              let value : bit_xor (product (p_weight roles a) (q_weight roles q b)) (product (p_weight roles b) (q_weight roles q a)) ≡ 1 =
              ap₂ bit_xor (ap₂ product (not_at_q a a_not_q) (ap (q_weight roles q) b_q ∙ q_at_q) ∙ product-one_l 1)
              (ap (λ u. product u (q_weight roles q a)) (ap (p_weight roles) b_q ∙ at_q) ∙ product-zero_l (q_weight roles q a)) ∙ xor_zero_r 1 in
              omega (arith, value)
          | inr b_not_q ↦
              let value : bit_xor (product (p_weight roles a) (q_weight roles q b)) (product (p_weight roles b) (q_weight roles q a))
              ≡ bit_xor (power_of_two (exponent roles q b)) (power_of_two (exponent roles q a)) =
              ap₂ bit_xor (ap₂ product (not_at_q a a_not_q) (q_at_data b b_not_p b_not_q) ∙ product-one_l (power_of_two (exponent roles q b)))
              (ap₂ product (not_at_q b b_not_q) (q_at_data a a_not_p a_not_q) ∙ product-one_l (power_of_two (exponent roles q a))) in
              let pos = differ_pos (power_of_two (exponent roles q b)) (power_of_two (exponent roles q a)) (λ same. exponents_differ b a hb ha (λ e. ne (sym e)) b_not_p a_not_p
              (power-injective (exponent roles q b) (exponent roles q a) (exponent-lt b hb) (exponent-lt a ha) same)) in
              omega (arith, value, pos)
        ]
      ]
    ]
  ])
