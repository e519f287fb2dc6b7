-- One stripe of a valid shape: its parity roles, and one data for each other role.
use Rattle.std.proofs.Common.{◌≡◌, ◌≢◌, ℕ, ◌+◌, ◌-◌, ◌%◌, ◌<◌, ◌≤◌, ◌⊎◌, inl, inr, Bool, true, false, ◌==◌, if◌then◌else◌, Option, Some, None, refl, sym, ◌∙◌, ap, arith}
use Rattle.std.proofs.lemmas.Bool.Decides.{nat_tests}
use Rattle.std.proofs.lemmas.Nat.{mod_below}
use Rattle.raid_types.specs.declared.places.Shape.{Shape}
use Rattle.raid_types.specs.declared.places.RowRoles.{RowRoles}
use Rattle.raid_types.specs.Shapes.{is_valid_shape, data_disks}
use Rattle.raid_layout.specs.Layout.{is_six_over_five, is_symmetric, p_role, data_role, stripe_p, stripe_q, stripe_data, IsParity}
use Rattle.raid_layout.proofs.Limits.{IsLimited, limited}
use Rattle.raid_layout.proofs.Dealt.{IsFree, data_role-below, data_role-not_p, data_role-not_q, data_role-only, index, index_fits, data_role-index, round, mod-round}

-- the roles that data and parity go round
abbrev pub ring_layout : Shape → ℕ
ring_layout shape = if is_six_over_five shape then shape.layout - 16 else shape.layout

abbrev pub ring_disks : Shape → ℕ
ring_disks shape = if is_six_over_five shape then shape.disks - 1 else shape.disks

abbrev pub ring_parities : Shape → ℕ
ring_parities shape = ring_disks shape - data_disks shape

-- the ring of a valid shape
pub record IsRing (shape : Shape) : Type 0 where
  pub parities : (ring_parities shape ≡ 1) ⊎ (ring_parities shape ≡ 2)
  pub sum : ring_disks shape ≡ data_disks shape + ring_parities shape
  pub has_data : 0 < data_disks shape
  pub few : ring_disks shape ≤ shape.disks
  pub two : ring_parities shape ≡ 2 → (shape.level ≡ 6) × (ring_disks shape ≡ shape.disks) × (is_six_over_five shape ≡ false)
  pub one : ring_parities shape ≡ 1 → shape.level ≡ 6 → (ring_disks shape + 1 ≡ shape.disks) × (is_six_over_five shape ≡ true)
  pub five : shape.level ≡ 5 → ring_disks shape ≡ shape.disks
  pub many : shape.level ≡ 6 → 4 ≤ shape.disks
  pub layouts : ring_layout shape ≤ 5

pub ring : (shape : Shape) → is_valid_shape shape ≡ true → IsRing shape
ring shape valid = let limits : IsLimited shape = limited shape valid in record {
  parities = grind (arith, nat_tests);
  sum = grind (arith, nat_tests);
  has_data = grind (arith, nat_tests);
  few = grind (arith, nat_tests);
  two = λ two. (grind (arith, nat_tests), grind (arith, nat_tests), grind (arith, nat_tests));
  one = λ one six. (grind (arith, nat_tests), grind (arith, nat_tests));
  five = λ five. grind (arith, nat_tests);
  many = limits.least_6;
  layouts = grind (arith, nat_tests);
}

pub stripe_p-ring : (shape : Shape) (s : ℕ) → stripe_p shape s ≡ p_role (ring_layout shape) (ring_disks shape) (data_disks shape) s
stripe_p-ring shape s = by_case (is_six_over_five shape) shape.layout shape.disks (data_disks shape) s
  where
    by_case : (b : Bool) (l n d s : ℕ) → (if b then p_role (l - 16) (n - 1) d s else p_role l n d s) ≡ p_role (if b then l - 16 else l) (if b then n - 1 else n) d s
    by_case true l n d s = refl
    by_case false l n d s = refl

pub stripe_data-ring : (shape : Shape) → is_valid_shape shape ≡ true → (s i : ℕ)
    → stripe_data shape s i ≡ data_role (ring_layout shape) (ring_disks shape) (ring_parities shape) (stripe_p shape s) i
stripe_data-ring shape valid s i = by_case (is_six_over_five shape) shape.layout shape.disks (data_disks shape) (stripe_p shape s) i (one_parity shape (limited shape valid))
  where
    one_parity : (shape : Shape) → IsLimited shape → is_six_over_five shape ≡ true → shape.disks - 1 - data_disks shape ≡ 1
    one_parity shape limits six = grind (arith, nat_tests)

    by_case : (b : Bool) (l n d p i : ℕ) → (b ≡ true → n - 1 - d ≡ 1)
        → (if b then data_role (l - 16) (n - 1) 1 p i else data_role l n (n - d) p i) ≡ data_role (if b then l - 16 else l) (if b then n - 1 else n) ((if b then n - 1 else n) - d) p i
    by_case true l n d p i one = ap (λ k. data_role (l - 16) (n - 1) k p i) (sym (one refl))
    by_case false l n d p i one = refl

p_role-below : (l n d s : ℕ) → d < n → p_role l n d s < n
p_role-below l n d s h = let turn : s % n < n = mod_below s n (omega arith) in grind (arith, nat_tests)

pub stripe_p-below_ring : (shape : Shape) → is_valid_shape shape ≡ true → (s : ℕ) → stripe_p shape s < ring_disks shape
stripe_p-below_ring shape valid s = let r : IsRing shape = ring shape valid in
    rw (stripe_p-ring shape s) (p_role-below (ring_layout shape) (ring_disks shape) (data_disks shape) s (omega (arith, r.sum, r.parities)))

-- the parity roles of a stripe, which are those of each of its rows
abbrev pub stripe_roles : Shape → ℕ → RowRoles
stripe_roles shape s = record { disks = shape.disks; p = stripe_p shape s; q = stripe_q shape s }

-- Q, with P as a variable
abbrev q_from : Shape → ℕ → Option ℕ
q_from shape p = if shape.level == 6 then Some (if is_six_over_five shape then shape.disks - 1 else (p + 1) % shape.disks) else None

q_five : (shape : Shape) (p : ℕ) → shape.level ≡ 5 → q_from shape p ≡ None
q_five shape p five = rw five refl

q_two : (shape : Shape) (p : ℕ) → IsRing shape → ring_parities shape ≡ 2 → q_from shape p ≡ Some ((p + 1) % ring_disks shape)
q_two shape p r two = let facts : (shape.level ≡ 6) × (ring_disks shape ≡ shape.disks) × (is_six_over_five shape ≡ false) = r.two two in
    ap (λ b. if b then Some (if is_six_over_five shape then shape.disks - 1 else (p + 1) % shape.disks) else None) (is_6 shape.level facts.0)
    ∙ ap (λ b. Some (if b then shape.disks - 1 else (p + 1) % shape.disks)) facts.2
    ∙ ap (λ n. Some ((p + 1) % n)) (sym facts.1)
  where
    is_6 : (level : ℕ) → level ≡ 6 → (level == 6) ≡ true
    is_6 level six = rw six refl

q_one : (shape : Shape) (p : ℕ) → IsRing shape → ring_parities shape ≡ 1 → shape.level ≡ 6 → q_from shape p ≡ Some (ring_disks shape)
q_one shape p r one six = let facts : (ring_disks shape + 1 ≡ shape.disks) × (is_six_over_five shape ≡ true) = r.one one six in
    ap (λ b. if b then Some (if is_six_over_five shape then shape.disks - 1 else (p + 1) % shape.disks) else None) (is_6 shape.level six)
    ∙ ap (λ b. Some (if b then shape.disks - 1 else (p + 1) % shape.disks)) facts.1
    ∙ ap (λ n. Some n) (omega (arith, facts.0))
  where
    is_6 : (level : ℕ) → level ≡ 6 → (level == 6) ≡ true
    is_6 level six = rw six refl

some_same : (a b : ℕ) → Some a ≡ Some b → a ≡ b
some_same a b e = cc

none_some : (a : ℕ) → None ≡ Some a → ⊥
none_some a e = cc

-- where Q stands, if there is one
pub data QCases (shape : Shape) (s : ℕ) : Type 0 where
  no_q : shape.level ≡ 5 → ring_parities shape ≡ 1 → stripe_q shape s ≡ None → QCases shape s
  last_q : shape.level ≡ 6 → ring_parities shape ≡ 1 → stripe_q shape s ≡ Some (ring_disks shape) → QCases shape s
  next_q : shape.level ≡ 6 → ring_parities shape ≡ 2 → stripe_q shape s ≡ Some ((stripe_p shape s + 1) % ring_disks shape) → QCases shape s

pub q_cases : (shape : Shape) → is_valid_shape shape ≡ true → (s : ℕ) → QCases shape s
q_cases shape valid s = let r : IsRing shape = ring shape valid in
    elim r.parities [
      | inl one ↦ elim (limited shape valid).level [ inl five ↦ no_q five one (q_five shape (stripe_p shape s) five) | inr six ↦ last_q six one (q_one shape (stripe_p shape s) r one six) ]
      | inr two ↦ next_q (r.two two).0 two (q_two shape (stripe_p shape s) r two)
    ]

pub data_index-fits : (shape : Shape) → is_valid_shape shape ≡ true → (i : ℕ) → i < data_disks shape → i + ring_parities shape < ring_disks shape
data_index-fits shape valid i h = let r : IsRing shape = ring shape valid in omega (arith, r.sum)

pub some_parity : (shape : Shape) → IsRing shape → (0 < ring_parities shape) × (ring_parities shape ≤ 2)
some_parity shape r = elim r.parities [ inl one ↦ (omega arith, omega arith) | inr two ↦ (omega arith, omega arith) ]

pub stripe_data-below_ring : (shape : Shape) → is_valid_shape shape ≡ true → (s i : ℕ) → i < data_disks shape → stripe_data shape s i < ring_disks shape
stripe_data-below_ring shape valid s i h = rw (stripe_data-ring shape valid s i)
    (data_role-below (ring_layout shape) (ring_disks shape) (ring_parities shape) (stripe_p shape s) i (stripe_p-below_ring shape valid s) (some_parity shape (ring shape valid)).1 (data_index-fits shape valid i h))

pub stripe_data-below : (shape : Shape) → is_valid_shape shape ≡ true → (s i : ℕ) → i < data_disks shape → stripe_data shape s i < shape.disks
stripe_data-below shape valid s i h =
    let r : IsRing shape = ring shape valid in
    let below : stripe_data shape s i < ring_disks shape = stripe_data-below_ring shape valid s i h in
    omega (arith, r.few, below)

pub stripe_data-only : (shape : Shape) → is_valid_shape shape ≡ true → (s i j : ℕ) → i < data_disks shape → j < data_disks shape
    → stripe_data shape s i ≡ stripe_data shape s j → i ≡ j
stripe_data-only shape valid s i j hi hj same =
    let r : IsRing shape = ring shape valid in
    data_role-only (ring_layout shape) (ring_disks shape) (ring_parities shape) (stripe_p shape s) i j (stripe_p-below_ring shape valid s)
    (some_parity shape r).0 (some_parity shape r).1 (data_index-fits shape valid i hi) (data_index-fits shape valid j hj)
    (sym (stripe_data-ring shape valid s i) ∙ same ∙ stripe_data-ring shape valid s j)

-- data stands on no parity
pub stripe_data-not_p : (shape : Shape) → is_valid_shape shape ≡ true → (s i : ℕ) → i < data_disks shape → stripe_data shape s i ≢ stripe_p shape s
stripe_data-not_p shape valid s i h same =
    let r : IsRing shape = ring shape valid in
    data_role-not_p (ring_layout shape) (ring_disks shape) (ring_parities shape) (stripe_p shape s) i (stripe_p-below_ring shape valid s)
    (some_parity shape r).0 (some_parity shape r).1 (data_index-fits shape valid i h)
    (sym (stripe_data-ring shape valid s i) ∙ same)

pub stripe_data-not_q : (shape : Shape) → is_valid_shape shape ≡ true → (s i : ℕ) → i < data_disks shape → stripe_q shape s ≢ Some (stripe_data shape s i)
stripe_data-not_q shape valid s i h same = elim (q_cases shape valid s) [
  | no_q five one is ↦ none_some _ (sym is ∙ same)
  | last_q six one is ↦
      let below : stripe_data shape s i < ring_disks shape = stripe_data-below_ring shape valid s i h in
      let e : ring_disks shape ≡ stripe_data shape s i = some_same _ _ (sym is ∙ same) in
      omega (arith, below, e)
  | next_q six two is ↦ on_two (ring_layout shape) (ring_disks shape) (ring_parities shape) (stripe_p shape s) i (stripe_data shape s i)
      two (stripe_p-below_ring shape valid s) (data_index-fits shape valid i h) (stripe_data-ring shape valid s i)
      (some_same _ _ (sym is ∙ same))
]
  where
    on_two : (l n k p i r : ℕ) → k ≡ 2 → p < n → i + k < n → r ≡ data_role l n k p i → (p + 1) % n ≡ r → ⊥
    on_two l n k p i r two below fits e q =
        data_role-not_q l n p i below (omega (arith, two, fits)) (ap (λ k. data_role l n k p i) (sym two) ∙ sym e ∙ sym q)

pub stripe_data-not_parity : (shape : Shape) → is_valid_shape shape ≡ true → (s i : ℕ) → i < data_disks shape → ¬ IsParity (stripe_roles shape s) (stripe_data shape s i)
stripe_data-not_parity shape valid s i h parity =
    elim parity [ inl p ↦ stripe_data-not_p shape valid s i h p | inr q ↦ stripe_data-not_q shape valid s i h q ]

-- a role that has no parity in a stripe is free in its ring
pub free_role : (shape : Shape) → is_valid_shape shape ≡ true → (s r : ℕ) → r < shape.disks → ¬ IsParity (stripe_roles shape s) r
    → IsFree (ring_disks shape) (ring_parities shape) (stripe_p shape s) r
free_role shape valid s r h no_parity = let rg : IsRing shape = ring shape valid in record {
  p_below = stripe_p-below_ring shape valid s;
  below = elim (q_cases shape valid s) [
    | no_q five one is ↦ let e : ring_disks shape ≡ shape.disks = rg.five five in omega (arith, e, h)
    | last_q six one is ↦
        let e : ring_disks shape + 1 ≡ shape.disks = (rg.one one six).0 in
        let apart : r ≢ ring_disks shape = λ same. no_parity (inr (is ∙ ap (λ q. Some q) (sym same))) in
        omega (arith, e, h, apart)
    | next_q six two is ↦ let e : ring_disks shape ≡ shape.disks = (rg.two two).1 in omega (arith, e, h)
  ];
  parities = rg.parities;
  has_data = omega (arith, rg.sum, rg.has_data);
  not_p = λ p. no_parity (inl p);
  not_q = λ two q. no_parity (inr (q_two shape (stripe_p shape s) rg two ∙ ap (λ q. Some q) (sym q)));
}

-- each role without parity has its data
pub data_on : (shape : Shape) → is_valid_shape shape ≡ true → (s r : ℕ) → r < shape.disks → ¬ IsParity (stripe_roles shape s) r
    → (i : ℕ) × (i < data_disks shape) × (stripe_data shape s i ≡ r)
data_on shape valid s r h no_parity =
    let rg : IsRing shape = ring shape valid in
    let free : IsFree (ring_disks shape) (ring_parities shape) (stripe_p shape s) r = free_role shape valid s r h no_parity in
    let fits : index (is_symmetric (ring_layout shape)) (ring_disks shape) (ring_parities shape) (stripe_p shape s) r + ring_parities shape < ring_disks shape =
    index_fits (is_symmetric (ring_layout shape)) (ring_disks shape) (ring_parities shape) (stripe_p shape s) r free in (
      index (is_symmetric (ring_layout shape)) (ring_disks shape) (ring_parities shape) (stripe_p shape s) r,
      omega (arith, fits, rg.sum),
      stripe_data-ring shape valid s _ ∙ data_role-index (ring_layout shape) (ring_disks shape) (ring_parities shape) (stripe_p shape s) r free,
    )

-- P and Q are roles of the shape, and apart
pub stripe_p-below : (shape : Shape) → is_valid_shape shape ≡ true → (s : ℕ) → stripe_p shape s < shape.disks
stripe_p-below shape valid s =
    let r : IsRing shape = ring shape valid in
    let below : stripe_p shape s < ring_disks shape = stripe_p-below_ring shape valid s in
    omega (arith, r.few, below)

pub stripe_q-apart : (shape : Shape) → is_valid_shape shape ≡ true → (s q : ℕ) → stripe_q shape s ≡ Some q → (q < shape.disks) × (q ≢ stripe_p shape s)
stripe_q-apart shape valid s q same =
    let r : IsRing shape = ring shape valid in
    let below : stripe_p shape s < ring_disks shape = stripe_p-below_ring shape valid s in
    elim (q_cases shape valid s) [
      | no_q five one is ↦ absurd (none_some _ (sym is ∙ same))
      | last_q six one is ↦
          let e : ring_disks shape + 1 ≡ shape.disks = (r.one one six).0 in
          let f : ring_disks shape ≡ q = some_same _ _ (sym is ∙ same) in
          (omega (arith, e, f), λ p. omega (arith, f, p, below))
      | next_q six two is ↦ next (ring_disks shape) (stripe_p shape s) shape.disks q (r.two two).1 (omega (arith, r.sum, r.has_data, two)) below (some_same _ _ (sym is ∙ same))
    ]
  where
    next : (n p m q : ℕ) → n ≡ m → 1 < n → p < n → (p + 1) % n ≡ q → (q < m) × (q ≢ p)
    next n p m q e more below same = let f : round n (p + 1) ≡ q = sym (mod-round n (p + 1) (omega arith)) ∙ same in
        (grind (arith, nat_tests), λ p'. grind (arith, nat_tests))

pub stripe_q-some : (shape : Shape) → is_valid_shape shape ≡ true → (s : ℕ) → shape.level ≡ 6 → (q : ℕ) × (stripe_q shape s ≡ Some q)
stripe_q-some shape valid s six = elim (q_cases shape valid s) [
  | no_q five one is ↦ absurd (omega (arith, six, five))
  | last_q six' one is ↦ (_, is)
  | next_q six' two is ↦ (_, is)
]

pub stripe_q-none : (shape : Shape) (s : ℕ) → shape.level ≡ 5 → stripe_q shape s ≡ None
stripe_q-none shape s five = q_five shape (stripe_p shape s) five

-- l, n and k are the layout, the disks and the parities of a shape's ring
pub record IsRingOf (shape : Shape) (l n k : ℕ) : Type 0 where
  pub layout : l ≡ ring_layout shape
  pub disks : n ≡ ring_disks shape
  pub sum : n ≡ data_disks shape + k

pub ring_of-data : (shape : Shape) (l n k : ℕ) → IsRingOf shape l n k → n - k ≡ data_disks shape
ring_of-data shape l n k r = omega (arith, r.sum)

pub ring_of-parities : (shape : Shape) (l n k : ℕ) → IsRingOf shape l n k → k ≡ ring_parities shape
ring_of-parities shape l n k r = omega (arith, r.sum, r.disks)

pub ring_of-p : (shape : Shape) (l n k : ℕ) → IsRingOf shape l n k → (s : ℕ) → p_role l n (n - k) s ≡ stripe_p shape s
ring_of-p shape l n k r s =
    ap (λ d. p_role l n d s) (ring_of-data shape l n k r)
    ∙ ap (λ l. p_role l n (data_disks shape) s) r.layout
    ∙ ap (λ n. p_role (ring_layout shape) n (data_disks shape) s) r.disks
    ∙ sym (stripe_p-ring shape s)

pub ring_of-data_role : (shape : Shape) → is_valid_shape shape ≡ true → (l n k : ℕ) → IsRingOf shape l n k → (s i : ℕ)
    → data_role l n k (stripe_p shape s) i ≡ stripe_data shape s i
ring_of-data_role shape valid l n k r s i =
    ap (λ l. data_role l n k (stripe_p shape s) i) r.layout
    ∙ ap (λ n. data_role (ring_layout shape) n k (stripe_p shape s) i) r.disks
    ∙ ap (λ k. data_role (ring_layout shape) (ring_disks shape) k (stripe_p shape s) i) (ring_of-parities shape l n k r)
    ∙ sym (stripe_data-ring shape valid s i)

-- Q as the ring tells it
pub ring_of-last_q : (shape : Shape) → is_valid_shape shape ≡ true → (l n k : ℕ) → IsRingOf shape l n k → (s : ℕ) → n < shape.disks → stripe_q shape s ≡ Some n
ring_of-last_q shape valid l n k r s less = let rg : IsRing shape = ring shape valid in elim (q_cases shape valid s) [
  | no_q five one is ↦ let e : ring_disks shape ≡ shape.disks = rg.five five in absurd (omega (arith, e, less, r.disks))
  | last_q six one is ↦ is ∙ ap (λ n. Some n) (sym r.disks)
  | next_q six two is ↦ let e : ring_disks shape ≡ shape.disks = (rg.two two).1 in absurd (omega (arith, e, less, r.disks))
]

pub ring_of-next_q : (shape : Shape) → is_valid_shape shape ≡ true → (l n k p : ℕ) → IsRingOf shape l n k → (s : ℕ) → k ≡ 2 → p ≡ stripe_p shape s
    → stripe_q shape s ≡ Some ((p + 1) % n)
ring_of-next_q shape valid l n k p r s two p_is =
    q_two shape (stripe_p shape s) (ring shape valid) (sym (ring_of-parities shape l n k r) ∙ two)
    ∙ ap (λ n. Some ((stripe_p shape s + 1) % n)) (sym r.disks) ∙ ap (λ p. Some ((p + 1) % n)) (sym p_is)

pub ring_of-no_q : (shape : Shape) → is_valid_shape shape ≡ true → (l n k : ℕ) → IsRingOf shape l n k → (s : ℕ) → shape.disks ≤ n → k ≢ 2 → stripe_q shape s ≡ None
ring_of-no_q shape valid l n k r s most not_two = let rg : IsRing shape = ring shape valid in elim (q_cases shape valid s) [
  | no_q five one is ↦ is
  | last_q six one is ↦ let e : ring_disks shape + 1 ≡ shape.disks = (rg.one one six).0 in absurd (omega (arith, e, most, r.disks))
  | next_q six two is ↦ absurd (not_two (ring_of-parities shape l n k r ∙ two))
]
