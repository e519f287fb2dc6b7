-- Roles that never have data.
use Rattle.std.proofs.Common.{◌≡◌, ◌≢◌, ℕ, zero, suc, ◌+◌, ◌-◌, ◌%◌, ◌<◌, ◌≤◌, ◌⊎◌, inl, inr, Bool, true, false, ◌||◌, ◌==◌, not, if◌then◌else◌, ◌↔◌, Some, None, refl, sym, ◌∙◌, ap, subst, arith, eq-eqb}
use Rattle.std.specs.Bool.{IsTrue}
use Rattle.std.proofs.lemmas.Bool.{cases_eq, cases_lt}
use Rattle.std.proofs.lemmas.Bool.Decides.{nat_tests}
use Rattle.std.proofs.Math.Nat.{mod-eq_of_lt}
use Rattle.raid_types.specs.declared.places.Shape.{Shape}
use Rattle.raid_types.specs.Shapes.{is_valid_shape, data_disks}
use Rattle.raid_types.specs.Search.{any_below}
use Rattle.raid_layout.specs.Fixed.{HasFixedParity}
use Rattle.raid_layout.specs.Layout.{is_left, is_right, p_role, stripe_p, stripe_data, stripe_of, data_index, place, IsParity, has_data, is_parity_only}
use Rattle.raid_layout.proofs.Dealt.{round, mod-round}
use Rattle.raid_layout.proofs.Stripes.{IsRing, ring, IsRingOf, ring_of-parities, ring_of-next_q, ring_disks, ring_layout, ring_parities, stripe_p-ring, no_q, last_q, next_q, q_cases, stripe_roles, stripe_data-not_parity, stripe_p-below_ring, data_on}
use Rattle.raid_layout.proofs.Places.{data_index-below, place-sector, sector_at, chunk_some}

-- the ring's numbers
record IsSized (l n d k : ℕ) : Type 0 where
  layouts : l ≤ 5
  parities : (k ≡ 1) ⊎ (k ≡ 2)
  sum : n ≡ d + k
  has_data : 0 < d
  many : k ≡ 2 → 4 ≤ n

sized : (shape : Shape) → is_valid_shape shape ≡ true → IsSized (ring_layout shape) (ring_disks shape) (data_disks shape) (ring_parities shape)
sized shape valid = let r : IsRing shape = ring shape valid in record {
  layouts = r.layouts;
  parities = r.parities;
  sum = r.sum;
  has_data = r.has_data;
  many = λ two. omega (arith, r.many (r.two two).0, (r.two two).1);
}

-- P by the stripe's turn, the stripe modulo n
abbrev p_turn : ℕ → ℕ → ℕ → ℕ → ℕ
p_turn l n d t = if is_left l then n - 1 - t else if is_right l then t else if l == 4 then 0 else d

p_role-turn : (l n d s t : ℕ) → s % n ≡ t → p_role l n d s ≡ p_turn l n d t
p_role-turn l n d s t e = ap (λ t. p_turn l n d t) e

-- P is at r, or Q behind it
abbrev AtParity : ℕ → ℕ → ℕ → ℕ → ℕ → ℕ → Type 0
AtParity l n d k r t = (r ≡ p_turn l n d t) ⊎ ((k ≡ 2) × (r ≡ round n (p_turn l n d t + 1)))

fixed_in : (l n d k r t : ℕ) → IsSized l n d k → r < n → HasFixedParity l n k r → AtParity l n d k r t
fixed_in l n d k r t sizes below fixed = grind (arith, nat_tests)

-- where P or Q of one stripe is at r, neither is there k stripes on
later : (l n d k r : ℕ) → IsSized l n d k → ¬ HasFixedParity l n k r → AtParity l n d k r 0 → ¬ AtParity l n d k r k
later l n d k r sizes free now then' = grind (arith, nat_tests)

at_parity-or_not : (l n d k r t : ℕ) → AtParity l n d k r t ⊎ ¬ AtParity l n d k r t
at_parity-or_not l n d k r t = elim (cases_eq r (p_turn l n d t)) [
  | inl p ↦ inl (inl p)
  | inr not_p ↦ elim (cases_eq k 2) [
    | inl two ↦ elim (cases_eq r (round n (p_turn l n d t + 1))) [ inl q ↦ inl (inr (two, q)) | inr not_q ↦ inr (λ h. elim h [ inl p ↦ not_p p | inr q ↦ not_q q.1 ]) ]
    | inr not_two ↦ inr (λ h. elim h [ inl p ↦ not_p p | inr q ↦ not_two q.0 ])
  ]
]

-- some stripe has neither P nor Q at r
free_turn : (l n d k r : ℕ) → IsSized l n d k → ¬ HasFixedParity l n k r → (t : ℕ) × (t < n) × (¬ AtParity l n d k r t)
free_turn l n d k r sizes free = elim (at_parity-or_not l n d k r 0) [
  | inl now ↦ (k, omega (arith, sizes.sum, sizes.has_data), later l n d k r sizes free now)
  | inr not_now ↦ (0, omega (arith, sizes.sum, sizes.has_data), not_now)
]

some_same : (a b : ℕ) → Some a ≡ Some b → a ≡ b
some_same a b e = cc

none_some : (a : ℕ) → None ≡ Some a → ⊥
none_some a e = cc

-- the same of the stripes of a shape
module _ (shape : Shape) (valid : is_valid_shape shape ≡ true) where
  p_there : (s t : ℕ) → s % ring_disks shape ≡ t → stripe_p shape s ≡ p_turn (ring_layout shape) (ring_disks shape) (data_disks shape) t
  p_there s t turn = stripe_p-ring shape s ∙ p_role-turn (ring_layout shape) (ring_disks shape) (data_disks shape) s t turn

  q_there : (s t : ℕ) → s % ring_disks shape ≡ t
      → (stripe_p shape s + 1) % ring_disks shape ≡ round (ring_disks shape) (p_turn (ring_layout shape) (ring_disks shape) (data_disks shape) t + 1)
  q_there s t turn =
      mod-round (ring_disks shape) (stripe_p shape s + 1) (omega (arith, stripe_p-below_ring shape valid s, (ring shape valid).sum, (ring shape valid).has_data))
      ∙ ap (λ p. round (ring_disks shape) (p + 1)) (p_there s t turn)

  at_parity : (s r t : ℕ) → s % ring_disks shape ≡ t → AtParity (ring_layout shape) (ring_disks shape) (data_disks shape) (ring_parities shape) r t → IsParity (stripe_roles shape s) r
  at_parity s r t turn h = elim h [
    | inl p ↦ inl (p ∙ sym (p_there s t turn))
    | inr q ↦ inr (ring_of-next_q shape valid (ring_layout shape) (ring_disks shape) (ring_parities shape) (stripe_p shape s)
        (record { layout = refl; disks = refl; sum = (ring shape valid).sum }) s q.0 refl
        ∙ ap (λ q. Some q) (q_there s t turn ∙ sym q.1))
  ]

  not_at_parity : (s r t : ℕ) → s % ring_disks shape ≡ t → r < ring_disks shape
      → ¬ AtParity (ring_layout shape) (ring_disks shape) (data_disks shape) (ring_parities shape) r t → ¬ IsParity (stripe_roles shape s) r
  not_at_parity s r t turn below free h = elim h [
    | inl p ↦ free (inl (p ∙ p_there s t turn))
    | inr q ↦ elim (q_cases shape valid s) [
      | no_q five one is ↦ none_some r (sym is ∙ q)
      | last_q six one is ↦ let e : ring_disks shape ≡ r = some_same _ _ (sym is ∙ q) in omega (arith, e, below)
      | next_q six two is ↦ free (inr (two, some_same _ _ (sym q ∙ is) ∙ q_there s t turn))
    ]
  ]

  fixed_is_parity : (r : ℕ) → r < shape.disks → HasFixedParity (ring_layout shape) (ring_disks shape) (ring_parities shape) r → (s : ℕ) → IsParity (stripe_roles shape s) r
  fixed_is_parity r below fixed s = elim (cases_lt r (ring_disks shape)) [
    | inl less ↦ at_parity s r (s % ring_disks shape) refl
        (fixed_in (ring_layout shape) (ring_disks shape) (data_disks shape) (ring_parities shape) r (s % ring_disks shape) (sized shape valid) less fixed)
    | inr more ↦ elim (q_cases shape valid s) [
      | no_q five one is ↦ let e : ring_disks shape ≡ shape.disks = (ring shape valid).five five in absurd (omega (arith, e, more, below))
      | last_q six one is ↦
          let e : ring_disks shape + 1 ≡ shape.disks = ((ring shape valid).one one six).0 in
          inr (is ∙ ap (λ q. Some q) (omega (arith, e, more, below)))
      | next_q six two is ↦ let e : ring_disks shape ≡ shape.disks = ((ring shape valid).two two).1 in absurd (omega (arith, e, more, below))
    ]
  ]

  -- a role that keeps no parity has data within as many stripes as there are disks
  unfixed_has_data : (r : ℕ) → r < shape.disks → ¬ HasFixedParity (ring_layout shape) (ring_disks shape) (ring_parities shape) r
      → (s : ℕ) × (s < shape.disks) × ((i : ℕ) × (i < data_disks shape) × (stripe_data shape s i ≡ r))
  unfixed_has_data r below free =
      let in_ring : r < ring_disks shape = omega (arith, not_behind) in
      let turn : (t : ℕ) × (t < ring_disks shape) × (¬ AtParity (ring_layout shape) (ring_disks shape) (data_disks shape) (ring_parities shape) r t) =
      free_turn (ring_layout shape) (ring_disks shape) (data_disks shape) (ring_parities shape) r (sized shape valid) free in (
        turn.0,
        omega (arith, turn.1, (ring shape valid).few),
        data_on shape valid turn.0 r below (not_at_parity turn.0 r turn.0 (mod-eq_of_lt turn.1) in_ring turn.2),
      )
    where
      not_behind : ring_disks shape ≤ r → ⊥
      not_behind h = free (inr (inr h))

any_below-some : (n : ℕ) (test : ℕ → Bool) (k : ℕ) → k < n → test k ≡ true → any_below n test ≡ true
unfolding any_below
any_below-some zero test k h passes = absurd (omega (arith, h))
any_below-some (suc n) test k h passes = elim (cases_lt k n) [
  | inl less ↦ left (any_below n test) (test n) (any_below-some n test k less passes)
  | inr more ↦ let e : k ≡ n = omega (arith, h, more) in right (any_below n test) (test n) (subst (λ k. test k ≡ true) e passes)
]
  where
    left : (a b : Bool) → a ≡ true → (a || b) ≡ true
    left a b e = rw e refl

    right : (a b : Bool) → b ≡ true → (a || b) ≡ true
    right true b e = refl
    right false b e = e

any_below-none : (n : ℕ) (test : ℕ → Bool) → ((k : ℕ) → k < n → test k ≡ true → ⊥) → any_below n test ≡ false
unfolding any_below
any_below-none zero test none = refl
any_below-none (suc n) test none = both (any_below n test) (test n) (any_below-none n test (λ k h. none k (omega (arith, h)))) (none n (omega arith))
  where
    both : (a b : Bool) → a ≡ false → (b ≡ true → ⊥) → (a || b) ≡ false
    both a true e never = absurd (never refl)
    both a false e never = rw e refl

is_same : (a b : ℕ) → (a == b) ≡ true → a ≡ b
is_same a b h = grind (arith, nat_tests)

pub has_data-some : (shape : Shape) (r s i : ℕ) → s < shape.disks → i < data_disks shape → stripe_data shape s i ≡ r → has_data shape r ≡ true
has_data-some shape r s i hs hi e =
    any_below-some shape.disks _ s hs (any_below-some (data_disks shape) (λ i. stripe_data shape s i == r) i hi (eq-eqb (stripe_data shape s i) r e))

pub has_data-none : (shape : Shape) → is_valid_shape shape ≡ true → (r : ℕ) → ((s : ℕ) → IsParity (stripe_roles shape s) r) → has_data shape r ≡ false
has_data-none shape valid r parity =
    any_below-none shape.disks _ (λ s hs found. false_true (any_below-none (data_disks shape) (λ i. stripe_data shape s i == r)
    (λ i hi same. stripe_data-not_parity shape valid s i hi (subst (λ r. IsParity (stripe_roles shape s) r) (sym (is_same _ r same)) (parity s)))) found)
  where
    false_true : {b : Bool} → b ≡ false → b ≡ true → ⊥
    false_true e f = absurd (cc)

moved_by : (l n k l' n' k' r : ℕ) → l ≡ l' → n ≡ n' → k ≡ k' → HasFixedParity l n k r → HasFixedParity l' n' k' r
moved_by l n k l' n' k' r e f g h =
    subst (λ l. HasFixedParity l n' k' r) e (subst (λ n. HasFixedParity l n k' r) f (subst (λ k. HasFixedParity l n k r) g h))

moved : (shape : Shape) (l n k r : ℕ) → IsRingOf shape l n k → HasFixedParity l n k r → HasFixedParity (ring_layout shape) (ring_disks shape) (ring_parities shape) r
moved shape l n k r ring h = moved_by l n k (ring_layout shape) (ring_disks shape) (ring_parities shape) r ring.layout ring.disks (ring_of-parities shape l n k ring) h

moved_back : (shape : Shape) (l n k r : ℕ) → IsRingOf shape l n k → HasFixedParity (ring_layout shape) (ring_disks shape) (ring_parities shape) r → HasFixedParity l n k r
moved_back shape l n k r ring h = moved_by (ring_layout shape) (ring_disks shape) (ring_parities shape) l n k r (sym ring.layout) (sym ring.disks) (sym (ring_of-parities shape l n k ring)) h

-- the test that a role keeps parity is the definition's
pub parity_only-is : (shape : Shape) → is_valid_shape shape ≡ true → (l n k r : ℕ) → IsRingOf shape l n k → r < shape.disks → (b : Bool)
    → IsTrue b ↔ HasFixedParity l n k r → b ≡ is_parity_only shape r
parity_only-is shape valid l n k r ring below true fixed =
    sym (ap (λ b. not b) (has_data-none shape valid r (fixed_is_parity shape valid r below (moved shape l n k r ring (fixed.0 refl)))))
parity_only-is shape valid l n k r ring below false fixed =
    let found : (s : ℕ) × (s < shape.disks) × ((i : ℕ) × (i < data_disks shape) × (stripe_data shape s i ≡ r)) =
    unfixed_has_data shape valid r below (λ h. absurd_false (fixed.1 (moved_back shape l n k r ring h))) in
    sym (ap (λ b. not b) (has_data-some shape r found.0 found.2.0 found.1 found.2.1 found.2.2))
  where
    absurd_false : IsTrue false → ⊥
    absurd_false h = cc

fixed_or_not : (l n k r : ℕ) → HasFixedParity l n k r ⊎ ¬ HasFixedParity l n k r
fixed_or_not l n k r = elim (cases_lt r n) [
  | inr behind ↦ inl (inr (inr behind))
  | inl less ↦ elim (cases_eq l 4) [
    | inl first ↦ elim (cases_lt r k) [ inl h ↦ inl (inl (first, h)) | inr h ↦ inr (λ fixed. grind arith) ]
    | inr not_first ↦ elim (cases_eq l 5) [
      | inl last ↦ elim (cases_lt r (n - k)) [ inl h ↦ inr (λ fixed. grind arith) | inr h ↦ inl (inr (inl (last, h))) ]
      | inr not_last ↦ inr (λ fixed. grind arith)
    ]
  ]
]

-- a role keeps parity exactly where no sector is placed on it
pub parity_only-all : (shape : Shape) → is_valid_shape shape ≡ true → (r : ℕ) → r < shape.disks
    → (is_parity_only shape r ≡ true) ↔ ((x : ℕ) → (place shape x).role ≢ r)
parity_only-all shape valid r below = elim (fixed_or_not (ring_layout shape) (ring_disks shape) (ring_parities shape) r) [ inl fixed ↦ kept fixed | inr free ↦ moving free ]
  where
    kept : HasFixedParity (ring_layout shape) (ring_disks shape) (ring_parities shape) r → (is_parity_only shape r ≡ true) ↔ ((x : ℕ) → (place shape x).role ≢ r)
    kept fixed = (
      λ only x same. stripe_data-not_parity shape valid (stripe_of shape x) (data_index shape x) (data_index-below shape valid x)
          (subst (λ r. IsParity (stripe_roles shape (stripe_of shape x)) r) (sym same) (fixed_is_parity shape valid r below fixed (stripe_of shape x))),
      λ none. ap (λ b. not b) (has_data-none shape valid r (fixed_is_parity shape valid r below fixed)),
    )

    not_both : (b : Bool) → b ≡ true → not b ≡ true → ⊥
    not_both b e f = cc

    moving : ¬ HasFixedParity (ring_layout shape) (ring_disks shape) (ring_parities shape) r → (is_parity_only shape r ≡ true) ↔ ((x : ℕ) → (place shape x).role ≢ r)
    moving free =
        let found : (s : ℕ) × (s < shape.disks) × ((i : ℕ) × (i < data_disks shape) × (stripe_data shape s i ≡ r)) = unfixed_has_data shape valid r below free in (
          λ only. absurd (not_both (has_data shape r) (has_data-some shape r found.0 found.2.0 found.1 found.2.1 found.2.2) only),
          λ none. absurd (none (sector_at shape found.0 found.2.0 0) (ap (λ p. p.role) (place-sector shape found.0 found.2.0 0 found.2.1 (chunk_some shape valid)) ∙ found.2.2)),
        )
