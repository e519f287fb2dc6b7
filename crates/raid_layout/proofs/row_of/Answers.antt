use Rattle.std.proofs.Common.{◌≡◌, ◌≢◌, ℕ, ◌<◌, ◌/◌, ◌↔◌, Option, Some, None, true, refl, sym, subst, ◌∙◌, arith, inl, inr}
use Rattle.std.specs.Option.{IfSome, IsSome}
use Rattle.raid_types.specs.declared.places.Shape.{Shape}
use Rattle.raid_types.specs.Shapes.{is_valid_shape}
use Rattle.raid_layout.specs.Layout.{stripe_p, stripe_q}
use Rattle.raid_layout.proofs.Limits.{limited}
use Rattle.raid_layout.proofs.Stripes.{IsRingOf, ring_of-p, ring_of-last_q, ring_of-next_q, ring_of-no_q, stripe_q-apart, stripe_q-some, stripe_q-none}
use Rattle.raid_layout.proofs.row_of.Goals as goal
use Rattle.raid_layout.proofs.row_of.Goals.{then-ring-shape, else-ring-shape+then-ring-eq2, else-ring-shape+else-ring-eq2}

q_apart : (shape : Shape) → is_valid_shape shape ≡ true → (s p : ℕ) (q : Option ℕ) → q ≡ stripe_q shape s → p ≡ stripe_p shape s
    → IfSome q (λ q. (q < shape.disks) × (q ≢ p))
q_apart shape valid s p None q_is p_is = tt
q_apart shape valid s p (Some q) q_is p_is = rw p_is (stripe_q-apart shape valid s q (sym q_is))

q_level : (shape : Shape) → is_valid_shape shape ≡ true → (s : ℕ) (q : Option ℕ) → q ≡ stripe_q shape s → IsSome q ↔ (shape.level ≡ 6)
q_level shape valid s q q_is = elim (limited shape valid).level [
  | inl five ↦ (λ some. absurd (no_some q some (q_is ∙ stripe_q-none shape s five)), λ six. absurd (omega (arith, five, six)))
  | inr six ↦ (λ some. six, λ _. is_some q (stripe_q-some shape valid s six).0 (q_is ∙ (stripe_q-some shape valid s six).1))
]
  where
    no_some : (q : Option ℕ) → IsSome q → q ≡ None → ⊥
    no_some q some none = subst (λ q. IsSome q → ⊥) (sym none) (λ h. absurd (cc)) some

    is_some : (q : Option ℕ) (r : ℕ) → q ≡ Some r → IsSome q
    is_some q r e = subst (λ q. IsSome q) (sym e) refl

module _ (c : goal.Joined-ring-shape) where
  ring_is : IsRingOf c.args.shape.now c.of-ring.result.layout c.of-ring.result.disks c.of-ring.result.parities
  ring_is = record { layout = c.of-ring.ensures.layout; disks = c.of-ring.ensures.disks; sum = c.of-ring.ensures.data_disks }

  p_is : c.p-p.result ≡ stripe_p c.args.shape.now (c.args.row / c.args.shape.now.chunk)
  p_is = c.p-p.ensures.role ∙ ring_of-p c.args.shape.now c.of-ring.result.layout c.of-ring.result.disks c.of-ring.result.parities ring_is _

  q_is : c.if-ring-shape.q ≡ stripe_q c.args.shape.now (c.args.row / c.args.shape.now.chunk)
  q_is = elim c.if-ring-shape.branch [
    | then-ring-shape w ↦ w.q-is ∙ sym (ring_of-last_q c.args.shape.now c.requires.shape _ _ _ ring_is _ w.if-ring-shape.true)
    | else-ring-shape+then-ring-eq2 w ↦ w.q-is ∙ sym (ring_of-next_q c.args.shape.now c.requires.shape _ _ _ _ ring_is _ w.if-ring-eq2.true p_is)
    | else-ring-shape+else-ring-eq2 w ↦ w.q-is ∙ sym (ring_of-no_q c.args.shape.now c.requires.shape _ _ _ ring_is _ w.if-ring-shape.false w.if-ring-eq2.false)
  ]

pub returns-clause-q : goal.returns-clause-q
returns-clause-q c = q_apart c.args.shape.now c.requires.shape _ _ _ (q_is c) (p_is c)

pub returns-clause-level : goal.returns-clause-level
returns-clause-level c = q_level c.args.shape.now c.requires.shape _ _ (q_is c)
