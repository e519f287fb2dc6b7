use Rattle.std.proofs.Common.{◌≡◌, ℕ, ◌+◌, ◌-◌, ◌*◌, ◌/◌, ◌%◌, ◌<◌, true, sym, subst, ap, ◌∙◌}
use Rattle.raid_types.specs.declared.places.Shape.{Shape}
use Rattle.raid_types.specs.declared.places.Place.{Place}
use Rattle.raid_types.specs.Shapes.{is_valid_shape, data_disks}
use Rattle.raid_layout.specs.Layout.{p_role, data_role, stripe_p, stripe_data, stripe_of, data_index, place, row_roles, IsParity}
use Rattle.raid_layout.proofs.Stripes.{IsRingOf, ring_of-data, ring_of-p, ring_of-data_role}
use Rattle.raid_layout.proofs.Places.{place-role_below, place-not_parity, place-row_below}
use Rattle.raid_layout.proofs.place.Goals as goal

-- the code's place is the place of the definition
placed : (shape : Shape) → is_valid_shape shape ≡ true → (x l n k d p role : ℕ) → IsRingOf shape l n k → d ≡ n - k
    → p ≡ p_role l n (n - k) (x / shape.chunk / d) → role ≡ data_role l n k p (x / shape.chunk % d)
    → (let a : Place = record { role = role; row = x / shape.chunk / d * shape.chunk + x % shape.chunk } in a) ≡ place shape x
placed shape valid x l n k d p role ring data_is p_is role_is =
    let d_is : d ≡ data_disks shape = data_is ∙ ring_of-data shape l n k ring in
    let stripe : x / shape.chunk / d ≡ stripe_of shape x = ap (λ d. x / shape.chunk / d) d_is in
    let index : x / shape.chunk % d ≡ data_index shape x = ap (λ d. x / shape.chunk % d) d_is in
    let p_there : p ≡ stripe_p shape (stripe_of shape x) = p_is ∙ ring_of-p shape l n k ring _ ∙ ap (λ s. stripe_p shape s) stripe in
    let role_there : role ≡ stripe_data shape (stripe_of shape x) (data_index shape x) =
    role_is ∙ ap (λ p. data_role l n k p (x / shape.chunk % d)) p_there
    ∙ ap (λ i. data_role l n k (stripe_p shape (stripe_of shape x)) i) index
    ∙ ring_of-data_role shape valid l n k ring (stripe_of shape x) (data_index shape x) in
    joined role _ _ _ role_there stripe
  where
    joined : (a b s t : ℕ) → a ≡ b → s ≡ t → (let q : Place = record { role = a; row = s * shape.chunk + x % shape.chunk } in q) ≡ record { role = b; row = t * shape.chunk + x % shape.chunk }
    joined a b s t e f = cc

module _ (c : goal.After-data_role) where
  same : (let a : Place = record { role = c.data_role.result; row = c.args.x / c.args.shape.now.chunk / c.data-data.result * c.args.shape.now.chunk + c.args.x % c.args.shape.now.chunk } in a) ≡ place c.args.shape.now c.args.x
  same = placed c.args.shape.now c.requires.shape c.args.x c.of-ring.result.layout c.of-ring.result.disks c.of-ring.result.parities c.data-data.result c.p.result c.data_role.result
      (record { layout = c.of-ring.ensures.layout; disks = c.of-ring.ensures.disks; sum = c.of-ring.ensures.data_disks })
      c.data-data.ensures c.p.ensures.role c.data_role.ensures

pub returns-clause-place : goal.returns-clause-place
returns-clause-place c = same c

pub returns-clause-role : goal.returns-clause-role
returns-clause-role c = subst (λ a. a.role < c.args.shape.now.disks) (sym (same c)) (place-role_below c.args.shape.now c.requires.shape c.args.x)

pub returns-clause-data : goal.returns-clause-data
returns-clause-data c =
    subst (λ a. ¬ IsParity (row_roles c.args.shape.now a.row) a.role) (sym (same c)) (place-not_parity c.args.shape.now c.requires.shape c.args.x)

pub returns-clause-row : goal.returns-clause-row
returns-clause-row c size whole h = subst (λ a. a.row < size) (sym (same c)) (place-row_below c.args.shape.now c.requires.shape c.args.x size whole h)
