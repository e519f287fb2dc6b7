use Rattle.std.proofs.Common.{◌≡◌, ℕ, ◌+◌, ◌-◌, ◌*◌, ◌/◌, ◌%◌, ◌^◌, ◌<◌, ◌≤◌, inl, inr, Option, Some, None, nat_eq, true, sym, subst, ap, ◌∙◌, arith}
use Rattle.std.specs.Option.{option_eq}
use Rattle.std.proofs.lemmas.Bool.Decides.{nat_tests}
use Rattle.std.proofs.lemmas.Nat.{mod_below, div-add-mod'}
use Rattle.raid_types.specs.declared.places.Shape.{Shape}
use Rattle.raid_types.specs.declared.places.Place.{Place}
use Rattle.raid_types.specs.Shapes.{is_valid_shape, data_disks}
use Rattle.raid_layout.specs.Layout.{data_role, stripe_p, stripe_data, row_roles, IsParity, place}
use Rattle.raid_layout.proofs.Limits.{IsLimited, limited}
use Rattle.raid_layout.proofs.Stripes.{IsRingOf, ring_of-data, ring_of-data_role}
use Rattle.raid_layout.proofs.Places.{chunk_some, place-sector, place-only, place-apart, sector-fits}
use Rattle.raid_layout.proofs.at.Goals as goal
use Rattle.raid_layout.proofs.at.Goals.{then-role-roles-via-then-role-roles, then-role-roles-via-else-role-roles+then-eq}

equal : (q : Option ℕ) (r : ℕ) → option_eq nat_eq q (Some r) ≡ true → q ≡ Some r
equal None r h = absurd (cc)
equal (Some a) r h = ap (λ a. Some a) (same a r h)
  where
    same : (a r : ℕ) → nat_eq a r ≡ true → a ≡ r
    same a r h = grind (arith, nat_tests)

module _ (c : goal.Joined-then-role-roles) where
  parity : IsParity (row_roles c.args.shape.now c.args.row) c.args.role
  parity = elim c.then-role-roles.branch [
    | then-role-roles-via-then-role-roles w ↦ inl (w.if-role-roles.true ∙ ap (λ r. r.p) c.row_of-roles.ensures.roles)
    | then-role-roles-via-else-role-roles+then-eq w ↦ inr (sym (ap (λ r. r.q) c.row_of-roles.ensures.roles) ∙ equal _ _ (sym w.eq.ensures ∙ w.if-eq.true))
  ]

pub returns-then-role-roles-clause-stands : goal.returns-then-role-roles-clause-stands
returns-then-role-roles-clause-stands c x same = place-apart c.args.shape.now c.requires.shape c.args.role c.args.row (parity c) x same

pub returns-then-role-roles-clause-back : goal.returns-then-role-roles-clause-back
returns-then-role-roles-clause-back c x same = absurd (place-apart c.args.shape.now c.requires.shape c.args.role c.args.row (parity c) x same)

-- the code's sector stands on the role in the row
placed : (shape : Shape) → is_valid_shape shape ≡ true → (row role l n k d p i : ℕ) → IsRingOf shape l n k → d ≡ n - k → i < n - k
    → p ≡ stripe_p shape (row / shape.chunk) → data_role l n k p i ≡ role
    → place shape ((row / shape.chunk * d + i) * shape.chunk + row % shape.chunk) ≡ record { role = role; row = row }
placed shape valid row role l n k d p i ring d_is below p_is role_is =
    let d_there : d ≡ data_disks shape = d_is ∙ ring_of-data shape l n k ring in
    let fits : i < data_disks shape = subst (λ d. i < d) (ring_of-data shape l n k ring) below in
    let role_there : stripe_data shape (row / shape.chunk) i ≡ role =
    sym (ring_of-data_role shape valid l n k ring (row / shape.chunk) i) ∙ ap (λ p. data_role l n k p i) (sym p_is) ∙ role_is in
    ap (λ d. place shape ((row / shape.chunk * d + i) * shape.chunk + row % shape.chunk)) d_there
    ∙ place-sector shape (row / shape.chunk) i (row % shape.chunk) fits (mod_below row shape.chunk (chunk_some shape valid))
    ∙ as_place _ role _ row role_there (div-add-mod' row shape.chunk)
  where
    as_place : (a b m n : ℕ) → a ≡ b → m ≡ n → (let p : Place = record { role = a; row = m } in p) ≡ record { role = b; row = n }
    as_place a b m n e f = cc

module _ (c : goal.After-data) where
  limits : IsLimited c.args.shape.now
  limits = limited c.args.shape.now c.requires.shape

  sector : (c.args.row / c.args.shape.now.chunk * c.data.result + c.data_index-index.result) * c.args.shape.now.chunk + c.args.row % c.args.shape.now.chunk < 2 ^ 58
  sector = let few : c.data.result ≤ 16 = omega (arith, c.data.ensures, c.of-ring.result.few) in
      sector-fits c.args.row c.args.shape.now.chunk c.data.result c.data_index-index.result c.requires.row limits.chunk.1 few
      (omega (arith, c.data.ensures, c.data_index-index.ensures.below))

  stands : place c.args.shape.now ((c.args.row / c.args.shape.now.chunk * c.data.result + c.data_index-index.result) * c.args.shape.now.chunk + c.args.row % c.args.shape.now.chunk)
      ≡ record { role = c.args.role; row = c.args.row }
  stands = placed c.args.shape.now c.requires.shape c.args.row c.args.role c.of-ring.result.layout c.of-ring.result.disks c.of-ring.result.parities c.data.result
      c.row_of-roles.result.p c.data_index-index.result
      (record { layout = c.of-ring.ensures.layout; disks = c.of-ring.ensures.disks; sum = c.of-ring.ensures.data_disks })
      c.data.ensures c.data_index-index.ensures.below (ap (λ r. r.p) c.row_of-roles.ensures.roles) c.data_index-index.ensures.role

pub overflow_mul-result-2 : goal.overflow_mul-result-2
overflow_mul-result-2 c = let h : _ < 2 ^ 58 = sector c in omega (arith, h)

pub overflow_add-result-2 : goal.overflow_add-result-2
overflow_add-result-2 c = let h : _ < 2 ^ 58 = sector c in omega (arith, h)

pub returns-clause-stands : goal.returns-clause-stands
returns-clause-stands c = stands c

pub returns-clause-back : goal.returns-clause-back
returns-clause-back c x same = ap (λ x. Some x) (place-only c.args.shape.now c.requires.shape _ x (stands c ∙ sym same))
