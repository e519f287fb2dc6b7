-- Sectors and their places: one place for each sector, and a sector for each place without parity.
use Rattle.std.proofs.Common.{◌≡◌, ◌≢◌, ℕ, ◌+◌, ◌*◌, ◌^◌, ◌/◌, ◌%◌, ◌<◌, ◌≤◌, ◌⊎◌, inl, inr, true, Option, Some, None, sym, ◌∙◌, ap, subst, arith}
use Rattle.std.proofs.lemmas.Bool.{cases_eq}
use Rattle.std.proofs.lemmas.Bool.Decides.{nat_tests}
use Rattle.std.proofs.Math.Nat.{div-mul-le_self, mod-le}
use Rattle.std.proofs.lemmas.Nat.{mul-le, mod_below, div-mul-add, mod-mul-add, div-add-mod', same_from_place, mul-add-lt, div_below}
use Rattle.raid_types.specs.declared.places.Shape.{Shape}
use Rattle.raid_types.specs.declared.places.Place.{Place}
use Rattle.raid_types.specs.declared.places.RowRoles.{RowRoles}
use Rattle.raid_types.specs.Shapes.{is_valid_shape, is_multiple, data_disks}
use Rattle.raid_layout.specs.Layout.{stripe_p, stripe_q, stripe_data, row_roles, stripe_of, data_index, place, IsParity}
use Rattle.raid_layout.proofs.Limits.{IsLimited, limited}
use Rattle.raid_layout.proofs.Stripes.{ring, stripe_roles, stripe_data-below, stripe_data-only, stripe_data-not_parity, data_on, stripe_p-below, stripe_q-apart}

pub chunk_some : (shape : Shape) → is_valid_shape shape ≡ true → 0 < shape.chunk
chunk_some shape valid = let limits : IsLimited shape = limited shape valid in omega (arith, limits.chunk.0)

pub data_some : (shape : Shape) → is_valid_shape shape ≡ true → 0 < data_disks shape
data_some shape valid = (ring shape valid).has_data

pub data_index-below : (shape : Shape) → is_valid_shape shape ≡ true → (x : ℕ) → data_index shape x < data_disks shape
data_index-below shape valid x = mod_below (x / shape.chunk) (data_disks shape) (data_some shape valid)

-- the sector that is so far into the chunk of this data of a stripe
abbrev pub sector_at : Shape → ℕ → ℕ → ℕ → ℕ
sector_at shape s i o = (s * data_disks shape + i) * shape.chunk + o

pub sector_at-parts : (shape : Shape) (x : ℕ) → sector_at shape (stripe_of shape x) (data_index shape x) (x % shape.chunk) ≡ x
sector_at-parts shape x =
    ap (λ a. a * shape.chunk + x % shape.chunk) (div-add-mod' (x / shape.chunk) (data_disks shape)) ∙ div-add-mod' x shape.chunk

chunk_of-sector : (shape : Shape) (s i o : ℕ) → o < shape.chunk → sector_at shape s i o / shape.chunk ≡ s * data_disks shape + i
chunk_of-sector shape s i o h = div-mul-add (s * data_disks shape + i) shape.chunk o h

pub stripe_of-sector : (shape : Shape) (s i o : ℕ) → i < data_disks shape → o < shape.chunk → stripe_of shape (sector_at shape s i o) ≡ s
stripe_of-sector shape s i o hi ho = ap (λ a. a / data_disks shape) (chunk_of-sector shape s i o ho) ∙ div-mul-add s (data_disks shape) i hi

pub data_index-sector : (shape : Shape) (s i o : ℕ) → i < data_disks shape → o < shape.chunk → data_index shape (sector_at shape s i o) ≡ i
data_index-sector shape s i o hi ho = ap (λ a. a % data_disks shape) (chunk_of-sector shape s i o ho) ∙ mod-mul-add s (data_disks shape) i hi

place_from : (shape : Shape) (s s' i i' o o' : ℕ) → s ≡ s' → i ≡ i' → o ≡ o'
    → (let p : Place = record { role = stripe_data shape s i; row = s * shape.chunk + o } in p) ≡ record { role = stripe_data shape s' i'; row = s' * shape.chunk + o' }
place_from shape s s' i i' o o' e f g = cc

pub place-sector : (shape : Shape) (s i o : ℕ) → i < data_disks shape → o < shape.chunk
    → place shape (sector_at shape s i o) ≡ record { role = stripe_data shape s i; row = s * shape.chunk + o }
place-sector shape s i o hi ho =
    place_from shape _ s _ i _ o (stripe_of-sector shape s i o hi ho) (data_index-sector shape s i o hi ho) (mod-mul-add (s * data_disks shape + i) shape.chunk o ho)

-- the stripe of a sector is that of its row
pub stripe_of-row : (shape : Shape) → is_valid_shape shape ≡ true → (x : ℕ) → (place shape x).row / shape.chunk ≡ stripe_of shape x
stripe_of-row shape valid x = div-mul-add (stripe_of shape x) shape.chunk (x % shape.chunk) (mod_below x shape.chunk (chunk_some shape valid))

pub place-role_below : (shape : Shape) → is_valid_shape shape ≡ true → (x : ℕ) → (place shape x).role < shape.disks
place-role_below shape valid x = stripe_data-below shape valid (stripe_of shape x) (data_index shape x) (data_index-below shape valid x)

pub place-not_parity : (shape : Shape) → is_valid_shape shape ≡ true → (x : ℕ) → ¬ IsParity (row_roles shape (place shape x).row) (place shape x).role
place-not_parity shape valid x =
    subst (λ s. ¬ IsParity (stripe_roles shape s) (place shape x).role) (sym (stripe_of-row shape valid x))
    (stripe_data-not_parity shape valid (stripe_of shape x) (data_index shape x) (data_index-below shape valid x))

-- the rows of so many whole stripes hold the first sectors
row_below : (x c d m : ℕ) → 0 < c → 0 < d → x < d * (m * c) → x / c / d * c + x % c < m * c
row_below x c d m hc hd h =
    let chunks : x / c < m * d = div_below x c (m * d) hc (omega (arith, h, turned)) in
    omega (arith, mul-add-lt (x / c / d) c (x % c) m (div_below (x / c) d m hd chunks) (mod_below x c hc))
  where
    turned : d * (m * c) ≡ m * d * c
    turned = omega arith

whole_size : (n c : ℕ) → is_multiple n c ≡ true → n / c * c ≡ n
whole_size n c h = grind (arith, nat_tests)

pub place-row_below : (shape : Shape) → is_valid_shape shape ≡ true → (x size : ℕ) → is_multiple size shape.chunk ≡ true → x < data_disks shape * size
    → (place shape x).row < size
place-row_below shape valid x size whole h =
    let e : size / shape.chunk * shape.chunk ≡ size = whole_size size shape.chunk whole in
    subst (λ n. (place shape x).row < n) e
    (row_below x shape.chunk (data_disks shape) (size / shape.chunk) (chunk_some shape valid) (data_some shape valid)
    (subst (λ n. x < data_disks shape * n) (sym e) h))

place_role : (p q : Place) → p ≡ q → p.role ≡ q.role
place_role p q e = ap (λ p. p.role) e

place_row : (p q : Place) → p ≡ q → p.row ≡ q.row
place_row p q e = ap (λ p. p.row) e

-- two sectors with one place are one
pub place-only : (shape : Shape) → is_valid_shape shape ≡ true → (x y : ℕ) → place shape x ≡ place shape y → x ≡ y
place-only shape valid x y same =
    let rows : (stripe_of shape x ≡ stripe_of shape y) × (x % shape.chunk ≡ y % shape.chunk) =
    same_from_place (stripe_of shape x) (x % shape.chunk) (stripe_of shape y) (y % shape.chunk) shape.chunk
    (mod_below x shape.chunk (chunk_some shape valid)) (mod_below y shape.chunk (chunk_some shape valid)) (place_row _ _ same) in
    let index : data_index shape x ≡ data_index shape y =
    stripe_data-only shape valid (stripe_of shape x) (data_index shape x) (data_index shape y) (data_index-below shape valid x) (data_index-below shape valid y)
    (place_role _ _ same ∙ ap (λ s. stripe_data shape s (data_index shape y)) (sym rows.0)) in
    sym (sector_at-parts shape x) ∙ from_parts (stripe_of shape x) (stripe_of shape y) (data_index shape x) (data_index shape y) (x % shape.chunk) (y % shape.chunk) rows.0 index rows.1
    ∙ sector_at-parts shape y
  where
    from_parts : (s s' i i' o o' : ℕ) → s ≡ s' → i ≡ i' → o ≡ o' → sector_at shape s i o ≡ sector_at shape s' i' o'
    from_parts s s' i i' o o' e f g = cc

-- a role that has no parity in a row has a sector there
pub place-from : (shape : Shape) → is_valid_shape shape ≡ true → (r row : ℕ) → r < shape.disks → ¬ IsParity (row_roles shape row) r
    → (x : ℕ) × (place shape x ≡ record { role = r; row = row })
place-from shape valid r row h no_parity =
    let found : (i : ℕ) × (i < data_disks shape) × (stripe_data shape (row / shape.chunk) i ≡ r) = data_on shape valid (row / shape.chunk) r h no_parity in (
      sector_at shape (row / shape.chunk) found.0 (row % shape.chunk),
      place-sector shape (row / shape.chunk) found.0 (row % shape.chunk) found.1 (mod_below row shape.chunk (chunk_some shape valid))
          ∙ as_place _ r _ row found.2 (div-add-mod' row shape.chunk),
    )
  where
    as_place : (a b m n : ℕ) → a ≡ b → m ≡ n → (let p : Place = record { role = a; row = m } in p) ≡ record { role = b; row = n }
    as_place a b m n e f = cc

-- no sector stands on parity
pub place-apart : (shape : Shape) → is_valid_shape shape ≡ true → (r row : ℕ) → IsParity (row_roles shape row) r → (x : ℕ) → place shape x ≢ record { role = r; row = row }
place-apart shape valid r row parity x same = place-not_parity shape valid x
    (elim parity [
      | inl p ↦ inl (place_role _ _ same ∙ p ∙ ap (λ n. stripe_p shape (n / shape.chunk)) (sym (place_row _ _ same)))
      | inr q ↦ inr (ap (λ n. stripe_q shape (n / shape.chunk)) (place_row _ _ same) ∙ q ∙ ap (λ r. Some r) (sym (place_role _ _ same)))
    ])

-- the number of a sector fits 64 bits, where its row is below 2 ^ 53
pub sector-fits : (row c d i : ℕ) → row < 2 ^ 53 → c ≤ 1024 → d ≤ 16 → i < d → (row / c * d + i) * c + row % c < 2 ^ 58
sector-fits row c d i hr hc hd hi =
    let whole : row / c * c ≤ row = div-mul-le_self row c in
    let rows : row / c * c * d ≤ row * 16 = mul-le (row / c * c) d row 16 whole hd in
    let chunks : i * c ≤ 16 * 1024 = mul-le i c 16 1024 (omega arith) hc in
    let rest : row % c ≤ row = mod-le row c in
    let same : (row / c * d + i) * c ≡ row / c * c * d + i * c = omega arith in
    omega (arith, whole, rows, chunks, rest, same)

-- the sectors in rows below the size are the first ones
first_sector : (s i o c d m : ℕ) → i < d → o < c → s * c + o < m * c → (s * d + i) * c + o < d * (m * c)
first_sector s i o c d m hi ho h =
    let stripes : (s * c + o) / c < m = div_below (s * c + o) c m (omega arith) h in
    let stripe : s < m = subst (λ a. a < m) (div-mul-add s c o ho) stripes in
    let chunks : s * d + i < d * m = mul-add-lt s d i m stripe hi in
    let sectors : (s * d + i) * c + o < c * (d * m) = mul-add-lt (s * d + i) c o (d * m) chunks ho in
    omega (arith, sectors)

pub place-sector_below : (shape : Shape) → is_valid_shape shape ≡ true → (x size : ℕ) → is_multiple size shape.chunk ≡ true → (place shape x).row < size
    → x < data_disks shape * size
place-sector_below shape valid x size whole h =
    let e : size / shape.chunk * shape.chunk ≡ size = whole_size size shape.chunk whole in
    subst (λ n. x < data_disks shape * n) e
    (subst (λ y. y < data_disks shape * (size / shape.chunk * shape.chunk)) (sector_at-parts shape x)
    (first_sector (stripe_of shape x) (data_index shape x) (x % shape.chunk) shape.chunk (data_disks shape) (size / shape.chunk)
    (data_index-below shape valid x) (mod_below x shape.chunk (chunk_some shape valid)) (subst (λ n. (place shape x).row < n) (sym e) h)))

-- each role of a row has parity or a sector
pub parity-or_sector : (shape : Shape) → is_valid_shape shape ≡ true → (r row : ℕ) → r < shape.disks
    → IsParity (row_roles shape row) r ⊎ ((x : ℕ) × (place shape x ≡ record { role = r; row = row }))
parity-or_sector shape valid r row h = elim (parity-or_not (row_roles shape row) r) [ inl there ↦ inl there | inr absent ↦ inr (place-from shape valid r row h absent) ]
  where
    q_or_not : (q : Option ℕ) (r : ℕ) → (q ≡ Some r) ⊎ (q ≡ Some r → ⊥)
    q_or_not None r = inr (λ h. absurd (cc))
    q_or_not (Some q) r = elim (cases_eq q r) [ inl e ↦ inl (ap (λ q. Some q) e) | inr ne ↦ inr (λ h. ne (inner q r h)) ]
      where
        inner : (a b : ℕ) → Some a ≡ Some b → a ≡ b
        inner a b h = cc

    parity-or_not : (roles : RowRoles) (r : ℕ) → IsParity roles r ⊎ ¬ IsParity roles r
    parity-or_not roles r = elim (cases_eq r roles.p) [
      | inl p ↦ inl (inl p)
      | inr not_p ↦ elim (q_or_not roles.q r) [ inl q ↦ inl (inr q) | inr not_q ↦ inr (λ h. elim h [ inl p ↦ not_p p | inr q ↦ not_q q ]) ]
    ]

-- the parity roles of each row
pub row_roles-p_below : (shape : Shape) → is_valid_shape shape ≡ true → (row : ℕ) → (row_roles shape row).p < shape.disks
row_roles-p_below shape valid row = stripe_p-below shape valid (row / shape.chunk)

pub row_roles-q_apart : (shape : Shape) → is_valid_shape shape ≡ true → (row q : ℕ) → (row_roles shape row).q ≡ Some q → (q < shape.disks) × (q ≢ (row_roles shape row).p)
row_roles-q_apart shape valid row q e = stripe_q-apart shape valid (row / shape.chunk) q e
