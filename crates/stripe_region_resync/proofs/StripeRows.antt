-- The rows of a stripe of a region: which sectors of the list stand in them, and which are behind its end.
use Rattle.std.proofs.Common.{◌≡◌, ◌⊎◌, inl, inr, ℕ, ◌+◌, ◌*◌, ◌<◌, ◌≤◌, nat_lt, min, Bool, true, false, if◌then◌else◌, Some, sym, ◌∙◌, ap, subst, arith}
use Rattle.std.proofs.lemmas.Bool.{cases_lt}
use Rattle.std.proofs.lemmas.Bool.Decides.{nat_tests}
use Rattle.std.proofs.lemmas.Nat.{mul-le}
use Rattle.reshape_request.specs.raid_types_the_Shape.{Shape}
use Rattle.reshape_request.specs.raid_types_the_Side_TheVariants.{Old, New}
use Rattle.reshape_request.specs.raid_types_Shapes.{is_valid_shape, data_disks, stripe_sectors}
use Rattle.reshape_request.specs.sb_codec_the_Sb.{Sb}
use Rattle.reshape_request.specs.raid_layout_Layout.{place}
use Rattle.reshape_request.proofs.raid_layout_Places.{chunk_some}
use Rattle.reshape_request.specs.reshape_geometry_Geometry.{side, ceiling}
use Rattle.reshape_request.specs.sb_specs_Reading.{is_reshaping, is_backward, final_shape, list_length}
use Rattle.stripe_region_write.specs.history_Stands.{shape_for}
use Rattle.stripe_region_write.specs.crash_views_Regions.{AreShapesFit, place_by}
use Rattle.stripe_region_write.specs.crash_views_Views.{IsTail}
use Rattle.stripe_region_write.proofs.crash_views_UnderWay.{shape-on}
use Rattle.stripe_region_write.specs.array_members_Lacking.{IsOfStripe}
use Rattle.stripe_region_write.proofs.array_members_Fit.{force-valid}
use Rattle.stripe_region_write.proofs.array_members_Stripes.{stripes-multiple, row-beyond, row-in_stripes, sector-in_stripes, of_stripe-touched}
use Rattle.stripe_region_write.proofs.Together.{rows-together, together-shape}
use Rattle.stripe_region_resync.specs.declared.stripes.Stripe.{Stripe}
use Rattle.stripe_region_resync.specs.Mends.{low_end, low_shape, low_stripes, resync_stripes, stripe_after, first_sector, relied_sector, IsResyncRow}
use Rattle.stripe_region_resync.specs.Laws.{IsSyncedNext, ResyncsAreListed}
use Rattle.stripe_region_write.proofs.Sides.{low-valid, high-some, low-is, low-fits, low-ends, low-before}
use Rattle.stripe_region_resync.proofs.StripeLaws.{behind-low, behind-high, high-from, high-within, is-next}
use Rattle.stripe_region_resync.proofs.ReliedLaws.{relied-within}

turn : (d c q : ℕ) → d * (q * c) ≡ q * (c * d)
turn d c q = omega arith

turn-next : (d c q : ℕ) → d * ((q + 1) * c) ≡ q * (c * d) + c * d
turn-next d c q = omega arith

-- ---- a stripe of a shape

module _ (shape : Shape) (valid : is_valid_shape shape ≡ true) (at x : ℕ) where
  -- its sectors stand in its rows
  pub in-stripe : at * stripe_sectors shape ≤ x → x < at * stripe_sectors shape + stripe_sectors shape → IsOfStripe shape at (place shape x).row
  in-stripe from to =
      let first = turn (data_disks shape) shape.chunk at in
      let last = turn-next (data_disks shape) shape.chunk at in (
        row-beyond shape valid x (at * shape.chunk) (stripes-multiple at shape.chunk (chunk_some shape valid)) (omega (arith, from, first)),
        row-in_stripes shape valid x (at + 1) (omega (arith, to, last)),
      )

  -- and no others do
  pub of-stripe : IsOfStripe shape at (place shape x).row → (at * stripe_sectors shape ≤ x) × (x < at * stripe_sectors shape + stripe_sectors shape)
  of-stripe is =
      let low = is.0 in
      let first = turn (data_disks shape) shape.chunk at in
      let last = turn-next (data_disks shape) shape.chunk at in
      let under = sector-in_stripes shape valid x (at + 1) is.1 in (
        elim (cases_lt x (at * stripe_sectors shape)) [
          | inl before ↦ absurd (let row = row-in_stripes shape valid x at (omega (arith, before, first)) in omega (arith, row, low))
          | inr from ↦ from
        ],
        omega (arith, under, last),
      )

-- a row is one of a stripe's, or it isn't
pub of-stripe-or : (shape : Shape) (at row : ℕ) → IsOfStripe shape at row ⊎ (IsOfStripe shape at row → ⊥)
of-stripe-or shape at row = elim (cases_lt row (at * shape.chunk)) [
  | inl before ↦ inr (λ is. absurd (let low = is.0 in omega (arith, before, low)))
  | inr from ↦ elim (cases_lt row ((at + 1) * shape.chunk)) [
    | inl under ↦ inl (from, under)
    | inr past ↦ inr (λ is. absurd (let high = is.1 in omega (arith, past, high)))
  ]
]

-- ---- the one that is mended next

module _ (newest : Sb) (fit : AreShapesFit newest) (mended : ℕ) (lt : mended < resync_stripes newest) where
  abbrev next : Stripe
  next = stripe_after newest mended

  is : IsSyncedNext newest mended (stripe_after newest mended)
  is = is-next newest fit mended lt

  pub next-valid : is_valid_shape next.shape ≡ true
  next-valid = force-valid newest fit next.shape is.force

  -- parity is relied on from its first sector to its last one of the list
  pub next-within : relied_sector newest (Some (mended + 1)) ≤ list_length newest
  next-within = relied-within newest fit (mended + 1) (omega (arith, lt))

  pub next-some : first_sector next < relied_sector newest (Some (mended + 1))
  next-some = let chunk = is.chunk in let some = chunk_some next.shape next-valid in omega (arith, chunk, some)

  -- these sectors stand in its rows, by its shape
  pub next-row : (x : ℕ) → relied_sector newest (Some mended) ≤ x → x < relied_sector newest (Some (mended + 1)) → IsResyncRow newest mended (place next.shape x).row
  next-row x from to =
      let begins = is.begins in
      let ends = is.ends in
      in-stripe next.shape next-valid next.at x (omega (arith, from, begins)) (let most = lower (first_sector next + stripe_sectors next.shape) (list_length newest) in omega (arith, to, ends, most))
    where
      lower : (a b : ℕ) → min a b ≤ a
      lower a b = omega arith

  -- a sector of the list that its shape places there is one of them
  pub next-sector : (y : ℕ) → y < list_length newest → IsResyncRow newest mended (place next.shape y).row → (relied_sector newest (Some mended) ≤ y) × (y < relied_sector newest (Some (mended + 1)))
  next-sector y y-in at =
      let here = of-stripe next.shape next-valid next.at y at in
      let low = here.0 in
      let high = here.1 in
      let begins = is.begins in
      let ends = is.ends in
      (omega (arith, low, begins), omega (arith, high, ends, y-in))

  -- each of its rows has one
  pub next-has : (row : ℕ) → IsResyncRow newest mended row → (z : ℕ) × (first_sector next ≤ z) × (z < relied_sector newest (Some (mended + 1))) × ((place next.shape z).row ≡ row)
  next-has row at =
      let low = at.0 in
      let high = at.1 in
      let more = one-more next.at next.shape.chunk in
      let touch = of_stripe-touched next.shape next-valid next.at 0 next.shape.chunk (omega arith) row (omega (arith, low)) (omega (arith, high, more)) in
      let from = touch.1 in
      let to = touch.2 in
      let chunk = is.chunk in
      let turned = turned-first (data_disks next.shape) next.shape.chunk next.at in
      (touch.0, omega (arith, from, turned), omega (arith, to, turned, chunk), touch.3)
    where
      one-more : (k s : ℕ) → (k + 1) * s ≡ k * s + s
      one-more k s = omega arith

      turned-first : (d c q : ℕ) → q * (d * c) ≡ q * (c * d)
      turned-first d c q = omega arith

  -- each sector of the list that stands there is placed by that shape
  pub next-region : (x : ℕ) → x < list_length newest → IsResyncRow newest mended (place_by newest x).row → shape_for newest x ≡ next.shape
  next-region x x-in at =
      let z = next-has (place_by newest x).row at in
      let own : shape_for newest z.0 ≡ next.shape = is.own z.0 z.1 z.2 in
      let z-in : z.0 < list_length newest = (let to = z.2 in let within = next-within in omega (arith, to, within)) in
      together-shape newest z.0 x (rows-together newest fit z.0 x z-in x-in (ap (λ (s : Shape). (place s z.0).row) own ∙ z.3)) ∙ own

  -- and each that it would place there
  pub next-mate : (y : ℕ) → y < list_length newest → IsResyncRow newest mended (place next.shape y).row → shape_for newest y ≡ next.shape
  next-mate y y-in at = let here = next-sector y y-in at in is.own y (let from = here.0 in let begins = is.begins in omega (arith, from, begins)) here.1

  -- none stands there below what is relied on already
  pub next-behind : (x : ℕ) → x < list_length newest → x < relied_sector newest (Some mended) → IsResyncRow newest mended (place_by newest x).row → ⊥
  next-behind x x-in below at =
      let own = next-region x x-in at in
      let here = next-sector x x-in (subst (λ (s : Shape). IsResyncRow newest mended (place s x).row) own at) in
      let from = here.0 in
      absurd (omega (arith, below, from))

  -- ---- behind the list's end

  -- it is of the lower region where its shape has places there
  pub next-past : (y : ℕ) → list_length newest ≤ y → IsResyncRow newest mended (place next.shape y).row → (next.shape ≡ low_shape newest) × (next.at < low_stripes newest)
  next-past y past at = elim (cases_lt mended (low_stripes newest)) [
    | inl low ↦ (
        let same = behind-low newest mended low in
        (ap (λ (s : Stripe). s.shape) same, subst (λ (n : ℕ). n < low_stripes newest) (sym (ap (λ (s : Stripe). s.at) same)) low))
    | inr high ↦ absurd (
        let here = (of-stripe next.shape next-valid next.at y at).1 in
        let within = high-end high in
        omega (arith, here, past, within))
  ]
    where
      high-end : low_stripes newest ≤ mended → first_sector next + stripe_sectors next.shape ≤ list_length newest
      high-end high = subst (λ (s : Stripe). first_sector s + stripe_sectors s.shape ≤ list_length newest) (sym (behind-high newest mended high)) (high-within newest fit mended high lt)

  -- and so it is where the lower region's last stripe has some there
  pub next-ended : (x : ℕ) → list_length newest ≤ x → (place (low_shape newest) x).row < low_stripes newest * (low_shape newest).chunk → next.shape ≡ low_shape newest
  next-ended x past under = elim (cases_lt mended (low_stripes newest)) [
    | inl low ↦ ap (λ (s : Stripe). s.shape) (behind-low newest mended low)
    | inr high ↦ absurd (
        let turned = turn (data_disks (low_shape newest)) (low_shape newest).chunk (low_stripes newest) in
        let near = sector-in_stripes (low_shape newest) (low-valid newest fit) x (low_stripes newest) under in
        let from = high-from newest fit mended high lt in
        let within = high-within newest fit mended high lt in
        let some = high-some newest fit in
        elim (low-ends newest fit) [
          | inl whole ↦ (let fits = low-fits newest fit in omega (arith, turned, near, whole, fits, past))
          | inr last ↦ omega (arith, from, within, some, last)
        ])
  ]

  -- where the reshape has gone through and a tail is behind the list, it is of the new shape
  pub next-tail : (x : ℕ) → IsTail newest x → next.shape ≡ final_shape newest
  next-tail x tail =
      let some = next-some in
      let within = next-within in
      let through = tail.through in
      let low : first_sector next < newest.reshape_position = omega (arith, some, within, through) in
      sym (is.own (first_sector next) (omega arith) next-some)
      ∙ shape-on newest tail.active (first_sector next) New
      (ap (λ (b : Bool). side b newest.reshape_position (first_sector next)) tail.forth ∙ ap (λ (b : Bool). if b then New else Old) (lt-is (first_sector next) newest.reshape_position low))
    where
      lt-is : (a b : ℕ) → a < b → nat_lt a b ≡ true
      lt-is a b lt = grind (arith, nat_tests, lt)

-- ---- behind a forward reshape's last window

pub mends-are-listed : ResyncsAreListed
mends-are-listed newest mended row fit active forth through lt at = elim (cases_lt mended (low_stripes newest)) [
  | inl low ↦ (
      let low-row : IsOfStripe (low_shape newest) mended row = subst (λ (s : Stripe). IsOfStripe s.shape s.at row) (behind-low newest mended low) at in
      let high = low-row.1 in
      let all = mul-le (mended + 1) (low_shape newest).chunk (low_stripes newest) (low_shape newest).chunk (omega (arith, low)) (omega arith) in
      let under : row < low_stripes newest * (low_shape newest).chunk = omega (arith, high, all) in
      let end : low_end newest ≡ list_length newest = low-is newest fit active ∙ through in
      subst (λ (s : Shape). row < ceiling (list_length newest) (stripe_sectors s) * s.chunk) (new-below newest fit active forth through mended low)
      (subst (λ (n : ℕ). row < ceiling n (stripe_sectors (low_shape newest)) * (low_shape newest).chunk) end under))
  | inr high ↦ absurd (
      let from = high-from newest fit mended high lt in
      let within = high-within newest fit mended high lt in
      let some = high-some newest fit in
      let end : low_end newest ≡ list_length newest = low-is newest fit active ∙ through in
      omega (arith, from, within, some, end))
]
  where
    lt-is : (a b : ℕ) → a < b → nat_lt a b ≡ true
    lt-is a b lt = grind (arith, nat_tests, lt)

    -- the list's first sector is of the new shape
    new-below : (newest : Sb) (fit : AreShapesFit newest) → is_reshaping newest ≡ true → is_backward newest ≡ false → newest.reshape_position ≡ list_length newest → (mended : ℕ) → mended < low_stripes newest
        → low_shape newest ≡ final_shape newest
    new-below newest fit active forth through mended low =
        let before = low-before newest fit mended low in
        let some = chunk_some (low_shape newest) (low-valid newest fit) in
        let same = low-is newest fit active in
        shape-on newest active 0 New (ap (λ (b : Bool). side b newest.reshape_position 0) forth ∙ ap (λ (b : Bool). if b then New else Old) (lt-is 0 newest.reshape_position (omega (arith, before, some, same))))
