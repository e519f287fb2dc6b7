-- How far parity is relied on: from nowhere to the whole list, and no stripe is cut.
use Rattle.std.proofs.Common.{◌≡◌, inl, inr, ℕ, zero, suc, ◌+◌, ◌-◌, ◌*◌, ◌/◌, ◌<◌, ◌≤◌, nat_le, Bool, true, false, if◌then◌else◌, Option, Some, None, IfSome, refl, sym, ◌∙◌, ap, subst, arith}
use Rattle.std.proofs.lemmas.Bool.{cases_lt}
use Rattle.std.proofs.lemmas.Bool.Decides.{nat_tests}
use Rattle.std.proofs.lemmas.Nat.{mul-le, le-div}
use Rattle.reshape_request.specs.raid_types_the_Shape.{Shape}
use Rattle.reshape_request.specs.raid_types_Shapes.{is_valid_shape, data_disks, stripe_sectors}
use Rattle.reshape_request.specs.sb_codec_the_Sb.{Sb}
use Rattle.reshape_request.specs.raid_layout_Layout.{place}
use Rattle.reshape_request.proofs.raid_layout_Places.{chunk_some}
use Rattle.reshape_request.proofs.reshape_geometry_Divisions.{ceiling_zero, next_multiple}
use Rattle.reshape_request.proofs.reshape_geometry_Valid.{bounded}
use Rattle.reshape_request.specs.sb_specs_Reading.{is_reshaping, shape_of, list_length}
use Rattle.stripe_region_write.specs.history_Stands.{shape_for}
use Rattle.stripe_region_write.specs.crash_views_Regions.{AreShapesFit, place_by}
use Rattle.stripe_region_write.proofs.crash_views_Alike.{valid-for, for-both, row-below}
use Rattle.stripe_region_write.proofs.crash_views_Stands.{for-still}
use Rattle.stripe_region_write.specs.array_members_Placed.{IsInForce}
use Rattle.stripe_region_write.proofs.array_members_Stripes.{row-in_stripes}
use Rattle.stripe_region_write.specs.stripe_region_read_Stretches.{relied_rows}
use Rattle.stripe_region_write.proofs.stripe_region_read_StretchLaws.{relied-below}
use Rattle.stripe_region_resync.specs.declared.stripes.Stripe.{Stripe}
use Rattle.stripe_region_resync.specs.Mends.{low_end, low_shape, high_shape, low_stripes, high_stripe, resync_stripes, stripe_after, relied_sector}
use Rattle.stripe_region_resync.specs.Laws.{ReliedGrows, ReliedReaches, ReliedIsWhole, StillResyncs}
use Rattle.stripe_region_write.proofs.Sides.{low-valid, high-valid, low-some, high-some, low-none, low-own, high-own, list-stripes, high-whole, high-few, low-ends, low-before}
use Rattle.stripe_region_resync.proofs.StripeLaws.{stripe-at, behind-low, behind-high, relied-low, relied-high, relied-between, relied-low-fits, is-next}

-- the shape of each stripe is one that places sectors
pub behind-valid : (newest : Sb) → AreShapesFit newest → (mended : ℕ) → is_valid_shape (stripe_after newest mended).shape ≡ true
behind-valid newest fit mended = elim (cases_lt mended (low_stripes newest)) [
  | inl low ↦ subst (λ (s : Stripe). is_valid_shape s.shape ≡ true) (sym (behind-low newest mended low)) (low-valid newest fit)
  | inr high ↦ subst (λ (s : Stripe). is_valid_shape s.shape ≡ true) (sym (behind-high newest mended high)) (high-valid newest fit)
]

-- ---- it grows

one-further : (newest : Sb) (fit : AreShapesFit newest) (mended : ℕ) → mended < resync_stripes newest → relied_sector newest (Some mended) ≤ relied_sector newest (Some (mended + 1))
one-further newest fit mended lt = let next = is-next newest fit mended lt in let begins = next.begins in let chunk = next.chunk in omega (arith, begins, chunk)

pub relied-grows : ReliedGrows
relied-grows newest mended zero fit le few = let same : mended ≡ 0 = omega (arith, le) in subst (λ (n : ℕ). relied_sector newest (Some mended) ≤ relied_sector newest (Some n)) same (omega arith)
relied-grows newest mended (suc n) fit le few = elim (cases_lt n mended) [
  | inl same ↦ (let e : mended ≡ suc n = omega (arith, same, le) in subst (λ (k : ℕ). relied_sector newest (Some mended) ≤ relied_sector newest (Some k)) e (omega arith))
  | inr less ↦ (
      let before = relied-grows newest mended n fit less (omega (arith, few)) in
      let one = one-further newest fit n (omega (arith, few)) in
      let next : n + 1 ≡ suc n = omega arith in
      subst (λ (k : ℕ). relied_sector newest (Some mended) ≤ relied_sector newest (Some k)) next (omega (arith, before, one)))
]

-- ---- it reaches the end

module _ (newest : Sb) (fit : AreShapesFit newest) where
  from-none : relied_sector newest (Some 0) ≡ 0
  from-none = elim (cases_lt 0 (low_stripes newest)) [
    | inl some ↦ (let here = relied-low newest 0 some in omega (arith, here))
    | inr none ↦ (
        let same : 0 ≡ low_stripes newest = omega (arith, none) in
        relied-between newest fit 0 same ∙ ceiling_zero (low_end newest) (stripe_sectors (low_shape newest)) (low-some newest fit) (sym same))
  ]

  pub to-all : relied_sector newest (Some (resync_stripes newest)) ≡ list_length newest
  to-all =
      relied-high newest (resync_stripes newest) (omega arith)
      ∙ ap (λ (n : ℕ). n * stripe_sectors (high_shape newest))
      (let few = high-few newest fit in
      let last : high_stripe newest + (low_stripes newest + (newest.size / (high_shape newest).chunk - high_stripe newest) - low_stripes newest) ≡ newest.size / (high_shape newest).chunk = omega (arith, few) in last)
      ∙ sym (list-stripes newest fit)

  pub relied-within : (mended : ℕ) → mended ≤ resync_stripes newest → relied_sector newest (Some mended) ≤ list_length newest
  relied-within mended few = let grown = relied-grows newest mended (resync_stripes newest) fit few (omega arith) in let all = to-all in omega (arith, grown, all)

pub relied-reaches : ReliedReaches
relied-reaches newest fit = (from-none newest fit, to-all newest fit)

-- ---- no stripe is cut

at-most : (a b : ℕ) → a ≤ b → nat_le a b ≡ true
at-most a b le = grind (arith, nat_tests, le)

above : (a b : ℕ) → b < a → nat_le a b ≡ false
above a b lt = grind (arith, nat_tests, lt)

turn : (d c q : ℕ) → q * (c * d) ≡ d * (q * c)
turn d c q = omega arith

-- a sector of so many whole stripes has one of their rows, and no more are below this sector
row-within : (shape : Shape) → is_valid_shape shape ≡ true → (x m relied : ℕ) → x < m * stripe_sectors shape → m * stripe_sectors shape ≤ relied → (place shape x).row < relied / stripe_sectors shape * shape.chunk
row-within shape valid x m relied lt le =
    let turned = turn (data_disks shape) shape.chunk m in
    let row = row-in_stripes shape valid x m (omega (arith, lt, turned)) in
    let some = (bounded shape valid).some_stripe in
    let few = le-div m relied (stripe_sectors shape) (omega (arith, some)) le in
    let all = mul-le m shape.chunk (relied / stripe_sectors shape) shape.chunk few (omega arith) in
    omega (arith, row, all)

module _ (newest : Sb) (fit : AreShapesFit newest) (x : ℕ) (x-in : x < list_length newest) where
  -- where it is to the end, each row is relied on
  all-rows : (relied : ℕ) → list_length newest ≤ relied → (place_by newest x).row < relied_rows newest relied (shape_for newest x)
  all-rows relied le =
      subst (λ (b : Bool). (place_by newest x).row < (if b then newest.size else relied / stripe_sectors (shape_for newest x) * (shape_for newest x).chunk)) (sym (at-most (list_length newest) relied le)) (row-below newest fit x x-in)

  -- before, those of the whole stripes of the sector's shape
  some-rows : (relied : ℕ) → relied < list_length newest → (shape : Shape) → shape_for newest x ≡ shape → (m : ℕ) → x < m * stripe_sectors shape → m * stripe_sectors shape ≤ relied
      → (place_by newest x).row < relied_rows newest relied (shape_for newest x)
  some-rows relied short shape is m lt le =
      subst (λ (s : Shape). (place s x).row < relied_rows newest relied s) (sym is)
      (subst (λ (b : Bool). (place shape x).row < (if b then newest.size else relied / stripe_sectors shape * shape.chunk)) (sym (above (list_length newest) relied short))
      (row-within shape (subst (λ (s : Shape). is_valid_shape s ≡ true) is (valid-for newest fit x)) x m relied lt le))

  relied-row : (mended : ℕ) → mended ≤ resync_stripes newest → x < relied_sector newest (Some mended)
      → (place_by newest x).row < relied_rows newest (relied_sector newest (Some mended)) (shape_for newest x)
  relied-row mended few below = elim (cases_lt (relied_sector newest (Some mended)) (list_length newest)) [
    | inr all ↦ all-rows (relied_sector newest (Some mended)) all
    | inl short ↦ elim (cases_lt mended (low_stripes newest)) [
      | inl low ↦ (
          let here = relied-low newest mended low in
          let fits = relied-low-fits newest fit mended (omega (arith, low)) in
          some-rows (relied_sector newest (Some mended)) short (low_shape newest) (low-own newest fit x (omega (arith, below, fits))) mended (omega (arith, below, here)) (omega (arith, here)))
      | inr high ↦ (
          let here = relied-high newest mended high in
          let more = mul-le (high_stripe newest) (stripe_sectors (high_shape newest)) (high_stripe newest + (mended - low_stripes newest)) (stripe_sectors (high_shape newest)) (omega arith) (omega arith) in
          let whole = high-whole newest fit in
          elim (cases_lt x (low_end newest)) [
            | inr far ↦ some-rows (relied_sector newest (Some mended)) short (high_shape newest) (high-own newest fit x far) (high_stripe newest + (mended - low_stripes newest)) (omega (arith, below, here)) (omega (arith, here))
            | inl near ↦ elim (low-ends newest fit) [
              | inr last ↦ absurd (omega (arith, here, more, whole, last, short))
              | inl all ↦ some-rows (relied_sector newest (Some mended)) short (low_shape newest) (low-own newest fit x near) (low_stripes newest) (omega (arith, near, all)) (omega (arith, here, more, whole, all))
            ]
          ])
    ]
  ]

  whole-row : (resync : Option ℕ) → IfSome resync (λ mended. mended ≤ resync_stripes newest) → x < relied_sector newest resync
      → (place_by newest x).row < relied_rows newest (relied_sector newest resync) (shape_for newest x)
  whole-row None few below = all-rows (list_length newest) (omega arith)
  whole-row (Some mended) few below = relied-row mended few below

pub relied-is-whole : ReliedIsWhole
relied-is-whole newest resync x fit few x-in = (
  λ row. relied-below newest fit (shape_for newest x) (for-both (λ s. IsInForce newest s) newest (inl refl) (inr refl) x) (relied_sector newest resync) x x-in row,
  λ below. whole-row newest fit x x-in resync few below,
)

-- ---- without a reshape

module _ (newest : Sb) (fit : AreShapesFit newest) (still : is_reshaping newest ≡ false) where
  none-low : low_stripes newest ≡ 0
  none-low = elim (cases_lt 0 (low_stripes newest)) [
    | inl some ↦ absurd (
        let before = low-before newest fit 0 some in
        let none = low-none newest fit still in
        let long = chunk_some (low_shape newest) (low-valid newest fit) in
        omega (arith, before, none, long))
    | inr none ↦ omega (arith, none)
  ]

  none-high : high_stripe newest ≡ 0
  none-high = elim (cases_lt 0 (high_stripe newest)) [
    | inl some ↦ absurd (
        let past = next_multiple 0 (high_stripe newest) (stripe_sectors (high_shape newest)) some in
        let whole = high-whole newest fit in
        let none = low-none newest fit still in
        let long = high-some newest fit in
        omega (arith, past, whole, none, long))
    | inr none ↦ omega (arith, none)
  ]

  high-still : high_shape newest ≡ shape_of newest
  high-still = for-still newest still (low_end newest)

pub still-mends : StillResyncs
still-mends newest mended fit still =
    let low = none-low newest fit still in
    let high = none-high newest fit still in (
      (λ i. low i + (newest.size / (high-still newest fit still i).chunk - high i)) ∙ (let same : 0 + (newest.size / (shape_of newest).chunk - 0) ≡ newest.size / (shape_of newest).chunk = omega arith in same),
      behind-high newest mended (omega (arith, low)) ∙ (λ i. stripe-at (high-still newest fit still i) (high i + (mended - low i))) ∙ ap (λ (n : ℕ). stripe-at (shape_of newest) n) (let same : 0 + (mended - 0) ≡ mended = omega arith in same),
    )
