-- Sectors of the list that stand in one row are on one side of the position, and all of them are hidden or none.
use Rattle.std.proofs.Common.{◌≡◌, ◌⊎◌, inl, inr, ℕ, ◌+◌, ◌-◌, ◌/◌, ◌<◌, ◌≤◌, ◌&&◌, nat_lt, nat_le, min, Bool, true, false, if◌then◌else◌, Option, Some, None, refl, sym, ◌∙◌, ap, subst, arith}
use Rattle.std.specs.Int.{◌∣◌}
use Rattle.std.proofs.lemmas.Bool.{cases_lt}
use Rattle.std.proofs.lemmas.Bool.Decides.{nat_tests}
use Rattle.std.proofs.Math.Nat.{dvd-add, dvd_refl, dvd-mul_left}
use Rattle.stripe_region_read.specs.raid_types_the_Shape.{Shape}
use Rattle.stripe_region_read.specs.raid_types_the_Span.{Span}
use Rattle.stripe_region_read.specs.raid_types_the_Side.{Side}
use Rattle.stripe_region_read.specs.raid_types_the_Side_TheVariants.{Old, New}
use Rattle.stripe_region_read.specs.raid_types_Shapes.{data_disks}
use Rattle.stripe_region_read.specs.sb_codec_the_Sb.{Sb}
use Rattle.stripe_region_read.specs.raid_layout_Layout.{place}
use Rattle.stripe_region_read.specs.reshape_geometry_Geometry.{unit, side, window}
use Rattle.stripe_region_read.specs.reshape_geometry_Geometry as geometry
use Rattle.stripe_region_read.specs.stripe_region_laws_Regions.{IsDirected, IsUnderWay}
use Rattle.stripe_region_read.proofs.stripe_region_laws_RegionLaws.{IsDivided, by-old, by-new, regions-apart, forward-is, backward-is}
use Rattle.stripe_region_read.specs.sb_specs_Reading.{is_reshaping, is_backward, shape_of, final_shape, list_length, next_window}
use Rattle.stripe_region_read.specs.history_Stands.{shape_at, shape_for, covers}
use Rattle.stripe_region_read.specs.crash_views_Regions.{AreShapesFit, place_by}
use Rattle.stripe_region_read.proofs.crash_views_Stands.{for-still}
use Rattle.stripe_region_read.proofs.crash_views_UnderWay.{is-reshaping, window-is, under-way, shape-on, in-or-out}
use Rattle.stripe_region_read.specs.array_members_Placed.{IsInForce}

-- ---- tests of numbers

is-lt : (a b : ℕ) → a < b → nat_lt a b ≡ true
is-lt a b h = grind (arith, nat_tests, h)

not-lt : (a b : ℕ) → b ≤ a → nat_lt a b ≡ false
not-lt a b h = grind (arith, nat_tests, h)

is-le : (a b : ℕ) → a ≤ b → nat_le a b ≡ true
is-le a b h = grind (arith, nat_tests, h)

not-le : (a b : ℕ) → b < a → nat_le a b ≡ false
not-le a b h = grind (arith, nat_tests, h)

-- ---- sides

-- two sectors on one side of the position
abbrev pub AreTogether : Sb → ℕ → ℕ → Type 0
AreTogether newest x y = is_reshaping newest ≡ true → (x < newest.reshape_position → y < newest.reshape_position) × (newest.reshape_position ≤ x → newest.reshape_position ≤ y)

tests-same : (back : Bool) (p x y : ℕ) → (x < p → y < p) → (p ≤ x → p ≤ y) → (if back then nat_le p y else nat_lt y p) ≡ (if back then nat_le p x else nat_lt x p)
tests-same true p x y low high = elim (cases_lt x p) [
  | inl lt ↦ not-le p y (low lt) ∙ sym (not-le p x lt)
  | inr ge ↦ is-le p y (high ge) ∙ sym (is-le p x ge)
]
tests-same false p x y low high = elim (cases_lt x p) [
  | inl lt ↦ is-lt y p (low lt) ∙ sym (is-lt x p lt)
  | inr ge ↦ not-lt y p (high ge) ∙ sym (not-lt x p ge)
]

sides-same : (back : Bool) (p x y : ℕ) → (x < p → y < p) → (p ≤ x → p ≤ y) → side back p y ≡ side back p x
sides-same back p x y low high = ap (λ (b : Bool). if b then New else Old) (tests-same back p x y low high)

-- have one shape
pub together-shape : (newest : Sb) (x y : ℕ) → AreTogether newest x y → shape_for newest y ≡ shape_for newest x
together-shape newest x y near = of (is_reshaping newest) refl
  where
    of : (b : Bool) → is_reshaping newest ≡ b → shape_for newest y ≡ shape_for newest x
    of false is = for-still newest is y ∙ sym (for-still newest is x)
    of true is = shape-on newest is y (side (is_backward newest) newest.reshape_position x) (sides-same (is_backward newest) newest.reshape_position x y (near is).0 (near is).1)
        ∙ sym (shape-on newest is x (side (is_backward newest) newest.reshape_position x) refl)

-- which is in force
pub shape-force : (newest : Sb) (x : ℕ) → IsInForce newest (shape_for newest x)
shape-force newest x = of (is_reshaping newest) refl
  where
    at : (s : Side) → IsInForce newest (shape_at newest s)
    at Old = inl refl
    at New = inr refl

    of : (b : Bool) → is_reshaping newest ≡ b → IsInForce newest (shape_for newest x)
    of false is = inl (for-still newest is x)
    of true is = subst (IsInForce newest) (sym (shape-on newest is x (side (is_backward newest) newest.reshape_position x) refl)) (at (side (is_backward newest) newest.reshape_position x))

-- ---- a place on the unit divides the rows of a shape in force

module _ (newest : Sb) (fit : AreShapesFit newest) (active : is_reshaping newest ≡ true) where
  way : IsUnderWay (shape_of newest) (final_shape newest) newest.size (is_backward newest) newest.reshape_position
  way = under-way newest fit active

  divided-at : (shape : Shape) → IsInForce newest shape → (B : ℕ) → unit (shape_of newest) (final_shape newest) ∣ B → IsDivided shape B
  divided-at shape (inl same) B on = subst (λ (s : Shape). IsDivided s B) (sym same) (by-old (shape_of newest) (final_shape newest) newest.size way.force B on)
  divided-at shape (inr same) B on = subst (λ (s : Shape). IsDivided s B) (sym same) (by-new (shape_of newest) (final_shape newest) newest.size way.force B on)

  -- no sector before it has a row with one behind it
  split-at : (shape : Shape) → IsInForce newest shape → (B : ℕ) → unit (shape_of newest) (final_shape newest) ∣ B → (x y : ℕ) → x < B → B ≤ y → (place shape x).row ≡ (place shape y).row → ⊥
  split-at shape force B on x y low high same =
      let before = (divided-at shape force B on).low x low in
      let behind = (divided-at shape force B on).high y high in
      absurd (omega (arith, before, behind, same))

  -- and the position is such a place, or the list ends there
  split-here : (shape : Shape) → IsInForce newest shape → (x y : ℕ) → y < list_length newest → x < newest.reshape_position → newest.reshape_position ≤ y → (place shape x).row ≡ (place shape y).row → ⊥
  split-here shape force x y within low high same = elim way.on_unit [
    | inl on ↦ split-at shape force newest.reshape_position on x y low high same
    | inr last ↦ (let end : newest.reshape_position ≡ list_length newest = last in absurd (omega (arith, end, high, within)))
  ]

  -- nor has a sector below the position one with a sector behind it, each by its own shape
  crossing : (x y : ℕ) → x < list_length newest → y < list_length newest → x < newest.reshape_position → newest.reshape_position ≤ y → (place_by newest x).row ≡ (place_by newest y).row → ⊥
  crossing x y x-in y-in low high same = of (is_backward newest) refl
    where
      by : (s t : Side) → side (is_backward newest) newest.reshape_position x ≡ s → side (is_backward newest) newest.reshape_position y ≡ t → (place (shape_at newest s) x).row ≡ (place (shape_at newest t) y).row
      by s t sx sy = ap (λ (z : Shape). (place z x).row) (sym (shape-on newest active x s sx)) ∙ same ∙ ap (λ (z : Shape). (place z y).row) (shape-on newest active y t sy)

      of : (b : Bool) → is_backward newest ≡ b → ⊥
      of false is =
          let sx : side (is_backward newest) newest.reshape_position x ≡ New = ap (λ (b : Bool). side b newest.reshape_position x) is ∙ ap (λ (b : Bool). if b then New else Old) (is-lt x newest.reshape_position low) in
          let sy : side (is_backward newest) newest.reshape_position y ≡ Old = ap (λ (b : Bool). side b newest.reshape_position y) is ∙ ap (λ (b : Bool). if b then New else Old) (not-lt y newest.reshape_position high) in
          regions-apart (shape_of newest) (final_shape newest) newest.size (is_backward newest) newest.reshape_position x y way x-in y-in sx sy (by New Old sx sy)
      of true is =
          let sx : side (is_backward newest) newest.reshape_position x ≡ Old = ap (λ (b : Bool). side b newest.reshape_position x) is ∙ ap (λ (b : Bool). if b then New else Old) (not-le newest.reshape_position x low) in
          let sy : side (is_backward newest) newest.reshape_position y ≡ New = ap (λ (b : Bool). side b newest.reshape_position y) is ∙ ap (λ (b : Bool). if b then New else Old) (is-le newest.reshape_position y high) in
          regions-apart (shape_of newest) (final_shape newest) newest.size (is_backward newest) newest.reshape_position y x way y-in x-in sy sx (sym (by Old New sx sy))

  -- the shape below the position has as many data disks as the one behind it, or more
  pub wider-low : (x y : ℕ) → x < newest.reshape_position → newest.reshape_position ≤ y → data_disks (shape_for newest y) ≤ data_disks (shape_for newest x)
  wider-low x y low high = of (is_backward newest) refl way.directed
    where
      by : (s t : Side) → side (is_backward newest) newest.reshape_position x ≡ s → side (is_backward newest) newest.reshape_position y ≡ t → data_disks (shape_at newest t) ≤ data_disks (shape_at newest s)
          → data_disks (shape_for newest y) ≤ data_disks (shape_for newest x)
      by s t sx sy le =
          let a = ap data_disks (shape-on newest active x s sx) in
          let b = ap data_disks (shape-on newest active y t sy) in
          omega (arith, a, b, le)

      of : (b : Bool) → is_backward newest ≡ b → IsDirected (shape_of newest) (final_shape newest) b → data_disks (shape_for newest y) ≤ data_disks (shape_for newest x)
      of false is le =
          let sx : side (is_backward newest) newest.reshape_position x ≡ New = ap (λ (b : Bool). side b newest.reshape_position x) is ∙ ap (λ (b : Bool). if b then New else Old) (is-lt x newest.reshape_position low) in
          let sy : side (is_backward newest) newest.reshape_position y ≡ Old = ap (λ (b : Bool). side b newest.reshape_position y) is ∙ ap (λ (b : Bool). if b then New else Old) (not-lt y newest.reshape_position high) in
          by New Old sx sy le
      of true is le =
          let sx : side (is_backward newest) newest.reshape_position x ≡ Old = ap (λ (b : Bool). side b newest.reshape_position x) is ∙ ap (λ (b : Bool). if b then New else Old) (not-le newest.reshape_position x low) in
          let sy : side (is_backward newest) newest.reshape_position y ≡ New = ap (λ (b : Bool). side b newest.reshape_position y) is ∙ ap (λ (b : Bool). if b then New else Old) (is-le newest.reshape_position y high) in
          by Old New sx sy le

-- ---- sectors that stand in one row

module _ (newest : Sb) (fit : AreShapesFit newest) (x y : ℕ) (x-in : x < list_length newest) (y-in : y < list_length newest) where
  -- each by its own shape
  pub rows-together : (place_by newest x).row ≡ (place_by newest y).row → AreTogether newest x y
  rows-together same active = (
    λ low. elim (cases_lt y newest.reshape_position) [ inl lt ↦ lt | inr ge ↦ absurd (crossing newest fit active x y x-in y-in low ge same) ],
    λ high. elim (cases_lt y newest.reshape_position) [ inl lt ↦ absurd (crossing newest fit active y x y-in x-in lt high (sym same)) | inr ge ↦ ge ],
  )

  -- both by that of the one
  pub mates-together : (place (shape_for newest x) y).row ≡ (place_by newest x).row → AreTogether newest x y
  mates-together same active = (
    λ low. elim (cases_lt y newest.reshape_position) [ inl lt ↦ lt | inr ge ↦ absurd (split-here newest fit active (shape_for newest x) (shape-force newest x) x y y-in low ge (sym same)) ],
    λ high. elim (cases_lt y newest.reshape_position) [ inl lt ↦ absurd (split-here newest fit active (shape_for newest x) (shape-force newest x) y x x-in lt high same) | inr ge ↦ ge ],
  )

-- ---- the next window

outside-of : (span : Span) (x : ℕ) → covers (Some span) x ≡ false → (x < span.lo) ⊎ (span.hi ≤ x)
outside-of span x out = elim (cases_lt x span.lo) [
  | inl low ↦ inl low
  | inr from ↦ elim (cases_lt x span.hi) [
    | inl inside ↦ absurd (let is : covers (Some span) x ≡ true = both span.lo span.hi from inside in cc)
    | inr high ↦ inr high
  ]
]
  where
    both : (lo hi : ℕ) → lo ≤ x → x < hi → ◌≡◌ {A = Bool} (nat_le lo x && nat_lt x hi) true
    both lo hi low high = grind (arith, nat_tests, low, high)

module _ (newest : Sb) (fit : AreShapesFit newest) (span : Span) (next : next_window newest ≡ Some span) (x y : ℕ) (x-in : x < list_length newest)
    (same : (place (shape_for newest x) y).row ≡ (place_by newest x).row) where
  active : is_reshaping newest ≡ true
  active = is-reshaping newest span next

  under : IsUnderWay (shape_of newest) (final_shape newest) newest.size (is_backward newest) newest.reshape_position
  under = under-way newest fit active

  from-before : (B : ℕ) → unit (shape_of newest) (final_shape newest) ∣ B → x < B → B ≤ y → ⊥
  from-before B on low high = split-at newest fit active (shape_for newest x) (shape-force newest x) B on x y low high (sym same)

  from-behind : (B : ℕ) → unit (shape_of newest) (final_shape newest) ∣ B → B ≤ x → y < B → ⊥
  from-behind B on high low = split-at newest fit active (shape_for newest x) (shape-force newest x) B on y x low high same

  apart-from : (back : Bool) → window (shape_of newest) (final_shape newest) newest.size back newest.reshape_position ≡ Some span → geometry.IsIn y span → (x < span.lo) ⊎ (span.hi ≤ x) → ⊥
  apart-from false is inside out =
      let at = forward-is (shape_of newest) (final_shape newest) newest.size newest.reshape_position span is in
      let short : newest.reshape_position < list_length newest = at.0 in
      let on : unit (shape_of newest) (final_shape newest) ∣ span.lo = subst (λ (n : ℕ). unit (shape_of newest) (final_shape newest) ∣ n) (sym at.1) (elim under.on_unit [
        | inl on ↦ on
        | inr last ↦ absurd (let end : newest.reshape_position ≡ list_length newest = last in omega (arith, end, short))
      ]) in
      elim out [
        | inl low ↦ from-before span.lo on low inside.0
        | inr high ↦ elim (cases_lt (list_length newest) (newest.reshape_position + unit (shape_of newest) (final_shape newest))) [
          | inl past ↦ (let end : span.hi ≡ min (newest.reshape_position + unit (shape_of newest) (final_shape newest)) (list_length newest) = at.2 in absurd (omega (arith, end, past, high, x-in)))
          | inr fits ↦ (
              let end : span.hi ≡ min (newest.reshape_position + unit (shape_of newest) (final_shape newest)) (list_length newest) = at.2 in
              let lo = at.1 in
              let sum : span.lo + unit (shape_of newest) (final_shape newest) ≡ span.hi = omega (arith, end, fits, lo) in
              from-behind span.hi (subst (λ (n : ℕ). unit (shape_of newest) (final_shape newest) ∣ n) sum (dvd-add (unit (shape_of newest) (final_shape newest)) on (dvd_refl (unit (shape_of newest) (final_shape newest))))) high inside.1)
        ]
      ]
  apart-from true is inside out =
      let at = backward-is (shape_of newest) (final_shape newest) newest.size newest.reshape_position span is in
      let on : unit (shape_of newest) (final_shape newest) ∣ span.lo =
      subst (λ (n : ℕ). unit (shape_of newest) (final_shape newest) ∣ n) (sym at.1) (dvd-mul_left (unit (shape_of newest) (final_shape newest)) ((newest.reshape_position - 1) / unit (shape_of newest) (final_shape newest))) in
      elim out [
        | inl low ↦ from-before span.lo on low inside.0
        | inr high ↦ elim under.on_unit [
          | inl whole ↦ from-behind newest.reshape_position whole (let end = at.2 in omega (arith, end, high)) (let end = at.2 in let last = inside.1 in omega (arith, end, last))
          | inr last ↦ (let end : newest.reshape_position ≡ list_length newest = last in let hi = at.2 in absurd (omega (arith, end, hi, high, x-in)))
        ]
      ]

  -- none of its sectors stands in a row with one outside
  pub window-apart : covers (Some span) x ≡ false → covers (Some span) y ≡ false
  window-apart out = elim (in-or-out span y) [
    | inl inside ↦ absurd (apart-from (is_backward newest) (window-is newest span next) inside (outside-of span x out))
    | inr clear ↦ clear
  ]

-- so it is of what may be hidden
pub shown-mate : (newest : Sb) → AreShapesFit newest → (hidden : Option Span) → ((span : Span) → hidden ≡ Some span → next_window newest ≡ Some span) → (x y : ℕ) → x < list_length newest
    → (place (shape_for newest x) y).row ≡ (place_by newest x).row → covers hidden x ≡ false → covers hidden y ≡ false
shown-mate newest fit None window x y x-in same out = refl
shown-mate newest fit (Some span) window x y x-in same out = window-apart newest fit span (window span refl) x y x-in same out
