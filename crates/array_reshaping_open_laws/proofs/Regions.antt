-- The sectors that one shape places in one row: they lie in the same region, inside the next window or all outside it, and past the list's end only in its tail.
use Rattle.std.proofs.Common.{◌≡◌, ◌⊎◌, inl, inr, ℕ, ◌+◌, ◌-◌, ◌*◌, ◌/◌, ◌<◌, ◌≤◌, ◌&&◌, nat_lt, nat_le, min, Bool, true, false, cond, Some, refl, sym, ◌∙◌, ap, subst, arith}
use Rattle.std.specs.Int.{◌∣◌}
use Rattle.std.proofs.lemmas.Bool.{cases_lt}
use Rattle.std.proofs.lemmas.Bool.Decides.{nat_tests}
use Rattle.std.proofs.Math.Nat.{dvd-add, dvd_refl, dvd-mul_left}
use Rattle.array_reshaping_invariant.specs.raid_types_the_Shape.{Shape}
use Rattle.array_found_laws.specs.raid_types_the_Side.{Side}
use Rattle.array_found_laws.specs.raid_types_the_Side_TheVariants.{Old, New}
use Rattle.array_reshaping_invariant.specs.raid_types_the_Span.{Span}
use Rattle.array_reshaping_invariant.specs.raid_types_Shapes.{data_disks, is_multiple, tolerance, tolerance_of}
use Rattle.array_reshaping_invariant.specs.sb_codec_the_Sb.{Sb}
use Rattle.array_reshaping_invariant.specs.raid_layout_Layout.{place, stripe_of}
use Rattle.array_reshaping_invariant.proofs.raid_layout_Places.{chunk_some, data_some, stripe_of-row, place-sector_below}
use Rattle.array_reshaping_invariant.proofs.reshape_geometry_Divisions.{floor_grows}
use Rattle.array_reshaping_invariant.specs.reshape_geometry_Geometry.{unit, side, row_at, window}
use Rattle.array_reshaping_invariant.specs.stripe_region_laws_Regions.{IsUnderWay}
use Rattle.array_found_laws.proofs.stripe_region_laws_RegionLaws.{IsDivided, by-old, by-new, forward-is, backward-is}
use Rattle.array_reshaping_invariant.specs.sb_specs_Reading.{is_reshaping, is_backward, shape_of, final_shape, list_length, next_window}
use Rattle.array_reshaping_invariant.specs.history_Stands.{shape_at, shape_for, covers}
use Rattle.array_reshaping_invariant.specs.crash_views_Regions.{AreShapesFit}
use Rattle.array_reshaping_invariant.specs.crash_views_Views.{IsTail}
use Rattle.array_reshaping_invariant.proofs.array_members_Fit.{fit-multiple, force-multiple}
use Rattle.array_reshaping_invariant.proofs.crash_views_UnderWay.{window-is, under-way, shape-on, side-or}

-- ---- tests

is-less : (a b : ℕ) → a < b → nat_lt a b ≡ true
is-less a b lt = grind (arith, nat_tests, lt)

not-less : (a b : ℕ) → b ≤ a → nat_lt a b ≡ false
not-less a b le = grind (arith, nat_tests, le)

is-most : (a b : ℕ) → a ≤ b → nat_le a b ≡ true
is-most a b le = grind (arith, nat_tests, le)

not-most : (a b : ℕ) → b < a → nat_le a b ≡ false
not-most a b lt = grind (arith, nat_tests, lt)

-- a sector that a span doesn't cover lies before it or behind it
outside-span : (span : Span) (x : ℕ) → covers (Some span) x ≡ false → (x < span.lo) ⊎ (span.hi ≤ x)
outside-span span x out = elim (cases_lt x span.lo) [
  | inl low ↦ inl low
  | inr from ↦ elim (cases_lt x span.hi) [
    | inl below ↦ absurd (let is : covers (Some span) x ≡ true = both span.lo span.hi from below in let clash = sym is ∙ out in cc)
    | inr past ↦ inr past
  ]
]
  where
    both : (lo hi : ℕ) → lo ≤ x → x < hi → ◌≡◌ {A = Bool} (nat_le lo x && nat_lt x hi) true
    both lo hi low high = grind (arith, nat_tests, low, high)

span-outside : (span : Span) (x : ℕ) → (x < span.lo) ⊎ (span.hi ≤ x) → covers (Some span) x ≡ false
span-outside span x (inl low) = ap (λ (b : Bool). b && nat_lt x span.hi) (not-most span.lo x low)
span-outside span x (inr past) = ap (λ (b : Bool). nat_le span.lo x && b) (not-less x span.hi past) ∙ never (nat_le span.lo x)
  where
    never : (b : Bool) → (b && false) ≡ false
    never true = refl
    never false = refl

-- ---- two sectors in one row of a shape that the unit divides

module _ (shape : Shape) (u : ℕ) (divides : (B : ℕ) → u ∣ B → IsDivided shape B) (x y : ℕ) (same : row_at shape y ≡ row_at shape x) where
  below-both : (B : ℕ) → u ∣ B → x < B → y < B
  below-both B on lt = elim (cases_lt y B) [
    | inl below ↦ below
    | inr past ↦ absurd (let a = (divides B on).low x lt in let b = (divides B on).high y past in omega (arith, a, b, same))
  ]

  past-both : (B : ℕ) → u ∣ B → B ≤ x → B ≤ y
  past-both B on le = elim (cases_lt y B) [
    | inl below ↦ absurd (let a = (divides B on).low y below in let b = (divides B on).high x le in omega (arith, a, b, same))
    | inr past ↦ past
  ]

-- ---- in a reshape

module _ (newest : Sb) (fit : AreShapesFit newest) (active : is_reshaping newest ≡ true) where
  abbrev old : Shape
  old = shape_of newest

  abbrev new : Shape
  new = final_shape newest

  abbrev u : ℕ
  u = unit (shape_of newest) (final_shape newest)

  abbrev p : ℕ
  p = newest.reshape_position

  way : IsUnderWay (shape_of newest) (final_shape newest) newest.size (is_backward newest) newest.reshape_position
  way = under-way newest fit active

  -- the shape that places a sector is one of the two, and the unit divides it
  for-divided : (x : ℕ) (B : ℕ) → unit (shape_of newest) (final_shape newest) ∣ B → IsDivided (shape_for newest x) B
  for-divided x B on = elim (side-or (is_backward newest) newest.reshape_position x) [
    | inl is ↦ subst (λ (s : Shape). IsDivided s B) (sym (shape-on newest active x Old is)) (by-old old new newest.size way.force B on)
    | inr is ↦ subst (λ (s : Shape). IsDivided s B) (sym (shape-on newest active x New is)) (by-new old new newest.size way.force B on)
  ]

  module _ (x y : ℕ) (x-in : x < list_length newest) (same : (place (shape_for newest x) y).row ≡ (place (shape_for newest x) x).row) where
    abbrev shape : Shape
    shape = shape_for newest x

    under : (B : ℕ) → unit (shape_of newest) (final_shape newest) ∣ B → x < B → y < B
    under B on lt = below-both shape u (for-divided x) x y same B on lt

    over : (B : ℕ) → unit (shape_of newest) (final_shape newest) ∣ B → B ≤ x → B ≤ y
    over B on le = past-both shape u (for-divided x) x y same B on le

    -- a listed one lies on the same side of the position
    before : y < list_length newest → x < newest.reshape_position → y < newest.reshape_position
    before y-in lt = elim way.on_unit [
      | inl on ↦ under p on lt
      | inr last ↦ omega (arith, y-in, last)
    ]

    behind : newest.reshape_position ≤ x → newest.reshape_position ≤ y
    behind le = elim way.on_unit [
      | inl on ↦ over p on le
      | inr last ↦ absurd (omega (arith, x-in, last, le))
    ]

    pub side-same : y < list_length newest → side (is_backward newest) newest.reshape_position y ≡ side (is_backward newest) newest.reshape_position x
    side-same y-in = elim (cases_lt x newest.reshape_position) [
      | inl lt ↦ ap (λ (b : Bool). cond (cond (is_backward newest) (nat_le p y) b) New Old) (is-less y p (before y-in lt) ∙ sym (is-less x p lt))
          ∙ ap (λ (b : Bool). cond (cond (is_backward newest) b (nat_lt x p)) New Old) (not-most p y (before y-in lt) ∙ sym (not-most p x lt))
      | inr le ↦ ap (λ (b : Bool). cond (cond (is_backward newest) (nat_le p y) b) New Old) (not-less y p (behind le) ∙ sym (not-less x p le))
          ∙ ap (λ (b : Bool). cond (cond (is_backward newest) b (nat_lt x p)) New Old) (is-most p y (behind le) ∙ sym (is-most p x le))
    ]

    -- so the same shape places it
    pub for-same : y < list_length newest → shape_for newest y ≡ shape_for newest x
    for-same y-in = ap (λ (s : Side). cond (is_reshaping newest) (shape_at newest s) (shape_of newest)) (side-same y-in)

    -- where the next window doesn't cover the one, it doesn't cover the other
    pub beside-window : (span : Span) → next_window newest ≡ Some span → covers (Some span) x ≡ false → covers (Some span) y ≡ false
    beside-window span next out = span-outside span y (of (is_backward newest) (window-is newest span next))
      where
        of : (back : Bool) → window (shape_of newest) (final_shape newest) newest.size back newest.reshape_position ≡ Some span → (y < span.lo) ⊎ (span.hi ≤ y)
        of false is =
            let at = forward-is old new newest.size p span is in
            let lo = at.1 in
            let hi = at.2 in
            elim way.on_unit [
              | inl on ↦ elim (outside-span span x out) [
                | inl low ↦ inl (let below = under p on (omega (arith, low, lo)) in omega (arith, below, lo))
                | inr past ↦ elim (cases_lt (list_length newest) (p + u)) [
                  | inl end ↦ absurd (omega (arith, past, hi, end, x-in))
                  | inr whole ↦ inr (let above = over (p + u) (dvd-add u on (dvd_refl u)) (omega (arith, past, hi, whole)) in omega (arith, above, hi, whole))
                ]
              ]
              | inr last ↦ absurd (omega (arith, at.0, last))
            ]
        of true is =
            let at = backward-is old new newest.size p span is in
            let lo = at.1 in
            let hi = at.2 in
            elim (outside-span span x out) [
              | inl low ↦ inl (let below = under ((p - 1) / u * u) (dvd-mul_left u ((p - 1) / u)) (omega (arith, low, lo)) in omega (arith, below, lo))
              | inr past ↦ inr (let above = behind (omega (arith, past, hi)) in omega (arith, above, hi))
            ]

    -- one past the list's end lies in the tail, or in the old region of a reshape that goes backward
    pub past-tail : (place (shape_for newest x) x).row < newest.size → list_length newest ≤ y → is_backward newest ≡ false → IsTail newest y × (shape_for newest x ≡ final_shape newest)
    past-tail row-in past forth = elim (side-or (is_backward newest) newest.reshape_position x) [
      | inl is ↦ absurd (
          let s : shape_for newest x ≡ old = shape-on newest active x Old is in
          let row : (place old y).row < newest.size = (let e : (place old y).row ≡ (place old x).row = subst (λ (t : Shape). (place t y).row ≡ (place t x).row) s same in
          let lt = subst (λ (t : Shape). (place t x).row < newest.size) s row-in in omega (arith, e, lt)) in
          let whole : is_multiple newest.size old.chunk ≡ true = fit-multiple newest fit in
          let below : y < data_disks old * newest.size = place-sector_below old fit.valid.old y newest.size whole row in
          let wide : data_disks old ≤ data_disks new = wider forth in
          let long : list_length newest ≡ data_disks old * newest.size = ap (λ (n : ℕ). n * newest.size) (least (data_disks old) (data_disks new) wide) in
          omega (arith, below, past, long))
      | inr is ↦ (
          let s : shape_for newest x ≡ new = shape-on newest active x New is in
          let low : x < p = new-below forth is in
          elim way.on_unit [
            | inl on ↦ absurd (let y-low = under p on low in let within = way.within in omega (arith, y-low, past, within))
            | inr last ↦ (record { active = active; forth = forth; through = last; past = past; stripe = stripes s past }, s)
          ])
    ]
      where
        least : (a b : ℕ) → a ≤ b → min a b ≡ a
        least a b le = omega (arith, le)

        wider : is_backward newest ≡ false → data_disks (shape_of newest) ≤ data_disks (final_shape newest)
        wider forth = let le = fit.delta active forth in let t : tolerance (final_shape newest) ≡ tolerance (shape_of newest) = ap tolerance_of fit.level in omega (arith, le, t)

        new-below : is_backward newest ≡ false → side (is_backward newest) newest.reshape_position x ≡ New → x < newest.reshape_position
        new-below forth is = of (nat_lt x newest.reshape_position) refl (sym (ap (λ (b : Bool). side b newest.reshape_position x) forth) ∙ is)
          where
            of : (b : Bool) → nat_lt x newest.reshape_position ≡ b → ◌≡◌ {A = Side} (cond b New Old) New → x < newest.reshape_position
            of true e is = grind (arith, nat_tests, e)
            of false e is = absurd (cc)

        stripes : shape_for newest x ≡ final_shape newest → list_length newest ≤ y → stripe_of (final_shape newest) y ≡ stripe_of (final_shape newest) (list_length newest - 1)
        stripes s past =
            let e : (place new y).row ≡ (place new x).row = subst (λ (t : Shape). (place t y).row ≡ (place t x).row) s same in
            let one : stripe_of new y ≡ stripe_of new x = sym (stripe_of-row new fit.valid.final y) ∙ ap (λ (n : ℕ). n / new.chunk) e ∙ stripe_of-row new fit.valid.final x in
            let low = stripe-grows x (list_length newest - 1) (omega (arith, x-in)) in
            let high = stripe-grows (list_length newest - 1) y (omega (arith, past)) in
            omega (arith, one, low, high)
          where
            stripe-grows : (a b : ℕ) → a ≤ b → stripe_of (final_shape newest) a ≤ stripe_of (final_shape newest) b
            stripe-grows a b le = floor_grows (a / new.chunk) (b / new.chunk) (data_disks new) (data_some new fit.valid.final) (floor_grows a b new.chunk (chunk_some new fit.valid.final) le)

    -- and the old region of a reshape that goes backward places it by the old shape
    pub past-old : (place (shape_for newest x) x).row < newest.size → list_length newest ≤ y → is_backward newest ≡ true → shape_for newest x ≡ shape_of newest
    past-old row-in past back = elim (side-or (is_backward newest) newest.reshape_position x) [
      | inl is ↦ shape-on newest active x Old is
      | inr is ↦ absurd (
          let s : shape_for newest x ≡ new = shape-on newest active x New is in
          let row : (place new y).row < newest.size = (let e : (place new y).row ≡ (place new x).row = subst (λ (t : Shape). (place t y).row ≡ (place t x).row) s same in
          let lt = subst (λ (t : Shape). (place t x).row < newest.size) s row-in in omega (arith, e, lt)) in
          let whole : is_multiple newest.size new.chunk ≡ true = force-multiple newest fit (final_shape newest) (inr refl) in
          let below : y < data_disks new * newest.size = place-sector_below new fit.valid.final y newest.size whole row in
          let thin : data_disks new ≤ data_disks old = thinner back in
          let long : list_length newest ≡ data_disks new * newest.size = ap (λ (n : ℕ). n * newest.size) (least (data_disks old) (data_disks new) thin) in
          omega (arith, below, past, long))
    ]
      where
        least : (a b : ℕ) → b ≤ a → min a b ≡ b
        least a b le = omega (arith, le)

        thinner : is_backward newest ≡ true → data_disks (final_shape newest) ≤ data_disks (shape_of newest)
        thinner back = let le = fit.delta_back active back in let t : tolerance (final_shape newest) ≡ tolerance (shape_of newest) = ap tolerance_of fit.level in omega (arith, le, t)
