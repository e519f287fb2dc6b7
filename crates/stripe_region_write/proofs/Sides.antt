-- The two regions of the list: the shape of each, and where its stripes begin and end.
use Rattle.std.proofs.Common.{◌≡◌, ◌⊎◌, inl, inr, ℕ, ◌+◌, ◌*◌, ◌/◌, ◌^◌, ◌<◌, ◌≤◌, nat_lt, nat_le, min, Bool, true, false, if◌then◌else◌, refl, sym, ◌∙◌, ap, subst, arith}
use Rattle.std.specs.Prelude.{IsTrue}
use Rattle.std.specs.Int.{◌∣◌}
use Rattle.std.proofs.lemmas.Bool.{cases_lt}
use Rattle.std.proofs.lemmas.Bool.Decides.{nat_tests}
use Rattle.std.proofs.lemmas.Nat.{mul-le}
use Rattle.std.proofs.Math.Nat.{dvd_trans, dvd-mul_left, div-mul_cancel}
use Rattle.stripe_region_read.specs.raid_types_the_Shape.{Shape}
use Rattle.stripe_region_read.specs.raid_types_the_Side.{Side}
use Rattle.stripe_region_read.specs.raid_types_the_Side_TheVariants.{Old, New}
use Rattle.stripe_region_read.specs.raid_types_Shapes.{is_valid_shape, data_disks, stripe_sectors}
use Rattle.stripe_region_read.specs.sb_codec_the_Sb.{Sb}
use Rattle.stripe_region_read.specs.reshape_geometry_Geometry.{unit, side, ceiling}
use Rattle.stripe_region_read.proofs.reshape_geometry_Divisions.{ceiling_bounds, ceiling_le, ceiling_of_multiple, next_multiple}
use Rattle.stripe_region_read.proofs.reshape_geometry_Valid.{bounded, bounded_pair, the_unit}
use Rattle.stripe_region_read.specs.stripe_region_laws_Regions.{IsDirected}
use Rattle.stripe_region_read.specs.sb_specs_Reading.{is_reshaping, is_backward, shape_of, final_shape, list_length}
use Rattle.stripe_region_read.specs.history_Stands.{shape_at, shape_for}
use Rattle.stripe_region_read.specs.crash_views_Regions.{AreShapesFit}
use Rattle.stripe_region_read.proofs.crash_views_Alike.{valid-for, for-both}
use Rattle.stripe_region_read.proofs.crash_views_Stands.{for-still, list-still}
use Rattle.stripe_region_read.proofs.crash_views_UnderWay.{under-way, shape-on}
use Rattle.stripe_region_read.specs.array_members_Placed.{IsInForce}
use Rattle.stripe_region_read.proofs.array_members_Fit.{force-multiple}
use Rattle.stripe_region_read.proofs.array_members_Stripes.{stripes-whole}
use Rattle.stripe_region_read.proofs.StretchLaws.{list-short}
use Rattle.stripe_region_write.proofs.Together.{together-shape}
use Rattle.stripe_region_write.specs.Ends.{low_end, low_shape, high_shape, low_stripes, high_stripe}

-- ---- numbers

-- the data of so many chunks of each disk is so many stripes
turn : (d c q : ℕ) → d * (q * c) ≡ q * (c * d)
turn d c q = omega arith

turn-chunks : (d c q : ℕ) → q * (c * d) ≡ q * d * c
turn-chunks d c q = omega arith

turn-size : (m q c : ℕ) → m * (q * c) ≡ m * q * c
turn-size m q c = omega arith

-- a multiple below another is one step below it
step-below : (a q c : ℕ) → a * c < q * c → a * c + c ≤ q * c
step-below a q c lt = elim (cases_lt a q) [
  | inl less ↦ next_multiple a q c less
  | inr more ↦ absurd (let all = mul-le q c a c more (omega arith) in omega (arith, all, lt))
]

not-lt : (p : ℕ) → nat_lt p p ≡ false
not-lt p = grind (arith, nat_tests)

is-le : (p : ℕ) → nat_le p p ≡ true
is-le p = grind (arith, nat_tests)

lower : (a b : ℕ) → a ≤ b → min a b ≡ a
lower a b le = omega (arith, le)

upper : (a b : ℕ) → b ≤ a → min a b ≡ b
upper a b le = omega (arith, le)

module _ (newest : Sb) (fit : AreShapesFit newest) where
  -- ---- the shapes

  pub low-valid : is_valid_shape (low_shape newest) ≡ true
  low-valid = valid-for newest fit 0

  pub high-valid : is_valid_shape (high_shape newest) ≡ true
  high-valid = valid-for newest fit (low_end newest)

  pub low-force : IsInForce newest (low_shape newest)
  low-force = for-both (λ s. IsInForce newest s) newest (inl refl) (inr refl) 0

  pub high-force : IsInForce newest (high_shape newest)
  high-force = for-both (λ s. IsInForce newest s) newest (inl refl) (inr refl) (low_end newest)

  pub low-some : 0 < stripe_sectors (low_shape newest)
  low-some = let b = (bounded (low_shape newest) low-valid).some_stripe in omega (arith, b)

  pub high-some : 0 < stripe_sectors (high_shape newest)
  high-some = let b = (bounded (high_shape newest) high-valid).some_stripe in omega (arith, b)

  -- ---- where the lower region ends

  pub low-is : is_reshaping newest ≡ true → low_end newest ≡ newest.reshape_position
  low-is active = ap (λ (b : Bool). if b then newest.reshape_position else 0) active

  pub low-none : is_reshaping newest ≡ false → low_end newest ≡ 0
  low-none still = ap (λ (b : Bool). if b then newest.reshape_position else 0) still

  pub low-fits : low_end newest ≤ list_length newest
  low-fits = of (is_reshaping newest) refl
    where
      of : (b : Bool) → is_reshaping newest ≡ b → low_end newest ≤ list_length newest
      of true active = let same = low-is active in let within = fit.position active in omega (arith, same, within)
      of false still = let none = low-none still in omega (arith, none)

  pub list-few : list_length newest ≤ 2 ^ 53
  list-few = (bounded_pair (shape_of newest) (final_shape newest) newest.size (record { old_valid = fit.valid.old; new_valid = fit.valid.final; old_size = fit.size; new_size = fit.final_size })).short_list

  -- each sector below it is placed by its shape, and each other by the other's
  pub low-own : (x : ℕ) → x < low_end newest → shape_for newest x ≡ low_shape newest
  low-own x below = together-shape newest 0 x (λ active. (λ low. (let same = low-is active in omega (arith, same, below)), λ high. (let same = low-is active in omega (arith, same, below, high))))

  pub high-own : (x : ℕ) → low_end newest ≤ x → shape_for newest x ≡ high_shape newest
  high-own x from = together-shape newest (low_end newest) x (λ active. (λ low. (let same = low-is active in omega (arith, same, low)), λ high. (let same = low-is active in omega (arith, same, from))))

  -- ---- the upper region has all the rest of its shape

  high-long : list_length newest ≡ data_disks (high_shape newest) * newest.size
  high-long = of (is_reshaping newest) refl
    where
      by : (s : Side) → is_reshaping newest ≡ true → side (is_backward newest) newest.reshape_position newest.reshape_position ≡ s → high_shape newest ≡ shape_at newest s
      by s active at = ap (λ (x : ℕ). shape_for newest x) (low-is active) ∙ shape-on newest active newest.reshape_position s at

      way : is_reshaping newest ≡ true → (back : Bool) → is_backward newest ≡ back → IsDirected (shape_of newest) (final_shape newest) back → list_length newest ≡ data_disks (high_shape newest) * newest.size
      way active false is le =
          let high : high_shape newest ≡ shape_of newest =
          by Old active (ap (λ (b : Bool). side b newest.reshape_position newest.reshape_position) is ∙ ap (λ (b : Bool). if b then New else Old) (not-lt newest.reshape_position)) in
          ap (λ (n : ℕ). n * newest.size) (lower (data_disks (shape_of newest)) (data_disks (final_shape newest)) le) ∙ ap (λ (s : Shape). data_disks s * newest.size) (sym high)
      way active true is le =
          let high : high_shape newest ≡ final_shape newest =
          by New active (ap (λ (b : Bool). side b newest.reshape_position newest.reshape_position) is ∙ ap (λ (b : Bool). if b then New else Old) (is-le newest.reshape_position)) in
          ap (λ (n : ℕ). n * newest.size) (upper (data_disks (shape_of newest)) (data_disks (final_shape newest)) le) ∙ ap (λ (s : Shape). data_disks s * newest.size) (sym high)

      of : (b : Bool) → is_reshaping newest ≡ b → list_length newest ≡ data_disks (high_shape newest) * newest.size
      of true active = way active (is_backward newest) refl (under-way newest fit active).directed
      of false still = list-still newest still ∙ ap (λ (s : Shape). data_disks s * newest.size) (sym (for-still newest still (low_end newest)))

  size-of : (shape : Shape) → IsInForce newest shape → newest.size / shape.chunk * shape.chunk ≡ newest.size
  size-of shape force = stripes-whole newest.size shape.chunk (force-multiple newest fit shape force)

  -- the data of all its stripes
  data-of : (shape : Shape) → IsInForce newest shape → data_disks shape * newest.size ≡ newest.size / shape.chunk * stripe_sectors shape
  data-of shape force = ap (λ (n : ℕ). data_disks shape * n) (sym (size-of shape force)) ∙ turn (data_disks shape) shape.chunk (newest.size / shape.chunk)

  pub list-stripes : list_length newest ≡ newest.size / (high_shape newest).chunk * stripe_sectors (high_shape newest)
  list-stripes = high-long ∙ data-of (high_shape newest) high-force

  -- a place on the unit is a whole number of stripes of each shape
  divides : (shape : Shape) → IsInForce newest shape → (B : ℕ) → unit (shape_of newest) (final_shape newest) ∣ B → stripe_sectors shape ∣ B
  divides shape (inl same) B on = subst (λ (s : Shape). stripe_sectors s ∣ B) (sym same) (dvd_trans (stripe_sectors (shape_of newest)) (the_unit (shape_of newest) (final_shape newest) fit.valid.old fit.valid.final).first on)
  divides shape (inr same) B on = subst (λ (s : Shape). stripe_sectors s ∣ B) (sym same) (dvd_trans (stripe_sectors (final_shape newest)) (the_unit (shape_of newest) (final_shape newest) fit.valid.old fit.valid.final).second on)

  none-divides : (k : ℕ) → is_reshaping newest ≡ false → k ∣ low_end newest
  none-divides k still = subst (λ (n : ℕ). k ∣ n) (sym (low-none still)) (subst (λ (n : ℕ). k ∣ n) (let none : 0 * k ≡ 0 = omega arith in none) (dvd-mul_left k 0))

  pub high-whole : low_end newest ≡ high_stripe newest * stripe_sectors (high_shape newest)
  high-whole = sym (div-mul_cancel (stripe_sectors (high_shape newest)) (of (is_reshaping newest) refl))
    where
      of : (b : Bool) → is_reshaping newest ≡ b → stripe_sectors (high_shape newest) ∣ low_end newest
      of true active = subst (λ (n : ℕ). stripe_sectors (high_shape newest) ∣ n) (sym (low-is active)) (elim (under-way newest fit active).on_unit [
        | inl on ↦ divides (high_shape newest) high-force newest.reshape_position on
        | inr last ↦ (let end : newest.reshape_position ≡ list_length newest = last in
            subst (λ (n : ℕ). stripe_sectors (high_shape newest) ∣ n) (sym (end ∙ list-stripes)) (dvd-mul_left (stripe_sectors (high_shape newest)) (newest.size / (high_shape newest).chunk)))
      ])
      of false still = none-divides (stripe_sectors (high_shape newest)) still

  pub high-few : high_stripe newest ≤ newest.size / (high_shape newest).chunk
  high-few = elim (cases_lt (newest.size / (high_shape newest).chunk) (high_stripe newest)) [
    | inl more ↦ absurd (
        let past = next_multiple (newest.size / (high_shape newest).chunk) (high_stripe newest) (stripe_sectors (high_shape newest)) more in
        let whole = high-whole in
        let long = list-stripes in
        let fits = low-fits in
        let some = high-some in
        omega (arith, past, whole, long, fits, some))
    | inr few ↦ few
  ]

  -- ---- the stripes of the lower one

  -- it ends with a stripe, or where the list does
  pub low-ends : (low_end newest ≡ low_stripes newest * stripe_sectors (low_shape newest)) ⊎ (low_end newest ≡ list_length newest)
  low-ends = of (is_reshaping newest) refl
    where
      whole : stripe_sectors (low_shape newest) ∣ low_end newest → low_end newest ≡ low_stripes newest * stripe_sectors (low_shape newest)
      whole on =
          let k : ℕ = stripe_sectors (low_shape newest) in
          let times : low_end newest / k * k ≡ low_end newest = div-mul_cancel k on in
          let top : ceiling (low_end newest) k ≡ low_end newest / k = ap (λ (n : ℕ). ceiling n k) (sym times) ∙ ceiling_of_multiple (low_end newest / k) k low-some in
          sym times ∙ ap (λ (n : ℕ). n * k) (sym top)

      of : (b : Bool) → is_reshaping newest ≡ b → (low_end newest ≡ low_stripes newest * stripe_sectors (low_shape newest)) ⊎ (low_end newest ≡ list_length newest)
      of true active = elim (under-way newest fit active).on_unit [
        | inl on ↦ inl (whole (subst (λ (n : ℕ). stripe_sectors (low_shape newest) ∣ n) (sym (low-is active)) (divides (low_shape newest) low-force newest.reshape_position on)))
        | inr last ↦ inr (low-is active ∙ last)
      ]
      of false still = inl (whole (none-divides (stripe_sectors (low_shape newest)) still))

  -- a whole number of chunks in either case
  low-chunks : (q : ℕ) × (low_end newest ≡ q * (low_shape newest).chunk)
  low-chunks = elim low-ends [
    | inl whole ↦ (low_stripes newest * data_disks (low_shape newest), whole ∙ turn-chunks (data_disks (low_shape newest)) (low_shape newest).chunk (low_stripes newest))
    | inr last ↦ (
      min (data_disks (shape_of newest)) (data_disks (final_shape newest)) * (newest.size / (low_shape newest).chunk),
      last ∙ ap (λ (n : ℕ). min (data_disks (shape_of newest)) (data_disks (final_shape newest)) * n) (sym (size-of (low_shape newest) low-force))
          ∙ turn-size (min (data_disks (shape_of newest)) (data_disks (final_shape newest))) (newest.size / (low_shape newest).chunk) (low_shape newest).chunk,
    )
  ]

  -- so each of its stripes has a chunk before its end
  pub low-before : (k : ℕ) → k < low_stripes newest → k * stripe_sectors (low_shape newest) + (low_shape newest).chunk ≤ low_end newest
  low-before k lt =
      let near = (ceiling_bounds (low_end newest) (stripe_sectors (low_shape newest)) low-some).1 in
      let next = next_multiple k (low_stripes newest) (stripe_sectors (low_shape newest)) lt in
      let turned = turn-chunks (data_disks (low_shape newest)) (low_shape newest).chunk k in
      let chunks = low-chunks in
      let whole = chunks.1 in
      let after = step-below (k * data_disks (low_shape newest)) chunks.0 (low_shape newest).chunk (omega (arith, near, next, turned, whole)) in
      omega (arith, after, turned, whole)

  -- they reach to its end
  pub low-reach : low_end newest ≤ low_stripes newest * stripe_sectors (low_shape newest)
  low-reach = (ceiling_bounds (low_end newest) (stripe_sectors (low_shape newest)) low-some).0

  pub low-few : low_stripes newest ≤ newest.size / (low_shape newest).chunk
  low-few = ceiling_le (low_end newest) (stripe_sectors (low_shape newest)) (newest.size / (low_shape newest).chunk) low-some
      (let fits = low-fits in let short = list-short newest (low_shape newest) low-force in let holds = data-of (low_shape newest) low-force in omega (arith, fits, short, holds))

-- ---- shapes that the code has

pub low-valid-by : (newest : Sb) → AreShapesFit newest → (shape : Shape) → shape ≡ low_shape newest → IsTrue (is_valid_shape shape)
low-valid-by newest fit shape same = subst (λ (s : Shape). IsTrue (is_valid_shape s)) (sym same) (low-valid newest fit)

pub high-valid-by : (newest : Sb) → AreShapesFit newest → (shape : Shape) → shape ≡ high_shape newest → IsTrue (is_valid_shape shape)
high-valid-by newest fit shape same = subst (λ (s : Shape). IsTrue (is_valid_shape s)) (sym same) (high-valid newest fit)
