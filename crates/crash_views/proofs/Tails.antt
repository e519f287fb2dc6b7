-- The tail of a forward reshape that has gone through: its rows are the last ones of the list.
use Rattle.std.proofs.Common.{◌≡◌, inl, inr, ℕ, ◌+◌, ◌-◌, ◌*◌, ◌/◌, ◌%◌, ◌<◌, ◌≤◌, nat_lt, Bool, true, false, cond, min, Some, refl, sym, ◌∙◌, ap, subst, arith}
use Rattle.std.specs.Prelude.{IsTrue}
use Rattle.std.proofs.lemmas.Bool.{and_parts, eqb-true, leb-true, cases_lt}
use Rattle.std.proofs.lemmas.Bool.Decides.{nat_tests}
use Rattle.std.proofs.lemmas.Nat.{mod_below, mul-le}
use Rattle.std.proofs.Math.Nat.{div-add-mod', mul-le-mul_right, mul_assoc}
use Rattle.stripe_region_laws.proofs.reshape_geometry_Divisions.{next_multiple}
use Rattle.stripe_region_laws.proofs.RegionLaws.{forward-is}
use Rattle.stripe_region_laws.proofs.reshape_geometry_Rows.{rows_hold}
use Rattle.history.specs.reshape_geometry_Geometry.{window, side, rows, ceiling}
use Rattle.history.specs.reshape_geometry_Geometry as geometry
use Rattle.history.specs.raid_types_the_Shape.{Shape}
use Rattle.history.specs.raid_types_the_Place.{Place}
use Rattle.history.specs.raid_types_the_Span.{Span}
use Rattle.history.specs.raid_types_the_Side_TheVariants.{Old, New}
use Rattle.history.specs.raid_types_Shapes.{data_disks, is_valid_shape, stripe_sectors}
use Rattle.history.specs.sb_codec_the_Sb.{Sb}
use Rattle.history.specs.raid_layout_Layout.{place, stripe_of}
use Rattle.stripe_list.proofs.raid_layout_Places.{chunk_some, data_some, place-sector, sector_at}
use Rattle.history.specs.sb_specs_Reading.{is_backward, shape_of, final_shape, list_length, next_window}
use Rattle.history.specs.Stands.{shape_for}
use Rattle.crash_views.specs.Regions.{AreShapesFit}
use Rattle.crash_views.specs.Views.{IsTail}
use Rattle.crash_views.specs.Windows.{MovedTailsStand}
use Rattle.crash_views.proofs.Stands.{data-at}
use Rattle.crash_views.proofs.UnderWay.{window-is, shape-on}

-- a listed sector in the row of one of the tail
module _ (shape : Shape) (valid : IsTrue (is_valid_shape shape)) (L x n : ℕ) (some : 0 < L) (whole : L ≡ n * shape.chunk) (same : stripe_of shape x ≡ stripe_of shape (L - 1)) where
  pub row-of-first : (place shape (sector_at shape (stripe_of shape x) 0 (x % shape.chunk))).row ≡ (place shape x).row
  row-of-first = ap (λ (p : Place). p.row) (place-sector shape (stripe_of shape x) 0 (x % shape.chunk) (data_some shape valid) (mod_below x shape.chunk (chunk_some shape valid)))

  pub first-listed : sector_at shape (stripe_of shape x) 0 (x % shape.chunk) < L
  first-listed =
      let c = shape.chunk in
      let d = data_disks shape in
      let q = (L - 1) / shape.chunk in
      let inner : q / d * d ≤ q = (let e = div-add-mod' q d in omega (arith, e)) in
      let outer : q * c ≤ L - 1 = (let e = div-add-mod' (L - 1) c in omega (arith, e)) in
      let stripe : stripe_of shape x * d ≡ q / d * d = ap (λ (s : ℕ). s * d) same in
      let few : stripe_of shape x * d ≤ q = omega (arith, stripe, inner) in
      let chunks : stripe_of shape x * d * c ≤ q * c = mul-le-mul_right c few in
      let lt : stripe_of shape x * d * c < n * c = omega (arith, chunks, outer, whole, some) in
      let rest : x % shape.chunk < c = mod_below x shape.chunk (chunk_some shape valid) in
      let room = below-multiple (stripe_of shape x * d) n c lt in
      let zero_in : (stripe_of shape x * d + 0) * c ≡ stripe_of shape x * d * c = omega arith in
      omega (arith, room, rest, whole, zero_in)
    where
      below-multiple : (a b c : ℕ) → a * c < b * c → a * c + c ≤ b * c
      below-multiple a b c lt = elim (cases_lt a b) [
        | inl less ↦ next_multiple a b c less
        | inr more ↦ absurd (let le : b * c ≤ a * c = mul-le-mul_right c more in omega (arith, le, lt))
      ]

-- a window that is still ahead has no tail behind it
pub no-tail : (newest : Sb) (span : Span) (x : ℕ) → next_window newest ≡ Some span → IsTail newest x → ⊥
no-tail newest span x next tail =
    let here : window (shape_of newest) (final_shape newest) newest.size false newest.reshape_position ≡ Some span =
    subst (λ (b : Bool). window (shape_of newest) (final_shape newest) newest.size b newest.reshape_position ≡ Some span) tail.forth (window-is newest span next) in
    let at = forward-is (shape_of newest) (final_shape newest) newest.size newest.reshape_position span here in
    let e = tail.through in
    absurd (omega (arith, at.0, e))

module _ (newest : Sb) (fit : AreShapesFit newest) where
  pub some-listed : 0 < list_length newest
  some-listed =
      let one = data_some (shape_of newest) fit.valid.old in
      let two = data_some (final_shape newest) fit.valid.final in
      let size : 1 ≤ newest.size = leb-true 1 newest.size (and_parts _ _ (and_parts _ _ fit.size).0).0 in
      let le = mul-le 1 1 (min (data_disks (shape_of newest)) (data_disks (final_shape newest))) newest.size (omega (arith, one, two)) size in
      omega (arith, le)

  whole-listed : list_length newest ≡ min (data_disks (shape_of newest)) (data_disks (final_shape newest)) * (newest.size / (final_shape newest).chunk) * (final_shape newest).chunk
  whole-listed =
      let few : ℕ = min (data_disks (shape_of newest)) (data_disks (final_shape newest)) in
      let size : newest.size / (final_shape newest).chunk * (final_shape newest).chunk ≡ newest.size = eqb-true (newest.size / (final_shape newest).chunk * (final_shape newest).chunk) newest.size (and_parts _ _ fit.final_size).1 in
      ap (λ (n : ℕ). few * n) (sym size) ∙ sym (mul_assoc few (newest.size / (final_shape newest).chunk) (final_shape newest).chunk)

  module _ (x : ℕ) (tail : IsTail newest x) where
    -- a listed sector in the same row
    abbrev pub first : ℕ
    first = sector_at (final_shape newest) (stripe_of (final_shape newest) x) 0 (x % (final_shape newest).chunk)

    pub listed : first < list_length newest
    listed = first-listed (final_shape newest) fit.valid.final (list_length newest) x
        (min (data_disks (shape_of newest)) (data_disks (final_shape newest)) * (newest.size / (final_shape newest).chunk)) some-listed whole-listed tail.stripe

    pub same-row : (place (final_shape newest) first).row ≡ (place (final_shape newest) x).row
    same-row = row-of-first (final_shape newest) fit.valid.final (list_length newest) x
        (min (data_disks (shape_of newest)) (data_disks (final_shape newest)) * (newest.size / (final_shape newest).chunk)) some-listed whole-listed tail.stripe

    pub new-there : shape_for newest first ≡ final_shape newest
    new-there = shape-on newest tail.active first New (ap (λ (b : Bool). side b newest.reshape_position first) tail.forth ∙ ap (λ (b : Bool). cond b New Old) (lt-true first newest.reshape_position (let l = listed in let t = tail.through in omega (arith, l, t))))
      where
        lt-true : (a b : ℕ) → a < b → nat_lt a b ≡ true
        lt-true a b lt = grind (arith, nat_tests, lt)

    -- its row is below the end of the list's rows
    pub row-within : (place (final_shape newest) x).row < (rows (final_shape newest) 0 (list_length newest)).hi
    row-within =
        let holds = (rows_hold (final_shape newest) (record { lo = 0; hi = list_length newest }) first fit.valid.final (omega arith, listed)).1 in
        let same = same-row in
        omega (arith, holds, same)

-- the rows of a span are whole stripes
module _ (shape : Shape) (valid : IsTrue (is_valid_shape shape)) (a b x y : ℕ) (same : stripe_of shape x ≡ stripe_of shape y) where
  rest : (n : ℕ) → n % shape.chunk < shape.chunk
  rest n = mod_below n shape.chunk (chunk_some shape valid)

  row-of : (place shape x).row ≡ stripe_of shape y * shape.chunk + x % shape.chunk
  row-of = ap (λ (s : ℕ). s * shape.chunk + x % shape.chunk) same

  at-low : a * shape.chunk ≤ (place shape y).row → a * shape.chunk ≤ (place shape x).row
  at-low low = elim (cases_lt (stripe_of shape y) a) [
    | inl less ↦ absurd (let next = next_multiple (stripe_of shape y) a shape.chunk less in let r = rest y in omega (arith, next, r, low))
    | inr more ↦ (let le : a * shape.chunk ≤ stripe_of shape y * shape.chunk = mul-le-mul_right shape.chunk more in let e = row-of in omega (arith, le, e))
  ]

  at-high : (place shape y).row < b * shape.chunk → (place shape x).row < b * shape.chunk
  at-high high = elim (cases_lt (stripe_of shape y) b) [
    | inl less ↦ (let next = next_multiple (stripe_of shape y) b shape.chunk less in let r = rest x in let e = row-of in omega (arith, next, r, e))
    | inr more ↦ absurd (let le : b * shape.chunk ≤ stripe_of shape y * shape.chunk = mul-le-mul_right shape.chunk more in omega (arith, le, high))
  ]

  pub stripe-rows : a * shape.chunk ≤ (place shape y).row → (place shape y).row < b * shape.chunk → (a * shape.chunk ≤ (place shape x).row) × ((place shape x).row < b * shape.chunk)
  stripe-rows low high = (at-low low, at-high high)

-- the tail behind the last window stands in rows that it writes
pub tail-written : (newest : Sb) (fit : AreShapesFit newest) (span : Span) (x : ℕ) → next_window newest ≡ Some span → IsTail (record newest { reshape_position = geometry.beyond (is_backward newest) span }) x
    → geometry.IsIn (place (final_shape newest) x).row (rows (final_shape newest) span.lo span.hi)
tail-written newest fit span x next tail =
    let here : window (shape_of newest) (final_shape newest) newest.size false newest.reshape_position ≡ Some span =
    subst (λ (b : Bool). window (shape_of newest) (final_shape newest) newest.size b newest.reshape_position ≡ Some span) tail.forth (window-is newest span next) in
    let at = forward-is (shape_of newest) (final_shape newest) newest.size newest.reshape_position span here in
    let ends : span.hi ≡ list_length newest = ap (λ (b : Bool). cond b span.lo span.hi) (sym tail.forth) ∙ tail.through in
    let last : geometry.IsIn (list_length newest - 1) span = (omega (arith, ends, at.0, at.1), (let some = some-listed newest fit in omega (arith, ends, some))) in
    let holds = rows_hold (final_shape newest) span (list_length newest - 1) fit.valid.final last in
    stripe-rows (final_shape newest) fit.valid.final (span.lo / stripe_sectors (final_shape newest)) (ceiling span.hi (stripe_sectors (final_shape newest))) x (list_length newest - 1) tail.stripe holds.0 holds.1

-- where the rows of that window stand, it does
pub moved-tails : MovedTailsStand
moved-tails scope given m span c list placed next copied x slot tail held =
    data-at m c list (final_shape m.newest) placed.fit.valid.final (place (final_shape m.newest) x).row
    (copied (place (final_shape m.newest) x).row (tail-written m.newest placed.fit span x next tail)) x refl slot held
