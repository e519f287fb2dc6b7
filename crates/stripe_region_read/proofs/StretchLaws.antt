-- The rows of a shape whose parity is to be relied on, and the shape that places a sector.
use Rattle.std.proofs.Common.{◌≡◌, inl, inr, ℕ, ◌*◌, ◌/◌, ◌^◌, ◌<◌, ◌≤◌, nat_le, min, Bool, true, false, if◌then◌else◌, refl, sym, ap, subst, arith}
use Rattle.std.proofs.lemmas.Bool.{cases_lt}
use Rattle.std.proofs.lemmas.Bool.Decides.{nat_tests}
use Rattle.std.proofs.lemmas.Nat.{mul-le, div-add-mod'}
use Rattle.stripe_io.specs.raid_types_Shapes.{is_valid_shape, is_multiple, data_disks, stripe_sectors}
use Rattle.stripe_io.specs.raid_types_the_Shape.{Shape}
use Rattle.stripe_io.specs.sb_codec_the_Sb.{Sb}
use Rattle.stripe_io.specs.raid_layout_Layout.{place}
use Rattle.stripe_io.proofs.raid_layout_Places.{chunk_some, place-sector_below}
use Rattle.stripe_io.specs.sb_specs_Reading.{shape_of, final_shape, list_length}
use Rattle.stripe_io.specs.crash_views_Regions.{AreShapesFit}
use Rattle.stripe_io.specs.array_members_Placed.{IsInForce}
use Rattle.stripe_io.proofs.array_members_Fit.{force-valid, force-multiple, fit-short}
use Rattle.stripe_io.proofs.raid_layout_Limits.{limited}
use Rattle.stripe_io.proofs.array_members_Stripes.{stripes-multiple}
use Rattle.stripe_region_read.specs.Stretches.{relied_rows}

-- ---- the rows that are relied on

-- the list is no longer than the data of a shape in force
pub list-short : (newest : Sb) (shape : Shape) → IsInForce newest shape → list_length newest ≤ data_disks shape * newest.size
list-short newest shape (inl same) = subst (λ (s : Shape). list_length newest ≤ data_disks s * newest.size) (sym same)
    (let few = lower (data_disks (shape_of newest)) (data_disks (final_shape newest)) in mul-le (min (data_disks (shape_of newest)) (data_disks (final_shape newest))) newest.size (data_disks (shape_of newest)) newest.size few (omega arith))
  where
    lower : (a b : ℕ) → min a b ≤ a
    lower a b = omega arith
list-short newest shape (inr same) = subst (λ (s : Shape). list_length newest ≤ data_disks s * newest.size) (sym same)
    (let few = upper (data_disks (shape_of newest)) (data_disks (final_shape newest)) in mul-le (min (data_disks (shape_of newest)) (data_disks (final_shape newest))) newest.size (data_disks (final_shape newest)) newest.size few (omega arith))
  where
    upper : (a b : ℕ) → min a b ≤ b
    upper a b = omega arith

-- and that is below what the calls on lists take
pub data-few : (newest : Sb) (fit : AreShapesFit newest) (shape : Shape) → IsInForce newest shape → data_disks shape * newest.size < 2 ^ 53
data-few newest fit shape force =
    let most = (limited shape (force-valid newest fit shape force)).most in
    let few : data_disks shape ≤ 16 = omega (arith, most) in
    let all = mul-le (data_disks shape) newest.size 16 (2 ^ 48) few (fit-short newest fit) in
    omega (arith, all)

-- whole stripes are no longer than what they are of
pub stripes-short : (n chunk disks : ℕ) → disks * (n / (chunk * disks) * chunk) ≤ n
stripes-short n chunk disks =
    let whole = div-add-mod' n (chunk * disks) in
    let turned : disks * (n / (chunk * disks) * chunk) ≡ n / (chunk * disks) * (chunk * disks) = turn (n / (chunk * disks)) in
    omega (arith, whole, turned)
  where
    turn : (q : ℕ) → disks * (q * chunk) ≡ q * (chunk * disks)
    turn q = omega arith

pub rows-below : (n chunk disks size : ℕ) → n < disks * size → n / (chunk * disks) * chunk ≤ size
rows-below n chunk disks size short = elim (cases_lt size (n / (chunk * disks) * chunk)) [
  | inl more ↦ absurd (
      let all = mul-le disks size disks (n / (chunk * disks) * chunk) (omega arith) (omega (arith, more)) in
      let few = stripes-short n chunk disks in
      omega (arith, short, all, few))
  | inr few ↦ few
]

module _ (newest : Sb) (fit : AreShapesFit newest) (shape : Shape) (force : IsInForce newest shape) (relied : ℕ) where
  valid : is_valid_shape shape ≡ true
  valid = force-valid newest fit shape force

  at-most : (a b : ℕ) → nat_le a b ≡ true → a ≤ b
  at-most a b is = grind (arith, nat_tests, is)

  above : (a b : ℕ) → nat_le a b ≡ false → b < a
  above a b is = grind (arith, nat_tests, is)

  pub relied-within : relied_rows newest relied shape ≤ newest.size
  relied-within = by (nat_le (list_length newest) relied) refl
    where
      by : (b : Bool) → nat_le (list_length newest) relied ≡ b → (if b then newest.size else relied / stripe_sectors shape * shape.chunk) ≤ newest.size
      by true all = omega arith
      by false some = rows-below relied shape.chunk (data_disks shape) newest.size
          (let short = list-short newest shape force in let low = above (list_length newest) relied some in omega (arith, short, low))

  pub relied-stripes : is_multiple (relied_rows newest relied shape) shape.chunk ≡ true
  relied-stripes = by (nat_le (list_length newest) relied)
    where
      by : (b : Bool) → is_multiple (if b then newest.size else relied / stripe_sectors shape * shape.chunk) shape.chunk ≡ true
      by true = force-multiple newest fit shape force
      by false = stripes-multiple (relied / stripe_sectors shape) shape.chunk (chunk_some shape valid)

  -- a sector of the list in one of these rows is below what is relied on
  pub relied-below : (x : ℕ) → x < list_length newest → (place shape x).row < relied_rows newest relied shape → x < relied
  relied-below x lt low = by (nat_le (list_length newest) relied) refl
    where
      near : x < data_disks shape * relied_rows newest relied shape
      near = place-sector_below shape valid x (relied_rows newest relied shape) relied-stripes low

      by : (b : Bool) → nat_le (list_length newest) relied ≡ b → x < relied
      by true all = let most = at-most (list_length newest) relied all in omega (arith, lt, most)
      by false some =
          let rows : relied_rows newest relied shape ≡ relied / stripe_sectors shape * shape.chunk = ap (λ (b : Bool). if b then newest.size else relied / stripe_sectors shape * shape.chunk) some in
          let here : x < data_disks shape * (relied / stripe_sectors shape * shape.chunk) = subst (λ (n : ℕ). x < data_disks shape * n) rows near in
          let short = stripes-short relied shape.chunk (data_disks shape) in
          omega (arith, here, short)
