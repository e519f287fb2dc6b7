-- Superblocks that say the same of the array place its list alike; and what is asked of each shape in force.
use Rattle.std.proofs.Common.{◌≡◌, ◌⊎◌, inl, inr, ℕ, ◌*◌, ◌<◌, ◌≤◌, ◌||◌, Bool, true, false, not, cond, min, ◌∷◌, Option, Some, None, unwrap_or, refl, sym, ◌∙◌, ap, subst, arith}
use Rattle.std.specs.Prelude.{option_to_list, find, IsTrue, ◌-ℤ◌, pos}
use Rattle.std.specs.List.{list_any}
use Rattle.std.proofs.lemmas.Bool.{and_parts}
use Rattle.std.proofs.Math.Nat.{mul-le-mul_right}
use Rattle.history.specs.raid_types_the_Shape.{Shape}
use Rattle.history.specs.raid_types_the_Side.{Side}
use Rattle.history.specs.raid_types_the_Side_TheVariants.{Old, New}
use Rattle.history.specs.raid_types_the_Refusal_TheVariants.{BackupAbsent}
use Rattle.history.specs.raid_types_Shapes.{data_disks, is_valid_shape, is_multiple}
use Rattle.history.specs.sb_codec_the_Sb.{Sb}
use Rattle.history.specs.raid_layout_Layout.{place}
use Rattle.stripe_list.proofs.raid_layout_Places.{place-row_below, place-role_below}
use Rattle.history.specs.reshape_geometry_Geometry.{unit, window, side, is_size}
use Rattle.history.specs.sb_specs_Reading.{Scope, is_reshaping, is_backward, shape_of, target_of, final_shape, role_count, list_length, next_window, count_of}
use Rattle.history.specs.sb_specs_Reads.{SaysSame}
use Rattle.history.specs.Stands.{shape_at, shape_for, has_room, backup_absent}
use Rattle.crash_views.specs.Regions.{AreShapesFit, place_by}

-- ---- two superblocks that say the same

-- the shape of a side, of two
abbrev at-side : Shape → Shape → Side → Shape
at-side old new Old = old
at-side old new New = new

at-side-is : (sb : Sb) (s : Side) → shape_at sb s ≡ at-side (shape_of sb) (final_shape sb) s
at-side-is sb Old = refl
at-side-is sb New = refl

module _ (M N : Sb) (a : SaysSame M N) where
  pub shape-alike : shape_of M ≡ shape_of N
  shape-alike i = record {
    level = a.level i;
    layout = a.layout i;
    chunk = a.chunksize i;
    disks = cond (a.reshaping i) (count_of (pos (a.raid_disks i) -ℤ a.delta_disks i)) (a.raid_disks i);
  }

  target-alike : target_of M ≡ target_of N
  target-alike i = cond (a.reshaping i) (Some (record { level = a.new_level i; layout = a.new_layout i; chunk = a.new_chunk i; disks = a.raid_disks i })) None

  pub final-alike : final_shape M ≡ final_shape N
  final-alike i = unwrap_or (target-alike i) (shape-alike i)

  pub length-alike : list_length M ≡ list_length N
  length-alike i = min (data_disks (shape-alike i)) (data_disks (final-alike i)) * a.size i

  pub window-alike : next_window M ≡ next_window N
  window-alike i = cond (a.reshaping i) (window (shape-alike i) (final-alike i) (a.size i) (a.backward i) (a.reshape_position i)) None

  pub placing-alike : (x : ℕ) → shape_for M x ≡ shape_for N x
  placing-alike x =
      ap (λ (s : Shape). cond (is_reshaping M) s (shape_of M)) (at-side-is M (side (is_backward M) M.reshape_position x))
      ∙ (λ i. cond (a.reshaping i) (at-side (shape-alike i) (final-alike i) (side (a.backward i) (a.reshape_position i) x)) (shape-alike i))
      ∙ ap (λ (s : Shape). cond (is_reshaping N) s (shape_of N)) (sym (at-side-is N (side (is_backward N) N.reshape_position x)))

  pub backup-alike : (scope : Scope) → backup_absent scope M ≡ backup_absent scope N
  backup-alike scope i = cond (not (a.reshaping i) || has_room scope (min (unit (shape-alike i) (final-alike i)) (length-alike i))) None (Some BackupAbsent)

-- ---- the shapes in force

-- what holds of both shapes holds of the one that places a sector
pub for-both : (P : Shape → Type 0) (sb : Sb) → P (shape_of sb) → P (final_shape sb) → (x : ℕ) → P (shape_for sb x)
for-both P sb old new x = of (is_reshaping sb) (side (is_backward sb) sb.reshape_position x)
  where
    of : (b : Bool) (s : Side) → P (cond b (shape_at sb s) (shape_of sb))
    of true Old = old
    of true New = new
    of false s = old

-- a test that finds none of them, or one
pub found-none : (test : Shape → Bool) (s : Shape) (t : Option Shape) → find test (s ∷ option_to_list t) ≡ None → (test s ≡ false) × (test (unwrap_or t s) ≡ false)
found-none test s None none = (here, here)
  where
    of : (b : Bool) → test s ≡ b → cond b (Some s) None ≡ None → test s ≡ false
    of true is e = absurd (cc)
    of false is e = is

    here : test s ≡ false
    here = of (test s) refl none
found-none test s (Some t) none = of (test s) (test t) refl refl none
  where
    of : (a b : Bool) → test s ≡ a → test t ≡ b → cond a (Some s) (cond b (Some t) None) ≡ None → (test s ≡ false) × (test t ≡ false)
    of true b one two e = absurd (cc)
    of false true one two e = absurd (cc)
    of false false one two e = (one, two)

pub found-some : (test : Shape → Bool) (s : Shape) (t : Option Shape) (found : Shape) → find test (s ∷ option_to_list t) ≡ Some found
    → (test found ≡ true) × ((found ≡ s) ⊎ (found ≡ unwrap_or t s))
found-some test s None found is = of (test s) refl is
  where
    of : (b : Bool) → test s ≡ b → cond b (Some s) None ≡ Some found → (test found ≡ true) × ((found ≡ s) ⊎ (found ≡ s))
    of true e is = let same : s ≡ found = cc in (subst (λ (n : Shape). test n ≡ true) same e, inl (sym same))
    of false e is = absurd (cc)
found-some test s (Some t) found is = of (test s) (test t) refl refl is
  where
    of : (a b : Bool) → test s ≡ a → test t ≡ b → cond a (Some s) (cond b (Some t) None) ≡ Some found → (test found ≡ true) × ((found ≡ s) ⊎ (found ≡ t))
    of true b one two is = let same : s ≡ found = cc in (subst (λ (n : Shape). test n ≡ true) same one, inl (sym same))
    of false true one two is = let same : t ≡ found = cc in (subst (λ (n : Shape). test n ≡ true) same two, inr (sym same))
    of false false one two is = absurd (cc)

-- a test that passes on one of them is found
pub any-both : (test : Shape → Bool) (s : Shape) (t : Option Shape) → list_any test (s ∷ option_to_list t) ≡ false → (test s ≡ false) × (test (unwrap_or t s) ≡ false)
any-both test s None none = (here, here)
  where
    of : (b : Bool) → (b || false) ≡ false → b ≡ false
    of true e = absurd (cc)
    of false e = refl

    here : test s ≡ false
    here = of (test s) none
any-both test s (Some t) none = of (test s) (test t) none
  where
    of : (a b : Bool) → (a || (b || false)) ≡ false → (a ≡ false) × (b ≡ false)
    of true b e = absurd (cc)
    of false true e = absurd (cc)
    of false false e = (refl, refl)

-- ---- where a sector stands

module _ (newest : Sb) (fit : AreShapesFit newest) where
  pub valid-for : (x : ℕ) → IsTrue (is_valid_shape (shape_for newest x))
  valid-for = for-both (λ s. IsTrue (is_valid_shape s)) newest fit.valid.old fit.valid.final

  pub whole-chunks : (shape : Shape) → IsTrue (is_size newest.size shape.chunk) → is_multiple newest.size shape.chunk ≡ true
  whole-chunks shape size = (and_parts _ _ size).1

  in-rows : (shape : Shape) → IsTrue (is_valid_shape shape) → IsTrue (is_size newest.size shape.chunk) → (n x : ℕ) → n ≤ data_disks shape → x < n * newest.size → (place shape x).row < newest.size
  in-rows shape valid size n x few below =
      let wide : n * newest.size ≤ data_disks shape * newest.size = mul-le-mul_right newest.size few in
      place-row_below shape valid x newest.size (whole-chunks shape size) (omega (arith, below, wide))

  -- each sector of the list stands in a row that the members have
  pub row-below : (x : ℕ) → x < list_length newest → (place_by newest x).row < newest.size
  row-below x below = for-both (λ s. (place s x).row < newest.size) newest
      (in-rows (shape_of newest) fit.valid.old fit.size (min (data_disks (shape_of newest)) (data_disks (final_shape newest))) x (omega arith) below)
      (in-rows (final_shape newest) fit.valid.final fit.final_size (min (data_disks (shape_of newest)) (data_disks (final_shape newest))) x (omega arith) below) x

  pub role-in-shape : (x : ℕ) → (place_by newest x).role < (shape_for newest x).disks
  role-in-shape x = place-role_below (shape_for newest x) (valid-for x) x

  pub role-below : (x : ℕ) → (place_by newest x).role < role_count newest
  role-below x = for-both (λ s. (place s x).role < role_count newest) newest
      (let lt = place-role_below (shape_of newest) fit.valid.old x in omega (arith, lt))
      (let lt = place-role_below (final_shape newest) fit.valid.final x in omega (arith, lt)) x
