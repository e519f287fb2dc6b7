-- The reshape that members are in, as the geometry has it.
use Rattle.std.proofs.Common.{◌≡◌, ◌⊎◌, inl, inr, ℕ, ◌*◌, ◌/◌, ◌<◌, ◌≤◌, ◌==◌, ◌||◌, ◌&&◌, nat_lt, nat_le, Bool, true, false, not, cond, Option, Some, None, refl, sym, ◌∙◌, ap, subst, arith}
use Rattle.std.specs.Int.{◌∣◌}
use Rattle.std.proofs.lemmas.Bool.{eqb-true}
use Rattle.std.proofs.lemmas.Bool.Decides.{nat_tests}
use Rattle.std.proofs.Math.Nat.{dvd-mul_left}
use Rattle.history.specs.raid_types_the_Shape.{Shape}
use Rattle.history.specs.raid_types_the_Span.{Span}
use Rattle.history.specs.raid_types_the_Side.{Side}
use Rattle.history.specs.raid_types_the_Side_TheVariants.{Old, New}
use Rattle.history.specs.raid_types_the_Refusal.{Refusal}
use Rattle.history.specs.raid_types_the_Refusal_TheVariants.{PositionNotOnUnit}
use Rattle.history.specs.raid_types_Shapes.{tolerance, tolerance_of, is_multiple}
use Rattle.history.specs.sb_codec_the_Sb.{Sb}
use Rattle.history.specs.raid_layout_Layout.{place}
use Rattle.history.specs.reshape_geometry_Geometry.{unit, side, window, rows, IsOnUnit, beyond, is_critical, live_sectors}
use Rattle.history.specs.reshape_geometry_Geometry as geometry
use Rattle.stripe_region_laws.specs.Regions.{IsDirected, IsUnderWay, IsWindowRow}
use Rattle.stripe_region_laws.proofs.RegionLaws.{windows-write}
use Rattle.stripe_region_laws.proofs.reshape_geometry_Rows.{writes_apart}
use Rattle.history.specs.sb_specs_Reading.{is_reshaping, is_backward, shape_of, final_shape, list_length, next_window}
use Rattle.history.specs.sb_specs_Verdict.{off_unit, unit_of}
use Rattle.history.specs.Stands.{shape_at, shape_for, covers}
use Rattle.crash_views.specs.Regions.{AreShapesFit, place_by}

-- the same level gives each shape as many parities
tolerance-same : (newest : Sb) → AreShapesFit newest → tolerance (final_shape newest) ≡ tolerance (shape_of newest)
tolerance-same newest fit = ap tolerance_of fit.level

-- a reshape is active where there is a next window
pub is-reshaping : (newest : Sb) (span : Span) → next_window newest ≡ Some span → is_reshaping newest ≡ true
is-reshaping newest span next = of (is_reshaping newest) refl next
  where
    of : (b : Bool) → is_reshaping newest ≡ b → cond b (window (shape_of newest) (final_shape newest) newest.size (is_backward newest) newest.reshape_position) None ≡ Some span → is_reshaping newest ≡ true
    of true is e = is
    of false is e = absurd (cc)

pub window-is : (newest : Sb) (span : Span) → next_window newest ≡ Some span → window (shape_of newest) (final_shape newest) newest.size (is_backward newest) newest.reshape_position ≡ Some span
window-is newest span next = sym (ap (λ (b : Bool). cond b (window (shape_of newest) (final_shape newest) newest.size (is_backward newest) newest.reshape_position) None) (is-reshaping newest span next)) ∙ next

on-unit : (newest : Sb) → is_reshaping newest ≡ true → off_unit newest ≡ None → IsOnUnit (shape_of newest) (final_shape newest) newest.size newest.reshape_position
on-unit newest active none = of (is_reshaping newest) (is_multiple newest.reshape_position (unit_of newest)) (newest.reshape_position == list_length newest) active refl refl none
  where
    of : (r a b : Bool) → r ≡ true → is_multiple newest.reshape_position (unit_of newest) ≡ a → (newest.reshape_position == list_length newest) ≡ b
        → ◌≡◌ {A = Option Refusal} (cond (not r || a || b) None (Some (PositionNotOnUnit newest.reshape_position (unit_of newest)))) None
        → IsOnUnit (shape_of newest) (final_shape newest) newest.size newest.reshape_position
    of false a b inactive one two e = absurd (cc)
    of true true b is one two e = inl (subst (λ (n : ℕ). unit_of newest ∣ n) (eqb-true (newest.reshape_position / unit_of newest * unit_of newest) newest.reshape_position one) (dvd-mul_left (unit_of newest) (newest.reshape_position / unit_of newest)))
    of true false true is one two e = inr (eqb-true newest.reshape_position (list_length newest) two)
    of true false false is one two e = absurd (cc)

directed : (newest : Sb) → AreShapesFit newest → is_reshaping newest ≡ true → IsDirected (shape_of newest) (final_shape newest) (is_backward newest)
directed newest fit active = of (is_backward newest) refl
  where
    of : (b : Bool) → is_backward newest ≡ b → IsDirected (shape_of newest) (final_shape newest) b
    of true is = let le = fit.delta_back active is in let t = tolerance-same newest fit in omega (arith, le, t)
    of false is = let le = fit.delta active is in let t = tolerance-same newest fit in omega (arith, le, t)

pub under-way : (newest : Sb) → AreShapesFit newest → is_reshaping newest ≡ true → IsUnderWay (shape_of newest) (final_shape newest) newest.size (is_backward newest) newest.reshape_position
under-way newest fit active = record {
  force = record { old_valid = fit.valid.old; new_valid = fit.valid.final; old_size = fit.size; new_size = fit.final_size };
  directed = directed newest fit active;
  within = fit.position active;
  on_unit = on-unit newest active fit.unit;
}

-- ---- the side of a sector

pub side-or : (back : Bool) (position x : ℕ) → (side back position x ≡ Old) ⊎ (side back position x ≡ New)
side-or back position x = of (side back position x)
  where
    of : (s : Side) → (s ≡ Old) ⊎ (s ≡ New)
    of Old = inl refl
    of New = inr refl

pub shape-on : (newest : Sb) → is_reshaping newest ≡ true → (x : ℕ) (s : Side) → side (is_backward newest) newest.reshape_position x ≡ s → shape_for newest x ≡ shape_at newest s
shape-on newest active x s is = ap (λ (b : Bool). cond b (shape_at newest (side (is_backward newest) newest.reshape_position x)) (shape_of newest)) active ∙ ap (shape_at newest) is

-- ---- what a window writes is apart from what is read elsewhere

covers-not : (span : Span) (x : ℕ) → covers (Some span) x ≡ false → geometry.IsIn x span → ⊥
covers-not span x out (low, high) = absurd (let is : covers (Some span) x ≡ true = of span.lo span.hi low high in cc)
  where
    of : (lo hi : ℕ) → lo ≤ x → x < hi → ◌≡◌ {A = Bool} (nat_le lo x && nat_lt x hi) true
    of lo hi low high = grind (arith, nat_tests, low, high)

pub in-or-out : (span : Span) (x : ℕ) → geometry.IsIn x span ⊎ (covers (Some span) x ≡ false)
in-or-out span x = of (nat_le span.lo x) (nat_lt x span.hi) refl refl
  where
    of : (a b : Bool) → nat_le span.lo x ≡ a → nat_lt x span.hi ≡ b → geometry.IsIn x span ⊎ ((a && b) ≡ false)
    of true true one two = inl (grind (arith, nat_tests, one), grind (arith, nat_tests, two))
    of true false one two = inr refl
    of false b one two = inr refl

module _ (newest : Sb) (fit : AreShapesFit newest) (span : Span) (next : next_window newest ≡ Some span) (row : ℕ) (written : geometry.IsIn row (rows (final_shape newest) span.lo span.hi)) where
  abbrev active : is_reshaping newest ≡ true
  active = is-reshaping newest span next

  pub window-row : IsWindowRow (shape_of newest) (final_shape newest) newest.size (is_backward newest) newest.reshape_position span row
  window-row = windows-write (shape_of newest) (final_shape newest) newest.size (is_backward newest) newest.reshape_position span row (under-way newest fit (is-reshaping newest span next)) (window-is newest span next) written

  -- no sector outside the window stands in a row that it writes
  pub row-apart : (x : ℕ) → x < list_length newest → covers (Some span) x ≡ false → (place_by newest x).row ≡ row → ⊥
  row-apart x below out same = elim (side-or (is_backward newest) newest.reshape_position x) [
    | inl old ↦ window-row.beyond x below old (covers-not span x out) (sym (ap (λ (s : Shape). (place s x).row) (shape-on newest (is-reshaping newest span next) x Old old)) ∙ same)
    | inr new ↦ window-row.behind x below new (sym (ap (λ (s : Shape). (place s x).row) (shape-on newest (is-reshaping newest span next) x New new)) ∙ same)
  ]

  -- and none of the window itself, in a window that isn't critical
  pub row-apart-uncritical : is_critical (shape_of newest) (final_shape newest) newest.size (is_backward newest) span ≡ false
      → (x : ℕ) → x < list_length newest → (place_by newest x).row ≡ row → ⊥
  row-apart-uncritical plain x below same = elim (side-or (is_backward newest) newest.reshape_position x) [
    | inl old ↦ elim (in-or-out span x) [
      | inl inside ↦ writes_apart (shape_of newest) (final_shape newest) newest.size (is_backward newest) span (under-way newest fit (is-reshaping newest span next)).force plain row x written
          (lives (is_backward newest) inside) (sym (ap (λ (s : Shape). (place s x).row) (shape-on newest (is-reshaping newest span next) x Old old)) ∙ same)
      | inr out ↦ row-apart x below out same
    ]
    | inr new ↦ window-row.behind x below new (sym (ap (λ (s : Shape). (place s x).row) (shape-on newest (is-reshaping newest span next) x New new)) ∙ same)
  ]
    where
      lives : (back : Bool) → geometry.IsIn x span → geometry.IsIn x (live_sectors (shape_of newest) (final_shape newest) newest.size back span)
      lives true (low, high) = (omega arith, high)
      lives false (low, high) = (low, below)
