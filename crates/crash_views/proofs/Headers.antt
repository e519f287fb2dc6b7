-- The next window's span, and the headers that name it: they fit before it and behind it.
use Rattle.std.proofs.Common.{◌≡◌, inr, inl, ℕ, ◌-◌, ◌*◌, ◌<◌, ◌≤◌, min, Bool, true, false, cond, nat_lt, nat_le, length, Option, Some, unwrap_or, ◌∙◌, ap, arith}
use Rattle.std.specs.Prelude.{◌^◌}
use Rattle.std.proofs.lemmas.Bool.{and_parts, eqb-true, leb-true}
use Rattle.std.proofs.lemmas.Bool.Decides.{nat_tests}
use Rattle.std.proofs.Math.Nat.{mul-le-mul_right}
use Rattle.history.specs.raid_types_the_Shape.{Shape}
use Rattle.history.specs.raid_types_the_Span.{Span}
use Rattle.history.specs.raid_types_the_Side_TheVariants.{Old, New}
use Rattle.history.specs.raid_types_Bytes.{field}
use Rattle.history.specs.raid_types_Sectors.{Sector}
use Rattle.history.specs.raid_types_Shapes.{data_disks}
use Rattle.stripe_list.proofs.raid_layout_Limits.{limited}
use Rattle.history.specs.reshape_geometry_Geometry.{window, side, beyond}
use Rattle.history.specs.reshape_geometry_Geometry as geometry
use Rattle.stripe_region_laws.proofs.reshape_geometry_Divisions.{quotient}
use Rattle.history.proofs.reshape_geometry_Valid.{the_unit}
use Rattle.stripe_region_laws.specs.Regions.{IsUnderWay}
use Rattle.stripe_region_laws.proofs.RegionLaws.{forward-is, backward-is}
use Rattle.history.specs.sb_codec_the_Sb.{Sb}
use Rattle.history.specs.sb_specs_Reading.{Scope, is_backward, shape_of, final_shape, next_window}
use Rattle.history.specs.bank_backup_Section.{is_header_of, names_span}
use Rattle.history.specs.bank_backup_Written.{header_of}
use Rattle.history.proofs.bank_backup_WrittenLaws.{headers-named}
use Rattle.crash_views.specs.Regions.{backup_of, AreShapesFit}
use Rattle.crash_views.specs.Views.{IsHeaderFit}
use Rattle.crash_views.specs.Windows.{NextHeadersFit}
use Rattle.crash_views.proofs.Stands.{window-inside}
use Rattle.crash_views.proofs.UnderWay.{is-reshaping, window-is, under-way}

-- ---- the window

ahead-filled : (old new : Shape) (size position : ℕ) (span : Span) → IsUnderWay old new size false position → window old new size false position ≡ Some span → span.lo < span.hi
ahead-filled old new size position span way is =
    let at = forward-is old new size position span is in
    let below = at.0 in
    let lo = at.1 in
    let hi = at.2 in
    let some = (the_unit old new way.force.old_valid way.force.new_valid).positive in
    omega (arith, lo, hi, below, some)

behind-filled : (old new : Shape) (size position : ℕ) (span : Span) → IsUnderWay old new size true position → window old new size true position ≡ Some span → span.lo < span.hi
behind-filled old new size position span way is =
    let at = backward-is old new size position span is in
    let some_left = at.0 in
    let lo = at.1 in
    let hi = at.2 in
    let some = (the_unit old new way.force.old_valid way.force.new_valid).positive in
    let below = (quotient (position - 1) (geometry.unit old new) some).0 in
    omega (arith, some_left, lo, hi, below)

-- the next window isn't empty
pub window-filled : (newest : Sb) → AreShapesFit newest → (span : Span) → next_window newest ≡ Some span → span.lo < span.hi
window-filled newest fit span next = of (is_backward newest) (under-way newest fit (is-reshaping newest span next)) (window-is newest span next)
  where
    of : (back : Bool) → IsUnderWay (shape_of newest) (final_shape newest) newest.size back newest.reshape_position → window (shape_of newest) (final_shape newest) newest.size back newest.reshape_position ≡ Some span
        → span.lo < span.hi
    of false way is = ahead-filled (shape_of newest) (final_shape newest) newest.size newest.reshape_position span way is
    of true way is = behind-filled (shape_of newest) (final_shape newest) newest.size newest.reshape_position span way is

-- it ends below the greatest number of 64 bits
pub window-short : (newest : Sb) → AreShapesFit newest → (span : Span) → next_window newest ≡ Some span → span.hi < 2 ^ 64
window-short newest fit span next =
    let inside = window-inside newest fit span next in
    let most = (limited (shape_of newest) fit.valid.old).most in
    let short : newest.size ≤ 2 ^ 48 = leb-true newest.size (2 ^ 48) (and_parts _ _ (and_parts _ _ fit.size).0).1 in
    let few : min (data_disks (shape_of newest)) (data_disks (final_shape newest)) * newest.size ≤ 16 * newest.size = mul-le-mul_right newest.size (omega (arith, most)) in
    omega (arith, inside, few, short)

-- ---- headers

-- the header's slot is the backup, where there is one
pub backup-is : (scope : Scope) (backup : ℕ) → scope.backup ≡ Some backup → backup_of scope ≡ backup
backup-is scope backup is = ap (λ (o : Option ℕ). unwrap_or o 0) is

-- a header names one span
less-than : (a b : ℕ) → nat_lt a b ≡ true → a < b
less-than a b e = grind (arith, nat_tests, e)

-- what it names, as numbers
pub names-parts : (header : Sector) (s : Span) → names_span header s ≡ true → (field header 48 8 ≡ s.lo) × (field header 56 8 ≡ s.hi - s.lo) × (s.lo < s.hi)
names-parts header s is = (
  eqb-true (field header 48 8) s.lo (and_parts _ _ (and_parts _ _ (and_parts _ _ is).0).0).1,
  eqb-true (field header 56 8) (s.hi - s.lo) (and_parts _ _ (and_parts _ _ is).0).1,
  less-than s.lo s.hi (and_parts _ _ is).1,
)

pub names-one : (header : Sector) (a b : Span) → names_span header a ≡ true → names_span header b ≡ true → (a.lo ≡ b.lo) × (a.hi ≡ b.hi)
names-one header a b one two =
    let p = names-parts header a one in
    let q = names-parts header b two in
    (omega (arith, p.0, q.0), omega (arith, p.0, q.0, p.1, q.1, p.2, q.2))

pub span-same : (a b : Span) → (a.lo ≡ b.lo) × (a.hi ≡ b.hi) → a ≡ b
span-same a b (lo, hi) = λ i. record { lo = lo i; hi = hi i }

-- what a window held is new once the position is behind it
pub new-behind : (back : Bool) (span : Span) (x : ℕ) → span.lo ≤ x → x < span.hi → side back (beyond back span) x ≡ New
new-behind true span x low high = ap (λ (b : Bool). cond b New Old) (le span.lo x low)
  where
    le : (a b : ℕ) → a ≤ b → nat_le a b ≡ true
    le a b h = grind (arith, nat_tests, h)
new-behind false span x low high = ap (λ (b : Bool). cond b New Old) (lt x span.hi high)
  where
    lt : (a b : ℕ) → a < b → nat_lt a b ≡ true
    lt a b h = grind (arith, nat_tests, h)

pub next-headers : NextHeadersFit
next-headers scope given m span header placed next named = (
  λ other is. inl (next ∙ ap (λ (s : Span). Some s) (span-same span other (names-one header span other named (and_parts _ _ is).1))),
  λ other is. inr (λ x low high. (
      let same : (other.lo ≡ span.lo) × (other.hi ≡ span.hi) = names-one header other span (and_parts (is_header_of scope.uuid header) (names_span header other) is).1 named in
      new-behind (is_backward m.newest) span x (omega (arith, low, same.0)) (omega (arith, high, same.1)))),
)

-- the one that is written for the next window
pub own-header : (scope : Scope) (newest : Sb) → AreShapesFit newest → (span : Span) → next_window newest ≡ Some span → length scope.uuid ≡ 16 → IsHeaderFit scope newest (header_of scope.uuid span)
own-header scope newest fit span next sixteen other is =
    let named : names_span (header_of scope.uuid span) span ≡ true = (headers-named scope.uuid span sixteen (window-filled newest fit span next) (window-short newest fit span next)).named in
    inl (next ∙ ap (λ (s : Span). Some s) (span-same span other (names-one (header_of scope.uuid span) span other named (and_parts _ _ is).1)))
