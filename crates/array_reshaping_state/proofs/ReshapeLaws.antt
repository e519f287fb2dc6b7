-- The reshape that members are in: its windows, and the stripes of its steps.
use Rattle.std.proofs.Common.{◌≡◌, ℕ, ◌+◌, ◌-◌, ◌*◌, ◌/◌, ◌^◌, ◌<◌, ◌≤◌, ◌==◌, nat_le, min, Bool, true, false, cond, if◌then◌else◌, Option, Some, None, IfSome, IfNone, IsTrue, refl, sym, ◌∙◌, ap, subst, arith, eqb-true}
use Rattle.std.proofs.lemmas.Bool.{cond-true}
use Rattle.std.proofs.lemmas.Bool.Decides.{nat_tests}
use Rattle.array_call_specs.specs.raid_types_the_Shape.{Shape}
use Rattle.reshape_progress.specs.raid_types_the_Span.{Span}
use Rattle.array_call_specs.specs.raid_types_Shapes.{is_valid_shape, stripe_sectors}
use Rattle.reshape_progress.specs.sb_codec_the_Sb.{Sb}
use Rattle.reshape_progress.specs.reshape_geometry_Geometry.{AreInForce, unit, list_end, window, ceiling}
use Rattle.reshape_progress.proofs.reshape_geometry_Divisions.{quotient}
use Rattle.reshape_progress.proofs.reshape_geometry_Valid.{the_unit, bounded_pair}
use Rattle.reshape_progress.specs.sb_specs_Reading.{is_reshaping, is_backward, shape_of, final_shape, list_length, next_window}
use Rattle.reshape_progress.specs.history_Stands.{reach_of}
use Rattle.reshape_progress.specs.crash_views_Regions.{AreShapesFit}
use Rattle.reshape_progress.proofs.crash_views_Stands.{window-inside}
use Rattle.reshape_progress.proofs.crash_views_UnderWay.{is-reshaping, window-is}
use Rattle.reshape_progress.specs.reshape_request_Left.{zeroed_by, IsReshapeUnderWay}
use Rattle.reshape_progress.specs.reshape_window_steps_Zeroing.{IsThrough}

-- ---- the shapes in force

pub forced : (newest : Sb) → AreShapesFit newest → AreInForce (shape_of newest) (final_shape newest) newest.size
forced newest fit = record { old_valid = fit.valid.old; new_valid = fit.valid.final; old_size = fit.size; new_size = fit.final_size }

pub forced-by : (newest : Sb) → AreShapesFit newest → (old new : Shape) → old ≡ shape_of newest → new ≡ final_shape newest → AreInForce old new newest.size
forced-by newest fit old new a b =
    subst (λ (s : Shape). AreInForce s new newest.size) (sym a) (subst (λ (s : Shape). AreInForce (shape_of newest) s newest.size) (sym b) (forced newest fit))

pub end-by : (newest : Sb) (old new : Shape) → old ≡ shape_of newest → new ≡ final_shape newest → list_end old new newest.size ≡ list_length newest
end-by newest old new a b = ap (λ (s : Shape). list_end s new newest.size) a ∙ ap (λ (s : Shape). list_end (shape_of newest) s newest.size) b

pub valid-by : (newest : Sb) → AreShapesFit newest → (new : Shape) → new ≡ final_shape newest → IsTrue (is_valid_shape new)
valid-by newest fit new b = subst (λ (s : Shape). IsTrue (is_valid_shape s)) (sym b) fit.valid.final

pub list-short : (newest : Sb) → AreShapesFit newest → list_length newest ≤ 2 ^ 53
list-short newest fit = (bounded_pair (shape_of newest) (final_shape newest) newest.size (forced newest fit)).short_list

pub under-way-of : (newest : Sb) → AreShapesFit newest → is_reshaping newest ≡ true → IsReshapeUnderWay newest
under-way-of newest fit active = record { active = active; in_force = forced newest fit; within = fit.position active }

-- ---- the windows

abbrev span-at : ℕ → ℕ → Span
span-at lo hi = record { lo = lo; hi = hi }

same-span : (x y : Span) → Some x ≡ Some y → x ≡ y
same-span x y e = cc

at-most : (a b : ℕ) → nat_le a b ≡ true → a ≤ b
at-most a b is = grind (arith, nat_tests, is)

-- where no window is left, the position is the last one
last-of : (old new : Shape) (size : ℕ) (back : Bool) (p : ℕ) → p ≤ list_end old new size → window old new size back p ≡ None → p ≡ (if back then 0 else list_end old new size)
last-of old new size true p le is = of (p == 0) refl is
  where
    of : (b : Bool) → (p == 0) ≡ b → ◌≡◌ {A = Option Span} (cond b None (Some (span-at (((p - 1) / unit old new) * unit old new) p))) None → p ≡ 0
    of true none e = eqb-true p 0 none
    of false some e = absurd (cc)
last-of old new size false p le is = of (nat_le (list_end old new size) p) refl is
  where
    of : (b : Bool) → nat_le (list_end old new size) p ≡ b → ◌≡◌ {A = Option Span} (cond b None (Some (span-at p (min (p + unit old new) (list_end old new size))))) None → p ≡ list_end old new size
    of true all e = let most = at-most (list_end old new size) p all in omega (arith, most, le)
    of false some e = absurd (cc)

pub through-of : (newest : Sb) → AreShapesFit newest → is_reshaping newest ≡ true → next_window newest ≡ None → IsThrough newest
through-of newest fit active none =
    let next = window (shape_of newest) (final_shape newest) newest.size (is_backward newest) newest.reshape_position in
    record {
      active = active;
      none = none;
      last = last-of (shape_of newest) (final_shape newest) newest.size (is_backward newest) newest.reshape_position (fit.position active) (sym (cond-true (is_reshaping newest) next None active) ∙ none);
    }

-- a window is at most one unit long
longest-of : (old new : Shape) (size : ℕ) (back : Bool) (p : ℕ) (span : Span) → 0 < unit old new → window old new size back p ≡ Some span → span.hi ≤ span.lo + unit old new
longest-of old new size true p span some is = of (p == 0) is
  where
    of : (b : Bool) → cond b None (Some (span-at (((p - 1) / unit old new) * unit old new) p)) ≡ Some span → span.hi ≤ span.lo + unit old new
    of true e = absurd (cc)
    of false e =
        let same = same-span (span-at (((p - 1) / unit old new) * unit old new) p) span e in
        let lo : ((p - 1) / unit old new) * unit old new ≡ span.lo = ap (λ (s : Span). s.lo) same in
        let hi : p ≡ span.hi = ap (λ (s : Span). s.hi) same in
        let near = (quotient (p - 1) (unit old new) some).1 in
        omega (arith, lo, hi, near)
longest-of old new size false p span some is = of (nat_le (list_end old new size) p) is
  where
    of : (b : Bool) → cond b None (Some (span-at p (min (p + unit old new) (list_end old new size)))) ≡ Some span → span.hi ≤ span.lo + unit old new
    of true e = absurd (cc)
    of false e =
        let same = same-span (span-at p (min (p + unit old new) (list_end old new size))) span e in
        let lo : p ≡ span.lo = ap (λ (s : Span). s.lo) same in
        let hi : min (p + unit old new) (list_end old new size) ≡ span.hi = ap (λ (s : Span). s.hi) same in
        omega (arith, lo, hi)

pub window-reach : (newest : Sb) → AreShapesFit newest → (span : Span) → next_window newest ≡ Some span → span.hi - span.lo ≤ reach_of newest
window-reach newest fit span next =
    least span.lo span.hi (unit (shape_of newest) (final_shape newest)) (list_length newest)
    (longest-of (shape_of newest) (final_shape newest) newest.size (is_backward newest) newest.reshape_position span (the_unit (shape_of newest) (final_shape newest) fit.valid.old fit.valid.final).positive (window-is newest span next))
    (window-inside newest fit span next)
  where
    least : (lo hi u e : ℕ) → hi ≤ lo + u → hi ≤ e → hi - lo ≤ min u e
    least lo hi u e long inside = omega (arith, long, inside)

pub active-of : (newest : Sb) (span : Span) → next_window newest ≡ Some span → is_reshaping newest ≡ true
active-of newest span next = is-reshaping newest span next

-- what is true of the next window, and where there is none
pub of-window : (newest : Sb) (P : Span → Type 0) → ((span : Span) → next_window newest ≡ Some span → P span) → (found : Option Span) → found ≡ next_window newest → IfSome found P
of-window newest P each None is = tt
of-window newest P each (Some span) is = each span (sym is)

pub no-window : (newest : Sb) (Q : Type 0) → (next_window newest ≡ None → Q) → (found : Option Span) → found ≡ next_window newest → IfNone found Q
no-window newest Q end None is = end (sym is)
no-window newest Q end (Some span) is = tt

-- ---- the stripes

pub copy-of : (first end copied : ℕ) → copied < end - first → (first ≤ first + copied) × (first + copied < end)
copy-of first end copied lt = (omega arith, omega (arith, lt))

pub zero-of : (back : Bool) (all first zeroed : ℕ) → zeroed < (if back then 0 else all - first) → (first ≤ first + zeroed) × (first + zeroed < all)
zero-of true all first cleared lt = absurd (omega (arith, lt))
zero-of false all first cleared lt = (omega arith, omega (arith, lt))

-- backward none is zeroed
pub none-to-zero : (newest : Sb) → is_backward newest ≡ true → 0 ≡ zeroed_by newest
none-to-zero newest is = sym (ap (λ (b : Bool). if b then 0 else newest.size / (final_shape newest).chunk - ceiling (list_end (shape_of newest) (final_shape newest) newest.size) (stripe_sectors (final_shape newest))) is)
