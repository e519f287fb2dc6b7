-- Each step of a reshape takes one of those that are left.
use Rattle.std.proofs.Common.{◌≡◌, ℕ, ◌+◌, ◌-◌, ◌<◌, ◌≤◌, true, [], Option, None, refl, sym, ◌∙◌, ap, subst, arith}
use Rattle.std.specs.Prelude.{MatchOption}
use Rattle.std.proofs.lemmas.Bool.{cond-true}
use Rattle.reshape_progress.specs.raid_types_the_Span.{Span}
use Rattle.reshape_progress.specs.sb_codec_the_Sb.{Sb}
use Rattle.reshape_progress.specs.reshape_geometry_Geometry.{stripes, steps_of, window, window_steps, beyond}
use Rattle.reshape_progress.proofs.reshape_geometry_GoingOn.{steps_fall}
use Rattle.array_call_specs.specs.reshape_plan_Plans.{phases_steps}
use Rattle.reshape_progress.specs.sb_specs_Reading.{is_reshaping, is_backward, shape_of, final_shape}
use Rattle.reshape_progress.specs.crash_views_Regions.{AreShapesFit}
use Rattle.reshape_progress.specs.crash_views_Windows.{moved_past}
use Rattle.reshape_progress.specs.array_members_Placed.{HaveSameReshape}
use Rattle.reshape_progress.specs.reshape_request_the_Window.{Window}
use Rattle.reshape_progress.specs.reshape_request_the_Window_TheVariants.{Closed, Entered, Unsure}
use Rattle.reshape_progress.specs.reshape_request_Left.{steps_from, stripes_in, zeroed_by, reshape_left, grow_left, IsPast, IsWindowRight}
use Rattle.reshape_progress.proofs.reshape_request_LeftLaws.{entering, copying, recording, finishing, zeroing}
use Rattle.reshape_progress.specs.Course.{IsWindowOf}
use Rattle.reshape_progress.specs.Laws.{entered, closed}
use Rattle.reshape_progress.specs.reshape_window_steps_Zeroing.{IsThrough}
use Rattle.array_reshaping_state.specs.Left.{LeftStays, EnteringTakesOne, CopyingTakesOne, RecordingTakesOne, FinishingTakesTheRest, ZeroingTakesOne, EndLeavesPlanned, PlansAreCounted}
use Rattle.array_reshaping_state.proofs.ReshapeLaws.{forced, under-way-of, active-of}

-- ---- on members that lost slots

module _ (old new : Sb) (reshape : HaveSameReshape old new) (shape : shape_of new ≡ shape_of old) (size : new.size ≡ old.size) where
  reshape-alike : (state : Window) (zeroed : ℕ) → reshape_left new state zeroed ≡ reshape_left old state zeroed
  reshape-alike Closed zeroed = λ i. steps_of (shape i) (reshape.final i) (size i) (reshape.backward i) (reshape.position i) - zeroed
  reshape-alike (Entered span copied sectioned) zeroed = λ i.
      (stripes (reshape.final i) span.lo span.hi - copied) + 1 + (steps_of (shape i) (reshape.final i) (size i) (reshape.backward i) (beyond (reshape.backward i) span) - zeroed)
  reshape-alike (Unsure span) zeroed = λ i. steps_of (shape i) (reshape.final i) (size i) (reshape.backward i) (reshape.position i) - zeroed

pub left-stays : LeftStays
left-stays given old new course planned moved = ap (λ (n : ℕ). n + planned) (reshape-alike old.newest new.newest moved.reshape moved.shape moved.size course.window course.zeroed)

-- ---- on one superblock

-- with no phase behind it, the plan is the reshape
alone : (newest : Sb) (state : Window) (zeroed : ℕ) → is_reshaping newest ≡ true → grow_left newest state zeroed [] ≡ reshape_left newest state zeroed + 0
alone newest state zeroed active = ap (λ (n : ℕ). n + 0) (cond-true (is_reshaping newest) (reshape_left newest state zeroed) 0 active)

one-less : (a b x y planned : ℕ) → a ≡ x + 0 → b ≡ y + 0 → a + 1 ≡ b → x + planned + 1 ≡ y + planned
one-less a b x y planned ax by falls = omega (arith, ax, by, falls)

moved-past : (newest : Sb) (span : Span) → IsPast span newest (record newest { reshape_position = beyond (is_backward newest) span })
moved-past newest span = record { active = refl; shape = refl; final = refl; backward = refl; size = refl; position = refl }

-- ---- the steps

pub entering-one : EnteringTakesOne
entering-one given old new span sectioned planned fit next moved =
    let way = under-way-of old.newest fit (active-of old.newest span next) in
    record {
      one = ap (λ (n : ℕ). n + 1) (left-stays given old new (entered span 0 sectioned) planned moved)
          ∙ one-less _ _ (reshape_left old.newest (Entered span 0 sectioned) 0) (reshape_left old.newest Closed 0) planned
          (alone old.newest (Entered span 0 sectioned) 0 way.active) (alone old.newest Closed 0 way.active) (entering old.newest span sectioned 0 [] way next (omega arith));
      unsure_is = left-stays given old new (closed 0) planned moved;
    }

pub copying-one : CopyingTakesOne
copying-one given old new span copied sectioned planned active lt moved =
    ap (λ (n : ℕ). n + 1) (left-stays given old new (entered span (copied + 1) sectioned) planned moved)
    ∙ one-less _ _ (reshape_left old.newest (Entered span (copied + 1) sectioned) 0) (reshape_left old.newest (Entered span copied sectioned) 0) planned
    (alone old.newest (Entered span (copied + 1) sectioned) 0 active) (alone old.newest (Entered span copied sectioned) 0 active) (copying old.newest span sectioned copied 0 [] active lt)

pub recording-one : RecordingTakesOne
recording-one given old new span sectioned planned active moved =
    let past = (moved_past span old).newest in
    let all = stripes_in old.newest span in
    ap (λ (n : ℕ). n + 1) (left-stays given (moved_past span old) new (closed 0) planned moved)
    ∙ one-less _ _ (reshape_left past Closed 0) (reshape_left old.newest (Entered span all sectioned) 0) planned
    (alone past Closed 0 active) (alone old.newest (Entered span all sectioned) 0 active) (recording old.newest past span sectioned 0 [] active (moved-past old.newest span))

pub finishing-rest : FinishingTakesTheRest
finishing-rest given old new span copied sectioned planned active moved =
    let past = (moved_past span old).newest in
    let rest = (stripes_in old.newest span - copied) + 1 in
    ap (λ (n : ℕ). n + rest) (left-stays given (moved_past span old) new (closed 0) planned moved)
    ∙ some-less _ _ (reshape_left past Closed 0) (reshape_left old.newest (Entered span copied sectioned) 0) planned rest
    (alone past Closed 0 active) (alone old.newest (Entered span copied sectioned) 0 active) (finishing old.newest past span sectioned copied 0 [] active (moved-past old.newest span))
  where
    some-less : (a b x y planned rest : ℕ) → a ≡ x + 0 → b ≡ y + 0 → a + rest ≡ b → x + planned + rest ≡ y + planned
    some-less a b x y planned rest ax by falls = omega (arith, ax, by, falls)

pub zeroing-one : ZeroingTakesOne
zeroing-one given old new zeroed planned active lt moved =
    ap (λ (n : ℕ). n + 1) (left-stays given old new (closed (zeroed + 1)) planned moved)
    ∙ one-less _ _ (reshape_left old.newest Closed (zeroed + 1)) (reshape_left old.newest Closed zeroed) planned
    (alone old.newest Closed (zeroed + 1) active) (alone old.newest Closed zeroed active) (zeroing old.newest zeroed [] active lt)

-- behind the last window, the stripes to zero are left, and the end
last-steps : (newest : Sb) → AreShapesFit newest → IsThrough newest → steps_from newest newest.reshape_position ≡ zeroed_by newest + 1
last-steps newest fit through =
    let next = window (shape_of newest) (final_shape newest) newest.size (is_backward newest) newest.reshape_position in
    let none : next ≡ None = sym (cond-true (is_reshaping newest) next None through.active) ∙ through.none in
    subst (λ (o : Option Span). MatchOption o (steps_from newest newest.reshape_position ≡ zeroed_by newest + 1)
    (λ span. steps_from newest newest.reshape_position ≡ window_steps (final_shape newest) span + steps_from newest (beyond (is_backward newest) span))) none
    (steps_fall (shape_of newest) (final_shape newest) newest.size (is_backward newest) newest.reshape_position (forced newest fit) (fit.position through.active))

pub end-leaves : EndLeavesPlanned
end-leaves newest planned fit through =
    let all : steps_from newest newest.reshape_position ≡ zeroed_by newest + 1 = last-steps newest fit through in
    last (steps_from newest newest.reshape_position) (zeroed_by newest) planned all
  where
    last : (all cleared planned : ℕ) → all ≡ cleared + 1 → all - cleared + planned ≡ planned + 1
    last all cleared planned is = omega (arith, is)

pub plans-counted : PlansAreCounted
plans-counted newest course ahead active =
    ap (λ (n : ℕ). n + phases_steps (final_shape newest) newest.size ahead) (sym (cond-true (is_reshaping newest) (reshape_left newest course.window course.zeroed) 0 active))

-- ---- what a course gives

pub right-of : (newest : Sb) (state : Window) → IsWindowOf newest state → IsWindowRight newest state
right-of newest Closed is = tt
right-of newest (Entered span copied sectioned) is = (is.0, is.1)
right-of newest (Unsure span) is = tt

at-end : (sum most cleared : ℕ) → cleared ≤ most → 0 < sum + most + 1 - cleared
at-end sum most cleared few = omega (arith, few)

within : (stripes behind : ℕ) → 0 < stripes + 1 + behind
within stripes behind = omega arith

-- the end is always left
pub some-left : (newest : Sb) (state : Window) (zeroed : ℕ) → zeroed ≤ zeroed_by newest → 0 < reshape_left newest state zeroed
some-left newest Closed zeroed few = at-end _ (zeroed_by newest) zeroed few
some-left newest (Entered span copied sectioned) zeroed few = within (stripes_in newest span - copied) (steps_from newest (beyond (is_backward newest) span) - zeroed)
some-left newest (Unsure span) zeroed few = at-end _ (zeroed_by newest) zeroed few
