-- Each step of a plan takes one of those that are left.
use Rattle.std.proofs.Common.{◌≡◌, ℕ, ◌+◌, ◌-◌, ◌*◌, ◌/◌, ◌^◌, ◌==◌, ◌<◌, ◌≤◌, Bool, true, false, cond, nat_lt, nat_le, min, List, ◌∷◌, Option, Some, None, unwrap_or, sym, ap, subst, ◌∙◌, zero-add, arith}
use Rattle.std.specs.Prelude.{MatchOption}
use Rattle.std.proofs.lemmas.Bool.{cond-true, cond-false}
use Rattle.history.specs.raid_types_the_Shape.{Shape}
use Rattle.history.specs.raid_types_the_Span.{Span}
use Rattle.history.specs.raid_types_the_Phase.{Phase}
use Rattle.history.specs.raid_types_the_Phase_TheVariants.{Reshape, UpTo6, DownTo5}
use Rattle.history.specs.raid_types_Shapes.{data_disks}
use Rattle.history.specs.sb_codec_the_Sb.{Sb}
use Rattle.history.specs.reshape_geometry_Geometry.{list_end, unit, window, window_steps, steps_of, beyond}
use Rattle.history.proofs.reshape_geometry_GoingOn.{steps_fall}
use Rattle.history.proofs.reshape_geometry_Valid.{bounded_pair}
use Rattle.history.specs.reshape_plan_Plans.{phases_steps}
use Rattle.stripe_row.specs.sb_specs_Reading.{is_reshaping, is_backward, shape_of, final_shape, next_window}
use Rattle.reshape_request.specs.declared.window.Window.{Window}
use Rattle.reshape_request.specs.declared.window.Window.TheVariants.{Closed, Entered}
use Rattle.reshape_request.specs.Left.{steps_from, stripes_in, zeroed_by, reshape_left, grow_left, IsReshapeUnderWay, IsPast, BeginningTakesOne, EnteringTakesOne, CopyingTakesOne, RecordingTakesOne, FinishingTakesTheRest, ZeroingTakesOne, EndingTakesOne, TakingUpTakesOne, TakingDownTakesOne, BoundariesAreCounted}

-- ---- with a reshape, and without one

active-left : (newest : Sb) (state : Window) (cleared : ℕ) (ahead : List Phase) → is_reshaping newest ≡ true
    → grow_left newest state cleared ahead ≡ reshape_left newest state cleared + phases_steps (final_shape newest) newest.size ahead
active-left newest state cleared ahead active =
    ap (λ (n : ℕ). n + phases_steps (final_shape newest) newest.size ahead) (cond-true (is_reshaping newest) (reshape_left newest state cleared) 0 active)

pub still-final : (newest : Sb) → is_reshaping newest ≡ false → final_shape newest ≡ shape_of newest
still-final newest still = ap (λ (o : Option Shape). unwrap_or o (shape_of newest)) (cond-false (is_reshaping newest) _ None still)

still-left : (newest : Sb) (state : Window) (cleared : ℕ) (ahead : List Phase) → is_reshaping newest ≡ false
    → grow_left newest state cleared ahead ≡ phases_steps (shape_of newest) newest.size ahead
still-left newest state cleared ahead still =
    ap (λ (n : ℕ). n + phases_steps (final_shape newest) newest.size ahead) (cond-false (is_reshaping newest) (reshape_left newest state cleared) 0 still)
    ∙ zero-add (phases_steps (final_shape newest) newest.size ahead)
    ∙ ap (λ (s : Shape). phases_steps s newest.size ahead) (still-final newest still)

-- ---- steps of the same reshape

same-steps : (a b c d : Shape) (n m : ℕ) (s t : Bool) (p q : ℕ) → a ≡ c → b ≡ d → n ≡ m → s ≡ t → p ≡ q → steps_of a b n s p ≡ steps_of c d m t q
same-steps a b c d n m s t p q ac bd nm st pq =
    ap (λ (x : Shape). steps_of x b n s p) ac ∙ ap (λ (x : Shape). steps_of c x n s p) bd ∙ ap (λ (x : ℕ). steps_of c d x s p) nm
    ∙ ap (λ (x : Bool). steps_of c d m x p) st ∙ ap (λ (x : ℕ). steps_of c d m t x) pq

same-phases : (a b : Shape) (n m : ℕ) (ahead : List Phase) → a ≡ b → n ≡ m → phases_steps a n ahead ≡ phases_steps b m ahead
same-phases a b n m ahead ab nm = ap (λ (x : Shape). phases_steps x n ahead) ab ∙ ap (λ (x : ℕ). phases_steps b x ahead) nm

some-end : (sum cleared : ℕ) → cleared + 1 ≤ sum + cleared + 1
some-end sum cleared = omega arith

some-steps : (newest : Sb) (position : ℕ) → zeroed_by newest + 1 ≤ steps_from newest position
some-steps newest position = some-end _ (zeroed_by newest)

fallen : (newest : Sb) (found : Option Span) → IsReshapeUnderWay newest → next_window newest ≡ found
    → MatchOption found (steps_from newest newest.reshape_position ≡ zeroed_by newest + 1)
    (λ span. steps_from newest newest.reshape_position ≡ window_steps (final_shape newest) span + steps_from newest (beyond (is_backward newest) span))
fallen newest found reshape is =
    let next = window (shape_of newest) (final_shape newest) newest.size (is_backward newest) newest.reshape_position in
    let at : next ≡ found = sym (cond-true (is_reshaping newest) next None reshape.active) ∙ is in
    subst (λ (o : Option Span). MatchOption o (steps_from newest newest.reshape_position ≡ zeroed_by newest + 1)
    (λ span. steps_from newest newest.reshape_position ≡ window_steps (final_shape newest) span + steps_from newest (beyond (is_backward newest) span))) at
    (steps_fall (shape_of newest) (final_shape newest) newest.size (is_backward newest) newest.reshape_position reshape.in_force reshape.within)

abbrev behind-steps : Sb → List Phase → ℕ
behind-steps newest ahead = phases_steps (final_shape newest) newest.size ahead

-- ---- sums

entered : (all behind stripes cleared most phases : ℕ) → all ≡ 2 + stripes + behind → cleared ≤ most → most + 1 ≤ behind
    → (stripes - 0) + 1 + (behind - cleared) + phases + 1 ≡ all - cleared + phases
entered all behind stripes cleared most phases fall few some = omega (arith, fall, few, some)

copied-one : (stripes copied behind phases : ℕ) → copied < stripes → (stripes - (copied + 1)) + 1 + behind + phases + 1 ≡ (stripes - copied) + 1 + behind + phases
copied-one stripes copied behind phases lt = omega (arith, lt)

recorded : (stripes behind phases : ℕ) → behind + phases + 1 ≡ (stripes - stripes) + 1 + behind + phases
recorded stripes behind phases = omega arith

finished : (rest behind phases : ℕ) → behind + phases + (rest + 1) ≡ rest + 1 + behind + phases
finished rest behind phases = omega arith

cleared-one : (all cleared most phases : ℕ) → cleared < most → most + 1 ≤ all → all - (cleared + 1) + phases + 1 ≡ all - cleared + phases
cleared-one all cleared most phases lt some = omega (arith, lt, some)

-- ---- the steps

pub beginning : BeginningTakesOne
beginning old new to ahead still begun =
    let back = nat_lt (data_disks to) (data_disks (shape_of old)) in
    let place : new.reshape_position ≡ cond back (list_end (shape_of old) to old.size) 0 =
    begun.position ∙ ap (λ (b : Bool). cond b (list_end (shape_of old) to old.size) 0) begun.backward in
    let steps : steps_from new new.reshape_position ≡ steps_of (shape_of old) to old.size back (cond back (list_end (shape_of old) to old.size) 0) =
    same-steps _ _ _ _ _ _ _ _ _ _ begun.shape begun.final begun.size begun.backward place in
    let phases = same-phases (final_shape new) to new.size old.size ahead begun.final begun.size in
    let after = active-left new Closed 0 ahead begun.active in
    let before = still-left old Closed 0 (Reshape to ∷ ahead) still in
    sums (grow_left new Closed 0 ahead) (grow_left old Closed 0 (Reshape to ∷ ahead)) (steps_from new new.reshape_position)
    (steps_of (shape_of old) to old.size back (cond back (list_end (shape_of old) to old.size) 0)) (behind-steps new ahead) (phases_steps to old.size ahead) after before steps phases
  where
    sums : (x y s t p q : ℕ) → x ≡ (s - 0) + p → y ≡ 1 + t + q → s ≡ t → p ≡ q → x + 1 ≡ y
    sums x y s t p q a b c d = omega (arith, a, b, c, d)

pub entering : EnteringTakesOne
entering newest span sectioned cleared ahead reshape is few =
    ap (λ (n : ℕ). n + 1) (active-left newest (Entered span 0 sectioned) cleared ahead reshape.active)
    ∙ entered (steps_from newest newest.reshape_position) (steps_from newest (beyond (is_backward newest) span)) (stripes_in newest span) cleared (zeroed_by newest) (behind-steps newest ahead)
    (fallen newest (Some span) reshape is) few (some-steps newest (beyond (is_backward newest) span))
    ∙ sym (active-left newest Closed cleared ahead reshape.active)

pub copying : CopyingTakesOne
copying newest span sectioned copied cleared ahead active lt =
    ap (λ (n : ℕ). n + 1) (active-left newest (Entered span (copied + 1) sectioned) cleared ahead active)
    ∙ copied-one (stripes_in newest span) copied (steps_from newest (beyond (is_backward newest) span) - cleared) (behind-steps newest ahead) lt
    ∙ sym (active-left newest (Entered span copied sectioned) cleared ahead active)

past : (old new : Sb) (span : Span) (cleared : ℕ) (ahead : List Phase) → is_reshaping old ≡ true → IsPast span old new
    → grow_left new Closed cleared ahead ≡ (steps_from old (beyond (is_backward old) span) - cleared) + phases_steps (final_shape old) old.size ahead
past old new span cleared ahead active moved =
    let steps : steps_from new new.reshape_position ≡ steps_from old (beyond (is_backward old) span) =
    same-steps _ _ _ _ _ _ _ _ _ _ moved.shape moved.final moved.size moved.backward moved.position in
    active-left new Closed cleared ahead (moved.active ∙ active)
    ∙ ap (λ (n : ℕ). (n - cleared) + phases_steps (final_shape new) new.size ahead) steps
    ∙ ap (λ (n : ℕ). (steps_from old (beyond (is_backward old) span) - cleared) + n) (same-phases (final_shape new) (final_shape old) new.size old.size ahead moved.final moved.size)

pub recording : RecordingTakesOne
recording old new span sectioned cleared ahead active moved =
    ap (λ (n : ℕ). n + 1) (past old new span cleared ahead active moved)
    ∙ recorded (stripes_in old span) (steps_from old (beyond (is_backward old) span) - cleared) (behind-steps old ahead)
    ∙ sym (active-left old (Entered span (stripes_in old span) sectioned) cleared ahead active)

pub finishing : FinishingTakesTheRest
finishing old new span sectioned copied cleared ahead active moved =
    ap (λ (n : ℕ). n + ((stripes_in old span - copied) + 1)) (past old new span cleared ahead active moved)
    ∙ finished (stripes_in old span - copied) (steps_from old (beyond (is_backward old) span) - cleared) (behind-steps old ahead)
    ∙ sym (active-left old (Entered span copied sectioned) cleared ahead active)

pub zeroing : ZeroingTakesOne
zeroing newest cleared ahead active lt =
    ap (λ (n : ℕ). n + 1) (active-left newest Closed (cleared + 1) ahead active)
    ∙ cleared-one (steps_from newest newest.reshape_position) cleared (zeroed_by newest) (behind-steps newest ahead) lt (some-steps newest newest.reshape_position)
    ∙ sym (active-left newest Closed cleared ahead active)

pub ending : EndingTakesOne
ending old new ahead reshape is ended =
    let last = fallen old None reshape is in
    let phases = same-phases (shape_of new) (final_shape old) new.size old.size ahead ended.shape ended.size in
    let after = still-left new Closed 0 ahead ended.still in
    let before = active-left old Closed (zeroed_by old) ahead reshape.active in
    sums (grow_left new Closed 0 ahead) (grow_left old Closed (zeroed_by old) ahead) (steps_from old old.reshape_position) (zeroed_by old)
    (phases_steps (shape_of new) new.size ahead) (behind-steps old ahead) after before last phases
  where
    sums : (x y s z p q : ℕ) → x ≡ p → y ≡ (s - z) + q → s ≡ z + 1 → p ≡ q → x + 1 ≡ y
    sums x y s z p q a b c d = omega (arith, a, b, c, d)

pub taking-up : TakingUpTakesOne
taking-up old new to ahead still taken =
    let phases = same-phases (shape_of new) to new.size old.size ahead taken.shape taken.size in
    let rebuild : new.size / to.chunk ≡ old.size / to.chunk = ap (λ (n : ℕ). n / to.chunk) taken.size in
    let after = still-left new Closed 0 ahead taken.still in
    let before = still-left old Closed 0 (UpTo6 to ∷ ahead) still in
    sums (grow_left new Closed 0 ahead) (grow_left old Closed 0 (UpTo6 to ∷ ahead)) (phases_steps (shape_of new) new.size ahead) (phases_steps to old.size ahead)
    (new.size / to.chunk) (old.size / to.chunk) after before phases rebuild
  where
    sums : (x y p q n m : ℕ) → x ≡ p → y ≡ 1 + (m + 1) + q → p ≡ q → n ≡ m → x + (n + 1) + 1 ≡ y
    sums x y p q n m a b c d = omega (arith, a, b, c, d)

pub taking-down : TakingDownTakesOne
taking-down old new to ahead still taken =
    let phases = same-phases (shape_of new) to new.size old.size ahead taken.shape taken.size in
    let after = still-left new Closed 0 ahead taken.still in
    let before = still-left old Closed 0 (DownTo5 to ∷ ahead) still in
    sums (grow_left new Closed 0 ahead) (grow_left old Closed 0 (DownTo5 to ∷ ahead)) (phases_steps (shape_of new) new.size ahead) (phases_steps to old.size ahead) after before phases
  where
    sums : (x y p q : ℕ) → x ≡ p → y ≡ 1 + q → p ≡ q → x + 1 ≡ y
    sums x y p q a b c = omega (arith, a, b, c)

pub boundaries : BoundariesAreCounted
boundaries newest = omega arith

-- ---- an entered window lies in the list

abbrev span-at : ℕ → ℕ → Span
span-at lo hi = record { lo = lo; hi = hi }

same-span : (x y : Span) → Some x ≡ Some y → x ≡ y
same-span x y e = cc

inside-of : (old new : Shape) (size : ℕ) (back : Bool) (p : ℕ) (span : Span) → p ≤ list_end old new size → window old new size back p ≡ Some span → span.hi ≤ list_end old new size
inside-of old new size true p span le is = of (p == 0) (((p - 1) / unit old new) * unit old new) is
  where
    of : (b : Bool) (lo : ℕ) → cond b None (Some (span-at lo p)) ≡ Some span → span.hi ≤ list_end old new size
    of true lo e = absurd (cc)
    of false lo e = let same : p ≡ span.hi = ap (λ (s : Span). s.hi) (same-span (span-at lo p) span e) in omega (arith, same, le)
inside-of old new size false p span le is = of (nat_le (list_end old new size) p) is
  where
    of : (b : Bool) → cond b None (Some (span-at p (min (p + unit old new) (list_end old new size)))) ≡ Some span → span.hi ≤ list_end old new size
    of true e = absurd (cc)
    of false e = let same : min (p + unit old new) (list_end old new size) ≡ span.hi = ap (λ (s : Span). s.hi) (same-span (span-at p (min (p + unit old new) (list_end old new size))) span e) in omega (arith, same)

pub entered-inside : (newest : Sb) (span : Span) → IsReshapeUnderWay newest → next_window newest ≡ Some span → span.hi ≤ 2 ^ 53
entered-inside newest span reshape is =
    let next = window (shape_of newest) (final_shape newest) newest.size (is_backward newest) newest.reshape_position in
    let at : next ≡ Some span = sym (cond-true (is_reshaping newest) next None reshape.active) ∙ is in
    let within = inside-of (shape_of newest) (final_shape newest) newest.size (is_backward newest) newest.reshape_position span reshape.within at in
    let short = (bounded_pair (shape_of newest) (final_shape newest) newest.size reshape.in_force).short_list in
    omega (arith, within, short)
