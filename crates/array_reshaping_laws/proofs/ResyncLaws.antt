-- The steps of a pending resync of an array in a reshape, from what `resync_list` of `stripe_region_resync` and `flush_and_mark` of `sb_safe_updates` leave: what is kept, done or refused.
use Rattle.std.proofs.Common.{◌≡◌, ◌≢◌, inl, inr, ℕ, ◌+◌, ◌-◌, ◌/◌, ◌^◌, ◌<◌, ◌≤◌, Bool, true, false, Option, Some, None, unwrap_or, List, [], ◌∷◌, ◌++◌, length, refl, sym, ◌∙◌, ap, subst, arith}
use Rattle.std.specs.Prelude.{IsSome, MatchOption}
use Rattle.std.proofs.Math.Nat.{div-le_self}
use Rattle.array_fixed_laws.specs.raid_types_Sectors.{Sector}
use Rattle.array_fixed_laws.specs.raid_types_Shapes.{stripe_sectors}
use Rattle.array_fixed_laws.specs.raid_types_the_Refusal.{Refusal}
use Rattle.array_fixed_laws.specs.raid_types_the_Who.{Who}
use Rattle.array_fixed_laws.specs.raid_types_the_Shape.{Shape}
use Rattle.array_fixed_laws.specs.raid_types_the_Span.{Span}
use Rattle.reshape_window_backup.specs.bank_the_Operation.{Operation}
use Rattle.reshape_window_backup.specs.bank_Given.{Given}
use Rattle.reshape_window_backup.specs.bank_Tape.{disk}
use Rattle.reshape_window_backup.specs.sb_codec_the_Sb.{Sb}
use Rattle.reshape_window_backup.proofs.reshape_geometry_ClosedForms.{ceiling_below}
use Rattle.reshape_window_backup.specs.reshape_plan_Plans.{phases_steps}
use Rattle.array_reshaping_resync_laws.specs.sb_specs_the_Members.{Members}
use Rattle.array_reshaping_resync_laws.specs.sb_specs_Reading.{Scope, is_reshaping, is_clean, final_shape, list_length}
use Rattle.array_reshaping_resync_laws.specs.stripe_row_Rows.{reading_of, present}
use Rattle.array_reshaping_resync_laws.specs.history_the_Entry.{Entry}
use Rattle.array_reshaping_resync_laws.specs.history_the_Event_TheVariants.{Step, Refused}
use Rattle.array_reshaping_resync_laws.specs.history_the_StepKind_TheVariants.{ResyncStripe as ResyncsStripe, ResyncEnded as EndsResync}
use Rattle.array_reshaping_resync_laws.specs.history_Flat.{now}
use Rattle.array_reshaping_resync_laws.specs.history_Plain.{entries_of}
use Rattle.array_reshaping_resync_laws.specs.history_Sound.{OpensFit}
use Rattle.array_reshaping_resync_laws.specs.history_World.{World, opening_list}
use Rattle.array_reshaping_resync_laws.specs.crash_views_Regions.{AreShapesFit, DoWithout}
use Rattle.array_reshaping_resync_laws.specs.crash_views_Views.{Ledger, IsTailZero}
use Rattle.array_reshaping_resync_laws.specs.crash_views_Windows.{IsShown, AreTailsStanding}
use Rattle.array_reshaping_resync_laws.specs.crash_safety_laws_Safety.{HasRoomLeft, IsRisen}
use Rattle.array_reshaping_resync_laws.specs.crash_safety_laws_Steady.{IsSafeOver, KeepsSafe, AreGoneTold, AreWritesAllowed}
use Rattle.array_reshaping_resync_laws.specs.array_members_the_Work.{Work}
use Rattle.array_reshaping_resync_laws.specs.array_members_Moving.{Grows, IsMoved}
use Rattle.array_reshaping_resync_laws.specs.array_members_Lacking.{DoesWithout, AreTooMany, AreLostSince, AreOtherRowsKept}
use Rattle.array_reshaping_resync_laws.specs.array_members_Numbers.{bears}
use Rattle.array_reshaping_resync_laws.proofs.array_members_Fit.{fit-short}
use Rattle.array_reshaping_resync_laws.proofs.array_members_LackingLaws.{never-both}
use Rattle.array_fixed_laws.specs.sb_safe_updates_First.{write_refusal}
use Rattle.array_fixed_laws.specs.sb_safe_updates_Unused.{IsUnusedKept}
use Rattle.array_fixed_laws.proofs.sb_safe_updates_RefusingLaws.{write-none}
use Rattle.array_reshaping_resync_laws.specs.history_append_Losing.{losses_of}
use Rattle.array_fixed_laws.specs.array_call_specs_Calls.{one_more, IsRefusedFor}
use Rattle.array_fixed_laws.proofs.array_call_specs_ReplyLaws.{IsOfMissing, too-many-of, unwritten-of, refused-for}
use Rattle.array_reshaping_resync_laws.specs.reshape_request_the_Window.{Window}
use Rattle.array_reshaping_resync_laws.specs.reshape_request_the_Window_TheVariants.{Closed, Entered, Unsure}
use Rattle.array_reshaping_resync_laws.specs.reshape_request_the_PhasesLeft.{PhasesLeft}
use Rattle.array_reshaping_resync_laws.specs.reshape_request_Left.{phases_of, grow_left, reshape_left, IsWindowRight}
use Rattle.array_reshaping_resync_laws.specs.stripe_region_read_Stretches.{ListStandsIn, RowsStandIn}
use Rattle.array_reshaping_resync_laws.proofs.stripe_region_write_Sides.{low-some, low-fits, list-few}
use Rattle.array_reshaping_resync_laws.specs.stripe_region_resync_Resyncs.{low_end, low_shape, low_stripes, high_shape, high_stripe, resync_stripes, resync_shape, relied_sector, IsResyncRow, AreEndsStanding, refusal_of_resync, IsNotSynced}
use Rattle.array_reshaping_resync_laws.specs.stripe_region_resync_Left.{resync_left}
use Rattle.array_reshaping_resync_laws.proofs.stripe_region_resync_LeftLaws.{mending-takes-one, resync-ends-last}
use Rattle.array_reshaping_resync_laws.proofs.stripe_region_resync_RefusalLaws.{none-found}
use Rattle.array_reshaping_resync_laws.specs.history_invariant_Recorded.{IsCallGoing}
use Rattle.array_reshaping_resync_laws.specs.history_invariant_Safe.{world_in}
use Rattle.array_reshaping_resync_laws.specs.reshape_progress_the_Course.{Course}
use Rattle.array_reshaping_resync_laws.specs.reshape_progress_Course.{IsCourseOf, hidden_in}
use Rattle.array_reshaping_resync_laws.specs.reshape_progress_resync_laws_Synced.{IsAside}
use Rattle.array_fixed_laws.specs.array_reshaping_state_Due.{open_in}
use Rattle.array_fixed_laws.proofs.array_reshaping_state_LeftLaws.{plans-counted, some-left}
use Rattle.array_reshaping_resync_laws.specs.array_reshaping_invariant_Moving.{IsMoving}
use Rattle.array_reshaping_resync_laws.proofs.array_reshaping_invariant_Flushing.{AreFlushed, AreSettled}
use Rattle.array_reshaping_resync_laws.proofs.array_reshaping_invariant_Staying.{course-moved}
use Rattle.array_reshaping_resync_laws.proofs.array_reshaping_invariant_Steps.{missing-since}
use Rattle.array_reshaping_resync_laws.proofs.Resync.{IsResyncingMoving, AreRowsSynced, mended-moves, unmended-moves, resynced-moves, unresynced-moves}
use Rattle.array_fixed_laws.specs.array_specs_Parts.{RunningParts, left_in}
use Rattle.array_fixed_laws.proofs.array_specs_Called.{not_254, risen-told}
use Rattle.array_reshaping_laws.specs.Ready.{IsReady}
use Rattle.array_reshaping_laws.specs.Mending.{IsResyncDue, IsResyncEndDue, AreRowsGood}
use Rattle.array_reshaping_laws.proofs.Kept.{left-moved}

-- ---- when a step is due

-- the stripes that are mended
pub next-of : {B : Type 0} (array : RunningParts B) (stripes : ℕ) → IsResyncDue array → stripes ≡ unwrap_or array.parts.work.resync 0
    → (array.parts.work.resync ≡ Some stripes) × (stripes < resync_stripes array.parts.members.newest)
next-of array stripes due is =
    let at : stripes ≡ due.mended = is ∙ ap (λ (o : Option ℕ). unwrap_or o 0) due.is in
    (due.is ∙ ap (λ (n : ℕ). Some n) (sym at), subst (λ (n : ℕ). n < resync_stripes array.parts.members.newest) (sym at) due.more)

pub same-stripes : (resync : Option ℕ) (stripes mended : ℕ) → resync ≡ Some stripes → resync ≡ Some mended → stripes ≡ mended
same-stripes resync stripes mended at is = ap (λ (o : Option ℕ). unwrap_or o 0) (sym at ∙ is)

-- no window is entered
pub aside-of : (window : Window) → open_in window ≡ None → IsAside window
aside-of Closed none = tt
aside-of (Entered span copied sectioned) none = absurd (cc)
aside-of (Unsure span) none = tt

-- so none is hidden
pub none-hidden : (window : Window) → IsAside window → hidden_in window ≡ None
none-hidden Closed aside = refl
none-hidden (Entered span copied sectioned) aside = absurd aside
none-hidden (Unsure span) aside = refl

-- and the window is as the steps that are left ask it to be
pub aside-right : (newest : Sb) (window : Window) → IsAside window → IsWindowRight newest window
aside-right newest Closed aside = tt
aside-right newest (Entered span copied sectioned) aside = absurd aside
aside-right newest (Unsure span) aside = tt

pub mend-due : {B : Type 0} (array : RunningParts B) → (mended : ℕ) × (array.parts.work.resync ≡ Some mended) × (mended < resync_stripes array.parts.members.newest) × (open_in array.course.window ≡ None) → IsResyncDue array
mend-due array due = record { mended = due.0; is = due.1; more = due.2; aside = aside-of array.course.window due.3 }

pub end-due : {B : Type 0} (array : RunningParts B) → (array.parts.work.resync ≡ Some (resync_stripes array.parts.members.newest)) × (open_in array.course.window ≡ None) → IsResyncEndDue array
end-due array due = record { is = due.0; aside = aside-of array.course.window due.1 }

-- ---- the number of stripes

all-short : (low high end size list first : ℕ) → low ≤ end → end ≤ list → list ≤ 2 ^ 53 → high ≤ size → size ≤ 2 ^ 48 → low + (high - first) < 2 ^ 63
all-short low high end size list first below fits few less short = omega (arith, below, fits, few, less, short)

pub mends-short : (newest : Sb) → AreShapesFit newest → resync_stripes newest < 2 ^ 63
mends-short newest fit =
    all-short (low_stripes newest) (newest.size / (high_shape newest).chunk) (low_end newest) newest.size (list_length newest) (high_stripe newest)
    (ceiling_below (low_end newest) (stripe_sectors (low_shape newest)) (low-some newest fit)) (low-fits newest fit) (list-few newest fit) (div-le_self newest.size (high_shape newest).chunk) (fit-short newest fit)

-- ---- why it isn't mended

-- a refusal of a stripe tells of missing members
pub not-mended-of : (shape : Shape) (m : Members) (refusal : Refusal) → IsNotSynced shape m refusal → IsOfMissing refusal
not-mended-of shape m refusal (inl many) = too-many-of m refusal many
not-mended-of shape m refusal (inr lacked) = unwritten-of shape false m refusal (inr lacked.1)

pub not-mended-for : (newest : Sb) (old m : Members) (refusal : Refusal) (resync : Option ℕ) (stripes : ℕ) → resync ≡ Some stripes → IsNotSynced (resync_shape newest stripes) m refusal
    → (mended : ℕ) → resync ≡ Some mended → IsRefusedFor (list_length newest) 0 (IsNotSynced (resync_shape newest mended)) old m refusal
not-mended-for newest old m refusal resync stripes at why mended is =
    subst (λ (n : ℕ). IsRefusedFor (list_length newest) 0 (IsNotSynced (resync_shape newest n)) old m refusal) (same-stripes resync stripes mended at is)
    (refused-for (list_length newest) 0 (IsNotSynced (resync_shape newest stripes)) old m refusal (not-mended-of (resync_shape newest stripes) m refusal why) (omega arith) why)

pub first-for : (newest : Sb) (m : Members) (told : Option Refusal) (resync : Option ℕ) (stripes : ℕ) → resync ≡ Some stripes → refusal_of_resync (resync_shape newest stripes) m ≡ told
    → (mended : ℕ) → resync ≡ Some mended → refusal_of_resync (resync_shape newest mended) m ≡ told
first-for newest m told resync stripes at first mended is = subst (λ (n : ℕ). refusal_of_resync (resync_shape newest n) m ≡ told) (same-stripes resync stripes mended at is) first

-- one that is mended had no cause to be refused
pub mendable : (shape : Shape) (m : Members) → DoWithout m → refusal_of_resync shape m ≡ None → (refusal : Refusal) → IsNotSynced shape m refusal → ⊥
mendable shape m does none refusal (inl many) = never-both m refusal does many
mendable shape m does none refusal (inr (without, lacked)) =
    absurd (
    let parity = (write-none shape false m (none-found m (write_refusal shape false m) none)).1 refl lacked.0 lacked.4.0 lacked.3 in
    let both = sym parity ∙ lacked.4.1 in
    cc)

pub mendable-for : (newest : Sb) (m : Members) (resync : Option ℕ) (stripes : ℕ) → resync ≡ Some stripes → DoWithout m → refusal_of_resync (resync_shape newest stripes) m ≡ None
    → (mended : ℕ) → resync ≡ Some mended → (refusal : Refusal) → IsNotSynced (resync_shape newest mended) m refusal → ⊥
mendable-for newest m resync stripes at does none mended is = mendable (resync_shape newest mended) m does (first-for newest m None resync stripes at none mended is)

-- ---- the steps that are left

-- a stripe that is mended takes one, and the end the last, wherever the course is while no window is entered
mended-one : (given : Given) (old new : Members) (window : Window) (mended : ℕ) → AreShapesFit old.newest → is_reshaping old.newest ≡ true → mended < resync_stripes old.newest → IsMoved given old new → IsAside window
    → resync_left new.newest window (Some (mended + 1)) + 1 ≡ resync_left old.newest window (Some mended)
mended-one given old new Closed mended fit active more moved aside = mending-takes-one given old new mended fit active more moved
mended-one given old new (Entered span copied sectioned) mended fit active more moved aside = absurd aside
mended-one given old new (Unsure span) mended fit active more moved aside = mending-takes-one given old new mended fit active more moved

ended-one : (newest : Sb) (window : Window) → AreShapesFit newest → is_reshaping newest ≡ true → IsAside window → resync_left newest window (Some (resync_stripes newest)) ≡ 1
ended-one newest Closed fit active aside = resync-ends-last newest fit active
ended-one newest (Entered span copied sectioned) fit active aside = absurd aside
ended-one newest (Unsure span) fit active aside = resync-ends-last newest fit active

one-less : (g g' r r' : ℕ) → g + 0 ≡ g' + 0 → r + 1 ≡ r' → g + r + 1 ≡ g' + r'
one-less g g' r r' same less = omega (arith, same, less)

-- the work with so many stripes mended, or with none pending
abbrev pub synced_work : Work → Option ℕ → Work
synced_work work resync = record work { resync = resync }

pub mend-left : (given : Given) (old new : Members) (work : Work) (course : Course) (ahead : PhasesLeft) (mended : ℕ) → AreShapesFit old.newest → is_reshaping old.newest ≡ true
    → work.resync ≡ Some mended → mended < resync_stripes old.newest → IsMoved given old new → IsAside course.window
    → left_in (synced_work work (Some (mended + 1))) new course ahead + 1 ≡ left_in work old course ahead
mend-left given old new work course ahead mended fit active is more moved aside =
    subst (λ (o : Option ℕ). left_in (synced_work work (Some (mended + 1))) new course ahead + 1 ≡ left_in (synced_work work o) old course ahead) (sym is)
    (one-less (grow_left new.newest course.window course.zeroed (phases_of ahead)) (grow_left old.newest course.window course.zeroed (phases_of ahead)) _ _
    (left-moved given old new None course ahead moved) (mended-one given old new course.window mended fit active more moved aside))

pub end-left : (given : Given) (old new : Members) (work : Work) (course : Course) (ahead : PhasesLeft) → AreShapesFit old.newest → is_reshaping old.newest ≡ true
    → work.resync ≡ Some (resync_stripes old.newest) → IsMoved given old new → IsAside course.window
    → left_in (synced_work work None) new course ahead + 1 ≡ left_in work old course ahead
end-left given old new work course ahead fit active is moved aside =
    subst (λ (o : Option ℕ). left_in (synced_work work None) new course ahead + 1 ≡ left_in (synced_work work o) old course ahead) (sym is)
    (one-less (grow_left new.newest course.window course.zeroed (phases_of ahead)) (grow_left old.newest course.window course.zeroed (phases_of ahead)) 0 _
    (left-moved given old new None course ahead moved) (sym (ended-one old.newest course.window fit active aside)))

-- the end of the reshape is left
pub left-some : (m : Members) (work : Work) (course : Course) (ahead : PhasesLeft) → is_reshaping m.newest ≡ true → IsCourseOf m.newest course → left_in work m course ahead ≢ 0
left-some m work course ahead active is =
    some (grow_left m.newest course.window course.zeroed (phases_of ahead)) (reshape_left m.newest course.window course.zeroed) (phases_steps (final_shape m.newest) m.newest.size (phases_of ahead))
    (resync_left m.newest course.window work.resync) (plans-counted m.newest course (phases_of ahead) active) (some-left m.newest course.window course.zeroed is.few)
  where
    some : (g r p more : ℕ) → r + p ≡ g → 0 < r → g + more ≢ 0
    some g r p more counted least none = absurd (omega (arith, counted, least, none))

-- ---- what a call leaves

-- with other buffers for rows
pub with-buffers : {tells : Type 0} {given : Given} {tape : List Operation} {scope : Scope} {first : ℕ} {entries : List Entry} {members : Members}
    {work : Work} {course : Course} {ahead : PhasesLeft} {limit : Option ℕ} {window : List ℕ} {steps room rows rows' buffer buffer' far_rows far_buffer : ℕ} {faults : ℕ → ℕ} → 128 ≤ rows' → 1048576 ≤ buffer'
    → IsReady tells given tape scope first entries members work course ahead limit window faults steps room rows buffer far_rows far_buffer
    → IsReady tells given tape scope first entries members work course ahead limit window faults steps room rows' buffer' far_rows far_buffer
with-buffers rows_fit buffer_fits was = record {
  kept = was.kept;
  sized = was.sized;
  limited = was.limited;
  full = was.full;
  planned = was.planned;
  wide = was.wide;
  dead = was.dead;
  failed = was.failed;
  room_left = was.room_left;
  rows_fit = rows_fit;
  buffer_fits = buffer_fits;
  far_rows_fit = was.far_rows_fit;
  far_buffer_fits = was.far_buffer_fits;
}

pub one-more : (work : Work) (stripes : ℕ) → work.resync ≡ Some stripes → synced_work work (Some (stripes + 1)) ≡ synced_work work (one_more work.resync)
one-more work stripes is = sym (ap (λ (o : Option ℕ). synced_work work (one_more o)) is)

-- a test of what a call answers
pub refused-why : (Why : Refusal → Type 0) (Done : Type 0) (o : Option Refusal) (refusal : Refusal) → o ≡ Some refusal → MatchOption o Done Why → Why refusal
refused-why Why Done o refusal is why = subst (λ (o : Option Refusal). MatchOption o Done Why) is why

pub done-why : (Why : Refusal → Type 0) (Done : Type 0) (o : Option Refusal) → o ≡ None → MatchOption o Done Why → Done
done-why Why Done o is why = subst (λ (o : Option Refusal). MatchOption o Done Why) is why

-- what `resync_list` leaves
pub mend-step : {tells : Type 0} (given : Given) (old new : Members) (tape tape' : List Operation) (mended roles spares : ℕ) (before after : ℕ → ℕ) → IsMoved given old new → Grows tells tape tape' → AreLostSince old new roles spares before after
    → is_clean new.newest ≡ false → IsRisen tells old new tape tape' → (tells → IsUnusedKept old (disk given.start tape) (disk given.start tape'))
    → (tells → AreOtherRowsKept (IsResyncRow old.newest mended) (reading_of new) (present given tape) (present given tape'))
    → (tells → (among : Shape → Bool) → (hidden : Option Span) → (list : ℕ → Sector) → RowsStandIn (λ s. among s ≡ true) hidden (relied_sector old.newest (Some mended)) old (present given tape) list
    → RowsStandIn (λ s. among s ≡ true) hidden (relied_sector old.newest (Some mended)) new (present given tape') list)
    → (tells → (among : Shape → Bool) → ((s : Shape) → among s ≡ true → DoesWithout s new) → (hidden : Option Span) → (list : ℕ → Sector) → ListStandsIn (λ s. among s ≡ true) hidden old (present given tape) list
    → ListStandsIn (λ s. among s ≡ true) hidden new (present given tape') list)
    → (DoesWithout (final_shape old.newest) new → tells → (list : ℕ → Sector) → AreTailsStanding old (present given tape) list → AreTailsStanding new (present given tape') list)
    → (DoesWithout (low_shape old.newest) new → tells → (list : ℕ → Sector) → AreEndsStanding old (present given tape) list → AreEndsStanding new (present given tape') list)
    → (tells → (world : World) → (told : Ledger) → HasRoomLeft old tape tape' → AreGoneTold told new → told.unclean ≡ true → (hidden : Option Span) → (list : ℕ → Sector)
    → ((x : ℕ) → relied_sector old.newest (Some mended) ≤ x → x < relied_sector old.newest (Some (mended + 1)) → IsShown hidden old.newest x)
    → ListStandsIn (λ s. s ≡ resync_shape old.newest mended) hidden old (present given tape) list
    → (resync_shape old.newest mended ≡ final_shape old.newest → AreTailsStanding old (present given tape) list)
    → AreWritesAllowed old told.values list → (OpensFit world → IsTailZero old.newest list) → IsSafeOver world given told old tape → KeepsSafe world given told new tape tape')
    → IsResyncingMoving tells given tape tape' old new mended roles
mend-step given old new tape tape' mended roles spares before after moved grows since dirty rise unused others kept stands tail ends safe = record {
  moved = moved;
  grows = grows;
  since = missing-since roles moved since.vacant;
  dirty = dirty;
  rise = risen-told rise;
  unused = unused;
  others = others;
  stands = stands;
  tail = tail;
  ends = ends;
  kept = kept;
  safe = safe;
}

-- ---- what is kept

-- while a resync is pending, the mark is dirty
pub was-dirty : {tells : Type 0} {given : Given} {tape : List Operation} {scope : Scope} {first : ℕ} {entries : List Entry} {members : Members} {carried : ℕ → ℕ → Bool} {resync : Option ℕ} {course : Course} {buffer : List ℕ} {left : ℕ} (mended : ℕ)
    → IsMoving tells given tape scope first entries members carried resync course buffer left → resync ≡ Some mended → DoWithout members → is_clean members.newest ≡ false
was-dirty mended was is does = was.dirty does (subst IsSome (sym is) refl)

module _ {tells : Type 0} {given : Given} {tape tape' : List Operation} {scope : Scope} {first : ℕ} {entries : List Entry} {old new : Members} (work : Work) (course : Course) {buffer : List ℕ} (ahead : PhasesLeft)
    (who : Who) (end roles spares mended : ℕ) (is : work.resync ≡ Some mended) (below : mended < resync_stripes old.newest) (aside : IsAside course.window)
    (was : IsMoving tells given tape scope first entries old (bears work) work.resync course buffer (left_in work old course ahead)) (does : DoWithout old)
    (goes : IsCallGoing entries who) (caller : who.caller ≢ 254) (at_end : tells → end ≡ length tape') (did : IsResyncingMoving tells given tape tape' old new mended roles) where
  -- a stripe isn't mended
  pub mend-refused : (refusal : Refusal) → IsNotSynced (resync_shape old.newest mended) new refusal
      → IsMoving tells given tape' scope first (entries ++ entries_of who end (losses_of roles spares ++ Refused refusal ∷ [])) new (bears work) work.resync course buffer (left_in work new course ahead)
  mend-refused refusal why =
      subst (λ (n : ℕ). IsMoving tells given tape' scope first (entries ++ entries_of who end (losses_of roles spares ++ Refused refusal ∷ [])) new (bears work) work.resync course buffer n) (sym (left-moved given old new work.resync course ahead did.moved))
      (unmended-moves tells given tape tape' scope first entries old new (bears work) work.resync course buffer (left_in work old course ahead) who end roles spares mended was does goes (not_254 who.caller caller) at_end
      is aside below did refusal why)

  -- it is
  pub mend-done : (left : ℕ) → left ≡ left_in (synced_work work (Some (mended + 1))) new course ahead → DoWithout new → AreRowsSynced tells given tape tape' old new mended
      → IsMoving tells given tape' scope first (entries ++ entries_of who end (losses_of roles spares ++ Step ResyncsStripe left ∷ [])) new (bears work) (Some (mended + 1)) course buffer
      (left_in (synced_work work (Some (mended + 1))) new course ahead)
  mend-done left told can mends =
      subst (λ (n : ℕ). IsMoving tells given tape' scope first (entries ++ entries_of who end (losses_of roles spares ++ Step ResyncsStripe left ∷ [])) new (bears work) (Some (mended + 1)) course buffer n) told
      (mended-moves tells given tape tape' scope first entries old new (bears work) work.resync course buffer (left_in work old course ahead) who end roles spares mended was does goes (not_254 who.caller caller) at_end
      is aside below did left
      (sym (ap (λ (n : ℕ). n + 1) told ∙ mend-left given old new work course ahead mended was.members_are.placed.fit was.members_are.active is below did.moved aside))
      (λ zero. left-some new (synced_work work (Some (mended + 1))) course ahead (did.moved.reshape.reshaping ∙ was.members_are.active) (course-moved given old new course did.moved was.course_is) (sym told ∙ zero)) can mends)

module _ {tells : Type 0} {given : Given} {tape tape' : List Operation} {scope : Scope} {first : ℕ} {entries : List Entry} {old new : Members} (work : Work) (course : Course) {buffer : List ℕ} (ahead : PhasesLeft)
    (who : Who) (end roles spares : ℕ) (is : work.resync ≡ Some (resync_stripes old.newest)) (aside : IsAside course.window)
    (was : IsMoving tells given tape scope first entries old (bears work) work.resync course buffer (left_in work old course ahead)) (does : DoWithout old)
    (goes : IsCallGoing entries who) (caller : who.caller ≢ 254) (at_end : tells → end ≡ length tape') (grows : Grows tells tape tape') (did : AreFlushed tells given tape tape' old new roles false) where
  -- the end is refused
  pub end-refused : (refusal : Refusal) → AreTooMany new refusal
      → IsMoving tells given tape' scope first (entries ++ entries_of who end (losses_of roles spares ++ Refused refusal ∷ [])) new (bears work) work.resync course buffer (left_in work new course ahead)
  end-refused refusal many =
      subst (λ (n : ℕ). IsMoving tells given tape' scope first (entries ++ entries_of who end (losses_of roles spares ++ Refused refusal ∷ [])) new (bears work) work.resync course buffer n) (sym (left-moved given old new work.resync course ahead did.moved))
      (unresynced-moves tells given tape tape' scope first entries old new (bears work) work.resync course buffer (left_in work old course ahead) who end roles spares was does goes (not_254 who.caller caller) at_end grows is did
      refusal many)

  -- it is done
  pub end-done : (left : ℕ) → left ≡ left_in (synced_work work None) new course ahead → AreSettled tells given tape tape' old new false
      → IsMoving tells given tape' scope first (entries ++ entries_of who end (losses_of roles spares ++ Step EndsResync left ∷ [])) new (bears work) None course buffer (left_in (synced_work work None) new course ahead)
  end-done left told done =
      subst (λ (n : ℕ). IsMoving tells given tape' scope first (entries ++ entries_of who end (losses_of roles spares ++ Step EndsResync left ∷ [])) new (bears work) None course buffer n) told
      (resynced-moves tells given tape tape' scope first entries old new (bears work) work.resync course buffer (left_in work old course ahead) who end roles spares was does goes (not_254 who.caller caller) at_end grows is did left
      (sym (ap (λ (n : ℕ). n + 1) told ∙ end-left given old new work course ahead was.members_are.placed.fit was.members_are.active is did.moved aside))
      (λ zero. left-some new (synced_work work None) course ahead (did.moved.reshape.reshaping ∙ was.members_are.active) (course-moved given old new course did.moved was.course_is) (sym told ∙ zero)) done)

-- ---- the rows

-- where none is pending, the list stands with the rows of all its sectors
pub rows-good : {tells : Type 0} {given : Given} {tape : List Operation} {scope : Scope} {first : ℕ} {entries : List Entry} {m : Members} {carried : ℕ → ℕ → Bool} (course : Course) {buffer : List ℕ} {left : ℕ} → IsAside course.window
    → IsMoving tells given tape scope first entries m carried None course buffer left → tells → OpensFit (world_in given tape scope first)
    → AreRowsGood m (present given tape) (now (opening_list (world_in given tape scope first)) entries)
rows-good {given = given} {tape = tape} {m = m} course aside was t fit =
    let l = was.listed t (inr fit) in
    (l.list, l.is, subst (λ (o : Option Span). RowsStandIn (λ shape. DoesWithout shape m) o (list_length m.newest) m (present given tape) l.list) (none-hidden course.window aside) (l.stands.rows fit))
