-- A write of an array in a reshape: the open window that it touches is finished, and then its sectors are put into the list. What is kept, done or refused.
use Rattle.std.proofs.Common.{◌≡◌, ◌≢◌, ◌⊎◌, inl, inr, ℕ, ◌+◌, ◌-◌, ◌*◌, ◌/◌, ◌<◌, ◌≤◌, Bool, true, false, Option, Some, None, Result, Ok, Err, List, [], ◌∷◌, ◌++◌, length, take, refl, sym, ◌∙◌, ap, subst, arith, append_assoc}
use Rattle.std.specs.Prelude.{MatchOption, OnOk}
use Rattle.std.proofs.lemmas.Bool.{cases_lt}
use Rattle.std.proofs.lemmas.List.Elements.{All-append, All-weaker}
use Rattle.array_fixed_laws.specs.raid_types_Sectors.{Sector, sectors_of}
use Rattle.array_fixed_laws.specs.raid_types_the_Fault.{Fault as AnyFault}
use Rattle.array_fixed_laws.specs.raid_types_the_Fault_TheVariants.{Refused as IsRefusedWith, NoMemory}
use Rattle.array_fixed_laws.specs.raid_types_the_Refusal.{Refusal}
use Rattle.array_fixed_laws.specs.raid_types_the_Refusal_TheVariants.{PastEnd}
use Rattle.array_fixed_laws.specs.raid_types_the_Who.{Who}
use Rattle.array_fixed_laws.specs.raid_types_the_Span.{Span}
use Rattle.reshape_window_backup.specs.bank_the_Operation.{Operation}
use Rattle.reshape_window_backup.specs.bank_Given.{Given, NeverFalls}
use Rattle.reshape_window_backup.proofs.bank_Causes.{faulted_longer}
use Rattle.array_reshaping_resync_laws.specs.sb_specs_the_Members.{Members}
use Rattle.array_reshaping_resync_laws.proofs.sb_specs_ValidFields.{few-roles}
use Rattle.array_reshaping_resync_laws.specs.stripe_row_Rows.{reading_of, is_missing, present}
use Rattle.array_reshaping_resync_laws.specs.sb_specs_Reading.{Scope, is_reshaping, final_shape, list_length, next_window, role_count}
use Rattle.array_reshaping_resync_laws.specs.history_the_Entry.{Entry}
use Rattle.array_reshaping_resync_laws.specs.history_the_Event.{Event}
use Rattle.array_reshaping_resync_laws.specs.history_the_Event_TheVariants.{Lost, SpareLost, Step, Wrote, Torn, Refused}
use Rattle.array_reshaping_resync_laws.specs.history_the_LostCause.{LostCause}
use Rattle.array_reshaping_resync_laws.specs.history_the_LostCause_TheVariants.{Command, Fault}
use Rattle.array_reshaping_resync_laws.specs.history_the_StepKind_TheVariants.{WindowFinished as FinishesWindow}
use Rattle.array_reshaping_resync_laws.specs.history_Flat.{limit_of, visible_of}
use Rattle.array_reshaping_resync_laws.specs.history_Legal.{visible_at, IsRefusedRight}
use Rattle.array_reshaping_resync_laws.specs.history_Plain.{entries_of}
use Rattle.array_reshaping_resync_laws.specs.history_Stands.{covers, shape_for}
use Rattle.array_reshaping_resync_laws.specs.history_World.{opening_list}
use Rattle.array_reshaping_resync_laws.specs.crash_views_Regions.{DoWithout}
use Rattle.array_reshaping_resync_laws.specs.crash_views_Windows.{moved_past}
use Rattle.array_reshaping_resync_laws.specs.crash_safety_laws_Safety.{HasLiveSlot}
use Rattle.array_reshaping_resync_laws.specs.array_members_the_Work.{Work}
use Rattle.array_reshaping_resync_laws.specs.array_members_Lacking.{DoesWithout, HaveRolesFailed, AreLostSince, HaveFailedSince, AreTooMany}
use Rattle.array_reshaping_resync_laws.specs.crash_safety_laws_Safety.{HasLiveSlot}
use Rattle.array_reshaping_resync_laws.specs.array_members_Moving.{Grows, IsMoved}
use Rattle.array_reshaping_resync_laws.specs.array_members_Placed.{AreWhole, IsPlaced, AreStillHeld}
use Rattle.array_reshaping_resync_laws.specs.array_members_Rebuilding.{Held}
use Rattle.array_reshaping_resync_laws.proofs.array_members_Fit.{force-disks}
use Rattle.array_reshaping_resync_laws.proofs.array_members_LackingLaws.{AreVacant, AreNewlyVacant, lost-since, shape-without}
use Rattle.array_reshaping_resync_laws.proofs.array_members_MovedLaws.{grows-then}
use Rattle.array_reshaping_resync_laws.specs.history_append_Losing.{losses_of, failure_events}
use Rattle.array_fixed_laws.specs.array_call_specs_Calls.{IsRoleLossBy, IsLossBy, WasSpare, AreLossesOf, AreSparesFewer, IsBehind, IsRefusedFor, IsCausedBy}
use Rattle.array_fixed_laws.proofs.array_call_specs_ReplyLaws.{IsOfMissing, unwritten-of}
use Rattle.array_reshaping_resync_laws.specs.stripe_region_write_Runs.{IsListUnwritten}
use Rattle.array_reshaping_resync_laws.proofs.stripe_region_write_Together.{shape-force}
use Rattle.array_reshaping_resync_laws.specs.reshape_request_the_Window.{Window}
use Rattle.array_reshaping_resync_laws.specs.reshape_request_the_Window_TheVariants.{Closed, Entered, Unsure}
use Rattle.array_reshaping_resync_laws.specs.reshape_request_the_PhasesLeft.{PhasesLeft}
use Rattle.array_reshaping_resync_laws.specs.reshape_request_Left.{stripes_in, phases_of, grow_left}
use Rattle.array_reshaping_resync_laws.proofs.reshape_request_LeftLaws.{finishing}
use Rattle.array_reshaping_resync_laws.specs.history_invariant_Recorded.{IsCallGoing}
use Rattle.array_reshaping_resync_laws.specs.history_invariant_Safe.{world_in, TakesNone}
use Rattle.array_fixed_laws.proofs.history_invariant_laws_Behind.{early-losses}
use Rattle.array_fixed_laws.specs.history_invariant_laws_Reliable.{IsReliable}
use Rattle.array_reshaping_resync_laws.specs.reshape_progress_the_Course.{Course}
use Rattle.array_reshaping_resync_laws.specs.reshape_progress_Course.{IsWindowOf, IsCourseOf, span_in}
use Rattle.array_reshaping_resync_laws.specs.reshape_progress_Laws.{closed, entered}
use Rattle.array_reshaping_resync_laws.specs.stripe_region_resync_Left.{resync_left}
use Rattle.array_reshaping_resync_laws.specs.stripe_region_resync_Resyncs.{relied_sector}
use Rattle.array_reshaping_resync_laws.proofs.stripe_region_resync_LeftLaws.{records-leave}
use Rattle.array_reshaping_resync_laws.proofs.stripe_region_resync_ReliedLaws.{relied-reaches}
use Rattle.array_reshaping_resync_laws.specs.reshape_progress_resync_laws_Synced.{IsUnsynced}
use Rattle.array_fixed_laws.specs.array_reshaping_state_Due.{open_in, unsure_in}
use Rattle.array_reshaping_resync_laws.specs.array_reshaping_invariant_Moving.{IsWindowStanding, IsMoving}
use Rattle.array_reshaping_resync_laws.proofs.array_reshaping_invariant_CopiedWindow.{window-stands}
use Rattle.array_reshaping_resync_laws.proofs.array_reshaping_invariant_NoneLeft.{shape-left}
use Rattle.array_reshaping_resync_laws.proofs.array_reshaping_invariant_FinishedCall.{IsFinishedBy, finish-moves}
use Rattle.array_reshaping_resync_laws.proofs.array_reshaping_invariant_Refusals.{lacking-right}
use Rattle.array_reshaping_resync_laws.proofs.array_reshaping_invariant_Steps.{AreMissingSince, missing-since, missing-moved}
use Rattle.array_reshaping_resync_laws.proofs.array_reshaping_invariant_Writing.{ArePut, AreWritten, AreUnwritten, written-moves, unwritten-moves}
use Rattle.array_fixed_laws.specs.array_specs_Calls.{IsCalled, IsStepTaken}
use Rattle.array_fixed_laws.specs.array_specs_Parts.{RunningParts}
use Rattle.array_fixed_laws.specs.array_specs_Parts.{visible_size}
use Rattle.array_fixed_laws.proofs.array_specs_VisibleLaws.{visible-is, visible-within}
use Rattle.array_reshaping_laws.specs.Ready.{bytes_in, IsReady}
use Rattle.array_reshaping_laws.specs.Writing.{IsWindowOpen, steps_in, TouchesWindow, IsWriteLacked, IsPutEntered, IsWriteEntered}
use Rattle.array_fixed_laws.proofs.array_specs_Called.{not_254}
use Rattle.array_reshaping_laws.proofs.Kept.{behind-whole, takes-lost, long-same, left_by, left-moved}
use Rattle.array_reshaping_laws.proofs.Relied.{pending-at, unsynced-right}
use Rattle.array_reshaping_laws.proofs.RecordLaws.{shapes-past, past-of, since-past, record-some, closed-bare, moved-none, moved-if}

-- ---- the window

-- a sector beside the entered window and beside an unsure one is beside the window under way
pub beside-of : (window : Window) (x : ℕ) → covers (open_in window) x ≡ false → covers (unsure_in window) x ≡ false → covers (span_in window) x ≡ false
beside-of Closed x out unsure = refl
beside-of (Entered span copied sectioned) x out unsure = out
beside-of (Unsure span) x out unsure = unsure

-- where a sector lies in the entered window, one is entered
pub touched-open : {B : Type 0} (array : RunningParts B) → IsCourseOf array.parts.members.newest array.course → (x : ℕ) → covers (open_in array.course.window) x ≡ true → IsWindowOpen array
touched-open array of x inside = by array.course.window refl inside
  where
    none-zeroed : (span : Span) → next_window array.parts.members.newest ≡ Some span → array.course.zeroed ≡ 0
    none-zeroed span next = elim (cases_lt 0 array.course.zeroed) [
      | inl some ↦ absurd (let none = (of.through some).none in let e = sym none ∙ next in cc)
      | inr few ↦ omega (arith, few)
    ]

    by : (window : Window) → array.course.window ≡ window → covers (open_in window) x ≡ true → IsWindowOpen array
    by Closed is inside = absurd (let none : ◌≡◌ {A = Bool} false true = inside in cc)
    by (Unsure span) is inside = absurd (let none : ◌≡◌ {A = Bool} false true = inside in cc)
    by (Entered span copied sectioned) is inside =
        let next = (subst (λ (w : Window). IsWindowOf array.parts.members.newest w) is of.window).0 in
        let zero = none-zeroed span next in
        record { span = span; copied = copied; sectioned = sectioned; is = λ i. record { window = is i; zeroed = zero i } }

pub same-span : (s t : Span) (m n : ℕ) (a b : Bool) → Entered s m a ≡ Entered t n b → s ≡ t
same-span s t m n a b e = cc

pub same-count : (s t : Span) (m n : ℕ) (a b : Bool) → Entered s m a ≡ Entered t n b → m ≡ n
same-count s t m n a b e = cc

pub same-flag : (s t : Span) (m n : ℕ) (a b : Bool) → Entered s m a ≡ Entered t n b → a ≡ b
same-flag s t m n a b e = cc

-- the window that is found open is that one
pub open-is : {B : Type 0} (array : RunningParts B) (span : Span) (copied : ℕ) (sectioned : Bool) → IsWindowOpen array → array.course.window ≡ Entered span copied sectioned → array.course ≡ entered span copied sectioned
open-is array span copied sectioned due window =
    let same : Entered due.span due.copied due.sectioned ≡ Entered span copied sectioned = sym (ap (λ (c : Course). c.window) due.is) ∙ window in
    let spans = same-span due.span span due.copied copied due.sectioned sectioned same in
    let counts = same-count due.span span due.copied copied due.sectioned sectioned same in
    let flags = same-flag due.span span due.copied copied due.sectioned sectioned same in
    due.is ∙ (λ i. entered (spans i) (counts i) (flags i))

-- ---- what is kept in memory

-- room for other steps
pub roomed : {tells : Type 0} {given : Given} {tape : List Operation} {scope : Scope} {first : ℕ} {entries entries' : List Entry} {members : Members}
    {work : Work} {course : Course} {ahead : PhasesLeft} {limit : Option ℕ} {window : List ℕ} {steps steps' room room' rows buffer far_rows far_buffer : ℕ} {faults : ℕ → ℕ} → entries' ≡ entries → 50 * steps' < room'
    → IsReady tells given tape scope first entries members work course ahead limit window faults steps room rows buffer far_rows far_buffer
    → IsReady tells given tape scope first entries' members work course ahead limit window faults steps' room' rows buffer far_rows far_buffer
roomed {tells = tells} {given = given} {tape = tape} {scope = scope} {first = first} {members = members} {work = work} {course = course} {ahead = ahead} {limit = limit} {window = window} {steps' = steps'} {room' = room'}
    {rows = rows} {buffer = buffer} {far_rows = far_rows} {far_buffer = far_buffer} {faults = faults} same fits was =
    subst (λ (l : List Entry). IsReady tells given tape scope first l members work course ahead limit window faults steps' room' rows buffer far_rows far_buffer) (sym same) (record {
      kept = was.kept;
      sized = was.sized;
      limited = was.limited;
      full = was.full;
      planned = was.planned;
      wide = was.wide;
      failed = was.failed;
      dead = was.dead;
      room_left = fits;
      rows_fit = was.rows_fit;
      buffer_fits = was.buffer_fits;
      far_rows_fit = was.far_rows_fit;
      far_buffer_fits = was.far_buffer_fits;
    })

-- other lists and buffers for rows
pub with-rooms : {tells : Type 0} {given : Given} {tape : List Operation} {scope : Scope} {first : ℕ} {entries : List Entry} {members : Members}
    {work : Work} {course : Course} {ahead : PhasesLeft} {limit : Option ℕ} {window : List ℕ} {steps room rows rows' buffer buffer' far_rows far_rows' far_buffer far_buffer' : ℕ} {faults : ℕ → ℕ}
    → rows ≤ rows' → buffer' ≡ buffer → far_rows ≤ far_rows' → far_buffer' ≡ far_buffer
    → IsReady tells given tape scope first entries members work course ahead limit window faults steps room rows buffer far_rows far_buffer
    → IsReady tells given tape scope first entries members work course ahead limit window faults steps room rows' buffer' far_rows' far_buffer'
with-rooms one two three four was = record {
  kept = was.kept;
  sized = was.sized;
  limited = was.limited;
  full = was.full;
  planned = was.planned;
  wide = was.wide;
  failed = was.failed;
  dead = was.dead;
  room_left = was.room_left;
  rows_fit = let had = was.rows_fit in omega (arith, had, one);
  buffer_fits = let had = was.buffer_fits in omega (arith, had, two);
  far_rows_fit = let had = was.far_rows_fit in omega (arith, had, three);
  far_buffer_fits = let had = was.far_buffer_fits in omega (arith, had, four);
}

-- and where it tells no loss, it lost none
pub failure-whole : {given : Given} {old new : Members} (tape' : List Operation) (scope : Scope) (first : ℕ) (entries : List Entry) (who : Who) (end roles spares : ℕ) (torn : Bool) (at : ℕ) (body : List Sector) (refusal : Refusal)
    → IsMoved given old new → AreMissingSince old new roles
    → TakesNone (world_in given tape' scope first) (entries ++ entries_of who end (failure_events roles spares torn at body refusal)) → AreWhole old → AreWhole new
failure-whole tape' scope first entries who end roles spares false at body refusal moved since none whole role lt = behind-whole tape' scope first entries who end roles spares (Refused refusal) moved since none whole role lt
failure-whole {given = given} {old = old} {new = new} tape' scope first entries who end roles spares true at body refusal moved since none whole role lt = by (is_missing (reading_of new) role) refl
  where
    taken : TakesNone (world_in given tape' scope first) (entries ++ entries_of who end (losses_of roles spares ++ Torn at body ∷ Refused refusal ∷ []))
    taken = subst (λ (l : List Event). TakesNone (world_in given tape' scope first) (entries ++ entries_of who end l)) (append_assoc (losses_of roles spares) (Torn at body ∷ []) (Refused refusal ∷ [])) none

    by : (b : Bool) → is_missing (reading_of new) role ≡ b → b ≡ false
    by false is = refl
    by true is = elim (missing-moved roles moved since role lt is) [
      | inl was ↦ absurd (let both : true ≡ false = sym was.1 ∙ whole role was.0 in cc)
      | inr has ↦
          let few = few-roles new.newest moved.placed.fit.valid in
          takes-lost (world_in given tape' scope first) role entries (entries_of who end (losses_of roles spares ++ Torn at body ∷ Refused refusal ∷ []))
          ((early-losses roles spares).lost who end (Torn at body ∷ Refused refusal ∷ []) role (omega (arith, lt, few)) has) taken
    ]

-- ---- a window that is finished

-- what was lost, by the members before it
pub finished-since : (given : Given) (old new : Members) (span : Span) (refusal : Option Refusal) → MatchOption refusal (IsMoved given (moved_past span old) new) (λ why. IsMoved given old new)
    → (disks was roles spares : ℕ) (before after : ℕ → ℕ) → IsPlaced given old → next_window old.newest ≡ Some span → HaveFailedSince old new spares before after
    → disks ≡ role_count old.newest → AreVacant old disks was → AreNewlyVacant new disks was roles → AreLostSince old new roles spares before after
finished-since given old new span None moved disks was roles spares before after placed next failed same vacant newly = since-past given old new span disks was roles spares before after placed next moved failed same vacant newly
finished-since given old new span (Some why) moved disks was roles spares before after placed next failed same vacant newly = lost-since given old new disks was roles spares before after placed moved failed same vacant newly

pub finished-missing : (given : Given) (old new : Members) (span : Span) (refusal : Option Refusal) → MatchOption refusal (IsMoved given (moved_past span old) new) (λ why. IsMoved given old new)
    → {roles spares : ℕ} {before after : ℕ → ℕ} → AreLostSince old new roles spares before after → AreMissingSince old new roles
finished-missing given old new span None moved {roles = roles} since = missing-since {old = moved_past span old} roles moved since.vacant
finished-missing given old new span (Some why) moved {roles = roles} since = missing-since roles moved since.vacant

module _ {tells : Type 0} {given : Given} {tape tape' : List Operation} {scope : Scope} {first : ℕ} {entries : List Entry} {old new : Members} {carried : ℕ → ℕ → Bool} {resync : Option ℕ} (course : Course) (ahead : PhasesLeft) (window : List ℕ)
    (span : Span) (copied done : ℕ) (sectioned : Bool) (who : Who) (end roles spares : ℕ) (was : IsMoving tells given tape scope first entries old carried resync course (bytes_in course.window window) (left_by resync old course ahead))
    (is : course ≡ entered span copied sectioned) (goes : IsCallGoing entries who) (caller : who.caller ≢ 254) (at_end : tells → end ≡ length tape') (grows : Grows tells tape tape') (enough : DoWithout old)
    (refusal : Option Refusal) (did : IsFinishedBy tells given tape tape' old new (final_shape old.newest) span copied done (take (512 * (span.hi - span.lo)) window) roles refusal) where
  abbrev bytes : List ℕ
  bytes = take (512 * (span.hi - span.lo)) window

  opened : IsMoving tells given tape scope first entries old carried resync (entered span copied sectioned) bytes (left_by resync old course ahead)
  opened = subst (λ (c : Course). IsMoving tells given tape scope first entries old carried resync c (bytes_in c.window window) (left_by resync old course ahead)) is was

  -- it is done: no window is open
  pub finish-done : (left : ℕ) → refusal ≡ None → left ≡ left_by resync new (closed 0) ahead
      → IsMoving tells given tape' scope first (entries ++ entries_of who end (losses_of roles spares ++ Step FinishesWindow left ∷ [])) new carried resync (closed 0) [] (left_by resync new (closed 0) ahead)
  finish-done left none told =
      subst (λ (n : ℕ). IsMoving tells given tape' scope first (entries ++ entries_of who end (losses_of roles spares ++ Step FinishesWindow left ∷ [])) new carried resync (closed 0) [] n) told
      (closed-bare 0 bytes left
      (finish-moves tells given tape tape' scope first entries old new carried resync (final_shape old.newest) span copied done sectioned bytes who end roles spares goes (not_254 who.caller caller) at_end grows enough
      None (left_by resync old course ahead) left opened some (subst (λ (o : Option Refusal). IsFinishedBy tells given tape tape' old new (final_shape old.newest) span copied done bytes roles o) none did)))
    where
      some : left ≢ 0
      some zero = absurd (record-some given old new resync span ahead (moved-none given span old new refusal none did.moved) was.members_are.active (sym told ∙ zero))

  -- and the window's rows stand then
  pub finish-stands : (left : ℕ) → refusal ≡ None → left ≡ left_by resync new (closed 0) ahead
      → tells → IsWindowStanding (Some span) (world_in given tape' scope first) (entries ++ entries_of who end (losses_of roles spares ++ Step FinishesWindow left ∷ [])) new (present given tape')
  finish-stands left none told =
      window-stands tells given tape tape' scope first entries old new carried resync span copied done sectioned bytes who end roles spares (left_by resync old course ahead) left opened enough grows some
      (subst (λ (o : Option Refusal). IsFinishedBy tells given tape tape' old new (final_shape old.newest) span copied done bytes roles o) none did)
    where
      some : left ≢ 0
      some zero = absurd (record-some given old new resync span ahead (moved-none given span old new refusal none did.moved) was.members_are.active (sym told ∙ zero))

  -- it is refused: the window is open as before
  pub finish-refused : (why : Refusal) → refusal ≡ Some why
      → IsMoving tells given tape' scope first (entries ++ entries_of who end (losses_of roles spares ++ Refused why ∷ [])) new carried resync course (bytes_in course.window window) (left_by resync new course ahead)
  finish-refused why refused =
      subst (λ (n : ℕ). IsMoving tells given tape' scope first (entries ++ entries_of who end (losses_of roles spares ++ Refused why ∷ [])) new carried resync course (bytes_in course.window window) n)
      (sym (left-moved given old new resync course ahead (moved-if given span old new refusal why refused did.moved)))
      (subst (λ (c : Course). IsMoving tells given tape' scope first (entries ++ entries_of who end (losses_of roles spares ++ Refused why ∷ [])) new carried resync c (bytes_in c.window window) (left_by resync old course ahead)) (sym is)
      (finish-moves tells given tape tape' scope first entries old new carried resync (final_shape old.newest) span copied done sectioned bytes who end roles spares goes (not_254 who.caller caller) at_end grows enough
      (Some why) (left_by resync old course ahead) 1 opened one (subst (λ (o : Option Refusal). IsFinishedBy tells given tape tape' old new (final_shape old.newest) span copied done bytes roles o) refused did)))
    where
      one : ◌≢◌ {A = ℕ} 1 0
      one zero = absurd (omega (arith, zero))

-- the steps that the window still had are taken
pub finish-left : (given : Given) (old new : Members) (resync : Option ℕ) (course : Course) (ahead : PhasesLeft) (span : Span) (copied : ℕ) (sectioned : Bool) → course ≡ entered span copied sectioned
    → IsMoved given (moved_past span old) new → is_reshaping old.newest ≡ true → left_by resync new (closed 0) ahead + steps_in old.newest course.window ≡ left_by resync old course ahead
finish-left given old new resync course ahead span copied sectioned is moved active =
    ap (λ (c : Course). left_by resync new (closed 0) ahead + steps_in old.newest c.window) is
    ∙ both (grow_left new.newest Closed 0 (phases_of ahead)) (grow_left old.newest (Entered span copied sectioned) 0 (phases_of ahead)) (resync_left new.newest Closed resync) (resync_left old.newest (Entered span copied sectioned) resync)
    (stripes_in old.newest span - copied)
    (finishing old.newest new.newest span sectioned copied 0 (phases_of ahead) active (past-of given old new span moved)) (records-leave given old new span copied sectioned resync moved)
    ∙ sym (ap (λ (c : Course). left_by resync old c ahead) is)
  where
    both : (x y m n k : ℕ) → x + (k + 1) ≡ y → m ≡ n → (x + m) + (k + 1) ≡ y + n
    both x y m n k taken same = omega (arith, taken, same)

-- and parity is relied on as far as before: nothing is mended while the window is open
pub finish-relied : (given : Given) (old new : Members) (resync : Option ℕ) (span : Span) → IsPlaced given old → IsMoved given (moved_past span old) new → ⊥ ⊎ IsUnsynced resync → relied_sector new.newest resync ≡ relied_sector old.newest resync
finish-relied given old new None span placed moved beside = long-same old.newest new.newest (shapes-past given old new span moved)
finish-relied given old new (Some mended) span placed moved (inr none) =
    ap (λ (n : ℕ). relied_sector new.newest (Some n)) none ∙ (relied-reaches new.newest moved.placed.fit).0
    ∙ sym (ap (λ (n : ℕ). relied_sector old.newest (Some n)) none ∙ (relied-reaches old.newest placed.fit).0)
finish-relied given old new (Some mended) span placed moved (inl none) = absurd none

-- ---- a window that was recorded

-- its rows stand by the array's own world
pub recorded-as : (window : Option Span) (tape : List Operation) (m : Members) {given given' : Given} {scope scope' : Scope} {first first' : ℕ} {entries entries' : List Entry}
    → given' ≡ given → scope' ≡ scope → first' ≡ first → entries' ≡ entries
    → IsWindowStanding window (world_in given tape scope first) entries m (present given tape) → IsWindowStanding window (world_in given' tape scope' first') entries' m (present given' tape)
recorded-as window tape m {given = given} {given' = given'} {scope = scope} {scope' = scope'} {first = first} {first' = first'} {entries = entries} {entries' = entries'} one two three four was =
    subst (λ (b : Given). IsWindowStanding window (world_in b tape scope' first') entries' m (present b tape)) (sym one)
    (subst (λ (s : Scope). IsWindowStanding window (world_in given tape s first') entries' m (present given tape)) (sym two)
    (subst (λ (n : ℕ). IsWindowStanding window (world_in given tape scope n) entries' m (present given tape)) (sym three)
    (subst (λ (l : List Entry). IsWindowStanding window (world_in given tape scope first) l m (present given tape)) (sym four) was)))

-- ---- sectors beside the window

-- a refusal tells that members are missing
pub torn-missing : (window : Option Span) (relied at to : ℕ) (m : Members) (refusal : Refusal) → IsListUnwritten window relied at to m refusal → IsOfMissing refusal
torn-missing window relied at to m refusal (inl torn) = unwritten-of (shape_for m.newest torn.0) false m refusal (inl torn.3)
torn-missing window relied at to m refusal (inr (each, there)) = unwritten-of (shape_for m.newest there.0) false m refusal (inr there.5)

module _ {tells : Type 0} {given : Given} {tape : List Operation} {scope : Scope} {first : ℕ} {entries : List Entry} {old : Members} {carried : ℕ → ℕ → Bool} {resync : Option ℕ} {course : Course} {buffer : List ℕ} {left : ℕ} {limit : Option ℕ}
    (was : IsMoving tells given tape scope first entries old carried resync course buffer left) (limited : limit_of entries ≡ limit) where
  -- so much of the list is visible
  pub all-seen : tells → visible_at (world_in given tape scope first) entries ≡ visible_size old limit
  all-seen t = visible-is (length (opening_list (world_in given tape scope first))) (list_length old.newest) limit entries (was.recorded t).sized limited

  -- why it is refused before any row is read
  pub first-right : (window : Option Span) (relied at to : ℕ) (refusal : Refusal) → relied ≡ relied_sector old.newest resync
      → IsRefusedFor (visible_size old limit) to (IsListUnwritten window relied at to) old old refusal
      → tells → IsReliable (world_in given tape scope first) entries → IsRefusedRight (world_in given tape scope first) entries refusal
  first-right window relied at to (PastEnd told) relies why t right = why.0 ∙ sym (all-seen t)
  first-right window relied at to refusal relies why t right = by (let below = visible-within (list_length old.newest) limit in let within = why.0 in omega (arith, below, within)) why.1
    where
      by : to ≤ list_length old.newest → IsListUnwritten window relied at to old refusal → IsRefusedRight (world_in given tape scope first) entries refusal
      by within (inl torn) =
          lacking-right (world_in given tape scope first) entries given old was.members_are.placed (was.gone t right) (was.levelled t right) (shape_for old.newest torn.0) refusal (shape-force old.newest torn.0) torn.3
      by within (inr (each, there)) =
          let cause = there.5 in
          let high = there.2 in
          let few = cause.4.0 in
          let disks = force-disks old.newest was.members_are.placed.fit (shape_for old.newest there.0) (shape-force old.newest there.0) in
          unsynced-right (world_in given tape scope first) entries old (was.gone t right) refusal cause.0 cause.1 (omega (arith, few, disks)) cause.3
          (pending-at was relied relies old was.members_are.placed.fit refl there.0 (omega (arith, high, within)) there.4 t)

module _ {tells : Type 0} {given : Given} {tape tape' : List Operation} {scope : Scope} {first : ℕ} {entries : List Entry} {old new : Members} {carried : ℕ → ℕ → Bool} {resync : Option ℕ} {limit : Option ℕ} (course : Course) (ahead : PhasesLeft) (buffer : List ℕ)
    (who : Who) (end roles spares at : ℕ) (from : List ℕ) (past : Option Span) (relied : ℕ) (begun : Bool)
    (was : IsMoving tells given tape scope first entries old carried resync course buffer (left_by resync old course ahead)) (goes : IsCallGoing entries who) (caller : who.caller ≢ 254)
    (at_end : tells → end ≡ length tape') (grows : Grows tells tape tape') (limited : limit_of entries ≡ limit) (visible : at + length from / 512 ≤ visible_size old limit) (some : 0 < length from / 512)
    (fine : (refusal : Refusal) → IsListUnwritten past relied at (at + length from / 512) old refusal → ⊥) (relies : relied ≡ relied_sector old.newest resync)
    (stood : tells → IsWindowStanding past (world_in given tape scope first) entries old (present given tape)) (did : ArePut tells given tape tape' old new course at from past relied roles begun) where
  -- no shape of the write misses too many
  each-does : (x : ℕ) → at ≤ x → x < at + length from / 512 → DoesWithout (shape_for old.newest x) old
  each-does x low high = shape-without (shape_for old.newest x) old (λ refusal many. fine refusal (inl (x, low, high, many)))

  -- so a live slot is left
  live : HasLiveSlot old
  live = shape-left given old was.members_are.placed was.members_are.unlost (shape_for old.newest at) (shape-force old.newest at) (each-does at (omega arith) (omega (arith, some)))

  seen : tells → at + length from / 512 ≤ visible_of (length (opening_list (world_in given tape scope first))) entries
  seen t = let same = all-seen was limited t in omega (arith, same, visible)

  -- it is done
  pub wrote-kept : AreWritten tells given tape tape' old new at from past relied
      → IsMoving tells given tape' scope first (entries ++ entries_of who end (losses_of roles spares ++ Wrote at (sectors_of from) ∷ [])) new carried resync course buffer (left_by resync new course ahead)
  wrote-kept done =
      subst (λ (n : ℕ). IsMoving tells given tape' scope first (entries ++ entries_of who end (losses_of roles spares ++ Wrote at (sectors_of from) ∷ [])) new carried resync course buffer n) (sym (left-moved given old new resync course ahead did.moved))
      (written-moves tells given tape tape' scope first entries old new carried resync course buffer (left_by resync old course ahead) who end roles spares at from past relied begun was live goes (not_254 who.caller caller) at_end grows each-does seen relies stood did done)

  -- it is refused
  pub unwritten-kept : (refusal : Refusal) → AreUnwritten tells given tape tape' old new at from past relied begun refusal
      → IsMoving tells given tape' scope first (entries ++ entries_of who end (failure_events roles spares begun at (sectors_of from) refusal)) new carried resync course buffer (left_by resync new course ahead)
  unwritten-kept refusal undone =
      subst (λ (n : ℕ). IsMoving tells given tape' scope first (entries ++ entries_of who end (failure_events roles spares begun at (sectors_of from) refusal)) new carried resync course buffer n) (sym (left-moved given old new resync course ahead did.moved))
      (unwritten-moves tells given tape tape' scope first entries old new carried resync course buffer (left_by resync old course ahead) who end roles spares at from past relied begun was live goes (not_254 who.caller caller) at_end grows each-does seen relies stood did refusal undone)

-- ---- one call behind another

module _ (Had Has : ℕ → ℕ → Type 0) (Was Is : ℕ → Type 0) (f g h k : ℕ → ℕ) (had : (role slot : ℕ) → Has role slot → Had role slot) (was : (slot : ℕ) → Is slot → Was slot) (before : NeverFalls f g) (since : NeverFalls g h) (after : NeverFalls h k) where
  -- a loss between two marks is one between marks around them, of slots that had the role earlier
  role-around : (role : ℕ) (cause : LostCause) → IsRoleLossBy Has g h role cause → IsRoleLossBy Had f k role cause
  role-around role Fault loss = (loss.0, had role loss.0 loss.1, faulted_longer loss.0 f g h k (before loss.0) (after loss.0) (since loss.0) loss.2)
  role-around role Command loss = (loss.0, had role loss.0 loss.1)
  role-around role cause loss = absurd loss

  loss-around : (event : Event) → IsLossBy Has Is g h event → IsLossBy Had Was f k event
  loss-around (Lost role cause) loss = role-around role cause loss
  loss-around (SpareLost slot) loss = (was slot loss.0, faulted_longer slot f g h k (before slot) (after slot) (since slot) loss.1)
  loss-around event loss = tt

losses-then : (a b : Members) (f g h : ℕ → ℕ) → NeverFalls f g → NeverFalls g h → AreStillHeld a b → AreSparesFewer a b → (old mid new : List Entry) → AreLossesOf a f g old mid → AreLossesOf b g h mid new → AreLossesOf a f h old new
losses-then a b f g h early late held fewer old mid new one two = record {
  more = one.more ++ two.more;
  grown = two.grown ∙ ap (λ (l : List Entry). l ++ two.more) one.grown ∙ append_assoc old one.more two.more;
  failed = All-append (λ e. IsLossBy (Held a) (WasSpare a) f h e.event) one.more two.more
      (All-weaker (λ e. IsLossBy (Held a) (WasSpare a) f g e.event) (λ e. IsLossBy (Held a) (WasSpare a) f h e.event)
      (λ e loss. loss-around (Held a) (Held a) (WasSpare a) (WasSpare a) f f g h (λ role slot may. may) (λ slot is. is) (λ slot. omega arith) early late e.event loss) one.more one.failed)
      (All-weaker (λ e. IsLossBy (Held b) (WasSpare b) g h e.event) (λ e. IsLossBy (Held a) (WasSpare a) f h e.event)
      (λ e loss. loss-around (Held a) (Held b) (WasSpare a) (WasSpare b) f g h h held fewer early late (λ slot. omega arith) e.event loss) two.more two.failed);
}

-- a slot has failed, or has its role still
pub failed-then : (a b c : Members) (f g h : ℕ → ℕ) → NeverFalls f g → NeverFalls g h → HaveRolesFailed a b f g → HaveRolesFailed b c g h → HaveRolesFailed a c f h
failed-then a b c f g h early late one two role slot held = elim (one role slot held) [
  | inl still ↦ elim (two role slot still) [
    | inl there ↦ inl there
    | inr failed ↦ inr (faulted_longer slot f g h h (early slot) (omega arith) (late slot) failed)
  ]
  | inr failed ↦ inr (faulted_longer slot f f g h (omega arith) (late slot) (early slot) failed)
]

-- what two calls leave, one behind the other
pub called-then : {B : Type 0} {tells : Type 0} {given given' : Given} {tape0 tape1 tape2 : List Operation} {f g h : ℕ → ℕ} {a b c : RunningParts B} → given' ≡ given
    → IsCalled tells given tape0 tape1 f g a b → IsCalled tells given' tape1 tape2 g h b c → IsCalled tells given tape0 tape2 f h a c
called-then {tells = tells} {given = given} {tape0 = tape0} {tape1 = tape1} {tape2 = tape2} {f = f} {g = g} {h = h} {a = a} {b = b} {c = c} same one behind = then (subst (λ (d : Given). IsCalled tells d tape1 tape2 g h b c) same behind)
  where
    then : IsCalled tells given tape1 tape2 g h b c → IsCalled tells given tape0 tape2 f h a c
    then two = record {
      grows = grows-then one.grows two.grows;
      ended = two.ended;
      held = λ role slot holds. one.held role slot (two.held role slot holds);
      spares = λ slot spare. one.spares slot (two.spares slot spare);
      losses = losses-then a.parts.members b.parts.members f g h one.never_falls two.never_falls one.held one.spares a.parts.entries b.parts.entries c.parts.entries one.losses two.losses;
      never_falls = λ slot. let early = one.never_falls slot in let late = two.never_falls slot in omega (arith, early, late);
      work = two.work ∙ one.work;
      same = record {
        array = record {
          uuid = two.same.array.uuid ∙ one.same.array.uuid;
          given = two.same.array.given ∙ one.same.array.given;
          first = two.same.array.first ∙ one.same.array.first;
          backup = two.same.array.backup ∙ one.same.array.backup;
          shape = two.same.array.shape ∙ one.same.array.shape;
          size = two.same.array.size ∙ one.same.array.size;
          list = λ t. two.same.array.list t ∙ one.same.array.list t;
        };
        final = two.same.final ∙ one.same.final;
        backward = two.same.backward ∙ one.same.backward;
        ahead = two.same.ahead ∙ one.same.ahead;
        limit = two.same.limit ∙ one.same.limit;
      };
    }

-- room was made for its entries before
pub called-roomed : {B : Type 0} {tells : Type 0} {given : Given} {tape tape' : List Operation} {f g : ℕ → ℕ} (old new : RunningParts B) (items : List Entry) (steps : ℕ) → items ≡ old.parts.entries
    → IsCalled tells given tape tape' f g (record old { parts = record old.parts { entries = items; steps = steps } }) new → IsCalled tells given tape tape' f g old new
called-roomed {f = f} {g = g} old new items steps same was = record {
  grows = was.grows;
  ended = was.ended;
  held = was.held;
  spares = was.spares;
  losses = subst (λ (l : List Entry). AreLossesOf old.parts.members f g l new.parts.entries) same was.losses;
  never_falls = was.never_falls;
  work = was.work;
  same = record {
    array = record {
      uuid = was.same.array.uuid;
      given = was.same.array.given;
      first = was.same.array.first;
      backup = was.same.array.backup;
      shape = was.same.array.shape;
      size = was.same.array.size;
      list = was.same.array.list;
    };
    final = was.same.final;
    backward = was.same.backward;
    ahead = was.same.ahead;
    limit = was.same.limit;
  };
}

-- ---- what it answers

-- where none of its sectors lies in the entered window, it touches none
pub untouched : (window : Window) (at to : ℕ) → ((x : ℕ) → at ≤ x → x < to → covers (open_in window) x ≡ false) → TouchesWindow window at to → ⊥
untouched window at to out touches = absurd (let both : true ≡ false = sym touches.3 ∙ out touches.0 touches.1 touches.2 in cc)

-- what follows of something that isn't so holds
pub never-ok : {T : Type 0} (result : Result T AnyFault) (P Q : Type 0) → (P → ⊥) → OnOk result (P → Q)
never-ok (Ok x) P Q none = λ is. absurd (none is)
never-ok (Err fault) P Q none = tt

-- a refusal for one cause is one for either
pub wider-refused : (visible to : ℕ) (why : Members → Refusal → Type 0) (m : Members) (refusal : Refusal) → IsRefusedFor visible to why m m refusal → IsRefusedFor visible to (λ m refusal. why m refusal ⊎ AreTooMany m refusal) m m refusal
wider-refused visible to why m (PastEnd told) is = is
wider-refused visible to why m refusal is = (is.0, inl is.1)

-- a window isn't finished: why the write isn't done, or neither speaks against it
pub finish-caused : {T : Type 0} (size visible to : ℕ) (why : Members → Refusal → Type 0) (old new : Members) (result : Result T AnyFault) → to ≤ visible → ((refusal : Refusal) → why old refusal → ⊥)
    → IsCausedBy size 0 AreTooMany old new result → IsCausedBy visible to (λ m refusal. why m refusal ⊎ AreTooMany m refusal) old new result
finish-caused size visible to why old new (Ok x) within fine caused = (within, λ refusal which. elim which [ inl asked ↦ fine refusal asked | inr many ↦ caused.1 refusal many ])
finish-caused size visible to why old new (Err (IsRefusedWith refusal)) within fine caused = by refusal caused
  where
    by : (refusal : Refusal) → IsRefusedFor size 0 AreTooMany old new refusal → IsRefusedFor visible to (λ m refusal. why m refusal ⊎ AreTooMany m refusal) old new refusal
    by (PastEnd told) is = absurd (let past = is.1 in omega (arith, past))
    by refusal is = (within, inr is.1)
finish-caused size visible to why old new (Err NoMemory) within fine caused = caused

-- why sectors outside a window aren't written, where none lies in it
unwritten-less : (window : Option Span) (relied at to : ℕ) (m : Members) (refusal : Refusal) → IsListUnwritten window relied at to m refusal → IsListUnwritten None relied at to m refusal
unwritten-less window relied at to m refusal (inl torn) = inl torn
unwritten-less window relied at to m refusal (inr (each, there)) = inr (each, (there.0, there.1, there.2, refl, there.4, there.5))

unwritten-more : (window : Window) (relied at to : ℕ) (m : Members) (refusal : Refusal) → (TouchesWindow window at to → ⊥) → IsListUnwritten None relied at to m refusal → IsListUnwritten (open_in window) relied at to m refusal
unwritten-more window relied at to m refusal none (inl torn) = inl torn
unwritten-more window relied at to m refusal none (inr (each, there)) = inr (each, (there.0, there.1, there.2, out (covers (open_in window) there.0) refl, there.4, there.5))
  where
    out : (b : Bool) → covers (open_in window) there.0 ≡ b → covers (open_in window) there.0 ≡ false
    out true inside = absurd (none (there.0, there.1, there.2, inside))
    out false is = is

-- a write beside the window, which it doesn't touch
pub alone-caused : {T : Type 0} (window : Window) (visible relied at to : ℕ) (old new : Members) (result : Result T AnyFault) → (TouchesWindow window at to → ⊥)
    → IsCausedBy visible to (IsListUnwritten None relied at to) old new result → IsCausedBy visible to (IsWriteLacked window relied at to) old new result
alone-caused window visible relied at to old new (Ok x) none caused =
    (caused.0, λ refusal which. elim which [ inl asked ↦ caused.1 refusal (unwritten-less (open_in window) relied at to old refusal asked) | inr many ↦ none many.0 ])
alone-caused window visible relied at to old new (Err (IsRefusedWith refusal)) none caused = by refusal caused
  where
    by : (refusal : Refusal) → IsRefusedFor visible to (IsListUnwritten None relied at to) old new refusal → IsRefusedFor visible to (IsWriteLacked window relied at to) old new refusal
    by (PastEnd told) is = is
    by refusal is = (is.0, inl (unwritten-more window relied at to new refusal none is.1))
alone-caused window visible relied at to old new (Err NoMemory) none caused = caused

-- a window that it touches isn't finished
pub refused-caused : (T : Type 0) (window : Window) (visible relied at to : ℕ) (old new : Members) (fault : AnyFault) → TouchesWindow window at to
    → IsCausedBy {T = T} visible to (λ m refusal. IsListUnwritten (open_in window) relied at to m refusal ⊎ AreTooMany m refusal) old new (Err fault) → IsCausedBy {T = T} visible to (IsWriteLacked window relied at to) old new (Err fault)
refused-caused T window visible relied at to old new (IsRefusedWith refusal) touches caused = by refusal caused
  where
    by : (refusal : Refusal) → IsRefusedFor visible to (λ m refusal. IsListUnwritten (open_in window) relied at to m refusal ⊎ AreTooMany m refusal) old new refusal → IsRefusedFor visible to (IsWriteLacked window relied at to) old new refusal
    by (PastEnd told) is = is
    by refusal is = (is.0, elim is.1 [ inl asked ↦ inl asked | inr many ↦ inr (touches, many) ])
refused-caused T window visible relied at to old new NoMemory touches caused = caused

-- it is finished, and the sectors are written behind it, or aren't
pub behind-caused : {T : Type 0} (window : Window) (visible long relied mended at to : ℕ) (old mid new : Members) (result : Result T AnyFault) (who : Who) (entries entries' : List Entry) (body : List Sector) → long ≡ visible → mended ≡ relied
    → (to ≤ visible) × ((refusal : Refusal) → IsListUnwritten (open_in window) relied at to old refusal ⊎ AreTooMany old refusal → ⊥) → IsPutEntered who entries entries' at body result
    → IsCausedBy long to (IsListUnwritten (open_in window) mended at to) mid new result → IsCausedBy visible to (IsWriteLacked window relied at to) old new result
behind-caused window visible long relied mended at to old mid new (Ok x) who entries entries' body same relies before told caused =
    (before.0, λ refusal which. elim which [ inl asked ↦ before.1 refusal (inl asked) | inr many ↦ before.1 refusal (inr many.1) ])
behind-caused window visible long relied mended at to old mid new (Err (IsRefusedWith refusal)) who entries entries' body same relies before told caused = by refusal caused
  where
    by : (refusal : Refusal) → IsRefusedFor long to (IsListUnwritten (open_in window) mended at to) mid new refusal → IsRefusedFor visible to (IsWriteLacked window relied at to) old new refusal
    by (PastEnd told) is = absurd (let past = is.1 in let within = before.0 in omega (arith, past, within, same))
    by refusal is = (before.0, inl (subst (λ (n : ℕ). IsListUnwritten (open_in window) n at to new refusal) relies is.1))
behind-caused window visible long relied mended at to old mid new (Err NoMemory) who entries entries' body same relies before told caused = absurd told

-- its entries, where it doesn't touch the window
pub alone-entered : {T : Type 0} (window : Window) (at to : ℕ) (body : List Sector) (who : Who) (old mid new : List Entry) (left : ℕ) (result : Result T AnyFault) → mid ≡ old → (TouchesWindow window at to → ⊥)
    → IsPutEntered who mid new at body result → IsWriteEntered window at to body who old new left result
alone-entered window at to body who old mid new left (Ok x) same none told = (mid, inr (none, same), told)
alone-entered window at to body who old mid new left (Err (IsRefusedWith refusal)) same none told = (mid, inr same, told.0, told.1, told.2, told.3, told.4)
alone-entered window at to body who old mid new left (Err NoMemory) same none told = absurd told

-- where that isn't finished
pub refused-entered : (T : Type 0) (window : Window) (at to : ℕ) (body : List Sector) (who : Who) (old mid new : List Entry) (left before : ℕ) (fault : AnyFault) → mid ≡ old
    → IsStepTaken {T = T} who mid new FinishesWindow before (Err fault) → IsWriteEntered {T = T} window at to body who old new left (Err fault)
refused-entered T window at to body who old mid new left before (IsRefusedWith refusal) same told = (mid, inr same, told.roles, told.spares, false, told.end, told.is)
refused-entered T window at to body who old mid new left before NoMemory same told = absurd told

-- and behind it
pub behind-entered : {T : Type 0} (window : Window) (at to : ℕ) (body : List Sector) (who : Who) (old mid new : List Entry) (left before : ℕ) (result : Result T AnyFault) → TouchesWindow window at to → left ≡ before
    → IsBehind who old mid (Step FinishesWindow before) → IsPutEntered who mid new at body result → IsWriteEntered window at to body who old new left result
behind-entered window at to body who old mid new left before (Ok x) touches same finished told = (mid, inl (touches, subst (λ (n : ℕ). IsBehind who old mid (Step FinishesWindow n)) (sym same) finished), told)
behind-entered window at to body who old mid new left before (Err (IsRefusedWith refusal)) touches same finished told =
    (mid, inl (inl (touches, subst (λ (n : ℕ). IsBehind who old mid (Step FinishesWindow n)) (sym same) finished)), told.0, told.1, told.2, told.3, told.4)
behind-entered window at to body who old mid new left before (Err NoMemory) touches same finished told = absurd told
