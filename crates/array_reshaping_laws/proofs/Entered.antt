-- A step that enters the next window, or is refused: what the array keeps of it.
use Rattle.std.proofs.Common.{◌≡◌, ◌≢◌, ◌⊎◌, inl, inr, ℕ, ◌+◌, ◌-◌, ◌*◌, ◌<◌, ◌==◌, Bool, true, false, Option, Some, None, List, [], ◌∷◌, ◌++◌, length, take, refl, sym, ◌∙◌, ap, subst, arith}
use Rattle.std.specs.Prelude.{IfSome, IsFalse, MatchOption, ⊤}
use Rattle.array_fixed_laws.specs.raid_types_Sectors.{Sector}
use Rattle.array_fixed_laws.specs.raid_types_Shapes.{tolerance, tolerance_of}
use Rattle.array_fixed_laws.specs.raid_types_the_Refusal.{Refusal}
use Rattle.array_fixed_laws.specs.raid_types_the_Refusal_TheVariants.{BackupFault}
use Rattle.array_fixed_laws.specs.raid_types_the_Who.{Who}
use Rattle.array_fixed_laws.specs.raid_types_the_Shape.{Shape}
use Rattle.array_fixed_laws.specs.raid_types_the_Span.{Span}
use Rattle.reshape_window_backup.specs.bank_the_Operation.{Operation}
use Rattle.reshape_window_backup.specs.bank_Given.{Given}
use Rattle.reshape_window_backup.specs.bank_Tape.{Contents, IsIn, disk}
use Rattle.reshape_window_backup.specs.reshape_geometry_Geometry.{is_critical}
use Rattle.reshape_window_backup.specs.reshape_plan_Plans.{phases_steps}
use Rattle.reshape_window_backup.specs.sb_codec_the_Sb.{Sb}
use Rattle.array_reshaping_resync_laws.specs.sb_specs_the_Members.{Members}
use Rattle.array_reshaping_resync_laws.specs.sb_specs_Reading.{Scope, is_backward, is_clean, shape_of, final_shape, list_length, next_window}
use Rattle.array_reshaping_resync_laws.proofs.sb_specs_ValidFields.{few-roles}
use Rattle.array_reshaping_resync_laws.specs.stripe_row_Rows.{reading_of, present}
use Rattle.array_reshaping_resync_laws.specs.history_the_Entry.{Entry}
use Rattle.array_reshaping_resync_laws.specs.history_the_Event.{Event}
use Rattle.array_reshaping_resync_laws.specs.history_the_Event_TheVariants.{Step, Refused}
use Rattle.array_reshaping_resync_laws.specs.history_the_StepKind_TheVariants.{Entered as EntersWindow}
use Rattle.array_reshaping_resync_laws.specs.history_Flat.{now, values_of}
use Rattle.array_reshaping_resync_laws.specs.history_Legal.{told_left, level_at, IsLegalEvent}
use Rattle.array_reshaping_resync_laws.specs.history_Plain.{entries_of}
use Rattle.array_reshaping_resync_laws.specs.history_Sound.{OpensFit}
use Rattle.array_reshaping_resync_laws.specs.history_World.{opening_list}
use Rattle.array_reshaping_resync_laws.proofs.history_SoundLaws.{fit-before}
use Rattle.array_reshaping_resync_laws.specs.crash_views_Regions.{DoWithout}
use Rattle.array_reshaping_resync_laws.specs.crash_views_Views.{Ledger}
use Rattle.array_reshaping_resync_laws.specs.crash_views_Windows.{ListStands, RowsStand}
use Rattle.array_reshaping_resync_laws.specs.crash_safety_laws_Safety.{HasRoomLeft, IsRisen}
use Rattle.array_reshaping_resync_laws.specs.crash_safety_laws_Steady.{AreWritesAllowed, IsSafeOver, KeepsSafe, AreGoneTold, IsUncleanTold}
use Rattle.array_reshaping_resync_laws.specs.array_members_Placed.{AreWhole}
use Rattle.array_reshaping_resync_laws.specs.array_members_Moving.{Grows, IsMoved}
use Rattle.array_reshaping_resync_laws.specs.array_members_Lacking.{DoesWithout, AreTooMany, AreOtherRowsKept}
use Rattle.array_reshaping_resync_laws.proofs.array_members_LiveLeft.{without-left}
use Rattle.array_reshaping_resync_laws.proofs.array_members_Fit.{list-alike}
use Rattle.array_reshaping_resync_laws.specs.history_append_Losing.{losses_of}
use Rattle.array_reshaping_resync_laws.proofs.history_append_CallLaws.{losses-are}
use Rattle.array_reshaping_resync_laws.proofs.history_append_LeftLaws.{left-behind, left-more}
use Rattle.array_reshaping_resync_laws.proofs.reshape_window_steps_CopyLaws.{window-alike, critical-alike}
use Rattle.array_reshaping_resync_laws.specs.reshape_request_the_Window.{Window}
use Rattle.array_reshaping_resync_laws.specs.reshape_request_the_Window_TheVariants.{Closed, Entered, Unsure}
use Rattle.array_reshaping_resync_laws.specs.reshape_request_the_PhasesLeft.{PhasesLeft}
use Rattle.array_reshaping_resync_laws.specs.reshape_request_Left.{phases_of, reshape_left, grow_left}
use Rattle.array_reshaping_resync_laws.proofs.reshape_request_LeftLaws.{entering}
use Rattle.array_reshaping_resync_laws.specs.history_invariant_Recorded.{IsCallGoing, entry_of}
use Rattle.array_reshaping_resync_laws.specs.history_invariant_Safe.{world_in, IsFilledRight, TakesNone, OpensOnCourse}
use Rattle.array_reshaping_resync_laws.proofs.history_invariant_Entered.{adds_only}
use Rattle.array_reshaping_resync_laws.proofs.history_invariant_Lists.{newest-in}
use Rattle.array_fixed_laws.specs.history_invariant_laws_Reliable.{IsReliable, AreToldGone}
use Rattle.array_fixed_laws.proofs.history_invariant_laws_Adding.{IsAdding, ChangesEarly, changing-leaves}
use Rattle.array_fixed_laws.proofs.history_invariant_laws_Behind.{IsAmong, and-true, early-losses, first-of, legal-losses}
use Rattle.array_fixed_laws.proofs.history_invariant_laws_LastStep.{IsWithin, losses-within}
use Rattle.array_fixed_laws.proofs.history_invariant_laws_Quiet.{IsQuiet, IsLeftBehind, fit-later, quiet-now, last-left}
use Rattle.array_reshaping_resync_laws.specs.reshape_progress_the_Course.{Course}
use Rattle.array_reshaping_resync_laws.specs.reshape_progress_Course.{HasWindowIn, IsCourseOf, IsStored, StandsInCourse}
use Rattle.array_reshaping_resync_laws.specs.reshape_progress_Laws.{closed}
use Rattle.array_reshaping_resync_laws.proofs.reshape_progress_Courses.{enters-stand}
use Rattle.array_reshaping_resync_laws.proofs.reshape_progress_Frames.{stands-on, stands-whole}
use Rattle.array_reshaping_resync_laws.specs.reshape_progress_resync_laws_Synced.{IsUnsynced, StandsSynced}
use Rattle.array_fixed_laws.proofs.array_reshaping_state_LeftLaws.{plans-counted, some-left}
use Rattle.array_fixed_laws.proofs.array_reshaping_state_ReshapeLaws.{under-way-of}
use Rattle.array_reshaping_resync_laws.specs.array_reshaping_invariant_Moving.{HasListInCourse, IsMoving}
use Rattle.array_reshaping_resync_laws.proofs.array_reshaping_invariant_Pending.{HasResync, resync-of, resync-moved, pending-on, none-stands, none-on, mended-later}
use Rattle.array_reshaping_resync_laws.proofs.array_reshaping_invariant_Quiet.{safe-now, course-earlier}
use Rattle.array_reshaping_resync_laws.proofs.array_reshaping_invariant_MembersMove.{reshaping-moved}
use Rattle.array_reshaping_resync_laws.proofs.array_reshaping_invariant_Refusals.{quiet-refusal, refused-right}
use Rattle.array_reshaping_resync_laws.proofs.array_reshaping_invariant_Steps.{AreMissingSince, missing-moved, quiet-step, step-is, told-behind, told-step}
use Rattle.array_reshaping_laws.specs.Ready.{bytes_in}
use Rattle.array_fixed_laws.proofs.array_specs_Called.{not_254}
use Rattle.array_reshaping_laws.proofs.Kept.{left_by, left-moved, behind-whole, takes-before}
use Rattle.array_reshaping_laws.proofs.RecordLaws.{closed-bare}
use Rattle.array_reshaping_resync_laws.proofs.history_invariant_Turned.{fills-on_course}

-- ---- answers

pub when-some : (P : Type 0) (Q : Refusal → Type 0) (found : Option Refusal) (refusal : Refusal) → found ≡ Some refusal → MatchOption found P Q → Q refusal
when-some P Q found refusal is told = subst (λ (o : Option Refusal). MatchOption o P Q) is told

pub when-none : (P : Type 0) (Q : Refusal → Type 0) (found : Option Refusal) → found ≡ None → MatchOption found P Q → P
when-none P Q found is told = subst (λ (o : Option Refusal). MatchOption o P Q) is told

-- ---- the course

-- the course with this window
abbrev pub course_in : Window → Course
course_in window = record { window = window; zeroed = 0 }

-- it is the next one, if there is one, with nothing copied, and stored where it is critical
abbrev pub IsNextWindow : Sb → Window → Type 0
IsNextWindow newest Closed = ⊤
IsNextWindow newest (Entered span copied sectioned) = (next_window newest ≡ Some span) × (copied ≡ 0)
    × (is_critical (shape_of newest) (final_shape newest) newest.size (is_backward newest) span ≡ true → sectioned ≡ true)
IsNextWindow newest (Unsure span) = next_window newest ≡ Some span

next-course : (given : Given) (old new : Members) → IsMoved given old new → (window : Window) → IsNextWindow old.newest window → IsCourseOf new.newest (course_in window)
next-course given old new moved Closed is = record { window = tt; through = λ some. absurd (omega (arith, some)); few = omega arith }
next-course given old new moved (Entered span copied sectioned) is =
    let none = is.1 in
    record {
      window = (
        window-alike old.newest new.newest moved.reshape moved.shape moved.size ∙ is.0,
        omega (arith, none),
        λ critical. is.2 (sym (critical-alike old.newest new.newest moved.reshape moved.shape moved.size span) ∙ critical),
      );
      through = λ some. absurd (omega (arith, some));
      few = omega arith;
    }
next-course given old new moved (Unsure span) is =
    record { window = window-alike old.newest new.newest moved.reshape moved.shape moved.size ∙ is; through = λ some. absurd (omega (arith, some)); few = omega arith }

-- the list stands in it, where the buffer has the window's sectors
next-stands : (sound : Type 0) (among : Shape → Type 0) (given : Given) (old new : Members) (former bytes : List ℕ) (c e : Contents) (list : ℕ → Sector) → IsMoved given old new → AreOtherRowsKept (λ row. ⊥) (reading_of new) c e
    → (window : Window) → IsNextWindow old.newest window → HasWindowIn window bytes list → StandsInCourse sound among old (closed 0) former c list → StandsInCourse sound among new (course_in window) bytes e list
next-stands sound among given old new former bytes c e list moved kept Closed is has was =
    stands-on sound among given old new moved (closed 0) bytes c e list (λ row. ⊥) kept (record { stands = was.stands; window = tt; zeros = was.zeros; copied = was.copied; tail = was.tail; zeroed = was.zeroed; rows = was.rows }) (record {
      shown = λ x own shown none. none;
      tail = λ own x tail none. none;
      copied = λ own row at none. none;
      zeroed = λ own row at none. none;
    })
next-stands sound among given old new former bytes c e list moved kept (Entered span copied sectioned) is has was =
    subst (λ (n : ℕ). StandsInCourse sound among new (course_in (Entered span n sectioned)) bytes e list) (sym is.1) ((enters-stand sound among given old new span sectioned former bytes c e list moved kept has.0 has.1 was).0)
next-stands sound among given old new former bytes c e list moved kept (Unsure span) is has was = (enters-stand sound among given old new span false former bytes c e list moved kept has.0 has.1 was).1

-- ---- the call

-- What a call that enters the next window leaves, or that is refused: no row is written, and the buffer has the sectors of the window that is under way then, where
-- nothing was filled in, or that was right.
pub record IsNextTried (tells : Type 0) (given : Given) (tape tape' : List Operation) (scope : Scope) (first : ℕ) (old new : Members) (window : Window) (bytes : List ℕ) (roles : ℕ) : Type 0 where
  pub moved : IsMoved given old new
  pub since : AreMissingSince old new roles
  pub clean : is_clean new.newest ≡ is_clean old.newest
  pub rise : tells → IsRisen ⊤ old new tape tape'
  pub kept : tells → AreOtherRowsKept (λ row. ⊥) (reading_of new) (present given tape) (present given tape')
  pub has : tells → (list : ℕ → Sector) → ListStands None old (present given tape) list → AreWhole new ⊎ RowsStand None old (present given tape) list → HasWindowIn window bytes list
  pub stored : tells → OpensOnCourse (world_in given tape scope first) → IsStored scope new window bytes (disk given.start tape')
  pub safe : tells → OpensOnCourse (world_in given tape scope first) → (told : Ledger) → (list : ℕ → Sector) → HasRoomLeft old tape tape' → AreGoneTold told new → IsUncleanTold told old → ListStands None old (present given tape) list
      → AreWhole new ⊎ RowsStand None old (present given tape) list → AreWritesAllowed old told.values list
      → IsSafeOver (world_in given tape scope first) given told old tape → KeepsSafe (world_in given tape scope first) given told new tape tape'

module _ {tells : Type 0} {given : Given} {tape tape' : List Operation} {scope : Scope} {first : ℕ} {entries : List Entry} {old new : Members} {carried : ℕ → ℕ → Bool} {resync : Option ℕ} {former : List ℕ} {left : ℕ} (window : Window) (bytes : List ℕ)
    (who : Who) (end roles spares : ℕ) (was : IsMoving tells given tape scope first entries old carried resync (closed 0) former left) (synced : resync ≡ None) (full : tells → TakesNone (world_in given tape scope first) entries → AreWhole old) (does : DoWithout old)
    (goes : IsCallGoing entries who) (caller : IsFalse (who.caller == 254)) (at_end : tells → end ≡ length tape') (grows : Grows tells tape tape')
    (next : IsNextWindow old.newest window) (did : IsNextTried tells given tape tape' scope first old new window bytes roles) where
  long-same : list_length new.newest ≡ list_length old.newest
  long-same = list-alike old.newest new.newest did.moved.reshape did.moved.shape did.moved.size

  module _ (event : Event) (quiet : IsQuiet event) (inside : IsWithin (list_length old.newest) event) where
    abbrev all : List Entry
    all = entries ++ entries_of who end (losses_of roles spares ++ event ∷ [])

    -- where nothing was filled in, or that was right
    filled : (t : tells) → IsFilledRight (world_in given tape' scope first) all → AreWhole new ⊎ OpensFit (world_in given tape scope first)
    filled t (inl none) = inl (behind-whole tape' scope first entries who end roles spares event did.moved did.since none.0
        (full t (takes-before given scope first entries (entries_of who end (losses_of roles spares ++ event ∷ [])) grows (λ u. (was.recorded u).ends) t none.0)))
    filled t (inr fit) = inr (
        let g = grows.more t in
        fit-before (world_in given tape scope first) g.0 (was.recorded t).begun (subst (λ (l : List Operation). OpensFit (world_in given l scope first)) g.1 fit))

    -- the list stands by each shape, as the array does without what it misses
    list-of : (list : ℕ → Sector) → StandsInCourse (OpensFit (world_in given tape scope first)) (λ shape. DoesWithout shape old) old (closed 0) former (present given tape) list → ListStands None old (present given tape) list
    list-of list stands x slot shown held = (stands-whole (OpensFit (world_in given tape scope first)) old (closed 0) former (present given tape) list does stands).stands x slot tt shown held

    rows-of : (list : ℕ → Sector) → AreWhole new ⊎ OpensFit (world_in given tape scope first)
        → StandsInCourse (OpensFit (world_in given tape scope first)) (λ shape. DoesWithout shape old) old (closed 0) former (present given tape) list → AreWhole new ⊎ RowsStand None old (present given tape) list
    rows-of list (inl whole) stands = inl whole
    rows-of list (inr fit) stands = inr (λ x shown. (stands-whole (OpensFit (world_in given tape scope first)) old (closed 0) former (present given tape) list does stands).rows fit x tt shown)

    -- no resync is pending, so it stands in its course
    plain : (t : tells) (list : ℕ → Sector) → StandsSynced (OpensFit (world_in given tape scope first)) (λ shape. DoesWithout shape old) resync old (closed 0) former (present given tape) list
        → StandsInCourse (OpensFit (world_in given tape scope first)) (λ shape. DoesWithout shape old) old (closed 0) former (present given tape) list
    plain t list stands = none-stands (OpensFit (world_in given tape scope first)) (λ shape. DoesWithout shape old) resync old (closed 0) former (present given tape) list synced stands

    -- ---- each mark

    -- of a call from this tape to that one
    abbrev Changes : List Operation → ℕ → Type 0
    Changes l e = ChangesEarly given tape scope first entries old new carried true who (losses_of roles spares) event l e

    current : (list : ℕ → Sector) → ((x : ℕ) → x < list_length old.newest → list x ≡ now (opening_list (world_in given tape scope first)) entries x) → tells → (told : Ledger)
        → ((x : ℕ) (v : Sector) → IsIn (values_of (opening_list (world_in given tape scope first)) entries x) v → x < list_length old.newest → IsIn (told.values x) v) → AreWritesAllowed old told.values list
    current list is t told more x lt =
        subst (λ (v : Sector). IsIn (told.values x) v) (sym (is x lt))
        (more x (now (opening_list (world_in given tape scope first)) entries x)
        (newest-in (opening_list (world_in given tape scope first)) entries x (let sized = (was.recorded t).sized in omega (arith, lt, sized))) lt)

    adding : IsAdding event
    adding = record { adds = quiet.adds; gives = quiet.gives; ends = quiet.ends; level = quiet.level; other = quiet.other }

    module _ (legal : tells → IsReliable (world_in given tape scope first) entries → AreToldGone (world_in given tape' scope first) (entries ++ entries_of who end (losses_of roles spares)) new
        → level_at (world_in given tape' scope first) (entries ++ entries_of who end (losses_of roles spares)) ≡ level_at (world_in given tape scope first) entries
        → IsLegalEvent (world_in given tape' scope first) (entries ++ entries_of who end (losses_of roles spares)) (entry_of who end event) [] event) where
      changes : tells → Changes tape' end
      changes t = record {
        within = losses-within (list_length old.newest) (losses_of roles spares) (event ∷ []) (losses-are roles spares) (inside, tt);
        rise = did.rise t;
        keeps = λ told right gone fills more values room told_gone unclean unsettled before.
            let l = was.listed t fills in
            did.safe t (fills-on_course (world_in given tape scope first) entries fills) told l.list room told_gone unclean (list-of l.list (plain t l.list l.stands)) (rows-of l.list (filled t right.fills) (plain t l.list l.stands))
            (current l.list l.is t told (λ x v may lt. more.values x (let sized = (was.recorded t).sized in omega (arith, lt, sized)) v may)) before;
        legal = λ right gone level. legal-losses (world_in given tape' scope first) entries who end (losses_of roles spares) (event ∷ []) (losses-are roles spares) (legal t right gone level, tt, tt);
      }

      abbrev Then : List Operation → ℕ → Type 0
      Then l e = Changes l e → IsLeftBehind given tape scope first entries (entries ++ entries_of who e (losses_of roles spares ++ event ∷ [])) new carried true l

      leaves : tells → IsLeftBehind given tape scope first entries all new carried true tape'
      leaves t =
          let g = grows.more t in
          subst (λ (l : List Operation). Then l end) (sym g.1)
          (subst (Then (tape ++ g.0)) (sym (at_end t ∙ ap (λ (l : List Operation). length l) g.1))
          (λ call. changing-leaves given tape scope first entries old new carried true who (losses_of roles spares) (IsAmong roles) event g.0 (first-of (early-losses roles spares)) goes caller adding
          (few-roles new.newest did.moved.placed.fit.valid) (missing-moved roles did.moved did.since) long-same (λ dirty. inl (was.unclean t (sym did.clean ∙ dirty))) was.sizes_are (was.gone t) (was.unclean t) (was.recorded t) (was.safe t) (safe-now was (without-left given old was.members_are.placed was.members_are.unlost does) t) call))
          (changes t)

      listed : (t : tells) → IsFilledRight (world_in given tape' scope first) all
          → HasListInCourse (OpensFit (world_in given tape' scope first)) new resync (course_in window) bytes (present given tape') (now (opening_list (world_in given tape' scope first)) all)
      listed t fills =
          let behind = leaves t in
          let l = was.listed t (behind.fills fills) in
          record {
            list = l.list;
            is = λ x lt. l.is x (subst (λ (n : ℕ). x < n) long-same lt)
                ∙ sym (quiet-now (opening_list (world_in given tape scope first)) entries who end (losses_of roles spares) (IsAmong roles) event (early-losses roles spares) quiet x)
                ∙ sym (ap (λ (o : List Sector). now o all x) behind.opened);
            stands = subst (λ (sound : Type 0). StandsSynced sound (λ shape. DoesWithout shape new) resync new (course_in window) bytes (present given tape') l.list) (sym (fit-later behind))
                (none-on (OpensFit (world_in given tape scope first)) (λ shape. DoesWithout shape new) resync old new (closed 0) (course_in window) former bytes (present given tape) (present given tape') l.list synced
                (λ before. next-stands (OpensFit (world_in given tape scope first)) (λ shape. DoesWithout shape new) given old new former bytes (present given tape) (present given tape') l.list did.moved (did.kept t) window next
                (did.has t l.list (list-of l.list (plain t l.list l.stands)) (rows-of l.list (filled t fills) (plain t l.list l.stands))) before)
                (mended-later (OpensFit (world_in given tape scope first)) given old new resync (closed 0) former (present given tape) l.list did.moved l.stands));
          }

      resynced : HasResync new resync (course_in window)
      resynced = resync-moved did.moved (λ some dirty. did.clean ∙ dirty) (inr (subst IsUnsynced (sym synced) tt)) (resync-of was)

      pub next-moves : (left' : ℕ) → IfSome (told_left all) (λ n. n ≡ left') → IsMoving tells given tape' scope first all new carried resync (course_in window) bytes left'
      next-moves left' told = record {
        slots = was.slots;
        members_are = reshaping-moved scope given old new did.moved was.members_are;
        course_is = next-course given old new did.moved window next;
        sizes_are = was.sizes_are;
        left_told = told;
        progress = resynced.progress;
        beside = resynced.beside;
        pending = λ t. pending-on (entries_of who end (losses_of roles spares ++ event ∷ [])) (leaves t) ((early-losses roles spares).adds who end (event ∷ []) (and-true (adds_only event) true quiet.adds refl)) ∙ was.pending t;
        dirty = resynced.dirty;
        levelled = λ t right. ap tolerance_of (leaves t).levelled ∙ was.levelled t ((leaves t).right right) ∙ sym (ap tolerance did.moved.shape);
        gone = λ t. (leaves t).gone;
        unclean = λ t. (leaves t).unclean;
        recorded = λ t. (leaves t).recorded;
        last_step = λ t. last-left given tape tape' scope first entries (list_length old.newest) new carried true who end (losses_of roles spares) event (leaves t) (at_end t) quiet.other long-same (was.last_step t).past;
        stored = λ t on. did.stored t (course-earlier given tape tape' scope first (leaves t).begun (leaves t).grown on);
        listed = λ t fills. listed t fills;
        safe = λ t. (leaves t).safe;
      }

-- ---- the step

-- the bytes of the window in the buffer
bytes-of : (tells : Type 0) (given : Given) (tape : List Operation) (scope : Scope) (first : ℕ) (entries : List Entry) (m : Members) (carried : ℕ → ℕ → Bool) (resync : Option ℕ) (left : ℕ) (span : Span) (buffer : List ℕ) (window : Window)
    → (window ≡ Closed) ⊎ (((sectioned : Bool) × (window ≡ Entered span 0 sectioned)) ⊎ (window ≡ Unsure span))
    → IsMoving tells given tape scope first entries m carried resync (course_in window) (take (512 * (span.hi - span.lo)) buffer) left
    → IsMoving tells given tape scope first entries m carried resync (course_in window) (bytes_in window buffer) left
bytes-of tells given tape scope first entries m carried resync left span buffer window (inl is) kept =
    subst (λ (w : Window). IsMoving tells given tape scope first entries m carried resync (course_in w) (bytes_in w buffer) left) (sym is)
    (closed-bare 0 (take (512 * (span.hi - span.lo)) buffer) left
    (subst (λ (w : Window). IsMoving tells given tape scope first entries m carried resync (course_in w) (take (512 * (span.hi - span.lo)) buffer) left) is kept))
bytes-of tells given tape scope first entries m carried resync left span buffer window (inr (inl is)) kept =
    subst (λ (w : Window). IsMoving tells given tape scope first entries m carried resync (course_in w) (bytes_in w buffer) left) (sym is.1)
    (subst (λ (w : Window). IsMoving tells given tape scope first entries m carried resync (course_in w) (take (512 * (span.hi - span.lo)) buffer) left) is.1 kept)
bytes-of tells given tape scope first entries m carried resync left span buffer window (inr (inr is)) kept =
    subst (λ (w : Window). IsMoving tells given tape scope first entries m carried resync (course_in w) (bytes_in w buffer) left) (sym is)
    (subst (λ (w : Window). IsMoving tells given tape scope first entries m carried resync (course_in w) (take (512 * (span.hi - span.lo)) buffer) left) is kept)

module _ {tells : Type 0} {given : Given} {tape tape' : List Operation} {scope : Scope} {first : ℕ} {entries : List Entry} {old new : Members} {carried : ℕ → ℕ → Bool} {resync : Option ℕ} {former : List ℕ} (course : Course) (ahead : PhasesLeft)
    (window : Window) (span : Span) (buffer : List ℕ) (who : Who) (end roles spares : ℕ) (is : course ≡ closed 0) (at : next_window old.newest ≡ Some span)
    (was : IsMoving tells given tape scope first entries old carried resync course former (left_by resync old course ahead)) (synced : resync ≡ None) (full : tells → TakesNone (world_in given tape scope first) entries → AreWhole old) (does : DoWithout old)
    (goes : IsCallGoing entries who) (caller : who.caller ≢ 254) (at_end : tells → end ≡ length tape') (grows : Grows tells tape tape')
    (did : IsNextTried tells given tape tape' scope first old new window (take (512 * (span.hi - span.lo)) buffer) roles) where
  -- the course with the window
  pub with-window : record course { window = window } ≡ course_in window
  with-window = ap (λ (k : Course). record k { window = window }) is

  before : IsMoving tells given tape scope first entries old carried resync (closed 0) former (left_by resync old (closed 0) ahead)
  before = subst (λ (k : Course). IsMoving tells given tape scope first entries old carried resync k former (left_by resync old k ahead)) is was

  left-with : left_by resync new (record course { window = window }) ahead ≡ left_by resync old (course_in window) ahead
  left-with = ap (λ (k : Course). left_by resync new k ahead) with-window ∙ left-moved given old new resync (course_in window) ahead did.moved

  -- none of them is of a resync
  left-alone : (m : Members) (k : Course) → left_by resync m k ahead ≡ grow_left m.newest k.window k.zeroed (phases_of ahead)
  left-alone m k = by resync synced
    where
      plus-none : (n : ℕ) → n + 0 ≡ n
      plus-none n = omega arith

      by : (o : Option ℕ) → o ≡ None → left_by o m k ahead ≡ grow_left m.newest k.window k.zeroed (phases_of ahead)
      by None none = plus-none (grow_left m.newest k.window k.zeroed (phases_of ahead))
      by (Some mended) none = absurd (cc)

  -- as the array has it
  put : (events : List Event) → (left : ℕ) → left_by resync new (record course { window = window }) ahead ≡ left → (window ≡ Closed) ⊎ (((sectioned : Bool) × (window ≡ Entered span 0 sectioned)) ⊎ (window ≡ Unsure span))
      → IsMoving tells given tape' scope first (entries ++ entries_of who end events) new carried resync (course_in window) (take (512 * (span.hi - span.lo)) buffer) left
      → IsMoving tells given tape' scope first (entries ++ entries_of who end events) new carried resync (record course { window = window }) (bytes_in window buffer) (left_by resync new (record course { window = window }) ahead)
  put events left same which kept =
      subst (λ (n : ℕ). IsMoving tells given tape' scope first (entries ++ entries_of who end events) new carried resync (record course { window = window }) (bytes_in window buffer) n) (sym same)
      (subst (λ (k : Course). IsMoving tells given tape' scope first (entries ++ entries_of who end events) new carried resync k (bytes_in window buffer) left) (sym with-window)
      (bytes-of tells given tape' scope first (entries ++ entries_of who end events) new carried resync left span buffer window which kept))

  -- ---- it is refused

  module _ (which : (window ≡ Closed) ⊎ (window ≡ Unsure span)) where
    refused-next : IsNextWindow old.newest window
    refused-next = elim which [
      | inl none ↦ subst (IsNextWindow old.newest) (sym none) tt
      | inr named ↦ subst (IsNextWindow old.newest) (sym named) at
    ]

    refused-left : left_by resync old (course_in window) ahead ≡ left_by resync old (closed 0) ahead
    refused-left = left-alone old (course_in window) ∙ elim which [
      | inl none ↦ ap (λ (w : Window). grow_left old.newest w 0 (phases_of ahead)) none
      | inr named ↦ ap (λ (w : Window). grow_left old.newest w 0 (phases_of ahead)) named
    ] ∙ sym (left-alone old (closed 0))

    refused-which : (window ≡ Closed) ⊎ (((sectioned : Bool) × (window ≡ Entered span 0 sectioned)) ⊎ (window ≡ Unsure span))
    refused-which = elim which [ inl none ↦ inl none | inr named ↦ inr (inr named) ]

    pub enter-refused : (refusal : Refusal) → AreTooMany new refusal ⊎ (refusal ≡ BackupFault)
        → IsMoving tells given tape' scope first (entries ++ entries_of who end (losses_of roles spares ++ Refused refusal ∷ [])) new carried resync (record course { window = window }) (bytes_in window buffer)
        (left_by resync new (record course { window = window }) ahead)
    enter-refused refusal why =
        put (losses_of roles spares ++ Refused refusal ∷ []) (left_by resync old (closed 0) ahead) (left-with ∙ refused-left) refused-which
        (next-moves window (take (512 * (span.hi - span.lo)) buffer) who end roles spares before synced full does goes (not_254 who.caller caller) at_end grows refused-next did (Refused refusal) (quiet-refusal refusal) tt
        (λ t right gone level. legal t right gone level why) (left_by resync old (closed 0) ahead)
        (left-more (left_by resync old (closed 0) ahead) entries who end (losses_of roles spares ++ Refused refusal ∷ []) before.left_told
        (left-behind (left_by resync old (closed 0) ahead) who end (losses_of roles spares) (Refused refusal ∷ []) (losses-are roles spares) (λ told same. same))))
      where
        legal : tells → IsReliable (world_in given tape scope first) entries → AreToldGone (world_in given tape' scope first) (entries ++ entries_of who end (losses_of roles spares)) new
            → level_at (world_in given tape' scope first) (entries ++ entries_of who end (losses_of roles spares)) ≡ level_at (world_in given tape scope first) entries
            → AreTooMany new refusal ⊎ (refusal ≡ BackupFault)
            → IsLegalEvent (world_in given tape' scope first) (entries ++ entries_of who end (losses_of roles spares)) (entry_of who end (Refused refusal)) [] (Refused refusal)
        legal t right gone level (inl many) = refused-right (world_in given tape' scope first) (entries ++ entries_of who end (losses_of roles spares)) given new did.moved.placed gone
            (ap tolerance_of level ∙ was.levelled t right ∙ ap tolerance (sym did.moved.shape)) refusal many
        legal t right gone level (inr fault) =
            subst (λ (r : Refusal). IsLegalEvent (world_in given tape' scope first) (entries ++ entries_of who end (losses_of roles spares)) (entry_of who end (Refused r)) [] (Refused r)) (sym fault) tt

  -- ---- it is entered

  module _ (sectioned : Bool) (named : window ≡ Entered span 0 sectioned) where
    -- one step fewer is left
    pub enter-left : left_by resync new (record course { window = window }) ahead + 1 ≡ left_by resync old course ahead
    enter-left =
        ap (λ (n : ℕ). n + 1) (left-with ∙ left-alone old (course_in window) ∙ ap (λ (w : Window). grow_left old.newest w 0 (phases_of ahead)) named)
        ∙ entering old.newest span sectioned 0 (phases_of ahead) (under-way-of old.newest was.members_are.placed.fit was.members_are.active) at (omega arith)
        ∙ sym (left-alone old (closed 0))
        ∙ sym (ap (λ (k : Course). left_by resync old k ahead) is)

    -- and at least the end
    enter-some : left_by resync new (record course { window = window }) ahead ≢ 0
    enter-some none =
        some (left_by resync new (record course { window = window }) ahead) (grow_left old.newest window 0 (phases_of ahead)) (reshape_left old.newest window 0) (phases_steps (final_shape old.newest) old.newest.size (phases_of ahead))
        (left-with ∙ left-alone old (course_in window)) (plans-counted old.newest (course_in window) (phases_of ahead) was.members_are.active) (some-left old.newest window 0 (omega arith)) none
      where
        some : (x y r p : ℕ) → x ≡ y → r + p ≡ y → 0 < r → x ≢ 0
        some x y r p same counted more zero = absurd (omega (arith, same, counted, more, zero))

    pub enter-done : (is_critical (shape_of old.newest) (final_shape old.newest) old.newest.size (is_backward old.newest) span ≡ true → sectioned ≡ true) → (left : ℕ) → left ≡ left_by resync new (record course { window = window }) ahead
        → IsMoving tells given tape' scope first (entries ++ entries_of who end (losses_of roles spares ++ Step EntersWindow left ∷ [])) new carried resync (record course { window = window }) (bytes_in window buffer)
        (left_by resync new (record course { window = window }) ahead)
    enter-done critical left told =
        put (losses_of roles spares ++ Step EntersWindow left ∷ []) left (sym told) (inr (inl (sectioned, named)))
        (next-moves window (take (512 * (span.hi - span.lo)) buffer) who end roles spares before synced full does goes (not_254 who.caller caller) at_end grows
        (subst (IsNextWindow old.newest) (sym named) (at, refl, critical)) did (Step EntersWindow left) (quiet-step EntersWindow left tt (λ zero. enter-some (sym told ∙ zero))) tt
        (λ t right gone level. step-is (world_in given tape' scope first) (entries ++ entries_of who end (losses_of roles spares)) (entry_of who end (Step EntersWindow left)) EntersWindow left
        (told-behind (left + 1) entries who end (losses_of roles spares) (losses-are roles spares)
        (subst (λ (n : ℕ). IfSome (told_left entries) (λ k. k ≡ n)) (sym (ap (λ (n : ℕ). n + 1) told ∙ enter-left)) was.left_told)))
        left (told-step entries who end (losses_of roles spares) EntersWindow left (losses-are roles spares)))
