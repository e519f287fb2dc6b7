-- A call that leaves the list as it is, and enters losses and one event behind them.
use Rattle.std.proofs.Common.{◌≡◌, ℕ, ◌≤◌, ◌==◌, ◌||◌, Bool, true, false, Option, None, List, [], ◌∷◌, ◌++◌, length, refl, sym, ◌∙◌, ap, subst}
use Rattle.std.specs.Prelude.{IsFalse, IfSome, is_some, ⊤}
use Rattle.history_invariant_laws.specs.raid_types_Sectors.{Sector}
use Rattle.history_invariant_laws.specs.raid_types_Shapes.{tolerance_of}
use Rattle.history_invariant_laws.specs.raid_types_the_Who.{Who}
use Rattle.reshape_progress_resync_laws.specs.bank_the_Operation.{Operation}
use Rattle.reshape_progress_resync_laws.specs.bank_Given.{Given}
use Rattle.reshape_progress_resync_laws.specs.bank_Tape.{disk}
use Rattle.reshape_progress_resync_laws.specs.sb_specs_the_Members.{Members}
use Rattle.reshape_progress_resync_laws.specs.sb_specs_Reading.{Scope, is_clean, shape_of, list_length, role_count}
use Rattle.reshape_progress_resync_laws.specs.stripe_row_Rows.{present}
use Rattle.reshape_progress_resync_laws.specs.history_the_Entry.{Entry}
use Rattle.reshape_progress_resync_laws.specs.history_the_Event.{Event}
use Rattle.reshape_progress_resync_laws.specs.history_Epochs.{HasRoomForEvents}
use Rattle.reshape_progress_resync_laws.specs.history_Flat.{now}
use Rattle.reshape_progress_resync_laws.specs.history_Legal.{told_left, level_at, IsLegalEvent}
use Rattle.reshape_progress_resync_laws.specs.history_Losses.{is_unsynced}
use Rattle.reshape_progress_resync_laws.specs.history_OneShape.{is_unsettled}
use Rattle.reshape_progress_resync_laws.specs.history_Plain.{entries_of}
use Rattle.reshape_progress_resync_laws.specs.history_Sound.{OpensFit}
use Rattle.reshape_progress_resync_laws.specs.history_World.{opening_list}
use Rattle.reshape_progress_resync_laws.specs.crash_views_Views.{Ledger}
use Rattle.reshape_progress_resync_laws.specs.crash_safety_laws_Safety.{HasLiveSlot, HasRoomLeft, IsRisen}
use Rattle.reshape_progress_resync_laws.specs.crash_safety_laws_Steady.{IsMoreTold, IsSafeOver, KeepsSafe, AreGoneTold, IsUncleanTold}
use Rattle.reshape_progress_resync_laws.specs.array_members_Lacking.{DoesWithout}
use Rattle.reshape_progress_resync_laws.specs.array_members_Moving.{Grows}
use Rattle.history_invariant_laws.specs.history_append_Losing.{losses_of}
use Rattle.history_invariant_laws.proofs.history_append_CallLaws.{losses-are, last_end-behind}
use Rattle.history_invariant_laws.specs.history_invariant_Recorded.{IsHistoryKept, IsLegalCall, IsCallGoing, entry_of, ends_reshape}
use Rattle.history_invariant_laws.specs.history_invariant_Safe.{world_in, IsFilledRight, IsSafeHistory, OpensOnCourse}
use Rattle.history_invariant_laws.specs.history_invariant_Told.{told_now}
use Rattle.reshape_progress_resync_laws.specs.reshape_progress_the_Course.{Course}
use Rattle.reshape_progress_resync_laws.specs.reshape_progress_Course.{IsCourseOf, IsStored}
use Rattle.reshape_progress_resync_laws.specs.Mended.{StandsSynced}
use Rattle.history_invariant_laws.proofs.history_invariant_Calls.{now-live}
use Rattle.history_invariant_laws.proofs.history_invariant_Entered.{adds_only}
use Rattle.history_invariant_laws.proofs.history_invariant_Reshapes.{call-ends_none}
use Rattle.history_invariant_laws.specs.Reliable.{IsReliable, AreToldGone, HasLastStep}
use Rattle.history_invariant_laws.proofs.Behind.{AreEarly, AreLostOrMissing, IsAmong, early-losses, legal-losses, or-false, and-true}
use Rattle.history_invariant_laws.proofs.Quiet.{IsQuiet, IsLeftBehind, fit-later, quiet-last, last-left, stretch-more, numbers-leaves, quiet-leaves, quiet-now}
use Rattle.array_reshaping_invariant.specs.Moving.{AreReshaping, HasListInCourse, IsMoving}
use Rattle.array_reshaping_invariant.proofs.Pending.{HasResync, pending-on}
use Rattle.history_invariant_laws.proofs.history_invariant_Growing.{course-before}

-- ---- what a stop may leave now

-- While a live slot is left, it is right by the whole history.
pub safe-now : {tells : Type 0} {given : Given} {tape : List Operation} {scope : Scope} {first : ℕ} {entries : List Entry} {members : Members} {carried : ℕ → ℕ → Bool} {resync : Option ℕ} {course : Course} {buffer : List ℕ} {left : ℕ}
    → IsMoving tells given tape scope first entries members carried resync course buffer left → HasLiveSlot members → tells
    → IsFilledRight (world_in given tape scope first) entries → HasRoomForEvents (world_in given tape scope first)
    → IsSafeOver (world_in given tape scope first) given (told_now (world_in given tape scope first) carried true entries) members tape
safe-now {given = given} {tape = tape} {scope = scope} {first = first} was live t fills room = now-live (world_in given tape scope first) live (was.safe t fills room).now

-- ---- the call

-- What is asked of a call, from this tape to that one with its end there, that enters these events before its last one.
pub record IsEarlyCall (given : Given) (tape : List Operation) (scope : Scope) (first : ℕ) (entries : List Entry) (old new : Members) (carried : ℕ → ℕ → Bool) (resync : Option ℕ) (course' : Course) (buffer' : List ℕ)
    (who : Who) (early : List Event) (event : Event) (tape' : List Operation) (end : ℕ) : Type 0 where
  pub rise : IsRisen ⊤ old new tape tape'
  pub keeps : (told : Ledger) → IsFilledRight (world_in given tape scope first) entries → IsMoreTold (told_now (world_in given tape scope first) carried true entries) told
      → HasRoomLeft old tape tape' → AreGoneTold told new → IsUncleanTold told old
      → IsSafeOver (world_in given tape scope first) given told old tape → KeepsSafe (world_in given tape scope first) given told new tape tape'
  pub listed : IsFilledRight (world_in given tape scope first) entries
      → HasListInCourse (OpensFit (world_in given tape scope first)) new resync course' buffer' (present given tape') (now (opening_list (world_in given tape scope first)) entries)
  pub legal : IsReliable (world_in given tape scope first) entries → AreToldGone (world_in given tape' scope first) (entries ++ entries_of who end early) new
      → level_at (world_in given tape' scope first) (entries ++ entries_of who end early) ≡ level_at (world_in given tape scope first) entries
      → IsLegalCall (world_in given tape' scope first) entries who end (early ++ event ∷ [])

-- The same of a call behind which superblocks may bear these numbers.
pub record IsCarryingCall (given : Given) (tape : List Operation) (scope : Scope) (first : ℕ) (entries : List Entry) (old new : Members) (carried carried' : ℕ → ℕ → Bool) (resync : Option ℕ) (course' : Course) (buffer' : List ℕ)
    (who : Who) (early : List Event) (event : Event) (tape' : List Operation) (end : ℕ) : Type 0 where
  pub rise : IsRisen ⊤ old new tape tape'
  pub keeps : (told : Ledger) → told.carried ≡ carried → IsFilledRight (world_in given tape scope first) entries → IsMoreTold (told_now (world_in given tape scope first) carried true entries) told
      → HasRoomLeft old tape tape' → AreGoneTold told new → IsUncleanTold told old
      → IsSafeOver (world_in given tape scope first) given told old tape → KeepsSafe (world_in given tape scope first) given (record told { carried = carried' }) new tape tape'
  pub listed : IsFilledRight (world_in given tape scope first) entries
      → HasListInCourse (OpensFit (world_in given tape scope first)) new resync course' buffer' (present given tape') (now (opening_list (world_in given tape scope first)) entries)
  pub legal : IsReliable (world_in given tape scope first) entries → AreToldGone (world_in given tape' scope first) (entries ++ entries_of who end early) new
      → level_at (world_in given tape' scope first) (entries ++ entries_of who end early) ≡ level_at (world_in given tape scope first) entries
      → IsLegalCall (world_in given tape' scope first) entries who end (early ++ event ∷ [])

-- The same of a call that enters losses before its event.
pub record IsQuietCall (given : Given) (tape : List Operation) (scope : Scope) (first : ℕ) (entries : List Entry) (old new : Members) (carried : ℕ → ℕ → Bool) (resync : Option ℕ) (course' : Course) (buffer' : List ℕ)
    (who : Who) (roles spares : ℕ) (event : Event) (tape' : List Operation) (end : ℕ) : Type 0 where
  pub rise : IsRisen ⊤ old new tape tape'
  pub keeps : (told : Ledger) → IsFilledRight (world_in given tape scope first) entries → IsMoreTold (told_now (world_in given tape scope first) carried true entries) told
      → HasRoomLeft old tape tape' → AreGoneTold told new → IsUncleanTold told old
      → IsSafeOver (world_in given tape scope first) given told old tape → KeepsSafe (world_in given tape scope first) given told new tape tape'
  pub listed : IsFilledRight (world_in given tape scope first) entries
      → HasListInCourse (OpensFit (world_in given tape scope first)) new resync course' buffer' (present given tape') (now (opening_list (world_in given tape scope first)) entries)
  pub legal : IsReliable (world_in given tape scope first) entries
      → AreToldGone (world_in given tape' scope first) (entries ++ entries_of who end (losses_of roles spares)) new
      → level_at (world_in given tape' scope first) (entries ++ entries_of who end (losses_of roles spares)) ≡ level_at (world_in given tape scope first) entries
      → IsLegalEvent (world_in given tape' scope first) (entries ++ entries_of who end (losses_of roles spares)) (entry_of who end event) [] event

-- What a call leaves of the record, over a bank that tells its contents, where no resync is pending.
pub record IsLeftBy (given : Given) (tape : List Operation) (scope : Scope) (first : ℕ) (entries all : List Entry) (new : Members) (carried : ℕ → ℕ → Bool) (course' : Course) (buffer' : List ℕ) (tape' : List Operation) : Type 0 where
  pub right : IsReliable (world_in given tape' scope first) all → IsReliable (world_in given tape scope first) entries
  pub levelled : level_at (world_in given tape' scope first) all ≡ level_at (world_in given tape scope first) entries
  pub gone : IsReliable (world_in given tape' scope first) all → AreToldGone (world_in given tape' scope first) all new
  pub unclean : is_clean new.newest ≡ false → (is_unsynced (world_in given tape' scope first) all || is_unsettled all) ≡ true
  pub recorded : IsHistoryKept (IsReliable (world_in given tape' scope first) all) (world_in given tape' scope first) (list_length new.newest) all
  pub last_step : HasLastStep (world_in given tape' scope first) all (list_length new.newest)
  pub pending : is_unsynced (world_in given tape' scope first) all ≡ false
  pub listed : IsFilledRight (world_in given tape' scope first) all
      → HasListInCourse (OpensFit (world_in given tape' scope first)) new None course' buffer' (present given tape') (now (opening_list (world_in given tape' scope first)) all)
  pub safe : IsFilledRight (world_in given tape' scope first) all → HasRoomForEvents (world_in given tape' scope first)
      → IsSafeHistory ⊤ (world_in given tape' scope first) given new carried true all

-- The list of the history that stood in the course stands so by more entries that say the same of it.
pub listed-later : (given : Given) (tape : List Operation) (scope : Scope) (first : ℕ) (entries all : List Entry) (new : Members) (carried : ℕ → ℕ → Bool) (resync : Option ℕ) (course' : Course) (buffer' : List ℕ) (tape' : List Operation) (current : ℕ → Sector)
    → IsLeftBehind given tape scope first entries all new carried true tape' → ((x : ℕ) → now (opening_list (world_in given tape scope first)) all x ≡ current x)
    → (IsFilledRight (world_in given tape scope first) entries → HasListInCourse (OpensFit (world_in given tape scope first)) new resync course' buffer' (present given tape') current)
    → IsFilledRight (world_in given tape' scope first) all
    → HasListInCourse (OpensFit (world_in given tape' scope first)) new resync course' buffer' (present given tape') (now (opening_list (world_in given tape' scope first)) all)
listed-later given tape scope first entries all new carried resync course' buffer' tape' current left same listed fills =
    let l = listed (left.fills fills) in
    record {
      list = l.list;
      is = λ x lt. l.is x lt ∙ sym (same x) ∙ sym (ap (λ (o : List Sector). now o all x) left.opened);
      stands = subst (λ (sound : Type 0). StandsSynced sound (λ shape. DoesWithout shape new) resync new course' buffer' (present given tape') l.list) (sym (fit-later left)) l.stands;
    }

-- what the opening found of a reshape it found before more was done
pub course-earlier : (given : Given) (tape tape' : List Operation) (scope : Scope) (first : ℕ) → first ≤ length tape → (ops : List Operation) × (tape' ≡ tape ++ ops)
    → OpensOnCourse (world_in given tape' scope first) → OpensOnCourse (world_in given tape scope first)
course-earlier given tape tape' scope first begun grown on = course-before (world_in given tape scope first) grown.0 begun
    (subst (λ (l : List Operation). OpensOnCourse (world_in given l scope first)) grown.1 on)

-- ---- what is kept

-- The call keeps the record: the array is in its reshape still, however far that has come then.
pub early-moves : (tells : Type 0) (given : Given) (tape tape' : List Operation) (scope : Scope) (first : ℕ) (entries : List Entry) (old new : Members) (carried : ℕ → ℕ → Bool) (resync resync' : Option ℕ) (course course' : Course)
    (buffer buffer' : List ℕ) (left left' : ℕ) (who : Who) (end : ℕ) (early : List Event) (IsTaken : ℕ → Type 0) (event : Event)
    → IsMoving tells given tape scope first entries old carried resync course buffer left → HasLiveSlot old → IsCallGoing entries who → IsFalse (who.caller == 254) → (tells → end ≡ length tape') → Grows tells tape tape' → IsQuiet event
    → AreReshaping scope given new → HasResync new resync' course' → is_some resync' ≡ is_some resync → role_count new.newest ≤ 16
    → AreEarly early IsTaken → AreLostOrMissing old new IsTaken
    → list_length new.newest ≡ list_length old.newest → (shape_of new.newest).level ≡ (shape_of old.newest).level → is_clean new.newest ≡ is_clean old.newest → IsCourseOf new.newest course' → (tells → OpensOnCourse (world_in given tape scope first) → IsStored scope new course'.window buffer' (disk given.start tape'))
    → IfSome (told_left (entries ++ entries_of who end (early ++ event ∷ []))) (λ n. n ≡ left')
    → (tells → IsEarlyCall given tape scope first entries old new carried resync' course' buffer' who early event tape' end)
    → IsMoving tells given tape' scope first (entries ++ entries_of who end (early ++ event ∷ [])) new carried resync' course' buffer' left'
early-moves tells given tape tape' scope first entries old new carried resync resync' course course' buffer buffer' left left' who end early IsTaken event was live goes caller at_end grows quiet members has pends few are missing sized level clean
    course_is stored told call = record {
      slots = was.slots;
      members_are = members;
      course_is = course_is;
      sizes_are = was.sizes_are;
      left_told = told;
      progress = has.progress;
      beside = has.beside;
      pending = λ t. pending-on (entries_of who end (early ++ event ∷ [])) (leaves t) (are.adds who end (event ∷ []) (and-true (adds_only event) true quiet.adds refl)) ∙ was.pending t ∙ sym pends;
      dirty = has.dirty;
      levelled = λ t fills. ap tolerance_of (leaves t).levelled ∙ was.levelled t ((leaves t).right fills) ∙ sym (ap tolerance_of level);
      gone = λ t. (leaves t).gone;
      unclean = λ t. (leaves t).unclean;
      recorded = λ t. (leaves t).recorded;
      last_step = λ t. last-left given tape tape' scope first entries (list_length old.newest) new carried true who end early event (leaves t) (at_end t) quiet.other sized (was.last_step t).past;
      stored = λ t on. stored t (course-earlier given tape tape' scope first (leaves t).begun (leaves t).grown on);
      listed = λ t. listed-later given tape scope first entries (entries ++ entries_of who end (early ++ event ∷ [])) new carried resync' course' buffer' tape' (now (opening_list (world_in given tape scope first)) entries) (leaves t)
          (quiet-now (opening_list (world_in given tape scope first)) entries who end early IsTaken event are quiet) (call t).listed;
      safe = λ t. (leaves t).safe;
    }
  where
    Then : List Operation → ℕ → Type 0
    Then l e = IsEarlyCall given tape scope first entries old new carried resync' course' buffer' who early event l e
        → IsLeftBehind given tape scope first entries (entries ++ entries_of who e (early ++ event ∷ [])) new carried true l

    leaves : tells → IsLeftBehind given tape scope first entries (entries ++ entries_of who end (early ++ event ∷ [])) new carried true tape'
    leaves t =
        let g = grows.more t in
        subst (λ (l : List Operation). Then l end) (sym g.1)
        (subst (Then (tape ++ g.0)) (sym (at_end t ∙ ap (λ (l : List Operation). length l) g.1))
        (λ call_to. quiet-leaves given tape scope first entries old new carried true who early IsTaken event g.0 are goes caller quiet few missing sized clean was.sizes_are
        (was.gone t) (was.unclean t) (was.recorded t) (was.safe t) (safe-now was live t) (record { rise = call_to.rise; keeps = call_to.keeps; legal = λ all. call_to.legal })))
        (call t)

-- And so does a call behind which superblocks may bear more numbers.
pub carrying-moves : (tells : Type 0) (given : Given) (tape tape' : List Operation) (scope : Scope) (first : ℕ) (entries : List Entry) (old new : Members) (carried carried' : ℕ → ℕ → Bool) (resync : Option ℕ) (course course' : Course)
    (buffer buffer' : List ℕ) (left left' : ℕ) (who : Who) (end : ℕ) (early : List Event) (IsTaken : ℕ → Type 0) (event : Event)
    → ((slot number : ℕ) → carried slot number ≡ true → carried' slot number ≡ true) → IsMoving tells given tape scope first entries old carried resync course buffer left → HasLiveSlot old → IsCallGoing entries who → IsFalse (who.caller == 254) → (tells → end ≡ length tape') → Grows tells tape tape' → IsQuiet event
    → AreReshaping scope given new → HasResync new resync course' → role_count new.newest ≤ 16
    → AreEarly early IsTaken → AreLostOrMissing old new IsTaken
    → list_length new.newest ≡ list_length old.newest → (shape_of new.newest).level ≡ (shape_of old.newest).level → is_clean new.newest ≡ is_clean old.newest → IsCourseOf new.newest course' → (tells → OpensOnCourse (world_in given tape scope first) → IsStored scope new course'.window buffer' (disk given.start tape'))
    → IfSome (told_left (entries ++ entries_of who end (early ++ event ∷ []))) (λ n. n ≡ left')
    → (tells → IsCarryingCall given tape scope first entries old new carried carried' resync course' buffer' who early event tape' end)
    → IsMoving tells given tape' scope first (entries ++ entries_of who end (early ++ event ∷ [])) new carried' resync course' buffer' left'
carrying-moves tells given tape tape' scope first entries old new carried carried' resync course course' buffer buffer' left left' who end early IsTaken event carries was live goes caller at_end grows quiet members has few are missing sized level clean
    course_is stored told call = record {
      slots = was.slots;
      members_are = members;
      course_is = course_is;
      sizes_are = was.sizes_are;
      left_told = told;
      progress = has.progress;
      beside = has.beside;
      pending = λ t. pending-on (entries_of who end (early ++ event ∷ [])) (leaves t) (are.adds who end (event ∷ []) (and-true (adds_only event) true quiet.adds refl)) ∙ was.pending t;
      dirty = has.dirty;
      levelled = λ t fills. ap tolerance_of (leaves t).levelled ∙ was.levelled t ((leaves t).right fills) ∙ sym (ap tolerance_of level);
      gone = λ t. (leaves t).gone;
      unclean = λ t. (leaves t).unclean;
      recorded = λ t. (leaves t).recorded;
      last_step = λ t. last-left given tape tape' scope first entries (list_length old.newest) new carried' true who end early event (leaves t) (at_end t) quiet.other sized (was.last_step t).past;
      stored = λ t on. stored t (course-earlier given tape tape' scope first (leaves t).begun (leaves t).grown on);
      listed = λ t. listed-later given tape scope first entries (entries ++ entries_of who end (early ++ event ∷ [])) new carried' resync course' buffer' tape' (now (opening_list (world_in given tape scope first)) entries) (leaves t)
          (quiet-now (opening_list (world_in given tape scope first)) entries who end early IsTaken event are quiet) (call t).listed;
      safe = λ t. (leaves t).safe;
    }
  where
    Then : List Operation → ℕ → Type 0
    Then l e = IsCarryingCall given tape scope first entries old new carried carried' resync course' buffer' who early event l e
        → IsLeftBehind given tape scope first entries (entries ++ entries_of who e (early ++ event ∷ [])) new carried' true l

    leaves : tells → IsLeftBehind given tape scope first entries (entries ++ entries_of who end (early ++ event ∷ [])) new carried' true tape'
    leaves t =
        let g = grows.more t in
        subst (λ (l : List Operation). Then l end) (sym g.1)
        (subst (Then (tape ++ g.0)) (sym (at_end t ∙ ap (λ (l : List Operation). length l) g.1))
        (λ call_to. numbers-leaves given tape scope first entries old new carried carried' true who early IsTaken (event ∷ []) g.0 are carries goes caller (quiet-last who (length (tape ++ g.0)) event quiet)
        (last_end-behind first entries who (length (tape ++ g.0)) early event)
        (λ right told safe fit. call-ends_none (world_in given (tape ++ g.0) scope first) entries who (length (tape ++ g.0)) (early ++ event ∷ []) (are.ends (event ∷ []) (or-false (ends_reshape event) false quiet.ends refl))) few missing sized clean was.sizes_are
        (was.gone t) (was.unclean t) (was.recorded t) (was.safe t) (safe-now was live t) (record {
          rise = call_to.rise;
          keeps = λ before told right first_more more same_before same_told room gone unclean safe.
              stretch-more (OpensFit (world_in given tape scope first)) scope given (record before { carried = carried' }) told new tape (tape ++ g.0)
              (record { size = more.size; values = more.values; gone = more.gone; unclean = more.unclean; reshaping = more.reshaping; carried = λ slot number is. same_told slot number ∙ is })
              (call_to.keeps before (λ i slot number. same_before slot number i) right.fills first_more room gone unclean safe);
          legal = λ all fills gone level. call_to.legal fills gone level;
        })))
        (call t)

-- And so does a call that enters losses before its event.
pub quiet-moves : (tells : Type 0) (given : Given) (tape tape' : List Operation) (scope : Scope) (first : ℕ) (entries : List Entry) (old new : Members) (carried : ℕ → ℕ → Bool) (resync resync' : Option ℕ) (course course' : Course)
    (buffer buffer' : List ℕ) (left left' : ℕ) (who : Who) (end roles spares : ℕ) (event : Event)
    → IsMoving tells given tape scope first entries old carried resync course buffer left → HasLiveSlot old → IsCallGoing entries who → IsFalse (who.caller == 254) → (tells → end ≡ length tape') → Grows tells tape tape' → IsQuiet event
    → AreReshaping scope given new → HasResync new resync' course' → is_some resync' ≡ is_some resync → role_count new.newest ≤ 16
    → AreLostOrMissing old new (IsAmong roles)
    → list_length new.newest ≡ list_length old.newest → (shape_of new.newest).level ≡ (shape_of old.newest).level → is_clean new.newest ≡ is_clean old.newest → IsCourseOf new.newest course' → (tells → OpensOnCourse (world_in given tape scope first) → IsStored scope new course'.window buffer' (disk given.start tape'))
    → IfSome (told_left (entries ++ entries_of who end (losses_of roles spares ++ event ∷ []))) (λ n. n ≡ left')
    → (tells → IsQuietCall given tape scope first entries old new carried resync' course' buffer' who roles spares event tape' end)
    → IsMoving tells given tape' scope first (entries ++ entries_of who end (losses_of roles spares ++ event ∷ [])) new carried resync' course' buffer' left'
quiet-moves tells given tape tape' scope first entries old new carried resync resync' course course' buffer buffer' left left' who end roles spares event was live goes caller at_end grows quiet members has pends few missing sized level clean
    course_is stored told call =
    early-moves tells given tape tape' scope first entries old new carried resync resync' course course' buffer buffer' left left' who end (losses_of roles spares) (IsAmong roles) event was live goes caller at_end grows quiet members has pends few
    (early-losses roles spares) missing sized level clean course_is stored told
    (λ t. let of = call t in record {
      rise = of.rise;
      keeps = of.keeps;
      listed = of.listed;
      legal = λ fills gone level. legal-losses (world_in given tape' scope first) entries who end (losses_of roles spares) (event ∷ []) (losses-are roles spares) (of.legal fills gone level, tt, tt);
    })
