-- A call that enters losses, and behind them an event that settles what was written: a flush or a stop.
use Rattle.std.proofs.Common.{◌≡◌, ℕ, ◌≤◌, ◌==◌, ◌&&◌, ◌||◌, Bool, true, false, not, Option, List, [], ◌∷◌, ◌++◌, length, refl, sym, ◌∙◌, ap, subst}
use Rattle.std.specs.Prelude.{IsFalse, IfSome, is_some, take, ⊤}
use Rattle.std.specs.List.{list_any}
use Rattle.std.proofs.lemmas.List.Folds.{list_any-append}
use Rattle.history_invariant_laws.specs.raid_types_Sectors.{Sector}
use Rattle.history_invariant_laws.specs.raid_types_Shapes.{tolerance_of}
use Rattle.history_invariant_laws.specs.raid_types_the_Who.{Who}
use Rattle.reshape_progress_resync_laws.specs.bank_the_Operation.{Operation}
use Rattle.reshape_progress_resync_laws.specs.bank_Given.{Given}
use Rattle.reshape_progress_resync_laws.specs.bank_Tape.{disk}
use Rattle.reshape_progress_resync_laws.specs.sb_specs_the_Members.{Members}
use Rattle.reshape_progress_resync_laws.specs.sb_specs_Reading.{Scope, is_clean, shape_of, list_length, role_count}
use Rattle.reshape_progress_resync_laws.specs.stripe_row_Rows.{present}
use Rattle.reshape_progress_resync_laws.specs.history_the_Entry.{Entry}
use Rattle.reshape_progress_resync_laws.specs.history_the_Event.{Event}
use Rattle.reshape_progress_resync_laws.specs.history_the_Event_TheVariants.{Flushed, Stopped}
use Rattle.reshape_progress_resync_laws.specs.history_Flat.{now, length_after, values_after}
use Rattle.reshape_progress_resync_laws.specs.history_Legal.{is_loss, told_left, level_after, IsLegalEvent}
use Rattle.reshape_progress_resync_laws.specs.history_Losses.{was_dirty, is_unsynced, is_resync_end}
use Rattle.reshape_progress_resync_laws.specs.history_Plain.{entries_of}
use Rattle.reshape_progress_resync_laws.specs.history_Sound.{OpensFit}
use Rattle.reshape_progress_resync_laws.specs.history_World.{World, opening_list}
use Rattle.reshape_progress_resync_laws.specs.crash_views_Views.{Ledger}
use Rattle.reshape_progress_resync_laws.specs.crash_safety_laws_Safety.{HasLiveSlot, HasRoomLeft, IsRisen}
use Rattle.reshape_progress_resync_laws.specs.crash_safety_laws_Steady.{IsMoreTold, IsSafeOver, KeepsSafe, AreGoneTold, IsUncleanTold, AreWritesAllowed}
use Rattle.reshape_progress_resync_laws.specs.array_members_Moving.{Grows}
use Rattle.history_invariant_laws.specs.history_append_Losing.{losses_of}
use Rattle.history_invariant_laws.proofs.history_append_CallLaws.{losses-are, ends-losses}
use Rattle.history_invariant_laws.proofs.history_append_LeftLaws.{TellLeft}
use Rattle.history_invariant_laws.specs.history_invariant_Recorded.{IsCallGoing, entry_of, ends_reshape, gives_some}
use Rattle.history_invariant_laws.specs.history_invariant_Safe.{world_in, IsFilledRight, OpensOnCourse}
use Rattle.history_invariant_laws.specs.history_invariant_Told.{told_now}
use Rattle.reshape_progress_resync_laws.specs.reshape_progress_the_Course.{Course}
use Rattle.reshape_progress_resync_laws.specs.reshape_progress_Course.{IsCourseOf, IsStored}
use Rattle.history_invariant_laws.proofs.Behind.{AreLostOrMissing, IsAmong}
use Rattle.history_invariant_laws.proofs.Quiet.{IsLeftBehind, last-left}
use Rattle.history_invariant_laws.proofs.Settling.{IsSettlement, IsSettledBy, takes-newest, settling-ends, settling-leaves, settled-same}
use Rattle.array_reshaping_invariant.specs.Moving.{AreReshaping, HasListInCourse, IsMoving}
use Rattle.array_reshaping_invariant.proofs.Pending.{HasResync, later-unsynced}
use Rattle.array_reshaping_invariant.proofs.Quiet.{listed-later, safe-now, course-earlier}

-- ---- the event

-- An event that leaves each sector its newest value alone, changes nothing else, and is no loss.
pub record IsSettling (event : Event) : Type 0 where
  pub other : is_loss event ≡ false
  pub gives : gives_some event ≡ false
  pub ends : ends_reshape event ≡ false
  pub resync : is_resync_end event ≡ false
  pub level : (n : ℕ) → level_after n event ≡ n
  pub length : (n : ℕ) → length_after n event ≡ n
  pub newest : (x : ℕ) (values : List Sector) → values_after x values event ≡ take 1 values
  pub legal : (world : World) (before : List Entry) (e : Entry) → IsLegalEvent world before e [] event
  pub tells : (left : ℕ) (who : Who) (end : ℕ) → TellLeft left who end (event ∷ [])

pub flush-is : IsSettling Flushed
flush-is = record { other = refl; gives = refl; ends = refl; resync = refl; level = λ n. refl; length = λ n. refl; newest = λ x values. refl; legal = λ world before e. tt; tells = λ left who end told is. is }

pub stop-is : IsSettling Stopped
stop-is = record { other = refl; gives = refl; ends = refl; resync = refl; level = λ n. refl; length = λ n. refl; newest = λ x values. refl; legal = λ world before e. tt; tells = λ left who end told is. is }

-- so the events settle
pub settlement : (event : Event) → IsSettling event → IsSettlement event
settlement event is = takes-newest event is.gives is.level is.length is.newest

-- and leave a resync pending
pub not-ended : (unsynced ends : Bool) → ends ≡ false → (unsynced && not ends) ≡ unsynced
not-ended true false is = refl
not-ended false false is = refl
not-ended unsynced true is = absurd (cc)

-- it is pending behind losses and an event, as long as that doesn't end it
pub unsynced-then : (world : World) (entries : List Entry) (who : Who) (end roles spares : ℕ) (event : Event)
    → is_unsynced world (entries ++ entries_of who end (losses_of roles spares ++ event ∷ [])) ≡ (is_unsynced world entries && not (is_resync_end event))
unsynced-then world entries who end roles spares event =
    ap (λ (b : Bool). was_dirty world && not b)
    (list_any-append (λ e. is_resync_end e.event) entries (entries_of who end (losses_of roles spares ++ event ∷ []))
    ∙ ap (λ (b : Bool). list_any (λ e. is_resync_end e.event) entries || b) (ends-losses who end (losses_of roles spares) (event ∷ []) (losses-are roles spares)))
    ∙ neither (was_dirty world) (list_any (λ e. is_resync_end e.event) entries) (is_resync_end event)
  where
    neither : (dirty a b : Bool) → (dirty && not (a || (b || false))) ≡ ((dirty && not a) && not b)
    neither false a b = refl
    neither true true b = refl
    neither true false true = refl
    neither true false false = refl

-- ---- the call

-- What is asked of a call, from this tape to that one with its end there: by what is told while it runs each mark is safe, and its end by the list alone.
pub record IsSettlingCall (given : Given) (tape : List Operation) (scope : Scope) (first : ℕ) (entries : List Entry) (old new : Members) (carried : ℕ → ℕ → Bool) (unsynced : Bool) (resync : Option ℕ) (course' : Course) (buffer' : List ℕ)
    (who : Who) (roles spares : ℕ) (event : Event) (tape' : List Operation) (end : ℕ) : Type 0 where
  pub rise : IsRisen ⊤ old new tape tape'
  pub keeps : (told : Ledger) → IsFilledRight (world_in given tape scope first) entries → IsMoreTold (told_now (world_in given tape scope first) carried true entries) told
      → AreWritesAllowed old told.values (now (opening_list (world_in given tape scope first)) entries) → HasRoomLeft old tape tape' → AreGoneTold told new → IsUncleanTold told old
      → IsSafeOver (world_in given tape scope first) given told old tape → KeepsSafe (world_in given tape scope first) given told new tape tape'
  pub settled : (told : Ledger) → IsFilledRight (world_in given tape scope first) entries → IsMoreTold (told_now (world_in given tape scope first) carried true entries) told
      → AreWritesAllowed old told.values (now (opening_list (world_in given tape scope first)) entries) → HasRoomLeft old tape tape' → AreGoneTold told new → IsUncleanTold told old
      → IsSafeOver (world_in given tape scope first) given told old tape
      → IsSettledBy (world_in given tape scope first) given told old new tape' unsynced (now (opening_list (world_in given tape scope first)) entries)
  pub listed : IsFilledRight (world_in given tape scope first) entries
      → HasListInCourse (OpensFit (world_in given tape scope first)) new resync course' buffer' (present given tape') (now (opening_list (world_in given tape scope first)) entries)
  pub legal : IsLegalEvent (world_in given tape' scope first) (entries ++ entries_of who end (losses_of roles spares)) (entry_of who end event) [] event

-- ---- what is kept

-- The call keeps the record: what was written is settled; a resync is pending as it was, or ended with that.
pub settling-moves : (tells : Type 0) (given : Given) (tape tape' : List Operation) (scope : Scope) (first : ℕ) (entries : List Entry) (old new : Members) (carried : ℕ → ℕ → Bool) (resync resync' : Option ℕ) (unsynced : Bool) (course course' : Course)
    (buffer buffer' : List ℕ) (left left' : ℕ) (who : Who) (end roles spares : ℕ) (event : Event)
    → IsMoving tells given tape scope first entries old carried resync course buffer left → HasLiveSlot old → IsCallGoing entries who → IsFalse (who.caller == 254) → (tells → end ≡ length tape') → Grows tells tape tape'
    → IsSettlement event → is_loss event ≡ false → ends_reshape event ≡ false
    → AreReshaping scope given new → HasResync new resync' course' → unsynced ≡ is_some resync' → role_count new.newest ≤ 16
    → AreLostOrMissing old new (IsAmong roles)
    → list_length new.newest ≡ list_length old.newest → (shape_of new.newest).level ≡ (shape_of old.newest).level → (unsynced ≡ false → is_clean new.newest ≡ true)
    → (tells → (is_unsynced (world_in given tape scope first) entries && not (is_resync_end event)) ≡ unsynced) → IsCourseOf new.newest course' → (tells → OpensOnCourse (world_in given tape scope first) → IsStored scope new course'.window buffer' (disk given.start tape'))
    → IfSome (told_left (entries ++ entries_of who end (losses_of roles spares ++ event ∷ []))) (λ n. n ≡ left')
    → (tells → IsSettlingCall given tape scope first entries old new carried unsynced resync' course' buffer' who roles spares event tape' end)
    → IsMoving tells given tape' scope first (entries ++ entries_of who end (losses_of roles spares ++ event ∷ [])) new carried resync' course' buffer' left'
settling-moves tells given tape tape' scope first entries old new carried resync resync' unsynced course course' buffer buffer' left left' who end roles spares event was live goes caller at_end grows settling other ends members has pends few missing sized level clean
    unsynced_is course_is stored told call = record {
      slots = was.slots;
      members_are = members;
      course_is = course_is;
      sizes_are = was.sizes_are;
      left_told = told;
      progress = has.progress;
      beside = has.beside;
      pending = λ t. later-unsynced (leaves t) (entries ++ entries_of who end (losses_of roles spares ++ event ∷ [])) ∙ unsynced-then (world_in given tape scope first) entries who end roles spares event ∙ unsynced_is t ∙ pends;
      dirty = has.dirty;
      levelled = λ t fills. ap tolerance_of (leaves t).levelled ∙ was.levelled t ((leaves t).right fills) ∙ sym (ap tolerance_of level);
      gone = λ t. (leaves t).gone;
      unclean = λ t. (leaves t).unclean;
      recorded = λ t. (leaves t).recorded;
      last_step = λ t. last-left given tape tape' scope first entries (list_length old.newest) new carried true who end (losses_of roles spares) event (leaves t) (at_end t) other sized (was.last_step t).past;
      stored = λ t on. stored t (course-earlier given tape tape' scope first (leaves t).begun (leaves t).grown on);
      listed = λ t. listed-later given tape scope first entries (entries ++ entries_of who end (losses_of roles spares ++ event ∷ [])) new carried resync' course' buffer' tape' (now (opening_list (world_in given tape scope first)) entries) (leaves t)
          (settled-same (opening_list (world_in given tape scope first)) entries who end roles spares event settling) (call t).listed;
      safe = λ t. (leaves t).safe;
    }
  where
    Then : List Operation → ℕ → Type 0
    Then l e = IsSettlingCall given tape scope first entries old new carried unsynced resync' course' buffer' who roles spares event l e
        → IsLeftBehind given tape scope first entries (entries ++ entries_of who e (losses_of roles spares ++ event ∷ [])) new carried true l

    leaves : tells → IsLeftBehind given tape scope first entries (entries ++ entries_of who end (losses_of roles spares ++ event ∷ [])) new carried true tape'
    leaves t =
        let g = grows.more t in
        subst (λ (l : List Operation). Then l end) (sym g.1)
        (subst (Then (tape ++ g.0)) (sym (at_end t ∙ ap (λ (l : List Operation). length l) g.1))
        (λ call_to. settling-leaves given tape scope first entries old new carried true unsynced who roles spares event g.0 goes caller settling few missing sized clean was.sizes_are
        (unsynced_is t) (was.gone t) (was.unclean t) (was.recorded t) (was.safe t) (safe-now was live t)
        (record {
          rise = call_to.rise;
          keeps = call_to.keeps;
          settled = call_to.settled;
          legal = λ fills gone level. call_to.legal;
          reshaped = λ right told safe fit. settling-ends (world_in given (tape ++ g.0) scope first) entries who (length (tape ++ g.0)) roles spares event ends;
        })))
        (call t)
