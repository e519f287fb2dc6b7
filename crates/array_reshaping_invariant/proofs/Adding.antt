-- A call whose events add to the list's values, behind what it tells lost: a write, or one that was torn.
use Rattle.std.proofs.Common.{◌≡◌, ◌⊎◌, ℕ, ◌<◌, ◌≤◌, ◌==◌, Bool, true, false, Option, List, [], ◌∷◌, ◌++◌, length, refl, sym, ◌∙◌, ap, subst, inl, inr, ◌||◌, arith}
use Rattle.std.specs.Prelude.{IsFalse, IfSome, ⊤}
use Rattle.history_invariant_laws.specs.raid_types_Shapes.{tolerance_of}
use Rattle.history_invariant_laws.specs.raid_types_the_Who.{Who}
use Rattle.reshape_progress_resync_laws.specs.bank_the_Operation.{Operation}
use Rattle.reshape_progress_resync_laws.specs.bank_Given.{Given}
use Rattle.reshape_progress_resync_laws.specs.bank_Tape.{IsIn, disk}
use Rattle.reshape_progress_resync_laws.specs.sb_specs_the_Members.{Members}
use Rattle.reshape_progress_resync_laws.specs.sb_specs_Reading.{Scope, is_clean, shape_of, list_length, role_count}
use Rattle.reshape_progress_resync_laws.specs.stripe_row_Rows.{present, reading_of, is_missing}
use Rattle.reshape_progress_resync_laws.specs.history_the_Entry.{Entry}
use Rattle.reshape_progress_resync_laws.specs.history_the_Event.{Event}
use Rattle.reshape_progress_resync_laws.specs.history_Flat.{now, values_of}
use Rattle.reshape_progress_resync_laws.specs.history_Legal.{told_left, level_at, IsLegalEvent}
use Rattle.reshape_progress_resync_laws.specs.history_Losses.{unsettles, loses, is_gone_after, is_unsynced}
use Rattle.reshape_progress_resync_laws.specs.history_Plain.{entries_of}
use Rattle.reshape_progress_resync_laws.specs.history_Sound.{OpensFit}
use Rattle.reshape_progress_resync_laws.specs.history_World.{opening_list, World}
use Rattle.reshape_progress_resync_laws.specs.crash_views_Views.{Ledger}
use Rattle.reshape_progress_resync_laws.specs.crash_safety_laws_Safety.{HasLiveSlot, HasRoomLeft, IsRisen}
use Rattle.reshape_progress_resync_laws.specs.crash_safety_laws_Steady.{IsMoreTold, IsSafeOver, KeepsSafe, AreGoneTold, IsUncleanTold}
use Rattle.reshape_progress_resync_laws.specs.array_members_Moving.{Grows}
use Rattle.history_invariant_laws.specs.history_append_Losing.{losses_of}
use Rattle.history_invariant_laws.specs.history_invariant_Recorded.{IsCallGoing, entry_of, IsHistoryKept, IsLegalCall}
use Rattle.history_invariant_laws.specs.history_invariant_Safe.{world_in, IsFilledRight, OpensOnCourse}
use Rattle.history_invariant_laws.specs.history_invariant_Told.{told_now}
use Rattle.reshape_progress_resync_laws.specs.reshape_progress_the_Course.{Course}
use Rattle.reshape_progress_resync_laws.specs.reshape_progress_Course.{IsCourseOf, IsStored}
use Rattle.history_invariant_laws.specs.Reliable.{IsReliable, AreToldGone}
use Rattle.history_invariant_laws.proofs.Behind.{AreLostOrMissing, IsAmong, AreFirst, first-of, early-losses, legal-losses, and-true}
use Rattle.history_invariant_laws.proofs.LastStep.{IsWithin, AreWithin, losses-within}
use Rattle.history_invariant_laws.proofs.Quiet.{IsLeftBehind, last-left}
use Rattle.history_invariant_laws.proofs.Adding.{IsAdding, changing-leaves, ChangesEarly, unsettled-last}
use Rattle.array_reshaping_invariant.specs.Moving.{AreReshaping, HasListInCourse, IsMoving}
use Rattle.array_reshaping_invariant.proofs.Pending.{HasResync, pending-on}
use Rattle.array_reshaping_invariant.proofs.Quiet.{listed-later, safe-now, course-earlier}
use Rattle.std.specs.List.{list_any}
use Rattle.history_invariant_laws.specs.raid_types_Sectors.{Sector}
use Rattle.reshape_progress_resync_laws.specs.history_OneShape.{is_unsettled}
use Rattle.reshape_progress_resync_laws.specs.array_members_Placed.{AreWhole}
use Rattle.history_invariant_laws.proofs.history_append_CallLaws.{losses-are}
use Rattle.history_invariant_laws.proofs.history_invariant_Growing.{fit-grown}
use Rattle.history_invariant_laws.proofs.history_invariant_Ledgers.{gone-any}
use Rattle.history_invariant_laws.proofs.history_invariant_Lists.{newest-in}
use Rattle.history_invariant_laws.proofs.history_invariant_Entered.{adds_only, length-adding}

-- What is asked of a call, from this tape to that one with its end there, that enters these events before its last one: it may lose only what it tells, so that what is
-- filled in is right, where it is by its entries.
pub record IsAddingBehind (given : Given) (tape : List Operation) (scope : Scope) (first : ℕ) (entries : List Entry) (old new : Members) (carried : ℕ → ℕ → Bool) (resync : Option ℕ) (course' : Course) (buffer' : List ℕ)
    (who : Who) (early : List Event) (event : Event) (tape' : List Operation) (end : ℕ) : Type 0 where
  pub within : AreWithin (list_length old.newest) (early ++ event ∷ [])
  pub rise : IsRisen ⊤ old new tape tape'
  pub keeps : (told : Ledger) → IsFilledRight (world_in given tape scope first) entries → AreWhole new ⊎ OpensFit (world_in given tape scope first)
      → IsMoreTold (told_now (world_in given tape scope first) carried true entries) told
      → ((x : ℕ) (v : Sector) → IsIn (values_of (opening_list (world_in given tape scope first)) (entries ++ entries_of who end (early ++ event ∷ [])) x) v → IsIn (told.values x) v)
      → ((x : ℕ) → x < list_length old.newest → IsIn (told.values x) (now (opening_list (world_in given tape scope first)) (entries ++ entries_of who end (early ++ event ∷ [])) x))
      → HasRoomLeft old tape tape' → AreGoneTold told new → IsUncleanTold told old → (unsettles event ≡ true → told.unclean ≡ true)
      → IsSafeOver (world_in given tape scope first) given told old tape → KeepsSafe (world_in given tape scope first) given told new tape tape'
  pub listed : IsFilledRight (world_in given tape scope first) entries
      → HasListInCourse (OpensFit (world_in given tape scope first)) new resync course' buffer' (present given tape')
      (now (opening_list (world_in given tape scope first)) (entries ++ entries_of who end (early ++ event ∷ [])))
  pub legal : IsReliable (world_in given tape scope first) entries → AreToldGone (world_in given tape' scope first) (entries ++ entries_of who end early) new
      → level_at (world_in given tape' scope first) (entries ++ entries_of who end early) ≡ level_at (world_in given tape scope first) entries
      → IsLegalCall (world_in given tape' scope first) entries who end (early ++ event ∷ [])

-- The same of a call that enters losses before its event.
pub record IsAddingCall (given : Given) (tape : List Operation) (scope : Scope) (first : ℕ) (entries : List Entry) (old new : Members) (carried : ℕ → ℕ → Bool) (resync : Option ℕ) (course' : Course) (buffer' : List ℕ)
    (who : Who) (roles spares : ℕ) (event : Event) (tape' : List Operation) (end : ℕ) : Type 0 where
  pub within : IsWithin (list_length old.newest) event
  pub rise : IsRisen ⊤ old new tape tape'
  pub keeps : (told : Ledger) → IsFilledRight (world_in given tape scope first) entries → IsMoreTold (told_now (world_in given tape scope first) carried true entries) told
      → ((x : ℕ) → x < list_length old.newest → IsIn (told.values x) (now (opening_list (world_in given tape scope first)) (entries ++ entries_of who end (losses_of roles spares ++ event ∷ [])) x))
      → HasRoomLeft old tape tape' → AreGoneTold told new → IsUncleanTold told old → (unsettles event ≡ true → told.unclean ≡ true)
      → IsSafeOver (world_in given tape scope first) given told old tape → KeepsSafe (world_in given tape scope first) given told new tape tape'
  pub listed : IsFilledRight (world_in given tape scope first) entries
      → HasListInCourse (OpensFit (world_in given tape scope first)) new resync course' buffer' (present given tape')
      (now (opening_list (world_in given tape scope first)) (entries ++ entries_of who end (losses_of roles spares ++ event ∷ [])))
  pub legal : IsReliable (world_in given tape scope first) entries
      → AreToldGone (world_in given tape' scope first) (entries ++ entries_of who end (losses_of roles spares)) new
      → level_at (world_in given tape' scope first) (entries ++ entries_of who end (losses_of roles spares)) ≡ level_at (world_in given tape scope first) entries
      → IsLegalEvent (world_in given tape' scope first) (entries ++ entries_of who end (losses_of roles spares)) (entry_of who end event) [] event

-- a role that no entry takes isn't gone
not-gone : (world : World) (entries : List Entry) (role : ℕ) → list_any (loses world role) entries ≡ false → is_gone_after world entries role ≡ true → ⊥
unfolding is_gone_after
not-gone world entries role none is = absurd (let any : list_any (loses world role) entries ≡ true = gone-any world role [] entries is in let both = sym none ∙ any in cc)

-- Over a bank that tells its contents: what such a call says of its marks, where no more is known of what is filled in than its entries say.
module _ (given : Given) (tape : List Operation) (scope : Scope) (first : ℕ) (entries : List Entry) (old new : Members) (carried : ℕ → ℕ → Bool) (resync : Option ℕ) (course' : Course) (buffer' : List ℕ)
    (who : Who) (early : List Event) (IsTaken : ℕ → Type 0) (event : Event) (ops : List Operation) (are : AreFirst early IsTaken) (adding : IsAdding event)
    (recorded : IsHistoryKept (IsReliable (world_in given tape scope first) entries) (world_in given tape scope first) (list_length old.newest) entries)
    (call_to : IsAddingBehind given tape scope first entries old new carried resync course' buffer' who early event (tape ++ ops) (length (tape ++ ops))) where
  -- where no role is taken by an entry, none is missing
  whole : IsReliable (world_in given (tape ++ ops) scope first) (entries ++ entries_of who (length (tape ++ ops)) (early ++ event ∷ []))
      → AreToldGone (world_in given (tape ++ ops) scope first) (entries ++ entries_of who (length (tape ++ ops)) (early ++ event ∷ [])) new
      → AreWhole new ⊎ OpensFit (world_in given tape scope first)
  whole right all_gone = elim right.fills [
    | inl none ↦ inl (λ role lt. told-whole role lt (is_missing (reading_of new) role) refl (all_gone role lt) (none.0 role))
    | inr fit ↦ inr (subst (λ (p : Type 0). p) (fit-grown (world_in given tape scope first) ops recorded.begun) fit)
  ]
    where
      told-whole : (role : ℕ) → role < role_count new.newest → (b : Bool) → is_missing (reading_of new) role ≡ b
          → (is_missing (reading_of new) role ≡ true → is_gone_after (world_in given (tape ++ ops) scope first) (entries ++ entries_of who (length (tape ++ ops)) (early ++ event ∷ [])) role ≡ true)
          → list_any (loses (world_in given (tape ++ ops) scope first) role) (entries ++ entries_of who (length (tape ++ ops)) (early ++ event ∷ [])) ≡ false
          → is_missing (reading_of new) role ≡ false
      told-whole role lt false is gone none = is
      told-whole role lt true is gone none = absurd (not-gone (world_in given (tape ++ ops) scope first) (entries ++ entries_of who (length (tape ++ ops)) (early ++ event ∷ [])) role none (gone is))

  newest : (x : ℕ) → x < list_length old.newest
      → IsIn (values_of (opening_list (world_in given tape scope first)) (entries ++ entries_of who (length (tape ++ ops)) (early ++ event ∷ [])) x)
      (now (opening_list (world_in given tape scope first)) (entries ++ entries_of who (length (tape ++ ops)) (early ++ event ∷ [])) x)
  newest x lt = newest-in (opening_list (world_in given tape scope first)) (entries ++ entries_of who (length (tape ++ ops)) (early ++ event ∷ [])) x
      (let size = length-adding (length (opening_list (world_in given tape scope first))) entries (entries_of who (length (tape ++ ops)) (early ++ event ∷ []))
      (are.adds who (length (tape ++ ops)) (event ∷ []) (and-true (adds_only event) true adding.adds refl)) in let sized_so = recorded.sized in omega (arith, lt, size, sized_so))

  changes : ChangesEarly given tape scope first entries old new carried true who early event (tape ++ ops) (length (tape ++ ops))
  changes = record {
    within = call_to.within;
    rise = call_to.rise;
    keeps = λ told right all_gone fills more values room told_gone told_unclean unsettled before.
        call_to.keeps told fills (whole right all_gone) more values (λ x lt. values x (now (opening_list (world_in given tape scope first)) (entries ++ entries_of who (length (tape ++ ops)) (early ++ event ∷ [])) x) (newest x lt))
        room told_gone told_unclean (λ is. unsettled (unsettled-last who (length (tape ++ ops)) early event is)) before;
    legal = call_to.legal;
  }

-- ---- what is kept

-- The call keeps the record, by the list that it leaves.
pub behind-moves : (tells : Type 0) (given : Given) (tape tape' : List Operation) (scope : Scope) (first : ℕ) (entries : List Entry) (old new : Members) (carried : ℕ → ℕ → Bool) (resync : Option ℕ) (course course' : Course)
    (buffer buffer' : List ℕ) (left left' : ℕ) (who : Who) (end : ℕ) (early : List Event) (IsTaken : ℕ → Type 0) (event : Event)
    → IsMoving tells given tape scope first entries old carried resync course buffer left → HasLiveSlot old → IsCallGoing entries who → IsFalse (who.caller == 254) → (tells → end ≡ length tape') → Grows tells tape tape' → IsAdding event
    → AreReshaping scope given new → HasResync new resync course' → role_count new.newest ≤ 16
    → AreFirst early IsTaken → AreLostOrMissing old new IsTaken
    → list_length new.newest ≡ list_length old.newest → (shape_of new.newest).level ≡ (shape_of old.newest).level
    → (tells → is_clean new.newest ≡ false → ((is_unsynced (world_in given tape scope first) entries || is_unsettled entries) ≡ true) ⊎ (unsettles event ≡ true))
    → IsCourseOf new.newest course' → (tells → OpensOnCourse (world_in given tape scope first) → IsStored scope new course'.window buffer' (disk given.start tape'))
    → IfSome (told_left (entries ++ entries_of who end (early ++ event ∷ []))) (λ n. n ≡ left')
    → (tells → IsAddingBehind given tape scope first entries old new carried resync course' buffer' who early event tape' end)
    → IsMoving tells given tape' scope first (entries ++ entries_of who end (early ++ event ∷ [])) new carried resync course' buffer' left'
behind-moves tells given tape tape' scope first entries old new carried resync course course' buffer buffer' left left' who end early IsTaken event was live goes caller at_end grows adding members has few are missing sized level clean
    course_is stored told call = record {
      slots = was.slots;
      members_are = members;
      course_is = course_is;
      sizes_are = was.sizes_are;
      left_told = told;
      progress = has.progress;
      beside = has.beside;
      pending = λ t. pending-on (entries_of who end (early ++ event ∷ [])) (leaves t) (are.adds who end (event ∷ []) (and-true (adds_only event) true adding.adds refl)) ∙ was.pending t;
      dirty = has.dirty;
      levelled = λ t fills. ap tolerance_of (leaves t).levelled ∙ was.levelled t ((leaves t).right fills) ∙ sym (ap tolerance_of level);
      gone = λ t. (leaves t).gone;
      unclean = λ t. (leaves t).unclean;
      recorded = λ t. (leaves t).recorded;
      last_step = λ t. last-left given tape tape' scope first entries (list_length old.newest) new carried true who end early event (leaves t) (at_end t) adding.other sized (was.last_step t).past;
      stored = λ t on. stored t (course-earlier given tape tape' scope first (leaves t).begun (leaves t).grown on);
      listed = λ t. listed-later given tape scope first entries (entries ++ entries_of who end (early ++ event ∷ [])) new carried resync course' buffer' tape'
          (now (opening_list (world_in given tape scope first)) (entries ++ entries_of who end (early ++ event ∷ []))) (leaves t) (λ x. refl) (call t).listed;
      safe = λ t. (leaves t).safe;
    }
  where
    Then : List Operation → ℕ → Type 0
    Then l e = IsAddingBehind given tape scope first entries old new carried resync course' buffer' who early event l e
        → IsLeftBehind given tape scope first entries (entries ++ entries_of who e (early ++ event ∷ [])) new carried true l

    leaves : tells → IsLeftBehind given tape scope first entries (entries ++ entries_of who end (early ++ event ∷ [])) new carried true tape'
    leaves t =
        let g = grows.more t in
        subst (λ (l : List Operation). Then l end) (sym g.1)
        (subst (Then (tape ++ g.0)) (sym (at_end t ∙ ap (λ (l : List Operation). length l) g.1))
        (λ call_to. changing-leaves given tape scope first entries old new carried true who early IsTaken event g.0 are goes caller adding few missing sized
        (λ dirty. elim (clean t dirty) [
          | inl before ↦ inl before
          | inr wrote ↦ inr (unsettled-last who (length (tape ++ g.0)) early event wrote)
        ]) was.sizes_are
        (was.gone t) (was.unclean t) (was.recorded t) (was.safe t) (safe-now was live t) (changes given tape scope first entries old new carried resync course' buffer' who early IsTaken event g.0 are adding (was.recorded t) call_to)))
        (call t)

-- And so does a call that enters losses before its event.
pub adding-moves : (tells : Type 0) (given : Given) (tape tape' : List Operation) (scope : Scope) (first : ℕ) (entries : List Entry) (old new : Members) (carried : ℕ → ℕ → Bool) (resync : Option ℕ) (course course' : Course)
    (buffer buffer' : List ℕ) (left left' : ℕ) (who : Who) (end roles spares : ℕ) (event : Event)
    → IsMoving tells given tape scope first entries old carried resync course buffer left → HasLiveSlot old → IsCallGoing entries who → IsFalse (who.caller == 254) → (tells → end ≡ length tape') → Grows tells tape tape' → IsAdding event
    → AreReshaping scope given new → HasResync new resync course' → role_count new.newest ≤ 16
    → AreLostOrMissing old new (IsAmong roles)
    → list_length new.newest ≡ list_length old.newest → (shape_of new.newest).level ≡ (shape_of old.newest).level → (is_clean new.newest ≡ false → (is_clean old.newest ≡ false) ⊎ (unsettles event ≡ true)) → IsCourseOf new.newest course' → (tells → OpensOnCourse (world_in given tape scope first) → IsStored scope new course'.window buffer' (disk given.start tape'))
    → IfSome (told_left (entries ++ entries_of who end (losses_of roles spares ++ event ∷ []))) (λ n. n ≡ left')
    → (tells → IsAddingCall given tape scope first entries old new carried resync course' buffer' who roles spares event tape' end)
    → IsMoving tells given tape' scope first (entries ++ entries_of who end (losses_of roles spares ++ event ∷ [])) new carried resync course' buffer' left'
adding-moves tells given tape tape' scope first entries old new carried resync course course' buffer buffer' left left' who end roles spares event was live goes caller at_end grows adding members has few missing sized level clean
    course_is stored told call =
    behind-moves tells given tape tape' scope first entries old new carried resync course course' buffer buffer' left left' who end (losses_of roles spares) (IsAmong roles) event was live goes caller at_end grows adding members has few
    (first-of (early-losses roles spares)) missing sized level
    (λ t dirty. elim (clean dirty) [
      | inl before ↦ inl (was.unclean t before)
      | inr wrote ↦ inr wrote
    ])
    course_is stored told
    (λ t. let of = call t in record {
      within = losses-within (list_length old.newest) (losses_of roles spares) (event ∷ []) (losses-are roles spares) (of.within, tt);
      rise = of.rise;
      keeps = λ told fills whole more values allowed room gone unclean unsettled before. of.keeps told fills more allowed room gone unclean unsettled before;
      listed = of.listed;
      legal = λ fills gone level. legal-losses (world_in given tape' scope first) entries who end (losses_of roles spares) (event ∷ []) (losses-are roles spares) (of.legal fills gone level, tt, tt);
    })
