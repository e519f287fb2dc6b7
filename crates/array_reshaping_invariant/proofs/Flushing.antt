-- A flush or a stop of an array in a reshape, from what `flush_and_mark` leaves of its members, and one that is refused for missing members.
use Rattle.std.proofs.Common.{◌≡◌, ◌⊎◌, inl, inr, ℕ, ◌<◌, ◌≤◌, ◌==◌, ◌&&◌, Bool, true, false, not, Option, Some, None, List, [], ◌∷◌, ◌++◌, length, refl, sym, ◌∙◌, ap, subst}
use Rattle.std.specs.Prelude.{IsFalse, IfSome, IsSome, is_some, slice_index_or, ⊤}
use Rattle.history_invariant_laws.specs.raid_types_Sectors.{Sector}
use Rattle.history_invariant_laws.specs.raid_types_the_Refusal.{Refusal}
use Rattle.history_invariant_laws.specs.raid_types_the_Who.{Who}
use Rattle.history_invariant_laws.specs.raid_types_the_Shape.{Shape}
use Rattle.history_invariant_laws.specs.raid_types_Shapes.{tolerance_of}
use Rattle.reshape_progress_resync_laws.specs.bank_the_Operation.{Operation}
use Rattle.reshape_progress_resync_laws.specs.bank_Given.{Given}
use Rattle.reshape_progress_resync_laws.specs.bank_Tape.{Contents, IsIn, disk}
use Rattle.reshape_progress_resync_laws.specs.sb_specs_the_Members.{Members}
use Rattle.reshape_progress_resync_laws.specs.sb_specs_Reading.{Scope, is_clean, shape_of, list_length, role_count}
use Rattle.reshape_progress_resync_laws.specs.stripe_row_Rows.{present}
use Rattle.reshape_progress_resync_laws.specs.history_the_Entry.{Entry}
use Rattle.reshape_progress_resync_laws.specs.history_the_Event.{Event}
use Rattle.reshape_progress_resync_laws.specs.history_the_Event_TheVariants.{Refused}
use Rattle.reshape_progress_resync_laws.specs.history_Flat.{now, values_of}
use Rattle.reshape_progress_resync_laws.specs.history_Legal.{is_loss, told_left, IsLegalEvent}
use Rattle.reshape_progress_resync_laws.specs.history_Losses.{is_unsynced, is_resync_end, unsettles}
use Rattle.reshape_progress_resync_laws.specs.history_Plain.{entries_of}
use Rattle.reshape_progress_resync_laws.specs.history_Sound.{OpensFit}
use Rattle.reshape_progress_resync_laws.specs.history_World.{World, opening_list}
use Rattle.reshape_progress_resync_laws.specs.crash_views_Regions.{DoWithout}
use Rattle.reshape_progress_resync_laws.specs.crash_views_Views.{Ledger}
use Rattle.reshape_progress_resync_laws.specs.crash_safety_laws_Marking.{AreOthersPresent}
use Rattle.reshape_progress_resync_laws.specs.crash_safety_laws_Safety.{HasLiveSlot, HasRoomLeft, IsRisen}
use Rattle.reshape_progress_resync_laws.specs.crash_safety_laws_Steady.{IsSafeOver, KeepsSafe, AreGoneTold, IsUncleanTold, AreWritesAllowed, settled_ledger}
use Rattle.reshape_progress_resync_laws.specs.array_members_Lacking.{DoesWithout, AreTooMany}
use Rattle.reshape_progress_resync_laws.specs.array_members_Moving.{Grows, IsMoved}
use Rattle.reshape_progress_resync_laws.specs.array_members_Under.{StandsUnder, RowsStandUnder}
use Rattle.reshape_progress_resync_laws.specs.sb_safe_updates_Unused.{IsUnusedKept}
use Rattle.reshape_progress_resync_laws.proofs.array_members_Fit.{list-alike}
use Rattle.reshape_progress_resync_laws.proofs.array_members_LackingLaws.{never-both}
use Rattle.reshape_progress_resync_laws.proofs.array_members_LackingLists.{none-of}
use Rattle.history_invariant_laws.specs.history_append_Losing.{losses_of}
use Rattle.history_invariant_laws.proofs.history_append_CallLaws.{losses-are, values-losses}
use Rattle.history_invariant_laws.proofs.history_append_LeftLaws.{left-behind, left-more}
use Rattle.history_invariant_laws.specs.history_invariant_Recorded.{IsCallGoing, entry_of, ends_reshape}
use Rattle.history_invariant_laws.specs.history_invariant_Safe.{world_in, IsFilledRight}
use Rattle.history_invariant_laws.proofs.history_invariant_Entered.{values-more}
use Rattle.reshape_progress_resync_laws.specs.reshape_progress_the_Course.{Course}
use Rattle.reshape_progress_resync_laws.specs.reshape_progress_Course.{AnyShape}
use Rattle.reshape_progress_resync_laws.proofs.reshape_progress_Under.{courses-stand-under}
use Rattle.reshape_progress_resync_laws.specs.stripe_region_resync_Resyncs.{resync_stripes}
use Rattle.reshape_progress_resync_laws.specs.Mended.{StandsSynced}
use Rattle.reshape_progress_resync_laws.proofs.Mended.{none-pending, mended-courses-move}
use Rattle.history_invariant_laws.proofs.Settling.{IsSettlement}
use Rattle.array_reshaping_invariant.specs.Moving.{HasListInCourse, IsMoving}
use Rattle.array_reshaping_invariant.proofs.Adding.{adding-moves}
use Rattle.array_reshaping_invariant.proofs.BackupKept.{stored-kept}
use Rattle.array_reshaping_invariant.proofs.MembersMove.{reshaping-moved}
use Rattle.array_reshaping_invariant.proofs.Pending.{HasResync, resync-of, progress-moved, resync-moved, all-stand, mended-later, mended-whole}
use Rattle.array_reshaping_invariant.proofs.Refusals.{refused-right}
use Rattle.array_reshaping_invariant.proofs.Settling.{IsSettling, settlement, not-ended, settling-moves}
use Rattle.array_reshaping_invariant.proofs.Staying.{course-moved}
use Rattle.array_reshaping_invariant.proofs.Steps.{AreMissingSince, missing-moved}
use Rattle.history_invariant_laws.proofs.history_invariant_Turned.{fills-on_course}

-- What a flush of the members leaves, in an array that is unsynced behind it or not: none but superblocks is written, and each mark is safe as long as the list
-- stands whichever header a stop leaves.
pub record AreFlushed (tells : Type 0) (given : Given) (tape tape' : List Operation) (old new : Members) (roles : ℕ) (unsynced : Bool) : Type 0 where
  pub moved : IsMoved given old new
  pub few : role_count new.newest ≤ 16
  pub since : AreMissingSince old new roles
  pub stays : unsynced ≡ true → is_clean new.newest ≡ is_clean old.newest
  pub rise : tells → IsRisen ⊤ old new tape tape'
  pub others : tells → AreOthersPresent (present given tape) (present given tape')
  pub unused : tells → IsUnusedKept old (disk given.start tape) (disk given.start tape')
  pub safe : tells → (world : World) → (told : Ledger) → HasRoomLeft old tape tape' → AreGoneTold told new → IsUncleanTold told old → (list : ℕ → Sector)
      → (DoWithout old → StandsUnder world.scope old (present given tape) (disk given.start tape) list)
      → (unsynced ≡ false → DoWithout old → OpensFit world → RowsStandUnder world.scope old (present given tape) (disk given.start tape) list)
      → AreWritesAllowed old told.values list → IsSafeOver world given told old tape → KeepsSafe world given told new tape tape'

-- what it leaves where it is done
pub record AreSettled (tells : Type 0) (given : Given) (tape tape' : List Operation) (old new : Members) (unsynced : Bool) : Type 0 where
  pub clean : unsynced ≡ false → is_clean new.newest ≡ true
  pub settled : tells → (world : World) → (told : Ledger) → HasRoomLeft old tape tape' → AreGoneTold told new → IsUncleanTold told old → (DoWithout old → unsynced ≡ true → is_clean old.newest ≡ false) → (list : ℕ → Sector)
      → (DoWithout old → StandsUnder world.scope old (present given tape) (disk given.start tape) list)
      → (unsynced ≡ false → DoWithout old → OpensFit world → RowsStandUnder world.scope old (present given tape) (disk given.start tape) list)
      → AreWritesAllowed old told.values list → IsSafeOver world given told old tape → IsSafeOver world given (settled_ledger unsynced list told) new tape'

-- A list by which it may be flushed: the history's as far as that goes, and it stands whichever header a stop leaves; so do its rows, if the array is synced behind it.
record IsFlushable (given : Given) (tape : List Operation) (scope : Scope) (first : ℕ) (entries : List Entry) (old : Members) (unsynced : Bool) : Type 0 where
  pub list : ℕ → Sector
  pub is : (x : ℕ) → x < list_length old.newest → list x ≡ now (opening_list (world_in given tape scope first)) entries x
  pub stands : DoWithout old → StandsUnder scope old (present given tape) (disk given.start tape) list
  pub rows : unsynced ≡ false → DoWithout old → OpensFit (world_in given tape scope first) → RowsStandUnder scope old (present given tape) (disk given.start tape) list

module _ (tells : Type 0) (given : Given) (tape tape' : List Operation) (scope : Scope) (first : ℕ) (entries : List Entry) (old new : Members) (carried : ℕ → ℕ → Bool)
    (resync : Option ℕ) (course : Course) (buffer : List ℕ) (left : ℕ) (who : Who) (end roles spares : ℕ) (unsynced : Bool)
    (was : IsMoving tells given tape scope first entries old carried resync course buffer left) (live : HasLiveSlot old) (goes : IsCallGoing entries who) (caller : IsFalse (who.caller == 254))
    (at_end : tells → end ≡ length tape') (grows : Grows tells tape tape')
    (did : AreFlushed tells given tape tape' old new roles unsynced) where
  list-same : list_length new.newest ≡ list_length old.newest
  list-same = list-alike old.newest new.newest did.moved.reshape did.moved.shape did.moved.size

  level-same : (shape_of new.newest).level ≡ (shape_of old.newest).level
  level-same = ap (λ (s : Shape). s.level) did.moved.shape

  -- the list stands on, on the members that are left
  still-listed : tells → IsFilledRight (world_in given tape scope first) entries
      → HasListInCourse (OpensFit (world_in given tape scope first)) new resync course buffer (present given tape') (now (opening_list (world_in given tape scope first)) entries)
  still-listed t fills =
      let l = was.listed t fills in
      record {
        list = l.list;
        is = λ x lt. l.is x (subst (λ (n : ℕ). x < n) list-same lt);
        stands = mended-courses-move (OpensFit (world_in given tape scope first)) (λ shape. DoesWithout shape new) given old new resync course buffer (present given tape) (present given tape') l.list was.members_are.placed did.moved (did.others t)
            (mended-later (OpensFit (world_in given tape scope first)) given old new resync course buffer (present given tape) l.list did.moved l.stands);
      }

  -- where the array is synced behind it, none is pending before it or all stripes are mended; and where it isn't, one is pending
  module _ (waits : unsynced ≡ true → IsSome resync) (synced : unsynced ≡ false → (resync ≡ None) ⊎ (resync ≡ Some (resync_stripes old.newest))) where
    flushable : tells → IsFilledRight (world_in given tape scope first) entries → IsFlushable given tape scope first entries old unsynced
    flushable t fills =
        let l = was.listed t fills in
        record {
          list = l.list;
          is = l.is;
          stands = λ does. (courses-stand-under ⊥ scope old course buffer (present given tape) (disk given.start tape) l.list (was.stored t (fills-on_course (world_in given tape scope first) entries fills)) (whole l does).in_course).0;
          rows = λ all does fit. (courses-stand-under (OpensFit (world_in given tape scope first)) scope old course buffer (present given tape) (disk given.start tape) l.list (was.stored t (fills-on_course (world_in given tape scope first) entries fills))
              ((none-pending (OpensFit (world_in given tape scope first)) AnyShape old course buffer (present given tape) l.list).1
              (all-stand (OpensFit (world_in given tape scope first)) AnyShape resync old course buffer (present given tape) l.list was.members_are.placed.fit (synced all) (whole l does)))).1 fit;
        }
      where
        whole : (l : HasListInCourse (OpensFit (world_in given tape scope first)) old resync course buffer (present given tape) (now (opening_list (world_in given tape scope first)) entries)) → DoWithout old
            → StandsSynced (OpensFit (world_in given tape scope first)) AnyShape resync old course buffer (present given tape) l.list
        whole l does = mended-whole (OpensFit (world_in given tape scope first)) resync old course buffer (present given tape) l.list does l.stands

    -- each mark of it is safe
    keeps : (t : tells) → (told : Ledger) → IsFilledRight (world_in given tape scope first) entries → AreWritesAllowed old told.values (now (opening_list (world_in given tape scope first)) entries)
        → HasRoomLeft old tape tape' → AreGoneTold told new → IsUncleanTold told old → IsSafeOver (world_in given tape scope first) given told old tape → KeepsSafe (world_in given tape scope first) given told new tape tape'
    keeps t told fills allowed room gone unclean before =
        let able = flushable t fills in
        did.safe t (world_in given tape scope first) told room gone unclean able.list able.stands able.rows (λ x lt. subst (IsIn (told.values x)) (sym (able.is x lt)) (allowed x lt)) before

    -- one that is done, and may end the resync with that: by what is left of it the list stands too
    pub settled-moves : (resync' : Option ℕ) (left' : ℕ) (event : Event) → AreSettled tells given tape tape' old new unsynced → IsSettlement event → is_loss event ≡ false → ends_reshape event ≡ false
        → HasResync new resync' course → unsynced ≡ is_some resync' → (tells → (is_unsynced (world_in given tape scope first) entries && not (is_resync_end event)) ≡ unsynced)
        → IfSome (told_left (entries ++ entries_of who end (losses_of roles spares ++ event ∷ []))) (λ n. n ≡ left')
        → ((sound : Type 0) (c : Contents) (list : ℕ → Sector) → StandsSynced sound (λ shape. DoesWithout shape new) resync new course buffer c list → StandsSynced sound (λ shape. DoesWithout shape new) resync' new course buffer c list)
        → (tells → IsLegalEvent (world_in given tape' scope first) (entries ++ entries_of who end (losses_of roles spares)) (entry_of who end event) [] event)
        → IsMoving tells given tape' scope first (entries ++ entries_of who end (losses_of roles spares ++ event ∷ [])) new carried resync' course buffer left'
    settled-moves resync' left' event done settling other ends has pends unsynced_is told again legal =
        settling-moves tells given tape tape' scope first entries old new carried resync resync' unsynced course course buffer buffer left left' who end roles spares event was live goes caller at_end grows settling other ends
        (reshaping-moved scope given old new did.moved was.members_are) has pends did.few (missing-moved roles did.moved did.since) list-same level-same done.clean unsynced_is
        (course-moved given old new course did.moved was.course_is)
        (λ t on. stored-kept scope given old new course.window buffer (disk given.start tape) (disk given.start tape') was.members_are did.moved (did.unused t) (was.stored t on)) told
        (λ t. record {
          rise = did.rise t;
          keeps = λ told_so fills more allowed room gone unclean before. keeps t told_so fills allowed room gone unclean before;
          settled = λ told_so fills more allowed room gone unclean before.
              let able = flushable t fills in
              record {
                list = able.list;
                is = able.is;
                safe = done.settled t (world_in given tape scope first) told_so room gone unclean (λ does is. was.dirty does (waits is)) able.list able.stands able.rows
                    (λ x lt. subst (IsIn (told_so.values x)) (sym (able.is x lt)) (allowed x lt)) before;
              };
          listed = λ fills. let l = still-listed t fills in record { list = l.list; is = l.is; stands = again (OpensFit (world_in given tape scope first)) (present given tape') l.list l.stands };
          legal = legal t;
        })

    -- one that is refused, since more are missing than the array can do without: a resync is pending as before
    pub unsettled-moves : (refusal : Refusal) → AreTooMany new refusal
        → IsMoving tells given tape' scope first (entries ++ entries_of who end (losses_of roles spares ++ Refused refusal ∷ [])) new carried resync course buffer left
    unsettled-moves refusal many =
        adding-moves tells given tape tape' scope first entries old new carried resync course course buffer buffer left left who end roles spares (Refused refusal) was live goes caller at_end grows
        (record { adds = refl; gives = refl; ends = refl; level = λ n. refl; other = refl })
        (reshaping-moved scope given old new did.moved was.members_are)
        (record { progress = progress-moved did.moved resync was.progress; beside = was.beside; dirty = λ does. absurd (never-both new refusal does many) }) did.few (missing-moved roles did.moved did.since) list-same level-same (λ dirty. inr (unsettled refusal many))
        (course-moved given old new course did.moved was.course_is)
        (λ t on. stored-kept scope given old new course.window buffer (disk given.start tape) (disk given.start tape') was.members_are did.moved (did.unused t) (was.stored t on))
        (left-more left entries who end (losses_of roles spares ++ Refused refusal ∷ []) was.left_told (left-behind left who end (losses_of roles spares) (Refused refusal ∷ []) (losses-are roles spares) (λ told is. is)))
        (λ t. record {
          within = tt;
          rise = did.rise t;
          keeps = λ told fills more allowed room gone unclean unsettled before.
              keeps t told fills (λ x lt. subst (IsIn (told.values x)) (now-same x) (allowed x lt)) room gone unclean before;
          listed = λ fills.
              let l = still-listed t fills in
              record { list = l.list; is = λ x lt. l.is x lt ∙ sym (now-same x); stands = l.stands };
          legal = λ fills gone level. refused-right (world_in given tape' scope first) (entries ++ entries_of who end (losses_of roles spares)) given new did.moved.placed gone
              (ap tolerance_of level ∙ was.levelled t fills ∙ sym (ap tolerance_of level-same)) refusal many;
        })
      where
        unsettled : (refusal : Refusal) → AreTooMany new refusal → unsettles (Refused refusal) ≡ true
        unsettled refusal (inl many) = subst (λ (r : Refusal). unsettles (Refused r) ≡ true) (sym many.told) refl
        unsettled refusal (inr many) = subst (λ (r : Refusal). unsettles (Refused r) ≡ true) (sym many.1.told) refl

        now-same : (x : ℕ) → now (opening_list (world_in given tape scope first)) (entries ++ entries_of who end (losses_of roles spares ++ Refused refusal ∷ [])) x
            ≡ now (opening_list (world_in given tape scope first)) entries x
        now-same x = ap (λ (l : List Sector). slice_index_or l 0 [])
            (values-more (opening_list (world_in given tape scope first)) entries (entries_of who end (losses_of roles spares ++ Refused refusal ∷ [])) x
            ∙ values-losses who end (losses_of roles spares) (Refused refusal ∷ []) (losses-are roles spares) x (values_of (opening_list (world_in given tape scope first)) entries x))

  module _ (same : unsynced ≡ is_some resync) where
    has : HasResync new resync course
    has = resync-moved did.moved (λ some dirty. did.stays (same ∙ some) ∙ dirty) was.beside (resync-of was)

    -- a flush or a stop that is done
    pub flushed-moves : (event : Event) → IsSettling event → AreSettled tells given tape tape' old new unsynced
        → IsMoving tells given tape' scope first (entries ++ entries_of who end (losses_of roles spares ++ event ∷ [])) new carried resync course buffer left
    flushed-moves event settling done =
        settled-moves (λ is. sym same ∙ is) (λ is. inl (none-of resync (sym same ∙ is))) resync left event done (settlement event settling) settling.other settling.ends
        has same
        (λ t. not-ended (is_unsynced (world_in given tape scope first) entries) (is_resync_end event) settling.resync ∙ was.pending t ∙ sym same)
        (left-more left entries who end (losses_of roles spares ++ event ∷ []) was.left_told (left-behind left who end (losses_of roles spares) (event ∷ []) (losses-are roles spares) (settling.tells left who end)))
        (λ sound c list l. l) (λ t. settling.legal (world_in given tape' scope first) (entries ++ entries_of who end (losses_of roles spares)) (entry_of who end event))

    -- one that is refused
    pub unflushed-moves : (refusal : Refusal) → AreTooMany new refusal
        → IsMoving tells given tape' scope first (entries ++ entries_of who end (losses_of roles spares ++ Refused refusal ∷ [])) new carried resync course buffer left
    unflushed-moves = unsettled-moves (λ is. sym same ∙ is) (λ is. inl (none-of resync (sym same ∙ is)))
