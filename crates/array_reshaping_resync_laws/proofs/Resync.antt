-- Steps of the resync of an array in a reshape: a stripe is mended, from what `resync_list` leaves, or isn't; and the resync ends, from what `flush_and_mark` leaves, or is refused.
use Rattle.std.proofs.Common.{◌≡◌, ◌≢◌, inl, inr, ℕ, ◌+◌, ◌<◌, ◌≤◌, ◌==◌, ◌&&◌, nat_le, Bool, true, false, Option, Some, None, List, [], ◌∷◌, ◌++◌, length, refl, sym, ◌∙◌, ap, subst, arith, append-nil}
use Rattle.std.specs.Prelude.{IsFalse, IfSome, is_some, ⊤}
use Rattle.std.specs.List.{list_any}
use Rattle.std.proofs.lemmas.Bool.Decides.{nat_tests}
use Rattle.array_reshaping_invariant.specs.raid_types_Sectors.{Sector}
use Rattle.array_reshaping_invariant.specs.raid_types_Shapes.{tolerance, tolerance_of}
use Rattle.array_reshaping_invariant.specs.raid_types_the_Refusal.{Refusal}
use Rattle.array_reshaping_invariant.specs.raid_types_the_Who.{Who}
use Rattle.array_reshaping_invariant.specs.raid_types_the_Shape.{Shape}
use Rattle.array_reshaping_invariant.specs.raid_types_the_Span.{Span}
use Rattle.array_reshaping_invariant.specs.bank_the_Operation.{Operation}
use Rattle.array_reshaping_invariant.specs.bank_Given.{Given}
use Rattle.array_reshaping_invariant.specs.bank_Tape.{IsIn, disk}
use Rattle.array_reshaping_invariant.specs.sb_specs_the_Members.{Members}
use Rattle.array_reshaping_invariant.specs.sb_specs_Reading.{Scope, is_clean, shape_of, final_shape, list_length}
use Rattle.array_reshaping_invariant.proofs.sb_specs_ValidFields.{few-roles}
use Rattle.array_reshaping_invariant.specs.stripe_row_Rows.{reading_of, present}
use Rattle.array_reshaping_invariant.specs.stripe_list_Full.{AreWholeIn}
use Rattle.array_reshaping_invariant.specs.history_the_Entry.{Entry}
use Rattle.array_reshaping_invariant.specs.history_the_Event.{Event}
use Rattle.array_reshaping_invariant.specs.history_the_Event_TheVariants.{Refused, Step}
use Rattle.array_reshaping_invariant.specs.history_the_StepKind_TheVariants.{ResyncStripe, ResyncEnded}
use Rattle.array_reshaping_invariant.specs.history_Flat.{now, length_of, values_of}
use Rattle.array_reshaping_invariant.specs.history_Legal.{told_left, level_at, IsRefusedRight}
use Rattle.array_reshaping_invariant.specs.history_Losses.{is_unsynced, is_resync_end}
use Rattle.array_reshaping_invariant.specs.history_Plain.{entries_of}
use Rattle.array_reshaping_invariant.specs.history_Sound.{OpensFit}
use Rattle.array_reshaping_invariant.specs.history_Stands.{covers, shape_for}
use Rattle.array_reshaping_invariant.specs.history_World.{World, opening_list}
use Rattle.array_reshaping_invariant.specs.crash_views_Regions.{DoWithout}
use Rattle.array_reshaping_invariant.specs.crash_views_Views.{Ledger, IsTailZero}
use Rattle.array_reshaping_invariant.specs.crash_views_Windows.{IsShown, AreTailsStanding}
use Rattle.array_reshaping_invariant.specs.crash_safety_laws_Safety.{HasLiveSlot, HasRoomLeft, IsRisen}
use Rattle.array_reshaping_invariant.specs.crash_safety_laws_Steady.{IsMoreTold, IsSafeOver, KeepsSafe, AreGoneTold, IsUncleanTold, AreWritesAllowed}
use Rattle.array_reshaping_invariant.specs.array_members_Lacking.{lacking, DoesWithout, AreTooMany, AreOtherRowsKept}
use Rattle.array_reshaping_invariant.specs.array_members_Moving.{Grows, IsMoved}
use Rattle.array_reshaping_invariant.specs.array_members_Placed.{IsPlaced, IsInForce}
use Rattle.array_reshaping_invariant.proofs.array_members_Fit.{list-alike, force-disks, alike-force}
use Rattle.array_reshaping_invariant.proofs.array_members_LiveLeft.{without-left}
use Rattle.array_reshaping_invariant.specs.sb_safe_updates_Unused.{IsUnusedKept}
use Rattle.array_reshaping_invariant.specs.history_append_Losing.{losses_of}
use Rattle.array_reshaping_invariant.proofs.history_append_CallLaws.{losses-are, ends-losses}
use Rattle.array_reshaping_invariant.proofs.history_append_LeftLaws.{left-behind, left-more}
use Rattle.array_reshaping_invariant.specs.stripe_region_read_Stretches.{ListStandsIn, RowsStandIn}
use Rattle.array_reshaping_invariant.specs.stripe_region_resync_Resyncs.{low_shape, resync_stripes, resync_shape, relied_sector, IsResyncRow, IsNotSynced, AreEndsStanding}
use Rattle.array_reshaping_invariant.proofs.stripe_region_resync_Alike.{low-alike, mends-alike}
use Rattle.array_reshaping_invariant.proofs.stripe_region_resync_ReliedLaws.{relied-within}
use Rattle.array_reshaping_invariant.proofs.stripe_region_resync_StripeLaws.{is-next}
use Rattle.array_reshaping_invariant.specs.history_invariant_Recorded.{IsCallGoing, entry_of}
use Rattle.array_reshaping_invariant.specs.history_invariant_Safe.{world_in, IsFilledRight}
use Rattle.array_reshaping_invariant.specs.history_invariant_Told.{told_now}
use Rattle.array_reshaping_invariant.proofs.history_invariant_Growing.{unsynced-grown}
use Rattle.array_reshaping_invariant.proofs.history_invariant_Lists.{newest-in}
use Rattle.array_reshaping_invariant.specs.history_invariant_laws_Reliable.{AreToldGone}
use Rattle.array_reshaping_invariant.specs.reshape_request_the_Window.{Window}
use Rattle.array_reshaping_invariant.specs.reshape_request_the_Window_TheVariants.{Closed, Entered, Unsure}
use Rattle.array_reshaping_invariant.specs.reshape_progress_the_Course.{Course}
use Rattle.array_reshaping_invariant.specs.reshape_progress_Course.{hidden_in}
use Rattle.array_reshaping_invariant.proofs.reshape_progress_Frames.{does-for}
use Rattle.array_reshaping_invariant.specs.reshape_progress_resync_laws_Synced.{IsAside, IsResyncing, IsSynced, StandsSynced}
use Rattle.array_reshaping_invariant.proofs.reshape_progress_resync_laws_Synced.{mends-go-on}
use Rattle.array_reshaping_invariant.specs.Moving.{HasListInCourse, IsMoving}
use Rattle.array_reshaping_invariant.proofs.BackupKept.{stored-kept}
use Rattle.array_reshaping_invariant.proofs.Flushing.{AreFlushed, AreSettled, settled-moves, unsettled-moves}
use Rattle.array_reshaping_invariant.proofs.MembersMove.{reshaping-moved}
use Rattle.array_reshaping_invariant.proofs.Pending.{resync-of, resync-moved, all-stand, mended-later}
use Rattle.array_reshaping_invariant.proofs.Quiet.{quiet-moves}
use Rattle.array_reshaping_invariant.proofs.Refusals.{quiet-refusal, refused-right}
use Rattle.array_reshaping_invariant.proofs.Resting.{resting-moves}
use Rattle.array_reshaping_invariant.proofs.Staying.{course-moved}
use Rattle.array_reshaping_invariant.proofs.Steps.{AreMissingSince, quiet-step, missing-moved, step-is, told-behind, told-step}
use Rattle.array_reshaping_invariant.proofs.array_call_specs_LedgerLaws.{unsynced-more}

-- ---- a stripe

-- What `resync_list` leaves of the stripe behind so many, whether it was mended or not: the list stands, and each row that stood.
pub record IsResyncingMoving (tells : Type 0) (given : Given) (tape tape' : List Operation) (old new : Members) (mended roles : ℕ) : Type 0 where
  pub moved : IsMoved given old new
  pub since : AreMissingSince old new roles
  pub grows : Grows tells tape tape'
  pub dirty : is_clean new.newest ≡ false
  pub rise : tells → IsRisen ⊤ old new tape tape'
  pub unused : tells → IsUnusedKept old (disk given.start tape) (disk given.start tape')
  pub others : tells → AreOtherRowsKept (IsResyncRow old.newest mended) (reading_of new) (present given tape) (present given tape')
  pub stands : tells → (among : Shape → Bool) → ((s : Shape) → among s ≡ true → DoesWithout s new) → (hidden : Option Span) → (list : ℕ → Sector)
      → ListStandsIn (λ s. among s ≡ true) hidden old (present given tape) list → ListStandsIn (λ s. among s ≡ true) hidden new (present given tape') list
  pub tail : DoesWithout (final_shape old.newest) new → tells → (list : ℕ → Sector) → AreTailsStanding old (present given tape) list → AreTailsStanding new (present given tape') list
  pub ends : DoesWithout (low_shape old.newest) new → tells → (list : ℕ → Sector) → AreEndsStanding old (present given tape) list → AreEndsStanding new (present given tape') list
  pub kept : tells → (among : Shape → Bool) → (hidden : Option Span) → (list : ℕ → Sector)
      → RowsStandIn (λ s. among s ≡ true) hidden (relied_sector old.newest (Some mended)) old (present given tape) list
      → RowsStandIn (λ s. among s ≡ true) hidden (relied_sector old.newest (Some mended)) new (present given tape') list
  pub safe : tells → (world : World) → (told : Ledger) → HasRoomLeft old tape tape' → AreGoneTold told new → told.unclean ≡ true → (hidden : Option Span) → (list : ℕ → Sector)
      → ((x : ℕ) → relied_sector old.newest (Some mended) ≤ x → x < relied_sector old.newest (Some (mended + 1)) → IsShown hidden old.newest x)
      → ListStandsIn (λ s. s ≡ resync_shape old.newest mended) hidden old (present given tape) list
      → (resync_shape old.newest mended ≡ final_shape old.newest → AreTailsStanding old (present given tape) list)
      → AreWritesAllowed old told.values list → (OpensFit world → IsTailZero old.newest list)
      → IsSafeOver world given told old tape → KeepsSafe world given told new tape tape'

-- And where it was: its rows stand too, by the list that stood in its data.
abbrev pub AreRowsSynced : Type 0 → Given → List Operation → List Operation → Members → Members → ℕ → Type 0
AreRowsSynced tells given tape tape' old new mended = tells → (among : Shape → Bool) → (hidden : Option Span) → (list : ℕ → Sector)
    → ((x : ℕ) → relied_sector old.newest (Some mended) ≤ x → x < relied_sector old.newest (Some (mended + 1)) → IsShown hidden old.newest x)
    → ((row : ℕ) → IsResyncRow old.newest mended row → AreWholeIn (resync_shape old.newest mended) list row)
    → ListStandsIn (λ s. among s ≡ true) hidden old (present given tape) list → AreEndsStanding old (present given tape) list
    → RowsStandIn (λ s. among s ≡ true) hidden (relied_sector old.newest (Some mended)) old (present given tape) list
    → RowsStandIn (λ s. among s ≡ true) hidden (relied_sector old.newest (Some (mended + 1))) new (present given tape') list

-- ---- why it isn't mended

-- What is told is right by a history by which a resync is pending, and what is missing gone.
not-mended-right : (world : World) (before : List Entry) (given : Given) (m : Members) (shape : Shape) → IsPlaced given m → IsInForce m.newest shape → AreToldGone world before m
    → tolerance_of (level_at world before) ≡ tolerance (shape_of m.newest) → is_unsynced world before ≡ true → (refusal : Refusal) → IsNotSynced shape m refusal → IsRefusedRight world before refusal
not-mended-right world before given m shape placed force gone level pending refusal (inl many) = refused-right world before given m placed gone level refusal many
not-mended-right world before given m shape placed force gone level pending refusal (inr (able, lacked)) =
    subst (λ (r : Refusal). IsRefusedRight world before r) (sym lacked.1)
    (gone lacked.0 (let lt = lacked.4.0 in let disks = force-disks m.newest placed.fit shape force in omega (arith, lt, disks)) lacked.3, pending)

-- A call that is refused so before any device is touched keeps the record.
pub untried-moves : (tells : Type 0) (given : Given) (tape : List Operation) (scope : Scope) (first : ℕ) (entries : List Entry) (m : Members) (carried : ℕ → ℕ → Bool)
    (resync : Option ℕ) (course : Course) (buffer : List ℕ) (left : ℕ) (who : Who) (end mended : ℕ) (refusal : Refusal)
    → IsMoving tells given tape scope first entries m carried resync course buffer left → IsCallGoing entries who → IsFalse (who.caller == 254) → (tells → end ≡ length tape)
    → resync ≡ Some mended → mended < resync_stripes m.newest → IsNotSynced (resync_shape m.newest mended) m refusal
    → IsMoving tells given tape scope first (entries ++ entries_of who end (Refused refusal ∷ [])) m carried resync course buffer left
untried-moves tells given tape scope first entries m carried resync course buffer left who end mended refusal was goes caller at_end waits below why =
    resting-moves tells given tape scope first entries m carried resync course buffer left who end (Refused refusal) was goes caller at_end (quiet-refusal refusal) (λ told is. is)
    (λ t right. not-mended-right (world_in given tape scope first) entries given m (resync_shape m.newest mended) was.members_are.placed (is-next m.newest was.members_are.placed.fit mended below).force
    (was.gone t right) (was.levelled t right) (was.pending t ∙ ap (λ (o : Option ℕ). is_some o) waits) refusal why)

-- ---- a stripe that was tried

-- where no window is entered, nothing is hidden
aside-shown : (window : Window) → IsAside window → (x : ℕ) → covers (hidden_in window) x ≡ false
aside-shown Closed aside x = refl
aside-shown (Entered span copied sectioned) aside x = absurd aside
aside-shown (Unsure span) aside x = refl

module _ (tells : Type 0) (given : Given) (tape tape' : List Operation) (scope : Scope) (first : ℕ) (entries : List Entry) (old new : Members) (carried : ℕ → ℕ → Bool)
    (resync : Option ℕ) (course : Course) (buffer : List ℕ) (left : ℕ) (who : Who) (end roles spares mended : ℕ)
    (was : IsMoving tells given tape scope first entries old carried resync course buffer left) (does : DoWithout old) (goes : IsCallGoing entries who) (caller : IsFalse (who.caller == 254))
    (at_end : tells → end ≡ length tape') (waits : resync ≡ Some mended) (aside : IsAside course.window) (below : mended < resync_stripes old.newest)
    (did : IsResyncingMoving tells given tape tape' old new mended roles) where
  live : HasLiveSlot old
  live = without-left given old was.members_are.placed was.members_are.unlost does

  was-dirty : is_clean old.newest ≡ false
  was-dirty = was.dirty does (ap (λ (o : Option ℕ). is_some o) waits)

  clean : is_clean new.newest ≡ is_clean old.newest
  clean = did.dirty ∙ sym was-dirty

  -- the stripe's sectors are shown
  shown : (x : ℕ) → relied_sector old.newest (Some mended) ≤ x → x < relied_sector old.newest (Some (mended + 1)) → IsShown (hidden_in course.window) old.newest x
  shown x low high = record {
    within = (let most = relied-within old.newest was.members_are.placed.fit (mended + 1) (omega (arith, below)) in omega (arith, high, most));
    outside = aside-shown course.window aside x;
  }

  -- the shapes that do without what is missing behind it
  abbrev tolerated : Shape → Bool
  tolerated shape = nat_le (lacking shape new) (tolerance shape)

  is-tolerated : (shape : Shape) → DoesWithout shape new → tolerated shape ≡ true
  is-tolerated shape few = le-is (lacking shape new) (tolerance shape) few
    where
      le-is : (a b : ℕ) → a ≤ b → nat_le a b ≡ true
      le-is a b le = grind (arith, nat_tests, le)

  tolerated-is : (shape : Shape) → tolerated shape ≡ true → DoesWithout shape new
  tolerated-is shape is = is-le (lacking shape new) (tolerance shape) is
    where
      is-le : (a b : ℕ) → nat_le a b ≡ true → a ≤ b
      is-le a b is = grind (arith, nat_tests, is)

  -- ---- what stands

  -- by these shapes the list does, and each row that stood
  mending : tells → (list : ℕ → Sector) → IsResyncing (λ shape. DoesWithout shape new) old new course mended (present given tape) (present given tape') list
  mending t list = record {
    others = did.others t;
    stands = λ before x slot own. did.stands t tolerated tolerated-is (hidden_in course.window) list (λ y slot own. before y slot (tolerated-is (shape_for old.newest y) own)) x slot (is-tolerated (shape_for new.newest x) own);
    tail = λ own. did.tail own t list;
    ends = λ own. did.ends own t list;
    kept = λ before x near own. did.kept t tolerated (hidden_in course.window) list (λ y near own. before y near (tolerated-is (shape_for old.newest y) own)) x near (is-tolerated (shape_for new.newest x) own);
  }

  -- before it, by these shapes
  stood : tells → (l : HasListInCourse (OpensFit (world_in given tape scope first)) old resync course buffer (present given tape) (now (opening_list (world_in given tape scope first)) entries))
      → StandsSynced (OpensFit (world_in given tape scope first)) (λ shape. DoesWithout shape new) (Some mended) old course buffer (present given tape) l.list
  stood t l = subst (λ (o : Option ℕ). StandsSynced (OpensFit (world_in given tape scope first)) (λ shape. DoesWithout shape new) o old course buffer (present given tape) l.list) waits
      (mended-later (OpensFit (world_in given tape scope first)) given old new resync course buffer (present given tape) l.list did.moved l.stands)

  keeps : (t : tells) (told : Ledger) → IsFilledRight (world_in given tape scope first) entries → IsMoreTold (told_now (world_in given tape scope first) carried true entries) told
      → HasRoomLeft old tape tape' → AreGoneTold told new → IsUncleanTold told old → IsSafeOver (world_in given tape scope first) given told old tape → KeepsSafe (world_in given tape scope first) given told new tape tape'
  keeps t told fills more room gone unclean before =
      let l = was.listed t fills in
      did.safe t (world_in given tape scope first) told room gone (unclean was-dirty) (hidden_in course.window) l.list shown
      (λ x slot own. l.stands.in_course.stands x slot (does-for old does x)) (λ is. l.stands.in_course.tail does.final)
      (λ x lt. more.values x (within x lt) (l.list x) (subst (λ (v : Sector). IsIn (values_of (opening_list (world_in given tape scope first)) entries x) v) (sym (l.is x lt))
      (newest-in (opening_list (world_in given tape scope first)) entries x (within x lt))))
      (λ fit x tail. l.stands.in_course.zeros tail.forth x tail.past) before
    where
      within : (x : ℕ) → x < list_length old.newest → x < length_of (length (opening_list (world_in given tape scope first))) entries
      within x lt = let size = (was.recorded t).sized in omega (arith, lt, size)

  list-same : list_length new.newest ≡ list_length old.newest
  list-same = list-alike old.newest new.newest did.moved.reshape did.moved.shape did.moved.size

  -- ---- it is mended

  pub mended-moves : (steps : ℕ) → left ≡ steps + 1 → steps ≢ 0 → DoWithout new → AreRowsSynced tells given tape tape' old new mended
      → IsMoving tells given tape' scope first (entries ++ entries_of who end (losses_of roles spares ++ Step ResyncStripe steps ∷ [])) new carried (Some (mended + 1)) course buffer steps
  mended-moves steps one some can mends =
      quiet-moves tells given tape tape' scope first entries old new carried resync (Some (mended + 1)) course course buffer buffer left steps who end roles spares (Step ResyncStripe steps)
      was live goes caller at_end did.grows (quiet-step ResyncStripe steps tt some) (reshaping-moved scope given old new did.moved was.members_are)
      (record {
        progress = subst (λ (n : ℕ). mended + 1 ≤ n) (sym (mends-alike old.newest new.newest did.moved.reshape did.moved.shape did.moved.size)) (omega (arith, below));
        beside = inl aside;
        dirty = λ able is. did.dirty;
      })
      (sym (ap (λ (o : Option ℕ). is_some o) waits)) (few-roles new.newest did.moved.placed.fit.valid) (missing-moved roles did.moved did.since) list-same (ap (λ (s : Shape). s.level) did.moved.shape) clean
      (course-moved given old new course did.moved was.course_is)
      (λ t on. stored-kept scope given old new course.window buffer (disk given.start tape) (disk given.start tape') was.members_are did.moved (did.unused t) (was.stored t on))
      (told-step entries who end (losses_of roles spares) ResyncStripe steps (losses-are roles spares))
      (λ t. record {
        rise = did.rise t;
        keeps = keeps t;
        listed = λ fills.
            let l = was.listed t fills in
            record {
              list = l.list;
              is = λ x lt. l.is x (subst (λ (n : ℕ). x < n) list-same lt);
              stands = (mends-go-on (OpensFit (world_in given tape scope first)) (λ shape. DoesWithout shape new) given old new course mended buffer (present given tape) (present given tape') l.list
                  was.members_are.placed did.moved was.course_is aside below (mending t l.list) (stood t l)).1 own (done t l.list);
            };
        legal = λ fills gone level. step-is (world_in given tape' scope first) (entries ++ entries_of who end (losses_of roles spares)) (entry_of who end (Step ResyncStripe steps)) ResyncStripe steps
            (told-behind (steps + 1) entries who end (losses_of roles spares) (losses-are roles spares) (subst (λ (n : ℕ). IfSome (told_left entries) (λ k. k ≡ n)) one was.left_told));
      })
    where
      own : DoesWithout (low_shape old.newest) new
      own = subst (λ (s : Shape). DoesWithout s new) (low-alike old.newest new.newest did.moved.reshape did.moved.shape did.moved.size) (does-for new can 0)

      done : tells → (list : ℕ → Sector) → IsSynced (λ shape. DoesWithout shape new) old new course mended (present given tape) (present given tape') list
      done t list whole stands ends rows x near own = mends t tolerated (hidden_in course.window) list shown whole (λ y slot own. stands y slot (tolerated-is (shape_for old.newest y) own)) ends
          (λ y near own. rows y near (tolerated-is (shape_for old.newest y) own)) x near (is-tolerated (shape_for new.newest x) own)

  -- ---- it isn't

  pub unmended-moves : (refusal : Refusal) → IsNotSynced (resync_shape old.newest mended) new refusal
      → IsMoving tells given tape' scope first (entries ++ entries_of who end (losses_of roles spares ++ Refused refusal ∷ [])) new carried resync course buffer left
  unmended-moves refusal why =
      quiet-moves tells given tape tape' scope first entries old new carried resync resync course course buffer buffer left left who end roles spares (Refused refusal)
      was live goes caller at_end did.grows (quiet-refusal refusal) (reshaping-moved scope given old new did.moved was.members_are)
      (resync-moved did.moved (λ is dirty. did.dirty) was.beside (resync-of was)) refl (few-roles new.newest did.moved.placed.fit.valid) (missing-moved roles did.moved did.since) list-same
      (ap (λ (s : Shape). s.level) did.moved.shape) clean (course-moved given old new course did.moved was.course_is)
      (λ t on. stored-kept scope given old new course.window buffer (disk given.start tape) (disk given.start tape') was.members_are did.moved (did.unused t) (was.stored t on))
      (left-more left entries who end (losses_of roles spares ++ Refused refusal ∷ []) was.left_told (left-behind left who end (losses_of roles spares) (Refused refusal ∷ []) (losses-are roles spares) (λ told is. is)))
      (λ t. record {
        rise = did.rise t;
        keeps = keeps t;
        listed = λ fills.
            let l = was.listed t fills in
            record {
              list = l.list;
              is = λ x lt. l.is x (subst (λ (n : ℕ). x < n) list-same lt);
              stands = subst (λ (o : Option ℕ). StandsSynced (OpensFit (world_in given tape scope first)) (λ shape. DoesWithout shape new) o new course buffer (present given tape') l.list) (sym waits)
                  (mends-go-on (OpensFit (world_in given tape scope first)) (λ shape. DoesWithout shape new) given old new course mended buffer (present given tape) (present given tape') l.list
                  was.members_are.placed did.moved was.course_is aside below (mending t l.list) (stood t l)).0;
            };
        legal = λ fills gone level. not-mended-right (world_in given tape' scope first) (entries ++ entries_of who end (losses_of roles spares)) given new (resync_shape old.newest mended) did.moved.placed
            (alike-force old.newest new.newest did.moved.reshape did.moved.shape did.moved.size (resync_shape old.newest mended) (is-next old.newest was.members_are.placed.fit mended below).force) gone
            (ap tolerance_of level ∙ was.levelled t fills ∙ ap tolerance (sym did.moved.shape)) (pending t) refusal why;
      })
    where
      -- a resync is pending behind the losses
      pending : tells → is_unsynced (world_in given tape' scope first) (entries ++ entries_of who end (losses_of roles spares)) ≡ true
      pending t =
          let g = did.grows.more t in
          ap (λ (l : List Operation). is_unsynced (world_in given l scope first) (entries ++ entries_of who end (losses_of roles spares))) g.1
          ∙ unsynced-grown (world_in given tape scope first) g.0 (was.recorded t).begun (entries ++ entries_of who end (losses_of roles spares))
          ∙ unsynced-more (world_in given tape scope first) entries (entries_of who end (losses_of roles spares))
          (subst (λ (l : List Event). list_any (λ e. is_resync_end e.event) (entries_of who end l) ≡ false) (append-nil (losses_of roles spares)) (ends-losses who end (losses_of roles spares) [] (losses-are roles spares)))
          ∙ was.pending t ∙ ap (λ (o : Option ℕ). is_some o) waits

-- ---- its end

module _ (tells : Type 0) (given : Given) (tape tape' : List Operation) (scope : Scope) (first : ℕ) (entries : List Entry) (old new : Members) (carried : ℕ → ℕ → Bool)
    (resync : Option ℕ) (course : Course) (buffer : List ℕ) (left : ℕ) (who : Who) (end roles spares : ℕ)
    (was : IsMoving tells given tape scope first entries old carried resync course buffer left) (does : DoWithout old) (goes : IsCallGoing entries who) (caller : IsFalse (who.caller == 254))
    (at_end : tells → end ≡ length tape') (grows : Grows tells tape tape') (all : resync ≡ Some (resync_stripes old.newest)) (did : AreFlushed tells given tape tape' old new roles false) where
  -- none is pending any more
  pub resynced-moves : (steps : ℕ) → left ≡ steps + 1 → steps ≢ 0 → AreSettled tells given tape tape' old new false
      → IsMoving tells given tape' scope first (entries ++ entries_of who end (losses_of roles spares ++ Step ResyncEnded steps ∷ [])) new carried None course buffer steps
  resynced-moves steps one some done =
      settled-moves tells given tape tape' scope first entries old new carried resync course buffer left who end roles spares false was
      (without-left given old was.members_are.placed was.members_are.unlost does) goes caller at_end grows did (λ is. absurd (cc)) (λ is. inr all)
      None steps (Step ResyncEnded steps) done (record { gives = refl; level = λ n. refl; length = λ n. refl; newest = λ x values has. has; same = λ x values. refl; none = λ x. refl })
      refl (not-zero steps some) (record { progress = tt; beside = inr tt; dirty = λ able is. absurd (cc) }) refl (λ t. ended (is_unsynced (world_in given tape scope first) entries))
      (told-step entries who end (losses_of roles spares) ResyncEnded steps (losses-are roles spares))
      (λ sound c list. all-stand sound (λ shape. DoesWithout shape new) resync new course buffer c list did.moved.placed.fit
      (inr (all ∙ ap (λ (n : ℕ). Some n) (sym (mends-alike old.newest new.newest did.moved.reshape did.moved.shape did.moved.size)))))
      (λ t. step-is (world_in given tape' scope first) (entries ++ entries_of who end (losses_of roles spares)) (entry_of who end (Step ResyncEnded steps)) ResyncEnded steps
      (told-behind (steps + 1) entries who end (losses_of roles spares) (losses-are roles spares) (subst (λ (n : ℕ). IfSome (told_left entries) (λ k. k ≡ n)) one was.left_told)))
    where
      ended : (b : Bool) → (b && false) ≡ false
      ended true = refl
      ended false = refl

      not-zero : (n : ℕ) → n ≢ 0 → (n == 0) ≡ false
      not-zero n ne = grind (arith, nat_tests, ne)

  -- or it is refused, since too many are missing
  pub unresynced-moves : (refusal : Refusal) → AreTooMany new refusal
      → IsMoving tells given tape' scope first (entries ++ entries_of who end (losses_of roles spares ++ Refused refusal ∷ [])) new carried resync course buffer left
  unresynced-moves = unsettled-moves tells given tape tape' scope first entries old new carried resync course buffer left who end roles spares false was
      (without-left given old was.members_are.placed was.members_are.unlost does) goes caller at_end grows did (λ is. absurd (cc)) (λ is. inr all)
