-- A level is taken over in an array that keeps its record: what is told then, and that each mark of the call is safe by what was told before it or with it.
use Rattle.std.proofs.Common.{◌≡◌, ◌⊎◌, inl, inr, ℕ, ◌+◌, ◌-◌, ◌<◌, ◌≤◌, ◌==◌, ◌||◌, Bool, true, false, cond, Option, Some, None, List, [], ◌∷◌, ◌++◌, length, refl, sym, ◌∙◌, ap, subst, arith, append-nil}
use Rattle.std.specs.Prelude.{IsFalse, IfSome, fold, slice_index_or, ⊤}
use Rattle.std.specs.Bool.{OnTrue}
use Rattle.std.specs.List.{list_any, list_all}
use Rattle.std.specs.Option.{option_map_or}
use Rattle.std.proofs.lemmas.Bool.Decides.{nat_tests}
use Rattle.std.proofs.lemmas.List.Folds.{list_any-append}
use Rattle.std.proofs.lemmas.List.Sums.{fold-append}
use Rattle.array_reshaping_end_laws.specs.raid_types_Sectors.{Sector}
use Rattle.array_reshaping_end_laws.specs.raid_types_Shapes.{tolerance, tolerance_of}
use Rattle.array_reshaping_end_laws.specs.raid_types_the_Who.{Who}
use Rattle.array_reshaping_end_laws.specs.raid_types_the_Shape.{Shape}
use Rattle.array_reshaping_end_laws.specs.bank_the_Operation.{Operation}
use Rattle.array_reshaping_end_laws.specs.bank_Given.{Given}
use Rattle.array_reshaping_end_laws.specs.bank_Tape.{IsIn, disk}
use Rattle.array_reshaping_end_laws.specs.sb_codec_the_Sb.{Sb}
use Rattle.array_reshaping_end_laws.specs.sb_specs_the_Members.{Members}
use Rattle.array_reshaping_end_laws.specs.sb_specs_Reading.{Scope, Reading, reading, is_reshaping, shape_of, final_shape, list_length, role_count}
use Rattle.array_reshaping_end_laws.specs.stripe_row_Rows.{reading_of, present, is_missing}
use Rattle.array_reshaping_end_laws.specs.history_the_Entry.{Entry}
use Rattle.array_reshaping_end_laws.specs.history_the_Event.{Event}
use Rattle.array_reshaping_end_laws.specs.history_the_Event_TheVariants.{Lost, SpareLost, Step}
use Rattle.array_reshaping_end_laws.specs.history_the_LostCause_TheVariants.{Fault}
use Rattle.array_reshaping_end_laws.specs.history_the_StepKind_TheVariants.{TakenOver}
use Rattle.array_reshaping_end_laws.specs.history_Epochs.{HasRoomForEvents}
use Rattle.array_reshaping_end_laws.specs.history_Flat.{length_of, values_of, values_after, now}
use Rattle.array_reshaping_end_laws.specs.history_Legal.{call_before, disturbs, level_after, level_at, told_left}
use Rattle.array_reshaping_end_laws.specs.history_Losses.{is_gone_after, is_this, is_unsynced, last_of_six, loses, takes, unsettles}
use Rattle.array_reshaping_end_laws.specs.history_OneShape.{is_lost, is_unsettled}
use Rattle.array_reshaping_end_laws.specs.history_Plain.{entries_of}
use Rattle.array_reshaping_end_laws.specs.history_Reshaped.{behind, comes_with_step, open_plans, ArePlansDone, IsConsistentAt, IsReshapedBy}
use Rattle.array_reshaping_end_laws.specs.history_Sound.{OpensFit}
use Rattle.array_reshaping_end_laws.specs.history_World.{World, reading_at, opening_list}
use Rattle.array_reshaping_end_laws.proofs.history_SoundLaws.{fit-before}
use Rattle.array_reshaping_end_laws.specs.crash_views_Regions.{DoWithout}
use Rattle.array_reshaping_end_laws.specs.crash_views_Views.{Ledger}
use Rattle.array_reshaping_end_laws.proofs.crash_views_Alike.{shape-alike}
use Rattle.array_reshaping_end_laws.proofs.crash_views_Stands.{final-still}
use Rattle.array_reshaping_end_laws.specs.crash_safety_laws_Changing.{IsSafeChange}
use Rattle.array_reshaping_end_laws.specs.crash_safety_laws_Marking.{AreOthersPresent}
use Rattle.array_reshaping_end_laws.specs.crash_safety_laws_Safety.{HasLiveSlot, HasRoomLeft, IsRisen}
use Rattle.array_reshaping_end_laws.specs.crash_safety_laws_Steady.{AreUnlost, IsMoreTold, IsSafeOver, IsNamedNow, AreGoneTold}
use Rattle.array_reshaping_end_laws.proofs.crash_safety_laws_Steady.{held-read}
use Rattle.array_reshaping_end_laws.specs.crash_reshape_laws_Ends.{IsToldWith}
use Rattle.array_reshaping_end_laws.specs.array_members_Moving.{IsMoved}
use Rattle.array_reshaping_end_laws.proofs.array_members_Fit.{list-alike, count-alike, valid}
use Rattle.array_reshaping_end_laws.proofs.array_members_HeldRows.{missing-moved}
use Rattle.array_reshaping_end_laws.proofs.array_members_SoundViews.{throughout-changed}
use Rattle.array_reshaping_end_laws.specs.history_append_Losing.{losses_of}
use Rattle.array_reshaping_end_laws.proofs.history_append_CallLaws.{AreLossEvents, losses-are}
use Rattle.array_reshaping_end_laws.specs.history_invariant_Recorded.{IsHistoryKept, IsLegalCall, IsReshapedCall, IsCallGoing, entry_of, ends_reshape, gives_some}
use Rattle.array_reshaping_end_laws.specs.history_invariant_Safe.{world_in, IsFilledRight, IsSafeHistory}
use Rattle.array_reshaping_end_laws.specs.history_invariant_Told.{told_now, told_by}
use Rattle.array_reshaping_end_laws.proofs.history_invariant_Calls.{now-live}
use Rattle.array_reshaping_end_laws.proofs.history_invariant_Entered.{AreAdding, told-adding, settle-none, values-more, values-adding, length-adding, gone-was, gone-lost}
use Rattle.array_reshaping_end_laws.proofs.history_invariant_Growing.{reading-grown, opening-grown, gone-grown, unsynced-grown, now-grown, room-before, room-now}
use Rattle.array_reshaping_end_laws.proofs.history_invariant_KeptCalls.{kept-call}
use Rattle.array_reshaping_end_laws.proofs.history_invariant_Ledgers.{any-gone, unclean-now}
use Rattle.array_reshaping_end_laws.proofs.history_invariant_Lengths.{now-drawn}
use Rattle.array_reshaping_end_laws.proofs.history_invariant_Longer.{regains-none}
use Rattle.array_reshaping_end_laws.proofs.history_invariant_Reshapes.{call-ends_none}
use Rattle.array_reshaping_end_laws.proofs.history_invariant_Tests.{or-left, or-right}
use Rattle.array_reshaping_end_laws.proofs.history_invariant_Turned.{filled-before}
use Rattle.array_reshaping_end_laws.proofs.history_invariant_Turns.{either-call}
use Rattle.array_reshaping_end_laws.specs.history_invariant_laws_Reliable.{IsReliable, AreToldGone, IsNonePast}
use Rattle.array_reshaping_end_laws.proofs.history_invariant_laws_Behind.{IsAmong, early-losses, inner-of, legal-losses}
use Rattle.array_reshaping_end_laws.proofs.history_invariant_laws_Plans.{behind-all, ArePlannedTo, plans-done}
use Rattle.array_reshaping_end_laws.specs.array_reshaping_invariant_Moving.{HasListStill, IsStillKept}
use Rattle.array_reshaping_end_laws.proofs.array_reshaping_invariant_Beginning.{safe-over}
use Rattle.array_reshaping_end_laws.proofs.Consistent.{consistent-at}
use Rattle.array_reshaping_end_laws.proofs.Ended.{disturbs-entries}
use Rattle.array_reshaping_end_laws.proofs.array_call_specs_LedgerLaws.{none-ends, unsynced-more}
use Rattle.array_reshaping_end_laws.proofs.history_laws_OneShapeGrowing.{call-ends}
use Rattle.array_takeover_laws.proofs.TakenMembers.{IsTaken, still-then, taken-then, taken-long, stands-then, rows-then}

-- What the takeover of a level leaves: its members are the plan's, but for lost slots; its update is safe from one ledger to another; and what is missing then was missing, or is told lost, or is
-- the last role of level 6, that a live slot recovers.
pub record IsTakingCall (given : Given) (tape : List Operation) (scope : Scope) (first : ℕ) (old plan new : Members) (roles : ℕ) (tape' : List Operation) : Type 0 where
  pub way : IsTaken old plan
  pub unlost_before : AreUnlost old
  pub unlost : AreUnlost new
  pub moved : IsMoved given plan new
  pub clean : new.newest.resync_offset ≡ old.newest.resync_offset
  pub live : HasLiveSlot old
  pub enough : DoWithout old
  pub within : (role : ℕ) → IsAmong roles role → role < 16
  pub since : (role : ℕ) → role < role_count new.newest → is_missing (reading_of new) role ≡ true
      → ((role < role_count old.newest) × (is_missing (reading_of old) role ≡ true)) ⊎ (IsAmong roles role ⊎ (((shape_of new.newest).level ≡ 6) × ((shape_of new.newest).disks - 1 ≡ role) × HasLiveSlot new))
  pub rise : IsRisen ⊤ old new tape tape'
  pub others : AreOthersPresent (present given tape) (present given tape')
  pub safe : (told more : Ledger) → HasRoomLeft old tape tape' → IsToldWith told more plan → AreGoneTold told old → AreGoneTold more new → ((slot number : ℕ) → told.carried slot number ≡ true → more.carried slot number ≡ true)
      → IsSafeOver (world_in given tape scope first) given told old tape → IsSafeChange (OpensFit (world_in given tape scope first)) scope given told more new tape tape'

-- losses come with a step
come-losses : (xs : List Event) → AreLossEvents xs → list_all comes_with_step xs ≡ true
come-losses [] are = refl
come-losses (Lost role Fault ∷ xs) are = come-losses xs are
come-losses (SpareLost slot ∷ xs) are = come-losses xs are
come-losses (event ∷ xs) are = absurd are

-- a level that has another tolerance is turned
turned-up : (level : ℕ) → tolerance_of level ≡ 1 → (level == 6) ≡ false
turned-up level is = of (level == 6) refl is
  where
    of : (b : Bool) → (level == 6) ≡ b → ◌≡◌ {A = ℕ} (cond b 2 1) 1 → b ≡ false
    of true e is = absurd (omega (arith, is))
    of false e is = refl

turned-down : (level : ℕ) → tolerance_of level ≡ 2 → (level == 6) ≡ true
turned-down level is = of (level == 6) refl is
  where
    of : (b : Bool) → (level == 6) ≡ b → ◌≡◌ {A = ℕ} (cond b 2 1) 2 → b ≡ true
    of true e is = refl
    of false e is = absurd (omega (arith, is))

module _ (given : Given) (tape : List Operation) (scope : Scope) (first : ℕ) (entries : List Entry) (old plan new : Members) (carried : ℕ → ℕ → Bool) (who : Who) (steps left roles spares : ℕ) (ops : List Operation)
    (tells : Type 0) (was : IsStillKept tells given tape scope first entries old carried) (t : tells) (steps_told : IfSome (told_left entries) (λ n. n ≡ steps))
    (stepped : (steps ≡ left + 1) ⊎ (list_any disturbs (losses_of roles spares) ≡ true))
    (planned : IsReliable (world_in given tape scope first) entries → left ≡ 0 → ArePlannedTo (world_in given tape scope first) (shape_of new.newest) (open_plans entries))
    (call : IsTakingCall given tape scope first old plan new roles (tape ++ ops)) where
  abbrev world : World
  world = world_in given tape scope first

  abbrev later : World
  later = world_in given (tape ++ ops) scope first

  abbrev end : ℕ
  end = length (tape ++ ops)

  abbrev losses : List Event
  losses = losses_of roles spares

  abbrev entry : Entry
  entry = entry_of who (length (tape ++ ops)) (Step TakenOver left)

  abbrev more : List Entry
  more = entries_of who (length (tape ++ ops)) (losses_of roles spares)

  abbrev added : List Entry
  added = entries_of who (length (tape ++ ops)) (Step TakenOver left ∷ losses_of roles spares)

  abbrev all : List Entry
  all = entries ++ entries_of who (length (tape ++ ops)) (Step TakenOver left ∷ losses_of roles spares)

  recorded : IsHistoryKept (IsReliable world entries) world (list_length old.newest) entries
  recorded = was.recorded t

  begun : first ≤ length tape
  begun = recorded.begun

  taken : IsTaken old new
  taken = taken-then given old plan new call.way call.moved call.clean

  pub taken-still : is_reshaping new.newest ≡ false
  taken-still = still-then old new taken

  long : list_length new.newest ≡ list_length old.newest
  long = taken-long old new taken (valid given old was.placed) (valid given new call.moved.placed)

  long-plan : list_length plan.newest ≡ list_length old.newest
  long-plan = sym (list-alike plan.newest new.newest call.moved.reshape call.moved.shape call.moved.size) ∙ long

  all-but : (P : List Event → Type 0) → P (losses_of roles spares ++ []) → P (losses_of roles spares)
  all-but P holds = subst P (append-nil (losses_of roles spares)) holds

  adds-all : AreAdding added
  adds-all = all-but (λ (l : List Event). AreAdding (entries_of who end l)) ((early-losses roles spares).adds who end [] refl)

  gives-all : list_any (λ e. gives_some e.event) added ≡ false
  gives-all = all-but (λ (l : List Event). list_any (λ e. gives_some e.event) (entries_of who end l) ≡ false) ((early-losses roles spares).gives who end [] refl)

  lost-told : (role : ℕ) → role < 16 → IsAmong roles role → is_lost added role ≡ true
  lost-told role lt has = all-but (λ (l : List Event). is_lost (entries_of who end l) role ≡ true) ((early-losses roles spares).lost who end [] role lt has)

  -- ---- what is told

  pub taken-before : IsReliable later all → IsReliable world entries
  taken-before right = record {
    fills = filled-before world ops entries added begun recorded.ends right.fills;
    room = room-before world ops begun right.room;
  }

  gone-behind : (role : ℕ) → (is_gone_after later entries role || list_any (loses later role) added) ≡ true → is_gone_after later all role ≡ true
  gone-behind role is = any-gone later role entries added (regains-none later role added gives-all) is

  abbrev told : Ledger
  told = told_now world carried false entries

  abbrev with_it : Ledger
  with_it = told_now later carried false all

  -- the same, and each role is gone
  abbrev at_most : Ledger
  at_most = record (told_now later carried false all) { gone = λ role. true }

  less : IsMoreTold told (told_by later (λ slot number. true) true entries added)
  less = subst (λ (l : Ledger). IsMoreTold l (told_by later (λ slot number. true) true entries added)) (now-grown world ops begun carried false entries recorded.ends)
      (told-adding later carried (λ slot number. true) false true entries added adds-all (λ slot number is. refl) (λ is. refl))

  length-all : length_of (length (opening_list later)) all ≡ length_of (length (opening_list world)) entries
  length-all = length-adding (length (opening_list later)) entries added adds-all ∙ ap (λ (l : List Sector). length_of (length l) entries) (opening-grown world ops begun)

  values-in : (x : ℕ) (v : Sector) → IsIn (told.values x) v → IsIn (with_it.values x) v
  values-in x v may = values-adding (opening_list later) entries added adds-all x v (subst (λ (l : List Sector). IsIn (values_of l entries x) v) (sym (opening-grown world ops begun)) may)

  three : (a b c : Bool) → (a || b) ≡ true → (a || (b || c)) ≡ true
  three true b c is = refl
  three false true c is = refl
  three false false c is = absurd (cc)

  pub taken-unclean : (is_unsynced world entries || is_unsettled entries) ≡ true → (is_unsynced later all || is_unsettled all) ≡ true
  taken-unclean is = unclean-now later entries added (settle-none added adds-all)
      (three (is_unsynced later entries) (is_unsettled entries) (list_any (λ e. unsettles e.event) added) (ap (λ (b : Bool). b || is_unsettled entries) (unsynced-grown world ops begun entries) ∙ is))

  most : IsMoreTold told with_it
  most = record {
    size = sym length-all;
    values = λ x lt v may. values-in x v may;
    gone = λ role is. gone-behind role (gone-was later entries added role (gone-grown world ops entries role recorded.ends ∙ is));
    unclean = taken-unclean;
    reshaping = λ is. is;
    carried = λ slot number is. is;
  }

  plan-still : is_reshaping plan.newest ≡ false
  plan-still = sym call.moved.reshape.reshaping ∙ taken-still

  gone-old : IsReliable world entries → AreGoneTold told old
  gone-old right role lt miss = was.gone t right role lt miss

  -- ---- what is read at its end

  module _ (fills : IsFilledRight (world_in given tape scope first) entries) (room : HasRoomForEvents (world_in given (tape ++ ops) scope first)) where
    abbrev before : IsReliable (world_in given tape scope first) entries
    before = record { fills = fills; room = room-before (world_in given tape scope first) ops begun room }

    pub safe-history : IsSafeHistory ⊤ (world_in given tape scope first) given old carried false entries
    safe-history = safe-over was t call.live fills (room-before world ops begun room)

    pub change-by : (more : Ledger) → IsToldWith (told_now (world_in given tape scope first) carried false entries) more plan → AreGoneTold more new → ((slot number : ℕ) → carried slot number ≡ true → more.carried slot number ≡ true)
        → IsSafeChange (OpensFit (world_in given tape scope first)) scope given (told_now (world_in given tape scope first) carried false entries) more new tape (tape ++ ops)
    change-by more tells gone carries = call.safe told more (room-now world ops begun old safe-history.counted room) tells (gone-old before) gone carries (now-live world call.live safe-history.now)

    -- as long as a live slot is left, that is the new shape
    read-then : HasLiveSlot new → (r : Reading) × (reading scope (present given (tape ++ ops)) ≡ Some r) × (final_shape r.newest ≡ shape_of new.newest)
    read-then some = elim (change-by at_most (record {
      sized = long-plan ∙ sym recorded.sized ∙ sym length-all;
      gone = λ role lt miss. refl;
      unclean = taken-unclean;
      reshaping = λ on. absurd (let clash = sym plan-still ∙ on in cc);
      values = λ x v lt lt' may. values-in x v may;
    }) (λ role lt miss. refl) (λ slot number is. is)).next [
      | inl named ↦ by named
      | inr spent ↦ absurd (spent.none some)
    ]
      where
        by : IsNamedNow (OpensFit (world_in given tape scope first)) scope given at_most new (disk given.start (tape ++ ops)) → (r : Reading) × (reading scope (present given (tape ++ ops)) ≡ Some r) × (final_shape r.newest ≡ shape_of new.newest)
        by named =
            let said = held-read scope given named.steady.former (tape ++ ops) named.steady.since.held (present given (tape ++ ops))
            (record { eighth = λ slot seen. now-drawn given (tape ++ ops) slot 8; ninth = λ slot seen. now-drawn given (tape ++ ops) slot 9 }) in
            let same : named.steady.former.newest ≡ new.newest = ap (λ (m : Members). m.newest) (sym named.steady.since.since) in
            let still : is_reshaping said.0.newest ≡ false = sym said.2.array.reshaping ∙ ap (λ (sb : Sb). is_reshaping sb) same ∙ taken-still in
            (said.0, said.1, final-still said.0.newest still ∙ sym (shape-alike named.steady.former.newest said.0.newest said.2.array) ∙ ap (λ (sb : Sb). shape_of sb) same)

    -- so a takeover to level 6 takes the last role
    takes-last : (shape_of new.newest).level ≡ 6 → (role : ℕ) → (shape_of new.newest).disks - 1 ≡ role → HasLiveSlot new → list_any (loses later role) added ≡ true
    unfolding reading_at
    takes-last six role at some =
        let read = read-then some in
        let is_six : ((final_shape (read.0).newest).level == 6) ≡ true = six-is (final_shape (read.0).newest).level (ap (λ (s : Shape). s.level) read.2 ∙ six) in
        let here : last_of_six read.0 ≡ Some role = ap (λ (b : Bool). cond b (Some ((final_shape (read.0).newest).disks - 1)) None) is_six ∙ ap (λ (s : Shape). Some (s.disks - 1)) read.2 ∙ ap (λ (n : ℕ). Some n) at in
        or-left (takes (reading_at later end) role (Step TakenOver left)) (list_any (loses later role) more)
        (ap (λ (found : Option Reading). takes found role (Step TakenOver left)) read.1 ∙ ap (λ (o : Option ℕ). is_this o role) here ∙ self role)
      where
        six-is : (n : ℕ) → n ≡ 6 → (n == 6) ≡ true
        six-is n is = grind (arith, nat_tests, is)

        self : (n : ℕ) → (n == n) ≡ true
        self n = grind (arith, nat_tests)

    pub gone-by : AreToldGone later all new
    gone-by role lt miss = gone-behind role (elim (call.since role lt miss) [
      | inl missed ↦ gone-was later entries added role (gone-grown world ops entries role recorded.ends ∙ was.gone t before role missed.0 missed.1)
      | inr (inl has) ↦ gone-lost later entries added role (lost-told role (call.within role has) has)
      | inr (inr last) ↦ or-right (is_gone_after later entries role) (list_any (loses later role) added) (takes-last last.0 role last.1 last.2)
    ])

    pub told-with : IsToldWith (told_now (world_in given tape scope first) carried false entries) (told_now later carried false all) plan
    told-with = record {
      sized = long-plan ∙ sym recorded.sized ∙ sym length-all;
      gone = λ role lt miss. gone-by role (subst (λ (n : ℕ). role < n) (sym (count-alike plan.newest new.newest call.moved.reshape call.moved.shape call.moved.size)) lt) (missing-moved call.moved role miss);
      unclean = taken-unclean;
      reshaping = λ on. absurd (let clash = sym plan-still ∙ on in cc);
      values = λ x v lt lt' may. values-in x v may;
    }

    pub change : IsSafeChange (OpensFit (world_in given tape scope first)) scope given (told_now (world_in given tape scope first) carried false entries) (told_now later carried false all) new tape (tape ++ ops)
    change = change-by with_it told-with gone-by (λ slot number is. is)

  pub taken-gone : IsReliable later all → AreToldGone later all new
  taken-gone right = let early = taken-before right in gone-by early.fills right.room

  -- ---- the level

  level-turned : level_at later all ≡ cond (level_at world entries == 6) 5 6
  level-turned =
      ap (λ (found : Option Reading). fold (λ level e. level_after level e.event) (option_map_or (λ r. r.newest.level) found 5) all) (reading-grown world ops first begun)
      ∙ fold-append (λ level e. level_after level e.event) (option_map_or (λ r. r.newest.level) (reading_at world world.first) 5) entries added
      ∙ all-but (λ (l : List Event). fold (λ level e. level_after level e.event) (cond (level_at world entries == 6) 5 6) (entries_of who end l) ≡ cond (level_at world entries == 6) 5 6)
      ((early-losses roles spares).level who end [] (cond (level_at world entries == 6) 5 6))

  pub taken-levelled : IsReliable later all → tolerance_of (level_at later all) ≡ tolerance (shape_of new.newest)
  taken-levelled right = ap tolerance_of level-turned ∙ by taken
    where
      former : tolerance_of (level_at world entries) ≡ tolerance (shape_of old.newest)
      former = was.levelled t (taken-before right)

      by : IsTaken old new → tolerance_of (cond (level_at world entries == 6) 5 6) ≡ tolerance (shape_of new.newest)
      by (inl up) =
          ap (λ (b : Bool). tolerance_of (cond b 5 6)) (turned-up (level_at world entries) (former ∙ ap tolerance_of up.five)) ∙ sym (ap (λ (s : Shape). tolerance s) up.shape)
      by (inr down) =
          ap (λ (b : Bool). tolerance_of (cond b 5 6)) (turned-down (level_at world entries) (former ∙ ap (λ (s : Shape). tolerance s) down.shape)) ∙ sym (ap tolerance_of down.five)

  -- a resync is as pending
  pub taken-unsynced : is_unsynced later all ≡ is_unsynced world entries
  taken-unsynced = unsynced-grown world ops begun all ∙ unsynced-more world entries added (none-ends added (settle-none added adds-all))

  -- ---- the list

  values-same : (x : ℕ) → values_of (opening_list later) all x ≡ values_of (opening_list world) entries x
  values-same x =
      ap (λ (l : List Sector). values_of l all x) (opening-grown world ops begun) ∙ values-more (opening_list world) entries added x
      ∙ all-but (λ (l : List Event). fold (λ values e. values_after x values e.event) (values_of (opening_list world) entries x) (entries_of who end l) ≡ values_of (opening_list world) entries x)
      ((early-losses roles spares).values who end [] x (values_of (opening_list world) entries x))

  pub now-same : (x : ℕ) → now (opening_list later) all x ≡ now (opening_list world) entries x
  now-same x = ap (λ (l : List Sector). slice_index_or l 0 []) (values-same x)

  pub taken-past : IsNonePast later all (list_length new.newest)
  taken-past fills x le = values-same x ∙ was.past t (filled-before world ops entries added begun recorded.ends fills) x (let same = long in omega (arith, same, le))

  before-list : IsFilledRight later all → HasListStill (OpensFit world) old (present given tape) (now (opening_list world) entries)
  before-list fills = was.listed t call.enough (filled-before world ops entries added begun recorded.ends fills)

  pub taken-listed : IsFilledRight later all → HasListStill (OpensFit later) new (present given (tape ++ ops)) (now (opening_list later) all)
  taken-listed fills =
      let l = before-list fills in
      record {
        list = l.list;
        is = λ x lt. l.is x (let same = long in omega (arith, lt, same)) ∙ sym (now-same x);
        zeros = λ x past. l.zeros x (let same = long in omega (arith, past, same));
        stands = stands-then scope given old new taken was.placed call.unlost_before call.moved.placed (present given tape) (present given (tape ++ ops)) l.list call.others l.stands;
        rows = λ fit. rows-then scope given old new taken was.placed call.unlost_before call.moved.placed (present given tape) (present given (tape ++ ops)) l.list call.others (l.rows (fit-before world ops begun fit));
      }

  -- ---- the history

  known : (b : Bool) (o : Option ℕ) → steps ≡ left + 1 → IfSome o (λ n. n ≡ steps) → IfSome (cond b None o) (λ n. left + 1 ≡ n)
  known true o one is = tt
  known false None one is = tt
  known false (Some n) one is = sym (is ∙ one)

  unknown : (b : Bool) → b ≡ true → (o : Option ℕ) → IfSome (cond b None o) (λ n. left + 1 ≡ n)
  unknown true is o = tt
  unknown false is o = absurd (cc)

  pub taken-legal : IsLegalCall later entries who end (Step TakenOver left ∷ losses_of roles spares)
  taken-legal = (
    elim stepped [
      | inl one ↦ known (list_any (λ e. disturbs e.event) (call_before entries entry ++ more)) (told_left entries) one steps_told
      | inr lost ↦ unknown (list_any (λ e. disturbs e.event) (call_before entries entry ++ more))
          (list_any-append (λ e. disturbs e.event) (call_before entries entry) more ∙ or-right (list_any (λ e. disturbs e.event) (call_before entries entry)) (list_any (λ e. disturbs e.event) more) (disturbs-entries who end losses ∙ lost))
          (told_left entries)
    ],
    inner-of who end (Step TakenOver left) tt (losses_of roles spares),
    all-but (λ (l : List Event). IsLegalCall later (entries ++ entry ∷ []) who end l) (legal-losses later (entries ++ entry ∷ []) who end (losses_of roles spares) [] (losses-are roles spares) tt),
  )

  is-zero : (n : ℕ) → (n == 0) ≡ true → n ≡ 0
  is-zero n is = grind (arith, nat_tests, is)

  consistent : IsReliable later all → OpensFit later → IsConsistentAt later (entries ++ entry ∷ more) end (shape_of new.newest)
  unfolding before-list taken-listed
  consistent right fit =
      let early = taken-before right in
      consistent-at (OpensFit world) later given all told with_it new tape (tape ++ ops) (before-list right.fills).list call.moved.placed call.unlost taken-still refl (taken-gone right) (change early.fills right.room)
      (λ does. (taken-listed right.fills).rows fit)

  step-right : IsReliable later all → OpensFit later → IsReshapedBy later entries entry more
  step-right right fit = record {
    finished = tt;
    plans = of (left == 0) refl;
  }
    where
      comes : behind comes_with_step entry more ≡ more
      comes = behind-all comes_with_step who end (Step TakenOver left) (losses_of roles spares) (come-losses (losses_of roles spares) (losses-are roles spares))

      of : (b : Bool) → (left == 0) ≡ b → OnTrue b (ArePlansDone later entries entry (behind comes_with_step entry more) (open_plans entries))
      of false is = tt
      of true is = subst (λ (l : List Entry). ArePlansDone later entries entry l (open_plans entries)) (sym comes)
          (plans-done world ops entries entry more (shape_of new.newest) (consistent right fit) entries recorded.ends (planned (taken-before right) (is-zero left is)))

  pub taken-right : IsReliable later all → OpensFit later → IsReshapedCall later entries who end (Step TakenOver left ∷ losses_of roles spares)
  taken-right right fit = (
    step-right right fit,
    call-ends_none later (entries ++ entry ∷ []) who end (losses_of roles spares) (all-but (λ (l : List Event). list_any ends_reshape l ≡ false) ((early-losses roles spares).ends [] refl)),
  )

  pub taken-recorded : (goes : IsCallGoing entries who) → IsFalse (who.caller == 254) → IsHistoryKept (IsReliable later all) later (list_length new.newest) all
  taken-recorded goes caller =
      kept-call (IsReliable world entries) (IsReliable later all) world ops (list_length old.newest) (list_length new.newest) entries who (Step TakenOver left ∷ losses_of roles spares) goes recorded taken-before caller
      (λ right. inr gives-all)
      (length-adding (length (opening_list world)) entries added adds-all ∙ recorded.sized ∙ sym long) (call-ends first entries who end (Step TakenOver left) (losses_of roles spares))
      (λ right. taken-legal) taken-right

  -- ---- each mark

  pub taken-safe : IsFilledRight later all → HasRoomForEvents later → IsSafeHistory ⊤ later given new carried false all
  taken-safe fills room =
      let early = taken-before (record { fills = fills; room = room }) in
      let safe = safe-history early.fills room in
      let by = change early.fills room in
      either-call ⊤ given tape scope first entries old new carried carried false false who (Step TakenOver left ∷ losses_of roles spares) ops told was.sizes_are begun recorded.ends fills safe call.rise
      (λ claimed opened mark low high. throughout-changed world given told with_it new ops refl begun by (safe.sound tt) opened mark (omega (arith, begun, low)) high) less by (λ none. most)
