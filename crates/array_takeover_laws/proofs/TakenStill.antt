-- An array that keeps its record keeps it behind the takeover of its level, from what `take_over` says of its call.
use Rattle.std.proofs.Common.{◌≡◌, ◌⊎◌, ℕ, ◌+◌, ◌-◌, ◌*◌, ◌<◌, ◌≤◌, ◌==◌, ◌||◌, Bool, true, false, Option, Some, None, List, [], ◌∷◌, ◌++◌, length, refl, sym, ◌∙◌, ap, subst, arith, append-nil}
use Rattle.std.specs.Prelude.{IsFalse, IfSome, is_some, fold, ⊤}
use Rattle.std.specs.List.{list_any}
use Rattle.std.proofs.lemmas.List.Folds.{list_any-append}
use Rattle.array_reshaping_end_laws.specs.raid_types_the_Who.{Who}
use Rattle.array_reshaping_end_laws.specs.raid_types_the_Role_TheVariants.{Recovering}
use Rattle.array_reshaping_end_laws.specs.bank_the_Operation.{Operation}
use Rattle.array_reshaping_end_laws.specs.bank_Given.{Given}
use Rattle.array_reshaping_end_laws.specs.raid_parity_Rows.{IsSector}
use Rattle.array_reshaping_end_laws.specs.sb_specs_the_Members.{Members}
use Rattle.array_reshaping_end_laws.specs.sb_specs_Reading.{Scope, is_clean, shape_of, role_count, role_state}
use Rattle.array_reshaping_end_laws.specs.stripe_row_Rows.{reading_of, present, is_missing}
use Rattle.array_reshaping_end_laws.specs.history_the_Entry.{Entry}
use Rattle.array_reshaping_end_laws.specs.history_the_Event.{Event}
use Rattle.array_reshaping_end_laws.specs.history_the_Event_TheVariants.{Step}
use Rattle.array_reshaping_end_laws.specs.history_the_StepKind_TheVariants.{TakenOver}
use Rattle.array_reshaping_end_laws.specs.history_Epochs.{HasRoomForEvents}
use Rattle.array_reshaping_end_laws.specs.history_Flat.{now}
use Rattle.array_reshaping_end_laws.specs.history_Legal.{disturbs, left_after, told_left}
use Rattle.array_reshaping_end_laws.specs.history_Losses.{is_unsynced}
use Rattle.array_reshaping_end_laws.specs.history_Plain.{entries_of}
use Rattle.array_reshaping_end_laws.specs.history_Reshaped.{open_plans}
use Rattle.array_reshaping_end_laws.specs.history_Sound.{OpensFit}
use Rattle.array_reshaping_end_laws.specs.history_World.{World, opening_list}
use Rattle.array_reshaping_end_laws.specs.crash_views_Regions.{DoWithout}
use Rattle.array_reshaping_end_laws.specs.crash_views_Views.{Ledger}
use Rattle.array_reshaping_end_laws.specs.crash_safety_laws_Changing.{IsSafeChange}
use Rattle.array_reshaping_end_laws.specs.crash_safety_laws_Marking.{AreOthersPresent}
use Rattle.array_reshaping_end_laws.specs.crash_safety_laws_Safety.{HasLiveSlot, HasRoomLeft, IsRisen}
use Rattle.array_reshaping_end_laws.specs.crash_safety_laws_Steady.{IsSafeOver, AreGoneTold}
use Rattle.array_reshaping_end_laws.specs.crash_reshape_laws_Ends.{IsToldWith}
use Rattle.array_reshaping_end_laws.proofs.crash_reshape_laws_GrownLaws.{row-list}
use Rattle.array_reshaping_end_laws.specs.array_members_the_Work.{Work}
use Rattle.array_reshaping_end_laws.specs.array_members_Moving.{Grows, IsMoved}
use Rattle.array_reshaping_end_laws.specs.array_members_Numbers.{bears}
use Rattle.array_reshaping_end_laws.specs.array_members_Rebuilding.{AreSparesFree}
use Rattle.array_reshaping_end_laws.specs.array_members_Status.{rebuilt_of, stripes_of}
use Rattle.array_reshaping_end_laws.proofs.array_members_Fit.{valid}
use Rattle.array_reshaping_end_laws.specs.history_append_Losing.{losses_of}
use Rattle.array_reshaping_end_laws.proofs.history_append_CallLaws.{losses-are}
use Rattle.array_reshaping_end_laws.proofs.history_append_LeftLaws.{left-behind, fold-left}
use Rattle.array_reshaping_end_laws.specs.history_invariant_Recorded.{IsCallGoing}
use Rattle.array_reshaping_end_laws.specs.history_invariant_Safe.{world_in, is_taken_over, IsFilledRight, IsSafeHistory}
use Rattle.array_reshaping_end_laws.specs.history_invariant_laws_Reliable.{IsReliable}
use Rattle.array_reshaping_end_laws.proofs.history_invariant_laws_Behind.{IsAmong}
use Rattle.array_reshaping_end_laws.proofs.history_invariant_laws_Plans.{ArePlannedTo}
use Rattle.array_reshaping_end_laws.specs.array_reshaping_invariant_Moving.{IsStillKept}
use Rattle.array_reshaping_end_laws.specs.array_fixed_invariant_Still.{AreAtRest, HasListStood, IsStill}
use Rattle.array_reshaping_end_laws.proofs.array_fixed_invariant_Bridges.{stands-kept}
use Rattle.array_reshaping_end_laws.proofs.array_fixed_invariant_Stood.{shown-list, shown-rows, sector-inside}
use Rattle.array_takeover_laws.proofs.TakenMembers.{IsTaken, still-then}
use Rattle.array_takeover_laws.proofs.Taking.{IsTakingCall, taken-still, taken-gone, taken-levelled, taken-unclean, taken-unsynced, taken-past, taken-listed, taken-recorded, taken-safe}

-- What `take_over` leaves, of an array in which no role was missing.
pub record IsTakenBy (tells : Type 0) (given : Given) (tape tape' : List Operation) (old plan new : Members) (roles : ℕ) : Type 0 where
  pub way : IsTaken old plan
  pub moved : IsMoved given plan new
  pub free : AreSparesFree given new
  pub spares : length new.spares ≤ 32
  pub clean : new.newest.resync_offset ≡ old.newest.resync_offset
  pub live : HasLiveSlot old
  pub enough : DoWithout old
  pub within : (role : ℕ) → IsAmong roles role → role < 16
  pub since : (role : ℕ) → role < role_count new.newest → is_missing (reading_of new) role ≡ true
      → ((role < role_count old.newest) × (is_missing (reading_of old) role ≡ true)) ⊎ (IsAmong roles role ⊎ (((shape_of new.newest).level ≡ 6) × ((shape_of new.newest).disks - 1 ≡ role) × HasLiveSlot new))
  pub rise : IsRisen tells old new tape tape'
  pub others : tells → AreOthersPresent (present given tape) (present given tape')
  pub grows : Grows tells tape tape'
  pub safe : tells → (world : World) → (told more : Ledger) → HasRoomLeft old tape tape' → IsToldWith told more plan → AreGoneTold told old → AreGoneTold more new
      → ((slot number : ℕ) → told.carried slot number ≡ true → more.carried slot number ≡ true) → IsSafeOver world given told old tape → IsSafeChange (OpensFit world) world.scope given told more new tape tape'

module _ (tells : Type 0) (given : Given) (tape tape' : List Operation) (scope : Scope) (first : ℕ) (entries : List Entry) (old plan new : Members) (work work' : Work) (steps left : ℕ) (who : Who) (end roles spares : ℕ)
    (was : IsStill tells given tape scope first entries old work steps) (synced : work.resync ≡ None) (synced' : work'.resync ≡ None) (carries : bears work' ≡ bears work)
    (goes : IsCallGoing entries who) (caller : IsFalse (who.caller == 254)) (at_end : tells → end ≡ length tape') (did : IsTakenBy tells given tape tape' old plan new roles)
    (stepped : (steps ≡ left + 1) ⊎ (list_any disturbs (losses_of roles spares) ≡ true))
    (planned : tells → IsReliable (world_in given tape scope first) entries → left ≡ 0 → ArePlannedTo (world_in given tape scope first) (shape_of new.newest) (open_plans entries))
    (unbuilt : (role slot : ℕ) → role_state (reading_of new) role ≡ Recovering slot → rebuilt_of work' role ≡ 0) where
  abbrev all : List Entry
  all = entries ++ entries_of who end (Step TakenOver left ∷ losses_of roles spares)

  former : IsStillKept tells given tape scope first entries old (bears work)
  former = stands-kept tells given tape scope first entries old work steps was synced

  -- what is kept over a bank that tells its contents
  abbrev Then : List Operation → ℕ → Type 0
  Then l e = IsTakingCall given tape scope first old plan new roles l → IsStillKept tells given l scope first (entries ++ entries_of who e (Step TakenOver left ∷ losses_of roles spares)) new (bears work)

  kept-by : (t : tells) (ops : List Operation) → Then (tape ++ ops) (length (tape ++ ops))
  kept-by t ops call = record {
    slots = was.slots;
    placed = did.moved.placed;
    still = taken-still given tape scope first entries old plan new (bears work) who steps left roles spares ops tells former t was.left_told stepped (planned t) call;
    reshaping = false;
    over = λ some. refl;
    sizes_are = was.sizes_are;
    levelled = λ u. taken-levelled given tape scope first entries old plan new (bears work) who steps left roles spares ops tells former t was.left_told stepped (planned t) call;
    gone = λ u. taken-gone given tape scope first entries old plan new (bears work) who steps left roles spares ops tells former t was.left_told stepped (planned t) call;
    unclean = λ u dirty. taken-unclean given tape scope first entries old plan new (bears work) who steps left roles spares ops tells former t was.left_told stepped (planned t) call
        (was.unclean t (sym (ap (λ (n : ℕ). is_clean (record new.newest { resync_offset = n })) did.clean) ∙ dirty));
    recorded = λ u. taken-recorded given tape scope first entries old plan new (bears work) who steps left roles spares ops tells former t was.left_told stepped (planned t) call goes caller;
    past = λ u. taken-past given tape scope first entries old plan new (bears work) who steps left roles spares ops tells former t was.left_told stepped (planned t) call;
    listed = λ u does. taken-listed given tape scope first entries old plan new (bears work) who steps left roles spares ops tells former t was.left_told stepped (planned t) call;
    safe = λ u. taken-safe given tape scope first entries old plan new (bears work) who steps left roles spares ops tells former t was.left_told stepped (planned t) call;
  }

  call : tells → IsTakingCall given tape scope first old plan new roles tape'
  call t = record {
    way = did.way;
    unlost_before = was.members_are.unlost;
    unlost = did.moved.unlost;
    moved = did.moved;
    clean = did.clean;
    live = did.live;
    enough = did.enough;
    within = did.within;
    since = did.since;
    rise = record { left = did.rise.left; events = λ one live. did.rise.events t live };
    others = did.others t;
    safe = λ told more room with_plan gone_old gone_new carried before. did.safe t (world_in given tape scope first) told more room with_plan gone_old gone_new carried before;
  }

  kept : tells → IsStillKept tells given tape' scope first (entries ++ entries_of who end (Step TakenOver left ∷ losses_of roles spares)) new (bears work)
  kept t =
      let g = did.grows.more t in
      subst (λ (l : List Operation). Then l end) (sym g.1) (subst (Then (tape ++ g.0)) (sym (at_end t ∙ ap (λ (l : List Operation). length l) g.1)) (kept-by t g.0)) (call t)

  unsynced-then : (t : tells) → is_unsynced (world_in given tape' scope first) all ≡ is_unsynced (world_in given tape scope first) entries
  unsynced-then t =
      let g = did.grows.more t in
      subst (λ (l : List Operation). IsTakingCall given tape scope first old plan new roles l → is_unsynced (world_in given l scope first) all ≡ is_unsynced (world_in given tape scope first) entries) (sym g.1)
      (subst (λ (e : ℕ). IsTakingCall given tape scope first old plan new roles (tape ++ g.0)
      → is_unsynced (world_in given (tape ++ g.0) scope first) (entries ++ entries_of who e (Step TakenOver left ∷ losses_of roles spares)) ≡ is_unsynced (world_in given tape scope first) entries)
      (sym (at_end t ∙ ap (λ (l : List Operation). length l) g.1))
      (λ by. taken-unsynced given tape scope first entries old plan new (bears work) who steps left roles spares g.0 tells former t was.left_told stepped (planned t) by)) (call t)

  -- the history tells the takeover
  any-behind : (before : List Entry) → list_any (λ e. is_taken_over e.event) (before ++ entries_of who end (Step TakenOver left ∷ losses_of roles spares)) ≡ true
  any-behind before = list_any-append (λ e. is_taken_over e.event) before (entries_of who end (Step TakenOver left ∷ losses_of roles spares)) ∙ or-so (list_any (λ e. is_taken_over e.event) before)
    where
      or-so : (b : Bool) → (b || true) ≡ true
      or-so true = refl
      or-so false = refl

  rest : AreAtRest given new
  rest = record {
    placed = did.moved.placed;
    still = did.moved.reshape.reshaping ∙ still-then old plan did.way;
    unlost = did.moved.unlost;
    free = did.free;
    spares = did.spares;
  }

  -- as many steps are left as it tells, if no losses follow
  left-told : IfSome (told_left all) (λ n. n ≡ left)
  left-told = subst (λ (o : Option ℕ). IfSome o (λ n. n ≡ left)) (sym (fold-left None entries (entries_of who end (Step TakenOver left ∷ losses_of roles spares))))
      (subst (λ (l : List Event). IfSome (fold (λ left e. left_after left e.event) (Some left) (entries_of who end l)) (λ n. n ≡ left)) (append-nil (losses_of roles spares))
      (left-behind left who end (losses_of roles spares) [] (losses-are roles spares) (λ told is. is) (Some left) refl))

  listed : tells → DoWithout new → IsFilledRight (world_in given tape' scope first) all
      → HasListStood (OpensFit (world_in given tape' scope first)) work' new (present given tape') (now (opening_list (world_in given tape' scope first)) all)
  listed t does fills =
      let l = (kept t).listed t does fills in
      let current = now (opening_list (world_in given tape' scope first)) all in
      record {
        stands = shown-list given new rest (present given tape') current (λ x slot shown held. l.stands x slot shown held ∙ l.is x shown.within);
        whole = λ fit x lt. subst IsSector (l.is x lt) ((l.rows fit x (record { within = lt; outside = refl })).whole x refl);
        rows = λ fit row high low.
            row-list new (present given tape') (shape_of new.newest) l.list current row (valid given new did.moved.placed) (λ y at. sym (l.is y (sector-inside given new rest y (omega (arith, at, low)))))
            (shown-rows given new rest (present given tape') l.list (l.rows fit) row low);
        rebuilt = λ fit role slot row lt is held below inside. absurd (none-built (rebuilt_of work' role) (shape_of new.newest).chunk row (unbuilt role slot is) below);
      }
    where
      none-built : (n chunk row : ℕ) → n ≡ 0 → row < n * chunk → ⊥
      none-built n chunk row none lt = absurd (let zero_is : n * chunk ≡ 0 * chunk = ap (λ (k : ℕ). k * chunk) none in let nothing : 0 * chunk ≡ 0 = omega arith in omega (arith, lt, zero_is, nothing))

  safe-false : tells → IsFilledRight (world_in given tape' scope first) all → HasRoomForEvents (world_in given tape' scope first)
      → IsSafeHistory ⊤ (world_in given tape' scope first) given new (bears work) false all
  safe-false t =
      let g = did.grows.more t in
      subst (λ (l : List Operation). IsTakingCall given tape scope first old plan new roles l → IsFilledRight (world_in given l scope first) all → HasRoomForEvents (world_in given l scope first)
      → IsSafeHistory ⊤ (world_in given l scope first) given new (bears work) false all) (sym g.1)
      (subst (λ (e : ℕ). IsTakingCall given tape scope first old plan new roles (tape ++ g.0) → IsFilledRight (world_in given (tape ++ g.0) scope first) (entries ++ entries_of who e (Step TakenOver left ∷ losses_of roles spares))
      → HasRoomForEvents (world_in given (tape ++ g.0) scope first)
      → IsSafeHistory ⊤ (world_in given (tape ++ g.0) scope first) given new (bears work) false (entries ++ entries_of who e (Step TakenOver left ∷ losses_of roles spares)))
      (sym (at_end t ∙ ap (λ (l : List Operation). length l) g.1))
      (λ by. taken-safe given tape scope first entries old plan new (bears work) who steps left roles spares g.0 tells former t was.left_told stepped (planned t) by)) (call t)

  -- So the array keeps its record.
  pub taken-keeps : IsStill tells given tape' scope first (entries ++ entries_of who end (Step TakenOver left ∷ losses_of roles spares)) new work' left
  taken-keeps = record {
    slots = was.slots;
    members_are = rest;
    sizes_are = was.sizes_are;
    left_told = left-told;
    reshaping = false;
    over = λ some. refl;
    progress = subst (λ (o : Option ℕ). IfSome o (λ mended. mended ≤ stripes_of new)) (sym synced') tt;
    pending = λ t. unsynced-then t ∙ was.pending t ∙ ap (λ (o : Option ℕ). is_some o) (synced ∙ sym synced');
    dirty = λ does pending. absurd (let no = sym (ap (λ (o : Option ℕ). is_some o) synced') ∙ pending in cc);
    levelled = λ t. (kept t).levelled t;
    gone = λ t. (kept t).gone t;
    full = λ t none level. absurd (let some = any-behind entries in let clash : true ≡ false = sym some ∙ level in cc);
    unclean = λ t. (kept t).unclean t;
    recorded = λ t. (kept t).recorded t;
    past = λ t. (kept t).past t;
    listed = listed;
    safe = λ t fills room. subst (λ (c : ℕ → ℕ → Bool). IsSafeHistory ⊤ (world_in given tape' scope first) given new c false all) (sym carries) (safe-false t fills room);
  }
