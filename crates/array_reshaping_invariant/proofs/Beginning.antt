-- A reshape begins in an array that had none: what is missing then is told, and each mark of the call is safe by what was told before it or with it.
use Rattle.std.proofs.Common.{◌≡◌, ◌≢◌, ◌⊎◌, inl, inr, ℕ, ◌+◌, ◌<◌, ◌≤◌, ◌==◌, ◌&&◌, ◌||◌, nat_lt, Bool, true, false, cond, Option, Some, None, List, [], ◌∷◌, ◌++◌, length, refl, sym, ◌∙◌, ap, subst, arith, append_assoc, append-nil}
use Rattle.std.specs.Prelude.{IsFalse, IfSome, fold, slice_index_or, ⊤}
use Rattle.std.specs.List.{list_any}
use Rattle.std.specs.Option.{option_map_or}
use Rattle.std.proofs.lemmas.Bool.Decides.{nat_tests}
use Rattle.std.proofs.lemmas.List.Sums.{fold-append}
use Rattle.history_invariant_laws.specs.raid_types_Sectors.{Sector}
use Rattle.history_invariant_laws.specs.raid_types_the_Who.{Who}
use Rattle.history_invariant_laws.specs.raid_types_the_Shape.{Shape}
use Rattle.reshape_progress_resync_laws.specs.bank_the_Operation.{Operation}
use Rattle.reshape_progress_resync_laws.specs.bank_Given.{Given, sizes}
use Rattle.reshape_progress_resync_laws.specs.bank_Tape.{IsIn, disk}
use Rattle.reshape_progress_resync_laws.specs.sb_specs_the_Members.{Members}
use Rattle.reshape_progress_resync_laws.specs.sb_specs_Reading.{Scope, Reading, shape_of, list_length, role_count}
use Rattle.reshape_progress_resync_laws.specs.stripe_row_Rows.{reading_of, is_missing}
use Rattle.reshape_progress_resync_laws.specs.history_the_Entry.{Entry}
use Rattle.reshape_progress_resync_laws.specs.history_the_Event.{Event}
use Rattle.reshape_progress_resync_laws.specs.history_the_Event_TheVariants.{Step}
use Rattle.reshape_progress_resync_laws.specs.history_the_StepKind_TheVariants.{Begun}
use Rattle.reshape_progress_resync_laws.specs.history_Epochs.{HasRoomForEvents}
use Rattle.reshape_progress_resync_laws.specs.history_Flat.{length_of, values_of, values_after, now}
use Rattle.reshape_progress_resync_laws.specs.history_Growing.{EndBy}
use Rattle.reshape_progress_resync_laws.specs.history_Legal.{told_left, level_at, level_after, call_before, disturbs}
use Rattle.reshape_progress_resync_laws.specs.history_Losses.{is_gone_after, is_unsynced, unsettles, loses}
use Rattle.reshape_progress_resync_laws.specs.history_OneShape.{is_lost, is_unsettled}
use Rattle.reshape_progress_resync_laws.specs.history_Plain.{entries_of}
use Rattle.reshape_progress_resync_laws.specs.history_Sound.{OpensFit}
use Rattle.reshape_progress_resync_laws.specs.history_World.{World, contents_at, reading_at, opening_list}
use Rattle.reshape_progress_resync_laws.specs.crash_views_Views.{Ledger}
use Rattle.reshape_progress_resync_laws.specs.crash_safety_laws_Changing.{IsSafeChange}
use Rattle.reshape_progress_resync_laws.specs.crash_safety_laws_Safety.{HasLiveSlot, HasRoomLeft, IsRisen}
use Rattle.reshape_progress_resync_laws.specs.crash_safety_laws_Steady.{IsMoreTold, IsSafeNow, IsSafeOver, AreGoneTold}
use Rattle.reshape_progress_resync_laws.specs.crash_reshape_laws_Ends.{IsToldWith}
use Rattle.reshape_progress_resync_laws.proofs.array_members_SoundViews.{throughout-changed}
use Rattle.history_invariant_laws.specs.history_append_Losing.{losses_of}
use Rattle.history_invariant_laws.proofs.history_append_CallLaws.{losses-are}
use Rattle.history_invariant_laws.specs.history_invariant_Recorded.{IsHistoryKept, IsLegalCall, IsCallGoing, IsOpenBehind, entry_of, ends_reshape, gives_some}
use Rattle.history_invariant_laws.specs.history_invariant_Safe.{world_in, IsFilledRight, IsSafeHistory}
use Rattle.history_invariant_laws.specs.history_invariant_Told.{told_now, told_by}
use Rattle.history_invariant_laws.proofs.history_invariant_Growing.{reading-grown, opening-grown, gone-grown, unsynced-grown, now-grown, room-before, room-now}
use Rattle.history_invariant_laws.proofs.history_invariant_Ledgers.{more-then, any-gone, unclean-now}
use Rattle.history_invariant_laws.proofs.history_invariant_Longer.{regains-none}
use Rattle.history_invariant_laws.proofs.history_invariant_Calls.{now-live}
use Rattle.history_invariant_laws.proofs.history_invariant_Entered.{AreAdding, told-adding, settle-none, values-more, values-adding, length-adding, gone-was, gone-lost}
use Rattle.history_invariant_laws.proofs.history_invariant_KeptCalls.{kept-call}
use Rattle.history_invariant_laws.proofs.history_invariant_Reshapes.{call-ends_none}
use Rattle.history_invariant_laws.proofs.history_invariant_Turned.{begun-old, filled-before}
use Rattle.history_invariant_laws.proofs.history_invariant_Turns.{either-call}
use Rattle.history_invariant_laws.specs.Reliable.{IsReliable, AreToldGone}
use Rattle.history_invariant_laws.proofs.Behind.{IsAmong, early-losses, inner-of, legal-losses, or-false}
use Rattle.history_invariant_laws.proofs.array_call_specs_LedgerLaws.{none-ends, unsynced-more}
use Rattle.history_invariant_laws.proofs.history_laws_OneShapeGrowing.{call-ends}
use Rattle.array_reshaping_invariant.specs.Moving.{IsStillKept}
use Rattle.array_reshaping_invariant.proofs.ReadShapes.{IsShapeRead}

-- while a live slot is left, no superblocks tell a reshape
pub safe-over : {tells : Type 0} {given : Given} {tape : List Operation} {scope : Scope} {first : ℕ} {entries : List Entry} {members : Members} {carried : ℕ → ℕ → Bool}
    → IsStillKept tells given tape scope first entries members carried → tells → HasLiveSlot members
    → IsFilledRight (world_in given tape scope first) entries → HasRoomForEvents (world_in given tape scope first)
    → IsSafeHistory ⊤ (world_in given tape scope first) given members carried false entries
safe-over {given = given} {tape = tape} {scope = scope} {first = first} {entries = entries} {members = members} {carried = carried} was t live fills room =
    subst (λ (b : Bool). IsSafeHistory ⊤ (world_in given tape scope first) given members carried b entries) (was.over live) (was.safe t fills room)

-- what is told before it, of the roles that the old shape has
abbrev pub told_before : World → (ℕ → ℕ → Bool) → List Entry → ℕ → Ledger
told_before world carried entries disks = record {
  size = length_of (length (opening_list world)) entries;
  values = values_of (opening_list world) entries;
  gone = λ role. is_gone_after world entries role && nat_lt role disks;
  unclean = is_unsynced world entries || is_unsettled entries;
  reshaping = false;
  carried = carried;
}

-- What the begin of a reshape leaves: its update is safe from one ledger to another, what is missing then was missing among the roles of the old shape or is
-- told lost, and what is read at its end says the old shape.
pub record IsBeginningCall (given : Given) (tape : List Operation) (scope : Scope) (first : ℕ) (entries : List Entry) (old plan new : Members) (carried carried' : ℕ → ℕ → Bool) (roles : ℕ) (tape' : List Operation) : Type 0 where
  pub live : HasLiveSlot old
  pub count : role_count old.newest ≡ (shape_of old.newest).disks
  pub planned : list_length plan.newest ≡ list_length old.newest
  pub sized : list_length new.newest ≡ list_length old.newest
  pub few : role_count new.newest ≤ 16
  pub numbers : (slot number : ℕ) → carried slot number ≡ true → carried' slot number ≡ true
  pub since : (role : ℕ) → role < role_count new.newest → is_missing (reading_of new) role ≡ true → ((role < (shape_of old.newest).disks) × (is_missing (reading_of old) role ≡ true)) ⊎ IsAmong roles role
  pub fewer : (role : ℕ) → role < role_count plan.newest → is_missing (reading_of plan) role ≡ true → (role < role_count new.newest) × (is_missing (reading_of new) role ≡ true)
  pub rise : IsRisen ⊤ old new tape tape'
  pub read : IsReliable (world_in given tape scope first) entries → HasRoomForEvents (world_in given tape' scope first) → IsShapeRead scope (contents_at (world_in given tape' scope first) (length tape')) (shape_of old.newest)
  pub safe : (told more : Ledger) → HasRoomLeft old tape tape' → IsToldWith told more plan → AreGoneTold told old → AreGoneTold more new → ((slot number : ℕ) → told.carried slot number ≡ true → more.carried slot number ≡ true)
      → IsSafeOver (world_in given tape scope first) given told old tape → IsSafeChange (OpensFit (world_in given tape scope first)) scope given told more new tape tape'

module _ (given : Given) (tape : List Operation) (scope : Scope) (first : ℕ) (entries : List Entry) (old plan new : Members) (carried carried' : ℕ → ℕ → Bool) (who : Who) (left roles spares : ℕ) (ops : List Operation)
    (sizes_are : scope.sizes ≡ sizes given) (begun : first ≤ length tape) (ends : EndBy (length tape) entries) (recorded : length_of (length (opening_list (world_in given tape scope first))) entries ≡ list_length old.newest)
    (gone : IsReliable (world_in given tape scope first) entries → AreToldGone (world_in given tape scope first) entries old)
    (call : IsBeginningCall given tape scope first entries old plan new carried carried' roles (tape ++ ops)) where
  abbrev world : World
  world = world_in given tape scope first

  abbrev later : World
  later = world_in given (tape ++ ops) scope first

  abbrev end : ℕ
  end = length (tape ++ ops)

  abbrev disks : ℕ
  disks = (shape_of old.newest).disks

  abbrev entry : Entry
  entry = entry_of who (length (tape ++ ops)) (Step Begun left)

  abbrev more : List Entry
  more = entries_of who (length (tape ++ ops)) (losses_of roles spares)

  abbrev added : List Entry
  added = entries_of who (length (tape ++ ops)) (Step Begun left ∷ losses_of roles spares)

  abbrev all : List Entry
  all = entries ++ entries_of who (length (tape ++ ops)) (Step Begun left ∷ losses_of roles spares)

  parts : (entries ++ entry ∷ []) ++ more ≡ all
  parts = append_assoc entries (entry ∷ []) more

  all-but : (P : List Event → Type 0) → P (losses_of roles spares ++ []) → P (losses_of roles spares)
  all-but P holds = subst P (append-nil (losses_of roles spares)) holds

  adds-more : AreAdding more
  adds-more = all-but (λ (l : List Event). AreAdding (entries_of who end l)) ((early-losses roles spares).adds who end [] refl)

  adds-all : AreAdding added
  adds-all = adds-more

  gives-more : list_any (λ e. gives_some e.event) more ≡ false
  gives-more = all-but (λ (l : List Event). list_any (λ e. gives_some e.event) (entries_of who end l) ≡ false) ((early-losses roles spares).gives who end [] refl)

  -- ---- what is gone

  right-before : IsReliable later all → IsReliable world entries
  right-before right = record { fills = filled-before world ops entries added begun ends right.fills; room = room-before world ops begun right.room }

  -- a role of the old shape is gone behind it as before
  gone-begun : IsReliable later all → (role : ℕ) → role < disks → is_gone_after later (entries ++ entry ∷ []) role ≡ is_gone_after world entries role
  unfolding reading_at
  gone-begun right role lt =
      let read = call.read (right-before right) right.room in
      begun-old later entries entry left read.found refl read.is role (let same = ap (λ (s : Shape). s.disks) read.says in omega (arith, lt, same))
      ∙ gone-grown world ops entries role ends

  gone-behind : (role : ℕ) → (is_gone_after later (entries ++ entry ∷ []) role || list_any (loses later role) more) ≡ true → is_gone_after later all role ≡ true
  gone-behind role is = subst (λ (l : List Entry). is_gone_after later l role ≡ true) parts (any-gone later role (entries ++ entry ∷ []) more (regains-none later role more gives-more) is)

  pub begun-gone : IsReliable later all → AreToldGone later all new
  begun-gone fills role lt miss = gone-behind role (elim (call.since role lt miss) [
    | inl was ↦ gone-was later (entries ++ entry ∷ []) more role (gone-begun fills role was.0 ∙ gone (right-before fills) role (let count = call.count in omega (arith, was.0, count)) was.1)
    | inr has ↦ gone-lost later (entries ++ entry ∷ []) more role
        (all-but (λ (l : List Event). is_lost (entries_of who end l) role ≡ true) ((early-losses roles spares).lost who end [] role (let few = call.few in omega (arith, lt, few)) has))
  ])

  -- ---- what is told

  abbrev told : Ledger
  told = told_before world carried entries disks

  abbrev with_it : Ledger
  with_it = told_now later carried' true all

  and-parts : (a b : Bool) → (a && b) ≡ true → (a ≡ true) × (b ≡ true)
  and-parts true b is = (refl, is)
  and-parts false b is = absurd (cc)

  below : (role : ℕ) → nat_lt role disks ≡ true → role < disks
  below role is = grind (arith, nat_tests, is)

  is-below : (role : ℕ) → role < disks → nat_lt role disks ≡ true
  is-below role lt = grind (arith, nat_tests, lt)

  both-true : (a b : Bool) → a ≡ true → b ≡ true → (a && b) ≡ true
  both-true true b a_is b_is = b_is
  both-true false b a_is b_is = absurd (cc)

  told-less : IsMoreTold told (told_now world carried false entries)
  told-less = record {
    size = refl;
    values = λ x lt v may. may;
    gone = λ role is. (and-parts (is_gone_after world entries role) (nat_lt role disks) is).0;
    unclean = λ is. is;
    reshaping = λ is. is;
    carried = λ slot number is. is;
  }

  less : IsMoreTold told (told_by later (λ slot number. true) true entries added)
  less = more-then told (told_now world carried false entries) (told_by later (λ slot number. true) true entries added) told-less
      (subst (λ (l : Ledger). IsMoreTold l (told_by later (λ slot number. true) true entries added)) (now-grown world ops begun carried false entries ends)
      (told-adding later carried (λ slot number. true) false true entries added adds-all (λ slot number is. refl) (λ is. refl)))

  length-all : length_of (length (opening_list later)) all ≡ length_of (length (opening_list world)) entries
  length-all = length-adding (length (opening_list later)) entries added adds-all ∙ ap (λ (l : List Sector). length_of (length l) entries) (opening-grown world ops begun)

  values-all : (x : ℕ) (v : Sector) → IsIn (told.values x) v → IsIn (with_it.values x) v
  values-all x v may = values-adding (opening_list later) entries added adds-all x v (subst (λ (l : List Sector). IsIn (values_of l entries x) v) (sym (opening-grown world ops begun)) may)

  unclean-all : told.unclean ≡ true → with_it.unclean ≡ true
  unclean-all is = unclean-now later entries added (settle-none added adds-all)
      (three (is_unsynced later entries) (is_unsettled entries) (list_any (λ e. unsettles e.event) added) (ap (λ (b : Bool). b || is_unsettled entries) (unsynced-grown world ops begun entries) ∙ is))
    where
      three : (a b c : Bool) → (a || b) ≡ true → (a || (b || c)) ≡ true
      three true b c is = refl
      three false true c is = refl
      three false false c is = absurd (cc)

  most : IsReliable later all → IsMoreTold told with_it
  most right = record {
    size = sym length-all;
    values = λ x lt v may. values-all x v may;
    gone = λ role is.
        let both = and-parts (is_gone_after world entries role) (nat_lt role disks) is in
        gone-behind role (gone-was later (entries ++ entry ∷ []) more role (gone-begun right role (below role both.1) ∙ both.0));
    unclean = unclean-all;
    reshaping = λ is. refl;
    carried = call.numbers;
  }

  told-with : IsReliable later all → IsToldWith told with_it plan
  told-with fills = record {
    sized = call.planned ∙ sym recorded ∙ sym length-all;
    gone = λ role lt miss. let there = call.fewer role lt miss in begun-gone fills role there.0 there.1;
    unclean = unclean-all;
    reshaping = λ is. refl;
    values = λ x v lt lt' may. values-all x v may;
  }

  gone-old : IsReliable later all → AreGoneTold told old
  gone-old fills role lt miss = both-true (is_gone_after world entries role) (nat_lt role disks) (gone (right-before fills) role lt miss) (is-below role (let count = call.count in omega (arith, lt, count)))

  -- the array is safe by it before the call
  safe-old : IsSafeNow (OpensFit world) scope given (told_now world carried false entries) old (disk given.start tape) → IsSafeNow (OpensFit world) scope given told old (disk given.start tape)
  safe-old (inl steady) = inl (record {
    former = steady.former;
    since = steady.since;
    right = record {
      placed = steady.right.placed;
      sized = steady.right.sized;
      gone = λ role lt miss. both-true (is_gone_after world entries role) (nat_lt role disks) (steady.right.gone role lt miss)
          (is-below role (let same = ap (λ (m : Members). role_count m.newest) steady.since.since in let count = call.count in omega (arith, lt, same, count)));
      unclean = steady.right.unclean;
      reshaping = steady.right.reshaping;
      held = steady.right.held;
      sections = steady.right.sections;
      settled = steady.right.settled;
      headers = steady.right.headers;
      tails = steady.right.tails;
    };
    numbers = steady.numbers;
  })
  safe-old (inr spent) = absurd (spent.none call.live)

  -- ---- the history

  -- its step is one of those that are left, and legal
  begun-legal : IfSome (told_left entries) (λ n. n ≡ left + 1) → IsLegalCall later entries who end (Step Begun left ∷ losses_of roles spares)
  begun-legal told = (
    known (list_any (λ e. disturbs e.event) (call_before entries entry ++ more)) (told_left entries) told,
    inner-of who end (Step Begun left) tt (losses_of roles spares),
    all-but (λ (l : List Event). IsLegalCall later (entries ++ entry ∷ []) who end l) (legal-losses later (entries ++ entry ∷ []) who end (losses_of roles spares) [] (losses-are roles spares) tt),
  )
    where
      known : (b : Bool) (o : Option ℕ) → IfSome o (λ n. n ≡ left + 1) → IfSome (cond b None o) (λ n. left + 1 ≡ n)
      known true o is = tt
      known false None is = tt
      known false (Some n) is = sym is

  not-zero : (n : ℕ) → n ≢ 0 → (n == 0) ≡ false
  not-zero n ne = grind (arith, nat_tests, ne)

  -- it ends no reshape
  begun-ends_none : left ≢ 0 → list_any ends_reshape (Step Begun left ∷ losses_of roles spares) ≡ false
  begun-ends_none some = or-false (left == 0) (list_any ends_reshape (losses_of roles spares)) (not-zero left some)
      (all-but (λ (l : List Event). list_any ends_reshape l ≡ false) ((early-losses roles spares).ends [] refl))

  pub begun-recorded : IsHistoryKept (IsReliable (world_in given tape scope first) entries) (world_in given tape scope first) (list_length old.newest) entries → (goes : IsCallGoing entries who)
      → IsFalse (who.caller == 254) → IsOpenBehind later goes.call → IfSome (told_left entries) (λ n. n ≡ left + 1) → left ≢ 0 → IsHistoryKept (IsReliable later all) later (list_length new.newest) all
  begun-recorded was goes caller behind told some =
      kept-call (IsReliable world entries) (IsReliable later all) world ops (list_length old.newest) (list_length new.newest) entries who (Step Begun left ∷ losses_of roles spares) goes was
      right-before caller (λ fills. inl behind)
      (length-adding (length (opening_list world)) entries added adds-all ∙ recorded ∙ sym call.sized) (call-ends first entries who end (Step Begun left) (losses_of roles spares))
      (λ fills. begun-legal told) (λ fills fit. call-ends_none later entries who end (Step Begun left ∷ losses_of roles spares) (begun-ends_none some))

  -- the level stays
  pub begun-level : level_at later all ≡ level_at world entries
  begun-level =
      ap (λ (found : Option Reading). fold (λ level e. level_after level e.event) (option_map_or (λ r. r.newest.level) found 5) all) (reading-grown world ops first begun)
      ∙ fold-append (λ level e. level_after level e.event) (option_map_or (λ r. r.newest.level) (reading_at world world.first) 5) entries added
      ∙ all-but (λ (l : List Event). fold (λ level e. level_after level e.event) (level_at world entries) (entries_of who end l) ≡ level_at world entries) ((early-losses roles spares).level who end [] (level_at world entries))

  -- what is told unclean stays so
  pub begun-unclean : (is_unsynced world entries || is_unsettled entries) ≡ true → (is_unsynced later all || is_unsettled all) ≡ true
  begun-unclean is = unclean-all is

  -- and a resync is as pending
  pub begun-unsynced : is_unsynced later all ≡ is_unsynced world entries
  begun-unsynced = unsynced-grown world ops begun all ∙ unsynced-more world entries added (none-ends added (settle-none added adds-all))

  -- each sector of the list has the value that it had
  pub begun-values : (x : ℕ) → now (opening_list later) all x ≡ now (opening_list world) entries x
  begun-values x =
      ap (λ (l : List Sector). now l all x) (opening-grown world ops begun)
      ∙ ap (λ (l : List Sector). slice_index_or l 0 []) (values-more (opening_list world) entries added x
      ∙ all-but (λ (l : List Event). fold (λ values e. values_after x values e.event) (values_of (opening_list world) entries x) (entries_of who end l) ≡ values_of (opening_list world) entries x)
      ((early-losses roles spares).values who end [] x (values_of (opening_list world) entries x)))

  -- ---- each mark

  module _ (safe : IsFilledRight (world_in given tape scope first) entries → HasRoomForEvents (world_in given tape scope first)
      → IsSafeHistory ⊤ (world_in given tape scope first) given old carried false entries)
      (fills : IsFilledRight (world_in given (tape ++ ops) scope first) (entries ++ entries_of who (length (tape ++ ops)) (Step Begun left ∷ losses_of roles spares)))
      (room : HasRoomForEvents (world_in given (tape ++ ops) scope first)) where
    abbrev was : IsSafeHistory ⊤ (world_in given tape scope first) given old carried false entries
    was = safe (filled-before world ops entries added begun ends fills) (room-before world ops begun room)

    right : IsReliable later all
    right = record { fills = fills; room = room }

    change : IsSafeChange (OpensFit world) scope given told with_it new tape (tape ++ ops)
    change = call.safe told with_it (room-now world ops begun old was.counted room) (told-with right) (gone-old right) (begun-gone right) call.numbers (safe-old (now-live world call.live was.now))

    pub begun-safe : IsSafeHistory ⊤ later given new carried' true all
    begun-safe = either-call ⊤ given tape scope first entries old new carried carried' false true who (Step Begun left ∷ losses_of roles spares) ops told sizes_are begun ends fills was call.rise
        (λ claimed opened mark low high. throughout-changed world given told with_it new ops refl begun change (was.sound tt) opened mark (omega (arith, begun, low)) high) less change (λ none. most right)
