-- A call that leaves the list as it is, and enters losses and one event behind them.
use Rattle.std.proofs.Common.{◌≡◌, inl, inr, ℕ, ◌≤◌, ◌==◌, ◌||◌, Bool, true, false, List, [], ◌∷◌, ◌++◌, length, refl, sym, ◌∙◌, ap, subst, arith, append_assoc, append-nil}
use Rattle.std.specs.Prelude.{IsFalse, fold, slice_index_or, ⊤}
use Rattle.std.specs.List.{list_any}
use Rattle.history_invariant.specs.raid_types_Sectors.{Sector}
use Rattle.history_invariant.specs.raid_types_the_Who.{Who}
use Rattle.history_invariant.specs.bank_the_Operation.{Operation}
use Rattle.history_invariant.specs.bank_Given.{Given, sizes}
use Rattle.history_invariant.specs.bank_Tape.{disk}
use Rattle.history_invariant.specs.sb_specs_the_Members.{Members}
use Rattle.history_invariant.specs.sb_specs_Reading.{Scope, is_clean, list_length, role_count}
use Rattle.history_invariant.specs.history_the_Entry.{Entry}
use Rattle.history_invariant.specs.history_the_Event.{Event}
use Rattle.history_invariant.specs.history_Epochs.{HasRoomForEvents}
use Rattle.history_invariant.specs.history_Flat.{now, values_of, values_after}
use Rattle.history_invariant.specs.history_Legal.{is_loss, level_at, level_after, IsLegalEvent}
use Rattle.history_invariant.specs.history_Transfers.{last_end_from}
use Rattle.history_invariant.specs.history_Losses.{is_unsynced, loses}
use Rattle.history_invariant.specs.history_OneShape.{is_unsettled}
use Rattle.history_invariant.specs.history_Plain.{entries_of}
use Rattle.history_invariant.specs.history_Sound.{OpensFit}
use Rattle.history_invariant.specs.history_World.{World, opening_list}
use Rattle.history_invariant.specs.crash_views_Views.{Ledger}
use Rattle.history_invariant.specs.crash_safety_laws_Safety.{HasRoomLeft, IsRisen}
use Rattle.history_invariant.specs.crash_safety_laws_Steady.{IsMoreTold, IsSafeOver, KeepsSafe, AreGoneTold, IsUncleanTold, AreViewsRight, IsSafeStretch}
use Rattle.history_invariant.proofs.array_members_SoundViews.{throughout-kept}
use Rattle.history_invariant.proofs.history_append_CallLaws.{last_end-behind}
use Rattle.history_invariant.proofs.history_append_LosingLaws.{entries-both}
use Rattle.history_invariant.proofs.bank_Marks.{each_mark-map}
use Rattle.history_invariant.proofs.crash_safety_laws_Steady.{views-told}
use Rattle.history_invariant.specs.Recorded.{IsHistoryKept, IsLegalCall, IsCallGoing, entry_of, ends_reshape, gives_some, IsReshapedCall}
use Rattle.history_invariant.specs.Safe.{world_in, is_taken_over, IsFilledRight, IsSafeHistory}
use Rattle.history_invariant.specs.Told.{told_now, told_by}
use Rattle.history_invariant.proofs.Growing.{fit-grown, now-grown, room-before, room-now}
use Rattle.history_invariant.proofs.Ledgers.{more-then}
use Rattle.history_invariant.proofs.Seen.{now-more}
use Rattle.history_invariant.proofs.Calls.{safe-called}
use Rattle.history_invariant.proofs.Idle.{idle-call}
use Rattle.history_invariant.proofs.KeptCalls.{kept-call}
use Rattle.history_invariant.proofs.Tests.{none-before}
use Rattle.history_invariant.proofs.Entered.{adds_only, AreAdding, told-adding, told-added, values-more, length-adding}
use Rattle.history_invariant.proofs.Reshapes.{call-ends_none}
use Rattle.history_invariant_laws.specs.Reliable.{IsReliable, AreToldGone, IsNonePast, HasLastStep}
use Rattle.history_invariant_laws.proofs.LastStep.{last-of}
use Rattle.history_invariant_laws.proofs.Behind.{telling-of, AreEarly, early-none, first-of, AreLostOrMissing, IsBehind, is-behind, or-false, and-true}

-- An event that leaves the list and the level, settles nothing, neither ends a reshape nor gives a role, and is no loss.
pub record IsQuiet (event : Event) : Type 0 where
  pub adds : adds_only event ≡ true
  pub gives : gives_some event ≡ false
  pub ends : ends_reshape event ≡ false
  pub still : (x : ℕ) (values : List Sector) → values_after x values event ≡ values
  pub level : (n : ℕ) → level_after n event ≡ n
  pub other : is_loss event ≡ false

-- The same of the last events of a call, none or one.
pub record AreQuietLast (who : Who) (end : ℕ) (tail : List Event) : Type 0 where
  pub adds : AreAdding (entries_of who end tail)
  pub gives : list_any (λ e. gives_some e.event) (entries_of who end tail) ≡ false
  pub still : (x : ℕ) (values : List Sector) → fold (λ values e. values_after x values e.event) values (entries_of who end tail) ≡ values
  pub level : (n : ℕ) → fold (λ level e. level_after level e.event) n (entries_of who end tail) ≡ n

pub quiet-last : (who : Who) (end : ℕ) (event : Event) → IsQuiet event → AreQuietLast who end (event ∷ [])
quiet-last who end event quiet = record {
  adds = and-true (adds_only event) true quiet.adds refl;
  gives = or-false (gives_some event) false quiet.gives refl;
  still = quiet.still;
  level = quiet.level;
}

pub quiet-none : (who : Who) (end : ℕ) → AreQuietLast who end []
quiet-none who end = record { adds = refl; gives = refl; still = λ x values. refl; level = λ n. refl }

-- more is told of a stretch
pub stretch-more : (sound : Type 0) (scope : Scope) (given : Given) (told more : Ledger) (m : Members) (before after : List Operation) → IsMoreTold told more
    → IsSafeStretch sound scope given told m before after → IsSafeStretch sound scope given more m before after
stretch-more sound scope given told more m before after is stretch = record {
  marks = each_mark-map (AreViewsRight sound scope given more) (λ t d. views-told sound given told more is scope d) stretch.marks;
  next = now-more sound scope given told more m (disk given.start after) is stretch.next;
}

-- ---- the call

-- What is asked of a call, from this tape to that one with its end there, that enters these events before its last ones. It may make more device numbers known: its
-- marks are judged with them, from what was told without.
pub record LeavesNumbers (given : Given) (tape : List Operation) (scope : Scope) (first : ℕ) (entries : List Entry) (old new : Members) (carried carried' : ℕ → ℕ → Bool) (reshaping : Bool)
    (who : Who) (early tail : List Event) (tape' : List Operation) (end : ℕ) : Type 0 where
  pub rise : IsRisen ⊤ old new tape tape'
  pub keeps : (was told : Ledger) → IsReliable (world_in given tape scope first) entries → IsMoreTold (told_now (world_in given tape scope first) carried reshaping entries) was → IsMoreTold was told
      → ((slot number : ℕ) → was.carried slot number ≡ carried slot number) → ((slot number : ℕ) → told.carried slot number ≡ carried' slot number)
      → HasRoomLeft old tape tape' → AreGoneTold was new → IsUncleanTold was old
      → IsSafeOver (world_in given tape scope first) given was old tape → KeepsSafe (world_in given tape scope first) given told new tape tape'
  pub legal : IsReliable (world_in given tape' scope first) (entries ++ entries_of who end (early ++ tail)) → IsReliable (world_in given tape scope first) entries
      → AreToldGone (world_in given tape' scope first) (entries ++ entries_of who end early) new
      → level_at (world_in given tape' scope first) (entries ++ entries_of who end early) ≡ level_at (world_in given tape scope first) entries
      → IsLegalCall (world_in given tape' scope first) entries who end (early ++ tail)

-- What the call ends, it ends right, by what it leaves: as far as the history can be relied on, what is missing is told by it, and each mark is safe; and if the opening was sound.
abbrev pub EndsRight : Given → List Operation → Scope → ℕ → List Entry → Members → (ℕ → ℕ → Bool) → Bool → Who → ℕ → List Event → Type 0
EndsRight given tape' scope first entries new carried reshaping who end events =
    IsReliable (world_in given tape' scope first) (entries ++ entries_of who end events)
    → AreToldGone (world_in given tape' scope first) (entries ++ entries_of who end events) new
    → IsSafeHistory ⊤ (world_in given tape' scope first) given new carried reshaping (entries ++ entries_of who end events)
    → OpensFit (world_in given tape' scope first) → IsReshapedCall (world_in given tape' scope first) entries who end events

-- What it leaves, of what is kept over a bank that tells its contents.
pub record IsLeftBehind (given : Given) (tape : List Operation) (scope : Scope) (first : ℕ) (entries all : List Entry) (new : Members) (carried : ℕ → ℕ → Bool) (reshaping : Bool) (tape' : List Operation) : Type 0 where
  pub right : IsReliable (world_in given tape' scope first) all → IsReliable (world_in given tape scope first) entries
  pub levelled : level_at (world_in given tape' scope first) all ≡ level_at (world_in given tape scope first) entries
  pub gone : IsReliable (world_in given tape' scope first) all → AreToldGone (world_in given tape' scope first) all new
  pub unclean : is_clean new.newest ≡ false → (is_unsynced (world_in given tape' scope first) all || is_unsettled all) ≡ true
  pub recorded : IsHistoryKept (IsReliable (world_in given tape' scope first) all) (world_in given tape' scope first) (list_length new.newest) all
  pub opened : opening_list (world_in given tape' scope first) ≡ opening_list (world_in given tape scope first)
  pub begun : first ≤ length tape
  pub grown : (ops : List Operation) × (tape' ≡ tape ++ ops)
  pub fills : IsFilledRight (world_in given tape' scope first) all → IsFilledRight (world_in given tape scope first) entries
  pub past : (size : ℕ) → list_length new.newest ≤ size → IsNonePast (world_in given tape scope first) entries size → IsNonePast (world_in given tape' scope first) all size
  pub safe : IsFilledRight (world_in given tape' scope first) all → HasRoomForEvents (world_in given tape' scope first)
      → IsSafeHistory ⊤ (world_in given tape' scope first) given new carried reshaping all

-- what the opening found is what it was
pub fit-later : {given : Given} {tape tape' : List Operation} {scope : Scope} {first : ℕ} {entries all : List Entry} {new : Members} {carried : ℕ → ℕ → Bool} {reshaping : Bool}
    → IsLeftBehind given tape scope first entries all new carried reshaping tape' → OpensFit (world_in given tape' scope first) ≡ OpensFit (world_in given tape scope first)
fit-later {given = given} {tape = tape} {scope = scope} {first = first} left =
    ap (λ (l : List Operation). OpensFit (world_in given l scope first)) left.grown.1 ∙ fit-grown (world_in given tape scope first) left.grown.0 left.begun

-- its last step ended with the tape, if its last event is no loss
pub last-left : (given : Given) (tape tape' : List Operation) (scope : Scope) (first : ℕ) (entries : List Entry) (size : ℕ) (new : Members) (carried : ℕ → ℕ → Bool) (reshaping : Bool)
    (who : Who) (end : ℕ) (early : List Event) (event : Event) → IsLeftBehind given tape scope first entries (entries ++ entries_of who end (early ++ event ∷ [])) new carried reshaping tape'
    → end ≡ length tape' → is_loss event ≡ false → list_length new.newest ≡ size → IsNonePast (world_in given tape scope first) entries size
    → HasLastStep (world_in given tape' scope first) (entries ++ entries_of who end (early ++ event ∷ [])) (list_length new.newest)
last-left given tape tape' scope first entries size new carried reshaping who end early event left at_end other sized none = record {
  last = last-of (world_in given tape' scope first) entries who end early event [] other tt ∙ at_end;
  past = left.past (list_length new.newest) (omega arith) (subst (λ (n : ℕ). IsNonePast (world_in given tape scope first) entries n) (sym sized) none);
}

module _ (given : Given) (tape : List Operation) (scope : Scope) (first : ℕ) (entries : List Entry) (old new : Members) (carried carried' : ℕ → ℕ → Bool) (reshaping : Bool)
    (who : Who) (early : List Event) (IsTaken : ℕ → Type 0) (tail : List Event) (ops : List Operation) (are : AreEarly early IsTaken) (carries : (slot number : ℕ) → carried slot number ≡ true → carried' slot number ≡ true)
    (goes : IsCallGoing entries who) (caller : IsFalse (who.caller == 254)) (quiet : AreQuietLast who (length (tape ++ ops)) tail)
    (ended : last_end_from first (entries ++ entries_of who (length (tape ++ ops)) (early ++ tail)) ≡ length (tape ++ ops))
    (reshaped : EndsRight given (tape ++ ops) scope first entries new carried' reshaping who (length (tape ++ ops)) (early ++ tail)) (few : role_count new.newest ≤ 16)
    (missing : AreLostOrMissing old new IsTaken)
    (sized : list_length new.newest ≡ list_length old.newest) (clean : is_clean new.newest ≡ is_clean old.newest)
    (gone : IsReliable (world_in given tape scope first) entries → AreToldGone (world_in given tape scope first) entries old)
    (unclean : is_clean old.newest ≡ false → (is_unsynced (world_in given tape scope first) entries || is_unsettled entries) ≡ true)
    (recorded : IsHistoryKept (IsReliable (world_in given tape scope first) entries) (world_in given tape scope first) (list_length old.newest) entries)
    (legal : IsReliable (world_in given (tape ++ ops) scope first) (entries ++ entries_of who (length (tape ++ ops)) (early ++ tail)) → IsReliable (world_in given tape scope first) entries
    → AreToldGone (world_in given (tape ++ ops) scope first) (entries ++ entries_of who (length (tape ++ ops)) early) new
    → level_at (world_in given (tape ++ ops) scope first) (entries ++ entries_of who (length (tape ++ ops)) early) ≡ level_at (world_in given tape scope first) entries
    → IsLegalCall (world_in given (tape ++ ops) scope first) entries who (length (tape ++ ops)) (early ++ tail)) where
  abbrev world : World
  world = world_in given tape scope first

  abbrev later : World
  later = world_in given (tape ++ ops) scope first

  abbrev end : ℕ
  end = length (tape ++ ops)

  abbrev more : List Entry
  more = entries_of who (length (tape ++ ops)) (early)

  abbrev added : List Entry
  added = entries_of who (length (tape ++ ops)) (early ++ tail)

  abbrev all : List Entry
  all = entries ++ entries_of who (length (tape ++ ops)) (early ++ tail)

  behind : IsBehind (world_in given tape scope first) (world_in given (tape ++ ops) scope first) entries new who (length (tape ++ ops)) early tail
  behind = is-behind given tape scope first entries old new who early IsTaken tail ops (telling-of (first-of are)) quiet.gives quiet.level few missing gone recorded

  adds-all : AreAdding added
  adds-all = are.adds who end tail quiet.adds

  -- ---- what is told

  begun : first ≤ length tape
  begun = recorded.begun

  -- without the new numbers, and with them
  abbrev before : Ledger
  before = told_by later carried reshaping entries more

  abbrev told : Ledger
  told = told_by later carried' reshaping entries more

  told-more : IsMoreTold before told
  told-more = record { size = refl; values = λ x lt v may. may; gone = λ role is. is; unclean = λ is. is; reshaping = λ is. is; carried = carries }

  told-first : IsMoreTold (told_now world carried reshaping entries) before
  told-first = subst (λ (l : Ledger). IsMoreTold l before) (now-grown world ops begun carried reshaping entries recorded.ends)
      (told-adding later carried carried reshaping reshaping entries more behind.adds_more (λ slot number is. is) (λ is. is))

  told-last : IsMoreTold told (told_now later carried' reshaping all)
  told-last = subst (λ (l : List Entry). IsMoreTold told (told_now later carried' reshaping l)) (append_assoc entries more (entries_of who end tail) ∙ ap (λ (l : List Entry). entries ++ l) (sym (entries-both who end early tail)))
      (more-then told (told_now later carried' reshaping (entries ++ more)) (told_now later carried' reshaping ((entries ++ more) ++ entries_of who end tail))
      (told-added later carried' reshaping entries more behind.adds_more behind.gives_more)
      (more-then (told_now later carried' reshaping (entries ++ more)) (told_by later carried' reshaping (entries ++ more) (entries_of who end tail)) (told_now later carried' reshaping ((entries ++ more) ++ entries_of who end tail))
      (told-adding later carried' carried' reshaping reshaping (entries ++ more) (entries_of who end tail) quiet.adds (λ slot number is. is) (λ is. is))
      (told-added later carried' reshaping (entries ++ more) (entries_of who end tail) quiet.adds quiet.gives)))

  unclean-all : is_clean new.newest ≡ false → (is_unsynced later all || is_unsettled all) ≡ true
  unclean-all dirty = told-last.unclean (told-more.unclean (told-first.unclean (unclean (sym clean ∙ dirty))))

  -- ---- the history

  recorded-all : (IsFilledRight later all → HasRoomForEvents later → IsSafeHistory ⊤ later given new carried' reshaping all) → IsHistoryKept (IsReliable later all) later (list_length new.newest) all
  recorded-all safe = kept-call (IsReliable world entries) (IsReliable later all) world ops (list_length old.newest) (list_length new.newest) entries who (early ++ tail) goes recorded behind.right caller
      (λ fills. inr behind.gives_all) (length-adding (length (opening_list world)) entries added adds-all ∙ recorded.sized ∙ sym sized)
      ended (λ fills. legal fills (behind.right fills) (behind.gone_more fills) behind.level_more)
      (λ right fit. reshaped right (behind.gone_all right) (safe right.fills right.room) fit)

  -- past the list's end it tells no more than before
  past-all : (size : ℕ) → list_length new.newest ≤ size → IsNonePast world entries size → IsNonePast later all size
  past-all size le none fills x high =
      ap (λ (l : List Sector). values_of l all x) behind.opened ∙ values-more (opening_list world) entries added x
      ∙ are.values who end tail x (values_of (opening_list world) entries x) ∙ quiet.still x (values_of (opening_list world) entries x) ∙ none (behind.fills fills) x high

  -- what it leaves, if each mark is safe
  pub left-behind : (IsFilledRight later all → HasRoomForEvents later → IsSafeHistory ⊤ later given new carried' reshaping all)
      → IsLeftBehind given tape scope first entries all new carried' reshaping (tape ++ ops)
  left-behind safe = record {
    right = behind.right;
    fills = behind.fills;
    past = past-all;
    levelled = behind.level_all;
    gone = behind.gone_all;
    unclean = unclean-all;
    recorded = recorded-all safe;
    opened = behind.opened;
    begun = begun;
    grown = (ops, refl);
    safe = safe;
  }

  -- ---- each mark

  module _ (sizes_are : scope.sizes ≡ sizes given)
      (safe : IsFilledRight (world_in given tape scope first) entries → HasRoomForEvents (world_in given tape scope first)
      → IsSafeHistory ⊤ (world_in given tape scope first) given old carried reshaping entries)
      (now_safe : IsFilledRight (world_in given tape scope first) entries → HasRoomForEvents (world_in given tape scope first)
      → IsSafeOver (world_in given tape scope first) given (told_now (world_in given tape scope first) carried reshaping entries) old tape)
      (call : LeavesNumbers given tape scope first entries old new carried carried' reshaping who early tail (tape ++ ops) (length (tape ++ ops))) where
    module _ (fills : IsFilledRight later all) (room : HasRoomForEvents later) where
      abbrev was : IsSafeHistory ⊤ (world_in given tape scope first) given old carried reshaping entries
      was = safe (behind.fills fills) (room-before world ops begun room)

      stretch : KeepsSafe world given told new tape (tape ++ ops)
      stretch = call.keeps before told (behind.right (record { fills = fills; room = room })) told-first told-more (λ slot number. refl) (λ slot number. refl) (room-now world ops begun old was.counted room)
          (λ role lt miss. behind.counts_more (record { fills = fills; room = room }) role lt miss)
          (λ dirty. told-first.unclean (unclean dirty))
          (now-more (OpensFit world) scope given (told_now world carried reshaping entries) before old (disk given.start tape) told-first (now_safe (behind.fills fills) (room-before world ops begun room)))

      last : IsSafeOver world given (told_now later carried' reshaping all) new (tape ++ ops)
      last = now-more (OpensFit world) scope given told (told_now later carried' reshaping all) new (disk given.start (tape ++ ops)) told-last stretch.next

      safe-all : IsSafeHistory ⊤ later given new carried' reshaping all
      safe-all = safe-called ⊤ given tape scope first entries old new carried carried' reshaping reshaping who early tail told ops (tape ++ ops) end refl refl sizes_are begun recorded.ends was
          fills call.rise (λ claimed opened mark low high. throughout-kept world given told new ops refl begun stretch (was.sound tt) opened mark (omega (arith, begun, low)) high) (record { size = refl; values = λ x lt v may. may; gone = λ role is. is; unclean = λ is. is; reshaping = λ is. refl; carried = λ slot number is. refl }) stretch last

    pub marks-leave : IsLeftBehind given tape scope first entries all new carried' reshaping (tape ++ ops)
    marks-leave = left-behind safe-all

module _ (given : Given) (tape : List Operation) (scope : Scope) (first : ℕ) (entries : List Entry) (old new : Members) (carried carried' : ℕ → ℕ → Bool) (reshaping : Bool)
    (who : Who) (early : List Event) (IsTaken : ℕ → Type 0) (tail : List Event) (ops : List Operation) (are : AreEarly early IsTaken) (carries : (slot number : ℕ) → carried slot number ≡ true → carried' slot number ≡ true)
    (goes : IsCallGoing entries who) (caller : IsFalse (who.caller == 254)) (quiet : AreQuietLast who (length (tape ++ ops)) tail)
    (ended : last_end_from first (entries ++ entries_of who (length (tape ++ ops)) (early ++ tail)) ≡ length (tape ++ ops))
    (reshaped : EndsRight given (tape ++ ops) scope first entries new carried' reshaping who (length (tape ++ ops)) (early ++ tail)) (few : role_count new.newest ≤ 16)
    (missing : AreLostOrMissing old new IsTaken)
    (sized : list_length new.newest ≡ list_length old.newest) (clean : is_clean new.newest ≡ is_clean old.newest) (sizes_are : scope.sizes ≡ sizes given)
    (gone : IsReliable (world_in given tape scope first) entries → AreToldGone (world_in given tape scope first) entries old)
    (unclean : is_clean old.newest ≡ false → (is_unsynced (world_in given tape scope first) entries || is_unsettled entries) ≡ true)
    (recorded : IsHistoryKept (IsReliable (world_in given tape scope first) entries) (world_in given tape scope first) (list_length old.newest) entries)
    (safe : IsFilledRight (world_in given tape scope first) entries → HasRoomForEvents (world_in given tape scope first)
    → IsSafeHistory ⊤ (world_in given tape scope first) given old carried reshaping entries)
    (now_safe : IsFilledRight (world_in given tape scope first) entries → HasRoomForEvents (world_in given tape scope first)
    → IsSafeOver (world_in given tape scope first) given (told_now (world_in given tape scope first) carried reshaping entries) old tape)
    (call : LeavesNumbers given tape scope first entries old new carried carried' reshaping who early tail (tape ++ ops) (length (tape ++ ops))) where
  pub numbers-leaves : IsLeftBehind given tape scope first entries (entries ++ entries_of who (length (tape ++ ops)) (early ++ tail)) new carried' reshaping (tape ++ ops)
  numbers-leaves = marks-leave given tape scope first entries old new carried carried' reshaping who early IsTaken tail ops are carries goes caller quiet ended reshaped few missing sized clean gone unclean recorded call.legal
      sizes_are safe now_safe call

-- ---- one that makes no device call

-- It enters one event, whether a live slot is left or not.
pub resting-leaves : (given : Given) (tape : List Operation) (scope : Scope) (first : ℕ) (entries : List Entry) (m : Members) (carried : ℕ → ℕ → Bool) (reshaping : Bool) (who : Who) (event : Event)
    → IsCallGoing entries who → IsFalse (who.caller == 254) → IsQuiet event → role_count m.newest ≤ 16 → scope.sizes ≡ sizes given
    → (IsReliable (world_in given tape scope first) entries → AreToldGone (world_in given tape scope first) entries m)
    → (is_clean m.newest ≡ false → (is_unsynced (world_in given tape scope first) entries || is_unsettled entries) ≡ true)
    → IsHistoryKept (IsReliable (world_in given tape scope first) entries) (world_in given tape scope first) (list_length m.newest) entries
    → (IsFilledRight (world_in given tape scope first) entries → HasRoomForEvents (world_in given tape scope first)
    → IsSafeHistory ⊤ (world_in given tape scope first) given m carried reshaping entries)
    → (IsReliable (world_in given tape scope first) entries → IsLegalEvent (world_in given tape scope first) entries (entry_of who (length tape) event) [] event)
    → IsLeftBehind given tape scope first entries (entries ++ entries_of who (length tape) (event ∷ [])) m carried reshaping tape
resting-leaves given tape scope first entries m carried reshaping who event goes caller quiet few sizes_are gone unclean recorded safe legal =
    subst Here (append-nil tape)
    (left-behind given tape scope first entries m m carried carried reshaping who [] (λ role. ⊥) (event ∷ []) [] early-none (λ slot number is. is) goes caller (quiet-last who (length (tape ++ [])) event quiet)
    (last_end-behind first entries who (length (tape ++ [])) [] event)
    (λ right told safe fit. call-ends_none (world_in given (tape ++ []) scope first) entries who (length (tape ++ [])) (event ∷ []) (or-false (ends_reshape event) false quiet.ends refl)) few (λ role lt miss. inl (lt, miss)) refl refl gone unclean recorded
    (λ all right told level. (subst Legal (sym (append-nil tape)) legal right, tt, tt))
    (subst Safe (sym (append-nil tape)) idle))
  where
    Here : List Operation → Type 0
    Here l = IsLeftBehind given tape scope first entries (entries ++ entries_of who (length l) (event ∷ [])) m carried reshaping l

    Legal : List Operation → Type 0
    Legal l = IsReliable (world_in given tape scope first) entries → IsLegalEvent (world_in given l scope first) entries (entry_of who (length l) event) [] event

    Safe : List Operation → Type 0
    Safe l = IsFilledRight (world_in given l scope first) (entries ++ entries_of who (length l) (event ∷ [])) → HasRoomForEvents (world_in given l scope first)
        → IsSafeHistory ⊤ (world_in given l scope first) given m carried reshaping (entries ++ entries_of who (length l) (event ∷ []))

    -- what is filled in was right before it, too
    before : IsFilledRight (world_in given tape scope first) (entries ++ entries_of who (length tape) (event ∷ [])) → IsFilledRight (world_in given tape scope first) entries
    before (inl none) = inl (
      λ role. none-before (loses (world_in given tape scope first) role) entries (entries_of who (length tape) (event ∷ [])) (none.0 role),
      none.1,
      none-before (λ e. is_taken_over e.event) entries (entries_of who (length tape) (event ∷ [])) none.2,
    )
    before (inr fit) = inr fit

    idle : Safe tape
    idle fills room = idle-call ⊤ given tape scope first entries m carried reshaping who (event ∷ []) sizes_are recorded.begun recorded.ends fills (safe (before fills) room)
        (and-true (adds_only event) true quiet.adds refl) (or-false (gives_some event) false quiet.gives refl)

-- ---- one that makes no number known

-- What is asked of a call, from this tape to that one with its end there, that enters these events before its last one.
pub record LeavesList (given : Given) (tape : List Operation) (scope : Scope) (first : ℕ) (entries : List Entry) (old new : Members) (carried : ℕ → ℕ → Bool) (reshaping : Bool)
    (who : Who) (early : List Event) (event : Event) (tape' : List Operation) (end : ℕ) : Type 0 where
  pub rise : IsRisen ⊤ old new tape tape'
  pub keeps : (told : Ledger) → IsFilledRight (world_in given tape scope first) entries → IsMoreTold (told_now (world_in given tape scope first) carried reshaping entries) told
      → HasRoomLeft old tape tape' → AreGoneTold told new → IsUncleanTold told old
      → IsSafeOver (world_in given tape scope first) given told old tape → KeepsSafe (world_in given tape scope first) given told new tape tape'
  pub legal : IsReliable (world_in given tape' scope first) (entries ++ entries_of who end (early ++ event ∷ [])) → IsReliable (world_in given tape scope first) entries
      → AreToldGone (world_in given tape' scope first) (entries ++ entries_of who end early) new
      → level_at (world_in given tape' scope first) (entries ++ entries_of who end early) ≡ level_at (world_in given tape scope first) entries
      → IsLegalCall (world_in given tape' scope first) entries who end (early ++ event ∷ [])

-- marks that are safe by any ledger that tells enough are so with no more numbers
pub numbers-kept : (given : Given) (tape : List Operation) (scope : Scope) (first : ℕ) (entries : List Entry) (old new : Members) (carried : ℕ → ℕ → Bool) (reshaping : Bool)
    (who : Who) (early tail : List Event) (tape' : List Operation) (at : ℕ) → IsRisen ⊤ old new tape tape'
    → ((told : Ledger) → IsReliable (world_in given tape scope first) entries → IsMoreTold (told_now (world_in given tape scope first) carried reshaping entries) told
    → HasRoomLeft old tape tape' → AreGoneTold told new → IsUncleanTold told old
    → IsSafeOver (world_in given tape scope first) given told old tape → KeepsSafe (world_in given tape scope first) given told new tape tape')
    → (IsReliable (world_in given tape' scope first) (entries ++ entries_of who at (early ++ tail)) → IsReliable (world_in given tape scope first) entries
    → AreToldGone (world_in given tape' scope first) (entries ++ entries_of who at early) new
    → level_at (world_in given tape' scope first) (entries ++ entries_of who at early) ≡ level_at (world_in given tape scope first) entries
    → IsLegalCall (world_in given tape' scope first) entries who at (early ++ tail))
    → LeavesNumbers given tape scope first entries old new carried carried reshaping who early tail tape' at
numbers-kept given tape scope first entries old new carried reshaping who early tail tape' at rise keeps legal = record {
  rise = rise;
  keeps = λ was told right more less same know room told_gone told_unclean before. keeps told right
      (more-then (told_now (world_in given tape scope first) carried reshaping entries) was told more less) room (λ role lt miss. less.gone role (told_gone role lt miss)) (λ dirty. less.unclean (told_unclean dirty))
      (now-more (OpensFit (world_in given tape scope first)) scope given was told old (disk given.start tape) less before);
  legal = legal;
}

-- it is such a call
pub numbers-of : (given : Given) (tape : List Operation) (scope : Scope) (first : ℕ) (entries : List Entry) (old new : Members) (carried : ℕ → ℕ → Bool) (reshaping : Bool)
    (who : Who) (early : List Event) (event : Event) (tape' : List Operation) (at : ℕ)
    → LeavesList given tape scope first entries old new carried reshaping who early event tape' at → LeavesNumbers given tape scope first entries old new carried carried reshaping who early (event ∷ []) tape' at
numbers-of given tape scope first entries old new carried reshaping who early event tape' at call =
    numbers-kept given tape scope first entries old new carried reshaping who early (event ∷ []) tape' at call.rise (λ told right. call.keeps told right.fills) call.legal

module _ (given : Given) (tape : List Operation) (scope : Scope) (first : ℕ) (entries : List Entry) (old new : Members) (carried : ℕ → ℕ → Bool) (reshaping : Bool)
    (who : Who) (early : List Event) (IsTaken : ℕ → Type 0) (event : Event) (ops : List Operation) (are : AreEarly early IsTaken)
    (goes : IsCallGoing entries who) (caller : IsFalse (who.caller == 254)) (quiet : IsQuiet event) (few : role_count new.newest ≤ 16)
    (missing : AreLostOrMissing old new IsTaken)
    (sized : list_length new.newest ≡ list_length old.newest) (clean : is_clean new.newest ≡ is_clean old.newest) (sizes_are : scope.sizes ≡ sizes given)
    (gone : IsReliable (world_in given tape scope first) entries → AreToldGone (world_in given tape scope first) entries old)
    (unclean : is_clean old.newest ≡ false → (is_unsynced (world_in given tape scope first) entries || is_unsettled entries) ≡ true)
    (recorded : IsHistoryKept (IsReliable (world_in given tape scope first) entries) (world_in given tape scope first) (list_length old.newest) entries)
    (safe : IsFilledRight (world_in given tape scope first) entries → HasRoomForEvents (world_in given tape scope first)
    → IsSafeHistory ⊤ (world_in given tape scope first) given old carried reshaping entries)
    (now_safe : IsFilledRight (world_in given tape scope first) entries → HasRoomForEvents (world_in given tape scope first)
    → IsSafeOver (world_in given tape scope first) given (told_now (world_in given tape scope first) carried reshaping entries) old tape)
    (call : LeavesList given tape scope first entries old new carried reshaping who early event (tape ++ ops) (length (tape ++ ops))) where
  pub quiet-leaves : IsLeftBehind given tape scope first entries (entries ++ entries_of who (length (tape ++ ops)) (early ++ event ∷ [])) new carried reshaping (tape ++ ops)
  quiet-leaves = numbers-leaves given tape scope first entries old new carried carried reshaping who early IsTaken (event ∷ []) ops are (λ slot number is. is) goes caller
      (quiet-last who (length (tape ++ ops)) event quiet) (last_end-behind first entries who (length (tape ++ ops)) early event)
      (λ right told safe fit. call-ends_none (world_in given (tape ++ ops) scope first) entries who (length (tape ++ ops)) (early ++ event ∷ []) (are.ends (event ∷ []) (or-false (ends_reshape event) false quiet.ends refl))) few missing sized clean sizes_are gone unclean recorded safe now_safe
      (numbers-of given tape scope first entries old new carried reshaping who early event (tape ++ ops) (length (tape ++ ops)) call)

-- the newest value of each sector is what it was
pub last-now : (list : List Sector) (entries : List Entry) (who : Who) (end : ℕ) (early : List Event) (IsTaken : ℕ → Type 0) (tail : List Event) → AreEarly early IsTaken → AreQuietLast who end tail
    → (x : ℕ) → now list (entries ++ entries_of who end (early ++ tail)) x ≡ now list entries x
last-now list entries who end early IsTaken tail are quiet x = ap (λ (l : List Sector). slice_index_or l 0 [])
    (values-more list entries (entries_of who end (early ++ tail)) x ∙ are.values who end tail x (values_of list entries x) ∙ quiet.still x (values_of list entries x))

pub quiet-now : (list : List Sector) (entries : List Entry) (who : Who) (end : ℕ) (early : List Event) (IsTaken : ℕ → Type 0) (event : Event) → AreEarly early IsTaken → IsQuiet event
    → (x : ℕ) → now list (entries ++ entries_of who end (early ++ event ∷ [])) x ≡ now list entries x
quiet-now list entries who end early IsTaken event are quiet = last-now list entries who end early IsTaken (event ∷ []) are (quiet-last who end event quiet)
