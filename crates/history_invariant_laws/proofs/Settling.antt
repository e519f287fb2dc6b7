-- A call that enters losses, and behind them an event that settles what was written: a flush, a stop, or the end of a resync.
use Rattle.std.proofs.Common.{◌≡◌, inl, inr, ℕ, ◌<◌, ◌≤◌, ◌==◌, ◌&&◌, ◌||◌, Bool, true, false, not, List, [], ◌∷◌, ◌++◌, length, refl, sym, ◌∙◌, ap, subst, arith}
use Rattle.std.specs.Prelude.{IsFalse, slice_index_or, take, ⊤}
use Rattle.std.specs.List.{list_any}
use Rattle.std.proofs.lemmas.List.Folds.{list_any-append}
use Rattle.history_invariant.specs.raid_types_Sectors.{Sector}
use Rattle.history_invariant.specs.raid_types_the_Who.{Who}
use Rattle.history_invariant.specs.bank_the_Operation.{Operation}
use Rattle.history_invariant.specs.bank_Given.{Given, sizes}
use Rattle.history_invariant.specs.bank_Tape.{IsIn, disk}
use Rattle.history_invariant.specs.sb_specs_the_Members.{Members}
use Rattle.history_invariant.specs.sb_specs_Reading.{Scope, is_clean, list_length, role_count}
use Rattle.history_invariant.specs.history_the_Entry.{Entry}
use Rattle.history_invariant.specs.history_the_Event.{Event}
use Rattle.history_invariant.specs.history_Epochs.{HasRoomForEvents}
use Rattle.history_invariant.specs.history_Flat.{now, length_of, length_after, values_of, values_after}
use Rattle.history_invariant.specs.history_Legal.{level_at, level_after, IsLegalEvent}
use Rattle.history_invariant.specs.history_Losses.{was_dirty, is_unsynced, is_resync_end}
use Rattle.history_invariant.specs.history_OneShape.{is_unsettled}
use Rattle.history_invariant.specs.history_Plain.{entries_of}
use Rattle.history_invariant.specs.history_Sound.{OpensFit}
use Rattle.history_invariant.specs.history_World.{World, opening_list}
use Rattle.history_invariant.specs.crash_views_Views.{Ledger}
use Rattle.history_invariant.specs.crash_safety_laws_Safety.{HasRoomLeft, IsRisen}
use Rattle.history_invariant.specs.crash_safety_laws_Steady.{IsMoreTold, IsSafeOver, KeepsSafe, AreGoneTold, IsUncleanTold, AreWritesAllowed, settled_ledger}
use Rattle.history_invariant.proofs.array_members_SoundViews.{throughout-kept}
use Rattle.history_invariant.specs.history_append_Losing.{losses_of}
use Rattle.history_invariant.proofs.history_append_CallLaws.{losses-are, last_end-behind, length-losses, values-losses, ends-losses}
use Rattle.history_invariant.proofs.history_append_LosingLaws.{entries-both}
use Rattle.history_invariant.specs.Recorded.{IsHistoryKept, IsLegalCall, IsReshapedCall, IsCallGoing, entry_of, ends_reshape, gives_some}
use Rattle.history_invariant.specs.Safe.{world_in, IsFilledRight, IsSafeHistory}
use Rattle.history_invariant.specs.Told.{told_now, told_by}
use Rattle.history_invariant.proofs.Growing.{unsynced-grown, now-grown, room-before, room-now}
use Rattle.history_invariant.proofs.Ledgers.{more-then}
use Rattle.history_invariant.proofs.Lists.{newest-in}
use Rattle.history_invariant.proofs.Seen.{now-more}
use Rattle.history_invariant.proofs.Calls.{safe-called}
use Rattle.history_invariant.proofs.KeptCalls.{kept-call}
use Rattle.history_invariant.proofs.Entered.{told-adding, values-more, length-more, length-adding, all-stay, settled-now}
use Rattle.history_invariant.proofs.Reshapes.{call-ends_none}
use Rattle.history_invariant_laws.specs.Reliable.{IsReliable, AreToldGone, IsNonePast}
use Rattle.history_invariant_laws.proofs.Behind.{telling-of, first-of, AreLostOrMissing, IsAmong, IsBehind, early-losses, is-behind, legal-losses, or-false}
use Rattle.history_invariant_laws.proofs.Quiet.{IsLeftBehind, EndsRight}

-- ---- the event

-- An event that leaves each sector its newest value, alone or not, and changes nothing else but that it may end a resync.
pub record IsSettlement (event : Event) : Type 0 where
  pub gives : gives_some event ≡ false
  pub level : (n : ℕ) → level_after n event ≡ n
  pub length : (n : ℕ) → length_after n event ≡ n
  pub newest : (x : ℕ) (values : List Sector) → IsIn values (slice_index_or values 0 []) → IsIn (values_after x values event) (slice_index_or values 0 [])
  pub same : (x : ℕ) (values : List Sector) → slice_index_or (values_after x values event) 0 [] ≡ slice_index_or values 0 []
  pub none : (x : ℕ) → values_after x [] event ≡ []

-- the newest value is among those that stay, and is the newest of them
first-in : (values : List Sector) (v : Sector) → IsIn values v → IsIn (take 1 values) (slice_index_or values 0 [])
first-in [] v has = absurd has
first-in (w ∷ values) v has = inl refl

first-stays : (values : List Sector) → slice_index_or (take 1 values) 0 [] ≡ slice_index_or values 0 []
first-stays [] = refl
first-stays (w ∷ values) = refl

-- so it is of one that leaves it alone: a flush or a stop
pub takes-newest : (event : Event) → gives_some event ≡ false → ((n : ℕ) → level_after n event ≡ n) → ((n : ℕ) → length_after n event ≡ n)
    → ((x : ℕ) (values : List Sector) → values_after x values event ≡ take 1 values) → IsSettlement event
takes-newest event gives level length takes = record {
  gives = gives;
  level = level;
  length = length;
  newest = λ x values has. subst (λ (l : List Sector). IsIn l (slice_index_or values 0 [])) (sym (takes x values)) (first-in values (slice_index_or values 0 []) has);
  same = λ x values. ap (λ (l : List Sector). slice_index_or l 0 []) (takes x values) ∙ first-stays values;
  none = λ x. takes x [];
}

-- where it ends no reshape, and leaves steps, the call does so
pub settling-ends : (world : World) (entries : List Entry) (who : Who) (end roles spares : ℕ) (event : Event) → ends_reshape event ≡ false → IsReshapedCall world entries who end (losses_of roles spares ++ event ∷ [])
settling-ends world entries who end roles spares event none =
    call-ends_none world entries who end (losses_of roles spares ++ event ∷ []) ((early-losses roles spares).ends (event ∷ []) (or-false (ends_reshape event) false none refl))

-- opened dirty, and ended neither before nor now
neither-ended : (dirty a b : Bool) → (dirty && not (a || (b || false))) ≡ ((dirty && not a) && not b)
neither-ended false a b = refl
neither-ended true true b = refl
neither-ended true false true = refl
neither-ended true false false = refl

-- a list that is the same as far as it goes is told by no more
settled-alike : (unsynced : Bool) (list other : ℕ → Sector) (told : Ledger) → ((x : ℕ) → x < told.size → list x ≡ other x) → IsMoreTold (settled_ledger unsynced list told) (settled_ledger unsynced other told)
settled-alike unsynced list other told same = record {
  size = refl;
  values = λ x lt v only. elim only [
    | inl is ↦ inl (is ∙ same x lt)
    | inr nothing ↦ absurd nothing
  ];
  gone = λ role is. is;
  unclean = λ is. is;
  reshaping = λ is. is;
  carried = λ slot number is. is;
}

-- ---- the call

-- Once it is over, the array is safe by a list that is this one as far as it goes, and by no other.
pub record IsSettledBy (world : World) (given : Given) (told : Ledger) (old new : Members) (tape' : List Operation) (unsynced : Bool) (newest : ℕ → Sector) : Type 0 where
  pub list : ℕ → Sector
  pub is : (x : ℕ) → x < list_length old.newest → list x ≡ newest x
  pub safe : IsSafeOver world given (settled_ledger unsynced list told) new tape'

-- What is asked of a call, from this tape to that one with its end there: by what is told while it runs each mark is safe, and its end by the list alone.
pub record SettlesList (given : Given) (tape : List Operation) (scope : Scope) (first : ℕ) (entries : List Entry) (old new : Members) (carried : ℕ → ℕ → Bool) (reshaping : Bool) (unsynced : Bool)
    (who : Who) (roles spares : ℕ) (event : Event) (tape' : List Operation) (end : ℕ) : Type 0 where
  pub rise : IsRisen ⊤ old new tape tape'
  pub keeps : (told : Ledger) → IsFilledRight (world_in given tape scope first) entries → IsMoreTold (told_now (world_in given tape scope first) carried reshaping entries) told
      → AreWritesAllowed old told.values (now (opening_list (world_in given tape scope first)) entries) → HasRoomLeft old tape tape' → AreGoneTold told new → IsUncleanTold told old
      → IsSafeOver (world_in given tape scope first) given told old tape → KeepsSafe (world_in given tape scope first) given told new tape tape'
  pub settled : (told : Ledger) → IsFilledRight (world_in given tape scope first) entries → IsMoreTold (told_now (world_in given tape scope first) carried reshaping entries) told
      → AreWritesAllowed old told.values (now (opening_list (world_in given tape scope first)) entries) → HasRoomLeft old tape tape' → AreGoneTold told new → IsUncleanTold told old
      → IsSafeOver (world_in given tape scope first) given told old tape
      → IsSettledBy (world_in given tape scope first) given told old new tape' unsynced (now (opening_list (world_in given tape scope first)) entries)
  pub legal : IsReliable (world_in given tape scope first) entries
      → AreToldGone (world_in given tape' scope first) (entries ++ entries_of who end (losses_of roles spares)) new
      → level_at (world_in given tape' scope first) (entries ++ entries_of who end (losses_of roles spares)) ≡ level_at (world_in given tape scope first) entries
      → IsLegalEvent (world_in given tape' scope first) (entries ++ entries_of who end (losses_of roles spares)) (entry_of who end event) [] event
  pub reshaped : EndsRight given tape' scope first entries new carried reshaping who end (losses_of roles spares ++ event ∷ [])

module _ (given : Given) (tape : List Operation) (scope : Scope) (first : ℕ) (entries : List Entry) (old new : Members) (carried : ℕ → ℕ → Bool) (reshaping : Bool) (unsynced : Bool)
    (who : Who) (roles spares : ℕ) (event : Event) (ops : List Operation)
    (goes : IsCallGoing entries who) (caller : IsFalse (who.caller == 254)) (settling : IsSettlement event) (few : role_count new.newest ≤ 16)
    (missing : AreLostOrMissing old new (IsAmong roles))
    (sized : list_length new.newest ≡ list_length old.newest) (clean : unsynced ≡ false → is_clean new.newest ≡ true) (sizes_are : scope.sizes ≡ sizes given)
    (unsynced_is : (is_unsynced (world_in given tape scope first) entries && not (is_resync_end event)) ≡ unsynced)
    (gone : IsReliable (world_in given tape scope first) entries → AreToldGone (world_in given tape scope first) entries old)
    (unclean : is_clean old.newest ≡ false → (is_unsynced (world_in given tape scope first) entries || is_unsettled entries) ≡ true)
    (recorded : IsHistoryKept (IsReliable (world_in given tape scope first) entries) (world_in given tape scope first) (list_length old.newest) entries)
    (safe : IsFilledRight (world_in given tape scope first) entries → HasRoomForEvents (world_in given tape scope first)
    → IsSafeHistory ⊤ (world_in given tape scope first) given old carried reshaping entries)
    (now_safe : IsFilledRight (world_in given tape scope first) entries → HasRoomForEvents (world_in given tape scope first)
    → IsSafeOver (world_in given tape scope first) given (told_now (world_in given tape scope first) carried reshaping entries) old tape)
    (call : SettlesList given tape scope first entries old new carried reshaping unsynced who roles spares event (tape ++ ops) (length (tape ++ ops))) where
  abbrev world : World
  world = world_in given tape scope first

  abbrev later : World
  later = world_in given (tape ++ ops) scope first

  abbrev end : ℕ
  end = length (tape ++ ops)

  abbrev losses : List Event
  losses = losses_of roles spares

  abbrev more : List Entry
  more = entries_of who (length (tape ++ ops)) (losses_of roles spares)

  abbrev rest : List Entry
  rest = entries_of who (length (tape ++ ops)) (event ∷ [])

  abbrev added : List Entry
  added = entries_of who (length (tape ++ ops)) (losses_of roles spares ++ event ∷ [])

  abbrev all : List Entry
  all = entries ++ entries_of who (length (tape ++ ops)) (losses_of roles spares ++ event ∷ [])

  both : added ≡ more ++ rest
  both = entries-both who end losses (event ∷ [])

  behind : IsBehind (world_in given tape scope first) (world_in given (tape ++ ops) scope first) entries new who (length (tape ++ ops)) (losses_of roles spares) (event ∷ [])
  behind = is-behind given tape scope first entries old new who (losses_of roles spares) (IsAmong roles) (event ∷ []) ops (telling-of (first-of (early-losses roles spares))) (or-false (gives_some event) false settling.gives refl) settling.level few missing gone recorded

  -- ---- what is told

  begun : first ≤ length tape
  begun = recorded.begun

  abbrev told : Ledger
  told = told_by later carried reshaping entries more

  told-first : IsMoreTold (told_now world carried reshaping entries) told
  told-first = subst (λ (l : Ledger). IsMoreTold l told) (now-grown world ops begun carried reshaping entries recorded.ends)
      (told-adding later carried carried reshaping reshaping entries more behind.adds_more (λ slot number is. is) (λ is. is))

  -- the list keeps its length
  length-opened : length_of (length (opening_list later)) entries ≡ list_length old.newest
  length-opened = ap (λ (l : List Sector). length_of (length l) entries) behind.opened ∙ recorded.sized

  length-now : length_of (length (opening_list later)) (entries ++ more) ≡ list_length old.newest
  length-now = length-adding (length (opening_list later)) entries more behind.adds_more ∙ length-opened

  length-all : length_of (length (opening_list later)) all ≡ list_length old.newest
  length-all =
      length-more (length (opening_list later)) entries added
      ∙ length-losses who end losses (event ∷ []) (losses-are roles spares) (length_of (length (opening_list later)) entries)
      ∙ settling.length (length_of (length (opening_list later)) entries) ∙ length-opened

  values-all : (x : ℕ) → values_of (opening_list later) all x ≡ values_after x (values_of (opening_list later) entries x) event
  values-all x =
      values-more (opening_list later) entries added x
      ∙ values-losses who end losses (event ∷ []) (losses-are roles spares) x (values_of (opening_list later) entries x)

  -- each sector may have its newest value then
  newest-all : (x : ℕ) → x < list_length old.newest → IsIn (values_of (opening_list later) all x) (now (opening_list later) entries x)
  newest-all x lt = subst (λ (l : List Sector). IsIn l (now (opening_list later) entries x)) (sym (values-all x))
      (settling.newest x (values_of (opening_list later) entries x) (newest-in (opening_list later) entries x (let n = length-opened in omega (arith, lt, n))))

  allowed : AreWritesAllowed old told.values (now (opening_list world) entries)
  allowed x lt = subst (λ (l : List Sector). IsIn (told.values x) (now l entries x)) behind.opened
      (subst (λ (l : List Sector). IsIn l (now (opening_list later) entries x)) (sym (values-more (opening_list later) entries more x))
      (all-stay x more (values_of (opening_list later) entries x) (now (opening_list later) entries x) behind.adds_more
      (newest-in (opening_list later) entries x (let n = length-opened in omega (arith, lt, n)))))

  -- ---- whether it is unclean

  unsynced-all : is_unsynced later all ≡ unsynced
  unsynced-all =
      ap (λ (b : Bool). was_dirty later && not b) (list_any-append (λ e. is_resync_end e.event) entries added ∙ ap (λ (b : Bool). list_any (λ e. is_resync_end e.event) entries || b) (ends-losses who end losses (event ∷ []) (losses-are roles spares)))
      ∙ neither-ended (was_dirty later) (list_any (λ e. is_resync_end e.event) entries) (is_resync_end event)
      ∙ ap (λ (b : Bool). b && not (is_resync_end event)) (unsynced-grown world ops begun entries) ∙ unsynced_is

  unclean-all : is_clean new.newest ≡ false → (is_unsynced later all || is_unsettled all) ≡ true
  unclean-all dirty = ap (λ (b : Bool). b || is_unsettled all) unsynced-all ∙ by unsynced clean
    where
      by : (b : Bool) → (b ≡ false → is_clean new.newest ≡ true) → (b || is_unsettled all) ≡ true
      by true marked = refl
      by false marked = absurd (let no = sym (marked refl) ∙ dirty in cc)

  -- ---- the history

  legal-call : IsReliable later all → IsLegalCall later entries who end (losses ++ event ∷ [])
  legal-call fills = legal-losses later entries who end losses (event ∷ []) (losses-are roles spares) (call.legal (behind.right fills) (behind.gone_more fills) behind.level_more, tt, tt)

  -- past the list's end it tells no more than before
  past-all : (size : ℕ) → list_length new.newest ≤ size → IsNonePast world entries size → IsNonePast later all size
  past-all size le none fills x high =
      values-all x ∙ ap (λ (l : List Sector). values_after x (values_of l entries x) event) behind.opened
      ∙ ap (λ (values : List Sector). values_after x values event) (none (behind.fills fills) x high) ∙ settling.none x

  -- ---- each mark

  told-last : (list : ℕ → Sector) → ((x : ℕ) → x < list_length old.newest → list x ≡ now (opening_list world) entries x) → IsMoreTold (settled_ledger unsynced list told) (told_now later carried reshaping all)
  told-last list is = more-then (settled_ledger unsynced list told) (settled_ledger unsynced (now (opening_list later) entries) told) (told_now later carried reshaping all)
      (settled-alike unsynced list (now (opening_list later) entries) told
      (λ x lt. is x (let n = length-now in omega (arith, lt, n)) ∙ sym (ap (λ (l : List Sector). now l entries x) behind.opened)))
      (subst (λ (l : List Entry). IsMoreTold (settled_ledger unsynced (now (opening_list later) entries) told) (told_now later carried reshaping (entries ++ l))) (sym both)
      (settled-now later carried reshaping unsynced entries more rest
      (subst (λ (l : List Entry). is_unsynced later (entries ++ l) ≡ unsynced) both unsynced-all)
      (subst (λ (l : List Entry). length_of (length (opening_list later)) (entries ++ l) ≡ length_of (length (opening_list later)) (entries ++ more)) both (length-all ∙ sym length-now))
      (λ x lt. subst (λ (l : List Entry). IsIn (values_of (opening_list later) (entries ++ l) x) (now (opening_list later) entries x)) both
      (newest-all x (let n = length-now in omega (arith, lt, n))))
      (subst (λ (l : List Entry). list_any (λ e. gives_some e.event) l ≡ false) both behind.gives_all)))

  module _ (fills : IsFilledRight later all) (room : HasRoomForEvents later) where
    abbrev was : IsSafeHistory ⊤ (world_in given tape scope first) given old carried reshaping entries
    was = safe (behind.fills fills) (room-before world ops begun room)

    before : IsSafeOver world given told old tape
    before = now-more (OpensFit world) scope given (told_now world carried reshaping entries) told old (disk given.start tape) told-first (now_safe (behind.fills fills) (room-before world ops begun room))

    stretch : KeepsSafe world given told new tape (tape ++ ops)
    stretch = call.keeps told (behind.fills fills) told-first allowed (room-now world ops begun old was.counted room)
        (λ role lt miss. behind.counts_more (record { fills = fills; room = room }) role lt miss) (λ dirty. told-first.unclean (unclean dirty)) before

    last : IsSafeOver world given (told_now later carried reshaping all) new (tape ++ ops)
    last =
        let by = call.settled told (behind.fills fills) told-first allowed (room-now world ops begun old was.counted room)
        (λ role lt miss. behind.counts_more (record { fills = fills; room = room }) role lt miss) (λ dirty. told-first.unclean (unclean dirty)) before in
        now-more (OpensFit world) scope given (settled_ledger unsynced by.list told) (told_now later carried reshaping all) new (disk given.start (tape ++ ops)) (told-last by.list by.is) by.safe

    safe-all : IsSafeHistory ⊤ later given new carried reshaping all
    safe-all = safe-called ⊤ given tape scope first entries old new carried carried reshaping reshaping who losses (event ∷ []) told ops (tape ++ ops) end refl refl sizes_are begun recorded.ends was
        fills call.rise (λ claimed opened mark low high. throughout-kept world given told new ops refl begun stretch (was.sound tt) opened mark (omega (arith, begun, low)) high)
        (record { size = refl; values = λ x lt v may. may; gone = λ role is. is; unclean = λ is. is; reshaping = λ is. refl; carried = λ slot number is. refl }) stretch last

  recorded-all : IsHistoryKept (IsReliable later all) later (list_length new.newest) all
  recorded-all = kept-call (IsReliable world entries) (IsReliable later all) world ops (list_length old.newest) (list_length new.newest) entries who (losses ++ event ∷ []) goes recorded behind.right caller
      (λ fills. inr behind.gives_all) (ap (λ (l : List Sector). length_of (length l) all) (sym behind.opened) ∙ length-all ∙ sym sized)
      (last_end-behind first entries who end losses event) legal-call
      (λ right fit. call.reshaped right (behind.gone_all right) (safe-all right.fills right.room) fit)

  pub settling-leaves : IsLeftBehind given tape scope first entries all new carried reshaping (tape ++ ops)
  settling-leaves = record {
    right = behind.right;
    fills = behind.fills;
    past = past-all;
    levelled = behind.level_all;
    gone = behind.gone_all;
    unclean = unclean-all;
    recorded = recorded-all;
    opened = behind.opened;
    begun = begun;
    grown = (ops, refl);
    safe = safe-all;
  }

-- the newest value of each sector is what it was
pub settled-same : (list : List Sector) (entries : List Entry) (who : Who) (end roles spares : ℕ) (event : Event) → IsSettlement event
    → (x : ℕ) → now list (entries ++ entries_of who end (losses_of roles spares ++ event ∷ [])) x ≡ now list entries x
settled-same list entries who end roles spares event settling x =
    ap (λ (l : List Sector). slice_index_or l 0 [])
    (values-more list entries (entries_of who end (losses_of roles spares ++ event ∷ [])) x
    ∙ values-losses who end (losses_of roles spares) (event ∷ []) (losses-are roles spares) x (values_of list entries x))
    ∙ settling.same x (values_of list entries x)
