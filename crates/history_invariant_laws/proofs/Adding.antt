-- A call that enters losses, or more, and one event behind them, by which the list may change: a write.
use Rattle.std.proofs.Common.{◌≡◌, ◌⊎◌, inl, inr, ℕ, ◌<◌, ◌≤◌, ◌==◌, ◌||◌, Bool, true, false, List, [], ◌∷◌, ◌++◌, length, refl, sym, ◌∙◌, ap, subst, arith, append-nil}
use Rattle.std.specs.Prelude.{IsFalse, fold, ⊤}
use Rattle.std.specs.List.{list_any}
use Rattle.std.proofs.lemmas.List.Folds.{list_any-append}
use Rattle.history_invariant.specs.raid_types_Sectors.{Sector}
use Rattle.history_invariant.specs.raid_types_the_Who.{Who}
use Rattle.history_invariant.specs.bank_the_Operation.{Operation}
use Rattle.history_invariant.specs.bank_Given.{Given, sizes}
use Rattle.history_invariant.specs.bank_Tape.{IsIn, disk}
use Rattle.history_invariant.specs.sb_specs_the_Members.{Members}
use Rattle.history_invariant.specs.sb_specs_Reading.{Scope, is_clean, list_length, role_count}
use Rattle.history_invariant.specs.history_the_Entry.{Entry}
use Rattle.history_invariant.specs.history_the_Event.{Event}
use Rattle.history_invariant.specs.history_Epochs.{HasRoomForEvents}
use Rattle.history_invariant.specs.history_Flat.{now, values_of, values_after}
use Rattle.history_invariant.specs.history_Legal.{is_loss, level_at, level_after, IsLegalEvent}
use Rattle.history_invariant.specs.history_Losses.{is_unsynced, unsettles}
use Rattle.history_invariant.specs.history_OneShape.{is_unsettled}
use Rattle.history_invariant.specs.history_Plain.{entries_of}
use Rattle.history_invariant.specs.history_Sound.{OpensFit}
use Rattle.history_invariant.specs.history_World.{World, opening_list}
use Rattle.history_invariant.specs.crash_views_Views.{Ledger}
use Rattle.history_invariant.specs.crash_safety_laws_Safety.{HasRoomLeft, IsRisen}
use Rattle.history_invariant.specs.crash_safety_laws_Steady.{IsMoreTold, IsSafeOver, KeepsSafe, AreGoneTold, IsUncleanTold}
use Rattle.history_invariant.proofs.array_members_SoundViews.{throughout-kept}
use Rattle.history_invariant.specs.history_append_Losing.{losses_of}
use Rattle.history_invariant.proofs.history_append_CallLaws.{last_end-behind}
use Rattle.history_invariant.proofs.history_append_LosingLaws.{entries-both}
use Rattle.history_invariant.specs.Recorded.{IsHistoryKept, IsLegalCall, IsCallGoing, entry_of, ends_reshape, gives_some}
use Rattle.history_invariant.specs.Safe.{world_in, IsFilledRight, IsSafeHistory}
use Rattle.history_invariant.specs.Told.{told_now, told_by}
use Rattle.history_invariant.proofs.Growing.{now-grown, room-before, room-now}
use Rattle.history_invariant.proofs.Lists.{newest-in}
use Rattle.history_invariant.proofs.Seen.{now-more}
use Rattle.history_invariant.proofs.Calls.{safe-called}
use Rattle.history_invariant.proofs.KeptCalls.{kept-call}
use Rattle.history_invariant.proofs.Entered.{adds_only, AreAdding, told-adding, told-added, values-more, length-adding}
use Rattle.history_invariant.proofs.Reshapes.{call-ends_none}
use Rattle.history_invariant_laws.specs.Reliable.{IsReliable, AreToldGone, IsNonePast}
use Rattle.history_invariant_laws.proofs.LastStep.{IsWithin, AreWithin, none-past}
use Rattle.history_invariant_laws.proofs.Behind.{telling-of, AreFirst, first-of, AreLostOrMissing, IsAmong, IsBehind, early-losses, is-behind, or-false, and-true}
use Rattle.history_invariant_laws.proofs.Quiet.{IsLeftBehind}

-- An event that only adds to what is told: it settles nothing, keeps the length and the level, neither ends a reshape nor gives a role, and is no loss.
pub record IsAdding (event : Event) : Type 0 where
  pub adds : adds_only event ≡ true
  pub gives : gives_some event ≡ false
  pub ends : ends_reshape event ≡ false
  pub level : (n : ℕ) → level_after n event ≡ n
  pub other : is_loss event ≡ false

-- ---- with more before its event

-- What is asked of a call, from this tape to that one with its end there, that enters these events before its last one: by each value that they allow.
pub record ChangesEarly (given : Given) (tape : List Operation) (scope : Scope) (first : ℕ) (entries : List Entry) (old new : Members) (carried : ℕ → ℕ → Bool) (reshaping : Bool)
    (who : Who) (early : List Event) (event : Event) (tape' : List Operation) (end : ℕ) : Type 0 where
  pub within : AreWithin (list_length old.newest) (early ++ event ∷ [])
  pub rise : IsRisen ⊤ old new tape tape'
  pub keeps : (told : Ledger) → IsReliable (world_in given tape' scope first) (entries ++ entries_of who end (early ++ event ∷ []))
      → AreToldGone (world_in given tape' scope first) (entries ++ entries_of who end (early ++ event ∷ [])) new → IsFilledRight (world_in given tape scope first) entries
      → IsMoreTold (told_now (world_in given tape scope first) carried reshaping entries) told
      → ((x : ℕ) (v : Sector) → IsIn (values_of (opening_list (world_in given tape scope first)) (entries ++ entries_of who end (early ++ event ∷ [])) x) v → IsIn (told.values x) v)
      → HasRoomLeft old tape tape' → AreGoneTold told new → IsUncleanTold told old
      → (list_any (λ e. unsettles e.event) (entries_of who end (early ++ event ∷ [])) ≡ true → told.unclean ≡ true)
      → IsSafeOver (world_in given tape scope first) given told old tape → KeepsSafe (world_in given tape scope first) given told new tape tape'
  pub legal : IsReliable (world_in given tape scope first) entries
      → AreToldGone (world_in given tape' scope first) (entries ++ entries_of who end early) new
      → level_at (world_in given tape' scope first) (entries ++ entries_of who end early) ≡ level_at (world_in given tape scope first) entries
      → IsLegalCall (world_in given tape' scope first) entries who end (early ++ event ∷ [])

module _ (given : Given) (tape : List Operation) (scope : Scope) (first : ℕ) (entries : List Entry) (old new : Members) (carried : ℕ → ℕ → Bool) (reshaping : Bool)
    (who : Who) (early : List Event) (IsTaken : ℕ → Type 0) (event : Event) (ops : List Operation) (are : AreFirst early IsTaken)
    (goes : IsCallGoing entries who) (caller : IsFalse (who.caller == 254)) (adding : IsAdding event) (few : role_count new.newest ≤ 16)
    (missing : AreLostOrMissing old new IsTaken)
    (sized : list_length new.newest ≡ list_length old.newest)
    (clean : is_clean new.newest ≡ false → ((is_unsynced (world_in given tape scope first) entries || is_unsettled entries) ≡ true)
    ⊎ (list_any (λ e. unsettles e.event) (entries_of who (length (tape ++ ops)) (early ++ event ∷ [])) ≡ true))
    (sizes_are : scope.sizes ≡ sizes given)
    (gone : IsReliable (world_in given tape scope first) entries → AreToldGone (world_in given tape scope first) entries old)
    (unclean : is_clean old.newest ≡ false → (is_unsynced (world_in given tape scope first) entries || is_unsettled entries) ≡ true)
    (recorded : IsHistoryKept (IsReliable (world_in given tape scope first) entries) (world_in given tape scope first) (list_length old.newest) entries)
    (safe : IsFilledRight (world_in given tape scope first) entries → HasRoomForEvents (world_in given tape scope first)
    → IsSafeHistory ⊤ (world_in given tape scope first) given old carried reshaping entries)
    (now_safe : IsFilledRight (world_in given tape scope first) entries → HasRoomForEvents (world_in given tape scope first)
    → IsSafeOver (world_in given tape scope first) given (told_now (world_in given tape scope first) carried reshaping entries) old tape)
    (call : ChangesEarly given tape scope first entries old new carried reshaping who early event (tape ++ ops) (length (tape ++ ops))) where
  abbrev world : World
  world = world_in given tape scope first

  abbrev later : World
  later = world_in given (tape ++ ops) scope first

  abbrev end : ℕ
  end = length (tape ++ ops)

  abbrev added : List Entry
  added = entries_of who (length (tape ++ ops)) (early ++ event ∷ [])

  abbrev all : List Entry
  all = entries ++ entries_of who (length (tape ++ ops)) (early ++ event ∷ [])

  behind : IsBehind (world_in given tape scope first) (world_in given (tape ++ ops) scope first) entries new who (length (tape ++ ops)) early (event ∷ [])
  behind = is-behind given tape scope first entries old new who early IsTaken (event ∷ []) ops (telling-of are) (or-false (gives_some event) false adding.gives refl) adding.level few missing gone recorded

  adds-all : AreAdding added
  adds-all = are.adds who end (event ∷ []) (and-true (adds_only event) true adding.adds refl)

  -- ---- what is told

  begun : first ≤ length tape
  begun = recorded.begun

  abbrev told : Ledger
  told = told_by later carried reshaping entries added

  told-first : IsMoreTold (told_now world carried reshaping entries) told
  told-first = subst (λ (l : Ledger). IsMoreTold l told) (now-grown world ops begun carried reshaping entries recorded.ends)
      (told-adding later carried carried reshaping reshaping entries added adds-all (λ slot number is. is) (λ is. is))

  told-last : IsMoreTold told (told_now later carried reshaping all)
  told-last = told-added later carried reshaping entries added adds-all behind.gives_all

  told-unsettled : list_any (λ e. unsettles e.event) added ≡ true → told.unclean ≡ true
  told-unsettled is = last-of (is_unsynced later entries) (is_unsettled entries) (list_any (λ e. unsettles e.event) added) is
    where
      last-of : (a b c : Bool) → c ≡ true → (a || (b || c)) ≡ true
      last-of true b c e = refl
      last-of false true c e = refl
      last-of false false c e = e

  unclean-all : is_clean new.newest ≡ false → (is_unsynced later all || is_unsettled all) ≡ true
  unclean-all dirty = elim (clean dirty) [
    | inl before ↦ told-last.unclean (told-first.unclean before)
    | inr wrote ↦ told-last.unclean (told-unsettled wrote)
  ]

  -- each value that the history allows
  allowed : (x : ℕ) (v : Sector) → IsIn (values_of (opening_list world) all x) v → IsIn (told.values x) v
  allowed x v may = subst (λ (l : List Sector). IsIn (values_of l all x) v) (sym behind.opened) may

  -- ---- the history

  recorded-all : IsHistoryKept (IsReliable later all) later (list_length new.newest) all
  recorded-all = kept-call (IsReliable world entries) (IsReliable later all) world ops (list_length old.newest) (list_length new.newest) entries who (early ++ event ∷ []) goes recorded behind.right caller
      (λ fills. inr behind.gives_all) (length-adding (length (opening_list world)) entries added adds-all ∙ recorded.sized ∙ sym sized)
      (last_end-behind first entries who end early event) (λ fills. call.legal (behind.right fills) (behind.gone_more fills) behind.level_more)
      (λ fills fit. call-ends_none later entries who end (early ++ event ∷ []) (are.ends (event ∷ []) (or-false (ends_reshape event) false adding.ends refl)))

  -- past the list's end it tells no more than before
  past-all : (size : ℕ) → list_length new.newest ≤ size → IsNonePast world entries size → IsNonePast later all size
  past-all size le none fills x high =
      ap (λ (l : List Sector). values_of l all x) behind.opened ∙ values-more (opening_list world) entries added x
      ∙ ap (λ (l : List Sector). fold (λ values e. values_after x values e.event) l added) (none (behind.fills fills) x high)
      ∙ none-past (list_length old.newest) x who end (early ++ event ∷ []) (omega (arith, le, high, sized)) call.within

  -- ---- each mark

  module _ (fills : IsFilledRight later all) (room : HasRoomForEvents later) where
    abbrev was : IsSafeHistory ⊤ (world_in given tape scope first) given old carried reshaping entries
    was = safe (behind.fills fills) (room-before world ops begun room)

    stretch : KeepsSafe world given told new tape (tape ++ ops)
    stretch = call.keeps told (record { fills = fills; room = room }) (behind.gone_all (record { fills = fills; room = room })) (behind.fills fills) told-first allowed (room-now world ops begun old was.counted room)
        (λ role lt miss. behind.counts_all (record { fills = fills; room = room }) role lt miss)
        (λ dirty. told-first.unclean (unclean dirty)) told-unsettled
        (now-more (OpensFit world) scope given (told_now world carried reshaping entries) told old (disk given.start tape) told-first (now_safe (behind.fills fills) (room-before world ops begun room)))

    last : IsSafeOver world given (told_now later carried reshaping all) new (tape ++ ops)
    last = now-more (OpensFit world) scope given told (told_now later carried reshaping all) new (disk given.start (tape ++ ops)) told-last stretch.next

    abbrev all_of : List Event → List Entry
    all_of l = entries ++ entries_of who (length (tape ++ ops)) l

    no-more : (early ++ event ∷ []) ++ [] ≡ early ++ event ∷ []
    no-more = append-nil (early ++ event ∷ [])

    safe-all : IsSafeHistory ⊤ later given new carried reshaping all
    safe-all = subst (λ (l : List Event). IsSafeHistory ⊤ later given new carried reshaping (all_of l)) no-more
        (safe-called ⊤ given tape scope first entries old new carried carried reshaping reshaping who (early ++ event ∷ []) [] told ops (tape ++ ops) end refl refl sizes_are begun recorded.ends was
        (subst (λ (l : List Event). IsFilledRight later (all_of l)) (sym no-more) fills) call.rise
        (λ claimed opened mark low high. throughout-kept world given told new ops refl begun stretch (was.sound tt) opened mark (omega (arith, begun, low)) high)
        (record { size = refl; values = λ x lt v may. may; gone = λ role is. is; unclean = λ is. is; reshaping = λ is. refl; carried = λ slot number is. refl }) stretch
        (subst (λ (l : List Event). IsSafeOver world given (told_now later carried reshaping (all_of l)) new (tape ++ ops)) (sym no-more) last))

  pub changing-leaves : IsLeftBehind given tape scope first entries all new carried reshaping (tape ++ ops)
  changing-leaves = record {
    right = behind.right;
    fills = behind.fills;
    past = past-all;
    levelled = behind.level_all;
    gone = behind.gone_all;
    unclean = unclean-all;
    recorded = recorded-all;
    opened = behind.opened;
    begun = begun;
    grown = (ops, refl);
    safe = safe-all;
  }

-- ---- with losses before it

-- What is asked of a call, from this tape to that one with its end there.
pub record ChangesList (given : Given) (tape : List Operation) (scope : Scope) (first : ℕ) (entries : List Entry) (old new : Members) (carried : ℕ → ℕ → Bool) (reshaping : Bool)
    (who : Who) (roles spares : ℕ) (event : Event) (tape' : List Operation) (end : ℕ) : Type 0 where
  pub within : IsWithin (list_length old.newest) event
  pub rise : IsRisen ⊤ old new tape tape'
  pub keeps : (told : Ledger) → IsReliable (world_in given tape' scope first) (entries ++ entries_of who end (losses_of roles spares ++ event ∷ []))
      → AreToldGone (world_in given tape' scope first) (entries ++ entries_of who end (losses_of roles spares ++ event ∷ [])) new → IsFilledRight (world_in given tape scope first) entries
      → IsMoreTold (told_now (world_in given tape scope first) carried reshaping entries) told
      → ((x : ℕ) → x < list_length old.newest → IsIn (told.values x) (now (opening_list (world_in given tape scope first)) (entries ++ entries_of who end (losses_of roles spares ++ event ∷ [])) x))
      → HasRoomLeft old tape tape' → AreGoneTold told new → IsUncleanTold told old → (unsettles event ≡ true → told.unclean ≡ true)
      → IsSafeOver (world_in given tape scope first) given told old tape → KeepsSafe (world_in given tape scope first) given told new tape tape'
  pub legal : IsReliable (world_in given tape scope first) entries
      → AreToldGone (world_in given tape' scope first) (entries ++ entries_of who end (losses_of roles spares)) new
      → level_at (world_in given tape' scope first) (entries ++ entries_of who end (losses_of roles spares)) ≡ level_at (world_in given tape scope first) entries
      → IsLegalEvent (world_in given tape' scope first) (entries ++ entries_of who end (losses_of roles spares)) (entry_of who end event) [] event

-- what its event leaves unsettled
pub unsettled-last : (who : Who) (end : ℕ) (early : List Event) (event : Event) → unsettles event ≡ true → list_any (λ e. unsettles e.event) (entries_of who end (early ++ event ∷ [])) ≡ true
unsettled-last who end early event is =
    ap (λ (l : List Entry). list_any (λ e. unsettles e.event) l) (entries-both who end early (event ∷ []))
    ∙ list_any-append (λ e. unsettles e.event) (entries_of who end early) (entries_of who end (event ∷ []))
    ∙ last-true (list_any (λ e. unsettles e.event) (entries_of who end early)) (unsettles event) is
  where
    last-true : (a b : Bool) → b ≡ true → (a || (b || false)) ≡ true
    last-true true b e = refl
    last-true false true e = refl
    last-true false false e = absurd (cc)

module _ (given : Given) (tape : List Operation) (scope : Scope) (first : ℕ) (entries : List Entry) (old new : Members) (carried : ℕ → ℕ → Bool) (reshaping : Bool)
    (who : Who) (roles spares : ℕ) (event : Event) (ops : List Operation)
    (goes : IsCallGoing entries who) (caller : IsFalse (who.caller == 254)) (adding : IsAdding event) (few : role_count new.newest ≤ 16)
    (missing : AreLostOrMissing old new (IsAmong roles))
    (sized : list_length new.newest ≡ list_length old.newest) (clean : is_clean new.newest ≡ false → (is_clean old.newest ≡ false) ⊎ (unsettles event ≡ true)) (sizes_are : scope.sizes ≡ sizes given)
    (gone : IsReliable (world_in given tape scope first) entries → AreToldGone (world_in given tape scope first) entries old)
    (unclean : is_clean old.newest ≡ false → (is_unsynced (world_in given tape scope first) entries || is_unsettled entries) ≡ true)
    (recorded : IsHistoryKept (IsReliable (world_in given tape scope first) entries) (world_in given tape scope first) (list_length old.newest) entries)
    (safe : IsFilledRight (world_in given tape scope first) entries → HasRoomForEvents (world_in given tape scope first)
    → IsSafeHistory ⊤ (world_in given tape scope first) given old carried reshaping entries)
    (now_safe : IsFilledRight (world_in given tape scope first) entries → HasRoomForEvents (world_in given tape scope first)
    → IsSafeOver (world_in given tape scope first) given (told_now (world_in given tape scope first) carried reshaping entries) old tape)
    (call : ChangesList given tape scope first entries old new carried reshaping who roles spares event (tape ++ ops) (length (tape ++ ops))) where
  abbrev events : List Event
  events = losses_of roles spares ++ event ∷ []

  first-losses : AreFirst (losses_of roles spares) (IsAmong roles)
  first-losses = first-of (early-losses roles spares)

  adds-losses : AreAdding (entries_of who (length (tape ++ ops)) events)
  adds-losses = first-losses.adds who (length (tape ++ ops)) (event ∷ []) (and-true (adds_only event) true adding.adds refl)

  newest : (x : ℕ) → x < list_length old.newest
      → IsIn (values_of (opening_list (world_in given tape scope first)) (entries ++ entries_of who (length (tape ++ ops)) events) x) (now (opening_list (world_in given tape scope first)) (entries ++ entries_of who (length (tape ++ ops)) events) x)
  newest x lt = newest-in (opening_list (world_in given tape scope first)) (entries ++ entries_of who (length (tape ++ ops)) events) x
      (let size = length-adding (length (opening_list (world_in given tape scope first))) entries (entries_of who (length (tape ++ ops)) events) adds-losses ∙ recorded.sized in omega (arith, lt, size))
