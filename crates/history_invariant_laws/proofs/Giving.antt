-- A call that gives a role back to a slot behind all else that it enters, as the end of a rebuild does.
use Rattle.std.proofs.Common.{◌≡◌, ◌≢◌, inl, inr, ℕ, ◌≤◌, ◌==◌, ◌&&◌, ◌||◌, Bool, true, false, not, List, [], ◌∷◌, ◌++◌, length, refl, sym, ◌∙◌, ap, subst, arith, append_assoc, append-nil}
use Rattle.std.specs.Prelude.{IsFalse, fold, ⊤}
use Rattle.std.specs.List.{list_any, list_all}
use Rattle.std.specs.Option.{option_map_or}
use Rattle.std.proofs.lemmas.Bool.Decides.{nat_tests}
use Rattle.std.proofs.lemmas.List.Sums.{fold-append}
use Rattle.history_invariant.specs.raid_types_Sectors.{Sector}
use Rattle.history_invariant.specs.raid_types_the_Who.{Who}
use Rattle.history_invariant.specs.bank_the_Operation.{Operation}
use Rattle.history_invariant.specs.bank_Given.{Given, sizes}
use Rattle.history_invariant.specs.bank_Tape.{disk}
use Rattle.history_invariant.specs.sb_specs_the_Members.{Members}
use Rattle.history_invariant.specs.sb_specs_Reading.{Scope, is_clean, list_length, role_count}
use Rattle.history_invariant.specs.stripe_row_Rows.{reading_of, is_missing}
use Rattle.history_invariant.specs.history_the_Entry.{Entry}
use Rattle.history_invariant.specs.history_the_Event.{Event}
use Rattle.history_invariant.specs.history_the_Event_TheVariants.{Rebuilt}
use Rattle.history_invariant.specs.history_Epochs.{HasRoomForEvents}
use Rattle.history_invariant.specs.history_Flat.{values_of, values_after}
use Rattle.history_invariant.specs.history_Legal.{level_at, level_after}
use Rattle.history_invariant.specs.history_Losses.{loses, is_gone_after, is_unsynced}
use Rattle.history_invariant.specs.history_OneShape.{is_lost, is_unsettled}
use Rattle.history_invariant.specs.history_Plain.{entries_of}
use Rattle.history_invariant.specs.history_Sound.{OpensFit}
use Rattle.history_invariant.specs.history_World.{World, reading_at, opening_list}
use Rattle.history_invariant.specs.crash_views_Views.{Ledger}
use Rattle.history_invariant.specs.crash_safety_laws_Safety.{HasRoomLeft, IsRisen}
use Rattle.history_invariant.specs.crash_safety_laws_Steady.{IsMoreTold, IsSafeOver, KeepsSafe, AreGoneTold, IsUncleanTold, given_back}
use Rattle.history_invariant.proofs.array_members_SoundViews.{throughout-kept}
use Rattle.history_invariant.proofs.history_append_CallLaws.{last_end-behind}
use Rattle.history_invariant.proofs.history_append_LosingLaws.{entries-both}
use Rattle.history_invariant.specs.Recorded.{IsHistoryKept, IsLegalCall, IsCallGoing, IsOpenBehind, entry_of, gives_some}
use Rattle.history_invariant.specs.Safe.{world_in, is_taken_over, IsFilledRight, IsSafeHistory}
use Rattle.history_invariant.specs.Told.{told_now, told_by}
use Rattle.history_invariant.proofs.Growing.{now-grown, room-before, room-now}
use Rattle.history_invariant.proofs.Seen.{now-more}
use Rattle.history_invariant.proofs.Calls.{safe-called}
use Rattle.history_invariant.proofs.KeptCalls.{kept-call}
use Rattle.history_invariant.proofs.Entered.{adds_only, AreAdding, told-adding, values-more, length-adding}
use Rattle.history_invariant.proofs.Tests.{none-before}
use Rattle.history_invariant.proofs.Turned.{told-rebuilt, filled-before}
use Rattle.history_invariant_laws.specs.Reliable.{IsReliable, AreToldGone, IsNonePast}
use Rattle.history_invariant_laws.proofs.LastStep.{AreWithin, none-past}
use Rattle.history_invariant_laws.proofs.Behind.{AreTelling, AreLostOrMissing, IsBehind, is-behind, or-false, and-true}
use Rattle.history_invariant_laws.proofs.Quiet.{IsLeftBehind, EndsRight}

-- what may stand first may with an event behind it that leaves the level and gives no role
pub telling-then : {early : List Event} {IsTaken : ℕ → Type 0} (event : Event) → AreTelling early IsTaken → adds_only event ≡ true → gives_some event ≡ false → ((n : ℕ) → level_after n event ≡ n) → AreTelling (early ++ event ∷ []) IsTaken
telling-then {early = early} event are adding giving level = record {
  adds = λ who end tail adds. subst (λ (l : List Event). AreAdding (entries_of who end l)) (sym (append_assoc early (event ∷ []) tail))
      (are.adds who end (event ∷ tail) (and-true (adds_only event) (list_all (λ e. adds_only e.event) (entries_of who end tail)) adding adds));
  gives = λ who end tail none. subst (λ (l : List Event). list_any (λ e. gives_some e.event) (entries_of who end l) ≡ false) (sym (append_assoc early (event ∷ []) tail))
      (are.gives who end (event ∷ tail) (or-false (gives_some event) (list_any (λ e. gives_some e.event) (entries_of who end tail)) giving none));
  lost = λ who end tail role lt has. subst (λ (l : List Event). is_lost (entries_of who end l) role ≡ true) (sym (append_assoc early (event ∷ []) tail)) (are.lost who end (event ∷ tail) role lt has);
  level = λ who end tail n. ap (λ (l : List Event). fold (λ level e. level_after level e.event) n (entries_of who end l)) (append_assoc early (event ∷ []) tail)
      ∙ are.level who end (event ∷ tail) n ∙ ap (λ (m : ℕ). fold (λ level e. level_after level e.event) m (entries_of who end tail)) (level n);
}

-- What is asked of a call, from this tape to that one with its end there, that enters these events and gives this role back: up to its end its marks are judged
-- with the role gone, and what a stop leaves there without, too.
pub record GivesRole (given : Given) (tape : List Operation) (scope : Scope) (first : ℕ) (entries : List Entry) (old new : Members) (carried : ℕ → ℕ → Bool) (reshaping : Bool)
    (who : Who) (early : List Event) (role : ℕ) (tape' : List Operation) (end : ℕ) : Type 0 where
  pub within : AreWithin (list_length old.newest) (early ++ Rebuilt role ∷ [])
  pub rise : IsRisen ⊤ old new tape tape'
  pub keeps : (told : Ledger) → IsReliable (world_in given tape scope first) entries → IsMoreTold (told_now (world_in given tape scope first) carried reshaping entries) told
      → HasRoomLeft old tape tape' → AreGoneTold told new → IsUncleanTold told old
      → IsSafeOver (world_in given tape scope first) given told old tape → KeepsSafe (world_in given tape scope first) given told new tape tape'
  pub back : (told : Ledger) → IsReliable (world_in given tape scope first) entries → IsMoreTold (told_now (world_in given tape scope first) carried reshaping entries) told
      → HasRoomLeft old tape tape' → AreGoneTold told new → IsUncleanTold told old
      → IsSafeOver (world_in given tape scope first) given told old tape → IsSafeOver (world_in given tape scope first) given (given_back role told) new tape'
  pub legal : IsReliable (world_in given tape' scope first) (entries ++ entries_of who end (early ++ Rebuilt role ∷ [])) → IsReliable (world_in given tape scope first) entries
      → IsLegalCall (world_in given tape' scope first) entries who end (early ++ Rebuilt role ∷ [])
  pub reshaped : EndsRight given tape' scope first entries new carried reshaping who end (early ++ Rebuilt role ∷ [])

module _ (given : Given) (tape : List Operation) (scope : Scope) (first : ℕ) (entries : List Entry) (old new : Members) (carried : ℕ → ℕ → Bool) (reshaping : Bool)
    (who : Who) (early : List Event) (IsTaken : ℕ → Type 0) (role : ℕ) (ops : List Operation) (are : AreTelling early IsTaken)
    (goes : IsCallGoing entries who) (caller : IsFalse (who.caller == 254)) (few : role_count new.newest ≤ 16)
    (open_behind : IsReliable (world_in given (tape ++ ops) scope first) (entries ++ entries_of who (length (tape ++ ops)) (early ++ Rebuilt role ∷ [])) → IsOpenBehind (world_in given (tape ++ ops) scope first) goes.call)
    (missing : AreLostOrMissing old new IsTaken) (whole_is : is_missing (reading_of new) role ≡ false)
    (sized : list_length new.newest ≡ list_length old.newest) (clean : is_clean new.newest ≡ is_clean old.newest) (sizes_are : scope.sizes ≡ sizes given)
    (gone : IsReliable (world_in given tape scope first) entries → AreToldGone (world_in given tape scope first) entries old)
    (unclean : is_clean old.newest ≡ false → (is_unsynced (world_in given tape scope first) entries || is_unsettled entries) ≡ true)
    (recorded : IsHistoryKept (IsReliable (world_in given tape scope first) entries) (world_in given tape scope first) (list_length old.newest) entries)
    (safe : IsFilledRight (world_in given tape scope first) entries → HasRoomForEvents (world_in given tape scope first)
    → IsSafeHistory ⊤ (world_in given tape scope first) given old carried reshaping entries)
    (now_safe : IsFilledRight (world_in given tape scope first) entries → HasRoomForEvents (world_in given tape scope first)
    → IsSafeOver (world_in given tape scope first) given (told_now (world_in given tape scope first) carried reshaping entries) old tape)
    (call : GivesRole given tape scope first entries old new carried reshaping who early role (tape ++ ops) (length (tape ++ ops))) where
  abbrev world : World
  world = world_in given tape scope first

  abbrev later : World
  later = world_in given (tape ++ ops) scope first

  abbrev end : ℕ
  end = length (tape ++ ops)

  abbrev given_at : Entry
  given_at = entry_of who (length (tape ++ ops)) (Rebuilt role)

  abbrev more : List Entry
  more = entries_of who (length (tape ++ ops)) (early)

  abbrev added : List Entry
  added = entries_of who (length (tape ++ ops)) (early ++ Rebuilt role ∷ [])

  abbrev all : List Entry
  all = entries ++ entries_of who (length (tape ++ ops)) (early ++ Rebuilt role ∷ [])

  both : entries ++ entries_of who (length (tape ++ ops)) (early ++ Rebuilt role ∷ []) ≡ entries ++ (entries_of who (length (tape ++ ops)) early ++ entry_of who (length (tape ++ ops)) (Rebuilt role) ∷ [])
  both = ap (λ (l : List Entry). entries ++ l) (entries-both who end early (Rebuilt role ∷ []))

  whole : entries ++ entries_of who (length (tape ++ ops)) (early ++ Rebuilt role ∷ []) ≡ (entries ++ entries_of who (length (tape ++ ops)) early) ++ entry_of who (length (tape ++ ops)) (Rebuilt role) ∷ []
  whole = both ∙ sym (append_assoc entries more (given_at ∷ []))

  behind : IsBehind (world_in given tape scope first) (world_in given (tape ++ ops) scope first) entries new who (length (tape ++ ops)) early []
  behind = is-behind given tape scope first entries old new who early IsTaken [] ops are refl (λ n. refl) few missing gone recorded

  begun : first ≤ length tape
  begun = recorded.begun

  none-nil : entries ++ entries_of who (length (tape ++ ops)) (early ++ []) ≡ entries ++ entries_of who (length (tape ++ ops)) early
  none-nil = ap (λ (l : List Event). entries ++ entries_of who end l) (append-nil early)

  -- it can be relied on without the last entry, and before the call
  fills-early : IsFilledRight later all → IsFilledRight (world_in given (tape ++ ops) scope first) (entries ++ entries_of who (length (tape ++ ops)) (early ++ []))
  fills-early (inl none) = inl (
    λ r. subst (λ (l : List Entry). list_any (loses later r) l ≡ false) (sym none-nil)
        (none-before (loses later r) (entries ++ more) (given_at ∷ []) (subst (λ (l : List Entry). list_any (loses later r) l ≡ false) whole (none.0 r))),
    none.1,
    subst (λ (l : List Entry). list_any (λ e. is_taken_over e.event) l ≡ false) (sym none-nil)
        (none-before (λ e. is_taken_over e.event) (entries ++ more) (given_at ∷ []) (subst (λ (l : List Entry). list_any (λ e. is_taken_over e.event) l ≡ false) whole none.2)),
  )
  fills-early (inr fit) = inr fit

  right-early : IsReliable later all → IsReliable (world_in given (tape ++ ops) scope first) (entries ++ entries_of who (length (tape ++ ops)) (early ++ []))
  right-early right = record { fills = fills-early right.fills; room = right.room }

  fills-before : IsFilledRight later all → IsFilledRight (world_in given tape scope first) entries
  fills-before = filled-before world ops entries added begun recorded.ends

  right-before : IsReliable later all → IsReliable (world_in given tape scope first) entries
  right-before right = behind.right (right-early right)

  adds-all : AreAdding added
  adds-all = are.adds who end (Rebuilt role ∷ []) refl

  -- ---- what is told

  abbrev told : Ledger
  told = told_by later carried reshaping entries more

  told-first : IsMoreTold (told_now world carried reshaping entries) told
  told-first = subst (λ (l : Ledger). IsMoreTold l told) (now-grown world ops begun carried reshaping entries recorded.ends)
      (told-adding later carried carried reshaping reshaping entries more behind.adds_more (λ slot number is. is) (λ is. is))

  told-last : IsMoreTold (given_back role told) (told_now later carried reshaping all)
  told-last = subst (λ (l : List Entry). IsMoreTold (given_back role told) (told_now later carried reshaping l)) (sym both)
      (told-rebuilt later carried reshaping entries more given_at role refl behind.adds_more behind.gives_more)

  unclean-all : is_clean new.newest ≡ false → (is_unsynced later all || is_unsettled all) ≡ true
  unclean-all dirty = told-last.unclean (told-first.unclean (unclean (sym clean ∙ dirty)))

  gone-all : IsReliable later all → AreToldGone later all new
  gone-all right r lt miss = told-last.gone r (but (is_gone_after later entries r || list_any (loses later r) more) (r == role) (behind.counts_more (right-early right) r lt miss) (other r (λ same. (
      let clash : true ≡ false = sym miss ∙ ap (is_missing (reading_of new)) same ∙ whole_is in
      cc
      ))))
    where
      but : (a b : Bool) → a ≡ true → b ≡ false → (a && not b) ≡ true
      but true false is apart = refl
      but true true is apart = absurd (cc)
      but false b is apart = absurd (cc)

      other : (r : ℕ) → r ≢ role → (r == role) ≡ false
      other r apart = ne r role apart
        where
          ne : (a b : ℕ) → a ≢ b → (a == b) ≡ false
          ne a b apart = grind (arith, nat_tests, apart)

  -- past the list's end it tells no more than before
  past-all : (size : ℕ) → list_length new.newest ≤ size → IsNonePast world entries size → IsNonePast later all size
  past-all size le none fills x high =
      ap (λ (l : List Sector). values_of l all x) behind.opened ∙ values-more (opening_list world) entries added x
      ∙ ap (λ (l : List Sector). fold (λ values e. values_after x values e.event) l added) (none (fills-before fills) x high)
      ∙ none-past (list_length old.newest) x who end (early ++ Rebuilt role ∷ []) (omega (arith, le, high, sized)) call.within

  -- ---- each mark

  module _ (fills : IsFilledRight later all) (room : HasRoomForEvents later) where
    abbrev right : IsReliable later all
    right = record { fills = fills; room = room }

    abbrev was : IsSafeHistory ⊤ (world_in given tape scope first) given old carried reshaping entries
    was = safe (fills-before fills) (room-before world ops begun room)

    before : IsSafeOver (world_in given tape scope first) given told old tape
    before = now-more (OpensFit world) scope given (told_now world carried reshaping entries) told old (disk given.start tape) told-first (now_safe (fills-before fills) (room-before world ops begun room))

    stretch : KeepsSafe (world_in given tape scope first) given told new tape (tape ++ ops)
    stretch = call.keeps told (right-before right) told-first (room-now world ops begun old was.counted room)
        (λ role lt miss. behind.counts_more (right-early right) role lt miss) (λ dirty. told-first.unclean (unclean dirty)) before

    last : IsSafeOver (world_in given tape scope first) given (told_now later carried reshaping all) new (tape ++ ops)
    last = now-more (OpensFit world) scope given (given_back role told) (told_now later carried reshaping all) new (disk given.start (tape ++ ops)) told-last
        (call.back told (right-before right) told-first (room-now world ops begun old was.counted room)
        (λ role lt miss. behind.counts_more (right-early right) role lt miss) (λ dirty. told-first.unclean (unclean dirty)) before)

    safe-all : IsSafeHistory ⊤ later given new carried reshaping all
    safe-all = safe-called ⊤ given tape scope first entries old new carried carried reshaping reshaping who early (Rebuilt role ∷ []) told ops (tape ++ ops) end refl refl sizes_are begun recorded.ends was
        fills call.rise (λ claimed opened mark low high. throughout-kept world given told new ops refl begun stretch (was.sound tt) opened mark (omega (arith, begun, low)) high) (record { size = refl; values = λ x lt v may. may; gone = λ role is. is; unclean = λ is. is; reshaping = λ is. refl; carried = λ slot number is. refl }) stretch last

  -- ---- the history

  recorded-all : IsHistoryKept (IsReliable later all) later (list_length new.newest) all
  recorded-all = kept-call (IsReliable world entries) (IsReliable later all) world ops (list_length old.newest) (list_length new.newest) entries who (early ++ Rebuilt role ∷ []) goes recorded right-before caller
      (λ right. inl (open_behind right)) (length-adding (length (opening_list world)) entries added adds-all ∙ recorded.sized ∙ sym sized)
      (last_end-behind first entries who end early (Rebuilt role)) (λ right. call.legal right (right-before right))
      (λ right fit. call.reshaped right (gone-all right) (safe-all right.fills right.room) fit)

  level-all : level_at later all ≡ level_at world entries
  level-all = ap (λ (l : List Entry). level_at later l) whole
      ∙ fold-append (λ level e. level_after level e.event) (option_map_or (λ r. r.newest.level) (reading_at later later.first) 5) (entries ++ more) (given_at ∷ []) ∙ behind.level_more

  pub giving-leaves : IsLeftBehind given tape scope first entries (entries ++ entries_of who (length (tape ++ ops)) (early ++ Rebuilt role ∷ [])) new carried reshaping (tape ++ ops)
  giving-leaves = record {
    right = right-before;
    fills = fills-before;
    past = past-all;
    levelled = level-all;
    gone = gone-all;
    unclean = unclean-all;
    recorded = recorded-all;
    opened = behind.opened;
    begun = begun;
    grown = (ops, refl);
    safe = safe-all;
  }
