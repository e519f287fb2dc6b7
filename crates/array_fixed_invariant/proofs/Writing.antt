-- A write of the list, from what it leaves: it was done, or refused before its first row was written, or behind it.
use Rattle.std.proofs.Common.{◌≡◌, ◌⊎◌, inl, inr, ℕ, ◌+◌, ◌-◌, ◌*◌, ◌/◌, ◌<◌, ◌≤◌, ◌==◌, ◌||◌, Bool, true, false, List, [], ◌∷◌, ◌++◌, length, fold, refl, sym, ◌∙◌, ap, subst, arith, append_assoc}
use Rattle.std.specs.Prelude.{IsFalse, IfSome, is_some, slice_index_or, ⊤}
use Rattle.std.specs.List.{list_any}
use Rattle.std.proofs.lemmas.List.Folds.{list_any-append}
use Rattle.array_reshaping_invariant.specs.raid_types_Sectors.{Sector, IsWhole, sectors_of}
use Rattle.array_reshaping_invariant.specs.raid_types_Shapes.{tolerance, tolerance_of}
use Rattle.array_reshaping_invariant.specs.raid_types_the_Refusal.{Refusal}
use Rattle.array_reshaping_invariant.specs.raid_types_the_Who.{Who}
use Rattle.array_reshaping_invariant.specs.raid_types_the_Shape.{Shape}
use Rattle.array_reshaping_invariant.specs.raid_types_the_Role_TheVariants.{Recovering as IsRecovering}
use Rattle.array_call_laws.proofs.raid_types_SectorLaws.{length-sectors_of}
use Rattle.array_reshaping_invariant.specs.bank_the_Operation.{Operation}
use Rattle.array_reshaping_invariant.specs.bank_Given.{Given}
use Rattle.array_reshaping_invariant.specs.bank_Tape.{IsIn}
use Rattle.array_reshaping_invariant.specs.sb_specs_the_Members.{Members}
use Rattle.array_reshaping_invariant.specs.sb_specs_Reading.{Scope, is_clean, shape_of, list_length, role_state}
use Rattle.array_reshaping_invariant.specs.stripe_row_Rows.{reading_of, present}
use Rattle.array_reshaping_invariant.specs.stripe_list_Writing.{IsWritten, HasFull}
use Rattle.array_reshaping_invariant.specs.history_the_Entry.{Entry}
use Rattle.array_reshaping_invariant.specs.history_the_Event.{Event}
use Rattle.array_reshaping_invariant.specs.history_the_Event_TheVariants.{Wrote, Torn, Refused}
use Rattle.array_reshaping_invariant.specs.history_Flat.{now, visible_of, sector_at, values_of, values_after}
use Rattle.array_reshaping_invariant.specs.history_Legal.{told_left, visible_at, level_at, level_after, IsRefusedRight, IsLegalEvent}
use Rattle.array_reshaping_invariant.specs.history_Losses.{is_unsynced, unsettles}
use Rattle.array_reshaping_invariant.specs.history_OneShape.{is_lost}
use Rattle.array_reshaping_invariant.specs.history_Plain.{entries_of}
use Rattle.array_reshaping_invariant.specs.history_Sound.{OpensFit}
use Rattle.array_reshaping_invariant.specs.history_Transfers.{IsTooMany}
use Rattle.array_reshaping_invariant.specs.history_World.{World, opening_list}
use Rattle.array_reshaping_invariant.specs.crash_views_Regions.{DoWithout}
use Rattle.array_reshaping_invariant.specs.crash_views_Views.{Ledger}
use Rattle.array_reshaping_invariant.specs.crash_safety_laws_Marking.{AreOthersPresent}
use Rattle.array_reshaping_invariant.specs.crash_safety_laws_Safety.{HasRoomLeft, IsRisen}
use Rattle.array_reshaping_invariant.specs.crash_safety_laws_Steady.{IsSafeOver, KeepsSafe, AreGoneTold, AreWritesAllowed}
use Rattle.array_reshaping_invariant.specs.array_members_the_Work.{Work}
use Rattle.array_reshaping_invariant.specs.array_members_Lacking.{AreLostSince, AreTooMany, AreBytes, ListStands, RowsStandBelow, synced_rows}
use Rattle.array_reshaping_invariant.specs.array_members_Moving.{Grows, IsMoved}
use Rattle.array_reshaping_invariant.specs.array_members_Placed.{AreWhole}
use Rattle.array_reshaping_invariant.specs.array_members_Status.{rebuilt_of}
use Rattle.array_reshaping_invariant.proofs.array_members_Fit.{list-alike}
use Rattle.array_reshaping_invariant.proofs.array_members_HeldRows.{without-before}
use Rattle.array_reshaping_invariant.proofs.array_members_LackingLaws.{never-both}
use Rattle.array_reshaping_invariant.proofs.array_members_LackingLists.{sectors-whole, row-sector}
use Rattle.array_reshaping_invariant.proofs.array_members_LackingWrites.{list-with, list-with-is, recovering-before}
use Rattle.array_reshaping_invariant.proofs.array_members_LiveLeft.{without-left}
use Rattle.array_reshaping_invariant.specs.history_append_Losing.{losses_of}
use Rattle.array_reshaping_invariant.proofs.history_append_CallLaws.{losses-are, values-losses, ends-losses}
use Rattle.array_reshaping_invariant.proofs.history_append_LosingLaws.{entries-both}
use Rattle.array_reshaping_invariant.proofs.array_call_specs_DegradedLaws.{written-whole, rows-same}
use Rattle.array_reshaping_invariant.proofs.array_call_specs_KeptLaws.{left-lost}
use Rattle.array_reshaping_invariant.proofs.array_call_specs_LedgerLaws.{torn-adds, written-allowed, torn-in, unsynced-more}
use Rattle.array_reshaping_invariant.proofs.array_call_specs_NowLaws.{wrote-is}
use Rattle.array_reshaping_invariant.specs.history_invariant_Recorded.{IsCallGoing, IsLegalCall, entry_of, ends_reshape, gives_some}
use Rattle.array_reshaping_invariant.specs.history_invariant_Safe.{world_in, IsFilledRight}
use Rattle.array_reshaping_invariant.proofs.history_invariant_Entered.{AreAdding, values-more, length-adding}
use Rattle.array_reshaping_invariant.proofs.history_invariant_Lists.{newest-in}
use Rattle.array_reshaping_invariant.specs.history_invariant_laws_Reliable.{IsReliable, AreToldGone}
use Rattle.array_reshaping_invariant.proofs.history_invariant_laws_LastStep.{AreWithin, losses-within}
use Rattle.array_reshaping_invariant.proofs.history_invariant_laws_Behind.{AreFirst, IsAmong, first-of, early-losses, legal-losses, inner-of}
use Rattle.array_reshaping_invariant.proofs.history_invariant_laws_Adding.{unsettled-last}
use Rattle.array_fixed_invariant.specs.Still.{HasListStood, IsStill}
use Rattle.array_fixed_invariant.proofs.Adding.{changing-stands}
use Rattle.array_fixed_invariant.proofs.Leaving.{list-later, unsynced-later, fit-earlier}
use Rattle.array_fixed_invariant.proofs.Reading.{visible-behind}
use Rattle.array_fixed_invariant.proofs.Refusals.{IsRefusedStill, too-many-refused, refused-right, unsynced-behind}
use Rattle.array_fixed_invariant.proofs.Staying.{missing-since}
use Rattle.array_fixed_invariant.proofs.Stood.{mended-moved, stood-moved}
use Rattle.array_fixed_invariant.proofs.Whole.{whole-told}

-- ---- what the call leaves

-- whether it was done or not: where rows were written, the sectors of the write are allowed
pub record IsPutStill (tells : Type 0) (given : Given) (tape tape' : List Operation) (old new : Members) (roles spares : ℕ) (before after : ℕ → ℕ) (mended at : ℕ) (from : List ℕ) (begun : Bool) : Type 0 where
  pub moved : IsMoved given old new
  pub since : AreLostSince old new roles spares before after
  pub grows : Grows tells tape tape'
  pub stays : is_clean old.newest ≡ false → is_clean new.newest ≡ false
  pub rise : tells → IsRisen ⊤ old new tape tape'
  pub safe : tells → (world : World) → (told : Ledger) → HasRoomLeft old tape tape' → AreGoneTold told new → told.unclean ≡ true → (list list' : ℕ → Sector) → IsWritten list list' at from
      → ListStands old (present given tape) list → AreWhole new ⊎ RowsStandBelow mended old (present given tape) list
      → (begun ≡ true → AreWritesAllowed old told.values list') → IsSafeOver world given told old tape → KeepsSafe world given told new tape tape'

-- what it leaves where it was done
pub record IsWrittenStill (tells : Type 0) (given : Given) (tape tape' : List Operation) (old new : Members) (mended at : ℕ) (from : List ℕ) : Type 0 where
  pub dirty : is_clean new.newest ≡ false
  pub put : tells → (list list' : ℕ → Sector) → IsWritten list list' at from → ListStands old (present given tape) list → ListStands new (present given tape') list'
  pub good : tells → (list list' : ℕ → Sector) → IsWritten list list' at from → ListStands old (present given tape) list
      → RowsStandBelow mended old (present given tape) list → RowsStandBelow mended new (present given tape') list'
  pub rebuilt : tells → (list list' : ℕ → Sector) → IsWritten list list' at from → ListStands old (present given tape) list
      → RowsStandBelow mended old (present given tape) list → (role slot row : ℕ) → role < (shape_of old.newest).disks → role_state (reading_of new) role ≡ IsRecovering slot → row < old.newest.size
      → HasFull (reading_of old) (present given tape) (shape_of old.newest) list row role slot → HasFull (reading_of new) (present given tape') (shape_of old.newest) list' row role slot

-- ---- a torn write stands before its refusal

torn-first : (roles spares at : ℕ) (body : List Sector) → AreFirst (losses_of roles spares ++ Torn at body ∷ []) (IsAmong roles)
torn-first roles spares at body = record {
  adds = λ who end tail adds. subst (λ (l : List Event). AreAdding (entries_of who end l)) (again tail) (losses.adds who end (Torn at body ∷ tail) adds);
  gives = λ who end tail none. subst (λ (l : List Event). list_any (λ e. gives_some e.event) (entries_of who end l) ≡ false) (again tail) (losses.gives who end (Torn at body ∷ tail) none);
  lost = λ who end tail role lt has. subst (λ (l : List Event). is_lost (entries_of who end l) role ≡ true) (again tail) (losses.lost who end (Torn at body ∷ tail) role lt has);
  ends = λ tail none. subst (λ (l : List Event). list_any ends_reshape l ≡ false) (again tail) (losses.ends (Torn at body ∷ tail) none);
  level = λ who end tail n. ap (λ (l : List Event). fold (λ level e. level_after level e.event) n (entries_of who end l)) (sym (again tail)) ∙ losses.level who end (Torn at body ∷ tail) n;
}
  where
    losses : AreFirst (losses_of roles spares) (IsAmong roles)
    losses = first-of (early-losses roles spares)

    again : (tail : List Event) → losses_of roles spares ++ Torn at body ∷ tail ≡ (losses_of roles spares ++ Torn at body ∷ []) ++ tail
    again tail = sym (append_assoc (losses_of roles spares) (Torn at body ∷ []) tail)

module _ (tells : Type 0) (given : Given) (tape tape' : List Operation) (scope : Scope) (first : ℕ) (entries : List Entry) (old new : Members) (work : Work) (left left' : ℕ)
    (who : Who) (end roles spares : ℕ) (before after : ℕ → ℕ) (at : ℕ) (from : List ℕ) (begun : Bool)
    (was : IsStill tells given tape scope first entries old work left) (does : DoWithout old) (goes : IsCallGoing entries who) (caller : IsFalse (who.caller == 254)) (at_end : tells → end ≡ length tape')
    (alike : losses_of roles spares ≡ [] → left' ≡ left) (inside : at + length from / 512 ≤ list_length old.newest)
    (seen : tells → at + length from / 512 ≤ visible_at (world_in given tape scope first) entries)
    (did : IsPutStill tells given tape tape' old new roles spares before after (synced_rows work.resync old) at from begun) where
  abbrev world : World
  world = world_in given tape scope first

  abbrev current : ℕ → Sector
  current = now (opening_list (world_in given tape scope first)) entries

  abbrev all_of : List Event → List Entry
  all_of l = entries ++ entries_of who end l

  begins : tells → first ≤ length tape
  begins t = (was.recorded t).begun

  stood : (t : tells) → IsFilledRight (world_in given tape scope first) entries → HasListStood (OpensFit (world_in given tape scope first)) work old (present given tape) (now (opening_list (world_in given tape scope first)) entries)
  stood t fills = was.listed t does fills

  -- what it fills in is right, where that is so by all of its entries
  filled : (t : tells) (all : List Entry) → IsReliable (world_in given tape' scope first) all → AreToldGone (world_in given tape' scope first) all new
      → HasListStood (OpensFit (world_in given tape scope first)) work old (present given tape) (now (opening_list (world_in given tape scope first)) entries)
      → AreWhole new ⊎ RowsStandBelow (synced_rows work.resync old) old (present given tape) (now (opening_list (world_in given tape scope first)) entries)
  filled t all right gone l = elim right.fills [
    | inl none ↦ inl (whole-told (world_in given tape' scope first) all new none.0 gone)
    | inr fit ↦ inr (l.rows (fit-earlier given scope first did.grows begins t fit))
  ]

  -- each sector may have what it has
  held : tells → (x : ℕ) → x < list_length old.newest → IsIn (values_of (opening_list (world_in given tape scope first)) entries x) (now (opening_list (world_in given tape scope first)) entries x)
  held t x lt = newest-in (opening_list (world_in given tape scope first)) entries x (let size = (was.recorded t).sized in omega (arith, lt, size))

  -- the call keeps the array safe, where its entries tell the sectors that may have been written
  keeps : (t : tells) (events : List Event) (list' : ℕ → Sector) → IsWritten (now (opening_list (world_in given tape scope first)) entries) list' at from → (told : Ledger)
      → IsReliable (world_in given tape' scope first) (entries ++ entries_of who end events) → AreToldGone (world_in given tape' scope first) (entries ++ entries_of who end events) new
      → IsFilledRight (world_in given tape scope first) entries → (begun ≡ true → AreWritesAllowed old told.values list') → HasRoomLeft old tape tape' → AreGoneTold told new → told.unclean ≡ true
      → IsSafeOver (world_in given tape scope first) given told old tape → KeepsSafe (world_in given tape scope first) given told new tape tape'
  keeps t events list' written told right all_gone fills allowed room gone unclean safe =
      let l = stood t fills in
      did.safe t (world_in given tape scope first) told room gone unclean current list' written l.stands (filled t (entries ++ entries_of who end events) right all_gone l) allowed safe

  -- as much is visible behind its losses
  within : tells → (more : ℕ) → more ≡ length from / 512 → at + more ≤ visible_at (world_in given tape' scope first) (entries ++ entries_of who end (losses_of roles spares))
  within t more is =
      let same : visible_at (world_in given tape' scope first) (entries ++ entries_of who end (losses_of roles spares)) ≡ visible_at (world_in given tape scope first) entries =
      visible-behind entries who end roles spares (length (opening_list (world_in given tape' scope first)))
      ∙ ap (λ (o : List Sector). visible_of (length o) entries) (list-later given scope first did.grows begins t) in
      let all_seen = seen t in
      omega (arith, all_seen, same, is)

  -- ---- one that was done

  module _ (done : IsWrittenStill tells given tape tape' old new (synced_rows work.resync old) at from) (whole : IsWhole from) (bytes : AreBytes from) where
    abbrev wrote : List Event
    wrote = losses_of roles spares ++ Wrote at (sectors_of from) ∷ []

    -- the list with its sectors
    abbrev list' : ℕ → Sector
    list' = now (opening_list (world_in given tape scope first)) (entries ++ entries_of who end (losses_of roles spares ++ Wrote at (sectors_of from) ∷ []))

    written : IsWritten (now (opening_list (world_in given tape scope first)) entries) (now (opening_list (world_in given tape scope first)) (entries ++ entries_of who end (losses_of roles spares ++ Wrote at (sectors_of from) ∷ []))) at from
    written =
        let w = wrote-is (opening_list (world_in given tape scope first)) entries who end (losses_of roles spares) at from (losses-are roles spares) in
        record { here = λ x low high. w.here x low high ∙ sym (row-sector from (x - at)); other = w.other }

    listed : tells → DoWithout new → IsFilledRight (world_in given tape scope first) entries
        → HasListStood (OpensFit (world_in given tape scope first)) work new (present given tape') (now (opening_list (world_in given tape scope first)) (entries ++ entries_of who end (losses_of roles spares ++ Wrote at (sectors_of from) ∷ [])))
    listed t still fills =
        let l = stood t fills in
        record {
          stands = done.put t current list' written l.stands;
          whole = λ fit x lt. written-whole at from current list' (list_length old.newest) written (sectors-whole from whole bytes) (l.whole fit) x
              (subst (λ (n : ℕ). x < n) (list-alike old.newest new.newest did.moved.reshape did.moved.shape did.moved.size) lt);
          rows = λ fit. subst (λ (n : ℕ). RowsStandBelow n new (present given tape') list') (sym (mended-moved did.moved work.resync)) (done.good t current list' written l.stands (l.rows fit));
          rebuilt = λ fit role slot row lt is beyond below low.
              let size : row < old.newest.size = subst (λ (n : ℕ). row < n) did.moved.size low in
              let disks : role < (shape_of old.newest).disks = subst (λ (s : Shape). role < s.disks) did.moved.shape lt in
              let full = l.rebuilt fit role slot row disks (recovering-before did.moved role slot is) (subst (λ (n : ℕ). n ≤ row) (rows-same did.moved role slot is) beyond)
              (subst (λ (s : Shape). row < rebuilt_of work role * s.chunk) did.moved.shape below) size in
              subst (λ (s : Shape). HasFull (reading_of new) (present given tape') s list' row role slot) (sym did.moved.shape)
              (done.rebuilt t current list' written l.stands (l.rows fit) role slot row disks is size full);
        }

    pub wrote-stands : IsStill tells given tape' scope first (entries ++ entries_of who end (losses_of roles spares ++ Wrote at (sectors_of from) ∷ [])) new work left'
    wrote-stands =
        changing-stands tells given tape tape' scope first entries old new work left left' who end (losses_of roles spares) (IsAmong roles) (Wrote at (sectors_of from)) was
        (without-left given old was.members_are.placed was.members_are.unlost does) goes caller at_end did.grows (record { adds = refl; gives = refl; ends = refl; level = λ n. refl; other = refl }) did.moved
        (first-of (early-losses roles spares)) (missing-since did.moved did.since) (λ dirty. inr (unsettled-last who end (losses_of roles spares) (Wrote at (sectors_of from)) refl)) (λ can pending. done.dirty)
        (left-lost left left' entries who end (losses_of roles spares) (Wrote at (sectors_of from) ∷ []) (losses-are roles spares) alike was.left_told (λ told is. is)) listed
        (λ t. record {
          within = losses-within (list_length old.newest) (losses_of roles spares) (Wrote at (sectors_of from) ∷ []) (losses-are roles spares)
              (let n : length (sectors_of from) ≡ length from / 512 = length-sectors_of from in omega (arith, inside, n), tt);
          rise = did.rise t;
          keeps = λ told right all_gone fills more allowed room gone unclean unsettled safe.
              keeps t wrote list' written told right all_gone fills
              (λ is x lt. allowed x (list' x) (newest-in (opening_list (world_in given tape scope first)) (all_of wrote) x
              (let size = length-adding (length (opening_list (world_in given tape scope first))) entries (entries_of who end wrote) ((first-of (early-losses roles spares)).adds who end (Wrote at (sectors_of from) ∷ []) refl) ∙ (was.recorded t).sized in
              omega (arith, lt, size)))) room gone
              (unsettled (unsettled-last who end (losses_of roles spares) (Wrote at (sectors_of from)) refl)) safe;
          legal = λ fills gone level. legal-losses (world_in given tape' scope first) entries who end (losses_of roles spares) (Wrote at (sectors_of from) ∷ []) (losses-are roles spares)
              (within t (length (sectors_of from)) (length-sectors_of from), tt, tt);
        })

  -- ---- one that was refused

  -- before a row was written
  pub unwritten-stands : (refusal : Refusal) → begun ≡ false → IsRefusedStill work.resync new refusal → (is_clean old.newest ≡ false) ⊎ (unsettles (Refused refusal) ≡ true)
      → (tells → AreOthersPresent (present given tape) (present given tape'))
      → IsStill tells given tape' scope first (entries ++ entries_of who end (losses_of roles spares ++ Refused refusal ∷ [])) new work left'
  unwritten-stands refusal not_begun why dirty others =
      changing-stands tells given tape tape' scope first entries old new work left left' who end (losses_of roles spares) (IsAmong roles) (Refused refusal) was
      (without-left given old was.members_are.placed was.members_are.unlost does) goes caller at_end did.grows (record { adds = refl; gives = refl; ends = refl; level = λ n. refl; other = refl }) did.moved
      (first-of (early-losses roles spares)) (missing-since did.moved did.since) (λ marked. elim dirty [
        | inl former ↦ inl former
        | inr is ↦ inr (unsettled-last who end (losses_of roles spares) (Refused refusal) is)
      ]) (λ can pending. did.stays (was.dirty (without-before given old new did.moved can) pending))
      (left-lost left left' entries who end (losses_of roles spares) (Refused refusal ∷ []) (losses-are roles spares) alike was.left_told (λ told is. is))
      (λ t can fills. subst (λ (l : ℕ → Sector). HasListStood (OpensFit (world_in given tape scope first)) work new (present given tape') l) (λ i x. sym (same x) i)
      (stood-moved (OpensFit (world_in given tape scope first)) work given old new (present given tape) (present given tape') current did.moved was.members_are.placed (others t) (stood t fills)))
      (λ t. record {
        within = losses-within (list_length old.newest) (losses_of roles spares) (Refused refusal ∷ []) (losses-are roles spares) (tt, tt);
        rise = did.rise t;
        keeps = λ told right all_gone fills more allowed room gone unclean unsettled safe.
            keeps t (losses_of roles spares ++ Refused refusal ∷ []) (list-with current at from) (list-with-is current at from) told right all_gone fills
            (λ is. absurd (let no = sym not_begun ∙ is in cc)) room gone
            (elim dirty [
              | inl former ↦ unclean former
              | inr is ↦ unsettled (unsettled-last who end (losses_of roles spares) (Refused refusal) is)
            ]) safe;
        legal = λ fills gone level. legal-losses (world_in given tape' scope first) entries who end (losses_of roles spares) (Refused refusal ∷ []) (losses-are roles spares) (
          refused-right (world_in given tape' scope first) (entries ++ entries_of who end (losses_of roles spares)) given new did.moved.placed work.resync gone
              (ap tolerance_of level ∙ was.levelled t fills ∙ ap tolerance (sym did.moved.shape))
              (unsynced-behind tells given tape tape' scope first entries who end roles spares did.grows begins t ∙ was.pending t) refusal why,
          tt,
          tt,
        );
      })
    where
      same : (x : ℕ) → now (opening_list (world_in given tape scope first)) (entries ++ entries_of who end (losses_of roles spares ++ Refused refusal ∷ [])) x ≡ now (opening_list (world_in given tape scope first)) entries x
      same x = ap (λ (l : List Sector). slice_index_or l 0 [])
          (values-more (opening_list (world_in given tape scope first)) entries (entries_of who end (losses_of roles spares ++ Refused refusal ∷ [])) x
          ∙ values-losses who end (losses_of roles spares) (Refused refusal ∷ []) (losses-are roles spares) x (values_of (opening_list (world_in given tape scope first)) entries x))

  -- behind it: the sectors of the write may stand in the list, in place of what it has
  pub torn-stands : (refusal : Refusal) → AreTooMany new refusal
      → IsStill tells given tape' scope first (entries ++ entries_of who end ((losses_of roles spares ++ Torn at (sectors_of from) ∷ []) ++ Refused refusal ∷ [])) new work left'
  torn-stands refusal many =
      changing-stands tells given tape tape' scope first entries old new work left left' who end (losses_of roles spares ++ Torn at (sectors_of from) ∷ []) (IsAmong roles) (Refused refusal) was
      (without-left given old was.members_are.placed was.members_are.unlost does) goes caller at_end did.grows (record { adds = refl; gives = refl; ends = refl; level = λ n. refl; other = refl }) did.moved
      (torn-first roles spares at (sectors_of from)) (missing-since did.moved did.since) (λ dirty. inr unsettled) (λ can. absurd (never-both new refusal can many))
      (subst (λ (l : List Event). IfSome (told_left (entries ++ entries_of who end l)) (λ n. n ≡ left')) again
      (left-lost left left' entries who end (losses_of roles spares) (Torn at (sectors_of from) ∷ Refused refusal ∷ []) (losses-are roles spares) alike was.left_told (λ told is. is)))
      (λ t can. absurd (never-both new refusal can many))
      (λ t. record {
        within = subst (AreWithin (list_length old.newest)) again
            (losses-within (list_length old.newest) (losses_of roles spares) (Torn at (sectors_of from) ∷ Refused refusal ∷ []) (losses-are roles spares) (tt, (tt, tt)));
        rise = did.rise t;
        keeps = λ told right all_gone fills more allowed room gone unclean unsettles_so safe.
            keeps t ((losses_of roles spares ++ Torn at (sectors_of from) ∷ []) ++ Refused refusal ∷ []) (list-with current at from) (list-with-is current at from) told right all_gone fills
            (λ is. written-allowed (list_length old.newest) at from current (list-with current at from) told.values (list-with-is current at from)
            (λ x lt. allowed x (current x) (subst (λ (l : List Sector). IsIn l (current x)) (sym (values-torn x)) (torn-adds at (sectors_of from) x (values_of (opening_list (world_in given tape scope first)) entries x) (current x) (held t x lt))))
            (λ x lt covered. allowed x (sector_at at (sectors_of from) x)
            (subst (λ (l : List Sector). IsIn l (sector_at at (sectors_of from) x)) (sym (values-torn x))
            (torn-in at (sectors_of from) x (values_of (opening_list (world_in given tape scope first)) entries x) (held t x lt) covered))))
            room gone (unsettles_so unsettled) safe;
        legal = λ fills gone level. subst (λ (l : List Event). IsLegalCall (world_in given tape' scope first) entries who end l) again
            (legal-losses (world_in given tape' scope first) entries who end (losses_of roles spares) (Torn at (sectors_of from) ∷ Refused refusal ∷ []) (losses-are roles spares) (
              record { within = within t (length (sectors_of from)) (length-sectors_of from); refused = too-many refusal many },
              inner-of who end (Torn at (sectors_of from)) tt (Refused refusal ∷ []),
              (refused-behind t fills gone level, tt, tt),
            ));
      })
    where
      again : losses_of roles spares ++ Torn at (sectors_of from) ∷ Refused refusal ∷ [] ≡ (losses_of roles spares ++ Torn at (sectors_of from) ∷ []) ++ Refused refusal ∷ []
      again = sym (append_assoc (losses_of roles spares) (Torn at (sectors_of from) ∷ []) (Refused refusal ∷ []))

      too-many : (refusal : Refusal) → AreTooMany new refusal → IsTooMany (Refused refusal)
      too-many refusal (inl is) = subst (λ (r : Refusal). IsTooMany (Refused r)) (sym is.told) tt
      too-many refusal (inr is) = subst (λ (r : Refusal). IsTooMany (Refused r)) (sym is.1.told) tt

      unsettled-more : (a b : Bool) → a ≡ true → (a || b) ≡ true
      unsettled-more true b is = refl
      unsettled-more false b is = absurd (cc)

      -- a torn write leaves the array unsettled
      unsettled : list_any (λ e. unsettles e.event) (entries_of who end ((losses_of roles spares ++ Torn at (sectors_of from) ∷ []) ++ Refused refusal ∷ [])) ≡ true
      unsettled =
          ap (λ (l : List Entry). list_any (λ e. unsettles e.event) l) (entries-both who end (losses_of roles spares ++ Torn at (sectors_of from) ∷ []) (Refused refusal ∷ []))
          ∙ list_any-append (λ e. unsettles e.event) (entries_of who end (losses_of roles spares ++ Torn at (sectors_of from) ∷ [])) (entries_of who end (Refused refusal ∷ []))
          ∙ unsettled-more (list_any (λ e. unsettles e.event) (entries_of who end (losses_of roles spares ++ Torn at (sectors_of from) ∷ []))) (list_any (λ e. unsettles e.event) (entries_of who end (Refused refusal ∷ [])))
          (unsettled-last who end (losses_of roles spares) (Torn at (sectors_of from)) refl)

      -- what each sector may have behind it
      values-torn : (x : ℕ) → values_of (opening_list (world_in given tape scope first)) (entries ++ entries_of who end ((losses_of roles spares ++ Torn at (sectors_of from) ∷ []) ++ Refused refusal ∷ [])) x
          ≡ values_after x (values_of (opening_list (world_in given tape scope first)) entries x) (Torn at (sectors_of from))
      values-torn x =
          ap (λ (l : List Event). values_of (opening_list (world_in given tape scope first)) (entries ++ entries_of who end l) x) (sym again)
          ∙ values-more (opening_list (world_in given tape scope first)) entries (entries_of who end (losses_of roles spares ++ Torn at (sectors_of from) ∷ Refused refusal ∷ [])) x
          ∙ values-losses who end (losses_of roles spares) (Torn at (sectors_of from) ∷ Refused refusal ∷ []) (losses-are roles spares) x (values_of (opening_list (world_in given tape scope first)) entries x)

      -- the entries before its refusal
      before-refusal : entries ++ entries_of who end (losses_of roles spares ++ Torn at (sectors_of from) ∷ []) ≡ (entries ++ entries_of who end (losses_of roles spares)) ++ entry_of who end (Torn at (sectors_of from)) ∷ []
      before-refusal = ap (λ (l : List Entry). entries ++ l) (entries-both who end (losses_of roles spares) (Torn at (sectors_of from) ∷ []))
          ∙ sym (append_assoc entries (entries_of who end (losses_of roles spares)) (entry_of who end (Torn at (sectors_of from)) ∷ []))

      refused-behind : (t : tells) → IsReliable (world_in given tape scope first) entries → AreToldGone (world_in given tape' scope first) (entries ++ entries_of who end (losses_of roles spares ++ Torn at (sectors_of from) ∷ [])) new
          → level_at (world_in given tape' scope first) (entries ++ entries_of who end (losses_of roles spares ++ Torn at (sectors_of from) ∷ [])) ≡ level_at (world_in given tape scope first) entries
          → IsLegalEvent (world_in given tape' scope first) ((entries ++ entries_of who end (losses_of roles spares)) ++ entry_of who end (Torn at (sectors_of from)) ∷ []) (entry_of who end (Refused refusal)) [] (Refused refusal)
      refused-behind t fills gone level =
          subst (λ (l : List Entry). IsRefusedRight (world_in given tape' scope first) l refusal) before-refusal
          (refused-right (world_in given tape' scope first) (entries ++ entries_of who end (losses_of roles spares ++ Torn at (sectors_of from) ∷ [])) given new did.moved.placed work.resync gone
          (ap tolerance_of level ∙ was.levelled t fills ∙ ap tolerance (sym did.moved.shape)) (pending t) refusal (too-many-refused work.resync new refusal many))
        where
          pending : tells → is_unsynced (world_in given tape' scope first) (entries ++ entries_of who end (losses_of roles spares ++ Torn at (sectors_of from) ∷ [])) ≡ is_some work.resync
          pending t = unsynced-later given scope first (entries ++ entries_of who end (losses_of roles spares ++ Torn at (sectors_of from) ∷ [])) did.grows begins t
              ∙ unsynced-more (world_in given tape scope first) entries (entries_of who end (losses_of roles spares ++ Torn at (sectors_of from) ∷ []))
              (ends-losses who end (losses_of roles spares) (Torn at (sectors_of from) ∷ []) (losses-are roles spares)) ∙ was.pending t
