-- A reshape that makes the list shorter begins in an array that had none: the call tells its step, the new length, and what its update lost. Where no live slot is left, no slot
-- need have kept that length, but all roles are gone.
use Rattle.std.proofs.Common.{◌≡◌, ◌≢◌, ◌⊎◌, inl, inr, ℕ, ◌+◌, ◌<◌, ◌≤◌, ◌==◌, ◌&&◌, ◌||◌, nat_lt, max, Bool, true, false, cond, Option, Some, None, List, [], ◌∷◌, ◌++◌, length, refl, sym, ◌∙◌, ap, subst, arith, append_assoc, append-nil}
use Rattle.std.specs.Prelude.{IsFalse, IsTrue, IfSome, MatchOption, fold, slice_index_or, ⊤}
use Rattle.std.specs.List.{list_any}
use Rattle.std.specs.Option.{option_map_or}
use Rattle.std.proofs.lemmas.Bool.Decides.{nat_tests}
use Rattle.std.proofs.lemmas.List.Sums.{fold-append}
use Rattle.array_fixed_invariant.specs.raid_types_Search.{all_below}
use Rattle.array_fixed_invariant.specs.raid_types_Sectors.{Sector}
use Rattle.array_fixed_invariant.specs.raid_types_the_Who.{Who}
use Rattle.array_fixed_invariant.specs.raid_types_the_Shape.{Shape}
use Rattle.array_fixed_invariant.specs.bank_the_Operation.{Operation}
use Rattle.array_fixed_invariant.specs.bank_Given.{Given, sizes}
use Rattle.array_fixed_invariant.specs.bank_Tape.{IsIn, disk}
use Rattle.array_fixed_invariant.specs.sb_codec_the_Sb.{Sb}
use Rattle.array_fixed_invariant.specs.sb_specs_the_Members.{Members}
use Rattle.array_fixed_invariant.specs.sb_specs_Reading.{Scope, Reading, shape_of, final_shape, list_length, role_count}
use Rattle.array_fixed_invariant.specs.stripe_row_Rows.{reading_of, is_missing}
use Rattle.array_fixed_invariant.specs.history_the_Entry.{Entry}
use Rattle.array_fixed_invariant.specs.history_the_Event.{Event}
use Rattle.array_fixed_invariant.specs.history_the_Event_TheVariants.{Resized, Step}
use Rattle.array_fixed_invariant.specs.history_the_StepKind_TheVariants.{Begun}
use Rattle.array_fixed_invariant.specs.history_Epochs.{HasRoomForEvents}
use Rattle.array_fixed_invariant.specs.history_Flat.{length_of, values_of, values_after, now, is_same_call}
use Rattle.array_fixed_invariant.specs.history_Flat.{resized as cut}
use Rattle.array_fixed_invariant.specs.history_Growing.{EndBy}
use Rattle.array_fixed_invariant.specs.history_Legal.{told_left, level_at, level_after, call_before, disturbs, is_all_gone, IsLengthOfLevel, IsUnkeptLength, IsResizedAfter, IsResized}
use Rattle.array_fixed_invariant.specs.history_Losses.{is_gone_after, is_unsynced, unsettles, loses}
use Rattle.array_fixed_invariant.specs.history_OneShape.{is_lost, is_unsettled}
use Rattle.array_fixed_invariant.specs.history_Plain.{entries_of}
use Rattle.array_fixed_invariant.specs.history_Sound.{OpensFit}
use Rattle.array_fixed_invariant.specs.history_World.{World, contents_at, reading_at, opening_list}
use Rattle.array_fixed_invariant.proofs.history_laws_OneShapeGrowing.{AreFaults, call-ends}
use Rattle.array_fixed_invariant.specs.crash_views_Views.{Ledger}
use Rattle.array_fixed_invariant.specs.crash_safety_laws_Changing.{IsSafeChange}
use Rattle.array_fixed_invariant.specs.crash_safety_laws_Safety.{HasLiveSlot, HasRoomLeft, IsRisen}
use Rattle.array_fixed_invariant.specs.array_members_Placed.{IsPlaced}
use Rattle.array_fixed_invariant.specs.crash_safety_laws_Steady.{AreUnlost, IsMoreTold, IsSafeNow, IsSafeOver, AreGoneTold}
use Rattle.array_fixed_invariant.specs.crash_reshape_laws_Ends.{IsToldWith}
use Rattle.array_fixed_invariant.proofs.array_members_SoundViews.{throughout-changed}
use Rattle.array_fixed_invariant.specs.history_append_Losing.{losses_of}
use Rattle.array_fixed_invariant.proofs.history_append_CallLaws.{losses-are}
use Rattle.array_fixed_invariant.proofs.history_append_StepLaws.{faults-are}
use Rattle.array_fixed_invariant.specs.history_invariant_Recorded.{IsHistoryKept, IsLegalCall, IsCallGoing, IsOpenBehind, entry_of, ends_reshape, gives_some}
use Rattle.array_fixed_invariant.specs.history_invariant_Safe.{world_in, IsFilledRight, IsSafeHistory}
use Rattle.array_fixed_invariant.specs.history_invariant_Told.{told_now, told_by}
use Rattle.array_fixed_invariant.proofs.history_invariant_Growing.{reading-grown, opening-grown, fit-grown, gone-grown, unsynced-grown, now-grown, room-before, room-now}
use Rattle.array_fixed_invariant.proofs.history_invariant_Ledgers.{more-then, any-gone, unclean-now}
use Rattle.array_fixed_invariant.proofs.history_invariant_Longer.{regains-none}
use Rattle.array_fixed_invariant.proofs.history_invariant_Lengths.{length-now}
use Rattle.array_fixed_invariant.proofs.history_invariant_Lists.{newest-in}
use Rattle.array_fixed_invariant.proofs.history_invariant_Calls.{now-live}
use Rattle.array_fixed_invariant.proofs.history_invariant_Entered.{AreAdding, told-adding, settle-none, values-more, values-adding, length-adding, gone-was, gone-lost}
use Rattle.array_fixed_invariant.proofs.history_invariant_KeptCalls.{kept-call}
use Rattle.array_fixed_invariant.proofs.history_invariant_Reshapes.{call-ends_none}
use Rattle.array_fixed_invariant.proofs.history_invariant_Turned.{begun-old, filled-before}
use Rattle.array_fixed_invariant.proofs.history_invariant_Turns.{turned-length, turned-values, resized-call}
use Rattle.array_fixed_invariant.specs.history_invariant_laws_Reliable.{IsReliable, AreToldGone}
use Rattle.array_fixed_invariant.proofs.array_reshaping_invariant_Beginning.{told_before}
use Rattle.array_fixed_invariant.proofs.history_invariant_laws_Behind.{IsAmong, early-losses, inner-of, legal-losses, or-false}
use Rattle.array_fixed_invariant.proofs.array_reshaping_invariant_NoneLeft.{all_below-each, none-held}
use Rattle.array_fixed_invariant.proofs.array_reshaping_invariant_ReadShapes.{HasShapesOf, IsEitherRead}
use Rattle.array_fixed_invariant.proofs.history_invariant_laws_LastStep.{last-step}
use Rattle.array_fixed_invariant.proofs.array_call_specs_LedgerLaws.{none-ends, unsynced-more}

-- What the begin of such a reshape leaves: its update is safe from one ledger to another, what is missing then was missing among the roles of the old shape or is told
-- lost, what is read at its end says the shapes as before or as planned, and the list has its new length, that of a shape of the array's level.
pub record IsShorteningCall (given : Given) (tape : List Operation) (scope : Scope) (first : ℕ) (entries : List Entry) (old plan new : Members) (carried carried' : ℕ → ℕ → Bool) (n roles : ℕ) (tape' : List Operation) : Type 0 where
  pub live : HasLiveSlot old
  pub placed : IsPlaced given new
  pub unlost : AreUnlost new
  pub count : role_count old.newest ≡ (shape_of old.newest).disks
  pub planned : list_length plan.newest ≡ n
  pub shape : shape_of plan.newest ≡ shape_of old.newest
  pub size : plan.newest.size ≡ old.newest.size
  pub counted : role_count new.newest ≡ role_count plan.newest
  pub of_level : IsLengthOfLevel old.newest.level old.newest.size n
  pub sized : list_length new.newest ≡ n
  pub shorter : n < list_length old.newest
  pub few : role_count new.newest ≤ 16
  pub numbers : (slot number : ℕ) → carried slot number ≡ true → carried' slot number ≡ true
  pub since : (role : ℕ) → role < role_count new.newest → is_missing (reading_of new) role ≡ true → ((role < (shape_of old.newest).disks) × (is_missing (reading_of old) role ≡ true)) ⊎ IsAmong roles role
  pub fewer : (role : ℕ) → role < role_count plan.newest → is_missing (reading_of plan) role ≡ true → (role < role_count new.newest) × (is_missing (reading_of new) role ≡ true)
  pub rise : IsRisen ⊤ old new tape tape'
  pub read : IsReliable (world_in given tape scope first) entries → HasRoomForEvents (world_in given tape' scope first) → IsEitherRead scope (contents_at (world_in given tape' scope first) (length tape')) old.newest plan.newest
  pub safe : (told more : Ledger) → HasRoomLeft old tape tape' → IsToldWith told more plan → AreGoneTold told old → AreGoneTold more new → ((slot number : ℕ) → told.carried slot number ≡ true → more.carried slot number ≡ true)
      → IsSafeOver (world_in given tape scope first) given told old tape → IsSafeChange (OpensFit (world_in given tape scope first)) scope given told more new tape tape'

-- ---- the last entry that is no loss

module _ (given : Given) (tape : List Operation) (scope : Scope) (first : ℕ) (entries : List Entry) (old plan new : Members) (carried carried' : ℕ → ℕ → Bool) (who : Who) (left n roles spares : ℕ) (ops : List Operation)
    (sizes_are : scope.sizes ≡ sizes given) (begun : first ≤ length tape) (ends : EndBy (length tape) entries) (recorded : length_of (length (opening_list (world_in given tape scope first))) entries ≡ list_length old.newest)
    (gone : IsReliable (world_in given tape scope first) entries → AreToldGone (world_in given tape scope first) entries old)
    (call : IsShorteningCall given tape scope first entries old plan new carried carried' n roles (tape ++ ops)) where
  abbrev world : World
  world = world_in given tape scope first

  abbrev later : World
  later = world_in given (tape ++ ops) scope first

  abbrev end : ℕ
  end = length (tape ++ ops)

  abbrev disks : ℕ
  disks = (shape_of old.newest).disks

  abbrev entry : Entry
  entry = entry_of who (length (tape ++ ops)) (Step Begun left)

  abbrev change_entry : Entry
  change_entry = entry_of who (length (tape ++ ops)) (Resized n)

  abbrev more : List Entry
  more = entries_of who (length (tape ++ ops)) (losses_of roles spares)

  abbrev behind_it : List Entry
  behind_it = entries_of who (length (tape ++ ops)) (Resized n ∷ losses_of roles spares)

  abbrev added : List Entry
  added = entries_of who (length (tape ++ ops)) (Step Begun left ∷ Resized n ∷ losses_of roles spares)

  abbrev all : List Entry
  all = entries ++ entries_of who (length (tape ++ ops)) (Step Begun left ∷ Resized n ∷ losses_of roles spares)

  parts : (entries ++ entry ∷ []) ++ behind_it ≡ all
  parts = append_assoc entries (entry ∷ []) behind_it

  all-but : (P : List Event → Type 0) → P (losses_of roles spares ++ []) → P (losses_of roles spares)
  all-but P holds = subst P (append-nil (losses_of roles spares)) holds

  adds-more : AreAdding more
  adds-more = all-but (λ (l : List Event). AreAdding (entries_of who end l)) ((early-losses roles spares).adds who end [] refl)

  gives-more : list_any (λ e. gives_some e.event) more ≡ false
  gives-more = all-but (λ (l : List Event). list_any (λ e. gives_some e.event) (entries_of who end l) ≡ false) ((early-losses roles spares).gives who end [] refl)

  faults : AreFaults (losses_of roles spares)
  faults = faults-are (losses_of roles spares) (losses-are roles spares)

  -- ---- what is gone

  right-before : IsReliable later all → IsReliable world entries
  right-before right = record { fills = filled-before world ops entries added begun ends right.fills; room = room-before world ops begun right.room }

  -- what is read at its end says the old shape, with its size, and has no more roles than the members
  old-said : (sb : Sb) → HasShapesOf old.newest sb ⊎ HasShapesOf plan.newest sb → shape_of sb ≡ shape_of old.newest
  old-said sb (inl says) = says.old
  old-said sb (inr says) = says.old ∙ call.shape

  size-said : (sb : Sb) → HasShapesOf old.newest sb ⊎ HasShapesOf plan.newest sb → sb.size ≡ old.newest.size
  size-said sb (inl says) = says.size
  size-said sb (inr says) = says.size ∙ call.size

  count-said : (sb : Sb) → HasShapesOf old.newest sb ⊎ HasShapesOf plan.newest sb → role_count sb ≤ role_count new.newest
  count-said sb (inl says) =
      let same : role_count sb ≡ role_count old.newest = (λ i. max (says.old i).disks (says.final i).disks) in
      let count = call.count in
      let all = call.counted in
      let disks = ap (λ (s : Shape). s.disks) call.shape in
      let most = larger (shape_of plan.newest).disks (final_shape plan.newest).disks in
      omega (arith, same, count, all, disks, most)
    where
      larger : (a b : ℕ) → a ≤ max a b
      larger a b = omega arith
  count-said sb (inr says) =
      let same : role_count sb ≡ role_count plan.newest = (λ i. max (says.old i).disks (says.final i).disks) in
      let all = call.counted in
      omega (arith, same, all)

  -- a role of the old shape is gone behind it as before
  gone-begun : IsReliable later all → (role : ℕ) → role < disks → is_gone_after later (entries ++ entry ∷ []) role ≡ is_gone_after world entries role
  unfolding reading_at
  gone-begun right role lt =
      let read = call.read (right-before right) right.room in
      begun-old later entries entry left read.found refl read.is role (let same = ap (λ (s : Shape). s.disks) (old-said read.found.newest read.says) in omega (arith, lt, same))
      ∙ gone-grown world ops entries role ends

  gone-behind : (role : ℕ) → (is_gone_after later (entries ++ entry ∷ []) role || list_any (loses later role) behind_it) ≡ true → is_gone_after later all role ≡ true
  gone-behind role is = subst (λ (l : List Entry). is_gone_after later l role ≡ true) parts (any-gone later role (entries ++ entry ∷ []) behind_it (regains-none later role behind_it gives-more) is)

  pub shortened-gone : IsReliable later all → AreToldGone later all new
  shortened-gone fills role lt miss = gone-behind role (elim (call.since role lt miss) [
    | inl was ↦ gone-was later (entries ++ entry ∷ []) behind_it role (gone-begun fills role was.0 ∙ gone (right-before fills) role (let count = call.count in omega (arith, was.0, count)) was.1)
    | inr has ↦ gone-lost later (entries ++ entry ∷ []) behind_it role
        (all-but (λ (l : List Event). is_lost (entries_of who end l) role ≡ true) ((early-losses roles spares).lost who end [] role (let few = call.few in omega (arith, lt, few)) has))
  ])

  -- where no live slot is left, all are
  all-gone : IsReliable later all → (HasLiveSlot new → ⊥) → is_all_gone later end all ≡ true
  unfolding reading_at
  all-gone right none =
      let read = call.read (right-before right) right.room in
      ap (λ (o : Option Reading). option_map_or (λ r. all_below (role_count r.newest) (is_gone_after later all)) o false) read.is
      ∙ all_below-each (role_count read.found.newest) (is_gone_after later all) (λ role lt.
      shortened-gone right role (let most = count-said read.found.newest read.says in omega (arith, lt, most)) (none-held given new call.placed call.unlost none role))

  -- the length is that of a shape of the level that is read
  unkept : IsReliable later all → IsUnkeptLength later (entries ++ entry ∷ []) Begun end n
  unfolding reading_at
  unkept right =
      let read = call.read (right-before right) right.room in
      subst (λ (o : Option Reading). MatchOption o ⊥ (λ r. IsLengthOfLevel r.newest.level r.newest.size n)) (sym read.is)
      (subst (λ (size : ℕ). IsLengthOfLevel read.found.newest.level size n) (sym (size-said read.found.newest read.says))
      (subst (λ (level : ℕ). IsLengthOfLevel level old.newest.size n) (sym (ap (λ (s : Shape). s.level) (old-said read.found.newest read.says))) call.of_level))

  -- ---- what is told

  abbrev told : Ledger
  told = told_before world carried entries disks

  abbrev with_it : Ledger
  with_it = told_now later carried' true all

  and-parts : (a b : Bool) → (a && b) ≡ true → (a ≡ true) × (b ≡ true)
  and-parts true b is = (refl, is)
  and-parts false b is = absurd (cc)

  is-below : (role : ℕ) → role < disks → nat_lt role disks ≡ true
  is-below role lt = grind (arith, nat_tests, lt)

  both-true : (a b : Bool) → a ≡ true → b ≡ true → (a && b) ≡ true
  both-true true b a_is b_is = b_is
  both-true false b a_is b_is = absurd (cc)

  told-less : IsMoreTold told (told_now world carried false entries)
  told-less = record {
    size = refl;
    values = λ x lt v may. may;
    gone = λ role is. (and-parts (is_gone_after world entries role) (nat_lt role disks) is).0;
    unclean = λ is. is;
    reshaping = λ is. is;
    carried = λ slot number is. is;
  }

  -- the step alone tells no less
  less : IsMoreTold told (told_by later (λ slot number. true) true entries (entries_of who end (Step Begun left ∷ [])))
  less = more-then told (told_now world carried false entries) (told_by later (λ slot number. true) true entries (entries_of who end (Step Begun left ∷ []))) told-less
      (subst (λ (l : Ledger). IsMoreTold l (told_by later (λ slot number. true) true entries (entries_of who end (Step Begun left ∷ [])))) (now-grown world ops begun carried false entries ends)
      (told-adding later carried (λ slot number. true) false true entries (entries_of who end (Step Begun left ∷ [])) refl (λ slot number is. refl) (λ is. refl)))

  length-all : length_of (length (opening_list later)) all ≡ n
  length-all = turned-length later entries who end (Step Begun left ∷ []) n (losses_of roles spares) faults (length (opening_list later))

  values-all : (x : ℕ) (v : Sector) → x < n → IsIn (told.values x) v → IsIn (with_it.values x) v
  values-all x v lt may =
      turned-values later entries who end (Step Begun left ∷ []) n (losses_of roles spares) faults (opening_list later) x v lt
      (values-adding (opening_list later) entries (entries_of who end (Step Begun left ∷ [])) refl x v (subst (λ (l : List Sector). IsIn (values_of l entries x) v) (sym (opening-grown world ops begun)) may))

  unclean-all : told.unclean ≡ true → with_it.unclean ≡ true
  unclean-all is = unclean-now later entries added (settle-none more adds-more)
      (three (is_unsynced later entries) (is_unsettled entries) (list_any (λ e. unsettles e.event) added) (ap (λ (b : Bool). b || is_unsettled entries) (unsynced-grown world ops begun entries) ∙ is))
    where
      three : (a b c : Bool) → (a || b) ≡ true → (a || (b || c)) ≡ true
      three true b c is = refl
      three false true c is = refl
      three false false c is = absurd (cc)

  told-with : IsReliable later all → IsToldWith told with_it plan
  told-with fills = record {
    sized = call.planned ∙ sym length-all;
    gone = λ role lt miss. let there = call.fewer role lt miss in shortened-gone fills role there.0 there.1;
    unclean = unclean-all;
    reshaping = λ is. refl;
    values = λ x v lt lt' may. values-all x v (let long = length-all in omega (arith, lt', long)) may;
  }

  gone-old : IsReliable later all → AreGoneTold told old
  gone-old fills role lt miss = both-true (is_gone_after world entries role) (nat_lt role disks) (gone (right-before fills) role lt miss) (is-below role (let count = call.count in omega (arith, lt, count)))

  -- the array is safe by it before the call
  safe-old : IsSafeNow (OpensFit world) scope given (told_now world carried false entries) old (disk given.start tape) → IsSafeNow (OpensFit world) scope given told old (disk given.start tape)
  safe-old (inl steady) = inl (record {
    former = steady.former;
    since = steady.since;
    right = record {
      placed = steady.right.placed;
      sized = steady.right.sized;
      gone = λ role lt miss. both-true (is_gone_after world entries role) (nat_lt role disks) (steady.right.gone role lt miss)
          (is-below role (let same = ap (λ (m : Members). role_count m.newest) steady.since.since in let count = call.count in omega (arith, lt, same, count)));
      unclean = steady.right.unclean;
      reshaping = steady.right.reshaping;
      held = steady.right.held;
      sections = steady.right.sections;
      settled = steady.right.settled;
      headers = steady.right.headers;
      tails = steady.right.tails;
    };
    numbers = steady.numbers;
  })
  safe-old (inr spent) = absurd (spent.none call.live)

  -- the level stays
  pub shortened-level : level_at later all ≡ level_at world entries
  shortened-level =
      ap (λ (found : Option Reading). fold (λ level e. level_after level e.event) (option_map_or (λ r. r.newest.level) found 5) all) (reading-grown world ops first begun)
      ∙ fold-append (λ level e. level_after level e.event) (option_map_or (λ r. r.newest.level) (reading_at world world.first) 5) entries added
      ∙ all-but (λ (l : List Event). fold (λ level e. level_after level e.event) (level_at world entries) (entries_of who end l) ≡ level_at world entries) ((early-losses roles spares).level who end [] (level_at world entries))

  -- what is told unclean stays so
  pub shortened-unclean : (is_unsynced world entries || is_unsettled entries) ≡ true → (is_unsynced later all || is_unsettled all) ≡ true
  shortened-unclean is = unclean-all is

  -- and a resync is as pending
  pub shortened-unsynced : is_unsynced later all ≡ is_unsynced world entries
  shortened-unsynced = unsynced-grown world ops begun all ∙ unsynced-more world entries added (none-ends added (settle-none more adds-more))

  -- each sector that the list keeps has the value that it had
  pub shortened-values : (x : ℕ) → x < n → now (opening_list later) all x ≡ now (opening_list world) entries x
  shortened-values x lt =
      ap (λ (l : List Sector). now l all x) (opening-grown world ops begun)
      ∙ ap (λ (l : List Sector). slice_index_or l 0 []) (values-more (opening_list world) entries added x
      ∙ all-but (λ (l : List Event). fold (λ values e. values_after x values e.event) (cut (nat_lt x n) (values_of (opening_list world) entries x)) (entries_of who end l) ≡ cut (nat_lt x n) (values_of (opening_list world) entries x))
      ((early-losses roles spares).values who end [] x (cut (nat_lt x n) (values_of (opening_list world) entries x)))
      ∙ ap (λ (b : Bool). cut b (values_of (opening_list world) entries x)) (inside n lt))
      ∙ kept (values_of (opening_list world) entries x) (newest-in (opening_list world) entries x (let shorter = call.shorter in omega (arith, lt, shorter, recorded)))
    where
      inside : (m : ℕ) → x < m → nat_lt x m ≡ true
      inside m lt = grind (arith, nat_tests, lt)

      kept : (values : List Sector) → IsIn values (slice_index_or values 0 []) → slice_index_or (cut true values) 0 [] ≡ slice_index_or values 0 []
      kept [] has = absurd has
      kept (w ∷ values) has = refl

  -- ---- each mark

  module _ (safe : IsFilledRight (world_in given tape scope first) entries → HasRoomForEvents (world_in given tape scope first)
      → IsSafeHistory ⊤ (world_in given tape scope first) given old carried false entries) where
    module _ (fills : IsFilledRight (world_in given (tape ++ ops) scope first) (entries ++ entries_of who (length (tape ++ ops)) (Step Begun left ∷ Resized n ∷ losses_of roles spares)))
        (room : HasRoomForEvents (world_in given (tape ++ ops) scope first)) where
      abbrev was : IsSafeHistory ⊤ (world_in given tape scope first) given old carried false entries
      was = safe (filled-before world ops entries added begun ends fills) (room-before world ops begun room)

      right : IsReliable later all
      right = record { fills = fills; room = room }

      -- what is told gone before it is so behind it
      gone-told : (role : ℕ) → told.gone role ≡ true → is_gone_after later all role ≡ true
      gone-told role is =
          let parts = and-parts (is_gone_after world entries role) (nat_lt role disks) is in
          gone-behind role (gone-was later (entries ++ entry ∷ []) behind_it role (gone-begun right role (below-is disks role parts.1) ∙ parts.0))
        where
          below-is : (m k : ℕ) → nat_lt k m ≡ true → k < m
          below-is m k is = grind (arith, nat_tests, is)

      change : IsSafeChange (OpensFit world) scope given told with_it new tape (tape ++ ops)
      change = call.safe told with_it (room-now world ops begun old was.counted room) (told-with right) (gone-old right) (shortened-gone right) call.numbers (safe-old (now-live world call.live was.now))

      pub shortened-safe : IsSafeHistory ⊤ later given new carried' true all
      shortened-safe = resized-call ⊤ given tape scope first entries old new carried carried' false true who (Step Begun left ∷ []) n (losses_of roles spares) ops told sizes_are begun ends fills was call.rise
          (λ claimed opened mark low high. throughout-changed world given told with_it new ops refl begun change (was.sound tt) opened mark (omega (arith, begun, low)) high)
          refl faults less change (λ none. (all-gone right none, gone-told))

    -- ---- the history

    same-call : (a b : ℕ) → ((a == a) && (b == b)) ≡ true
    same-call a b = grind (arith, nat_tests)

    -- the length is what the members that are left say
    resized-legal : IsReliable later all → IsResized later (entries ++ entry ∷ []) change_entry more n
    resized-legal fills = subst (λ (o : Option Entry). MatchOption o ⊥ (λ last. IsTrue (is_same_call last change_entry) × IsResizedAfter later (entries ++ entry ∷ []) change_entry more n last.event)) (sym (last-step entries entry refl)) (
      same-call who.caller who.number,
      record {
        changes =
            let same : length_of (length (opening_list later)) (entries ++ entry ∷ []) ≡ list_length old.newest =
            length-adding (length (opening_list later)) entries (entry ∷ []) refl ∙ ap (λ (l : List Sector). length_of (length l) entries) (opening-grown world ops begun) ∙ recorded in
            let shorter = call.shorter in
            omega (arith, same, shorter);
        kept = elim (change fills.fills fills.room).next [
          | inl named ↦ inl (sym length-all ∙ length-now given (tape ++ ops) scope first with_it new
              (subst (λ (fit : Type 0). IsSafeNow fit scope given with_it new (disk given.start (tape ++ ops))) (sym (fit-grown world ops begun)) (inl named.steady)))
          | inr spent ↦ inr (ap (λ (l : List Entry). is_all_gone later end l) parts ∙ all-gone fills spent.none, unkept fills)
        ];
      },
    )

    shortened-legal : IsReliable later all → IfSome (told_left entries) (λ n. n ≡ left + 1) → IsLegalCall later entries who end (Step Begun left ∷ Resized n ∷ losses_of roles spares)
    shortened-legal fills told = (
      known (list_any (λ e. disturbs e.event) (call_before entries entry ++ behind_it)) (told_left entries) told,
      inner-of who end (Step Begun left) tt (Resized n ∷ losses_of roles spares),
      (
        resized-legal fills,
        inner-of who end (Resized n) tt (losses_of roles spares),
        all-but (λ l. IsLegalCall later ((entries ++ entry ∷ []) ++ change_entry ∷ []) who end l)
            (legal-losses later ((entries ++ entry ∷ []) ++ change_entry ∷ []) who end (losses_of roles spares) [] (losses-are roles spares) tt),
      ),
    )
      where
        known : (b : Bool) (o : Option ℕ) → IfSome o (λ n. n ≡ left + 1) → IfSome (cond b None o) (λ n. left + 1 ≡ n)
        known true o is = tt
        known false None is = tt
        known false (Some n) is = sym is

    not-zero : (m : ℕ) → m ≢ 0 → (m == 0) ≡ false
    not-zero m ne = grind (arith, nat_tests, ne)

    shortened-ends_none : left ≢ 0 → list_any ends_reshape (Step Begun left ∷ Resized n ∷ losses_of roles spares) ≡ false
    shortened-ends_none some = or-false (left == 0) (list_any ends_reshape (losses_of roles spares)) (not-zero left some)
        (all-but (λ (l : List Event). list_any ends_reshape l ≡ false) ((early-losses roles spares).ends [] refl))

    pub shortened-recorded : IsHistoryKept (IsReliable (world_in given tape scope first) entries) (world_in given tape scope first) (list_length old.newest) entries → (goes : IsCallGoing entries who)
        → IsFalse (who.caller == 254) → IsOpenBehind later goes.call → IfSome (told_left entries) (λ n. n ≡ left + 1) → left ≢ 0 → IsHistoryKept (IsReliable later all) later (list_length new.newest) all
    shortened-recorded kept goes caller behind told some =
        kept-call (IsReliable world entries) (IsReliable later all) world ops (list_length old.newest) (list_length new.newest) entries who (Step Begun left ∷ Resized n ∷ losses_of roles spares) goes kept
        right-before caller (λ fills. inl behind)
        (turned-length later entries who end (Step Begun left ∷ []) n (losses_of roles spares) faults (length (opening_list world)) ∙ sym call.sized)
        (call-ends first entries who end (Step Begun left) (Resized n ∷ losses_of roles spares))
        (λ fills. shortened-legal fills told) (λ fills fit. call-ends_none later entries who end (Step Begun left ∷ Resized n ∷ losses_of roles spares) (shortened-ends_none some))
