-- Steps of a resync: a stripe is mended, from what `resync_rows` leaves, or isn't; and the resync ends, from what `flush_and_mark` leaves.
use Rattle.std.proofs.Common.{◌≡◌, ◌≢◌, inl, inr, ℕ, ◌+◌, ◌*◌, ◌<◌, ◌≤◌, ◌==◌, ◌&&◌, Bool, true, false, cond, Option, Some, None, List, [], ◌∷◌, ◌++◌, length, refl, sym, ◌∙◌, ap, subst, arith, append-nil}
use Rattle.std.specs.Prelude.{IsFalse, IfSome, IsSome, is_some, MatchBool, ⊤}
use Rattle.std.specs.List.{list_any}
use Rattle.std.proofs.lemmas.Bool.{cases_lt}
use Rattle.std.proofs.lemmas.Bool.Decides.{nat_tests}
use Rattle.array_reshaping_invariant.specs.raid_types_Sectors.{Sector}
use Rattle.array_reshaping_invariant.specs.raid_types_Shapes.{tolerance, tolerance_of}
use Rattle.array_reshaping_invariant.specs.raid_types_the_Refusal.{Refusal}
use Rattle.array_reshaping_invariant.specs.raid_types_the_Who.{Who}
use Rattle.array_reshaping_invariant.specs.raid_types_the_Shape.{Shape}
use Rattle.array_reshaping_invariant.specs.raid_types_the_Role_TheVariants.{Recovering}
use Rattle.array_reshaping_invariant.specs.bank_the_Operation.{Operation}
use Rattle.array_reshaping_invariant.specs.bank_Given.{Given}
use Rattle.array_reshaping_invariant.specs.bank_Tape.{Contents}
use Rattle.array_reshaping_invariant.specs.sb_specs_the_Members.{Members}
use Rattle.array_reshaping_invariant.specs.sb_specs_Reading.{Scope, is_clean, shape_of, role_state}
use Rattle.array_reshaping_invariant.specs.stripe_row_Rows.{reading_of, present}
use Rattle.array_reshaping_invariant.specs.stripe_list_Full.{AreWholeIn, RowStands}
use Rattle.array_reshaping_invariant.specs.stripe_list_Writing.{HasFull}
use Rattle.array_reshaping_invariant.specs.history_the_Entry.{Entry}
use Rattle.array_reshaping_invariant.specs.history_the_Event.{Event}
use Rattle.array_reshaping_invariant.specs.history_the_Event_TheVariants.{Step, Refused}
use Rattle.array_reshaping_invariant.specs.history_the_StepKind.{StepKind}
use Rattle.array_reshaping_invariant.specs.history_the_StepKind_TheVariants.{ResyncStripe, ResyncEnded}
use Rattle.array_reshaping_invariant.specs.history_Flat.{now}
use Rattle.array_reshaping_invariant.specs.history_Legal.{told_left, known_left, call_before, disturbs, is_free_step, IsStep}
use Rattle.array_reshaping_invariant.specs.history_Losses.{is_unsynced}
use Rattle.array_reshaping_invariant.specs.history_Plain.{entries_of}
use Rattle.array_reshaping_invariant.specs.history_Sound.{OpensFit}
use Rattle.array_reshaping_invariant.specs.history_World.{World, opening_list}
use Rattle.array_reshaping_invariant.specs.crash_views_Regions.{DoWithout}
use Rattle.array_reshaping_invariant.specs.crash_views_Views.{Ledger, IsTailZero}
use Rattle.array_reshaping_invariant.specs.crash_views_Windows.{IsOfRegion}
use Rattle.array_reshaping_invariant.specs.crash_safety_laws_Safety.{HasRoomLeft, IsRisen}
use Rattle.array_reshaping_invariant.specs.crash_safety_laws_Steady.{IsMoreTold, IsSafeOver, KeepsSafe, AreGoneTold, IsUncleanTold, AreWritesAllowed}
use Rattle.array_reshaping_invariant.specs.array_members_the_Work.{Work}
use Rattle.array_reshaping_invariant.specs.array_members_Lacking.{AreLostSince, DoesWithout, IsUnwritten, DataStandsAmong, AreOtherRowsKept, IsOfStripe, ListStands, synced_rows}
use Rattle.array_reshaping_invariant.specs.array_members_Moving.{Grows, IsMoved}
use Rattle.array_reshaping_invariant.specs.array_members_Numbers.{bears}
use Rattle.array_reshaping_invariant.specs.array_members_Rebuilding.{AreRebuilt}
use Rattle.array_reshaping_invariant.specs.array_members_Status.{stripes_of, rebuilt_of}
use Rattle.array_reshaping_invariant.proofs.array_members_Fit.{multiple, list-alike}
use Rattle.array_reshaping_invariant.proofs.array_members_LackingWrites.{recovering-before}
use Rattle.array_reshaping_invariant.proofs.array_members_LiveLeft.{without-left}
use Rattle.array_reshaping_invariant.proofs.array_members_Stripes.{stripes-whole}
use Rattle.array_reshaping_invariant.specs.history_append_Losing.{losses_of}
use Rattle.array_reshaping_invariant.proofs.history_append_CallLaws.{losses-are}
use Rattle.array_reshaping_invariant.proofs.history_append_StepLaws.{left-stepped}
use Rattle.array_reshaping_invariant.proofs.array_call_specs_DegradedLaws.{rows-same, within-count}
use Rattle.array_reshaping_invariant.proofs.array_call_specs_KeptLaws.{left-lost}
use Rattle.array_call_laws.proofs.TouchedLaws.{safe-mend, rows-mended, list-mended, rows-stay, rebuilt-stays}
use Rattle.array_reshaping_invariant.specs.history_invariant_Recorded.{IsCallGoing, entry_of}
use Rattle.array_reshaping_invariant.specs.history_invariant_Safe.{world_in, IsFilledRight}
use Rattle.array_reshaping_invariant.specs.history_invariant_Told.{told_now}
use Rattle.array_reshaping_invariant.proofs.history_invariant_Lists.{newest-in}
use Rattle.array_reshaping_invariant.proofs.history_invariant_laws_Behind.{IsAmong, early-losses, legal-losses}
use Rattle.array_reshaping_invariant.proofs.Refusals.{quiet-refusal}
use Rattle.array_fixed_invariant.specs.Still.{AreAtRest, HasListStood, IsStill}
use Rattle.array_fixed_invariant.proofs.Ends.{EndsPlans}
use Rattle.array_fixed_invariant.proofs.Flushing.{IsFlushedStill, IsSettledStill, settled-stands}
use Rattle.array_fixed_invariant.proofs.Quiet.{early-stands}
use Rattle.array_fixed_invariant.proofs.Refusals.{IsRefusedStill, too-many-refused, refused-right, unsynced-behind}
use Rattle.array_fixed_invariant.proofs.Staying.{missing-since, progress-same}
use Rattle.array_fixed_invariant.proofs.Stood.{mended-moved, sector-inside}

-- ---- a step

pub not-zero : (n : ℕ) → n ≢ 0 → (n == 0) ≡ false
not-zero n ne = grind (arith, nat_tests, ne)

-- a step that is one less is legal
step-is : (world : World) (before : List Entry) (e : Entry) (rest : List Entry) (kind : StepKind) (left : ℕ) → IfSome (told_left before) (λ n. n ≡ left + 1) → IsStep world before e rest kind left
step-is world before e rest kind left told = free (is_free_step world before kind) (known (list_any (λ e. disturbs e.event) (call_before before e ++ rest)) (told_left before) told)
  where
    known : (b : Bool) (o : Option ℕ) → IfSome o (λ n. n ≡ left + 1) → IfSome (cond b None o) (λ n. left + 1 ≡ n)
    known true o is = tt
    known false None is = tt
    known false (Some n) is = sym is

    free : (b : Bool) → IfSome (known_left before e rest) (λ n. left + 1 ≡ n) → MatchBool b ⊤ (IfSome (known_left before e rest) (λ n. left + 1 ≡ n))
    free true is = tt
    free false is = is

-- behind losses too, where without them one step more was left
pub step-between : (world : World) (entries : List Entry) (who : Who) (end roles spares : ℕ) (rest : List Entry) (kind : StepKind) (left left' : ℕ) → IfSome (told_left entries) (λ n. n ≡ left) → (losses_of roles spares ≡ [] → left' + 1 ≡ left)
    → IsStep world (entries ++ entries_of who end (losses_of roles spares)) (entry_of who end (Step kind left')) rest kind left'
step-between world entries who end roles spares rest kind left left' told less =
    step-is world (entries ++ entries_of who end (losses_of roles spares)) (entry_of who end (Step kind left')) rest kind left'
    (subst (λ (l : List Event). IfSome (told_left (entries ++ entries_of who end l)) (λ n. n ≡ left' + 1)) (append-nil (losses_of roles spares))
    (left-lost left (left' + 1) entries who end (losses_of roles spares) [] (losses-are roles spares) less told (λ told is. is)))

pub step-behind : (world : World) (entries : List Entry) (who : Who) (end roles spares : ℕ) (kind : StepKind) (left left' : ℕ) → IfSome (told_left entries) (λ n. n ≡ left) → (losses_of roles spares ≡ [] → left' + 1 ≡ left)
    → IsStep world (entries ++ entries_of who end (losses_of roles spares)) (entry_of who end (Step kind left')) [] kind left'
step-behind world entries who end roles spares kind left left' = step-between world entries who end roles spares [] kind left left'

-- what is left behind it is what it tells
pub told-step : (entries : List Entry) (who : Who) (end roles spares : ℕ) (kind : StepKind) (left' : ℕ) → IfSome (told_left (entries ++ entries_of who end (losses_of roles spares ++ Step kind left' ∷ []))) (λ n. n ≡ left')
told-step entries who end roles spares kind left' = subst (λ (o : Option ℕ). IfSome o (λ n. n ≡ left')) (sym (left-stepped entries who end (losses_of roles spares) kind left')) refl

-- ---- a stripe

-- What `resync_rows` leaves of a stripe, whether it was mended or not: the list stands, and each row that stood.
pub record IsResyncingStill (tells : Type 0) (given : Given) (tape tape' : List Operation) (old new : Members) (roles spares : ℕ) (before after : ℕ → ℕ) (shape : Shape) (stripe : ℕ) : Type 0 where
  pub moved : IsMoved given old new
  pub since : AreLostSince old new roles spares before after
  pub grows : Grows tells tape tape'
  pub dirty : is_clean new.newest ≡ false
  pub rise : tells → IsRisen ⊤ old new tape tape'
  pub stands : DoesWithout shape new → tells → (list : ℕ → Sector) → DataStandsAmong shape (IsOfStripe shape stripe) old (present given tape) list → DataStandsAmong shape (IsOfStripe shape stripe) new (present given tape') list
  pub others : tells → AreOtherRowsKept (IsOfStripe shape stripe) (reading_of new) (present given tape) (present given tape')
  pub kept : DoesWithout shape new → tells → (list : ℕ → Sector) → DataStandsAmong shape (IsOfStripe shape stripe) old (present given tape) list → (row : ℕ) → IsOfStripe shape stripe row
      → RowStands (reading_of old) (present given tape) shape list row → RowStands (reading_of new) (present given tape') shape list row
  pub rebuilt : DoesWithout shape new → tells → (list : ℕ → Sector) → DataStandsAmong shape (IsOfStripe shape stripe) old (present given tape) list → (role slot row : ℕ) → role < shape.disks
      → role_state (reading_of new) role ≡ Recovering slot → IsOfStripe shape stripe row → HasFull (reading_of old) (present given tape) shape list row role slot → HasFull (reading_of new) (present given tape') shape list row role slot
  pub safe : tells → (world : World) → (told : Ledger) → HasRoomLeft old tape tape' → AreGoneTold told new → told.unclean ≡ true → (list : ℕ → Sector)
      → DataStandsAmong shape (IsOfStripe shape stripe) old (present given tape) list → IsOfRegion old shape (IsOfStripe shape stripe) → AreWritesAllowed old told.values list
      → (OpensFit world → IsTailZero old.newest list) → IsSafeOver world given told old tape → KeepsSafe world given told new tape tape'

module _ (tells : Type 0) (given : Given) (tape tape' : List Operation) (scope : Scope) (first : ℕ) (entries : List Entry) (old new : Members) (work : Work) (left left' : ℕ)
    (who : Who) (end roles spares : ℕ) (before after : ℕ → ℕ) (shape : Shape) (mended : ℕ)
    (was : IsStill tells given tape scope first entries old work left) (does : DoWithout old) (goes : IsCallGoing entries who) (caller : IsFalse (who.caller == 254)) (at_end : tells → end ≡ length tape')
    (same_shape : shape ≡ shape_of old.newest) (waits : work.resync ≡ Some mended)
    (did : IsResyncingStill tells given tape tape' old new roles spares before after shape mended) where
  abbrev current : ℕ → Sector
  current = now (opening_list (world_in given tape scope first)) entries

  abbrev c : Contents
  c = present given tape

  pends : IsSome work.resync
  pends = subst IsSome (sym waits) refl

  was-dirty : is_clean old.newest ≡ false
  was-dirty = was.dirty does pends

  stood : (t : tells) → IsFilledRight (world_in given tape scope first) entries → HasListStood (OpensFit (world_in given tape scope first)) work old (present given tape) (now (opening_list (world_in given tape scope first)) entries)
  stood t fills = was.listed t does fills

  -- each row that stood stands
  row-stays : (t : tells) → DoWithout new → HasListStood (OpensFit (world_in given tape scope first)) work old (present given tape) (now (opening_list (world_in given tape scope first)) entries) → OpensFit (world_in given tape scope first)
      → (row : ℕ) → row < synced_rows work.resync old → row < old.newest.size → RowStands (reading_of new) (present given tape') (shape_of new.newest) (now (opening_list (world_in given tape scope first)) entries) row
  row-stays t can l fit row below low =
      subst (λ (s : Shape). RowStands (reading_of new) (present given tape') s current row) (same_shape ∙ sym did.moved.shape)
      (rows-stay given old new did.moved was.members_are.placed shape same_shape mended tape tape' did.others did.kept can t current l.stands row low
      (subst (λ (s : Shape). RowStands (reading_of old) (present given tape) s current row) (sym same_shape) (l.rows fit row below low)))

  -- what was rebuilt stays so
  rebuilt-on : (t : tells) → DoWithout new → HasListStood (OpensFit (world_in given tape scope first)) work old (present given tape) (now (opening_list (world_in given tape scope first)) entries) → OpensFit (world_in given tape scope first)
      → AreRebuilt work new (present given tape') (now (opening_list (world_in given tape scope first)) entries)
  rebuilt-on t can l fit role slot row lt is beyond below low =
      let disks : role < (shape_of old.newest).disks = subst (λ (s : Shape). role < s.disks) did.moved.shape lt in
      let size : row < old.newest.size = subst (λ (n : ℕ). row < n) did.moved.size low in
      let full = l.rebuilt fit role slot row disks (recovering-before did.moved role slot is) (subst (λ (n : ℕ). n ≤ row) (rows-same did.moved role slot is) beyond)
      (subst (λ (s : Shape). row < rebuilt_of work role * s.chunk) did.moved.shape below) size in
      subst (λ (s : Shape). HasFull (reading_of new) (present given tape') s current row role slot) (same_shape ∙ sym did.moved.shape)
      (rebuilt-stays given old new did.moved was.members_are.placed shape same_shape mended tape tape' did.others did.rebuilt can t current l.stands role slot row
      (subst (λ (s : Shape). role < s.disks) (sym same_shape) disks) is size
      (subst (λ (s : Shape). HasFull (reading_of old) (present given tape) s current row role slot) (sym same_shape) full))

  -- and the list
  list-stays : (t : tells) → DoWithout new → HasListStood (OpensFit (world_in given tape scope first)) work old (present given tape) (now (opening_list (world_in given tape scope first)) entries)
      → ListStands new (present given tape') (now (opening_list (world_in given tape scope first)) entries)
  list-stays t can l = list-mended given old new did.moved was.members_are.placed shape same_shape mended tape tape' did.others did.stands can t current l.stands

  -- the sectors of the list are those that are told
  allowed : (t : tells) (told : Ledger) → IsMoreTold (told_now (world_in given tape scope first) (bears work) false entries) told → AreWritesAllowed old told.values (now (opening_list (world_in given tape scope first)) entries)
  allowed t told more x lt =
      let size = (was.recorded t).sized in
      more.values x (omega (arith, lt, size)) (current x) (newest-in (opening_list (world_in given tape scope first)) entries x (omega (arith, lt, size)))

  keeps : (t : tells) (told : Ledger) → IsFilledRight (world_in given tape scope first) entries → IsMoreTold (told_now (world_in given tape scope first) (bears work) false entries) told
      → HasRoomLeft old tape tape' → AreGoneTold told new → IsUncleanTold told old → IsSafeOver (world_in given tape scope first) given told old tape → KeepsSafe (world_in given tape scope first) given told new tape tape'
  keeps t told fills more room gone unclean safe =
      safe-mend given old new did.moved was.members_are.placed shape same_shape mended tape tape' was.members_are.still did.safe t (world_in given tape scope first) told room gone (unclean was-dirty) current (stood t fills).stands
      (allowed t told more) safe

  -- ---- a stripe that is mended

  pub mended-stands : mended < stripes_of old → (losses_of roles spares ≡ [] → left' + 1 ≡ left) → left' ≢ 0
      → (tells → (list : ℕ → Sector) → DataStandsAmong shape (IsOfStripe shape mended) old (present given tape) list → (row : ℕ) → IsOfStripe shape mended row → AreWholeIn shape list row
      → RowStands (reading_of new) (present given tape') shape list row)
      → IsStill tells given tape' scope first (entries ++ entries_of who end (losses_of roles spares ++ Step ResyncStripe left' ∷ [])) new (record work { resync = Some (mended + 1) }) left'
  mended-stands below less some mends =
      early-stands tells given tape tape' scope first entries old new work (record work { resync = Some (mended + 1) }) left left' who end (losses_of roles spares) (IsAmong roles) (Step ResyncStripe left') was
      (without-left given old was.members_are.placed was.members_are.unlost does) goes caller at_end did.grows
      (record { adds = refl; gives = refl; ends = not-zero left' some; still = λ x values. refl; level = λ n. refl; other = refl }) did.moved (early-losses roles spares) (missing-since did.moved did.since) (did.dirty ∙ sym was-dirty)
      refl (sym (ap (λ (o : Option ℕ). is_some o) waits)) (progress-same did.moved (Some (mended + 1)) (omega (arith, below))) (told-step entries who end roles spares ResyncStripe left')
      (λ t can fills. listed t can (stood t fills))
      (λ t. record {
        rise = did.rise t;
        keeps = keeps t;
        legal = λ all fills gone level. legal-losses (world_in given tape' scope first) entries who end (losses_of roles spares) (Step ResyncStripe left' ∷ []) (losses-are roles spares)
            (step-behind (world_in given tape' scope first) entries who end roles spares ResyncStripe left left' was.left_told less, tt, tt);
      })
    where
      -- the rows of one more stripe stand
      row-more : (t : tells) → DoWithout new → HasListStood (OpensFit (world_in given tape scope first)) work old (present given tape) (now (opening_list (world_in given tape scope first)) entries) → OpensFit (world_in given tape scope first)
          → (row : ℕ) → row < (mended + 1) * (shape_of old.newest).chunk → row < old.newest.size → RowStands (reading_of new) (present given tape') (shape_of new.newest) (now (opening_list (world_in given tape scope first)) entries) row
      row-more t can l fit row high low = elim (cases_lt row (mended * (shape_of old.newest).chunk)) [
        | inl near ↦ row-stays t can l fit row (subst (λ (o : Option ℕ). row < synced_rows o old) (sym waits) near) low
        | inr far ↦ subst (λ (s : Shape). RowStands (reading_of new) (present given tape') s current row) (same_shape ∙ sym did.moved.shape)
            (rows-mended given old new did.moved was.members_are.placed shape same_shape mended tape tape' mends t current l.stands row
            (subst (λ (s : Shape). IsOfStripe s mended row) (sym same_shape) (far, high))
            (subst (λ (s : Shape). AreWholeIn s current row) (sym same_shape) (λ x is. l.whole fit x (sector-inside given old was.members_are x (omega (arith, low, is))))))
      ]

      listed : (t : tells) → DoWithout new → HasListStood (OpensFit (world_in given tape scope first)) work old (present given tape) (now (opening_list (world_in given tape scope first)) entries)
          → HasListStood (OpensFit (world_in given tape scope first)) (record work { resync = Some (mended + 1) }) new (present given tape') (now (opening_list (world_in given tape scope first)) entries)
      listed t can l = record {
        stands = list-stays t can l;
        whole = λ fit x lt. l.whole fit x (subst (λ (n : ℕ). x < n) (list-alike old.newest new.newest did.moved.reshape did.moved.shape did.moved.size) lt);
        rows = λ fit row high low. row-more t can l fit row (subst (λ (s : Shape). row < (mended + 1) * s.chunk) did.moved.shape high) (subst (λ (n : ℕ). row < n) did.moved.size low);
        rebuilt = λ fit. rebuilt-on t can l fit;
      }

  -- ---- one that isn't

  pub unmended-stands : (refusal : Refusal) → (losses_of roles spares ≡ [] → left' ≡ left) → IsUnwritten shape false new refusal
      → IsStill tells given tape' scope first (entries ++ entries_of who end (losses_of roles spares ++ Refused refusal ∷ [])) new work left'
  unmended-stands refusal alike why =
      early-stands tells given tape tape' scope first entries old new work work left left' who end (losses_of roles spares) (IsAmong roles) (Refused refusal) was
      (without-left given old was.members_are.placed was.members_are.unlost does) goes caller at_end did.grows (quiet-refusal refusal) did.moved (early-losses roles spares) (missing-since did.moved did.since)
      (did.dirty ∙ sym was-dirty) refl refl (progress-same did.moved work.resync was.progress)
      (left-lost left left' entries who end (losses_of roles spares) (Refused refusal ∷ []) (losses-are roles spares) alike was.left_told (λ told is. is))
      (λ t can fills. listed t can (stood t fills))
      (λ t. record {
        rise = did.rise t;
        keeps = keeps t;
        legal = λ all fills gone level. legal-losses (world_in given tape' scope first) entries who end (losses_of roles spares) (Refused refusal ∷ []) (losses-are roles spares) (
          refused-right (world_in given tape' scope first) (entries ++ entries_of who end (losses_of roles spares)) given new did.moved.placed work.resync gone
              (ap tolerance_of level ∙ was.levelled t fills ∙ ap tolerance (sym did.moved.shape))
              (unsynced-behind tells given tape tape' scope first entries who end roles spares did.grows (λ u. (was.recorded u).begun) t ∙ was.pending t) refusal
              (refused (subst (λ (s : Shape). IsUnwritten s false new refusal) (same_shape ∙ sym did.moved.shape) why)),
          tt,
          tt,
        );
      })
    where
      refused : IsUnwritten (shape_of new.newest) false new refusal → IsRefusedStill work.resync new refusal
      refused (inl many) = too-many-refused work.resync new refusal (inl many)
      refused (inr lacked) = subst (IsRefusedStill work.resync new) (sym lacked.1) (pends, within-count given new did.moved.placed lacked.0 lacked.4.0, lacked.3)

      listed : (t : tells) → DoWithout new → HasListStood (OpensFit (world_in given tape scope first)) work old (present given tape) (now (opening_list (world_in given tape scope first)) entries)
          → HasListStood (OpensFit (world_in given tape scope first)) work new (present given tape') (now (opening_list (world_in given tape scope first)) entries)
      listed t can l = record {
        stands = list-stays t can l;
        whole = λ fit x lt. l.whole fit x (subst (λ (n : ℕ). x < n) (list-alike old.newest new.newest did.moved.reshape did.moved.shape did.moved.size) lt);
        rows = λ fit row high low. row-stays t can l fit row (subst (λ (n : ℕ). row < n) (mended-moved did.moved work.resync) high) (subst (λ (n : ℕ). row < n) did.moved.size low);
        rebuilt = λ fit. rebuilt-on t can l fit;
      }

-- ---- its end

-- the rows of all stripes are all rows
all-rows : (given : Given) (m : Members) (rest : AreAtRest given m) (resync : Option ℕ) → resync ≡ Some (stripes_of m) → synced_rows resync m ≡ m.newest.size
all-rows given m rest resync all = ap (λ (o : Option ℕ). synced_rows o m) all ∙ stripes-whole m.newest.size (shape_of m.newest).chunk (multiple given m rest.placed)

pub resynced-stands : (tells : Type 0) (given : Given) (tape tape' : List Operation) (scope : Scope) (first : ℕ) (entries : List Entry) (old new : Members) (work : Work) (left left' : ℕ)
    (who : Who) (end roles spares : ℕ) (before after : ℕ → ℕ)
    → IsStill tells given tape scope first entries old work left → DoWithout old → IsCallGoing entries who → IsFalse (who.caller == 254) → (tells → end ≡ length tape')
    → work.resync ≡ Some (stripes_of old) → (losses_of roles spares ≡ [] → left' + 1 ≡ left) → EndsPlans tells (world_in given tape scope first) entries new (record work { resync = None }) (Step ResyncEnded left')
    → IsFlushedStill tells given tape tape' old new roles spares before after false → IsSettledStill tells given tape tape' old new false
    → IsStill tells given tape' scope first (entries ++ entries_of who end (losses_of roles spares ++ Step ResyncEnded left' ∷ [])) new (record work { resync = None }) left'
resynced-stands tells given tape tape' scope first entries old new work left left' who end roles spares before after was does goes caller at_end all less free did done =
    settled-stands tells given tape tape' scope first entries old new work left who end roles spares before after false was (without-left given old was.members_are.placed was.members_are.unlost does) goes caller at_end
    (λ synced. (let same = all-rows given old was.members_are work.resync all in omega (arith, same))) did
    (record work { resync = None }) left' (Step ResyncEnded left') done
    (record { gives = refl; level = λ n. refl; length = λ n. refl; newest = λ x values has. has; same = λ x values. refl; none = λ x. refl })
    free refl refl (λ is. absurd (cc)) tt (λ t. ended (is_unsynced (world_in given tape scope first) entries)) (told-step entries who end roles spares ResyncEnded left')
    (λ sound c list l. record {
      stands = l.stands;
      whole = l.whole;
      rows = λ so row high low. l.rows so row
          (let same = mended-moved did.moved work.resync in let whole = all-rows given old was.members_are work.resync all in let size = did.moved.size in omega (arith, low, same, whole, size)) low;
      rebuilt = l.rebuilt;
    })
    (λ t. step-behind (world_in given tape' scope first) entries who end roles spares ResyncEnded left left' was.left_told less)
  where
    ended : (b : Bool) → (b && false) ≡ false
    ended true = refl
    ended false = refl
