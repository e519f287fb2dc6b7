-- A reshape that ends in an array that keeps its record in it leaves one that keeps it without a reshape: what is told, and that each mark is safe by what was told
-- before the end's update or with it.
use Rattle.std.proofs.Common.{◌≡◌, ◌⊎◌, inl, inr, ℕ, ◌+◌, ◌*◌, ◌<◌, ◌≤◌, ◌==◌, ◌||◌, nat_lt, max, min, Bool, true, false, cond, Option, Some, None, List, [], ◌∷◌, ◌++◌, length, MatchOption, refl, sym, ◌∙◌, ap, subst, arith, append_assoc, append-nil, le_refl}
use Rattle.std.specs.Prelude.{IsFalse, IsTrue, IfSome, MatchBool, fold, slice_index_or, unwrap_or, ⊤}
use Rattle.std.specs.Bool.{OnTrue}
use Rattle.std.specs.List.{list_any}
use Rattle.std.specs.Option.{option_map_or}
use Rattle.std.proofs.lemmas.Bool.{cases_lt}
use Rattle.std.proofs.lemmas.Bool.Decides.{nat_tests}
use Rattle.std.proofs.lemmas.List.Folds.{list_any-append}
use Rattle.std.proofs.lemmas.List.Sums.{fold-append}
use Rattle.std.proofs.Math.Nat.{mul-le-mul_right}
use Rattle.array_fixed_invariant.specs.raid_types_Search.{all_below}
use Rattle.array_fixed_invariant.specs.raid_types_Sectors.{Sector, zero_sector}
use Rattle.array_fixed_invariant.specs.raid_types_Shapes.{data_disks}
use Rattle.array_fixed_invariant.specs.raid_types_the_Who.{Who}
use Rattle.array_fixed_invariant.specs.raid_types_the_Shape.{Shape}
use Rattle.array_fixed_invariant.specs.bank_the_Operation.{Operation}
use Rattle.array_fixed_invariant.specs.bank_Given.{Given}
use Rattle.array_fixed_invariant.specs.bank_Tape.{IsIn, disk}
use Rattle.array_fixed_invariant.specs.reshape_geometry_Geometry.{zeroed_stripes}
use Rattle.array_fixed_invariant.specs.sb_codec_the_Sb.{Sb}
use Rattle.array_fixed_invariant.specs.sb_specs_the_Members.{Members}
use Rattle.array_fixed_invariant.specs.sb_specs_Reading.{Scope, Reading, is_reshaping, is_backward, is_clean, shape_of, final_shape, target_of, list_length, role_count}
use Rattle.array_fixed_invariant.proofs.sb_specs_Searches.{any_below-some}
use Rattle.array_fixed_invariant.specs.stripe_row_Rows.{reading_of, present, is_missing}
use Rattle.array_fixed_invariant.specs.history_the_Entry.{Entry}
use Rattle.array_fixed_invariant.specs.history_the_Event.{Event}
use Rattle.array_fixed_invariant.specs.history_the_Event_TheVariants.{Lost, SpareLost, Resized, Step}
use Rattle.array_fixed_invariant.specs.history_the_LostCause_TheVariants.{Fault}
use Rattle.array_fixed_invariant.specs.history_the_StepKind_TheVariants.{Finished}
use Rattle.array_fixed_invariant.specs.history_Epochs.{HasRoomForEvents}
use Rattle.array_fixed_invariant.specs.history_Flat.{is_same_call, length_of, resized, values_of, now}
use Rattle.array_fixed_invariant.specs.history_Legal.{call_before, disturbs, end_before, is_all_gone, is_free_step, known_left, left_after, level_after, level_at, size_at, target_at, told_left, IsResized, IsResizedAfter, IsStep, IsUnkeptLength}
use Rattle.array_fixed_invariant.specs.history_Losses.{is_gone_after, is_unsynced, loses, unsettles}
use Rattle.array_fixed_invariant.specs.history_OneShape.{is_unsettled}
use Rattle.array_fixed_invariant.specs.history_Plain.{entries_of}
use Rattle.array_fixed_invariant.specs.history_Reshaped.{behind, comes_with_finish, comes_with_step, open_plans, ArePlansDone, IsConsistentAt, IsFinishedRight, IsReshapedBy}
use Rattle.array_fixed_invariant.specs.history_Sound.{OpensFit}
use Rattle.array_fixed_invariant.specs.history_World.{World, reading_at, opening_list}
use Rattle.array_fixed_invariant.proofs.history_SoundLaws.{fit-before}
use Rattle.array_fixed_invariant.proofs.history_laws_OneShapeGrowing.{entries-both}
use Rattle.array_fixed_invariant.specs.crash_views_Views.{Ledger}
use Rattle.array_fixed_invariant.specs.crash_views_Windows.{ListStands, RowsStand}
use Rattle.array_fixed_invariant.proofs.crash_views_Alike.{final-alike}
use Rattle.array_fixed_invariant.proofs.crash_views_Stands.{list-still}
use Rattle.array_fixed_invariant.specs.crash_safety_laws_Changing.{IsSafeChange}
use Rattle.array_fixed_invariant.specs.crash_safety_laws_Safety.{HasLiveSlot, HasRoomLeft, IsRisen}
use Rattle.array_fixed_invariant.specs.crash_safety_laws_Steady.{IsMoreTold, IsSafeNow, IsSafeOver, AreGoneTold, IsUncleanTold}
use Rattle.array_fixed_invariant.proofs.crash_safety_laws_Steady.{held-read}
use Rattle.array_fixed_invariant.specs.array_members_Lacking.{DoesWithout}
use Rattle.array_fixed_invariant.proofs.array_members_LiveLeft.{left-steady, without-left}
use Rattle.array_fixed_invariant.proofs.array_members_SoundViews.{throughout-changed}
use Rattle.array_fixed_invariant.proofs.array_members_Still.{count-still}
use Rattle.array_fixed_invariant.specs.history_append_Losing.{losses_of}
use Rattle.array_fixed_invariant.proofs.history_append_CallLaws.{AreLossEvents, losses-are}
use Rattle.array_fixed_invariant.proofs.history_append_StepLaws.{faults-are}
use Rattle.array_fixed_invariant.specs.history_invariant_Recorded.{IsHistoryKept, IsLegalCall, IsReshapedCall, IsCallGoing, entry_of, gives_some}
use Rattle.array_fixed_invariant.specs.history_invariant_Safe.{world_in, IsFilledRight, IsSafeHistory}
use Rattle.array_fixed_invariant.specs.history_invariant_Told.{told_now, told_by}
use Rattle.array_fixed_invariant.proofs.history_invariant_Entered.{AreAdding, adding-losses, told-adding, length-more, length-adding, values-more, values-adding, gone-was, gone-lost}
use Rattle.array_fixed_invariant.proofs.history_invariant_Calls.{LeavesSoundFrom}
use Rattle.array_fixed_invariant.proofs.history_invariant_Growing.{reading-grown, opening-grown, fit-grown, gone-grown, unsynced-grown, now-grown, room-before, room-now}
use Rattle.array_fixed_invariant.proofs.history_invariant_KeptCalls.{kept-call}
use Rattle.array_fixed_invariant.proofs.history_invariant_Ledgers.{any-gone, unclean-now}
use Rattle.array_fixed_invariant.proofs.history_invariant_Lengths.{length-now, now-drawn}
use Rattle.array_fixed_invariant.proofs.history_invariant_Lists.{newest-in}
use Rattle.array_fixed_invariant.proofs.history_invariant_Longer.{regains-none}
use Rattle.array_fixed_invariant.proofs.history_invariant_Records.{same-call}
use Rattle.array_fixed_invariant.proofs.history_invariant_Reshapes.{call-ends_none, reshaped-losses}
use Rattle.array_fixed_invariant.proofs.history_invariant_Seen.{now-more}
use Rattle.array_fixed_invariant.proofs.history_invariant_Tests.{or-right}
use Rattle.array_fixed_invariant.proofs.history_invariant_Turned.{filled-before}
use Rattle.array_fixed_invariant.proofs.history_invariant_Turns.{either-call, resized-call}
use Rattle.array_fixed_invariant.specs.reshape_begin_end_Finished.{IsFinishable}
use Rattle.array_fixed_invariant.specs.reshape_progress_Course.{AnyShape, StandsInCourse}
use Rattle.array_fixed_invariant.specs.reshape_progress_Laws.{closed}
use Rattle.array_fixed_invariant.proofs.reshape_progress_Frames.{stands-whole, list-whole, rows-whole}
use Rattle.array_fixed_invariant.proofs.reshape_progress_resync_laws_Synced.{none-pending}
use Rattle.array_fixed_invariant.proofs.reshape_progress_Courses.{zeroes-are-all}
use Rattle.array_fixed_invariant.specs.history_invariant_laws_Reliable.{IsReliable, AreToldGone, IsNonePast}
use Rattle.array_fixed_invariant.proofs.history_invariant_laws_LastStep.{last-behind, last-step}
use Rattle.array_fixed_invariant.specs.array_reshaping_invariant_Moving.{HasListInCourse, HasListStill, IsMoving}
use Rattle.array_fixed_invariant.proofs.history_invariant_laws_Behind.{IsAmong, inner-of, legal-losses}
use Rattle.array_fixed_invariant.proofs.history_invariant_laws_Plans.{behind-all, ArePlannedTo, plans-behind, plans-done}
use Rattle.array_fixed_invariant.proofs.array_call_specs_OnlyLaws.{either}
use Rattle.array_reshaping_end_laws.proofs.Consistent.{consistent-at}
use Rattle.array_reshaping_end_laws.proofs.EndedRows.{HaveEnded, ended-short, listed-still}
use Rattle.array_reshaping_end_laws.proofs.Ending.{length_by, grown_to, ending_events, only-adds, only-gives, only-lost, ending-gives, ending-settles, ending-level, ending-values, ending-length, ending-lost, ending-late, ending-last, ending-comes, ending-ends, comes-more, before-step, told-longer}
use Rattle.array_fixed_invariant.proofs.array_reshaping_invariant_Quiet.{safe-now}
use Rattle.array_fixed_invariant.proofs.array_reshaping_invariant_NoneLeft.{all_below-each, none-held}
use Rattle.array_fixed_invariant.proofs.array_reshaping_invariant_ReadShapes.{HasShapesOf, IsEitherRead}
use Rattle.array_fixed_invariant.proofs.array_reshaping_invariant_Steps.{told-behind}

-- What the end of a reshape leaves: the list stands by the new shape; its update is safe from one ledger to another; what is missing then was missing, or is told
-- lost; and what is read at its end says the former shapes or the new one.
pub record IsEndingCall (given : Given) (tape : List Operation) (scope : Scope) (first : ℕ) (old new : Members) (carried carried' : ℕ → ℕ → Bool) (zeroed : ℕ) (buffer : List ℕ) (roles late : ℕ) (tape' : List Operation) : Type 0 where
  pub have : HaveEnded given old new
  pub clean : is_clean new.newest ≡ is_clean old.newest
  pub few : role_count new.newest ≤ 16
  pub within : (role : ℕ) → IsAmong roles role → role < 16
  pub numbers : (slot number : ℕ) → carried slot number ≡ true → carried' slot number ≡ true
  pub since : (role : ℕ) → role < role_count new.newest → is_missing (reading_of new) role ≡ true
      → ((role < role_count old.newest) × (is_missing (reading_of old) role ≡ true)) ⊎ (IsAmong roles role ⊎ IsAmong late role)
  pub rise : IsRisen ⊤ old new tape tape'
  pub stands : (list : ℕ → Sector) → StandsInCourse (OpensFit (world_in given tape scope first)) AnyShape old (closed zeroed) buffer (present given tape) list
      → ListStands None new (present given tape') list × (OpensFit (world_in given tape scope first) → RowsStand None new (present given tape') list)
  pub read : (told : Ledger) → HasRoomLeft old tape tape' → AreGoneTold told old → ((role : ℕ) → IsAmong roles role → told.gone role ≡ true) → IsUncleanTold told old
      → IsSafeOver (world_in given tape scope first) given told old tape → IsEitherRead scope (present given tape') old.newest new.newest
  pub safe : (told more : Ledger) → (list : ℕ → Sector) → HasRoomLeft old tape tape' → IsFinishable (OpensFit (world_in given tape scope first)) more old (present given tape) list
      → AreGoneTold told old → ((role : ℕ) → IsAmong roles role → told.gone role ≡ true) → AreGoneTold more new → IsUncleanTold told old → IsUncleanTold more old
      → ((slot number : ℕ) → told.carried slot number ≡ true → more.carried slot number ≡ true) → IsSafeOver (world_in given tape scope first) given told old tape
      → IsSafeChange (OpensFit (world_in given tape scope first)) scope given told more new tape tape'

-- If no step is left, the plans that are open go to the shape of this reshape.
abbrev pub IsPlannedTo : World → List Entry → Members → ℕ → Type 0
IsPlannedTo world entries old left = IsReliable world entries → left ≡ 0 → ArePlannedTo world (final_shape old.newest) (open_plans entries)

-- As many steps are left as one fewer, or a role is missing, so that more steps may follow the reshape, or the call tells a loss.
abbrev pub IsStepped : Members → ℕ → ℕ → List Event → Type 0
IsStepped old steps left lost = (steps ≡ left + 1) ⊎ (((role : ℕ) × (role < role_count old.newest) × (is_missing (reading_of old) role ≡ true)) ⊎ (list_any disturbs lost ≡ true))

-- behind losses nothing is known of the steps that are left
left-none : (who : Who) (end : ℕ) (xs : List Event) → AreLossEvents xs → fold (λ left e. left_after left e.event) None (entries_of who end xs) ≡ None
left-none who end [] are = refl
left-none who end (Lost role Fault ∷ xs) are = left-none who end xs are
left-none who end (SpareLost slot ∷ xs) are = left-none who end xs are
left-none who end (event ∷ xs) are = absurd are

left-lost : (who : Who) (end : ℕ) (xs : List Event) → AreLossEvents xs → list_any disturbs xs ≡ true → (left : Option ℕ) → fold (λ left e. left_after left e.event) left (entries_of who end xs) ≡ None
left-lost who end [] are some left = absurd (cc)
left-lost who end (Lost role Fault ∷ xs) are some left = left-none who end xs are
left-lost who end (SpareLost slot ∷ xs) are some left = left-none who end xs are
left-lost who end (event ∷ xs) are some left = absurd are

pub disturbs-entries : (who : Who) (end : ℕ) (xs : List Event) → list_any (λ e. disturbs e.event) (entries_of who end xs) ≡ list_any disturbs xs
disturbs-entries who end [] = refl
disturbs-entries who end (x ∷ xs) = ap (λ (b : Bool). disturbs x || b) (disturbs-entries who end xs)

module _ (given : Given) (tape : List Operation) (scope : Scope) (first : ℕ) (entries : List Entry) (old new : Members) (carried carried' : ℕ → ℕ → Bool) (buffer : List ℕ) (zeroed steps left : ℕ)
    (who : Who) (roles spares late late_spares : ℕ) (ops : List Operation) (tells : Type 0) (was : IsMoving tells given tape scope first entries old carried None (closed zeroed) buffer steps) (t : tells)
    (few_roles : role_count old.newest ≤ 16)
    (all_zeroed : zeroed ≡ zeroed_stripes (shape_of old.newest) (final_shape old.newest) old.newest.size (is_backward old.newest))
    (stepped : IsStepped old steps left (losses_of roles spares ++ losses_of late late_spares)) (planned : IsPlannedTo (world_in given tape scope first) entries old left)
    (call : IsEndingCall given tape scope first old new carried carried' zeroed buffer roles late (tape ++ ops)) where
  abbrev world : World
  world = world_in given tape scope first

  abbrev later : World
  later = world_in given (tape ++ ops) scope first

  abbrev end : ℕ
  end = length (tape ++ ops)

  abbrev former : ℕ
  former = list_length old.newest

  abbrev size : ℕ
  size = list_length new.newest

  abbrev longer : Bool
  longer = nat_lt (list_length old.newest) (list_length new.newest)

  abbrev losses : List Event
  losses = losses_of roles spares

  abbrev flushed : List Entry
  flushed = entries_of who (length (tape ++ ops)) (losses_of roles spares)

  abbrev step : Entry
  step = entry_of who (length (tape ++ ops)) (Step Finished left)

  abbrev tail : List Event
  tail = grown_to (list_length old.newest) (list_length new.newest) ++ losses_of late late_spares

  abbrev rest : List Entry
  rest = entries_of who (length (tape ++ ops)) (grown_to (list_length old.newest) (list_length new.newest) ++ losses_of late late_spares)

  abbrev events : List Event
  events = ending_events roles spares left (grown_to (list_length old.newest) (list_length new.newest)) late late_spares

  abbrev added : List Entry
  added = entries_of who (length (tape ++ ops)) (ending_events roles spares left (grown_to (list_length old.newest) (list_length new.newest)) late late_spares)

  abbrev all : List Entry
  all = entries ++ entries_of who (length (tape ++ ops)) (ending_events roles spares left (grown_to (list_length old.newest) (list_length new.newest)) late late_spares)

  recorded : IsHistoryKept (IsReliable world entries) world (list_length old.newest) entries
  recorded = was.recorded t

  begun : first ≤ length tape
  begun = recorded.begun

  added-parts : added ≡ flushed ++ step ∷ rest
  added-parts = entries-both who end losses (Step Finished left ∷ tail)

  parts : all ≡ (entries ++ flushed) ++ step ∷ rest
  parts = ap (λ (l : List Entry). entries ++ l) added-parts ∙ sym (append_assoc entries flushed (step ∷ rest))

  opened : opening_list later ≡ opening_list world
  opened = opening-grown world ops begun

  gives-all : list_any (λ e. gives_some e.event) added ≡ false
  gives-all = ending-gives who end roles spares left longer size late late_spares

  gives-first : list_any (λ e. gives_some e.event) flushed ≡ false
  gives-first = only-gives who end roles spares

  adds-first : AreAdding flushed
  adds-first = only-adds who end roles spares

  -- ---- the length

  long : list_length new.newest ≡ data_disks (final_shape old.newest) * old.newest.size
  long = list-still new.newest call.have.still ∙ (λ i. data_disks (call.have.shape i) * call.have.size i)

  no-shorter : list_length old.newest ≤ list_length new.newest
  no-shorter =
      let least : min (data_disks (shape_of old.newest)) (data_disks (final_shape old.newest)) ≤ data_disks (final_shape old.newest) = omega arith in
      let times : list_length old.newest ≤ data_disks (final_shape old.newest) * old.newest.size = mul-le-mul_right old.newest.size least in
      omega (arith, times, long)

  not-less : (a b : ℕ) → nat_lt a b ≡ false → b ≤ a
  not-less a b is = grind (arith, nat_tests, is)

  is-less : (a b : ℕ) → nat_lt a b ≡ true → a < b
  is-less a b is = grind (arith, nat_tests, is)

  less-is : (a b : ℕ) → a < b → nat_lt a b ≡ true
  less-is a b lt = grind (arith, nat_tests, lt)

  same-length : nat_lt (list_length old.newest) (list_length new.newest) ≡ false → list_length new.newest ≡ list_length old.newest
  same-length is = let le = not-less (list_length old.newest) (list_length new.newest) is in omega (arith, le, no-shorter)

  length-all : length_of (length (opening_list world)) all ≡ list_length new.newest
  length-all =
      length-more (length (opening_list world)) entries added ∙ ap (λ (m : ℕ). length_of m added) recorded.sized
      ∙ ending-length who end roles spares left longer size late late_spares (list_length old.newest) ∙ of longer refl
    where
      of : (b : Bool) → nat_lt (list_length old.newest) (list_length new.newest) ≡ b → cond b (list_length new.newest) (list_length old.newest) ≡ list_length new.newest
      of true is = refl
      of false is = sym (same-length is)

  length-later : length_of (length (opening_list later)) all ≡ list_length new.newest
  length-later = ap (λ (l : List Sector). length_of (length l) all) opened ∙ length-all

  -- a list that grows is that of a forward reshape
  forward : list_length old.newest < list_length new.newest → is_backward old.newest ≡ false
  forward grows = of (is_backward old.newest) refl
    where
      of : (b : Bool) → is_backward old.newest ≡ b → b ≡ false
      of true back = absurd (let le = ended-short scope given old new was.members_are.placed was.members_are.unlost was.members_are.backed was.members_are.active was.members_are.whole call.have back in omega (arith, le, grows))
      of false forth = refl

  -- ---- the values

  values-all : (x : ℕ) → values_of (opening_list later) all x ≡ cond longer (resized (nat_lt x size) (values_of (opening_list world) entries x)) (values_of (opening_list world) entries x)
  values-all x =
      ap (λ (l : List Sector). values_of l all x) opened ∙ values-more (opening_list world) entries added x
      ∙ ending-values who end roles spares left longer size late late_spares x (values_of (opening_list world) entries x)

  first-kept : (values : List Sector) (v : Sector) → IsIn values v → slice_index_or (resized true values) 0 [] ≡ slice_index_or values 0 []
  first-kept [] v may = absurd may
  first-kept (w ∷ values) v may = refl

  each-kept : (values : List Sector) (v : Sector) → IsIn values v → IsIn (resized true values) v
  each-kept [] v may = absurd may
  each-kept (w ∷ values) v may = may

  in-old : (x : ℕ) → x < list_length old.newest → nat_lt x (list_length new.newest) ≡ true
  in-old x lt = less-is x (list_length new.newest) (omega (arith, lt, no-shorter))

  newest : (x : ℕ) → x < list_length old.newest → IsIn (values_of (opening_list world) entries x) (now (opening_list world) entries x)
  newest x lt = newest-in (opening_list world) entries x (let n = recorded.sized in omega (arith, lt, n))

  -- each sector that the list had has the value that it had
  now-all : (x : ℕ) → x < list_length old.newest → now (opening_list later) all x ≡ now (opening_list world) entries x
  now-all x lt = ap (λ (l : List Sector). slice_index_or l 0 []) (values-all x) ∙ of longer
    where
      of : (b : Bool) → slice_index_or (cond b (resized (nat_lt x size) (values_of (opening_list world) entries x)) (values_of (opening_list world) entries x)) 0 [] ≡ now (opening_list world) entries x
      of true = ap (λ (c : Bool). slice_index_or (resized c (values_of (opening_list world) entries x)) 0 []) (in-old x lt) ∙ first-kept (values_of (opening_list world) entries x) (now (opening_list world) entries x) (newest x lt)
      of false = refl

  in-all : (x : ℕ) → x < list_length old.newest → IsIn (values_of (opening_list later) all x) (now (opening_list world) entries x)
  in-all x lt = subst (λ (l : List Sector). IsIn l (now (opening_list world) entries x)) (sym (values-all x)) (of longer)
    where
      of : (b : Bool) → IsIn (cond b (resized (nat_lt x size) (values_of (opening_list world) entries x)) (values_of (opening_list world) entries x)) (now (opening_list world) entries x)
      of true = subst (λ (c : Bool). IsIn (resized c (values_of (opening_list world) entries x)) (now (opening_list world) entries x)) (sym (in-old x lt))
          (each-kept (values_of (opening_list world) entries x) (now (opening_list world) entries x) (newest x lt))
      of false = newest x lt

  -- and one that it gets is zero
  zero-all : IsFilledRight world entries → (x : ℕ) → list_length old.newest ≤ x → x < list_length new.newest → values_of (opening_list later) all x ≡ zero_sector ∷ []
  zero-all fills x le lt =
      values-all x
      ∙ ap (λ (b : Bool). cond b (resized (nat_lt x size) (values_of (opening_list world) entries x)) (values_of (opening_list world) entries x)) (less-is (list_length old.newest) (list_length new.newest) (omega (arith, le, lt)))
      ∙ ap (λ (c : Bool). resized c (values_of (opening_list world) entries x)) (less-is x (list_length new.newest) lt) ∙ ap (λ (l : List Sector). resized true l) ((was.last_step t).past fills x le)

  -- past its end it tells nothing
  pub ended-past : IsNonePast later all (list_length new.newest)
  ended-past fills x le =
      values-all x
      ∙ ap (λ (c : Bool). cond longer (resized c (values_of (opening_list world) entries x)) (values_of (opening_list world) entries x)) (not-below x (list_length new.newest) le)
      ∙ ap (λ (l : List Sector). cond longer [] l) ((was.last_step t).past (filled-before world ops entries added begun recorded.ends fills) x (omega (arith, le, no-shorter))) ∙ of longer
    where
      not-below : (a b : ℕ) → b ≤ a → nat_lt a b ≡ false
      not-below a b h = grind (arith, nat_tests, h)

      of : (b : Bool) → ◌≡◌ {A = List Sector} (cond b [] []) []
      of true = refl
      of false = refl

  -- ---- what is gone

  pub ended-before : IsReliable later all → IsReliable world entries
  ended-before right = record { fills = filled-before world ops entries added begun recorded.ends right.fills; room = room-before world ops begun right.room }

  gone-behind : (role : ℕ) → (is_gone_after later entries role || list_any (loses later role) added) ≡ true → is_gone_after later all role ≡ true
  gone-behind role is = any-gone later role entries added (regains-none later role added gives-all) is

  gone-still : IsReliable world entries → (role : ℕ) → role < role_count old.newest → is_missing (reading_of old) role ≡ true → is_gone_after later entries role ≡ true
  gone-still right role lt miss = gone-grown world ops entries role recorded.ends ∙ was.gone t right role lt miss

  pub ended-gone : IsReliable later all → AreToldGone later all new
  ended-gone right role lt miss = gone-behind role (elim (call.since role lt miss) [
    | inl before ↦ gone-was later entries added role (gone-still (ended-before right) role before.0 before.1)
    | inr (inl has) ↦ gone-lost later entries added role (ending-lost who end roles spares left longer size late late_spares role (let few = call.few in omega (arith, lt, few)) has)
    | inr (inr has) ↦ gone-lost later entries added role (ending-late who end roles spares left longer size late late_spares role (let few = call.few in omega (arith, lt, few)) has)
  ])

  -- ---- what is told before the end's update

  abbrev told : Ledger
  told = told_by later carried true entries flushed

  told-first : IsMoreTold (told_now world carried true entries) told
  told-first = subst (λ (l : Ledger). IsMoreTold l told) (now-grown world ops begun carried true entries recorded.ends)
      (told-adding later carried carried true true entries flushed adds-first (λ slot number is. is) (λ is. is))

  told-gone : IsReliable world entries → AreGoneTold told old
  told-gone right role lt miss = gone-was later entries flushed role (gone-still right role lt miss)

  told-lost : (role : ℕ) → IsAmong roles role → told.gone role ≡ true
  told-lost role has = gone-lost later entries flushed role (only-lost who end roles spares role (call.within role has) has)

  told-unclean : IsUncleanTold told old
  told-unclean dirty = told-first.unclean (was.unclean t dirty)

  three : (a b c : Bool) → (a || b) ≡ true → (a || (b || c)) ≡ true
  three true b c is = refl
  three false true c is = refl
  three false false c is = absurd (cc)

  pub ended-unclean : (is_unsynced world entries || is_unsettled entries) ≡ true → (is_unsynced later all || is_unsettled all) ≡ true
  ended-unclean is = unclean-now later entries added (ending-settles who end roles spares left longer size late late_spares)
      (three (is_unsynced later entries) (is_unsettled entries) (list_any (λ e. unsettles e.event) added) (ap (λ (b : Bool). b || is_unsettled entries) (unsynced-grown world ops begun entries) ∙ is))

  -- the level stays
  pub ended-level : level_at later all ≡ level_at world entries
  ended-level =
      ap (λ (found : Option Reading). fold (λ level e. level_after level e.event) (option_map_or (λ r. r.newest.level) found 5) all) (reading-grown world ops first begun)
      ∙ fold-append (λ level e. level_after level e.event) (option_map_or (λ r. r.newest.level) (reading_at world world.first) 5) entries added
      ∙ ending-level who end roles spares left longer size late late_spares (level_at world entries)

  -- ---- the list

  -- each sector that the list has then has its newest value
  list-then : IsFilledRight world entries → (l : HasListInCourse (OpensFit world) old None (closed zeroed) buffer (present given tape) (now (opening_list world) entries))
      → (x : ℕ) → x < list_length new.newest → (l.list x ≡ now (opening_list later) all x) × IsIn (values_of (opening_list later) all x) (l.list x)
  list-then fills l x lt = elim (cases_lt x (list_length old.newest)) [
    | inl below ↦ (l.is x below ∙ sym (now-all x below), subst (IsIn (values_of (opening_list later) all x)) (sym (l.is x below)) (in-all x below))
    | inr past ↦ (
        let none = l.stands.in_course.zeros (forward (omega (arith, past, lt))) x past in
        let values = zero-all fills x past lt in (
          none ∙ sym (ap (λ (l : List Sector). slice_index_or l 0 []) values),
          subst (λ (vs : List Sector). IsIn vs (l.list x)) (sym values) (inl none),
        ))
  ]

  -- it stands by each shape in force
  whole-list : (l : HasListInCourse (OpensFit world) old None (closed zeroed) buffer (present given tape) (now (opening_list world) entries)) → StandsInCourse (OpensFit world) AnyShape old (closed zeroed) buffer (present given tape) l.list
  whole-list l = stands-whole (OpensFit world) old (closed zeroed) buffer (present given tape) l.list call.have.enough
      ((none-pending (OpensFit world) (λ shape. DoesWithout shape old) old (closed zeroed) buffer (present given tape) l.list).1 l.stands)

  pub ended-listed : IsFilledRight later all → HasListStill (OpensFit later) new (present given (tape ++ ops)) (now (opening_list later) all)
  ended-listed fills =
      let before = filled-before world ops entries added begun recorded.ends fills in
      let l = was.listed t before in
      let there = call.stands l.list (whole-list l) in
      listed-still scope given new call.have.placed call.have.still (present given (tape ++ ops)) (OpensFit later) l.list (now (opening_list later) all)
      (λ x lt. (list-then before l x lt).0) there.0 (λ fit. there.1 (fit-before world ops begun fit))

  -- ---- each mark

  module _ (reshaping' : Bool) (goes_on : (HasLiveSlot new → ⊥) → reshaping' ≡ true)
      (fills : IsFilledRight (world_in given (tape ++ ops) scope first) (entries ++ entries_of who (length (tape ++ ops)) (ending_events roles spares left (grown_to (list_length old.newest) (list_length new.newest)) late late_spares)))
      (room : HasRoomForEvents (world_in given (tape ++ ops) scope first)) where
    right : IsReliable later all
    right = record { fills = fills; room = room }

    abbrev before : IsReliable (world_in given tape scope first) entries
    before = ended-before (record { fills = fills; room = room })

    safe-before : IsSafeHistory ⊤ world given old carried true entries
    safe-before = was.safe t before.fills before.room

    room-left : HasRoomLeft old tape (tape ++ ops)
    room-left = room-now world ops begun old safe-before.counted room

    live-old : HasLiveSlot old
    live-old = without-left given old was.members_are.placed was.members_are.unlost call.have.enough

    safe-old : IsSafeOver world given told old tape
    safe-old = now-more (OpensFit world) scope given (told_now world carried true entries) told old (disk given.start tape) told-first (safe-now was live-old t before.fills before.room)

    abbrev more : Ledger
    more = told_now later carried' reshaping' all

    listed : HasListInCourse (OpensFit world) old None (closed zeroed) buffer (present given tape) (now (opening_list world) entries)
    listed = was.listed t before.fills

    finishable : IsFinishable (OpensFit world) more old (present given tape) listed.list
    finishable = record {
      sized = length-later ∙ long;
      allowed = λ x lt. (list-then before.fills listed x (subst (λ (n : ℕ). x < n) length-later lt)).1;
      stands = list-whole (OpensFit world) old (closed zeroed) buffer (present given tape) listed.list (whole-list listed);
      rows = λ clean does so. rows-whole (OpensFit world) old (closed zeroed) buffer (present given tape) listed.list (whole-list listed) so;
      behind = λ forth. zeroes-are-all (OpensFit world) given old buffer (present given tape) listed.list was.members_are.placed was.members_are.active forth
          (subst (λ (k : ℕ). StandsInCourse (OpensFit world) AnyShape old (closed k) buffer (present given tape) listed.list) all_zeroed (whole-list listed));
    }

    change : IsSafeChange (OpensFit world) scope given told more new tape (tape ++ ops)
    change = call.safe told more listed.list room-left finishable (told-gone before) told-lost (ended-gone right) told-unclean (λ dirty. ended-unclean (was.unclean t dirty)) call.numbers safe-old

    -- ---- what is read

    target-is : (sb : Sb) → is_reshaping sb ≡ true → target_of sb ≡ Some (final_shape sb)
    target-is sb active =
        ap (λ (b : Bool). cond b (Some (record { level = sb.new_level; layout = sb.new_layout; chunk = sb.new_chunk; disks = sb.raid_disks })) None) active
        ∙ sym (ap (λ (b : Bool). Some (unwrap_or (cond b (Some (record { level = sb.new_level; layout = sb.new_layout; chunk = sb.new_chunk; disks = sb.raid_disks })) None) (shape_of sb))) active)

    -- the superblocks before the call
    at-start : (r : Reading) × (reading_at later (length tape) ≡ Some r) × (target_of r.newest ≡ Some (final_shape old.newest)) × (r.newest.size ≡ old.newest.size)
    unfolding reading_at
    at-start =
        let steady = left-steady live-old safe-old in
        let said = held-read scope given steady.former tape steady.since.held (present given tape) (record { eighth = λ slot seen. now-drawn given tape slot 8; ninth = λ slot seen. now-drawn given tape slot 9 }) in
        let same : old.newest ≡ steady.former.newest = ap (λ (m : Members). m.newest) steady.since.since in (
          said.0,
          reading-grown world ops (length tape) (le_refl (length tape)) ∙ said.1,
          target-is said.0.newest (sym said.2.array.reshaping ∙ sym (ap is_reshaping same) ∙ was.members_are.active)
              ∙ ap (λ (s : Shape). Some s) (sym (final-alike steady.former.newest said.0.newest said.2.array) ∙ sym (ap final_shape same)),
          sym said.2.array.size ∙ sym (ap (λ (sb : Sb). sb.size) same),
        )

    end-is : end_before later (entries ++ flushed) ≡ length tape
    end-is = ap (λ (o : Option Entry). option_map_or (λ e. e.end) o first) (last-behind entries who end losses (losses-are roles spares)) ∙ (was.last_step t).last

    target : target_at later (end_before later (entries ++ flushed)) ≡ Some (final_shape old.newest)
    target = ap (λ (n : ℕ). target_at later n) end-is ∙ ap (λ (o : Option Reading). option_map_or (λ r. target_of r.newest) o None) at-start.1 ∙ at-start.2

    size-then : size_at later (end_before later (entries ++ flushed)) ≡ old.newest.size
    size-then = ap (λ (n : ℕ). size_at later n) end-is ∙ ap (λ (o : Option Reading). option_map_or (λ r. r.newest.size) o 0) at-start.1 ∙ at-start.3

    -- ---- too few slots to keep the length

    -- a list that grows has as many roles then as before
    count-grown : list_length old.newest < list_length new.newest → role_count old.newest ≤ role_count new.newest
    count-grown grows =
        let less = was.members_are.placed.fit.delta was.members_are.active (forward grows) in
        let top : role_count old.newest ≤ (final_shape old.newest).disks = largest (shape_of old.newest).disks (final_shape old.newest).disks less in
        let count = count-still new.newest call.have.still in
        let disks = ap (λ (s : Shape). s.disks) call.have.shape in
        omega (arith, top, count, disks)
      where
        largest : (a b : ℕ) → a ≤ b → max a b ≤ b
        largest a b le = omega (arith, le)

    all-gone : list_length old.newest < list_length new.newest → (HasLiveSlot new → ⊥) → is_all_gone later end all ≡ true
    unfolding reading_at
    all-gone grows none =
        let read = call.read told room-left (told-gone before) told-lost told-unclean safe-old in
        ap (λ (o : Option Reading). option_map_or (λ r. all_below (role_count r.newest) (is_gone_after later all)) o false) read.is
        ∙ all_below-each (role_count read.found.newest) (is_gone_after later all) (λ role lt. ended-gone right role (below read.found.newest read.says role lt) (none-held given new call.have.placed call.have.unlost none role))
      where
        below : (sb : Sb) → HasShapesOf old.newest sb ⊎ HasShapesOf new.newest sb → (role : ℕ) → role < role_count sb → role < role_count new.newest
        below sb (inl says) role lt =
            let same : role_count sb ≡ role_count old.newest = (λ i. max (says.old i).disks (says.final i).disks) in
            let most = count-grown grows in
            omega (arith, lt, same, most)
        below sb (inr says) role lt = let same : role_count sb ≡ role_count new.newest = (λ i. max (says.old i).disks (says.final i).disks) in omega (arith, lt, same)

    -- ---- the history

    abbrev stepped_to : List Entry
    stepped_to = (entries ++ flushed) ++ step ∷ []

    step-legal : IsStep later (entries ++ flushed) step rest Finished left
    step-legal = elim stepped [
      | inl one ↦ free (is_free_step later (entries ++ flushed) Finished)
          (known (list_any (λ e. disturbs e.event) (call_before (entries ++ flushed) step ++ rest)) (told_left (entries ++ flushed))
          (subst (λ (k : ℕ). IfSome (told_left (entries ++ flushed)) (λ n. n ≡ k)) one (told-behind steps entries who end losses (losses-are roles spares) was.left_told)))
      | inr (inr lost) ↦ free (is_free_step later (entries ++ flushed) Finished) (elim (either (list_any disturbs losses) (list_any disturbs (losses_of late late_spares)) (sym (list_any-append disturbs losses (losses_of late late_spares)) ∙ lost)) [
        | inl first ↦ subst (λ (o : Option ℕ). IfSome (cond (list_any (λ e. disturbs e.event) (call_before (entries ++ flushed) step ++ rest)) None o) (λ n. left + 1 ≡ n))
            (sym (fold-append (λ left e. left_after left e.event) None entries flushed ∙ left-lost who end losses (losses-are roles spares) first (told_left entries)))
            (unknown (list_any (λ e. disturbs e.event) (call_before (entries ++ flushed) step ++ rest)))
        | inr then ↦ subst (λ (b : Bool). IfSome (cond b None (told_left (entries ++ flushed))) (λ n. left + 1 ≡ n))
            (sym (list_any-append (λ e. disturbs e.event) (call_before (entries ++ flushed) step) rest
            ∙ or-right (list_any (λ e. disturbs e.event) (call_before (entries ++ flushed) step)) (list_any (λ e. disturbs e.event) rest) (late-lost longer then))) tt
      ])
      | inr (inl (role, lt, miss)) ↦ subst (λ (b : Bool). MatchBool b ⊤ (IfSome (known_left (entries ++ flushed) step rest) (λ n. left + 1 ≡ n)))
          (sym (any_below-some 32 (is_gone_after later (entries ++ flushed)) role (omega (arith, lt, few_roles))
          (any-gone later role entries flushed (regains-none later role flushed gives-first) (gone-was later entries flushed role (gone-still before role lt miss))))) tt
    ]
      where
        unknown : (b : Bool) → IfSome (cond b None None) (λ n. left + 1 ≡ n)
        unknown true = tt
        unknown false = tt

        late-lost : (b : Bool) → list_any disturbs (losses_of late late_spares) ≡ true → list_any (λ e. disturbs e.event) (entries_of who end (length_by b size ++ losses_of late late_spares)) ≡ true
        late-lost true then = disturbs-entries who end (losses_of late late_spares) ∙ then
        late-lost false then = disturbs-entries who end (losses_of late late_spares) ∙ then

        known : (b : Bool) (o : Option ℕ) → IfSome o (λ n. n ≡ left + 1) → IfSome (cond b None o) (λ n. left + 1 ≡ n)
        known true o is = tt
        known false None is = tt
        known false (Some n) is = sym is

        free : (b : Bool) → IfSome (known_left (entries ++ flushed) step rest) (λ n. left + 1 ≡ n) → MatchBool b ⊤ (IfSome (known_left (entries ++ flushed) step rest) (λ n. left + 1 ≡ n))
        free true is = tt
        free false is = is

    length-stepped : length_of (length (opening_list later)) stepped_to ≡ list_length old.newest
    length-stepped =
        length-adding (length (opening_list later)) (entries ++ flushed) (step ∷ []) refl ∙ length-adding (length (opening_list later)) entries flushed adds-first
        ∙ ap (λ (l : List Sector). length_of (length l) entries) opened ∙ recorded.sized

    whole : nat_lt (list_length old.newest) (list_length new.newest) ≡ true → stepped_to ++ entry_of who end (Resized size) ∷ entries_of who end (losses_of late late_spares) ≡ all
    whole is =
        append_assoc (entries ++ flushed) (step ∷ []) (entry_of who end (Resized size) ∷ entries_of who end (losses_of late late_spares))
        ∙ ap (λ (b : Bool). (entries ++ flushed) ++ step ∷ entries_of who end (length_by b size ++ losses_of late late_spares)) (sym is) ∙ sym parts

    resized-legal : nat_lt (list_length old.newest) (list_length new.newest) ≡ true
        → IsResized later stepped_to (entry_of who end (Resized size)) (entries_of who end (losses_of late late_spares)) (list_length new.newest)
    resized-legal is =
        subst (λ (o : Option Entry). MatchOption o ⊥ (λ last. IsTrue (is_same_call last (entry_of who end (Resized size)))
        × IsResizedAfter later stepped_to (entry_of who end (Resized size)) (entries_of who end (losses_of late late_spares)) (list_length new.newest) last.event)) (sym (last-step (entries ++ flushed) step refl)) (
          same-call who step (entry_of who end (Resized size)) (refl, refl) (refl, refl),
          record {
            changes = (let n = length-stepped in let grows = is-less (list_length old.newest) (list_length new.newest) is in omega (arith, n, grows));
            kept = elim change.next [
              | inl named ↦ inl (sym length-later ∙ length-now given (tape ++ ops) scope first more new
                  (subst (λ (fit : Type 0). IsSafeNow fit scope given more new (disk given.start (tape ++ ops))) (sym (fit-grown world ops begun)) (inl named.steady)))
              | inr spent ↦ inr (
                ap (λ (l : List Entry). is_all_gone later end l) (whole is) ∙ all-gone (is-less (list_length old.newest) (list_length new.newest) is) spent.none,
                unkept,
              )
            ];
          },
        )
      where
        unkept : IsUnkeptLength later stepped_to Finished end (list_length new.newest)
        unkept =
            subst (λ (l : List Entry). MatchOption (target_at later (end_before later l)) ⊥ (λ to. list_length new.newest ≡ data_disks to * size_at later (end_before later l))) (sym (before-step (entries ++ flushed) step refl))
            (subst (λ (o : Option Shape). MatchOption o ⊥ (λ to. list_length new.newest ≡ data_disks to * size_at later (end_before later (entries ++ flushed)))) (sym target)
            (long ∙ ap (λ (n : ℕ). data_disks (final_shape old.newest) * n) (sym size-then)))

    late-legal : (before : List Entry) → IsLegalCall later before who end (losses_of late late_spares)
    late-legal before = subst (λ (l : List Event). IsLegalCall later before who end l) (append-nil (losses_of late late_spares)) (legal-losses later before who end (losses_of late late_spares) [] (losses-are late late_spares) tt)

    pub ended-legal : IsLegalCall later entries who end events
    ended-legal = legal-losses later entries who end losses (Step Finished left ∷ tail) (losses-are roles spares) (
      step-legal,
      inner-of who end (Step Finished left) tt tail,
      of longer refl,
    )
      where
        of : (b : Bool) → nat_lt (list_length old.newest) (list_length new.newest) ≡ b → IsLegalCall later stepped_to who end (length_by b size ++ losses_of late late_spares)
        of true is = (resized-legal is, inner-of who end (Resized size) tt (losses_of late late_spares), late-legal (stepped_to ++ entry_of who end (Resized size) ∷ []))
        of false is = late-legal stepped_to

    -- ---- the end is right

    consistent : OpensFit later → IsConsistentAt later ((entries ++ flushed) ++ step ∷ rest) end (final_shape old.newest)
    consistent fit =
        subst (λ (l : List Entry). IsConsistentAt later l end (final_shape old.newest)) parts
        (subst (λ (s : Shape). IsConsistentAt later all end s) call.have.shape
        (consistent-at (OpensFit world) later given all told more new tape (tape ++ ops) listed.list call.have.placed call.have.unlost call.have.still refl (ended-gone right) change
        (λ does. (call.stands listed.list (whole-list listed)).1 (fit-before world ops begun fit))))

    comes : behind comes_with_finish step rest ≡ rest
    comes = behind-all comes_with_finish who end (Step Finished left) tail (ending-comes who end roles spares left longer size late late_spares)

    comes-too : behind comes_with_step step rest ≡ rest
    comes-too = behind-all comes_with_step who end (Step Finished left) tail (comes-more tail (ending-comes who end roles spares left longer size late late_spares))

    is-zero : (n : ℕ) → (n == 0) ≡ true → n ≡ 0
    is-zero n is = grind (arith, nat_tests, is)

    step-right : OpensFit later → IsReshapedBy later (entries ++ flushed) step rest
    step-right fit = record {
      finished = subst (λ (l : List Entry). IsFinishedRight later (entries ++ flushed) step l (Step Finished left)) (sym comes)
          (subst (λ (o : Option Shape). MatchOption o ⊥ (IsConsistentAt later ((entries ++ flushed) ++ step ∷ rest) end)) (sym target) (consistent fit));
      plans = of (left == 0) refl;
    }
      where
        of : (b : Bool) → (left == 0) ≡ b → OnTrue b (ArePlansDone later (entries ++ flushed) step (behind comes_with_step step rest) (open_plans (entries ++ flushed)))
        of false is = tt
        of true is =
            subst (λ (l : List Entry). ArePlansDone later (entries ++ flushed) step l (open_plans (entries ++ flushed))) (sym comes-too)
            (subst (λ (plans : List Entry). ArePlansDone later (entries ++ flushed) step rest plans) (sym (plans-behind entries who end losses (losses-are roles spares)))
            (plans-done world ops (entries ++ flushed) step rest (final_shape old.newest) (consistent fit) entries recorded.ends (planned before (is-zero left is))))

    pub ended-right : OpensFit later → IsReshapedCall later entries who end events
    ended-right fit = reshaped-losses later entries who end losses (Step Finished left ∷ tail) (faults-are losses (losses-are roles spares))
        (step-right fit, call-ends_none later stepped_to who end tail (ending-ends who end roles spares left longer size late late_spares))

    -- ---- it is safe

    leaves-sound : ⊤ → OpensFit later → LeavesSoundFrom world ops
    leaves-sound claimed opened mark low high = throughout-changed world given told more new ops refl begun change (safe-before.sound tt) opened mark (omega (arith, begun, low)) high

    abbrev P : List Event → Type 0
    P l = IsSafeHistory ⊤ later given new carried' reshaping' (entries ++ entries_of who end l)

    abbrev early : List Event
    early = losses_of roles spares ++ Step Finished left ∷ []

    early-parts : entries_of who end early ≡ flushed ++ step ∷ []
    early-parts = entries-both who end losses (Step Finished left ∷ [])

    less-early : IsMoreTold told (told_by later (λ slot number. true) true entries (entries_of who end early))
    less-early = subst (λ (l : List Entry). IsMoreTold told (told_by later (λ slot number. true) true entries l)) (sym early-parts) (told-longer later carried entries flushed (step ∷ []) adds-first refl)

    -- the entries up to the step take no more than all
    gone-early : (role : ℕ) → (is_gone_after later entries role || list_any (loses later role) (entries_of who end early)) ≡ true → is_gone_after later all role ≡ true
    gone-early role is = gone-behind role (
        ap (λ (l : List Entry). is_gone_after later entries role || list_any (loses later role) l) (ap (λ (l : List Event). entries_of who end l) (sym (append_assoc losses (Step Finished left ∷ []) tail)) ∙ entries-both who end early tail)
        ∙ ap (λ (b : Bool). is_gone_after later entries role || b) (list_any-append (loses later role) (entries_of who end early) rest)
        ∙ three (is_gone_after later entries role) (list_any (loses later role) (entries_of who end early)) (list_any (loses later role) rest) is)

    safe-longer : nat_lt (list_length old.newest) (list_length new.newest) ≡ true → P events
    safe-longer is =
        subst P path (resized-call ⊤ given tape scope first entries old new carried carried' true reshaping' who early size (losses_of late late_spares) ops told was.sizes_are begun recorded.ends
        (subst (λ (l : List Event). IsFilledRight later (entries ++ entries_of who end l)) (sym path) fills) safe-before call.rise leaves-sound
        (adding-losses who end losses (Step Finished left ∷ []) (faults-are losses (losses-are roles spares)) refl) (faults-are (losses_of late late_spares) (losses-are late late_spares)) less-early
        (subst (λ (l : List Event). IsSafeChange (OpensFit world) scope given told (told_now later carried' reshaping' (entries ++ entries_of who end l)) new tape (tape ++ ops)) (sym path) change)
        (λ none. subst (λ (l : List Event). IsTrue (is_all_gone later end (entries ++ entries_of who end l))
        × ((role : ℕ) → told.gone role ≡ true → is_gone_after later (entries ++ entries_of who end l) role ≡ true)) (sym path)
        (all-gone (is-less (list_length old.newest) (list_length new.newest) is) none, λ role was_gone. gone-early role (less-early.gone role was_gone))))
      where
        path : early ++ Resized size ∷ losses_of late late_spares ≡ events
        path = append_assoc losses (Step Finished left ∷ []) (Resized size ∷ losses_of late late_spares) ∙ ap (λ (b : Bool). losses ++ Step Finished left ∷ (length_by b size ++ losses_of late late_spares)) (sym is)

    adds-rest : nat_lt (list_length old.newest) (list_length new.newest) ≡ false → AreAdding (step ∷ rest)
    adds-rest is = subst (λ (b : Bool). AreAdding (entries_of who end (length_by b size ++ losses_of late late_spares))) (sym is) (only-adds who end late late_spares)

    most : nat_lt (list_length old.newest) (list_length new.newest) ≡ false → (HasLiveSlot new → ⊥) → IsMoreTold told more
    most is none = record {
      size = length-adding (length (opening_list later)) entries flushed adds-first ∙ ap (λ (l : List Sector). length_of (length l) entries) opened ∙ recorded.sized ∙ sym (same-length is) ∙ sym length-later;
      values = λ x lt v may. subst (λ (l : List Entry). IsIn (values_of (opening_list later) l x) v) (sym parts) (values-adding (opening_list later) (entries ++ flushed) (step ∷ rest) (adds-rest is) x v may);
      gone = λ role was_gone. gone-behind role (
          ap (λ (l : List Entry). is_gone_after later entries role || list_any (loses later role) l) added-parts
          ∙ ap (λ (b : Bool). is_gone_after later entries role || b) (list_any-append (loses later role) flushed (step ∷ rest))
          ∙ three (is_gone_after later entries role) (list_any (loses later role) flushed) (list_any (loses later role) (step ∷ rest)) was_gone);
      unclean = λ dirty. unclean-now later entries added (ending-settles who end roles spares left longer size late late_spares) (
          ap (λ (l : List Entry). is_unsynced later entries || (is_unsettled entries || list_any (λ e. unsettles e.event) l)) added-parts
          ∙ ap (λ (b : Bool). is_unsynced later entries || (is_unsettled entries || b)) (list_any-append (λ e. unsettles e.event) flushed (step ∷ rest))
          ∙ four (is_unsynced later entries) (is_unsettled entries) (list_any (λ e. unsettles e.event) flushed) (list_any (λ e. unsettles e.event) (step ∷ rest)) dirty);
      reshaping = λ on. goes_on none;
      carried = call.numbers;
    }
      where
        four : (a b c d : Bool) → (a || (b || c)) ≡ true → (a || (b || (c || d))) ≡ true
        four true b c d e = refl
        four false true c d e = refl
        four false false true d e = refl
        four false false false d e = absurd (cc)

    safe-same : nat_lt (list_length old.newest) (list_length new.newest) ≡ false → P events
    safe-same is =
        either-call ⊤ given tape scope first entries old new carried carried' true reshaping' who events ops told was.sizes_are begun recorded.ends fills safe-before call.rise leaves-sound
        (subst (λ (l : List Entry). IsMoreTold told (told_by later (λ slot number. true) true entries l)) (sym added-parts) (told-longer later carried entries flushed (step ∷ rest) adds-first (adds-rest is))) change (most is)

    pub ended-safe : IsSafeHistory ⊤ later given new carried' reshaping' all
    ended-safe = of longer refl
      where
        of : (b : Bool) → nat_lt (list_length old.newest) (list_length new.newest) ≡ b → P events
        of true is = safe-longer is
        of false is = safe-same is

  -- ---- the history is kept

  pub ended-recorded : (goes : IsCallGoing entries who) → IsFalse (who.caller == 254) → IsHistoryKept (IsReliable later all) later (list_length new.newest) all
  ended-recorded goes caller =
      kept-call (IsReliable world entries) (IsReliable later all) world ops (list_length old.newest) (list_length new.newest) entries who events goes recorded ended-before caller (λ right. inr gives-all)
      length-all (ending-last who end roles spares left longer size late late_spares first entries)
      (λ right. ended-legal true (λ none. refl) right.fills right.room) (λ right fit. ended-right true (λ none. refl) right.fills right.room fit)
