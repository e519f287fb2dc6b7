-- What the end of a reshape leaves, from what `finish` of `reshape_begin_end` says of it: the array keeps its record without a reshape.
use Rattle.std.proofs.Common.{◌≡◌, ◌⊎◌, inl, inr, ℕ, ◌*◌, ◌<◌, ◌≤◌, ◌&&◌, ◌||◌, nat_lt, ◌==◌, min, max, Bool, true, false, not, cond, Option, Some, None, List, [], ◌∷◌, ◌++◌, length, fold, refl, sym, ◌∙◌, ap, subst, arith, append-nil}
use Rattle.std.proofs.Math.Nat.{mul-le-mul_right}
use Rattle.std.specs.Prelude.{IfSome, IsFalse}
use Rattle.std.specs.List.{list_any}
use Rattle.std.proofs.lemmas.Bool.{and_parts}
use Rattle.std.proofs.lemmas.Bool.Decides.{nat_tests}
use Rattle.std.proofs.lemmas.List.Folds.{list_any-append}
use Rattle.std.proofs.lemmas.List.Sums.{fold-append}
use Rattle.array_reshaping_steps.specs.raid_types_Sectors.{Sector}
use Rattle.array_reshaping_steps.specs.raid_types_Shapes.{has_slot, data_disks}
use Rattle.array_reshaping_steps.specs.raid_types_the_Who.{Who}
use Rattle.array_reshaping_steps.specs.raid_types_the_Shape.{Shape}
use Rattle.array_reshaping_steps.specs.bank_the_Operation.{Operation}
use Rattle.array_reshaping_steps.specs.bank_Given.{Given, NeverFalls}
use Rattle.array_reshaping_steps.specs.sb_specs_the_Members.{Members}
use Rattle.array_reshaping_steps.specs.sb_specs_Reading.{Scope, shape_of, final_shape, list_length, role_count, role_state, holder, data_offset_of}
use Rattle.array_reshaping_steps.proofs.sb_specs_ValidFields.{few-roles}
use Rattle.array_reshaping_steps.specs.stripe_row_Rows.{reading_of, present, is_missing}
use Rattle.array_reshaping_steps.specs.history_the_Entry.{Entry}
use Rattle.array_reshaping_steps.specs.history_the_Event.{Event}
use Rattle.array_reshaping_steps.specs.history_the_Event_TheVariants.{Lost, SpareLost, Step}
use Rattle.array_reshaping_steps.specs.history_the_LostCause_TheVariants.{Fault}
use Rattle.array_reshaping_steps.specs.history_the_StepKind_TheVariants.{Finished}
use Rattle.array_reshaping_steps.specs.history_Flat.{length_of, length_after, limit_after}
use Rattle.array_reshaping_steps.specs.history_Legal.{left_after, told_left}
use Rattle.array_reshaping_steps.specs.history_Losses.{is_resync_end, is_unsynced, loses}
use Rattle.array_reshaping_steps.specs.history_Plain.{entries_of}
use Rattle.array_reshaping_steps.specs.history_Sound.{OpensFit}
use Rattle.array_reshaping_steps.specs.history_World.{World}
use Rattle.array_reshaping_steps.specs.crash_views_Regions.{ArePlaced}
use Rattle.array_reshaping_steps.specs.crash_views_Views.{Ledger}
use Rattle.array_reshaping_steps.proofs.crash_views_Stands.{final-still}
use Rattle.array_reshaping_steps.specs.crash_safety_laws_Changing.{IsSafeChange}
use Rattle.array_reshaping_steps.specs.crash_safety_laws_Marking.{AreOthersPresent}
use Rattle.array_reshaping_steps.specs.crash_safety_laws_Safety.{HasRoomLeft, IsRisen}
use Rattle.array_reshaping_steps.specs.crash_safety_laws_Steady.{AreUnlost, IsSafeOver, AreGoneTold, IsUncleanTold}
use Rattle.array_reshaping_steps.specs.crash_safety_laws_Updates.{IsAtEnd}
use Rattle.array_reshaping_steps.specs.crash_reshape_laws_Plans.{HasNoneRecovering}
use Rattle.array_reshaping_steps.specs.reshape_sb_updates_Ending.{ending}
use Rattle.array_reshaping_steps.specs.reshape_begin_end_Finished.{IsOver, IsEndedBehind, AreLostInEnd, IsFinishable}
use Rattle.array_reshaping_steps.specs.array_members_the_Work.{Work}
use Rattle.array_reshaping_steps.specs.array_members_Moving.{Grows}
use Rattle.array_reshaping_steps.specs.array_members_Numbers.{bears}
use Rattle.array_reshaping_steps.specs.array_members_Placed.{is_unassigned, AreWhole, IsPlaced}
use Rattle.array_reshaping_steps.specs.array_members_Rebuilding.{AreSparesFree}
use Rattle.array_reshaping_steps.proofs.array_members_MarkLaws.{few-planned}
use Rattle.array_reshaping_steps.proofs.array_members_Still.{count-still}
use Rattle.array_reshaping_steps.specs.history_append_Losing.{losses_of}
use Rattle.array_reshaping_steps.proofs.history_append_CallLaws.{AreLossEvents, losses-are, ends-losses, limit-losses}
use Rattle.array_reshaping_steps.specs.reshape_request_the_PhasesLeft.{PhasesLeft}
use Rattle.array_reshaping_steps.specs.reshape_request_Left.{zeroed_by}
use Rattle.array_reshaping_steps.specs.history_invariant_Recorded.{IsCallGoing}
use Rattle.array_reshaping_steps.specs.history_invariant_Safe.{world_in, TakesNone, KeepsLevel}
use Rattle.array_reshaping_steps.proofs.history_invariant_Entered.{lost-taken}
use Rattle.array_reshaping_steps.proofs.history_invariant_Tests.{neither}
use Rattle.array_reshaping_end_laws.proofs.history_invariant_laws_Behind.{IsAmong}
use Rattle.array_reshaping_steps.specs.reshape_progress_Laws.{closed}
use Rattle.array_reshaping_end_laws.specs.array_reshaping_invariant_Moving.{IsMoving, IsStillKept}
use Rattle.array_reshaping_end_laws.proofs.Ended.{IsPlannedTo, IsStepped}
use Rattle.array_reshaping_end_laws.proofs.EndedCall.{IsEndedBy, ended-since}
use Rattle.array_reshaping_end_laws.proofs.EndedMembers.{array-ends}
use Rattle.array_reshaping_end_laws.proofs.Ending.{length_by, grown_to, ending_events, ending-length, ending-lost, ending-late}
use Rattle.array_reshaping_steps.specs.array_fixed_invariant_Still.{IsStill, AreNoneMissing}
use Rattle.array_reshaping_steps.proofs.array_fixed_invariant_Bridges.{kept-again}
use Rattle.array_reshaping_steps.proofs.array_fixed_invariant_Leaving.{unsynced-later}
use Rattle.array_reshaping_steps.specs.array_specs_Parts.{still_left}
use Rattle.array_reshaping_steps.proofs.array_reshaping_laws_Kept.{left_by}
use Rattle.array_reshaping_steps.proofs.array_call_specs_LedgerLaws.{unsynced-more}

-- ---- what is entered

-- the steps that were told last stay so behind losses, or nothing is known of them
left-keeps : (who : Who) (end left : ℕ) (xs : List Event) → AreLossEvents xs → (told : Option ℕ) → IfSome told (λ n. n ≡ left) → IfSome (fold (λ left e. left_after left e.event) told (entries_of who end xs)) (λ n. n ≡ left)
left-keeps who end left [] are told is = is
left-keeps who end left (Lost role Fault ∷ xs) are told is = left-keeps who end left xs are None tt
left-keeps who end left (SpareLost slot ∷ xs) are told is = left-keeps who end left xs are None tt
left-keeps who end left (event ∷ xs) are told is = absurd are

ended-left : (who : Who) (end left late late_spares size : ℕ) (longer : Bool) (xs : List Event) → AreLossEvents xs → (told : Option ℕ)
    → IfSome (fold (λ left e. left_after left e.event) told (entries_of who end (xs ++ Step Finished left ∷ (length_by longer size ++ losses_of late late_spares)))) (λ n. n ≡ left)
ended-left who end left late late_spares size true [] are told = left-keeps who end left (losses_of late late_spares) (losses-are late late_spares) (Some left) refl
ended-left who end left late late_spares size false [] are told = left-keeps who end left (losses_of late late_spares) (losses-are late late_spares) (Some left) refl
ended-left who end left late late_spares size longer (Lost role Fault ∷ xs) are told = ended-left who end left late late_spares size longer xs are None
ended-left who end left late late_spares size longer (SpareLost slot ∷ xs) are told = ended-left who end left late late_spares size longer xs are None
ended-left who end left late late_spares size longer (event ∷ xs) are told = absurd are

-- no resync ends
ended-ends : (who : Who) (end roles spares left late late_spares size : ℕ) (longer : Bool)
    → list_any (λ e. is_resync_end e.event) (entries_of who end (ending_events roles spares left (length_by longer size) late late_spares)) ≡ false
ended-ends who end roles spares left late late_spares size longer =
    ends-losses who end (losses_of roles spares) (Step Finished left ∷ (length_by longer size ++ losses_of late late_spares)) (losses-are roles spares) ∙ of longer
  where
    alone : list_any (λ e. is_resync_end e.event) (entries_of who end (losses_of late late_spares)) ≡ false
    alone = subst (λ (l : List Event). list_any (λ e. is_resync_end e.event) (entries_of who end l) ≡ false) (append-nil (losses_of late late_spares)) (ends-losses who end (losses_of late late_spares) [] (losses-are late late_spares))

    of : (b : Bool) → list_any (λ e. is_resync_end e.event) (entries_of who end (length_by b size ++ losses_of late late_spares)) ≡ false
    of true = alone
    of false = alone

-- the limit of the list stays
pub ended-free : (who : Who) (end roles spares left late late_spares size : ℕ) (longer : Bool) (limit : Option ℕ)
    → fold (λ (limit : Option ℕ) e. limit_after limit e.event) limit (entries_of who end (ending_events roles spares left (length_by longer size) late late_spares)) ≡ limit
ended-free who end roles spares left late late_spares size longer limit =
    limit-losses who end (losses_of roles spares) (Step Finished left ∷ (length_by longer size ++ losses_of late late_spares)) (losses-are roles spares) limit ∙ of longer
  where
    alone : fold (λ (limit : Option ℕ) e. limit_after limit e.event) limit (entries_of who end (losses_of late late_spares)) ≡ limit
    alone = subst (λ (l : List Event). fold (λ (limit : Option ℕ) e. limit_after limit e.event) limit (entries_of who end l) ≡ limit) (append-nil (losses_of late late_spares)) (limit-losses who end (losses_of late late_spares) [] (losses-are late late_spares) limit)

    of : (b : Bool) → fold (λ (limit : Option ℕ) e. limit_after limit e.event) limit (entries_of who end (length_by b size ++ losses_of late late_spares)) ≡ limit
    of true = alone
    of false = alone

-- ---- the length of the list

least : (a : ℕ) → min a a ≡ a
least a = omega arith

least-most : (a b n : ℕ) → min a b * n ≤ b * n
least-most a b n = mul-le-mul_right n (let most : min a b ≤ b = omega arith in most)

larger : (a b : ℕ) → b ≤ max a b
larger a b = omega arith

not-less : (a b : ℕ) → a ≤ b → nat_lt a b ≡ false → a ≡ b
not-less a b le is = grind (arith, nat_tests, le, is)

module _ (old new : Members) (over : IsOver old.newest new.newest) where
  pub ended-long : list_length new.newest ≡ data_disks (final_shape old.newest) * old.newest.size
  ended-long =
      (λ i. min (data_disks (over.shape i)) (data_disks ((final-still new.newest over.still ∙ over.shape) i)) * over.size i)
      ∙ ap (λ (n : ℕ). n * old.newest.size) (least (data_disks (final_shape old.newest)))

-- ---- the call

-- What `finish` leaves where it isn't refused.
pub record IsFinished (tells : Type 0) (given : Given) (tape tape' : List Operation) (old new : Members) (roles spares lost : ℕ) (before after : ℕ → ℕ) : Type 0 where
  pub over : IsOver old.newest new.newest
  pub ended : IsEndedBehind tells given roles old new tape tape'
  pub placed : IsPlaced given new
  pub unlost : AreUnlost new
  pub free : AreSparesFree given new
  pub states : (role slot : ℕ) → holder (role_state (reading_of new) role) ≡ Some slot → role_state (reading_of new) role ≡ role_state (reading_of old) role
  pub offsets : (slot : ℕ) → data_offset_of (reading_of new) slot ≡ data_offset_of (reading_of old) slot
  pub others : tells → AreOthersPresent (present given tape) (present given tape')
  pub grows : Grows tells tape tape'
  pub rise : IsRisen tells old new tape tape'
  pub failed : AreLostInEnd old new roles spares lost before after
  pub safe : tells → (world : World) → (told more : Ledger) → (list : ℕ → Sector) → HasRoomLeft old tape tape' → ArePlaced world.scope given old
      → IsFinishable (OpensFit world) more old (present given tape) list → AreGoneTold told old → ((role : ℕ) → has_slot roles role ≡ true → told.gone role ≡ true) → AreGoneTold more new
      → IsUncleanTold told old → IsUncleanTold more old → ((slot number : ℕ) → told.carried slot number ≡ true → more.carried slot number ≡ true) → IsSafeOver world given told old tape
      → IsSafeChange (OpensFit world) world.scope given told more new tape tape'
  pub counts : NeverFalls before after

module _ {tells : Type 0} {given : Given} {tape tape' : List Operation} {scope : Scope} {first : ℕ} {entries : List Entry} {old new : Members} {before after : ℕ → ℕ} (work : Work) (ahead : PhasesLeft)
    (who : Who) (end first_roles roles spares lost late late_spares : ℕ)
    (was : IsMoving tells given tape scope first entries old (bears work) None (closed (zeroed_by old.newest)) [] (left_by None old (closed (zeroed_by old.newest)) ahead))
    (goes : IsCallGoing entries who) (caller : IsFalse (who.caller == 254)) (last : IsAtEnd old.newest) (did : IsFinished tells given tape tape' old new roles spares lost before after) (at_end : tells → end ≡ length tape')
    (first-is : (role : ℕ) → has_slot first_roles role ≡ (nat_lt role (length old.roles) && is_unassigned (reading_of old) role))
    (late-is : (role : ℕ) → has_slot late role ≡ ((nat_lt role (shape_of new.newest).disks && is_unassigned (reading_of new) role) && not (has_slot first_roles role || has_slot roles role)))
    (synced : work.resync ≡ None) (settled : tells → is_unsynced (world_in given tape scope first) entries ≡ false) (stepped : IsStepped old (left_by None old (closed (zeroed_by old.newest)) ahead) (still_left work new ahead) (losses_of roles spares ++ losses_of late late_spares))
    (planned : tells → IsPlannedTo (world_in given tape scope first) entries old (still_left work new ahead)) where
  abbrev added : List Entry
  added = entries_of who end (ending_events roles spares (still_left work new ahead) (grown_to (list_length old.newest) (list_length new.newest)) late late_spares)

  since : (role : ℕ) → role < role_count new.newest → is_missing (reading_of new) role ≡ true → (is_missing (reading_of old) role ≡ true) ⊎ (IsAmong roles role ⊎ IsAmong late role)
  since = ended-since old new first_roles roles late did.over.still was.members_are.whole did.states
      (λ role has. (and_parts (nat_lt role (length old.roles)) (is_unassigned (reading_of old) role) (sym (first-is role) ∙ has)).1) late-is

  pub ended-by : IsEndedBy tells given tape tape' old new roles late
  ended-by = record {
    last = last;
    over = did.over;
    ended = did.ended;
    placed = did.placed;
    unlost = did.unlost;
    states = did.states;
    offsets = did.offsets;
    others = did.others;
    rise = did.rise;
    gone = λ role has. let gone = did.failed.gone role has in (gone.0, gone.1);
    since = since;
    safe = did.safe;
  }

  array : IsStillKept tells given tape' scope first (entries ++ entries_of who end (ending_events roles spares (still_left work new ahead) (grown_to (list_length old.newest) (list_length new.newest)) late late_spares)) new (bears work)
  array = array-ends tells given tape tape' scope first entries old new (bears work) (bears work) [] (zeroed_by old.newest) (left_by None old (closed (zeroed_by old.newest)) ahead) (still_left work new ahead)
      who end roles spares late late_spares was goes caller at_end did.grows refl stepped planned (λ slot number is. is) ended-by

  few-spares : length new.spares ≤ 32
  few-spares = subst (λ l. length l ≤ 32) (sym did.ended.update.spares) (few-planned did.ended.flushed (ending did.ended.flushed) new.lost)

  whole : HasNoneRecovering new
  whole role slot is = was.members_are.whole role slot (sym (did.states role slot (ap holder is)) ∙ is)

  -- where no entry takes a role's holder, none is missing
  full : (tells → TakesNone (world_in given tape' scope first) (entries ++ added) → AreWhole old) → tells → TakesNone (world_in given tape' scope first) (entries ++ added) → KeepsLevel (entries ++ added) → AreNoneMissing new
  full was_whole t none level role lt = by (is_missing (reading_of new) role) refl
    where
      later : World
      later = world_in given tape' scope first

      none-here : list_any (loses later role) added ≡ false
      none-here = (neither (list_any (loses later role) entries) (list_any (loses later role) added) (sym (list_any-append (loses later role) entries added) ∙ none role)).1

      small : role < 16
      small = let few = few-roles new.newest did.placed.fit.valid in omega (arith, lt, few)

      within : role < role_count old.newest
      within =
          let count = count-still new.newest did.over.still in
          let disks = ap (λ (s : Shape). s.disks) did.over.shape in
          let most = larger (shape_of old.newest).disks (final_shape old.newest).disks in
          omega (arith, lt, count, disks, most)

      by : (b : Bool) → is_missing (reading_of new) role ≡ b → b ≡ false
      by false is = refl
      by true is = elim (since role lt is) [
        | inl missed ↦ absurd (let both : true ≡ false = sym missed ∙ was_whole t none role within in cc)
        | inr (inl has) ↦ absurd (
            let told = ending-lost who end roles spares (still_left work new ahead) (nat_lt (list_length old.newest) (list_length new.newest)) (list_length new.newest) late late_spares role small has in
            let both : true ≡ false = sym (lost-taken later role added told) ∙ none-here in cc)
        | inr (inr has) ↦ absurd (
            let told = ending-late who end roles spares (still_left work new ahead) (nat_lt (list_length old.newest) (list_length new.newest)) (list_length new.newest) late late_spares role small has in
            let both : true ≡ false = sym (lost-taken later role added told) ∙ none-here in cc)
      ]

  -- So the array keeps its record.
  pub ended-still : (tells → TakesNone (world_in given tape' scope first) (entries ++ added) → AreWhole old)
      → IsStill tells given tape' scope first (entries ++ entries_of who end (ending_events roles spares (still_left work new ahead) (grown_to (list_length old.newest) (list_length new.newest)) late late_spares)) new work (still_left work new ahead)
  ended-still was_whole =
      kept-again tells given tape' scope first (entries ++ added) new (bears work) work (still_left work new ahead) array did.unlost did.free few-spares whole synced refl
      (subst (λ (o : Option ℕ). IfSome o (λ n. n ≡ still_left work new ahead)) (sym (fold-append (λ left e. left_after left e.event) None entries added))
      (ended-left who end (still_left work new ahead) late late_spares (list_length new.newest) (nat_lt (list_length old.newest) (list_length new.newest)) (losses_of roles spares) (losses-are roles spares) (told_left entries)))
      (λ t. unsynced-later given scope first (entries ++ added) did.grows (λ u. (was.recorded u).begun) t
      ∙ unsynced-more (world_in given tape scope first) entries added (ended-ends who end roles spares (still_left work new ahead) late late_spares (list_length new.newest) (nat_lt (list_length old.newest) (list_length new.newest)))
      ∙ settled t)
      (full was_whole)

  -- the entries tell the length of its list
  pub ended-sized : length_of (list_length old.newest) entries ≡ list_length old.newest → length_of (list_length new.newest) (entries ++ added) ≡ list_length new.newest
  ended-sized sized =
      fold-append (λ m e. length_after m e.event) (list_length new.newest) entries added
      ∙ ending-length who end roles spares (still_left work new ahead) (nat_lt (list_length old.newest) (list_length new.newest)) (list_length new.newest) late late_spares (length_of (list_length new.newest) entries)
      ∙ of (nat_lt (list_length old.newest) (list_length new.newest)) refl
    where
      below : list_length old.newest ≤ list_length new.newest
      below = let long = ended-long old new did.over in let most = least-most (data_disks (shape_of old.newest)) (data_disks (final_shape old.newest)) old.newest.size in omega (arith, long, most)

      of : (b : Bool) → nat_lt (list_length old.newest) (list_length new.newest) ≡ b → cond b (list_length new.newest) (length_of (list_length new.newest) entries) ≡ list_length new.newest
      of true is = refl
      of false is = subst (λ (n : ℕ). length_of n entries ≡ n) (not-less (list_length old.newest) (list_length new.newest) below is) sized
