-- What the end of a reshape leaves is ready as an array without one; and refused, it is ready in its reshape.
use Rattle.std.proofs.Common.{◌≡◌, ◌≢◌, inl, inr, ℕ, ◌*◌, ◌<◌, ◌≤◌, ◌&&◌, ◌||◌, nat_lt, Bool, true, false, not, Option, Some, None, List, [], ◌∷◌, ◌++◌, length, refl, sym, ◌∙◌, ap, subst, arith, append-nil}
use Rattle.std.specs.Prelude.{if◌then◌else◌, is_some}
use Rattle.std.specs.List.{list_any, All}
use Rattle.std.proofs.lemmas.Bool.{cases_lt, and_parts}
use Rattle.std.proofs.lemmas.Bool.Decides.{nat_tests}
use Rattle.std.proofs.lemmas.List.Elements.{All-nil, All-cons}
use Rattle.array_reshaping_steps.specs.raid_types_Shapes.{has_slot}
use Rattle.array_reshaping_steps.specs.raid_types_the_Who.{Who}
use Rattle.array_reshaping_steps.specs.raid_types_the_Shape.{Shape}
use Rattle.array_reshaping_steps.specs.bank_the_Operation.{Operation}
use Rattle.array_reshaping_steps.specs.bank_Given.{Given, IsFaulted}
use Rattle.array_reshaping_steps.specs.reshape_plan_Plans.{AreSound, last_shape}
use Rattle.array_reshaping_steps.specs.sb_specs_the_Members.{Members}
use Rattle.array_reshaping_steps.specs.sb_specs_Reading.{Scope, is_reshaping, shape_of, final_shape, list_length, role_state, holder}
use Rattle.array_reshaping_steps.specs.stripe_row_Rows.{reading_of}
use Rattle.array_reshaping_steps.specs.history_the_Entry.{Entry}
use Rattle.array_reshaping_steps.specs.history_the_Event.{Event}
use Rattle.array_reshaping_steps.specs.history_the_Event_TheVariants.{Step, Resized}
use Rattle.array_reshaping_steps.specs.history_the_StepKind_TheVariants.{Finished}
use Rattle.array_reshaping_steps.specs.history_Losses.{is_unsynced}
use Rattle.array_reshaping_steps.specs.history_Plain.{entries_of}
use Rattle.array_reshaping_steps.specs.history_Reshaped.{open_plans}
use Rattle.array_reshaping_steps.specs.crash_safety_laws_Updates.{IsAtEnd}
use Rattle.array_reshaping_steps.specs.reshape_begin_end_Finished.{AreLostInEnd}
use Rattle.array_reshaping_steps.specs.array_members_the_Work.{Work}
use Rattle.array_reshaping_steps.specs.array_members_Numbers.{bears}
use Rattle.array_reshaping_steps.specs.array_members_Placed.{is_unassigned}
use Rattle.array_reshaping_steps.specs.array_members_Rebuilding.{Held}
use Rattle.array_reshaping_steps.specs.history_append_Losing.{losses_of}
use Rattle.array_reshaping_steps.proofs.history_append_CallLaws.{all-losses}
use Rattle.array_reshaping_steps.proofs.history_append_LosingLaws.{entries-both}
use Rattle.array_reshaping_steps.proofs.history_append_PlainLaws.{one}
use Rattle.array_reshaping_steps.specs.array_call_specs_Calls.{IsLossBy, AreLossesBy}
use Rattle.array_reshaping_steps.specs.reshape_request_the_PhasesLeft.{PhasesLeft}
use Rattle.array_reshaping_steps.specs.reshape_request_Left.{phases_of, zeroed_by}
use Rattle.array_reshaping_steps.specs.history_invariant_Recorded.{IsCallGoing}
use Rattle.array_reshaping_steps.specs.history_invariant_Safe.{world_in}
use Rattle.array_reshaping_steps.specs.reshape_progress_the_Course.{Course}
use Rattle.array_reshaping_steps.specs.reshape_progress_Laws.{closed}
use Rattle.array_reshaping_end_laws.specs.array_reshaping_invariant_Moving.{IsMoving}
use Rattle.array_reshaping_end_laws.proofs.Ended.{IsPlannedTo, IsStepped}
use Rattle.array_reshaping_end_laws.proofs.Ending.{length_by, grown_to, ending_events}
use Rattle.array_reshaping_steps.specs.array_specs_Parts.{left_in, still_left}
use Rattle.array_reshaping_steps.specs.array_specs_Plans.{GoTo, turns_shape}
use Rattle.array_reshaping_steps.proofs.array_fixed_laws_Closing.{LeadTo, plans-of, ahead-none}
use Rattle.array_reshaping_steps.proofs.array_specs_Called.{not_254}
use Rattle.array_reshaping_steps.proofs.array_specs_VisibleLaws.{limit-kept}
use Rattle.array_reshaping_steps.specs.array_fixed_laws_Ready.{IsReady as IsReadyStill}
use Rattle.array_reshaping_steps.proofs.array_fixed_laws_Plain.{IsLeftPlain, turned-plain, turns-behind}
use Rattle.array_reshaping_steps.specs.array_reshaping_laws_Ready.{IsReady as IsReadyMoving, bytes_in}
use Rattle.array_reshaping_steps.proofs.array_reshaping_laws_Kept.{left_by, takes-before}
use Rattle.array_transition.specs.Ended.{AreKeptOrFailed, WasSpareOrDropped}
use Rattle.array_transition.proofs.EndedStill.{IsFinished, ended-still, ended-sized, ended-free}

-- the new length is entered in the words of the law
pub length-same : (longer : Bool) (n : ℕ) → (if longer then Resized n ∷ [] else []) ≡ length_by longer n
length-same true n = refl
length-same false n = refl

-- an array in a reshape that has gone through the list has no window, and no resync is pending where its end is due
pub closed-moving : {tells : Type 0} {given : Given} {tape : List Operation} {scope : Scope} {first : ℕ} {entries : List Entry} {members : Members} (work : Work) (window : List ℕ) (ahead : PhasesLeft) (course : Course) (count : ℕ)
    → course ≡ closed count → work.resync ≡ None
    → IsMoving tells given tape scope first entries members (bears work) work.resync course (bytes_in course.window window) (left_in work members course ahead)
    → IsMoving tells given tape scope first entries members (bears work) None (closed count) [] (left_by None members (closed count) ahead)
closed-moving {tells = tells} {given = given} {tape = tape} {scope = scope} {first = first} {entries = entries} {members = members} work window ahead course count is synced was =
    subst (λ (o : Option ℕ). IsMoving tells given tape scope first entries members (bears work) o (closed count) [] (left_by o members (closed count) ahead)) synced
    (subst (λ (k : Course). IsMoving tells given tape scope first entries members (bears work) work.resync k (bytes_in k.window window) (left_by work.resync members k ahead)) is was)

-- ---- the plans

pub planned-to : (tells : Type 0) (given : Given) (tape : List Operation) (scope : Scope) (first : ℕ) (entries : List Entry) (old new : Members) (work : Work) (ahead : PhasesLeft)
    → is_reshaping old.newest ≡ true → LeadTo tells (world_in given tape scope first) entries old ahead → tells → IsPlannedTo (world_in given tape scope first) entries old (still_left work new ahead)
planned-to tells given tape scope first entries old new work ahead active lead t right none =
    plans-of (world_in given tape scope first) (final_shape old.newest) (open_plans entries) (subst (λ (s : Shape). GoTo (world_in given tape scope first) s entries) there (lead t right))
  where
    there : last_shape (if is_reshaping old.newest then final_shape old.newest else shape_of old.newest) (phases_of ahead) ≡ final_shape old.newest
    there = λ i. last_shape (if active i then final_shape old.newest else shape_of old.newest) (ahead-none (shape_of new.newest) new.newest.size _ (phases_of ahead) none i)

-- ---- what was lost

lt-of : (a b : ℕ) → nat_lt a b ≡ true → a < b
lt-of a b is = grind (arith, nat_tests, is)

lt-true : (a b : ℕ) → a < b → nat_lt a b ≡ true
lt-true a b lt = grind (arith, nat_tests, lt)

-- each slot of a role that the new shape has holds it still, or has failed; and each other is a spare, or has failed
module _ (old new : Members) (roles spares lost : ℕ) (before after : ℕ → ℕ) (failed : AreLostInEnd old new roles spares lost before after) where
  pub kept-or-failed : AreKeptOrFailed old new before after
  kept-or-failed role slot below held = elim (failed.held role slot held) [
    | inl there ↦ inl there
    | inr (inl gone) ↦ inr gone.1
    | inr (inr (inl has)) ↦ inr (failed.lost_are slot has)
    | inr (inr (inr past)) ↦ absurd (let most = past.0 in omega (arith, below, most))
  ]

  -- each late role had a slot that failed in the update
  pub late-held : (first late : ℕ) → ((role : ℕ) → has_slot first role ≡ (nat_lt role (length old.roles) && is_unassigned (reading_of old) role)) → (final_shape old.newest).disks ≤ length old.roles
      → ((role : ℕ) → has_slot late role ≡ ((nat_lt role (final_shape old.newest).disks && is_unassigned (reading_of new) role) && not (has_slot first role || has_slot roles role)))
      → (role : ℕ) → has_slot late role ≡ true → (slot : ℕ) × (holder (role_state (reading_of old) role) ≡ Some slot) × IsFaulted slot before after
  late-held first late first-is long late-is role has = of (holder (role_state (reading_of old) role)) refl
    where
      parts : (((nat_lt role (final_shape old.newest).disks && is_unassigned (reading_of new) role) ≡ true)) × (not (has_slot first role || has_slot roles role) ≡ true)
      parts = and_parts (nat_lt role (final_shape old.newest).disks && is_unassigned (reading_of new) role) (not (has_slot first role || has_slot roles role)) (sym (late-is role) ∙ has)

      here : (nat_lt role (final_shape old.newest).disks ≡ true) × (is_unassigned (reading_of new) role ≡ true)
      here = and_parts (nat_lt role (final_shape old.newest).disks) (is_unassigned (reading_of new) role) parts.0

      below : role < (final_shape old.newest).disks
      below = lt-of role (final_shape old.newest).disks here.0

      neither-of : (a b : Bool) → not (a || b) ≡ true → (a ≡ false) × (b ≡ false)
      neither-of false false is = (refl, refl)
      neither-of true b is = absurd (cc)
      neither-of false true is = absurd (cc)

      of : (o : Option ℕ) → holder (role_state (reading_of old) role) ≡ o → (slot : ℕ) × (holder (role_state (reading_of old) role) ≡ Some slot) × IsFaulted slot before after
      of None is = absurd (
          let was : has_slot first role ≡ true = first-is role ∙ (λ i. lt-true role (length old.roles) (omega (arith, below, long)) i && not (is_some (is i))) in
          let both : true ≡ false = sym was ∙ (neither-of (has_slot first role) (has_slot roles role) parts.1).0 in cc)
      of (Some slot) is = (
        slot,
        is,
        elim (failed.held role slot is) [
          | inl there ↦ absurd (let full : is_unassigned (reading_of new) role ≡ false = ap (λ (o : Option ℕ). not (is_some o)) there in let both : true ≡ false = sym here.1 ∙ full in cc)
          | inr (inl gone) ↦ gone.1
          | inr (inr (inl has)) ↦ failed.lost_are slot has
          | inr (inr (inr past)) ↦ absurd (let most = past.0 in omega (arith, below, most))
        ],
      )

-- ---- the array without its reshape

module _ {tells : Type 0} {given : Given} {tape tape' : List Operation} {scope : Scope} {first : ℕ} {entries : List Entry} {old new : Members} {work : Work} {course : Course} {limit : Option ℕ} {window : List ℕ} {before after : ℕ → ℕ}
    {steps room rows buffer far_rows far_buffer : ℕ} (ahead : PhasesLeft) (who : Who) (end first_roles roles spares lost late late_spares : ℕ)
    (was : IsReadyMoving tells given tape scope first entries old work course ahead limit window before steps room rows buffer far_rows far_buffer) (at : course ≡ closed (zeroed_by old.newest)) (synced : work.resync ≡ None)
    (goes : IsCallGoing entries who) (caller : who.caller ≢ 254) (last : IsAtEnd old.newest) (did : IsFinished tells given tape tape' old new roles spares lost before after) (at_end : tells → end ≡ length tape')
    (first-is : (role : ℕ) → has_slot first_roles role ≡ (nat_lt role (length old.roles) && is_unassigned (reading_of old) role))
    (late-is : (role : ℕ) → has_slot late role ≡ ((nat_lt role (shape_of new.newest).disks && is_unassigned (reading_of new) role) && not (has_slot first_roles role || has_slot roles role)))
    (stepped : IsStepped old (left_by None old (closed (zeroed_by old.newest)) ahead) (still_left work new ahead) (losses_of roles spares ++ losses_of late late_spares))
    (lead : LeadTo tells (world_in given tape scope first) entries old ahead) where
  abbrev added : List Entry
  added = entries_of who end (ending_events roles spares (still_left work new ahead) (grown_to (list_length old.newest) (list_length new.newest)) late late_spares)

  pub ended-ready : {given' : Given} {scope' : Scope} {first' : ℕ} {mid entries' : List Entry} {steps' room' : ℕ} → given' ≡ given → scope' ≡ scope → first' ≡ first → mid ≡ entries
      → entries' ≡ mid ++ entries_of who end (ending_events roles spares (still_left work new ahead) (grown_to (list_length old.newest) (list_length new.newest)) late late_spares) → 50 * steps' < room'
      → IsReadyStill tells given' tape' scope' first' entries' new work ahead limit after steps' room' rows buffer far_rows far_buffer
  ended-ready {given' = given'} {scope' = scope'} {first' = first'} {mid = mid} {entries' = entries'} {steps' = steps'} {room' = room'} same_given scope_is first_is mid_is is room_left =
      subst (λ (l : List Entry). IsReadyStill tells given' tape' scope' first' l new work ahead limit after steps' room' rows buffer far_rows far_buffer) (sym (is ∙ ap (λ (l : List Entry). l ++ added) mid_is))
      (subst (λ (n : ℕ). IsReadyStill tells given' tape' scope' n (entries ++ added) new work ahead limit after steps' room' rows buffer far_rows far_buffer) (sym first_is)
      (subst (λ (s : Scope). IsReadyStill tells given' tape' s first (entries ++ added) new work ahead limit after steps' room' rows buffer far_rows far_buffer) (sym scope_is)
      (subst (λ (g : Given). IsReadyStill tells g tape' scope first (entries ++ added) new work ahead limit after steps' room' rows buffer far_rows far_buffer) (sym same_given)
      (record {
        kept = ended-still work ahead who end first_roles roles spares lost late late_spares moving goes (not_254 who.caller caller) last did at_end first-is late-is synced settled stepped
            (planned-to tells given tape scope first entries old new work ahead was.kept.members_are.active lead)
            (λ t none. was.full t (takes-before given scope first entries added did.grows (λ u. (was.kept.recorded u).ends) t none));
        sized = ended-sized work ahead who end first_roles roles spares lost late late_spares moving goes (not_254 who.caller caller) last did at_end first-is late-is synced settled stepped
            (planned-to tells given tape scope first entries old new work ahead was.kept.members_are.active lead) was.sized;
        limited = limit-kept limit entries added was.limited (ended-free who end roles spares (still_left work new ahead) late late_spares (list_length new.newest) (nat_lt (list_length old.newest) (list_length new.newest)) limit);
        planned = subst (λ (n : ℕ). AreSound (shape_of new.newest) n (phases_of ahead)) (sym did.over.size)
            (subst (λ (s : Shape). AreSound s old.newest.size (phases_of ahead)) (sym did.over.shape) was.planned);
        failed = λ slot lt out. let had = was.failed slot lt out in let more = did.counts slot in omega (arith, had, more);
        room_left = room_left;
        rows_fit = was.rows_fit;
        buffer_fits = was.buffer_fits;
        far_rows_fit = was.far_rows_fit;
        far_buffer_fits = was.far_buffer_fits;
        plain = turned.plain;
        plainly = λ none. absurd (let clash : true ≡ false = sym told ∙ none in cc);
        ahead_told = inr told;
      }))))
    where
      -- the end of a reshape turns the shape
      told : list_any (λ e. turns_shape e.event) (entries ++ added) ≡ true
      told = turns-behind entries added
          (ap (λ (l : List Entry). list_any (λ e. turns_shape e.event) l)
          (entries-both who end (losses_of roles spares) (Step Finished (still_left work new ahead) ∷ (grown_to (list_length old.newest) (list_length new.newest) ++ losses_of late late_spares)))
          ∙ turns-behind (entries_of who end (losses_of roles spares))
          (entries_of who end (Step Finished (still_left work new ahead) ∷ (grown_to (list_length old.newest) (list_length new.newest) ++ losses_of late late_spares))) refl)

      turned : IsLeftPlain tells given tape' scope first entries (entries_of who end (ending_events roles spares (still_left work new ahead) (grown_to (list_length old.newest) (list_length new.newest)) late late_spares)) new
      turned = turned-plain told

      settled : tells → is_unsynced (world_in given tape scope first) entries ≡ false
      settled t = was.kept.pending t ∙ ap (λ (o : Option ℕ). is_some o) synced

      moving : IsMoving tells given tape scope first entries old (bears work) None (closed (zeroed_by old.newest)) [] (left_by None old (closed (zeroed_by old.newest)) ahead)
      moving = closed-moving work window ahead course (zeroed_by old.newest) at synced was.kept

-- ---- the losses of the end

-- each has its cause
module _ (old new : Members) (roles spares lost : ℕ) (before after : ℕ → ℕ) (failed : AreLostInEnd old new roles spares lost before after) (late late_spares : ℕ)
    (held : (role : ℕ) → has_slot late role ≡ true → (slot : ℕ) × (holder (role_state (reading_of old) role) ≡ Some slot) × IsFaulted slot before after)
    (among : (slot : ℕ) → has_slot late_spares slot ≡ true → has_slot lost slot ≡ true) (kept : ℕ)
    (idle : (slot : ℕ) → has_slot late_spares slot ≡ true → not (has_slot kept slot) ≡ true)
    (all : (role slot : ℕ) → role < (final_shape old.newest).disks → holder (role_state (reading_of old) role) ≡ Some slot → has_slot kept slot ≡ true) where
  -- a slot that the update lost, and that held no role of the new shape, was a spare, or its role was dropped
  late-were : (slot : ℕ) → has_slot late_spares slot ≡ true → WasSpareOrDropped old slot
  late-were slot has = elim (failed.lost_were slot (among slot has)) [
    | inl spare ↦ inl spare
    | inr (role, had) ↦ elim (cases_lt role (final_shape old.newest).disks) [
      | inl below ↦ absurd (let there = all role slot below had in let clash : true ≡ false = sym (idle slot has) ∙ ap not there in cc)
      | inr past ↦ inr (role, past, had)
    ]
  ]

  pub ended-losses : (entries mid later : List Entry) (who : Who) (end left size : ℕ) (longer : Bool) → mid ≡ entries
      → later ≡ mid ++ entries_of who end (ending_events roles spares left (length_by longer size) late late_spares)
      → AreLossesBy (Held old) (WasSpareOrDropped old) before after entries later
  ended-losses entries mid later who end left size longer mid_is is = record {
    more = entries_of who end (ending_events roles spares left (length_by longer size) late late_spares);
    grown = is ∙ ap (λ (l : List Entry). l ++ entries_of who end (ending_events roles spares left (length_by longer size) late late_spares)) mid_is;
    failed = all-losses (λ event. IsLossBy (Held old) (WasSpareOrDropped old) before after event) who end roles spares (Step Finished left ∷ (length_by longer size ++ losses_of late late_spares)) failed.gone (λ slot has. (inl (failed.were slot has), failed.spares_are slot has))
        (All-cons (λ e. IsLossBy (Held old) (WasSpareOrDropped old) before after e.event) (one who end (Step Finished left)) (entries_of who end (length_by longer size ++ losses_of late late_spares)) tt (of longer));
  }
    where
      alone : All (λ e. IsLossBy (Held old) (WasSpareOrDropped old) before after e.event) (entries_of who end (losses_of late late_spares))
      alone = subst (λ (l : List Event). All (λ e. IsLossBy (Held old) (WasSpareOrDropped old) before after e.event) (entries_of who end l)) (append-nil (losses_of late late_spares))
          (all-losses (λ event. IsLossBy (Held old) (WasSpareOrDropped old) before after event) who end late late_spares [] held (λ slot has. (late-were slot has, failed.lost_are slot (among slot has))) (All-nil (λ e. IsLossBy (Held old) (WasSpareOrDropped old) before after e.event)))

      of : (b : Bool) → All (λ e. IsLossBy (Held old) (WasSpareOrDropped old) before after e.event) (entries_of who end (length_by b size ++ losses_of late late_spares))
      of true = All-cons (λ e. IsLossBy (Held old) (WasSpareOrDropped old) before after e.event) (one who end (Resized size)) (entries_of who end (losses_of late late_spares)) tt alone
      of false = alone
