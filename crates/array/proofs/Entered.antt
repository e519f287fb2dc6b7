-- Which entries the calls of a running array enter: none of them is a plan.
use Rattle.std.proofs.Common.{◌≡◌, inl, inr, ℕ, Bool, true, false, cond, ◌||◌, Option, Some, None, Result, Ok, Err, List, [], ◌∷◌, ◌++◌, append-nil, nat_lt, MatchOption, refl, sym, ◌∙◌, ap, subst}
use Rattle.std.specs.List.{list_any, All}
use Rattle.std.specs.Prelude.{IfOk, IfErr}
use Rattle.std.proofs.lemmas.List.Elements.{All-head, All-tail}
use Rattle.std.proofs.lemmas.List.Folds.{list_any-append}
use Rattle.array_grow.specs.raid_types_Sectors.{Sector}
use Rattle.array_grow.specs.raid_types_the_Fault.{Fault}
use Rattle.array_grow.specs.raid_types_the_Fault_TheVariants.{Refused as IsRefusedWith, NoMemory}
use Rattle.array_grow.specs.raid_types_the_Refusal_TheVariants.{BackupFault}
use Rattle.array_grow.specs.raid_types_the_NoMemory.{NoMemory as WantsMemory}
use Rattle.array_grow.specs.raid_types_the_Who.{Who}
use Rattle.array_grow.specs.raid_types_the_Status.{Status}
use Rattle.array_grow.specs.bank_the_Operation.{Operation}
use Rattle.array_takeover.specs.sb_specs_the_Members.{Members}
use Rattle.array_takeover.specs.history_the_Entry.{Entry}
use Rattle.array_takeover.specs.history_the_Event.{Event}
use Rattle.array_takeover.specs.history_the_Event_TheVariants.{Refused, Resized, Shown, Step}
use Rattle.array_takeover.specs.history_the_Request.{Request}
use Rattle.array_takeover.specs.history_the_StepKind.{StepKind}
use Rattle.array_takeover.specs.history_the_StepKind_TheVariants.{Finished, Begun, TakenOver, RebuildEnded}
use Rattle.array_takeover.specs.history_OneShape.{IsOfCall}
use Rattle.array_takeover.specs.history_Plain.{entries_of}
use Rattle.array_takeover.specs.history_Reshaped.{is_planned}
use Rattle.array_takeover.specs.history_World.{World}
use Rattle.array_grow.specs.array_members_the_Work.{Work}
use Rattle.array_grow.specs.history_append_Losing.{losses_of}
use Rattle.array_grow.proofs.history_append_LosingLaws.{entries-both}
use Rattle.array_grow.specs.array_call_specs_Calls.{IsEntered, StandsInside, IsRebuildStepped, IsUnsettled}
use Rattle.array_grow.specs.history_invariant_Recorded.{entry_of}
use Rattle.array_grow.proofs.history_invariant_Tests.{neither}
use Rattle.array_grow.specs.array_specs_Parts.{RunningParts}
use Rattle.array_grow.specs.array_specs_Calls.{IsStepTaken}
use Rattle.array_grow.specs.array_specs_Plans.{turns_shape, KeepsShape}
use Rattle.array_takeover.specs.array_fixed_sync_Resyncing as resync
use Rattle.array_grow.specs.array_fixed_sync_Rebuilding.{rebuilt_role, rebuild_kind, rebuild_events}
use Rattle.array_takeover.specs.array_fixed_sync_Stepping.{IsStepEntered}
use Rattle.array_grow.specs.array_reshaping_laws_Writing.{IsRepliedBehind, IsWriteReplied}
use Rattle.array_grow.specs.array_transition_Begun.{begun_length, IsBegunWith}
use Rattle.array_grow.specs.array_transition_Ended.{ended_length, IsEndedWith}
use Rattle.array_takeover.specs.TakenOver.{IsTakenWith}
use Rattle.array_grow.proofs.array_fixed_laws_PlansKept.{PlanNone, AddNoPlan, none-behind, add-entered, add-behind, add-behind_all, add-nothing, add-step}
use Rattle.array_grow.proofs.array_fixed_laws_PlansKept.{inside-none}

-- ---- lists

-- neither of two lists has one
both-none : (a b : Bool) → a ≡ false → b ≡ false → (a || b) ≡ false
both-none false b one two = two
both-none true b one two = absurd (let e : true ≡ false = one in cc)

pub none-both : (xs ys : List Entry) → PlanNone xs → PlanNone ys → PlanNone (xs ++ ys)
none-both xs ys one two = list_any-append (λ e. is_planned e.event) xs ys ∙ both-none _ _ one two

-- losses alone
pub losses-none : (who : Who) (end roles spares : ℕ) → PlanNone (entries_of who end (losses_of roles spares))
losses-none who end roles spares = subst (λ (l : List Event). PlanNone (entries_of who end l)) (append-nil (losses_of roles spares)) (none-behind who end roles spares [] refl)

-- ---- a write

call-none : (who : Who) (call : List Entry) → All (λ e. IsOfCall who e × StandsInside e.event) call → PlanNone call
call-none who [] own = refl
call-none who (e ∷ call) own =
    both-none (is_planned e.event) (list_any (λ x. is_planned x.event) call) (inside-none e.event (All-head (λ x. IsOfCall who x × StandsInside x.event) e call own).1)
    (call-none who call (All-tail (λ x. IsOfCall who x × StandsInside x.event) e call own))

pub add-behind_call : {who : Who} {old new : List Entry} (size : ℕ) (request : Request) (event : Event) → IsRepliedBehind size request who old new event → is_planned event ≡ false → AddNoPlan old new
add-behind_call {who = who} size request event is none = record {
  more = is.call ++ entry_of who is.end event ∷ [];
  grown = is.is;
  none = none-both is.call (entry_of who is.end event ∷ []) (call-none who is.call is.own) (ap (λ (b : Bool). b || false) none);
}

pub add-written : {T : Type 0} {old new : List Entry} (who : Who) (size at : ℕ) (body : List Sector) (result : Result T Fault) → IsWriteReplied size at body who old new result → AddNoPlan old new
add-written who size at body (Ok x) is = add-behind_call size _ _ is refl
add-written who size at body (Err (IsRefusedWith BackupFault)) is = record { more = entry_of who is.0 (Refused BackupFault) ∷ []; grown = is.1; none = refl }
add-written who size at body (Err (IsRefusedWith refusal)) is = add-behind_call size _ (Refused refusal) is refl
add-written who size at body (Err NoMemory) is = add-nothing is

-- ---- a status

pub add-shown : {B : Type 0} (tells : Type 0) (tape : List Operation) (who : Who) (old new : RunningParts B) (result : Result Status WantsMemory)
    → IfOk result (λ status. IsEntered tells tape who old.parts.entries new.parts.entries (Shown status ∷ [])) → IfErr result (λ none. new ≡ old) → AddNoPlan old.parts.entries new.parts.entries
add-shown tells tape who old new (Ok status) is none = add-entered (Shown status ∷ []) is (λ end. refl)
add-shown tells tape who old new (Err none) is same = add-nothing (ap (λ p. p.parts.entries) same)

-- ---- a stop

pub add-unsettled : {old new : List Entry} (who : Who) (fault : Fault) → IsUnsettled who old new fault → AddNoPlan old new
add-unsettled who (IsRefusedWith refusal) is = add-behind (Refused refusal) is refl
add-unsettled who NoMemory is = add-nothing is

-- ---- a step without a reshape

rebuilds-none : (who : Who) (kind : StepKind) (role left : ℕ) (end : ℕ) → PlanNone (entries_of who end (rebuild_events kind role left))
rebuilds-none who RebuildEnded role left end = refl
rebuilds-none who kind role left end = refl

add-rebuilt : {T : Type 0} (who : Who) (old new : List Entry) (members : Members) (role : ℕ) (kind : StepKind) (left : ℕ) (result : Result T Fault)
    → IsRebuildStepped who old new members role (rebuild_events kind role left) result → AddNoPlan old new
add-rebuilt who old new members role kind left (Ok x) (inl done) = add-behind_all who (rebuild_events kind role left) done (rebuilds-none who kind role left)
add-rebuilt who old new members role kind left (Ok x) (inr (lost, vacant)) = record {
  more = entries_of who lost.end (losses_of lost.roles lost.spares);
  grown = lost.is;
  none = losses-none who lost.end lost.roles lost.spares;
}
add-rebuilt who old new members role kind left (Err (IsRefusedWith refusal)) is = add-behind (Refused refusal) is refl
add-rebuilt who old new members role kind left (Err NoMemory) is = add-nothing is

pub add-stepped : {T : Type 0} (who : Who) (old new : List Entry) (work : Work) (members members' : Members) (left : ℕ) (result : Result T Fault) → IsStepEntered who old new work members members' left result → AddNoPlan old new
add-stepped who old new work members members' left result is = by work.resync is
  where
    by : (o : Option ℕ) → MatchOption o (IsRebuildStepped who old new members' (rebuilt_role members) (rebuild_events (rebuild_kind work members) (rebuilt_role members) left) result)
        (λ mended. IsStepTaken who old new (resync.next_kind work.resync members) left result) → AddNoPlan old new
    by None entered = add-rebuilt who old new members' (rebuilt_role members) (rebuild_kind work members) left result entered
    by (Some mended) entered = add-step who (resync.next_kind work.resync members) left result entered

-- ---- the level is taken over

pub add-taken : {who : Who} {plan later : Members} {old new : List Entry} {left : ℕ} → IsTakenWith who plan later old new left → AddNoPlan old new
add-taken {who = who} {left = left} is = record {
  more = entries_of who is.end (Step TakenOver left ∷ losses_of is.roles is.spares);
  grown = is.is;
  none = losses-none who is.end is.roles is.spares;
}

-- ---- a reshape begins and ends

begun-none : (who : Who) (end : ℕ) (back : Bool) (size : ℕ) → PlanNone (entries_of who end (begun_length back size))
begun-none who end true size = refl
begun-none who end false size = refl

-- a length, where there is one, and losses
length-none : (who : Who) (end roles spares : ℕ) (events : List Event) → PlanNone (entries_of who end events) → PlanNone (entries_of who end (events ++ losses_of roles spares))
length-none who end roles spares events none =
    subst PlanNone (sym (entries-both who end events (losses_of roles spares)))
    (none-both (entries_of who end events) (entries_of who end (losses_of roles spares)) none (losses-none who end roles spares))

pub add-begun : {who : Who} {back : Bool} {size : ℕ} {plan later : Members} {old new : List Entry} {left : ℕ} → IsBegunWith who back size plan later old new left → AddNoPlan old new
add-begun {who = who} {back = back} {size = size} {left = left} is = record {
  more = entries_of who is.end (Step Begun left ∷ begun_length back size ++ losses_of is.roles is.spares);
  grown = is.is;
  none = length-none who is.end is.roles is.spares (begun_length back size) (begun-none who is.end back size);
}

-- behind it the array doesn't keep its shape
pub begun-turns : {P : Type 0} {who : Who} {back : Bool} {size : ℕ} {plan later : Members} {old new : List Entry} {left : ℕ} (world : World) → IsBegunWith who back size plan later old new left → KeepsShape world new → P
begun-turns {who = who} {back = back} {size = size} {old = old} {left = left} world is keeps =
    let rest = entries_of who is.end (Step Begun left ∷ begun_length back size ++ losses_of is.roles is.spares) in
    let none : list_any (λ e. turns_shape e.event) (old ++ rest) ≡ false = subst (λ (l : List Entry). list_any (λ e. turns_shape e.event) l ≡ false) is.is keeps.none in
    let parts = neither (list_any (λ e. turns_shape e.event) old) (list_any (λ e. turns_shape e.event) rest) (sym (list_any-append (λ e. turns_shape e.event) old rest) ∙ none) in
    absurd (let e : true ≡ false = parts.1 in cc)

ended-none : (who : Who) (end : ℕ) (longer : Bool) (size : ℕ) → PlanNone (entries_of who end (cond longer (Resized size ∷ []) []))
ended-none who end true size = refl
ended-none who end false size = refl

-- what stands behind the step
pub ended-tail : (who : Who) (end before size late late_spares : ℕ) → PlanNone (entries_of who end (ended_length before size ++ losses_of late late_spares))
ended-tail who end before size late late_spares = length-none who end late late_spares (ended_length before size) (ended-none who end (nat_lt before size) size)

pub add-ended : {who : Who} {before size : ℕ} {was later : Members} {old new : List Entry} {left : ℕ} → IsEndedWith who before size was later old new left → AddNoPlan old new
add-ended {who = who} {before = before} {size = size} {left = left} is = record {
  more = entries_of who is.end (losses_of is.roles is.spares ++ Step Finished left ∷ (ended_length before size ++ losses_of is.late is.late_spares));
  grown = is.is;
  none = none-behind who is.end is.roles is.spares (Step Finished left ∷ (ended_length before size ++ losses_of is.late is.late_spares))
      (ended-tail who is.end before size is.late is.late_spares);
}
