-- A step that is refused, and one that ends a reshape: what a reply may tell of it.
use Rattle.std.proofs.Common.{◌≡◌, ◌≢◌, inl, inr, ℕ, ◌+◌, ◌-◌, ◌<◌, nat_lt, Bool, true, false, Option, Some, None, Result, Ok, Err, List, [], ◌∷◌, refl, sym, ◌∙◌, ap, subst}
use Rattle.std.specs.Prelude.{if◌then◌else◌, is_some, MatchBool, MatchOption}
use Rattle.array_grow.specs.raid_types_the_Fault.{Fault}
use Rattle.array_grow.specs.raid_types_the_Fault_TheVariants.{Refused as IsRefusedWith, NoMemory}
use Rattle.array_grow.specs.raid_types_the_Refusal.{Refusal}
use Rattle.array_grow.specs.raid_types_the_Refusal_TheVariants.{Degraded}
use Rattle.array_grow.specs.raid_types_the_Who.{Who}
use Rattle.array_grow.specs.raid_types_the_Shape.{Shape}
use Rattle.array_grow.specs.raid_types_the_Phase.{Phase}
use Rattle.array_grow.specs.raid_types_the_Phase_TheVariants.{Reshape, UpTo6, DownTo5}
use Rattle.array_takeover.specs.sb_codec_the_Sb.{Sb}
use Rattle.array_takeover.specs.sb_specs_the_Members.{Members}
use Rattle.array_takeover.specs.sb_specs_Reading.{is_reshaping, shape_of, final_shape, list_length, next_window, role_count}
use Rattle.array_grow.specs.stripe_row_Rows.{reading_of, is_missing}
use Rattle.array_takeover.specs.history_the_Entry.{Entry}
use Rattle.array_takeover.specs.history_the_StepKind.{StepKind}
use Rattle.array_grow.specs.array_members_Status.{left_of}
use Rattle.array_grow.specs.array_members_the_Work.{Work}
use Rattle.array_grow.proofs.crash_views_Alike.{for-both}
use Rattle.array_grow.specs.array_members_Placed.{IsInForce}
use Rattle.array_grow.specs.array_members_Lacking.{AreTooMany, IsNotResynced}
use Rattle.array_grow.specs.stripe_region_resync_the_Stripe.{Stripe}
use Rattle.array_grow.specs.stripe_region_resync_Resyncs.{low_end, low_shape, high_shape, low_stripes, high_stripe, resync_shape, IsNotSynced}
use Rattle.array_grow.specs.array_call_specs_Calls.{by_answer, IsCausedBy}
use Rattle.array_takeover.specs.reshape_request_the_PhasesLeft.{PhasesLeft}
use Rattle.array_grow.specs.reshape_request_Asked.{lowest_missing}
use Rattle.array_takeover.specs.reshape_request_the_Window.{Window}
use Rattle.array_takeover.specs.reshape_request_the_Window_TheVariants.{Closed, Entered, Unsure}
use Rattle.array_takeover.specs.reshape_request_Left.{phases_of, stripes_in, zeroed_by}
use Rattle.array_grow.specs.array_reshaping_state_Due.{due_in, due_of}
use Rattle.array_grow.specs.array_reshaping_state_the_Due.{Due}
use Rattle.array_grow.specs.array_reshaping_state_the_Due_TheVariants.{Copy, Record, Mend, EndResync, Enter, Zero, Finish}
use Rattle.array_grow.specs.array_specs_Parts.{RunningParts, still_left}
use Rattle.array_grow.specs.array_specs_Calls.{IsStepTaken}
use Rattle.array_grow.specs.array_reshaping_laws_Steps.{resync_behind, IsStepCaused}
use Rattle.array_grow.specs.array_fixed_laws_Steps.{IsEndedRight, IsClosable}
use Rattle.array_takeover.specs.array_fixed_sync_Resyncing.{is_at_end, IsUnsynced}
use Rattle.array_takeover.specs.array_fixed_sync_Stepping.{IsUndone, after_step}
use Rattle.array_grow.specs.array_reshaping_steps_Replies.{IsEndedInReshape}
use Rattle.array_grow.specs.array_transition_Begun.{IsUnbegun, IsBeginRefused}
use Rattle.array_grow.proofs.array_fixed_sync_Lowest.{lowest-found}
use Rattle.array_grow.specs.array_transition_Ended.{IsEndedWith}
use Rattle.array_takeover.specs.TakenOver.{IsTakeoverNext, IsTakenWith, IsUntaken}
use Rattle.array.specs.Calls.{IsPhaseRefused, MayEndAtRest, MayEndSteps, IsRefusedInStep}
use Rattle.array.proofs.Closed.{why-of, ended-closes, taken-closes}

-- ---- by the state

pub ends-still : {B : Type 0} (array : RunningParts B) (refusal : Refusal) → is_reshaping array.parts.members.newest ≡ false → MayEndAtRest array.parts.work array.parts.members (phases_of array.ahead) refusal → MayEndSteps array refusal
ends-still array refusal still why =
    subst (λ (b : Bool). MatchBool b (IsEndedInReshape array.parts.work array.parts.members refusal) (MayEndAtRest array.parts.work array.parts.members (phases_of array.ahead) refusal)) (sym still) why

pub ends-moving : {B : Type 0} (array : RunningParts B) (refusal : Refusal) → is_reshaping array.parts.members.newest ≡ true → IsEndedInReshape array.parts.work array.parts.members refusal → MayEndSteps array refusal
ends-moving array refusal active why =
    subst (λ (b : Bool). MatchBool b (IsEndedInReshape array.parts.work array.parts.members refusal) (MayEndAtRest array.parts.work array.parts.members (phases_of array.ahead) refusal)) (sym active) why

-- ---- a step without a reshape

undone-ends : (old new : Work) (before after : Members) (ahead : PhasesLeft) (refusal : Refusal) → new ≡ old → IsUndone old before after refusal → MayEndAtRest new after (phases_of ahead) refusal
undone-ends old new before after ahead refusal same why = inl (by old.resync refl why)
  where
    pending : {P : Type 0} (mended : ℕ) → old.resync ≡ Some mended → new.resync ≡ None → P
    pending mended is none = absurd (let both : ◌≡◌ {A = Option ℕ} (Some mended) None = sym is ∙ (sym (ap (λ (w : Work). w.resync) same) ∙ none) in cc)

    ended : (mended : ℕ) → old.resync ≡ Some mended → (b : Bool) → IsUnsynced b after refusal → IsEndedRight new after refusal
    ended mended is true many = (inl many, λ none. many)
    ended mended is false lacked = (lacked, λ none. pending mended is none)

    by : (o : Option ℕ) → old.resync ≡ o → MatchOption o (AreTooMany after refusal) (λ mended. IsUnsynced (is_at_end old.resync before) after refusal) → IsEndedRight new after refusal
    by None is many = (inl many, λ none. many)
    by (Some mended) is lacked = ended mended is (is_at_end old.resync before) lacked

pub own-refused : {B T : Type 0} (old new : RunningParts B) (result : Result T Fault) → is_reshaping new.parts.members.newest ≡ false → result ≢ Err NoMemory
    → new.parts.work ≡ by_answer result (after_step old.parts.work old.parts.members) old.parts.work
    → IsCausedBy (list_length old.parts.members.newest) 0 (IsUndone old.parts.work old.parts.members) old.parts.members new.parts.members result → IsRefusedInStep new result
own-refused old new (Ok x) still memory work caused = tt
own-refused old new (Err (IsRefusedWith refusal)) still memory work caused =
    ends-still new refusal still
    (undone-ends old.parts.work new.parts.work old.parts.members new.parts.members new.ahead refusal work
    (why-of (list_length old.parts.members.newest) (IsUndone old.parts.work old.parts.members) old.parts.members new.parts.members refusal caused))
own-refused old new (Err NoMemory) still memory work caused = memory refl

-- ---- a step in one

-- a stripe is mended only where a resync is pending
mend-pending : (newest : Sb) (window : Window) (cleared : ℕ) (resync : Option ℕ) → due_in newest window cleared resync ≡ Mend → (mended : ℕ) × (resync ≡ Some mended)
mend-pending newest window cleared (Some mended) is = (mended, refl)
mend-pending newest window cleared None is = absurd (never window is)
  where
    between : (a b : Bool) → (if a then Enter else if b then Zero else Finish) ≡ Mend → ⊥
    between true b e = absurd (cc)
    between false true e = absurd (cc)
    between false false e = absurd (cc)

    entered : (b : Bool) → (if b then Copy else Record) ≡ Mend → ⊥
    entered true e = absurd (cc)
    entered false e = absurd (cc)

    never : (window : Window) → due_in newest window cleared None ≡ Mend → ⊥
    never Closed e = between (is_some (next_window newest)) (nat_lt cleared (zeroed_by newest)) e
    never (Entered span copied sectioned) e = entered (nat_lt copied (stripes_in newest span)) e
    never (Unsure span) e = between (is_some (next_window newest)) (nat_lt cleared (zeroed_by newest)) e

-- its shape is one in force
mend-force : (newest : Sb) (mended : ℕ) → IsInForce newest (resync_shape newest mended)
mend-force newest mended = by (nat_lt mended (low_stripes newest))
  where
    by : (b : Bool) → let stripe : Stripe = if b then record { shape = low_shape newest; at = mended } else record { shape = high_shape newest; at = high_stripe newest + (mended - low_stripes newest) } in IsInForce newest stripe.shape
    by true = for-both (λ s. IsInForce newest s) newest (inl refl) (inr refl) 0
    by false = for-both (λ s. IsInForce newest s) newest (inl refl) (inr refl) (low_end newest)

force-on : (old new : Sb) (shape : Shape) → shape_of new ≡ shape_of old → final_shape new ≡ final_shape old → IsInForce old shape → IsInForce new shape
force-on old new shape first final (inl is) = inl (is ∙ sym first)
force-on old new shape first final (inr is) = inr (is ∙ sym final)

module _ {B : Type 0} (T : Type 0) (old new : RunningParts B) (shape : shape_of new.parts.members.newest ≡ shape_of old.parts.members.newest) (final : final_shape new.parts.members.newest ≡ final_shape old.parts.members.newest)
    (f g : ℕ → ℕ) (refusal : Refusal) (resync : new.parts.work.resync ≡ old.parts.work.resync) where
  due-ends : (due : Due) → due_of old.parts.members.newest old.course old.parts.work.resync ≡ due
      → IsStepCaused {T = T} due old.parts.work.resync old.parts.backup old.parts.members new.parts.members f g (Err (IsRefusedWith refusal)) → IsEndedInReshape new.parts.work new.parts.members refusal
  due-ends Enter is (inl many) = inl many
  due-ends Enter is (inr fault) = inr (inr fault.0)
  due-ends Mend is caused =
      let pending = mend-pending old.parts.members.newest old.course.window old.course.zeroed old.parts.work.resync is in
      of pending.0 pending.1 (why-of (list_length old.parts.members.newest) (IsNotSynced (resync_shape old.parts.members.newest pending.0)) old.parts.members new.parts.members refusal (caused pending.0 pending.1))
    where
      of : (mended : ℕ) → old.parts.work.resync ≡ Some mended → IsNotSynced (resync_shape old.parts.members.newest mended) new.parts.members refusal → IsEndedInReshape new.parts.work new.parts.members refusal
      of mended waits (inl many) = inl many
      of mended waits (inr (able, lacked)) =
          inr (inl (
            ap (λ (o : Option ℕ). is_some o) (resync ∙ waits),
            resync_shape old.parts.members.newest mended,
            force-on old.parts.members.newest new.parts.members.newest (resync_shape old.parts.members.newest mended) shape final (mend-force old.parts.members.newest mended),
            lacked,
          ))
  due-ends Copy is caused = inl (why-of (list_length old.parts.members.newest) AreTooMany old.parts.members new.parts.members refusal caused)
  due-ends Record is caused = inl (why-of (list_length old.parts.members.newest) AreTooMany old.parts.members new.parts.members refusal caused)
  due-ends EndResync is caused = inl (why-of (list_length old.parts.members.newest) AreTooMany old.parts.members new.parts.members refusal caused)
  due-ends Zero is caused = inl (why-of (list_length old.parts.members.newest) AreTooMany old.parts.members new.parts.members refusal caused)
  due-ends Finish is caused = inl (why-of (list_length old.parts.members.newest) AreTooMany old.parts.members new.parts.members refusal caused)

pub moved-refused : {B T : Type 0} (f g : ℕ → ℕ) (kind : StepKind) (old new : RunningParts B) (who : Who) (left : ℕ) (result : Result T Fault) → is_reshaping new.parts.members.newest ≡ true
    → shape_of new.parts.members.newest ≡ shape_of old.parts.members.newest → final_shape new.parts.members.newest ≡ final_shape old.parts.members.newest
    → new.parts.work ≡ record old.parts.work { resync = by_answer result (resync_behind (due_of old.parts.members.newest old.course old.parts.work.resync) old.parts.work.resync) old.parts.work.resync }
    → IsStepTaken who old.parts.entries new.parts.entries kind left result
    → IsStepCaused (due_of old.parts.members.newest old.course old.parts.work.resync) old.parts.work.resync old.parts.backup old.parts.members new.parts.members f g result → IsRefusedInStep new result
moved-refused f g kind old new who left (Ok x) active shape final work entered caused = tt
moved-refused {T = T} f g kind old new who left (Err (IsRefusedWith refusal)) active shape final work entered caused =
    ends-moving new refusal active
    (due-ends T old new shape final f g refusal (ap (λ (w : Work). w.resync) work) (due_of old.parts.members.newest old.course old.parts.work.resync) refl caused)
moved-refused f g kind old new who left (Err NoMemory) active shape final work entered caused = entered

-- ---- a reshape that doesn't begin

-- what was left to do is left to do still
left-at : (old new : Work) (before after : Members) → new ≡ old → after ≡ before → left_of old before ≡ 0 → left_of new after ≡ 0
left-at old new before after work members done = ap (λ (p : Work × Members). left_of p.0 p.1) (λ i. (work i, members i)) ∙ done

-- so it is of the phases of an array with the same members
refused-at : (before after : Members) (old new : PhasesLeft) (phase : Phase) (more : List Phase) (refusal : Refusal) → after ≡ before → new ≡ old → phases_of old ≡ phase ∷ more → IsPhaseRefused before (phase ∷ more) refusal
    → IsPhaseRefused after (phases_of new) refusal
refused-at before after old new phase more refusal members ahead next why =
    subst (λ (m : Members). IsPhaseRefused m (phases_of new) refusal) (sym members) (subst (λ (l : List Phase). IsPhaseRefused before l refusal) (sym (ap phases_of ahead ∙ next)) why)

pub begin-refused : {B : Type 0} (f g : ℕ → ℕ) (to : Shape) (more : List Phase) (old new : RunningParts B) (refusal : Refusal) → is_reshaping new.parts.members.newest ≡ false → new.parts.members ≡ old.parts.members → new.parts.work ≡ old.parts.work
    → left_of old.parts.work old.parts.members ≡ 0 → new.ahead ≡ old.ahead → phases_of old.ahead ≡ Reshape to ∷ more → IsBeginRefused f g to refusal old new → MayEndSteps new refusal
begin-refused f g to more old new refusal still members work done ahead next why = ends-still new refusal still (inr (
  left-at old.parts.work new.parts.work old.parts.members new.parts.members work members done,
  refused-at old.parts.members new.parts.members old.ahead new.ahead (Reshape to) more refusal members ahead next (by why),
))
  where
    by : IsBeginRefused f g to refusal old new → IsPhaseRefused old.parts.members (Reshape to ∷ more) refusal
    by (inl (unbegun, bank)) = inl unbegun
    by (inr (can, told, fault)) = inr told

-- ---- a takeover that isn't done

pub take-refused : {B : Type 0} (to : Shape) (more : List Phase) (old new : RunningParts B) (refusal : Refusal) → is_reshaping new.parts.members.newest ≡ false → new.parts.members ≡ old.parts.members → new.parts.work ≡ old.parts.work
    → left_of old.parts.work old.parts.members ≡ 0 → new.ahead ≡ old.ahead → IsTakeoverNext (phases_of old.ahead) to more → IsUntaken old.parts.members to refusal → MayEndSteps new refusal
take-refused to more old new refusal still members work done ahead next why = ends-still new refusal still (inr (
  left-at old.parts.work new.parts.work old.parts.members new.parts.members work members done,
  by next,
))
  where
    by : IsTakeoverNext (phases_of old.ahead) to more → IsPhaseRefused new.parts.members (phases_of new.ahead) refusal
    by (inl up) = refused-at old.parts.members new.parts.members old.ahead new.ahead (UpTo6 to) more refusal members ahead up why
    by (inr down) = refused-at old.parts.members new.parts.members old.ahead new.ahead (DownTo5 to) more refusal members ahead down why

-- ---- what a missing role ends

-- steps that ended for a role did so for the lowest that is missing now
pub degraded-missing : {B : Type 0} (array : RunningParts B) (role : ℕ) → MayEndSteps array (Degraded role) → (role < role_count array.parts.members.newest) × (is_missing (reading_of array.parts.members) role ≡ true)
degraded-missing array role may =
    lowest-found (role_count array.parts.members.newest) (is_missing (reading_of array.parts.members)) role (by (is_reshaping array.parts.members.newest) may)
  where
    Lowest : Type 0
    Lowest = lowest_missing array.parts.members ≡ Some role

    many : AreTooMany array.parts.members (Degraded role) → Lowest
    many (inl is) = absurd (let e = is.told in cc)
    many (inr is) = absurd (let e = is.1.told in cc)

    unsynced : (shape : Shape) → IsNotResynced shape false array.parts.members (Degraded role) → Lowest
    unsynced shape is = absurd (let e = is.1 in cc)

    same : (r : ℕ) → lowest_missing array.parts.members ≡ Some r → Degraded role ≡ Degraded r → Lowest
    same r lowest told = lowest ∙ (let e : r ≡ role = cc in ap (λ (n : ℕ). Some n) e)

    unbegun : (to : Shape) → IsUnbegun array.parts.members to (Degraded role) → Lowest
    unbegun to (inl (r, lowest, told)) = same r lowest told
    unbegun to (inr (whole, few, told)) = absurd (let e = told in cc)

    untaken : (to : Shape) → IsUntaken array.parts.members to (Degraded role) → Lowest
    untaken to (inl (r, lowest, told)) = same r lowest told
    untaken to (inr (whole, six, none, told)) = absurd (let e = told in cc)

    phase : (l : List Phase) → IsPhaseRefused array.parts.members l (Degraded role) → Lowest
    phase [] was = absurd was
    phase (Reshape to ∷ more) (inl was) = unbegun to was
    phase (Reshape to ∷ more) (inr told) = absurd (let e = told in cc)
    phase (UpTo6 to ∷ more) was = untaken to was
    phase (DownTo5 to ∷ more) was = untaken to was

    rest : MayEndAtRest array.parts.work array.parts.members (phases_of array.ahead) (Degraded role) → Lowest
    rest (inl (inl is, lacks)) = many is
    rest (inl (inr is, lacks)) = unsynced (shape_of array.parts.members.newest) is
    rest (inr (idle, why)) = phase (phases_of array.ahead) why

    moving : IsEndedInReshape array.parts.work array.parts.members (Degraded role) → Lowest
    moving (inl is) = many is
    moving (inr (inl is)) = unsynced is.1 is.3
    moving (inr (inr told)) = absurd (let e = told in cc)

    by : (b : Bool) → MatchBool b (IsEndedInReshape array.parts.work array.parts.members (Degraded role)) (MayEndAtRest array.parts.work array.parts.members (phases_of array.ahead) (Degraded role)) → Lowest
    by true is = moving is
    by false is = rest is

-- ---- a reshape that ended, and a takeover that is done

-- where none is left behind it, it closed the plans
pub closable-ended : {B : Type 0} {who : Who} {before size : ℕ} {was later : Members} {old : List Entry} (new : RunningParts B)
    → IsEndedWith who before size was later old new.parts.entries (still_left new.parts.work new.parts.members new.ahead) → IsClosable new
closable-ended new is none = inl (ended-closes new is none)

pub closable-taken : {B : Type 0} {who : Who} {plan later : Members} {old : List Entry} (new : RunningParts B) → IsTakenWith who plan later old new.parts.entries (still_left new.parts.work new.parts.members new.ahead) → IsClosable new
closable-taken new is none = inl (taken-closes new is none)
