-- The answer to a request for steps, by the state, and what is next to do.
use Rattle.std.proofs.Common.{◌≡◌, ◌≢◌, inl, inr, ℕ, ◌<◌, Bool, true, false, cond, Option, Some, None, List, [], ◌∷◌, refl, sym, ◌∙◌, ap, subst, arith}
use Rattle.std.specs.Prelude.{MatchBool, MatchOption, ⊤}
use Rattle.array_grow.specs.raid_types_the_Refusal.{Refusal}
use Rattle.array_grow.specs.raid_types_the_Refusal_TheVariants.{Nothing}
use Rattle.array_grow.specs.raid_types_the_Who.{Who}
use Rattle.array_grow.specs.raid_types_the_Shape.{Shape}
use Rattle.array_grow.specs.raid_types_the_Phase.{Phase}
use Rattle.array_grow.specs.raid_types_the_Phase_TheVariants.{Reshape, UpTo6, DownTo5}
use Rattle.array_takeover.specs.reshape_plan_Plans.{phases_steps}
use Rattle.array_grow.specs.bank_the_Operation.{Operation}
use Rattle.array_grow.specs.bank_Given.{Given}
use Rattle.array_takeover.specs.sb_specs_the_Members.{Members}
use Rattle.array_takeover.specs.sb_specs_Reading.{is_reshaping, shape_of}
use Rattle.array_takeover.specs.sb_specs_Reads.{has_spare}
use Rattle.array_takeover.specs.history_the_Event.{Event}
use Rattle.array_takeover.specs.history_the_Event_TheVariants.{Refused, Stepped}
use Rattle.array_takeover.specs.history_Plain.{entries_of}
use Rattle.array_grow.specs.array_members_Rebuilding.{Held}
use Rattle.array_grow.specs.array_members_Status.{left_of}
use Rattle.array_grow.specs.array_members_the_Work.{Work}
use Rattle.array_takeover.specs.reshape_request_the_PhasesLeft.{PhasesLeft}
use Rattle.array_takeover.specs.reshape_request_Left.{phases_of}
use Rattle.array_grow.proofs.Idle.{some-steps}
use Rattle.array_grow.specs.array_specs_Parts.{RunningParts, left_in, still_left}
use Rattle.array_grow.specs.array_specs_Calls.{IsCalled}
use Rattle.array_grow.specs.array_reply_specs_Going.{HasNoReshape}
use Rattle.array_grow.specs.array_fixed_laws_Steps.{IsStepped, RefusesBegin, MayEndNow, IsStepsReplyNow}
use Rattle.array_grow.proofs.array_fixed_laws_PlansKept.{PlanNone}
use Rattle.array_grow.specs.array_reshaping_steps_Replies.{IsEndedInReshape, IsReplyInReshape}
use Rattle.array_grow.specs.array_transition_Begun.{IsUnbegun}
use Rattle.array_takeover.specs.TakenOver.{IsUntaken}
use Rattle.array.specs.Calls.{running_left, IsNext, IsPhaseRefused, MayEndAtRest, MayEndSteps, IsReplyNow}
use Rattle.array.specs.declared.state.choosing.Next.{Next}
use Rattle.array.specs.declared.state.choosing.Next.TheVariants as next
use Rattle.array.proofs.Checked.{some-of}

-- ---- by the state

pub left-still : {B : Type 0} (array : RunningParts B) → is_reshaping array.parts.members.newest ≡ false → running_left array ≡ still_left array.parts.work array.parts.members array.ahead
left-still array still = ap (λ (b : Bool). cond b (left_in array.parts.work array.parts.members array.course array.ahead) (still_left array.parts.work array.parts.members array.ahead)) still

pub left-moving : {B : Type 0} (array : RunningParts B) → is_reshaping array.parts.members.newest ≡ true → running_left array ≡ left_in array.parts.work array.parts.members array.course array.ahead
left-moving array active = ap (λ (b : Bool). cond b (left_in array.parts.work array.parts.members array.course array.ahead) (still_left array.parts.work array.parts.members array.ahead)) active

-- a phase that can't be done refuses what the begin of one may
phase-now : (m : Members) (phases : List Phase) (refusal : Refusal) → IsPhaseRefused m phases refusal → RefusesBegin refusal × (phases ≢ [])
phase-now m phases refusal why = by phases why
  where
    some : (phase : Phase) (more : List Phase) → (phase ∷ more) ≢ []
    some phase more none = absurd (let e : ◌≡◌ {A = List Phase} [] (phase ∷ more) = sym none in cc)

    unbegun : (to : Shape) → IsUnbegun m to refusal → RefusesBegin refusal
    unbegun to (inl (role, lowest, told)) = subst RefusesBegin (sym told) tt
    unbegun to (inr (whole, few, told)) = subst RefusesBegin (sym told) tt

    untaken : (to : Shape) → IsUntaken m to refusal → RefusesBegin refusal
    untaken to (inl (role, lowest, told)) = subst RefusesBegin (sym told) tt
    untaken to (inr (whole, six, none, told)) = subst RefusesBegin (sym told) tt

    by : (l : List Phase) → IsPhaseRefused m l refusal → RefusesBegin refusal × (l ≢ [])
    by [] was = absurd was
    by (Reshape to ∷ more) (inl was) = (unbegun to was, some (Reshape to) more)
    by (Reshape to ∷ more) (inr told) = (subst RefusesBegin (sym told) tt, some (Reshape to) more)
    by (UpTo6 to ∷ more) was = (untaken to was, some (UpTo6 to) more)
    by (DownTo5 to ∷ more) was = (untaken to was, some (DownTo5 to) more)

pub now-of : (work : Work) (m : Members) (ahead : PhasesLeft) (refusal : Refusal) → MayEndAtRest work m (phases_of ahead) refusal → MayEndNow work m ahead refusal
now-of work m ahead refusal (inl right) = inl right
now-of work m ahead refusal (inr (done, why)) = inr (phase-now m (phases_of ahead) refusal why)

module _ {B : Type 0} (array : RunningParts B) where
  may-still : is_reshaping array.parts.members.newest ≡ false → (ended : Option Refusal) → MatchOption ended ⊤ (MayEndSteps array) → MatchOption ended ⊤ (MayEndNow array.parts.work array.parts.members array.ahead)
  may-still still None may = tt
  may-still still (Some refusal) may = now-of array.parts.work array.parts.members array.ahead refusal
      (subst (λ (b : Bool). MatchBool b (IsEndedInReshape array.parts.work array.parts.members refusal) (MayEndAtRest array.parts.work array.parts.members (phases_of array.ahead) refusal)) still may)

  may-moving : is_reshaping array.parts.members.newest ≡ true → (ended : Option Refusal) → MatchOption ended ⊤ (MayEndSteps array) → MatchOption ended ⊤ (IsEndedInReshape array.parts.work array.parts.members)
  may-moving active None may = tt
  may-moving active (Some refusal) may =
      subst (λ (b : Bool). MatchBool b (IsEndedInReshape array.parts.work array.parts.members refusal) (MayEndAtRest array.parts.work array.parts.members (phases_of array.ahead) refusal)) active may

  pub reply-still : (event : Event) → is_reshaping array.parts.members.newest ≡ false → IsReplyNow array event → IsStepsReplyNow array.parts.work array.parts.members array.ahead event
  reply-still (Refused Nothing) still reply = sym (left-still array still) ∙ reply
  reply-still (Stepped done left ended) still reply = (reply.0 ∙ left-still array still, may-still still ended reply.1)
  reply-still event still reply = absurd reply

  pub reply-moving : (event : Event) → is_reshaping array.parts.members.newest ≡ true → 0 < left_in array.parts.work array.parts.members array.course array.ahead → IsReplyNow array event
      → IsReplyInReshape array.parts.work array.parts.members array.course array.ahead event
  reply-moving (Refused Nothing) active some reply = absurd (let none = sym (left-moving array active) ∙ reply in omega (arith, some, none))
  reply-moving (Stepped done left ended) active some reply = (reply.0 ∙ left-moving array active, may-moving active ended reply.1)
  reply-moving event active some reply = absurd reply

  -- it is no plan
  pub reply-none : (event : Event) → IsReplyNow array event → (who : Who) (end : ℕ) → PlanNone (entries_of who end (event ∷ []))
  reply-none (Refused Nothing) reply who end = refl
  reply-none (Stepped done left ended) reply who end = refl
  reply-none event reply who end = absurd reply

-- what it leaves without a reshape is what each call does
pub answered-called : {B tells : Type 0} {given : Given} {tape tape' : List Operation} {f g : ℕ → ℕ} (old new : RunningParts B) → IsStepped tells given tape tape' (Held old.parts.members) f g old new
    → new.parts.members ≡ old.parts.members → new.parts.work ≡ old.parts.work → IsCalled tells given tape tape' f g old new
answered-called old new did members work = record {
  grows = did.grows;
  ended = did.ended;
  held = λ role slot held. subst (λ (m : Members). Held m role slot) members held;
  spares = λ slot is. subst (λ (m : Members). has_spare m.spares slot ≡ true) members is;
  losses = did.losses;
  never_falls = did.never_falls;
  work = work;
  same = did.same;
}

-- ---- where no step is left

pub moving-left : {B : Type 0} (array : RunningParts B) {F : Type 0} → is_reshaping array.parts.members.newest ≡ true → 0 < left_in array.parts.work array.parts.members array.course array.ahead → running_left array ≡ 0 → F
moving-left array active some none = absurd (let same = left-moving array active in omega (arith, same, some, none))

-- neither is there a phase ahead
pub rest-left : {B : Type 0} (array : RunningParts B) → is_reshaping array.parts.members.newest ≡ false → running_left array ≡ 0 → HasNoReshape array
rest-left array still none = record { active = still; ahead = by (phases_of array.ahead) refl }
  where
    unplanned : phases_steps (shape_of array.parts.members.newest) array.parts.members.newest.size (phases_of array.ahead) ≡ 0
    unplanned = let left = left-still array still in omega (arith, left, none)

    by : (phases : List Phase) → phases_of array.ahead ≡ phases → phases ≡ []
    by [] is = refl
    by (phase ∷ rest) is = absurd (let some = some-steps (shape_of array.parts.members.newest) array.parts.members.newest.size (phases_of array.ahead) rest phase (sym is) in omega (arith, some, unplanned))

-- ---- what is next

-- in a reshape some are left
pub moving-some : {B : Type 0} (array : RunningParts B) → is_reshaping array.parts.members.newest ≡ true → left_in array.parts.work array.parts.members array.course array.ahead ≢ 0 → 0 < running_left array
moving-some array active some = some-of (running_left array) (λ none. some (sym (left-moving array active) ∙ none))

-- so where some are of what is under way without one, or where a phase is ahead
pub still-some : {B : Type 0} (array : RunningParts B) → is_reshaping array.parts.members.newest ≡ false → 0 < still_left array.parts.work array.parts.members array.ahead → 0 < running_left array
still-some array still some = subst (λ (n : ℕ). 0 < n) (sym (left-still array still)) some

pub own-some : (work : Work) (m : Members) (ahead : PhasesLeft) → 0 < left_of work m → 0 < still_left work m ahead
own-some work m ahead some = omega (arith, some)

pub ahead-some : (work : Work) (m : Members) (ahead : PhasesLeft) (phase : Phase) (more : List Phase) → phases_of ahead ≡ phase ∷ more → 0 < still_left work m ahead
ahead-some work m ahead phase more is = let some = some-steps (shape_of m.newest) m.newest.size (phases_of ahead) more phase (sym is) in omega (arith, some)

-- none is where nothing is under way and nothing ahead
pub nothing-left : {B : Type 0} (array : RunningParts B) → is_reshaping array.parts.members.newest ≡ false → left_of array.parts.work array.parts.members ≡ 0 → phases_of array.ahead ≡ [] → running_left array ≡ 0
nothing-left array still own none =
    let planned : phases_steps (shape_of array.parts.members.newest) array.parts.members.newest.size (phases_of array.ahead) ≡ 0 = ap (λ (l : List Phase). phases_steps (shape_of array.parts.members.newest) array.parts.members.newest.size l) none in
    left-still array still ∙ omega (arith, own, planned)

-- so it is told
module _ {B : Type 0} (array : RunningParts B) (still : is_reshaping array.parts.members.newest ≡ false) where
  pub next-none : left_of array.parts.work array.parts.members ≡ 0 → phases_of array.ahead ≡ [] → (n : Next) → n ≡ next.Nothing → IsNext array n
  next-none own none n is = subst (λ (x : Next). IsNext array x) (sym is) (nothing-left array still own none)

  pub next-begin : left_of array.parts.work array.parts.members ≡ 0 → (to : Shape) (phase : Phase) (more : List Phase) → phases_of array.ahead ≡ phase ∷ more → phase ≡ Reshape to → (n : Next) → n ≡ next.Begin to → IsNext array n
  next-begin own to phase more ahead first n is = subst (λ (x : Next). IsNext array x) (sym is) ((still, own), more, ahead ∙ ap (λ (p : Phase). p ∷ more) first)

  pub next-up : left_of array.parts.work array.parts.members ≡ 0 → (to : Shape) (phase : Phase) (more : List Phase) → phases_of array.ahead ≡ phase ∷ more → phase ≡ UpTo6 to → (n : Next) → n ≡ next.Take to → IsNext array n
  next-up own to phase more ahead first n is = subst (λ (x : Next). IsNext array x) (sym is) ((still, own), more, inl (ahead ∙ ap (λ (p : Phase). p ∷ more) first))

  pub next-down : left_of array.parts.work array.parts.members ≡ 0 → (to : Shape) (phase : Phase) (more : List Phase) → phases_of array.ahead ≡ phase ∷ more → phase ≡ DownTo5 to → (n : Next) → n ≡ next.Take to → IsNext array n
  next-down own to phase more ahead first n is = subst (λ (x : Next). IsNext array x) (sym is) ((still, own), more, inr (ahead ∙ ap (λ (p : Phase). p ∷ more) first))

  pub some-own : 0 < left_of array.parts.work array.parts.members → 0 < running_left array
  some-own some = still-some array still (own-some array.parts.work array.parts.members array.ahead some)

  pub some-ahead : (phase : Phase) (more : List Phase) → phases_of array.ahead ≡ phase ∷ more → 0 < running_left array
  some-ahead phase more ahead = still-some array still (ahead-some array.parts.work array.parts.members array.ahead phase more ahead)
