-- Why a step is refused: each refusal may end a request for steps, and has its cause.
use Rattle.std.proofs.Common.{◌≡◌, ◌≢◌, inl, inr, ℕ, Bool, true, false, cond, Option, Some, None, List, [], ◌∷◌, Err, MatchBool, refl, sym, ◌∙◌, ap, subst, arith}
use Rattle.std.specs.Prelude.{nat_lt, is_some, IfSome, IsSome, MatchOption, ⊤}
use Rattle.array.specs.raid_types_the_Fault_TheVariants.{Refused as IsRefusedWith}
use Rattle.array.specs.raid_types_the_Refusal.{Refusal}
use Rattle.array.specs.raid_types_the_Refusal_TheVariants.{PastEnd, TooManyMissing, NotResynced, BackupFault}
use Rattle.array.specs.raid_types_the_Phase.{Phase}
use Rattle.array.specs.raid_types_the_Phase_TheVariants.{Reshape, UpTo6, DownTo5}
use Rattle.array.specs.raid_types_the_Shape.{Shape}
use Rattle.array.specs.bank_Given.{IsFaulted}
use Rattle.array.specs.sb_codec_the_Sb.{Sb}
use Rattle.array.specs.sb_specs_the_Members.{Members}
use Rattle.array.specs.sb_specs_Reading.{is_reshaping, shape_of, next_window}
use Rattle.array.specs.array_members_the_Work.{Work}
use Rattle.array.specs.array_members_Lacking.{AreTooMany, IsNotResynced}
use Rattle.array.specs.array_call_specs_Calls.{IsRefusedFor, IsUnmendable}
use Rattle.array.specs.reshape_request_the_Window.{Window}
use Rattle.array.specs.reshape_request_the_Window_TheVariants.{Closed, Entered, Unsure}
use Rattle.array.specs.reshape_request_the_PhasesLeft.{PhasesLeft}
use Rattle.array.specs.reshape_request_Left.{stripes_in, zeroed_by, phases_of}
use Rattle.array.specs.stripe_region_resync_Resyncs.{resync_shape, IsNotSynced}
use Rattle.array.specs.reshape_progress_the_Course.{Course}
use Rattle.array.specs.array_reshaping_state_Due.{due_in, due_of}
use Rattle.array.specs.array_reshaping_state_the_Due.{Due}
use Rattle.array.specs.array_reshaping_state_the_Due_TheVariants.{Copy, Record, Mend, Enter, Zero, Finish}
use Rattle.array.specs.array_specs_Parts.{RunningParts}
use Rattle.array.specs.array_reshaping_laws_Steps.{IsStepCaused}
use Rattle.array.specs.array_fixed_sync_Stepping.{IsUndone}
use Rattle.array.proofs.array_fixed_sync_NextLaws.{undone-unwritten}
use Rattle.array.specs.array_reply_specs_Replies.{EndsRunningSteps, MayEndBy, IsRefusalBy}
use Rattle.array.specs.array_transition_Begun.{IsUnbegun}
use Rattle.array.specs.array_takeover_TakenOver.{IsUntaken}
use Rattle.array.proofs.array_reply_specs_Fitting.{end-more}
use Rattle.array.specs.array_reshaping_steps_Replies.{IsEndedInReshape}
use Rattle.array.specs.Calls.{IsPhaseRefused, MayEndAtRest, MayEndSteps}

-- a fact of each refusal that tells what is missing holds of one for too many roles
pub many-so : (P : Refusal → Type 0) → ((count most : ℕ) → P (TooManyMissing count most)) → (m : Members) (refusal : Refusal) → AreTooMany m refusal → P refusal
many-so P so m refusal (inl many) = subst P (sym many.told) (so _ _)
many-so P so m refusal (inr many) = subst P (sym many.1.told) (so _ _)

unsynced-so : (P : Refusal → Type 0) → ((role : ℕ) → P (NotResynced role)) → (shape : Shape) (synced : Bool) (m : Members) (refusal : Refusal) → IsNotResynced shape synced m refusal → P refusal
unsynced-so P so shape synced m refusal was = subst P (sym was.1) (so was.0)

-- what may refuse a step without a reshape that is no begin
unmendable-so : (P : Refusal → Type 0) → ((count most : ℕ) → P (TooManyMissing count most)) → ((role : ℕ) → P (NotResynced role)) → (m : Members) (refusal : Refusal) → IsUnmendable m refusal → P refusal
unmendable-so P many unsynced m refusal (inl is) = many-so P many m refusal is
unmendable-so P many unsynced m refusal (inr is) = unsynced-so P unsynced (shape_of m.newest) false m refusal is

caused-why : (why : Members → Refusal → Type 0) (visible : ℕ) (old new : Members) (refusal : Refusal) → IsRefusedFor visible 0 why old new refusal → why new refusal
caused-why why visible old new (PastEnd told) was = absurd (omega (arith, was.1))
caused-why why visible old new refusal was = was.1

pub own-ends : (visible : ℕ) (work : Work) (old new : Members) (refusal : Refusal) → IsRefusedFor visible 0 (IsUndone work old) old new refusal → EndsRunningSteps refusal
own-ends visible work old new refusal was =
    unmendable-so EndsRunningSteps (λ count most. tt) (λ role. tt) new refusal (undone-unwritten work old new refusal (caused-why (IsUndone work old) visible old new refusal was))

pub own-cause : (visible : ℕ) (work : Work) (old new : Members) (refusal : Refusal) (backup : Option ℕ) (before now : ℕ → ℕ) → IsRefusedFor visible 0 (IsUndone work old) old new refusal → IsRefusalBy backup before now refusal
own-cause visible work old new refusal backup before now was =
    unmendable-so (IsRefusalBy backup before now) (λ count most. tt) (λ role. tt) new refusal (undone-unwritten work old new refusal (caused-why (IsUndone work old) visible old new refusal was))

-- what may refuse a step in a reshape
reshape-so : (P : Refusal → Type 0) → ((count most : ℕ) → P (TooManyMissing count most)) → ((role : ℕ) → P (NotResynced role)) → P BackupFault → (work : Work) (m : Members) (refusal : Refusal) → IsEndedInReshape work m refusal → P refusal
reshape-so P many unsynced backup work m refusal (inl is) = many-so P many m refusal is
reshape-so P many unsynced backup work m refusal (inr (inl is)) = unsynced-so P unsynced is.1 false m refusal is.3
reshape-so P many unsynced backup work m refusal (inr (inr is)) = subst P (sym is) backup

chosen : (b : Bool) (A C : Type 0) → b ≡ true → MatchBool b A C → A
chosen true A C is fact = fact
chosen false A C is fact = absurd (cc)

ended-in : {B : Type 0} (array : RunningParts B) (refusal : Refusal) → is_reshaping array.parts.members.newest ≡ true → MayEndSteps array refusal → IsEndedInReshape array.parts.work array.parts.members refusal
ended-in array refusal active may = chosen (is_reshaping array.parts.members.newest) (IsEndedInReshape array.parts.work array.parts.members refusal) _ active may

pub moved-ends : {B : Type 0} (array : RunningParts B) (refusal : Refusal) → is_reshaping array.parts.members.newest ≡ true → MayEndSteps array refusal → EndsRunningSteps refusal
moved-ends array refusal active may = reshape-so EndsRunningSteps (λ count most. tt) (λ role. tt) tt array.parts.work array.parts.members refusal (ended-in array refusal active may)

-- ---- what may have ended steps only in a reshape, or where phases are ahead

phase-by : (Active : Type 0) (m : Members) (phases : List Phase) (refusal : Refusal) → IsPhaseRefused m phases refusal → MayEndBy Active (phases ≢ []) refusal
phase-by Active m phases refusal why = by phases why
  where
    some : (phase : Phase) (more : List Phase) → (phase ∷ more) ≢ []
    some phase more none = absurd (let e : ◌≡◌ {A = List Phase} [] (phase ∷ more) = sym none in cc)

    unbegun : (l : List Phase) (to : Shape) → l ≢ [] → IsUnbegun m to refusal → MayEndBy Active (l ≢ []) refusal
    unbegun l to some (inl (role, lowest, told)) = subst (MayEndBy Active (l ≢ [])) (sym told) some
    unbegun l to some (inr (whole, few, told)) = subst (MayEndBy Active (l ≢ [])) (sym told) some

    untaken : (l : List Phase) (to : Shape) → l ≢ [] → IsUntaken m to refusal → MayEndBy Active (l ≢ []) refusal
    untaken l to some (inl (role, lowest, told)) = subst (MayEndBy Active (l ≢ [])) (sym told) some
    untaken l to some (inr (whole, six, none, told)) = subst (MayEndBy Active (l ≢ [])) (sym told) some

    by : (l : List Phase) → IsPhaseRefused m l refusal → MayEndBy Active (l ≢ []) refusal
    by [] was = absurd was
    by (Reshape to ∷ more) (inl was) = unbegun (Reshape to ∷ more) to (some (Reshape to) more) was
    by (Reshape to ∷ more) (inr told) = subst (MayEndBy Active ((Reshape to ∷ more) ≢ [])) (sym told) (inr (some (Reshape to) more))
    by (UpTo6 to ∷ more) was = untaken (UpTo6 to ∷ more) to (some (UpTo6 to) more) was
    by (DownTo5 to ∷ more) was = untaken (DownTo5 to ∷ more) to (some (DownTo5 to) more) was

now-by : (Active : Type 0) (work : Work) (m : Members) (ahead : PhasesLeft) (refusal : Refusal) → MayEndAtRest work m (phases_of ahead) refusal → MayEndBy Active (phases_of ahead ≢ []) refusal
now-by Active work m ahead refusal (inl right) = unmendable-so (MayEndBy Active (phases_of ahead ≢ [])) (λ count most. tt) (λ role. tt) m refusal right.0
now-by Active work m ahead refusal (inr (idle, why)) = phase-by Active m (phases_of ahead) refusal why

ended-by : {B : Type 0} (array : RunningParts B) (refusal : Refusal) → MayEndSteps array refusal → MayEndBy (is_reshaping array.parts.members.newest ≡ true) (phases_of array.ahead ≢ []) refusal
ended-by array refusal may = by (is_reshaping array.parts.members.newest) refl may
  where
    by : (b : Bool) → is_reshaping array.parts.members.newest ≡ b → MatchBool b (IsEndedInReshape array.parts.work array.parts.members refusal) (MayEndAtRest array.parts.work array.parts.members (phases_of array.ahead) refusal)
        → MayEndBy (is_reshaping array.parts.members.newest ≡ true) (phases_of array.ahead ≢ []) refusal
    by true active is = reshape-so (MayEndBy (is_reshaping array.parts.members.newest ≡ true) (phases_of array.ahead ≢ [])) (λ count most. tt) (λ role. tt) (inl active) array.parts.work array.parts.members refusal is
    by false still is = now-by (is_reshaping array.parts.members.newest ≡ true) array.parts.work array.parts.members array.ahead refusal is

-- so tells the reply of the same array
pub steps-may : {B : Type 0} (mid new : RunningParts B) (ended : Option Refusal) → new.parts.members ≡ mid.parts.members → new.ahead ≡ mid.ahead → IfSome ended (MayEndSteps mid)
    → IfSome ended (MayEndBy (is_reshaping new.parts.members.newest ≡ true) (phases_of new.ahead ≢ []))
steps-may mid new None members ahead right = tt
steps-may mid new (Some refusal) members ahead right =
    end-more (is_reshaping mid.parts.members.newest ≡ true) (phases_of mid.ahead ≢ []) (is_reshaping new.parts.members.newest ≡ true) (phases_of new.ahead ≢ [])
    (λ active. ap (λ (m : Members). is_reshaping m.newest) members ∙ active) (λ some none. some (ap (λ (p : PhasesLeft). phases_of p) (sym ahead) ∙ none)) refusal (ended-by mid refusal right)

-- the reply of the same array tells what ended the steps
pub steps-right : {B : Type 0} (mid new : RunningParts B) (ended : Option Refusal) → new.parts.members ≡ mid.parts.members → new.parts.work ≡ mid.parts.work → new.ahead ≡ mid.ahead → IfSome ended (MayEndSteps mid)
    → MatchOption ended ⊤ (MayEndSteps new)
steps-right mid new None members work ahead right = tt
steps-right mid new (Some refusal) members work ahead right =
    subst (λ (m : Members). may m new.parts.work new.ahead) (sym members)
    (subst (λ (w : Work). may mid.parts.members w new.ahead) (sym work)
    (subst (λ (p : PhasesLeft). may mid.parts.members mid.parts.work p) (sym ahead) right))
  where
    may : Members → Work → PhasesLeft → Type 0
    may m w p = MatchBool (is_reshaping m.newest) (IsEndedInReshape w m refusal) (MayEndAtRest w m (phases_of p) refusal)

-- a resync is pending where its next step is due
not-mend : (newest : Sb) (cleared : ℕ) → due_in newest Closed cleared None ≡ Mend → ⊥
not-mend newest cleared is = by (is_some (next_window newest)) (nat_lt cleared (zeroed_by newest)) is
  where
    by : (a b : Bool) → cond a Enter (cond b Zero Finish) ≡ Mend → ⊥
    by true b e = absurd (cc)
    by false true e = absurd (cc)
    by false false e = absurd (cc)

mend-pending : (newest : Sb) (window : Window) (cleared : ℕ) (resync : Option ℕ) → due_in newest window cleared resync ≡ Mend → IsSome resync
mend-pending newest window cleared (Some mended) is = refl
mend-pending newest Closed cleared None is = absurd (not-mend newest cleared is)
mend-pending newest (Entered span copied sectioned) cleared None is = absurd (by (nat_lt copied (stripes_in newest span)) is)
  where
    by : (b : Bool) → cond b Copy Record ≡ Mend → ⊥
    by true e = absurd (cc)
    by false e = absurd (cc)
mend-pending newest (Unsure span) cleared None is = absurd (not-mend newest cleared is)

pub faulted-in : (backup : Option ℕ) (before now : ℕ → ℕ) → IsSome backup → IfSome backup (λ slot. IsFaulted slot before now) → MatchOption backup ⊥ (λ slot. IsFaulted slot before now)
faulted-in None before now some was = absurd (cc)
faulted-in (Some slot) before now some was = was

no-many : (m : Members) (Fact : Type 0) → AreTooMany m BackupFault → Fact
no-many m Fact (inl many) = absurd (let e = many.told in cc)
no-many m Fact (inr many) = absurd (let e = many.1.told in cc)

-- a step that is refused for the backup is so only where that failed
backup-failed : (T : Type 0) (due : Due) (resync backup : Option ℕ) (old new : Members) (before now : ℕ → ℕ) → (due ≡ Mend → IsSome resync) → IsStepCaused {T = T} due resync backup old new before now (Err (IsRefusedWith BackupFault))
    → IfSome backup (λ slot. IsFaulted slot before now)
backup-failed T Enter resync backup old new before now pending (inl many) = no-many new (IfSome backup (λ slot. IsFaulted slot before now)) many
backup-failed T Enter resync backup old new before now pending (inr failed) = failed.1
backup-failed T Mend resync backup old new before now pending was = by resync (pending refl) was
  where
    none : (shape : Shape) → IsNotSynced shape new BackupFault → IfSome backup (λ slot. IsFaulted slot before now)
    none shape (inl many) = no-many new (IfSome backup (λ slot. IsFaulted slot before now)) many
    none shape (inr lacks) = absurd (let e = lacks.1.1 in cc)

    by : (o : Option ℕ) → IsSome o → IsStepCaused {T = T} Mend o backup old new before now (Err (IsRefusedWith BackupFault)) → IfSome backup (λ slot. IsFaulted slot before now)
    by None some was = absurd (cc)
    by (Some mended) some was = none (resync_shape old.newest mended) (was mended refl).1
backup-failed T due resync backup old new before now pending was = no-many new (IfSome backup (λ slot. IsFaulted slot before now)) was.1

moved-cause : (T : Type 0) (newest : Sb) (course : Course) (work : Work) (resync backup : Option ℕ) (old new : Members) (before now : ℕ → ℕ) (refusal : Refusal) → IsSome backup
    → IsStepCaused {T = T} (due_of newest course resync) resync backup old new before now (Err (IsRefusedWith refusal)) → IsEndedInReshape work new refusal → IsRefusalBy backup before now refusal
moved-cause T newest course work resync backup old new before now refusal some caused ended =
    reshape-so (λ r. IsStepCaused {T = T} (due_of newest course resync) resync backup old new before now (Err (IsRefusedWith r)) → IsRefusalBy backup before now r) (λ count most was. tt) (λ role was. tt)
    (λ was. faulted-in backup before now some (backup-failed T (due_of newest course resync) resync backup old new before now (mend-pending newest course.window course.zeroed resync) was))
    work new refusal ended caused

pub moved-by : {B : Type 0} (T : Type 0) (newest : Sb) (course : Course) (resync backup : Option ℕ) (old : Members) (new : RunningParts B) (before now : ℕ → ℕ) (refusal : Refusal) → IsSome backup → is_reshaping new.parts.members.newest ≡ true
    → IsStepCaused {T = T} (due_of newest course resync) resync backup old new.parts.members before now (Err (IsRefusedWith refusal)) → MayEndSteps new refusal → IsRefusalBy backup before now refusal
moved-by T newest course resync backup old new before now refusal some active caused may =
    moved-cause T newest course new.parts.work resync backup old new.parts.members before now refusal some caused (ended-in new refusal active may)
