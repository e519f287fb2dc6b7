-- Which reply entries answer a request to a running array, as far as that needs no superblocks: `Fits` of flat_history says the rest. `before` are the
-- entries before the reply, and `call` are those of its call directly before it.
use Rattle.std.specs.Prelude.{◌≡◌, ◌⊎◌, ℕ, ◌+◌, ◌<◌, ◌≤◌, ◌++◌, Bool, true, false, List, [], ◌∷◌, length, count_by, Option, MatchOption, IfSome, IsSome, IsTrue, Result, Ok, Err, ⊤}
use Rattle.std.specs.List.{list_any, All}
use Rattle.bank.specs.raid_types_the_Refusal.{Refusal}
use Rattle.bank.specs.raid_types_the_Refusal_TheVariants.{TooManyMissing, NotResynced, BackupFault, SlotFault, PastSize, Busy, Degraded, SameShape, BadShape, SizeNotMultiple, NeedSpares, NeedBackup, BackupTooSmall, ArraySizeFirst, Nothing}
use Rattle.bank.specs.raid_types_the_BusyKind_TheVariants.{Reshape as WithReshape, Plan as WithPlan}
use Rattle.bank.specs.raid_types_the_Fault.{Fault}
use Rattle.bank.specs.raid_types_the_Fault_TheVariants.{Refused as IsRefusedWith, NoMemory}
use Rattle.bank.specs.raid_types_the_Who.{Who}
use Rattle.bank.specs.Given.{IsFaulted}
use Rattle.array_specs.specs.history_the_Entry.{Entry}
use Rattle.array_specs.specs.history_the_Event.{Event}
use Rattle.array_specs.specs.history_the_Event_TheVariants.{Lost, Visible, Planned, Step, Stepped, Refused}
use Rattle.array_specs.specs.history_the_StepKind_TheVariants.{Finished}
use Rattle.array_specs.specs.history_the_Request.{Request}
use Rattle.array_specs.specs.history_the_Request_TheVariants.{Read as AsksRead, Write as AsksWrite, Flush as AsksFlush, Fail as AsksFail, Add as AsksAdd, Visible as AsksVisible, Grow as AsksGrow, Steps as AsksSteps, Show as AsksShow}
use Rattle.array_specs.specs.history_Flat.{length_of, visible_of}
use Rattle.array_specs.specs.history_Fits.{IsWriteRefused, AreTornOf, is_lost_event, is_step_event}
use Rattle.array_specs.specs.history_Legal.{MayBeInner, call_before}
use Rattle.array_specs.specs.history_OneShape.{IsOfCall, OneShapeAnswers}
use Rattle.array_specs.specs.history_Transfers.{IsRefusedAt}

-- ---- steps

-- what may refuse a step
abbrev pub EndsRunningSteps : Refusal → Type 0
EndsRunningSteps (TooManyMissing count tolerance) = ⊤
EndsRunningSteps (NotResynced role) = ⊤
EndsRunningSteps BackupFault = ⊤
EndsRunningSteps (Degraded role) = ⊤
EndsRunningSteps (NeedSpares have want) = have < want
EndsRunningSteps refusal = ⊥

-- what may end a request for steps early: a loss, or the end of a reshape
abbrev pub may_end_early : Event → Bool
may_end_early (Lost role cause) = true
may_end_early (Step Finished left) = true
may_end_early event = false

-- A request for at most so many steps did those that its call enters, and one for each loss at most that it doesn't enter. It ends where so many are done, none is left, one is refused, a role
-- was lost, or a reshape ended.
pub record DidRunningSteps (call : List Entry) (most done left : ℕ) (ended : Option Refusal) : Type 0 where
  pub at_most : done ≤ most
  pub all_done : (done ≡ most) ⊎ (left ≡ 0) ⊎ IsSome ended ⊎ IsTrue (list_any (λ e. may_end_early e.event) call)
  pub some_done : (1 ≤ done) ⊎ IsSome ended
  pub counted : count_by (λ e. is_step_event e.event) call ≤ done
  pub not_more : done ≤ count_by (λ e. is_step_event e.event) call + count_by (λ e. is_lost_event e.event) call

-- ---- a plan

-- what may refuse a plan, by the sectors that can be read and written
abbrev pub MayRefuseGrow : ℕ → Refusal → Type 0
MayRefuseGrow visible (Busy kind) = ⊤
MayRefuseGrow visible (Degraded role) = ⊤
MayRefuseGrow visible SameShape = ⊤
MayRefuseGrow visible (BadShape field) = ⊤
MayRefuseGrow visible (SizeNotMultiple size chunk) = ⊤
MayRefuseGrow visible (NeedSpares have want) = have < want
MayRefuseGrow visible NeedBackup = ⊤
MayRefuseGrow visible (BackupTooSmall have want) = have < want
MayRefuseGrow visible (ArraySizeFirst told least) = (told ≡ visible) × (least < told)
MayRefuseGrow visible refusal = ⊥

-- ---- a limit

-- what may refuse one: a reshape, a plan, or a list of fewer sectors than it
abbrev pub MayRefuseLimit : ℕ → Option ℕ → Refusal → Type 0
MayRefuseLimit sectors limit (Busy WithReshape) = ⊤
MayRefuseLimit sectors limit (Busy WithPlan) = ⊤
MayRefuseLimit sectors limit (PastSize told) = (told ≡ sectors) × MatchOption limit ⊥ (λ wished. told < wished)
MayRefuseLimit sectors limit refusal = ⊥

-- ---- a reply

-- the reply's event answers the request, over a list of so many sectors when the call began, or earlier
abbrev pub RunningAnswers : ℕ → List Entry → List Entry → Request → Event → Type 0
RunningAnswers size before call (AsksRead at count) event = OneShapeAnswers size before call (AsksRead at count) event
RunningAnswers size before call (AsksWrite at body) (Refused refusal) = IsRefusedAt (visible_of size before) (at + length body) IsWriteRefused refusal
RunningAnswers size before call (AsksWrite at body) event = OneShapeAnswers size before call (AsksWrite at body) event
RunningAnswers size before call AsksFlush event = OneShapeAnswers size before call AsksFlush event
RunningAnswers size before call (AsksFail role) event = OneShapeAnswers size before call (AsksFail role) event
RunningAnswers size before call (AsksAdd slot) event = OneShapeAnswers size before call (AsksAdd slot) event
RunningAnswers size before call (AsksSteps most) (Stepped done left ended) = DidRunningSteps call most done left ended × IfSome ended EndsRunningSteps
RunningAnswers size before call (AsksSteps most) (Refused Nothing) = ⊤
RunningAnswers size before call (AsksSteps most) event = ⊥
RunningAnswers size before call (AsksGrow wish) (Planned left wished) = wished ≡ wish
RunningAnswers size before call (AsksGrow wish) (Refused refusal) = MayRefuseGrow (visible_of size before) refusal
RunningAnswers size before call (AsksGrow wish) event = ⊥
RunningAnswers size before call (AsksVisible limit) (Visible wished count) = wished ≡ limit
RunningAnswers size before call (AsksVisible limit) (Refused refusal) = MayRefuseLimit (length_of size before) limit refusal
RunningAnswers size before call (AsksVisible limit) event = ⊥
RunningAnswers size before call AsksShow event = ⊥

-- the reply fits its request, by the entries before it
pub record RunningFits (size : ℕ) (before : List Entry) (e : Entry) (request : Request) : Type 0 where
  pub answers : RunningAnswers size before (call_before before e) request e.event
  pub torn : AreTornOf request (call_before before e)

-- A call of a running array was answered by this event, which fits its request and stands behind the other entries of the call.
pub record IsAnsweredWith (size : ℕ) (request : Request) (who : Who) (old new : List Entry) (event : Event) : Type 0 where
  pub inner : List Entry
  pub end : ℕ
  pub own : All (λ e. IsOfCall who e) inner
  pub inside : All (λ e. MayBeInner e.event) inner
  pub is : new ≡ old ++ (inner ++ record { caller = who.caller; number = who.number; end = end; event = event } ∷ [])
  pub fits : RunningFits size (old ++ inner) (record { caller = who.caller; number = who.number; end = end; event = event }) request

-- the reply by the answer, with the event of an Ok; where memory was short, nothing was entered
abbrev pub IsRepliedWith : {T : Type 0} → ℕ → Request → Who → List Entry → List Entry → Event → Result T Fault → Type 0
IsRepliedWith size request who old new event (Ok x) = IsAnsweredWith size request who old new event
IsRepliedWith size request who old new event (Err (IsRefusedWith refusal)) = IsAnsweredWith size request who old new (Refused refusal)
IsRepliedWith size request who old new event (Err NoMemory) = new ≡ old

-- ---- what a reply tells only in a reshape

-- Steps are ended by a backup that failed only where a reshape is active or phases are ahead, and for a role that is missing or for want of spares only where some are ahead, the next of which can't be done.
abbrev pub MayEndBy : (Active Ahead : Type 0) → Refusal → Type 0
MayEndBy Active Ahead BackupFault = Active ⊎ Ahead
MayEndBy Active Ahead (Degraded role) = Ahead
MayEndBy Active Ahead (NeedSpares have want) = Ahead
MayEndBy Active Ahead refusal = ⊤

-- Another request is refused for the backup only where a reshape is active.
abbrev pub MayTellBy : (Active Ahead : Type 0) → Event → Type 0
MayTellBy Active Ahead (Refused BackupFault) = Active
MayTellBy Active Ahead (Stepped done left ended) = IfSome ended (MayEndBy Active Ahead)
MayTellBy Active Ahead event = ⊤

-- ---- a refusal's cause

-- a refusal for a slot that failed stands only where that slot has failed since, and one for the backup only where the backup has
abbrev pub IsRefusalBy : Option ℕ → (ℕ → ℕ) → (ℕ → ℕ) → Refusal → Type 0
IsRefusalBy backup before now (SlotFault slot) = IsFaulted slot before now
IsRefusalBy backup before now BackupFault = MatchOption backup ⊥ (λ slot. IsFaulted slot before now)
IsRefusalBy backup before now refusal = ⊤

-- so it is of a refusal that the event tells, also where it ended some steps
abbrev pub IsRefusalToldBy : Option ℕ → (ℕ → ℕ) → (ℕ → ℕ) → Event → Type 0
IsRefusalToldBy backup before now (Stepped done left ended) = IfSome ended (IsRefusalBy backup before now)
IsRefusalToldBy backup before now (Refused refusal) = IsRefusalBy backup before now refusal
IsRefusalToldBy backup before now event = ⊤

-- More entries stand behind the old ones, and each refusal that they tell has its cause.
pub record HasToldBy (backup : Option ℕ) (before now : ℕ → ℕ) (old new : List Entry) : Type 0 where
  pub more : List Entry
  pub grown : new ≡ old ++ more
  pub told : All (λ e. IsRefusalToldBy backup before now e.event) more
