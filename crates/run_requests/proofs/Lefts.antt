-- What a call leaves of the array, as a line leaves it.
use Rattle.std.proofs.Common.{◌≡◌, ◌≢◌, ℕ, ◌+◌, Option, Result, Ok, Err, List, [], ◌∷◌, ◌++◌, length, refl, sym, ◌∙◌, ap, subst}
use Rattle.std.specs.Prelude.{IfOk, OnErr, MatchOption}
use Rattle.run_specs.specs.raid_types_Sectors.{Sector}
use Rattle.run_specs.specs.raid_types_the_Fault.{Fault}
use Rattle.run_specs.specs.raid_types_the_Fault_TheVariants.{Refused as IsRefusedWith, NoMemory as WantsMemory}
use Rattle.run_specs.specs.raid_types_the_Refusal.{Refusal}
use Rattle.run_specs.specs.raid_types_the_Refusal_TheVariants.{SlotFault, BackupFault}
use Rattle.run_specs.specs.raid_types_the_Who.{Who}
use Rattle.run_specs.specs.raid_types_the_Wish.{Wish}
use Rattle.run_specs.specs.bank_the_Operation.{Operation}
use Rattle.run_specs.specs.bank_Given.{Given}
use Rattle.run_specs.specs.reshape_plan_Plans.{phases}
use Rattle.run_specs.specs.sb_specs_the_Members.{Members}
use Rattle.run_specs.specs.sb_specs_Reading.{is_reshaping, shape_of, list_length}
use Rattle.run_specs.specs.history_the_Entry.{Entry}
use Rattle.run_specs.specs.history_the_Event.{Event}
use Rattle.run_specs.specs.history_the_Event_TheVariants.{Read, Wrote, Flushed, Failed, Added, Visible, Planned, Refused}
use Rattle.run_specs.specs.history_the_Request_TheVariants.{Read as AsksRead, Flush as AsksFlush, Fail as AsksFail, Add as AsksAdd, Grow as AsksGrow, Visible as AsksVisible}
use Rattle.run_specs.specs.history_Plain.{entries_of}
use Rattle.run_specs.specs.history_World.{World}
use Rattle.run_specs.specs.array_members_the_Work.{Work}
use Rattle.run_specs.specs.array_members_Lacking.{AreTooMany, HaveRolesFailed}
use Rattle.run_specs.specs.reshape_request_the_PhasesLeft.{PhasesLeft}
use Rattle.run_specs.specs.reshape_request_Left.{phases_of}
use Rattle.run_specs.specs.array_grow_Planned.{IsAsBefore, IsGrowPlanned, IsReplied as IsRepliedTo}
use Rattle.run_specs.specs.array_call_specs_Calls.{IsReplied, IsAnswered, IsCausedBy, IsRefusedFor, IsFailedFor, IsAddedFor, by_answer}
use Rattle.run_specs.specs.array_Calls.{running_left, IsReadLacked, IsWriteLackedIn}
use Rattle.run_specs.specs.array_reshaping_laws_Writing.{IsWriteReplied}
use Rattle.run_specs.specs.array_specs_Adding.{IsAddCalled}
use Rattle.run_specs.specs.array_specs_Calls.{IsCalled, IsSameReshape}
use Rattle.run_specs.specs.array_specs_Parts.{RunningParts, visible_in}
use Rattle.run_specs.specs.array_specs_Visible.{IsLimitedAs}
use Rattle.run_specs.specs.script_the_Line.{Line}
use Rattle.run_specs.specs.script_the_Line_TheVariants.{Read as ReadLine, Write as WriteLine, Flush, Fail, Add, ArraySize, Grow, Stop}
use Rattle.run_specs.specs.Asked.{IsAskedAt}
use Rattle.run_specs.specs.Caused.{record_of}
use Rattle.run_specs.specs.Records.{IsShapeKept, IsWorkKept, IsOnlyLess, IsLessByFaults, IsWithSpare, IsAsItWas, IsUntouched, IsLeftBy, IsLeftAt}
use Rattle.run_specs.proofs.AskLaws.{one, entry_there}
use Rattle.run_specs.proofs.Turned.{last-there}
use Rattle.run_specs.proofs.history_laws_OneShapeGrowing.{entries-both}

-- ---- what each call keeps

shape-same : {B tells : Type 0} {before after : World} {old new : RunningParts B} → IsSameReshape tells old new before after → is_reshaping new.parts.members.newest ≡ is_reshaping old.parts.members.newest
    → IsShapeKept old.parts.members new.parts.members
shape-same same active = record { active = active; shape = same.array.shape; final = same.final; size = same.array.size }

work-same : {B tells : Type 0} {before after : World} {old new : RunningParts B} → IsSameReshape tells old new before after → new.parts.work ≡ old.parts.work → IsWorkKept (record_of old) (record_of new)
work-same same work = record { resync = ap (λ (w : Work). w.resync) work; rebuilt = ap (λ (w : Work). w.rebuilt) work; ahead = ap (λ (p : PhasesLeft). phases_of p) same.ahead }

-- one that is done or refused
pub less-called : {B tells : Type 0} {given : Given} {tape tape' : List Operation} {before after : ℕ → ℕ} {old new : RunningParts B} → IsCalled tells given tape tape' before after old new
    → is_reshaping new.parts.members.newest ≡ is_reshaping old.parts.members.newest → IsOnlyLess before after (record_of old) (record_of new)
less-called called active = record {
  shape = shape-same called.same active;
  work = work-same called.same called.work;
  limit = called.same.limit;
  held = called.held;
  spares = called.spares;
  losses = called.losses;
}

pub left-called : {B tells : Type 0} {given : Given} {tape tape' : List Operation} {before after : ℕ → ℕ} {old new : RunningParts B} → IsCalled tells given tape tape' before after old new
    → is_reshaping new.parts.members.newest ≡ is_reshaping old.parts.members.newest → HaveRolesFailed old.parts.members new.parts.members before after → IsLessByFaults before after (record_of old) (record_of new)
left-called called active failed = (less-called called active, failed)

-- one that changes nothing but the history
pub left-untouched : {B tells : Type 0} {before after : World} {old new : RunningParts B} → IsSameReshape tells old new before after → new.parts.members ≡ old.parts.members → new.parts.work ≡ old.parts.work → IsUntouched (record_of old) (record_of new)
left-untouched same members work = (
  record { members = members; resync = ap (λ (w : Work). w.resync) work; rebuilt = ap (λ (w : Work). w.rebuilt) work },
  ap (λ (p : PhasesLeft). phases_of p) same.ahead,
  same.limit,
)

-- an add
pub with-spare : {B tells : Type 0} {given : Given} {tape tape' : List Operation} {before after : ℕ → ℕ} {slot : ℕ} {old new : RunningParts B} → IsAddCalled tells given tape tape' before after slot old new
    → is_reshaping new.parts.members.newest ≡ is_reshaping old.parts.members.newest → HaveRolesFailed old.parts.members new.parts.members before after → IsWithSpare before after slot (record_of old) (record_of new)
with-spare called active failed = record {
  shape = shape-same called.same active;
  work = record { resync = called.work.resync; rebuilt = called.work.rebuilt; ahead = ap (λ (p : PhasesLeft). phases_of p) called.same.ahead };
  limit = called.same.limit;
  held = called.held;
  failed = failed;
  spares = called.spares;
  losses = called.losses;
}

-- a limit, or a plan
as-limited : {B : Type 0} {limit : Option ℕ} {old new : RunningParts B} → IsLimitedAs limit old new → IsAsItWas (record_of old) (record_of new)
as-limited limited = record { members = limited.members; resync = ap (λ (w : Work). w.resync) limited.work; rebuilt = ap (λ (w : Work). w.rebuilt) limited.work }

as-planned : {B : Type 0} {old new : RunningParts B} → IsAsBefore old new → IsAsItWas (record_of old) (record_of new)
as-planned same = record { members = same.members; resync = ap (λ (w : Work). w.resync) same.work; rebuilt = ap (λ (w : Work). w.rebuilt) same.work }

-- ---- by the answer

module _ {B : Type 0} (before now : ℕ → ℕ) (old new : RunningParts B) (who : Who) (place : ℕ) (at_end : place + 1 ≡ length new.parts.entries) where
  left-last : (line : Line) (inner : List Entry) (e : Entry) → new.parts.entries ≡ old.parts.entries ++ (inner ++ e ∷ []) → IsLeftBy before now (record_of old) (record_of new) line e.event
      → IsLeftAt before now (record_of old) (record_of new) line new.parts.entries place
  left-last line inner e is left =
      subst (λ (o : Option Entry). MatchOption o ⊥ (λ x. IsLeftBy before now (record_of old) (record_of new) line x.event)) (sym (last-there old.parts.entries new.parts.entries inner e place is at_end)) left

  left-behind : (line : Line) (end : ℕ) (inner : List Event) (event : Event) → new.parts.entries ≡ old.parts.entries ++ entries_of who end (inner ++ event ∷ []) → IsLeftBy before now (record_of old) (record_of new) line event
      → IsLeftAt before now (record_of old) (record_of new) line new.parts.entries place
  left-behind line end inner event is left =
      left-last line (entries_of who end inner) (one who end event) (is ∙ ap (λ (l : List Entry). old.parts.entries ++ l) (entries-both who end inner (event ∷ []))) left

  -- a read, a write and a flush
  module _ (size : ℕ) (less : IsLessByFaults before now (record_of old) (record_of new)) where
    pub left-read : (at count : ℕ) (body : List Sector) (r : Result (Unit {0}) Fault) → IsAnswered size (AsksRead at count) who old.parts.entries new.parts.entries (Read at body) r
        → IsCausedBy (visible_in old) (at + count) (IsReadLacked old at count) old.parts.members new.parts.members r → r ≢ Err WantsMemory → IsLeftAt before now (record_of old) (record_of new) (ReadLine at count) new.parts.entries place
    left-read at count body (Ok x) was caused some = left-behind (ReadLine at count) was.end was.inner (Read at body) was.is (less, caused)
    left-read at count body (Err (IsRefusedWith refusal)) was caused some = left-behind (ReadLine at count) was.end was.inner (Refused refusal) was.is (less, caused)
    left-read at count body (Err WantsMemory) was caused some = absurd (some refl)

    pub left-written : (at count seed : ℕ) (body : List Sector) (r : Result (Unit {0}) Fault) → IsWriteReplied size at body who old.parts.entries new.parts.entries r
        → IsCausedBy (visible_in old) (at + count) (IsWriteLackedIn old at count) old.parts.members new.parts.members r → r ≢ Err WantsMemory → IsLeftAt before now (record_of old) (record_of new) (WriteLine at count seed) new.parts.entries place
    left-written at count seed body (Ok x) was caused some = left-last (WriteLine at count seed) was.call (one who was.end (Wrote at body)) was.is (less, caused)
    left-written at count seed body (Err (IsRefusedWith BackupFault)) was caused some = left-last (WriteLine at count seed) [] (one who was.0 (Refused BackupFault)) was.1 (less, caused)
    left-written at count seed body (Err (IsRefusedWith refusal)) was caused some = left-last (WriteLine at count seed) was.call (one who was.end (Refused refusal)) was.is (less, caused)
    left-written at count seed body (Err WantsMemory) was caused some = absurd (some refl)

    pub left-flushed : (r : Result (Unit {0}) Fault) → IsAnswered size AsksFlush who old.parts.entries new.parts.entries Flushed r
        → IsCausedBy (list_length old.parts.members.newest) 0 AreTooMany old.parts.members new.parts.members r → r ≢ Err WantsMemory → IsLeftAt before now (record_of old) (record_of new) Flush new.parts.entries place
    left-flushed (Ok x) was caused some = left-behind Flush was.end was.inner Flushed was.is (less, caused)
    left-flushed (Err (IsRefusedWith refusal)) was caused some = left-behind Flush was.end was.inner (Refused refusal) was.is (less, caused)
    left-flushed (Err WantsMemory) was caused some = absurd (some refl)

  -- a fail
  module _ (size role : ℕ) (less : IsOnlyLess before now (record_of old) (record_of new)) where
    fail-left : (event : Event) → IsReplied size (AsksFail role) who old.parts.entries new.parts.entries event → IsLeftBy before now (record_of old) (record_of new) (Fail role) event
        → IsLeftAt before now (record_of old) (record_of new) (Fail role) new.parts.entries place
    fail-left event was left = left-behind (Fail role) was.end was.inner event was.is left

    pub left-failed : (r : Result (Unit {0}) Fault) → IsAnswered size (AsksFail role) who old.parts.entries new.parts.entries (Failed role) r → IsFailedFor role old.parts.members new.parts.members r → r ≢ Err WantsMemory
        → IsLeftAt before now (record_of old) (record_of new) (Fail role) new.parts.entries place
    left-failed (Ok x) was cause some = fail-left (Failed role) was (less, cause.1)
    left-failed (Err (IsRefusedWith refusal)) was cause some = fail-left (Refused refusal) was (less, cause.1)
    left-failed (Err WantsMemory) was cause some = absurd (some refl)

  -- an add
  module _ (size slot : ℕ) (spare : IsWithSpare before now slot (record_of old) (record_of new)) where
    add-left : (event : Event) → IsReplied size (AsksAdd slot) who old.parts.entries new.parts.entries event → IsLeftBy before now (record_of old) (record_of new) (Add slot) event
        → IsLeftAt before now (record_of old) (record_of new) (Add slot) new.parts.entries place
    add-left event was left = left-behind (Add slot) was.end was.inner event was.is left

    pub left-added : (given : Given) (r : Result (Unit {0}) Fault) → IsAnswered size (AsksAdd slot) who old.parts.entries new.parts.entries (Added slot) r
        → IsAddedFor given old.parts.backup slot old.parts.members new.parts.members before now r → r ≢ Err WantsMemory → IsLeftAt before now (record_of old) (record_of new) (Add slot) new.parts.entries place
    left-added given (Ok x) was cause some = add-left (Added slot) was (spare, cause.1)
    left-added given (Err (IsRefusedWith (SlotFault failed))) was cause some = add-left (Refused (SlotFault failed)) was (spare, cause.3, cause.2)
    left-added given (Err (IsRefusedWith refusal)) was cause some = add-left (Refused refusal) was (spare, cause.1)
    left-added given (Err WantsMemory) was cause some = absurd (some refl)

  -- a limit
  pub left-limited : (tells : Type 0) (world : World) (ahead : ℕ) (members : Members) (limit : Option ℕ) (r : Result ℕ Fault)
      → IsRepliedTo tells world ahead members (AsksVisible limit) who old.parts.entries new.parts.entries (Visible limit (visible_in new)) r → IsLimitedAs (by_answer r limit old.limit) old new → r ≢ Err WantsMemory
      → IsLeftAt before now (record_of old) (record_of new) (ArraySize limit) new.parts.entries place
  left-limited tells world ahead members limit (Ok count) was limited some =
      left-behind (ArraySize limit) was.end [] (Visible limit (visible_in new)) was.is (as-limited limited, ap (λ (p : PhasesLeft). phases_of p) limited.ahead, limited.limit_is)
  left-limited tells world ahead members limit (Err (IsRefusedWith refusal)) was limited some =
      left-behind (ArraySize limit) was.end [] (Refused refusal) was.is (as-limited limited, ap (λ (p : PhasesLeft). phases_of p) limited.ahead, limited.limit_is)
  left-limited tells world ahead members limit (Err WantsMemory) was limited some = absurd (some refl)

  -- a plan
  pub left-planned : (tells : Type 0) (world after : World) (given : Given) (ahead : ℕ) (members : Members) (wish : Wish) (r : Result ℕ Fault)
      → IsRepliedTo tells world ahead members (AsksGrow wish) who old.parts.entries new.parts.entries (Planned (running_left new) wish) r → IsAsBefore old new → new.limit ≡ old.limit
      → IfOk r (λ left. IsGrowPlanned tells given after wish left new) → OnErr r (new.ahead ≡ old.ahead) → r ≢ Err WantsMemory → IsLeftAt before now (record_of old) (record_of new) (Grow wish) new.parts.entries place
  left-planned tells world after given ahead members wish (Ok left) was same limit planned kept some =
      left-behind (Grow wish) was.end [] (Planned (running_left new) wish) was.is (as-planned same, planned.ahead ∙ ap (λ (m : Members). phases (shape_of m.newest) wish) same.members, limit)
  left-planned tells world after given ahead members wish (Err (IsRefusedWith refusal)) was same limit planned kept some =
      left-behind (Grow wish) was.end [] (Refused refusal) was.is (as-planned same, ap (λ (p : PhasesLeft). phases_of p) kept, limit)
  left-planned tells world after given ahead members wish (Err WantsMemory) was same limit planned kept some = absurd (some refl)

-- a stop that was refused
pub left-unstopped : {B : Type 0} {size place : ℕ} {entries later : List Entry} (before now : ℕ → ℕ) (old new : RunningParts B) (asked : IsAskedAt size Stop entries later place) (refusal : Refusal) → asked.event ≡ Refused refusal
    → IsLessByFaults before now (record_of old) (record_of new) → IsRefusedFor (list_length old.parts.members.newest) 0 AreTooMany old.parts.members new.parts.members refusal → IsLeftAt before now (record_of old) (record_of new) Stop later place
left-unstopped before now old new asked refusal is less why =
    subst (λ (o : Option Entry). MatchOption o ⊥ (λ e. IsLeftBy before now (record_of old) (record_of new) Stop e.event)) (sym (entry_there asked))
    (subst (λ (e : Event). IsLeftBy before now (record_of old) (record_of new) Stop e) (sym is) (less, why))
