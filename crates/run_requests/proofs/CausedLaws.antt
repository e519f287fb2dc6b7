-- Why an array answered a line: what its calls say of it.
use Rattle.std.proofs.Common.{◌≡◌, ◌≢◌, ℕ, ◌+◌, Bool, true, false, Option, None, Some, Result, Ok, Err, List, [], ◌∷◌, ◌++◌, length, refl, sym, ◌∙◌, ap, subst}
use Rattle.std.specs.Prelude.{slice_get, IfOk, MatchBool, MatchOption}
use Rattle.run_specs.specs.raid_types_the_Fault.{Fault}
use Rattle.run_specs.specs.raid_types_the_Fault_TheVariants.{Refused as IsRefusedWith, NoMemory as WantsMemory}
use Rattle.run_specs.specs.raid_types_the_NoMemory.{NoMemory}
use Rattle.run_specs.specs.raid_types_the_Refusal_TheVariants.{SlotFault, Nothing}
use Rattle.run_specs.specs.raid_types_the_Who.{Who}
use Rattle.run_specs.specs.raid_types_the_Status.{Status}
use Rattle.run_specs.specs.raid_types_the_Phase.{Phase}
use Rattle.run_specs.specs.raid_types_the_Wish.{Wish}
use Rattle.run_specs.specs.bank_Given.{Given}
use Rattle.run_specs.specs.reshape_plan_Plans.{phases, phases_steps}
use Rattle.run_specs.specs.sb_specs_the_Members.{Members}
use Rattle.run_specs.specs.sb_specs_Reading.{is_reshaping, is_clean, shape_of, final_shape, list_length}
use Rattle.run_specs.specs.history_the_Entry.{Entry}
use Rattle.run_specs.specs.history_the_Event.{Event}
use Rattle.run_specs.specs.history_the_Event_TheVariants.{Added, Failed, Visible, Planned, Stepped, Shown, Refused}
use Rattle.run_specs.specs.history_the_Request_TheVariants.{Add as AsksAdd, Fail as AsksFail, Visible as AsksVisible, Steps as AsksSteps}
use Rattle.run_specs.specs.history_Plain.{entries_of}
use Rattle.run_specs.specs.history_World.{World}
use Rattle.run_specs.specs.array_call_specs_Calls.{IsReplied, IsAnswered, IsAddedFor, IsFailedFor, by_answer}
use Rattle.run_specs.specs.array_grow_Planned.{asked_in, IsGrowJudged, IsGrowAnswered, IsGrowPlanned, IsReplied as IsRepliedTo}
use Rattle.run_specs.specs.array_Calls.{running_left, IsShownAs}
use Rattle.run_specs.specs.array_steps_Steps.{IsStepCount}
use Rattle.run_specs.specs.array_specs_Calls.{IsStatusFor}
use Rattle.run_specs.specs.array_specs_Parts.{RunningParts, visible_size, visible_in, left_in, still_left}
use Rattle.run_specs.specs.array_specs_Still.{IsStillStatus}
use Rattle.run_specs.specs.array_specs_Visible.{IsVisibleJudged, IsLimitedAs}
use Rattle.run_specs.specs.array_reply_specs_Limits.{limit_refusal}
use Rattle.run_specs.specs.array_reply_specs_Replies.{IsAnsweredWith}
use Rattle.run_specs.specs.script_the_Line.{Line}
use Rattle.run_specs.specs.script_the_Line_TheVariants.{Fail, Add, ArraySize, Grow, Step, Detail, Mdstat}
use Rattle.run_specs.specs.Asked.{IsAskedAt, IsAsked}
use Rattle.run_specs.specs.Caused.{Record, record_of, IsSeen, IsJudgedBy, IsJudgedAt}
use Rattle.run_specs.specs.Showing.{TellsArray, IsToldAt}
use Rattle.run_specs.proofs.AskLaws.{one, entry_there}
use Rattle.run_specs.proofs.Turned.{last-there}
use Rattle.run_specs.proofs.history_laws_OneShapeGrowing.{entries-both}

-- ---- a record is shown as its array is

pub shown-record : {B : Type 0} (array : RunningParts B) (status : Status) → IsShownAs array status → IsShownAs (record_of array) status
shown-record {B = B} array status shown = by (is_reshaping array.parts.members.newest) shown
  where
    moves : IsStatusFor array status → IsStatusFor (record_of array) status
    moves is = record {
      shape = is.shape;
      target = is.target;
      position = is.position;
      size = is.size;
      length = is.length;
      visible = is.visible;
      clean = is.clean;
      events = is.events;
      left = is.left;
      roles = is.roles;
      spares = is.spares;
    }

    rests : IsStillStatus array status → IsStillStatus (record_of array) status
    rests is = record {
      shape = is.shape;
      target = is.target;
      position = is.position;
      size = is.size;
      length = is.length;
      visible = is.visible;
      clean = is.clean;
      events = is.events;
      left = is.left;
      roles = is.roles;
      spares = is.spares;
    }

    by : (b : Bool) → MatchBool b (IsStatusFor array status) (IsStillStatus array status) → MatchBool b (IsStatusFor (record_of array) status) (IsStillStatus (record_of array) status)
    by true is = moves is
    by false is = rests is

-- a status is shown of an array that is as it was
module _ {B : Type 0} (old new : RunningParts B) (members : new.parts.members ≡ old.parts.members) (work : new.parts.work ≡ old.parts.work) (course : new.course ≡ old.course) (ahead : new.ahead ≡ old.ahead) (limit : new.limit ≡ old.limit) where
  moves-later : (status : Status) → IsStatusFor old status → IsStatusFor new status
  moves-later status is = record {
    shape = is.shape ∙ sym (ap (λ (m : Members). shape_of m.newest) members);
    target = is.target ∙ sym (ap (λ (m : Members). Some (final_shape m.newest)) members);
    position = is.position ∙ sym (ap (λ (m : Members). m.newest.reshape_position) members);
    size = is.size ∙ sym (ap (λ (m : Members). m.newest.size) members);
    length = is.length ∙ sym (ap (λ (m : Members). list_length m.newest) members);
    visible = is.visible ∙ sym (λ i. visible_size (members i) (limit i));
    clean = is.clean ∙ sym (ap (λ (m : Members). is_clean m.newest) members);
    events = is.events ∙ sym (ap (λ (m : Members). m.newest.events) members);
    left = is.left ∙ sym (λ i. left_in (work i) (members i) (course i) (ahead i));
    roles = is.roles ∙ sym (ap (λ (m : Members). m.roles) members);
    spares = is.spares ∙ sym (ap (λ (m : Members). m.spares) members);
  }

  rests-later : (status : Status) → IsStillStatus old status → IsStillStatus new status
  rests-later status is = record {
    shape = is.shape ∙ sym (ap (λ (m : Members). shape_of m.newest) members);
    target = is.target;
    position = is.position;
    size = is.size ∙ sym (ap (λ (m : Members). m.newest.size) members);
    length = is.length ∙ sym (ap (λ (m : Members). list_length m.newest) members);
    visible = is.visible ∙ sym (λ i. visible_size (members i) (limit i));
    clean = is.clean ∙ sym (ap (λ (m : Members). is_clean m.newest) members);
    events = is.events ∙ sym (ap (λ (m : Members). m.newest.events) members);
    left = is.left ∙ sym (λ i. still_left (work i) (members i) (ahead i));
    roles = is.roles ∙ sym (ap (λ (m : Members). m.roles) members);
    spares = is.spares ∙ sym (ap (λ (m : Members). m.spares) members);
  }

  pub shown-later : (status : Status) → IsShownAs old status → IsShownAs new status
  shown-later status shown = subst (λ (b : Bool). MatchBool b (IsStatusFor new status) (IsStillStatus new status)) (sym (ap (λ (m : Members). is_reshaping m.newest) members)) (by (is_reshaping old.parts.members.newest) shown)
    where
      by : (b : Bool) → MatchBool b (IsStatusFor old status) (IsStillStatus old status) → MatchBool b (IsStatusFor new status) (IsStillStatus new status)
      by true is = moves-later status is
      by false is = rests-later status is

tells-record : {B : Type 0} (array : RunningParts B) (event : Event) → TellsArray array event → TellsArray (record_of array) event
tells-record array (Shown status) is = shown-record array status is
tells-record array event is = absurd is

told-record : {B : Type 0} (array : RunningParts B) (reply : Option Entry) → MatchOption reply ⊥ (λ e. TellsArray array e.event) → MatchOption reply ⊥ (λ e. TellsArray (record_of array) e.event)
told-record array None is = absurd is
told-record array (Some e) is = tells-record array e.event is

pub detail-judged : {B : Type 0} (given : Given) (array : RunningParts B) (entries : List Entry) (r : Result ℕ NoMemory) → IfOk r (λ place. IsToldAt array entries place)
    → IfOk r (λ place. IsJudgedAt given (record_of array) Detail entries place)
detail-judged given array entries (Ok place) told = told-record array (slice_get entries place) told
detail-judged given array entries (Err none) told = tt

pub mdstat-judged : {B : Type 0} (given : Given) (array : RunningParts B) (entries : List Entry) (r : Result ℕ NoMemory) → IfOk r (λ place. IsToldAt array entries place)
    → IfOk r (λ place. IsJudgedAt given (record_of array) Mdstat entries place)
mdstat-judged given array entries (Ok place) told = told-record array (slice_get entries place) told
mdstat-judged given array entries (Err none) told = tt

-- ---- by an entry

-- the reply judged at its place is the one that was asked for
pub judged-asked : {size place : ℕ} {line : Line} {old new : List Entry} (given : Given) (array : Record) (asked : IsAskedAt size line old new place) → IsJudgedAt given array line new place → IsJudgedBy given array line asked.event
judged-asked {line = line} given array asked judged = subst (λ (o : Option Entry). MatchOption o ⊥ (λ e. IsJudgedBy given array line e.event)) (entry_there asked) judged

-- a line of which nothing is asked
pub unjudged-asked : (size : ℕ) (line : Line) (old new : List Entry) (given : Given) (array : Record) (r : Result ℕ NoMemory) → IsAsked size line old new r
    → ((event : Event) → IsJudgedBy given array line event) → IfOk r (λ place. IsJudgedAt given array line new place)
unjudged-asked size line old new given array (Ok place) asked all = subst (λ (o : Option Entry). MatchOption o ⊥ (λ e. IsJudgedBy given array line e.event)) (sym (entry_there asked)) (all asked.event)
unjudged-asked size line old new given array (Err none) asked all = tt

-- ---- what each call says

module _ (given : Given) (array : Record) (line : Line) (new : List Entry) (place : ℕ) (at_end : place + 1 ≡ length new) where
  -- by the last entry
  judged-last : (inner : List Entry) (e : Entry) → new ≡ array.parts.entries ++ (inner ++ e ∷ []) → IsJudgedBy given array line e.event → IsJudgedAt given array line new place
  judged-last inner e is judged = subst (λ (o : Option Entry). MatchOption o ⊥ (λ x. IsJudgedBy given array line x.event)) (sym (last-there array.parts.entries new inner e place is at_end)) judged

  -- which may stand behind events of its call
  judged-behind : (who : Who) (end : ℕ) (inner : List Event) (event : Event) → new ≡ array.parts.entries ++ entries_of who end (inner ++ event ∷ []) → IsJudgedBy given array line event → IsJudgedAt given array line new place
  judged-behind who end inner event is judged =
      judged-last (entries_of who end inner) (one who end event) (is ∙ ap (λ (l : List Entry). array.parts.entries ++ l) (entries-both who end inner (event ∷ []))) judged

module _ (size : ℕ) (who : Who) (given : Given) (array : Record) (new : List Entry) (place : ℕ) (at_end : place + 1 ≡ length new) where
  -- an add
  module _ (slot : ℕ) where
    add-judged : (event : Event) → IsReplied size (AsksAdd slot) who array.parts.entries new event → IsJudgedBy given array (Add slot) event → IsJudgedAt given array (Add slot) new place
    add-judged event was judged = judged-behind given array (Add slot) new place at_end who was.end was.inner event was.is judged

    pub added-judged : (after : Members) (before now : ℕ → ℕ) (r : Result (Unit {0}) Fault) → IsAnswered size (AsksAdd slot) who array.parts.entries new (Added slot) r
        → IsAddedFor given array.parts.backup slot array.parts.members after before now r → r ≢ Err WantsMemory → IsJudgedAt given array (Add slot) new place
    added-judged after before now (Ok x) was cause some = add-judged (Added slot) was (cause.0)
    added-judged after before now (Err (IsRefusedWith (SlotFault failed))) was cause some = add-judged (Refused (SlotFault failed)) was (cause.1)
    added-judged after before now (Err (IsRefusedWith refusal)) was cause some = add-judged (Refused refusal) was (cause.0)
    added-judged after before now (Err WantsMemory) was cause some = absurd (some refl)

  -- a fail
  module _ (role : ℕ) where
    fail-judged : (event : Event) → IsReplied size (AsksFail role) who array.parts.entries new event → IsJudgedBy given array (Fail role) event → IsJudgedAt given array (Fail role) new place
    fail-judged event was judged = judged-behind given array (Fail role) new place at_end who was.end was.inner event was.is judged

    pub failed-judged : (after : Members) (r : Result (Unit {0}) Fault) → IsAnswered size (AsksFail role) who array.parts.entries new (Failed role) r → IsFailedFor role array.parts.members after r → r ≢ Err WantsMemory
        → IsJudgedAt given array (Fail role) new place
    failed-judged after (Ok x) was cause some = fail-judged (Failed role) was (cause.0)
    failed-judged after (Err (IsRefusedWith refusal)) was cause some = fail-judged (Refused refusal) was (cause.2)
    failed-judged after (Err WantsMemory) was cause some = absurd (some refl)

  -- a limit
  pub visible-judged : {B : Type 0} (tells : Type 0) (world : World) (ahead : ℕ) (members : Members) (limit : Option ℕ) (old later : RunningParts B) (r : Result ℕ Fault)
      → IsRepliedTo tells world ahead members (AsksVisible limit) who array.parts.entries new (Visible limit (visible_in later)) r → IsVisibleJudged (limit_refusal array limit) (visible_in later) r
      → IsLimitedAs (by_answer r limit array.limit) old later → old.parts.members ≡ array.parts.members → r ≢ Err WantsMemory → IsJudgedAt given array (ArraySize limit) new place
  visible-judged tells world ahead members limit old later (Ok count) was is limited same some =
      judged-behind given array (ArraySize limit) new place at_end who was.end [] (Visible limit (visible_in later)) was.is (is.0, λ i. visible_size ((limited.members ∙ same) i) (limited.limit_is i))
  visible-judged tells world ahead members limit old later (Err (IsRefusedWith refusal)) was is limited same some = judged-behind given array (ArraySize limit) new place at_end who was.end [] (Refused refusal) was.is is
  visible-judged tells world ahead members limit old later (Err WantsMemory) was is limited same some = absurd (some refl)

  -- a plan
  module _ (wish : Wish) (seen : IsSeen array) where
    planned-steps : {B : Type 0} (tells : Type 0) (world : World) (now : Given) (left : ℕ) (later : RunningParts B) → IsGrowPlanned tells now world wish left later → left ≡ running_left later → later.parts.members ≡ array.parts.members
        → running_left later ≡ phases_steps (shape_of array.parts.members.newest) array.parts.members.newest.size (phases (shape_of array.parts.members.newest) wish)
    planned-steps tells world now left later planned same members =
        sym same ∙ planned.left_is ∙ ap (λ (ps : List Phase). phases_steps (shape_of later.parts.members.newest) later.parts.members.newest.size ps) planned.ahead
        ∙ ap (λ (m : Members). phases_steps (shape_of m.newest) m.newest.size (phases (shape_of m.newest) wish)) members

    pub grown-judged : {B : Type 0} (tells : Type 0) (world after : World) (now : Given) (later : RunningParts B) (r : Result ℕ Fault) → IsGrowAnswered tells world (asked_in given array) wish who array.parts.entries new (Planned (running_left later) wish) r
        → IsGrowJudged (asked_in given array) wish r → IfOk r (λ left. IsGrowPlanned tells now after wish left later) → IfOk r (λ left. left ≡ running_left later) → later.parts.members ≡ array.parts.members → r ≢ Err WantsMemory
        → IsJudgedAt given array (Grow wish) new place
    grown-judged tells world after now later (Ok left) was is planned same members some =
        judged-behind given array (Grow wish) new place at_end who was.end [] (Planned (running_left later) wish) was.is (seen, is, planned-steps tells after now left later planned same members)
    grown-judged tells world after now later (Err (IsRefusedWith refusal)) was is planned same members some = judged-behind given array (Grow wish) new place at_end who was.end [] (Refused refusal) was.is (seen, is)
    grown-judged tells world after now later (Err WantsMemory) was is planned same members some = absurd (some refl)

  -- steps
  pub steps-judged : {most : ℕ} {event : Event} (left : ℕ) → IsAnsweredWith size (AsksSteps most) who array.parts.entries new event → IsStepCount array.parts.entries new (running_left array) left event → IsJudgedAt given array (Step most) new place
  steps-judged {most = most} {event = event} left was counted = judged-last given array (Step most) new place at_end was.inner (one who was.end event) was.is (by event counted)
    where
      by : (x : Event) → IsStepCount array.parts.entries new (running_left array) left x → IsJudgedBy given array (Step most) x
      by (Refused Nothing) is = is.0
      by (Stepped done after ended) is = is.2
      by x is = absurd is
