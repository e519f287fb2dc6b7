-- What one line does to a run, by the answer that it got.
use Rattle.std.proofs.Common.{◌≡◌, ℕ, ◌+◌, ◌*◌, ◌^◌, ◌<◌, fold, Bool, true, false, Option, Some, None, List, [], ◌∷◌, ◌++◌, length, length-append, refl, sym, ◌∙◌, ap, subst, arith, append-nil, take, take_all, Result, Ok, Err, inl, inr, ◌≤◌}
use Rattle.std.proofs.lemmas.List.Sums.{fold-append}
use Rattle.std.proofs.lemmas.List.{map-append, length-map}
use Rattle.std.proofs.lemmas.List.Elements.{All-nil, All-cons, All-push}
use Rattle.std.specs.Prelude.{slice_get, if◌then◌else◌, vec_capacity, MatchOption, IfOk, IfSome, IsFalse}
use Rattle.std.specs.Global.{Vec}
use Rattle.std.specs.List.{All}
use Rattle.std.specs.Option.{option_and_then, option_map_or}
use Rattle.run_requests.specs.raid_types_the_Shape.{Shape}
use Rattle.run_requests.specs.raid_types_the_NoMemory.{NoMemory}
use Rattle.run_requests.specs.raid_types_the_Refusal.{Refusal}
use Rattle.run_requests.specs.raid_types_the_Refusal_TheVariants.{Running as IsRunning}
use Rattle.run_requests.specs.raid_types_the_Status.{Status}
use Rattle.run_requests.specs.raid_types_the_Wish.{Wish}
use Rattle.run_requests.specs.raid_types_Shapes.{data_disks}
use Rattle.run_requests.specs.sb_specs_Reading.{is_reshaping, list_length}
use Rattle.run_requests.specs.reshape_request_Left.{phases_of}
use Rattle.run_requests.specs.reshape_request_the_PhasesLeft.{PhasesLeft}
use Rattle.run_requests.specs.array_specs_Parts.{RunningParts}
use Rattle.run_requests.specs.array_reply_specs_Replies.{RunningAnswers}
use Rattle.run_requests.specs.array_Calls.{IsShownAs}
use Rattle.run_requests.proofs.Sizes.{leaves-all, sized-now}
use Rattle.run_requests.proofs.CausedLaws.{shown-record, judged-asked}
use Rattle.run_requests.proofs.RecordLaws.{left-asked}
use Rattle.run_requests.proofs.run_specs_Turned.{found-told}
use Rattle.run_requests.specs.history_the_Entry.{Entry}
use Rattle.run_requests.specs.history_the_Epoch.{Epoch}
use Rattle.run_requests.specs.history_the_Event.{Event}
use Rattle.run_requests.specs.history_the_Event_TheVariants.{Shown, Stopped, Halted}
use Rattle.run_requests.specs.history_the_Request_TheVariants.{Read as AsksRead, Write as AsksWrite, Flush as AsksFlush, Fail as AsksFail, Add as AsksAdd, Visible as AsksVisible, Grow as AsksGrow, Steps as AsksSteps}
use Rattle.run_requests.specs.history_Flat.{rest_of_call, next_number, number_after, length_after, length_of}
use Rattle.run_requests.specs.history_Legal.{call_before}
use Rattle.run_requests.specs.history_Plain.{entries_of}
use Rattle.run_requests.specs.history_OneShape.{OneShapeAnswers}
use Rattle.run_requests.specs.history_Transfers.{last_end_from}
use Rattle.run_requests.proofs.history_OneShapeLegal.{last-snoc}
use Rattle.run_requests.specs.history_World.{World, opening_list}
use Rattle.run_requests.specs.history_Opened.{OpensSound}
use Rattle.run_requests.specs.bank_Given.{sizes}
use Rattle.run_requests.specs.sb_specs_the_Members.{Members}
use Rattle.run_requests.specs.array_members_the_Work.{Work}
use Rattle.run_requests.specs.array_call_specs_Adopting.{opener, absent_losses}
use Rattle.run_requests.specs.array_call_specs_Calls.{IsEndOf, IsEntered, world_for, AreLossesOf}
use Rattle.run_requests.specs.array_create_assemble_Creating.{create_refusal}
use Rattle.run_requests.specs.array_create_assemble_Opening.{AreGiven, array_of, scope_of}
use Rattle.run_requests.specs.array_create_assemble_Made.{used_slot}
use Rattle.run_requests.specs.array_create_assemble_Running.{IsCreated, OpensWithZeros}
use Rattle.run_requests.specs.script_the_CreateLine.{CreateLine}
use Rattle.run_requests.specs.history_monitor_the_Alert.{Alert}
use Rattle.run_requests.specs.script_the_Line.{Line}
use Rattle.run_requests.specs.script_the_Line_TheVariants.{Create, Read, Write, Flush, Fail, Add, ArraySize, Grow, Step, Wait, Alerts, Assemble}
use Rattle.run_requests.specs.run_specs_the_Outside_TheVariants.{Created, Assembled, Alerts as ToldAlerts, Refused}
use Rattle.run_requests.specs.run_specs_the_Answered_TheVariants.{Inside, Outside as IsOutside}
use Rattle.run_requests.specs.run_specs_the_State_TheVariants.{Idle, Running}
use Rattle.run_requests.specs.run_specs_Asked.{script_who, IsAskedAt, IsAsked, IsStillWaiting, IsWaited, IsSizedBy}
use Rattle.run_requests.specs.run_specs_Caused.{Record, record_of, IsJudgedBy, IsJudgedAt}
use Rattle.run_requests.specs.run_specs_Records.{IsLeftTold, AreAllAnswered, IsLeftBy, IsLeftAt, IsOfHistory, IsRecordFound, IsRecordedBy, IsRecorded}
use Rattle.run_requests.specs.Turning.{IsTellable, IsTurningTold}
use Rattle.run_requests.specs.run_specs_Histories.{History, history_of, histories_of, entry_at, is_end, AreGoing}
use Rattle.run_requests.specs.run_specs_Making.{Setting, held_at, history_world, MissingAtFirst, IsStoredNew, IsStoredAs}
use Rattle.run_requests.specs.run_specs_Blocks.{caller_of}
use Rattle.run_requests.specs.run_specs_Replies.{Course, with_script, at_rest, begun, gone_on, calls_behind, course_behind, entries_to, course_after, steps_at_once, IsRepliedAt, AreCallsTold, IsAnsweredInside, IsRefusedOutside, spec_of}
use Rattle.run_requests.specs.script_the_Lane.{Lane}
use Rattle.run_requests.specs.script_the_Lane_TheVariants.{Script as InScript, A as InA, B as InB, Worker as InWorker}
use Rattle.run_requests.specs.script_Seeds.{seeded}
use Rattle.run_requests.specs.run_specs_States.{EndsBetween, AreLossesBehind, AreLossesFrom, running_history, course_with, answer_at, IsGrown, AreGrown, AreLossesSince, IsTurn, IsNoTurn, IsTurnOrNone, RunsOwn, IsOwnEntry, AreByScript, IsByScript, IsOfScript, AreOfScript}
use Rattle.run_requests.proofs.run_specs_AskLaws.{one, with_reply, entry_there, replied_at}
use Rattle.run_line_answers.proofs.Ending.{gone_once, ended_once}
use Rattle.run_requests.proofs.Called.{HasCalled, called_none, called_once, called_own, called_grown, calls_in, calls_more, calls_cut}
use Rattle.run_requests.proofs.Waits.{waiting_at, waiting_called, waited_called, waited_reply}
use Rattle.run_requests.proofs.run_specs_Losses.{losses-kept, losses-last, losses-same, losses-came, losses-found, each-absent}
use Rattle.run_line_answers.proofs.Found.{IsFoundHere, found_world, found_history, still-length, stored_made}

-- nor does it count as one
-- the opening calls as nobody else
opening_number : (lane : Lane) (end : ℕ) (events : List Event) (n : ℕ) → fold (number_after (caller_of lane)) n (entries_of opener end events) ≡ n
opening_number lane end [] n = refl
opening_number InScript end (event ∷ events) n = opening_number InScript end events n
opening_number InA end (event ∷ events) n = opening_number InA end events n
opening_number InB end (event ∷ events) n = opening_number InB end events n
opening_number InWorker end (event ∷ events) n = opening_number InWorker end events n

-- ---- the history of the array that runs goes on

pub get_last : (hs : List History) (h : History) → slice_get (hs ++ h ∷ []) (length hs) ≡ Some h
get_last [] h = refl
get_last (x ∷ hs) h = get_last hs h

none_later : (entries : List Entry) → All (λ e. rest_of_call e [] ≡ []) entries
none_later [] = All-nil (λ (e : Entry). rest_of_call e [] ≡ [])
none_later (e ∷ entries) = All-cons (λ (e : Entry). rest_of_call e [] ≡ []) e entries refl (none_later entries)

grown_same : (h : History) → IsGrown h h
grown_same h = record { uuid = refl; given = refl; first = refl; more = []; grown = sym (append-nil h.entries); later = none_later h.entries }

pub grown_kept : (hs : List History) → AreGrown hs hs
grown_kept [] = tt
grown_kept (h ∷ hs) = (grown_same h, grown_kept hs)

pub grown_last : (hs : List History) (old new : History) → IsGrown old new → AreGrown (hs ++ old ∷ []) (hs ++ new ∷ [])
grown_last [] old new is = (is, tt)
grown_last (h ∷ hs) old new is = (grown_same h, grown_last hs old new is)

grown_came : (hs : List History) (new : History) → AreGrown hs (hs ++ new ∷ [])
grown_came [] new = tt
grown_came (h ∷ hs) new = (grown_same h, grown_came hs new)

-- nobody else has called behind calls of the script, the last of which has its reply at this place
module _ {size place : ℕ} {last : Line} {mid : List Entry} (old new : List Entry) (asked : IsAskedAt size last mid new place) (called : HasCalled old new) where
  calls_last : AreCallsTold (calls_in old) (take (place + 1) new) (slice_get new place)
  calls_last = subst (λ (o : Option Entry). AreCallsTold (calls_in old) (take (place + 1) new) o) (sym (entry_there asked))
      (subst (λ (l : List Entry). AreCallsTold (calls_in old) l (Some (one (script_who mid) asked.end asked.event))) (sym (take_all (place + 1) new (omega (arith, asked.at_end))))
      (λ lane. ap (λ (f : Lane → ℕ). f lane) (calls_more asked called)))

-- a line was answered by calls of the script, the last of them at this place, over the history of the array that runs
module _ {size : ℕ} {line last : Line} {place : ℕ} {mid : List Entry} (hs : List History) (old new : History) (asked : IsAskedAt size last mid new.entries place) (replied : IsRepliedAt size new.entries place (next_number 0 old.entries) line)
    (tellable : IsTellable new.entries place) (called : HasCalled old.entries new.entries) where
  pub answered_last : IsAnsweredInside (hs ++ new ∷ []) (record { opened = length hs + 1; running = true; calls = calls_in old.entries; size = size; block = [] }) (length hs) place line
  answered_last = record {
    running = refl;
    latest = refl;
    history = new;
    there = get_last hs new;
    replied = replied;
    tellable = tellable;
    calls = calls_last old.entries new.entries asked called;
  }

-- the entry of its reply
module _ {size : ℕ} {last : Line} {place : ℕ} {mid : List Entry} (hs : List History) (new : History) (asked : IsAskedAt size last mid new.entries place) where
  pub entry_last : entry_at (hs ++ new ∷ []) (length hs) place ≡ Some (one (script_who mid) asked.end asked.event)
  entry_last = ap (λ (o : Option History). option_and_then (λ h. slice_get h.entries place) o) (get_last hs new) ∙ entry_there asked

  -- all entries stand up to it
  all_last : entries_to (hs ++ new ∷ []) (length hs) place ≡ new.entries
  all_last = ap (λ (o : Option History). option_map_or (λ h. take (place + 1) h.entries) o []) (get_last hs new) ∙ take_all (place + 1) new.entries (omega (arith, asked.at_end))

  -- the record before it, and that behind it
  pub recorded_last : (setting : Setting) (line : Line) (old : Record) (next : Option Record) → IsRecordedBy setting line new.entries (Some (one (script_who mid) asked.end asked.event)) old next
      → IsRecordedBy setting line (entries_to (hs ++ new ∷ []) (length hs) place) (entry_at (hs ++ new ∷ []) (length hs) place) old next
  recorded_last setting line old next is =
      subst (λ (o : Option Entry). IsRecordedBy setting line (entries_to (hs ++ new ∷ []) (length hs) place) o old next) (sym entry_last)
      (subst (λ (l : List Entry). IsRecordedBy setting line l (Some (one (script_who mid) asked.end asked.event)) old next) (sym all_last) is)

  -- where the run stands behind it
  pub course_last : (course : Course) (line : Line) → course_after (hs ++ new ∷ []) course InScript line (Inside (length hs) place) ≡ course_behind InScript course new.entries (one (script_who mid) asked.end asked.event)
  course_last course line = ap (λ (o : Option Entry). option_map_or (course_behind InScript course (entries_to (hs ++ new ∷ []) (length hs) place)) o course) entry_last
      ∙ ap (λ (l : List Entry). course_behind InScript course l (one (script_who mid) asked.end asked.event)) all_last

  -- and when it ended
  pub between_last : (low high : ℕ) → low ≤ asked.end → asked.end ≤ high → EndsBetween low high (hs ++ new ∷ []) (Inside (length hs) place)
  between_last low high above below = subst (λ (o : Option Entry). MatchOption o ⊥ (λ e. (low ≤ e.end) × (e.end ≤ high))) (sym entry_last) (above, below)

-- a read, a write, a flush, a fail, an add and steps end no epoch
goes_read : (size : ℕ) (before call : List Entry) (at count : ℕ) (event : Event) → OneShapeAnswers size before call (AsksRead at count) event → is_end event ≡ false
goes_read size before call at count Stopped is = absurd is
goes_read size before call at count Halted is = absurd is
goes_read size before call at count event is = refl

goes_write : (size : ℕ) (before call : List Entry) (at : ℕ) (body : List (List ℕ)) (event : Event) → RunningAnswers size before call (AsksWrite at body) event → is_end event ≡ false
goes_write size before call at body Stopped is = absurd is
goes_write size before call at body Halted is = absurd is
goes_write size before call at body event is = refl

goes_flush : (size : ℕ) (before call : List Entry) (event : Event) → OneShapeAnswers size before call AsksFlush event → is_end event ≡ false
goes_flush size before call Stopped is = absurd is
goes_flush size before call Halted is = absurd is
goes_flush size before call event is = refl

goes_fail : (size : ℕ) (before call : List Entry) (role : ℕ) (event : Event) → OneShapeAnswers size before call (AsksFail role) event → is_end event ≡ false
goes_fail size before call role Stopped is = absurd is
goes_fail size before call role Halted is = absurd is
goes_fail size before call role event is = refl

goes_add : (size : ℕ) (before call : List Entry) (slot : ℕ) (event : Event) → OneShapeAnswers size before call (AsksAdd slot) event → is_end event ≡ false
goes_add size before call slot Stopped is = absurd is
goes_add size before call slot Halted is = absurd is
goes_add size before call slot event is = refl

goes_visible : (size : ℕ) (before call : List Entry) (limit : Option ℕ) (event : Event) → RunningAnswers size before call (AsksVisible limit) event → is_end event ≡ false
goes_visible size before call limit Stopped is = absurd is
goes_visible size before call limit Halted is = absurd is
goes_visible size before call limit event is = refl

goes_grow : (size : ℕ) (before call : List Entry) (wish : Wish) (event : Event) → RunningAnswers size before call (AsksGrow wish) event → is_end event ≡ false
goes_grow size before call wish Stopped is = absurd is
goes_grow size before call wish Halted is = absurd is
goes_grow size before call wish event is = refl

goes_steps : (size : ℕ) (before call : List Entry) (most : ℕ) (event : Event) → RunningAnswers size before call (AsksSteps most) event → is_end event ≡ false
goes_steps size before call most Stopped is = absurd is
goes_steps size before call most Halted is = absurd is
goes_steps size before call most event is = refl

-- what stands before the reply in its call
abbrev call_of : {size place : ℕ} {line : Line} {old new : List Entry} → IsAskedAt size line old new place → List Entry
call_of {old = old} asked = call_before (old ++ asked.inner) (one (script_who old) asked.end asked.event)

pub going_read : {size place : ℕ} {old new : List Entry} (at count : ℕ) (asked : IsAskedAt size (Read at count) old new place) → is_end asked.event ≡ false
going_read {size = size} {old = old} at count asked = goes_read size (old ++ asked.inner) (call_of asked) at count asked.event asked.fits.answers

pub going_write : {size place : ℕ} {old new : List Entry} (at count seed : ℕ) (asked : IsAskedAt size (Write at count seed) old new place) → is_end asked.event ≡ false
going_write {size = size} {old = old} at count seed asked = goes_write size (old ++ asked.inner) (call_of asked) at (seeded seed at count) asked.event asked.fits.answers

pub going_flush : {size place : ℕ} {old new : List Entry} (asked : IsAskedAt size Flush old new place) → is_end asked.event ≡ false
going_flush {size = size} {old = old} asked = goes_flush size (old ++ asked.inner) (call_of asked) asked.event asked.fits.answers

pub going_fail : {size place : ℕ} {old new : List Entry} (role : ℕ) (asked : IsAskedAt size (Fail role) old new place) → is_end asked.event ≡ false
going_fail {size = size} {old = old} role asked = goes_fail size (old ++ asked.inner) (call_of asked) role asked.event asked.fits.answers

pub going_add : {size place : ℕ} {old new : List Entry} (slot : ℕ) (asked : IsAskedAt size (Add slot) old new place) → is_end asked.event ≡ false
going_add {size = size} {old = old} slot asked = goes_add size (old ++ asked.inner) (call_of asked) slot asked.event asked.fits.answers

pub going_visible : {size place : ℕ} {old new : List Entry} (limit : Option ℕ) (asked : IsAskedAt size (ArraySize limit) old new place) → is_end asked.event ≡ false
going_visible {size = size} {old = old} limit asked = goes_visible size (old ++ asked.inner) (call_of asked) limit asked.event asked.fits.answers

pub going_grow : {size place : ℕ} {old new : List Entry} (wish : Wish) (asked : IsAskedAt size (Grow wish) old new place) → is_end asked.event ≡ false
going_grow {size = size} {old = old} wish asked = goes_grow size (old ++ asked.inner) (call_of asked) wish asked.event asked.fits.answers

pub going_steps : {size place : ℕ} {old new : List Entry} (most : ℕ) (asked : IsAskedAt size (Step most) old new place) → is_end asked.event ≡ false
going_steps {size = size} {old = old} most asked = goes_steps size (old ++ asked.inner) (call_of asked) most asked.event asked.fits.answers

-- a wait ends none
gone_waiting : (size : ℕ) (old new : List Entry) (earlier : List ℕ) → IsStillWaiting size old earlier new → AreGoing old → AreGoing new
gone_waiting size old new [] same was = subst (λ (l : List Entry). AreGoing l) (sym same) was
gone_waiting size old new (first ∷ others) (mid, one, more, rest) was = gone_waiting size mid new others rest (gone_once one (going_steps steps_at_once one) was)

-- ---- the array that runs was called

-- between where the run stood and where it stands
abbrev pub EndsWithin : Setting → ℕ → Type 0
EndsWithin setting end = (setting.began ≤ end) × (end ≤ length setting.tape)

-- a call whose entries end where the tape does
pub at_the_end : {size place : ℕ} {line : Line} (setting : Setting) (old new : List Entry) (asked : IsAskedAt size line old new place) (first : ℕ) → setting.tells → setting.began ≤ length setting.tape
    → IsEndOf setting.tells first new setting.tape → EndsWithin setting asked.end
at_the_end setting old new asked first t longer ended =
    let last = last_end-snoc first (old ++ asked.inner) (one (script_who old) asked.end asked.event) in
    let same : asked.end ≡ length setting.tape = sym last ∙ sym (ap (λ (l : List Entry). last_end_from first l) (with_reply asked)) ∙ ended t in
    (omega (arith, longer, same), omega (arith, same))
  where
    last_end-snoc : (first : ℕ) (xs : List Entry) (e : Entry) → last_end_from first (xs ++ e ∷ []) ≡ e.end
    last_end-snoc first xs e = ap (λ (o : Option Entry). option_map_or (λ (x : Entry). x.end) o first) (last-snoc xs e)

module _ {B : Type 0} (setting : Setting) (old new : RunningParts B) (epochs : Vec Epoch) (own : RunsOwn (Running old epochs)) (lost : AreLossesSince setting old.parts.entries (running_history new.parts)) (uuid : new.parts.uuid ≡ old.parts.uuid) (given : new.parts.given ≡ old.parts.given)
    (first : new.parts.first ≡ old.parts.first) (sized : IsSizedBy (list_length old.parts.members.newest) (list_length new.parts.members.newest) old.parts.entries new.parts.entries)
    (turning : IsTurningTold (is_reshaping new.parts.members.newest) (phases_of new.ahead) new.parts.entries) (counted : IsLeftTold (record_of new)) where
  abbrev hs : List History
  hs = histories_of epochs.items

  abbrev k : ℕ
  k = length epochs.items

  len : length hs ≡ k
  len = length-map epochs.items history_of

  now_sized : (length_of (list_length old.parts.members.newest) new.parts.entries ≡ list_length new.parts.members.newest) × (length_of (list_length new.parts.members.newest) new.parts.entries ≡ list_length new.parts.members.newest)
  now_sized = sized-now own.sized sized

  -- it was called, and goes on
  called_own_still : HasCalled old.parts.entries new.parts.entries → AreGoing new.parts.entries → RunsOwn (Running new epochs)
  called_own_still called going = record { former = own.former; script = called_own called own.script; going = going; sized = now_sized.1; turning = turning; room = own.room; few = own.few }

  called_grown_still : HasCalled old.parts.entries new.parts.entries → AreGrown (hs ++ running_history old.parts ∷ []) (hs ++ running_history new.parts ∷ [])
  called_grown_still called = grown_last hs (running_history old.parts) (running_history new.parts) (called_grown (running_history old.parts) (running_history new.parts) called uuid given first own.script)

  -- where the run stands behind its last call
  course_asked : {last : Line} {mid : List Entry} {place : ℕ} (line : Line) (asked : IsAskedAt (list_length old.parts.members.newest) last mid new.parts.entries place) → HasCalled old.parts.entries new.parts.entries → is_end asked.event ≡ false
      → course_with k new ≡ course_after (hs ++ running_history new.parts ∷ []) (course_with k old) InScript line (Inside k place)
  course_asked {mid = mid} {place = place} line asked called goes =
      ap (λ (f : Lane → ℕ). record { opened = k + 1; running = true; calls = f; size = list_length new.parts.members.newest; block = [] }) (calls_more asked called)
      ∙ ap (λ (n : ℕ). record { opened = k + 1; running = true; calls = calls_behind (calls_in old.parts.entries) (one (script_who mid) asked.end asked.event); size = n; block = [] }) (sym now_sized.0)
      ∙ sym (ap (λ (n : ℕ). course_after (hs ++ running_history new.parts ∷ []) (course_with k old) InScript line (Inside n place)) (sym len)
      ∙ course_last hs (running_history new.parts) asked (course_with k old) line
      ∙ ap (λ (b : Bool). if b then at_rest (k + 1) else gone_on (calls_behind (calls_in old.parts.entries) (one (script_who mid) asked.end asked.event)) (length_of (list_length old.parts.members.newest) new.parts.entries) (course_with k old)) goes)

  -- it answered
  pub turn_called : {last : Line} {mid : List Entry} (line : Line) (place : ℕ) (asked : IsAskedAt (list_length old.parts.members.newest) last mid new.parts.entries place) → HasCalled old.parts.entries new.parts.entries → AreGoing new.parts.entries
      → IsRepliedAt (list_length old.parts.members.newest) new.parts.entries place (next_number 0 old.parts.entries) line → IsTellable new.parts.entries place → new.parts.backup ≡ setting.backup → IsJudgedBy setting.given (record_of old) line asked.event → IsLeftBy setting.before setting.now (record_of old) (record_of new) line asked.event
      → (setting.tells → EndsWithin setting asked.end) → is_end asked.event ≡ false → IsTurn setting (Running old epochs) (Running new epochs) line (Inside k place)
  turn_called line place asked called going replied tellable backed judged left ended goes = record {
    own = called_own_still called going;
    losses = losses-last setting hs (running_history old.parts) (running_history new.parts) lost;
    grown = called_grown_still called;
    ends = λ t. subst (λ (n : ℕ). EndsBetween setting.began (length setting.tape) (hs ++ running_history new.parts ∷ []) (Inside n place)) len
        (between_last hs (running_history new.parts) asked setting.began (length setting.tape) (ended t).0 (ended t).1);
    answer = subst (λ (n : ℕ). IsAnsweredInside (hs ++ running_history new.parts ∷ []) (record { opened = n + 1; running = true; calls = calls_in old.parts.entries; size = list_length old.parts.members.newest; block = [] }) n place line) len
        (answered_last hs (running_history old.parts) (running_history new.parts) asked replied tellable called);
    course = course_asked line asked called goes;
    recorded = subst (λ (n : ℕ). IsRecorded setting (hs ++ running_history new.parts ∷ []) line (Inside n place) (Some (record_of old)) (Some (record_of new))) len (
      recorded_last hs (running_history new.parts) asked setting line (record_of old) (Some (record_of new)) (judged, (backed, refl, counted, left)),
      subst (λ (o : Option History). MatchOption o ⊥ (λ history. IsOfHistory history (record_of new))) (sym (get_last hs (running_history new.parts))) (refl, refl, refl),
    );
  }

  pub turn_asked : (line : Line) (place : ℕ) (asked : IsAskedAt (list_length old.parts.members.newest) line old.parts.entries new.parts.entries place) → IsTellable new.parts.entries place
      → new.parts.backup ≡ setting.backup → IsJudgedAt setting.given (record_of old) line new.parts.entries place → IsLeftAt setting.before setting.now (record_of old) (record_of new) line new.parts.entries place
      → (setting.tells → EndsWithin setting asked.end) → is_end asked.event ≡ false → IsTurn setting (Running old epochs) (Running new epochs) line (Inside k place)
  turn_asked line place asked tellable backed judged left ended goes =
      turn_called line place asked (called_once asked) (gone_once asked goes own.going) (replied_at line asked) tellable backed (judged-asked setting.given (record_of old) asked judged)
      (left-asked setting.before setting.now (record_of old) (record_of new) asked left) ended goes

  -- memory was short for it
  pub no_turn : (line : Line) → new.parts.entries ≡ old.parts.entries → IsNoTurn setting (Running old epochs) (Running new epochs) line
  no_turn line same = record {
    own = called_own_still (called_none same) (subst (λ (l : List Entry). AreGoing l) (sym same) own.going);
    losses = losses-last setting hs (running_history old.parts) (running_history new.parts) lost;
    grown = called_grown_still (called_none same);
    course = inl (course_same same);
  }
    where
      course_same : new.parts.entries ≡ old.parts.entries → course_with k new ≡ course_with k old
      course_same same = ap (λ (l : List Entry). record { opened = k + 1; running = true; calls = calls_in l; size = list_length new.parts.members.newest; block = [] }) same
          ∙ ap (λ (n : ℕ). record { opened = k + 1; running = true; calls = calls_in old.parts.entries; size = n; block = [] }) (sym now_sized.0 ∙ ap (λ (l : List Entry). length_of (list_length old.parts.members.newest) l) same ∙ own.sized)

  pub turn_of_ask : (line : Line) (r : Result ℕ NoMemory) → ((place : ℕ) (asked : IsAskedAt (list_length old.parts.members.newest) line old.parts.entries new.parts.entries place) → is_end asked.event ≡ false)
      → (setting.tells → setting.began ≤ length setting.tape) → IfOk r (λ place. IsEndOf setting.tells new.parts.first new.parts.entries setting.tape) → IfOk r (λ place. IsTellable new.parts.entries place)
      → new.parts.backup ≡ setting.backup → IfOk r (λ place. IsJudgedAt setting.given (record_of old) line new.parts.entries place) → IfOk r (λ place. IsLeftAt setting.before setting.now (record_of old) (record_of new) line new.parts.entries place)
      → IsAsked (list_length old.parts.members.newest) line old.parts.entries new.parts.entries r → IsTurnOrNone setting (Running old epochs) (Running new epochs) line (answer_at k r)
  turn_of_ask line (Ok place) going longer ended tellable backed judged left asked = turn_asked line place asked tellable backed judged left (λ t. at_the_end setting old.parts.entries new.parts.entries asked new.parts.first t (longer t) ended) (going place asked)
  turn_of_ask line (Err fault) going longer ended tellable backed judged left asked = no_turn line asked

  -- memory was short for one of the calls of a wait
  no_turn_waiting : (earlier : List ℕ) → IsStillWaiting (list_length old.parts.members.newest) old.parts.entries earlier new.parts.entries → IsNoTurn setting (Running old epochs) (Running new epochs) Wait
  no_turn_waiting earlier was = record {
    own = called_own_still (waiting_called (list_length old.parts.members.newest) old.parts.entries new.parts.entries earlier was) (gone_waiting (list_length old.parts.members.newest) old.parts.entries new.parts.entries earlier was own.going);
    losses = losses-last setting hs (running_history old.parts) (running_history new.parts) lost;
    grown = called_grown_still (waiting_called (list_length old.parts.members.newest) old.parts.entries new.parts.entries earlier was);
    course = inr record {
      running = refl;
      place = k;
      latest = refl;
      history = running_history new.parts;
      there = subst (λ (n : ℕ). slice_get (hs ++ running_history new.parts ∷ []) n ≡ Some (running_history new.parts)) len (get_last hs (running_history new.parts));
      earlier = earlier;
      next = next_number 0 new.parts.entries;
      waiting = waiting_at (list_length old.parts.members.newest) old.parts.entries new.parts.entries earlier own.script was;
      upto = length new.parts.entries;
      within = omega arith;
      now = ap (λ (f : Lane → ℕ). gone_on f (list_length new.parts.members.newest) (course_with k old)) (calls_cut (waiting_called (list_length old.parts.members.newest) old.parts.entries new.parts.entries earlier was))
          ∙ ap (λ (n : ℕ). gone_on (with_script (next_number 0 new.parts.entries) (calls_in old.parts.entries)) n (course_with k old))
          (sym now_sized.0 ∙ ap (λ (l : List Entry). length_of (list_length old.parts.members.newest) l) (sym (take_all (length new.parts.entries) new.parts.entries (omega arith))));
    };
  }

  pub turn_of_wait : (r : Result ℕ NoMemory) → (setting.tells → setting.began ≤ length setting.tape) → IsEndOf setting.tells new.parts.first new.parts.entries setting.tape → IfOk r (λ place. IsTellable new.parts.entries place)
      → new.parts.backup ≡ setting.backup → IfOk r (λ place. (others : List Record) × AreAllAnswered setting.before setting.now (record_of old) others (record_of new)) → IsWaited (list_length old.parts.members.newest) old.parts.entries new.parts.entries r
      → IsTurnOrNone setting (Running old epochs) (Running new epochs) Wait (answer_at k r)
  turn_of_wait (Ok place) longer ended tellable backed stepped was =
      turn_called Wait place was.asked (waited_called was)
      (gone_once was.asked (going_steps steps_at_once was.asked) (gone_waiting (list_length old.parts.members.newest) old.parts.entries was.between was.earlier was.waiting own.going))
      (waited_reply own.script was) tellable backed tt stepped (λ t. at_the_end setting was.between new.parts.entries was.asked new.parts.first t (longer t) ended) (going_steps steps_at_once was.asked)
  turn_of_wait (Err fault) longer ended tellable backed stepped (earlier, was) = no_turn_waiting earlier was

-- it was not called, and goes on
pub turn_refused : {B : Type 0} (setting : Setting) (array : RunningParts B) (epochs : Vec Epoch) (line : Line) → RunsOwn (Running array epochs) → (setting.tells → setting.began ≤ length setting.tape) → IsRefusedOutside setting true (length setting.tape) line IsRunning
    → IsTurn setting (Running array epochs) (Running array epochs) line (IsOutside (Refused IsRunning))
turn_refused setting array epochs line own longer refused = record {
  own = own;
  losses = losses-kept setting (histories_of epochs.items ++ running_history array.parts ∷ []);
  grown = grown_kept (histories_of epochs.items ++ running_history array.parts ∷ []);
  ends = longer;
  answer = refused;
  course = refl;
  recorded = refl;
}

-- its alerts were told
pub turn_alerts : {B : Type 0} (setting : Setting) (array : RunningParts B) (epochs : Vec Epoch) (line : Line) (list : List Alert) → RunsOwn (Running array epochs) → (setting.tells → setting.began ≤ length setting.tape) → line ≡ Alerts
    → IsTurn setting (Running array epochs) (Running array epochs) line (IsOutside (ToldAlerts list))
turn_alerts setting array epochs line list own longer asked = record {
  own = own;
  losses = losses-kept setting (histories_of epochs.items ++ running_history array.parts ∷ []);
  grown = grown_kept (histories_of epochs.items ++ running_history array.parts ∷ []);
  ends = longer;
  answer = (refl, asked);
  course = refl;
  recorded = refl;
}

-- ---- the array that ran has ended

module _ {B : Type 0} (setting : Setting) (old : RunningParts B) (epoch : Epoch) (bank : B) (epochs ended : Vec Epoch) (items : ended.items ≡ epochs.items ++ epoch ∷ []) (own : RunsOwn (Running old epochs))
    (lost : AreLossesSince setting old.parts.entries (history_of epoch)) (uuid : epoch.uuid ≡ old.parts.uuid) (given : epoch.given ≡ old.parts.given) (first : epoch.first ≡ old.parts.first) where
  abbrev before : List History
  before = histories_of epochs.items

  abbrev count : ℕ
  count = length epochs.items

  counted : length before ≡ count
  counted = length-map epochs.items history_of

  pub now_are : histories_of ended.items ≡ before ++ history_of epoch ∷ []
  now_are = ap (λ (l : List Epoch). histories_of l) items ∙ map-append history_of epochs.items (epoch ∷ [])

  now_many : length ended.items ≡ count + 1
  now_many = ap (λ (l : List Epoch). length l) items ∙ length-append epochs.items (epoch ∷ [])

  pub turn_ended : (line : Line) (place : ℕ) (asked : IsAskedAt (list_length old.parts.members.newest) line old.parts.entries epoch.entries.items place) → IsTellable epoch.entries.items place
      → AreLossesOf old.parts.members setting.before setting.now old.parts.entries epoch.entries.items → IsJudgedBy setting.given (record_of old) line asked.event → (setting.tells → EndsWithin setting asked.end) → is_end asked.event ≡ true → IsTurn setting (Running old epochs) (Idle bank ended) line (Inside count place)
  turn_ended line place asked tellable failed judged within ends =
      let now = history_of epoch in
      let called = called_once asked in
      record {
        own = subst (λ (l : List History). AreOfScript l) (sym now_are) (All-push IsOfScript before now own.former (record { script = called_own called own.script; once = ended_once asked own.going }));
        losses = subst (λ (l : List History). AreLossesFrom setting (before ++ running_history old.parts ∷ []) l) (sym now_are) (losses-last setting before (running_history old.parts) now lost);
        grown = subst (λ (l : List History). AreGrown (before ++ running_history old.parts ∷ []) l) (sym now_are)
            (grown_last before (running_history old.parts) now (called_grown (running_history old.parts) now called uuid given first own.script));
        ends = λ t. subst (λ (l : List History). EndsBetween setting.began (length setting.tape) l (Inside count place)) (sym now_are)
            (subst (λ (n : ℕ). EndsBetween setting.began (length setting.tape) (before ++ now ∷ []) (Inside n place)) counted
            (between_last before now asked setting.began (length setting.tape) (within t).0 (within t).1));
        answer = subst (λ (l : List History). IsAnsweredInside l (course_with count old) count place line) (sym now_are)
            (subst (λ (n : ℕ). IsAnsweredInside (before ++ now ∷ []) (record { opened = n + 1; running = true; calls = calls_in old.parts.entries; size = list_length old.parts.members.newest; block = [] }) n place line) counted
            (answered_last before (running_history old.parts) now asked (replied_at line asked) tellable called));
        course = ap (λ (n : ℕ). at_rest n) now_many
            ∙ sym (ap (λ (l : List History). course_after l (course_with count old) InScript line (Inside count place)) now_are
            ∙ ap (λ (n : ℕ). course_after (before ++ now ∷ []) (course_with count old) InScript line (Inside n place)) (sym counted)
            ∙ course_last before now asked (course_with count old) line
            ∙ ap (λ (b : Bool). if b then at_rest (count + 1) else gone_on (calls_behind (calls_in old.parts.entries) (one (script_who old.parts.entries) asked.end asked.event)) (length_of (list_length old.parts.members.newest) now.entries) (course_with count old)) ends);
        recorded = (
          subst (λ (l : List History). IsRecordedBy setting line (entries_to l count place) (entry_at l count place) (record_of old) None) (sym now_are)
              (subst (λ (n : ℕ). IsRecordedBy setting line (entries_to (before ++ now ∷ []) n place) (entry_at (before ++ now ∷ []) n place) (record_of old) None) counted
              (recorded_last before now asked setting line (record_of old) None (judged, (ends, failed)))),
          tt,
        );
      }

-- ---- no array ran

module _ {B : Type 0} (setting : Setting) (bank : B) (olds epochs : Vec Epoch) (same : epochs.items ≡ olds.items) (own : RunsOwn (Idle bank olds)) where
  -- a line is refused
  pub turn_idle : (left : B) (line : Line) (refusal : Refusal) → (setting.tells → setting.began ≤ length setting.tape) → IsRefusedOutside setting false (length setting.tape) line refusal → IsTurn setting (Idle bank olds) (Idle left epochs) line (IsOutside (Refused refusal))
  turn_idle left line refusal longer is = record {
    own = subst (λ (l : List Epoch). AreOfScript (histories_of l)) (sym same) own;
    losses = subst (λ (l : List Epoch). AreLossesFrom setting (histories_of l) (histories_of epochs.items)) same (losses-kept setting (histories_of epochs.items));
    grown = subst (λ (l : List Epoch). AreGrown (histories_of l) (histories_of epochs.items)) same (grown_kept (histories_of epochs.items));
    ends = longer;
    answer = is;
    course = ap (λ (l : List Epoch). at_rest (length l)) same;
    recorded = refl;
  }

  -- memory was short
  pub no_turn_idle : (left : B) (line : Line) → IsNoTurn setting (Idle bank olds) (Idle left epochs) line
  no_turn_idle left line = record {
    own = subst (λ (l : List Epoch). AreOfScript (histories_of l)) (sym same) own;
    losses = subst (λ (l : List Epoch). AreLossesFrom setting (histories_of l) (histories_of epochs.items)) same (losses-kept setting (histories_of epochs.items));
    grown = subst (λ (l : List Epoch). AreGrown (histories_of l) (histories_of epochs.items)) same (grown_kept (histories_of epochs.items));
    course = inl (ap (λ (l : List Epoch). at_rest (length l)) same);
  }

  -- an array was opened
  module _ (array : RunningParts B) (room : length epochs.items < vec_capacity epochs) (few : length epochs.items < 2 ^ 32) (longer : setting.tells → setting.began ≤ length setting.tape) where
    opened_own : IsByScript (running_history array.parts) → AreGoing array.parts.entries → length_of (list_length array.parts.members.newest) array.parts.entries ≡ list_length array.parts.members.newest
        → IsTurningTold (is_reshaping array.parts.members.newest) (phases_of array.ahead) array.parts.entries → RunsOwn (Running array epochs)
    opened_own script going sized turning = record {
      former = subst (λ (l : List Epoch). AreOfScript (histories_of l)) (sym same) own;
      script = script;
      going = going;
      sized = sized;
      turning = turning;
      room = room;
      few = few;
    }

    opened_losses : AreLossesSince setting [] (running_history array.parts) → AreLossesFrom setting (histories_of olds.items) (histories_of epochs.items ++ running_history array.parts ∷ [])
    opened_losses lost = subst (λ (l : List Epoch). AreLossesFrom setting (histories_of l) (histories_of epochs.items ++ running_history array.parts ∷ [])) same
        (losses-came setting (histories_of epochs.items) (running_history array.parts) lost)

    opened_grown : AreGrown (histories_of olds.items) (histories_of epochs.items ++ running_history array.parts ∷ [])
    opened_grown = subst (λ (l : List Epoch). AreGrown (histories_of l) (histories_of epochs.items ++ running_history array.parts ∷ [])) same (grown_came (histories_of epochs.items) (running_history array.parts))

    opened_there : slice_get (histories_of epochs.items ++ running_history array.parts ∷ []) (length olds.items) ≡ Some (running_history array.parts)
    opened_there = ap (λ (n : ℕ). slice_get (histories_of epochs.items ++ running_history array.parts ∷ []) n) (ap (λ (l : List Epoch). length l) (sym same) ∙ sym (length-map epochs.items history_of))
        ∙ get_last (histories_of epochs.items) (running_history array.parts)

    opened_course : (calls size : ℕ) → ((lane : Lane) → calls_in array.parts.entries lane ≡ with_script calls (λ lane. 0) lane) → list_length array.parts.members.newest ≡ size → course_with (length epochs.items) array ≡ begun (length olds.items) calls size
    opened_course calls size numbered sized = ap (λ (l : List Epoch). record { opened = length l + 1; running = true; calls = calls_in array.parts.entries; size = list_length array.parts.members.newest; block = [] }) same
        ∙ ap (λ (f : Lane → ℕ). record { opened = length olds.items + 1; running = true; calls = f; size = list_length array.parts.members.newest; block = [] }) (λ i lane. numbered lane i)
        ∙ ap (λ (n : ℕ). record { opened = length olds.items + 1; running = true; calls = with_script calls (λ lane. 0); size = n; block = [] }) sized

    no_entries : array.parts.entries ≡ [] → IsByScript (running_history array.parts)
    no_entries none = subst (λ (l : List Entry). AreByScript l l) (sym none) (All-nil (IsOwnEntry []))

    pub turn_created : (line : CreateLine) → create_refusal setting.given setting.backup (spec_of line) ≡ None → IsCreated setting.tells setting.given setting.tape setting.backup (spec_of line) array.parts → phases_of array.ahead ≡ [] → array.limit ≡ None
        → (setting.tells → used_slot (scope_of setting.given setting.backup array.parts.given line.uuid) (held_at setting (length setting.tape)) line.shape.disks ≡ None)
        → IsTurn setting (Idle bank olds) (Running array epochs) (Create line) (IsOutside Created)
    turn_created line unrefused made planless unlimited free = record {
      own = opened_own (no_entries made.quiet) (subst (λ (l : List Entry). AreGoing l) (sym made.quiet) (All-nil (λ e. IsFalse (is_end e.event)))) (ap (λ (l : List Entry). length_of (list_length array.parts.members.newest) l) made.quiet) (record { active_told = λ none. made.opened.still; ahead_told = λ none. planless });
      losses = opened_losses (losses-same setting [] (running_history array.parts) made.quiet);
      grown = opened_grown;
      ends = longer;
      answer = (
        refl,
        record {
          unrefused = unrefused;
          history = running_history array.parts;
          there = opened_there;
          named = made.begun.uuid ∙ made.new.uuid;
          given = made.new.given;
          first = made.begun.first;
          zeros = λ t. subst (λ (w : World). OpensWithZeros (data_disks line.shape * line.size) (opening_list w)) (world_is made.begun.backup_is) (made.zeros t);
          free = free;
          stored = λ t. subst (λ (w : World). IsStoredNew w (spec_of line)) (found_history setting array.parts (running_history array.parts) (sym made.begun.uuid) refl (sym (made.begun.first t)))
              (stored_made setting.given setting.tape setting.backup (spec_of line) array.parts made t);
          sound = λ t. subst OpensSound (world_is made.begun.backup_is) (made.sound t);
        },
      );
      course = opened_course 0 (data_disks line.shape * line.size) none_called
          (still-length array.parts.members.newest made.opened.still ∙ ap (λ (s : Shape). data_disks s * array.parts.members.newest.size) made.new.shape ∙ ap (λ (n : ℕ). data_disks line.shape * n) made.new.size);
      recorded = record {
        backup_is = made.begun.backup_is;
        quiet = made.quiet;
        shape = made.new.shape;
        size = made.new.size;
        still = made.opened.still;
        roles = made.new.members.roles;
        spares = made.new.members.spares;
        resync = ap (λ (w : Work). w.resync) made.begun.work ∙ ap (λ (b : Bool). if b then None else Some 0) made.new.clean;
        planless = planless;
        unlimited = unlimited;
      };
    }
      where
        none_called : (lane : Lane) → calls_in array.parts.entries lane ≡ with_script 0 (λ lane. 0) lane
        none_called InScript = ap (λ (l : List Entry). next_number 0 l) made.quiet
        none_called InA = ap (λ (l : List Entry). next_number 1 l) made.quiet
        none_called InB = ap (λ (l : List Entry). next_number 2 l) made.quiet
        none_called InWorker = ap (λ (l : List Entry). next_number 255 l) made.quiet

        world_is : array.parts.backup ≡ setting.backup → world_for setting.given setting.tape array.parts ≡ history_world setting (running_history array.parts)
        world_is is = ap (λ (b : Option ℕ). record { start = setting.given.start; tape = setting.tape; scope = record { uuid = array.parts.uuid; given = array.parts.given; backup = b; sizes = sizes setting.given }; first = array.parts.first }) is

    -- it was found, and its opening told what was missing
    module _ (found : RunningParts B) (asked : Option (List ℕ)) (is : IsFoundHere setting.tells setting.given setting.tape setting.backup asked setting.before setting.now found) (uuid : array.parts.uuid ≡ found.parts.uuid) (given : array.parts.given ≡ found.parts.given) (first : array.parts.first ≡ found.parts.first) where
      abbrev losses : List Event
      losses = absent_losses is.r is.n

      found_entries : found.parts.entries ≡ entries_of opener array.parts.first losses
      found_entries = is.entries ∙ ap (λ (n : ℕ). entries_of opener n losses) (sym first)

      found_number : next_number 0 found.parts.entries ≡ 0
      found_number = ap (λ (l : List Entry). next_number 0 l) found_entries ∙ opening_number InScript array.parts.first losses 0

      losses_own : (history : List Entry) → AreByScript history (entries_of opener array.parts.first losses)
      losses_own history = each-absent (IsOwnEntry history) opener array.parts.first is.r is.n (λ role lt missing. (inr (refl, refl, tt), inr (refl, refl, tt)))

      losses_go : AreGoing (entries_of opener array.parts.first losses)
      losses_go = each-absent (λ e. IsFalse (is_end e.event)) opener array.parts.first is.r is.n (λ role lt missing. (refl, refl))

      -- nor does what an opening tells change the length
      losses_leave : (size : ℕ) {status : Status} {end : ℕ} (e : Entry) → e ≡ record { caller = 0; number = 0; end = end; event = Shown status } → length_of size (entries_of opener array.parts.first losses ++ e ∷ []) ≡ size
      losses_leave size e is_shown = fold-append (λ (n : ℕ) (e : Entry). length_after n e.event) size (entries_of opener array.parts.first losses) (e ∷ [])
          ∙ ap (λ (x : Entry). length_after (length_of size (entries_of opener array.parts.first losses)) x.event) is_shown
          ∙ leaves-all (entries_of opener array.parts.first losses) (each-absent (λ e. (n : ℕ) → length_after n e.event ≡ n) opener array.parts.first is.r is.n (λ role lt missing. (λ n. refl, λ n. refl))) size

      found_lost : (more : List Entry) → AreLossesBehind setting (running_history array.parts) (entries_of opener array.parts.first losses) more → array.parts.entries ≡ entries_of opener array.parts.first losses ++ more → AreLossesSince setting [] (running_history array.parts)
      found_lost more others entries = losses-found setting (running_history array.parts) is.r is.n array.parts.first more
          (λ role lt missing t. subst (λ (w : World). MissingAtFirst w role) (same_world t) (is.missing role lt missing t)) others entries
        where
          same_world : (t : setting.tells) → found_world setting.given setting.tape setting.backup found.parts ≡ history_world setting (running_history array.parts)
          same_world t = found_history setting found.parts (running_history array.parts) (sym is.uuid ∙ sym uuid) (sym given) (sym (first ∙ is.first t))

      -- it was asked for its status
      pub turn_found : (status : Status) → IsShownAs found status → IsEntered setting.tells setting.tape (script_who found.parts.entries) found.parts.entries array.parts.entries (Shown status ∷ []) → array.parts.members ≡ found.parts.members → array.ahead ≡ found.ahead
          → array.parts.backup ≡ found.parts.backup → IsShownAs array status → IsTurn setting (Idle bank olds) (Running array epochs) (Assemble asked) (IsOutside (Assembled (length epochs.items) status))
      turn_found status told entered members ahead backed shown = record {
        own = opened_own (subst (λ (l : List Entry). AreByScript l l) (sym entries)
            (All-push (IsOwnEntry (entries_of opener array.parts.first losses ++ first_entry ∷ [])) (entries_of opener array.parts.first losses) first_entry (losses_own (entries_of opener array.parts.first losses ++ first_entry ∷ [])) (inl (inl refl, first_number))))
            (subst (λ (l : List Entry). AreGoing l) (sym entries) (All-push (λ e. IsFalse (is_end e.event)) (entries_of opener array.parts.first losses) first_entry losses_go refl))
            (ap (λ (l : List Entry). length_of (list_length array.parts.members.newest) l) entries ∙ losses_leave (list_length array.parts.members.newest) first_entry refl) turning;
        losses = opened_losses (found_lost (first_entry ∷ []) (tt, tt) entries);
        grown = opened_grown;
        ends = longer;
        answer = (
          refl,
          ap (λ (l : List Epoch). length l) same,
          record {
            history = running_history array.parts;
            there = opened_there;
            named = subst (λ (u : List ℕ). IfSome asked (λ asked. u ≡ asked)) (sym uuid) is.named;
            given = subst (λ (n : ℕ). AreGiven setting.given n setting.before setting.now) (sym given) is.given_are;
            shown = record { losses = losses; end = entered.end; more = []; is = entries };
            at_end = entered.at_end;
            first = λ t. first ∙ is.first t;
            elected = λ t. uuid ∙ is.uuid ∙ is.elected t ∙ ap (λ (n : ℕ). array_of setting.given setting.backup n asked (held_at setting (length setting.tape))) (sym given);
            stored = λ t. subst (λ (w : World). IsStoredAs w status losses) (found_history setting found.parts (running_history array.parts) (sym is.uuid ∙ sym uuid) (sym given) (sym (first ∙ is.first t))) (is.stored status told t);
          },
        );
        course = opened_course 1 status.length called (ap (λ (m : Members). list_length m.newest) members ∙ is.shown status told);
        recorded = subst (λ (o : Option History). MatchOption o ⊥ (λ history. IsRecordFound setting.backup history status (record_of array))) (sym last_there) (record {
          backup_is = backed ∙ is.backup_is;
          of = (refl, refl, refl);
          more = [];
          begins = sym (append-nil array.parts.entries);
          shown = shown-record array status shown;
          planless = ap (λ (p : PhasesLeft). phases_of p) ahead ∙ is.planless;
        });
      }
        where
          last_there : slice_get (histories_of epochs.items ++ running_history array.parts ∷ []) (length epochs.items) ≡ Some (running_history array.parts)
          last_there = ap (λ (n : ℕ). slice_get (histories_of epochs.items ++ running_history array.parts ∷ []) n) (sym (length-map epochs.items history_of)) ∙ get_last (histories_of epochs.items) (running_history array.parts)

          first_entry : Entry
          first_entry = record { caller = 0; number = 0; end = entered.end; event = Shown status }

          entries : array.parts.entries ≡ entries_of opener array.parts.first losses ++ first_entry ∷ []
          entries = entered.is ∙ ap (λ (n : ℕ). found.parts.entries ++ record { caller = 0; number = n; end = entered.end; event = Shown status } ∷ []) found_number ∙ ap (λ (l : List Entry). l ++ first_entry ∷ []) found_entries

          one_call : next_number 0 (entries_of opener array.parts.first losses ++ first_entry ∷ []) ≡ 1
          one_call = fold-append (number_after 0) 0 (entries_of opener array.parts.first losses) (first_entry ∷ [])

          called : (lane : Lane) → calls_in array.parts.entries lane ≡ with_script 1 (λ lane. 0) lane
          called InScript = ap (λ (l : List Entry). next_number 0 l) entries ∙ one_call
          called InA = ap (λ (l : List Entry). next_number 1 l) entries ∙ fold-append (number_after 1) 0 (entries_of opener array.parts.first losses) (first_entry ∷ []) ∙ opening_number InA array.parts.first losses 0
          called InB = ap (λ (l : List Entry). next_number 2 l) entries ∙ fold-append (number_after 2) 0 (entries_of opener array.parts.first losses) (first_entry ∷ []) ∙ opening_number InB array.parts.first losses 0
          called InWorker = ap (λ (l : List Entry). next_number 255 l) entries ∙ fold-append (number_after 255) 0 (entries_of opener array.parts.first losses) (first_entry ∷ []) ∙ opening_number InWorker array.parts.first losses 0

          first_number : 0 < next_number 0 (entries_of opener array.parts.first losses ++ first_entry ∷ [])
          first_number = omega (arith, one_call)

          turning : IsTurningTold (is_reshaping array.parts.members.newest) (phases_of array.ahead) array.parts.entries
          turning = subst (λ (l : List Entry). IsTurningTold (is_reshaping array.parts.members.newest) (phases_of array.ahead) l) (sym entries)
              (found-told (is_reshaping array.parts.members.newest) (phases_of array.ahead) (entries_of opener array.parts.first losses) first_entry status refl
              (λ none. ap (λ (m : Members). is_reshaping m.newest) members ∙ is.targeted status told none) (ap (λ (p : PhasesLeft). phases_of p) ahead ∙ is.planless))
