-- The records of the array that runs, from line to line: what a call leaves, that they stay such as histories grow and over a longer time, and that one line more has one more.
use Rattle.std.proofs.Common.{◌≡◌, inl, inr, ℕ, ◌+◌, false, Option, Some, None, Result, Ok, Err, List, [], ◌∷◌, ◌++◌, length, drop, refl, sym, ◌∙◌, ap, subst, arith, append_assoc, length-append}
use Rattle.std.proofs.Math.Seq.{drop-append_seam}
use Rattle.std.proofs.lemmas.List.Elements.{All-weaker}
use Rattle.std.specs.Prelude.{slice_get, IfOk, IfSome, IsTrue, MatchOption}
use Rattle.std.specs.List.{list_any}
use Rattle.std.specs.Option.{option_map_or}
use Rattle.run_specs.specs.raid_types_the_NoMemory.{NoMemory}
use Rattle.run_specs.specs.raid_types_the_Refusal_TheVariants.{SlotFault, Nothing as IsDone}
use Rattle.run_specs.specs.raid_types_the_Who.{Who}
use Rattle.run_specs.specs.raid_types_the_Status.{Status}
use Rattle.run_specs.specs.bank_Given.{Given, NeverFalls}
use Rattle.run_specs.specs.bank_the_Operation.{Operation}
use Rattle.run_specs.proofs.bank_Laws.{contents-earlier}
use Rattle.run_specs.proofs.history_invariant_Growing.{gone-grown}
use Rattle.run_specs.specs.sb_specs_the_Members.{Members}
use Rattle.run_specs.specs.sb_specs_Reading.{reading, list_length}
use Rattle.run_specs.specs.history_the_Entry.{Entry}
use Rattle.run_specs.specs.history_the_Event.{Event}
use Rattle.run_specs.specs.history_the_Event_TheVariants.{Lost, SpareLost, Failed, Added, Visible, Planned, Stepped, Refused}
use Rattle.run_specs.specs.history_the_LostCause_TheVariants.{Command, Fault as ByFault}
use Rattle.run_specs.specs.history_the_Request_TheVariants.{Steps as AsksSteps}
use Rattle.run_specs.specs.history_Flat.{length_of}
use Rattle.run_specs.specs.history_Growing.{grown}
use Rattle.run_specs.specs.history_Transfers.{last_end_from}
use Rattle.run_specs.specs.history_World.{World, reading_at}
use Rattle.run_specs.specs.history_Reshaped.{is_planned}
use Rattle.run_specs.specs.array_members_Lacking.{HaveRolesFailed}
use Rattle.run_specs.specs.array_grow_Stored.{IsStoredBy}
use Rattle.run_specs.specs.array_requests_Going.{MayHoldSince, WasMemberSince, AreLossesSince}
use Rattle.run_specs.specs.array_call_specs_Calls.{IsLossBy, AreLossesBy}
use Rattle.run_specs.specs.array_Calls.{running_left, IsReplyNow}
use Rattle.run_specs.specs.array_reply_specs_Going.{is_begin, AreHeldBehind, HasNoReshape, HasRunOn}
use Rattle.run_specs.specs.array_reply_specs_Replies.{IsAnsweredWith}
use Rattle.run_specs.specs.array_steps_Steps.{IsStepCount, IsHolderFailed, KeepsItsWay}
use Rattle.run_specs.specs.array_specs_Calls.{moving_world}
use Rattle.run_specs.specs.array_specs_Parts.{RunningParts}
use Rattle.run_specs.specs.script_the_Line.{Line}
use Rattle.run_specs.specs.script_the_Line_TheVariants.{Read, Write, Flush, Fail, Add, ArraySize, Grow, Step, Wait, Stop, Detail, Mdstat}
use Rattle.run_specs.specs.script_the_Numbered.{Numbered}
use Rattle.run_specs.specs.script_the_Lane.{Lane}
use Rattle.run_specs.specs.script_the_Lane_TheVariants.{Script as InScript, A as InA, B as InB, Worker as InWorker}
use Rattle.run_specs.specs.declared.report.Answered.{Answered}
use Rattle.run_specs.specs.declared.report.Answered.TheVariants.{Inside, Outside as IsOutside}
use Rattle.run_specs.specs.declared.report.LineReply.{LineReply}
use Rattle.run_specs.specs.declared.report.Outside.TheVariants.{Created, Assembled, Examined, Alerts as ToldAlerts, Refused as IsRefusedOutside}
use Rattle.run_specs.specs.Asked.{IsAskedAt, IsAsked}
use Rattle.run_specs.specs.Caused.{Record, record_of, IsJudgedBy}
use Rattle.run_specs.specs.Histories.{History, entry_at}
use Rattle.run_specs.specs.Making.{Setting}
use Rattle.run_specs.specs.Records.{IsOnlyLess, IsLessByFaults, IsWithSpare, IsUntouched, AreStepsAnswered, AreAllAnswered, IsLeftBy, IsLeftAt, IsLeftByBlock, IsRecordMade, IsOfHistory, IsRecordFound, IsNextRecord, IsRecordStored, IsRecordedBy, IsRecorded, IsRecordedBehind, IsRecordedIn, AreRecorded}
use Rattle.run_specs.specs.Replies.{Course, longer_of, entries_to, course_after, course_of, leaves_more, leaves_more_at, AreReplies}
use Rattle.run_specs.specs.States.{IsGrown, AreGrown, IsNamed}
use Rattle.run_specs.proofs.AskLaws.{one, entry_there}
use Rattle.run_specs.proofs.Causes.{faulted-wider}
use Rattle.run_specs.proofs.Growth.{IsWider, history_stays, named_stays, to_stays, some_named, answer_in_named, course_stays}
use Rattle.run_specs.proofs.Turned.{last-there}
use Rattle.run_specs.proofs.Worlds.{last-within}
use Rattle.run_requests.proofs.Legal.{ends_later, reliable-before}

-- ---- by an entry

-- what the line leaves by the entry at its place is by the one that was asked for
pub left-asked : {size place : ℕ} {line : Line} {old new : List Entry} (before now : ℕ → ℕ) (was is : Record) (asked : IsAskedAt size line old new place) → IsLeftAt before now was is line new place → IsLeftBy before now was is line asked.event
left-asked {line = line} before now was is asked left = subst (λ (o : Option Entry). MatchOption o ⊥ (λ e. IsLeftBy before now was is line e.event)) (entry_there asked) left

-- and the other way round, where it leaves the same by any
pub left-at : {size place : ℕ} {line : Line} {old new : List Entry} (before now : ℕ → ℕ) (was is : Record) (asked : IsAskedAt size line old new place) → ((event : Event) → IsLeftBy before now was is line event) → IsLeftAt before now was is line new place
left-at {line = line} before now was is asked all = subst (λ (o : Option Entry). MatchOption o ⊥ (λ e. IsLeftBy before now was is line e.event)) (sym (entry_there asked)) (all asked.event)

-- where memory was short, nothing is asked
pub untouched-asked : (size : ℕ) (line : Line) (old new : List Entry) (before now : ℕ → ℕ) (was is : Record) (r : Result ℕ NoMemory) → IsAsked size line old new r → IfOk r (λ place. IsUntouched was is)
    → ((event : Event) → IsUntouched was is → IsLeftBy before now was is line event) → IfOk r (λ place. IsLeftAt before now was is line new place)
untouched-asked size line old new before now was is (Ok place) asked same by = left-at before now was is asked (λ event. by event same)
untouched-asked size line old new before now was is (Err none) asked same by = tt

pub stepped-asked : (size most : ℕ) (old new : List Entry) (before now : ℕ → ℕ) (was is : Record) (r : Result ℕ NoMemory) → IsAsked size (Step most) old new r → IfOk r (λ place. AreStepsAnswered before now was is)
    → IfOk r (λ place. IsLeftAt before now was is (Step most) new place)
stepped-asked size most old new before now was is (Ok place) asked stepped = left-at before now was is asked (λ event. stepped)
stepped-asked size most old new before now was is (Err none) asked stepped = tt

-- ---- steps

-- what steps keep is seen of the array's record
record-way : {B : Type 0} (before now : ℕ → ℕ) (old new : RunningParts B) → KeepsItsWay before now old new → KeepsItsWay before now (record_of old) (record_of new)
record-way before now old new was = record {
  aim = was.aim;
  size = was.size;
  limit = was.limit;
  unturned = λ none. let same = was.unturned none in record { active = same.active; shape = same.shape; final = same.final; ahead = same.ahead };
  roles = was.roles;
  failed = was.failed;
  lost = λ active none. let lost = was.lost active none in record { held = lost.held; spares = lost.spares; losses = lost.losses };
}

-- and so is what its reply tells
record-told : {B : Type 0} (array : RunningParts B) (event : Event) → IsReplyNow array event → IsReplyNow (record_of array) event
record-told array (Refused IsDone) told = told
record-told array (Stepped done left ended) told = told
record-told array event told = absurd told

-- what a request for steps leaves
module _ {B : Type 0} (tells : Type 0) (given : B → Given) (tape : B → List Operation) (faults : B → ℕ → ℕ) (old new : RunningParts B) (went : HasRunOn tells given tape faults old new) where
  more-is : (rest : List Entry) → new.parts.entries ≡ old.parts.entries ++ rest → went.more ≡ rest
  more-is rest is = sym (drop-append_seam old.parts.entries went.more) ∙ ap (drop (length old.parts.entries)) (sym went.grown ∙ is) ∙ drop-append_seam old.parts.entries rest

  pub steps-answered : {size most : ℕ} {who : Who} {event : Event} → IsAnsweredWith size (AsksSteps most) who old.parts.entries new.parts.entries event
      → IsStepCount old.parts.entries new.parts.entries (running_left old) (running_left new) event → IsReplyNow new event → (running_left new ≡ 0 → HasNoReshape new) → KeepsItsWay (faults old.parts.bank) (faults new.parts.bank) old new
      → AreStepsAnswered (faults old.parts.bank) (faults new.parts.bank) (record_of old) (record_of new)
  steps-answered {who = who} {event = event} replied counted told rest kept = record {
    inner = replied.inner;
    reply = one who replied.end event;
    is = replied.is;
    counted = counted;
    told = record-told new event told;
    held = subst (λ (l : List Entry). AreHeldBehind old.parts.members new.parts.members l) more went.held;
    sized = went.sized ∙ ap (λ (l : List Entry). length_of (list_length old.parts.members.newest) l) more;
    active = λ still none. went.active still (ap (list_any (λ e. is_begin e.event)) more ∙ none);
    ahead = λ planless none. went.ahead planless (ap (list_any (λ e. is_planned e.event)) more ∙ none);
    rest = λ none. ((rest none).active, (rest none).ahead);
    kept = record-way (faults old.parts.bank) (faults new.parts.bank) old new kept;
  }
    where
      more : went.more ≡ replied.inner ++ one who replied.end event ∷ []
      more = more-is (replied.inner ++ one who replied.end event ∷ []) replied.is

-- what its reply leaves to do
pub leaves-answered : {before now : ℕ → ℕ} {old new : Record} (place : ℕ) (taken : AreStepsAnswered before now old new) → place + 1 ≡ length new.parts.entries → leaves_more_at new.parts.entries place ≡ leaves_more taken.reply.event
leaves-answered {old = old} {new = new} place taken at_end =
    ap (λ (o : Option Entry). option_map_or (λ e. leaves_more e.event) o false) (last-there old.parts.entries new.parts.entries taken.inner taken.reply place taken.is at_end)

-- the requests of a wait so far, each of which leaves more to do
abbrev pub AreAnsweredSo : (ℕ → ℕ) → (ℕ → ℕ) → Record → List Record → Record → Type 0
AreAnsweredSo before now old [] new = new ≡ old
AreAnsweredSo before now old (next ∷ others) new = (one : AreStepsAnswered before now old next) × IsTrue (leaves_more one.reply.event) × AreAnsweredSo before now next others new

-- the last one, or one more
answered-all : (before now : ℕ → ℕ) (old mid new : Record) (others : List Record) → AreAnsweredSo before now old others mid → AreStepsAnswered before now mid new → AreAllAnswered before now old others new
answered-all before now old mid new [] same last = subst (λ (r : Record). AreStepsAnswered before now r new) same last
answered-all before now old mid new (next ∷ others) (first, more, rest) last = (first, more, answered-all before now next mid new others rest last)

answered-on : (before now : ℕ → ℕ) (old mid new : Record) (others : List Record) → AreAnsweredSo before now old others mid → (last : AreStepsAnswered before now mid new) → IsTrue (leaves_more last.reply.event)
    → AreAnsweredSo before now old (others ++ new ∷ []) new
answered-on before now old mid new [] same last more = subst (λ (r : Record). (one : AreStepsAnswered before now r new) × IsTrue (leaves_more one.reply.event) × (new ≡ new)) same (last, more, refl)
answered-on before now old mid new (next ∷ others) (first, going, rest) last more = (first, going, answered-on before now next mid new others rest last more)

-- ---- over a longer time

module _ (first before now last : ℕ → ℕ) (early : NeverFalls first before) (between : NeverFalls before now) (late : NeverFalls now last) where
  loss-wider : (Had : ℕ → ℕ → Type 0) (Was : ℕ → Type 0) (event : Event) → IsLossBy Had Was before now event → IsLossBy Had Was first last event
  loss-wider Had Was (Lost role ByFault) (slot, had, failed) = (slot, had, faulted-wider slot early between late failed)
  loss-wider Had Was (Lost role Command) is = is
  loss-wider Had Was (Lost role cause) is = absurd is
  loss-wider Had Was (SpareLost slot) (was, failed) = (was, faulted-wider slot early between late failed)
  loss-wider Had Was event is = tt

  told-wider : (Had : ℕ → ℕ → Type 0) (Was : ℕ → Type 0) (old new : List Entry) → AreLossesBy Had Was before now old new → AreLossesBy Had Was first last old new
  told-wider Had Was old new was = record {
    more = was.more;
    grown = was.grown;
    failed = All-weaker (λ e. IsLossBy Had Was before now e.event) (λ e. IsLossBy Had Was first last e.event) (λ e loss. loss-wider Had Was e.event loss) was.more was.failed;
  }

  roles-wider : (old new : Members) → HaveRolesFailed old new before now → HaveRolesFailed old new first last
  roles-wider old new was = λ role slot held. elim (was role slot held) [
    | inl same ↦ inl same
    | inr failed ↦ inr (faulted-wider slot early between late failed)
  ]

  holder-wider : (m : Members) (event : Event) → IsHolderFailed m before now event → IsHolderFailed m first last event
  holder-wider m (Lost role ByFault) failed = λ slot held. faulted-wider slot early between late (failed slot held)
  holder-wider m (Lost role cause) failed = tt
  holder-wider m event failed = tt

  way-wider : (old new : Record) → KeepsItsWay before now old new → KeepsItsWay first last old new
  way-wider old new was = record {
    aim = was.aim;
    size = was.size;
    limit = was.limit;
    unturned = was.unturned;
    roles = λ still none. roles-wider old.parts.members new.parts.members (was.roles still none);
    failed = λ still none. All-weaker (λ e. IsHolderFailed old.parts.members before now e.event) (λ e. IsHolderFailed old.parts.members first last e.event) (λ e failed. holder-wider old.parts.members e.event failed)
        (drop (length old.parts.entries) new.parts.entries) (was.failed still none);
    lost = λ active none. let lost = was.lost active none in record { held = lost.held; spares = lost.spares; losses = told-wider _ _ old.parts.entries new.parts.entries lost.losses };
  }

  steps-wider : (old new : Record) → AreStepsAnswered before now old new → AreStepsAnswered first last old new
  steps-wider old new was = record {
    inner = was.inner;
    reply = was.reply;
    is = was.is;
    counted = was.counted;
    told = was.told;
    held = was.held;
    sized = was.sized;
    active = was.active;
    ahead = was.ahead;
    rest = was.rest;
    kept = way-wider old new was.kept;
  }

  all-wider : (old new : Record) (others : List Record) → AreAllAnswered before now old others new → AreAllAnswered first last old others new
  unfolding steps-wider
  all-wider old new [] was = steps-wider old new was
  all-wider old new (next ∷ others) (one, more, rest) = (steps-wider old next one, more, all-wider next new others rest)

  so-wider : (old new : Record) (others : List Record) → AreAnsweredSo before now old others new → AreAnsweredSo first last old others new
  unfolding steps-wider
  so-wider old new [] same = same
  so-wider old new (next ∷ others) (one, more, rest) = (steps-wider old next one, more, so-wider next new others rest)

  spare-wider : (slot : ℕ) (old new : Record) → IsWithSpare before now slot old new → IsWithSpare first last slot old new
  spare-wider slot old new is = record {
    shape = is.shape;
    work = is.work;
    limit = is.limit;
    held = is.held;
    failed = roles-wider old.parts.members new.parts.members is.failed;
    spares = is.spares;
    losses = told-wider _ _ old.parts.entries new.parts.entries is.losses;
  }

  only-wider : (old new : Record) → IsOnlyLess before now old new → IsOnlyLess first last old new
  only-wider old new is = record {
    shape = is.shape;
    work = is.work;
    limit = is.limit;
    held = is.held;
    spares = is.spares;
    losses = told-wider _ _ old.parts.entries new.parts.entries is.losses;
  }

  less-wider : (old new : Record) → IsLessByFaults before now old new → IsLessByFaults first last old new
  less-wider old new is = (only-wider old new is.0, roles-wider old.parts.members new.parts.members is.1)

  left-wider : (old new : Record) (line : Line) (event : Event) → IsLeftBy before now old new line event → IsLeftBy first last old new line event
  left-wider old new (Read at count) event is = (less-wider old new is.0, is.1)
  left-wider old new (Write at count seed) event is = (less-wider old new is.0, is.1)
  left-wider old new Flush event is = (less-wider old new is.0, is.1)
  left-wider old new Stop event is = (less-wider old new is.0, is.1)
  left-wider old new (Fail role) (Failed failed) is = (only-wider old new is.0, is.1)
  left-wider old new (Fail role) event is = (only-wider old new is.0, is.1)
  left-wider old new (Add slot) (Added added) is = (spare-wider slot old new is.0, is.1)
  left-wider old new (Add slot) (Refused (SlotFault failed)) is = (spare-wider slot old new is.0, is.1, faulted-wider slot early between late is.2)
  left-wider old new (Add slot) (Refused refusal) is = (spare-wider slot old new is.0, is.1)
  left-wider old new (Add slot) event is = spare-wider slot old new is
  left-wider old new (ArraySize limit) (Visible wished count) is = is
  left-wider old new (ArraySize limit) event is = is
  left-wider old new (Grow wish) (Planned left wished) is = is
  left-wider old new (Grow wish) event is = is
  left-wider old new (Step most) event is = steps-wider old new is
  left-wider old new Wait event (others, is) = (others, all-wider old new others is)
  left-wider old new Detail event is = is
  left-wider old new Mdstat event is = is
  left-wider old new line event is = less-wider old new is

  -- what a block leaves
  losses-wider : (members : Members) (done more : List Entry) → AreLossesSince members before now done more → AreLossesSince members first last done more
  losses-wider members done [] was = tt
  losses-wider members done (e ∷ more) (loss, was) = (loss-wider (MayHoldSince members done) (WasMemberSince members done) e.event loss, losses-wider members (done ++ e ∷ []) more was)

  block-wider : (old new : Record) → IsLeftByBlock before now old new → IsLeftByBlock first last old new
  block-wider old new was = record {
    entered = was.entered;
    sized = was.sized;
    held = was.held;
    losses = losses-wider old.parts.members [] was.entered.more was.losses;
    same = was.same;
    active = was.active;
    ahead = was.ahead;
    turning = was.turning;
    left = was.left;
    limit = was.limit;
    way = was.way;
  }

  beside-wider : (old new : Option Record) → MatchOption old ⊥ (λ array. MatchOption new ⊥ (λ next. IsLeftByBlock before now array next)) → MatchOption old ⊥ (λ array. MatchOption new ⊥ (λ next. IsLeftByBlock first last array next))
  beside-wider None new is = absurd is
  beside-wider (Some array) None is = absurd is
  beside-wider (Some array) (Some next) is = block-wider array next is

-- the last of some requests, or one more, each by the counts when it was made
module _ (before mid now : ℕ → ℕ) (early : NeverFalls before mid) (late : NeverFalls mid now) (old at new : Record) (others : List Record) (so_far : AreAnsweredSo before mid old others at) (last : AreStepsAnswered mid now at new) where
  pub answered-end : AreAllAnswered before now old others new
  answered-end = answered-all before now old at new others (so-wider before before mid now (λ s. omega arith) early late old at others so_far) (steps-wider before mid now now early late (λ s. omega arith) at new last)

  pub answered-then : IsTrue (leaves_more last.reply.event) → AreAnsweredSo before now old (others ++ new ∷ []) new
  unfolding steps-wider
  answered-then more = answered-on before now old at new others (so-wider before before mid now (λ s. omega arith) early late old at others so_far) (steps-wider before mid now now early late (λ s. omega arith) at new last) more

module _ (was now : Setting) (wider : IsWider was now) where
  next-wider : (line : Line) (entries : List Entry) (event : Event) (old : Record) (new : Option Record) → IsNextRecord was line entries event old new → IsNextRecord now line entries event old new
  next-wider line entries event old None is = (is.0, told-wider now.before was.before was.now now.now wider.early wider.between wider.late _ _ old.parts.entries entries is.1)
  next-wider line entries event old (Some next) (backed, same, told, left) =
      (backed ∙ sym wider.backup, same, told, left-wider now.before was.before was.now now.now wider.early wider.between wider.late old next line event left)

  by-wider : (line : Line) (entries : List Entry) (reply : Option Entry) (old : Record) (new : Option Record) → IsRecordedBy was line entries reply old new → IsRecordedBy now line entries reply old new
  by-wider line entries None old new is = absurd is
  by-wider line entries (Some e) old new (judged, next) = (subst (λ (g : Given). IsJudgedBy g old line e.event) (sym wider.given) judged, next-wider line entries e.event old new next)

  pub recorded-wider : (histories : List History) (line : Line) (what : Answered) (old new : Option Record) → IsRecorded was histories line what old new → IsRecorded now histories line what old new
  recorded-wider histories line (Inside epoch at) None new is = absurd is.0
  recorded-wider histories line (Inside epoch at) (Some array) new is = (by-wider line (entries_to histories epoch at) (entry_at histories epoch at) array new is.0, is.1)
  recorded-wider histories line (IsOutside Created) old new is = subst (λ (b : Option ℕ). MatchOption new ⊥ (IsRecordMade b line)) (sym wider.backup) is
  recorded-wider histories line (IsOutside (Assembled epoch status)) old new is =
      subst (λ (b : Option ℕ). MatchOption new ⊥ (λ array. MatchOption (slice_get histories epoch) ⊥ (λ history. IsRecordFound b history status array))) (sym wider.backup) is
  recorded-wider histories line (IsOutside (Examined slot found)) old new is = is
  recorded-wider histories line (IsOutside (ToldAlerts list)) old new is = is
  recorded-wider histories line (IsOutside (IsRefusedOutside refusal)) old new is = is

  behind-wider : (histories : List History) (course : Course) (what : Answered) (old new : Option Record) → IsRecordedBehind was histories course what old new → IsRecordedBehind now histories course what old new
  behind-wider histories course (Inside epoch at) old new (left, entries) = (beside-wider now.before was.before was.now now.now wider.early wider.between wider.late old new left, entries)
  behind-wider histories course (IsOutside outside) old new is = is

  pub in-wider : (histories : List History) (course : Course) (lane : Lane) (line : Line) (what : Answered) (old new : Option Record) → IsRecordedIn was histories course lane line what old new → IsRecordedIn now histories course lane line what old new
  in-wider histories course InScript line what old new is = recorded-wider histories line what old new is
  in-wider histories course InA line what old new is = is
  in-wider histories course InB line what old new is = is
  in-wider histories course InWorker line what old new is = behind-wider histories course what old new is

-- ---- as histories grow

module _ (setting : Setting) (olds news : List History) (grown : AreGrown olds news) where
  inside-grown : (epoch at : ℕ) (line : Line) (old : Record) (new : Option Record) → IsRecordedBy setting line (entries_to olds epoch at) (entry_at olds epoch at) old new
      → IsRecordedBy setting line (entries_to news epoch at) (entry_at news epoch at) old new
  inside-grown epoch at line old new is = by (entry_at olds epoch at) refl is
    where
      by : (o : Option Entry) → entry_at olds epoch at ≡ o → IsRecordedBy setting line (entries_to olds epoch at) o old new → IsRecordedBy setting line (entries_to news epoch at) (entry_at news epoch at) old new
      by None there now = absurd now
      by (Some e) there now =
          subst (λ (o : Option Entry). IsRecordedBy setting line (entries_to news epoch at) o old new) (sym (named_stays olds news grown epoch at e there))
          (subst (λ (l : List Entry). IsRecordedBy setting line l (Some e) old new) (sym (to_stays olds news grown epoch at e there)) now)

  longer-found : (status : Status) (array : Record) (old new : History) → IsGrown old new → IsRecordFound setting.backup old status array → IsRecordFound setting.backup new status array
  longer-found status array old new longer is = record {
    backup_is = is.backup_is;
    more = is.more ++ longer.more;
    begins = longer.grown ∙ ap (λ (l : List Entry). l ++ longer.more) is.begins ∙ append_assoc array.parts.entries is.more longer.more;
    of = (is.of.0 ∙ sym longer.uuid, is.of.1 ∙ sym longer.given, is.of.2 ∙ sym longer.first);
    shown = is.shown;
    planless = is.planless;
  }

  -- nor is it of another history
  of-grown : (epoch : ℕ) (new : Option Record) → IfSome new (λ next. MatchOption (slice_get olds epoch) ⊥ (λ history. IsOfHistory history next))
      → IfSome new (λ next. MatchOption (slice_get news epoch) ⊥ (λ history. IsOfHistory history next))
  of-grown epoch None is = tt
  of-grown epoch (Some next) is = by (slice_get olds epoch) refl is
    where
      by : (o : Option History) → slice_get olds epoch ≡ o → MatchOption o ⊥ (λ history. IsOfHistory history next) → MatchOption (slice_get news epoch) ⊥ (λ history. IsOfHistory history next)
      by None there now = absurd now
      by (Some history) there now =
          let later = history_stays olds news grown epoch history there in
          subst (λ (o : Option History). MatchOption o ⊥ (λ history. IsOfHistory history next)) (sym later.1)
          (now.0 ∙ sym later.2.uuid, now.1 ∙ sym later.2.given, now.2 ∙ sym later.2.first)

  found-grown : (epoch : ℕ) (status : Status) (array : Record) → MatchOption (slice_get olds epoch) ⊥ (λ history. IsRecordFound setting.backup history status array)
      → MatchOption (slice_get news epoch) ⊥ (λ history. IsRecordFound setting.backup history status array)
  found-grown epoch status array is = by (slice_get olds epoch) refl is
    where
      by : (o : Option History) → slice_get olds epoch ≡ o → MatchOption o ⊥ (λ history. IsRecordFound setting.backup history status array)
          → MatchOption (slice_get news epoch) ⊥ (λ history. IsRecordFound setting.backup history status array)
      by None there now = absurd now
      by (Some history) there now =
          let later = history_stays olds news grown epoch history there in
          subst (λ (o : Option History). MatchOption o ⊥ (λ history. IsRecordFound setting.backup history status array)) (sym later.1) (longer-found status array history later.0 later.2 now)

  pub recorded-grown : (line : Line) (what : Answered) (old new : Option Record) → IsRecorded setting olds line what old new → IsRecorded setting news line what old new
  recorded-grown line (Inside epoch at) None new is = absurd is.0
  recorded-grown line (Inside epoch at) (Some array) new is = (inside-grown epoch at line array new is.0, of-grown epoch new is.1)
  recorded-grown line (IsOutside Created) old new is = is
  recorded-grown line (IsOutside (Assembled epoch status)) old None is = absurd is
  recorded-grown line (IsOutside (Assembled epoch status)) old (Some array) is = found-grown epoch status array is
  recorded-grown line (IsOutside (Examined slot found)) old new is = is
  recorded-grown line (IsOutside (ToldAlerts list)) old new is = is
  recorded-grown line (IsOutside (IsRefusedOutside refusal)) old new is = is

  behind-grown : (course : Course) (what : Answered) (old new : Option Record) → IsNamed olds what → IsRecordedBehind setting olds course what old new → IsRecordedBehind setting news course what old new
  behind-grown course (Inside epoch at) old new named (left, entries) =
      let is = some_named (entry_at olds epoch at) named in
      (left, subst (λ (l : List Entry). MatchOption new ⊥ (λ next. next.parts.entries ≡ longer_of course.block l)) (sym (to_stays olds news grown epoch at is.0 is.1)) entries)
  behind-grown course (IsOutside outside) old new named is = is

  in-grown : (course : Course) (lane : Lane) (line : Line) (what : Answered) (old new : Option Record) → IsNamed olds what → IsRecordedIn setting olds course lane line what old new → IsRecordedIn setting news course lane line what old new
  in-grown course InScript line what old new named is = recorded-grown line what old new is
  in-grown course InA line what old new named is = is
  in-grown course InB line what old new named is = is
  in-grown course InWorker line what old new named is = behind-grown course what old new named is

-- ---- what is stored

-- what is stored at a mark of the tape stays so as the tape grows
stored-longer : (world : World) (ops : List Operation) (array : Record) → IsStoredBy world array → IsStoredBy (grown world ops) array
unfolding reading_at
stored-longer world ops array was = record {
  begun = let long = length-append world.tape ops in omega (arith, was.begun, long);
  ends = ends_later (length world.tape) (length (world.tape ++ ops)) array.parts.entries (let long = length-append world.tape ops in omega (arith, long)) was.ends;
  unlost = was.unlost;
  window = was.window;
  gone = λ relied role lt missing. gone-grown world ops array.parts.entries role was.ends ∙ was.gone (reliable-before world ops array.parts.entries was.begun was.ends relied) role lt missing;
  stored = λ relied role slot may.
      let at = was.stored (reliable-before world ops array.parts.entries was.begun was.ends relied) role slot may in
      record {
        found = at.found;
        is = ap (reading world.scope) (λ i slot k. contents-earlier world.start world.tape ops (last_end_from world.first array.parts.entries) slot k (last-within (length world.tape) world.first array.parts.entries was.begun was.ends) i) ∙ at.is;
        array = at.array;
        held = at.held;
        spares = at.spares;
      };
}

-- what is stored is what the array's record says
pub stored-record : {B tells : Type 0} (given : Given) (tape : List Operation) (array : RunningParts B) → (tells → IsStoredBy (moving_world given tape array) array) → IsRecordStored tells given tape (record_of array)
stored-record given tape array was t = let stored = was t in record { begun = stored.begun; ends = stored.ends; unlost = stored.unlost; window = stored.window; gone = stored.gone; stored = stored.stored }

module _ (was now : Setting) (wider : IsWider was now) where
  stored-wider : (array : Record) → IsRecordStored was.tells was.given was.tape array → IsRecordStored now.tells now.given now.tape array
  stored-wider array stored t =
      let more = wider.grows.more t in
      subst (λ (g : Given). IsStoredBy (moving_world g now.tape array) array) (sym wider.given)
      (subst (λ (l : List Operation). IsStoredBy (moving_world was.given l array) array) (sym more.1) (stored-longer (moving_world was.given was.tape array) more.0 array (stored (wider.told t))))

  pub some-wider : (o : Option Record) → IfSome o (IsRecordStored was.tells was.given was.tape) → IfSome o (IsRecordStored now.tells now.given now.tape)
  some-wider None stored = tt
  some-wider (Some array) stored = stored-wider array stored

-- the last record is stored as those before it are
pub last-stored : (setting : Setting) (histories : List History) (course : Course) (old : Option Record) (lines : List Numbered) (replies : List LineReply) (last : Option Record)
    → IfSome old (IsRecordStored setting.tells setting.given setting.tape) → AreRecorded setting histories course old lines replies last → IfSome last (IsRecordStored setting.tells setting.given setting.tape)
last-stored setting histories course old [] [] last stored is = subst (λ (o : Option Record). IfSome o (IsRecordStored setting.tells setting.given setting.tape)) (sym is) stored
last-stored setting histories course old [] (reply ∷ replies) last stored is = absurd is
last-stored setting histories course old (line ∷ lines) [] last stored is = absurd is
last-stored setting histories course old (line ∷ lines) (reply ∷ replies) last stored (next, here, known, more) =
    last-stored setting histories (course_after histories course line.lane line.line reply.what) next lines replies last known more

-- ---- several lines

pub records-stay : (was now : Setting) → IsWider was now → (olds news : List History) → AreGrown olds news → (course : Course) (old : Option Record) (lines : List Numbered) (replies : List LineReply) (last : Option Record) → AreReplies was olds course lines replies
    → AreRecorded was olds course old lines replies last → AreRecorded now news course old lines replies last
records-stay was now wider olds news grown course old [] [] last replied is = is
records-stay was now wider olds news grown course old [] (reply ∷ replies) last replied is = absurd is
records-stay was now wider olds news grown course old (line ∷ lines) [] last replied is = absurd is
records-stay was now wider olds news grown course old (line ∷ lines) (reply ∷ replies) last (one, rest) (next, here, known, more) =
    let named = answer_in_named was olds course line.lane line.line reply.end reply.what one.answer in (
      next,
      in-wider was now wider news course line.lane line.line reply.what old next (in-grown was olds news grown course line.lane line.line reply.what old next named here),
      some-wider was now wider next known,
      subst (λ (c : Course). AreRecorded now news c next lines replies last) (sym (course_stays olds news course line.lane line.line reply.what grown named))
          (records-stay was now wider olds news grown (course_after olds course line.lane line.line reply.what) next lines replies last rest more),
    )

-- one part behind another
pub records-both : (setting : Setting) (histories : List History) (course : Course) (old mid last : Option Record) (lines : List Numbered) (replies : List LineReply) (others : List Numbered) (more : List LineReply)
    → AreRecorded setting histories course old lines replies mid → AreRecorded setting histories (course_of histories course lines replies) mid others more last → AreRecorded setting histories course old (lines ++ others) (replies ++ more) last
records-both setting histories course old mid last [] [] others more is behind = subst (λ (o : Option Record). AreRecorded setting histories course o others more last) is behind
records-both setting histories course old mid last [] (r ∷ replies) others more is behind = absurd is
records-both setting histories course old mid last (l ∷ lines) [] others more is behind = absurd is
records-both setting histories course old mid last (l ∷ lines) (r ∷ replies) others more (next, one, known, rest) behind =
    (next, one, known, records-both setting histories (course_after histories course l.lane l.line r.what) next mid last lines replies others more rest behind)
