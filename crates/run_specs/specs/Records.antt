-- The record of the array that runs, from line to line: what each line leaves of it. No bank is asked.
use Rattle.std.specs.Prelude.{◌≡◌, ℕ, ◌+◌, ◌≤◌, ◌++◌, true, false, List, [], ◌∷◌, slice_get, Option, None, MatchOption, IfSome, IsTrue}
use Rattle.std.specs.List.{list_any}
use Rattle.array_requests.specs.raid_types_Search.{tabulate}
use Rattle.array_requests.specs.raid_types_the_Refusal.{Refusal}
use Rattle.array_requests.specs.raid_types_the_Refusal_TheVariants.{SlotFault}
use Rattle.script.specs.raid_types_the_Role_TheVariants.{Whole}
use Rattle.array_requests.specs.raid_types_the_Status.{Status}
use Rattle.array_requests.specs.bank_Given.{Given, IsFaulted}
use Rattle.array_requests.specs.bank_the_Operation.{Operation}
use Rattle.script.specs.reshape_plan_Plans.{phases}
use Rattle.array_requests.specs.sb_specs_the_Members.{Members}
use Rattle.array_requests.specs.sb_specs_Reading.{is_reshaping, shape_of, final_shape, list_length}
use Rattle.array_requests.specs.sb_specs_Reads.{has_spare}
use Rattle.array_requests.specs.stripe_row_Rows.{reading_of}
use Rattle.script.specs.history_the_Entry.{Entry}
use Rattle.script.specs.history_the_Event.{Event}
use Rattle.script.specs.history_the_Event_TheVariants.{Failed, Added, Visible, Planned, Refused}
use Rattle.script.specs.history_Flat.{length_of, limit_of}
use Rattle.script.specs.history_Legal.{told_left}
use Rattle.script.specs.history_Reshaped.{is_planned}
use Rattle.array_requests.specs.array_members_Lacking.{AreTooMany, HaveRolesFailed}
use Rattle.array_requests.specs.array_members_Placed.{AreStillHeld, is_unassigned}
use Rattle.array_requests.specs.reshape_request_Left.{phases_of}
use Rattle.array_requests.specs.Going.{AreHeldSince, AreLossesSince, GoesItsWay}
use Rattle.array_requests.specs.Turning.{IsTurningTold}
use Rattle.array_requests.specs.array_call_specs_Calls.{IsRefusedFor, AreSparesFewer, AreLossesOf}
use Rattle.array_requests.specs.array_Calls.{running_left, IsReadLacked, IsWriteLackedIn, IsShownAs, IsReplyNow}
use Rattle.array_requests.specs.array_reply_specs_Going.{is_begin, AreHeldBehind, IsSameEpoch}
use Rattle.array_requests.specs.array_steps_Steps.{IsStepCount, KeepsItsWay}
use Rattle.array_requests.specs.array_specs_Adding.{AreSparesBut}
use Rattle.array_requests.specs.array_specs_Calls.{moving_world}
use Rattle.array_requests.specs.array_specs_Parts.{visible_in}
use Rattle.array_requests.specs.array_grow_Stored.{IsStoredBy}
use Rattle.script.specs.declared.lines.CreateLine.{CreateLine}
use Rattle.script.specs.declared.lines.Line.{Line}
use Rattle.script.specs.declared.lines.Line.TheVariants.{Create, Read, Write, Flush, Fail, Add, ArraySize, Grow, Step, Wait, Stop, Halt, Detail, Mdstat, Alerts, Examine, Assemble}
use Rattle.script.specs.declared.lines.Numbered.{Numbered}
use Rattle.script.specs.declared.reply.Lane.{Lane}
use Rattle.script.specs.declared.reply.Lane.TheVariants.{Script as InScript, Worker as InWorker}
use Rattle.run_specs.specs.declared.report.Answered.{Answered}
use Rattle.run_specs.specs.declared.report.Answered.TheVariants.{Inside, Outside as IsOutside}
use Rattle.run_specs.specs.declared.report.LineReply.{LineReply}
use Rattle.run_specs.specs.declared.report.Outside.TheVariants.{Created, Assembled, Examined, Alerts as ToldAlerts, Refused as IsRefusedOutside}
use Rattle.run_specs.specs.Blocks.{IsBlockEntered}
use Rattle.run_specs.specs.Caused.{Record, IsJudgedBy}
use Rattle.run_specs.specs.Histories.{History, entry_at, is_end}
use Rattle.run_specs.specs.Making.{Setting}
use Rattle.run_specs.specs.Replies.{Course, longer_of, entries_to, course_after, leaves_more}

-- ---- what a call leaves

-- the superblocks say the same shapes and size, and of a reshape whether one is active
pub record IsShapeKept (old new : Members) : Type 0 where
  pub active : is_reshaping new.newest ≡ is_reshaping old.newest
  pub shape : shape_of new.newest ≡ shape_of old.newest
  pub final : final_shape new.newest ≡ final_shape old.newest
  pub size : new.newest.size ≡ old.newest.size

-- a resync and the rebuilds have come as far, and the same phases are ahead
pub record IsWorkKept (old new : Record) : Type 0 where
  pub resync : new.parts.work.resync ≡ old.parts.work.resync
  pub rebuilt : new.parts.work.rebuilt ≡ old.parts.work.rebuilt
  pub ahead : phases_of new.ahead ≡ phases_of old.ahead

-- A call of an array was done, or refused: its shape, its work and its limit are kept, and roles and spares are only lost. By the counts of its slots' faults before and now a role is told lost only where the slot that held it
-- as the call began has failed, or by command, and a spare only where it was one and has failed.
pub record IsOnlyLess (before now : ℕ → ℕ) (old new : Record) : Type 0 where
  pub shape : IsShapeKept old.parts.members new.parts.members
  pub work : IsWorkKept old new
  pub limit : new.limit ≡ old.limit
  pub held : AreStillHeld old.parts.members new.parts.members
  pub spares : AreSparesFewer old.parts.members new.parts.members
  pub losses : AreLossesOf old.parts.members before now old.parts.entries new.parts.entries

-- the same, and a role is lost only by a slot that has failed between these counts
abbrev pub IsLessByFaults : (ℕ → ℕ) → (ℕ → ℕ) → Record → Record → Type 0
IsLessByFaults before now old new = IsOnlyLess before now old new × HaveRolesFailed old.parts.members new.parts.members before now

-- it was asked to add a slot, which alone may be a spare more; what is told lost has failed as the call began, too
pub record IsWithSpare (before now : ℕ → ℕ) (slot : ℕ) (old new : Record) : Type 0 where
  pub shape : IsShapeKept old.parts.members new.parts.members
  pub work : IsWorkKept old new
  pub limit : new.limit ≡ old.limit
  pub held : AreStillHeld old.parts.members new.parts.members
  pub failed : HaveRolesFailed old.parts.members new.parts.members before now
  pub spares : AreSparesBut slot old.parts.members new.parts.members
  pub losses : AreLossesOf old.parts.members before now old.parts.entries new.parts.entries

-- A call that ends at `to` was refused: for an end that can't be seen, or else for what speaks against it by the members that it leaves. Or it was done, and nothing spoke against it before.
abbrev pub IsDoneOrRefused : ℕ → ℕ → (Members → Refusal → Type 0) → Record → Record → Event → Type 0
IsDoneOrRefused visible to why old new (Refused refusal) = IsRefusedFor visible to why old.parts.members new.parts.members refusal
IsDoneOrRefused visible to why old new event = (to ≤ visible) × ((refusal : Refusal) → why old.parts.members refusal → ⊥)

-- its members and its work are as they were
pub record IsAsItWas (old new : Record) : Type 0 where
  pub members : new.parts.members ≡ old.parts.members
  pub resync : new.parts.work.resync ≡ old.parts.work.resync
  pub rebuilt : new.parts.work.rebuilt ≡ old.parts.work.rebuilt

-- and so are the phases ahead and its limit
abbrev pub IsUntouched : Record → Record → Type 0
IsUntouched old new = IsAsItWas old new × (phases_of new.ahead ≡ phases_of old.ahead) × (new.limit ≡ old.limit)

-- as many steps are left as its entries tell, where they tell it, and neither a loss nor a new spare since
abbrev pub IsLeftTold : Record → Type 0
IsLeftTold array = IfSome (told_left array.parts.entries) (λ n. n ≡ running_left array)

-- ---- what steps leave

-- A request for steps was answered by the last of these entries: as many were left as they say, and are now. Each role is on a slot that held it, or that was a spare or may be one since; the list has the length that the
-- entries tell; a reshape is active only if one was or is told to have begun, and phases are ahead only if some were; and where no step is left, there is neither. What refused a step speaks against it by the record that is
-- left. The array goes where it went; and by the counts of its slots' faults before and now, as long as nothing turns, a role is lost, or told lost, only where the slot that held it has failed.
pub record AreStepsAnswered (before now : ℕ → ℕ) (old new : Record) : Type 0 where
  pub inner : List Entry
  pub reply : Entry
  pub is : new.parts.entries ≡ old.parts.entries ++ (inner ++ reply ∷ [])
  pub counted : IsStepCount old.parts.entries new.parts.entries (running_left old) (running_left new) reply.event
  pub told : IsReplyNow new reply.event
  pub held : AreHeldBehind old.parts.members new.parts.members (inner ++ reply ∷ [])
  pub sized : list_length new.parts.members.newest ≡ length_of (list_length old.parts.members.newest) (inner ++ reply ∷ [])
  pub active : is_reshaping old.parts.members.newest ≡ false → list_any (λ e. is_begin e.event) (inner ++ reply ∷ []) ≡ false → is_reshaping new.parts.members.newest ≡ false
  pub ahead : phases_of old.ahead ≡ [] → list_any (λ e. is_planned e.event) (inner ++ reply ∷ []) ≡ false → phases_of new.ahead ≡ []
  pub rest : running_left new ≡ 0 → (is_reshaping new.parts.members.newest ≡ false) × (phases_of new.ahead ≡ [])
  pub kept : KeepsItsWay before now old new

-- One request after another, with these records between them, each of which leaves more to do.
abbrev pub AreAllAnswered : (ℕ → ℕ) → (ℕ → ℕ) → Record → List Record → Record → Type 0
AreAllAnswered before now old [] new = AreStepsAnswered before now old new
AreAllAnswered before now old (next ∷ others) new = (one : AreStepsAnswered before now old next) × IsTrue (leaves_more one.reply.event) × AreAllAnswered before now next others new

-- ---- what a line leaves

-- What an answered line leaves of an array, by the counts of its slots' faults before and now. A read, a write, a flush and a stop are refused only for missing roles, for what isn't resynced yet or for the backup, by what is left. A fail that is done takes the role out, and an add makes its slot a spare; where either is refused before a slot is touched, nothing is
-- changed, and a slot that failed in an add is no spare. A limit and a plan change nothing else, and to show the array changes nothing.
abbrev pub IsLeftBy : (ℕ → ℕ) → (ℕ → ℕ) → Record → Record → Line → Event → Type 0
IsLeftBy before now old new (Read at count) event = IsLessByFaults before now old new × IsDoneOrRefused (visible_in old) (at + count) (IsReadLacked old at count) old new event
IsLeftBy before now old new (Write at count seed) event = IsLessByFaults before now old new × IsDoneOrRefused (visible_in old) (at + count) (IsWriteLackedIn old at count) old new event
IsLeftBy before now old new Flush event = IsLessByFaults before now old new × IsDoneOrRefused (list_length old.parts.members.newest) 0 AreTooMany old new event
IsLeftBy before now old new Stop event = IsLessByFaults before now old new × IsDoneOrRefused (list_length old.parts.members.newest) 0 AreTooMany old new event
IsLeftBy before now old new (Fail role) (Failed failed) = IsOnlyLess before now old new × (is_unassigned (reading_of new.parts.members) role ≡ true)
IsLeftBy before now old new (Fail role) event = IsOnlyLess before now old new × (new.parts.members ≡ old.parts.members)
IsLeftBy before now old new (Add slot) (Added added) = IsWithSpare before now slot old new × (has_spare new.parts.members.spares slot ≡ true)
IsLeftBy before now old new (Add slot) (Refused (SlotFault failed)) = IsWithSpare before now slot old new × (has_spare new.parts.members.spares slot ≡ false) × IsFaulted slot before now
IsLeftBy before now old new (Add slot) (Refused refusal) = IsWithSpare before now slot old new × (new.parts.members ≡ old.parts.members)
IsLeftBy before now old new (Add slot) event = IsWithSpare before now slot old new
IsLeftBy before now old new (ArraySize limit) (Visible wished count) = IsAsItWas old new × (phases_of new.ahead ≡ phases_of old.ahead) × (new.limit ≡ limit)
IsLeftBy before now old new (ArraySize limit) event = IsUntouched old new
IsLeftBy before now old new (Grow wish) (Planned left wished) = IsAsItWas old new × (phases_of new.ahead ≡ phases (shape_of old.parts.members.newest) wish) × (new.limit ≡ old.limit)
IsLeftBy before now old new (Grow wish) event = IsUntouched old new
IsLeftBy before now old new (Step most) event = AreStepsAnswered before now old new
IsLeftBy before now old new Wait event = (others : List Record) × AreAllAnswered before now old others new
IsLeftBy before now old new Detail event = IsUntouched old new
IsLeftBy before now old new Mdstat event = IsUntouched old new
IsLeftBy before now old new line event = IsLessByFaults before now old new

-- so it is of the reply at this place
abbrev pub IsLeftAt : (ℕ → ℕ) → (ℕ → ℕ) → Record → Record → Line → List Entry → ℕ → Type 0
IsLeftAt before now old new line entries place = MatchOption (slice_get entries place) ⊥ (λ e. IsLeftBy before now old new line e.event)

-- ---- what a block leaves

-- What the calls of a block leave of an array, by the counts of its slots' faults before and now. What is entered is of new calls of its lanes and its worker, and tells how long the list is then. Each role is on a slot that held it, or that was a spare or may be one since, and so is each spare; each loss has its
-- cause; and it is the array of the same epoch, with the same backup. A reshape is active only if one was or is told to have begun, phases are ahead only if some were or a plan is told, and neither where by its entries none may be. As many steps are left as its entries tell, and its limit is the one that they tell. It goes its
-- way: where they tell no plan, to the shape that it went to.
pub record IsLeftByBlock (before now : ℕ → ℕ) (old new : Record) : Type 0 where
  pub entered : IsBlockEntered old.parts.entries new.parts.entries
  pub sized : list_length new.parts.members.newest ≡ length_of (list_length old.parts.members.newest) entered.more
  pub held : AreHeldSince old.parts.members new.parts.members entered.more
  pub losses : AreLossesSince old.parts.members before now [] entered.more
  pub same : IsSameEpoch old new
  pub active : is_reshaping old.parts.members.newest ≡ false → list_any (λ e. is_begin e.event) entered.more ≡ false → is_reshaping new.parts.members.newest ≡ false
  pub ahead : phases_of old.ahead ≡ [] → list_any (λ e. is_planned e.event) entered.more ≡ false → phases_of new.ahead ≡ []
  pub turning : IsTurningTold (is_reshaping new.parts.members.newest) (phases_of new.ahead) new.parts.entries
  pub left : IsLeftTold new
  pub limit : limit_of new.parts.entries ≡ new.limit
  pub way : GoesItsWay old new entered.more

-- so it is of the array that runs
abbrev pub IsLeftBeside : Setting → Option Record → Option Record → Type 0
IsLeftBeside setting old new = MatchOption old ⊥ (λ array. MatchOption new ⊥ (λ next. IsLeftByBlock setting.before setting.now array next))

-- ---- at an opening

-- An array that was made as it was asked for: the run's backup, no entry, the shape and the size, each role whole on the first slots, no spare, and nothing under way or ahead.
pub record IsNewRecord (backup : Option ℕ) (line : CreateLine) (array : Record) : Type 0 where
  pub backup_is : array.parts.backup ≡ backup
  pub quiet : array.parts.entries ≡ []
  pub shape : shape_of array.parts.members.newest ≡ line.shape
  pub size : array.parts.members.newest.size ≡ line.size
  pub still : is_reshaping array.parts.members.newest ≡ false
  pub roles : array.parts.members.roles ≡ tabulate line.shape.disks (λ role. Whole role)
  pub spares : array.parts.members.spares ≡ []
  pub resync : array.parts.work.resync ≡ None
  pub planless : phases_of array.ahead ≡ []
  pub unlimited : array.limit ≡ None

-- as this line asks
abbrev pub IsRecordMade : Option ℕ → Line → Record → Type 0
IsRecordMade backup (Create line) array = IsNewRecord backup line array
IsRecordMade backup (Read at count) array = ⊥
IsRecordMade backup (Write at count seed) array = ⊥
IsRecordMade backup Flush array = ⊥
IsRecordMade backup (Fail role) array = ⊥
IsRecordMade backup (Add slot) array = ⊥
IsRecordMade backup (ArraySize limit) array = ⊥
IsRecordMade backup (Grow wish) array = ⊥
IsRecordMade backup (Step most) array = ⊥
IsRecordMade backup Wait array = ⊥
IsRecordMade backup Stop array = ⊥
IsRecordMade backup Halt array = ⊥
IsRecordMade backup Detail array = ⊥
IsRecordMade backup Mdstat array = ⊥
IsRecordMade backup Alerts array = ⊥
IsRecordMade backup (Examine slot) array = ⊥
IsRecordMade backup (Assemble asked) array = ⊥

-- it is the record of the array that this history is of
abbrev pub IsOfHistory : History → Record → Type 0
IsOfHistory history array = (array.parts.uuid ≡ history.uuid) × (array.parts.given ≡ history.given) × (array.parts.first ≡ history.first)

-- An array that was found with this status: it is what the status tells, and no phase is ahead. Its entries begin this history.
pub record IsRecordFound (backup : Option ℕ) (history : History) (status : Status) (array : Record) : Type 0 where
  pub backup_is : array.parts.backup ≡ backup
  pub of : IsOfHistory history array
  pub more : List Entry
  pub begins : history.entries ≡ array.parts.entries ++ more
  pub shown : IsShownAs array status
  pub planless : phases_of array.ahead ≡ []

-- ---- from line to line

-- The record behind an entry that answers a line, the last of these: none where it ends the array, by which a role is told lost only where the slot that held it has failed; or else that of the same backup, with this history
-- and the steps that it tells, as the line leaves it.
abbrev pub IsNextRecord : Setting → Line → List Entry → Event → Record → Option Record → Type 0
IsNextRecord setting line entries event old new =
    MatchOption new (IsTrue (is_end event) × AreLossesOf old.parts.members setting.before setting.now old.parts.entries entries) (λ next. (next.parts.backup ≡ setting.backup) × (next.parts.entries ≡ entries) × IsLeftTold next × IsLeftBy setting.before setting.now old next line event)

-- the record before it judges so
abbrev pub IsRecordedBy : Setting → Line → List Entry → Option Entry → Record → Option Record → Type 0
IsRecordedBy setting line entries reply old new = MatchOption reply ⊥ (λ e. IsJudgedBy setting.given old line e.event × IsNextRecord setting line entries e.event old new)

-- The record of the array that runs before a line, if one does, and that behind it.
abbrev pub IsRecorded : Setting → List History → Line → Answered → Option Record → Option Record → Type 0
IsRecorded setting histories line (Inside epoch at) old new =
    MatchOption old ⊥ (λ array. IsRecordedBy setting line (entries_to histories epoch at) (entry_at histories epoch at) array new)
    × IfSome new (λ next. MatchOption (slice_get histories epoch) ⊥ (λ history. IsOfHistory history next))
IsRecorded setting histories line (IsOutside Created) old new = MatchOption new ⊥ (IsRecordMade setting.backup line)
IsRecorded setting histories line (IsOutside (Assembled epoch status)) old new =
    MatchOption new ⊥ (λ array. MatchOption (slice_get histories epoch) ⊥ (λ history. IsRecordFound setting.backup history status array))
IsRecorded setting histories line (IsOutside (Examined slot found)) old new = new ≡ old
IsRecorded setting histories line (IsOutside (ToldAlerts list)) old new = new ≡ old
IsRecorded setting histories line (IsOutside (IsRefusedOutside refusal)) old new = new ≡ old

-- The record behind the worker's answer, the last of its block: the block's calls leave it, with the history up to the latest of the block's replies. Where no array runs, none does behind the block.
abbrev pub IsRecordedBehind : Setting → List History → Course → Answered → Option Record → Option Record → Type 0
IsRecordedBehind setting histories course (Inside epoch at) old new =
    IsLeftBeside setting old new × MatchOption new ⊥ (λ next. next.parts.entries ≡ longer_of course.block (entries_to histories epoch at))
IsRecordedBehind setting histories course (IsOutside outside) old new = (old ≡ None) × (new ≡ None)

-- so it is of a line of its own, and of the worker's. The answers of a block are shown when all of it was done: the record moves with the last of them, and a line of lane a or b leaves it as it is.
abbrev pub IsRecordedIn : Setting → List History → Course → Lane → Line → Answered → Option Record → Option Record → Type 0
IsRecordedIn setting histories course InScript line what old new = IsRecorded setting histories line what old new
IsRecordedIn setting histories course InWorker line what old new = IsRecordedBehind setting histories course what old new
IsRecordedIn setting histories course lane line what old new = new ≡ old

-- Over a bank that tells its contents the stored superblocks say what the record does, where its last entry ended.
abbrev pub IsRecordStored : Type 0 → Given → List Operation → Record → Type 0
IsRecordStored tells given tape array = tells → IsStoredBy (moving_world given tape array) array

-- There is such a record before the first line and behind each, and the superblocks say what it does.
abbrev pub AreRecorded : Setting → List History → Course → Option Record → List Numbered → List LineReply → Option Record → Type 0
AreRecorded setting histories course old [] [] last = last ≡ old
AreRecorded setting histories course old [] (reply ∷ replies) last = ⊥
AreRecorded setting histories course old (line ∷ lines) [] last = ⊥
AreRecorded setting histories course old (line ∷ lines) (reply ∷ replies) last =
    (next : Option Record) × IsRecordedIn setting histories course line.lane line.line reply.what old next × IfSome next (IsRecordStored setting.tells setting.given setting.tape)
    × AreRecorded setting histories (course_after histories course line.lane line.line reply.what) next lines replies last
