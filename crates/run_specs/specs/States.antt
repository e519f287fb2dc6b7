-- The bank of a run with or without an array on it, and what a line does to it.
use Rattle.std.specs.Prelude.{◌≡◌, ◌⊎◌, ℕ, ◌+◌, ◌<◌, ◌≤◌, ◌^◌, ◌++◌, Bool, true, List, [], ◌∷◌, length, take, slice_get, vec_capacity, Option, Some, None, MatchOption, MatchBool, Result, Ok, Err, IfSome, IsSome, IsTrue, ⊤}
use Rattle.std.specs.List.{All}
use Rattle.array_requests.specs.raid_types_the_NoMemory.{NoMemory}
use Rattle.array_requests.specs.raid_types_the_Refusal.{Refusal}
use Rattle.array_requests.specs.raid_types_the_Phase.{Phase}
use Rattle.array_requests.specs.bank_Given.{Given, IsFaulted}
use Rattle.script.specs.history_the_Entry.{Entry}
use Rattle.script.specs.history_the_Event.{Event}
use Rattle.script.specs.history_the_Event_TheVariants.{Lost, SpareLost, Stepped, Refused}
use Rattle.script.specs.history_the_LostCause.{LostCause}
use Rattle.script.specs.history_the_LostCause_TheVariants.{Absent, Recovering, Command, Fault}
use Rattle.script.specs.history_Flat.{rest_of_call, next_number, length_of}
use Rattle.array_requests.specs.array_members_Parts.{Parts}
use Rattle.array_requests.specs.sb_specs_Reading.{is_reshaping, list_length}
use Rattle.array_requests.specs.reshape_request_Left.{phases_of}
use Rattle.array_requests.specs.array_specs_Parts.{RunningParts}
use Rattle.array_requests.specs.array_reply_specs_Replies.{IsRefusalBy}
use Rattle.script.specs.declared.lines.Line.{Line}
use Rattle.script.specs.declared.lines.Line.TheVariants.{Step, Wait}
use Rattle.script.specs.declared.lines.Numbered.{Numbered}
use Rattle.script.specs.declared.reply.Lane.TheVariants.{Script as InScript, Worker as InWorker}
use Rattle.script.specs.declared.reply.Lane.{Lane}
use Rattle.script.specs.Script.{is_of_worker}
use Rattle.run_specs.specs.declared.report.Answered.{Answered}
use Rattle.run_specs.specs.declared.report.Answered.TheVariants.{Inside, Outside}
use Rattle.run_specs.specs.declared.states.State.{State}
use Rattle.run_specs.specs.declared.states.State.TheVariants.{Idle, Running}
use Rattle.run_specs.specs.Blocks.{caller_of, IsOfBlock}
use Rattle.run_specs.specs.Caused.{Record, record_of}
use Rattle.run_specs.specs.Histories.{History, histories_of, entry_at, AreGoing, EndsOnce}
use Rattle.run_specs.specs.Making.{Setting, history_world, MayHaveHeld, MissingAtFirst}
use Rattle.run_specs.specs.Records.{IsRecorded, IsLeftBeside, IsRecordedIn}
use Rattle.run_specs.specs.Replies.{Course, with_script, at_rest, gone_on, course_after, steps_at_once, leaves_more_at, IsReplyAt, IsAnswer, IsWorkedAt, IsAnswerBeside}
use Rattle.array_requests.specs.Turning.{IsTurningTold}

-- the history of an array that runs
abbrev pub running_history : {B : Type 0} → Parts B → History
running_history array = record { uuid = array.uuid; given = array.given; first = array.first; entries = array.entries }

-- those of the arrays that ran, and of the one that runs
abbrev pub histories_in : {B : Type 0} → State B → List History
histories_in (Idle bank epochs) = histories_of epochs.items
histories_in (Running array epochs) = histories_of epochs.items ++ running_history array.parts ∷ []

abbrev pub bank_in : {B : Type 0} → State B → B
bank_in (Idle bank epochs) = bank
bank_in (Running array epochs) = array.parts.bank

-- where a run stands while an array runs, behind so many others
abbrev pub course_with : {B : Type 0} → ℕ → RunningParts B → Course
course_with before array = record { opened = before + 1; running = true; calls = λ lane. next_number (caller_of lane) array.parts.entries; size = list_length array.parts.members.newest; block = [] }

-- where the run stands
abbrev pub course_in : {B : Type 0} → State B → Course
course_in (Idle bank epochs) = at_rest (length epochs.items)
course_in (Running array epochs) = course_with (length epochs.items) array

-- the record of the array that runs, if one does
abbrev pub record_in : {B : Type 0} → State B → Option Record
record_in (Idle bank epochs) = None
record_in (Running array epochs) = Some (record_of array)

-- the event tells a role that an opening didn't find whole
abbrev pub IsAbsence : Event → Type 0
IsAbsence (Lost role Absent) = ⊤
IsAbsence (Lost role Recovering) = ⊤
IsAbsence event = ⊥

-- who calls: the script itself, or a lane or the worker of one of its blocks
abbrev pub IsCaller : ℕ → Type 0
IsCaller caller = (caller ≡ 0) ⊎ IsOfBlock caller

-- the entry is of a call of the script, before its caller's next one by this history, or it tells a role that the opening didn't find whole
abbrev pub IsOwnEntry : List Entry → Entry → Type 0
IsOwnEntry history e = (IsCaller e.caller × (e.number < next_number e.caller history)) ⊎ ((e.caller ≡ 254) × (e.number ≡ 0) × IsAbsence e.event)

-- the entries are of the script's calls, but for those of the opening
abbrev pub AreByScript : List Entry → List Entry → Type 0
AreByScript history entries = All (IsOwnEntry history) entries

abbrev pub IsByScript : History → Type 0
IsByScript history = AreByScript history.entries history.entries

-- it is, and no entry stands behind one that ends it
pub record IsOfScript (history : History) : Type 0 where
  pub script : IsByScript history
  pub once : EndsOnce history.entries

-- No history holds a call of another than the script, but for that of its opening, nor an entry behind one that ends it.
abbrev pub AreOfScript : List History → Type 0
AreOfScript histories = All IsOfScript histories

-- the histories are of the script alone, and that of the array that runs is not ended, tells no other length than that of its list, and tells a reshape that is active, or ahead; and there is room for it
pub record IsOwn (before : List History) (running : History) (size : ℕ) (active : Bool) (ahead : List Phase) (count capacity : ℕ) : Type 0 where
  pub former : AreOfScript before
  pub script : IsByScript running
  pub going : AreGoing running.entries
  pub sized : length_of size running.entries ≡ size
  pub turning : IsTurningTold active ahead running.entries
  pub room : count < capacity
  pub few : count < 2 ^ 32

abbrev pub RunsOwn : {B : Type 0} → State B → Type 0
RunsOwn (Idle bank epochs) = AreOfScript (histories_of epochs.items)
RunsOwn (Running array epochs) = IsOwn (histories_of epochs.items) (running_history array.parts) (list_length array.parts.members.newest) (is_reshaping array.parts.members.newest) (phases_of array.ahead) (length epochs.items) (vec_capacity epochs)

-- the bank has few slots, and the backup is the last
pub record IsFitBank (given : Given) (backup : Option ℕ) : Type 0 where
  pub few : given.slots ≤ 32
  pub last : MatchOption backup ⊤ (λ slot. slot + 1 ≡ given.slots)

-- a history went on: what was added belongs to none of the former calls
pub record IsGrown (old new : History) : Type 0 where
  pub uuid : new.uuid ≡ old.uuid
  pub given : new.given ≡ old.given
  pub first : new.first ≡ old.first
  pub more : List Entry
  pub grown : new.entries ≡ old.entries ++ more
  pub later : All (λ e. rest_of_call e more ≡ []) old.entries

abbrev pub AreGrown : List History → List History → Type 0
AreGrown [] news = ⊤
AreGrown (old ∷ olds) [] = ⊥
AreGrown (old ∷ olds) (new ∷ news) = IsGrown old new × AreGrown olds news

-- A role is told lost behind this history by a fault only where a slot has failed that held it at the opening, or was a spare there or told added
-- since, by command only where there was such a slot, and as absent or recovering only where it wasn't whole at the opening.
abbrev pub IsRoleLossSince : Setting → History → ℕ → LostCause → Type 0
IsRoleLossSince setting history role Fault =
    (slot : ℕ) × IsFaulted slot setting.before setting.now × (setting.tells → MayHaveHeld (history_world setting history) history.entries role slot)
IsRoleLossSince setting history role Command = setting.tells → (slot : ℕ) × MayHaveHeld (history_world setting history) history.entries role slot
IsRoleLossSince setting history role Absent = setting.tells → MissingAtFirst (history_world setting history) role
IsRoleLossSince setting history role Recovering = setting.tells → MissingAtFirst (history_world setting history) role

-- a refusal for a slot that failed stands only where that slot has failed since, and one for the backup only where the backup has
abbrev pub IsRefusalSince : Setting → Refusal → Type 0
IsRefusalSince setting refusal = IsRefusalBy setting.backup setting.before setting.now refusal

-- An event that tells a loss or a refusal has its cause, also where the refusal ended some steps; a slot is told lost as a spare only where it has
-- failed since, and held a role at the opening, or was a spare there or since.
abbrev pub IsLossSince : Setting → History → Event → Type 0
IsLossSince setting history (Lost role cause) = IsRoleLossSince setting history role cause
IsLossSince setting history (SpareLost slot) = IsFaulted slot setting.before setting.now
    × (setting.tells → (role : ℕ) × MayHaveHeld (history_world setting history) history.entries role slot)
IsLossSince setting history (Stepped done left ended) = IfSome ended (IsRefusalSince setting)
IsLossSince setting history (Refused refusal) = IsRefusalSince setting refusal
IsLossSince setting history event = ⊤

-- the history as it stood with these entries
abbrev pub with_entries : List Entry → History → History
with_entries entries history = record { uuid = history.uuid; given = history.given; first = history.first; entries = entries }

-- each loss and refusal that these entries tell has its cause, by what stood before it
abbrev pub AreLossesBehind : Setting → History → List Entry → List Entry → Type 0
AreLossesBehind setting history before [] = ⊤
AreLossesBehind setting history before (e ∷ entries) = IsLossSince setting (with_entries before history) e.event × AreLossesBehind setting history (before ++ e ∷ []) entries

-- more entries stand behind the old ones, and each loss and refusal that they tell has its cause
pub record AreLossesSince (setting : Setting) (old : List Entry) (new : History) : Type 0 where
  pub more : List Entry
  pub grown : new.entries ≡ old ++ more
  pub failed : AreLossesBehind setting new old more

abbrev pub AreLossesFrom : Setting → List History → List History → Type 0
AreLossesFrom setting [] [] = ⊤
AreLossesFrom setting [] (new ∷ news) = AreLossesSince setting [] new × AreLossesFrom setting [] news
AreLossesFrom setting (old ∷ olds) [] = ⊥
AreLossesFrom setting (old ∷ olds) (new ∷ news) = AreLossesSince setting old.entries new × AreLossesFrom setting olds news

-- the entry that an answer names is there
abbrev pub IsNamed : List History → Answered → Type 0
IsNamed histories (Inside epoch at) = IsSome (entry_at histories epoch at)
IsNamed histories (Outside outside) = ⊤

-- The first calls of a wait, from this number on and before that one: each has its reply at one of these places, and leaves more to do.
abbrev pub IsWaitingAt : ℕ → List Entry → List ℕ → ℕ → ℕ → Type 0
IsWaitingAt size entries [] number next = next ≡ number
IsWaitingAt size entries (first ∷ others) number next =
    IsReplyAt size entries first number (Step steps_at_once) × IsTrue (leaves_more_at entries first) × IsWaitingAt size entries others (number + 1) next

-- the array that runs was asked by a wait, for which memory was short after so many of its calls, when its list had the length that the entries so far tell
pub record IsWaitCut (histories : List History) (old new : Course) : Type 0 where
  pub running : IsTrue old.running
  pub place : ℕ
  pub latest : place + 1 ≡ old.opened
  pub history : History
  pub there : slice_get histories place ≡ Some history
  pub earlier : List ℕ
  pub next : ℕ
  pub waiting : IsWaitingAt old.size history.entries earlier (old.calls InScript) next
  pub upto : ℕ
  pub within : upto ≤ length history.entries
  pub now : new ≡ gone_on (with_script next old.calls) (length_of old.size (take upto history.entries)) old

-- a line that was cut short is a wait
abbrev pub IsCutShort : List History → Course → Line → Course → Type 0
IsCutShort histories old Wait new = IsWaitCut histories old new
IsCutShort histories old line new = ⊥

-- where the run stands after a line for which memory was short: where it stood, but behind some calls of a wait
abbrev pub IsCourseShort : List History → Course → Line → Course → Type 0
IsCourseShort histories old line new = (new ≡ old) ⊎ IsCutShort histories old line new

-- an answer stands for a moment between these marks
abbrev pub EndsBetween : ℕ → ℕ → List History → Answered → Type 0
EndsBetween low high histories (Inside epoch at) = MatchOption (entry_at histories epoch at) ⊥ (λ e. (low ≤ e.end) × (e.end ≤ high))
EndsBetween low high histories (Outside outside) = low ≤ high

-- one line was answered
pub record IsTurn {B : Type 0} (setting : Setting) (old new : State B) (line : Line) (what : Answered) : Type 0 where
  pub own : RunsOwn new
  pub losses : AreLossesFrom setting (histories_in old) (histories_in new)
  pub grown : AreGrown (histories_in old) (histories_in new)
  pub ends : setting.tells → EndsBetween setting.began (length setting.tape) (histories_in new) what
  pub answer : IsAnswer setting (histories_in new) (course_in old) line (length setting.tape) what
  pub course : course_in new ≡ course_after (histories_in new) (course_in old) InScript line what
  pub recorded : IsRecorded setting (histories_in new) line what (record_in old) (record_in new)

-- memory was short: nothing was entered, but for the calls of a wait before the one that it was short for
pub record IsNoTurn {B : Type 0} (setting : Setting) (old new : State B) (line : Line) : Type 0 where
  pub own : RunsOwn new
  pub losses : AreLossesFrom setting (histories_in old) (histories_in new)
  pub grown : AreGrown (histories_in old) (histories_in new)
  pub course : IsCourseShort (histories_in new) (course_in old) line (course_in new)

abbrev pub IsTurnOrNone : {B : Type 0} → Setting → State B → State B → Line → Result Answered NoMemory → Type 0
IsTurnOrNone setting old new line (Ok what) = IsTurn setting old new line what
IsTurnOrNone setting old new line (Err fault) = IsNoTurn setting old new line

-- ---- a block

-- the same array runs, or none does, and the script has called nothing
pub record IsBeside (old new : Course) : Type 0 where
  pub opened : new.opened ≡ old.opened
  pub running : new.running ≡ old.running
  pub script : new.calls InScript ≡ old.calls InScript

-- A block was run, or cut short where memory was short: what was entered is the script's still, each loss and refusal has its cause, and for the script the
-- run stands where it stood. Of the record of the array that runs its calls leave what they may, or it was short before them, and the record is as it was.
pub record IsBlockTurn {B : Type 0} (setting : Setting) (old new : State B) : Type 0 where
  pub own : RunsOwn new
  pub losses : AreLossesFrom setting (histories_in old) (histories_in new)
  pub grown : AreGrown (histories_in old) (histories_in new)
  pub course : IsBeside (course_in old) (course_in new)
  pub left : (record_in new ≡ record_in old) ⊎ IsLeftBeside setting (record_in old) (record_in new)

-- the answers to the first lines of a block, each where the run stands behind those before it
abbrev pub AreAnswersBeside : List History → Course → List Numbered → List Answered → Type 0
AreAnswersBeside histories course lines [] = ⊤
AreAnswersBeside histories course [] (what ∷ whats) = ⊥
AreAnswersBeside histories course (line ∷ lines) (what ∷ whats) =
    IsAnswerBeside histories course line.lane line.line what × AreAnswersBeside histories (course_after histories course line.lane line.line what) lines whats

-- where it stands behind them
abbrev pub course_beside : List History → Course → List Numbered → List Answered → Course
course_beside histories course lines [] = course
course_beside histories course [] (what ∷ whats) = course
course_beside histories course (line ∷ lines) (what ∷ whats) = course_beside histories (course_after histories course line.lane line.line what) lines whats

-- the records of the array that runs, from answer to answer
abbrev pub AreRecordedBeside : Setting → List History → Course → Option Record → List Numbered → List Answered → Option Record → Type 0
AreRecordedBeside setting histories course old lines [] last = last ≡ old
AreRecordedBeside setting histories course old [] (what ∷ whats) last = ⊥
AreRecordedBeside setting histories course old (line ∷ lines) (what ∷ whats) last =
    (next : Option Record) × IsRecordedIn setting histories course line.lane line.line what old next
    × AreRecordedBeside setting histories (course_after histories course line.lane line.line what) next lines whats last

-- the entry that an answer names, if it names one, was made at this mark or later
abbrev pub EndsFrom : ℕ → List History → Answered → Type 0
EndsFrom low histories (Inside epoch at) = MatchOption (entry_at histories epoch at) ⊥ (λ e. low ≤ e.end)
EndsFrom low histories (Outside outside) = ⊤

-- the run stands where it is told to: as many arrays were opened, the last one runs or doesn't, and each caller has the same next number
pub record IsStanding (told course : Course) : Type 0 where
  pub opened : course.opened ≡ told.opened
  pub running : course.running ≡ told.running
  pub calls : (lane : Lane) → course.calls lane ≡ told.calls lane

-- The worker has made some calls, each a request for some steps, the last of which has its reply at this place, and the run stands behind them.
pub record HasWorkedOn (histories : List History) (told course : Course) : Type 0 where
  pub running : IsTrue told.running
  pub epoch : ℕ
  pub latest : epoch + 1 ≡ told.opened
  pub history : History
  pub there : slice_get histories epoch ≡ Some history
  pub earlier : List ℕ
  pub place : ℕ
  pub worked : IsWorkedAt told.size history.entries earlier place (told.calls InWorker)
  pub stands : IsStanding (course_after histories told InWorker Wait (Inside epoch place)) course

-- Amid a block, of which these lines have no reply: the first of each lane's were answered too, each in its lane's next call, and some calls of the worker, and nobody else has called. The run stands behind them.
abbrev pub IsAmidBlock : List History → Course → List Numbered → Course → Type 0
IsAmidBlock histories told [] course = IsStanding told course
IsAmidBlock histories told (line ∷ lines) course = MatchBool (is_of_worker line.lane)
    (IsStanding told course ⊎ HasWorkedOn histories told course)
    (((course.calls line.lane ≡ told.calls line.lane) × IsAmidBlock histories told lines course)
    ⊎ ((what : Answered) × IsAnswerBeside histories told line.lane line.line what × IsAmidBlock histories (course_after histories told line.lane line.line what) lines course))

-- no memory holds a history of so many entries
abbrev pub IsPastMemory : List History → Type 0
IsPastMemory histories = (epoch : ℕ) × (history : History) × (slice_get histories epoch ≡ Some history) × (2 ^ 61 < length history.entries)

-- so it is behind the answers to the first lines of the block
abbrev pub IsAmidBehind : List History → Course → List Numbered → List Answered → Course → Type 0
IsAmidBehind histories told lines [] course = IsAmidBlock histories told lines course
IsAmidBehind histories told [] (what ∷ whats) course = ⊥
IsAmidBehind histories told (line ∷ lines) (what ∷ whats) course = IsAmidBehind histories (course_after histories told line.lane line.line what) lines whats course

-- The lines of a block were answered, or the first of them, up to one for which memory was short. Behind all of them the run stands where the answers tell, and the last record is that of the array that runs now.
pub record IsBlockAnswered {B : Type 0} (setting : Setting) (old new : State B) (lines : List Numbered) (whats : List Answered) : Type 0 where
  pub turn : IsBlockTurn setting old new
  pub few : length whats ≤ length lines
  pub answers : AreAnswersBeside (histories_in new) (course_in old) lines whats
  pub ends : setting.tells → All (EndsFrom setting.began (histories_in new)) whats
  pub course : length whats ≡ length lines → course_in new ≡ course_beside (histories_in new) (course_in old) lines whats
  pub amid : IsAmidBehind (histories_in new) (course_in old) lines whats (course_in new) ⊎ IsPastMemory (histories_in new)
  pub last : Option Record
  pub recorded : AreRecordedBeside setting (histories_in new) (course_in old) (record_in old) lines whats last
  pub recorded_now : length whats ≡ length lines → last ≡ record_in new

-- the answer by the entry at this place
abbrev pub answer_at : ℕ → Result ℕ NoMemory → Result Answered NoMemory
answer_at epoch (Ok place) = Ok (Inside epoch place)
answer_at epoch (Err fault) = Err fault
