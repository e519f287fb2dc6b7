-- The replies to the lines of a script, over the histories of its arrays.
use Rattle.std.specs.Prelude.{◌≡◌, ◌⊎◌, ℕ, ◌+◌, ◌*◌, ◌^◌, ◌≤◌, Bool, true, false, if◌then◌else◌, nat_lt, List, [], ◌∷◌, length, drop, take, slice_get, Option, Some, None, MatchOption, IfSome, IsTrue, IsFalse, ⊤}
use Rattle.std.specs.Option.{option_map_or}
use Rattle.array_requests.specs.raid_types_the_Refusal.{Refusal}
use Rattle.array_requests.specs.raid_types_the_Refusal_TheVariants.{Running, NotRunning}
use Rattle.array_requests.specs.raid_types_the_Status.{Status}
use Rattle.array_requests.specs.raid_types_Shapes.{data_disks, has_slot}
use Rattle.array_requests.specs.array_create_assemble_the_CreateSpec.{CreateSpec}
use Rattle.script.specs.declared.lines.CreateLine.{CreateLine}
use Rattle.script.specs.history_the_Entry.{Entry}
use Rattle.script.specs.history_the_Event.{Event}
use Rattle.script.specs.history_the_Event_TheVariants.{Stepped}
use Rattle.script.specs.history_the_Request_TheVariants.{Read as AsksRead, Write as AsksWrite, Flush as AsksFlush, Fail as AsksFail, Add as AsksAdd, Visible as AsksVisible, Grow as AsksGrow, Steps as AsksSteps}
use Rattle.script.specs.history_Flat.{rest_of_call, next_number, number_after, length_of}
use Rattle.script.specs.history_Fits.{FitsStop, FitsHalt}
use Rattle.array_requests.specs.array_reply_specs_Replies.{RunningFits}
use Rattle.script.specs.history_World.{opening_list}
use Rattle.script.specs.history_Opened.{OpensSound}
use Rattle.array_requests.specs.array_create_assemble_Creating.{create_refusal}
use Rattle.array_requests.specs.array_create_assemble_Opening.{AreGiven, array_of, scope_of}
use Rattle.array_requests.specs.array_create_assemble_Made.{used_slot}
use Rattle.array_requests.specs.array_create_assemble_Running.{OpensWithZeros}
use Rattle.script.specs.declared.lines.Line.{Line}
use Rattle.script.specs.declared.lines.Line.TheVariants.{Create, Read, Write, Flush, Fail, Add, ArraySize, Grow, Step, Wait, Stop, Halt, Detail, Mdstat, Alerts, Examine, Assemble}
use Rattle.script.specs.declared.lines.Numbered.{Numbered}
use Rattle.script.specs.declared.reply.Lane.{Lane}
use Rattle.script.specs.declared.reply.Lane.TheVariants.{Script as InScript, Worker}
use Rattle.script.specs.Seeds.{seeded}
use Rattle.run_specs.specs.declared.report.Outside.TheVariants.{Created, Assembled, Examined, Alerts as ToldAlerts, Refused}
use Rattle.run_specs.specs.declared.report.Answered.{Answered}
use Rattle.run_specs.specs.declared.report.Answered.TheVariants.{Inside, Outside as IsOutside}
use Rattle.run_specs.specs.declared.report.LineReply.{LineReply}
use Rattle.run_specs.specs.Blocks.{caller_of, request_of, IsCallersReply}
use Rattle.run_specs.specs.Histories.{History, entry_at, is_end}
use Rattle.run_specs.specs.Showing.{IsShown}
use Rattle.array_requests.specs.Turning.{IsTellable}
use Rattle.run_specs.specs.Examining.{IsExaminedBy, IsUnexamined}
use Rattle.run_specs.specs.Making.{Setting, held_at, history_world, IsUncreated, IsUnassembled, IsStoredNew, IsStoredAs, BeginsShown}

-- the array that a line asks for
abbrev pub spec_of : CreateLine → CreateSpec
spec_of line = record { uuid = line.uuid; shape = line.shape; size = line.size; offset = line.offset }

-- the entry of one call fits the line, over a list of so many sectors when the call began, and by the entries before it
abbrev pub FitsLine : ℕ → List Entry → Entry → Line → Type 0
FitsLine size before e (Create spec) = ⊥
FitsLine size before e (Read at count) = RunningFits size before e (AsksRead at count)
FitsLine size before e (Write at count seed) = RunningFits size before e (AsksWrite at (seeded seed at count))
FitsLine size before e Flush = RunningFits size before e AsksFlush
FitsLine size before e (Fail role) = RunningFits size before e (AsksFail role)
FitsLine size before e (Add slot) = RunningFits size before e (AsksAdd slot)
FitsLine size before e (ArraySize limit) = RunningFits size before e (AsksVisible limit)
FitsLine size before e (Grow wish) = RunningFits size before e (AsksGrow wish)
FitsLine size before e (Step most) = RunningFits size before e (AsksSteps most)
FitsLine size before e Wait = ⊥
FitsLine size before e Stop = FitsStop e.event
FitsLine size before e Halt = FitsHalt e.event
FitsLine size before e Detail = IsShown size before e.event
FitsLine size before e Mdstat = IsShown size before e.event
FitsLine size before e Alerts = ⊥
FitsLine size before e (Examine slot) = ⊥
FitsLine size before e (Assemble uuid) = ⊥

-- where a run stands between two lines: how many arrays were opened, whether the last one runs, and while it does, the next number of each of its callers, the sectors that its list has now, and,
-- within a block, where these are those of before it, the entries up to the latest of the block's replies so far
pub record Course : Type 0 where
  pub opened : ℕ
  pub running : Bool
  pub calls : Lane → ℕ
  pub size : ℕ
  pub block : List Entry

-- the script's next number, beside those of the others
abbrev pub with_script : ℕ → (Lane → ℕ) → Lane → ℕ
with_script n calls InScript = n
with_script n calls lane = calls lane

abbrev pub at_rest : ℕ → Course
at_rest opened = record { opened = opened; running = false; calls = λ lane. 0; size = 0; block = [] }

abbrev pub begun : ℕ → ℕ → ℕ → Course
begun opened calls size = record { opened = opened + 1; running = true; calls = with_script calls (λ lane. 0); size = size; block = [] }

abbrev pub gone_on : (Lane → ℕ) → ℕ → Course → Course
gone_on calls size course = record { opened = course.opened; running = course.running; calls = calls; size = size; block = [] }

-- the sectors of the list that a line makes
abbrev pub size_made : Line → ℕ
size_made (Create line) = data_disks line.shape * line.size
size_made (Read at count) = 0
size_made (Write at count seed) = 0
size_made Flush = 0
size_made (Fail role) = 0
size_made (Add slot) = 0
size_made (ArraySize limit) = 0
size_made (Grow wish) = 0
size_made (Step most) = 0
size_made Wait = 0
size_made Stop = 0
size_made Halt = 0
size_made Detail = 0
size_made Mdstat = 0
size_made Alerts = 0
size_made (Examine slot) = 0
size_made (Assemble uuid) = 0

-- the next numbers behind an entry
abbrev pub calls_behind : (Lane → ℕ) → Entry → Lane → ℕ
calls_behind calls e lane = number_after (caller_of lane) (calls lane) e

-- the longer of two beginnings of a history
abbrev pub longer_of : List Entry → List Entry → List Entry
longer_of first second = if nat_lt (length first) (length second) then second else first

-- Where it stands behind an entry that answers a line, which is the last of these. The entry of a line of its own is the last of all: its call may have ended the array, and what is entered may have changed the
-- length of its list. In a block an entry that is shown later may have been made earlier: how long the list is behind the block is told by the entries up to the latest of all its replies.
abbrev pub course_behind : Lane → Course → List Entry → Entry → Course
course_behind InScript course entries e = if is_end e.event then at_rest course.opened else gone_on (calls_behind course.calls e) (length_of course.size entries) course
course_behind Worker course entries e = gone_on (calls_behind course.calls e) (length_of course.size (longer_of course.block entries)) course
course_behind lane course entries e =
    record { opened = course.opened; running = course.running; calls = calls_behind course.calls e; size = course.size; block = longer_of course.block entries }

-- the entries of a history up to this place
abbrev pub entries_to : List History → ℕ → ℕ → List Entry
entries_to histories epoch at = option_map_or (λ h. take (at + 1) h.entries) (slice_get histories epoch) []

-- where it stands after an answer to a line, and after several; an array that was found was asked for its status
abbrev pub course_after : List History → Course → Lane → Line → Answered → Course
course_after histories course lane line (Inside epoch at) = option_map_or (course_behind lane course (entries_to histories epoch at)) (entry_at histories epoch at) course
course_after histories course lane line (IsOutside Created) = begun course.opened 0 (size_made line)
course_after histories course lane line (IsOutside (Assembled epoch status)) = begun course.opened 1 status.length
course_after histories course lane line (IsOutside (Examined slot found)) = course
course_after histories course lane line (IsOutside (ToldAlerts list)) = course
course_after histories course lane line (IsOutside (Refused refusal)) = course

abbrev pub course_of : List History → Course → List Numbered → List LineReply → Course
course_of histories course [] replies = course
course_of histories course (line ∷ lines) [] = course
course_of histories course (line ∷ lines) (reply ∷ replies) = course_of histories (course_after histories course line.lane line.line reply.what) lines replies

-- The entry at a place is the last of the script's call of this number, and its reply to the line.
pub record IsReplyAt (size : ℕ) (entries : List Entry) (place number : ℕ) (line : Line) : Type 0 where
  pub entry : Entry
  pub there : slice_get entries place ≡ Some entry
  pub caller : entry.caller ≡ 0
  pub numbered : entry.number ≡ number
  pub last : rest_of_call entry (drop (place + 1) entries) ≡ []
  pub fits : FitsLine size (take place entries) entry line

-- how many steps a wait asks for at a time
abbrev pub steps_at_once : ℕ
steps_at_once = 4096

-- the answer to a request for steps leaves some to do, and none was refused
abbrev pub leaves_more : Event → Bool
leaves_more (Stepped done left None) = nat_lt 0 left
leaves_more event = false

abbrev pub leaves_more_at : List Entry → ℕ → Bool
leaves_more_at entries place = option_map_or (λ e. leaves_more e.event) (slice_get entries place) false

-- A wait is answered by one call for steps after another, from this number on: those before the last have their replies at these
-- places, and each leaves more to do, which the last doesn't.
abbrev pub IsWaitedAt : ℕ → List Entry → List ℕ → ℕ → ℕ → Type 0
IsWaitedAt size entries [] place number = IsReplyAt size entries place number (Step steps_at_once) × IsFalse (leaves_more_at entries place)
IsWaitedAt size entries (first ∷ others) place number =
    IsReplyAt size entries first number (Step steps_at_once) × IsTrue (leaves_more_at entries first) × IsWaitedAt size entries others place (number + 1)

-- the line is answered by the entry at a place, in the script's call of this number; a wait, by the last of its calls
abbrev pub IsRepliedAt : ℕ → List Entry → ℕ → ℕ → Line → Type 0
IsRepliedAt size entries place number Wait = (earlier : List ℕ) × IsWaitedAt size entries earlier place number
IsRepliedAt size entries place number line = IsReplyAt size entries place number line

-- Behind an entry that answers a line each caller's next number, by these entries, is what the answers so far tell: nobody has called but for the lines.
abbrev pub AreCallsTold : (Lane → ℕ) → List Entry → Option Entry → Type 0
AreCallsTold calls entries reply = MatchOption reply ⊥ (λ e. (lane : Lane) → next_number (caller_of lane) entries ≡ calls_behind calls e lane)

-- The line is answered by an entry of the array that runs, in the script's next call, which tells nothing that only a reshape could, unless by the entries before it one may be active, or ahead. No lane and no worker has called since the line before.
pub record IsAnsweredInside (histories : List History) (course : Course) (epoch place : ℕ) (line : Line) : Type 0 where
  pub running : IsTrue course.running
  pub latest : epoch + 1 ≡ course.opened
  pub history : History
  pub there : slice_get histories epoch ≡ Some history
  pub replied : IsRepliedAt course.size history.entries place (course.calls InScript) line
  pub tellable : IsTellable history.entries place
  pub calls : AreCallsTold course.calls (take (place + 1) history.entries) (slice_get history.entries place)

-- The next history is that of an array that was made as the line asks: nothing spoke against it, it has the uuid, all slots are given,
-- and it begins where the reply was made; there its list is zero, it is sound, its superblocks say what was asked for, and no slot
-- behind them holds the array.
pub record IsMadeAt (setting : Setting) (histories : List History) (epoch end : ℕ) (line : CreateLine) : Type 0 where
  pub unrefused : create_refusal setting.given setting.backup (spec_of line) ≡ None
  pub history : History
  pub there : slice_get histories epoch ≡ Some history
  pub named : history.uuid ≡ line.uuid
  pub given : (slot : ℕ) → has_slot history.given slot ≡ nat_lt slot setting.given.slots
  pub first : setting.tells → history.first ≡ end
  pub zeros : setting.tells → OpensWithZeros (data_disks line.shape * line.size) (opening_list (history_world setting history))
  pub free : setting.tells → used_slot (scope_of setting.given setting.backup history.given line.uuid) (held_at setting end) line.shape.disks ≡ None
  pub stored : setting.tells → IsStoredNew (history_world setting history) (spec_of line)
  pub sound : setting.tells → OpensSound (history_world setting history)

abbrev pub IsMadeBy : Setting → List History → ℕ → ℕ → Line → Type 0
IsMadeBy setting histories epoch end (Create line) = IsMadeAt setting histories epoch end line
IsMadeBy setting histories epoch end (Read at count) = ⊥
IsMadeBy setting histories epoch end (Write at count seed) = ⊥
IsMadeBy setting histories epoch end Flush = ⊥
IsMadeBy setting histories epoch end (Fail role) = ⊥
IsMadeBy setting histories epoch end (Add slot) = ⊥
IsMadeBy setting histories epoch end (ArraySize limit) = ⊥
IsMadeBy setting histories epoch end (Grow wish) = ⊥
IsMadeBy setting histories epoch end (Step most) = ⊥
IsMadeBy setting histories epoch end Wait = ⊥
IsMadeBy setting histories epoch end Stop = ⊥
IsMadeBy setting histories epoch end Halt = ⊥
IsMadeBy setting histories epoch end Detail = ⊥
IsMadeBy setting histories epoch end Mdstat = ⊥
IsMadeBy setting histories epoch end Alerts = ⊥
IsMadeBy setting histories epoch end (Examine slot) = ⊥
IsMadeBy setting histories epoch end (Assemble uuid) = ⊥

-- The next history is that of an array that was found: of the uuid that was asked for, or else of the first superblock in its given
-- slots. It begins where the reply was made, with the roles that are missing by the superblocks there, and with the status that the
-- reply tells and that stands in them.
pub record IsFoundAt (setting : Setting) (histories : List History) (epoch end : ℕ) (asked : Option (List ℕ)) (status : Status) : Type 0 where
  pub history : History
  pub there : slice_get histories epoch ≡ Some history
  pub named : IfSome asked (λ uuid. history.uuid ≡ uuid)
  pub given : AreGiven setting.given history.given setting.before setting.now
  pub shown : BeginsShown history status
  pub at_end : setting.tells → shown.end ≡ end
  pub first : setting.tells → history.first ≡ end
  pub elected : setting.tells → history.uuid ≡ array_of setting.given setting.backup history.given asked (held_at setting end)
  pub stored : setting.tells → IsStoredAs (history_world setting history) status shown.losses

abbrev pub IsFoundBy : Setting → List History → ℕ → ℕ → Line → Status → Type 0
IsFoundBy setting histories epoch end (Create line) status = ⊥
IsFoundBy setting histories epoch end (Read at count) status = ⊥
IsFoundBy setting histories epoch end (Write at count seed) status = ⊥
IsFoundBy setting histories epoch end Flush status = ⊥
IsFoundBy setting histories epoch end (Fail role) status = ⊥
IsFoundBy setting histories epoch end (Add slot) status = ⊥
IsFoundBy setting histories epoch end (ArraySize limit) status = ⊥
IsFoundBy setting histories epoch end (Grow wish) status = ⊥
IsFoundBy setting histories epoch end (Step most) status = ⊥
IsFoundBy setting histories epoch end Wait status = ⊥
IsFoundBy setting histories epoch end Stop status = ⊥
IsFoundBy setting histories epoch end Halt status = ⊥
IsFoundBy setting histories epoch end Detail status = ⊥
IsFoundBy setting histories epoch end Mdstat status = ⊥
IsFoundBy setting histories epoch end Alerts status = ⊥
IsFoundBy setting histories epoch end (Examine slot) status = ⊥
IsFoundBy setting histories epoch end (Assemble uuid) status = IsFoundAt setting histories epoch end uuid status

-- the refusals that stand in no history: a create or an assemble while an array runs, or for what the bank holds, an examine, and the
-- other lines without an array
abbrev pub IsRefusedOutside : Setting → Bool → ℕ → Line → Refusal → Type 0
IsRefusedOutside setting true end (Create line) refusal = refusal ≡ Running
IsRefusedOutside setting true end (Assemble uuid) refusal = refusal ≡ Running
IsRefusedOutside setting true end (Read at count) refusal = ⊥
IsRefusedOutside setting true end (Write at count seed) refusal = ⊥
IsRefusedOutside setting true end Flush refusal = ⊥
IsRefusedOutside setting true end (Fail role) refusal = ⊥
IsRefusedOutside setting true end (Add slot) refusal = ⊥
IsRefusedOutside setting true end (ArraySize limit) refusal = ⊥
IsRefusedOutside setting true end (Grow wish) refusal = ⊥
IsRefusedOutside setting true end (Step most) refusal = ⊥
IsRefusedOutside setting true end Wait refusal = ⊥
IsRefusedOutside setting true end Stop refusal = ⊥
IsRefusedOutside setting true end Halt refusal = ⊥
IsRefusedOutside setting true end Detail refusal = ⊥
IsRefusedOutside setting true end Mdstat refusal = ⊥
IsRefusedOutside setting true end Alerts refusal = ⊥
IsRefusedOutside setting true end (Examine slot) refusal = IsUnexamined setting slot refusal
IsRefusedOutside setting false end (Create line) refusal = IsUncreated setting (spec_of line) end refusal
IsRefusedOutside setting false end (Assemble uuid) refusal = IsUnassembled setting uuid end refusal
IsRefusedOutside setting false end (Read at count) refusal = refusal ≡ NotRunning
IsRefusedOutside setting false end (Write at count seed) refusal = refusal ≡ NotRunning
IsRefusedOutside setting false end Flush refusal = refusal ≡ NotRunning
IsRefusedOutside setting false end (Fail role) refusal = refusal ≡ NotRunning
IsRefusedOutside setting false end (Add slot) refusal = refusal ≡ NotRunning
IsRefusedOutside setting false end (ArraySize limit) refusal = refusal ≡ NotRunning
IsRefusedOutside setting false end (Grow wish) refusal = refusal ≡ NotRunning
IsRefusedOutside setting false end (Step most) refusal = refusal ≡ NotRunning
IsRefusedOutside setting false end Wait refusal = refusal ≡ NotRunning
IsRefusedOutside setting false end Stop refusal = refusal ≡ NotRunning
IsRefusedOutside setting false end Halt refusal = refusal ≡ NotRunning
IsRefusedOutside setting false end Detail refusal = refusal ≡ NotRunning
IsRefusedOutside setting false end Mdstat refusal = refusal ≡ NotRunning
IsRefusedOutside setting false end Alerts refusal = refusal ≡ NotRunning
IsRefusedOutside setting false end (Examine slot) refusal = IsUnexamined setting slot refusal

-- an answer to a line, given at this mark, where the run stands at this point
abbrev pub IsAnswer : Setting → List History → Course → Line → ℕ → Answered → Type 0
IsAnswer setting histories course line end (Inside epoch at) = IsAnsweredInside histories course epoch at line
IsAnswer setting histories course line end (IsOutside Created) = IsFalse course.running × IsMadeBy setting histories course.opened end line
IsAnswer setting histories course line end (IsOutside (Assembled epoch status)) =
    IsFalse course.running × (epoch ≡ course.opened) × IsFoundBy setting histories course.opened end line status
IsAnswer setting histories course line end (IsOutside (Examined slot found)) = IsExaminedBy setting end line slot found
IsAnswer setting histories course line end (IsOutside (ToldAlerts list)) = IsTrue course.running × (line ≡ Alerts)
IsAnswer setting histories course line end (IsOutside (Refused refusal)) = IsRefusedOutside setting course.running end line refusal

-- ---- a line of a block

-- The worker's calls from this number on have their replies at these places: each is to a request for 1 to 64 steps, and those before the last leave more to do.
abbrev pub IsWorkedAt : ℕ → List Entry → List ℕ → ℕ → ℕ → Type 0
IsWorkedAt size entries [] place number = (most : ℕ) × (1 ≤ most) × (most ≤ 64) × IsCallersReply size entries (caller_of Worker) number place (AsksSteps most)
IsWorkedAt size entries (first ∷ others) place number =
    ((most : ℕ) × (1 ≤ most) × (most ≤ 64) × IsCallersReply size entries (caller_of Worker) number first (AsksSteps most)) × IsTrue (leaves_more_at entries first) × IsWorkedAt size entries others place (number + 1)

-- after so many turns a worker ends, whatever is left
abbrev pub most_turns : ℕ
most_turns = 2 ^ 40

-- The worker is answered by the last of its calls, which leaves nothing to do, or was refused, or is the last turn that it may have.
pub record IsWorked (size : ℕ) (entries : List Entry) (place number : ℕ) : Type 0 where
  pub earlier : List ℕ
  pub worked : IsWorkedAt size entries earlier place number
  pub ended : IsFalse (leaves_more_at entries place) ⊎ (length earlier + 1 ≡ most_turns)

-- the entry at a place replies to a line of a block, in its caller's call of this number
abbrev pub IsRepliedBeside : Lane → ℕ → List Entry → ℕ → ℕ → Line → Type 0
IsRepliedBeside Worker size entries place number line = IsWorked size entries place number
IsRepliedBeside lane size entries place number line = IsCallersReply size entries (caller_of lane) number place (request_of line)

-- A line of a block is answered by an entry of the array that runs, in its caller's next call, by the list as it was before the block and the entries since. Behind the worker's, the last that is shown of the block, and up to
-- the latest of the block's replies, nobody has called but for its lines and the worker.
pub record IsAnsweredBeside (histories : List History) (course : Course) (epoch place : ℕ) (lane : Lane) (line : Line) : Type 0 where
  pub running : IsTrue course.running
  pub latest : epoch + 1 ≡ course.opened
  pub history : History
  pub there : slice_get histories epoch ≡ Some history
  pub replied : IsRepliedBeside lane course.size history.entries place (course.calls lane) line
  pub calls : lane ≡ Worker → AreCallsTold course.calls (longer_of course.block (take (place + 1) history.entries)) (slice_get history.entries place)

-- or it is refused where no array runs
abbrev pub IsAnswerBeside : List History → Course → Lane → Line → Answered → Type 0
IsAnswerBeside histories course lane line (Inside epoch at) = IsAnsweredBeside histories course epoch at lane line
IsAnswerBeside histories course lane line (IsOutside (Refused refusal)) = IsFalse course.running × (refusal ≡ NotRunning)
IsAnswerBeside histories course lane line what = ⊥

-- an answer to a line, by its lane
abbrev pub IsAnswerIn : Setting → List History → Course → Lane → Line → ℕ → Answered → Type 0
IsAnswerIn setting histories course InScript line end what = IsAnswer setting histories course line end what
IsAnswerIn setting histories course lane line end what = IsAnswerBeside histories course lane line what

-- ---- replies

-- a reply that an entry gives was made when the entry ended
abbrev pub IsEnd : List History → LineReply → Answered → Type 0
IsEnd histories reply (Inside epoch at) = MatchOption (entry_at histories epoch at) ⊥ (λ entry. reply.end ≡ entry.end)
IsEnd histories reply (IsOutside outside) = ⊤

-- The mark that the run has reached where a reply is shown. An entry of a block tells none, since it may have been made before one that was shown earlier.
abbrev pub mark_reached : ℕ → Lane → Answered → ℕ → ℕ
mark_reached low InScript what end = end
mark_reached low lane (Inside epoch at) end = low
mark_reached low lane (IsOutside outside) end = end

abbrev pub mark_shown : ℕ → LineReply → ℕ
mark_shown low reply = mark_reached low reply.lane reply.what reply.end

-- the reply to a line of the script, or of one of its blocks
pub record IsReplyTo (setting : Setting) (histories : List History) (course : Course) (numbered : Numbered) (reply : LineReply) : Type 0 where
  pub line : reply.line ≡ numbered.number
  pub lane : reply.lane ≡ numbered.lane
  pub end : IsEnd histories reply reply.what
  pub within : setting.tells → mark_shown 0 reply ≤ length setting.tape
  pub answer : IsAnswerIn setting histories course numbered.lane numbered.line reply.end reply.what

-- the replies answer the lines, one after another
abbrev pub AreReplies : Setting → List History → Course → List Numbered → List LineReply → Type 0
AreReplies setting histories course [] [] = ⊤
AreReplies setting histories course [] (reply ∷ replies) = ⊥
AreReplies setting histories course (line ∷ lines) [] = ⊥
AreReplies setting histories course (line ∷ lines) (reply ∷ replies) =
    IsReplyTo setting histories course line reply × AreReplies setting histories (course_after histories course line.lane line.line reply.what) lines replies

-- Each reply was made at the mark of the one before it or later, the first at `low` or later, and the last at `high` or before. The entries of a block were made at the mark of what was shown before the block or later.
abbrev pub AreInOrder : ℕ → ℕ → List LineReply → Type 0
AreInOrder low high [] = low ≤ high
AreInOrder low high (reply ∷ replies) = (low ≤ reply.end) × AreInOrder (mark_shown low reply) high replies
