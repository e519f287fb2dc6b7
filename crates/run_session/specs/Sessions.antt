-- The lines of a script performed one after another, and what was shown of it.
use Rattle.std.specs.Prelude.{◌≡◌, ◌≢◌, ◌⊎◌, ℕ, ◌+◌, ◌-◌, ◌^◌, ◌<◌, ◌≤◌, ◌||◌, Bool, true, false, if◌then◌else◌, List, [], ◌∷◌, ◌++◌, length, take, drop, min, Option, Some, None, Result, Ok, Err, ⊤}
use Rattle.std.specs.List.{All}
use Rattle.run_blocks.specs.raid_types_the_NoMemory.{NoMemory}
use Rattle.run_blocks.specs.script_the_Line.{Line}
use Rattle.run_blocks.specs.script_the_Line_TheVariants.{Wait}
use Rattle.run_blocks.specs.script_the_Numbered.{Numbered}
use Rattle.run_blocks.specs.script_the_Lane.{Lane}
use Rattle.run_blocks.specs.script_the_Lane_TheVariants.{Script as InScript, A as InA, B as InB, Worker as InWorker}
use Rattle.run_blocks.specs.script_Script.{is_of_worker}
use Rattle.script_io.specs.Causes.{HasRisen}
use Rattle.run_blocks.specs.run_specs_the_Answered.{Answered}
use Rattle.run_blocks.specs.run_specs_the_Answered_TheVariants.{Inside, Outside as IsOutside}
use Rattle.run_blocks.specs.run_specs_the_LineReply.{LineReply}
use Rattle.run_blocks.specs.run_specs_the_State.{State}
use Rattle.run_session.specs.declared.sessions.Made.{Made}
use Rattle.run_session.specs.declared.sessions.Stop.{Stop}
use Rattle.run_session.specs.declared.sessions.Stop.TheVariants.{WriteFault, NoMemory as WantsMemory}
use Rattle.run_session.specs.declared.sessions.Session.{Session}
use Rattle.run_blocks.specs.run_specs_Histories.{History}
use Rattle.run_blocks.specs.run_specs_Making.{Setting}
use Rattle.run_blocks.specs.run_specs_Caused.{Record}
use Rattle.run_blocks.specs.run_specs_Records.{AreRecorded}
use Rattle.run_blocks.specs.run_specs_Replies.{Course, at_rest, course_of, IsEnd, AreReplies, AreInOrder}
use Rattle.run_blocks.specs.Shown.{reply_text, report_text, is_refusal, has_refusal}
use Rattle.run_blocks.specs.run_specs_States.{histories_in, course_in, record_in, RunsOwn, AreLossesFrom, AreGrown, IsWaitCut, IsCourseShort, IsTurn, IsAmidBlock, IsPastMemory, IsBlockAnswered}
use Rattle.run_blocks.specs.run_specs_Written.{MayWrite, HasWritten, IsWritten}
use Rattle.run_session.specs.Writes.{AreWritesPlaced}

-- so many bytes, as far as a u64 can count
abbrev pub counted : ℕ → ℕ
counted bytes = min bytes (2 ^ 64 - 1)

-- a reply that no entry gives was made now, at this mark
abbrev pub IsEndNow : Type 0 → ℕ → LineReply → Answered → Type 0
IsEndNow tells mark reply (Inside epoch at) = ⊤
IsEndNow tells mark reply (IsOutside outside) = tells → reply.end ≡ mark

-- a line got this reply
pub record IsReplied {B : Type 0} (setting : Setting) (old new : State B) (numbered : Numbered) (reply : LineReply) (refused : Bool) : Type 0 where
  pub turn : IsTurn setting old new numbered.line reply.what
  pub line : reply.line ≡ numbered.number
  pub lane : reply.lane ≡ numbered.lane
  pub end : IsEnd (histories_in new) reply reply.what
  pub at_end : IsEndNow setting.tells (length setting.tape) reply reply.what
  pub refusal : refused ≡ is_refusal (histories_in new) numbered.line reply.what
  pub written : setting.tells → IsWritten setting (histories_in old) (histories_in new) (HasWritten setting.given setting.backup numbered.line reply.what)

-- no reply was made, for want of memory: nothing of the line was entered, but for some calls of a wait
pub record IsUnreplied {B : Type 0} (setting : Setting) (old new : State B) (line : Line) : Type 0 where
  pub own : RunsOwn new
  pub losses : AreLossesFrom setting (histories_in old) (histories_in new)
  pub grown : AreGrown (histories_in old) (histories_in new)
  pub course : IsCourseShort (histories_in new) (course_in old) line (course_in new)
  pub written : setting.tells → IsWritten setting (histories_in old) (histories_in new) (MayWrite setting.given setting.backup (course_in old).running line)

abbrev pub IsRepliedOrNot : {B : Type 0} → Setting → State B → State B → Numbered → List ℕ → Result Made NoMemory → Type 0
IsRepliedOrNot setting old new numbered text (Ok made) = IsReplied setting old new numbered made.reply made.refused × (text ≡ reply_text (histories_in new) numbered.line made.reply)
IsRepliedOrNot setting old new numbered text (Err fault) = IsUnreplied setting old new numbered.line

-- one reply more, which the sink was to take
pub record IsReplyMore {B : Type 0} (setting : Setting) (old new : Session B) (numbered : Numbered) : Type 0 where
  pub made : Made
  pub replied : IsReplied setting old.state new.state numbered made.reply made.refused
  pub more : new.replies.items ≡ old.replies.items ++ made.reply ∷ []
  pub refused : new.refused ≡ (old.refused || made.refused)

-- what one line does to a session, by whether it stops there; the sink had taken `old_taken`
pub record IsShownWhole {B : Type 0} (tells : Type 0) (setting : Setting) (old new : Session B) (numbered : Numbered) (old_taken new_taken : List ℕ) : Type 0 where
  pub reply : IsReplyMore setting old new numbered
  pub taken : tells → new_taken ≡ old_taken ++ reply_text (histories_in new.state) numbered.line reply.made.reply
  pub shown : new.shown ≡ counted (old.shown + length (reply_text (histories_in new.state) numbered.line reply.made.reply))

pub record IsShownInPart {B : Type 0} (tells : Type 0) (setting : Setting) (old new : Session B) (numbered : Numbered) (old_taken new_taken : List ℕ) : Type 0 where
  pub reply : IsReplyMore setting old new numbered
  pub taken : tells → (n : ℕ) × (new_taken ≡ old_taken ++ take n (reply_text (histories_in new.state) numbered.line reply.made.reply))
  pub shown : new.shown ≡ old.shown

pub record IsUnshown {B : Type 0} (tells : Type 0) (setting : Setting) (old new : Session B) (numbered : Numbered) (old_taken new_taken : List ℕ) : Type 0 where
  pub none : IsUnreplied setting old.state new.state numbered.line
  pub same : new.replies.items ≡ old.replies.items
  pub refused : new.refused ≡ old.refused
  pub taken : new_taken ≡ old_taken
  pub shown : new.shown ≡ old.shown

abbrev pub IsStep : {B : Type 0} → Type 0 → Setting → Session B → Session B → Numbered → List ℕ → List ℕ → Option Stop → Type 0
IsStep tells setting old new numbered old_taken new_taken None = IsShownWhole tells setting old new numbered old_taken new_taken
IsStep tells setting old new numbered old_taken new_taken (Some WriteFault) = IsShownInPart tells setting old new numbered old_taken new_taken
IsStep tells setting old new numbered old_taken new_taken (Some WantsMemory) = IsUnshown tells setting old new numbered old_taken new_taken

-- the replies that the sink took whole: where it failed, all but the last
abbrev pub taken_whole : Option Stop → List LineReply → List LineReply
taken_whole None replies = replies
taken_whole (Some WriteFault) replies = take (length replies - 1) replies
taken_whole (Some WantsMemory) replies = replies

-- The bytes that the sink took since: the text, or where it failed a part of it, in which at least those replies stand whole that it answered Ok; `whole` is their length.
abbrev pub IsTaken : Option Stop → List ℕ → List ℕ → ℕ → List ℕ → Type 0
IsTaken None old new whole text = new ≡ old ++ text
IsTaken (Some WriteFault) old new whole text = (n : ℕ) × (whole ≤ n) × (new ≡ old ++ take n text)
IsTaken (Some WantsMemory) old new whole text = new ≡ old ++ text

-- what a line of its own does
pub record IsLineStep {B : Type 0} (tells : Type 0) (setting : Setting) (old new : Session B) (lines : List Numbered) (old_taken new_taken : List ℕ) : Type 0 where
  pub numbered : Numbered
  pub is : lines ≡ numbered ∷ []
  pub script : numbered.lane ≡ InScript
  pub step : IsStep tells setting old new numbered old_taken new_taken new.stopped

-- ---- a block

-- the lines are those of one block: those of lane a, those of lane b, and the worker's
pub record IsBlock (lines : List Numbered) : Type 0 where
  pub first : List Numbered
  pub second : List Numbered
  pub worker : Numbered
  pub is : lines ≡ first ++ (second ++ worker ∷ [])
  pub first_lane : All (λ line. line.lane ≡ InA) first
  pub second_lane : All (λ line. line.lane ≡ InB) second
  pub worker_lane : worker.lane ≡ InWorker

-- how many lines of lane a stand at the front, and how many lines the block at the front has
abbrev pub is_of_a : Lane → Bool
is_of_a InA = true
is_of_a lane = false

abbrev pub front_length : List Numbered → ℕ
front_length [] = 0
front_length (line ∷ lines) = if is_of_a line.lane then front_length lines + 1 else 0

abbrev pub block_length : List Numbered → ℕ
block_length [] = 0
block_length (line ∷ lines) = if is_of_worker line.lane then 1 else block_length lines + 1

-- a line got this answer, in this reply, which was made before the tape reached this mark, or there
pub record IsMadeOf (tells : Type 0) (mark : ℕ) (histories : List History) (numbered : Numbered) (what : Answered) (reply : LineReply) : Type 0 where
  pub line : reply.line ≡ numbered.number
  pub lane : reply.lane ≡ numbered.lane
  pub what_is : reply.what ≡ what
  pub end : IsEnd histories reply reply.what
  pub at_end : IsEndNow tells mark reply reply.what

-- the replies give the first of these answers to the first of these lines
abbrev pub AreMadeOf : Type 0 → ℕ → List History → List Numbered → List Answered → List LineReply → Type 0
AreMadeOf tells mark histories lines whats [] = ⊤
AreMadeOf tells mark histories (line ∷ lines) (what ∷ whats) (reply ∷ replies) = IsMadeOf tells mark histories line what reply × AreMadeOf tells mark histories lines whats replies
AreMadeOf tells mark histories lines whats replies = ⊥

-- what a session shows of a text, by whether it stops there
abbrev pub IsTextShown : {B : Type 0} → Type 0 → Session B → Session B → List ℕ → List ℕ → List ℕ → Option Stop → Type 0
IsTextShown tells old new text old_taken new_taken None = (tells → new_taken ≡ old_taken ++ text) × (new.shown ≡ counted (old.shown + length text))
IsTextShown tells old new text old_taken new_taken (Some WriteFault) = (tells → (n : ℕ) × (new_taken ≡ old_taken ++ take n text)) × (new.shown ≡ old.shown)
IsTextShown tells old new text old_taken new_taken (Some WantsMemory) = ⊥

-- one answer more of a block was shown, which the sink was to take
pub record IsOneShown {B : Type 0} (tells bank_tells : Type 0) (mark : ℕ) (old new : Session B) (numbered : Numbered) (what : Answered) (old_taken new_taken : List ℕ) : Type 0 where
  pub reply : LineReply
  pub made : IsMadeOf bank_tells mark (histories_in old.state) numbered what reply
  pub more : new.replies.items ≡ old.replies.items ++ reply ∷ []
  pub refused : new.refused ≡ (old.refused || is_refusal (histories_in old.state) numbered.line what)
  pub shown : IsTextShown tells old new (reply_text (histories_in old.state) numbered.line reply) old_taken new_taken new.stopped

-- so many bytes more were shown
abbrev pub IsShownBy : {B : Type 0} → Session B → Session B → ℕ → Type 0
IsShownBy old new bytes = (before : ℕ) → old.shown ≡ counted before → new.shown ≡ counted (before + bytes)

-- The first answers to the lines of a block were shown, one after another.
pub record AreShownOf {B : Type 0} (tells bank_tells : Type 0) (mark : ℕ) (histories : List History) (old new : Session B) (lines : List Numbered) (whats : List Answered) (stopped : Option Stop) (old_taken new_taken : List ℕ) : Type 0 where
  pub made : List LineReply
  pub more : new.replies.items ≡ old.replies.items ++ made
  pub told : AreMadeOf bank_tells mark histories lines whats made
  pub refused : new.refused ≡ (old.refused || has_refusal histories lines made)
  pub taken : tells → IsTaken stopped old_taken new_taken (length (report_text histories lines (taken_whole stopped made))) (report_text histories lines made)
  pub shown : IsShownBy old new (length (report_text histories lines (taken_whole stopped made)))

-- how many of them were made: all, or some where the sink failed, or not all where memory was short
abbrev pub AreAllMade : Option Stop → ℕ → ℕ → Type 0
AreAllMade None lines made = made ≡ lines
AreAllMade (Some WriteFault) lines made = 1 ≤ made
AreAllMade (Some WantsMemory) lines made = made < lines

pub record AreAllShown {B : Type 0} (tells bank_tells : Type 0) (mark : ℕ) (histories : List History) (old new : Session B) (lines : List Numbered) (whats : List Answered) (old_taken new_taken : List ℕ) : Type 0 where
  pub shown : AreShownOf tells bank_tells mark histories old new lines whats new.stopped old_taken new_taken
  pub all : AreAllMade new.stopped (length lines) (length shown.made)

-- What a block does: all of its lines were performed, and their answers shown, up to one for which memory was short, or at which the sink failed.
pub record IsBlockStep {B : Type 0} (tells : Type 0) (setting : Setting) (old new : Session B) (lines : List Numbered) (old_taken new_taken : List ℕ) : Type 0 where
  pub block : IsBlock lines
  pub whats : List Answered
  pub answered : IsBlockAnswered setting old.state new.state lines whats
  pub written : setting.tells → IsWritten setting (histories_in old.state) (histories_in new.state) (λ slot. ⊥)
  pub shown : AreAllShown tells setting.tells (length setting.tape) (histories_in new.state) old new lines whats old_taken new_taken

-- what the lines of a turn do: one line of its own, or a block
abbrev pub IsTurnStep : {B : Type 0} → Type 0 → Setting → Session B → Session B → List Numbered → List ℕ → List ℕ → Type 0
IsTurnStep tells setting old new lines old_taken new_taken = IsLineStep tells setting old new lines old_taken new_taken ⊎ IsBlockStep tells setting old new lines old_taken new_taken

-- ---- several lines

-- where the run stands once some calls of the first of these lines were made, which is a wait
abbrev pub IsCutBehind : List History → List Numbered → Course → Course → Type 0
IsCutBehind histories [] told course = ⊥
IsCutBehind histories (line ∷ lines) told course = (line.lane ≡ InScript) × (line.line ≡ Wait) × IsWaitCut histories told course

-- Amid a block, of which some lines have no reply, though they may have been answered. Of a history that is longer than any memory holds nothing is said.
abbrev pub IsInBlock : List History → List Numbered → Course → Course → Type 0
IsInBlock histories [] told course = ⊥
IsInBlock histories (line ∷ lines) told course = (line.lane ≢ InScript) × (IsAmidBlock histories told (line ∷ lines) course ⊎ IsPastMemory histories)

-- Where it stands after these replies: no line was performed without its reply, but where memory was short in a wait, its first calls, and those of a block
-- not all of whose replies are there.
abbrev pub IsCourse : Option Stop → List History → List Numbered → Course → Course → Type 0
IsCourse None histories behind told course = course ≡ told
IsCourse (Some WriteFault) histories behind told course = (course ≡ told) ⊎ IsInBlock histories behind told course
IsCourse (Some WantsMemory) histories behind told course = (course ≡ told) ⊎ IsCutBehind histories behind told course ⊎ IsInBlock histories behind told course

-- a sink that is called failed has failed since
abbrev pub IsStopCause : Option Stop → ℕ → ℕ → Type 0
IsStopCause None before now = ⊤
IsStopCause (Some WriteFault) before now = HasRisen before now
IsStopCause (Some WantsMemory) before now = ⊤

-- The first lines were performed, from a bank without an array on, and each got its reply; there is a record of the array that runs from line to line, the last of which is what it is now.
pub record IsPerformed {B : Type 0} (setting : Setting) (lines : List Numbered) (session : Session B) : Type 0 where
  pub own : RunsOwn session.state
  pub few : length session.replies.items ≤ length lines
  pub replies : AreReplies setting (histories_in session.state) (at_rest 0) (take (length session.replies.items) lines) session.replies.items
  pub course : IsCourse session.stopped (histories_in session.state) (drop (length session.replies.items) lines)
      (course_of (histories_in session.state) (at_rest 0) (take (length session.replies.items) lines) session.replies.items) (course_in session.state)
  pub last : Option Record
  pub recorded : AreRecorded setting (histories_in session.state) (at_rest 0) None (take (length session.replies.items) lines) session.replies.items last
  pub recorded_now : session.stopped ≡ None → last ≡ record_in session.state
  pub losses : AreLossesFrom setting [] (histories_in session.state)
  pub ends : setting.tells → AreInOrder setting.began (length setting.tape) session.replies.items
  pub refused : session.refused ≡ has_refusal (histories_in session.state) lines session.replies.items
  pub written : setting.tells → AreWritesPlaced setting (histories_in session.state) session.stopped (course_in session.state).running lines session.replies.items

-- their text went to the sink
pub record IsShownTo {B : Type 0} (tells : Type 0) (lines : List Numbered) (session : Session B) (old new : List ℕ) (old_faults new_faults : ℕ) : Type 0 where
  pub taken : tells → IsTaken session.stopped old new (length (report_text (histories_in session.state) lines (taken_whole session.stopped session.replies.items))) (report_text (histories_in session.state) lines session.replies.items)
  pub shown : session.shown ≡ counted (length (report_text (histories_in session.state) lines (taken_whole session.stopped session.replies.items)))
  pub cause : IsStopCause session.stopped old_faults new_faults
  pub never_falls : old_faults ≤ new_faults
