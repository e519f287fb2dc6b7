-- A whole run: what was read, done and shown, by the status that it ended with.
use Rattle.std.specs.Prelude.{◌≡◌, ◌⊎◌, ℕ, ◌+◌, ◌-◌, ◌<◌, ◌≤◌, ◌==◌, Bool, true, false, if◌then◌else◌, List, [], length, take, drop, slice_get, slice_index_or, Option, Some, None, MatchOption, Err, Ok, IsTrue}
use Rattle.std.specs.List.{All}
use Rattle.std.specs.Option.{option_map_or}
use Rattle.history_reopen_laws.specs.history_the_Epoch.{Epoch}
use Rattle.history_reopen_laws.specs.history_the_Event_TheVariants.{Halted}
use Rattle.history_reopen_laws.specs.history_Flat.{last_of}
use Rattle.script_demo.specs.script_Script.{script_with}
use Rattle.script_demo.specs.script_the_Numbered.{Numbered}
use Rattle.script_demo.specs.script_the_Lane.{Lane}
use Rattle.script_demo.specs.script_the_Lane_TheVariants.{Script as InScript}
use Rattle.run_session.specs.run_specs_the_LineReply.{LineReply}
use Rattle.run_session.specs.declared.sessions.Stop.{Stop}
use Rattle.run_session.specs.declared.sessions.Stop.TheVariants.{WriteFault, NoMemory as WantsMemory}
use Rattle.run_session.specs.run_specs_the_State.{State}
use Rattle.run_session.specs.run_specs_Histories.{History, history_of, histories_of}
use Rattle.run_session.specs.run_specs_Making.{Setting}
use Rattle.run_session.specs.run_specs_Caused.{Record}
use Rattle.run_session.specs.run_specs_Records.{AreRecorded}
use Rattle.run_session.specs.run_specs_Replies.{Course, at_rest, course_of, AreCallsTold, AreReplies, AreInOrder}
use Rattle.run_session.specs.history_monitor_the_AlertKind.{AlertKind}
use Rattle.run_session.specs.Alerting.{AreAlertsTold}
use Rattle.run_session.specs.Sessions.{IsCourse, counted, taken_whole, IsTaken}
use Rattle.run_session.specs.run_blocks_Shown.{report_text, has_refusal}
use Rattle.run_scripts.specs.Done.{NoneFailed, AreAnswersDone}
use Rattle.run_scripts.specs.Source.{IsTextFor}
use Rattle.run_session.specs.run_specs_States.{histories_in, bank_in, course_in, AreOfScript, AreGrown, AreLossesBehind, AreLossesFrom}
use Rattle.run_session.specs.Writes.{AreWritesPlaced, AreQuiet}

-- The statuses: 0 done, 1 done with refusals, 2 bad words, 3 a bad line, 4 the source failed, 5 the sink failed, 6 memory was short.
abbrev pub status_for : Option Stop → Bool → ℕ
status_for None false = 0
status_for None true = 1
status_for (Some WriteFault) refused = 5
status_for (Some WantsMemory) refused = 6

-- why no later line was performed
abbrev pub stop_of : ℕ → Option Stop
stop_of status = if status == 5 then Some WriteFault else if status == 6 then Some WantsMemory else None

-- The last entry is the halt of the array, by the script's next call, and nobody else has called since these were the next numbers.
abbrev pub IsHalted : (Lane → ℕ) → History → Type 0
IsHalted calls history = MatchOption (last_of history.entries) ⊥ (λ e. (e.caller ≡ 0) × (e.number ≡ calls InScript) × (e.event ≡ Halted))
    × AreCallsTold calls history.entries (last_of history.entries)

-- There are as many histories as arrays were opened. Where the last array still ran, it was halted by the call behind the others.
pub record AreHalted (course : Course) (histories : List History) : Type 0 where
  pub count : length histories ≡ course.opened
  pub halted : IsTrue course.running → MatchOption (slice_get histories (length histories - 1)) ⊥ (λ history. IsHalted course.calls history)

-- The lines were performed one after another, up to the last or to where the run stopped, and the array was halted. The replies are
-- there but for that of a line for which memory was short. From line to line there is a record of the array that runs, by which each answer has its cause. Where no device failed, the lines of an array that
-- stays whole are done.
pub record AreLinesPerformed (setting : Setting) (asked : List Numbered) (stopped : Option Stop) (epochs : List Epoch) (lines : List LineReply) : Type 0 where
  pub few : length lines ≤ length asked
  pub all : stopped ≡ None → length lines ≡ length asked
  pub replies : AreReplies setting (histories_of epochs) (at_rest 0) (take (length lines) asked) lines
  pub last : Option Record
  pub recorded : AreRecorded setting (histories_of epochs) (at_rest 0) None (take (length lines) asked) lines last
  pub course : Course
  pub told : IsCourse stopped (histories_of epochs) (drop (length lines) asked) (course_of (histories_of epochs) (at_rest 0) (take (length lines) asked) lines) course
  pub halted : AreHalted course (histories_of epochs)
  pub script : AreOfScript (histories_of epochs)
  pub ends : setting.tells → AreInOrder setting.began (length setting.tape) lines
  pub written : setting.tells → AreWritesPlaced setting (histories_of epochs) stopped course.running asked lines
  pub quiet : setting.tells → AreQuiet setting stopped course.running asked lines epochs
  pub done : setting.tells → NoneFailed setting.before setting.now → AreAnswersDone setting (histories_of epochs) (at_rest 0) (take (length lines) asked) lines

-- 0 where no reply is a refusal, 1 where one is
abbrev pub AreTold : ℕ → Bool → Type 0
AreTold status refused = (status ≡ 0 → refused ≡ false) × (status ≡ 1 → refused ≡ true)

-- What a sink took: whether it tells, what it had taken before and has now, and how many bytes of replies it took whole.
pub record Sunk : Type 1 where
  pub tells : Type 0
  pub old : List ℕ
  pub new : List ℕ
  pub shown : ℕ

abbrev pub sunk_of : Type 0 → List ℕ → List ℕ → ℕ → Sunk
sunk_of tells old new shown = record { tells = tells; old = old; new = new; shown = shown }

-- The text of the replies to these lines went to the sink, and the status tells whether one of them is a refusal.
pub record AreShown (sunk : Sunk) (status : ℕ) (asked : List Numbered) (epochs : List Epoch) (lines : List LineReply) : Type 0 where
  pub taken : sunk.tells → IsTaken (stop_of status) sunk.old sunk.new (length (report_text (histories_of epochs) asked (taken_whole (stop_of status) lines))) (report_text (histories_of epochs) asked lines)
  pub shown : sunk.shown ≡ counted (length (report_text (histories_of epochs) asked (taken_whole (stop_of status) lines)))
  pub refusals : AreTold status (has_refusal (histories_of epochs) asked lines)

-- The whole text of the script was there, and then its lines were performed, and their replies were shown. What its `alerts` lines tell are the alerts that are wanted by these answers.
pub record IsScriptPerformed (answers : AlertKind → ℕ → Bool → Type 0) (demo : Option ℕ) (source_tells : Type 0) (old new : List ℕ) (setting : Setting) (sunk : Sunk) (status : ℕ) (epochs : List Epoch) (lines : List LineReply) : Type 0 where
  pub text : List ℕ
  pub read : IsTextFor demo source_tells old new text
  pub asked : List Numbered
  pub parsed : script_with true text ≡ Ok asked
  pub performed : AreLinesPerformed setting asked (stop_of status) epochs lines
  pub shown : AreShown sunk status asked epochs lines
  pub alerts : AreAlertsTold answers (histories_of epochs) (at_rest 0) [] asked lines

-- the whole text was there, or one byte more than it may have, and this is its first bad line
pub record IsScriptBad (demo : Option ℕ) (tells : Type 0) (old new : List ℕ) (line : ℕ) : Type 0 where
  pub text : List ℕ
  pub read : IsTextFor demo tells old new text
  pub bad : script_with true text ≡ Err line

-- each loss and each refusal that is told has its cause, by the entries before it
abbrev pub AreLossesFailed : Setting → List Epoch → Type 0
AreLossesFailed setting epochs = All (λ epoch. AreLossesBehind setting (history_of epoch) [] epoch.entries.items) epochs

-- the first mark of the epoch behind this one, or the end of the tape behind the last
abbrev pub mark_behind : ℕ → List History → ℕ → ℕ
mark_behind ops histories k = option_map_or (λ history. history.first) (slice_get histories (k + 1)) ops

-- so many epochs reach up to the next one's first mark
abbrev pub AreEndedBelow : ℕ → ℕ → List Epoch → Type 0
AreEndedBelow n ops epochs = (k : ℕ) (d : Epoch) → k < n → (slice_index_or epochs k d).last ≡ mark_behind ops (histories_of epochs) k

-- each epoch reaches to the first mark of the next one, and the last to the end of the tape
abbrev pub AreEndedAt : ℕ → List Epoch → Type 0
AreEndedAt ops epochs = AreEndedBelow (length epochs) ops epochs

-- a run ends: the array is halted, if one runs
pub record IsEnded {B : Type 0} (setting : Setting) (state : State B) (bank : B) (epochs : List Epoch) : Type 0 where
  pub same_bank : bank ≡ bank_in state
  pub grown : AreGrown (histories_in state) (histories_of epochs)
  pub halted : AreHalted (course_in state) (histories_of epochs)
  pub script : AreOfScript (histories_of epochs)
  pub losses : AreLossesFrom setting (histories_in state) (histories_of epochs)

-- the statuses of a run that read its script and performed every line that it could
abbrev pub IsAfterLines : ℕ → Type 0
IsAfterLines status = (status ≡ 0) ⊎ (status ≡ 1) ⊎ (status ≡ 5)

-- those of a run that performed nothing
abbrev pub IsBeforeLines : ℕ → Type 0
IsBeforeLines status = (status ≡ 2) ⊎ (status ≡ 3) ⊎ (status ≡ 4)

-- no line was performed, no array was made, and nothing was shown
pub record IsNothing (sunk : Sunk) (epochs : List Epoch) (lines : List LineReply) : Type 0 where
  pub lines_are : lines ≡ []
  pub epochs_are : epochs ≡ []
  pub taken : sunk.tells → sunk.new ≡ sunk.old
  pub shown : sunk.shown ≡ 0
