-- What a run tells and answers where no device failed: no failure, and of an array that stays whole each line is done.
use Rattle.std.specs.Prelude.{◌≡◌, ℕ, ◌+◌, ◌≤◌, List, ◌∷◌, take, slice_get, IfSome, ⊤}
use Rattle.std.specs.List.{All}
use Rattle.history_reopen_laws.specs.bank_Given.{IsFaulted}
use Rattle.history_reopen_laws.specs.history_the_Epoch.{Epoch}
use Rattle.history_reopen_laws.specs.history_the_Event.{Event}
use Rattle.history_reopen_laws.specs.history_the_Event_TheVariants.{Flushed, Stopped}
use Rattle.history_reopen_laws.specs.history_Epochs.{world_of}
use Rattle.history_reopen_laws.specs.history_Flat.{visible_of}
use Rattle.array_whole_laws.specs.history_whole_laws_Unfailed.{IsForNoFailure, TellsNoFailure}
use Rattle.array_whole_laws.specs.history_whole_laws_Whole.{StaysWhole, LacksNothing}
use Rattle.array_whole_laws.specs.Done.{IsReadDone, IsWriteDone, AreStepsDone, KeepsAll}
use Rattle.run_session.specs.history_invariant_laws_Reliable.{IsReliable}
use Rattle.script_demo.specs.script_the_Line.{Line}
use Rattle.script_demo.specs.script_the_Line_TheVariants.{Read, Write, Flush, Step, Wait, Stop}
use Rattle.script_demo.specs.script_the_Numbered.{Numbered}
use Rattle.run_session.specs.run_specs_the_Answered.{Answered}
use Rattle.run_session.specs.run_specs_the_Answered_TheVariants.{Inside, Outside as IsOutside}
use Rattle.run_session.specs.run_specs_the_Outside_TheVariants.{Refused as WasRefused}
use Rattle.run_session.specs.run_specs_the_LineReply.{LineReply}
use Rattle.run_session.specs.run_specs_Ended.{IfReliable}
use Rattle.run_session.specs.run_specs_Histories.{History}
use Rattle.run_session.specs.run_specs_Making.{Setting, history_world}
use Rattle.run_session.specs.run_specs_Replies.{Course, course_after}

-- no device failed between these counts of failures
abbrev pub NoneFailed : (ℕ → ℕ) → (ℕ → ℕ) → Type 0
NoneFailed before now = (slot : ℕ) → IsFaulted slot before now → ⊥

-- no entry of these epochs tells a failure
abbrev pub AreUnfailed : List Epoch → Type 0
AreUnfailed epochs = All (λ epoch. All (λ e. TellsNoFailure e.event) epoch.entries.items) epochs

-- nor does an answer that stands in no history, as that of a create, an assemble or an examine
abbrev pub IsAnswerUnfailed : Answered → Type 0
IsAnswerUnfailed (IsOutside (WasRefused refusal)) = IsForNoFailure refusal
IsAnswerUnfailed what = ⊤

abbrev pub AreAnswersUnfailed : List LineReply → Type 0
AreAnswersUnfailed lines = All (λ reply. IsAnswerUnfailed reply.what) lines

-- Where an epoch stays whole and its history can be relied on, no entry tells a role lost, a write torn or a refusal for a missing role. That of one from which nothing was taken can be.
pub record IsWholeEpoch (setting : Setting) (epoch : Epoch) : Type 0 where
  pub whole : IfReliable setting.given setting.tape setting.backup epoch
      (StaysWhole (world_of setting.given setting.tape setting.backup epoch) epoch.entries.items → All (λ e. LacksNothing e.event) epoch.entries.items)
  pub relied : KeepsAll (world_of setting.given setting.tape setting.backup epoch) epoch.entries.items → IsReliable (world_of setting.given setting.tape setting.backup epoch) epoch.entries.items

-- The line was done, where so many sectors can be read and written: a read or a write that ends there, a flush, a stop, and steps.
abbrev pub IsDone : ℕ → Line → Event → Type 0
IsDone visible (Read at count) event = at + count ≤ visible → IsReadDone event
IsDone visible (Write at count seed) event = at + count ≤ visible → IsWriteDone event
IsDone visible Flush event = event ≡ Flushed
IsDone visible Stop event = event ≡ Stopped
IsDone visible (Step most) event = AreStepsDone event
IsDone visible Wait event = AreStepsDone event
IsDone visible line event = ⊤

-- So the line was, where the array stays whole and its history can be relied on.
abbrev pub IsAnswerDone : Setting → List History → Course → Line → Answered → Type 0
IsAnswerDone setting histories course line (Inside epoch at) = IfSome (slice_get histories epoch) (λ history.
    IsReliable (history_world setting history) history.entries → StaysWhole (history_world setting history) history.entries
    → IfSome (slice_get history.entries at) (λ e. IsDone (visible_of course.size (take at history.entries)) line e.event))
IsAnswerDone setting histories course line (IsOutside outside) = ⊤

-- one line after another
abbrev pub AreAnswersDone : Setting → List History → Course → List Numbered → List LineReply → Type 0
AreAnswersDone setting histories course (line ∷ lines) (reply ∷ replies) =
    IsAnswerDone setting histories course line.line reply.what × AreAnswersDone setting histories (course_after histories course line.lane line.line reply.what) lines replies
AreAnswersDone setting histories course lines replies = ⊤
