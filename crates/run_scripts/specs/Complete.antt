-- What a run tells and answers, and how it ends, where nothing failed.
use Rattle.std.specs.Prelude.{◌≡◌, ◌≢◌, ◌⊎◌, ℕ, ◌≤◌, Bool, true, false, List, Option, Some, IsOk, IsTrue}
use Rattle.std.specs.List.{All, list_any}
use Rattle.std.specs.Option.{option_map_or}
use Rattle.run_session.specs.script_io_Causes.{HasRisen}
use Rattle.script_demo.specs.script_Script.{script_with}
use Rattle.history_reopen_laws.specs.history_the_Epoch.{Epoch}
use Rattle.history_reopen_laws.specs.history_the_Event.{Event}
use Rattle.history_reopen_laws.specs.history_the_Event_TheVariants.{Stepped, Refused}
use Rattle.run_session.specs.run_specs_the_LineReply.{LineReply}
use Rattle.run_session.specs.run_specs_Histories.{History, histories_of, entry_at}
use Rattle.run_session.specs.run_specs_Making.{Setting}
use Rattle.run_session.specs.run_specs_the_Answered.{Answered}
use Rattle.run_session.specs.run_specs_the_Answered_TheVariants.{Inside, Outside as IsOutside}
use Rattle.run_session.specs.run_specs_the_Outside_TheVariants.{Refused as WasRefused}
use Rattle.run_scripts.specs.Done.{NoneFailed, AreAnswersUnfailed, IsWholeEpoch}
use Rattle.run_scripts.specs.Source.{IsTextFor}

-- it has not failed between these counts of failures
abbrev pub HasNotFailed : ℕ → ℕ → Type 0
HasNotFailed before now = HasRisen before now → ⊥

-- Where no device failed, no answer tells that one did, and an array that stays whole lacks nothing.
pub record IsComplete (setting : Setting) (epochs : List Epoch) (lines : List LineReply) : Type 0 where
  pub answers : setting.tells → NoneFailed setting.before setting.now → AreAnswersUnfailed lines
  pub whole : setting.tells → NoneFailed setting.before setting.now → All (IsWholeEpoch setting) epochs

-- the event tells a refusal, by itself or at the end of some steps
abbrev pub is_refused : Event → Bool
is_refused (Refused refusal) = true
is_refused (Stepped done left (Some refusal)) = true
is_refused event = false

-- the answer is a refusal
abbrev pub is_refused_answer : List History → Answered → Bool
is_refused_answer histories (Inside epoch at) = option_map_or (λ e. is_refused e.event) (entry_at histories epoch at) false
is_refused_answer histories (IsOutside (WasRefused refusal)) = true
is_refused_answer histories (IsOutside outside) = false

-- A run of a command ends well: every line was performed and shown, or memory was short, or the script has a bad line, which a script without one hasn't. Its status is 0 where no answer is a refusal.
pub record EndsWell (demo : Option ℕ) (tells : Type 0) (old new : List ℕ) (status : ℕ) (epochs : List Epoch) (lines : List LineReply) : Type 0 where
  pub status_is : (status ≤ 1) ⊎ (status ≡ 3) ⊎ (status ≡ 6)
  pub refused : status ≡ 1 → IsTrue (list_any (λ reply. is_refused_answer (histories_of epochs) reply.what) lines)
  pub script : tells → (text : List ℕ) → IsTextFor demo tells old new text → IsOk (script_with true text) → status ≢ 3
