-- A slot's superblock was looked at: nothing else has changed.
use Rattle.std.proofs.Common.{◌≡◌, ℕ, ◌<◌, ◌≤◌, Option, List, ◌∷◌, [], ◌++◌, length, refl, sym, subst, Result, Ok, Err}
use Rattle.std.specs.Prelude.{IfOk, OnErr, IsErr}
use Rattle.std.specs.Global.{Vec}
use Rattle.run_requests.specs.raid_types_the_Refusal.{Refusal}
use Rattle.run_requests.specs.raid_types_the_Refusal_TheVariants.{SlotFault}
use Rattle.run_requests.specs.bank_Given.{IsFaulted}
use Rattle.run_requests.specs.bank_the_BankFault.{BankFault}
use Rattle.run_requests.specs.bank_the_Operation.{Operation}
use Rattle.run_requests.specs.bank_Tape.{contents}
use Rattle.run_requests.specs.sb_codec_the_Sb.{Sb}
use Rattle.run_requests.specs.sb_codec_Superblock.{superblock_in}
use Rattle.run_requests.specs.history_the_Epoch.{Epoch}
use Rattle.run_requests.specs.array_specs_Parts.{RunningParts}
use Rattle.run_requests.specs.script_the_Line_TheVariants.{Examine}
use Rattle.run_requests.specs.run_specs_the_Answered_TheVariants.{Outside as IsOutside}
use Rattle.run_requests.specs.run_specs_the_Outside_TheVariants.{Refused}
use Rattle.run_requests.specs.run_specs_the_State_TheVariants.{Idle, Running}
use Rattle.run_requests.specs.run_specs_Examining.{IsExamined, IsUnexamined, told_of}
use Rattle.run_requests.specs.run_specs_Histories.{histories_of}
use Rattle.run_requests.specs.run_specs_Making.{Setting}
use Rattle.run_requests.specs.run_specs_States.{IsTurn, RunsOwn, running_history}
use Rattle.run_line_answers.proofs.Turns.{grown_kept}
use Rattle.run_requests.proofs.run_specs_Losses.{losses-kept}

-- what was found is what stands there
pub looked_at : (setting : Setting) (before : List Operation) (slot : ℕ) (r : Result (Option Sb) BankFault) → slot < setting.given.slots → (setting.tells → setting.tape ≡ before)
    → IfOk r (λ found. setting.tells → found ≡ superblock_in (setting.given.sectors slot) (contents setting.given.start before (length before) slot))
    → IfOk r (λ found. IsExamined setting (length setting.tape) slot found)
looked_at setting before slot (Ok found) there same stored = record {
  there = there;
  stored = λ t. subst (λ (l : List Operation). found ≡ superblock_in (setting.given.sectors slot) (contents setting.given.start l (length l) slot)) (sym (same t)) (stored t);
}
looked_at setting before slot (Err fault) there same stored = tt

-- and a slot that wasn't read has failed
pub failed_at : (before after : ℕ → ℕ) (slot : ℕ) (r : Result (Option Sb) BankFault) → (IsErr r → IsFaulted slot before after) → OnErr r (IsFaulted slot before after)
failed_at before after slot (Ok found) failed = tt
failed_at before after slot (Err fault) failed = failed refl

-- ---- the answers, where no array runs

module _ {B : Type 0} (setting : Setting) (bank left : B) (epochs : Vec Epoch) (own : RunsOwn (Idle bank epochs)) (longer : setting.tells → setting.began ≤ length setting.tape) (slot : ℕ) where
  pub unexamined_idle : (refusal : Refusal) → IsUnexamined setting slot refusal → IsTurn setting (Idle bank epochs) (Idle left epochs) (Examine slot) (IsOutside (Refused refusal))
  unexamined_idle refusal is = record {
    own = own;
    losses = losses-kept setting (histories_of epochs.items);
    grown = grown_kept (histories_of epochs.items);
    ends = longer;
    answer = is;
    course = refl;
    recorded = refl;
  }

  pub examined_idle : (r : Result (Option Sb) BankFault) → IfOk r (λ found. IsExamined setting (length setting.tape) slot found) → OnErr r (IsFaulted slot setting.before setting.now)
      → IsTurn setting (Idle bank epochs) (Idle left epochs) (Examine slot) (told_of slot r)
  examined_idle (Ok found) is faulted = record {
    own = own;
    losses = losses-kept setting (histories_of epochs.items);
    grown = grown_kept (histories_of epochs.items);
    ends = longer;
    answer = (refl, is);
    course = refl;
    recorded = refl;
  }
  examined_idle (Err fault) is faulted = unexamined_idle (SlotFault slot) (refl, faulted)

-- ---- and while one runs

module _ {B : Type 0} (setting : Setting) (array : RunningParts B) (epochs : Vec Epoch) (own : RunsOwn (Running array epochs)) (longer : setting.tells → setting.began ≤ length setting.tape) (slot : ℕ) where
  pub unexamined_running : (refusal : Refusal) → IsUnexamined setting slot refusal → IsTurn setting (Running array epochs) (Running array epochs) (Examine slot) (IsOutside (Refused refusal))
  unexamined_running refusal is = record {
    own = own;
    losses = losses-kept setting (histories_of epochs.items ++ running_history array.parts ∷ []);
    grown = grown_kept (histories_of epochs.items ++ running_history array.parts ∷ []);
    ends = longer;
    answer = is;
    course = refl;
    recorded = refl;
  }

  pub examined_running : (left : B) (r : Result (Option Sb) BankFault) → IfOk r (λ found. IsExamined setting (length setting.tape) slot found) → OnErr r (IsFaulted slot setting.before setting.now)
      → IsTurn setting (Running array epochs) (Running (record array { parts = record array.parts { bank = left } }) epochs) (Examine slot) (told_of slot r)
  examined_running left (Ok found) is faulted = record {
    own = own;
    losses = losses-kept setting (histories_of epochs.items ++ running_history array.parts ∷ []);
    grown = grown_kept (histories_of epochs.items ++ running_history array.parts ∷ []);
    ends = longer;
    answer = (refl, is);
    course = refl;
    recorded = refl;
  }
  examined_running left (Err fault) is faulted = record {
    own = own;
    losses = losses-kept setting (histories_of epochs.items ++ running_history array.parts ∷ []);
    grown = grown_kept (histories_of epochs.items ++ running_history array.parts ∷ []);
    ends = longer;
    answer = (refl, faulted);
    course = refl;
    recorded = refl;
  }
