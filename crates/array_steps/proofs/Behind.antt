-- Steps of a call up to the end of a reshape, and what is done behind it.
use Rattle.std.proofs.Common.{◌≡◌, inl, inr, ℕ, ◌+◌, ◌||◌, ◌++◌, Bool, true, false, List, sym, ◌∙◌, ap, subst, append_assoc, Option, Some, None}
use Rattle.std.specs.Prelude.{IfSome}
use Rattle.std.specs.List.{list_any}
use Rattle.std.proofs.lemmas.List.Folds.{list_any-append}
use Rattle.array.specs.raid_types_the_Refusal.{Refusal}
use Rattle.array.specs.raid_types_the_Who.{Who}
use Rattle.array.specs.bank_the_Operation.{Operation}
use Rattle.array.specs.bank_Given.{Given}
use Rattle.array.specs.sb_specs_Reading.{is_reshaping}
use Rattle.array.specs.history_the_Entry.{Entry}
use Rattle.array.specs.array_call_specs_Calls.{IsEndOf}
use Rattle.array.specs.history_invariant_Recorded.{IsCallGoing}
use Rattle.array.specs.array_specs_Parts.{RunningParts}
use Rattle.array.specs.array_fixed_laws_Steps.{IsClosable}
use Rattle.array.specs.array_reply_specs_Replies.{EndsRunningSteps, IsRefusalBy}
use Rattle.array.specs.array_reply_specs_Going.{is_finish, HasRunOn}
use Rattle.array.specs.Calls.{MayEndSteps}
use Rattle.array.proofs.array_reply_specs_GoneOn.{gone-then}
use Rattle.array_steps.specs.Steps.{KeepsItsWay, IsStepDone, IsStepRefused, AreStepsOf, IsGoneOn, has_finished}
use Rattle.array_steps.proofs.StepsOf.{steps-more, steps-refused, any-late}
use Rattle.array_steps.proofs.Replies.{cause-later, way-on}

-- so many steps of a call, in which a reshape ended, and what refused the next one
pub record IsOver {B : Type 0} (tells : Type 0) (given : B → Given) (tape : B → List Operation) (faults : B → ℕ → ℕ) (who : Who) (old new : RunningParts B) (done : ℕ) (ended : Option Refusal) : Type 0 where
  pub entered : AreStepsOf who old.parts.entries new.parts.entries done
  pub over : has_finished old.parts.entries new.parts.entries ≡ true
  pub went : HasRunOn tells given tape faults old new
  pub kept : KeepsItsWay (faults old.parts.bank) (faults new.parts.bank) old new
  pub going : IsCallGoing new.parts.entries who
  pub closable : ended ≡ None → is_reshaping new.parts.members.newest ≡ false → IsClosable new
  pub at_end : IsEndOf tells new.parts.first new.parts.entries (tape new.parts.bank)
  pub why : IfSome ended EndsRunningSteps
  pub cause : IfSome ended (IsRefusalBy old.parts.backup (faults old.parts.bank) (faults new.parts.bank))
  pub right : IfSome ended (MayEndSteps new)

-- steps, and the end of a reshape
module _ {B : Type 0} (tells : Type 0) (given : B → Given) (tape : B → List Operation) (faults : B → ℕ → ℕ) (who : Who) (old at mid : RunningParts B) (k : ℕ)
    (so : AreStepsOf who old.parts.entries at.parts.entries k) (ran : HasRunOn tells given tape faults old at) (kept_so : KeepsItsWay (faults old.parts.bank) (faults at.parts.bank) old at) (s : IsStepDone tells given tape faults who at mid true) where
  steps : AreStepsOf who old.parts.entries mid.parts.entries (k + 1)
  steps = steps-more so s.inner s.is s.own s.one

  run : HasRunOn tells given tape faults old mid
  run = gone-then tells given tape faults old at mid ran s.went

  way : KeepsItsWay (faults old.parts.bank) (faults mid.parts.bank) old mid
  way = way-on tells given tape faults old at mid ran s.went kept_so s.kept

  over-early : (new : RunningParts B) (rest : List Entry) → new.parts.entries ≡ mid.parts.entries ++ rest → has_finished old.parts.entries new.parts.entries ≡ true
  over-early new rest is =
      any-late is_finish old.parts.entries at.parts.entries new.parts.entries so.inner (s.inner ++ rest) so.is (is ∙ ap (λ (l : List Entry). l ++ rest) s.is ∙ append_assoc at.parts.entries s.inner rest)
      (list_any-append (λ e. is_finish e.event) s.inner rest ∙ ap (λ (b : Bool). b || list_any (λ e. is_finish e.event) rest) (sym s.over_told))

  over-here : has_finished old.parts.entries mid.parts.entries ≡ true
  over-here = any-late is_finish old.parts.entries at.parts.entries mid.parts.entries so.inner s.inner so.is s.is (sym s.over_told)

  -- nothing more
  over-alone : IsOver tells given tape faults who old mid (k + 1) None
  over-alone = record { entered = steps; over = over-here; went = run; kept = way; going = s.going; closable = λ none. s.closable; at_end = s.ended; why = tt; cause = tt; right = tt }

  -- one step more
  over-done : (new : RunningParts B) → IsStepDone tells given tape faults who mid new false → IsOver tells given tape faults who old new (k + 1 + 1) None
  over-done new was = record {
    entered = steps-more steps was.inner was.is was.own was.one;
    over = over-early new was.inner was.is;
    went = gone-then tells given tape faults old mid new run was.went;
    kept = way-on tells given tape faults old mid new run was.went way was.kept;
    going = was.going;
    closable = λ none. was.closable;
    at_end = was.ended;
    why = tt;
    cause = tt;
    right = tt;
  }

  -- which was refused
  over-refused : (new : RunningParts B) (refusal : Refusal) → IsStepRefused tells given tape faults who mid new refusal → IsOver tells given tape faults who old new (k + 1) (Some refusal)
  over-refused new refusal was = record {
    entered = steps-refused refusal steps was.behind;
    over = over-early new _ was.behind.is;
    went = gone-then tells given tape faults old mid new run was.went;
    kept = way-on tells given tape faults old mid new run was.went way was.kept;
    going = was.going;
    closable = λ none. absurd (cc);
    at_end = was.ended;
    why = was.why;
    cause = cause-later tells given tape faults old mid new run was.went refusal was.cause;
    right = was.right;
  }

  pub over-behind : (new : RunningParts B) (done : ℕ) (ended : Option Refusal) → IsGoneOn tells given tape faults who mid new (k + 1) done ended → IsOver tells given tape faults who old new done ended
  over-behind new done None (inl (same, none)) =
      subst (λ (n : ℕ). IsOver tells given tape faults who old new n None) (sym same) (subst (λ (a : RunningParts B). IsOver tells given tape faults who old a (k + 1) None) (sym none) over-alone)
  over-behind new done None (inr (more, was)) = subst (λ (n : ℕ). IsOver tells given tape faults who old new n None) (sym more) (over-done new was)
  over-behind new done (Some refusal) (same, was) = subst (λ (n : ℕ). IsOver tells given tape faults who old new n (Some refusal)) (sym same) (over-refused new refusal was)
