-- The step of a reshape that is due, but for its end; and the end that is refused.
use Rattle.std.proofs.Common.{◌≡◌, ◌≢◌, inl, ℕ, ◌+◌, true, false, List, refl, sym, ◌∙◌, subst, arith}
use Rattle.array.specs.raid_types_the_Refusal.{Refusal}
use Rattle.array.specs.raid_types_the_Who.{Who}
use Rattle.array.specs.bank_the_Operation.{Operation}
use Rattle.array.specs.bank_Given.{Given}
use Rattle.array.specs.sb_specs_Reading.{is_reshaping}
use Rattle.array.specs.history_the_Event_TheVariants.{Step, Refused}
use Rattle.array.proofs.history_append_PlainLaws.{one}
use Rattle.array.specs.array_members_Lacking.{AreTooMany}
use Rattle.array.specs.array_members_Rebuilding.{Held}
use Rattle.array.specs.array_call_specs_Calls.{IsBehind}
use Rattle.array.specs.history_invariant_Recorded.{IsCallGoing}
use Rattle.array.specs.array_reshaping_state_the_Due.{Due}
use Rattle.array.specs.array_reshaping_state_the_Due_TheVariants.{Finish}
use Rattle.array.specs.array_specs_Parts.{RunningParts, left_in}
use Rattle.array.specs.array_specs_Calls.{IsCalled}
use Rattle.array.specs.array_reshaping_laws_Resyncing.{IsResyncCalled}
use Rattle.array.specs.array_reshaping_laws_Steps.{kind_of}
use Rattle.array.specs.array_reply_specs_Replies.{IsRefusalBy}
use Rattle.array.specs.array_reply_specs_Going.{is_finish}
use Rattle.array.specs.Calls.{running_left, MayEndSteps}
use Rattle.array_steps.specs.Steps.{IsStepDone, IsStepRefused}
use Rattle.array_steps.proofs.Events.{IsStepEntries}
use Rattle.array_steps.proofs.Went.{epoch-of, long-same, held-only}
use Rattle.array_steps.proofs.Ways.{way-shaped, way-same}
use Rattle.array_steps.proofs.Plain.{fewer-as, IsPlainStep, plain-done, plain-refused}
use Rattle.array_steps.proofs.Refusals.{many-so, moved-ends}
use Rattle.array_steps.proofs.Own.{step-entries}
use Rattle.array.proofs.Answered.{left-moving}

pub moved-did : {B : Type 0} (tells : Type 0) (given : B → Given) (tape : B → List Operation) (faults : B → ℕ → ℕ) (old new : RunningParts B)
    → IsResyncCalled tells (given old.parts.bank) (tape old.parts.bank) (tape new.parts.bank) (faults old.parts.bank) (faults new.parts.bank) old new → given new.parts.bank ≡ given old.parts.bank
    → is_reshaping old.parts.members.newest ≡ true → is_reshaping new.parts.members.newest ≡ true → IsPlainStep tells given tape faults (Held old.parts.members) old new
moved-did tells given tape faults old new was given_is active later = record {
  long = long-same old (record new { parts = record new.parts { work = old.parts.work } }) was.same;
  held = held-only old.parts.members new.parts.members was.held was.spares;
  had = λ role slot has. inl has;
  losses = was.losses;
  grows = was.grows;
  never_falls = was.never_falls;
  given_is = given_is;
  epoch = record { uuid = was.same.array.uuid; given = was.same.array.given; first = was.same.array.first; backup = was.same.array.backup };
  active = λ still. absurd (let clash : true ≡ false = sym active ∙ still in cc);
  ahead = was.same.ahead;
  kept = way-shaped (faults old.parts.bank) (faults new.parts.bank) old new (later ∙ sym active) was.same.array.shape was.same.final was.same.array.size was.same.ahead was.same.limit (λ still. absurd (let clash : true ≡ false = sym active ∙ still in cc)) (λ moves. record { held = was.held; spares = was.spares; losses = was.losses });
  ended = was.ended;
}

due-kind : (due : Due) (left : ℕ) → due ≢ Finish → is_finish (Step (kind_of due) left) ≡ false
due-kind Finish left none = absurd (none refl)
due-kind due left none = refl

module _ {B : Type 0} (tells : Type 0) (given : B → Given) (tape : B → List Operation) (faults : B → ℕ → ℕ) (who : Who) (old new : RunningParts B) (goes : IsCallGoing old.parts.entries who)
    (active : is_reshaping old.parts.members.newest ≡ true) (later : is_reshaping new.parts.members.newest ≡ true) where
  pub moved-done : (due : Due) → due ≢ Finish → IsResyncCalled tells (given old.parts.bank) (tape old.parts.bank) (tape new.parts.bank) (faults old.parts.bank) (faults new.parts.bank) old new → given new.parts.bank ≡ given old.parts.bank
      → IsBehind who old.parts.entries new.parts.entries (Step (kind_of due) (left_in new.parts.work new.parts.members new.course new.ahead))
      → left_in new.parts.work new.parts.members new.course new.ahead + 1 ≡ left_in old.parts.work old.parts.members old.course old.ahead → IsStepDone tells given tape faults who old new false
  moved-done due ne was given_is behind one =
      plain-done tells given tape faults who old new (Held old.parts.members) (moved-did tells given tape faults old new was given_is active later)
      (subst (λ (n : ℕ). IsStepEntries who old.parts.entries new.parts.entries n) (sym (left-moving new later))
      (step-entries who old.parts.entries new.parts.entries (kind_of due) (left_in new.parts.work new.parts.members new.course new.ahead) (due-kind due (left_in new.parts.work new.parts.members new.course new.ahead) ne) behind))
      goes (later ∙ sym active)
      (fewer-as old.parts.entries new.parts.entries (left_in old.parts.work old.parts.members old.course old.ahead) (left_in new.parts.work new.parts.members new.course new.ahead) (running_left old) (running_left new) (left-moving old active) (left-moving new later)
      (record { one = λ quiet. one; some = λ quiet. omega (arith, one) }))
      (λ none. absurd (let both : true ≡ false = sym later ∙ none in cc))

  pub moved-refused : (did : IsPlainStep tells given tape faults (Held old.parts.members) old new) (refusal : Refusal) → IsBehind who old.parts.entries new.parts.entries (Refused refusal)
      → IsRefusalBy old.parts.backup (faults old.parts.bank) (faults new.parts.bank) refusal → MayEndSteps new refusal → IsStepRefused tells given tape faults who old new refusal
  moved-refused did refusal behind cause right = plain-refused tells given tape faults who old new (Held old.parts.members) refusal did behind goes (moved-ends new refusal later right) cause right

-- the end of the reshape is refused
pub ended-refused : {B : Type 0} (tells : Type 0) (given : B → Given) (tape : B → List Operation) (faults : B → ℕ → ℕ) (who : Who) (old new : RunningParts B) → IsCallGoing old.parts.entries who → is_reshaping old.parts.members.newest ≡ true → is_reshaping new.parts.members.newest ≡ true
    → IsCalled tells (given old.parts.bank) (tape old.parts.bank) (tape new.parts.bank) (faults old.parts.bank) (faults new.parts.bank) old new → given new.parts.bank ≡ given old.parts.bank
    → (refusal : Refusal) → IsBehind who old.parts.entries new.parts.entries (Refused refusal) → AreTooMany new.parts.members refusal → MayEndSteps new refusal → IsStepRefused tells given tape faults who old new refusal
ended-refused tells given tape faults who old new goes active later was given_is refusal behind many right =
    plain-refused tells given tape faults who old new (Held old.parts.members) refusal
    (record {
      long = long-same old new was.same;
      held = held-only old.parts.members new.parts.members was.held was.spares;
      had = λ role slot has. inl has;
      losses = was.losses;
      grows = was.grows;
      never_falls = was.never_falls;
      given_is = given_is;
      epoch = epoch-of old new was.same;
      active = λ still. absurd (let clash : true ≡ false = sym active ∙ still in cc);
      ahead = was.same.ahead;
      kept = way-same (faults old.parts.bank) (faults new.parts.bank) old new was.same (later ∙ sym active) (λ still. absurd (let clash : true ≡ false = sym active ∙ still in cc)) (λ moves. record { held = was.held; spares = was.spares; losses = was.losses });
      ended = was.ended;
    })
    behind goes (moved-ends new refusal later right) (many-so (IsRefusalBy old.parts.backup (faults old.parts.bank) (faults new.parts.bank)) (λ count most. tt) new.parts.members refusal many) right
