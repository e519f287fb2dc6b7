use Rattle.std.proofs.Common.{◌≡◌, ℕ, ◌≤◌, List, Option, [], inl, inr, sym, subst, arith}
use Rattle.std.proofs.lemmas.List.Elements.{All-nil}
use Rattle.history_reopen_laws.specs.bank_Given.{Given}
use Rattle.history_reopen_laws.specs.bank_the_Operation.{Operation}
use Rattle.history_reopen_laws.specs.history_the_Epoch.{Epoch}
use Rattle.run_session.specs.run_specs_Histories.{history_of}
use Rattle.run_session.specs.run_specs_Making.{Setting}
use Rattle.run_session.specs.run_specs_States.{AreLossesBehind}
use Rattle.run_session.specs.run_specs_Ended.{AreLegal, IsLegalEpoch, AreRight, IsRightEpoch}
use Rattle.run_scripts.specs.Kept.{AreKept}
use Rattle.run_scripts.specs.Runs.{AreLossesFailed, AreEndedAt, IsAfterLines}

-- A run that performed nothing: it has no epochs, and the bank as it was.

pub none-legal : (given : Given) (tape : List Operation) (backup : Option ℕ) (epochs : List Epoch) → epochs ≡ [] → AreLegal given tape backup epochs
none-legal given tape backup epochs none = subst (λ (es : List Epoch). AreLegal given tape backup es) (sym none) (All-nil (λ epoch. IsLegalEpoch given tape backup epoch))

pub none-right : (given : Given) (tape : List Operation) (backup : Option ℕ) (epochs : List Epoch) → epochs ≡ [] → AreRight given tape backup epochs
none-right given tape backup epochs none = subst (λ (es : List Epoch). AreRight given tape backup es) (sym none) (All-nil (λ epoch. IsRightEpoch given tape backup epoch))

pub none-kept : (given : Given) (tape : List Operation) (backup : Option ℕ) (epochs : List Epoch) → epochs ≡ [] → AreKept given tape backup epochs
none-kept given tape backup epochs none = subst (λ (es : List Epoch). AreKept given tape backup es) (sym none) tt

pub none-ended : (ops : ℕ) (epochs : List Epoch) → epochs ≡ [] → AreEndedAt ops epochs
none-ended ops epochs none = subst (λ (es : List Epoch). AreEndedAt ops es) (sym none) (λ k d low. absurd (omega (arith, low)))

pub none-lost : (setting : Setting) (epochs : List Epoch) → epochs ≡ [] → AreLossesFailed setting epochs
none-lost setting epochs none =
    subst (λ (es : List Epoch). AreLossesFailed setting es) (sym none) (All-nil (λ epoch. AreLossesBehind setting (history_of epoch) [] epoch.entries.items))

pub same-faults : (before after : ℕ) → after ≡ before → before ≤ after
same-faults before after same = omega (arith, same)

-- its status isn't one behind the lines
pub before-lines : {X : Type 0} (status n : ℕ) → status ≡ n → 2 ≤ n → n ≤ 4 → IsAfterLines status → X
before-lines {X} status n is low high after = elim after as (λ _. X) [
  | inl zero ↦ absurd (omega (arith, is, zero, low))
  | inr rest ↦ elim rest as (λ _. X) [
    | inl one ↦ absurd (omega (arith, is, one, low))
    | inr five ↦ absurd (omega (arith, is, five, high))
  ]
]

pub short-before : {X : Type 0} (status : ℕ) → status ≡ 6 → IsAfterLines status → X
short-before {X} status is after = elim after as (λ _. X) [
  | inl zero ↦ absurd (omega (arith, is, zero))
  | inr rest ↦ elim rest as (λ _. X) [
    | inl one ↦ absurd (omega (arith, is, one))
    | inr five ↦ absurd (omega (arith, is, five))
  ]
]
