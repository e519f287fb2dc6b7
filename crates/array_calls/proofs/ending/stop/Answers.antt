use Rattle.std.proofs.Common.{◌≤◌, ℕ, Option, List, length, sym, subst, ◌∙◌}
use Rattle.array_type.specs.history_the_Entry.{Entry}
use Rattle.array_type.specs.history_Epochs.{world_of}
use Rattle.array_type.specs.history_Growing.{EndBy}
use Rattle.array_type.specs.array_call_specs_Calls.{IsEndOf}
use Rattle.array_type.specs.history_invariant_laws_Reliable.{IsReliable}
use Rattle.array_type.specs.array_specs_Calls.{IsEpochKept}
use Rattle.array_type.specs.array_specs_Plans.{KeepsShape}
use Rattle.array_type.specs.array_specs_Still.{AreLeftSettled}
use Rattle.array_type.specs.array_fixed_laws_Plain.{IsPlainEpoch}
use Rattle.array_calls.proofs.ending.stop.Goals as goal

pub returns-in-Ok-clause-right : goal.returns-in-Ok-clause-right
returns-in-Ok-clause-right g c =
    λ t.
    let bank = c.bank_and_epoch.result.0 in
    let epoch = c.bank_and_epoch.result.1 in
    subst (λ (b : Option ℕ). IsReliable (world_of (g.B.Bank.given bank) (g.B.Bank.tape bank) b epoch) epoch.entries.items → IsEpochKept (g.B.Bank.given bank) (g.B.Bank.tape bank) b epoch)
    c.in-Ok.ensures.called.same.array.backup (c.bank_and_epoch.ensures.right t (c.in-Ok.ensures.last t))

pub returns-in-Ok-clause-plain : goal.returns-in-Ok-clause-plain
returns-in-Ok-clause-plain g c =
    λ when. λ t.
    let bank = c.bank_and_epoch.result.0 in
    let epoch = c.bank_and_epoch.result.1 in
    subst (λ (b : Option ℕ). KeepsShape (world_of (g.B.Bank.given bank) (g.B.Bank.tape bank) b epoch) epoch.entries.items → IsPlainEpoch (g.B.Bank.given bank) (g.B.Bank.tape bank) b epoch)
    c.in-Ok.ensures.called.same.array.backup (c.bank_and_epoch.ensures.plain (c.in-Ok.ensures.active ∙ when) t)

pub returns-in-Ok-clause-never_falls : goal.returns-in-Ok-clause-never_falls
returns-in-Ok-clause-never_falls g c =
    λ slot.
    subst (λ bank. g.B.Bank.faults_of c.args.array.parts.bank slot ≤ g.B.Bank.faults_of bank slot) (sym c.bank_and_epoch.ensures.bank) (c.in-Ok.ensures.called.never_falls slot)

pub returns-in-Ok-clause-flushed : goal.returns-in-Ok-clause-flushed
returns-in-Ok-clause-flushed g c =
    λ t.
    let was = c.args.array.parts in
    let given = g.B.Bank.given was.bank in
    subst (λ bank. AreLeftSettled was.members was.entries c.bank_and_epoch.result.1.entries.items given (g.B.Bank.tape bank)) (sym c.bank_and_epoch.ensures.bank)
    (subst (λ (l : List Entry). AreLeftSettled was.members was.entries l given (g.B.Bank.tape c.settle_entering.new.array.parts.bank)) (sym c.bank_and_epoch.ensures.entries) (c.in-Ok.ensures.left t))

pub returns-in-Ok-clause-ends : goal.returns-in-Ok-clause-ends
returns-in-Ok-clause-ends g c =
    λ t. subst (λ bank. EndBy (length (g.B.Bank.tape bank)) c.bank_and_epoch.result.1.entries.items) (sym c.bank_and_epoch.ensures.bank) (c.bank_and_epoch.ensures.ends t)

pub returns-in-Ok-clause-ended : goal.returns-in-Ok-clause-ended
returns-in-Ok-clause-ended g c =
    let now = c.settle_entering.new.array.parts in
    subst (λ bank. IsEndOf g.B.Bank.tells c.bank_and_epoch.result.1.first c.bank_and_epoch.result.1.entries.items (g.B.Bank.tape bank)) (sym c.bank_and_epoch.ensures.bank)
    (subst (λ (l : List Entry). IsEndOf g.B.Bank.tells c.bank_and_epoch.result.1.first l (g.B.Bank.tape now.bank)) (sym c.bank_and_epoch.ensures.entries)
    (subst (λ (n : ℕ). IsEndOf g.B.Bank.tells n now.entries (g.B.Bank.tape now.bank)) (sym c.bank_and_epoch.ensures.first) c.in-Ok.ensures.called.ended))

pub returns-in-Ok-clause-plainly : goal.returns-in-Ok-clause-plainly
returns-in-Ok-clause-plainly g c =
    λ when. c.bank_and_epoch.ensures.plainly (c.in-Ok.ensures.active ∙ when)
