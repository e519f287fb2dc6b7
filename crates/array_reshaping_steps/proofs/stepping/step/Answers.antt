use Rattle.std.proofs.Common.{◌≡◌, None, sym, ◌∙◌, ap, subst}
use Rattle.array_type.specs.array_reshaping_state_Due.{due_of, IsDue}
use Rattle.array_type.specs.array_reshaping_state_the_Due_TheVariants.{Copy, Record, Mend, EndResync, Enter, Zero}
use Rattle.array_type.specs.array_reshaping_state_the_Due.{Due}
use Rattle.array_type.specs.array_specs_Calls.{IsEnterDue, IsCopyDue, IsRecordDue, IsZeroDue, IsStepTaken, IsNextUnsure}
use Rattle.array_type.specs.array_specs_Parts.{left_in}
use Rattle.array_type.specs.array_reshaping_laws_Steps.{kind_of, resync_behind, IsMarkedBehind, IsStepCaused}
use Rattle.array_type.specs.array_reshaping_laws_Resyncing.{IsResyncDue, IsResyncEndDue}
use Rattle.array_type.proofs.array_reshaping_laws_DueSteps.{enter-due}
use Rattle.array_type.proofs.array_reshaping_laws_ResyncLaws.{mend-due, end-due}
use Rattle.array_type.proofs.ReshapingCalls.{copy-due, record-due, zero-due, work-same, step-called, err-either, err-first}
use Rattle.array_reshaping_steps.proofs.stepping.step.Goals as goal

-- ---- of a resync

pub resync_stripe-requires-clause-due : goal.resync_stripe-requires-clause-due
resync_stripe-requires-clause-due g c =
    let a = c.moving.inside in
    subst (λ p. IsResyncDue p) c.moving.view_is (mend-due _ (subst (λ due. IsDue a.members.newest a.course a.work.resync due) c.in-Mend.is c.due_step.ensures.ready))

pub end_resync-requires-clause-due : goal.end_resync-requires-clause-due
end_resync-requires-clause-due g c =
    let a = c.moving.inside in
    subst (λ p. IsResyncEndDue p) c.moving.view_is (end-due _ (subst (λ due. IsDue a.members.newest a.course a.work.resync due) c.in-EndResync.is c.due_step.ensures.ready))

-- ---- of a reshape

pub enter_window-requires-clause-due : goal.enter_window-requires-clause-due
enter_window-requires-clause-due g c =
    let a = c.moving.inside in
    subst (λ p. IsEnterDue p) c.moving.view_is (enter-due _ a.work.resync (subst (λ due. IsDue a.members.newest a.course a.work.resync due) c.in-Enter.is c.due_step.ensures.ready))

pub enter_window-requires-clause-synced : goal.enter_window-requires-clause-synced
enter_window-requires-clause-synced g c =
    let a = c.moving.inside in
    let due : IsDue a.members.newest a.course a.work.resync Enter = subst (λ due. IsDue a.members.newest a.course a.work.resync due) c.in-Enter.is c.due_step.ensures.ready in
    subst (λ p. p.parts.work.resync ≡ None) c.moving.view_is due.3

pub zero_stripe-requires-clause-synced : goal.zero_stripe-requires-clause-synced
zero_stripe-requires-clause-synced g c =
    let a = c.moving.inside in
    let due : IsDue a.members.newest a.course a.work.resync Zero = subst (λ due. IsDue a.members.newest a.course a.work.resync due) c.in-Zero.is c.due_step.ensures.ready in
    subst (λ p. p.parts.work.resync ≡ None) c.moving.view_is due.3

pub copy_stripe-requires-clause-due : goal.copy_stripe-requires-clause-due
copy_stripe-requires-clause-due g c =
    let a = c.moving.inside in
    subst (λ p. IsCopyDue p) c.moving.view_is (copy-due _ a.work.resync (subst (λ due. IsDue a.members.newest a.course a.work.resync due) c.in-Copy.is c.due_step.ensures.ready))

pub record_window-requires-clause-due : goal.record_window-requires-clause-due
record_window-requires-clause-due g c =
    let a = c.moving.inside in
    subst (λ p. IsRecordDue p) c.moving.view_is (record-due _ a.work.resync (subst (λ due. IsDue a.members.newest a.course a.work.resync due) c.in-Record.is c.due_step.ensures.ready))

pub zero_stripe-requires-clause-due : goal.zero_stripe-requires-clause-due
zero_stripe-requires-clause-due g c =
    let a = c.moving.inside in
    subst (λ p. IsZeroDue p) c.moving.view_is (zero-due _ a.work.resync (subst (λ due. IsDue a.members.newest a.course a.work.resync due) c.in-Zero.is c.due_step.ensures.ready))

-- ---- copy

pub returns-in-Copy-clause-entered : goal.returns-in-Copy-clause-entered
returns-in-Copy-clause-entered g c =
    let now = c.args.moving.now in
    let new = c.copy_stripe.new.moving in
    let due : Copy ≡ due_of now.parts.members.newest now.course now.parts.work.resync = sym c.in-Copy.is ∙ c.due_step.ensures.value ∙ ap (λ p. due_of p.parts.members.newest p.course p.parts.work.resync) c.moving.view_is in
    subst (λ (d : Due). IsStepTaken c.args.who now.parts.entries new.parts.entries (kind_of d) (left_in new.parts.work new.parts.members new.course new.ahead) c.copy_stripe.result) due c.copy_stripe.ensures.entered

pub returns-in-Copy-clause-clean : goal.returns-in-Copy-clause-clean
returns-in-Copy-clause-clean g c =
    let now = c.args.moving.now in
    let new = c.copy_stripe.new.moving in
    let due : Copy ≡ due_of now.parts.members.newest now.course now.parts.work.resync = sym c.in-Copy.is ∙ c.due_step.ensures.value ∙ ap (λ p. due_of p.parts.members.newest p.course p.parts.work.resync) c.moving.view_is in
    subst (λ (d : Due). IsMarkedBehind d now.parts.members new.parts.members c.copy_stripe.result) due c.copy_stripe.ensures.clean

pub returns-in-Copy-clause-caused : goal.returns-in-Copy-clause-caused
returns-in-Copy-clause-caused g c =
    let now = c.args.moving.now in
    let new = c.copy_stripe.new.moving in
    let due : Copy ≡ due_of now.parts.members.newest now.course now.parts.work.resync = sym c.in-Copy.is ∙ c.due_step.ensures.value ∙ ap (λ p. due_of p.parts.members.newest p.course p.parts.work.resync) c.moving.view_is in
    subst (λ (d : Due). IsStepCaused d now.parts.work.resync now.parts.backup now.parts.members new.parts.members (g.B.Bank.faults_of now.parts.bank) (g.B.Bank.faults_of new.parts.bank) c.copy_stripe.result) due c.copy_stripe.ensures.caused

pub returns-in-Copy-clause-work : goal.returns-in-Copy-clause-work
returns-in-Copy-clause-work g c =
    let now = c.args.moving.now in
    let new = c.copy_stripe.new.moving in
    let due : Copy ≡ due_of now.parts.members.newest now.course now.parts.work.resync = sym c.in-Copy.is ∙ c.due_step.ensures.value ∙ ap (λ p. due_of p.parts.members.newest p.course p.parts.work.resync) c.moving.view_is in
    c.copy_stripe.ensures.called.work ∙ work-same c.copy_stripe.result now.parts.work (resync_behind (due_of now.parts.members.newest now.course now.parts.work.resync) now.parts.work.resync) (ap (λ (d : Due). resync_behind d now.parts.work.resync) due)

pub returns-in-Copy-clause-called : goal.returns-in-Copy-clause-called
returns-in-Copy-clause-called g c = step-called c.copy_stripe.ensures.called

pub returns-in-Copy-clause-course : goal.returns-in-Copy-clause-course
returns-in-Copy-clause-course g c =
    err-either c.copy_stripe.result (c.copy_stripe.new.moving.course ≡ c.args.moving.now.course) (IsNextUnsure c.args.moving.now.parts.members c.copy_stripe.new.moving.course) c.copy_stripe.ensures.course

-- ---- record

pub returns-in-Record-clause-entered : goal.returns-in-Record-clause-entered
returns-in-Record-clause-entered g c =
    let now = c.args.moving.now in
    let new = c.record_window.new.moving in
    let due : Record ≡ due_of now.parts.members.newest now.course now.parts.work.resync = sym c.in-Record.is ∙ c.due_step.ensures.value ∙ ap (λ p. due_of p.parts.members.newest p.course p.parts.work.resync) c.moving.view_is in
    subst (λ (d : Due). IsStepTaken c.args.who now.parts.entries new.parts.entries (kind_of d) (left_in new.parts.work new.parts.members new.course new.ahead) c.record_window.result) due c.record_window.ensures.entered

pub returns-in-Record-clause-clean : goal.returns-in-Record-clause-clean
returns-in-Record-clause-clean g c =
    let now = c.args.moving.now in
    let new = c.record_window.new.moving in
    let due : Record ≡ due_of now.parts.members.newest now.course now.parts.work.resync = sym c.in-Record.is ∙ c.due_step.ensures.value ∙ ap (λ p. due_of p.parts.members.newest p.course p.parts.work.resync) c.moving.view_is in
    subst (λ (d : Due). IsMarkedBehind d now.parts.members new.parts.members c.record_window.result) due c.record_window.ensures.clean

pub returns-in-Record-clause-caused : goal.returns-in-Record-clause-caused
returns-in-Record-clause-caused g c =
    let now = c.args.moving.now in
    let new = c.record_window.new.moving in
    let due : Record ≡ due_of now.parts.members.newest now.course now.parts.work.resync = sym c.in-Record.is ∙ c.due_step.ensures.value ∙ ap (λ p. due_of p.parts.members.newest p.course p.parts.work.resync) c.moving.view_is in
    subst (λ (d : Due). IsStepCaused d now.parts.work.resync now.parts.backup now.parts.members new.parts.members (g.B.Bank.faults_of now.parts.bank) (g.B.Bank.faults_of new.parts.bank) c.record_window.result) due c.record_window.ensures.caused

pub returns-in-Record-clause-work : goal.returns-in-Record-clause-work
returns-in-Record-clause-work g c =
    let now = c.args.moving.now in
    let new = c.record_window.new.moving in
    let due : Record ≡ due_of now.parts.members.newest now.course now.parts.work.resync = sym c.in-Record.is ∙ c.due_step.ensures.value ∙ ap (λ p. due_of p.parts.members.newest p.course p.parts.work.resync) c.moving.view_is in
    c.record_window.ensures.called.work ∙ work-same c.record_window.result now.parts.work (resync_behind (due_of now.parts.members.newest now.course now.parts.work.resync) now.parts.work.resync) (ap (λ (d : Due). resync_behind d now.parts.work.resync) due)

pub returns-in-Record-clause-called : goal.returns-in-Record-clause-called
returns-in-Record-clause-called g c = step-called c.record_window.ensures.called

pub returns-in-Record-clause-course : goal.returns-in-Record-clause-course
returns-in-Record-clause-course g c =
    err-either c.record_window.result (c.record_window.new.moving.course ≡ c.args.moving.now.course) (IsNextUnsure c.args.moving.now.parts.members c.record_window.new.moving.course) c.record_window.ensures.course

-- ---- mend_stripe

pub returns-in-Mend-clause-entered : goal.returns-in-Mend-clause-entered
returns-in-Mend-clause-entered g c =
    let now = c.args.moving.now in
    let new = c.resync_stripe.new.moving in
    let due : Mend ≡ due_of now.parts.members.newest now.course now.parts.work.resync = sym c.in-Mend.is ∙ c.due_step.ensures.value ∙ ap (λ p. due_of p.parts.members.newest p.course p.parts.work.resync) c.moving.view_is in
    subst (λ (d : Due). IsStepTaken c.args.who now.parts.entries new.parts.entries (kind_of d) (left_in new.parts.work new.parts.members new.course new.ahead) c.resync_stripe.result) due c.resync_stripe.ensures.entered

pub returns-in-Mend-clause-clean : goal.returns-in-Mend-clause-clean
returns-in-Mend-clause-clean g c =
    let now = c.args.moving.now in
    let new = c.resync_stripe.new.moving in
    let due : Mend ≡ due_of now.parts.members.newest now.course now.parts.work.resync = sym c.in-Mend.is ∙ c.due_step.ensures.value ∙ ap (λ p. due_of p.parts.members.newest p.course p.parts.work.resync) c.moving.view_is in
    subst (λ (d : Due). IsMarkedBehind d now.parts.members new.parts.members c.resync_stripe.result) due c.resync_stripe.ensures.clean

pub returns-in-Mend-clause-caused : goal.returns-in-Mend-clause-caused
returns-in-Mend-clause-caused g c =
    let now = c.args.moving.now in
    let new = c.resync_stripe.new.moving in
    let due : Mend ≡ due_of now.parts.members.newest now.course now.parts.work.resync = sym c.in-Mend.is ∙ c.due_step.ensures.value ∙ ap (λ p. due_of p.parts.members.newest p.course p.parts.work.resync) c.moving.view_is in
    subst (λ (d : Due). IsStepCaused d now.parts.work.resync now.parts.backup now.parts.members new.parts.members (g.B.Bank.faults_of now.parts.bank) (g.B.Bank.faults_of new.parts.bank) c.resync_stripe.result) due c.resync_stripe.ensures.caused

pub returns-in-Mend-clause-course : goal.returns-in-Mend-clause-course
returns-in-Mend-clause-course g c =
    err-first c.resync_stripe.result (c.resync_stripe.new.moving.course ≡ c.args.moving.now.course) (IsNextUnsure c.args.moving.now.parts.members c.resync_stripe.new.moving.course) c.resync_stripe.ensures.course

-- ---- end_resync

pub returns-in-EndResync-clause-entered : goal.returns-in-EndResync-clause-entered
returns-in-EndResync-clause-entered g c =
    let now = c.args.moving.now in
    let new = c.end_resync.new.moving in
    let due : EndResync ≡ due_of now.parts.members.newest now.course now.parts.work.resync = sym c.in-EndResync.is ∙ c.due_step.ensures.value ∙ ap (λ p. due_of p.parts.members.newest p.course p.parts.work.resync) c.moving.view_is in
    subst (λ (d : Due). IsStepTaken c.args.who now.parts.entries new.parts.entries (kind_of d) (left_in new.parts.work new.parts.members new.course new.ahead) c.end_resync.result) due c.end_resync.ensures.entered

pub returns-in-EndResync-clause-clean : goal.returns-in-EndResync-clause-clean
returns-in-EndResync-clause-clean g c =
    let now = c.args.moving.now in
    let new = c.end_resync.new.moving in
    let due : EndResync ≡ due_of now.parts.members.newest now.course now.parts.work.resync = sym c.in-EndResync.is ∙ c.due_step.ensures.value ∙ ap (λ p. due_of p.parts.members.newest p.course p.parts.work.resync) c.moving.view_is in
    subst (λ (d : Due). IsMarkedBehind d now.parts.members new.parts.members c.end_resync.result) due c.end_resync.ensures.clean

pub returns-in-EndResync-clause-caused : goal.returns-in-EndResync-clause-caused
returns-in-EndResync-clause-caused g c =
    let now = c.args.moving.now in
    let new = c.end_resync.new.moving in
    let due : EndResync ≡ due_of now.parts.members.newest now.course now.parts.work.resync = sym c.in-EndResync.is ∙ c.due_step.ensures.value ∙ ap (λ p. due_of p.parts.members.newest p.course p.parts.work.resync) c.moving.view_is in
    subst (λ (d : Due). IsStepCaused d now.parts.work.resync now.parts.backup now.parts.members new.parts.members (g.B.Bank.faults_of now.parts.bank) (g.B.Bank.faults_of new.parts.bank) c.end_resync.result) due c.end_resync.ensures.caused

pub returns-in-EndResync-clause-course : goal.returns-in-EndResync-clause-course
returns-in-EndResync-clause-course g c =
    err-first c.end_resync.result (c.end_resync.new.moving.course ≡ c.args.moving.now.course) (IsNextUnsure c.args.moving.now.parts.members c.end_resync.new.moving.course) c.end_resync.ensures.course

-- ---- enter

pub returns-in-Enter-clause-entered : goal.returns-in-Enter-clause-entered
returns-in-Enter-clause-entered g c =
    let now = c.args.moving.now in
    let new = c.enter_window.new.moving in
    let due : Enter ≡ due_of now.parts.members.newest now.course now.parts.work.resync = sym c.in-Enter.is ∙ c.due_step.ensures.value ∙ ap (λ p. due_of p.parts.members.newest p.course p.parts.work.resync) c.moving.view_is in
    subst (λ (d : Due). IsStepTaken c.args.who now.parts.entries new.parts.entries (kind_of d) (left_in new.parts.work new.parts.members new.course new.ahead) c.enter_window.result) due c.enter_window.ensures.entered

pub returns-in-Enter-clause-clean : goal.returns-in-Enter-clause-clean
returns-in-Enter-clause-clean g c =
    let now = c.args.moving.now in
    let new = c.enter_window.new.moving in
    let due : Enter ≡ due_of now.parts.members.newest now.course now.parts.work.resync = sym c.in-Enter.is ∙ c.due_step.ensures.value ∙ ap (λ p. due_of p.parts.members.newest p.course p.parts.work.resync) c.moving.view_is in
    subst (λ (d : Due). IsMarkedBehind d now.parts.members new.parts.members c.enter_window.result) due c.enter_window.ensures.clean

pub returns-in-Enter-clause-caused : goal.returns-in-Enter-clause-caused
returns-in-Enter-clause-caused g c =
    let now = c.args.moving.now in
    let new = c.enter_window.new.moving in
    let due : Enter ≡ due_of now.parts.members.newest now.course now.parts.work.resync = sym c.in-Enter.is ∙ c.due_step.ensures.value ∙ ap (λ p. due_of p.parts.members.newest p.course p.parts.work.resync) c.moving.view_is in
    subst (λ (d : Due). IsStepCaused d now.parts.work.resync now.parts.backup now.parts.members new.parts.members (g.B.Bank.faults_of now.parts.bank) (g.B.Bank.faults_of new.parts.bank) c.enter_window.result) due c.enter_window.ensures.caused

pub returns-in-Enter-clause-work : goal.returns-in-Enter-clause-work
returns-in-Enter-clause-work g c =
    let now = c.args.moving.now in
    let new = c.enter_window.new.moving in
    let due : Enter ≡ due_of now.parts.members.newest now.course now.parts.work.resync = sym c.in-Enter.is ∙ c.due_step.ensures.value ∙ ap (λ p. due_of p.parts.members.newest p.course p.parts.work.resync) c.moving.view_is in
    c.enter_window.ensures.called.work ∙ work-same c.enter_window.result now.parts.work (resync_behind (due_of now.parts.members.newest now.course now.parts.work.resync) now.parts.work.resync) (ap (λ (d : Due). resync_behind d now.parts.work.resync) due)

pub returns-in-Enter-clause-called : goal.returns-in-Enter-clause-called
returns-in-Enter-clause-called g c = step-called c.enter_window.ensures.called

-- ---- zero

pub returns-in-Zero-clause-entered : goal.returns-in-Zero-clause-entered
returns-in-Zero-clause-entered g c =
    let now = c.args.moving.now in
    let new = c.zero_stripe.new.moving in
    let due : Zero ≡ due_of now.parts.members.newest now.course now.parts.work.resync = sym c.in-Zero.is ∙ c.due_step.ensures.value ∙ ap (λ p. due_of p.parts.members.newest p.course p.parts.work.resync) c.moving.view_is in
    subst (λ (d : Due). IsStepTaken c.args.who now.parts.entries new.parts.entries (kind_of d) (left_in new.parts.work new.parts.members new.course new.ahead) c.zero_stripe.result) due c.zero_stripe.ensures.entered

pub returns-in-Zero-clause-clean : goal.returns-in-Zero-clause-clean
returns-in-Zero-clause-clean g c =
    let now = c.args.moving.now in
    let new = c.zero_stripe.new.moving in
    let due : Zero ≡ due_of now.parts.members.newest now.course now.parts.work.resync = sym c.in-Zero.is ∙ c.due_step.ensures.value ∙ ap (λ p. due_of p.parts.members.newest p.course p.parts.work.resync) c.moving.view_is in
    subst (λ (d : Due). IsMarkedBehind d now.parts.members new.parts.members c.zero_stripe.result) due c.zero_stripe.ensures.clean

pub returns-in-Zero-clause-caused : goal.returns-in-Zero-clause-caused
returns-in-Zero-clause-caused g c =
    let now = c.args.moving.now in
    let new = c.zero_stripe.new.moving in
    let due : Zero ≡ due_of now.parts.members.newest now.course now.parts.work.resync = sym c.in-Zero.is ∙ c.due_step.ensures.value ∙ ap (λ p. due_of p.parts.members.newest p.course p.parts.work.resync) c.moving.view_is in
    subst (λ (d : Due). IsStepCaused d now.parts.work.resync now.parts.backup now.parts.members new.parts.members (g.B.Bank.faults_of now.parts.bank) (g.B.Bank.faults_of new.parts.bank) c.zero_stripe.result) due c.zero_stripe.ensures.caused

pub returns-in-Zero-clause-work : goal.returns-in-Zero-clause-work
returns-in-Zero-clause-work g c =
    let now = c.args.moving.now in
    let new = c.zero_stripe.new.moving in
    let due : Zero ≡ due_of now.parts.members.newest now.course now.parts.work.resync = sym c.in-Zero.is ∙ c.due_step.ensures.value ∙ ap (λ p. due_of p.parts.members.newest p.course p.parts.work.resync) c.moving.view_is in
    c.zero_stripe.ensures.called.work ∙ work-same c.zero_stripe.result now.parts.work (resync_behind (due_of now.parts.members.newest now.course now.parts.work.resync) now.parts.work.resync) (ap (λ (d : Due). resync_behind d now.parts.work.resync) due)

pub returns-in-Zero-clause-called : goal.returns-in-Zero-clause-called
returns-in-Zero-clause-called g c = step-called c.zero_stripe.ensures.called

pub returns-in-Zero-clause-course : goal.returns-in-Zero-clause-course
returns-in-Zero-clause-course g c =
    err-either c.zero_stripe.result (c.zero_stripe.new.moving.course ≡ c.args.moving.now.course) (IsNextUnsure c.args.moving.now.parts.members c.zero_stripe.new.moving.course) c.zero_stripe.ensures.course

pub returns-in-Copy-clause-active : goal.returns-in-Copy-clause-active
returns-in-Copy-clause-active g c = c.copy_stripe.ensures.active

pub returns-in-Record-clause-active : goal.returns-in-Record-clause-active
returns-in-Record-clause-active g c = c.record_window.ensures.active

pub returns-in-Mend-clause-active : goal.returns-in-Mend-clause-active
returns-in-Mend-clause-active g c = c.resync_stripe.ensures.active

pub returns-in-EndResync-clause-active : goal.returns-in-EndResync-clause-active
returns-in-EndResync-clause-active g c = c.end_resync.ensures.active

pub returns-in-Enter-clause-active : goal.returns-in-Enter-clause-active
returns-in-Enter-clause-active g c = c.enter_window.ensures.active

pub returns-in-Zero-clause-active : goal.returns-in-Zero-clause-active
returns-in-Zero-clause-active g c = c.zero_stripe.ensures.active
