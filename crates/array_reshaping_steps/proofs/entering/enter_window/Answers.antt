use Rattle.std.proofs.Common.{◌≡◌, inl, ap, subst}
use Rattle.array_type.specs.raid_types_the_Refusal.{Refusal}
use Rattle.array_type.specs.raid_types_the_Refusal_TheVariants.{BackupFault}
use Rattle.array_type.specs.raid_types_the_Span.{Span}
use Rattle.array_type.specs.sb_specs_Reading.{is_clean}
use Rattle.array_type.specs.sb_specs_the_Members.{Members}
use Rattle.array_type.specs.history_the_StepKind_TheVariants.{Entered as EntersWindow}
use Rattle.array_type.specs.array_members_Lacking.{AreTooMany}
use Rattle.array_type.specs.reshape_request_the_Window_TheVariants.{Unsure}
use Rattle.array_type.specs.array_specs_Parts.{left_in}
use Rattle.array_type.proofs.array_reshaping_laws_BarredLaws.{alone-taken, barred-enter, refused-err, err-ok, err-any}
use Rattle.array_reshaping_steps.proofs.entering.enter_window.Goals as goal

-- ---- a window is unsure

pub clear-requires-clause-unsure : goal.clear-requires-clause-unsure
clear-requires-clause-unsure g c =
    subst (λ p. (span : Span) × (p.course.window ≡ Unsure span)) c.moving.view_is (c.is_barred.ensures.yes c.if-is_barred.true).0

pub returns-then-is_barred-clause-entered : goal.returns-then-is_barred-clause-entered
returns-then-is_barred-clause-entered g c =
    let new = c.clear.new.moving in
    alone-taken c.args.who c.args.moving.now.parts.entries new.parts.entries EntersWindow (left_in new.parts.work new.parts.members new.course new.ahead) c.clear.result c.clear.ensures.alone

pub returns-then-is_barred-clause-clean : goal.returns-then-is_barred-clause-clean
returns-then-is_barred-clause-clean g c = ap (λ (m : Members). is_clean m.newest) c.clear.ensures.members

pub returns-then-is_barred-clause-caused : goal.returns-then-is_barred-clause-caused
returns-then-is_barred-clause-caused g c =
    barred-enter c.args.moving.now.parts.backup c.args.moving.now.parts.members c.clear.new.moving.parts.members (g.B.Bank.faults_of c.args.moving.now.parts.bank) (g.B.Bank.faults_of c.clear.new.moving.parts.bank) c.clear.result
    c.clear.ensures.refused c.clear.ensures.backup

pub returns-then-is_barred-clause-left : goal.returns-then-is_barred-clause-left
returns-then-is_barred-clause-left g c = err-ok _ c.clear.result (refused-err c.clear.result BackupFault c.clear.ensures.refused)

pub returns-then-is_barred-clause-opened : goal.returns-then-is_barred-clause-opened
returns-then-is_barred-clause-opened g c = err-ok _ c.clear.result (refused-err c.clear.result BackupFault c.clear.ensures.refused)

pub returns-then-is_barred-clause-course : goal.returns-then-is_barred-clause-course
returns-then-is_barred-clause-course g c = err-any c.clear.result (inl c.clear.ensures.course)

-- ---- none is, or too many roles are missing anyway

pub enter_sure-requires-clause-sure : goal.enter_sure-requires-clause-sure
enter_sure-requires-clause-sure g c =
    subst (λ p. (span : Span) → p.course.window ≡ Unsure span → (refusal : Refusal) × AreTooMany p.parts.members refusal) c.moving.view_is (c.is_barred.ensures.no c.if-is_barred.false)

pub returns-then-is_barred-clause-active : goal.returns-then-is_barred-clause-active
returns-then-is_barred-clause-active g c = c.clear.ensures.active
