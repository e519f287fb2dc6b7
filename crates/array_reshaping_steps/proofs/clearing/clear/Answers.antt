use Rattle.std.proofs.Common.{◌≡◌, ◌<◌, ◌≤◌, ℕ, Option, List, [], ◌∷◌, length, Some, refl, sym, ◌∙◌, ap, subst, arith}
use Rattle.array_type.specs.raid_types_the_Refusal_TheVariants.{BackupFault}
use Rattle.array_type.specs.raid_types_the_Span.{Span}
use Rattle.array_type.specs.bank_Given.{Given}
use Rattle.array_type.specs.sb_specs_the_Members.{Members}
use Rattle.array_type.specs.history_the_Event_TheVariants.{Refused}
use Rattle.array_type.specs.history_Plain.{entries_of}
use Rattle.array_type.specs.array_members_Numbers.{bears}
use Rattle.array_type.proofs.array_members_MovedLaws.{grows-none, moved-same}
use Rattle.array_type.specs.array_call_specs_Kept.{scope_in}
use Rattle.array_type.proofs.array_call_specs_LossLaws.{ended-behind}
use Rattle.array_type.proofs.array_call_specs_ReadyLaws.{scope-same}
use Rattle.array_type.specs.reshape_request_the_Window.{Window}
use Rattle.array_type.specs.reshape_request_the_Window_TheVariants.{Unsure}
use Rattle.array_type.specs.history_invariant_Recorded.{IsCallGoing}
use Rattle.array_type.specs.reshape_progress_the_Course.{Course}
use Rattle.array_type.specs.reshape_progress_Course.{IsWindowOf, IsCourseOf}
use Rattle.array_type.specs.array_reshaping_invariant_Moving.{AreReshaping}
use Rattle.array_type.proofs.array_reshaping_invariant_Refusals.{quiet-refusal}
use Rattle.array_type.proofs.array_reshaping_invariant_Resting.{resting-moves}
use Rattle.array_type.specs.array_specs_Parts.{left_in}
use Rattle.array_type.proofs.array_specs_Called.{not_254, called, alone-lossless}
use Rattle.array_type.specs.array_reshaping_laws_Ready.{bytes_in}
use Rattle.array_type.proofs.array_reshaping_laws_Kept.{ready, shapes-same}
use Rattle.array_type.proofs.array_reshaping_laws_Examined.{moving-still}
use Rattle.array_type.proofs.array_reshaping_laws_EnterLaws.{HasBackup}
use Rattle.array_type.proofs.array_reshaping_laws_BarredLaws.{never-done}
use Rattle.array_type.proofs.ReshapingCalls.{one-less}
use Rattle.array_type.proofs.array_specs_Lengths.{alone-keeps}
use Rattle.array_type.proofs.Alike.{goes-on}
use Rattle.array_type.specs.sb_specs_Reading.{is_reshaping}
use Rattle.array_reshaping_steps.proofs.Backed.{backed-for, of-slot, faulted}
use Rattle.array_reshaping_steps.proofs.clearing.clear.Goals as goal

-- ---- the window, and its backup

has-of : (given : Given) (uuid : List ℕ) (slots : ℕ) (backup : Option ℕ) (slot : ℕ) → backup ≡ Some slot → (m : Members) (course : Course) (span : Span) → course.window ≡ Unsure span → IsCourseOf m.newest course
    → AreReshaping (scope_in given uuid slots backup) given m → HasBackup given uuid slots slot span
has-of given uuid slots backup slot at m course span is course_is are = backed-for backup slot at given uuid slots m span are (subst (λ (w : Window). IsWindowOf m.newest w) is course_is.window)

pub clear_window-requires-clause-slot : goal.clear_window-requires-clause-slot
clear_window-requires-clause-slot g c =
    let a = c.moving.inside in
    let here = subst (λ p. (span : Span) × (p.course.window ≡ Unsure span)) (sym c.moving.view_is) c.requires.unsure in
    (has-of (g.B.Bank.given a.bank) a.epoch.uuid a.epoch.given a.backup c.backup_slot-backup.result (ap (λ p. p.parts.backup) c.moving.view_is ∙ c.backup_slot-backup.ensures) a.members a.course here.0 here.1 (c.moving.invariant.moves (ap (λ p. is_reshaping p.parts.members.newest) c.moving.view_is ∙ c.requires.active)).1.kept.course_is (c.moving.invariant.moves (ap (λ p. is_reshaping p.parts.members.newest) c.moving.view_is ∙ c.requires.active)).1.kept.members_are).slot

pub clear_window-requires-clause-within : goal.clear_window-requires-clause-within
clear_window-requires-clause-within g c =
    let a = c.moving.inside in
    let here = subst (λ p. (span : Span) × (p.course.window ≡ Unsure span)) (sym c.moving.view_is) c.requires.unsure in
    let within = (has-of (g.B.Bank.given a.bank) a.epoch.uuid a.epoch.given a.backup c.backup_slot-backup.result (ap (λ p. p.parts.backup) c.moving.view_is ∙ c.backup_slot-backup.ensures) a.members a.course here.0 here.1 (c.moving.invariant.moves (ap (λ p. is_reshaping p.parts.members.newest) c.moving.view_is ∙ c.requires.active)).1.kept.course_is (c.moving.invariant.moves (ap (λ p. is_reshaping p.parts.members.newest) c.moving.view_is ∙ c.requires.active)).1.kept.members_are).within in
    omega (arith, within)

pub unreachable-requires : goal.unreachable-requires
unreachable-requires g c =
    let here = subst (λ p. (span : Span) × (p.course.window ≡ Unsure span)) (sym c.moving.view_is) c.requires.unsure in
    never-done c.clear_window.result c.in_default.field-0 c.in_default.is (c.clear_window.ensures.dead (of-slot c.moving.inside.backup c.backup_slot-backup.result (ap (λ p. p.parts.backup) c.moving.view_is ∙ c.backup_slot-backup.ensures) (λ (slot : ℕ). 0 < g.B.Bank.faults_of c.moving.inside.bank slot) ((c.moving.invariant.moves (ap (λ p. is_reshaping p.parts.members.newest) c.moving.view_is ∙ c.requires.active)).1.dead here.0 here.1))).0

-- ---- nothing was written

pub invariant_of-moving : goal.invariant_of-moving
invariant_of-moving g c =
    goes-on (c.moving.invariant.moves (ap (λ p. is_reshaping p.parts.members.newest) c.moving.view_is ∙ c.requires.active)).0 (
    let was = (c.moving.invariant.moves (ap (λ p. is_reshaping p.parts.members.newest) c.moving.view_is ∙ c.requires.active)).1 in
    let a = c.moving.inside in
    let given = g.B.Bank.given a.bank in
    let scope = scope_in given a.epoch.uuid a.epoch.given a.backup in
    let goes : IsCallGoing a.epoch.entries.items c.args.who = subst (λ p. IsCallGoing p.parts.entries c.args.who) (sym c.moving.view_is) c.requires.open in
    let steps : 1 ≤ a.steps = subst (λ p. 1 ≤ p.parts.steps) (sym c.moving.view_is) c.requires.room in
    let tape = g.B.Bank.tape a.bank in
    let here = subst (λ p. (span : Span) × (p.course.window ≡ Unsure span)) (sym c.moving.view_is) c.requires.unsure in
    let same = (c.clear_window.ensures.dead (of-slot c.moving.inside.backup c.backup_slot-backup.result (ap (λ p. p.parts.backup) c.moving.view_is ∙ c.backup_slot-backup.ensures) (λ (slot : ℕ). 0 < g.B.Bank.faults_of c.moving.inside.bank slot) ((c.moving.invariant.moves (ap (λ p. is_reshaping p.parts.members.newest) c.moving.view_is ∙ c.requires.active)).1.dead here.0 here.1))).1 in
    let end = c.ops-end.result in
    let kept = resting-moves g.B.Bank.tells given tape scope a.epoch.first a.epoch.entries.items a.members (bears a.work) a.work.resync a.course (bytes_in a.course.window a.window.items) (left_in a.work a.members a.course a.ahead)
    c.args.who end (Refused BackupFault) was.kept goes (not_254 c.args.who.caller c.requires.caller) (λ t. c.ops-end.ensures.count t ∙ ap (λ l. length l) (same t)) (quiet-refusal BackupFault) (λ told is. is) (λ t right. tt) in
    ready (entries_of c.args.who end (Refused BackupFault ∷ [])) was (grows-none same) (shapes-same a.members.newest) (moving-still same kept)
    refl c.clear_window.ensures.cause.never_falls (alone-keeps c.args.who end (Refused BackupFault) (λ n. refl) (λ limit. refl)) (λ none whole. whole) c.clear_window.ensures.given
    (scope-same given a.backup c.clear_window.ensures.given c.append_entry.ensures.uuid c.append_entry.ensures.given) c.append_entry.ensures.first refl c.append_entry.ensures.items
    (let had = was.room_left in let room = c.append_entry.ensures.room in omega (arith, room, had, steps)))

pub returns-clause-called : goal.returns-clause-called
returns-clause-called g c =
    let was = (c.moving.invariant.moves (ap (λ p. is_reshaping p.parts.members.newest) c.moving.view_is ∙ c.requires.active)).1 in
    let a = c.moving.inside in
    let given = g.B.Bank.given a.bank in
    let before = g.B.Bank.faults_of a.bank in
    let after = g.B.Bank.faults_of c.clear_window.new.bank in
    let here = subst (λ p. (span : Span) × (p.course.window ≡ Unsure span)) (sym c.moving.view_is) c.requires.unsure in
    let same = (c.clear_window.ensures.dead (of-slot c.moving.inside.backup c.backup_slot-backup.result (ap (λ p. p.parts.backup) c.moving.view_is ∙ c.backup_slot-backup.ensures) (λ (slot : ℕ). 0 < g.B.Bank.faults_of c.moving.inside.bank slot) ((c.moving.invariant.moves (ap (λ p. is_reshaping p.parts.members.newest) c.moving.view_is ∙ c.requires.active)).1.dead here.0 here.1))).1 in
    let end = c.ops-end.result in
    rw (← c.moving.view_is) (called (grows-none same) (moved-same given given a.members a.members refl refl was.kept.members_are.placed was.kept.members_are.unlost)
    (ended-behind (g.B.Bank.tape c.clear_window.new.bank) c.append_entry.new.epoch.first a.epoch.entries.items c.args.who end [] (Refused BackupFault) c.append_entry.ensures.items c.ops-end.ensures.count)
    (alone-lossless a.members before after a.epoch.entries.items a.epoch.entries.items c.append_entry.new.epoch.entries.items c.args.who end (Refused BackupFault) tt refl c.append_entry.ensures.items)
    c.clear_window.ensures.cause.never_falls
    (record { uuid = c.append_entry.ensures.uuid; given = c.append_entry.ensures.given; first = c.append_entry.ensures.first; backup = refl; work = refl; ahead = refl; limit = refl })
    (λ t. (was.kept.recorded t).begun))

-- ---- by what stands above

pub check_going-requires : goal.check_going-requires
check_going-requires g c = subst (λ p. IsCallGoing p.parts.entries c.args.who) (sym c.moving.view_is) c.requires.open

pub overflow_sub-moving : goal.overflow_sub-moving
overflow_sub-moving g c = subst (λ p. 1 ≤ p.parts.steps) (sym c.moving.view_is) c.requires.room

pub returns-clause-room : goal.returns-clause-room
returns-clause-room g c =
    one-less c.moving.inside.steps (subst (λ p. 1 ≤ p.parts.steps) (sym c.moving.view_is) c.requires.room) ∙ ap (λ p. p.parts.steps) c.moving.view_is

pub returns-clause-members : goal.returns-clause-members
returns-clause-members g c = ap (λ p. p.parts.members) c.moving.view_is

pub returns-clause-alone : goal.returns-clause-alone
returns-clause-alone g c = rw (← c.moving.view_is) (c.ops-end.result, c.append_entry.ensures.items)

pub returns-clause-active : goal.returns-clause-active
returns-clause-active g c = (ap (λ p. is_reshaping p.parts.members.newest) c.moving.view_is ∙ c.requires.active)

pub returns-clause-backup : goal.returns-clause-backup
returns-clause-backup g c =
    let a = c.moving.inside in
    let here = subst (λ p. (span : Span) × (p.course.window ≡ Unsure span)) (sym c.moving.view_is) c.requires.unsure in
    let failed = (c.clear_window.ensures.dead (of-slot a.backup c.backup_slot-backup.result (ap (λ p. p.parts.backup) c.moving.view_is ∙ c.backup_slot-backup.ensures) (λ (slot : ℕ). 0 < g.B.Bank.faults_of a.bank slot) ((c.moving.invariant.moves (ap (λ p. is_reshaping p.parts.members.newest) c.moving.view_is ∙ c.requires.active)).1.dead here.0 here.1))).0 in
    rw (← c.moving.view_is) (faulted a.backup c.backup_slot-backup.result (ap (λ p. p.parts.backup) c.moving.view_is ∙ c.backup_slot-backup.ensures) (g.B.Bank.faults_of a.bank) (g.B.Bank.faults_of c.clear_window.new.bank) (c.clear_window.ensures.cause.failed failed))
