use Rattle.std.proofs.Common.{◌≡◌, ◌∙◌, ◌++◌, ℕ, ◌<◌, false, List, refl, sym, ap, subst, arith, ◌≤◌}
use Rattle.array_type.specs.raid_types_the_Shape.{Shape}
use Rattle.array_type.specs.raid_types_Shapes.{has_slot}
use Rattle.array_type.specs.sb_specs_Reading.{Scope, shape_of}
use Rattle.array_type.specs.stripe_row_Rows.{reading_of}
use Rattle.array_type.specs.history_the_Entry.{Entry}
use Rattle.array_type.specs.history_Plain.{entries_of}
use Rattle.array_type.specs.array_call_specs_Kept.{scope_in}
use Rattle.array_type.specs.array_call_specs_Adopting.{opener, absent_losses, found_losses, IsAdoptable}
use Rattle.array_type.proofs.array_call_specs_ReadyLaws.{scope-same}
use Rattle.array_type.proofs.array_members_Fit.{valid, roles-still}
use Rattle.array_type.proofs.array_fixed_laws_Adopting.{begins-ready}
use Rattle.array_type.proofs.raid_layout_Limits.{limited}
use Rattle.array_type.proofs.Asked.{known-at}
use Rattle.array_type.proofs.Alike.{stays-at-rest}
use Rattle.array_calls.proofs.adopting.adopt.Goals as goal

pub invariant_of-result : goal.invariant_of-result
invariant_of-result g c =
    let m = c.args.opened.members in
    let given = g.B.Bank.given c.args.bank in
    let tape = g.B.Bank.tape c.args.bank in
    let far = c.in-Ok.ensures in
    let room = c.in-Ok-room_for.ensures in
    let did = c.append_absent.ensures in
    let epoch = c.append_absent.new.epoch in
    let adoptable : IsAdoptable g.B.Bank.tells given tape (scope_in given epoch.uuid epoch.given c.args.opened.backup) m =
    subst (λ (s : Scope). IsAdoptable g.B.Bank.tells given tape s m) (sym (scope-same given c.args.opened.backup refl did.same.uuid did.same.given)) c.requires.adoptable in
    let entries : epoch.entries.items ≡ entries_of opener epoch.first (found_losses (reading_of m)) =
    did.items ∙ ap (λ (l : List Entry). l ++ entries_of opener c.ops-first.result (absent_losses (reading_of m) c.shape_in-disks.result.disks)) room.empty
    ∙ ap (λ (s : Shape). entries_of opener c.ops-first.result (absent_losses (reading_of m) s.disks)) c.shape_in-disks.ensures ∙ ap (λ (n : ℕ). entries_of opener n (found_losses (reading_of m))) (sym did.same.first) in
    stays-at-rest refl (rw c.found_work-work.ensures.work (begins-ready adoptable c.ops-first.ensures.whole c.found_work-work.ensures.slots (subst (λ (slots : ℕ). (slot : ℕ) → slot < given.slots → has_slot slots slot ≡ false → 0 < g.B.Bank.faults_of c.args.bank slot) (sym did.same.given) c.requires.failed)
    entries (λ t. did.same.first ∙ c.ops-first.ensures.count t) did.room room.rows (omega (arith, room.buffer)) far.rows (omega (arith, far.buffer))))

pub found_work-work-requires-clause-small : goal.found_work-work-requires-clause-small
found_work-work-requires-clause-small g c = λ role slot is. (c.requires.adoptable.placed.holders role slot is).small

pub found_work-work-requires-clause-shape : goal.found_work-work-requires-clause-shape
found_work-work-requires-clause-shape g c = valid (g.B.Bank.given c.args.bank) c.args.opened.members c.requires.adoptable.placed

pub found_work-work-requires-clause-roles : goal.found_work-work-requires-clause-roles
found_work-work-requires-clause-roles g c = roles-still (g.B.Bank.given c.args.bank) c.args.opened.members c.requires.adoptable.placed c.requires.adoptable.still

-- ---- the roles

pub append_absent-requires-clause-disks : goal.append_absent-requires-clause-disks
append_absent-requires-clause-disks g c =
    let m = c.args.opened.members in
    subst (λ (s : Shape). s.disks ≤ 16) (sym c.shape_in-disks.ensures) (limited (shape_of m.newest) (valid (g.B.Bank.given c.args.bank) m c.requires.adoptable.placed)).most

pub append_absent-requires-clause-roles : goal.append_absent-requires-clause-roles
append_absent-requires-clause-roles g c = known-at c.requires.adoptable.placed c.shape_in-disks.ensures

pub returns-clause-still : goal.returns-clause-still
returns-clause-still g c = c.requires.adoptable.still
