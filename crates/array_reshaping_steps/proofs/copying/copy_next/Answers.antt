use Rattle.std.proofs.Common.{ℕ, sym, ◌∙◌, subst, arith}
use Rattle.array_type.specs.raid_types_the_Shape.{Shape}
use Rattle.array_type.specs.sb_specs_Reading.{final_shape}
use Rattle.array_type.proofs.sb_specs_ValidFields.{few-roles}
use Rattle.array_type.specs.stripe_row_Rows.{reading_of, present}
use Rattle.array_type.specs.stripe_list_Full.{RowStands}
use Rattle.array_type.proofs.crash_views_Stands.{span-order}
use Rattle.array_type.specs.array_members_Lacking.{AreOtherRowsKept, IsOfStripe}
use Rattle.array_type.proofs.array_members_LackingLaws.{lost-since}
use Rattle.array_type.specs.array_fixed_invariant_reshape_progress_Laws.{next_stripe}
use Rattle.array_type.proofs.ReshapingCalls.{known-moved}
use Rattle.array_reshaping_steps.proofs.copying.copy_next.Goals as goal

pub overflow_cast-count : goal.overflow_cast-count
overflow_cast-count g c =
    let few = few-roles c.args.members.now.newest c.requires.stands.placed.fit.valid in
    let roles = c.requires.stands.placed.roles in
    let long = c.len-count.ensures in
    omega (arith, few, roles, long)

pub unassigned_roles-before-requires-clause-few : goal.unassigned_roles-before-requires-clause-few
unassigned_roles-before-requires-clause-few g c =
    let few = few-roles c.args.members.now.newest c.requires.stands.placed.fit.valid in
    let roles = c.requires.stands.placed.roles in
    let long = c.len-count.ensures in
    omega (arith, few, roles, long)

pub newly_unassigned-requires-clause-few : goal.newly_unassigned-requires-clause-few
newly_unassigned-requires-clause-few g c =
    let few = few-roles c.args.members.now.newest c.requires.stands.placed.fit.valid in
    let roles = c.requires.stands.placed.roles in
    let long = c.len-count.ensures in
    omega (arith, few, roles, long)

pub overflow_sub-width : goal.overflow_sub-width
overflow_sub-width g c = span-order c.args.members.now.newest c.requires.stands.placed.fit c.args.span.now c.requires.next

pub returns-clause-since : goal.returns-clause-since
returns-clause-since g c =
    lost-since (g.B.Bank.given c.args.bank.now) c.args.members.now c.copy-done.new.members c.len-count.result c.unassigned_roles-before.result c.newly_unassigned.result c.copy-done.result.spares
    (g.B.Bank.faults_of c.args.bank.now) (g.B.Bank.faults_of c.copy-done.new.bank) c.requires.stands.placed c.copy-done.ensures.keeps.moved c.copy-done.ensures.keeps.failed
    (c.len-count.ensures ∙ c.requires.stands.placed.roles) c.unassigned_roles-before.ensures c.newly_unassigned.ensures

pub returns-clause-stands : goal.returns-clause-stands
returns-clause-stands g c =
    λ none t list copied row at.
    let m = c.args.members.now in
    let new = c.copy-done.new.members in
    let tape = g.B.Bank.tape c.copy-done.new.bank in
    let given = g.B.Bank.given c.args.bank.now in
    subst (λ (s : Shape). RowStands (reading_of new) (present given tape) s list row) {y = final_shape c.args.members.now.newest} c.final_in-shape.ensures
    (c.copy-done.ensures.stands none t list copied row
    (subst (λ (s : Shape). IsOfStripe s c.stripe_to_copy-stripe.result row) (sym {b = final_shape c.args.members.now.newest} c.final_in-shape.ensures)
    (subst (λ (n : ℕ). IsOfStripe (final_shape m.newest) n row) (sym {b = next_stripe c.args.members.now c.args.span.now c.args.copied} c.stripe_to_copy-stripe.ensures.value) at)))

pub returns-clause-others : goal.returns-clause-others
returns-clause-others g c =
    λ t.
    let m = c.args.members.now in
    let new = c.copy-done.new.members in
    let given = g.B.Bank.given c.args.bank.now in
    let before = present given (g.B.Bank.tape c.args.bank.now) in
    let after = present given (g.B.Bank.tape c.copy-done.new.bank) in
    subst (λ (n : ℕ). AreOtherRowsKept (IsOfStripe (final_shape m.newest) n) (reading_of new) before after) {y = next_stripe c.args.members.now c.args.span.now c.args.copied} c.stripe_to_copy-stripe.ensures.value
    (subst (λ (s : Shape). AreOtherRowsKept (IsOfStripe s c.stripe_to_copy-stripe.result) (reading_of new) before after) {y = final_shape c.args.members.now.newest} c.final_in-shape.ensures (c.copy-done.ensures.others t))

-- ---- by what stands above

pub newly_unassigned-requires-clause-known : goal.newly_unassigned-requires-clause-known
newly_unassigned-requires-clause-known g c = known-moved c.len-count.result c.copy-done.ensures.keeps.moved c.len-count.ensures c.requires.stands.placed.roles

pub returns-clause-bank : goal.returns-clause-bank
returns-clause-bank g c = c.copy-done.ensures.keeps.bank

pub copy-done-requires-clause-stands : goal.copy-done-requires-clause-stands
copy-done-requires-clause-stands g c = c.requires.stands

pub returns-clause-moved : goal.returns-clause-moved
returns-clause-moved g c = c.copy-done.ensures.keeps.moved

pub returns-clause-rise : goal.returns-clause-rise
returns-clause-rise g c = c.copy-done.ensures.keeps.rise

pub returns-clause-unused : goal.returns-clause-unused
returns-clause-unused g c = c.copy-done.ensures.keeps.unused
