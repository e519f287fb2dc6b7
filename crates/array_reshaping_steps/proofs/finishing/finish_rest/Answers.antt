use Rattle.std.proofs.Common.{◌≤◌, sym, ◌∙◌, ap, subst, arith}
use Rattle.array_type.specs.raid_types_the_Shape.{Shape}
use Rattle.array_type.specs.reshape_geometry_Geometry.{stripes}
use Rattle.array_type.specs.sb_specs_Reading.{final_shape}
use Rattle.array_type.proofs.sb_specs_ValidFields.{few-roles}
use Rattle.array_type.specs.stripe_row_Rows.{reading_of, present}
use Rattle.array_type.proofs.crash_views_Stands.{span-order}
use Rattle.array_type.specs.array_members_Lacking.{AreOtherRowsKept}
use Rattle.array_type.specs.reshape_window_io_Finishing.{IsOfRest, AreStripesCopied}
use Rattle.array_type.proofs.array_reshaping_laws_WriteLaws.{finished-since}
use Rattle.array_type.proofs.ReshapingCalls.{known-finished}
use Rattle.array_reshaping_steps.proofs.finishing.finish_rest.Goals as goal

pub overflow_cast-count : goal.overflow_cast-count
overflow_cast-count g c =
    let few = few-roles c.args.members.now.newest c.requires.stands.placed.fit.valid in
    let roles = c.requires.stands.placed.roles in
    let long = c.len-count.ensures in
    omega (arith, few, roles, long)

pub unassigned_roles-before-requires-clause-few : goal.unassigned_roles-before-requires-clause-few
unassigned_roles-before-requires-clause-few g c =
    let few = few-roles c.args.members.now.newest c.requires.stands.placed.fit.valid in
    let roles = c.requires.stands.placed.roles in
    let long = c.len-count.ensures in
    omega (arith, few, roles, long)

pub newly_unassigned-requires-clause-few : goal.newly_unassigned-requires-clause-few
newly_unassigned-requires-clause-few g c =
    let few = few-roles c.args.members.now.newest c.requires.stands.placed.fit.valid in
    let roles = c.requires.stands.placed.roles in
    let long = c.len-count.ensures in
    omega (arith, few, roles, long)

pub overflow_sub-width : goal.overflow_sub-width
overflow_sub-width g c = span-order c.args.members.now.newest c.requires.stands.placed.fit c.args.span.now c.requires.next

pub finish_window-done-requires-clause-from : goal.finish_window-done-requires-clause-from
finish_window-done-requires-clause-from g c =
    subst (λ (s : Shape). c.args.from ≤ stripes s c.args.span.now.lo c.args.span.now.hi) (sym {b = final_shape c.args.members.now.newest} c.final_in-shape.ensures) c.requires.from

pub returns-clause-since : goal.returns-clause-since
returns-clause-since g c =
    finished-since (g.B.Bank.given c.args.bank.now) c.args.members.now c.finish_window-done.new.members c.args.span.now c.finish_window-done.result.refusal c.finish_window-done.ensures.moved
    c.len-count.result c.unassigned_roles-before.result c.newly_unassigned.result c.finish_window-done.result.spares (g.B.Bank.faults_of c.args.bank.now) (g.B.Bank.faults_of c.finish_window-done.new.bank)
    c.requires.stands.placed c.requires.next c.finish_window-done.ensures.failed (c.len-count.ensures ∙ c.requires.stands.placed.roles) c.unassigned_roles-before.ensures c.newly_unassigned.ensures

pub returns-clause-all : goal.returns-clause-all
returns-clause-all g c =
    λ none. c.finish_window-done.ensures.all none ∙ ap (λ (s : Shape). stripes s c.args.span.now.lo c.args.span.now.hi) c.final_in-shape.ensures

pub returns-clause-stands : goal.returns-clause-stands
returns-clause-stands g c =
    λ t list copied written.
    let m = c.args.members.now in
    let span = c.args.span.now in
    let new = c.finish_window-done.new.members in
    let given = g.B.Bank.given c.args.bank.now in
    let before = present given (g.B.Bank.tape c.args.bank.now) in
    let after = present given (g.B.Bank.tape c.finish_window-done.new.bank) in
    subst (λ (s : Shape). AreStripesCopied s span c.finish_window-done.result.copied new after list) {y = final_shape c.args.members.now.newest} c.final_in-shape.ensures
    (c.finish_window-done.ensures.stands t list copied
    (subst (λ (s : Shape). AreStripesCopied s span c.args.from m before list) (sym {b = final_shape c.args.members.now.newest} c.final_in-shape.ensures) written))

pub returns-clause-others : goal.returns-clause-others
returns-clause-others g c =
    λ t.
    let new = c.finish_window-done.new.members in
    let given = g.B.Bank.given c.args.bank.now in
    let before = present given (g.B.Bank.tape c.args.bank.now) in
    let after = present given (g.B.Bank.tape c.finish_window-done.new.bank) in
    subst (λ (s : Shape). AreOtherRowsKept (IsOfRest s c.args.span.now c.args.from) (reading_of new) before after) {y = final_shape c.args.members.now.newest} c.final_in-shape.ensures (c.finish_window-done.ensures.others t)

-- ---- by what stands above

pub newly_unassigned-requires-clause-known : goal.newly_unassigned-requires-clause-known
newly_unassigned-requires-clause-known g c =
    known-finished _ c.args.span.now _ _ c.len-count.result c.finish_window-done.result.refusal c.finish_window-done.ensures.moved c.len-count.ensures c.requires.stands.placed.roles

pub returns-clause-bank : goal.returns-clause-bank
returns-clause-bank g c = c.finish_window-done.ensures.bank

pub finish_window-done-requires-clause-stands : goal.finish_window-done-requires-clause-stands
finish_window-done-requires-clause-stands g c = c.requires.stands
