use Rattle.std.proofs.Common.{rules, refl, sym, ◌∙◌, ap, subst, ℕ, List, Option}
use Rattle.sb_specs.specs.sb_codec_the_Sb.{Sb}
use Rattle.sb_specs.specs.declared.members.Members.{Members}
use Rattle.sb_specs.specs.declared.change.Part.TheVariants.{All}
use Rattle.sb_update.proofs.Passes.{due-here}
use Rattle.sb_specs.proofs.Updates.{part-update, part-planned, stays_left}
use Rattle.sb_update.proofs.writing.write_again.Goals as goal
use Rattle.sb_specs.specs.Update.{with_roles}
use Rattle.sb_specs.specs.Writing.{plan_of}
use Rattle.sb_specs.specs.Updating.{IsUpdate}
use Rattle.sb_specs.proofs.Exact.{part-exact}

pub returns-clause-update : goal.returns-clause-update
returns-clause-update g c =
    let is = c.enter_roles.ensures in
    part-update _ _ _ All c.enter_roles.new.members.newest c.args.members.now.newest c.args.change.now.gives c.enter_roles.new.members.own c.args.members.now.own c.args.live
    c.enter_roles.new.members.lost c.args.members.now.lost c.write_slots.new.members.lost (search rules) (ap (λ (m : Members). m.own) is) (ap (λ (m : Members). m.lost) is) c.write_slots.ensures.each_mark c.write_slots.ensures.written

pub returns-clause-planned : goal.returns-clause-planned
returns-clause-planned g c = λ told s is left.
    let entered = c.enter_roles.ensures in
    let kept = c.write_slots.ensures.members in
    let stay = c.write_slots.ensures.lost.stay s in
    part-planned All _ _ c.args.change.now.gives _ _ c.args.live c.enter_roles.new.members.lost _ (sym (ap (λ (m : Members). m.newest) kept)) (ap (λ (m : Members). m.own) entered) (c.write_slots.ensures.written told)
    s is (stays_left _ _ s stay left) refl left

pub returns-clause-named : goal.returns-clause-named
returns-clause-named g c = (
  c.args.members.now.newest.dev_roles,
  ap (λ (m : Members). m.newest.dev_roles) c.write_slots.ensures.members ∙ ap (λ (m : Members). m.newest.dev_roles) c.enter_roles.ensures,
)

pub returns-clause-exact : goal.returns-clause-exact
returns-clause-exact g c =
    let is = c.enter_roles.ensures in
    let m1 = c.enter_roles.new.members in
    let m2 = c.write_slots.new.members in
    let gives = c.args.change.now.gives in
    let start = (g.B.Bank.given c.args.bank.now).start in
    let tape = g.B.Bank.tape c.args.bank.now in
    let tape' = g.B.Bank.tape c.write_slots.new.bank in
    subst (λ (n : Sb). IsUpdate g.B.Bank.tells c.args.live c.args.members.now.lost m2.lost (plan_of n gives c.args.members.now.own) start tape tape') (sym (ap (λ (m : Members). m.newest) c.write_slots.ensures.members))
    (subst (λ (o : List (Option Sb)). IsUpdate g.B.Bank.tells c.args.live c.args.members.now.lost m2.lost (plan_of m1.newest gives o) start tape tape') (ap (λ (m : Members). m.own) is)
    (subst (λ (l : ℕ). IsUpdate g.B.Bank.tells c.args.live l m2.lost (plan_of m1.newest gives m1.own) start tape tape') (ap (λ (m : Members). m.lost) is)
    (part-exact start tape tape' All m1.newest gives m1.own c.args.live m1.lost m2.lost c.write_slots.ensures.each_mark c.write_slots.ensures.written)))

pub returns-clause-next : goal.returns-clause-next
returns-clause-next g c =
    ap (λ (m : Members). m.newest) c.write_slots.ensures.members ∙ ap (λ (m : Members). m.newest) c.enter_roles.ensures
    ∙ ap (λ (n : ℕ). record c.args.members.now.newest {
      events = n;
      dev_roles = with_roles c.args.members.now c.args.change.now c.args.before c.args.members.now.lost c.args.members.now.newest.dev_roles;
    }) c.saturating_add-members.ensures

pub returns-clause-grows : goal.returns-clause-grows
returns-clause-grows g c = λ told some.
    let m = c.enter_roles.new.members in
    c.write_slots.ensures.grows told some.0 (due-here All m.newest c.args.change.now.gives m.own c.args.live m.lost some.0 some.1 (stays_left _ _ some.0 (c.write_slots.ensures.lost.stay some.0) some.2) refl) some.2
