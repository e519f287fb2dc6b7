use Rattle.std.proofs.Common.{◌≡◌, ◌+◌, ◌++◌, ℕ, List, length, length-append, sym, ap, subst, ◌∙◌, refl, arith}
use Rattle.array_members.specs.history_the_Event.{Event}
use Rattle.array_members.specs.history_Plain.{entries_of}
use Rattle.history_append.specs.Losing.{role_losses, role_loss}
use Rattle.history_append.proofs.LosingLaws.{entered-more, entered-none, roles-first, roles-next}
use Rattle.history_append.proofs.losses.enter_roles.Goals as goal

pub loop-role-init : goal.loop-role-init
loop-role-init c = record {
  items = entered-none c.args.who c.args.end c.args.epoch.now.entries.items (role_losses c.args.roles 0) (roles-first c.args.roles);
  room = omega arith;
  number = c.requires.number;
  same = record { uuid = refl; given = refl; first = refl };
}

pub enter_role-requires-clause-room : goal.enter_role-requires-clause-room
enter_role-requires-clause-room c = omega (arith, c.loop-role.invariant.room, c.requires.room, c.loop-role-test.true)

pub loop-role-preserved : goal.loop-role-preserved
loop-role-preserved c =
    let was = c.loop-role.invariant in
    let step = c.enter_role.ensures in
    record {
      items = entered-more c.args.who c.args.end c.args.epoch.now.entries.items c.loop-role.epoch.entries.items c.enter_role.new.epoch.entries.items
          (role_losses c.args.roles c.loop-role.role) (role_loss c.args.roles c.loop-role.role) was.items step.items
          ∙ ap (λ (l : List Event). c.args.epoch.now.entries.items ++ entries_of c.args.who c.args.end l) (sym (roles-next c.args.roles c.loop-role.role));
      room = omega (arith, was.room, step.room);
      number = (let long : length c.enter_role.new.epoch.entries.items ≡ length c.loop-role.epoch.entries.items + length (entries_of c.args.who c.args.end (role_loss c.args.roles c.loop-role.role)) = ap length step.items ∙ length-append c.loop-role.epoch.entries.items (entries_of c.args.who c.args.end (role_loss c.args.roles c.loop-role.role)) in omega (arith, long, was.number));
      same = record { uuid = step.same.uuid ∙ was.same.uuid; given = step.same.given ∙ was.same.given; first = step.same.first ∙ was.same.first };
    }

pub returns-clause-items : goal.returns-clause-items
returns-clause-items c =
    let all : c.loop-role.role ≡ 16 = omega (arith, c.loop-role-test.false, c.loop-role.auto.role-end) in
    subst (λ (n : ℕ). c.loop-role.epoch.entries.items ≡ c.args.epoch.now.entries.items ++ entries_of c.args.who c.args.end (role_losses c.args.roles n)) all c.loop-role.invariant.items
