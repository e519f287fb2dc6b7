use Rattle.std.proofs.Common.{◌≡◌, ◌+◌, ◌++◌, ℕ, List, length, length-append, sym, ap, subst, ◌∙◌, refl, arith}
use Rattle.array_members.specs.history_the_Event.{Event}
use Rattle.array_members.specs.history_Plain.{entries_of}
use Rattle.history_append.specs.Losing.{spare_losses, spare_loss}
use Rattle.history_append.proofs.LosingLaws.{entered-more, entered-none, spares-first, spares-next}
use Rattle.history_append.proofs.losses.enter_spares.Goals as goal

pub loop-slot-init : goal.loop-slot-init
loop-slot-init c = record {
  items = entered-none c.args.who c.args.end c.args.epoch.now.entries.items (spare_losses c.args.spares 0) (spares-first c.args.spares);
  room = omega arith;
  number = c.requires.number;
  same = record { uuid = refl; given = refl; first = refl };
}

pub enter_spare-requires-clause-room : goal.enter_spare-requires-clause-room
enter_spare-requires-clause-room c = omega (arith, c.loop-slot.invariant.room, c.requires.room, c.loop-slot-test.true)

pub loop-slot-preserved : goal.loop-slot-preserved
loop-slot-preserved c =
    let was = c.loop-slot.invariant in
    let step = c.enter_spare.ensures in
    record {
      items = entered-more c.args.who c.args.end c.args.epoch.now.entries.items c.loop-slot.epoch.entries.items c.enter_spare.new.epoch.entries.items
          (spare_losses c.args.spares c.loop-slot.slot) (spare_loss c.args.spares c.loop-slot.slot) was.items step.items
          ∙ ap (λ (l : List Event). c.args.epoch.now.entries.items ++ entries_of c.args.who c.args.end l) (sym (spares-next c.args.spares c.loop-slot.slot));
      room = omega (arith, was.room, step.room);
      number = (let long : length c.enter_spare.new.epoch.entries.items ≡ length c.loop-slot.epoch.entries.items + length (entries_of c.args.who c.args.end (spare_loss c.args.spares c.loop-slot.slot)) = ap length step.items ∙ length-append c.loop-slot.epoch.entries.items (entries_of c.args.who c.args.end (spare_loss c.args.spares c.loop-slot.slot)) in omega (arith, long, was.number));
      same = record { uuid = step.same.uuid ∙ was.same.uuid; given = step.same.given ∙ was.same.given; first = step.same.first ∙ was.same.first };
    }

pub returns-clause-items : goal.returns-clause-items
returns-clause-items c =
    let all : c.loop-slot.slot ≡ 32 = omega (arith, c.loop-slot-test.false, c.loop-slot.auto.slot-end) in
    subst (λ (n : ℕ). c.loop-slot.epoch.entries.items ≡ c.args.epoch.now.entries.items ++ entries_of c.args.who c.args.end (spare_losses c.args.spares n)) all c.loop-slot.invariant.items
