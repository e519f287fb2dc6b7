use Rattle.std.proofs.Common.{◌++◌, List, sym, ap, ◌∙◌, refl, arith}
use Rattle.sb_add_spare.specs.stripe_row_Rows.{reading_of}
use Rattle.sb_add_spare.specs.history_the_Event.{Event}
use Rattle.sb_add_spare.specs.history_Plain.{entries_of}
use Rattle.array_call_laws.specs.array_call_specs_Adopting.{opener, absent_losses, absent_loss}
use Rattle.array_call_laws.proofs.history_append_LosingLaws.{entered-more, entered-none}
use Rattle.array_call_laws.proofs.AbsentLaws.{absents-first, absents-next}
use Rattle.array_state.proofs.absent.append_absent.Goals as goal

pub loop-role-init : goal.loop-role-init
loop-role-init c = record {
  items = entered-none opener c.args.end c.args.epoch.now.entries.items (absent_losses (reading_of c.args.members.now) 0) (absents-first (reading_of c.args.members.now));
  room = omega arith;
  same = record { uuid = refl; given = refl; first = refl };
  last = λ is. is;
}

pub enter_absent-requires-clause-room : goal.enter_absent-requires-clause-room
enter_absent-requires-clause-room c = omega (arith, c.loop-role.invariant.room, c.requires.room, c.requires.disks, c.loop-role-test.true)

pub loop-role-preserved : goal.loop-role-preserved
loop-role-preserved c =
    let was = c.loop-role.invariant in
    let step = c.enter_absent.ensures in
    let r = reading_of c.args.members.now in
    record {
      items = entered-more opener c.args.end c.args.epoch.now.entries.items c.loop-role.epoch.entries.items c.enter_absent.new.epoch.entries.items
          (absent_losses r c.loop-role.role) (absent_loss r c.loop-role.role) was.items step.items
          ∙ ap (λ (l : List Event). c.args.epoch.now.entries.items ++ entries_of opener c.args.end l) (sym (absents-next r c.loop-role.role));
      room = omega (arith, was.room, step.room);
      same = record { uuid = step.same.uuid ∙ was.same.uuid; given = step.same.given ∙ was.same.given; first = step.same.first ∙ was.same.first };
      last = λ is. step.last (was.last is);
    }
