use Rattle.std.proofs.Common.{◌∙◌, ap, refl, arith}
use Rattle.sb_specs.specs.declared.members.Members.{Members}
use Rattle.sb_update.proofs.Passes.{slot_below, passed-first, passed-more, turned_here, due_here, passed-marks, passed-all, due_live}
use Rattle.sb_update.proofs.pass.write_slots.Goals as goal

pub loop-slot-init : goal.loop-slot-init
loop-slot-init g c = record { given = refl; members = refl; passed = passed-first _ _ _ _ _ _ }

pub loop-slot-preserved : goal.loop-slot-preserved
loop-slot-preserved g c =
    let v = c.loop-slot.invariant in
    let newest = ap (λ (m : Members). m.newest) v.members in
    let own = ap (λ (m : Members). m.own) v.members in
    let here = v.passed.later c.loop-slot.slot (omega arith) in
    record {
      given = c.turn.ensures.given ∙ v.given;
      members = c.turn.ensures.members ∙ ap (λ (m : Members). record m { lost = c.turn.new.members.lost }) v.members;
      passed = passed-more v.passed (turned_here c.args.part _ _ c.args.gives.now _ _ c.args.live _ _ c.loop-slot.slot _ _ _ newest own here c.turn.ensures.tape) c.turn.ensures.others c.turn.ensures.more
          (λ is was_not. due_here c.args.part _ _ c.args.gives.now _ _ c.args.live _ _ c.loop-slot.slot newest own here (c.turn.ensures.due is was_not)) c.turn.ensures.cause c.turn.ensures.counts;
    }

pub returns-clause-each_mark : goal.returns-clause-each_mark
returns-clause-each_mark g c = passed-marks c.loop-slot.invariant.passed

pub returns-clause-written : goal.returns-clause-written
returns-clause-written g c =
    passed-all c.loop-slot.invariant.passed
    (λ s is. let below = slot_below c.args.live s (omega arith) (due_live _ _ _ is) in omega (arith, below))

pub returns-clause-grows : goal.returns-clause-grows
returns-clause-grows g c = λ told s is kept.
    c.loop-slot.invariant.passed.grew told s (let below = slot_below c.args.live s (omega arith) (due_live _ _ _ is) in omega (arith, below)) is kept
