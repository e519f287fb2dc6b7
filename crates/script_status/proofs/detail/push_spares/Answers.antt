use Rattle.std.proofs.Common.{◌+◌, ◌++◌, drop, le_trans, arith}
use Rattle.script_status.specs.Texts.{spare_lines}
use Rattle.script_status.proofs.LoopLines.{one_spare, all_spares}
use Rattle.script_status.proofs.detail.push_spares.Goals as goal
use Rattle.script.proofs.AppendLaws.{failed, goes_on, ends}

pub loop-slot-preserved : goal.loop-slot-preserved
loop-slot-preserved c =
    let now = c.loop-slot.invariant in
    let told = c.in_ok-push_spare.ensures in
    let whole = c.args.text.now.items ++ spare_lines c.args.slots.now in
    record {
      whole = goes_on (spare_lines (drop (c.loop-slot.slot-index + 1) c.args.slots.now)) whole told.appended
          (one_spare c.args.slots.now c.loop-slot.slot-index c.loop-slot.text.items whole c.loop-slot-test.true now.whole);
      few = omega (arith, now.few, told.short.few);
      room = le_trans now.room told.appended.room;
    }

pub returns-in_err-push_spare-clause-appended : goal.returns-in_err-push_spare-clause-appended
returns-in_err-push_spare-clause-appended c =
    let now = c.loop-slot.invariant in
    let whole = spare_lines c.args.slots.now in
    failed c.from_residual.ensures.0 (ends (spare_lines (drop (c.loop-slot.slot-index + 1) c.args.slots.now)) whole now.room
    (one_spare c.args.slots.now c.loop-slot.slot-index c.loop-slot.text.items (c.args.text.now.items ++ whole) c.loop-slot-test.true now.whole)
    c.in_err-push_spare.ensures.appended)

pub returns-clause-appended : goal.returns-clause-appended
returns-clause-appended c =
    let now = c.loop-slot.invariant in
    let whole = c.args.text.now.items ++ spare_lines c.args.slots.now in
    record { whole = all_spares c.args.slots.now c.loop-slot.slot-index c.loop-slot.text.items whole c.loop-slot-test.false now.whole; full = tt; room = now.room }
