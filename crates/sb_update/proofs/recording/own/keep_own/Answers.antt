use Rattle.std.proofs.Common.{sym, ◌∙◌, arith}
use Rattle.sb_specs.specs.raid_types_Shapes.{has_slot}
use Rattle.sb_update.proofs.Passes.{slot_below}
use Rattle.sb_specs.proofs.StoredSlots.{keeping-first, keeping-set, keeping-none, keeping-all}
use Rattle.sb_update.proofs.recording.own.keep_own.Goals.{then-contains, else-contains}
use Rattle.sb_update.proofs.recording.own.keep_own.Goals as goal

pub keep_slot-requires-clause-writable : goal.keep_slot-requires-clause-writable
keep_slot-requires-clause-writable c =
    let slot = c.loop-slot.slot in
    let w = c.requires slot (sym c.contains.ensures ∙ c.if-contains.true) in
    (w.0, c.loop-slot.invariant.after slot (omega arith) ∙ w.1, w.2)

pub loop-slot-init : goal.loop-slot-init
loop-slot-init c = keeping-first c.args.newest.now c.args.gives.now (has_slot c.args.left) c.args.own.now

pub loop-slot-preserved : goal.loop-slot-preserved
loop-slot-preserved c = elim c.if-contains.branch [
  | then-contains w ↦
      let new = w.keep_slot.new.own in
      keeping-set c.if-contains.own new c.loop-slot.invariant (sym c.contains.ensures ∙ w.if-contains.true) w.own-is w.keep_slot.ensures.here w.keep_slot.ensures.others
  | else-contains w ↦ keeping-none c.if-contains.own c.loop-slot.invariant (sym c.contains.ensures ∙ w.if-contains.false) w.own-is
]

pub returns : goal.returns
returns c = record { own = keeping-all c.loop-slot.invariant (λ s is. let below = slot_below c.args.left s (omega arith) is in omega (arith, below)) }
