use Rattle.std.proofs.Common.{List, ℕ, ◌++◌, [], ◌∷◌, length, length-append, sym, ◌∙◌, ap, arith}
use Rattle.sb_specs.specs.raid_types_Shapes.{has_slot}
use Rattle.sb_specs.proofs.SlotSets.{slots-first, slots-more, slots-none}
use Rattle.sb_update.proofs.recording.spares.put_slots.Goals.{then-contains, else-contains}
use Rattle.sb_update.proofs.recording.spares.put_slots.Goals as goal

pub loop-slot-init : goal.loop-slot-init
loop-slot-init c = record { put = c.clear.ensures ∙ sym (slots-first (has_slot c.args.set)); few = omega (arith, ap length c.clear.ensures) }

pub loop-slot-preserved : goal.loop-slot-preserved
loop-slot-preserved c =
    let v = c.loop-slot.invariant in
    let slot = c.loop-slot.slot in
    elim c.if-contains.branch [
      | then-contains w ↦ record {
        put = w.slots-is ∙ w.push.ensures ∙ ap (λ (l : List ℕ). l ++ slot ∷ []) v.put ∙ sym (slots-more (has_slot c.args.set) slot (sym c.contains.ensures ∙ w.if-contains.true));
        few = omega (arith, ap length w.slots-is, ap length w.push.ensures, length-append c.loop-slot.slots (slot ∷ []), v.few);
      }
      | else-contains w ↦ record {
        put = w.slots-is ∙ v.put ∙ sym (slots-none (has_slot c.args.set) slot (sym c.contains.ensures ∙ w.if-contains.false));
        few = omega (arith, ap length w.slots-is, v.few);
      }
    ]
