use Rattle.std.proofs.Common.{◌≡◌, ℕ, ◌&&◌, nat_lt, subst, arith}
use Rattle.sb_specs.specs.raid_types_Shapes.{has_slot}
use Rattle.sb_specs.specs.Outcome.{is_in_update}
use Rattle.sb_specs.proofs.SlotSets.{is-set_of}
use Rattle.sb_update.proofs.recording.live.live_slots.Goals as goal

pub returns : goal.returns
returns c =
    let all : c.loop-slot.slot ≡ 32 = omega arith in
    let test = is_in_update c.args.members.now c.args.change.now in
    is-set_of c.loop-slot.live test (subst (λ (n : ℕ). (s : ℕ) → has_slot c.loop-slot.live s ≡ (nat_lt s n && test s)) all c.loop-slot.invariant)
