use Rattle.std.proofs.Common.{◌≡◌, ℕ, nat_lt}
use Rattle.std.specs.Prelude.{not, ◌&&◌}
use Rattle.array_found_laws.specs.raid_types_Shapes.{has_slot}
use Rattle.array_create_assemble.proofs.slots.others.Given as goal

-- those below this slot
abbrev pub invariant-loop-slot : goal.invariant-loop-slot
invariant-loop-slot l = (s : ℕ) → has_slot l.others s ≡ (nat_lt s l.slot && not (has_slot l.set s))
