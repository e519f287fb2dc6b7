use Rattle.std.proofs.Common.{◌≡◌, ◌<◌, ℕ, false}
use Rattle.array_found_laws.specs.raid_types_Shapes.{has_slot}
use Rattle.array_create_assemble.proofs.used.first_slot.Given as goal

abbrev pub invariant-loop-slot : goal.invariant-loop-slot
invariant-loop-slot l = (s : ℕ) → s < l.slot → has_slot l.set s ≡ false
