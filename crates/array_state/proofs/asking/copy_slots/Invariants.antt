use Rattle.std.proofs.Common.{◌≡◌, take}
use Rattle.array_state.proofs.asking.copy_slots.Given as goal

-- those before this one were copied
abbrev pub invariant-loop-place : goal.invariant-loop-place
invariant-loop-place l = l.copy ≡ take l.place l.slots
