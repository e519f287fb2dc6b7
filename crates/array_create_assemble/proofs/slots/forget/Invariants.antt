use Rattle.std.proofs.Common.{◌≡◌, ◌<◌, ◌≤◌, ℕ, None, cond, length, get_or}
use Rattle.array_found_laws.specs.raid_types_Shapes.{has_slot}
use Rattle.array_create_assemble.proofs.slots.forget.Given as goal

-- those below this slot are done
abbrev pub invariant-loop-slot : goal.invariant-loop-slot
invariant-loop-slot l = record {
  long : length l.seen ≡ 32;
  done : (s : ℕ) → s < l.slot → get_or l.seen s None ≡ cond (has_slot l.lost s) None (get_or l.fn.seen s None);
  rest : (s : ℕ) → l.slot ≤ s → get_or l.seen s None ≡ get_or l.fn.seen s None;
}
