use Rattle.std.proofs.Common.{◌≡◌, ◌<◌, ◌≤◌, ℕ, length, get_or, None}
use Rattle.sb_specs.specs.Reading.{of_array}
use Rattle.sb_election.proofs.found.keep_array.Given as goal

-- those before this slot are the array's, and the others as they were
abbrev pub invariant-loop-slot : goal.invariant-loop-slot
invariant-loop-slot l = record {
  long : length l.found ≡ l.count;
  done : (s : ℕ) → s < l.slot → get_or l.found s None ≡ of_array l.uuid (get_or l.fn.found s None);
  rest : (s : ℕ) → l.slot ≤ s → get_or l.found s None ≡ get_or l.fn.found s None;
}
