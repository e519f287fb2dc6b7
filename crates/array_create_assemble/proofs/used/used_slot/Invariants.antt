use Rattle.std.proofs.Common.{◌≡◌, ◌≤◌, ◌<◌, ℕ, None, false}
use Rattle.std.specs.Prelude.{is_some, slice_index_or}
use Rattle.array_found_laws.specs.sb_specs_Reading.{of_array}
use Rattle.array_create_assemble.proofs.used.used_slot.Given as goal

-- none of the slots before this one is used
abbrev pub invariant-loop-slot : goal.invariant-loop-slot
invariant-loop-slot l = (s : ℕ) → l.first ≤ s → s < l.slot → is_some (of_array l.uuid (slice_index_or l.seen s None)) ≡ false
