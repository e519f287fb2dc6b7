use Rattle.std.proofs.Common.{◌≡◌, ◌<◌, ℕ, false}
use Rattle.sb_election.specs.sb_specs_Reads.{has_spare}
use Rattle.array_type.proofs.choosing.first_spare.Given as goal

-- no lower one passes
abbrev pub invariant-loop-slot : goal.invariant-loop-slot
invariant-loop-slot l = (slot : ℕ) → slot < l.slot → has_spare l.members.spares slot ≡ false
