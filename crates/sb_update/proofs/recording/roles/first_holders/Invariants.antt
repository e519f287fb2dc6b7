use Rattle.std.proofs.Common.{◌≡◌, ◌<◌, ℕ, None}
use Rattle.std.specs.Prelude.{slice_index_or}
use Rattle.sb_specs.specs.raid_types_Search.{least_below}
use Rattle.sb_specs.specs.Outcome.{is_planned_holder}
use Rattle.sb_update.proofs.recording.roles.first_holders.Given as goal

-- the slots before this one are noted
abbrev pub invariant-loop-slot : goal.invariant-loop-slot
invariant-loop-slot l = (role : ℕ) → role < 16 → slice_index_or l.holders role None ≡ least_below l.slot (is_planned_holder l.members.roles l.gives l.members.lost role)
