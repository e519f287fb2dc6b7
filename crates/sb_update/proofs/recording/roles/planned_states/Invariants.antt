use Rattle.std.proofs.Common.{◌≡◌, length, take}
use Rattle.sb_specs.specs.raid_types_Search.{tabulate}
use Rattle.sb_specs.specs.Outcome.{planned_state}
use Rattle.sb_update.proofs.recording.roles.planned_states.Given as goal

-- the states before this role are set
abbrev pub invariant-loop-role : goal.invariant-loop-role
invariant-loop-role l = record {
  long : length l.states ≡ 16;
  set : take l.role l.states ≡ tabulate l.role (planned_state l.members.roles l.gives l.members.lost);
}
