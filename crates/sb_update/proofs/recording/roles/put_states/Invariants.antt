use Rattle.std.proofs.Common.{◌≡◌, take}
use Rattle.sb_update.proofs.recording.roles.put_states.Given as goal

-- the states before this role are there
abbrev pub invariant-loop-role : goal.invariant-loop-role
invariant-loop-role l = l.roles ≡ take l.role l.states
