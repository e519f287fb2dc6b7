use Rattle.std.proofs.Common.{◌≡◌, take}
use Rattle.array_state.proofs.asking.copy_roles.Given as goal

-- those before this one were copied
abbrev pub invariant-loop-role : goal.invariant-loop-role
invariant-loop-role l = l.copy ≡ take l.role l.roles
