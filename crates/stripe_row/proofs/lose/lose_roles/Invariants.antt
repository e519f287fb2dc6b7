use Rattle.std.proofs.Common.{◌≡◌, ◌++◌, take, drop, map}
use Rattle.stripe_row.specs.Rows.{role_without}
use Rattle.stripe_row.proofs.lose.lose_roles.Given as goal

abbrev pub invariant-loop-role : goal.invariant-loop-role
invariant-loop-role l = l.roles ≡ map (role_without l.lost) (take l.role l.initial.roles) ++ drop l.role l.initial.roles
