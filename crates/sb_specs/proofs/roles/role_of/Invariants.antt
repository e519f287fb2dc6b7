use Rattle.std.proofs.Common.{◌≡◌, drop}
use Rattle.sb_specs.specs.Update.{role_from}
use Rattle.sb_specs.proofs.roles.role_of.Given as goal

abbrev pub invariant-loop-role : goal.invariant-loop-role
invariant-loop-role l = role_from l.slot 0 l.roles ≡ role_from l.slot l.role (drop l.role l.roles)
