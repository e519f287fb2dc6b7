use Rattle.std.proofs.Common.{◌≡◌, ◌++◌, take, drop, map}
use Rattle.sb_specs.specs.Update.{faulty_role}
use Rattle.sb_specs.proofs.roles.clear_roles.Given as goal

abbrev pub invariant-loop-dev : goal.invariant-loop-dev
invariant-loop-dev l = l.entries ≡ map faulty_role (take l.dev l.initial.entries) ++ drop l.dev l.initial.entries
