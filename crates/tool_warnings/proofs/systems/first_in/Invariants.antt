-- The ones that are left decide.
use Rattle.std.proofs.Common.{◌≡◌, drop}
use Rattle.tool_warnings.specs.Systems.{system_in}
use Rattle.tool_warnings.proofs.systems.first_in.Given as goal

abbrev pub invariant-loop-system : goal.invariant-loop-system
invariant-loop-system l = system_in l.systems l.front ≡ system_in (drop l.system-index l.systems) l.front
