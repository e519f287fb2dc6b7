use Rattle.run_specs.proofs.LaneCalls.{unasked-lanes}
use Rattle.run_specs.proofs.laws.unasked_lanes_are_silent.Goals as goal

pub returns : goal.returns
returns c = unasked-lanes
