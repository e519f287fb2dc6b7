use Rattle.run_specs.proofs.LaneCalls.{lanes-in-blocks}
use Rattle.run_specs.proofs.laws.lanes_call_in_blocks.Goals as goal

pub returns : goal.returns
returns c = lanes-in-blocks
