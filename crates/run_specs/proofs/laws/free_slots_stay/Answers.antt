use Rattle.run_specs.proofs.RuledLaws.{free-slots}
use Rattle.run_specs.proofs.laws.free_slots_stay.Goals as goal

pub returns : goal.returns
returns c = free-slots
