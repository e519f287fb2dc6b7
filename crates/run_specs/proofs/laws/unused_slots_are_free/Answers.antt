use Rattle.run_specs.proofs.RuledLaws.{unused-slots}
use Rattle.run_specs.proofs.laws.unused_slots_are_free.Goals as goal

pub returns : goal.returns
returns c = unused-slots
