use Rattle.array_create_assemble.proofs.SafeLaws.{openings-safe}
use Rattle.array_create_assemble.proofs.laws.openings_are_safe.Goals as goal

pub returns : goal.returns
returns c = openings-safe
