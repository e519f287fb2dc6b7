use Rattle.array_members.proofs.Still.{flushed-is-settled}
use Rattle.array_members.proofs.laws.flushed_rows_are_settled.Goals as goal

pub returns : goal.returns
returns c = flushed-is-settled
