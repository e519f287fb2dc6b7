use Rattle.stripe_write_back.proofs.WrittenOutLaws.{taken-out}
use Rattle.stripe_write_back.proofs.laws.rows_can_be_taken.Goals as goal

pub returns : goal.returns
returns c = taken-out
