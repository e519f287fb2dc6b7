use Rattle.stripe_write_back.proofs.WrittenOutLaws.{one-out}
use Rattle.stripe_write_back.proofs.laws.one_row_is_written_out.Goals as goal

pub returns : goal.returns
returns c = one-out
