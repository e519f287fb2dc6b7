use Rattle.stripe_write_back.proofs.WrittenOutLaws.{then-out}
use Rattle.stripe_write_back.proofs.laws.written_out_row_by_row.Goals as goal

pub returns : goal.returns
returns c = then-out
