use Rattle.run_specs.proofs.PlainReplies.{rest-tells}
use Rattle.run_specs.proofs.laws.rest_records_plainly.Goals as goal

pub returns : goal.returns
returns c = rest-tells
