use Rattle.crash_reshape_laws.proofs.EndLaws.{cleared-plain}
use Rattle.crash_reshape_laws.proofs.a_cleared_header_is_plain.Goals as goal

pub returns : goal.returns
returns c = cleared-plain
