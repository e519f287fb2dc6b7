use Rattle.history_whole_laws.proofs.Verdicts.{verdict-unfailed}
use Rattle.history_whole_laws.proofs.laws.verdicts_tell_no_failure.Goals as goal

pub returns : goal.returns
returns c = verdict-unfailed
