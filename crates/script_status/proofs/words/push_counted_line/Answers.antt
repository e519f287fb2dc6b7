use Rattle.std.proofs.Common.{codes}
use Rattle.script_status.proofs.words.push_counted_line.Goals as goal
use Rattle.script.proofs.AppendLaws.{then, failed, longer}

pub returns-in_err-push_counted-clause-appended : goal.returns-in_err-push_counted-clause-appended
returns-in_err-push_counted-clause-appended c = failed c.from_residual.ensures.0 (longer (codes "\n") c.in_err-push_counted.ensures.appended)

pub returns-clause-appended : goal.returns-clause-appended
returns-clause-appended c = then c.in_ok-push_counted.ensures.appended c.push_words.ensures.appended
