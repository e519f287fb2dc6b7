use Rattle.std.proofs.Common.{◌++◌, codes, decimal}
use Rattle.script_status.proofs.words.push_progress.Goals as goal
use Rattle.script.proofs.AppendLaws.{then, failed, longer}

pub returns-in_err-push_counted-clause-appended : goal.returns-in_err-push_counted-clause-appended
returns-in_err-push_counted-clause-appended c = failed c.from_residual.ensures.0 (longer (codes "/" ++ decimal c.args.status.now.length) c.in_err-push_counted.ensures.appended)

pub returns-clause-appended : goal.returns-clause-appended
returns-clause-appended c = then c.in_ok-push_counted.ensures.appended c.push_counted-2.ensures.appended
