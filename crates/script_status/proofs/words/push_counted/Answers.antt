use Rattle.std.proofs.Common.{decimal}
use Rattle.script_status.proofs.words.push_counted.Goals as goal
use Rattle.script.proofs.AppendLaws.{then, failed, longer}

pub returns-in_err-push_words-clause-appended : goal.returns-in_err-push_words-clause-appended
returns-in_err-push_words-clause-appended c = failed c.from_residual.ensures.0 (longer (decimal c.args.number) c.in_err-push_words.ensures.appended)

pub returns-clause-appended : goal.returns-clause-appended
returns-clause-appended c = then c.in_ok-push_words.ensures.appended c.push_number.ensures.appended
