use Rattle.std.proofs.Common.{◌++◌, codes, decimal, ap}
use Rattle.script_status.proofs.detail.push_held.Goals as goal
use Rattle.script.proofs.AppendLaws.{then, retold, failed, longer}

pub returns-in_err-push_counted-clause-appended : goal.returns-in_err-push_counted-clause-appended
returns-in_err-push_counted-clause-appended c = failed c.from_residual.ensures.0 (longer (c.args.how.now) (retold (ap (λ i. codes " slot " ++ decimal i) c.from.ensures) c.in_err-push_counted.ensures.appended))

pub returns-clause-appended : goal.returns-clause-appended
returns-clause-appended c = then (retold (ap (λ i. codes " slot " ++ decimal i) c.from.ensures) c.in_ok-push_counted.ensures.appended) c.push_words.ensures.appended
