use Rattle.std.proofs.Common.{count_by, ◌++◌, codes, decimal, ap}
use Rattle.script_status.specs.Texts.{is_whole, marks}
use Rattle.script_status.proofs.mdstat.push_roles.Goals as goal
use Rattle.script.proofs.AppendLaws.{then, retold, failed, longer}

pub returns-in_err-push_counted-clause-appended : goal.returns-in_err-push_counted-clause-appended
returns-in_err-push_counted-clause-appended c = failed c.from_residual.ensures.0 (longer (codes "]") (longer (marks c.args.roles.now) (longer (codes "] [") (longer (codes "/" ++ decimal (count_by is_whole c.args.roles.now)) c.in_err-push_counted.ensures.appended))))

pub returns-in_err-push_counted-2-clause-appended : goal.returns-in_err-push_counted-2-clause-appended
returns-in_err-push_counted-2-clause-appended c = failed c.from_residual-in_err-push_counted-2.ensures.0 (longer (codes "]") (longer (marks c.args.roles.now) (longer (codes "] [") (then c.in_ok-push_counted.ensures.appended (retold (ap (λ i. codes "/" ++ decimal i) c.count_whole.ensures) c.in_err-push_counted-2.ensures.appended)))))

pub returns-in_err-push_words-clause-appended : goal.returns-in_err-push_words-clause-appended
returns-in_err-push_words-clause-appended c = failed c.from_residual-in_err-push_words.ensures.0 (longer (codes "]") (longer (marks c.args.roles.now) (then (then c.in_ok-push_counted.ensures.appended (retold (ap (λ i. codes "/" ++ decimal i) c.count_whole.ensures) c.in_ok-push_counted-2.ensures.appended)) c.in_err-push_words.ensures.appended)))

pub returns-in_err-push_marks-clause-appended : goal.returns-in_err-push_marks-clause-appended
returns-in_err-push_marks-clause-appended c = failed c.from_residual-in_err-push_marks.ensures.0 (longer (codes "]") (then (then (then c.in_ok-push_counted.ensures.appended (retold (ap (λ i. codes "/" ++ decimal i) c.count_whole.ensures) c.in_ok-push_counted-2.ensures.appended)) c.in_ok-push_words.ensures.appended) c.in_err-push_marks.ensures.appended))

pub returns-clause-appended : goal.returns-clause-appended
returns-clause-appended c = then (then (then (then c.in_ok-push_counted.ensures.appended (retold (ap (λ i. codes "/" ++ decimal i) c.count_whole.ensures) c.in_ok-push_counted-2.ensures.appended)) c.in_ok-push_words.ensures.appended) c.in_ok-push_marks.ensures.appended) c.push_words-2.ensures.appended
