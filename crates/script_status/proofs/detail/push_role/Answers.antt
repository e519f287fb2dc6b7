use Rattle.std.proofs.Common.{append-nil, ◌++◌, codes, decimal, sym, lit≤}
use Rattle.script_status.specs.Texts.{holder}
use Rattle.script_status.proofs.detail.push_role.Goals as goal
use Rattle.script.proofs.AppendLaws.{then, retold, failed, failed_few, longer, then_few, at_most}

pub returns-in_err-push_counted-clause-appended : goal.returns-in_err-push_counted-clause-appended
returns-in_err-push_counted-clause-appended c = failed c.from_residual.ensures.0 (retold (sym (append-nil (codes "role " ++ decimal c.args.role ++ holder c.args.state ++ codes "\n"))) (longer (codes "\n") (longer (holder c.args.state) c.in_err-push_counted.ensures.appended)))

pub returns-in_err-push_counted-clause-short : goal.returns-in_err-push_counted-clause-short
returns-in_err-push_counted-clause-short c = failed_few c.from_residual.ensures.0 (at_most 70 (lit≤ tt) c.in_err-push_counted.ensures.short)

pub returns-in_err-push_holder-clause-appended : goal.returns-in_err-push_holder-clause-appended
returns-in_err-push_holder-clause-appended c = failed c.from_residual-in_err-push_holder.ensures.0 (retold (sym (append-nil (codes "role " ++ decimal c.args.role ++ holder c.args.state ++ codes "\n"))) (longer (codes "\n") (then c.in_ok-push_counted.ensures.appended c.in_err-push_holder.ensures.appended)))

pub returns-in_err-push_holder-clause-short : goal.returns-in_err-push_holder-clause-short
returns-in_err-push_holder-clause-short c = failed_few c.from_residual-in_err-push_holder.ensures.0 (at_most 70 (lit≤ tt) (then_few c.in_ok-push_counted.ensures.short c.in_ok-push_counted.ensures.appended.room c.in_err-push_holder.ensures.short))

pub returns-clause-appended : goal.returns-clause-appended
returns-clause-appended c = retold (sym (append-nil (codes "role " ++ decimal c.args.role ++ holder c.args.state ++ codes "\n"))) (then (then c.in_ok-push_counted.ensures.appended c.in_ok-push_holder.ensures.appended) c.push_words.ensures.appended)

pub returns-clause-short : goal.returns-clause-short
returns-clause-short c = at_most 70 (lit≤ tt) (then_few c.in_ok-push_counted.ensures.short c.in_ok-push_counted.ensures.appended.room (then_few c.in_ok-push_holder.ensures.short c.in_ok-push_holder.ensures.appended.room c.push_words.ensures.short))
