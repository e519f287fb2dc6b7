use Rattle.std.proofs.Common.{◌++◌, codes, decimal, ap, lit≤}
use Rattle.script.specs.Texts.{layout_text}
use Rattle.script_status.specs.Texts.{target_text}
use Rattle.script_status.proofs.detail.push_target.Goals as goal
use Rattle.script.proofs.AppendLaws.{then, retold, failed, failed_few, longer, then_few, at_most}

pub returns-in_err-push_words-clause-appended : goal.returns-in_err-push_words-clause-appended
unfolding target_text
returns-in_err-push_words-clause-appended c = failed c.from_residual.ensures.0 (longer (codes " disks " ++ decimal c.args.target.now.disks) (longer (codes " chunk " ++ decimal c.args.target.now.chunk) (longer (layout_text c.args.target.now.layout) c.in_err-push_words.ensures.appended)))

pub returns-in_err-push_words-clause-short : goal.returns-in_err-push_words-clause-short
returns-in_err-push_words-clause-short c = failed_few c.from_residual.ensures.0 (at_most 100 (lit≤ tt) c.in_err-push_words.ensures.short)

pub returns-in_err-push_layout-clause-appended : goal.returns-in_err-push_layout-clause-appended
unfolding target_text
returns-in_err-push_layout-clause-appended c = failed c.from_residual-in_err-push_layout.ensures.0 (longer (codes " disks " ++ decimal c.args.target.now.disks) (longer (codes " chunk " ++ decimal c.args.target.now.chunk) (then c.in_ok-push_words.ensures.appended c.in_err-push_layout.ensures.appended)))

pub returns-in_err-push_layout-clause-short : goal.returns-in_err-push_layout-clause-short
returns-in_err-push_layout-clause-short c = failed_few c.from_residual-in_err-push_layout.ensures.0 (at_most 100 (lit≤ tt) (then_few c.in_ok-push_words.ensures.short c.in_ok-push_words.ensures.appended.room c.in_err-push_layout.ensures.short))

pub returns-in_err-push_counted-clause-appended : goal.returns-in_err-push_counted-clause-appended
unfolding target_text
returns-in_err-push_counted-clause-appended c = failed c.from_residual-in_err-push_counted.ensures.0 (longer (codes " disks " ++ decimal c.args.target.now.disks) (then (then c.in_ok-push_words.ensures.appended c.in_ok-push_layout.ensures.appended) (retold (ap (λ i. codes " chunk " ++ decimal i) c.from.ensures) c.in_err-push_counted.ensures.appended)))

pub returns-in_err-push_counted-clause-short : goal.returns-in_err-push_counted-clause-short
returns-in_err-push_counted-clause-short c = failed_few c.from_residual-in_err-push_counted.ensures.0 (at_most 100 (lit≤ tt) (then_few c.in_ok-push_words.ensures.short c.in_ok-push_words.ensures.appended.room (then_few c.in_ok-push_layout.ensures.short c.in_ok-push_layout.ensures.appended.room c.in_err-push_counted.ensures.short)))

pub returns-clause-appended : goal.returns-clause-appended
unfolding target_text
returns-clause-appended c = then (then (then c.in_ok-push_words.ensures.appended c.in_ok-push_layout.ensures.appended) (retold (ap (λ i. codes " chunk " ++ decimal i) c.from.ensures) c.in_ok-push_counted.ensures.appended)) (retold (ap (λ i. codes " disks " ++ decimal i) c.from-2.ensures) c.push_counted-2.ensures.appended)

pub returns-clause-short : goal.returns-clause-short
returns-clause-short c = at_most 100 (lit≤ tt) (then_few c.in_ok-push_words.ensures.short c.in_ok-push_words.ensures.appended.room (then_few c.in_ok-push_layout.ensures.short c.in_ok-push_layout.ensures.appended.room (then_few c.in_ok-push_counted.ensures.short c.in_ok-push_counted.ensures.appended.room c.push_counted-2.ensures.short)))
