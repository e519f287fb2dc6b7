use Rattle.std.proofs.Common.{◌++◌, codes, decimal, ap, lit≤}
use Rattle.script_status.proofs.examine.push_fields.Goals as goal
use Rattle.script.proofs.AppendLaws.{then, retold, failed, failed_few, longer, then_few, at_most}

pub returns-in_err-push_counted-clause-appended : goal.returns-in_err-push_counted-clause-appended
returns-in_err-push_counted-clause-appended c = failed c.from_residual.ensures.0 (longer (codes " features " ++ decimal c.args.sb.now.feature_map) (longer (codes " size " ++ decimal c.args.sb.now.size) (longer (codes " disks " ++ decimal c.args.sb.now.raid_disks) (longer (codes " chunk " ++ decimal c.args.sb.now.chunksize) (longer (codes " layout " ++ decimal c.args.sb.now.layout) (longer (codes " level " ++ decimal c.args.sb.now.level) c.in_err-push_counted.ensures.appended))))))

pub returns-in_err-push_counted-clause-short : goal.returns-in_err-push_counted-clause-short
returns-in_err-push_counted-clause-short c = failed_few c.from_residual.ensures.0 (at_most 230 (lit≤ tt) c.in_err-push_counted.ensures.short)

pub returns-in_err-push_counted-2-clause-appended : goal.returns-in_err-push_counted-2-clause-appended
returns-in_err-push_counted-2-clause-appended c = failed c.from_residual-in_err-push_counted-2.ensures.0 (longer (codes " features " ++ decimal c.args.sb.now.feature_map) (longer (codes " size " ++ decimal c.args.sb.now.size) (longer (codes " disks " ++ decimal c.args.sb.now.raid_disks) (longer (codes " chunk " ++ decimal c.args.sb.now.chunksize) (longer (codes " layout " ++ decimal c.args.sb.now.layout) (then c.in_ok-push_counted.ensures.appended (retold (ap (λ i. codes " level " ++ decimal i) c.from.ensures) c.in_err-push_counted-2.ensures.appended)))))))

pub returns-in_err-push_counted-2-clause-short : goal.returns-in_err-push_counted-2-clause-short
returns-in_err-push_counted-2-clause-short c = failed_few c.from_residual-in_err-push_counted-2.ensures.0 (at_most 230 (lit≤ tt) (then_few c.in_ok-push_counted.ensures.short c.in_ok-push_counted.ensures.appended.room c.in_err-push_counted-2.ensures.short))

pub returns-in_err-push_counted-3-clause-appended : goal.returns-in_err-push_counted-3-clause-appended
returns-in_err-push_counted-3-clause-appended c = failed c.from_residual-in_err-push_counted-3.ensures.0 (longer (codes " features " ++ decimal c.args.sb.now.feature_map) (longer (codes " size " ++ decimal c.args.sb.now.size) (longer (codes " disks " ++ decimal c.args.sb.now.raid_disks) (longer (codes " chunk " ++ decimal c.args.sb.now.chunksize) (then (then c.in_ok-push_counted.ensures.appended (retold (ap (λ i. codes " level " ++ decimal i) c.from.ensures) c.in_ok-push_counted-2.ensures.appended)) (retold (ap (λ i. codes " layout " ++ decimal i) c.from-2.ensures) c.in_err-push_counted-3.ensures.appended))))))

pub returns-in_err-push_counted-3-clause-short : goal.returns-in_err-push_counted-3-clause-short
returns-in_err-push_counted-3-clause-short c = failed_few c.from_residual-in_err-push_counted-3.ensures.0 (at_most 230 (lit≤ tt) (then_few c.in_ok-push_counted.ensures.short c.in_ok-push_counted.ensures.appended.room (then_few c.in_ok-push_counted-2.ensures.short c.in_ok-push_counted-2.ensures.appended.room c.in_err-push_counted-3.ensures.short)))

pub returns-in_err-push_counted-4-clause-appended : goal.returns-in_err-push_counted-4-clause-appended
returns-in_err-push_counted-4-clause-appended c = failed c.from_residual-in_err-push_counted-4.ensures.0 (longer (codes " features " ++ decimal c.args.sb.now.feature_map) (longer (codes " size " ++ decimal c.args.sb.now.size) (longer (codes " disks " ++ decimal c.args.sb.now.raid_disks) (then (then (then c.in_ok-push_counted.ensures.appended (retold (ap (λ i. codes " level " ++ decimal i) c.from.ensures) c.in_ok-push_counted-2.ensures.appended)) (retold (ap (λ i. codes " layout " ++ decimal i) c.from-2.ensures) c.in_ok-push_counted-3.ensures.appended)) (retold (ap (λ i. codes " chunk " ++ decimal i) c.from-3.ensures) c.in_err-push_counted-4.ensures.appended)))))

pub returns-in_err-push_counted-4-clause-short : goal.returns-in_err-push_counted-4-clause-short
returns-in_err-push_counted-4-clause-short c = failed_few c.from_residual-in_err-push_counted-4.ensures.0 (at_most 230 (lit≤ tt) (then_few c.in_ok-push_counted.ensures.short c.in_ok-push_counted.ensures.appended.room (then_few c.in_ok-push_counted-2.ensures.short c.in_ok-push_counted-2.ensures.appended.room (then_few c.in_ok-push_counted-3.ensures.short c.in_ok-push_counted-3.ensures.appended.room c.in_err-push_counted-4.ensures.short))))

pub returns-in_err-push_counted-5-clause-appended : goal.returns-in_err-push_counted-5-clause-appended
returns-in_err-push_counted-5-clause-appended c = failed c.from_residual-in_err-push_counted-5.ensures.0 (longer (codes " features " ++ decimal c.args.sb.now.feature_map) (longer (codes " size " ++ decimal c.args.sb.now.size) (then (then (then (then c.in_ok-push_counted.ensures.appended (retold (ap (λ i. codes " level " ++ decimal i) c.from.ensures) c.in_ok-push_counted-2.ensures.appended)) (retold (ap (λ i. codes " layout " ++ decimal i) c.from-2.ensures) c.in_ok-push_counted-3.ensures.appended)) (retold (ap (λ i. codes " chunk " ++ decimal i) c.from-3.ensures) c.in_ok-push_counted-4.ensures.appended)) (retold (ap (λ i. codes " disks " ++ decimal i) c.from-4.ensures) c.in_err-push_counted-5.ensures.appended))))

pub returns-in_err-push_counted-5-clause-short : goal.returns-in_err-push_counted-5-clause-short
returns-in_err-push_counted-5-clause-short c = failed_few c.from_residual-in_err-push_counted-5.ensures.0 (at_most 230 (lit≤ tt) (then_few c.in_ok-push_counted.ensures.short c.in_ok-push_counted.ensures.appended.room (then_few c.in_ok-push_counted-2.ensures.short c.in_ok-push_counted-2.ensures.appended.room (then_few c.in_ok-push_counted-3.ensures.short c.in_ok-push_counted-3.ensures.appended.room (then_few c.in_ok-push_counted-4.ensures.short c.in_ok-push_counted-4.ensures.appended.room c.in_err-push_counted-5.ensures.short)))))

pub returns-in_err-push_counted-6-clause-appended : goal.returns-in_err-push_counted-6-clause-appended
returns-in_err-push_counted-6-clause-appended c = failed c.from_residual-in_err-push_counted-6.ensures.0 (longer (codes " features " ++ decimal c.args.sb.now.feature_map) (then (then (then (then (then c.in_ok-push_counted.ensures.appended (retold (ap (λ i. codes " level " ++ decimal i) c.from.ensures) c.in_ok-push_counted-2.ensures.appended)) (retold (ap (λ i. codes " layout " ++ decimal i) c.from-2.ensures) c.in_ok-push_counted-3.ensures.appended)) (retold (ap (λ i. codes " chunk " ++ decimal i) c.from-3.ensures) c.in_ok-push_counted-4.ensures.appended)) (retold (ap (λ i. codes " disks " ++ decimal i) c.from-4.ensures) c.in_ok-push_counted-5.ensures.appended)) c.in_err-push_counted-6.ensures.appended))

pub returns-in_err-push_counted-6-clause-short : goal.returns-in_err-push_counted-6-clause-short
returns-in_err-push_counted-6-clause-short c = failed_few c.from_residual-in_err-push_counted-6.ensures.0 (at_most 230 (lit≤ tt) (then_few c.in_ok-push_counted.ensures.short c.in_ok-push_counted.ensures.appended.room (then_few c.in_ok-push_counted-2.ensures.short c.in_ok-push_counted-2.ensures.appended.room (then_few c.in_ok-push_counted-3.ensures.short c.in_ok-push_counted-3.ensures.appended.room (then_few c.in_ok-push_counted-4.ensures.short c.in_ok-push_counted-4.ensures.appended.room (then_few c.in_ok-push_counted-5.ensures.short c.in_ok-push_counted-5.ensures.appended.room c.in_err-push_counted-6.ensures.short))))))

pub returns-clause-appended : goal.returns-clause-appended
returns-clause-appended c = then (then (then (then (then (then c.in_ok-push_counted.ensures.appended (retold (ap (λ i. codes " level " ++ decimal i) c.from.ensures) c.in_ok-push_counted-2.ensures.appended)) (retold (ap (λ i. codes " layout " ++ decimal i) c.from-2.ensures) c.in_ok-push_counted-3.ensures.appended)) (retold (ap (λ i. codes " chunk " ++ decimal i) c.from-3.ensures) c.in_ok-push_counted-4.ensures.appended)) (retold (ap (λ i. codes " disks " ++ decimal i) c.from-4.ensures) c.in_ok-push_counted-5.ensures.appended)) c.in_ok-push_counted-6.ensures.appended) (retold (ap (λ i. codes " features " ++ decimal i) c.from-5.ensures) c.push_counted-7.ensures.appended)

pub returns-clause-short : goal.returns-clause-short
returns-clause-short c = at_most 230 (lit≤ tt) (then_few c.in_ok-push_counted.ensures.short c.in_ok-push_counted.ensures.appended.room (then_few c.in_ok-push_counted-2.ensures.short c.in_ok-push_counted-2.ensures.appended.room (then_few c.in_ok-push_counted-3.ensures.short c.in_ok-push_counted-3.ensures.appended.room (then_few c.in_ok-push_counted-4.ensures.short c.in_ok-push_counted-4.ensures.appended.room (then_few c.in_ok-push_counted-5.ensures.short c.in_ok-push_counted-5.ensures.appended.room (then_few c.in_ok-push_counted-6.ensures.short c.in_ok-push_counted-6.ensures.appended.room c.push_counted-7.ensures.short))))))
