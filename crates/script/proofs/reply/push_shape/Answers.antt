use Rattle.std.proofs.Common.{◌++◌, codes, decimal, refl, ap, lit≤}
use Rattle.script.specs.Texts.{layout_text}
use Rattle.script.proofs.AppendLaws.{then, retold, failed, failed_few, longer, counted, added, unextended, few_of, then_few, at_most}
use Rattle.script.proofs.reply.push_shape.Goals as goal

pub returns-in_err-push_counted-clause-appended :
    goal.returns-in_err-push_counted-clause-appended
returns-in_err-push_counted-clause-appended c =
    failed c.from_residual.ensures.0
    (longer (layout_text c.args.shape.now.layout) (longer (codes " layout ") (longer (decimal c.args.size) (longer (codes " size ") (longer (decimal c.args.shape.now.chunk) (longer (codes " chunk ") (longer (decimal c.args.shape.now.disks) (longer (codes " disks ") (retold (ap (λ i. (codes "level ") ++ decimal i) c.from.ensures) c.in_err-push_counted.ensures.appended)))))))))

pub returns-in_err-push_counted-clause-short : goal.returns-in_err-push_counted-clause-short
returns-in_err-push_counted-clause-short c =
    failed_few c.from_residual.ensures.0 (at_most 160 (lit≤ tt) c.in_err-push_counted.ensures.short)

pub returns-in_err-push_counted-2-clause-appended :
    goal.returns-in_err-push_counted-2-clause-appended
returns-in_err-push_counted-2-clause-appended c =
    failed c.from_residual-in_err-push_counted-2.ensures.0
    (longer (layout_text c.args.shape.now.layout) (longer (codes " layout ") (longer (decimal c.args.size) (longer (codes " size ") (longer (decimal c.args.shape.now.chunk) (longer (codes " chunk ") (counted (codes " disks ") c.from-2.ensures (retold (ap (λ i. (codes "level ") ++ decimal i) c.from.ensures) c.in_ok-push_counted.ensures.appended) c.in_err-push_counted-2.ensures.appended)))))))

pub returns-in_err-push_counted-2-clause-short : goal.returns-in_err-push_counted-2-clause-short
returns-in_err-push_counted-2-clause-short c =
    failed_few c.from_residual-in_err-push_counted-2.ensures.0 (at_most 160 (lit≤ tt) (then_few c.in_ok-push_counted.ensures.short c.in_ok-push_counted.ensures.appended.room c.in_err-push_counted-2.ensures.short))

pub returns-in_err-push_counted-3-clause-appended :
    goal.returns-in_err-push_counted-3-clause-appended
returns-in_err-push_counted-3-clause-appended c =
    failed c.from_residual-in_err-push_counted-3.ensures.0
    (longer (layout_text c.args.shape.now.layout) (longer (codes " layout ") (longer (decimal c.args.size) (longer (codes " size ") (counted (codes " chunk ") c.from-3.ensures (counted (codes " disks ") c.from-2.ensures (retold (ap (λ i. (codes "level ") ++ decimal i) c.from.ensures) c.in_ok-push_counted.ensures.appended) c.in_ok-push_counted-2.ensures.appended) c.in_err-push_counted-3.ensures.appended)))))

pub returns-in_err-push_counted-3-clause-short : goal.returns-in_err-push_counted-3-clause-short
returns-in_err-push_counted-3-clause-short c =
    failed_few c.from_residual-in_err-push_counted-3.ensures.0 (at_most 160 (lit≤ tt) (then_few c.in_ok-push_counted.ensures.short c.in_ok-push_counted.ensures.appended.room (then_few c.in_ok-push_counted-2.ensures.short c.in_ok-push_counted-2.ensures.appended.room c.in_err-push_counted-3.ensures.short)))

pub returns-in_err-push_counted-4-clause-appended :
    goal.returns-in_err-push_counted-4-clause-appended
returns-in_err-push_counted-4-clause-appended c =
    failed c.from_residual-in_err-push_counted-4.ensures.0
    (longer (layout_text c.args.shape.now.layout) (longer (codes " layout ") (counted (codes " size ") refl (counted (codes " chunk ") c.from-3.ensures (counted (codes " disks ") c.from-2.ensures (retold (ap (λ i. (codes "level ") ++ decimal i) c.from.ensures) c.in_ok-push_counted.ensures.appended) c.in_ok-push_counted-2.ensures.appended) c.in_ok-push_counted-3.ensures.appended) c.in_err-push_counted-4.ensures.appended)))

pub returns-in_err-push_counted-4-clause-short : goal.returns-in_err-push_counted-4-clause-short
returns-in_err-push_counted-4-clause-short c =
    failed_few c.from_residual-in_err-push_counted-4.ensures.0 (at_most 160 (lit≤ tt) (then_few c.in_ok-push_counted.ensures.short c.in_ok-push_counted.ensures.appended.room (then_few c.in_ok-push_counted-2.ensures.short c.in_ok-push_counted-2.ensures.appended.room (then_few c.in_ok-push_counted-3.ensures.short c.in_ok-push_counted-3.ensures.appended.room c.in_err-push_counted-4.ensures.short))))

pub returns-in_err-extend_from_slice-clause-appended : goal.returns-in_err-extend_from_slice-clause-appended
returns-in_err-extend_from_slice-clause-appended c =
    failed c.from_residual-in_err-extend_from_slice.ensures.0 (longer (layout_text c.args.shape.now.layout)
    (then (counted (codes " size ") refl (counted (codes " chunk ") c.from-3.ensures (counted (codes " disks ") c.from-2.ensures (retold (ap (λ i. (codes "level ") ++ decimal i) c.from.ensures) c.in_ok-push_counted.ensures.appended) c.in_ok-push_counted-2.ensures.appended) c.in_ok-push_counted-3.ensures.appended) c.in_ok-push_counted-4.ensures.appended) (unextended {a = codes " layout "} refl c.in_err-extend_from_slice.ensures.full c.in_err-extend_from_slice.ensures.capacity)))

pub returns-in_err-extend_from_slice-clause-short : goal.returns-in_err-extend_from_slice-clause-short
returns-in_err-extend_from_slice-clause-short c =
    failed_few c.from_residual-in_err-extend_from_slice.ensures.0 (at_most 160 (lit≤ tt) (then_few c.in_ok-push_counted.ensures.short c.in_ok-push_counted.ensures.appended.room (then_few c.in_ok-push_counted-2.ensures.short c.in_ok-push_counted-2.ensures.appended.room (then_few c.in_ok-push_counted-3.ensures.short c.in_ok-push_counted-3.ensures.appended.room (then_few c.in_ok-push_counted-4.ensures.short c.in_ok-push_counted-4.ensures.appended.room (few_of (unextended {a = codes " layout "} refl c.in_err-extend_from_slice.ensures.full c.in_err-extend_from_slice.ensures.capacity)))))))

pub returns-clause-appended : goal.returns-clause-appended
returns-clause-appended c = then (then (counted (codes " size ") refl (counted (codes " chunk ") c.from-3.ensures (counted (codes " disks ") c.from-2.ensures (retold (ap (λ i. (codes "level ") ++ decimal i) c.from.ensures) c.in_ok-push_counted.ensures.appended) c.in_ok-push_counted-2.ensures.appended) c.in_ok-push_counted-3.ensures.appended) c.in_ok-push_counted-4.ensures.appended) (added {a = codes " layout "} refl c.in_ok-extend_from_slice.ensures.items c.in_ok-extend_from_slice.ensures.capacity)) c.push_layout.ensures.appended

pub returns-clause-short : goal.returns-clause-short
returns-clause-short c = at_most 160 (lit≤ tt) (then_few c.in_ok-push_counted.ensures.short c.in_ok-push_counted.ensures.appended.room (then_few c.in_ok-push_counted-2.ensures.short c.in_ok-push_counted-2.ensures.appended.room (then_few c.in_ok-push_counted-3.ensures.short c.in_ok-push_counted-3.ensures.appended.room (then_few c.in_ok-push_counted-4.ensures.short c.in_ok-push_counted-4.ensures.appended.room (then_few (few_of (added {a = codes " layout "} refl c.in_ok-extend_from_slice.ensures.items c.in_ok-extend_from_slice.ensures.capacity)) c.in_ok-extend_from_slice.ensures.capacity c.push_layout.ensures.short)))))
