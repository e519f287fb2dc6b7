use Rattle.std.proofs.Common.{◌++◌, codes, decimal, ap, lit≤}
use Rattle.script.specs.Texts.{layout_text}
use Rattle.script_status.specs.Texts.{shape_lines}
use Rattle.script_status.proofs.Grouped.{regroup}
use Rattle.script_status.proofs.detail.push_shape.Goals as goal
use Rattle.script.proofs.AppendLaws.{then, retold, failed, failed_few, longer, then_few, at_most}

pub returns-in_err-push_counted_line-clause-appended : goal.returns-in_err-push_counted_line-clause-appended
unfolding shape_lines
returns-in_err-push_counted_line-clause-appended c = failed c.from_residual.ensures.0 (retold (ap (λ t. t ++ (codes "disks " ++ decimal c.args.shape.now.disks ++ codes "\n")) (regroup (codes "level " ++ decimal c.args.shape.now.level ++ codes "\n") (codes "layout ") (layout_text c.args.shape.now.layout) (codes "\n") (codes "chunk " ++ decimal c.args.shape.now.chunk ++ codes "\n"))) (longer (codes "disks " ++ decimal c.args.shape.now.disks ++ codes "\n") (longer (codes "\nchunk " ++ decimal c.args.shape.now.chunk ++ codes "\n") (longer (layout_text c.args.shape.now.layout) (longer (codes "layout ") (retold (ap (λ i. codes "level " ++ decimal i ++ codes "\n") c.from.ensures) c.in_err-push_counted_line.ensures.appended))))))

pub returns-in_err-push_counted_line-clause-short : goal.returns-in_err-push_counted_line-clause-short
returns-in_err-push_counted_line-clause-short c = failed_few c.from_residual.ensures.0 (at_most 130 (lit≤ tt) c.in_err-push_counted_line.ensures.short)

pub returns-in_err-push_words-clause-appended : goal.returns-in_err-push_words-clause-appended
unfolding shape_lines
returns-in_err-push_words-clause-appended c = failed c.from_residual-in_err-push_words.ensures.0 (retold (ap (λ t. t ++ (codes "disks " ++ decimal c.args.shape.now.disks ++ codes "\n")) (regroup (codes "level " ++ decimal c.args.shape.now.level ++ codes "\n") (codes "layout ") (layout_text c.args.shape.now.layout) (codes "\n") (codes "chunk " ++ decimal c.args.shape.now.chunk ++ codes "\n"))) (longer (codes "disks " ++ decimal c.args.shape.now.disks ++ codes "\n") (longer (codes "\nchunk " ++ decimal c.args.shape.now.chunk ++ codes "\n") (longer (layout_text c.args.shape.now.layout) (then (retold (ap (λ i. codes "level " ++ decimal i ++ codes "\n") c.from.ensures) c.in_ok-push_counted_line.ensures.appended) c.in_err-push_words.ensures.appended)))))

pub returns-in_err-push_words-clause-short : goal.returns-in_err-push_words-clause-short
returns-in_err-push_words-clause-short c = failed_few c.from_residual-in_err-push_words.ensures.0 (at_most 130 (lit≤ tt) (then_few c.in_ok-push_counted_line.ensures.short c.in_ok-push_counted_line.ensures.appended.room c.in_err-push_words.ensures.short))

pub returns-in_err-push_layout-clause-appended : goal.returns-in_err-push_layout-clause-appended
unfolding shape_lines
returns-in_err-push_layout-clause-appended c = failed c.from_residual-in_err-push_layout.ensures.0 (retold (ap (λ t. t ++ (codes "disks " ++ decimal c.args.shape.now.disks ++ codes "\n")) (regroup (codes "level " ++ decimal c.args.shape.now.level ++ codes "\n") (codes "layout ") (layout_text c.args.shape.now.layout) (codes "\n") (codes "chunk " ++ decimal c.args.shape.now.chunk ++ codes "\n"))) (longer (codes "disks " ++ decimal c.args.shape.now.disks ++ codes "\n") (longer (codes "\nchunk " ++ decimal c.args.shape.now.chunk ++ codes "\n") (then (then (retold (ap (λ i. codes "level " ++ decimal i ++ codes "\n") c.from.ensures) c.in_ok-push_counted_line.ensures.appended) c.in_ok-push_words.ensures.appended) c.in_err-push_layout.ensures.appended))))

pub returns-in_err-push_layout-clause-short : goal.returns-in_err-push_layout-clause-short
returns-in_err-push_layout-clause-short c = failed_few c.from_residual-in_err-push_layout.ensures.0 (at_most 130 (lit≤ tt) (then_few c.in_ok-push_counted_line.ensures.short c.in_ok-push_counted_line.ensures.appended.room (then_few c.in_ok-push_words.ensures.short c.in_ok-push_words.ensures.appended.room c.in_err-push_layout.ensures.short)))

pub returns-in_err-push_counted_line-2-clause-appended : goal.returns-in_err-push_counted_line-2-clause-appended
unfolding shape_lines
returns-in_err-push_counted_line-2-clause-appended c = failed c.from_residual-in_err-push_counted_line-2.ensures.0 (retold (ap (λ t. t ++ (codes "disks " ++ decimal c.args.shape.now.disks ++ codes "\n")) (regroup (codes "level " ++ decimal c.args.shape.now.level ++ codes "\n") (codes "layout ") (layout_text c.args.shape.now.layout) (codes "\n") (codes "chunk " ++ decimal c.args.shape.now.chunk ++ codes "\n"))) (longer (codes "disks " ++ decimal c.args.shape.now.disks ++ codes "\n") (then (then (then (retold (ap (λ i. codes "level " ++ decimal i ++ codes "\n") c.from.ensures) c.in_ok-push_counted_line.ensures.appended) c.in_ok-push_words.ensures.appended) c.in_ok-push_layout.ensures.appended) (retold (ap (λ i. codes "\nchunk " ++ decimal i ++ codes "\n") c.from-2.ensures) c.in_err-push_counted_line-2.ensures.appended))))

pub returns-in_err-push_counted_line-2-clause-short : goal.returns-in_err-push_counted_line-2-clause-short
returns-in_err-push_counted_line-2-clause-short c = failed_few c.from_residual-in_err-push_counted_line-2.ensures.0 (at_most 130 (lit≤ tt) (then_few c.in_ok-push_counted_line.ensures.short c.in_ok-push_counted_line.ensures.appended.room (then_few c.in_ok-push_words.ensures.short c.in_ok-push_words.ensures.appended.room (then_few c.in_ok-push_layout.ensures.short c.in_ok-push_layout.ensures.appended.room c.in_err-push_counted_line-2.ensures.short))))

pub returns-clause-appended : goal.returns-clause-appended
unfolding shape_lines
returns-clause-appended c = retold (ap (λ t. t ++ (codes "disks " ++ decimal c.args.shape.now.disks ++ codes "\n")) (regroup (codes "level " ++ decimal c.args.shape.now.level ++ codes "\n") (codes "layout ") (layout_text c.args.shape.now.layout) (codes "\n") (codes "chunk " ++ decimal c.args.shape.now.chunk ++ codes "\n"))) (then (then (then (then (retold (ap (λ i. codes "level " ++ decimal i ++ codes "\n") c.from.ensures) c.in_ok-push_counted_line.ensures.appended) c.in_ok-push_words.ensures.appended) c.in_ok-push_layout.ensures.appended) (retold (ap (λ i. codes "\nchunk " ++ decimal i ++ codes "\n") c.from-2.ensures) c.in_ok-push_counted_line-2.ensures.appended)) (retold (ap (λ i. codes "disks " ++ decimal i ++ codes "\n") c.from-3.ensures) c.push_counted_line-3.ensures.appended))

pub returns-clause-short : goal.returns-clause-short
returns-clause-short c = at_most 130 (lit≤ tt) (then_few c.in_ok-push_counted_line.ensures.short c.in_ok-push_counted_line.ensures.appended.room (then_few c.in_ok-push_words.ensures.short c.in_ok-push_words.ensures.appended.room (then_few c.in_ok-push_layout.ensures.short c.in_ok-push_layout.ensures.appended.room (then_few c.in_ok-push_counted_line-2.ensures.short c.in_ok-push_counted_line-2.ensures.appended.room c.push_counted_line-3.ensures.short))))
