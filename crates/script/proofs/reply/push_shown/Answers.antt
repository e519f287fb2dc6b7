use Rattle.std.proofs.Common.{codes, decimal}
use Rattle.script.specs.Texts.{shape_text}
use Rattle.script.proofs.AppendLaws.{then, retold, in_a_row}
use Rattle.script.proofs.reply.push_shown.Goals as goal

pub returns-clause-appended : goal.returns-clause-appended
returns-clause-appended c =
    let shape = shape_text c.args.shape.now c.args.status.now.size in
    retold (in_a_row (codes "assembled ") shape (codes " visible ") (decimal c.args.status.now.visible) (codes " left ") (decimal c.args.status.now.left))
    (then c.in_ok-push_words.ensures.appended (then c.in_ok-push_shape.ensures.appended (then c.in_ok-push_counted.ensures.appended c.push_counted-2.ensures.appended)))
