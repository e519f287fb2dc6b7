use Rattle.std.proofs.Common.{take, drop, ap, ◌∙◌}
use Rattle.script_mistakes.proofs.PartLaws.{part}
use Rattle.script_mistakes.proofs.explained.part_of.Goals as goal

pub returns : goal.returns
returns c =
    part c.start_of-from.result 100 c.min.result c.args.line.now c.min.ensures
    ∙ ap (λ s. take 100 (drop s c.args.line.now)) c.start_of-from.ensures.start
