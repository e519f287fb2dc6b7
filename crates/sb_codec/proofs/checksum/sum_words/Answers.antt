use Rattle.std.proofs.Common.{rules, ◌∙◌, arith}
use Rattle.sb_codec.proofs.WordSums.{summed-more}
use Rattle.sb_codec.proofs.checksum.sum_words.Goals as goal

pub loop-word-preserved : goal.loop-word-preserved
loop-word-preserved c =
    let steps = c.in-Some.ensures.steps in
    let summed = summed-more _ _ c.in-Some.word.now _ _ _ _ _ c.loop-word.invariant.2 steps.0 steps.1.0 steps.1.1
    (c.from-sum.ensures ∙ c.read_u32.ensures) (omega arith) in
    (search rules, tt, summed)
