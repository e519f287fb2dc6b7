use Rattle.std.proofs.Common.{sym, ap₂, ◌∙◌, ◌*◌, arith, bytes_eq}
use Rattle.script_words.proofs.SectorBlocks.{alike_further, not_alike, all_alike}
use Rattle.script_words.proofs.sector_bytes.are_alike.Goals as goal

pub loop-block-preserved : goal.loop-block-preserved
loop-block-preserved c =
    alike_further c.loop-block.block c.args.left.now c.args.right.now c.loop-block.invariant
    (sym (c.is_same.ensures ∙ ap₂ bytes_eq c.load.ensures.value c.load-in-loop-block.ensures.value) ∙ c.if-not-is_same.false)

pub returns-then-not-is_same : goal.returns-then-not-is_same
returns-then-not-is_same c =
    not_alike (64 * c.loop-block.block) c.args.left.now c.args.right.now
    (sym (c.is_same.ensures ∙ ap₂ bytes_eq c.load.ensures.value c.load-in-loop-block.ensures.value) ∙ c.if-not-is_same.true)

pub returns : goal.returns
returns c = all_alike (64 * c.loop-block.block) c.args.left.now c.args.right.now (omega arith) (omega arith) (omega arith) c.loop-block.invariant
