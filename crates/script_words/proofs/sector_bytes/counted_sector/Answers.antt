use Rattle.std.proofs.Common.{◌*◌, ◌∙◌, ap, arith, length, get_or}
use Rattle.std.proofs.lemmas.Simd.{length-put_chunk}
use Rattle.script_words.proofs.SectorBlocks.{counted_further}
use Rattle.script_words.proofs.sector_bytes.counted_sector.Goals as goal

pub loop-block-preserved : goal.loop-block-preserved
loop-block-preserved c =
    let inv = c.loop-block.invariant in
    record {
      size = ap (λ l. length l) c.store.ensures ∙ length-put_chunk (64 * c.loop-block.block) c.loop-block.sector c.counted_block.result ∙ inv.size;
      done = λ k lt. ap (λ l. get_or l k 0) c.store.ensures ∙ counted_further c.args.first _ c.loop-block.block k c.loop-block.sector c.counted_block.result inv.size c.counted_block.ensures.lanes (omega arith) (omega (arith, c.from.ensures)) c.counted_block.ensures.each inv.done lt;
    }

pub returns : goal.returns
returns c = λ k lt. c.loop-block.invariant.done k (omega (arith, lt))
