use Rattle.std.proofs.Common.{◌≡◌, ◌+◌, ◌%◌, ◌∙◌, ap, arith}
use Rattle.script_words.proofs.SectorBlocks.{count_at}
use Rattle.script_words.proofs.sector_bytes.counted_block.Goals as goal

pub returns-clause-each : goal.returns-clause-each
returns-clause-each c i lt =
    let turned : i + c.args.first ≡ c.args.first + i = omega arith in
    c.add_to_each.ensures.each i lt ∙ ap (λ n. (n + c.args.first) % 256) (count_at i lt) ∙ ap (λ n. n % 256) turned
