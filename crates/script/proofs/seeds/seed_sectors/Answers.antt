use Rattle.std.proofs.Common.{◌≡◌, ◌+◌, ◌++◌, ap, ◌∙◌}
use Rattle.script.specs.Seeds.{seed_sector}
use Rattle.script.proofs.SeedLaws.{written-start, written-more, written-whole}
use Rattle.script.proofs.seeds.seed_sectors.Goals as goal

pub loop-k-init : goal.loop-k-init
loop-k-init c = rw c.new-bytes.ensures.items (written-start c.args.seed c.args.at)

pub from_bytes-requires : goal.from_bytes-requires
from_bytes-requires c = written-whole c.args.seed c.args.at c.loop-k.k c.loop-k.bytes.items c.loop-k.invariant

pub loop-k-preserved : goal.loop-k-preserved
loop-k-preserved c =
    let items : c.extend_from_slice.new.self.items ≡ c.loop-k.bytes.items ++ seed_sector c.args.seed (c.args.at + c.loop-k.k) =
    c.in_ok-extend_from_slice.ensures.items
    ∙ ap (λ s. c.loop-k.bytes.items ++ s) (c.seed_contents.ensures ∙ ap (λ k. seed_sector c.args.seed (c.args.at + k)) c.from.ensures) in
    rw items (written-more c.args.seed c.args.at c.loop-k.k c.loop-k.bytes.items c.loop-k.invariant)
