use Rattle.std.proofs.Common.{ap, ◌∙◌}
use Rattle.raid_parity.specs.raid_gf256_Field.{product}
use Rattle.raid_parity_simd.proofs.Halves.{low_place, high_place}
use Rattle.raid_parity_simd.proofs.sectors.products_of.Goals as goal

pub returns-clause-low : goal.returns-clause-low
returns-clause-low c i lt = c.times_lanes-low.ensures.each i lt ∙ ap (product c.args.factor) (low_place i lt)

pub returns-clause-high : goal.returns-clause-high
returns-clause-high c i lt = c.times_lanes-high.ensures.each i lt ∙ ap (product c.args.factor) (high_place i lt)
