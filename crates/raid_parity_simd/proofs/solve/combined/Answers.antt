use Rattle.std.proofs.Common.{ap₂, ◌∙◌}
use Rattle.std.specs.Int.Bits.{bit_xor}
use Rattle.raid_parity_simd.proofs.Lanes.{xor-len, xor_lane}
use Rattle.raid_parity_simd.proofs.solve.combined.Goals as goal

pub returns-clause-lanes : goal.returns-clause-lanes
returns-clause-lanes c = xor-len c.looked_up-one.result c.looked_up-two.result c.looked_up-one.ensures.lanes c.looked_up-two.ensures.lanes

pub returns-clause-each : goal.returns-clause-each
returns-clause-each c i lt =
    xor_lane c.looked_up-one.result c.looked_up-two.result i c.looked_up-one.ensures.lanes c.looked_up-two.ensures.lanes lt
    ∙ ap₂ bit_xor (c.looked_up-one.ensures.each i lt) (c.looked_up-two.ensures.each i lt)
