use Rattle.std.proofs.Common.{◌≡◌, ℕ, ◌+◌, get_or, sym, ap, ap₂, ◌∙◌, arith}
use Rattle.std.proofs.lemmas.Simd.{get_or-replicate}
use Rattle.std.specs.Int.Bits.{bit_xor}
use Rattle.raid_parity_simd.specs.Places.{plain_sum}
use Rattle.raid_parity_simd.proofs.Lanes.{xor_lane, loaded_lane}
use Rattle.raid_parity_simd.proofs.PlaceSums.{plain_sum-none, plain_sum-next}
use Rattle.raid_parity_simd.proofs.sums.sum_at.Goals as goal

pub loop-j-init : goal.loop-j-init
loop-j-init c i lt = get_or-replicate 64 i 0 0 lt ∙ sym (plain_sum-none (λ k. get_or c.args.here.now (get_or c.args.places.now.list k 0 + i) 0))

pub loop-j-preserved : goal.loop-j-preserved
loop-j-preserved c i lt =
    let here = c.args.here.now in
    let list = c.args.places.now.list in
    let v = c.load-block.result in
    xor_lane c.loop-j.sum v i c.loop-j.auto.sum.0 c.load-block.ensures.lanes lt
    ∙ ap₂ bit_xor (c.loop-j.invariant i lt) (loaded_lane (get_or list c.loop-j.j 0) here v i c.load-block.ensures.value lt)
    ∙ sym (plain_sum-next c.loop-j.j (λ k. get_or here (get_or list k 0 + i) 0))

pub returns-clause-each : goal.returns-clause-each
returns-clause-each c i lt =
    let all : c.loop-j.j ≡ c.args.places.now.count = omega (arith, c.loop-j-test.false, c.loop-j.auto.j-end) in
    c.loop-j.invariant i lt ∙ ap (λ (n : ℕ). plain_sum n (λ k. get_or c.args.here.now (get_or c.args.places.now.list k 0 + i) 0)) all
