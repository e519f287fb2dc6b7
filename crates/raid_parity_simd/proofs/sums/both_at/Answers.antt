use Rattle.std.proofs.Common.{◌≡◌, ℕ, ◌+◌, get_or, sym, ap, ap₂, ◌∙◌, arith}
use Rattle.std.proofs.lemmas.Simd.{get_or-replicate}
use Rattle.std.specs.Int.Bits.{bit_xor}
use Rattle.raid_parity.specs.raid_gf256_Field.{double}
use Rattle.raid_parity_simd.specs.Places.{plain_sum, weighed_sum}
use Rattle.raid_parity_simd.proofs.Lanes.{xor_lane, loaded_lane}
use Rattle.raid_parity_simd.proofs.PlaceSums.{plain_sum-none, plain_sum-next, weighed_sum-none, weighed_sum-next}
use Rattle.raid_parity_simd.proofs.sums.both_at.Goals as goal

pub loop-j-init : goal.loop-j-init
loop-j-init c = record {
  plain = λ i lt. get_or-replicate 64 i 0 0 lt ∙ sym (plain_sum-none (λ k. get_or c.args.here.now (get_or c.args.places.now.list k 0 + i) 0));
  weighed = λ i lt. get_or-replicate 64 i 0 0 lt ∙ sym (weighed_sum-none (λ k. get_or c.args.here.now (get_or c.args.places.now.list k 0 + i) 0));
}

pub loop-j-preserved : goal.loop-j-preserved
loop-j-preserved c =
    let here = c.args.here.now in
    let list = c.args.places.now.list in
    let v = c.load-block.result in
    let f : ℕ → ℕ → ℕ = λ i k. get_or here (get_or list k 0 + i) 0 in
    record {
      plain = λ i lt.
          xor_lane c.loop-j.plain v i c.loop-j.auto.plain.0 c.load-block.ensures.lanes lt
          ∙ ap₂ bit_xor (c.loop-j.invariant.plain i lt) (loaded_lane (get_or list c.loop-j.j 0) here v i c.load-block.ensures.value lt)
          ∙ sym (plain_sum-next c.loop-j.j (f i));
      weighed = λ i lt.
          c.double_and_add-weighed.ensures.each i lt
          ∙ ap₂ (λ (x y : ℕ). bit_xor (double x) y) (c.loop-j.invariant.weighed i lt) (loaded_lane (get_or list c.loop-j.j 0) here v i c.load-block.ensures.value lt)
          ∙ sym (weighed_sum-next c.loop-j.j (f i));
    }

pub returns-clause-plain : goal.returns-clause-plain
returns-clause-plain c i lt =
    let all : c.loop-j.j ≡ c.args.places.now.count = omega (arith, c.loop-j-test.false, c.loop-j.auto.j-end) in
    c.loop-j.invariant.plain i lt ∙ ap (λ (n : ℕ). plain_sum n (λ k. get_or c.args.here.now (get_or c.args.places.now.list k 0 + i) 0)) all

pub returns-clause-weighed : goal.returns-clause-weighed
returns-clause-weighed c i lt =
    let all : c.loop-j.j ≡ c.args.places.now.count = omega (arith, c.loop-j-test.false, c.loop-j.auto.j-end) in
    c.loop-j.invariant.weighed i lt ∙ ap (λ (n : ℕ). weighed_sum n (λ k. get_or c.args.here.now (get_or c.args.places.now.list k 0 + i) 0)) all

pub returns-clause-bytes : goal.returns-clause-bytes
returns-clause-bytes c place = let h = c.type_inv.here place in omega (arith, h)
