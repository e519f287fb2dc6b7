use Rattle.std.proofs.Common.{ℕ, ◌+◌, ◌*◌, ◌<◌, ◌≤◌, List, length, get_or, ap, ◌∙◌, arith}
use Rattle.raid_parity_simd.specs.Places.{plain_sum, weighed_sum}
use Rattle.raid_parity_simd.proofs.Behind.{behind-room, plain_behind, weighed_behind}
use Rattle.raid_parity_simd.proofs.Lanes.{stored_below, stored_above}
use Rattle.raid_parity_simd.proofs.gathered.both_of.Goals as goal

pub both_at-sums-requires-clause-room : goal.both_at-sums-requires-clause-room
both_at-sums-requires-clause-room c j lt =
    let within = c.requires.within j lt in
    behind-room c.args.bytes.now (c.loop-block.block * 64) (get_or c.args.places.now.list j 0) (omega (arith, within))

pub loop-block-preserved : goal.loop-block-preserved
loop-block-preserved c =
    let at : ℕ = c.loop-block.block * 64 in
    let plain = c.loop-block.plain in
    let weighed = c.loop-block.weighed in
    let sums = c.both_at-sums in
    let list = c.args.places.now.list in
    let count = c.args.places.now.count in
    let list_room : (j : ℕ) → j < count → get_or list j 0 + at + 64 ≤ length c.args.bytes.now = λ j jl. let within = c.requires.within j jl in omega (arith, within) in
    record {
      plain_whole = c.store.auto.into ∙ c.loop-block.invariant.plain_whole;
      weighed_whole = c.store-in-loop-block.auto.into ∙ c.loop-block.invariant.weighed_whole;
      plain_done = λ k lt.
          ap (λ (x : List ℕ). get_or x k 0) c.store.ensures
          ∙ stored_below at k (λ k. plain_sum c.args.places.now.count (λ j. get_or c.args.bytes.now (get_or c.args.places.now.list j 0 + k) 0)) plain sums.result.plain
          sums.ensures.plain_lanes (omega (arith, c.loop-block.invariant.plain_whole)) (λ i il. sums.ensures.plain i il ∙ plain_behind c.args.bytes.now list count at i list_room il) c.loop-block.invariant.plain_done (omega arith);
      weighed_done = λ k lt.
          ap (λ (x : List ℕ). get_or x k 0) c.store-in-loop-block.ensures
          ∙ stored_below at k (λ k. weighed_sum c.args.places.now.count (λ j. get_or c.args.bytes.now (get_or c.args.places.now.list j 0 + k) 0)) weighed sums.result.weighed
          sums.ensures.weighed_lanes (omega (arith, c.loop-block.invariant.weighed_whole)) (λ i il. sums.ensures.weighed i il ∙ weighed_behind c.args.bytes.now list count at i list_room il) c.loop-block.invariant.weighed_done (omega arith);
      plain_behind = λ k le.
          ap (λ (x : List ℕ). get_or x k 0) c.store.ensures ∙ stored_above at k plain sums.result.plain sums.ensures.plain_lanes (omega arith)
          ∙ c.loop-block.invariant.plain_behind k (omega arith);
      weighed_behind = λ k le.
          ap (λ (x : List ℕ). get_or x k 0) c.store-in-loop-block.ensures ∙ stored_above at k weighed sums.result.weighed sums.ensures.weighed_lanes (omega arith)
          ∙ c.loop-block.invariant.weighed_behind k (omega arith);
    }

pub returns-clause-bytes : goal.returns-clause-bytes
returns-clause-bytes c place = let h = c.type_inv.bytes place in omega (arith, h)

pub returns-clause-plain : goal.returns-clause-plain
returns-clause-plain c k lt = c.loop-block.invariant.plain_done k (omega (arith, c.requires.cut))

pub returns-clause-weighed : goal.returns-clause-weighed
returns-clause-weighed c k lt = c.loop-block.invariant.weighed_done k (omega (arith, c.requires.cut))

pub returns-clause-plain_behind : goal.returns-clause-plain_behind
returns-clause-plain_behind c k le = c.loop-block.invariant.plain_behind k (omega arith)

pub returns-clause-weighed_behind : goal.returns-clause-weighed_behind
returns-clause-weighed_behind c k le = c.loop-block.invariant.weighed_behind k (omega arith)
