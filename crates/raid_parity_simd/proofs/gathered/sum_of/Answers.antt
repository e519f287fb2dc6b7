use Rattle.std.proofs.Common.{ℕ, ◌+◌, ◌*◌, ◌<◌, ◌≤◌, List, length, get_or, ap, ◌∙◌, arith}
use Rattle.raid_parity_simd.specs.Places.{plain_sum}
use Rattle.raid_parity_simd.proofs.Behind.{behind-room, plain_behind}
use Rattle.raid_parity_simd.proofs.Lanes.{stored_below, stored_above}
use Rattle.raid_parity_simd.proofs.gathered.sum_of.Goals as goal

pub sum_at-part-requires-clause-room : goal.sum_at-part-requires-clause-room
sum_at-part-requires-clause-room c j lt =
    let within = c.requires.within j lt in
    behind-room c.args.bytes.now (c.loop-block.block * 64) (get_or c.args.places.now.list j 0) (omega (arith, within))

pub loop-block-preserved : goal.loop-block-preserved
loop-block-preserved c =
    let at : ℕ = c.loop-block.block * 64 in
    let sum = c.loop-block.sum in
    let part = c.sum_at-part in
    let list = c.args.places.now.list in
    let count = c.args.places.now.count in
    let list_room : (j : ℕ) → j < count → get_or list j 0 + at + 64 ≤ length c.args.bytes.now = λ j jl. let within = c.requires.within j jl in omega (arith, within) in
    record {
      whole = c.store.auto.into ∙ c.loop-block.invariant.whole;
      done = λ k lt.
          ap (λ (x : List ℕ). get_or x k 0) c.store.ensures
          ∙ stored_below at k (λ k. plain_sum c.args.places.now.count (λ j. get_or c.args.bytes.now (get_or c.args.places.now.list j 0 + k) 0)) sum part.result part.ensures.lanes
          (omega (arith, c.loop-block.invariant.whole)) (λ i il. part.ensures.each i il ∙ plain_behind c.args.bytes.now list count at i list_room il) c.loop-block.invariant.done (omega arith);
      behind = λ k le.
          ap (λ (x : List ℕ). get_or x k 0) c.store.ensures ∙ stored_above at k sum part.result part.ensures.lanes (omega arith) ∙ c.loop-block.invariant.behind k (omega arith);
    }

pub returns-clause-there : goal.returns-clause-there
returns-clause-there c k lt = c.loop-block.invariant.done k (omega (arith, c.requires.cut))

pub returns-clause-behind : goal.returns-clause-behind
returns-clause-behind c k le = c.loop-block.invariant.behind k (omega arith)
