use Rattle.std.proofs.Common.{◌≡◌, ℕ, ◌+◌, ◌*◌, ◌<◌, ◌≤◌, inl, inr, List, get_or, sym, ap, ap₂, ◌∙◌, arith, subst}
use Rattle.std.proofs.lemmas.Bool.{cases_eq}
use Rattle.std.specs.Int.Bits.{bit_xor}
use Rattle.raid_parity.specs.Parity.{p_byte}
use Rattle.raid_parity.proofs.Columns.{data_sum-agrees}
use Rattle.raid_parity_simd.specs.Parts.{AreParts, part_byte, part_bytes}
use Rattle.raid_parity_simd.proofs.Apart.{apart, stored_part, kept_part, outside_begun, place_room}
use Rattle.raid_parity_simd.proofs.Behind.{behind-room, plain_behind}
use Rattle.raid_parity_simd.proofs.Rests.{rest_of_others}
use Rattle.raid_parity_simd.proofs.sums.set_rest.Goals as goal

pub sum_at-sum-requires-clause-few : goal.sum_at-sum-requires-clause-few
sum_at-sum-requires-clause-few c = omega (arith, c.other_places-places.ensures.places.few, c.requires.roles.most)

pub sum_at-sum-requires-clause-room : goal.sum_at-sum-requires-clause-room
sum_at-sum-requires-clause-room c j lt =
    behind-room c.loop-block.bytes (c.loop-block.block * 64) (get_or c.other_places-places.result.list j 0)
    (place_room c.loop-block.invariant.parts c.other_places-places.result.list c.other_places-places.result.count (c.loop-block.block * 64) c.other_places-places.ensures.places (omega arith) j lt)

pub loop-block-preserved : goal.loop-block-preserved
loop-block-preserved c =
    let roles = c.args.roles.now in
    let role = c.args.role in
    let starts = c.args.starts.now in
    let start : ℕ = get_or starts role 0 in
    let old = c.args.bytes.now in
    let bytes = c.loop-block.bytes in
    let at : ℕ = c.loop-block.block * 64 in
    let v = c.sum_at-sum.result in
    let lanes = c.sum_at-sum.ensures.lanes in
    let others = c.other_places-places.ensures in
    let list = c.other_places-places.result.list in
    let parts = c.loop-block.invariant.parts in
    let room : at + 64 ≤ c.args.len = omega arith in
    let within = parts.within role c.requires.role in
    let list_room = place_room parts list c.other_places-places.result.count at others.places room in
    -- nothing was set yet from this block on
    let same : (k : ℕ) → at ≤ k → k < c.args.len → (r : ℕ) → r < roles.disks → part_byte bytes starts r k ≡ part_byte old starts r k = λ k le lt r hr.
    c.loop-block.invariant.outside (get_or starts r 0 + k) (elim (cases_eq r role) [
      | inl e ↦ rw e (inr (omega arith))
      | inr ne ↦ outside_begun start c.args.len at (get_or starts r 0 + k) (omega arith) (apart parts r role k hr c.requires.role ne lt)
    ]) in
    let value : ℕ → ℕ = λ k. bit_xor (bit_xor (p_byte roles (part_bytes roles.disks old starts k)) (part_byte old starts roles.p k)) (part_byte old starts role k) in
    record {
      whole = c.store.auto.into ∙ c.loop-block.invariant.whole;
      parts = subst (λ (size : ℕ). AreParts roles.disks starts c.args.len size) (sym c.store.auto.into) parts;
      done = λ k lt.
          ap (λ (x : List ℕ). get_or x (start + k) 0) c.store.ensures
          ∙ stored_part start at k value bytes v lanes (omega (arith, within))
          (λ i il.
          let le : at ≤ at + i = omega arith in
          let kl : at + i < c.args.len = omega arith in
          c.sum_at-sum.ensures.each i il ∙ plain_behind bytes list c.other_places-places.result.count at i list_room il ∙ others.sum (λ place. get_or bytes (place + (at + i)) 0)
          ∙ rest_of_others roles c.requires.roles role c.requires.role c.requires.not_q (λ r. part_byte bytes starts r (at + i))
          ∙ ap₂ bit_xor (ap₂ bit_xor
          (data_sum-agrees (λ r. 1) roles roles.disks (λ r. part_byte bytes starts r (at + i)) (λ r. part_byte old starts r (at + i)) (λ r hr _. same (at + i) le kl r hr))
          (same (at + i) le kl roles.p c.requires.roles.p)) (same (at + i) le kl role c.requires.role))
          c.loop-block.invariant.done (omega arith);
      outside = λ place o.
          ap (λ (x : List ℕ). get_or x place 0) c.store.ensures
          ∙ kept_part start (at + 64) at place bytes v lanes (omega arith) (outside_begun start ((c.loop-block.block + 1) * 64) (at + 64) place (omega arith) o)
          ∙ c.loop-block.invariant.outside place (outside_begun start ((c.loop-block.block + 1) * 64) at place (omega arith) o);
    }

pub returns-clause-there : goal.returns-clause-there
returns-clause-there c k lt = let cut = c.requires.parts.cut in c.loop-block.invariant.done k (omega arith)

pub returns-clause-others : goal.returns-clause-others
returns-clause-others c place o = c.loop-block.invariant.outside place (outside_begun (get_or c.args.starts.now c.args.role 0) c.args.len (c.loop-block.block * 64) place (omega arith) o)
