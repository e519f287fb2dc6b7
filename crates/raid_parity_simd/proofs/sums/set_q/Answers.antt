use Rattle.std.proofs.Common.{◌≡◌, ◌≢◌, ℕ, ◌+◌, ◌*◌, ◌<◌, ◌≤◌, false, List, get_or, sym, ap, ◌∙◌, arith, subst}
use Rattle.raid_parity.specs.raid_gf256_Field.{power_of_two}
use Rattle.raid_parity.specs.Exponents.{is_q, is_data, exponent}
use Rattle.raid_parity.specs.Parity.{q_byte}
use Rattle.raid_parity.proofs.Columns.{data_at_q, q_at, q_of, data_sum-agrees}
use Rattle.raid_parity_simd.specs.Parts.{AreParts, part_byte, part_bytes}
use Rattle.raid_parity_simd.proofs.Apart.{apart, stored_part, kept_part, outside_begun, place_room}
use Rattle.raid_parity_simd.proofs.Behind.{behind-room, behind_byte, weighed_behind}
use Rattle.raid_parity_simd.proofs.sums.set_q.Goals as goal

pub both_at-sums-requires-clause-few : goal.both_at-sums-requires-clause-few
both_at-sums-requires-clause-few c = omega (arith, c.data_places-places.ensures.places.few, c.requires.roles.most)

pub both_at-sums-requires-clause-room : goal.both_at-sums-requires-clause-room
both_at-sums-requires-clause-room c j lt =
    behind-room c.loop-block.bytes (c.loop-block.block * 64) (get_or c.data_places-places.result.list j 0)
    (place_room c.loop-block.invariant.parts c.data_places-places.result.list c.data_places-places.result.count (c.loop-block.block * 64) c.data_places-places.ensures.places (omega arith) j lt)

pub loop-block-preserved : goal.loop-block-preserved
loop-block-preserved c =
    let roles = c.args.roles.now in
    let q = c.args.q in
    let has_q = c.requires.q in
    let below : q < roles.disks = (q_of roles c.requires.roles q has_q).0 in
    let starts = c.args.starts.now in
    let start : ℕ = get_or starts q 0 in
    let old = c.args.bytes.now in
    let bytes = c.loop-block.bytes in
    let at : ℕ = c.loop-block.block * 64 in
    let sums = c.both_at-sums in
    let places = c.data_places-places.ensures in
    let list = c.data_places-places.result.list in
    let parts = c.loop-block.invariant.parts in
    let room : at + 64 ≤ c.args.len = omega arith in
    let list_room = place_room parts list c.data_places-places.result.count at places.places room in
    let small : (i : ℕ) → i < 64 → (r : ℕ) → r < roles.disks → get_or bytes (get_or starts r 0 + (at + i)) 0 < 256 = λ i il r hr.
    let fits = parts.within r hr in
    let e = behind_byte bytes at (get_or starts r 0) i (omega (arith, fits)) il in
    let h = sums.ensures.bytes (get_or starts r 0 + i) in
    omega (arith, e, h) in
    let within = parts.within q below in
    -- the data are those of before
    let same : (k : ℕ) → k < c.args.len → q_byte roles q (part_bytes roles.disks bytes starts k) ≡ q_byte roles q (part_bytes roles.disks old starts k) = λ k lt.
    data_sum-agrees (λ role. power_of_two (exponent roles q role)) roles roles.disks (λ r. part_byte bytes starts r k) (λ r. part_byte old starts r k) (λ r hr data_r.
    let ne : r ≢ q = λ e. let other : is_data roles r ≡ false = data_at_q roles r (ap (is_q roles) e ∙ q_at roles q has_q) in absurd (cc) in
    c.loop-block.invariant.outside (get_or starts r 0 + k) (outside_begun start c.args.len at (get_or starts r 0 + k) (omega arith) (apart parts r q k hr below ne lt))) in
    record {
      whole = c.store.auto.into ∙ c.loop-block.invariant.whole;
      parts = subst (λ (size : ℕ). AreParts roles.disks starts c.args.len size) (sym c.store.auto.into) parts;
      done = λ k lt.
          ap (λ (x : List ℕ). get_or x (start + k) 0) c.store.ensures
          ∙ stored_part start at k (λ k. q_byte roles q (part_bytes roles.disks old starts k)) bytes sums.result.weighed sums.ensures.weighed_lanes (omega (arith, within))
          (λ i il. sums.ensures.weighed i il ∙ weighed_behind bytes list c.data_places-places.result.count at i list_room il ∙ places.weighed (λ place. get_or bytes (place + (at + i)) 0) (small i il) ∙ same (at + i) (omega arith))
          c.loop-block.invariant.done (omega arith);
      outside = λ place o.
          ap (λ (x : List ℕ). get_or x place 0) c.store.ensures
          ∙ kept_part start (at + 64) at place bytes sums.result.weighed sums.ensures.weighed_lanes (omega arith) (outside_begun start ((c.loop-block.block + 1) * 64) (at + 64) place (omega arith) o)
          ∙ c.loop-block.invariant.outside place (outside_begun start ((c.loop-block.block + 1) * 64) at place (omega arith) o);
    }

pub returns-clause-there : goal.returns-clause-there
returns-clause-there c k lt = let cut = c.requires.parts.cut in c.loop-block.invariant.done k (omega arith)

pub returns-clause-others : goal.returns-clause-others
returns-clause-others c place o = c.loop-block.invariant.outside place (outside_begun (get_or c.args.starts.now c.args.q 0) c.args.len (c.loop-block.block * 64) place (omega arith) o)
