use Rattle.std.proofs.Common.{◌≡◌, ◌≢◌, ℕ, ◌+◌, ◌*◌, ◌<◌, ◌≤◌, true, false, List, length, get_or, sym, ap, ◌∙◌, arith, subst}
use Rattle.raid_parity.specs.raid_gf256_Field.{power_of_two}
use Rattle.raid_parity.specs.Exponents.{is_q, is_data, exponent}
use Rattle.raid_parity.specs.Parity.{p_byte, q_byte}
use Rattle.raid_parity.proofs.Columns.{data_at_p, data_at_q, q_at, q_of, data_sum-agrees}
use Rattle.raid_parity_simd.specs.Parts.{AreParts, part_byte, part_bytes}
use Rattle.raid_parity_simd.proofs.Apart.{apart, stored_part, kept_part, outside_begun, place_room}
use Rattle.raid_parity_simd.proofs.Behind.{behind-room, behind_byte, plain_behind, weighed_behind}
use Rattle.raid_parity_simd.proofs.sums.set_both.Goals as goal

pub both_at-sums-requires-clause-few : goal.both_at-sums-requires-clause-few
both_at-sums-requires-clause-few c = omega (arith, c.data_places-places.ensures.places.few, c.requires.roles.most)

pub both_at-sums-requires-clause-room : goal.both_at-sums-requires-clause-room
both_at-sums-requires-clause-room c j lt =
    behind-room c.loop-block.bytes (c.loop-block.block * 64) (get_or c.data_places-places.result.list j 0)
    (place_room c.loop-block.invariant.parts c.data_places-places.result.list c.data_places-places.result.count (c.loop-block.block * 64) c.data_places-places.ensures.places (omega arith) j lt)

pub loop-block-preserved : goal.loop-block-preserved
loop-block-preserved c =
    let roles = c.args.roles.now in
    let p = roles.p in
    let q = c.args.q in
    let has_q = c.requires.q in
    let hp : p < roles.disks = c.requires.roles.p in
    let hq : q < roles.disks = (q_of roles c.requires.roles q has_q).0 in
    let differ : q ≢ p = (q_of roles c.requires.roles q has_q).1 in
    let starts = c.args.starts.now in
    let p_start : ℕ = get_or starts p 0 in
    let q_start : ℕ = get_or starts q 0 in
    let old = c.args.bytes.now in
    let bytes = c.loop-block.bytes in
    let mid = c.store.new.into in
    let at : ℕ = c.loop-block.block * 64 in
    let next : ℕ = (c.loop-block.block + 1) * 64 in
    let sums = c.both_at-sums in
    let places = c.data_places-places.ensures in
    let list = c.data_places-places.result.list in
    let parts = c.loop-block.invariant.parts in
    let room : at + 64 ≤ c.args.len = omega arith in
    let list_room = place_room parts list c.data_places-places.result.count at places.places room in
    let small : (i : ℕ) → i < 64 → (r : ℕ) → r < roles.disks → get_or bytes (get_or starts r 0 + (at + i)) 0 < 256 = λ i il r hr.
    let fits = parts.within r hr in
    let e = behind_byte bytes at (get_or starts r 0) i (omega (arith, fits)) il in
    let h = sums.ensures.bytes (get_or starts r 0 + i) in
    omega (arith, e, h) in
    let step : next ≡ at + 64 = omega arith in
    let p_within = parts.within p hp in
    let q_within = parts.within q hq in
    let mid_size : length mid ≡ length bytes = c.store.auto.into in
    -- the data are those of before
    let same : (k : ℕ) → k < c.args.len → (r : ℕ) → r < roles.disks → is_data roles r ≡ true → part_byte bytes starts r k ≡ part_byte old starts r k = λ k lt r hr data_r.
    let not_p : r ≢ p = λ e. let other : is_data roles r ≡ false = ap (is_data roles) e ∙ data_at_p roles in absurd (cc) in
    let not_q : r ≢ q = λ e. let other : is_data roles r ≡ false = data_at_q roles r (ap (is_q roles) e ∙ q_at roles q has_q) in absurd (cc) in
    c.loop-block.invariant.outside (get_or starts r 0 + k)
    (outside_begun p_start c.args.len at (get_or starts r 0 + k) (omega arith) (apart parts r p k hr hp not_p lt))
    (outside_begun q_start c.args.len at (get_or starts r 0 + k) (omega arith) (apart parts r q k hr hq not_q lt)) in
    let p_same : (k : ℕ) → k < c.args.len → p_byte roles (part_bytes roles.disks bytes starts k) ≡ p_byte roles (part_bytes roles.disks old starts k) = λ k lt.
    data_sum-agrees (λ role. 1) roles roles.disks (λ r. part_byte bytes starts r k) (λ r. part_byte old starts r k) (same k lt) in
    let q_same : (k : ℕ) → k < c.args.len → q_byte roles q (part_bytes roles.disks bytes starts k) ≡ q_byte roles q (part_bytes roles.disks old starts k) = λ k lt.
    data_sum-agrees (λ role. power_of_two (exponent roles q role)) roles roles.disks (λ r. part_byte bytes starts r k) (λ r. part_byte old starts r k) (same k lt) in
    record {
      whole = c.store-in-loop-block.auto.into ∙ mid_size ∙ c.loop-block.invariant.whole;
      parts = subst (λ (size : ℕ). AreParts roles.disks starts c.args.len size) (sym (c.store-in-loop-block.auto.into ∙ mid_size)) parts;
      p = λ k lt.
          ap (λ (x : List ℕ). get_or x (p_start + k) 0) c.store-in-loop-block.ensures
          ∙ kept_part q_start c.args.len at (p_start + k) mid sums.result.weighed sums.ensures.weighed_lanes room (apart parts p q k hp hq (λ e. differ (sym e)) (omega arith))
          ∙ ap (λ (x : List ℕ). get_or x (p_start + k) 0) c.store.ensures
          ∙ stored_part p_start at k (λ k. p_byte roles (part_bytes roles.disks old starts k)) bytes sums.result.plain sums.ensures.plain_lanes (omega (arith, p_within))
          (λ i il. sums.ensures.plain i il ∙ plain_behind bytes list c.data_places-places.result.count at i list_room il ∙ places.plain (λ place. get_or bytes (place + (at + i)) 0) (small i il) ∙ p_same (at + i) (omega arith))
          c.loop-block.invariant.p (omega arith);
      q = λ k lt.
          ap (λ (x : List ℕ). get_or x (q_start + k) 0) c.store-in-loop-block.ensures
          ∙ stored_part q_start at k (λ k. q_byte roles q (part_bytes roles.disks old starts k)) mid sums.result.weighed sums.ensures.weighed_lanes (omega (arith, q_within, mid_size))
          (λ i il. sums.ensures.weighed i il ∙ weighed_behind bytes list c.data_places-places.result.count at i list_room il ∙ places.weighed (λ place. get_or bytes (place + (at + i)) 0) (small i il) ∙ q_same (at + i) (omega arith))
          (λ i il.
          ap (λ (x : List ℕ). get_or x (q_start + i) 0) c.store.ensures
          ∙ kept_part p_start c.args.len at (q_start + i) bytes sums.result.plain sums.ensures.plain_lanes room (apart parts q p i hq hp differ (omega arith))
          ∙ c.loop-block.invariant.q i il)
          (omega arith);
      outside = λ place op oq.
          ap (λ (x : List ℕ). get_or x place 0) c.store-in-loop-block.ensures
          ∙ kept_part q_start (at + 64) at place mid sums.result.weighed sums.ensures.weighed_lanes (omega arith) (outside_begun q_start next (at + 64) place (omega arith) oq)
          ∙ ap (λ (x : List ℕ). get_or x place 0) c.store.ensures
          ∙ kept_part p_start (at + 64) at place bytes sums.result.plain sums.ensures.plain_lanes (omega arith) (outside_begun p_start next (at + 64) place (omega arith) op)
          ∙ c.loop-block.invariant.outside place (outside_begun p_start next at place (omega arith) op) (outside_begun q_start next at place (omega arith) oq);
    }

pub returns-clause-p : goal.returns-clause-p
returns-clause-p c k lt = let cut = c.requires.parts.cut in c.loop-block.invariant.p k (omega arith)

pub returns-clause-q : goal.returns-clause-q
returns-clause-q c k lt = let cut = c.requires.parts.cut in c.loop-block.invariant.q k (omega arith)

pub returns-clause-others : goal.returns-clause-others
returns-clause-others c place op oq =
    c.loop-block.invariant.outside place
    (outside_begun (get_or c.args.starts.now c.args.roles.now.p 0) c.args.len (c.loop-block.block * 64) place (omega arith) op)
    (outside_begun (get_or c.args.starts.now c.args.q 0) c.args.len (c.loop-block.block * 64) place (omega arith) oq)
