use Rattle.std.proofs.Common.{◌≡◌, ℕ, ◌+◌, ◌<◌, ◌≤◌, length, get_or, refl, ap, ap₂, ◌∙◌, arith}
use Rattle.std.specs.Int.Bits.{bit_xor}
use Rattle.raid_parity.specs.Parity.{p_byte, q_byte}
use Rattle.raid_parity.proofs.Columns.{tabulate-same, q_of}
use Rattle.raid_parity_simd.specs.Parts.{part_byte, emptied}
use Rattle.raid_parity_simd.proofs.Apart.{place_room}
use Rattle.raid_parity_simd.proofs.Behind.{behind-room, behind_byte, plain_behind, weighed_behind}
use Rattle.raid_parity_simd.proofs.Emptied.{cleared_byte, cleared_outside}
use Rattle.raid_parity_simd.proofs.Lanes.{xor-len, xor_lane, loaded_place}
use Rattle.raid_parity_simd.proofs.solve.cleared_rests.Goals as goal

pub both_at-sums-requires-clause-few : goal.both_at-sums-requires-clause-few
both_at-sums-requires-clause-few c = omega (arith, c.requires.places.places.few, c.requires.roles.most)

pub both_at-sums-requires-clause-room : goal.both_at-sums-requires-clause-room
both_at-sums-requires-clause-room c j lt =
    let list = c.args.places.now.list in
    let fits = place_room c.requires.parts list c.args.places.now.count c.args.at c.requires.places.places c.requires.at j lt in
    behind-room c.store-2.new.into c.args.at (get_or list j 0) (omega (arith, fits, c.store-2.auto.into, c.store.auto.into))

pub returns-clause-plain_lanes : goal.returns-clause-plain_lanes
returns-clause-plain_lanes c = xor-len c.both_at-sums.result.plain c.load-p.result c.both_at-sums.ensures.plain_lanes c.load-p.ensures.lanes

pub returns-clause-weighed_lanes : goal.returns-clause-weighed_lanes
returns-clause-weighed_lanes c = xor-len c.both_at-sums.result.weighed c.load-weighed.result c.both_at-sums.ensures.weighed_lanes c.load-weighed.ensures.lanes

pub returns-clause-plain : goal.returns-clause-plain
returns-clause-plain c i lt =
    let roles = c.args.roles.now in
    let starts = c.args.starts.now in
    let old = c.args.bytes.now in
    let mid = c.store.new.into in
    let new = c.store-2.new.into in
    let at = c.args.at in
    let list = c.args.places.now.list in
    let size : length new ≡ length old = c.store-2.auto.into ∙ c.store.auto.into in
    let list_room : (j : ℕ) → j < c.args.places.now.count → get_or list j 0 + at + 64 ≤ length new = λ j jl.
    let fits = place_room c.requires.parts list c.args.places.now.count at c.requires.places.places c.requires.at j jl in
    omega (arith, fits, size) in
    let small : (r : ℕ) → r < roles.disks → get_or new (get_or starts r 0 + (at + i)) 0 < 256 = λ r hr.
    let fits = c.requires.parts.within r hr in
    let e = behind_byte new at (get_or starts r 0) i (omega (arith, fits, size)) lt in
    let h = c.both_at-sums.ensures.bytes (get_or starts r 0 + i) in
    omega (arith, e, h) in
    let f : ℕ → ℕ = emptied (λ role. part_byte old starts role (at + i)) c.args.first c.args.second in
    let byte : (r : ℕ) → r < roles.disks → part_byte new starts r (at + i) ≡ f r = λ r hr.
    cleared_byte c.requires.parts old mid new c.args.first c.args.second at c.requires.first c.requires.second c.requires.at refl c.store.auto.into c.store.ensures c.store-2.ensures i r lt hr in
    xor_lane c.both_at-sums.result.plain c.load-p.result i c.both_at-sums.ensures.plain_lanes c.load-p.ensures.lanes lt
    ∙ ap₂ bit_xor
    (c.both_at-sums.ensures.plain i lt ∙ plain_behind new list c.args.places.now.count at i list_room lt ∙ c.requires.places.plain (λ place. get_or new (place + (at + i)) 0) small ∙ ap (p_byte roles) (tabulate-same roles.disks (λ r. part_byte new starts r (at + i)) f byte))
    (loaded_place new c.load-p.result (get_or starts roles.p 0) at i c.load-p.ensures.value lt ∙ byte roles.p c.requires.roles.p)

pub returns-clause-weighed : goal.returns-clause-weighed
returns-clause-weighed c i lt =
    let roles = c.args.roles.now in
    let q = c.args.q in
    let starts = c.args.starts.now in
    let old = c.args.bytes.now in
    let mid = c.store.new.into in
    let new = c.store-2.new.into in
    let at = c.args.at in
    let list = c.args.places.now.list in
    let size : length new ≡ length old = c.store-2.auto.into ∙ c.store.auto.into in
    let list_room : (j : ℕ) → j < c.args.places.now.count → get_or list j 0 + at + 64 ≤ length new = λ j jl.
    let fits = place_room c.requires.parts list c.args.places.now.count at c.requires.places.places c.requires.at j jl in
    omega (arith, fits, size) in
    let small : (r : ℕ) → r < roles.disks → get_or new (get_or starts r 0 + (at + i)) 0 < 256 = λ r hr.
    let fits = c.requires.parts.within r hr in
    let e = behind_byte new at (get_or starts r 0) i (omega (arith, fits, size)) lt in
    let h = c.both_at-sums.ensures.bytes (get_or starts r 0 + i) in
    omega (arith, e, h) in
    let f : ℕ → ℕ = emptied (λ role. part_byte old starts role (at + i)) c.args.first c.args.second in
    let byte : (r : ℕ) → r < roles.disks → part_byte new starts r (at + i) ≡ f r = λ r hr.
    cleared_byte c.requires.parts old mid new c.args.first c.args.second at c.requires.first c.requires.second c.requires.at refl c.store.auto.into c.store.ensures c.store-2.ensures i r lt hr in
    xor_lane c.both_at-sums.result.weighed c.load-weighed.result i c.both_at-sums.ensures.weighed_lanes c.load-weighed.ensures.lanes lt
    ∙ ap₂ bit_xor
    (c.both_at-sums.ensures.weighed i lt ∙ weighed_behind new list c.args.places.now.count at i list_room lt ∙ c.requires.places.weighed (λ place. get_or new (place + (at + i)) 0) small ∙ ap (q_byte roles q) (tabulate-same roles.disks (λ r. part_byte new starts r (at + i)) f byte))
    (loaded_place new c.load-weighed.result (get_or starts q 0) at i c.load-weighed.ensures.value lt ∙ byte q (q_of roles c.requires.roles q c.requires.q).0)

pub returns-clause-others : goal.returns-clause-others
returns-clause-others c place oa ob =
    cleared_outside c.requires.parts c.args.bytes.now c.store.new.into c.store-2.new.into c.args.first c.args.second c.args.at c.requires.first c.requires.second c.requires.at refl
    c.store.auto.into c.store.ensures c.store-2.ensures place oa ob
