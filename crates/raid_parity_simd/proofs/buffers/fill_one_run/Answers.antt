use Rattle.std.proofs.Common.{◌≡◌, ℕ, ◌+◌, ◌*◌, false, Some, length, get_or, sym, ap, ◌∙◌, arith, subst}
use Rattle.raid_parity.specs.Exponents.{is_q, is_this_q}
use Rattle.raid_parity.specs.Parity.{q_byte}
use Rattle.raid_parity.proofs.Columns.{q_not_at}
use Rattle.raid_parity.proofs.RowBytes.{sector_of-same}
use Rattle.raid_parity_simd.specs.Buffers.{role_sectors}
use Rattle.raid_parity_simd.specs.Parts.{part_byte, part_bytes}
use Rattle.raid_parity_simd.proofs.Apart.{apart}
use Rattle.raid_parity_simd.proofs.Placed.{q_filled, rest_filled}
use Rattle.raid_parity_simd.proofs.RowParts.{run_parts, run_place, run_within, run_outside_role, run_outside_row}
use Rattle.raid_parity_simd.proofs.buffers.fill_one_run.Goals as goal
use Rattle.raid_parity_simd.proofs.buffers.fill_one_run.Goals.{in-Some+else-q-missing, in_default}

pub set_q-requires-clause-parts : goal.set_q-requires-clause-parts
set_q-requires-clause-parts c =
    run_parts c.args.roles.now c.requires.roles c.buffer_starts-starts.result c.args.first c.args.count c.buffer_starts-starts.ensures (length c.args.buffer.now) c.requires.run

pub set_rest-requires-clause-parts : goal.set_rest-requires-clause-parts
set_rest-requires-clause-parts c =
    run_parts c.args.roles.now c.requires.roles c.buffer_starts-starts.result c.args.first c.args.count c.buffer_starts-starts.ensures (length c.args.buffer.now) c.requires.run

pub returns-then-q-missing-clause-filled : goal.returns-then-q-missing-clause-filled
returns-then-q-missing-clause-filled c i lt_i =
    let roles = c.args.roles.now in
    let is = c.requires.roles in
    let m = c.args.missing in
    let hm = c.requires.missing in
    let first = c.args.first in
    let count = c.args.count in
    let old = c.args.buffer.now in
    let new = c.set_q.new.bytes in
    let e : c.in-Some.q ≡ m = c.if-q-missing.true in
    let has_q : roles.q ≡ Some m = c.in-Some.is ∙ ap (λ (q : ℕ). Some q) e in
    let starts = c.buffer_starts-starts.result in
    let begins = c.buffer_starts-starts.ensures in
    let run = c.requires.run in
    let size = length old in
    let parts = run_parts roles is starts first count begins size run in
    q_filled roles is old new starts (512 * i) (λ r. role_sectors * r + (first + i)) (run_place roles is starts first count begins size run i) c.set_q.auto.bytes
    (run_within roles is starts first count begins size run i lt_i)
    (λ place. let h = c.type_inv.buffer place in omega (arith, h)) m hm
    (λ r hr ne at lt. c.set_q.ensures.others (get_or starts r 0 + (512 * i + at)) (rw e (apart parts r m (512 * i + at) hr hm ne (omega arith))))
    has_q
    (λ at lt. subst (λ (r : ℕ). part_byte new starts r (512 * i + at) ≡ q_byte roles r (part_bytes roles.disks old starts (512 * i + at))) e
    (c.set_q.ensures.there (512 * i + at) (omega arith)))

pub returns-then-q-missing-clause-others : goal.returns-then-q-missing-clause-others
returns-then-q-missing-clause-others c i role hi ne =
    let e : c.in-Some.q ≡ c.args.missing = c.if-q-missing.true in
    sector_of-same c.args.buffer.now c.set_q.new.bytes (role_sectors * role + i) c.set_q.auto.bytes (λ at lt.
    c.set_q.ensures.others (512 * (role_sectors * role + i) + at)
    (rw e (run_outside_role c.args.roles.now c.requires.roles c.buffer_starts-starts.result c.args.first c.args.count c.buffer_starts-starts.ensures (length c.args.buffer.now) c.requires.run
    i role c.args.missing at hi c.requires.missing ne lt)))

pub returns-then-q-missing-clause-outside : goal.returns-then-q-missing-clause-outside
returns-then-q-missing-clause-outside c i role hi o =
    let e : c.in-Some.q ≡ c.args.missing = c.if-q-missing.true in
    sector_of-same c.args.buffer.now c.set_q.new.bytes (role_sectors * role + i) c.set_q.auto.bytes (λ at lt.
    c.set_q.ensures.others (512 * (role_sectors * role + i) + at)
    (rw e (run_outside_row c.args.roles.now c.requires.roles c.buffer_starts-starts.result c.args.first c.args.count c.buffer_starts-starts.ensures (length c.args.buffer.now) c.requires.run
    i role c.args.missing at hi o c.requires.missing lt)))

pub returns-clause-filled : goal.returns-clause-filled
returns-clause-filled c i lt_i =
    let roles = c.args.roles.now in
    let is = c.requires.roles in
    let m = c.args.missing in
    let hm = c.requires.missing in
    let first = c.args.first in
    let count = c.args.count in
    let old = c.args.buffer.now in
    let new = c.set_rest.new.bytes in
    let not_q : is_q roles m ≡ false = elim c.match-roles.branch [
      | in-Some+else-q-missing w ↦ q_not_at roles w.in-Some.q m w.in-Some.is (λ same. w.if-q-missing.false (sym same))
      | in_default w ↦ ap (λ o. is_this_q o m) w.in_default.is
    ] in
    let starts = c.buffer_starts-starts.result in
    let begins = c.buffer_starts-starts.ensures in
    let run = c.requires.run in
    let size = length old in
    let parts = run_parts roles is starts first count begins size run in
    rest_filled roles is old new starts (512 * i) (λ r. role_sectors * r + (first + i)) (run_place roles is starts first count begins size run i) c.set_rest.auto.bytes
    (run_within roles is starts first count begins size run i lt_i)
    (λ place. let h = c.type_inv.buffer place in omega (arith, h)) m hm
    (λ r hr ne at lt. c.set_rest.ensures.others (get_or starts r 0 + (512 * i + at)) (apart parts r m (512 * i + at) hr hm ne (omega arith)))
    not_q
    (λ at lt. c.set_rest.ensures.there (512 * i + at) (omega arith))

pub returns-clause-others : goal.returns-clause-others
returns-clause-others c i role hi ne =
    sector_of-same c.args.buffer.now c.set_rest.new.bytes (role_sectors * role + i) c.set_rest.auto.bytes (λ at lt.
    c.set_rest.ensures.others (512 * (role_sectors * role + i) + at)
    (run_outside_role c.args.roles.now c.requires.roles c.buffer_starts-starts.result c.args.first c.args.count c.buffer_starts-starts.ensures (length c.args.buffer.now) c.requires.run
    i role c.args.missing at hi c.requires.missing ne lt))

pub returns-clause-outside : goal.returns-clause-outside
returns-clause-outside c i role hi o =
    sector_of-same c.args.buffer.now c.set_rest.new.bytes (role_sectors * role + i) c.set_rest.auto.bytes (λ at lt.
    c.set_rest.ensures.others (512 * (role_sectors * role + i) + at)
    (run_outside_row c.args.roles.now c.requires.roles c.buffer_starts-starts.result c.args.first c.args.count c.buffer_starts-starts.ensures (length c.args.buffer.now) c.requires.run
    i role c.args.missing at hi o c.requires.missing lt))
