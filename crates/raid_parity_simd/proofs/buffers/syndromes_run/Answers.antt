use Rattle.std.proofs.Common.{◌≡◌, ◌≢◌, ◌+◌, ◌*◌, false, Some, length, get_or, ap, ◌∙◌, arith}
use Rattle.raid_parity.specs.Exponents.{is_q, is_data}
use Rattle.raid_parity.proofs.Columns.{data_at_p, data_at_q, q_at, q_of}
use Rattle.raid_parity.proofs.RowBytes.{sector_of-same}
use Rattle.raid_parity_simd.specs.Buffers.{role_sectors}
use Rattle.raid_parity_simd.proofs.Apart.{apart}
use Rattle.raid_parity_simd.proofs.Placed.{plain_set, both_set}
use Rattle.raid_parity_simd.proofs.RowParts.{run_parts, run_place, run_within, run_outside_role, run_outside_row}
use Rattle.raid_parity_simd.proofs.buffers.syndromes_run.Goals as goal

pub set_rest-requires-clause-parts : goal.set_rest-requires-clause-parts
set_rest-requires-clause-parts c =
    run_parts c.args.roles.now c.requires.roles c.buffer_starts-starts.result c.args.first c.args.count c.buffer_starts-starts.ensures (length c.args.buffer.now) c.requires.run

pub set_both-requires-clause-parts : goal.set_both-requires-clause-parts
set_both-requires-clause-parts c =
    run_parts c.args.roles.now c.requires.roles c.buffer_starts-starts.result c.args.first c.args.count c.buffer_starts-starts.ensures (length c.args.buffer.now) c.requires.run

pub returns-in-None-clause-good : goal.returns-in-None-clause-good
returns-in-None-clause-good c i lt_i =
    let roles = c.args.roles.now in
    let is = c.requires.roles in
    let first = c.args.first in
    let count = c.args.count in
    let old = c.args.buffer.now in
    let new = c.set_rest.new.bytes in
    let starts = c.buffer_starts-starts.result in
    let begins = c.buffer_starts-starts.ensures in
    let run = c.requires.run in
    let size = length old in
    let parts = run_parts roles is starts first count begins size run in
    plain_set roles is old new starts (512 * i) (λ r. role_sectors * r + (first + i)) (run_place roles is starts first count begins size run i) c.set_rest.auto.bytes
    (run_within roles is starts first count begins size run i lt_i)
    (λ place. let h = c.type_inv.buffer place in omega (arith, h)) c.in-None.is
    (λ at lt. c.set_rest.ensures.there (512 * i + at) (omega arith))
    (λ r hr ne at lt. c.set_rest.ensures.others (get_or starts r 0 + (512 * i + at)) (apart parts r roles.p (512 * i + at) hr is.p ne (omega arith)))

pub returns-in-None-clause-data : goal.returns-in-None-clause-data
returns-in-None-clause-data c i role hi data_role =
    let roles = c.args.roles.now in
    let ne : role ≢ roles.p = λ e. let other : is_data roles role ≡ false = ap (is_data roles) e ∙ data_at_p roles in absurd (cc) in
    sector_of-same c.args.buffer.now c.set_rest.new.bytes (role_sectors * role + i) c.set_rest.auto.bytes (λ at lt.
    c.set_rest.ensures.others (512 * (role_sectors * role + i) + at)
    (run_outside_role roles c.requires.roles c.buffer_starts-starts.result c.args.first c.args.count c.buffer_starts-starts.ensures (length c.args.buffer.now) c.requires.run
    i role roles.p at hi c.requires.roles.p ne lt))

pub returns-in-None-clause-outside : goal.returns-in-None-clause-outside
returns-in-None-clause-outside c i role hi o =
    let roles = c.args.roles.now in
    sector_of-same c.args.buffer.now c.set_rest.new.bytes (role_sectors * role + i) c.set_rest.auto.bytes (λ at lt.
    c.set_rest.ensures.others (512 * (role_sectors * role + i) + at)
    (run_outside_row roles c.requires.roles c.buffer_starts-starts.result c.args.first c.args.count c.buffer_starts-starts.ensures (length c.args.buffer.now) c.requires.run
    i role roles.p at hi o c.requires.roles.p lt))

pub returns-in-Some-clause-good : goal.returns-in-Some-clause-good
returns-in-Some-clause-good c i lt_i =
    let roles = c.args.roles.now in
    let is = c.requires.roles in
    let q = c.in-Some.q in
    let has_q : roles.q ≡ Some q = c.in-Some.is in
    let first = c.args.first in
    let count = c.args.count in
    let old = c.args.buffer.now in
    let new = c.set_both.new.bytes in
    let starts = c.buffer_starts-starts.result in
    let begins = c.buffer_starts-starts.ensures in
    let run = c.requires.run in
    let size = length old in
    let parts = run_parts roles is starts first count begins size run in
    both_set roles is old new starts (512 * i) (λ r. role_sectors * r + (first + i)) (run_place roles is starts first count begins size run i) c.set_both.auto.bytes
    (run_within roles is starts first count begins size run i lt_i)
    (λ place. let h = c.type_inv.buffer place in omega (arith, h)) q has_q
    (λ at lt. c.set_both.ensures.p (512 * i + at) (omega arith))
    (λ at lt. c.set_both.ensures.q (512 * i + at) (omega arith))
    (λ r hr not_p not_q at lt. c.set_both.ensures.others (get_or starts r 0 + (512 * i + at)) (apart parts r roles.p (512 * i + at) hr is.p not_p (omega arith))
    (apart parts r q (512 * i + at) hr (q_of roles is q has_q).0 not_q (omega arith)))

pub returns-in-Some-clause-data : goal.returns-in-Some-clause-data
returns-in-Some-clause-data c i role hi data_role =
    let roles = c.args.roles.now in
    let is = c.requires.roles in
    let q = c.in-Some.q in
    let has_q : roles.q ≡ Some q = c.in-Some.is in
    let starts = c.buffer_starts-starts.result in
    let begins = c.buffer_starts-starts.ensures in
    let size = length c.args.buffer.now in
    let not_p : role ≢ roles.p = λ e. let other : is_data roles role ≡ false = ap (is_data roles) e ∙ data_at_p roles in absurd (cc) in
    let not_q : role ≢ q = λ e. let other : is_data roles role ≡ false = data_at_q roles role (ap (is_q roles) e ∙ q_at roles q has_q) in absurd (cc) in
    sector_of-same c.args.buffer.now c.set_both.new.bytes (role_sectors * role + i) c.set_both.auto.bytes (λ at lt.
    c.set_both.ensures.others (512 * (role_sectors * role + i) + at)
    (run_outside_role roles is starts c.args.first c.args.count begins size c.requires.run i role roles.p at hi is.p not_p lt)
    (run_outside_role roles is starts c.args.first c.args.count begins size c.requires.run i role q at hi (q_of roles is q has_q).0 not_q lt))

pub returns-in-Some-clause-outside : goal.returns-in-Some-clause-outside
returns-in-Some-clause-outside c i role hi o =
    let roles = c.args.roles.now in
    let is = c.requires.roles in
    let q = c.in-Some.q in
    let has_q : roles.q ≡ Some q = c.in-Some.is in
    let starts = c.buffer_starts-starts.result in
    let begins = c.buffer_starts-starts.ensures in
    let size = length c.args.buffer.now in
    sector_of-same c.args.buffer.now c.set_both.new.bytes (role_sectors * role + i) c.set_both.auto.bytes (λ at lt.
    c.set_both.ensures.others (512 * (role_sectors * role + i) + at)
    (run_outside_row roles is starts c.args.first c.args.count begins size c.requires.run i role roles.p at hi o is.p lt)
    (run_outside_row roles is starts c.args.first c.args.count begins size c.requires.run i role q at hi o (q_of roles is q has_q).0 lt))
