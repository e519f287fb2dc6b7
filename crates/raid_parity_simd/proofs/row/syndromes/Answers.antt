use Rattle.std.proofs.Common.{◌≡◌, ◌≢◌, ◌+◌, ◌*◌, false, Some, get_or, ap, ◌∙◌, arith}
use Rattle.raid_parity.specs.Exponents.{is_q, is_data}
use Rattle.raid_parity.proofs.Columns.{data_at_p, data_at_q, q_at, q_of}
use Rattle.raid_parity.proofs.RowBytes.{sector_of-same}
use Rattle.raid_parity_simd.proofs.Apart.{apart}
use Rattle.raid_parity_simd.proofs.Placed.{plain_set, both_set}
use Rattle.raid_parity_simd.proofs.RowParts.{row_start, row_parts, row_outside}
use Rattle.raid_parity_simd.proofs.row.syndromes.Goals as goal

pub set_rest-requires-clause-parts : goal.set_rest-requires-clause-parts
set_rest-requires-clause-parts c = row_parts c.args.roles.now c.requires.roles c.row_starts-starts.result c.row_starts-starts.ensures c.args.row.now c.requires.whole

pub set_both-requires-clause-parts : goal.set_both-requires-clause-parts
set_both-requires-clause-parts c = row_parts c.args.roles.now c.requires.roles c.row_starts-starts.result c.row_starts-starts.ensures c.args.row.now c.requires.whole

pub returns-in-None-clause-good : goal.returns-in-None-clause-good
returns-in-None-clause-good c =
    let roles = c.args.roles.now in
    let is = c.requires.roles in
    let old = c.args.row.now in
    let new = c.set_rest.new.bytes in
    let starts = c.row_starts-starts.result in
    let begins = row_start roles is starts c.row_starts-starts.ensures in
    let parts = row_parts roles is starts c.row_starts-starts.ensures old c.requires.whole in
    plain_set roles is old new starts 0 (λ r. r) (λ r hr. omega (arith, begins r hr)) c.set_rest.auto.bytes (λ r hr. omega (arith, c.requires.whole))
    (λ place. let h = c.type_inv.row place in omega (arith, h)) c.in-None.is
    (λ at lt. c.set_rest.ensures.there (0 + at) (omega arith))
    (λ r hr ne at lt. c.set_rest.ensures.others (get_or starts r 0 + (0 + at)) (apart parts r roles.p (0 + at) hr is.p ne (omega arith)))

pub returns-in-None-clause-data : goal.returns-in-None-clause-data
returns-in-None-clause-data c role data_role =
    let roles = c.args.roles.now in
    let ne : role ≢ roles.p = λ e. let other : is_data roles role ≡ false = ap (is_data roles) e ∙ data_at_p roles in absurd (cc) in
    sector_of-same c.args.row.now c.set_rest.new.bytes role c.set_rest.auto.bytes (λ at lt.
    c.set_rest.ensures.others (512 * role + at) (row_outside roles c.requires.roles c.row_starts-starts.result c.row_starts-starts.ensures role roles.p at c.requires.roles.p ne lt))

pub returns-in-Some-clause-good : goal.returns-in-Some-clause-good
returns-in-Some-clause-good c =
    let roles = c.args.roles.now in
    let is = c.requires.roles in
    let q = c.in-Some.q in
    let has_q : roles.q ≡ Some q = c.in-Some.is in
    let old = c.args.row.now in
    let new = c.set_both.new.bytes in
    let starts = c.row_starts-starts.result in
    let begins = row_start roles is starts c.row_starts-starts.ensures in
    let parts = row_parts roles is starts c.row_starts-starts.ensures old c.requires.whole in
    both_set roles is old new starts 0 (λ r. r) (λ r hr. omega (arith, begins r hr)) c.set_both.auto.bytes (λ r hr. omega (arith, c.requires.whole))
    (λ place. let h = c.type_inv.row place in omega (arith, h)) q has_q
    (λ at lt. c.set_both.ensures.p (0 + at) (omega arith))
    (λ at lt. c.set_both.ensures.q (0 + at) (omega arith))
    (λ r hr not_p not_q at lt. c.set_both.ensures.others (get_or starts r 0 + (0 + at)) (apart parts r roles.p (0 + at) hr is.p not_p (omega arith))
    (apart parts r q (0 + at) hr (q_of roles is q has_q).0 not_q (omega arith)))

pub returns-in-Some-clause-data : goal.returns-in-Some-clause-data
returns-in-Some-clause-data c role data_role =
    let roles = c.args.roles.now in
    let is = c.requires.roles in
    let q = c.in-Some.q in
    let has_q : roles.q ≡ Some q = c.in-Some.is in
    let not_p : role ≢ roles.p = λ e. let other : is_data roles role ≡ false = ap (is_data roles) e ∙ data_at_p roles in absurd (cc) in
    let not_q : role ≢ q = λ e. let other : is_data roles role ≡ false = data_at_q roles role (ap (is_q roles) e ∙ q_at roles q has_q) in absurd (cc) in
    sector_of-same c.args.row.now c.set_both.new.bytes role c.set_both.auto.bytes (λ at lt.
    c.set_both.ensures.others (512 * role + at)
    (row_outside roles is c.row_starts-starts.result c.row_starts-starts.ensures role roles.p at is.p not_p lt)
    (row_outside roles is c.row_starts-starts.result c.row_starts-starts.ensures role q at (q_of roles is q has_q).0 not_q lt))
