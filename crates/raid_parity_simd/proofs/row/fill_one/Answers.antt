use Rattle.std.proofs.Common.{◌≡◌, ℕ, ◌+◌, ◌*◌, false, Some, get_or, sym, ap, ◌∙◌, arith, subst}
use Rattle.raid_parity.specs.Exponents.{is_q, is_this_q}
use Rattle.raid_parity.specs.Parity.{q_byte}
use Rattle.raid_parity.proofs.Columns.{q_not_at}
use Rattle.raid_parity.proofs.RowBytes.{sector_of-same}
use Rattle.raid_parity_simd.specs.Parts.{part_byte, part_bytes}
use Rattle.raid_parity_simd.proofs.Apart.{apart}
use Rattle.raid_parity_simd.proofs.Placed.{q_filled, rest_filled}
use Rattle.raid_parity_simd.proofs.RowParts.{row_start, row_parts, row_outside}
use Rattle.raid_parity_simd.proofs.row.fill_one.Goals as goal
use Rattle.raid_parity_simd.proofs.row.fill_one.Goals.{in-Some+else-q-missing, in_default}

pub set_q-requires-clause-parts : goal.set_q-requires-clause-parts
set_q-requires-clause-parts c = row_parts c.args.roles.now c.requires.roles c.row_starts-starts.result c.row_starts-starts.ensures c.args.row.now c.requires.whole

pub set_rest-requires-clause-parts : goal.set_rest-requires-clause-parts
set_rest-requires-clause-parts c = row_parts c.args.roles.now c.requires.roles c.row_starts-starts.result c.row_starts-starts.ensures c.args.row.now c.requires.whole

pub returns-then-q-missing-clause-filled : goal.returns-then-q-missing-clause-filled
returns-then-q-missing-clause-filled c =
    let roles = c.args.roles.now in
    let is = c.requires.roles in
    let m = c.args.missing in
    let hm = c.requires.missing in
    let old = c.args.row.now in
    let new = c.set_q.new.bytes in
    let e : c.in-Some.q ≡ m = c.if-q-missing.true in
    let has_q : roles.q ≡ Some m = c.in-Some.is ∙ ap (λ (q : ℕ). Some q) e in
    let starts = c.row_starts-starts.result in
    let begins = row_start roles is starts c.row_starts-starts.ensures in
    let parts = row_parts roles is starts c.row_starts-starts.ensures old c.requires.whole in
    q_filled roles is old new starts 0 (λ r. r) (λ r hr. omega (arith, begins r hr)) c.set_q.auto.bytes (λ r hr. omega (arith, c.requires.whole))
    (λ place. let h = c.type_inv.row place in omega (arith, h)) m hm
    (λ r hr ne at lt. c.set_q.ensures.others (get_or starts r 0 + (0 + at)) (rw e (apart parts r m (0 + at) hr hm ne (omega arith))))
    has_q
    (λ at lt. subst (λ (r : ℕ). part_byte new starts r (0 + at) ≡ q_byte roles r (part_bytes roles.disks old starts (0 + at))) e (c.set_q.ensures.there (0 + at) (omega arith)))

pub returns-then-q-missing-clause-others : goal.returns-then-q-missing-clause-others
returns-then-q-missing-clause-others c role ne =
    let roles = c.args.roles.now in
    let e : c.in-Some.q ≡ c.args.missing = c.if-q-missing.true in
    sector_of-same c.args.row.now c.set_q.new.bytes role c.set_q.auto.bytes (λ at lt.
    c.set_q.ensures.others (512 * role + at)
    (rw e (row_outside roles c.requires.roles c.row_starts-starts.result c.row_starts-starts.ensures role c.args.missing at c.requires.missing ne lt)))

pub returns-clause-filled : goal.returns-clause-filled
returns-clause-filled c =
    let roles = c.args.roles.now in
    let is = c.requires.roles in
    let m = c.args.missing in
    let hm = c.requires.missing in
    let old = c.args.row.now in
    let new = c.set_rest.new.bytes in
    let not_q : is_q roles m ≡ false = elim c.match-roles.branch [
      | in-Some+else-q-missing w ↦ q_not_at roles w.in-Some.q m w.in-Some.is (λ same. w.if-q-missing.false (sym same))
      | in_default w ↦ ap (λ o. is_this_q o m) w.in_default.is
    ] in
    let starts = c.row_starts-starts.result in
    let begins = row_start roles is starts c.row_starts-starts.ensures in
    let parts = row_parts roles is starts c.row_starts-starts.ensures old c.requires.whole in
    rest_filled roles is old new starts 0 (λ r. r) (λ r hr. omega (arith, begins r hr)) c.set_rest.auto.bytes (λ r hr. omega (arith, c.requires.whole))
    (λ place. let h = c.type_inv.row place in omega (arith, h)) m hm
    (λ r hr ne at lt. c.set_rest.ensures.others (get_or starts r 0 + (0 + at)) (apart parts r m (0 + at) hr hm ne (omega arith)))
    not_q
    (λ at lt. c.set_rest.ensures.there (0 + at) (omega arith))

pub returns-clause-others : goal.returns-clause-others
returns-clause-others c role ne =
    sector_of-same c.args.row.now c.set_rest.new.bytes role c.set_rest.auto.bytes (λ at lt.
    c.set_rest.ensures.others (512 * role + at)
    (row_outside c.args.roles.now c.requires.roles c.row_starts-starts.result c.row_starts-starts.ensures role c.args.missing at c.requires.missing ne lt))
