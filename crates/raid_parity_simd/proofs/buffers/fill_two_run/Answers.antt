use Rattle.std.proofs.Common.{ℕ, ◌+◌, ◌*◌, ◌<◌, length, get_or, arith}
use Rattle.raid_parity.proofs.RowBytes.{sector_of-same}
use Rattle.raid_parity_simd.specs.Buffers.{role_sectors}
use Rattle.raid_parity_simd.proofs.Apart.{apart}
use Rattle.raid_parity_simd.proofs.Placed.{two_solved}
use Rattle.raid_parity_simd.proofs.RowParts.{run_parts, run_place, run_within, run_outside_role, run_outside_row}
use Rattle.raid_parity_simd.proofs.buffers.fill_two_run.Goals as goal

pub set_two-requires-clause-parts : goal.set_two-requires-clause-parts
set_two-requires-clause-parts c =
    run_parts c.args.roles.now c.requires.roles c.buffer_starts.result c.args.first c.args.count c.buffer_starts.ensures (length c.args.buffer.now) c.requires.run

pub returns : goal.returns
returns c =
    let roles = c.args.roles.now in
    let is = c.requires.roles in
    let q = c.unwrap-q.result in
    let a = c.args.one in
    let b = c.args.two in
    let ha = c.requires.one in
    let hb = c.requires.two in
    let first = c.args.first in
    let count = c.args.count in
    let old = c.args.buffer.now in
    let new = c.set_two.new.bytes in
    let starts = c.buffer_starts.result in
    let begins = c.buffer_starts.ensures in
    let run = c.requires.run in
    let size = length old in
    let parts = run_parts roles is starts first count begins size run in
    let factors = c.factors_of-factors.result in
    let filled = λ (i : ℕ) (lt_i : i < count).
    two_solved roles is old new starts (512 * i) (λ r. role_sectors * r + (first + i)) (run_place roles is starts first count begins size run i) c.set_two.auto.bytes
    (run_within roles is starts first count begins size run i lt_i)
    (λ place. let h = c.type_inv.buffer place in omega (arith, h)) q c.unwrap-q.ensures a b ha hb c.requires.differ
    (λ r hr na nb at lt. c.set_two.ensures.others (get_or starts r 0 + (512 * i + at)) (apart parts r a (512 * i + at) hr ha na (omega arith)) (apart parts r b (512 * i + at) hr hb nb (omega arith)))
    factors.first_plain factors.first_weighed factors.second_plain factors.second_weighed c.factors_of-factors.ensures
    (λ at lt. c.set_two.ensures.first (512 * i + at) (omega arith))
    (λ at lt. c.set_two.ensures.second (512 * i + at) (omega arith)) in
    record {
      one = λ i lt_i. filled i lt_i a ha;
      two = λ i lt_i. filled i lt_i b hb;
      others = λ i role hi na nb.
          sector_of-same old new (role_sectors * role + i) c.set_two.auto.bytes (λ at lt.
          c.set_two.ensures.others (512 * (role_sectors * role + i) + at)
          (run_outside_role roles is starts first count begins size run i role a at hi ha na lt)
          (run_outside_role roles is starts first count begins size run i role b at hi hb nb lt));
      outside = λ i role hi o.
          sector_of-same old new (role_sectors * role + i) c.set_two.auto.bytes (λ at lt.
          c.set_two.ensures.others (512 * (role_sectors * role + i) + at)
          (run_outside_row roles is starts first count begins size run i role a at hi o ha lt)
          (run_outside_row roles is starts first count begins size run i role b at hi o hb lt));
    }
