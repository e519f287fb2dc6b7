use Rattle.std.proofs.Common.{◌+◌, ◌*◌, get_or, arith}
use Rattle.raid_parity.proofs.RowBytes.{sector_of-same}
use Rattle.raid_parity_simd.proofs.Apart.{apart}
use Rattle.raid_parity_simd.proofs.Placed.{two_solved}
use Rattle.raid_parity_simd.proofs.RowParts.{row_start, row_parts, row_outside}
use Rattle.raid_parity_simd.proofs.row.fill_two.Goals as goal

pub set_two-requires-clause-parts : goal.set_two-requires-clause-parts
set_two-requires-clause-parts c = row_parts c.args.roles.now c.requires.roles c.row_starts.result c.row_starts.ensures c.args.row.now c.requires.whole

pub returns : goal.returns
returns c =
    let roles = c.args.roles.now in
    let is = c.requires.roles in
    let q = c.unwrap-q.result in
    let a = c.args.first in
    let b = c.args.second in
    let ha = c.requires.first in
    let hb = c.requires.second in
    let old = c.args.row.now in
    let new = c.set_two.new.bytes in
    let starts = c.row_starts.result in
    let begins = row_start roles is starts c.row_starts.ensures in
    let parts = row_parts roles is starts c.row_starts.ensures old c.requires.whole in
    let factors = c.factors_of-factors.result in
    let filled = two_solved roles is old new starts 0 (λ r. r) (λ r hr. omega (arith, begins r hr)) c.set_two.auto.bytes (λ r hr. omega (arith, c.requires.whole))
    (λ place. let h = c.type_inv.row place in omega (arith, h)) q c.unwrap-q.ensures a b ha hb c.requires.differ
    (λ r hr na nb at lt. c.set_two.ensures.others (get_or starts r 0 + (0 + at)) (apart parts r a (0 + at) hr ha na (omega arith)) (apart parts r b (0 + at) hr hb nb (omega arith)))
    factors.first_plain factors.first_weighed factors.second_plain factors.second_weighed c.factors_of-factors.ensures
    (λ at lt. c.set_two.ensures.first (0 + at) (omega arith))
    (λ at lt. c.set_two.ensures.second (0 + at) (omega arith)) in
    record {
      first = filled a ha;
      second = filled b hb;
      others = λ role na nb.
          sector_of-same old new role c.set_two.auto.bytes (λ at lt.
          c.set_two.ensures.others (512 * role + at)
          (row_outside roles is starts c.row_starts.ensures role a at ha na lt)
          (row_outside roles is starts c.row_starts.ensures role b at hb nb lt));
    }
