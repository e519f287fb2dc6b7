use Rattle.std.proofs.Common.{rules, ◌≡◌, ℕ, ◌+◌, ◌*◌, ◌<◌, get_or, ◌∙◌, ap, arith}
use Rattle.raid_layout.specs.raid_types_the_RowRoles.{RowRoles}
use Rattle.raid_parity_simd.specs.Buffers.{buffered, role_sectors}
use Rattle.stripe_row.specs.raid_parity_Rows.{IsRowRoles}
use Rattle.stripe_runs.proofs.ParityLaws.{IsNewRow, new_row, whole_in}
use Rattle.stripe_runs.proofs.ReadLaws.{roles_along}
use Rattle.stripe_runs.proofs.parities.set_parity.Goals as goal

pub returns : goal.returns
returns c =
    let roles = c.row_of.result in
    let are = c.row_of.ensures in
    let shape = c.args.shape.now in
    let run = c.args.run in
    let old = c.args.buffer.now in
    let new = c.syndromes_run.new.buffer in
    let disks : roles.disks ≡ shape.disks = ap (λ (rs : RowRoles). rs.disks) are.roles in
    let valid : IsRowRoles roles = search rules in
    let small : (place : ℕ) → get_or new place 0 < 256 = λ place. let h = c.type_inv.buffer place in omega (arith, h) in
    let room = c.requires.room in
    let is : (j : ℕ) → j < run.count → IsNewRow shape (run.row + j) (buffered old (run.at + j)) (buffered new (run.at + j)) = λ j lt.
    new_row shape (run.row + j) roles (buffered old (run.at + j)) (buffered new (run.at + j)) (are.roles ∙ roles_along shape run.row j (c.requires.stripe j lt)) valid
    (λ role l. whole_in new (role_sectors * role + (run.at + j)) (omega (arith, l, lt, room.rows, room.roles, c.syndromes_run.auto.buffer)) small)
    (c.syndromes_run.ensures.good j lt) (λ role its. c.syndromes_run.ensures.data (run.at + j) role (omega (arith, lt, room.rows)) its) in
    record { sectors = λ role j lt l. (is j l).sectors role lt; good = λ j l. (is j l).good; outside = c.syndromes_run.ensures.outside }
