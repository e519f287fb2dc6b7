use Rattle.std.proofs.Common.{rules, ◌≡◌, ℕ, ◌<◌, get_or, ◌∙◌, ap, arith}
use Rattle.raid_parity_simd.specs.raid_types_the_RowRoles.{RowRoles}
use Rattle.raid_parity_simd.specs.raid_parity_Rows.{IsRowRoles}
use Rattle.stripe_row.proofs.NewRow.{new_row}
use Rattle.stripe_row.proofs.new_row.set_parity.Goals as goal

pub returns : goal.returns
returns c =
    let roles = c.row_of.result in
    let are = c.row_of.ensures in
    let disks : roles.disks ≡ c.args.shape.now.disks = ap (λ (rs : RowRoles). rs.disks) are.roles in
    let valid : IsRowRoles roles = search rules in
    let small : (place : ℕ) → get_or c.syndromes.new.row place 0 < 256 = λ place. let h = c.type_inv.bytes place in omega (arith, h) in
    let is = new_row c.args.shape.now c.args.row roles c.args.bytes.now c.syndromes.new.row are.roles valid (c.syndromes.auto.row ∙ c.requires.whole) small c.syndromes.ensures.good c.syndromes.ensures.data in
    record { sectors = is.sectors; good = is.good }
