use Rattle.std.proofs.Common.{◌≡◌, ℕ, List, get_or, sym, ap, ap₂, ◌∙◌, arith}
use Rattle.std.proofs.lemmas.List.{get_or-replicate}
use Rattle.std.specs.Int.Bits.{bit_xor}
use Rattle.raid_parity.specs.Rows.{byte_of}
use Rattle.raid_parity.proofs.Totals.{total, total-none}
use Rattle.raid_parity.proofs.Columns.{weighed, total-data, total-other, data_sum-tabulate}
use Rattle.raid_parity.proofs.Bytes.{sector_byte}
use Rattle.raid_parity.proofs.sums.plain_sum.Goals as goal
use Rattle.raid_parity.proofs.sums.plain_sum.Goals.{then-is_data_role, else-is_data_role}

pub loop-role-init : goal.loop-role-init
loop-role-init c at lt = get_or-replicate 512 at 0 0 lt ∙ sym (total-none (weighed (λ r. 1) c.args.roles.now (λ r. byte_of c.args.row.now r at)))

pub loop-role-preserved : goal.loop-role-preserved
loop-role-preserved c at lt =
    let row = c.args.row.now in
    let roles = c.args.roles.now in
    let role = c.loop-role.role in
    let f : ℕ → ℕ = λ r. byte_of row r at in
    elim c.if-is_data_role.branch [
      | then-is_data_role w ↦
          ap (λ (s : List ℕ). get_or s at 0) w.sum-is ∙ w.add_sector.ensures at lt
          ∙ ap₂ bit_xor (c.loop-role.invariant at lt) (ap (λ (s : List ℕ). get_or s at 0) w.sector.ensures ∙ sector_byte row role at lt)
          ∙ sym (total-data role roles f (sym c.is_data_role.ensures ∙ w.if-is_data_role.true))
      | else-is_data_role w ↦
          ap (λ (s : List ℕ). get_or s at 0) w.sum-is ∙ c.loop-role.invariant at lt
          ∙ sym (total-other role roles f (sym c.is_data_role.ensures ∙ w.if-is_data_role.false))
    ]

pub returns : goal.returns
returns c at lt =
    let roles = c.args.roles.now in
    let f : ℕ → ℕ = λ r. byte_of c.args.row.now r at in
    let all : c.loop-role.role ≡ roles.disks = omega (arith, c.loop-role-test.false, c.loop-role.auto.role-end) in
    c.loop-role.invariant at lt ∙ ap (λ (k : ℕ). total k (weighed (λ r. 1) roles f)) all ∙ sym (data_sum-tabulate (λ r. 1) roles roles.disks f)
