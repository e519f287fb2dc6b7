use Rattle.std.proofs.Common.{◌≡◌, ℕ, ◌+◌, ◌-◌, ap, sym, ◌∙◌, arith}
use Rattle.raid_gf256.specs.Field.{power_of_two, product}
use Rattle.raid_gf256.proofs.FieldLaws.{product-powers, power-cycle}
use Rattle.raid_gf256.proofs.inv.Goals as goal

pub returns : goal.returns
returns c =
    let e : c.log_g.result + (255 - c.log_g.result) ≡ 255 = omega (arith, c.log_g.ensures.below) in
    ap (product c.args.a) c.pow_g.ensures
    ∙ ap (λ (x : ℕ). product x (power_of_two (255 - c.log_g.result))) (sym c.log_g.ensures.value)
    ∙ product-powers c.log_g.result (255 - c.log_g.result) ∙ ap power_of_two e ∙ power-cycle
