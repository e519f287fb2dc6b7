use Rattle.std.proofs.Common.{inl, inr, sym, ap, ap₂, ◌∙◌}
use Rattle.raid_gf256.specs.Field.{product}
use Rattle.raid_gf256.proofs.FieldLaws.{product-powers, product-zero_l, product-zero_r}
use Rattle.raid_gf256.proofs.mul.Goals as goal

pub returns-then-b-eq0 : goal.returns-then-b-eq0
returns-then-b-eq0 c = elim c.if-b-eq0.either [
  | inl zero_a ↦ sym (ap (λ x. product x c.args.b) zero_a ∙ product-zero_l c.args.b)
  | inr rest ↦ sym (ap (product c.args.a) rest.1 ∙ product-zero_r c.args.a)
]

pub returns-else-b-eq0 : goal.returns-else-b-eq0
returns-else-b-eq0 c =
    c.pow_g.ensures ∙ sym (product-powers c.log_g.result c.log_g-else-b-eq0.result)
    ∙ ap₂ product c.log_g.ensures.value c.log_g-else-b-eq0.ensures.value
