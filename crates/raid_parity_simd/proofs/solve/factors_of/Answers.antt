use Rattle.std.proofs.Common.{◌≡◌, ℕ, sym, ap, ap₂, ◌∙◌, arith}
use Rattle.std.specs.Int.Bits.{bit_xor}
use Rattle.raid_parity.specs.raid_gf256_Field.{product}
use Rattle.raid_parity.specs.Rows.{p_weight, q_weight}
use Rattle.raid_parity.proofs.Solving.{determinant-is}
use Rattle.raid_parity.proofs.Filling.{det, det_pos}
use Rattle.raid_parity_simd.proofs.solve.factors_of.Goals as goal

pub inv-over-requires : goal.inv-over-requires
inv-over-requires c =
    let roles = c.args.roles.now in
    let q = c.args.q in
    let a = c.args.first in
    let b = c.args.second in
    let value : bit_xor c.mul.result c.mul-2.result ≡ det roles c.requires.roles q c.requires.q a b =
    ap₂ bit_xor (c.mul.ensures ∙ ap₂ product c.weights_of-one.ensures.p c.weights_of-two.ensures.q)
    (c.mul-2.ensures ∙ ap₂ product c.weights_of-two.ensures.p c.weights_of-one.ensures.q)
    ∙ sym (determinant-is (p_weight roles a) (p_weight roles b) (q_weight roles q a) (q_weight roles q b)) in
    let pos = det_pos roles c.requires.roles q c.requires.q a b c.requires.first c.requires.second c.requires.differ in
    omega (arith, value, pos)

pub returns : goal.returns
returns c =
    let over = c.inv-over.result in
    record {
      over = over;
      small = omega arith;
      inverse =
          ap (λ (x : ℕ). product x over)
          (sym (ap₂ bit_xor (c.mul.ensures ∙ ap₂ product c.weights_of-one.ensures.p c.weights_of-two.ensures.q)
          (c.mul-2.ensures ∙ ap₂ product c.weights_of-two.ensures.p c.weights_of-one.ensures.q)))
          ∙ c.inv-over.ensures;
      first_plain = c.mul-3.ensures ∙ ap (product over) c.weights_of-two.ensures.q;
      first_weighed = c.mul-4.ensures ∙ ap (product over) c.weights_of-two.ensures.p;
      second_plain = c.mul-5.ensures ∙ ap (product over) c.weights_of-one.ensures.q;
      second_weighed = c.mul-6.ensures ∙ ap (product over) c.weights_of-one.ensures.p;
    }
