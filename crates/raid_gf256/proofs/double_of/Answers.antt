use Rattle.std.proofs.Common.{◌≡◌, ℕ, ◌*◌, ◌/◌, ◌%◌, sym, ap, ◌∙◌, arith}
use Rattle.std.specs.Int.Bits.{bit_and, bit_xor, and_mask}
use Rattle.raid_gf256.proofs.FieldLaws.{double-halves}
use Rattle.raid_gf256.proofs.double_of.Goals as goal

pub returns : goal.returns
returns c =
    let m : bit_and c.args.a 127 ≡ c.args.a % 128 = and_mask c.args.a 7 in
    let f : c.args.a % 128 * 2 % 256 ≡ c.args.a % 128 * 2 = omega arith in
    ap (λ (x : ℕ). bit_xor (x * 2 % 256) (c.args.a / 128 * 29)) m ∙ ap (λ (x : ℕ). bit_xor x (c.args.a / 128 * 29)) f
    ∙ sym (double-halves c.args.a (omega arith))
