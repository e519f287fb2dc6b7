use Rattle.std.proofs.Common.{◌≡◌, ℕ, suc, ◌+◌, ◌-◌, ◌/◌, ◌%◌, List, length, get_or, refl, sym, ap, ◌∙◌, arith, w8}
use Rattle.std.proofs.lemmas.Simd.{get_or-replicate, below_from_Fits}
use Rattle.std.specs.Int.Bits.{bit_xor, xor_zero_l, xor_zero_r}
use Rattle.raid_parity.specs.raid_gf256_Field.{double, product, product_of_bits}
use Rattle.raid_parity_simd.proofs.Lanes.{xor-len, xor_lane, bit_taken, bit_left, bits_none}
use Rattle.raid_parity_simd.proofs.sectors.times_lanes.Goals as goal
use Rattle.raid_parity_simd.proofs.sectors.times_lanes.Goals.{then-taken-eq1, else-taken-eq1}

pub loop-bit-init : goal.loop-bit-init
unfolding product
loop-bit-init c = record {
  lanes = refl;
  terms = c.fits-v.0;
  bytes = below_from_Fits w8 c.args.v c.fits-v.1;
  value = λ i lt.
      ap (λ (x : ℕ). bit_xor x (product_of_bits 8 c.args.factor (get_or c.args.v i 0))) (get_or-replicate 64 i 0 0 lt)
      ∙ xor_zero_l (product_of_bits 8 c.args.factor (get_or c.args.v i 0));
}

pub loop-bit-preserved : goal.loop-bit-preserved
loop-bit-preserved c =
    let sum = c.loop-bit.sum in
    let term = c.loop-bit.term in
    let left = c.loop-bit.left in
    let m : ℕ = 8 - (c.loop-bit._bit + 1) in
    let n : 8 - c.loop-bit._bit ≡ suc m = omega arith in
    record {
      lanes = elim c.if-taken-eq1.branch [
        | then-taken-eq1 w ↦ ap (λ (s : List ℕ). length s) w.sum-is ∙ xor-len sum term c.loop-bit.invariant.lanes c.loop-bit.invariant.terms
        | else-taken-eq1 w ↦ ap (λ (s : List ℕ). length s) w.sum-is ∙ c.loop-bit.invariant.lanes
      ];
      terms = c.double_lanes-term.ensures.lanes;
      bytes = c.double_lanes-term.ensures.bytes;
      value = λ i lt.
          let before : bit_xor (get_or sum i 0) (product_of_bits (suc m) left (get_or term i 0)) ≡ product c.args.factor (get_or c.args.v i 0) =
          ap (λ (k : ℕ). bit_xor (get_or sum i 0) (product_of_bits k left (get_or term i 0))) (sym n) ∙ c.loop-bit.invariant.value i lt in
          ap (λ (t : ℕ). bit_xor (get_or c.if-taken-eq1.sum i 0) (product_of_bits m (left / 2) t)) (c.double_lanes-term.ensures.each i lt)
          ∙ elim c.if-taken-eq1.branch [
            | then-taken-eq1 w ↦
                ap (λ (s : List ℕ). bit_xor (get_or s i 0) (product_of_bits m (left / 2) (double (get_or term i 0)))) w.sum-is
                ∙ ap (λ (x : ℕ). bit_xor x (product_of_bits m (left / 2) (double (get_or term i 0)))) (xor_lane sum term i c.loop-bit.invariant.lanes c.loop-bit.invariant.terms lt)
                ∙ bit_taken m (get_or sum i 0) left (get_or term i 0) w.if-taken-eq1.true ∙ before
            | else-taken-eq1 w ↦
                let none : left % 2 ≡ 0 = omega arith in
                ap (λ (s : List ℕ). bit_xor (get_or s i 0) (product_of_bits m (left / 2) (double (get_or term i 0)))) w.sum-is
                ∙ bit_left m (get_or sum i 0) left (get_or term i 0) none ∙ before
          ];
    }

pub returns-clause-lanes : goal.returns-clause-lanes
returns-clause-lanes c = c.loop-bit.invariant.lanes

pub returns-clause-each : goal.returns-clause-each
returns-clause-each c i lt =
    let none : 8 - c.loop-bit._bit ≡ 0 = omega arith in
    sym (xor_zero_r (get_or c.loop-bit.sum i 0)) ∙ ap (bit_xor (get_or c.loop-bit.sum i 0)) (sym (bits_none c.loop-bit.left (get_or c.loop-bit.term i 0)))
    ∙ ap (λ (k : ℕ). bit_xor (get_or c.loop-bit.sum i 0) (product_of_bits k c.loop-bit.left (get_or c.loop-bit.term i 0))) (sym none) ∙ c.loop-bit.invariant.value i lt
