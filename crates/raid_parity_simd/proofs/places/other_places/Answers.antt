use Rattle.std.proofs.Common.{◌≡◌, ℕ, ◌<◌, Bool, eqb, cond, ◌||◌, List, length, get_or, refl, sym, ap, ap₂, ◌∙◌, arith}
use Rattle.std.proofs.lemmas.List.{length-set}
use Rattle.std.specs.Int.Bits.{bit_xor, xor_zero_r}
use Rattle.raid_parity.specs.Exponents.{is_q}
use Rattle.raid_parity_simd.specs.Places.{plain_sum}
use Rattle.raid_parity_simd.proofs.Falling.{placed}
use Rattle.raid_parity_simd.proofs.PlaceSums.{plain_sum-none, plain_sum-next, plain_sum-listed}
use Rattle.raid_parity_simd.proofs.places.other_places.Goals as goal
use Rattle.raid_parity_simd.proofs.places.other_places.Goals.{then-not-is_skipped, else-not-is_skipped}

pub loop-other-init : goal.loop-other-init
loop-other-init c = record {
  whole = refl;
  few = omega arith;
  of_role = λ j lt. absurd (omega arith);
  sum = λ f. plain_sum-none _ ∙ sym (plain_sum-none _);
}

pub loop-other-preserved : goal.loop-other-preserved
loop-other-preserved c =
    let roles = c.args.roles.now in
    let starts = c.args.starts.now in
    let list = c.loop-other.list in
    let count : ℕ = c.loop-other.count in
    let other : ℕ = c.loop-other.other in
    let x : ℕ = get_or starts other 0 in
    let room : count < length list = omega (arith, c.loop-other.invariant.whole, c.loop-other.invariant.few, c.requires.roles.most, c.loop-other-test.true) in
    record {
      whole = elim c.if-not-is_skipped.branch [
        | then-not-is_skipped w ↦ ap (λ (l : List ℕ). length l) w.list-is ∙ length-set list count x ∙ c.loop-other.invariant.whole
        | else-not-is_skipped w ↦ ap (λ (l : List ℕ). length l) w.list-is ∙ c.loop-other.invariant.whole
      ];
      few = elim c.if-not-is_skipped.branch [
        | then-not-is_skipped w ↦ omega (arith, w.count-is, c.loop-other.invariant.few)
        | else-not-is_skipped w ↦ omega (arith, w.count-is, c.loop-other.invariant.few)
      ];
      of_role = λ j lt. elim c.if-not-is_skipped.branch [
        | then-not-is_skipped w ↦
            rw w.list-is (placed (λ i y. (r : ℕ) × (r < roles.disks) × (y ≡ get_or starts r 0)) list count x room c.loop-other.invariant.of_role
            (other, c.loop-other-test.true, refl) j (omega (arith, lt, w.count-is)))
        | else-not-is_skipped w ↦ rw w.list-is (c.loop-other.invariant.of_role j (omega (arith, lt, w.count-is)))
      ];
      sum = λ f.
          let g : ℕ → ℕ = λ r. cond (eqb r c.args.role || is_q roles r) 0 (f (get_or starts r 0)) in
          elim c.if-not-is_skipped.branch [
            | then-not-is_skipped w ↦
                ap₂ (λ (n : ℕ) (l : List ℕ). plain_sum n (λ j. f (get_or l j 0))) w.count-is w.list-is ∙ plain_sum-listed list count x f room
                ∙ ap (λ (y : ℕ). bit_xor y (f x)) (c.loop-other.invariant.sum f)
                ∙ sym (plain_sum-next other g ∙ ap (bit_xor (plain_sum other g)) (ap (λ (b : Bool). cond b 0 (f x)) (sym c.is_skipped.ensures ∙ w.if-not-is_skipped.true)))
            | else-not-is_skipped w ↦
                ap₂ (λ (n : ℕ) (l : List ℕ). plain_sum n (λ j. f (get_or l j 0))) w.count-is w.list-is ∙ c.loop-other.invariant.sum f
                ∙ sym (plain_sum-next other g ∙ ap (bit_xor (plain_sum other g)) (ap (λ (b : Bool). cond b 0 (f x)) (sym c.is_skipped.ensures ∙ w.if-not-is_skipped.false))
                ∙ xor_zero_r (plain_sum other g))
          ];
    }

pub returns : goal.returns
returns c =
    let roles = c.args.roles.now in
    let starts = c.args.starts.now in
    let all : c.loop-other.other ≡ roles.disks = omega (arith, c.loop-other-test.false, c.loop-other.auto.other-end) in
    record {
      places = record {
        few = omega (arith, c.loop-other.invariant.few, all);
        of_role = c.loop-other.invariant.of_role;
      };
      sum = λ f. c.loop-other.invariant.sum f ∙ ap (λ (n : ℕ). plain_sum n (λ r. cond (eqb r c.args.role || is_q roles r) 0 (f (get_or starts r 0)))) all;
    }
