-- A set of slots as the bits of a number.
use Rattle.std.proofs.Common.{◌≡◌, ◌≢◌, ◌<◌, ℕ, ◌-◌, ◌*◌, ◌^◌, ◌%◌, true, nat_eq, ap, ◌∙◌, arith, bit_or, w32}
use Rattle.std.specs.Prelude.{not}
use Rattle.std.specs.Int.{bit_at}
use Rattle.std.proofs.lemmas.Bool.Decides.{nat_tests}
use Rattle.std.proofs.lemmas.Nat.{or_of_32}
use Rattle.std.proofs.lemmas.Nat.Bits.{bit_at_not, bit_at_set_same, bit_at_set_other, bit_at-lt}
use Rattle.sb_specs.specs.raid_types_Shapes.{has_slot}
use Rattle.sb_specs.specs.Election.{all_but}

flipped : (b : ℕ) → b < 2 → nat_eq (1 - b) 1 ≡ not (nat_eq b 1)
flipped b small = grind (arith, nat_tests)

-- the slots that are looked at are those that aren't lost
pub has-all_but : (lost slot : ℕ) → lost < 2 ^ 32 → slot < 32 → has_slot (all_but lost) slot ≡ not (has_slot lost slot)
has-all_but lost slot small within = ap (λ b. nat_eq b 1) (bit_at_not w32 lost slot small within) ∙ flipped (bit_at lost slot) (bit_at-lt lost slot)

-- one more slot
pub has-one_more : (lost slot : ℕ) → slot < 32 → has_slot (bit_or lost (1 * 2 ^ slot % 2 ^ 32)) slot ≡ true
has-one_more lost slot within = ap (λ b. nat_eq b 1) (bit_at_set_same w32 lost slot within)

pub has-other : (lost slot other : ℕ) → slot < 32 → other ≢ slot → has_slot (bit_or lost (1 * 2 ^ slot % 2 ^ 32)) other ≡ has_slot lost other
has-other lost slot other within apart = ap (λ b. nat_eq b 1) (bit_at_set_other w32 lost slot within other apart)

below : (k : ℕ) → k % 2 ^ 32 < 2 ^ 32
below k = omega arith

pub fits-one_more : (lost slot : ℕ) → lost < 2 ^ 32 → bit_or lost (1 * 2 ^ slot % 2 ^ 32) < 2 ^ 32
fits-one_more lost slot small = or_of_32 lost (1 * 2 ^ slot % 2 ^ 32) small (below (1 * 2 ^ slot))
