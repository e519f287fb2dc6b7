use Rattle.std.proofs.Common.{◌≡◌, ℕ, ◌==◌, ◌&&◌, ◌-◌, ◌<◌, not, min, ◌∙◌, ap, arith}
use Rattle.std.specs.Int.{bit_at, w32}
use Rattle.std.proofs.lemmas.Bool.Decides.{nat_tests}
use Rattle.std.proofs.lemmas.Nat.Bits.{bit_at_and, bit_at_not, bit_at-lt}
use Rattle.sb_specs.proofs.sets.without.Goals as goal

less : (r a b : ℕ) → a < 2 → b < 2 → r ≡ min a (1 - b) → (r == 1) ≡ ((a == 1) && not (b == 1))
less r a b ha hb is = grind (arith, nat_tests)

pub returns : goal.returns
returns c = λ s within.
    less _ (bit_at c.args.set s) (bit_at c.args.other s) (bit_at-lt c.args.set s) (bit_at-lt c.args.other s)
    (bit_at_and c.args.set _ s ∙ ap (min (bit_at c.args.set s)) (bit_at_not w32 c.args.other s (omega arith) within))
