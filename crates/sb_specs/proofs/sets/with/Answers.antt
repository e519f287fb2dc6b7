use Rattle.std.proofs.Common.{◌≡◌, ◌≢◌, ℕ, ◌==◌, ◌||◌, inl, inr, arith}
use Rattle.std.specs.Int.{bit_at, w32}
use Rattle.std.proofs.lemmas.Bool.{cases_eq}
use Rattle.std.proofs.lemmas.Bool.Decides.{nat_tests}
use Rattle.std.proofs.lemmas.Nat.Bits.{bit_at_set_same, bit_at_set_other}
use Rattle.sb_specs.proofs.sets.with.Goals as goal

set : (a b : ℕ) (slot : ℕ) → a ≡ 1 → (a == 1) ≡ ((b == 1) || (slot == slot))
set a b slot is = grind (arith, nat_tests)

kept : (a b : ℕ) (slot s : ℕ) → a ≡ b → s ≢ slot → (a == 1) ≡ ((b == 1) || (slot == s))
kept a b slot s is apart = grind (arith, nat_tests)

pub returns : goal.returns
returns c = λ s. elim (cases_eq s c.args.slot) [
  | inl same ↦ rw same (set _ (bit_at c.args.set c.args.slot) c.args.slot (bit_at_set_same w32 c.args.set c.args.slot c.requires))
  | inr apart ↦ kept _ (bit_at c.args.set s) c.args.slot s (bit_at_set_other w32 c.args.set c.args.slot c.requires s apart) apart
]
