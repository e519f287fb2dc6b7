-- Differences of disk counts.
use Rattle.std.proofs.Common.{◌≡◌, ℕ, zero, suc, ◌+◌, ◌-◌, ◌<◌, ◌≤◌, Bool, true, false, cond, nat_lt, inl, inr, sym, ◌∙◌, ap, arith}
use Rattle.std.specs.Prelude.{ℤ, pos, negsuc, ◌-ℤ◌}
use Rattle.std.proofs.lemmas.Bool.{cases_lt}
use Rattle.std.proofs.lemmas.Bool.Decides.{nat_tests}
use Rattle.sb_update.specs.sb_specs_Reading.{count_of, is_negative}

less : (a b : ℕ) → a < b → nat_lt a b ≡ true
less a b lt = grind (arith, nat_tests)

more : (a b : ℕ) → b ≤ a → nat_lt a b ≡ false
more a b le = grind (arith, nat_tests)

-- below 0
pub difference-less : (a b : ℕ) → a < b → pos a -ℤ pos b ≡ negsuc (b - suc a)
difference-less a zero lt = absurd (omega (arith, lt))
difference-less a (suc b) lt = ap (λ (t : Bool). cond t (negsuc (suc b - suc a)) (pos (a - suc b))) (less a (suc b) lt)

-- or not
pub difference-more : (a b : ℕ) → b ≤ a → pos a -ℤ pos b ≡ pos (a - b)
difference-more a zero le = ap pos (let e : a + 0 ≡ a - 0 = omega arith in e)
difference-more a (suc b) le = ap (λ (t : Bool). cond t (negsuc (suc b - suc a)) (pos (a - suc b))) (more a (suc b) le)

-- the former count comes back
pub former-count : (a b : ℕ) → count_of (pos a -ℤ (pos a -ℤ pos b)) ≡ b
former-count a b = elim (cases_lt a b) [
  | inl lt ↦ ap (λ (d : ℤ). count_of (pos a -ℤ d)) (difference-less a b lt) ∙ (let e : a + suc (b - suc a) ≡ b = omega (arith, lt) in e)
  | inr le ↦ ap (λ (d : ℤ). count_of (pos a -ℤ d)) (difference-more a b le) ∙ ap count_of (difference-more a (a - b) (omega arith)) ∙ (let e : a - (a - b) ≡ b = omega (arith, le) in e)
]

pub negative-is : (a b : ℕ) → is_negative (pos a -ℤ pos b) ≡ nat_lt a b
negative-is a b = elim (cases_lt a b) [
  | inl lt ↦ ap is_negative (difference-less a b lt) ∙ sym (less a b lt)
  | inr le ↦ ap is_negative (difference-more a b le) ∙ sym (more a b le)
]
