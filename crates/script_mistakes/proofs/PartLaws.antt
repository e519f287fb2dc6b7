-- The part of a line that is shown.
use Rattle.std.proofs.Common.{◌≡◌, ℕ, ◌-◌, ◌<◌, ◌≤◌, List, length, min, take, drop, sym, ap, ◌∙◌, arith, length-drop, inl, inr}
use Rattle.std.proofs.lemmas.Bool.{cases_lt}
use Rattle.std.proofs.lemmas.List.{take_all}

shorter : {X : Type 0} (n r : ℕ) (xs : List X) → r ≡ min (length xs) n → take r xs ≡ take n xs
shorter n r xs e =
    elim (cases_lt (length xs) n) [
      | inl h ↦ (let all : length xs ≤ r = omega (arith, e, h) in let few : length xs ≤ n = omega (arith, h) in take_all r xs all ∙ sym (take_all n xs few))
      | inr h ↦ (let same : r ≡ n = omega (arith, e, h) in ap (λ k. take k xs) same)
    ]

pub part : {X : Type 0} (from n r : ℕ) (line : List X) → r ≡ min (length (take (length line - from) (drop from line))) n
    → take r (take (length line - from) (drop from line)) ≡ take n (drop from line)
part from n r line e =
    let long : length (drop from line) ≤ length line - from = omega (arith, length-drop from line) in
    let rest = take_all (length line - from) (drop from line) long in
    shorter n r (take (length line - from) (drop from line)) e ∙ ap (λ xs. take n xs) rest
