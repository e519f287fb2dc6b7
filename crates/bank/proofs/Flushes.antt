-- A slot's last flush: there is one such mark, and how it moves with the tape.
use Rattle.std.proofs.Common.{◌≡◌, inl, inr, ℕ, ◌<◌, List, arith}
use Rattle.std.proofs.lemmas.Bool.{cases_lt}
use Rattle.bank.specs.declared.bank.Operation.{Operation}
use Rattle.bank.specs.Picks.{IsLastFlush}

module _ (tape : List Operation) (m s : ℕ) where
  not_below : (f g : ℕ) → IsLastFlush tape m s f → IsLastFlush tape m s g → f < g → ⊥
  not_below f g a b lt = elim b.last [
    | inl none ↦ omega arith
    | inr at ↦ a.none_since at.0 (omega (arith, at.1)) (omega (arith, at.1, b.in_time)) at.2
  ]

  pub last_flush-unique : (f g : ℕ) → IsLastFlush tape m s f → IsLastFlush tape m s g → f ≡ g
  last_flush-unique f g a b = elim (cases_lt f g) [
    | inl below ↦ absurd (not_below f g a b below)
    | inr above ↦ elim (cases_lt g f) [
      | inl below ↦ absurd (not_below g f b a below)
      | inr same ↦ omega arith
    ]
  ]
