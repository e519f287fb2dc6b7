-- What stands behind an answer.
use Rattle.std.proofs.Common.{◌≡◌, Option, Some, subst, MatchOption}
use Rattle.std.specs.Prelude.{⊤}
use Rattle.array_call_specs.specs.raid_types_the_Refusal.{Refusal}

-- what stands behind an answer that was given
pub some-of : (P : Refusal → Type 0) (answer : Option Refusal) (refusal : Refusal) → answer ≡ Some refusal → MatchOption answer ⊤ P → P refusal
some-of P answer refusal is why = subst (λ (o : Option Refusal). MatchOption o ⊤ P) is why
