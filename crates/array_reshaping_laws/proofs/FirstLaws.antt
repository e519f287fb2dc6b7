-- The first refusal is the one that is answered: by what the members told before any device was touched.
use Rattle.std.proofs.Common.{◌≡◌, ℕ, Option, Some, None, Result, Ok, Err, subst}
use Rattle.std.specs.Prelude.{MatchOption, ⊤}
use Rattle.array_fixed_laws.specs.raid_types_the_Fault.{Fault as AnyFault}
use Rattle.array_fixed_laws.specs.raid_types_the_Fault_TheVariants.{Refused as IsRefusedWith, NoMemory}
use Rattle.array_fixed_laws.specs.raid_types_the_Refusal.{Refusal}
use Rattle.array_fixed_laws.specs.sb_safe_updates_First.{call_refusal}
use Rattle.array_reshaping_laws.specs.Refusing.{IsFirstFor}

-- as much is visible
pub first-seen : {seen visible : ℕ} (to : ℕ) (why told : Option Refusal) → seen ≡ visible → MatchOption (call_refusal seen to why) ⊤ (λ refusal. told ≡ Some refusal) → MatchOption (call_refusal visible to why) ⊤ (λ refusal. told ≡ Some refusal)
first-seen to why told same is = subst (λ (n : ℕ). MatchOption (call_refusal n to why) ⊤ (λ refusal. told ≡ Some refusal)) same is

-- memory is short
pub first-short : (T : Type 0) (first : Option Refusal) (fault : AnyFault) → fault ≡ NoMemory → IsFirstFor {T = T} first (Err fault)
first-short T None fault short = tt
first-short T (Some refusal) NoMemory short = tt
first-short T (Some refusal) (IsRefusedWith told) short = absurd cc

-- it is refused so
pub first-told : (T : Type 0) (first : Option Refusal) (refusal : Refusal) → MatchOption first ⊤ (λ why. ◌≡◌ {A = Option Refusal} (Some refusal) (Some why)) → IsFirstFor {T = T} first (Err (IsRefusedWith refusal))
first-told T None refusal is = tt
first-told T (Some why) refusal is = cc

-- nothing refuses it first
pub first-none : {T : Type 0} (first : Option Refusal) (result : Result T AnyFault) → MatchOption first ⊤ (λ why. ◌≡◌ {A = Option Refusal} None (Some why)) → IsFirstFor first result
first-none None result is = tt
first-none (Some why) result is = absurd cc

-- nor where another call was done that it would have refused
pub first-done : {T U : Type 0} (first : Option Refusal) (x : U) (result : Result T AnyFault) → IsFirstFor {T = U} first (Ok x) → IsFirstFor first result
first-done None x result is = tt
first-done (Some why) x result is = absurd is
