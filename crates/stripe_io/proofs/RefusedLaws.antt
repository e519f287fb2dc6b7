-- What a write is refused for.
use Rattle.std.proofs.Common.{◌≡◌, ℕ, ◌+◌, ◌^◌, ◌<◌, ◌≤◌, Bool, true, false, inl, arith}
use Rattle.std.specs.Prelude.{MatchOption, ⊤, Option, Some, None}
use Rattle.sb_safe_updates.specs.raid_types_the_Refusal.{Refusal}
use Rattle.sb_safe_updates.specs.raid_types_the_Shape.{Shape}
use Rattle.sb_safe_updates.specs.sb_specs_the_Members.{Members}
use Rattle.sb_safe_updates.specs.array_members_Lacking.{LacksTooMany, IsUnwritten}

-- rows are unwritten where too many are missing
pub lacking-unwritten : (P : Type 0) (shape : Shape) (synced : Bool) (m : Members) (o : Option Refusal) → MatchOption o P (LacksTooMany shape m) → MatchOption o ⊤ (IsUnwritten shape synced m)
lacking-unwritten P shape synced m None is = tt
lacking-unwritten P shape synced m (Some refusal) is = inl is

-- what is false isn't true
pub false-true : {X : Type 0} → false ≡ true → X
false-true is = absurd (cc)

pub true-false : {X : Type 0} → true ≡ false → X
true-false is = absurd (cc)

-- fewer sectors stay as low
pub low-enough : (first count n : ℕ) → first + count < 2 ^ 53 → n ≤ count → first + n < 2 ^ 63
low-enough first count n low few = omega (arith, low, few)
