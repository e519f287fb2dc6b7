-- The next stripe that a resync mends.
use Rattle.std.proofs.Common.{◌≡◌, ℕ, ◌<◌, Option, Some, None, refl, sym, ap, subst}
use Rattle.std.specs.Prelude.{IsSome, unwrap_or}
use Rattle.array_call_specs.specs.sb_specs_the_Members.{Members}
use Rattle.array_call_specs.specs.array_members_Status.{stripes_of}
use Rattle.array_call_specs.specs.Calls.{HasStripeLeft}

-- a resync that has a stripe to mend is pending
pub is-pending : (resync : Option ℕ) (m : Members) → HasStripeLeft resync m → IsSome resync
is-pending None m left = absurd left
is-pending (Some mended) m left = refl

-- its next stripe
pub next-stripe : (resync : Option ℕ) (m : Members) (stripe : ℕ) → HasStripeLeft resync m → stripe ≡ unwrap_or resync 0 → (resync ≡ Some stripe) × (stripe < stripes_of m)
next-stripe None m stripe left is = absurd left
next-stripe (Some mended) m stripe left is = (ap (λ (n : ℕ). Some n) (sym is), subst (λ (n : ℕ). n < stripes_of m) (sym is) left)
