-- The backup of an array in a reshape, which has one.
use Rattle.std.proofs.Common.{◌≢◌, ◌≡◌, ℕ, Option, Some, None, true, false}
use Rattle.std.specs.Prelude.{IsSome, unwrap_or}
use Rattle.array_type.specs.raid_types_the_Refusal.{Refusal}
use Rattle.array_type.specs.bank_Given.{Given}
use Rattle.array_type.specs.sb_specs_the_Members.{Members}
use Rattle.array_type.specs.array_members_Placed.{IsPlaced}
use Rattle.array_type.specs.array_call_specs_Calls.{IsUnaddable}
use Rattle.array_type.proofs.array_reshaping_laws_AddLaws.{apart-from}

-- a slot that may be made a spare isn't it
pub apart-of : (backup : Option ℕ) → IsSome backup → (given : Given) (slot : ℕ) (m : Members) → IsPlaced given m → ((refusal : Refusal) → IsUnaddable given backup slot m refusal → ⊥) → unwrap_or backup 0 ≢ slot
apart-of (Some backup) some given slot m placed addable = apart-from given backup slot m placed addable
apart-of None some given slot m placed addable = absurd (let is : false ≡ true = some in cc)
