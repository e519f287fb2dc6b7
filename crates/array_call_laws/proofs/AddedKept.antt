-- What a slot that is made a spare keeps safe.
use Rattle.std.proofs.Common.{◌≡◌, ℕ, false, List}
use Rattle.array_call_specs.specs.raid_types_Sectors.{Sector}
use Rattle.array_call_specs.specs.bank_the_Operation.{Operation}
use Rattle.array_call_specs.specs.bank_Given.{Given}
use Rattle.array_call_specs.specs.bank_Tape.{IsIn, disk}
use Rattle.array_call_specs.specs.sb_codec_the_Sb.{Sb}
use Rattle.array_call_specs.specs.sb_specs_the_Members.{Members}
use Rattle.array_call_specs.specs.sb_specs_Held.{IsSecondHalf}
use Rattle.array_call_specs.specs.history_World.{World}
use Rattle.array_call_specs.specs.crash_safety_laws_Safety.{HasLiveSlot, HasRoomLeft}
use Rattle.array_call_specs.specs.array_members_Numbers.{IsOfScope}
use Rattle.array_call_specs.specs.crash_views_Views.{Ledger}
use Rattle.array_call_specs.specs.crash_safety_laws_Steady.{IsSafeOver, KeepsSafe, AreGoneTold, IsUncleanTold, with_number}

-- what a slot that is made a spare keeps safe
abbrev pub AddsSafe : Type 0 → Given → ℕ → Sb → Members → Members → List Operation → List Operation → Type 0
AddsSafe tells given slot sb old new before after = tells → (world : World) → (told : Ledger) → HasRoomLeft old before after
    → AreGoneTold told new → IsUncleanTold told old → IsOfScope world.scope given slot sb → ((s : ℕ) → told.carried s sb.dev_number ≡ false)
    → ((sector : Sector) → IsIn (disk given.start before slot 9) sector → IsSecondHalf sb sector) → HasLiveSlot old
    → IsSafeOver world given told old before → KeepsSafe world given (with_number slot sb.dev_number told) new before after
