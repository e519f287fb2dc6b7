-- What an epoch leaves sound is found sound by a later opening, perhaps in fewer slots.
use Rattle.std.specs.Prelude.{◌⊎◌, ℕ, ◌≤◌, List, length, remove}
use Rattle.history.specs.declared.events.Entry.{Entry}
use Rattle.history.specs.World.{World, opening_list}
use Rattle.history.specs.CrashSafe.{MayBeLeftOut, IsCrashSafe}
use Rattle.history.specs.Opened.{OpensSound}
use Rattle.history.specs.Reopened.{OpensAccepted, IsFoundLater, EndsSettled, OpensWith}
use Rattle.history.specs.Sound.{OpensFit, StaysSound}

-- What was opened fit, and stays safe and sound, is found sound by a next epoch of the same array that opens accepted, where the slots that
-- lack have no part in the array any more.
abbrev pub SoundArraysAreFoundLater : Type 0
SoundArraysAreFoundLater = (world next : World) (entries : List Entry) (last : ℕ) → OpensFit world → IsCrashSafe world last entries
    → StaysSound world last entries → next.first ≤ last → IsFoundLater world entries next → OpensAccepted next → OpensSound next

-- The next epoch opens with the list that these entries left; or without the last change of its length, where by the entries up to that one and the losses directly behind it each role was gone, so that no slot kept it.
abbrev pub OpensAsEnded : World → World → List Entry → Type 0
OpensAsEnded world next entries =
    OpensWith next (opening_list world) entries ⊎ ((place : ℕ) × MayBeLeftOut world entries (length entries) place × OpensWith next (opening_list world) (remove entries place))

-- What was flushed or stopped is found again, sector by sector, by a next epoch of the same array that opens accepted. Roles may have been lost, and slots with them.
abbrev pub SettledListsAreFoundLater : Type 0
SettledListsAreFoundLater = (world next : World) (entries : List Entry) (last : ℕ) → IsCrashSafe world last entries
    → next.first ≤ last → IsFoundLater world entries next → OpensAccepted next → EndsSettled entries → OpensAsEnded world next entries
