-- What a call leaves of members and bank besides what it is for: the frame of its contract.
use Rattle.std.specs.Prelude.{◌≡◌, ℕ, ◌≤◌, List}
use Rattle.sb_update.specs.bank_the_Operation.{Operation}
use Rattle.sb_update.specs.bank_Given.{Given, NeverFalls}
use Rattle.sb_update.specs.bank_Tape.{disk}
use Rattle.sb_update.specs.sb_specs_the_Members.{Members}
use Rattle.array_members.specs.crash_safety_laws_Safety.{IsRisen}
use Rattle.array_members.specs.crash_safety_laws_Steady.{AreUnlost}
use Rattle.array_members.specs.Lacking.{HaveFailedSince}
use Rattle.array_members.specs.Moving.{Grows, IsMoved}
use Rattle.array_members.specs.Placed.{IsPlaced}
use Rattle.array_members.specs.Rebuilding.{AreSparesFree}
use Rattle.sb_safe_updates.specs.Unused.{IsUnusedKept}

-- The members stand on their slots: each has its place, no slot that holds a role was lost, and each spare is free.
pub record Stands (given : Given) (members : Members) : Type 0 where
  pub slots : given.slots ≤ 32
  pub placed : IsPlaced given members
  pub unlost : AreUnlost members
  pub free : AreSparesFree given members

-- The bank goes on: it is the same, more was done, and no count of failures falls.
pub record GoesOn {B : Type 0} (tells : Type 0) (given : B → Given) (tape : B → List Operation) (faults : B → ℕ → ℕ) (before after : B) : Type 0 where
  pub same : given after ≡ given before
  pub grows : Grows tells (tape before) (tape after)
  pub counts : NeverFalls (faults before) (faults after)

-- It is the same array, of which some slots may have been lost, each of which has failed, these spares among them; the bank goes on, and the event count
-- rises by no more than what was done.
pub record KeepsMembers {B : Type 0} (tells : Type 0) (given : B → Given) (tape : B → List Operation) (faults : B → ℕ → ℕ)
    (before after : B) (old new : Members) (spares : ℕ) : Type 0 where
  pub bank : GoesOn tells given tape faults before after
  pub moved : IsMoved (given before) old new
  pub failed : HaveFailedSince old new spares (faults before) (faults after)
  pub rise : IsRisen tells old new (tape before) (tape after)

-- It is so, and what a crash leaves of slots that have no part in the array stays.
pub record Keeps {B : Type 0} (tells : Type 0) (given : B → Given) (tape : B → List Operation) (faults : B → ℕ → ℕ)
    (before after : B) (old new : Members) (spares : ℕ) : Type 0 where
  pub bank : GoesOn tells given tape faults before after
  pub moved : IsMoved (given before) old new
  pub failed : HaveFailedSince old new spares (faults before) (faults after)
  pub rise : IsRisen tells old new (tape before) (tape after)
  pub unused : tells → IsUnusedKept old (disk (given before).start (tape before)) (disk (given before).start (tape after))
