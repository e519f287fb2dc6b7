-- What an election that refuses nothing says of members, in a reshape or not.
use Rattle.std.specs.Prelude.{◌≡◌, ℕ, true, List, Option}
use Rattle.array_call_specs.specs.bank_Given.{Given, sizes}
use Rattle.array_call_specs.specs.bank_Tape.{Contents}
use Rattle.array_call_specs.specs.sb_specs_the_Members.{Members}
use Rattle.array_call_specs.specs.sb_specs_Election.{reading_in}
use Rattle.array_call_specs.specs.sb_specs_Reading.{Scope, is_reshaping}
use Rattle.array_call_specs.specs.crash_views_Regions.{AreShapesFit, DoWithout, IsReadOf}
use Rattle.array_call_specs.specs.crash_views_Views.{Disk}
use Rattle.array_call_specs.specs.crash_safety_laws_Held.{IsHeldBy}
use Rattle.array_call_specs.specs.crash_safety_laws_Steady.{AreUnlost}
use Rattle.array_call_specs.specs.array_members_Placed.{IsPlaced}
use Rattle.array_call_specs.specs.array_members_Rebuilding.{AreSparesFree}
use Rattle.array_call_specs.specs.Kept.{scope_in}
use Rattle.array_call_specs.specs.Adopting.{AreNumbersKept}
use Rattle.array_found_laws.specs.Found.{AreElected, AreStored}

-- Where the shapes in force fit, each role that a slot holds has its place there, no slot that holds one was lost, and each spare has room for one.
pub record AreFoundPlaced (bank : Given) (members : Members) : Type 0 where
  pub placed : IsPlaced bank members
  pub unlost : AreUnlost members
  pub free : AreSparesFree bank members

abbrev pub ElectedArePlaced : Type 0
ElectedArePlaced = (bank : Given) (given : ℕ) (members : Members) → AreElected bank given members → AreShapesFit members.newest → AreFoundPlaced bank members

-- No more roles are missing than the shapes in force can do without.
abbrev pub ElectedDoWithout : Type 0
ElectedDoWithout = (bank : Given) (given : ℕ) (members : Members) → AreElected bank given members → DoWithout members

-- While a reshape is active its shapes fit, and its position stands on their unit.
abbrev pub ElectedReshapesFit : Type 0
ElectedReshapesFit = (bank : Given) (given : ℕ) (members : Members) → AreElected bank given members → is_reshaping members.newest ≡ true → AreShapesFit members.newest

-- What the slots hold is read as the members say.
abbrev pub ElectedAreRead : Type 0
ElectedAreRead = (bank : Given) (given : ℕ) (scope : Scope) (members : Members) → AreElected bank given members → IsPlaced bank members → scope.sizes ≡ sizes bank → IsReadOf scope members (reading_in bank.slots members)

-- Where a stop leaves what the slots hold, their superblocks are held, from where an update may start; and each that a slot may show has the number of the one that is kept of it.
abbrev pub StoredAreHeld : Type 0
StoredAreHeld = (bank : Given) (uuid : List ℕ) (given : ℕ) (backup : Option ℕ) (members : Members) (c : Contents) (d : Disk) → AreElected bank given members → AreStored bank (scope_in bank uuid given backup) members c d
    → IsHeldBy (scope_in bank uuid given backup) members d

abbrev pub StoredNumbersAreKept : Type 0
StoredNumbersAreKept = (bank : Given) (uuid : List ℕ) (given : ℕ) (backup : Option ℕ) (members : Members) (c : Contents) (d : Disk) → AreElected bank given members → AreStored bank (scope_in bank uuid given backup) members c d
    → AreNumbersKept (scope_in bank uuid given backup) members.own d
