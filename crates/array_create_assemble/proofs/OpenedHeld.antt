-- The superblocks of an opened array are held from its first mark on.
use Rattle.std.proofs.Common.{◌≡◌, ℕ, ◌≤◌, ◌<◌, true, List, length, Option}
use Rattle.array_found_laws.specs.raid_types_Shapes.{has_slot}
use Rattle.bank.specs.declared.bank.Operation.{Operation}
use Rattle.bank.specs.Given.{Given}
use Rattle.bank.specs.Tape.{contents, disk}
use Rattle.array_found_laws.specs.sb_specs_Found.{AreInSectors}
use Rattle.sb_add_spare.specs.crash_safety_laws_Held.{IsHeldBy}
use Rattle.array_found_laws.specs.array_call_specs_Adopting.{AreNumbersKept}
use Rattle.array_found_laws.specs.Found.{AreStored}
use Rattle.array_found_laws.proofs.Held.{found-is-held, found-numbers}
use Rattle.array_create_assemble.specs.declared.opening.Opened.{Opened}
use Rattle.array_create_assemble.specs.Opening.{scope_of, IsOpened, AreFlushed}

module _ {tells : Type 0} (bank : Given) (tape : List Operation) (backup : Option ℕ) (asked : Option (List ℕ)) (opened : Opened) (told : tells)
    (is : IsOpened tells bank (contents bank.start tape (length tape)) backup asked opened) (inside : (s : ℕ) → has_slot opened.given s ≡ true → s < bank.slots)
    (flushed : AreFlushed bank.start tape opened.given) (few : bank.slots ≤ 32) (stands : AreInSectors (contents bank.start tape (length tape)) opened.members.own) where
  stored : AreStored bank (scope_of bank backup opened.given opened.members.newest.set_uuid) opened.members (contents bank.start tape (length tape)) (disk bank.start tape)
  stored = record { says = is.says told; accepted = is.accepted told; inside = inside; sectors = stands; flushed = flushed }

  pub opened-held : IsHeldBy (scope_of bank backup opened.given opened.members.newest.set_uuid) opened.members (disk bank.start tape)
  opened-held = found-is-held bank opened.members.newest.set_uuid opened.given backup opened.members (contents bank.start tape (length tape)) (disk bank.start tape) few is.lost stored

  -- so is what a slot may show
  pub numbers-kept : AreNumbersKept (scope_of bank backup opened.given opened.members.newest.set_uuid) opened.members.own (disk bank.start tape)
  numbers-kept = found-numbers bank opened.members.newest.set_uuid opened.given backup opened.members (contents bank.start tape (length tape)) (disk bank.start tape) few is.lost stored
