-- That an opened array is safe from its first mark on.
use Rattle.std.specs.Prelude.{ℕ, ◌<◌, ◌≤◌, List, [], length, Option, ⊤, IsTrue}
use Rattle.array_found_laws.specs.raid_types_Shapes.{has_slot}
use Rattle.bank.specs.declared.bank.Operation.{Operation}
use Rattle.bank.specs.Given.{Given}
use Rattle.bank.specs.Tape.{contents, disk}
use Rattle.array_found_laws.specs.sb_specs_Found.{AreInSectors}
use Rattle.sb_add_spare.specs.history_World.{World}
use Rattle.sb_add_spare.specs.history_CrashSafe.{IsSafeAt}
use Rattle.sb_add_spare.specs.history_Settled.{IsKeptAt}
use Rattle.sb_add_spare.specs.crash_safety_laws_Held.{IsHeldBy}
use Rattle.array_create_assemble.specs.declared.opening.Opened.{Opened}
use Rattle.array_create_assemble.specs.Opening.{scope_of, IsOpened, AreFlushed}

-- the world of an epoch that was opened at the tape's end
abbrev pub world_of : Given → List Operation → Option ℕ → Opened → World
world_of bank tape backup opened = record {
  start = bank.start;
  tape = tape;
  scope = scope_of bank backup opened.given opened.members.newest.set_uuid;
  first = length tape;
}

-- At the mark of an opening every image is what is stored, as far as the given slots go: the three facts hold there of the
-- history without entries, for any live ones of the given slots, and each image assembles to the list that stands.
abbrev pub OpeningsAreSafe : Type 0
OpeningsAreSafe = (bank : Given) (tape : List Operation) (backup : Option ℕ) (asked : Option (List ℕ)) (opened : Opened) (live : ℕ)
    → IsOpened ⊤ bank (contents bank.start tape (length tape)) backup asked opened
    → AreFlushed bank.start tape opened.given
    → ((s : ℕ) → IsTrue (has_slot live s) → IsTrue (has_slot opened.given s))
    → IsKeptAt (world_of bank tape backup opened) [] live (length tape) × IsSafeAt (world_of bank tape backup opened) [] (length tape)

-- And the superblocks are held there, as the next update needs it, where each stands in two sectors of bytes.
abbrev pub OpeningsAreHeld : Type 0
OpeningsAreHeld = (bank : Given) (tape : List Operation) (backup : Option ℕ) (asked : Option (List ℕ)) (opened : Opened) → bank.slots ≤ 32
    → IsOpened ⊤ bank (contents bank.start tape (length tape)) backup asked opened
    → AreFlushed bank.start tape opened.given
    → ((s : ℕ) → IsTrue (has_slot opened.given s) → s < bank.slots)
    → AreInSectors (contents bank.start tape (length tape)) opened.members.own
    → IsHeldBy (scope_of bank backup opened.given opened.members.newest.set_uuid) opened.members (disk bank.start tape)
