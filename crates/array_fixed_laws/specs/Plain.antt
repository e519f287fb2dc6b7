-- What an array keeps besides as long as its history keeps its shape: what a history of one shape says of it, which tells more of an epoch without a reshape.
use Rattle.std.specs.Prelude.{◌≡◌, ℕ, List, length, Option, IfSome, ⊤}
use Rattle.std.specs.List.{All}
use Rattle.array_fixed_invariant.specs.raid_types_Shapes.{tolerance}
use Rattle.array_specs.specs.raid_types_the_Refusal_TheVariants.{BackupFault}
use Rattle.array_fixed_invariant.specs.bank_the_Operation.{Operation}
use Rattle.array_fixed_invariant.specs.bank_Given.{Given}
use Rattle.array_fixed_invariant.specs.sb_specs_the_Members.{Members}
use Rattle.array_fixed_invariant.specs.sb_specs_Reading.{shape_of}
use Rattle.array_fixed_invariant.specs.history_the_Entry.{Entry}
use Rattle.array_fixed_invariant.specs.history_the_Epoch.{Epoch}
use Rattle.array_fixed_invariant.specs.history_the_Event.{Event}
use Rattle.array_fixed_invariant.specs.history_the_Event_TheVariants.{Resized, Refused, Stepped}
use Rattle.array_fixed_invariant.specs.history_Epochs.{world_of}
use Rattle.array_fixed_invariant.specs.history_OneShape.{opening_in, IsOneShapeLegal, EndsIdleSteps}
use Rattle.array_fixed_invariant.specs.history_Sound.{FillsRight}
use Rattle.array_fixed_invariant.specs.history_World.{World}
use Rattle.array_fixed_invariant.specs.array_call_specs_Kept.{AreTold, AreOnlyTold, AreUsed}

-- The event tells nothing that a reshape alone can: no other length of the list, no refusal for a backup that failed, and no end of steps but for what is missing or not synced.
abbrev pub MayTellPlainly : Event → Type 0
MayTellPlainly (Resized n) = ⊥
MayTellPlainly (Refused BackupFault) = ⊥
MayTellPlainly (Stepped done left ended) = IfSome ended EndsIdleSteps
MayTellPlainly event = ⊤

abbrev pub AreToldPlainly : List Entry → Type 0
AreToldPlainly entries = All (λ e. MayTellPlainly e.event) entries

-- Of an array whose history kept its shape: each missing role is told gone, and no other; a slot that is told to be a spare is one; each slot that holds a role or is a spare did so at the opening, or was
-- added since; the shape is that of the opening; and where what was filled in is right, the history is legal as one of one shape.
pub record IsPlainKept (world : World) (members : Members) (entries : List Entry) : Type 0 where
  pub told : AreTold members entries
  pub only : AreOnlyTold members entries
  pub used : AreUsed world members entries
  pub disks : (opening_in world).disks ≡ (shape_of members.newest).disks
  pub tolerated : (opening_in world).tolerance ≡ tolerance (shape_of members.newest)
  pub legal : FillsRight world entries → IsOneShapeLegal (opening_in world) (length world.tape) entries

-- The epoch that is handed out of such an array: its history is legal as one of one shape, where no role is told lost in it or it opened sound, and it tells no refusal of a reshape.
pub record IsPlainEpoch (given : Given) (tape : List Operation) (backup : Option ℕ) (epoch : Epoch) : Type 0 where
  pub legal : FillsRight (world_of given tape backup epoch) epoch.entries.items
      → IsOneShapeLegal (opening_in (world_of given tape backup epoch)) (length tape) epoch.entries.items
  pub plainly : AreToldPlainly epoch.entries.items
