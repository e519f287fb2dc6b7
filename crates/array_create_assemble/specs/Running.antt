-- An array that runs once it was made, or found.
use Rattle.std.specs.Prelude.{◌≡◌, ℕ, ◌*◌, ◌<◌, List, [], length, slice_index_or, Option, Some, IfSome}
use Rattle.array_found_laws.specs.raid_types_Sectors.{zero_sector}
use Rattle.array_found_laws.specs.raid_types_Shapes.{data_disks}
use Rattle.bank.specs.declared.bank.Operation.{Operation}
use Rattle.bank.specs.Given.{Given}
use Rattle.bank.specs.Tape.{contents}
use Rattle.sb_add_spare.specs.stripe_row_Rows.{reading_of}
use Rattle.sb_add_spare.specs.history_World.{opening_list}
use Rattle.sb_add_spare.specs.history_Opened.{OpensSound}
use Rattle.sb_add_spare.specs.array_members_Parts.{Parts}
use Rattle.sb_add_spare.specs.array_members_Placed.{AreWhole}
use Rattle.sb_add_spare.specs.crash_views_Regions.{DoWithout}
use Rattle.array_found_laws.specs.array_call_specs_Calls.{world_for}
use Rattle.array_found_laws.specs.array_call_specs_Adopting.{opener, found_losses, found_work}
use Rattle.sb_add_spare.specs.history_Plain.{entries_of}
use Rattle.array_create_assemble.specs.declared.spec.CreateSpec.{CreateSpec}
use Rattle.array_create_assemble.specs.declared.opening.Opened.{Opened}
use Rattle.array_create_assemble.specs.Opening.{AreGiven, IsOpened}
use Rattle.array_create_assemble.specs.Made.{IsNew}

-- what an array was opened as
abbrev pub opened_of : {B : Type 0} → Parts B → Opened
opened_of array = record { members = array.members; given = array.given }

-- An array that begins here: its first entries tell the roles that aren't whole, which it can do without, and what is under way is
-- what its members say.
pub record IsBegun {B : Type 0} (tells : Type 0) (tape : List Operation) (backup : Option ℕ) (array : Parts B) : Type 0 where
  pub entries : array.entries ≡ entries_of opener array.first (found_losses (reading_of array.members))
  pub first : tells → array.first ≡ length tape
  pub last : array.last ≡ array.first
  pub backup_is : array.backup ≡ backup
  pub uuid : array.uuid ≡ array.members.newest.set_uuid
  pub work : array.work ≡ found_work array.members
  pub does : DoWithout array.members

-- its list is of so many sectors, all zero
pub record OpensWithZeros (size : ℕ) (list : List (List ℕ)) : Type 0 where
  pub count : length list ≡ size
  pub each : (x : ℕ) → x < size → slice_index_or list x [] ≡ zero_sector

-- An array that was just made: it is new, with every role whole, its list is zero, and it is sound.
pub record IsCreated {B : Type 0} (tells : Type 0) (bank : Given) (tape : List Operation) (backup : Option ℕ) (spec : CreateSpec) (made : Parts B) : Type 0 where
  pub begun : IsBegun tells tape backup made
  pub new : IsNew bank spec (opened_of made)
  pub whole : AreWhole made.members
  pub quiet : made.entries ≡ []
  pub opened : IsOpened tells bank (contents bank.start tape (length tape)) backup (Some spec.uuid) (opened_of made)
  pub zeros : tells → OpensWithZeros (data_disks spec.shape * spec.size) (opening_list (world_for bank tape made))
  pub sound : tells → OpensSound (world_for bank tape made)

-- An array that was just found, of the uuid that was asked for, if one was.
pub record IsAssembled {B : Type 0} (tells : Type 0) (bank : Given) (tape : List Operation) (backup : Option ℕ) (asked : Option (List ℕ))
    (before after : ℕ → ℕ) (found : Parts B) : Type 0 where
  pub begun : IsBegun tells tape backup found
  pub opened : IsOpened tells bank (contents bank.start tape (length tape)) backup asked (opened_of found)
  pub given : AreGiven bank found.given before after
  pub named : IfSome asked (λ uuid. found.uuid ≡ uuid)
