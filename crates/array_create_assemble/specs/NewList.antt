-- What a new array holds.
use Rattle.std.specs.Prelude.{◌≡◌, ℕ, ◌*◌, ◌<◌, [], length, slice_index_or, Option, Some, ⊤}
use Rattle.array_found_laws.specs.raid_types_Sectors.{zero_sector}
use Rattle.array_found_laws.specs.raid_types_Shapes.{data_disks}
use Rattle.bank.specs.Given.{Given}
use Rattle.bank.specs.Tape.{Contents}
use Rattle.array_found_laws.specs.sb_specs_Reading.{Scope}
use Rattle.array_found_laws.specs.sb_specs_Election.{reading_in}
use Rattle.sb_add_spare.specs.history_Stands.{stands}
use Rattle.array_create_assemble.specs.declared.spec.CreateSpec.{CreateSpec}
use Rattle.sb_add_spare.specs.array_members_Whole.{Places, list_size, IsReadWhole}
use Rattle.sb_add_spare.specs.array_members_Rows.{AreGoodRows}
use Rattle.sb_add_spare.specs.array_members_Placed.{places_of}
use Rattle.array_create_assemble.specs.declared.opening.Opened.{Opened}
use Rattle.array_create_assemble.specs.Opening.{scope_of, IsOpened}
use Rattle.array_create_assemble.specs.Filling.{AreZeros}
use Rattle.array_create_assemble.specs.Made.{IsNew}

-- An array that stands at these places, in this scope, is as long as its shape says, holds zeros, and each row's parity fits.
pub record HoldsZeros (scope : Scope) (spec : CreateSpec) (p : Places) (c : Contents) : Type 0 where
  pub size : list_size p ≡ data_disks spec.shape * spec.size
  pub count : length (stands scope c) ≡ list_size p
  pub each : (x : ℕ) → x < list_size p → slice_index_or (stands scope c) x [] ≡ zero_sector
  pub good : AreGoodRows p c

-- A new array that opens, and has zeros in the rows of its members, is read whole where its members are, and holds zeros.
abbrev pub NewArraysAreZeros : Type 0
NewArraysAreZeros = (bank : Given) (backup : Option ℕ) (spec : CreateSpec) (c : Contents) (opened : Opened)
    → IsNew bank spec opened → IsOpened ⊤ bank c backup (Some spec.uuid) opened → AreZeros spec.shape.disks spec c
    → IsReadWhole (scope_of bank backup opened.given opened.members.newest.set_uuid) (places_of opened.members) (reading_in bank.slots opened.members)
    × HoldsZeros (scope_of bank backup opened.given opened.members.newest.set_uuid) spec (places_of opened.members) c
