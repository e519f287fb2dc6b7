-- What an array keeps that may lack members, over plain data.
use Rattle.std.specs.Prelude.{◌≡◌, ℕ, ◌<◌, true, List, Option, IsTrue}
use Rattle.raid_types.specs.Sectors.{Sector}
use Rattle.history_append.specs.raid_parity_Rows.{IsSector}
use Rattle.history_append.specs.bank_the_Operation.{Operation}
use Rattle.history_append.specs.bank_Given.{Given, sizes}
use Rattle.history_append.specs.sb_specs_the_Members.{Members}
use Rattle.history_append.specs.sb_specs_Reading.{Scope, role_count}
use Rattle.history_append.specs.sb_specs_Reads.{has_spare}
use Rattle.history_append.specs.stripe_row_Rows.{reading_of, is_missing}
use Rattle.history_append.specs.history_the_Entry.{Entry}
use Rattle.history_append.specs.history_World.{World}
use Rattle.history_append.specs.history_OneShape.{opening_in, is_gone_now, is_spare_now, is_used_now}
use Rattle.history_append.specs.array_members_Rebuilding.{MayHold}

-- these slots of a bank, looked at for an array
abbrev pub scope_in : Given → List ℕ → ℕ → Option ℕ → Scope
scope_in given uuid slots backup = record { uuid = uuid; given = slots; backup = backup; sizes = sizes given }

-- an epoch's world
abbrev pub world_in : Given → List Operation → Scope → ℕ → World
world_in given tape scope first = record { start = given.start; tape = tape; scope = scope; first = first }

-- each missing role is told gone
abbrev pub AreTold : Members → List Entry → Type 0
AreTold members entries = (role : ℕ) → role < role_count members.newest → is_missing (reading_of members) role ≡ true
    → IsTrue (is_gone_now entries role)

-- Each role that is told gone is missing, and each slot that is told to be a spare is one.
pub record AreOnlyTold (members : Members) (entries : List Entry) : Type 0 where
  pub gone : (role : ℕ) → is_gone_now entries role ≡ true → is_missing (reading_of members) role ≡ true
  pub spares : (slot : ℕ) → is_spare_now entries slot ≡ true → has_spare members.spares slot ≡ true

-- Each slot that holds a role or is a spare did so at the opening, or was added since.
abbrev pub AreUsed : World → Members → List Entry → Type 0
AreUsed world members entries = (role slot : ℕ) → MayHold members role slot → IsTrue (is_used_now (opening_in world) entries slot)

-- each of the first so many sectors of a list is whole
abbrev pub AreSectorsWhole : ℕ → (ℕ → Sector) → Type 0
AreSectorsWhole size list = (x : ℕ) → x < size → IsSector (list x)
