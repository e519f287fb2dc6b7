-- An array that is taken over from its superblocks.
use Rattle.std.specs.Prelude.{◌≡◌, ℕ, zero, suc, ◌/◌, ◌<◌, ◌≤◌, ◌==◌, nat_lt, true, false, not, List, [], ◌∷◌, ◌++◌, length, if◌then◌else◌, Option, Some, None, IsTrue}
use Rattle.raid_types.specs.Shapes.{tolerance}
use Rattle.raid_types.specs.declared.answers.Who.{Who}
use Rattle.history_append.specs.bank_the_Operation.{Operation}
use Rattle.history_append.specs.bank_Given.{Given, sizes}
use Rattle.history_append.specs.bank_Tape.{disk}
use Rattle.history_append.specs.bank_Whole.{HasWholeSectors}
use Rattle.history_append.specs.sb_specs_the_Members.{Members}
use Rattle.raid_types.specs.declared.status.Role.{Role}
use Rattle.raid_types.specs.declared.status.Role.TheVariants.{Whole, Recovering, Missing}
use Rattle.std.specs.Option.{option_map_or}
use Rattle.raid_types.specs.Sectors.{Sector}
use Rattle.raid_types.specs.Search.{tabulate}
use Rattle.history_append.specs.sb_codec_the_Sb.{Sb}
use Rattle.history_append.specs.sb_specs_Outcome.{set_of}
use Rattle.history_append.specs.sb_specs_Update.{own_in}
use Rattle.history_append.specs.sb_specs_Held.{MayRead}
use Rattle.history_append.specs.sb_specs_Reading.{Scope, Reading, reading, is_reshaping, is_clean, shape_of, role_state, rows_held}
use Rattle.history_append.specs.stripe_row_Rows.{reading_of, present, is_missing}
use Rattle.history_append.specs.history_the_Event.{Event}
use Rattle.history_append.specs.history_the_Event_TheVariants.{Lost}
use Rattle.history_append.specs.history_the_LostCause_TheVariants.{Absent, Recovering as ByRecovering}
use Rattle.history_append.specs.history_World.{opening_list}
use Rattle.history_append.specs.history_Flat.{now}
use Rattle.history_append.specs.history_Losses.{was_dirty}
use Rattle.history_append.specs.history_Plain.{entries_of}
use Rattle.history_append.specs.history_OneShape.{opening_in, is_absent_at_first}
use Rattle.history_append.specs.crash_safety_laws_Held.{IsHeldBy}
use Rattle.history_append.specs.array_members_Whole.{list_size}
use Rattle.history_append.specs.array_members_Placed.{places_of, IsPlaced}
use Rattle.history_append.specs.crash_safety_laws_Steady.{AreUnlost}
use Rattle.history_append.specs.array_members_Lacking.{ListStands, RowsStand, AreHoldersFlushed}
use Rattle.array_call_specs.specs.Kept.{world_in, AreSectorsWhole, AreUsed}
use Rattle.history_append.specs.history_Opened.{OpensGood}
use Rattle.history_append.specs.array_members_Rebuilding.{AreSparesFree}
use Rattle.history_append.specs.array_members_the_Work.{Work}
use Rattle.history_append.specs.array_members_Parts.{Parts}

-- the caller of what an opening enters
abbrev pub opener : Who
opener = record { caller = 254; number = 0 }

-- what an opening tells of a role by its state: that no slot holds it, or that one recovers it
abbrev pub found_loss : ℕ → Role → List Event
found_loss role (Whole slot) = []
found_loss role (Recovering slot) = Lost role ByRecovering ∷ []
found_loss role Missing = Lost role Absent ∷ []

abbrev pub absent_loss : Reading → ℕ → List Event
absent_loss r role = found_loss role (role_state r role)

-- a loss for each role below n that isn't whole, in order
unfoldable pub absent_losses : Reading → ℕ → List Event
absent_losses r zero = []
absent_losses r (suc n) = absent_losses r n ++ absent_loss r n

-- the losses that an opening tells
abbrev pub found_losses : Reading → List Event
found_losses r = absent_losses r (shape_of r.newest).disks

-- the stripes of a role that the slot holds which recovers it
abbrev pub stripes_held : Reading → ℕ → Role → ℕ
stripes_held r chunk (Recovering slot) = rows_held r (Recovering slot) / chunk
stripes_held r chunk state = 0

-- so it is of each role of so many disks
abbrev pub found_stripes : Reading → ℕ → ℕ → ℕ → ℕ
found_stripes r chunk disks role = if nat_lt role disks then stripes_held r chunk (role_state r role) else 0

-- the slots of which these superblocks bear the device number
abbrev pub bearers_of : List (Option Sb) → ℕ → ℕ
bearers_of own number = set_of 32 (λ slot. option_map_or (λ sb. sb.dev_number == number) (own_in own slot) false)

-- What is under way in an array that is found: a resync, where it is dirty.
abbrev pub found_work : Members → Work
found_work members = record {
  resync = if is_clean members.newest then None else Some 0;
  rebuilt = tabulate 16 (found_stripes (reading_of members) (shape_of members.newest).chunk (shape_of members.newest).disks);
  carried = tabulate 128 (bearers_of members.own);
}

-- each superblock of the array that a slot may show has the number of the one that is kept of it
abbrev pub AreNumbersKept : Scope → List (Option Sb) → (ℕ → ℕ → List Sector) → Type 0
AreNumbersKept scope own d = (slot : ℕ) (sb : Sb) → MayRead scope d slot (Some sb) → (kept : Sb) × (own_in own slot ≡ Some kept) × (kept.dev_number ≡ sb.dev_number)

-- What an array needs that begins here: the members are read from its slots, and no reshape is active in it yet; its list stands on them, and its rows
-- where the opening finds them good, over the whole sectors that every bank has; a stop leaves what is there, and the next update may start.
pub record IsAdoptable (tells : Type 0) (given : Given) (tape : List Operation) (scope : Scope) (members : Members) : Type 0 where
  pub slots : given.slots ≤ 32
  pub spares : length members.spares ≤ 32
  pub placed : IsPlaced given members
  pub still : is_reshaping members.newest ≡ false
  pub unlost : AreUnlost members
  pub free : AreSparesFree given members
  pub sizes_are : scope.sizes ≡ sizes given
  pub opened : tells → length (opening_list (world_in given tape scope (length tape))) ≡ list_size (places_of members)
  pub disks : tells → (opening_in (world_in given tape scope (length tape))).disks ≡ (shape_of members.newest).disks
  pub tolerated : tells → (opening_in (world_in given tape scope (length tape))).tolerance ≡ tolerance (shape_of members.newest)
  pub dirty : tells → was_dirty (world_in given tape scope (length tape)) ≡ not (is_clean members.newest)
  pub used : tells → AreUsed (world_in given tape scope (length tape)) members []
  pub absent : tells → (role : ℕ) → role < (shape_of members.newest).disks → is_missing (reading_of members) role ≡ true
      → IsTrue (is_absent_at_first (world_in given tape scope (length tape)) role)
  pub holds : tells → ListStands members (present given tape) (now (opening_list (world_in given tape scope (length tape))) [])
  pub whole : tells → HasWholeSectors given tape → AreSectorsWhole (list_size (places_of members)) (now (opening_list (world_in given tape scope (length tape))) [])
  pub good : tells → HasWholeSectors given tape → OpensGood (world_in given tape scope (length tape)) → RowsStand members (present given tape) (now (opening_list (world_in given tape scope (length tape))) [])
  pub flushed : tells → AreHoldersFlushed (reading_of members) given tape
  pub next : tells → IsHeldBy scope members (disk given.start tape)
  pub numbers : tells → AreNumbersKept scope members.own (disk given.start tape)
  pub newest : tells → (r : Reading) × (reading scope (present given tape) ≡ Some r) × (members.newest.events ≤ r.newest.events)

-- an array that was just taken over: the losses that it found stand first
pub record IsAdopted {B : Type 0} (tells : Type 0) (bank : B) (tape : List Operation) (slots : ℕ) (backup : Option ℕ) (members : Members) (made : Parts B) : Type 0 where
  pub bank_is : made.bank ≡ bank
  pub uuid : made.uuid ≡ members.newest.set_uuid
  pub given : made.given ≡ slots
  pub first : tells → made.first ≡ length tape
  pub last : made.last ≡ made.first
  pub entries : made.entries ≡ entries_of opener made.first (found_losses (reading_of members))
  pub backup_is : made.backup ≡ backup
  pub members_are : made.members ≡ members
  pub work : made.work ≡ found_work members
