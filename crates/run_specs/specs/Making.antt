-- What the bank of a run is, and what an array on it was made or found as.
use Rattle.std.specs.Prelude.{◌≡◌, ◌⊎◌, ℕ, ◌+◌, ◌<◌, ◌≤◌, ◌==◌, if◌then◌else◌, Bool, true, false, List, [], ◌∷◌, ◌++◌, length, Option, Some, None, MatchBool, IsTrue, IsFalse}
use Rattle.std.specs.List.{list_any}
use Rattle.array_requests.specs.raid_types_the_Fault_TheVariants.{Refused as IsRefusedWith}
use Rattle.array_requests.specs.raid_types_the_Refusal.{Refusal}
use Rattle.array_requests.specs.raid_types_the_Status.{Status}
use Rattle.script.specs.raid_types_the_Role_TheVariants.{Whole}
use Rattle.array_requests.specs.raid_types_Search.{tabulate}
use Rattle.array_requests.specs.bank_the_Operation.{Operation}
use Rattle.array_requests.specs.bank_Given.{Given, sizes}
use Rattle.array_requests.specs.bank_Tape.{Contents, contents}
use Rattle.array_requests.specs.sb_specs_the_Members.{Members}
use Rattle.array_requests.specs.sb_specs_Reading.{Reading, shape_of, is_clean, is_reshaping, is_whole, role_count, role_state, holder}
use Rattle.array_requests.specs.sb_specs_Reads.{has_spare}
use Rattle.array_requests.specs.stripe_row_Rows.{reading_of}
use Rattle.script.specs.history_the_Entry.{Entry}
use Rattle.script.specs.history_the_Event.{Event}
use Rattle.script.specs.history_the_Event_TheVariants.{Added, Shown}
use Rattle.array_requests.specs.array_reply_specs_Going.{may_drop}
use Rattle.script.specs.history_World.{World, contents_at, reading_at, opening_list}
use Rattle.script.specs.history_Left.{opened_roles}
use Rattle.script.specs.history_Reopened.{OpensAccepted}
use Rattle.script.specs.history_Fits.{IsStatusOf}
use Rattle.script.specs.history_Legal.{IsAbsentAtFirst}
use Rattle.script.specs.history_Plain.{entries_of}
use Rattle.array_requests.specs.array_create_assemble_the_CreateSpec.{CreateSpec}
use Rattle.array_requests.specs.array_members_Status.{left_of}
use Rattle.array_requests.specs.array_call_specs_Adopting.{opener, absent_losses, found_losses, found_work}
use Rattle.array_requests.specs.array_create_assemble_Made.{HasCreateCause}
use Rattle.array_requests.specs.array_create_assemble_Opening.{HasFoundNone}
use Rattle.array_requests.specs.crash_views_Regions.{header_in, open_by}
use Rattle.array_requests.specs.reshape_request_the_Window.{Window}
use Rattle.array_requests.specs.reshape_request_Left.{grow_left}
use Rattle.array_requests.specs.stripe_region_resync_Left.{resync_left}
use Rattle.array_requests.specs.array_open_window_Finding.{window_for}
use Rattle.run_specs.specs.Histories.{History}

-- What the bank of a run is: whether it tells its contents, what never changes in it, its tape, its backup slot, how many operations
-- it had when the run began, and the counts of its slots' faults before and now.
pub record Setting : Type 1 where
  pub tells : Type 0
  pub given : Given
  pub tape : List Operation
  pub backup : Option ℕ
  pub began : ℕ
  pub before : ℕ → ℕ
  pub now : ℕ → ℕ

-- by the tapes and the counts before and now
abbrev pub setting_of : Type 0 → Given → List Operation → List Operation → Option ℕ → (ℕ → ℕ) → (ℕ → ℕ) → Setting
setting_of tells given old new backup before now =
    record { tells = tells; given = given; tape = new; backup = backup; began = length old; before = before; now = now }

-- what the slots held at a mark
abbrev pub held_at : Setting → ℕ → Contents
held_at setting mark = contents setting.given.start setting.tape mark

-- a history's world, over a tape
abbrev pub world_at : Given → List Operation → Option ℕ → History → World
world_at given tape backup history = record {
  start = given.start;
  tape = tape;
  scope = record { uuid = history.uuid; given = history.given; backup = backup; sizes = sizes given };
  first = history.first;
}

-- over the bank of its run
abbrev pub history_world : Setting → History → World
history_world setting history = world_at setting.given setting.tape setting.backup history

-- The slot held the role at the opening, by the superblocks there.
pub record HeldAtFirst (world : World) (role slot : ℕ) : Type 0 where
  pub begun : world.first ≤ length world.tape
  pub found : Reading
  pub says : reading_at world world.first ≡ Some found
  pub held : holder (role_state found role) ≡ Some slot

-- The role wasn't whole at the opening, by the superblocks there.
pub record MissingAtFirst (world : World) (role : ℕ) : Type 0 where
  pub begun : world.first ≤ length world.tape
  pub missing : IsAbsentAtFirst world role

-- The slot was a spare at the opening, by the superblocks there.
pub record SpareAtFirst (world : World) (slot : ℕ) : Type 0 where
  pub begun : world.first ≤ length world.tape
  pub found : Reading
  pub says : reading_at world world.first ≡ Some found
  pub spare : has_spare found.spares slot ≡ true

-- an entry tells that the slot was made a spare
abbrev pub is_added : ℕ → Event → Bool
is_added slot (Added added) = added == slot
is_added slot event = false

-- the slot held a role at the opening, and by these entries a reshape ended, or the level was taken over, which may have made it a spare
abbrev pub IsDroppedSince : World → List Entry → ℕ → Type 0
IsDroppedSince world entries slot = IsTrue (list_any (λ e. may_drop e.event) entries) × (role : ℕ) × HeldAtFirst world role slot

-- the slot was a spare at the opening, or was made one by these entries
abbrev pub IsSpareSince : World → List Entry → ℕ → Type 0
IsSpareSince world entries slot = SpareAtFirst world slot ⊎ IsTrue (list_any (λ e. is_added slot e.event) entries) ⊎ IsDroppedSince world entries slot

-- it held the role at the opening, or it was such a spare, to which a rebuild may give the role
abbrev pub MayHaveHeld : World → List Entry → ℕ → ℕ → Type 0
MayHaveHeld world entries role slot = HeldAtFirst world role slot ⊎ IsSpareSince world entries slot

-- so it is of each slot that holds a role by these members, and each spare is such a one
pub record AreHeldSince (world : World) (entries : List Entry) (members : Members) : Type 0 where
  pub roles : (role slot : ℕ) → holder (role_state (reading_of members) role) ≡ Some slot → MayHaveHeld world entries role slot
  pub spares : (slot : ℕ) → has_spare members.spares slot ≡ true → IsSpareSince world entries slot

-- the members of an array that is found so, of which no slot is lost yet
abbrev pub found_members : Reading → Members
found_members found = record { newest = found.newest; own = found.own; roles = found.roles; spares = found.spares; lost = 0 }

-- the window of a reshape that is found: the one that the backup's header tells
abbrev pub found_window : World → Reading → Window
found_window world found = window_for (open_by world.scope found.newest (header_in world.scope (contents_at world world.first)))

-- the steps that are left in it: of the reshape that is found, of which no stripe of the window is copied, and of a resync where it is dirty; or else of what is under way without one
abbrev pub found_left : World → Reading → ℕ
found_left world found =
    if is_reshaping found.newest then grow_left found.newest (found_window world found) 0 [] + resync_left found.newest (found_window world found) (if is_clean found.newest then None else Some 0)
    else left_of (found_work (found_members found)) (found_members found)

-- what an opening tells of the roles that aren't whole: in a reshape each is absent, one that a slot recovers too
abbrev pub AreFoundLosses : Reading → List Event → Type 0
AreFoundLosses found losses =
    MatchBool (is_reshaping found.newest) (losses ≡ absent_losses (record found { roles = opened_roles found }) (role_count found.newest)) (losses ≡ found_losses found)

-- a create was refused at a mark: it has its cause in what the slots hold there and in the faults of the run
abbrev pub IsUncreated : Setting → CreateSpec → ℕ → Refusal → Type 0
IsUncreated setting spec mark refusal =
    HasCreateCause setting.tells setting.given (held_at setting mark) setting.backup spec setting.before setting.now (IsRefusedWith refusal)

-- the same of an assemble
abbrev pub IsUnassembled : Setting → Option (List ℕ) → ℕ → Refusal → Type 0
IsUnassembled setting asked mark refusal =
    HasFoundNone setting.tells setting.given (held_at setting mark) setting.backup asked setting.before setting.now (IsRefusedWith refusal)

-- The superblocks at an opening say this of an array that is refused for nothing, so that it can do without what is missing.
pub record IsStored (world : World) (found : Reading) : Type 0 where
  pub says : reading_at world world.first ≡ Some found
  pub accepted : OpensAccepted world

-- that it is new and as it was asked for: clean, without a reshape, with a whole role on each of the first slots
pub record IsStoredNew (world : World) (spec : CreateSpec) : Type 0 where
  pub found : Reading
  pub stored : IsStored world found
  pub still : IsFalse (is_reshaping found.newest)
  pub whole : (role : ℕ) → role < (shape_of found.newest).disks → IsTrue (is_whole (role_state found role))
  pub shape : shape_of found.newest ≡ spec.shape
  pub size : found.newest.size ≡ spec.size
  pub events : found.newest.events ≡ 1
  pub clean : IsTrue (is_clean found.newest)
  pub roles : found.roles ≡ tabulate spec.shape.disks (λ role. Whole role)
  pub spares : found.spares ≡ []

-- what this status and these losses tell, and how many steps are left
pub record IsStoredAs (world : World) (status : Status) (losses : List Event) : Type 0 where
  pub found : Reading
  pub stored : IsStored world found
  pub told : IsStatusOf status found
  pub lost : AreFoundLosses found losses
  pub position : IsFalse (is_reshaping found.newest) → status.position ≡ 0
  pub sized : status.length ≡ length (opening_list world)
  pub visible : status.visible ≡ length (opening_list world)
  pub clean : status.clean ≡ is_clean found.newest
  pub left : status.left ≡ found_left world found

-- the history begins with the losses that the opening found, and then with this status, which the script's first call asked for
pub record BeginsShown (history : History) (status : Status) : Type 0 where
  pub losses : List Event
  pub end : ℕ
  pub more : List Entry
  pub is : history.entries ≡ entries_of opener history.first losses ++ record { caller = 0; number = 0; end = end; event = Shown status } ∷ more
