-- What an opening finds in the slots of a bank, and what it answers.
use Rattle.std.specs.Prelude.{◌≡◌, ℕ, ◌^◌, ◌<◌, not, ◌&&◌, nat_lt, IsTrue, IsFalse, List, [], ◌∷◌, length, take, Option, Some, None}
use Rattle.bank.specs.raid_types_the_Fault.{Fault}
use Rattle.bank.specs.raid_types_the_Fault_TheVariants.{Refused, NoMemory}
use Rattle.array_found_laws.specs.raid_types_the_Refusal.{Refusal}
use Rattle.array_found_laws.specs.raid_types_Shapes.{has_slot}
use Rattle.array_found_laws.specs.sb_codec_the_Sb.{Sb}
use Rattle.bank.specs.declared.bank.Operation.{Operation}
use Rattle.bank.specs.Given.{Given, sizes, IsFaulted}
use Rattle.bank.specs.Tape.{Contents, contents, disk}
use Rattle.array_found_laws.specs.sb_specs_Reading.{Scope, reading, is_reshaping, is_backup}
use Rattle.array_found_laws.specs.sb_specs_Update.{own_in}
use Rattle.array_found_laws.specs.sb_specs_Election.{seen_superblocks, uuid_for, reading_in, IsElected}
use Rattle.sb_add_spare.specs.history_Stands.{verdict, backup_absent}
use Rattle.array_create_assemble.specs.declared.opening.Opened.{Opened}

-- these slots of a bank, looked at for an array
abbrev pub scope_of : Given → Option ℕ → ℕ → List ℕ → Scope
scope_of bank backup given uuid = record { uuid = uuid; given = given; backup = backup; sizes = sizes bank }

-- an array's uuid: the one that was asked for, or else that of the first superblock in these slots
abbrev pub array_of : Given → Option ℕ → ℕ → Option (List ℕ) → Contents → List ℕ
array_of bank backup given asked c = uuid_for asked (seen_superblocks (scope_of bank backup given []) c)

-- The given slots are slots of the bank that had never failed; each other one has failed in the call.
pub record AreGiven (bank : Given) (given : ℕ) (before after : ℕ → ℕ) : Type 0 where
  pub known : (s : ℕ) → IsTrue (has_slot given s) → s < bank.slots
  pub sound : (s : ℕ) → IsTrue (has_slot given s) → before s ≡ 0
  pub failed : (s : ℕ) → s < bank.slots → IsFalse (has_slot given s) → IsFaulted s before after

-- each slot that has one of these superblocks is given
abbrev pub AreOfGiven : ℕ → List (Option Sb) → Type 0
AreOfGiven given own = (s : ℕ) (sb : Sb) → own_in own s ≡ Some sb → IsTrue (has_slot given s)

-- the sectors of each slot are counted in 64 bits
abbrev pub AreCounted : Given → Type 0
AreCounted bank = (s : ℕ) → s < bank.slots → bank.sectors s < 2 ^ 64

-- a stop leaves what these slots hold now, and nothing else
abbrev pub AreFlushed : Contents → List Operation → ℕ → Type 0
AreFlushed start tape given =
    (s k : ℕ) → IsTrue (has_slot given s) → disk start tape s k ≡ contents start tape (length tape) s k ∷ []

-- What is found: the reading of what the given slots hold for the array, which is refused for nothing, in a reshape or not. The lost slots are the bank's other ones.
pub record IsFound (tells : Type 0) (bank : Given) (c : Contents) (backup : Option ℕ) (asked : Option (List ℕ)) (opened : Opened) : Type 0 where
  pub elected : IsElected (sizes bank).sectors (take bank.slots opened.members.own) opened.members.lost opened.members
  pub lost : (s : ℕ) → has_slot opened.members.lost s ≡ (nat_lt s bank.slots && not (has_slot opened.given s))
  pub backed : backup_absent (scope_of bank backup opened.given opened.members.newest.set_uuid) opened.members.newest ≡ None
  pub array : tells → opened.members.newest.set_uuid ≡ array_of bank backup opened.given asked c
  pub says : tells → reading (scope_of bank backup opened.given opened.members.newest.set_uuid) c ≡ Some (reading_in bank.slots opened.members)
  pub accepted : tells → verdict (scope_of bank backup opened.given opened.members.newest.set_uuid) c ≡ None

-- the backup has no superblock of the array
abbrev pub IsAside : Option ℕ → List (Option Sb) → Type 0
IsAside backup own = (slot : ℕ) → IsTrue (is_backup backup slot) → own_in own slot ≡ None

-- the first refusal of what the given slots hold
pub record IsUnfound (tells : Type 0) (bank : Given) (c : Contents) (backup : Option ℕ) (asked : Option (List ℕ)) (before after : ℕ → ℕ) (refusal : Refusal) : Type 0 where
  pub given : ℕ
  pub slots : AreGiven bank given before after
  pub why : tells → verdict (scope_of bank backup given (array_of bank backup given asked c)) c ≡ Some refusal

-- a refusal has its cause; want of memory may come at any time
abbrev pub HasFoundNone : Type 0 → Given → Contents → Option ℕ → Option (List ℕ) → (ℕ → ℕ) → (ℕ → ℕ) → Fault → Type 0
HasFoundNone tells bank c backup asked before after (Refused refusal) = IsUnfound tells bank c backup asked before after refusal
HasFoundNone tells bank c backup asked before after NoMemory = Unit {0}

-- What is opened: the reading of what the given slots hold for the array, which is refused for nothing and has no active
-- reshape. The lost slots are the bank's other ones.
pub record IsOpened (tells : Type 0) (bank : Given) (c : Contents) (backup : Option ℕ) (asked : Option (List ℕ)) (opened : Opened) : Type 0 where
  pub elected : IsElected (sizes bank).sectors (take bank.slots opened.members.own) opened.members.lost opened.members
  pub lost : (s : ℕ) → has_slot opened.members.lost s ≡ (nat_lt s bank.slots && not (has_slot opened.given s))
  pub still : IsFalse (is_reshaping opened.members.newest)
  pub array : tells → opened.members.newest.set_uuid ≡ array_of bank backup opened.given asked c
  pub says : tells → reading (scope_of bank backup opened.given opened.members.newest.set_uuid) c ≡ Some (reading_in bank.slots opened.members)
  pub accepted : tells → verdict (scope_of bank backup opened.given opened.members.newest.set_uuid) c ≡ None
