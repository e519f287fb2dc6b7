-- Which superblocks an election looks at, and what it answers.
use Rattle.std.specs.Prelude.{◌≡◌, ◌≢◌, ℕ, ◌-◌, ◌^◌, ◌≤◌, Bool, ◌&&◌, not, nat_lt, IsTrue, IsFalse, List, [], length, take, drop, replicate, Option, Some, None, unwrap_or, Result, Ok, Err, IsErr}
use Rattle.std.specs.Option.{option_or}
use Rattle.bank.specs.raid_types_the_Role.{Role}
use Rattle.bank.specs.raid_types_the_Fault.{Fault}
use Rattle.bank.specs.raid_types_the_Fault_TheVariants.{Refused, NoMemory}
use Rattle.reshape_geometry.specs.raid_types_Search.{tabulate}
use Rattle.reshape_geometry.specs.raid_types_Shapes.{has_slot}
use Rattle.sb_codec.specs.declared.sb.Sb.{Sb}
use Rattle.bank.specs.Given.{Given, sizes, IsFaulted}
use Rattle.bank.specs.Tape.{Contents}
use Rattle.sb_specs.specs.declared.members.Members.{Members}
use Rattle.sb_specs.specs.Reading.{Scope, Reading, seen_superblock, superblocks, is_backup, uuid_of_first, reading_of}
use Rattle.sb_specs.specs.Verdict.{members_refusal, members_verdict}

-- every slot but these
abbrev pub all_but : ℕ → ℕ
all_but lost = 2 ^ 32 - 1 - lost

-- the members of a bank that were not lost, for an array
abbrev pub members_scope : Given → Option ℕ → ℕ → List ℕ → Scope
members_scope given backup lost uuid = record { uuid = uuid; given = all_but lost; backup = backup; sizes = sizes given }

-- the superblocks that are looked at, whichever array's they are
abbrev pub seen_superblocks : Scope → Contents → List (Option Sb)
seen_superblocks scope c = tabulate scope.sizes.slots (seen_superblock scope c)

-- A call that reads at most this slot: only its count may rise, and a failure has raised it or found it at its end.
pub record IsCausedBy {T E : Type 0} (slot : ℕ) (before after : ℕ → ℕ) (result : Result T E) : Type 0 where
  pub never_falls : (s : ℕ) → before s ≤ after s
  pub others : (s : ℕ) → s ≢ slot → after s ≡ before s
  pub failed : IsErr result → IsFaulted slot before after

-- a slot of the bank that isn't the backup
abbrev pub is_member : Given → Option ℕ → ℕ → Bool
is_member given backup slot = nat_lt slot given.slots && not (is_backup backup slot)

-- no count falls, and only those of member slots may rise
pub record OnlyMembersFail (given : Given) (backup : Option ℕ) (before after : ℕ → ℕ) : Type 0 where
  pub never_falls : (s : ℕ) → before s ≤ after s
  pub others : (s : ℕ) → IsFalse (is_member given backup s) → after s ≡ before s

-- these slots are members that failed
pub record AreLost (given : Given) (backup : Option ℕ) (lost : ℕ) (before after : ℕ → ℕ) : Type 0 where
  pub members : (s : ℕ) → IsTrue (has_slot lost s) → IsTrue (is_member given backup s)
  pub failed : (s : ℕ) → IsTrue (has_slot lost s) → IsFaulted s before after

-- an array's uuid: the given one, or else that of the first superblock that is looked at
abbrev pub uuid_for : Option (List ℕ) → List (Option Sb) → List ℕ
uuid_for given seen = unwrap_or (option_or given (uuid_of_first seen)) []

-- what the members say; the slots past the bank's have no superblock
abbrev pub reading_in : ℕ → Members → Reading
reading_in slots members =
    record { newest = members.newest; own = take slots members.own; roles = members.roles; spares = members.spares }

-- these members are the reading of the superblocks of an array's slots, which are refused for nothing
pub record IsElected (sectors : ℕ → ℕ) (own : List (Option Sb)) (lost : ℕ) (members : Members) : Type 0 where
  pub says : reading_of sectors own ≡ Some (reading_in (length own) members)
  pub accepted : members_verdict sectors own ≡ None
  pub others : drop (length own) members.own ≡ replicate (32 - length own) None
  pub named : members.lost ≡ lost

-- their reading where nothing is refused, and the first refusal otherwise; want of memory may come at any time
abbrev pub IsAnswer : (ℕ → ℕ) → List (Option Sb) → ℕ → Result Members Fault → Type 0
IsAnswer sectors own lost (Ok members) = IsElected sectors own lost members
IsAnswer sectors own lost (Err (Refused refusal)) = members_verdict sectors own ≡ Some refusal
IsAnswer sectors own lost (Err NoMemory) = Unit {0}

-- An election's answer to what the bank holds: that to the array's superblocks in its member slots, but for those
-- that failed in the call, which are the lost ones.
pub record HasElected (tells : Type 0) (given : Given) (c : Contents) (backup : Option ℕ) (uuid : Option (List ℕ))
    (before after : ℕ → ℕ) (result : Result Members Fault) : Type 0 where
  pub lost : ℕ
  pub failed : AreLost given backup lost before after
  pub array : List ℕ
  pub named : tells → array ≡ uuid_for uuid (seen_superblocks (members_scope given backup lost []) c)
  pub own : List (Option Sb)
  pub read : tells → own ≡ superblocks (members_scope given backup lost array) c
  pub answer : IsAnswer (sizes given).sectors own lost result

-- a reading's roles and spares where nothing is refused, and the first refusal otherwise
abbrev pub IsJudged : (ℕ → ℕ) → Reading → Result (List Role × List ℕ) Fault → Type 0
IsJudged sectors r (Ok found) = (found.0 ≡ r.roles) × (found.1 ≡ r.spares) × (members_refusal sectors r ≡ None)
IsJudged sectors r (Err (Refused refusal)) = members_refusal sectors r ≡ Some refusal
IsJudged sectors r (Err NoMemory) = Unit {0}
