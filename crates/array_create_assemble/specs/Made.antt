-- What is made of an array that is created, and what its creation is refused for.
use Rattle.std.specs.Prelude.{◌≡◌, ◌⊎◌, ℕ, ◌<◌, Bool, ◌&&◌, nat_le, nat_lt, is_some, Option, Some, None, IsTrue}
use Rattle.bank.specs.raid_types_the_Fault.{Fault}
use Rattle.bank.specs.raid_types_the_Fault_TheVariants.{Refused, NoMemory}
use Rattle.array_found_laws.specs.raid_types_the_Refusal.{Refusal}
use Rattle.array_found_laws.specs.raid_types_the_Refusal_TheVariants.{SlotFault, UuidInUse}
use Rattle.array_found_laws.specs.raid_types_Search.{least_below}
use Rattle.array_found_laws.specs.raid_types_Shapes.{has_slot}
use Rattle.bank.specs.Given.{Given, IsFaulted}
use Rattle.bank.specs.Tape.{Contents}
use Rattle.array_found_laws.specs.sb_specs_Reading.{Scope, seen_superblock, of_array, shape_of, is_clean}
use Rattle.array_create_assemble.specs.declared.spec.CreateSpec.{CreateSpec}
use Rattle.sb_add_spare.specs.array_members_Placed.{IsPlaced}
use Rattle.array_create_assemble.specs.declared.opening.Opened.{Opened}
use Rattle.array_create_assemble.specs.Opening.{scope_of, AreGiven}
use Rattle.array_create_assemble.specs.Creating.{create_refusal}
use Rattle.array_create_assemble.specs.Filling.{AreFilled}

-- the slot is looked at for a member, is none of the first n, and holds a valid superblock of the array
abbrev pub is_used : Scope → Contents → ℕ → ℕ → Bool
is_used scope c n slot = nat_le n slot && is_some (of_array scope.uuid (seen_superblock scope c slot))

-- the lowest such slot
abbrev pub used_slot : Scope → Contents → ℕ → Option ℕ
used_slot scope c n = least_below scope.sizes.slots (is_used scope c n)

-- Which of the bank's slots didn't fail while they were looked at, and which of them, if any, holds the array already and
-- isn't one of those that are to be written.
pub record IsUse (tells : Type 0) (bank : Given) (c : Contents) (backup : Option ℕ) (spec : CreateSpec) (before after : ℕ → ℕ) (used : Option ℕ) : Type 0 where
  pub given : ℕ
  pub slots : AreGiven bank given before after
  pub is : tells → used_slot (scope_of bank backup given spec.uuid) c spec.shape.disks ≡ used

-- a slot that is used, or, where there is none, a slot that has failed
abbrev pub IsLateRefusal : Type 0 → Given → Contents → Option ℕ → CreateSpec → (ℕ → ℕ) → (ℕ → ℕ) → Refusal → Type 0
IsLateRefusal tells bank c backup spec before after (UuidInUse slot) = IsUse tells bank c backup spec before after (Some slot)
IsLateRefusal tells bank c backup spec before after (SlotFault slot) =
    (slot < bank.slots) × IsFaulted slot before after × IsUse tells bank c backup spec before after None
IsLateRefusal tells bank c backup spec before after other = ⊥

-- a later refusal has its cause; want of memory may come at any time
abbrev pub HasLateCause : Type 0 → Given → Contents → Option ℕ → CreateSpec → (ℕ → ℕ) → (ℕ → ℕ) → Fault → Type 0
HasLateCause tells bank c backup spec before after (Refused refusal) = IsLateRefusal tells bank c backup spec before after refusal
HasLateCause tells bank c backup spec before after NoMemory = Unit {0}

-- the first refusal that needs no device call, or where there is none, a later one, or want of memory
abbrev pub HasCreateCause : Type 0 → Given → Contents → Option ℕ → CreateSpec → (ℕ → ℕ) → (ℕ → ℕ) → Fault → Type 0
HasCreateCause tells bank c backup spec before after fault =
    ((refusal : Refusal) × (create_refusal bank backup spec ≡ Some refusal) × (fault ≡ Refused refusal))
    ⊎ ((create_refusal bank backup spec ≡ None) × HasLateCause tells bank c backup spec before after fault)

-- A new array: all slots of the bank are given, and the members are where rows can be read and written; it is clean.
pub record IsNew (bank : Given) (spec : CreateSpec) (opened : Opened) : Type 0 where
  pub members : AreFilled bank spec opened.members
  pub given : (slot : ℕ) → has_slot opened.given slot ≡ nat_lt slot bank.slots
  pub placed : IsPlaced bank opened.members
  pub uuid : opened.members.newest.set_uuid ≡ spec.uuid
  pub shape : shape_of opened.members.newest ≡ spec.shape
  pub size : opened.members.newest.size ≡ spec.size
  pub events : opened.members.newest.events ≡ 1
  pub clean : IsTrue (is_clean opened.members.newest)
