-- What a stop may leave at each mark of an update of several passes.
use Rattle.std.specs.Prelude.{◌≡◌, ◌≢◌, ◌⊎◌, ℕ, ◌+◌, ◌-◌, ◌^◌, ◌<◌, ◌≤◌, min, true, false, List, [], ◌∷◌, length, replicate, Option}
use Rattle.bank.specs.raid_types_Sectors.{Sector}
use Rattle.reshape_geometry.specs.raid_types_Shapes.{has_slot}
use Rattle.sb_codec.specs.declared.sb.Sb.{Sb}
use Rattle.bank.specs.declared.bank.Operation.{Operation}
use Rattle.bank.specs.Given.{IsFaulted}
use Rattle.bank.specs.Tape.{Kept, IsIn, EachMark, disk}
use Rattle.sb_specs.specs.declared.change.Give.{Give}
use Rattle.sb_specs.specs.declared.change.Give.TheVariants.{Same}
use Rattle.sb_specs.specs.declared.change.Change.{Change}
use Rattle.sb_specs.specs.declared.members.Members.{Members}
use Rattle.sb_specs.specs.Update.{give_of, own_in, with_shared, with_roles, is_recovery}
use Rattle.sb_specs.specs.Writing.{IsPlanned}

-- Sector 8 of a live slot holds former values and at most one that was written, and no other sector was. A slot that
-- was lost before isn't touched. d and e are what a stop may leave, before and now.
pub record IsTouched (live lost : ℕ) (Written : ℕ → Sector → Type 0) (d e : ℕ → ℕ → List Sector) : Type 0 where
  pub two : (s : ℕ) → length (e s 8) ≤ length (d s 8) + 1
  pub values : (s : ℕ) (v : Sector) → IsIn (e s 8) v → IsIn (d s 8) v ⊎ Written s v
  pub gone : (s k : ℕ) → has_slot lost s ≡ true → e s k ≡ d s k
  pub others : (s k : ℕ) → has_slot live s ≡ false → e s k ≡ d s k
  pub elsewhere : (s k : ℕ) → k ≢ 8 → Kept (d s k) (e s k)

-- At a mark of it, at most one slot that wasn't lost has more values in sector 8 than before.
pub record IsUpdating (live lost0 lost : ℕ) (Written : ℕ → Sector → Type 0) (d e : ℕ → ℕ → List Sector) : Type 0 where
  pub touched : IsTouched live lost0 Written d e
  pub turn : ℕ
  pub single : (s : ℕ) → s ≢ turn → has_slot lost s ≡ false → length (e s 8) ≤ length (d s 8)

-- At its end, none has.
pub record IsUpdated (live lost0 lost : ℕ) (Written : ℕ → Sector → Type 0) (d e : ℕ → ℕ → List Sector) : Type 0 where
  pub touched : IsTouched live lost0 Written d e
  pub single : (s : ℕ) → has_slot lost s ≡ false → length (e s 8) ≤ length (d s 8)

-- a stretch of an update, from one mark to another
pub record IsUpdate (tells : Type 0) (live lost0 lost : ℕ) (Written : ℕ → Sector → Type 0) (start : ℕ → ℕ → Sector) (old new : List Operation) : Type 0 where
  pub marks : EachMark tells start old new (IsUpdating live lost0 lost Written (disk start old))
  pub end : tells → IsUpdated live lost0 lost Written (disk start old) (disk start new)

-- The slots that were lost stay so; one that was lost since was live, and has failed.
pub record AreLosses (slots old new : ℕ) (before after : ℕ → ℕ) : Type 0 where
  pub stay : (s : ℕ) → has_slot old s ≡ true → has_slot new s ≡ true
  pub live : (s : ℕ) → has_slot new s ≡ true → has_slot old s ≡ false → has_slot slots s ≡ true
  pub failed : (s : ℕ) → has_slot new s ≡ true → has_slot old s ≡ false → IsFaulted s before after

-- the same superblock but for its event count, which may have risen, and its role entries
pub record IsLater (former newest : Sb) : Type 0 where
  pub events : former.events ≤ newest.events
  pub same : newest ≡ record former { events = newest.events; dev_roles = newest.dev_roles }

-- the first sector of what is planned for a slot, by this newest superblock or a later one
abbrev pub IsRecorded : Sb → List Give → List (Option Sb) → ℕ → Sector → Type 0
IsRecorded newest gives own s v = (later : Sb) × IsLater newest later × IsPlanned later (give_of gives s) (own_in own s) v

-- each live slot holds the first sector of what is planned for it, and nothing else
abbrev pub ArePlanned : Sb → List Give → List (Option Sb) → ℕ → ℕ → (ℕ → ℕ → List Sector) → Type 0
ArePlanned newest gives own live lost e =
    (s : ℕ) → has_slot live s ≡ true → has_slot lost s ≡ false → (v : Sector) × IsPlanned newest (give_of gives s) (own_in own s) v × (e s 8 ≡ v ∷ [])

-- what an update plans for the newest superblock, before the role entries: the change's fields and one event more
abbrev pub planned_newest : Sb → Sb → Sb
planned_newest shared former = record (with_shared shared former) { events = min (former.events + 1) (2 ^ 64 - 1) }

-- The role entries were set for exactly these lost slots.
abbrev pub AreNamed : Members → Change → ℕ → ℕ → Sb → Type 0
AreNamed members change before lost newest = (table : List ℕ) × (newest.dev_roles ≡ with_roles members change before lost table)

-- the slots that get no recovery offset hold what they held, and those that get one
abbrev pub AreOthersKept : List Give → (ℕ → ℕ → List Sector) → (ℕ → ℕ → List Sector) → Type 0
AreOthersKept gives d e = (s : ℕ) → is_recovery (give_of gives s) ≡ false → e s 8 ≡ d s 8

abbrev pub AreRecoveriesKept : List Give → (ℕ → ℕ → List Sector) → (ℕ → ℕ → List Sector) → Type 0
AreRecoveriesKept gives d e = (s : ℕ) → is_recovery (give_of gives s) ≡ true → e s 8 ≡ d s 8

-- each slot that gets a recovery offset, and wasn't lost, holds it alone
abbrev pub AreRecoveriesWritten : Sb → List Give → List (Option Sb) → ℕ → ℕ → (ℕ → ℕ → List Sector) → Type 0
AreRecoveriesWritten newest gives own live lost e =
    (s : ℕ) → has_slot live s ≡ true → has_slot lost s ≡ false → is_recovery (give_of gives s) ≡ true
    → (v : Sector) × IsPlanned newest (give_of gives s) (own_in own s) v × (e s 8 ≡ v ∷ [])

-- Only once they are written is another slot's superblock written.
abbrev pub IsInOrder : Sb → List Give → List (Option Sb) → ℕ → ℕ → (ℕ → ℕ → List Sector) → (ℕ → ℕ → List Sector) → Type 0
IsInOrder newest gives own live lost d e = AreOthersKept gives d e ⊎ AreRecoveriesWritten newest gives own live lost e

-- a live slot is left
abbrev pub IsSomeLeft : ℕ → ℕ → Type 0
IsSomeLeft live lost = (s : ℕ) × (has_slot live s ≡ true) × (has_slot lost s ≡ false)

-- where anything was written, or a live slot is left, the event count rose by no more than there were operations
abbrev pub RisesByOperations : Type 0 → ℕ → ℕ → ℕ → ℕ → List Operation → List Operation → Type 0
RisesByOperations tells live lost events events' before after =
    tells → IsSomeLeft live lost ⊎ (length before < length after) → events' + length before ≤ events + length after

-- what an update writes in a slot: the newest's shared fields, in catching up, or what the change plans
abbrev pub IsWrittenBy : Sb → Change → List (Option Sb) → ℕ → Sector → Type 0
IsWrittenBy former change own s v =
    IsRecorded former (replicate 32 Same) own s v ⊎ IsRecorded (planned_newest change.shared former) change.gives own s v
