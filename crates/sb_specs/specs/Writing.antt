-- What a stop may leave while superblocks are written to sector 8 of some slots, one slot after the other.
use Rattle.std.specs.Prelude.{◌≡◌, ◌≢◌, ◌⊎◌, ℕ, ◌<◌, Bool, true, false, List, [], ◌∷◌, length, take, slice_index_or, Option, Some, None}
use Rattle.bank.specs.raid_types_Sectors.{Sector}
use Rattle.reshape_geometry.specs.raid_types_Shapes.{has_slot}
use Rattle.sb_codec.specs.declared.sb.Sb.{Sb}
use Rattle.sb_codec.specs.Superblock.{sb_of, checksum, is_valid}
use Rattle.sb_codec.specs.Writable.{IsWritable}
use Rattle.bank.specs.declared.bank.Operation.{Operation}
use Rattle.bank.specs.declared.bank.Operation.TheVariants.{Write, Flush}
use Rattle.bank.specs.Given.{Given, IsPlace, IsFaulted}
use Rattle.bank.specs.Tape.{Kept}
use Rattle.sb_specs.specs.declared.change.Give.{Give}
use Rattle.sb_specs.specs.Update.{planned, give_of, own_in}

-- a slot with room for a superblock, and the one that it has, which can be written again
pub record IsMember (given : Given) (held : Option Sb) (slot : ℕ) : Type 0 where
  pub place : IsPlace given slot 8 512
  pub sb : Sb
  pub own : held ≡ Some sb
  pub writable : IsWritable sb

-- each of these superblocks can be written again in its slot
abbrev pub AreWritable : Given → List (Option Sb) → Type 0
AreWritable given own = (slot : ℕ) (sb : Sb) → own_in own slot ≡ Some sb → IsMember given (Some sb) slot

-- The first of two sectors that are a valid superblock with these fields, but for the checksum, which is theirs.
pub record IsFirstSector (sb : Sb) (v : Sector) : Type 0 where
  pub bytes : List ℕ
  pub long : length bytes ≡ 1024
  pub small : (i : ℕ) → slice_index_or bytes i 0 < 256
  pub first : v ≡ take 512 bytes
  pub valid : is_valid bytes ≡ true
  pub fields : sb_of bytes ≡ record sb { sb_csum = checksum bytes }

-- the first sector of what is planned for a slot
abbrev pub IsPlanned : Sb → Give → Option Sb → Sector → Type 0
IsPlanned newest give None v = ⊥
IsPlanned newest give (Some own) v = IsFirstSector (planned newest give own) v

-- The operations of a slot's turn: none where it isn't due, else a write of what is planned and a flush; where the slot
-- fails, the first few of these.
abbrev pub IsTurn : (Sector → Type 0) → ℕ → Bool → Bool → List Operation → Type 0
IsTurn Plan slot false failed ops = ops ≡ []
IsTurn Plan slot true true ops = (v : Sector) × Plan v × (n : ℕ) × (ops ≡ take n (Write slot 8 v ∷ Flush slot ∷ []))
IsTurn Plan slot true false ops = (v : Sector) × Plan v × (ops ≡ Write slot 8 v ∷ Flush slot ∷ [])

-- In its turn a sector has its former values, the planned one and these, or the planned one alone.
abbrev pub IsBetween : (Sector → Type 0) → List Sector → List Sector → Type 0
IsBetween Plan old now = (now ≡ old) ⊎ ((v : Sector) × Plan v × ((now ≡ v ∷ old) ⊎ (now ≡ v ∷ [])))

-- After it, it has the planned one alone, unless the slot failed.
abbrev pub IsWritten : (Sector → Type 0) → Bool → List Sector → List Sector → Type 0
IsWritten Plan false old now = (v : Sector) × Plan v × (now ≡ v ∷ [])
IsWritten Plan true old now = IsBetween Plan old now

-- It is this slot's turn: of the slots that are due, those before it are written, and those after it as they were.
-- No other sector was written; a flush may have left its present value alone.
pub record IsStage (Plan : ℕ → Sector → Type 0) (due failed : ℕ → Bool) (turn : ℕ) (d e : ℕ → ℕ → List Sector) : Type 0 where
  pub before : (s : ℕ) → s < turn → due s ≡ true → IsWritten (Plan s) (failed s) (d s 8) (e s 8)
  pub here : due turn ≡ true → IsBetween (Plan turn) (d turn 8) (e turn 8)
  pub after : (s : ℕ) → turn < s → e s 8 ≡ d s 8
  pub others : (s k : ℕ) → due s ≡ false → e s k ≡ d s k
  pub elsewhere : (s k : ℕ) → k ≢ 8 → Kept (d s k) (e s k)

-- it is some slot's turn
abbrev pub IsWriting : (ℕ → Sector → Type 0) → (ℕ → Bool) → (ℕ → Bool) → (ℕ → ℕ → List Sector) → (ℕ → ℕ → List Sector) → Type 0
IsWriting Plan due failed d e = (turn : ℕ) × IsStage Plan due failed turn d e

-- all turns are over
pub record AreWritten (Plan : ℕ → Sector → Type 0) (due failed : ℕ → Bool) (d e : ℕ → ℕ → List Sector) : Type 0 where
  pub written : (s : ℕ) → due s ≡ true → IsWritten (Plan s) (failed s) (d s 8) (e s 8)
  pub others : (s k : ℕ) → due s ≡ false → e s k ≡ d s k
  pub elsewhere : (s k : ℕ) → k ≢ 8 → Kept (d s k) (e s k)

-- each of these slots can be written
abbrev pub AreMembers : Given → List (Option Sb) → ℕ → Type 0
AreMembers given own live = (s : ℕ) → has_slot live s ≡ true → IsMember given (own_in own s) s

-- what is planned for each slot
abbrev pub plan_of : Sb → List Give → List (Option Sb) → ℕ → Sector → Type 0
plan_of newest gives own s = IsPlanned newest (give_of gives s) (own_in own s)

-- The slots that were lost stay so; one that was lost since was due, and has failed.
pub record AreLost (is_due : ℕ → Bool) (old new : ℕ) (before after : ℕ → ℕ) : Type 0 where
  pub stay : (s : ℕ) → has_slot old s ≡ true → has_slot new s ≡ true
  pub due : (s : ℕ) → has_slot new s ≡ true → has_slot old s ≡ false → is_due s ≡ true
  pub failed : (s : ℕ) → has_slot new s ≡ true → has_slot old s ≡ false → IsFaulted s before after
