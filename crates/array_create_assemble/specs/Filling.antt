-- What is left of a bank's slots while an array is made in some of them.
use Rattle.std.specs.Prelude.{◌≡◌, ◌≢◌, ℕ, ◌+◌, ◌^◌, ◌<◌, ◌≤◌, List, [], ◌∷◌, ◌++◌, length, slice_index_or, Option, Some, None, ⊤}
use Rattle.array_found_laws.specs.raid_types_Sectors.{Sector, zero_sector}
use Rattle.array_found_laws.specs.sb_codec_Superblock.{superblock_in}
use Rattle.array_found_laws.specs.sb_codec_the_Sb.{Sb}
use Rattle.array_create_assemble.specs.declared.spec.CreateSpec.{CreateSpec}
use Rattle.bank.specs.declared.bank.Operation.{Operation}
use Rattle.bank.specs.declared.bank.Operation.TheVariants.{Write, Flush}
use Rattle.bank.specs.Given.{Given}
use Rattle.bank.specs.Tape.{Contents, contents, disk}
use Rattle.array_found_laws.specs.sb_specs_the_Members.{Members}
use Rattle.array_found_laws.specs.sb_specs_Found.{IsInSectors}
use Rattle.array_found_laws.specs.raid_types_the_Role_TheVariants.{Whole}
use Rattle.array_found_laws.specs.raid_types_Search.{tabulate}
use Rattle.array_create_assemble.specs.Opening.{AreFlushed}
use Rattle.array_create_assemble.specs.Making.{created_sb}

-- the writes among these operations are to slots below n
abbrev pub AreBelow : ℕ → List Operation → Type 0
AreBelow n [] = ⊤
AreBelow n (Write t j w ∷ ops) = (t < n) × AreBelow n ops
AreBelow n (Flush t ∷ ops) = AreBelow n ops

-- no slot but the first n was written
abbrev pub OnlyBelow : ℕ → List Operation → List Operation → Type 0
OnlyBelow n old new = (ops : List Operation) × AreBelow n ops × (new ≡ old ++ ops)

-- The operations reached one slot alone, and a stop leaves what it holds now.
pub record IsSlotDone (start : Contents) (old new : List Operation) (slot : ℕ) : Type 0 where
  pub others : (s k : ℕ) → s ≢ slot → disk start new s k ≡ disk start old s k
  pub flushed : (k : ℕ) → disk start new slot k ≡ contents start new (length new) slot k ∷ []

-- the superblock of a member that is made, with its checksum, in a slot of so many sectors
pub record IsMade (spec : CreateSpec) (number sectors : ℕ) (sb : Sb) : Type 0 where
  pub second : List ℕ
  pub count : length second ≡ 256
  pub made : sb ≡ record (created_sb spec number sectors second) { sb_csum = sb.sb_csum }

-- What is left where the operations reached the first n slots: what had been flushed is flushed again, and the other slots
-- are as they were.
pub record AreSlotsDone (start : Contents) (n : ℕ) (old new : List Operation) : Type 0 where
  pub flushed : (given : ℕ) → AreFlushed start old given → AreFlushed start new given
  pub others : (s k : ℕ) → n ≤ s → disk start new s k ≡ disk start old s k

-- no count falls, and only those of the first n slots may rise
pub record OnlyFirstFail (n : ℕ) (before after : ℕ → ℕ) : Type 0 where
  pub never_falls : (s : ℕ) → before s ≤ after s
  pub others : (s : ℕ) → n ≤ s → after s ≡ before s

-- zeros stand in these rows of the first n slots
abbrev pub AreZeros : ℕ → CreateSpec → Contents → Type 0
AreZeros n spec c = (slot row : ℕ) → slot < n → row < spec.size → c slot (spec.offset + row) ≡ zero_sector

-- a slot of so many sectors holds this superblock, which stands in two sectors of bytes
pub record IsStored (long : ℕ) (slot : ℕ → Sector) (own : Option Sb) : Type 0 where
  pub there : superblock_in long slot ≡ own
  pub bytes : IsInSectors slot

-- the first n slots hold these superblocks
abbrev pub AreStored : Given → ℕ → List (Option Sb) → Contents → Type 0
AreStored bank n own c = (slot : ℕ) → slot < n → IsStored (bank.sectors slot) (c slot) (slice_index_or own slot None)

-- the superblocks of the first n members that are made, and no other one
pub record AreFirst (bank : Given) (spec : CreateSpec) (n : ℕ) (own : List (Option Sb)) : Type 0 where
  pub count : length own ≡ 32
  pub made : (s : ℕ) → s < n → (sb : Sb) × (slice_index_or own s None ≡ Some sb) × IsMade spec s (bank.sectors s) sb
  pub none : (s : ℕ) → n ≤ s → slice_index_or own s None ≡ None
  pub short : (s : ℕ) → s < n → bank.sectors s < 2 ^ 64

-- The members that are made: the first slots of the bank, each with the role of its number, whole; no spare, and no slot
-- lost. Each has the superblock that is made for it, and the first one's is the newest.
pub record AreFilled (bank : Given) (spec : CreateSpec) (members : Members) : Type 0 where
  pub own : AreFirst bank spec spec.shape.disks members.own
  pub newest : slice_index_or members.own 0 None ≡ Some members.newest
  pub roles : members.roles ≡ tabulate spec.shape.disks (λ role. Whole role)
  pub spares : members.spares ≡ []
  pub lost : members.lost ≡ 0
