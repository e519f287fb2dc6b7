-- The order of the writes of an update: a recovery offset is on its disk before another slot names the role.
use Rattle.std.specs.Prelude.{◌≡◌, ◌⊎◌, ℕ, true, false, List, replicate, Option}
use Rattle.bank.specs.raid_types_Sectors.{Sector}
use Rattle.reshape_geometry.specs.raid_types_Shapes.{has_slot}
use Rattle.sb_codec.specs.declared.sb.Sb.{Sb}
use Rattle.bank.specs.Tape.{IsIn}
use Rattle.sb_specs.specs.declared.change.Give.{Give}
use Rattle.sb_specs.specs.declared.change.Give.TheVariants.{Same}
use Rattle.sb_specs.specs.declared.change.Change.{Change}
use Rattle.sb_specs.specs.Update.{give_of, is_recovery}
use Rattle.sb_specs.specs.Updating.{IsRecorded, planned_newest}

-- A slot that gets no recovery offset has none of the change yet: former values alone, or those of catching up.
abbrev pub AreOthersUnplanned : Sb → List Give → List (Option Sb) → (ℕ → ℕ → List Sector) → (ℕ → ℕ → List Sector) → Type 0
AreOthersUnplanned former gives own d e =
    (s : ℕ) (v : Sector) → is_recovery (give_of gives s) ≡ false → IsIn (e s 8) v → IsIn (d s 8) v ⊎ IsRecorded former (replicate 32 Same) own s v

-- a live slot that gets a recovery offset, and isn't lost, has it in each of its values
abbrev pub AreRecoveriesRecorded : Sb → List Give → List (Option Sb) → ℕ → ℕ → (ℕ → ℕ → List Sector) → Type 0
AreRecoveriesRecorded newest gives own live lost e =
    (s : ℕ) (v : Sector) → has_slot live s ≡ true → has_slot lost s ≡ false → is_recovery (give_of gives s) ≡ true → IsIn (e s 8) v → IsRecorded newest gives own s v

-- Only once they have it is the change written to another slot.
abbrev pub IsRecoveryFirst : Sb → Change → List (Option Sb) → ℕ → ℕ → (ℕ → ℕ → List Sector) → (ℕ → ℕ → List Sector) → Type 0
IsRecoveryFirst former change own live lost d e =
    AreOthersUnplanned former change.gives own d e ⊎ AreRecoveriesRecorded (planned_newest change.shared former) change.gives own live lost e
