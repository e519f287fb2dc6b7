-- A slot's superblock as it is stored.
use Rattle.std.specs.Prelude.{◌≡◌, ℕ, ◌<◌, ◌≤◌, Option, Result, Ok, Err}
use Rattle.array_requests.specs.raid_types_the_Refusal.{Refusal}
use Rattle.array_requests.specs.raid_types_the_Refusal_TheVariants.{NoSuchSlot, SlotFault}
use Rattle.array_requests.specs.bank_Given.{IsFaulted}
use Rattle.array_requests.specs.bank_the_BankFault.{BankFault}
use Rattle.script.specs.sb_codec_the_Sb.{Sb}
use Rattle.script.specs.sb_codec_Superblock.{superblock_in}
use Rattle.script.specs.declared.lines.Line.{Line}
use Rattle.script.specs.declared.lines.Line.TheVariants.{Examine}
use Rattle.run_specs.specs.declared.report.Outside.TheVariants.{Examined, Refused}
use Rattle.run_specs.specs.declared.report.Answered.{Answered}
use Rattle.run_specs.specs.declared.report.Answered.TheVariants.{Outside as IsOutside}
use Rattle.run_specs.specs.Making.{Setting, held_at}

-- what stands at a mark where a superblock stands, if it is a valid one, whichever array's
abbrev pub stored_at : Setting → ℕ → ℕ → Option Sb
stored_at setting mark slot = superblock_in (setting.given.sectors slot) (held_at setting mark slot)

-- the bank has the slot, and this stands in it
pub record IsExamined (setting : Setting) (mark slot : ℕ) (found : Option Sb) : Type 0 where
  pub there : slot < setting.given.slots
  pub stored : setting.tells → found ≡ stored_at setting mark slot

-- of the slot that the line asks for
abbrev pub IsExaminedBy : Setting → ℕ → Line → ℕ → Option Sb → Type 0
IsExaminedBy setting mark (Examine asked) slot found = (slot ≡ asked) × IsExamined setting mark slot found
IsExaminedBy setting mark line slot found = ⊥

-- why it wasn't looked at: the bank has no such slot, or it has failed
abbrev pub IsUnexamined : Setting → ℕ → Refusal → Type 0
IsUnexamined setting slot (NoSuchSlot asked) = (asked ≡ slot) × (setting.given.slots ≤ slot)
IsUnexamined setting slot (SlotFault failed) = (failed ≡ slot) × IsFaulted slot setting.before setting.now
IsUnexamined setting slot refusal = ⊥

-- what is answered of a slot by what was found in it
abbrev pub told_of : ℕ → Result (Option Sb) BankFault → Answered
told_of slot (Ok found) = IsOutside (Examined slot found)
told_of slot (Err fault) = IsOutside (Refused (SlotFault slot))
