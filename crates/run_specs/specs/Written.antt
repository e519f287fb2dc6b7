-- Where the writes of a run stand on its tape.
use Rattle.std.specs.Prelude.{◌≡◌, ◌⊎◌, ℕ, ◌<◌, ◌≤◌, Bool, false, List, [], ◌∷◌, slice_get, Option, Some, None, Result, Ok, Err, ⊤}
use Rattle.array_requests.specs.raid_types_Sectors.{Sector}
use Rattle.array_requests.specs.raid_types_the_NoMemory.{NoMemory}
use Rattle.array_requests.specs.raid_types_the_Refusal_TheVariants.{SlotFault}
use Rattle.array_requests.specs.bank_Given.{Given}
use Rattle.array_requests.specs.bank_the_Operation_TheVariants.{Write}
use Rattle.script.specs.history_Transfers.{last_end_from}
use Rattle.array_requests.specs.array_create_assemble_Creating.{create_refusal}
use Rattle.script.specs.declared.lines.Line.{Line}
use Rattle.script.specs.declared.lines.Line.TheVariants.{Create}
use Rattle.run_specs.specs.declared.report.Outside.TheVariants.{Created, Refused}
use Rattle.run_specs.specs.declared.report.Answered.{Answered}
use Rattle.run_specs.specs.declared.report.Answered.TheVariants.{Outside as IsOutside}
use Rattle.run_specs.specs.Histories.{History}
use Rattle.run_specs.specs.Making.{Setting}
use Rattle.run_specs.specs.Replies.{spec_of}

-- the mark stands between a history's first mark and its last entry's end
pub record IsWithin (history : History) (mark : ℕ) : Type 0 where
  pub begun : history.first ≤ mark
  pub unended : mark < last_end_from history.first history.entries

-- so it does in one of these
abbrev pub IsInEpoch : List History → ℕ → Type 0
IsInEpoch [] mark = ⊥
IsInEpoch (history ∷ histories) mark = IsWithin history mark ⊎ IsInEpoch histories mark

-- where no array runs, a create line may write in the slots that its array is to have, unless it is refused for what it asks
abbrev pub MayWrite : Given → Option ℕ → Bool → Line → ℕ → Type 0
MayWrite given backup false (Create line) slot = (create_refusal given backup (spec_of line) ≡ None) × (slot < line.shape.disks)
MayWrite given backup running line slot = ⊥

-- and only one that made its array, or met a slot that failed, has
abbrev pub HasWritten : Given → Option ℕ → Line → Answered → ℕ → Type 0
HasWritten given backup line (IsOutside Created) slot = MayWrite given backup false line slot
HasWritten given backup line (IsOutside (Refused (SlotFault failed))) slot = MayWrite given backup false line slot
HasWritten given backup line what slot = ⊥

-- each history begins at this mark or later, and ends where it began or later
abbrev pub AreSpans : ℕ → List History → Type 0
AreSpans low [] = ⊤
AreSpans low (history ∷ histories) = ((low ≤ history.first) × (history.first ≤ last_end_from history.first history.entries)) × AreSpans low histories

-- ---- one line

-- What stood inside an epoch still does, and each write since is inside one, or to a slot that may have been written.
pub record IsWritten (setting : Setting) (olds news : List History) (May : ℕ → Type 0) : Type 0 where
  pub spans : (low : ℕ) → low ≤ setting.began → AreSpans low olds → AreSpans low news
  pub kept : (mark : ℕ) → IsInEpoch olds mark → IsInEpoch news mark
  pub placed : (mark slot at : ℕ) (body : Sector) → setting.began ≤ mark → slice_get setting.tape mark ≡ Some (Write slot at body) → IsInEpoch news mark ⊎ May slot

-- by the answer to a line, or where memory was short for one, by whether an array ran
abbrev pub IsWrittenBy : Setting → Bool → List History → List History → Line → Result Answered NoMemory → Type 0
IsWrittenBy setting running olds news line (Ok what) = IsWritten setting olds news (HasWritten setting.given setting.backup line what)
IsWrittenBy setting running olds news line (Err fault) = IsWritten setting olds news (MayWrite setting.given setting.backup running line)
