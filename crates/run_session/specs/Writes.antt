-- Where the writes of a run stand on its tape.
use Rattle.std.specs.Prelude.{◌≡◌, ◌⊎◌, ℕ, ◌<◌, ◌≤◌, Bool, List, [], ◌∷◌, slice_get, Option, Some, ⊤}
use Rattle.run_blocks.specs.raid_types_Sectors.{Sector}
use Rattle.run_blocks.specs.bank_Given.{Given}
use Rattle.run_blocks.specs.bank_Tape.{OnlyFlushesBetween}
use Rattle.run_blocks.specs.bank_the_Operation_TheVariants.{Write}
use Rattle.run_blocks.specs.history_the_Epoch.{Epoch}
use Rattle.run_blocks.specs.history_Transfers.{last_end_from}
use Rattle.run_blocks.specs.script_the_Numbered.{Numbered}
use Rattle.run_blocks.specs.run_specs_the_LineReply.{LineReply}
use Rattle.run_session.specs.declared.sessions.Stop.{Stop}
use Rattle.run_session.specs.declared.sessions.Stop.TheVariants.{NoMemory as WantsMemory}
use Rattle.run_blocks.specs.run_specs_Histories.{History}
use Rattle.run_blocks.specs.run_specs_Making.{Setting}
use Rattle.run_blocks.specs.run_specs_Replies.{mark_shown}
use Rattle.run_blocks.specs.run_specs_Written.{IsInEpoch, MayWrite, HasWritten, AreSpans}

-- The write at this mark, to this slot, is of one of these create lines, the first of which was begun at `low`: it stands between the reply
-- before and the line's own, or behind the last reply, where memory was short for one more, and no array ran.
abbrev pub IsOfCreate : Given → Option ℕ → Option Stop → Bool → ℕ → List Numbered → List LineReply → ℕ → ℕ → Type 0
IsOfCreate given backup stopped running low [] replies mark slot = ⊥
IsOfCreate given backup stopped running low (line ∷ lines) [] mark slot = (stopped ≡ Some WantsMemory) × (low ≤ mark) × MayWrite given backup running line.line slot
IsOfCreate given backup stopped running low (line ∷ lines) (reply ∷ replies) mark slot =
    ((low ≤ mark) × (mark < reply.end) × HasWritten given backup line.line reply.what slot) ⊎ IsOfCreate given backup stopped running (mark_shown low reply) lines replies mark slot

-- The epochs begin in the run, and each write of the run stands inside one, or is of a create line.
pub record AreWritesPlaced (setting : Setting) (histories : List History) (stopped : Option Stop) (running : Bool) (asked : List Numbered) (lines : List LineReply) : Type 0 where
  pub spans : AreSpans setting.began histories
  pub placed : (mark slot at : ℕ) (body : Sector) → setting.began ≤ mark → slice_get setting.tape mark ≡ Some (Write slot at body)
      → IsInEpoch histories mark ⊎ IsOfCreate setting.given setting.backup stopped running setting.began asked lines mark slot

-- no create line wrote between these marks
abbrev pub NoneOfCreate : Setting → Option Stop → Bool → List Numbered → List LineReply → ℕ → ℕ → Type 0
NoneOfCreate setting stopped running asked lines from to =
    (mark slot : ℕ) → from ≤ mark → mark < to → IsOfCreate setting.given setting.backup stopped running setting.began asked lines mark slot → ⊥

-- Between the last entry's end of each epoch and the first mark of the next one, only flushes were done where no create line wrote there.
abbrev pub AreQuiet : Setting → Option Stop → Bool → List Numbered → List LineReply → List Epoch → Type 0
AreQuiet setting stopped running asked lines [] = ⊤
AreQuiet setting stopped running asked lines (former ∷ []) = ⊤
AreQuiet setting stopped running asked lines (former ∷ next ∷ epochs) =
    (NoneOfCreate setting stopped running asked lines (last_end_from former.first former.entries.items) next.first
    → OnlyFlushesBetween setting.tape (last_end_from former.first former.entries.items) next.first)
    × AreQuiet setting stopped running asked lines (next ∷ epochs)
