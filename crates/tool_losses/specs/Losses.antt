-- The lines that tell which roles and spares an array has lost.
use Rattle.std.specs.Prelude.{ℕ, List, [], ◌∷◌, ◌++◌, codes, decimal, Option}
use Rattle.std.specs.List.{flat_map}
use Rattle.history.specs.sb_codec_the_Sb.{Sb}
use Rattle.tool_warnings.specs.Held.{words_for}
use Rattle.tool_warnings.specs.declared.looked.Looked.{Looked}
use Rattle.history.specs.declared.events.Entry.{Entry}
use Rattle.history.specs.declared.events.Event.{Event}
use Rattle.history.specs.declared.events.Event.TheVariants.{Lost, SpareLost}
use Rattle.history.specs.declared.events.LostCause.{LostCause}
use Rattle.history.specs.declared.events.LostCause.TheVariants.{Absent, Recovering, Command, Fault}

-- how a role was lost
abbrev pub lost_by : LostCause → List ℕ
lost_by Absent = codes " has no member"
lost_by Recovering = codes " is not rebuilt yet"
lost_by Command = codes " was failed by command"
lost_by Fault = codes " failed"

-- how a role was lost
abbrev pub role_lost : ℕ → LostCause → List ℕ
role_lost role cause = codes "mdgrow: role " ++ decimal role ++ lost_by cause

-- a role's line: how it was lost, and which of the slots had it
abbrev pub role_line : List Looked → Option Sb → ℕ → LostCause → List ℕ
role_line slots newest role cause = role_lost role cause ++ words_for newest role slots ++ 10 ∷ []

-- a role or a spare that is lost has a line, and nothing else has one
abbrev pub loss_line : List Looked → Option Sb → Event → List ℕ
loss_line slots newest (Lost role cause) = role_line slots newest role cause
loss_line slots newest (SpareLost slot) = codes "mdgrow: the spare in slot " ++ decimal slot ++ codes " failed" ++ 10 ∷ []
loss_line slots newest event = []

-- those of a history, in its order
abbrev pub loss_lines : List Looked → Option Sb → List Entry → List ℕ
loss_lines slots newest entries = flat_map (λ entry. loss_line slots newest entry.event) entries
