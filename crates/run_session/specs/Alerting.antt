-- What the `alerts` lines of a run tell.
use Rattle.std.specs.Prelude.{◌≡◌, ℕ, ◌-◌, Bool, true, false, if◌then◌else◌, List, [], ◌∷◌, ◌++◌, take, slice_get, Some, ⊤}
use Rattle.run_blocks.specs.history_Flat.{next_number}
use Rattle.run_blocks.specs.history_the_Entry.{Entry}
use Rattle.run_blocks.specs.script_the_Line.{Line}
use Rattle.run_blocks.specs.script_the_Line_TheVariants.{Alerts as AsksAlerts}
use Rattle.run_blocks.specs.script_the_Lane.{Lane}
use Rattle.run_blocks.specs.script_the_Lane_TheVariants.{Script as InScript}
use Rattle.run_blocks.specs.script_the_Numbered.{Numbered}
use Rattle.run_blocks.specs.history_monitor_the_Alert.{Alert}
use Rattle.run_blocks.specs.history_monitor_the_AlertKind.{AlertKind}
use Rattle.run_blocks.specs.history_monitor_the_Past.{Past}
use Rattle.run_blocks.specs.history_monitor_Alerts.{past_of, alerts, alerts_since}
use Rattle.run_blocks.specs.history_monitor_Told.{AreTold, HasScanned}
use Rattle.run_blocks.specs.run_specs_the_Answered.{Answered}
use Rattle.run_blocks.specs.run_specs_the_Answered_TheVariants.{Inside, Outside as IsOutside}
use Rattle.run_blocks.specs.run_specs_the_Outside_TheVariants.{Created, Assembled, Examined, Alerts as ToldAlerts, Refused}
use Rattle.run_blocks.specs.run_specs_the_LineReply.{LineReply}
use Rattle.run_blocks.specs.run_specs_the_State.{State}
use Rattle.run_blocks.specs.run_specs_the_State_TheVariants.{Idle, Running}
use Rattle.run_blocks.specs.run_specs_Blocks.{caller_of}
use Rattle.run_blocks.specs.run_specs_Histories.{History}
use Rattle.run_blocks.specs.run_specs_Replies.{Course, course_after}
use Rattle.run_blocks.specs.run_specs_States.{IsGrown}
use Rattle.run_session.specs.Sessions.{IsBlock}

-- the entries of the array that runs
abbrev pub entries_in : {B : Type 0} → State B → List Entry
entries_in (Idle bank epochs) = []
entries_in (Running array epochs) = array.parts.entries

-- ---- the theorem

-- The alerts that an answer tells.
abbrev pub alerts_in : Answered → List Alert
alerts_in (IsOutside (ToldAlerts list)) = list
alerts_in what = []

-- The lists that the epoch's lines have told, joined, behind one answer more; behind an epoch's end there are none.
abbrev pub told_behind : Course → List Alert → Answered → List Alert
told_behind course told what = if course.running then told ++ alerts_in what else []

-- These lists, joined, are the alerts of the running array's entries so far, as far as they are wanted, and each urgent one among them. Its history goes on
-- from these entries by later calls, and by them the next number of each caller is where the run stands.
pub record AreAllTold (answers : AlertKind → ℕ → Bool → Type 0) (histories : List History) (course : Course) (told : List Alert) : Type 0 where
  pub history : History
  pub there : slice_get histories (course.opened - 1) ≡ Some history
  pub before : History
  pub grown : IsGrown before history
  pub calls : (lane : Lane) → next_number (caller_of lane) before.entries ≡ course.calls lane
  pub all : AreTold answers (alerts before.entries) told

-- so it is, with its own list, of an answer that tells alerts
abbrev pub AreAllToldBy : (AlertKind → ℕ → Bool → Type 0) → List History → Course → List Alert → Answered → Type 0
AreAllToldBy answers histories course told (Inside epoch at) = ⊤
AreAllToldBy answers histories course told (IsOutside Created) = ⊤
AreAllToldBy answers histories course told (IsOutside (Assembled epoch status)) = ⊤
AreAllToldBy answers histories course told (IsOutside (Examined slot found)) = ⊤
AreAllToldBy answers histories course told (IsOutside (ToldAlerts list)) = AreAllTold answers histories course (told ++ list)
AreAllToldBy answers histories course told (IsOutside (Refused refusal)) = ⊤

-- Of each epoch's `alerts` lines, the lists up to one of them, joined, are the alerts of the entries up to that line, as far as they are wanted.
abbrev pub AreAlertsTold : (AlertKind → ℕ → Bool → Type 0) → List History → Course → List Alert → List Numbered → List LineReply → Type 0
AreAlertsTold answers histories course told lines [] = ⊤
AreAlertsTold answers histories course told [] (reply ∷ replies) = ⊥
AreAlertsTold answers histories course told (line ∷ lines) (reply ∷ replies) =
    AreAllToldBy answers histories course told reply.what
    × AreAlertsTold answers histories (course_after histories course line.lane line.line reply.what)
    (told_behind (course_after histories course line.lane line.line reply.what) told reply.what) lines replies

-- ---- the monitor of a run

-- where no array runs, a monitor begins anew
abbrev pub watched_by : {B : Type 0} → State B → Past → Past
watched_by (Idle bank epochs) past = past_of []
watched_by (Running array epochs) past = past

-- The monitor has told all alerts of the entries that it has scanned.
pub record IsWatching (answers : AlertKind → ℕ → Bool → Type 0) (past : Past) (entries : List Entry) (told : List Alert) : Type 0 where
  pub scanned : HasScanned past entries
  pub all : AreTold answers (alerts (take past.scanned entries)) told

abbrev pub asks_alerts : Line → Bool
asks_alerts AsksAlerts = true
asks_alerts line = false

-- the line tells alerts, if an array runs
abbrev pub tells_alerts : {B : Type 0} → State B → Line → Bool
tells_alerts (Idle bank epochs) line = false
tells_alerts (Running array epochs) line = asks_alerts line

-- such a line tells the alerts of the entries that are new, and no other scans any
abbrev pub AreToldBy : (AlertKind → ℕ → Bool → Type 0) → List Entry → Past → Past → Bool → List Alert → Type 0
AreToldBy answers entries old new true list = AreTold answers (alerts_since old.scanned entries) list × (new ≡ past_of entries)
AreToldBy answers entries old new false list = (list ≡ []) × (new ≡ old)

abbrev pub AreToldNow : {B : Type 0} → (AlertKind → ℕ → Bool → Type 0) → State B → Past → Past → Line → List Alert → Type 0
AreToldNow answers state old new line list = AreToldBy answers (entries_in state) old new (tells_alerts state line) list

-- so it is of an answer
abbrev pub IsScanned : (AlertKind → ℕ → Bool → Type 0) → List Entry → Past → Past → Answered → Type 0
IsScanned answers entries old new (Inside epoch at) = new ≡ old
IsScanned answers entries old new (IsOutside Created) = new ≡ old
IsScanned answers entries old new (IsOutside (Assembled epoch status)) = new ≡ old
IsScanned answers entries old new (IsOutside (Examined slot found)) = new ≡ old
IsScanned answers entries old new (IsOutside (ToldAlerts list)) = AreTold answers (alerts_since old.scanned entries) list × (new ≡ past_of entries)
IsScanned answers entries old new (IsOutside (Refused refusal)) = new ≡ old

-- and of the first of these replies, if there is one
abbrev pub IsFirstScanned : (AlertKind → ℕ → Bool → Type 0) → List Entry → Past → Past → List LineReply → Type 0
IsFirstScanned answers entries old new [] = ⊤
IsFirstScanned answers entries old new (reply ∷ replies) = IsScanned answers entries old new reply.what

-- what the lines of a turn, which got these replies, scan: a line of its own what it tells, a block nothing
pub record IsTurnScanned (answers : AlertKind → ℕ → Bool → Type 0) (entries : List Entry) (old new : Past) (replies : List LineReply) (lines : List Numbered) : Type 0 where
  pub alone : (line : Numbered) → lines ≡ line ∷ [] → line.lane ≡ InScript → IsFirstScanned answers entries old new replies
  pub block : IsBlock lines → new ≡ old
