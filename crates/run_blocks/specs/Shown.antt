-- The text of the replies, and whether one of them is a refusal.
use Rattle.std.specs.Prelude.{ℕ, ◌+◌, ◌*◌, ◌≤◌, Bool, true, false, ◌||◌, if◌then◌else◌, List, [], ◌∷◌, ◌++◌, length, Some, MatchOption, codes, ⊤}
use Rattle.std.specs.Option.{option_map_or}
use Rattle.lane_shared.specs.raid_types_the_Refusal_TheVariants.{Nothing}
use Rattle.script_status.specs.history_the_Event.{Event}
use Rattle.script_status.specs.history_the_Event_TheVariants.{Read as IsRead, Refused as IsRefused, Shown, Stepped}
use Rattle.script_status.specs.script_the_Line.{Line}
use Rattle.script_status.specs.script_the_Line_TheVariants.{Wait, Detail, Mdstat}
use Rattle.script_status.specs.script_the_Numbered.{Numbered}
use Rattle.script_status.specs.script_the_Lane.{Lane}
use Rattle.script_status.specs.script_Script.{is_of_worker}
use Rattle.script_status.specs.script_Texts.{created_text, assembled_text, refusal_text, event_text, waited_text, worker_text, worker_refusal_text, lane_text}
use Rattle.script_status.specs.Texts.{detail_text, mdstat_text, examined_text}
use Rattle.script_status.specs.AlertTexts.{alerts_text}
use Rattle.run_line_answers.specs.run_specs_the_Outside.{Outside}
use Rattle.run_line_answers.specs.run_specs_the_Outside_TheVariants.{Created, Assembled, Examined, Alerts, Refused}
use Rattle.run_line_answers.specs.run_specs_the_Answered.{Answered}
use Rattle.run_line_answers.specs.run_specs_the_Answered_TheVariants.{Inside, Outside as IsOutside}
use Rattle.run_line_answers.specs.run_specs_the_LineReply.{LineReply}
use Rattle.run_line_answers.specs.run_specs_Histories.{History, entry_at}

-- an answer that no entry gives; the worker's refusal has a text of its own
abbrev pub outside_text : Lane → Outside → List ℕ
outside_text lane Created = created_text
outside_text lane (Assembled epoch status) = assembled_text status
outside_text lane (Examined slot found) = examined_text slot found
outside_text lane (Alerts list) = alerts_text list
outside_text lane (Refused refusal) = if is_of_worker lane then worker_refusal_text refusal else refusal_text refusal

-- the event of an entry that answers a line; a wait has a text of its own, so has the worker, and a status one for each form that is asked for
abbrev pub entry_text : Lane → Line → Event → List ℕ
entry_text lane Wait event = if is_of_worker lane then worker_text event else waited_text event
entry_text lane Detail (Shown status) = detail_text status
entry_text lane Mdstat (Shown status) = mdstat_text status
entry_text lane line event = event_text event

-- an answer by an entry is shown as the entry's event
abbrev pub answer_text : List History → Lane → Line → Answered → List ℕ
answer_text histories lane line (Inside epoch at) = option_map_or (λ e. entry_text lane line e.event) (entry_at histories epoch at) []
answer_text histories lane line (IsOutside outside) = outside_text lane outside

-- a reply is one line
abbrev pub reply_text : List History → Line → LineReply → List ℕ
reply_text histories line reply = lane_text reply.lane ++ answer_text histories reply.lane line reply.what ++ codes "\n"

-- the replies to these lines, one after another
abbrev pub report_text : List History → List Numbered → List LineReply → List ℕ
report_text histories lines [] = []
report_text histories [] (reply ∷ replies) = []
report_text histories (line ∷ lines) (reply ∷ replies) = reply_text histories line.line reply ++ report_text histories lines replies

-- the events that tell a refusal; that nothing is left to do is none in the reply of a wait, as the worker's is
abbrev pub tells_refusal : Line → Event → Bool
tells_refusal Wait (IsRefused Nothing) = false
tells_refusal line (IsRefused refusal) = true
tells_refusal line (Stepped done left (Some refusal)) = true
tells_refusal line event = false

abbrev pub is_refused_outside : Outside → Bool
is_refused_outside Created = false
is_refused_outside (Assembled epoch status) = false
is_refused_outside (Examined slot found) = false
is_refused_outside (Alerts list) = false
is_refused_outside (Refused refusal) = true

abbrev pub is_refusal : List History → Line → Answered → Bool
is_refusal histories line (Inside epoch at) = option_map_or (λ e. tells_refusal line e.event) (entry_at histories epoch at) false
is_refusal histories line (IsOutside outside) = is_refused_outside outside

-- one of the replies to these lines is a refusal
abbrev pub has_refusal : List History → List Numbered → List LineReply → Bool
has_refusal histories lines [] = false
has_refusal histories [] (reply ∷ replies) = false
has_refusal histories (line ∷ lines) (reply ∷ replies) = is_refusal histories line.line reply.what || has_refusal histories lines replies

-- ---- how long a text may be

-- what an event tells at most: 128 sectors, and in a status 16 roles and 32 spares
abbrev pub IsShort : Event → Type 0
IsShort (IsRead at body) = length body ≤ 128
IsShort (Shown status) = (length status.roles ≤ 16) × (length status.spares ≤ 32)
IsShort event = ⊤

-- the bytes that its text takes at most, and a whole reply
abbrev pub longest_answer : ℕ
longest_answer = 142000

abbrev pub longest_reply : ℕ
longest_reply = 143000

-- the bytes that a list of alerts takes beside that, at most
abbrev pub outside_room : Outside → ℕ
outside_room (Alerts list) = 40 * length list
outside_room outside = 0

abbrev pub more_room : Answered → ℕ
more_room (Inside epoch at) = 0
more_room (IsOutside outside) = outside_room outside

-- what the entry that an answer names tells is short, and a list of alerts fits so many bytes
abbrev pub IsAnswerShort : ℕ → List History → Answered → Type 0
IsAnswerShort room histories (Inside epoch at) = MatchOption (entry_at histories epoch at) ⊥ (λ e. IsShort e.event)
IsAnswerShort room histories (IsOutside (Alerts list)) = longest_reply + 40 * length list ≤ room
IsAnswerShort room histories (IsOutside outside) = ⊤
