-- A block of lanes: what the lines of its lanes and its worker are answered, and what it leaves of the array's history.
use Rattle.std.specs.Prelude.{◌≡◌, ◌⊎◌, ℕ, ◌+◌, ◌++◌, Bool, List, [], ◌∷◌, length, map, take, drop, slice_get, Some, ⊤}
use Rattle.std.specs.List.{All}
use Rattle.script.specs.history_the_Entry.{Entry}
use Rattle.script.specs.history_the_Request.{Request}
use Rattle.script.specs.history_the_Request_TheVariants.{Read as AsksRead, Write as AsksWrite, Flush as AsksFlush, Fail as AsksFail}
use Rattle.script.specs.history_Flat.{rest_of_call, next_number}
use Rattle.script.specs.history_Seen.{reply_places}
use Rattle.array_requests.specs.array_reply_specs_Replies.{RunningFits}
use Rattle.array_requests.specs.Entered.{IsOfNewCall}
use Rattle.array_requests.specs.declared.reply.Reply.{Reply}
use Rattle.array_requests.specs.declared.reply.Reply.TheVariants.{Done, NoMemory as Short}
use Rattle.script.specs.declared.lines.Line.{Line}
use Rattle.script.specs.declared.lines.Line.TheVariants.{Read, Write, Fail}
use Rattle.script.specs.declared.lines.Numbered.{Numbered}
use Rattle.script.specs.declared.reply.Lane.{Lane}
use Rattle.script.specs.declared.reply.Lane.TheVariants.{Script, A, B, Worker}
use Rattle.script.specs.Grammar.{is_for_lanes}
use Rattle.script.specs.Script.{is_within_limits}
use Rattle.script.specs.Seeds.{seeded}
use Rattle.run_specs.specs.Histories.{AreGoing}

-- who asks the lines of a lane
abbrev pub caller_of : Lane → ℕ
caller_of Script = 0
caller_of A = 1
caller_of B = 2
caller_of Worker = 255

-- what a line of a lane asks: it reads, writes, fails a role, or flushes
abbrev pub request_of : Line → Request
request_of (Read at count) = AsksRead at count
request_of (Write at count seed) = AsksWrite at (seeded seed at count)
request_of (Fail role) = AsksFail role
request_of line = AsksFlush

-- what the lines of a lane ask, one after another
abbrev pub requests_in : List Numbered → List Request
requests_in lines = map (λ numbered. request_of numbered.line) lines

-- lines within their limits, and lines that may stand in a lane
abbrev pub is_allowed : Numbered → Bool
is_allowed numbered = is_within_limits numbered.line

abbrev pub is_in_lane : Numbered → Bool
is_in_lane numbered = is_for_lanes numbered.line

-- The entry at a place is the last of this caller's call of this number, and is the reply to the request.
pub record IsCallersReply (size : ℕ) (entries : List Entry) (caller number place : ℕ) (request : Request) : Type 0 where
  pub entry : Entry
  pub there : slice_get entries place ≡ Some entry
  pub callers : entry.caller ≡ caller
  pub numbered : entry.number ≡ number
  pub last : rest_of_call entry (drop (place + 1) entries) ≡ []
  pub fits : RunningFits size (take place entries) entry request

-- The requests were made one after another, in the caller's calls from this number on, and each was answered so, by the event that its reply tells, up to one for which memory was short.
abbrev pub AreCallersReplies : ℕ → List Entry → ℕ → ℕ → List Request → List Reply → Type 0
AreCallersReplies size entries caller number [] [] = ⊤
AreCallersReplies size entries caller number (request ∷ requests) (Done place event ∷ replies) =
    ((reply : IsCallersReply size entries caller number place request) × (reply.entry.event ≡ event)) × AreCallersReplies size entries caller (number + 1) requests replies
AreCallersReplies size entries caller number (request ∷ requests) (Short ∷ []) = ⊤
AreCallersReplies size entries caller number requests replies = ⊥

-- the places that these replies tell, up to one for which memory was short
abbrev pub places_told : List Reply → List ℕ
places_told [] = []
places_told (Done place event ∷ replies) = place ∷ places_told replies
places_told (Short ∷ replies) = []

-- From the old entries to the new ones a caller has made these requests in its next calls, each once and in their order, and no others: its calls since end where the replies tell. A list
-- that was of so many sectors at first gives the replies.
pub record HasRunLane (size : ℕ) (old new : List Entry) (caller : ℕ) (requests : List Request) (replies : List Reply) : Type 0 where
  pub replied : AreCallersReplies size new caller (next_number caller old) requests replies
  pub places : places_told replies ≡ reply_places caller (length old) (drop (length old) new)
  pub calls : next_number caller new ≡ next_number caller old + length (places_told replies)

-- the callers of a block: its two lanes and its worker
abbrev pub IsOfBlock : ℕ → Type 0
IsOfBlock caller = (caller ≡ 1) ⊎ (caller ≡ 2) ⊎ (caller ≡ 255)

-- What a block leaves of a history: the entries since are of new calls of its lanes and its worker, and end no epoch.
pub record IsBlockEntered (old new : List Entry) : Type 0 where
  pub more : List Entry
  pub grown : new ≡ old ++ more
  pub calls : All (IsOfNewCall old new) more
  pub callers : All (λ e. IsOfBlock e.caller) more
  pub going : AreGoing more
