-- An array as a lock sees it: what of it was seen, and which calls its callers have made.
use Rattle.std.specs.Prelude.{◌≡◌, ◌≢◌, ℕ, ◌<◌, ◌≤◌, ◌^◌, Bool, true, false, min, List, [], length, map}
use Rattle.std.specs.List.{All}
use Rattle.array_requests.specs.bank_the_Operation.{Operation}
use Rattle.array_requests.specs.bank_Given.{Given}
use Rattle.array_requests.specs.sb_specs_Reading.{list_length}
use Rattle.history_caller_laws.specs.history_the_Request.{Request}
use Rattle.history_caller_laws.specs.history_Seen.{Seen}
use Rattle.array_requests.specs.array_call_specs_Calls.{world_for, IsEndOf}
use Rattle.array_requests.specs.array_specs_Parts.{RunningParts}
use Rattle.array_requests.specs.Entered.{HasEntered}
use Rattle.array_requests.specs.Going.{HasGoneOn}
use Rattle.array_requests.specs.Replies.{IsAskable, TellsSizes, IsRepliedBy, IsCountedBy, OnReply}
use Rattle.array_requests.specs.declared.reply.Reply.{Reply}
use Rattle.array_requests.specs.declared.reply.Reply.TheVariants.{Done, NoMemory as Short}
use Rattle.lane_lock.specs.declared.call.Call.{Call}
use Rattle.lane_lock.specs.Ways.{Ways}
use Rattle.history_caller_laws.specs.Callers.{IsBefore, HasCalled}
use Rattle.lane_shared.specs.Carried.{next_call}

-- no memory holds a history of so many entries, and one that did would take no more calls
abbrev pub most_entries : ℕ
most_entries = 2 ^ 61

-- the sectors of the list
abbrev pub sectors_of : {B : Type 0} → RunningParts B → ℕ
sectors_of x = list_length x.parts.members.newest

-- the entries, counted as far as that
abbrev pub size_of : {B : Type 0} → RunningParts B → ℕ
size_of x = min (length x.parts.entries) most_entries

-- what is seen of an array: its history, over its bank
abbrev pub seen_of : {B : Type 0} → (B → Given) → (B → List Operation) → RunningParts B → Seen
seen_of given tape x = record { world = world_for (given x.parts.bank) (tape x.parts.bank) x.parts; entries = x.parts.entries }

-- The array of an earlier moment: its history begins that of the later one, over the same bank. Its list may have had another length, and its members another shape.
pub record IsEarlier {B : Type 0} (tells : Type 0) (given : B → Given) (tape : B → List Operation) (old new : RunningParts B) : Type 0 where
  pub before : IsBefore tells (seen_of given tape old) (seen_of given tape new)
  pub given_is : given new.parts.bank ≡ given old.parts.bank
  pub full : most_entries ≤ length old.parts.entries → new.parts.entries ≡ old.parts.entries

-- the tape ends where the last entry does
abbrev pub IsSound : {B : Type 0} → Type 0 → (B → List Operation) → RunningParts B → Type 0
IsSound tells tape x = IsEndOf tells x.parts.first x.parts.entries (tape x.parts.bank)

-- a request that a caller may make: the opening's number is nobody's
abbrev pub MayAsk : ℕ → Request → Type 0
MayAsk caller request = (caller ≢ 254) × IsAskable request

abbrev pub is_done : Reply → Bool
is_done (Done at event) = true
is_done Short = false

-- A request was done, in the caller's next call, and the reply tells the event of the last entry and its place.
pub record IsServed {B : Type 0} (tells : Type 0) (given : B → Given) (tape : B → List Operation) (faults : B → ℕ → ℕ) (old new : RunningParts B)
    (caller : ℕ) (request : Request) (reply : Reply) : Type 0 where
  pub fits : length old.parts.entries < most_entries
  pub done : is_done reply ≡ true
  pub replied : IsRepliedBy request (next_call caller old.parts.entries) old new reply
  pub counted : OnReply reply (λ event. IsCountedBy request old new event)
  pub went : HasGoneOn tells given tape faults old new
  pub entered : HasEntered old new
  pub sizes : TellsSizes old
  pub ended : IsSound tells tape new

-- each request with the place of its reply
abbrev pub requests_of : List (Call Request) → List (Request × ℕ)
requests_of calls = map (λ c. (c.request, c.at)) calls

-- Since the start the array has gone on by callers' calls, and of this caller's there are just these, each of which was answered by a reply that fits it; if
-- there are none, no entry is the caller's.
pub record HasMade {B : Type 0} (tells : Type 0) (given : B → Given) (tape : B → List Operation) (faults : B → ℕ → ℕ) (start now : RunningParts B)
    (caller : ℕ) (calls : List (Call Request)) : Type 0 where
  pub went : HasGoneOn tells given tape faults start now
  pub entered : HasEntered start now
  pub silent : calls ≡ [] → All (λ e. e.caller ≢ caller) entered.more
  pub called : length now.parts.entries ≤ most_entries → HasCalled (sectors_of start) start.parts.entries now.parts.entries caller (requests_of calls)

-- how a lock tells arrays and their histories apart
abbrev pub array_ways : {B : Type 0} → Type 0 → (B → Given) → (B → List Operation) → (B → ℕ → ℕ) → Ways (RunningParts B) Request Reply
array_ways tells given tape faults = record {
  size = size_of;
  IsSound = IsSound tells tape;
  Begins = IsEarlier tells given tape;
  IsAskable = MayAsk;
  is_done = is_done;
  Adds = IsServed tells given tape faults;
  Made = HasMade tells given tape faults;
}
