-- What a caller's pass carries, and what one call adds to it.
use Rattle.std.specs.Prelude.{◌≡◌, ℕ, ◌+◌, ◌≤◌, ◌^◌, List, [], ◌∷◌, ◌++◌, length}
use Rattle.array_requests.specs.raid_types_the_Who.{Who}
use Rattle.history_caller_laws.specs.history_the_Entry.{Entry}
use Rattle.history_caller_laws.specs.history_the_Event.{Event}
use Rattle.history_caller_laws.specs.history_the_Request.{Request}
use Rattle.history_caller_laws.specs.history_Flat.{next_number}
use Rattle.history_caller_laws.specs.history_Seen.{Seen}
use Rattle.array_requests.specs.declared.reply.Reply.{Reply}
use Rattle.array_requests.specs.declared.reply.Reply.TheVariants.{Done, NoMemory as Short}
use Rattle.history_caller_laws.specs.Callers.{IsBefore, IsCalled, HasCalled}

-- Whose pass it is, how many sectors the list had and which entries there were when its service was begun, what it has seen of the history, and the
-- caller's own requests with the places of their replies.
pub record Carried : Type 0 where
  pub caller : ℕ
  pub sectors : ℕ
  pub start : List Entry
  pub seen : Seen
  pub mine : List (Request × ℕ)

-- no memory holds a history of more entries
abbrev pub IsHeld : Carried → Type 0
IsHeld pass = length pass.seen.entries ≤ 2 ^ 61

-- The pass is still the same caller's, since the same start, and all that it had seen begins what it has seen.
pub record GoesOn (tells : Type 0) (old new : Carried) : Type 0 where
  pub caller : new.caller ≡ old.caller
  pub sectors : new.sectors ≡ old.sectors
  pub start : new.start ≡ old.start
  pub seen : IsBefore tells old.seen new.seen

-- since the start the caller has made just its own requests, each once and in their order, and each was answered by a reply that fits it
abbrev pub IsOwn : Carried → Type 0
IsOwn pass = IsHeld pass → HasCalled pass.sectors pass.start pass.seen.entries pass.caller pass.mine

-- a caller's next call
abbrev pub next_call : ℕ → List Entry → Who
next_call caller entries = record { caller = caller; number = next_number caller entries }

-- A request was done in the caller's next call, behind a history that begins with all that was seen. The call ends what is seen then, with this
-- event at this place, and it is the newest of the caller's own.
pub record IsEntered (tells : Type 0) (old : Carried) (request : Request) (at : ℕ) (event : Event) (new : Carried) : Type 0 where
  pub found : Seen
  pub later : IsBefore tells old.seen found
  pub called : IsCalled new.sectors (next_call old.caller found.entries) request found.entries new.seen.entries
  pub event_is : called.reply.event ≡ event
  pub place : at + 1 ≡ length new.seen.entries
  pub mine : IsHeld new → new.mine ≡ old.mine ++ (request, at) ∷ []

-- the reply to a request tells where it was entered; or memory was short, and it wasn't
abbrev pub IsAnswered : Type 0 → Carried → Request → Reply → Carried → Type 0
IsAnswered tells old request (Done at event) new = IsEntered tells old request at event new
IsAnswered tells old request Short new = new.mine ≡ old.mine
