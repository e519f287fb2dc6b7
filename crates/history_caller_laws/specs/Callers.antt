-- What callers that share an array have seen of its history, and which calls they have made in it.
use Rattle.std.specs.Prelude.{◌≡◌, ◌≢◌, ℕ, ◌+◌, ◌-◌, ◌≤◌, true, List, [], ◌∷◌, ◌++◌, length, map, take, drop, slice_get, MatchOption, ⊤}
use Rattle.std.specs.List.{All}
use Rattle.history_laws.specs.raid_types_the_Who.{Who}
use Rattle.array_reply_specs.specs.history_the_Entry.{Entry}
use Rattle.array_reply_specs.specs.history_the_Event.{Event}
use Rattle.array_reply_specs.specs.history_the_Event_TheVariants.{Shown}
use Rattle.array_reply_specs.specs.history_the_Request.{Request}
use Rattle.array_reply_specs.specs.history_the_Request_TheVariants.{Show as AsksShow}
use Rattle.array_reply_specs.specs.history_Flat.{rest_of_call, last_of, next_number, length_of, visible_of}
use Rattle.array_reply_specs.specs.history_Legal.{last_end}
use Rattle.array_reply_specs.specs.history_Growing.{BeginAnother}
use Rattle.array_reply_specs.specs.history_OneShape.{IsOfCall}
use Rattle.array_reply_specs.specs.history_Seen.{Seen, BeginsWith, ends_call, reply_places}
use Rattle.array_reply_specs.specs.Replies.{RunningFits}

-- ---- what was seen

-- the tape ends where the last entry does
abbrev pub IsWhole : Type 0 → Seen → Type 0
IsWhole tells seen = tells → last_end seen.world seen.entries ≡ length seen.world.tape

-- the reply of each call was made at the mark or after it
abbrev pub RepliesFrom : ℕ → List Entry → Type 0
RepliesFrom mark [] = ⊤
RepliesFrom mark (e ∷ entries) = (ends_call e entries ≡ true → mark ≤ e.end) × RepliesFrom mark entries

-- Less was seen before more: of the same epoch, with whole calls behind that were answered later.
pub record IsBefore (tells : Type 0) (less more : Seen) : Type 0 where
  pub begins : BeginsWith tells less more
  pub apart : BeginAnother (last_of less.entries) begins.entries.0
  pub later : tells → RepliesFrom (length less.world.tape) begins.entries.0

-- ---- which calls were made

-- a status was shown, of a list of so many sectors, of which so many can be read and written
abbrev pub IsShownAs : ℕ → ℕ → Event → Type 0
IsShownAs sectors visible (Shown status) = (status.length ≡ sectors) × (status.visible ≡ visible)
IsShownAs sectors visible event = ⊥

-- The entry is a reply that fits the request, behind these entries. They tell how long the list is, where they tell a length; where they don't, it has so many sectors.
abbrev pub IsReplyTo : ℕ → List Entry → Entry → Request → Type 0
IsReplyTo size before e AsksShow = IsShownAs (length_of size before) (visible_of size before) e.event
IsReplyTo size before e request = RunningFits size before e request

-- each of these requests is answered at its place
abbrev pub AreReplied : ℕ → List Entry → List (Request × ℕ) → Type 0
AreReplied size entries [] = ⊤
AreReplied size entries (request ∷ more) =
    MatchOption (slice_get entries request.1) ⊥ (λ e. IsReplyTo size (take request.1 entries) e request.0) × AreReplied size entries more

-- the entry is the last of the caller's call of this number, by those behind it
abbrev pub IsLastOf : ℕ → ℕ → List Entry → Entry → Type 0
IsLastOf caller number behind e = (e.caller ≡ caller) × (e.number ≡ number) × (rest_of_call e behind ≡ [])

-- at the places of these requests the caller's calls end, from the one of this number on
abbrev pub AreNumbered : ℕ → ℕ → List Entry → List (Request × ℕ) → Type 0
AreNumbered caller number entries [] = ⊤
AreNumbered caller number entries (request ∷ more) =
    MatchOption (slice_get entries request.1) ⊥ (λ e. IsLastOf caller number (drop (request.1 + 1) entries) e) × AreNumbered caller (number + 1) entries more

-- Behind the start a caller's calls are these requests, each once and in this order, and each is answered at its place, in the next call.
pub record HasCalled (size : ℕ) (start now : List Entry) (caller : ℕ) (requests : List (Request × ℕ)) : Type 0 where
  pub places : map (λ request. request.1) requests ≡ reply_places caller (length start) (drop (length start) now)
  pub answered : AreReplied size now requests
  pub numbers : AreNumbered caller (next_number caller start) now requests
  pub next : next_number caller now ≡ next_number caller start + length requests

-- One call was made: its entries bear the caller's next number, and the last one answers the request.
pub record IsCalled (size : ℕ) (who : Who) (request : Request) (old new : List Entry) : Type 0 where
  pub inner : List Entry
  pub reply : Entry
  pub number : who.number ≡ next_number who.caller old
  pub own : All (IsOfCall who) inner
  pub last : IsOfCall who reply
  pub is : new ≡ old ++ (inner ++ reply ∷ [])
  pub answers : IsReplyTo size (old ++ inner) reply request

-- ---- laws

-- Nobody has called before the first call.
abbrev pub NoneHasCalled : Type 0
NoneHasCalled = (size : ℕ) (start : List Entry) (caller : ℕ) → HasCalled size start start caller []

-- A call is one more of its caller's, at the end of the history.
abbrev pub CallsAreCounted : Type 0
CallsAreCounted = (size : ℕ) (start since old new : List Entry) (who : Who) (request : Request) (requests : List (Request × ℕ))
    → old ≡ start ++ since → IsCalled size who request old new → HasCalled size start old who.caller requests
    → HasCalled size start new who.caller (requests ++ (request, length new - 1) ∷ [])

-- It is none of another caller's.
abbrev pub CallsAreOnesOwn : Type 0
CallsAreOnesOwn = (size : ℕ) (start since old new : List Entry) (who : Who) (other : ℕ) (request : Request) (requests : List (Request × ℕ))
    → old ≡ start ++ since → IsCalled size who request old new → other ≢ who.caller → HasCalled size start old other requests
    → HasCalled size start new other requests

-- What was seen before a call was seen before what it left.
abbrev pub CallsComeLater : Type 0 → Type 0
CallsComeLater tells = (size : ℕ) (old new : Seen) (who : Who) (request : Request)
    → IsCalled size who request old.entries new.entries → BeginsWith tells old new → IsWhole tells new → IsBefore tells old new

-- What was seen before is seen before anything later.
abbrev pub SeenGoesOn : Type 0 → Type 0
SeenGoesOn tells = (x y z : Seen) → IsBefore tells x y → IsBefore tells y z → IsBefore tells x z

-- Of two that were seen before a third one, the shorter was seen before the longer.
abbrev pub ShorterIsBefore : Type 0 → Type 0
ShorterIsBefore tells = (x y now : Seen) → IsWhole tells x → IsWhole tells y → IsBefore tells x now → IsBefore tells y now
    → length x.entries ≤ length y.entries → IsBefore tells x y
