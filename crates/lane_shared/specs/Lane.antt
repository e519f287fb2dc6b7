-- Requests that were made one after another, and their replies.
use Rattle.std.specs.Prelude.{◌≡◌, ℕ, Bool, true, false, List, [], ◌∷◌, ◌++◌, slice_get, MatchOption, ⊤}
use Rattle.std.specs.List.{All}
use Rattle.history_caller_laws.specs.history_the_Entry.{Entry}
use Rattle.history_caller_laws.specs.history_the_Request.{Request}
use Rattle.array_requests.specs.declared.reply.Reply.{Reply}
use Rattle.array_requests.specs.declared.reply.Reply.TheVariants.{Done, NoMemory as Short}
use Rattle.history_caller_laws.specs.Callers.{AreReplied}
use Rattle.lane_shared.specs.Carried.{Carried, IsHeld}

abbrev pub is_short : Reply → Bool
is_short (Done at event) = false
is_short Short = true

-- one reply for each request, up to one that tells that memory was short
abbrev pub AreOneEach : List Request → List Reply → Type 0
AreOneEach [] [] = ⊤
AreOneEach (request ∷ requests) (Done at event ∷ replies) = AreOneEach requests replies
AreOneEach (request ∷ requests) (Short ∷ []) = ⊤
AreOneEach requests replies = ⊥

-- the requests that were done, each with the place of its reply
abbrev pub done_of : List Request → List Reply → List (Request × ℕ)
done_of (request ∷ requests) (Done at event ∷ replies) = (request, at) ∷ done_of requests replies
done_of (request ∷ requests) (Short ∷ replies) = done_of requests replies
done_of requests replies = []

-- the reply's event stands at its place, in a call of the caller
abbrev pub StandsIn : ℕ → List Entry → Reply → Type 0
StandsIn caller entries (Done at event) = MatchOption (slice_get entries at) ⊥ (λ e. (e.caller ≡ caller) × (e.event ≡ event))
StandsIn caller entries Short = ⊤

-- From one pass to the other the requests were made, each with the pass that the one before gave back, and answered by these replies. None was made
-- behind one for which memory was short.
abbrev pub AreCalls : {P : Type 0} → (P → Request → Reply → P → Type 0) → P → List Request → List Reply → P → Type 0
AreCalls answered pass [] [] pass' = pass' ≡ pass
AreCalls answered pass (request ∷ requests) (Done at event ∷ replies) pass' =
    (next : _) × answered pass request (Done at event) next × AreCalls answered next requests replies pass'
AreCalls answered pass (request ∷ requests) (Short ∷ []) pass' = answered pass request Short pass'
AreCalls answered pass requests replies pass' = ⊥

-- These requests were made, each once and in their order, and nothing else: by each reply's place its event is in what was seen, it fits its
-- request, and the done ones are the newest of the caller's own.
pub record AreDone (old new : Carried) (requests : List Request) (replies : List Reply) : Type 0 where
  pub each : AreOneEach requests replies
  pub told : All (StandsIn new.caller new.seen.entries) replies
  pub fits : AreReplied new.sectors new.seen.entries (done_of requests replies)
  pub mine : IsHeld new → new.mine ≡ old.mine ++ done_of requests replies
