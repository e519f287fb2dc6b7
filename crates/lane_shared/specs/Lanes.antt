-- The passes of a shared array: what each has seen of it, and which calls are its own.
use Rattle.std.proofs.Common.{subst}
use Rattle.std.specs.Prelude.{◌≡◌, ℕ, ◌<◌, List, [], ◌∷◌, ◌++◌, Option, Some, None, is_some, true, MatchBool, ⊤}
use Rattle.array_requests.specs.bank_the_Operation.{Operation}
use Rattle.array_requests.specs.bank_Given.{Given}
use Rattle.history_caller_laws.specs.history_the_Request.{Request}
use Rattle.lane_shared.specs.array_specs_Parts.{RunningParts}
use Rattle.lane_shared.specs.array_requests_the_Reply.{Reply}
use Rattle.lane_shared.specs.array_requests_the_Reply_TheVariants.{Done, NoMemory as Short}
use Rattle.lane_lock.specs.declared.lock.Pass.{Pass}
use Rattle.lane_lock.specs.Turns.{OnKnown, OnSeen, mine_of}
use Rattle.lane_shared.specs.Carried.{Carried}
use Rattle.lane_shared.specs.Serving.{most_entries, sectors_of, seen_of, IsEarlier, IsServed, HasMade, requests_of}

-- the pass has seen an array of which this holds
abbrev pub Sees : {B : Type 0} → Pass (RunningParts B) Request → (RunningParts B → Type 0) → Type 0
Sees pass Fact = OnSeen pass.seat.me.0 Fact

-- its lock was begun with this array
abbrev pub IsBegunWith : {B : Type 0} → Pass (RunningParts B) Request → RunningParts B → Type 0
IsBegunWith pass start = OnKnown pass.seat.me.0 (λ k. k.start ≡ start)

-- its own requests, each with the place of its reply
abbrev pub own_requests : {B : Type 0} → Pass (RunningParts B) Request → List (Request × ℕ)
own_requests pass = requests_of (mine_of pass.seat.me.0.hands)

-- what a pass has seen, and with what its lock was begun
abbrev pub known_of : {T : Type 0} (known : Option T) → is_some known ≡ true → T
known_of (Some known) some = known
known_of None none = absurd (subst (λ there. MatchBool there ⊥ ⊤) none tt)

-- what a pass carries
abbrev pub carried_by : {B : Type 0} → (B → Given) → (B → List Operation) → Pass (RunningParts B) Request → Carried
carried_by given tape pass =
    let known = known_of pass.seat.me.0.known pass.live in
    record {
      caller = pass.caller;
      sectors = sectors_of known.start;
      start = known.start.parts.entries;
      seen = seen_of given tape known.seen;
      mine = own_requests pass;
    }

-- A reply tells where the request stands among the pass's own; where memory was short nothing was done.
abbrev pub IsToldBy : {B : Type 0} → Type 0 → (B → Given) → (B → List Operation) → (B → ℕ → ℕ) → Pass (RunningParts B) Request → Pass (RunningParts B) Request → Request
    → RunningParts B → RunningParts B → Reply → Type 0
IsToldBy tells given tape faults pass pass' request found after (Done at event) =
    IsServed tells given tape faults found after pass.caller request (Done at event)
    × (at < most_entries → own_requests pass' ≡ own_requests pass ++ (request, at) ∷ [])
IsToldBy tells given tape faults pass pass' request found after Short = (after ≡ found) × (own_requests pass' ≡ own_requests pass)

-- A request was answered on the array as it was found, whose history begins with all that the pass had seen; the pass has then seen the array
-- as the call left it. Since the lock was begun its caller has made just the pass's own requests, before the call and behind it.
pub record IsAnswered {B : Type 0} (tells : Type 0) (given : B → Given) (tape : B → List Operation) (faults : B → ℕ → ℕ) (pass : Pass (RunningParts B) Request)
    (request : Request) (reply : Reply) (pass' : Pass (RunningParts B) Request) : Type 0 where
  pub found : RunningParts B
  pub after : RunningParts B
  pub start : RunningParts B
  pub later : Sees pass (λ x. IsEarlier tells given tape x found)
  pub seen : Sees pass' (λ x. x ≡ after)
  pub begun : IsBegunWith pass start × IsBegunWith pass' start
  pub told : IsToldBy tells given tape faults pass pass' request found after reply
  pub before : HasMade tells given tape faults start found pass.caller (mine_of pass.seat.me.0.hands)
  pub made : HasMade tells given tape faults start after pass.caller (mine_of pass'.seat.me.0.hands)
