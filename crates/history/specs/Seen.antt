-- What a caller has seen of an epoch, and which of its requests the history answers.
use Rattle.std.specs.Prelude.{◌≡◌, ℕ, ◌+◌, Bool, true, not, ◌&&◌, ◌==◌, if◌then◌else◌, List, [], ◌∷◌, ◌++◌, length, take, slice_get, MatchOption, ⊤}
use Rattle.bank.specs.declared.bank.Operation.{Operation}
use Rattle.history.specs.declared.events.Entry.{Entry}
use Rattle.history.specs.declared.events.Request.{Request}
use Rattle.history.specs.World.{World}
use Rattle.history.specs.Flat.{is_same_call}
use Rattle.history.specs.Legal.{last_end}
use Rattle.history.specs.Fits.{Fits}
use Rattle.history.specs.Growing.{EndBy}

-- The entries so far, and their epoch's world. Its scope and first mark never change; its start and tape are known where the
-- bank tells its contents.
pub record Seen : Type 0 where
  pub world : World
  pub entries : List Entry

-- the tape reaches to the last entry's end, or to the opening where there is none
pub record IsSeenWhole (tells : Type 0) (seen : Seen) : Type 0 where
  pub tape : tells → length seen.world.tape ≡ last_end seen.world seen.entries
  pub ended : tells → EndBy (length seen.world.tape) seen.entries

-- more of the same epoch was seen
pub record BeginsWith (tells : Type 0) (seen more : Seen) : Type 0 where
  pub scope : more.world.scope ≡ seen.world.scope
  pub first : more.world.first ≡ seen.world.first
  pub start : tells → more.world.start ≡ seen.world.start
  pub tape : tells → (ops : List Operation) × (more.world.tape ≡ seen.world.tape ++ ops)
  pub entries : (added : List Entry) × (more.entries ≡ seen.entries ++ added)

-- the entry is its call's last one
abbrev pub ends_call : Entry → List Entry → Bool
ends_call e [] = true
ends_call e (next ∷ entries) = not (is_same_call e next)

-- the places of a caller's replies in these entries, of which the first is at this place
abbrev pub reply_places : ℕ → ℕ → List Entry → List ℕ
reply_places caller place [] = []
reply_places caller place (e ∷ entries) =
    if (e.caller == caller) && ends_call e entries then place ∷ reply_places caller (place + 1) entries else reply_places caller (place + 1) entries

-- each of these requests is answered at its place by a reply that fits it
abbrev pub AreAnswered : World → List Entry → List (Request × ℕ) → Type 0
AreAnswered world entries [] = ⊤
AreAnswered world entries (request ∷ more) =
    MatchOption (slice_get entries request.1) ⊥ (λ e. Fits world (take request.1 entries) e request.0) × AreAnswered world entries more

-- What is answered stays so, whatever more is seen.
abbrev pub AnswersStay : Type 0
AnswersStay = (seen more : Seen) (requests : List (Request × ℕ)) → IsSeenWhole ⊤ seen → BeginsWith ⊤ seen more
    → AreAnswered seen.world seen.entries requests → AreAnswered more.world more.entries requests
