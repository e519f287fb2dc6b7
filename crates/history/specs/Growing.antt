-- What a call adds: operations to the tape, and entries to the history.
use Rattle.std.specs.Prelude.{◌≡◌, ℕ, ◌+◌, Bool, false, not, ◌&&◌, ◌==◌, if◌then◌else◌, ◌<◌, ◌≤◌, List, [], ◌∷◌, ◌++◌, length, Option, Some, None, IsFalse, ⊤}
use Rattle.history.specs.declared.events.Entry.{Entry}
use Rattle.raid_types.specs.Sectors.{Sector}
use Rattle.bank.specs.Tape.{IsIn}
use Rattle.bank.specs.declared.bank.Operation.{Operation}
use Rattle.history.specs.World.{World, may_hold}
use Rattle.history.specs.Flat.{is_same_call, last_of, next_number}
use Rattle.history.specs.Legal.{AreLegal, IsLegal}
use Rattle.history.specs.CrashSafe.{IsSafeAt, IsSafeFor, IsCrashSafe}
use Rattle.history.specs.Reshaped.{AreReshaped, IsReshaped}
use Rattle.history.specs.declared.events.Request.{Request}
use Rattle.history.specs.Fits.{Fits}

-- the same bank after more operations
abbrev pub grown : World → List Operation → World
grown world more = record { start = world.start; tape = world.tape ++ more; scope = world.scope; first = world.first }

-- each entry ends within the tape
abbrev pub EndBy : ℕ → List Entry → Type 0
EndBy mark [] = ⊤
EndBy mark (e ∷ entries) = (e.end ≤ mark) × EndBy mark entries

-- each entry was made after the mark
abbrev pub MadeAfter : ℕ → List Entry → Type 0
MadeAfter mark [] = ⊤
MadeAfter mark (e ∷ entries) = (mark < e.end) × MadeAfter mark entries

-- A mark that was safe stays safe, whatever is done and entered after it.
abbrev pub MarksStaySafe : Type 0
MarksStaySafe = (world : World) (entries added : List Entry) (more : List Operation) (mark : ℕ)
    → world.first ≤ length world.tape → mark ≤ length world.tape
    → EndBy (length world.tape) entries → MadeAfter mark added
    → IsSafeAt world entries mark → IsSafeAt (grown world more) (entries ++ added) mark

-- One proof serves many marks: where all contents drawn from some values are right, a mark is safe if a stop there leaves
-- no other values.
abbrev pub MoreValuesSuffice : Type 0
MoreValuesSuffice = (world : World) (entries : List Entry) (mark : ℕ) (d : ℕ → ℕ → List Sector) → mark ≤ length world.tape
    → ((s k : ℕ) (v : Sector) → IsIn (may_hold world mark s k) v → IsIn (d s k) v)
    → IsSafeFor world entries mark d → IsSafeAt world entries mark

-- every mark from the opening on is safe, to the tape's end
abbrev pub IsSafeThroughout : World → List Entry → Type 0
IsSafeThroughout world entries = (mark : ℕ) → world.first ≤ mark → mark ≤ length world.tape → IsSafeAt world entries mark

-- An epoch that is safe at every mark of its tape is crash-safe, wherever in the tape it ends.
abbrev pub SafeThroughoutSuffices : Type 0
SafeThroughoutSuffices = (world : World) (entries : List Entry) (last : ℕ) → last ≤ length world.tape
    → IsSafeThroughout world entries → IsCrashSafe world last entries

-- each entry was made at the mark or after it
abbrev pub MadeFrom : ℕ → List Entry → Type 0
MadeFrom mark [] = ⊤
MadeFrom mark (e ∷ entries) = (mark ≤ e.end) × MadeFrom mark entries

-- A call owes the marks that it adds, and the one at which it began.
abbrev pub CallsOweTheirMarks : Type 0
CallsOweTheirMarks = (world : World) (entries added : List Entry) (more : List Operation)
    → world.first ≤ length world.tape → EndBy (length world.tape) entries → MadeFrom (length world.tape) added
    → IsSafeThroughout world entries
    → ((mark : ℕ) → length world.tape ≤ mark → mark ≤ length (world.tape ++ more) → IsSafeAt (grown world more) (entries ++ added) mark)
    → IsSafeThroughout (grown world more) (entries ++ added)

-- A legal history stays legal, whatever is done after it.
abbrev pub HistoriesStayLegal : Type 0
HistoriesStayLegal = (world : World) (entries : List Entry) (more : List Operation)
    → EndBy (length world.tape) entries → IsLegal world entries → IsLegal (grown world more) entries

-- these entries begin another call than that of this last one
abbrev pub BeginAnother : Option Entry → List Entry → Type 0
BeginAnother None added = ⊤
BeginAnother (Some last) [] = ⊤
BeginAnother (Some last) (e ∷ added) = IsFalse (is_same_call last e)

-- A history with a new call behind it is legal where the history is, and the call is by itself.
abbrev pub CallsAddUp : Type 0
CallsAddUp = (world : World) (entries added : List Entry) → BeginAnother (last_of entries) added
    → IsLegal world entries → AreLegal world entries added → IsLegal world (entries ++ added)

-- What was reshaped right stays so, whatever is done after it.
abbrev pub ReshapesStayRight : Type 0
ReshapesStayRight = (world : World) (entries : List Entry) (more : List Operation)
    → EndBy (length world.tape) entries → IsReshaped world entries → IsReshaped (grown world more) entries

-- A history with a new call behind it is reshaped right where both are.
abbrev pub ReshapesAddUp : Type 0
ReshapesAddUp = (world : World) (entries added : List Entry) → BeginAnother (last_of entries) added
    → IsReshaped world entries → AreReshaped world entries added → IsReshaped world (entries ++ added)

-- A reply that fits its request goes on to fit it, whatever is done after it.
abbrev pub RepliesStayFit : Type 0
RepliesStayFit = (world : World) (before : List Entry) (e : Entry) (request : Request) (more : List Operation)
    → e.end ≤ length world.tape → Fits world before e request → Fits (grown world more) before e request

-- the entry goes on with the call of the one before it
abbrev pub goes_on : Option Entry → Entry → Bool
goes_on None e = false
goes_on (Some last) e = is_same_call last e

-- how many calls of a caller these entries begin, behind this entry
abbrev pub calls_from : ℕ → Option Entry → List Entry → ℕ
calls_from caller last [] = 0
calls_from caller last (e ∷ entries) = (if (e.caller == caller) && not (goes_on last e) then 1 else 0) + calls_from caller (Some e) entries

-- A caller's next number is how many calls it has made.
abbrev pub NumbersCountCalls : Type 0
NumbersCountCalls = (world : World) (entries : List Entry) (caller : ℕ) → IsLegal world entries
    → next_number caller entries ≡ calls_from caller None entries
