-- Which replies are those of an array of one shape, and what its history tells.
use Rattle.std.specs.Prelude.{◌≡◌, ℕ, Bool, true, false, List, IsTrue}
use Rattle.std.specs.List.{list_any}
use Rattle.script.specs.history_the_Entry.{Entry}
use Rattle.script.specs.history_the_Request.{Request}
use Rattle.script.specs.history_the_Request_TheVariants.{Visible as AsksVisible, Grow as AsksGrow}
use Rattle.script.specs.history_Flat.{length_of}
use Rattle.script.specs.history_Legal.{call_before}
use Rattle.script.specs.history_OneShape.{OneShapeFits}
use Rattle.array_requests.specs.array_specs_Plans.{turns_shape}
use Rattle.array_requests.specs.array_fixed_laws_Plain.{MayTellPlainly, AreToldPlainly}
use Rattle.array_requests.specs.array_reply_specs_Replies.{MayTellBy, RunningFits}
use Rattle.array_requests.specs.Turning.{may_be_active, may_be_ahead}

-- the request asks for a reshape, or to limit what can be read and written
abbrev pub asks_to_turn : Request → Bool
asks_to_turn (AsksVisible limit) = true
asks_to_turn (AsksGrow wish) = true
asks_to_turn request = false

-- Where neither a limit was told nor a reshape planned, begun or ended in its call before it, such a reply to another request fits it as one of an array of one shape, unless it tells what only a reshape may.
abbrev pub PlainRepliesFit : Type 0
PlainRepliesFit = (size : ℕ) (before : List Entry) (e : Entry) (request : Request) → list_any (λ e. turns_shape e.event) (call_before before e) ≡ false → MayTellPlainly e.event → asks_to_turn request ≡ false
    → RunningFits size before e request → OneShapeFits size before e request

-- Where by the entries before it no reshape may be active, or ahead, it tells none of that, unless it tells more than they allow.
abbrev pub RestTellsPlainly : Type 0
RestTellsPlainly = (size : ℕ) (before : List Entry) (e : Entry) (request : Request) → may_be_active before ≡ false → may_be_ahead before ≡ false
    → MayTellBy (IsTrue (may_be_active before)) (IsTrue (may_be_ahead before)) e.event → RunningFits size before e request → MayTellPlainly e.event

-- Where entries tell nothing of a reshape, the list stays as long as it is.
abbrev pub PlainListsStay : Type 0
PlainListsStay = (size : ℕ) (entries : List Entry) → AreToldPlainly entries → length_of size entries ≡ size
