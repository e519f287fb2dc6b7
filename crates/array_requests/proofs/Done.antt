-- What a request leaves that was done.
use Rattle.std.proofs.Common.{◌≡◌, ◌≤◌, List, [], ◌∷◌, ◌++◌, length, ◌∙◌, ap, arith, length-append}
use Rattle.array_call_specs.specs.raid_types_the_Who.{Who}
use Rattle.array_open.specs.sb_specs_Reading.{list_length}
use Rattle.history_append.specs.history_the_Entry.{Entry}
use Rattle.history_append.specs.history_the_Event.{Event}
use Rattle.history_append.specs.history_the_Request.{Request}
use Rattle.history_append.specs.history_the_Request_TheVariants.{Read as AsksRead, Write as AsksWrite, Flush as AsksFlush, Fail as AsksFail, Add as AsksAdd, Visible as AsksVisible, Grow as AsksGrow, Steps as AsksSteps, Show as AsksShow}
use Rattle.history_append.proofs.PlainLaws.{one}
use Rattle.array_open.specs.array_specs_Parts.{RunningParts}
use Rattle.array_open.specs.array_reply_specs_Replies.{IsAnsweredWith}
use Rattle.array_requests.specs.Replies.{IsShownBy, IsPerformed}

-- ---- a request was done: a status was shown, or another was answered

module _ {B : Type 0} (Fact : Type 0) (who : Who) (old : RunningParts B) (new : List Entry) (event : Event) (shown : IsShownBy who old new event → Fact)
    (answered : (request : Request) → IsAnsweredWith (list_length old.parts.members.newest) request who old.parts.entries new event → Fact) where
  pub either-done : (request : Request) → IsPerformed request who old new event → Fact
  either-done AsksShow was = shown was
  either-done (AsksRead at count) was = answered (AsksRead at count) was
  either-done (AsksWrite at body) was = answered (AsksWrite at body) was
  either-done AsksFlush was = answered AsksFlush was
  either-done (AsksFail role) was = answered (AsksFail role) was
  either-done (AsksAdd slot) was = answered (AsksAdd slot) was
  either-done (AsksVisible limit) was = answered (AsksVisible limit) was
  either-done (AsksGrow wish) was = answered (AsksGrow wish) was
  either-done (AsksSteps most) was = answered (AsksSteps most) was

-- ---- the history is longer

longer : (old inner new : List Entry) (e : Entry) → new ≡ old ++ (inner ++ e ∷ []) → 1 ≤ length new
longer old inner new e is =
    let long = ap (λ (l : List Entry). length l) is ∙ length-append old (inner ++ e ∷ []) in
    let last = length-append inner (e ∷ []) in
    omega (arith, long, last)

pub performed-some : {B : Type 0} (request : Request) (who : Who) (old : RunningParts B) (new : List Entry) (event : Event) → IsPerformed request who old new event → 1 ≤ length new
performed-some request who old new event was =
    either-done (1 ≤ length new) who old new event
    (λ shown. longer old.parts.entries [] new (one who shown.end event) shown.is)
    (λ asked done. longer old.parts.entries done.inner new (one who done.end event) done.is) request was
