-- What callers' calls leave of a running array, whatever they ask: steps may be among them, and slots that are made spares.
use Rattle.std.specs.Prelude.{◌≡◌, ◌⊎◌, ℕ, ◌++◌, ◌==◌, Bool, true, false, List, [], ◌∷◌, IsTrue, ⊤}
use Rattle.std.specs.List.{list_any}
use Rattle.bank.specs.declared.bank.Operation.{Operation}
use Rattle.bank.specs.Given.{Given, NeverFalls}
use Rattle.array_open.specs.sb_specs_the_Members.{Members}
use Rattle.array_open.specs.sb_specs_Reads.{has_spare}
use Rattle.array_open.specs.sb_specs_Reading.{is_reshaping, list_length}
use Rattle.history_append.specs.history_the_Entry.{Entry}
use Rattle.history_append.specs.history_the_Event.{Event}
use Rattle.history_append.specs.history_the_Event_TheVariants.{Added}
use Rattle.history_append.specs.history_Flat.{length_of}
use Rattle.history_append.specs.history_Reshaped.{is_planned}
use Rattle.array_open.specs.array_members_Moving.{Grows}
use Rattle.array_open.specs.array_members_Rebuilding.{Held, MayHold}
use Rattle.array_open.specs.array_call_specs_Calls.{IsLossBy}
use Rattle.array_open.specs.reshape_request_Left.{phases_of}
use Rattle.array_open.specs.array_specs_Parts.{RunningParts}
use Rattle.array_open.specs.array_specs_Plans.{aim_of}
use Rattle.array_open.specs.array_reply_specs_Replies.{HasToldBy}
use Rattle.array_open.specs.array_reply_specs_Going.{is_begin, MayBeDropped, WasSpareOrHolder, IsSameEpoch}
use Rattle.array_open.specs.array_steps_Steps.{is_turn, IsUnturned}

-- the event tells that the slot was made a spare
abbrev pub is_added : ℕ → Event → Bool
is_added slot (Added added) = added == slot
is_added slot event = false

-- these entries may have made the slot a spare: it was added, or a reshape ended or a takeover of the level was done that dropped the role that it had
abbrev pub MayBeNewSpare : Members → List Entry → ℕ → Type 0
MayBeNewSpare members entries slot = IsTrue (list_any (λ e. is_added slot e.event) entries) ⊎ MayBeDropped members entries slot

-- the slot had the role, or was a spare, or may be one since
abbrev pub MayHoldSince : Members → List Entry → ℕ → ℕ → Type 0
MayHoldSince members entries role slot = MayHold members role slot ⊎ MayBeNewSpare members entries slot

-- Each role that has a slot had it before, or that slot was a spare, or may be one since these entries; and so it is of each spare.
pub record AreHeldSince (old new : Members) (entries : List Entry) : Type 0 where
  pub roles : (role slot : ℕ) → Held new role slot → MayHoldSince old entries role slot
  pub spares : (slot : ℕ) → has_spare new.spares slot ≡ true → (has_spare old.spares slot ≡ true) ⊎ MayBeNewSpare old entries slot

-- the slot was a spare, or had a role, or it was added since
abbrev pub WasMemberSince : Members → List Entry → ℕ → Type 0
WasMemberSince members entries slot = WasSpareOrHolder members slot ⊎ IsTrue (list_any (λ e. is_added slot e.event) entries)

-- Each loss has its cause, by what may have held its role behind the entries before it, and by what may have been a spare.
abbrev pub AreLossesSince : Members → (ℕ → ℕ) → (ℕ → ℕ) → List Entry → List Entry → Type 0
AreLossesSince members before now done [] = ⊤
AreLossesSince members before now done (e ∷ entries) = IsLossBy (MayHoldSince members done) (WasMemberSince members done) before now e.event × AreLossesSince members before now (done ++ e ∷ []) entries

-- An array goes its way: it keeps its size; where these entries tell no plan, it goes to the shape that it went to; and as long as they tell no begin, no end of a reshape and no takeover either, the same shapes are in
-- force, and the same phases ahead.
pub record GoesItsWay {B : Type 0} (old new : RunningParts B) (entries : List Entry) : Type 0 where
  pub size : new.parts.members.newest.size ≡ old.parts.members.newest.size
  pub aim : list_any (λ e. is_planned e.event) entries ≡ false → aim_of new ≡ aim_of old
  pub unturned : list_any (λ e. is_planned e.event) entries ≡ false → list_any (λ e. is_turn e.event) entries ≡ false → IsUnturned old new

-- What callers' calls leave of an array over its bank: more is entered, which tells what the list's length is then; roles are lost, or given to spares, each loss and refusal has its cause, and
-- it is the array of the same epoch. A reshape is active then only if one was, or is told to have begun; and one is ahead only if one was, or is told to be planned; and it goes its way.
pub record HasGoneOn {B : Type 0} (tells : Type 0) (given : B → Given) (tape : B → List Operation) (faults : B → ℕ → ℕ) (old new : RunningParts B) : Type 0 where
  pub more : List Entry
  pub grown : new.parts.entries ≡ old.parts.entries ++ more
  pub sized : list_length new.parts.members.newest ≡ length_of (list_length old.parts.members.newest) more
  pub held : AreHeldSince old.parts.members new.parts.members more
  pub losses : AreLossesSince old.parts.members (faults old.parts.bank) (faults new.parts.bank) [] more
  pub refusals : HasToldBy old.parts.backup (faults old.parts.bank) (faults new.parts.bank) old.parts.entries new.parts.entries
  pub grows : Grows tells (tape old.parts.bank) (tape new.parts.bank)
  pub never_falls : NeverFalls (faults old.parts.bank) (faults new.parts.bank)
  pub given_is : given new.parts.bank ≡ given old.parts.bank
  pub same : IsSameEpoch old new
  pub active : is_reshaping old.parts.members.newest ≡ false → list_any (λ e. is_begin e.event) more ≡ false → is_reshaping new.parts.members.newest ≡ false
  pub ahead : phases_of old.ahead ≡ [] → list_any (λ e. is_planned e.event) more ≡ false → phases_of new.ahead ≡ []
  pub way : GoesItsWay old new more
