-- What steps leave of a running array: a reshape may begin or end among them, and the level may be taken over.
use Rattle.std.specs.Prelude.{◌≡◌, ◌⊎◌, ℕ, ◌++◌, Bool, true, false, List, [], ◌∷◌, IsTrue, ⊤}
use Rattle.std.specs.List.{list_any}
use Rattle.bank.specs.declared.bank.Operation.{Operation}
use Rattle.bank.specs.Given.{Given, NeverFalls}
use Rattle.array_specs.specs.sb_specs_the_Members.{Members}
use Rattle.array_specs.specs.sb_specs_Reads.{has_spare}
use Rattle.array_specs.specs.sb_specs_Reading.{is_reshaping, list_length}
use Rattle.array_specs.specs.history_the_Entry.{Entry}
use Rattle.array_specs.specs.history_the_Event.{Event}
use Rattle.array_specs.specs.history_the_Event_TheVariants.{Step}
use Rattle.array_specs.specs.history_the_StepKind_TheVariants.{Begun, Finished, TakenOver}
use Rattle.array_specs.specs.history_Flat.{length_of}
use Rattle.array_specs.specs.history_Reshaped.{is_planned}
use Rattle.array_specs.specs.array_members_Moving.{Grows}
use Rattle.array_specs.specs.array_members_Rebuilding.{Held, MayHold}
use Rattle.array_specs.specs.reshape_request_Left.{phases_of}
use Rattle.array_specs.specs.array_call_specs_Calls.{IsLossBy}
use Rattle.array_specs.specs.Parts.{RunningParts}
use Rattle.array_reply_specs.specs.Replies.{HasToldBy}

-- the event tells that a reshape ended
abbrev pub is_finish : Event → Bool
is_finish (Step Finished left) = true
is_finish event = false

-- the event tells that a reshape ended, or that the level was taken over: both make the slots of the roles that they drop spares
abbrev pub may_drop : Event → Bool
may_drop (Step Finished left) = true
may_drop (Step TakenOver left) = true
may_drop event = false

-- the event tells that a reshape began
abbrev pub is_begin : Event → Bool
is_begin (Step Begun left) = true
is_begin event = false

-- the slot had a role, and a reshape ended in these entries, or the level was taken over
abbrev pub MayBeDropped : Members → List Entry → ℕ → Type 0
MayBeDropped members entries slot = IsTrue (list_any (λ e. may_drop e.event) entries) × (role : ℕ) × Held members role slot

-- the slot had the role, or was a spare, or may be one since
abbrev pub MayHoldBehind : Members → List Entry → ℕ → ℕ → Type 0
MayHoldBehind members entries role slot = MayHold members role slot ⊎ MayBeDropped members entries slot

-- Each role that has a slot had it before, or that slot was a spare, or may be one since these entries; and so it is of each spare.
pub record AreHeldBehind (old new : Members) (entries : List Entry) : Type 0 where
  pub roles : (role slot : ℕ) → Held new role slot → MayHoldBehind old entries role slot
  pub spares : (slot : ℕ) → has_spare new.spares slot ≡ true → (has_spare old.spares slot ≡ true) ⊎ MayBeDropped old entries slot

-- the slot was a spare, or had a role
abbrev pub WasSpareOrHolder : Members → ℕ → Type 0
WasSpareOrHolder members slot = (has_spare members.spares slot ≡ true) ⊎ ((role : ℕ) × Held members role slot)

-- Each loss has its cause, by what may have held its role behind the entries before it; a slot that is told lost as a spare was one, or had a role, as the entries began.
abbrev pub AreLossesAlong : Members → (ℕ → ℕ) → (ℕ → ℕ) → List Entry → List Entry → Type 0
AreLossesAlong members before now done [] = ⊤
AreLossesAlong members before now done (e ∷ entries) = IsLossBy (MayHoldBehind members done) (WasSpareOrHolder members) before now e.event × AreLossesAlong members before now (done ++ e ∷ []) entries

-- it is the array of the same epoch, with the same backup
pub record IsSameEpoch {B : Type 0} (old new : RunningParts B) : Type 0 where
  pub uuid : new.parts.uuid ≡ old.parts.uuid
  pub given : new.parts.given ≡ old.parts.given
  pub first : new.parts.first ≡ old.parts.first
  pub backup : new.parts.backup ≡ old.parts.backup

-- no reshape is active, and no phase of a plan is ahead
pub record HasNoReshape {B : Type 0} (array : RunningParts B) : Type 0 where
  pub active : is_reshaping array.parts.members.newest ≡ false
  pub ahead : phases_of array.ahead ≡ []

-- What steps leave of an array over its bank: more is entered, which tells what the list's length is then; roles are lost, or given to spares, each loss and refusal has its cause, and it is the
-- array of the same epoch. A reshape is active then only if one was, or is told to have begun; and phases are ahead only if some were, or a plan is told.
pub record HasRunOn {B : Type 0} (tells : Type 0) (given : B → Given) (tape : B → List Operation) (faults : B → ℕ → ℕ) (old new : RunningParts B) : Type 0 where
  pub more : List Entry
  pub grown : new.parts.entries ≡ old.parts.entries ++ more
  pub sized : list_length new.parts.members.newest ≡ length_of (list_length old.parts.members.newest) more
  pub held : AreHeldBehind old.parts.members new.parts.members more
  pub losses : AreLossesAlong old.parts.members (faults old.parts.bank) (faults new.parts.bank) [] more
  pub refusals : HasToldBy old.parts.backup (faults old.parts.bank) (faults new.parts.bank) old.parts.entries new.parts.entries
  pub grows : Grows tells (tape old.parts.bank) (tape new.parts.bank)
  pub never_falls : NeverFalls (faults old.parts.bank) (faults new.parts.bank)
  pub given_is : given new.parts.bank ≡ given old.parts.bank
  pub same : IsSameEpoch old new
  pub active : is_reshaping old.parts.members.newest ≡ false → list_any (λ e. is_begin e.event) more ≡ false → is_reshaping new.parts.members.newest ≡ false
  pub ahead : phases_of old.ahead ≡ [] → list_any (λ e. is_planned e.event) more ≡ false → phases_of new.ahead ≡ []
