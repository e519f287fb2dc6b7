-- What steps leave, from what each kind of them says.
use Rattle.std.proofs.Common.{◌≡◌, inl, ℕ, ◌*◌, ◌++◌, min, true, List, [], ◌∷◌, subst}
use Rattle.std.proofs.lemmas.List.Elements.{All-head, All-tail}
use Rattle.std.specs.List.{All}
use Rattle.array.specs.raid_types_Shapes.{data_disks}
use Rattle.array.specs.sb_specs_the_Members.{Members}
use Rattle.array.specs.sb_specs_Reading.{list_length}
use Rattle.array.specs.sb_specs_Reads.{has_spare}
use Rattle.array.specs.history_the_Entry.{Entry}
use Rattle.array.specs.history_the_Event.{Event}
use Rattle.array.specs.history_the_Event_TheVariants.{Lost, SpareLost}
use Rattle.array.specs.history_the_LostCause_TheVariants.{Fault, Command}
use Rattle.array.specs.history_World.{World}
use Rattle.array.specs.array_members_Placed.{AreStillHeld}
use Rattle.array.specs.array_members_Rebuilding.{Held, MayHold}
use Rattle.array.specs.array_call_specs_Calls.{AreHeldOrSpare, AreSparesFewer, IsLossBy, AreLossesBy}
use Rattle.array.specs.array_specs_Parts.{RunningParts}
use Rattle.array.specs.array_specs_Calls.{IsSameReshape}
use Rattle.array.specs.array_transition_Begun.{StaysItself}
use Rattle.array.specs.array_reply_specs_Going.{MayHoldBehind, WasSpareOrHolder, AreHeldBehind, AreLossesAlong, IsSameEpoch}
use Rattle.array_steps.proofs.Events.{same-rest}

-- ---- the same array

pub epoch-of : {B tells : Type 0} {before after : World} (old new : RunningParts B) → IsSameReshape tells old new before after → IsSameEpoch old new
epoch-of old new same = record { uuid = same.array.uuid; given = same.array.given; first = same.array.first; backup = same.array.backup }

pub epoch-itself : {B : Type 0} (old new : RunningParts B) → StaysItself old new → IsSameEpoch old new
epoch-itself old new same = record { uuid = same.uuid; given = same.given; first = same.first; backup = same.backup }

-- the list is as long as the shapes and the size say
pub long-same : {B tells : Type 0} {before after : World} (old new : RunningParts B) → IsSameReshape tells old new before after → list_length new.parts.members.newest ≡ list_length old.parts.members.newest
long-same old new same i = min (data_disks (same.array.shape i)) (data_disks (same.final i)) * same.array.size i

-- ---- who had roles

pub held-behind : (old new : Members) (entries : List Entry) → AreHeldOrSpare old new → AreHeldBehind old new entries
held-behind old new entries held = record { roles = λ role slot has. inl (held.roles role slot has); spares = λ slot spare. inl (held.spares slot spare) }

pub held-only : (old new : Members) → AreStillHeld old new → AreSparesFewer old new → AreHeldOrSpare old new
held-only old new held fewer = record { roles = λ role slot has. inl (held role slot has); spares = fewer }

pub held-same : (old new : Members) → new ≡ old → AreHeldOrSpare old new
held-same old new same = record {
  roles = λ role slot has. inl (subst (λ (m : Members). Held m role slot) same has);
  spares = λ slot spare. subst (λ (m : Members). has_spare m.spares slot ≡ true) same spare;
}

-- ---- losses

loss-more : (Had More : ℕ → ℕ → Type 0) (Was Were : ℕ → Type 0) → ((role slot : ℕ) → Had role slot → More role slot) → ((slot : ℕ) → Was slot → Were slot) → (before after : ℕ → ℕ) (event : Event)
    → IsLossBy Had Was before after event → IsLossBy More Were before after event
loss-more Had More Was Were more wider before after (Lost role Fault) is = (is.0, more role is.0 is.1, is.2)
loss-more Had More Was Were more wider before after (Lost role Command) is = (is.0, more role is.0 is.1)
loss-more Had More Was Were more wider before after (Lost role cause) is = absurd is
loss-more Had More Was Were more wider before after (SpareLost slot) is = (wider slot is.0, is.1)
loss-more Had More Was Were more wider before after event is = tt

along-all : (members : Members) (before after : ℕ → ℕ) (Had : ℕ → ℕ → Type 0) (Was : ℕ → Type 0) → ((role slot : ℕ) → Had role slot → MayHold members role slot) → ((slot : ℕ) → Was slot → WasSpareOrHolder members slot) → (done xs : List Entry)
    → All (λ e. IsLossBy Had Was before after e.event) xs
    → AreLossesAlong members before after done xs
along-all members before after Had Was had was done [] all = tt
along-all members before after Had Was had was done (x ∷ xs) all = (
  loss-more Had (MayHoldBehind members done) Was (WasSpareOrHolder members) (λ role slot has. inl (had role slot has)) was before after x.event (All-head (λ e. IsLossBy Had Was before after e.event) x xs all),
  along-all members before after Had Was had was (done ++ x ∷ []) xs (All-tail (λ e. IsLossBy Had Was before after e.event) x xs all),
)

-- those of a call, by the slots that had the roles before it, or were spares
pub losses-along : (members : Members) (before after : ℕ → ℕ) (Had : ℕ → ℕ → Type 0) (Was : ℕ → Type 0) → ((role slot : ℕ) → Had role slot → MayHold members role slot) → ((slot : ℕ) → Was slot → WasSpareOrHolder members slot)
    → (old new inner : List Entry) → new ≡ old ++ inner → AreLossesBy Had Was before after old new
    → AreLossesAlong members before after [] inner
losses-along members before after Had Was had spares old new inner is was =
    along-all members before after Had Was had spares [] inner (subst (λ (l : List Entry). All (λ e. IsLossBy Had Was before after e.event) l) (same-rest old was.more inner new was.grown is) was.failed)
