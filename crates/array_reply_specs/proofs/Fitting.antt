-- A reply of an array of one shape is one of a running array.
use Rattle.std.proofs.Common.{inl, inr, ℕ, ◌+◌, Bool, true, false, Some, None, List, length}
use Rattle.std.specs.Prelude.{MatchBool, nat_lt}
use Rattle.bank.specs.raid_types_the_Refusal.{Refusal}
use Rattle.bank.specs.raid_types_the_Refusal_TheVariants.{BackupFault, Degraded, NeedSpares, Nothing}
use Rattle.array_specs.specs.history_the_Entry.{Entry}
use Rattle.array_specs.specs.history_the_Event.{Event}
use Rattle.array_specs.specs.history_the_Event_TheVariants.{Resized, Stepped, Refused}
use Rattle.array_specs.specs.history_the_Request_TheVariants.{Write as AsksWrite, Steps as AsksSteps, Read as AsksRead, Flush as AsksFlush, Fail as AsksFail, Add as AsksAdd}
use Rattle.array_specs.specs.history_Flat.{visible_of}
use Rattle.array_specs.specs.history_Fits.{IsReadRefused, IsWriteRefused}
use Rattle.array_specs.specs.history_Legal.{MayBeInner, call_before}
use Rattle.array_specs.specs.history_OneShape.{OneShapeAnswers, OneShapeFits}
use Rattle.array_specs.specs.history_Transfers.{IsRefusedAt, IsPastEnd}
use Rattle.array_specs.specs.array_call_specs_Calls.{StandsInside}
use Rattle.array_reply_specs.specs.Replies.{MayEndBy, MayTellBy, RunningAnswers, RunningFits}

-- what stands inside a call there may stand in any
pub inside-inner : (event : Event) → StandsInside event → MayBeInner event
inside-inner event is = by event is
  where
    by : (event : Event) → StandsInside event → MayBeInner event
    by (Refused refusal) is = tt
    by (Resized n) is = tt
    by event is = is

pub fits-read : (size : ℕ) (before : List Entry) (e : Entry) (at count : ℕ) → OneShapeFits size before e (AsksRead at count) → RunningFits size before e (AsksRead at count)
fits-read size before e at count fits = record { answers = fits.answers; torn = fits.torn }

pub fits-flush : (size : ℕ) (before : List Entry) (e : Entry) → OneShapeFits size before e AsksFlush → RunningFits size before e AsksFlush
fits-flush size before e fits = record { answers = fits.answers; torn = fits.torn }

pub fits-fail : (size : ℕ) (before : List Entry) (e : Entry) (role : ℕ) → OneShapeFits size before e (AsksFail role) → RunningFits size before e (AsksFail role)
fits-fail size before e role fits = record { answers = fits.answers; torn = fits.torn }

pub fits-add : (size : ℕ) (before : List Entry) (e : Entry) (slot : ℕ) → OneShapeFits size before e (AsksAdd slot) → RunningFits size before e (AsksAdd slot)
fits-add size before e slot fits = record { answers = fits.answers; torn = fits.torn }

-- ---- a write

refused-more : (visible to : ℕ) (refusal : Refusal) → IsRefusedAt visible to IsReadRefused refusal → IsRefusedAt visible to IsWriteRefused refusal
refused-more visible to refusal is = by (nat_lt visible to) is
  where
    listed : (refusal : Refusal) → IsReadRefused refusal → IsWriteRefused refusal
    listed BackupFault is = tt
    listed refusal is = is

    by : (b : Bool) → MatchBool b (IsPastEnd refusal) (IsReadRefused refusal × (IsPastEnd refusal → ⊥)) → MatchBool b (IsPastEnd refusal) (IsWriteRefused refusal × (IsPastEnd refusal → ⊥))
    by true is = is
    by false is = (listed refusal is.0, is.1)

wrote : (size : ℕ) (before call : List Entry) (at : ℕ) (body : List (List ℕ)) (event : Event) → OneShapeAnswers size before call (AsksWrite at body) event → RunningAnswers size before call (AsksWrite at body) event
wrote size before call at body (Refused refusal) is = refused-more (visible_of size before) (at + length body) refusal is
wrote size before call at body event is = is

pub fits-write : (size : ℕ) (before : List Entry) (e : Entry) (at : ℕ) (body : List (List ℕ)) → OneShapeFits size before e (AsksWrite at body) → RunningFits size before e (AsksWrite at body)
fits-write size before e at body fits = record { answers = wrote size before (call_before before e) at body e.event fits.answers; torn = fits.torn }

-- ---- what is told only in a reshape

module _ (Active Ahead More Later : Type 0) (active : Active → More) (ahead : Ahead → Later) where
  pub end-more : (refusal : Refusal) → MayEndBy Active Ahead refusal → MayEndBy More Later refusal
  end-more BackupFault (inl is) = inl (active is)
  end-more BackupFault (inr is) = inr (ahead is)
  end-more (Degraded role) is = ahead is
  end-more (NeedSpares have want) is = ahead is
  end-more refusal is = tt

  pub tell-more : (event : Event) → MayTellBy Active Ahead event → MayTellBy More Later event
  tell-more (Refused BackupFault) is = active is
  tell-more (Stepped done left None) is = tt
  tell-more (Stepped done left (Some refusal)) is = end-more refusal is
  tell-more event is = tt

-- ---- steps

-- how long the list is doesn't matter to them
steps-any : (size other : ℕ) (before call : List Entry) (most : ℕ) (event : Event) → RunningAnswers size before call (AsksSteps most) event → RunningAnswers other before call (AsksSteps most) event
steps-any size other before call most (Stepped done left ended) is = is
steps-any size other before call most (Refused Nothing) is = is
steps-any size other before call most event is = absurd is

pub fits-steps : (size other : ℕ) (before : List Entry) (e : Entry) (most : ℕ) → RunningFits size before e (AsksSteps most) → RunningFits other before e (AsksSteps most)
fits-steps size other before e most fits = record { answers = steps-any size other before (call_before before e) most e.event fits.answers; torn = fits.torn }
