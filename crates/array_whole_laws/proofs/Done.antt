-- Requests to an array that stays whole are done.
use Rattle.std.proofs.Common.{◌≡◌, ℕ, ◌+◌, ◌<◌, ◌≤◌, Bool, true, false, nat_lt, List, length, None, Some, refl, arith, inl, inr, ◌⊎◌}
use Rattle.std.specs.Prelude.{MatchBool}
use Rattle.std.proofs.lemmas.Bool.{ltb-true}
use Rattle.history_whole_laws.specs.raid_types_Sectors.{Sector}
use Rattle.history_whole_laws.specs.raid_types_the_Refusal.{Refusal}
use Rattle.history_whole_laws.specs.raid_types_the_Refusal_TheVariants.{PastEnd, TooManyMissing, NotResynced, BackupFault, Degraded, NeedSpares, Nothing}
use Rattle.history_whole_laws.specs.history_the_Entry.{Entry}
use Rattle.history_whole_laws.specs.history_the_Event.{Event}
use Rattle.history_whole_laws.specs.history_the_Event_TheVariants.{Read, Wrote, Flushed, Stepped, Stopped, Refused}
use Rattle.history_whole_laws.specs.history_the_Request_TheVariants.{Read as AsksRead, Write as AsksWrite, Flush as AsksFlush, Steps as AsksSteps}
use Rattle.history_whole_laws.specs.history_Fits.{IsReadRefused, IsWriteRefused, FitsStop}
use Rattle.history_whole_laws.specs.history_Flat.{visible_of}
use Rattle.history_whole_laws.specs.history_Legal.{call_before}
use Rattle.history_whole_laws.specs.history_Transfers.{IsPastEnd, IsRefusedAt}
use Rattle.array_reply_specs.specs.Replies.{EndsRunningSteps, RunningAnswers, RunningFits}
use Rattle.history_whole_laws.specs.Unfailed.{IsForNoFailure, TellsNoFailure}
use Rattle.history_whole_laws.specs.Whole.{IsForNoLack, LacksNothing}
use Rattle.array_whole_laws.specs.Done.{IsReadDone, IsWriteDone, IsForPlan, AreStepsDone}

-- ---- one event

-- a read or a write that ends within what is visible isn't refused
read-listed : (refusal : Refusal) → IsReadRefused refusal → (IsPastEnd refusal → ⊥) → IsForNoLack refusal → ⊥
read-listed (PastEnd visible) listed within lacks = within tt
read-listed (TooManyMissing count tolerance) listed within lacks = lacks
read-listed (NotResynced role) listed within lacks = lacks
read-listed refusal listed within lacks = listed

write-listed : (refusal : Refusal) → IsWriteRefused refusal → (IsPastEnd refusal → ⊥) → IsForNoLack refusal → IsForNoFailure refusal → ⊥
write-listed (PastEnd visible) listed within lacks unfailed = within tt
write-listed (TooManyMissing count tolerance) listed within lacks unfailed = lacks
write-listed (NotResynced role) listed within lacks unfailed = lacks
write-listed BackupFault listed within lacks unfailed = unfailed
write-listed refusal listed within lacks unfailed = listed

listed-within : (visible to : ℕ) (IsListed : Refusal → Type 0) (refusal : Refusal) → to ≤ visible → IsRefusedAt visible to IsListed refusal → IsListed refusal × (IsPastEnd refusal → ⊥)
listed-within visible to IsListed refusal within is = by (nat_lt visible to) refl is
  where
    by : (b : Bool) → nat_lt visible to ≡ b → MatchBool b (IsPastEnd refusal) (IsListed refusal × (IsPastEnd refusal → ⊥)) → IsListed refusal × (IsPastEnd refusal → ⊥)
    by true e is = absurd (let past : visible < to = ltb-true visible to e in omega (arith, past, within))
    by false e is = is

module _ (size : ℕ) (before call : List Entry) where
  read-done : (at count : ℕ) (event : Event) → RunningAnswers size before call (AsksRead at count) event → LacksNothing event → at + count ≤ visible_of size before → IsReadDone event
  read-done at count (Read a body) is lacks within = tt
  read-done at count (Refused refusal) is lacks within =
      let listed = listed-within (visible_of size before) (at + count) IsReadRefused refusal within is in read-listed refusal listed.0 listed.1 lacks
  read-done at count event is lacks within = is

  write-done : (at : ℕ) (body : List Sector) (event : Event) → RunningAnswers size before call (AsksWrite at body) event → TellsNoFailure event → LacksNothing event → at + length body ≤ visible_of size before → IsWriteDone event
  write-done at body (Wrote a b) is unfailed lacks within = tt
  write-done at body (Refused refusal) is unfailed lacks within =
      let listed = listed-within (visible_of size before) (at + length body) IsWriteRefused refusal within is in write-listed refusal listed.0 listed.1 lacks unfailed
  write-done at body event is unfailed lacks within = is

  flush-done : (event : Event) → RunningAnswers size before call AsksFlush event → LacksNothing event → event ≡ Flushed
  flush-done Flushed is lacks = refl
  flush-done (Refused (TooManyMissing count tolerance)) is lacks = absurd lacks
  flush-done event is lacks = absurd is

  ended-done : (refusal : Refusal) → EndsRunningSteps refusal → IsForNoFailure refusal → IsForNoLack refusal → IsForPlan refusal
  ended-done (TooManyMissing count tolerance) ends unfailed lacks = lacks
  ended-done (NotResynced role) ends unfailed lacks = lacks
  ended-done BackupFault ends unfailed lacks = unfailed
  ended-done (Degraded role) ends unfailed lacks = tt
  ended-done (NeedSpares have want) ends unfailed lacks = tt
  ended-done refusal ends unfailed lacks = ends

  steps-done : (most : ℕ) (event : Event) → RunningAnswers size before call (AsksSteps most) event → TellsNoFailure event → LacksNothing event → AreStepsDone event
  steps-done most (Stepped done left None) is unfailed lacks = by is.0.some_done
    where
      by : (1 ≤ done) ⊎ (false ≡ true) → 1 ≤ done
      by (inl some) = some
      by (inr ended) = absurd (cc)
  steps-done most (Stepped done left (Some refusal)) is unfailed lacks = ended-done refusal is.1 unfailed lacks
  steps-done most (Refused Nothing) is unfailed lacks = tt
  steps-done most event is unfailed lacks = absurd is

pub stop-done : (event : Event) → FitsStop event → LacksNothing event → event ≡ Stopped
stop-done Stopped is lacks = refl
stop-done (Refused (TooManyMissing count tolerance)) is lacks = absurd lacks
stop-done event is lacks = absurd is

-- ---- one reply

module _ (size : ℕ) (before : List Entry) (e : Entry) (unfailed : TellsNoFailure e.event) (lacks : LacksNothing e.event) where
  pub read-replied : (at count : ℕ) → RunningFits size before e (AsksRead at count) → at + count ≤ visible_of size before → IsReadDone e.event
  read-replied at count fits within = read-done size before (call_before before e) at count e.event fits.answers lacks within

  pub write-replied : (at count : ℕ) (body : List Sector) → length body ≡ count → RunningFits size before e (AsksWrite at body) → at + count ≤ visible_of size before → IsWriteDone e.event
  write-replied at count body many fits within = write-done size before (call_before before e) at body e.event fits.answers unfailed lacks (omega (arith, many, within))

  pub flush-replied : RunningFits size before e AsksFlush → e.event ≡ Flushed
  flush-replied fits = flush-done size before (call_before before e) e.event fits.answers lacks

  pub steps-replied : (most : ℕ) → RunningFits size before e (AsksSteps most) → AreStepsDone e.event
  steps-replied most fits = steps-done size before (call_before before e) most e.event fits.answers unfailed lacks
