-- Where no reshape was planned or begun, a reply is one of an array of one shape.
use Rattle.std.proofs.Common.{◌≡◌, ◌⊎◌, inl, inr, ℕ, ◌+◌, ◌||◌, Bool, true, false, Option, Some, None, List, [], ◌∷◌, length, refl, sym, ◌∙◌, ap, true≢false}
use Rattle.std.proofs.lemmas.List.Elements.{All-head, All-tail}
use Rattle.std.specs.Prelude.{MatchBool, nat_lt, IfSome, IsSome, IsTrue}
use Rattle.std.specs.List.{list_any}
use Rattle.array_requests.specs.raid_types_the_Refusal.{Refusal}
use Rattle.array_requests.specs.raid_types_the_Refusal_TheVariants.{TooManyMissing, NotResynced, BackupFault, Degraded, NeedSpares, Nothing}
use Rattle.script.specs.history_the_Entry.{Entry}
use Rattle.script.specs.history_the_Event.{Event}
use Rattle.script.specs.history_the_Event_TheVariants.{Resized, Step, Stepped, Refused}
use Rattle.script.specs.history_the_StepKind_TheVariants.{Finished}
use Rattle.script.specs.history_the_Request.{Request}
use Rattle.script.specs.history_the_Request_TheVariants.{Read as AsksRead, Write as AsksWrite, Flush as AsksFlush, Fail as AsksFail, Add as AsksAdd, Visible as AsksVisible, Grow as AsksGrow, Steps as AsksSteps, Show as AsksShow}
use Rattle.script.specs.history_Flat.{length_after, length_of, visible_of}
use Rattle.script.specs.history_Fits.{IsReadRefused, IsWriteRefused, is_lost_event}
use Rattle.script.specs.history_Legal.{call_before}
use Rattle.script.specs.history_OneShape.{DidOneShapeSteps, EndsIdleSteps, OneShapeAnswers, OneShapeFits}
use Rattle.script.specs.history_Transfers.{IsRefusedAt, IsPastEnd}
use Rattle.array_requests.specs.array_specs_Plans.{turns_shape}
use Rattle.array_requests.specs.array_reply_specs_Replies.{may_end_early, EndsRunningSteps, MayEndBy, MayTellBy, DidRunningSteps, RunningAnswers, RunningFits}
use Rattle.array_requests.specs.array_fixed_laws_Plain.{MayTellPlainly, AreToldPlainly}
use Rattle.run_specs.specs.Plain.{asks_to_turn}
use Rattle.array_requests.specs.Turning.{may_be_active, may_be_ahead}

-- neither of two is
pub neither : (a b : Bool) → (a || b) ≡ false → (a ≡ false) × (b ≡ false)
neither true b is = absurd (cc)
neither false b is = (refl, is)

-- ---- steps

-- what ended them early is a loss
early-lost : (event : Event) → turns_shape event ≡ false → may_end_early event ≡ is_lost_event event
early-lost event keeps = by event keeps
  where
    by : (event : Event) → turns_shape event ≡ false → may_end_early event ≡ is_lost_event event
    by (Step Finished left) keeps = absurd (cc)
    by event keeps = refl

losses-alone : (call : List Entry) → list_any (λ e. turns_shape e.event) call ≡ false → list_any (λ e. may_end_early e.event) call ≡ list_any (λ e. is_lost_event e.event) call
losses-alone [] none = refl
losses-alone (e ∷ call) none =
    let two = neither (turns_shape e.event) (list_any (λ e. turns_shape e.event) call) none in
    ap (λ (b : Bool). b || list_any (λ e. may_end_early e.event) call) (early-lost e.event (two.0)) ∙ ap (λ (b : Bool). is_lost_event e.event || b) (losses-alone call (two.1))

did-plain : (call : List Entry) (most done left : ℕ) (ended : Option Refusal) → list_any (λ e. turns_shape e.event) call ≡ false → DidRunningSteps call most done left ended → DidOneShapeSteps call most done left ended
did-plain call most done left ended none did = record {
  at_most = did.at_most;
  all_done = by did.all_done;
  some_done = did.some_done;
  counted = did.counted;
  not_more = did.not_more;
}
  where
    by : (done ≡ most) ⊎ (left ≡ 0) ⊎ IsSome ended ⊎ IsTrue (list_any (λ e. may_end_early e.event) call)
        → (done ≡ most) ⊎ (left ≡ 0) ⊎ IsSome ended ⊎ IsTrue (list_any (λ e. is_lost_event e.event) call)
    by (inl all) = inl all
    by (inr (inl none_left)) = inr (inl none_left)
    by (inr (inr (inl some))) = inr (inr (inl some))
    by (inr (inr (inr early))) = inr (inr (inr (sym (losses-alone call none) ∙ early)))

-- ---- a write

refused-less : (visible to : ℕ) (refusal : Refusal) → MayTellPlainly (Refused refusal) → IsRefusedAt visible to IsWriteRefused refusal → IsRefusedAt visible to IsReadRefused refusal
refused-less visible to refusal plain is = by (nat_lt visible to) is
  where
    listed : (refusal : Refusal) → MayTellPlainly (Refused refusal) → IsWriteRefused refusal → IsReadRefused refusal
    listed BackupFault plain is = absurd plain
    listed refusal plain is = is

    by : (b : Bool) → MatchBool b (IsPastEnd refusal) (IsWriteRefused refusal × (IsPastEnd refusal → ⊥)) → MatchBool b (IsPastEnd refusal) (IsReadRefused refusal × (IsPastEnd refusal → ⊥))
    by true is = is
    by false is = (listed refusal plain (is.0), is.1)

-- ---- a reply

answers-plain : (size : ℕ) (before call : List Entry) (request : Request) (event : Event) → list_any (λ e. turns_shape e.event) call ≡ false → MayTellPlainly event → asks_to_turn request ≡ false
    → RunningAnswers size before call request event → OneShapeAnswers size before call request event
answers-plain size before call (AsksRead at count) event none plain other is = is
answers-plain size before call (AsksWrite at body) event none plain other is = by event plain is
  where
    by : (event : Event) → MayTellPlainly event → RunningAnswers size before call (AsksWrite at body) event → OneShapeAnswers size before call (AsksWrite at body) event
    by (Refused refusal) plain is = refused-less (visible_of size before) (at + length body) refusal plain is
    by event plain is = is
answers-plain size before call AsksFlush event none plain other is = is
answers-plain size before call (AsksFail role) event none plain other is = is
answers-plain size before call (AsksAdd slot) event none plain other is = is
answers-plain size before call (AsksSteps most) event none plain other is = by event plain is
  where
    by : (event : Event) → MayTellPlainly event → RunningAnswers size before call (AsksSteps most) event → OneShapeAnswers size before call (AsksSteps most) event
    by (Stepped done left ended) plain is = (did-plain call most done left ended none (is.0), plain)
    by (Refused Nothing) plain is = tt
    by event plain is = absurd is
answers-plain size before call (AsksVisible limit) event none plain other is = absurd (cc)
answers-plain size before call (AsksGrow wish) event none plain other is = absurd (cc)
answers-plain size before call AsksShow event none plain other is = absurd is

pub plain-replies : (size : ℕ) (before : List Entry) (e : Entry) (request : Request) → list_any (λ e. turns_shape e.event) (call_before before e) ≡ false → MayTellPlainly e.event → asks_to_turn request ≡ false
    → RunningFits size before e request → OneShapeFits size before e request
plain-replies size before e request none plain other fits = record {
  answers = answers-plain size before (call_before before e) request e.event none plain other fits.answers;
  torn = fits.torn;
}

-- ---- where no reshape may be active, or ahead

resized-none : (size : ℕ) (before call : List Entry) (request : Request) (n : ℕ) → RunningAnswers size before call request (Resized n) → ⊥
resized-none size before call (AsksRead at count) n is = is
resized-none size before call (AsksWrite at body) n is = is
resized-none size before call AsksFlush n is = is
resized-none size before call (AsksFail role) n is = is
resized-none size before call (AsksAdd slot) n is = is
resized-none size before call (AsksVisible limit) n is = is
resized-none size before call (AsksGrow wish) n is = is
resized-none size before call (AsksSteps most) n is = is
resized-none size before call AsksShow n is = is

ended-of : (size : ℕ) (before call : List Entry) (request : Request) (done left : ℕ) (ended : Option Refusal) → RunningAnswers size before call request (Stepped done left ended) → IfSome ended EndsRunningSteps
ended-of size before call (AsksSteps most) done left ended is = is.1
ended-of size before call (AsksRead at count) done left ended is = absurd is
ended-of size before call (AsksWrite at body) done left ended is = absurd is
ended-of size before call AsksFlush done left ended is = absurd is
ended-of size before call (AsksFail role) done left ended is = absurd is
ended-of size before call (AsksAdd slot) done left ended is = absurd is
ended-of size before call (AsksVisible limit) done left ended is = absurd is
ended-of size before call (AsksGrow wish) done left ended is = absurd is
ended-of size before call AsksShow done left ended is = absurd is

module _ (Active Ahead : Type 0) (active : Active → ⊥) (ahead : Ahead → ⊥) where
  end-plainly : (refusal : Refusal) → MayEndBy Active Ahead refusal → EndsRunningSteps refusal → EndsIdleSteps refusal
  end-plainly (TooManyMissing count most) may is = tt
  end-plainly (NotResynced role) may is = tt
  end-plainly BackupFault (inl now) is = absurd (active now)
  end-plainly BackupFault (inr next) is = absurd (ahead next)
  end-plainly (Degraded role) may is = absurd (ahead may)
  end-plainly (NeedSpares have want) may is = absurd (ahead may)
  end-plainly refusal may is = absurd is

  tell-plainly : (size : ℕ) (before call : List Entry) (request : Request) (event : Event) → MayTellBy Active Ahead event → RunningAnswers size before call request event → MayTellPlainly event
  tell-plainly size before call request (Resized n) may is = absurd (resized-none size before call request n is)
  tell-plainly size before call request (Refused BackupFault) may is = absurd (active may)
  tell-plainly size before call request (Stepped done left None) may is = tt
  tell-plainly size before call request (Stepped done left (Some refusal)) may is = end-plainly refusal may (ended-of size before call request done left (Some refusal) is)
  tell-plainly size before call request event may is = tt

pub rest-tells : (size : ℕ) (before : List Entry) (e : Entry) (request : Request) → may_be_active before ≡ false → may_be_ahead before ≡ false → MayTellBy (IsTrue (may_be_active before)) (IsTrue (may_be_ahead before)) e.event
    → RunningFits size before e request → MayTellPlainly e.event
rest-tells size before e request still none may fits =
    tell-plainly (IsTrue (may_be_active before)) (IsTrue (may_be_ahead before)) (λ active. true≢false (sym active ∙ still)) (λ ahead. true≢false (sym ahead ∙ none)) size before (call_before before e) request e.event may fits.answers

-- ---- how long the list is

event-stays : (event : Event) (n : ℕ) → MayTellPlainly event → length_after n event ≡ n
event-stays (Resized m) n plain = absurd plain
event-stays event n plain = refl

pub lists-stay : (size : ℕ) (entries : List Entry) → AreToldPlainly entries → length_of size entries ≡ size
lists-stay size [] plain = refl
lists-stay size (e ∷ entries) plain =
    ap (λ (n : ℕ). length_of n entries) (event-stays e.event size (All-head (λ e. MayTellPlainly e.event) e entries plain)) ∙ lists-stay size entries (All-tail (λ e. MayTellPlainly e.event) e entries plain)
