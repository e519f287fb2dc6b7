-- A call that was answered, from what the calls of an array say of it: behind what it lost, and steps of a window.
use Rattle.std.proofs.Common.{◌≡◌, ℕ, ◌+◌, ◌≤◌, Bool, true, false, Result, Ok, Err, List, [], ◌∷◌, ◌++◌, length, refl, sym, ◌∙◌, ap, subst, arith, append-nil}
use Rattle.std.proofs.lemmas.List.Elements.{All-nil, All-cons, All-head, All-tail, All-weaker}
use Rattle.std.proofs.lemmas.Bool.Decides.{nat_tests}
use Rattle.std.specs.Prelude.{IfOk, MatchBool, nat_lt}
use Rattle.std.specs.List.{All}
use Rattle.array_call_specs.specs.raid_types_the_Who.{Who}
use Rattle.array_call_specs.specs.raid_types_the_Fault.{Fault}
use Rattle.array_call_specs.specs.raid_types_the_Fault_TheVariants.{Refused as IsRefusedWith, NoMemory as WantsMemory}
use Rattle.bank.specs.raid_types_the_NoMemory.{NoMemory}
use Rattle.array_call_specs.specs.raid_types_the_Refusal_TheVariants.{BackupFault}
use Rattle.history_append.specs.history_the_Entry.{Entry}
use Rattle.history_append.specs.history_the_Event.{Event}
use Rattle.history_append.specs.history_the_Event_TheVariants.{Wrote, Refused}
use Rattle.history_append.specs.history_the_Request.{Request}
use Rattle.history_append.specs.history_the_Request_TheVariants.{Write as AsksWrite}
use Rattle.history_append.specs.history_Fits.{IsWriteRefused, AreTornOf}
use Rattle.history_append.specs.history_Flat.{next_number, visible_of}
use Rattle.history_append.specs.history_Legal.{MayBeInner}
use Rattle.history_append.specs.history_OneShape.{IsOfCall, OneShapeFits}
use Rattle.history_append.specs.history_Plain.{entries_of}
use Rattle.history_append.specs.history_Transfers.{IsPastEnd}
use Rattle.history_append.proofs.PlainLaws.{one}
use Rattle.history_append.proofs.LosingLaws.{entries-both}
use Rattle.array_open.specs.array_call_specs_Calls.{StandsInside, IsReplied, IsAnswered}
use Rattle.array_call_specs.proofs.ReplyLaws.{none_before}
use Rattle.array_open.specs.array_reshaping_laws_Writing.{IsRepliedBehind, IsWriteReplied}
use Rattle.array_open.specs.array_reply_specs_Replies.{RunningFits, IsAnsweredWith}
use Rattle.array_reply_specs.proofs.Fitting.{inside-inner, fits-write}
use Rattle.array_requests.specs.Replies.{told_by}

-- The call entered these entries, none of which tells a length, and a reply behind them that fits.
pub record IsCallEntered (size : ℕ) (request : Request) (who : Who) (old new : List Entry) (event : Event) : Type 0 where
  pub inner : List Entry
  pub end : ℕ
  pub own : All (λ e. IsOfCall who e × StandsInside e.event) inner
  pub is : new ≡ old ++ (inner ++ one who end event ∷ [])
  pub fits : RunningFits size (old ++ inner) (one who end event) request

-- by the answer, with the event of an Ok
abbrev pub IsCallAnswered : {T : Type 0} → ℕ → Request → Who → List Entry → List Entry → Event → Result T Fault → Type 0
IsCallAnswered size request who old new event (Ok x) = IsCallEntered size request who old new event
IsCallAnswered size request who old new event (Err (IsRefusedWith refusal)) = IsCallEntered size request who old new (Refused refusal)
IsCallAnswered size request who old new event (Err WantsMemory) = new ≡ old

pub inside-of : {who : Who} (inner : List Entry) → All (λ e. IsOfCall who e × StandsInside e.event) inner → All (λ e. StandsInside e.event) inner
inside-of {who = who} inner own = All-weaker (λ e. IsOfCall who e × StandsInside e.event) (λ e. StandsInside e.event) (λ e is. is.1) inner own

-- so it was answered as a running array's call
pub entered-with : {size : ℕ} {request : Request} {who : Who} {old new : List Entry} {event : Event} → IsCallEntered size request who old new event → IsAnsweredWith size request who old new event
entered-with {who = who} was = record {
  inner = was.inner;
  end = was.end;
  own = All-weaker (λ e. IsOfCall who e × StandsInside e.event) (λ e. IsOfCall who e) (λ e is. is.0) was.inner was.own;
  inside = All-weaker (λ e. IsOfCall who e × StandsInside e.event) (λ e. MayBeInner e.event) (λ e is. inside-inner e.event is.1) was.inner was.own;
  is = was.is;
  fits = was.fits;
}

-- ---- the entries of a call's events

own-events : (who : Who) (end : ℕ) (events : List Event) → All (λ e. StandsInside e.event) (entries_of who end events) → All (λ e. IsOfCall who e × StandsInside e.event) (entries_of who end events)
own-events who end [] inside = All-nil (λ e. IsOfCall who e × StandsInside e.event)
own-events who end (event ∷ events) inside =
    All-cons (λ e. IsOfCall who e × StandsInside e.event) (one who end event) (entries_of who end events)
    ((refl, refl), All-head (λ e. StandsInside e.event) (one who end event) (entries_of who end events) inside)
    (own-events who end events (All-tail (λ e. StandsInside e.event) (one who end event) (entries_of who end events) inside))

-- a reply that fits an array of one shape, and fits this one so
entered-so : {size : ℕ} {request : Request} {who : Who} {old new : List Entry} {event : Event} → ((before : List Entry) (e : Entry) → OneShapeFits size before e request → RunningFits size before e request)
    → IsReplied size request who old new event → IsCallEntered size request who old new event
entered-so {who = who} {old = old} {event = event} so was = record {
  inner = entries_of who was.end was.inner;
  end = was.end;
  own = own-events who was.end was.inner was.inside;
  is = was.is ∙ ap (λ (l : List Entry). old ++ l) (entries-both who was.end was.inner (event ∷ []));
  fits = so (old ++ entries_of who was.end was.inner) (one who was.end event) was.fits;
}

pub answered-so : {T : Type 0} (size : ℕ) (request : Request) (who : Who) (old new : List Entry) (event : Event) (result : Result T Fault)
    → ((before : List Entry) (e : Entry) → OneShapeFits size before e request → RunningFits size before e request)
    → IsAnswered size request who old new event result → IsCallAnswered size request who old new event result
answered-so size request who old new event (Ok x) so was = entered-so so was
answered-so size request who old new event (Err (IsRefusedWith refusal)) so was = entered-so so was
answered-so size request who old new event (Err WantsMemory) so was = was

-- ---- a write, which may finish a window first, or is refused for the backup

entered-behind : {size : ℕ} {at : ℕ} {body : List (List ℕ)} {who : Who} {old new : List Entry} {event : Event} → IsRepliedBehind size (AsksWrite at body) who old new event → IsCallEntered size (AsksWrite at body) who old new event
entered-behind {size = size} {at = at} {body = body} {who = who} {old = old} {event = event} was = record {
  inner = was.call;
  end = was.end;
  own = was.own;
  is = was.is;
  fits = fits-write size (old ++ was.call) (one who was.end event) at body was.fits;
}

-- the refusal for the backup stands alone, of a write that doesn't go past the end
entered-barred : {size : ℕ} {at : ℕ} {body : List (List ℕ)} {who : Who} {old new : List Entry} (end : ℕ) → who.number ≡ next_number who.caller old → at + length body ≤ visible_of size old → new ≡ old ++ one who end (Refused BackupFault) ∷ []
    → IsCallEntered size (AsksWrite at body) who old new (Refused BackupFault)
entered-barred {size = size} {at = at} {body = body} {who = who} {old = old} end number within is = record {
  inner = [];
  end = end;
  own = All-nil (λ e. IsOfCall who e × StandsInside e.event);
  is = is;
  fits = subst (λ (l : List Entry). RunningFits size l (one who end (Refused BackupFault)) (AsksWrite at body)) (sym (append-nil old)) (record {
    answers = by (nat_lt (visible_of size old) (at + length body)) (grind (arith, nat_tests, within));
    torn = subst (λ (call : List Entry). AreTornOf (AsksWrite at body) call) (sym (none_before old who end (Refused BackupFault) number)) tt;
  });
}
  where
    by : (b : Bool) → b ≡ false → MatchBool b (IsPastEnd BackupFault) (IsWriteRefused BackupFault × (IsPastEnd BackupFault → ⊥))
    by true is = absurd (cc)
    by false is = (tt, λ past. past)

pub answered-written : {T : Type 0} (size at : ℕ) (body : List (List ℕ)) (who : Who) (old new : List Entry) (result : Result T Fault) → who.number ≡ next_number who.caller old
    → (result ≡ Err (IsRefusedWith BackupFault) → at + length body ≤ visible_of size old) → IsWriteReplied size at body who old new result → IsCallAnswered size (AsksWrite at body) who old new (Wrote at body) result
answered-written size at body who old new (Ok x) number within was = entered-behind was
answered-written size at body who old new (Err (IsRefusedWith BackupFault)) number within was = entered-barred (was.0) number (within refl) (was.1)
answered-written size at body who old new (Err (IsRefusedWith refusal)) number within was = entered-behind was
answered-written size at body who old new (Err WantsMemory) number within was = was

-- ---- the event that is told of an answer

pub told-answer : {T : Type 0} (size : ℕ) (request : Request) (who : Who) (old new : List Entry) (event : Event) (result : Result T Fault) (told : Result Event NoMemory) → told ≡ told_by result event
    → IsCallAnswered size request who old new event result → IfOk told (λ e. IsAnsweredWith size request who old new e)
told-answer size request who old new event (Ok x) told is was = subst (λ (r : Result Event NoMemory). IfOk r (λ e. IsAnsweredWith size request who old new e)) (sym is) (entered-with was)
told-answer size request who old new event (Err (IsRefusedWith refusal)) told is was = subst (λ (r : Result Event NoMemory). IfOk r (λ e. IsAnsweredWith size request who old new e)) (sym is) (entered-with was)
told-answer size request who old new event (Err WantsMemory) told is was = subst (λ (r : Result Event NoMemory). IfOk r (λ e. IsAnsweredWith size request who old new e)) (sym is) tt
