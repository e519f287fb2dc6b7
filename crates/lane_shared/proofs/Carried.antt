-- What a call of the lock tells of what its passes carry.
use Rattle.std.proofs.Common.{◌≡◌, ℕ, ◌+◌, ◌≤◌, true, List, ◌++◌, length, refl, sym, ap, ◌∙◌, subst, subst₂, Option, Some, None, is_some, MatchOption, arith}
use Rattle.array_requests.specs.raid_types_the_Who.{Who}
use Rattle.array_requests.specs.bank_the_Operation.{Operation}
use Rattle.array_requests.specs.bank_Given.{Given}
use Rattle.history_caller_laws.specs.history_the_Entry.{Entry}
use Rattle.history_caller_laws.specs.history_the_Event.{Event}
use Rattle.history_caller_laws.specs.history_the_Request.{Request}
use Rattle.lane_shared.specs.array_specs_Parts.{RunningParts}
use Rattle.lane_shared.specs.array_requests_the_Reply.{Reply}
use Rattle.lane_shared.specs.array_requests_the_Reply_TheVariants.{Done, NoMemory as Short}
use Rattle.lane_lock.specs.declared.view.Known.{Known}
use Rattle.lane_lock.specs.declared.lock.Pass.{Pass}
use Rattle.history_caller_laws.specs.Callers.{IsReplyTo, IsCalled, HasCalled}
use Rattle.history_caller_laws.proofs.BeforeLaws.{seen-self}
use Rattle.lane_shared.specs.Carried.{GoesOn, IsOwn, next_call, IsEntered, IsAnswered as IsRepliedTo}
use Rattle.lane_shared.specs.Serving.{most_entries, sectors_of, seen_of, IsEarlier}
use Rattle.lane_shared.specs.ServingLaws.{performed-called, sized-since, earlier-on, earlier}
use Rattle.lane_shared.specs.Lanes.{own_requests, known_of, carried_by, IsToldBy, IsAnswered}

-- what holds of what is known
pub known-has : {T : Type 0} (known : Option T) (some : is_some known ≡ true) (P : T → Type 0) → MatchOption known ⊥ P → P (known_of known some)
known-has (Some k) some P fact = fact
known-has None some P fact = absurd fact

-- a call, told in other terms
abbrev told-as : {size size' : ℕ} (who : Who) (request : Request) (old new new' : List Entry) → size' ≡ size → new' ≡ new → IsCalled size who request old new → IsCalled size' who request old new'
told-as who request old new new' size-is new-is c = record {
  inner = c.inner;
  reply = c.reply;
  number = c.number;
  own = c.own;
  last = c.last;
  is = new-is ∙ c.is;
  answers = subst (λ (n : ℕ). IsReplyTo n (old ++ c.inner) c.reply request) (sym size-is) c.answers;
}

module _ {B : Type 0} (tells : Type 0) (given : B → Given) (tape : B → List Operation) (faults : B → ℕ → ℕ) (pass pass' : Pass (RunningParts B) Request) (request : Request)
    (reply : Reply) (same : pass'.caller ≡ pass.caller) (k : IsAnswered tells given tape faults pass request reply pass') where
  abbrev known : Known (RunningParts B)
  known = known_of pass.seat.me.0.known pass.live

  abbrev known' : Known (RunningParts B)
  known' = known_of pass'.seat.me.0.known pass'.live

  later : IsEarlier tells given tape known.seen k.found
  later = known-has pass.seat.me.0.known pass.live (λ l. IsEarlier tells given tape l.seen k.found) k.later

  seen : known'.seen ≡ k.after
  seen = known-has pass'.seat.me.0.known pass'.live (λ l. l.seen ≡ k.after) k.seen

  start : known.start ≡ k.start
  start = known-has pass.seat.me.0.known pass.live (λ l. l.start ≡ k.start) k.begun.0

  start' : known'.start ≡ k.start
  start' = known-has pass'.seat.me.0.known pass'.live (λ l. l.start ≡ k.start) k.begun.1

  -- what was found is seen, and what was done to it
  grown : (r : Reply) → IsToldBy tells given tape faults pass pass' request k.found k.after r → IsEarlier tells given tape k.found k.after
  grown (Done at event) told = earlier k.found k.after pass.caller request (Done at event) told.0
  grown Short told = subst (λ (x : RunningParts B). IsEarlier tells given tape k.found x) (sym told.0)
      (record { before = seen-self (seen_of given tape k.found); given_is = refl; full = λ full. refl })

  on : IsEarlier tells given tape known.seen known'.seen
  on = subst (λ (x : RunningParts B). IsEarlier tells given tape known.seen x) (sym seen) (earlier-on known.seen k.found k.after later (grown reply k.told))

  pub goes-on : GoesOn tells (carried_by given tape pass) (carried_by given tape pass')
  goes-on = record {
    caller = same;
    sectors = ap (λ (x : RunningParts B). sectors_of x) (start' ∙ sym start);
    start = ap (λ (x : RunningParts B). x.parts.entries) (start' ∙ sym start);
    seen = on.before;
  }

  entered : (at : ℕ) (event : Event) → IsToldBy tells given tape faults pass pass' request k.found k.after (Done at event)
      → IsEntered tells (carried_by given tape pass) request at event (carried_by given tape pass')
  entered at event told =
      let served = told.0 in
      let call = performed-called (sectors_of k.start) request (next_call pass.caller k.found.parts.entries) k.found k.after.parts.entries event refl
      (sized-since k.start k.found k.before.went served.sizes) served.sizes served.replied.0 in
      let last : at + 1 ≡ length known'.seen.parts.entries = served.replied.1 ∙ ap (λ (x : RunningParts B). length x.parts.entries) (sym seen) in
      record {
        found = seen_of given tape k.found;
        later = later.before;
        called = told-as (next_call pass.caller k.found.parts.entries) request k.found.parts.entries k.after.parts.entries known'.seen.parts.entries
            (ap (λ (x : RunningParts B). sectors_of x) start') (ap (λ (x : RunningParts B). x.parts.entries) seen) call.0;
        event_is = call.1;
        place = last;
        mine = λ held. told.1 (omega (arith, held, last));
      }

  pub replied : (r : Reply) → IsToldBy tells given tape faults pass pass' request k.found k.after r → IsRepliedTo tells (carried_by given tape pass) request r (carried_by given tape pass')
  replied (Done at event) told = entered at event told
  replied Short told = told.1

  pub own : IsOwn (carried_by given tape pass')
  own held =
      subst₂ (λ (s x : RunningParts B). HasCalled (sectors_of s) s.parts.entries x.parts.entries pass'.caller (own_requests pass')) (sym start') (sym seen)
      (subst (λ (c : ℕ). HasCalled (sectors_of k.start) k.start.parts.entries k.after.parts.entries c (own_requests pass')) (sym same)
      (k.made.called (subst (λ (x : RunningParts B). length x.parts.entries ≤ most_entries) seen held)))
