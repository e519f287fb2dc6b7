-- What a call of the lock tells of the array.
use Rattle.std.proofs.Common.{◌≡◌, ℕ, ◌+◌, ◌-◌, ◌<◌, List, [], ◌∷◌, ◌++◌, length, refl, sym, ap, ◌∙◌, subst, Option, MatchOption, arith}
use Rattle.std.proofs.lemmas.List.{map-append}
use Rattle.array_requests.specs.bank_the_Operation.{Operation}
use Rattle.array_requests.specs.bank_Given.{Given}
use Rattle.history_caller_laws.specs.history_the_Request.{Request}
use Rattle.lane_shared.specs.array_specs_Parts.{RunningParts}
use Rattle.lane_shared.specs.array_requests_the_Reply.{Reply}
use Rattle.lane_shared.specs.array_requests_the_Reply_TheVariants.{Done, NoMemory as Short}
use Rattle.lane_lock.specs.declared.call.Call.{Call}
use Rattle.lane_lock.specs.declared.view.Known.{Known}
use Rattle.lane_lock.specs.declared.lock.Pass.{Pass}
use Rattle.lane_lock.specs.Turns.{Called, mine_of}
use Rattle.lane_shared.specs.Serving.{most_entries, size_of, requests_of, array_ways}
use Rattle.lane_shared.specs.Lanes.{own_requests, IsToldBy, IsAnswered}

module _ {B : Type 0} (tells : Type 0) (given : B → Given) (tape : B → List Operation) (faults : B → ℕ → ℕ) (pass pass' : Pass (RunningParts B) Request) (request : Request) where
  -- the place of the reply is that of the last entry
  one-more : (found after : RunningParts B) (at : ℕ) → at + 1 ≡ length after.parts.entries
      → mine_of pass'.seat.me.0.hands ≡ mine_of pass.seat.me.0.hands ++ record { request = request; at = size_of after - 1 } ∷ []
      → at < most_entries → own_requests pass' ≡ own_requests pass ++ (request, at) ∷ []
  one-more found after at last is few =
      let mine = mine_of pass.seat.me.0.hands in
      let place : size_of after - 1 ≡ at = omega (arith, last, few) in
      ap requests_of is ∙ map-append (λ (c : Call Request). (c.request, c.at)) mine (record { request = request; at = size_of after - 1 } ∷ [])
      ∙ ap (λ (n : ℕ). requests_of mine ++ (request, n) ∷ []) place

  told : (reply : Reply) (k : Called (array_ways tells given tape faults) pass.seat.me.0 pass.caller request reply pass'.seat.me.0)
      → IsToldBy tells given tape faults pass pass' request k.found k.after reply
  told (Done at event) k = (k.answered.0, λ few. one-more k.found k.after at k.answered.0.replied.1 k.answered.1 few)
  told Short k = (k.answered.0, ap requests_of k.answered.1)

  pub answered : (reply : Reply) → Called (array_ways tells given tape faults) pass.seat.me.0 pass.caller request reply pass'.seat.me.0
      → IsAnswered tells given tape faults pass request reply pass'
  answered reply k = record {
    found = k.found;
    after = k.after;
    start = k.start;
    later = k.later;
    seen = subst (λ (known : Option (Known (RunningParts B))). MatchOption known ⊥ (λ l. l.seen ≡ k.after)) (sym k.seen) refl;
    begun = (k.start_is, subst (λ (known : Option (Known (RunningParts B))). MatchOption known ⊥ (λ l. l.start ≡ k.start)) (sym k.seen) refl);
    told = told reply k;
    before = k.before;
    made = k.made;
  }
