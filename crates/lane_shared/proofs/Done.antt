-- What was done stays so, and one request more.
use Rattle.std.proofs.Common.{◌≡◌, ℕ, List, [], ◌∷◌, ◌++◌, length, take, refl, sym, ap, ◌∙◌, subst, Option, Some, None, MatchOption, slice_get, arith, append_assoc, append-nil, length-append}
use Rattle.std.specs.Bool.{⊤}
use Rattle.std.specs.List.{All}
use Rattle.std.proofs.lemmas.List.Elements.{All-nil, All-cons, All-append, All-weaker}
use Rattle.history_caller_laws.specs.history_the_Entry.{Entry}
use Rattle.history_caller_laws.specs.history_the_Event.{Event}
use Rattle.history_caller_laws.specs.history_the_Request.{Request}
use Rattle.array_requests.specs.declared.reply.Reply.{Reply}
use Rattle.array_requests.specs.declared.reply.Reply.TheVariants.{Done, NoMemory as Short}
use Rattle.history_caller_laws.specs.Callers.{IsReplyTo, AreReplied}
use Rattle.history_caller_laws.proofs.PlaceLaws.{reads, there, still-replied, reply-more, replied-new}
use Rattle.history_caller_laws.proofs.BeforeLaws.{seen-self, seen-on}
use Rattle.lane_shared.specs.Carried.{Carried, IsHeld, GoesOn, next_call, IsEntered, IsAnswered}
use Rattle.lane_shared.specs.Lane.{AreOneEach, done_of, StandsIn, AreCalls, AreDone}

-- ---- a pass that goes on

pub stays : {tells : Type 0} (x : Carried) → GoesOn tells x x
stays x = record { caller = refl; sectors = refl; start = refl; seen = seen-self x.seen }

pub on : {tells : Type 0} (x y z : Carried) → GoesOn tells x y → GoesOn tells y z → GoesOn tells x z
on x y z p q = record {
  caller = q.caller ∙ p.caller;
  sectors = q.sectors ∙ p.sectors;
  start = q.start ∙ p.start;
  seen = seen-on x.seen y.seen z.seen p.seen q.seen;
}

held-before : {tells : Type 0} (x y : Carried) → GoesOn tells x y → IsHeld y → IsHeld x
held-before x y p held =
    let more = p.seen.begins.entries in
    let long = ap (λ (l : List Entry). length l) more.1 ∙ length-append x.seen.entries more.0 in
    omega (arith, held, long)

-- ---- replies

-- no reply so far tells that memory was short
abbrev pub AllEntered : List Reply → Type 0
AllEntered [] = ⊤
AllEntered (Done at event ∷ replies) = AllEntered replies
AllEntered (Short ∷ replies) = ⊥

pub entered-more : (replies : List Reply) (at : ℕ) (event : Event) → AllEntered replies → AllEntered (replies ++ Done at event ∷ [])
entered-more [] at event all = tt
entered-more (Done place old ∷ replies) at event all = entered-more replies at event all
entered-more (Short ∷ replies) at event all = absurd all

each-more : (requests : List Request) (replies : List Reply) (request : Request) (at : ℕ) (event : Event) → AreOneEach requests replies → AllEntered replies
    → AreOneEach (requests ++ request ∷ []) (replies ++ Done at event ∷ [])
each-more [] [] request at event each all = tt
each-more [] (r ∷ replies) request at event each all = absurd each
each-more (q ∷ requests) [] request at event each all = absurd each
each-more (q ∷ requests) (Done place old ∷ replies) request at event each all = each-more requests replies request at event each all
each-more (q ∷ requests) (Short ∷ replies) request at event each all = absurd all

each-short : (requests : List Request) (replies : List Reply) (request : Request) (rest : List Request) → AreOneEach requests replies → AllEntered replies
    → AreOneEach (requests ++ request ∷ rest) (replies ++ Short ∷ [])
each-short [] [] request rest each all = tt
each-short [] (r ∷ replies) request rest each all = absurd each
each-short (q ∷ requests) [] request rest each all = absurd each
each-short (q ∷ requests) (Done place old ∷ replies) request rest each all = each-short requests replies request rest each all
each-short (q ∷ requests) (Short ∷ replies) request rest each all = absurd all

of-more : (requests : List Request) (replies : List Reply) (request : Request) (at : ℕ) (event : Event) → AreOneEach requests replies → AllEntered replies
    → done_of (requests ++ request ∷ []) (replies ++ Done at event ∷ []) ≡ done_of requests replies ++ (request, at) ∷ []
of-more [] [] request at event each all = refl
of-more [] (r ∷ replies) request at event each all = absurd each
of-more (q ∷ requests) [] request at event each all = absurd each
of-more (q ∷ requests) (Done place old ∷ replies) request at event each all =
    ap (λ (l : List (Request × ℕ)). (q, place) ∷ l) (of-more requests replies request at event each all)
of-more (q ∷ requests) (Short ∷ replies) request at event each all = absurd all

of-none : (requests : List Request) → done_of requests [] ≡ []
of-none [] = refl
of-none (q ∷ requests) = refl

of-short : (requests : List Request) (replies : List Reply) (request : Request) (rest : List Request) → AreOneEach requests replies → AllEntered replies
    → done_of (requests ++ request ∷ rest) (replies ++ Short ∷ []) ≡ done_of requests replies
of-short [] [] request rest each all = of-none rest
of-short [] (r ∷ replies) request rest each all = absurd each
of-short (q ∷ requests) [] request rest each all = absurd each
of-short (q ∷ requests) (Done place old ∷ replies) request rest each all =
    ap (λ (l : List (Request × ℕ)). (q, place) ∷ l) (of-short requests replies request rest each all)
of-short (q ∷ requests) (Short ∷ replies) request rest each all = absurd all

pub stands-on : (caller : ℕ) (entries more : List Entry) (reply : Reply) → StandsIn caller entries reply → StandsIn caller (entries ++ more) reply
stands-on caller entries more (Done at event) stands = one (slice_get entries at) refl stands
  where
    one : (found : Option Entry) → slice_get entries at ≡ found → MatchOption found ⊥ (λ e. (e.caller ≡ caller) × (e.event ≡ event))
        → MatchOption (slice_get (entries ++ more) at) ⊥ (λ e. (e.caller ≡ caller) × (e.event ≡ event))
    one None is stands = absurd stands
    one (Some e) is stands =
        subst (λ (found : Option Entry). MatchOption found ⊥ (λ e. (e.caller ≡ caller) × (e.event ≡ event))) (sym (there entries more at e is)) stands
stands-on caller entries more Short stands = tt

-- ---- calls

pub calls-more : {P : Type 0} (answered : P → Request → Reply → P → Type 0) (pass mid new : P) (requests : List Request) (replies : List Reply) (request : Request)
    (at : ℕ) (event : Event) → AreCalls answered pass requests replies mid → AllEntered replies → answered mid request (Done at event) new
    → AreCalls answered pass (requests ++ request ∷ []) (replies ++ Done at event ∷ []) new
calls-more {P} answered pass mid new [] [] request at event calls all one = (new, subst (λ (p : P). answered p request (Done at event) new) calls one, refl)
calls-more answered pass mid new [] (r ∷ replies) request at event calls all one = absurd calls
calls-more answered pass mid new (q ∷ requests) [] request at event calls all one = absurd calls
calls-more answered pass mid new (q ∷ requests) (Done place old ∷ replies) request at event calls all one =
    (calls.0, calls.1, calls-more answered calls.0 mid new requests replies request at event calls.2 all one)
calls-more answered pass mid new (q ∷ requests) (Short ∷ replies) request at event calls all one = absurd all

pub calls-short : {P : Type 0} (answered : P → Request → Reply → P → Type 0) (pass mid new : P) (requests : List Request) (replies : List Reply) (request : Request)
    (rest : List Request) → AreCalls answered pass requests replies mid → AllEntered replies → answered mid request Short new
    → AreCalls answered pass (requests ++ request ∷ rest) (replies ++ Short ∷ []) new
calls-short {P} answered pass mid new [] [] request rest calls all one = subst (λ (p : P). answered p request Short new) calls one
calls-short answered pass mid new [] (r ∷ replies) request rest calls all one = absurd calls
calls-short answered pass mid new (q ∷ requests) [] request rest calls all one = absurd calls
calls-short answered pass mid new (q ∷ requests) (Done place old ∷ replies) request rest calls all one =
    (calls.0, calls.1, calls-short answered calls.0 mid new requests replies request rest calls.2 all one)
calls-short answered pass mid new (q ∷ requests) (Short ∷ replies) request rest calls all one = absurd all

pub calls-one : {P : Type 0} (answered : P → Request → Reply → P → Type 0) (pass mid new : P) (requests : List Request) (replies : List Reply) (request : Request)
    (reply : Reply) → AreCalls answered pass requests replies mid → AllEntered replies → answered mid request reply new
    → AreCalls answered pass (requests ++ request ∷ []) (replies ++ reply ∷ []) new
calls-one answered pass mid new requests replies request (Done at event) calls all one = calls-more answered pass mid new requests replies request at event calls all one
calls-one answered pass mid new requests replies request Short calls all one = calls-short answered pass mid new requests replies request [] calls all one

-- ---- one more

pub none-done : (x : Carried) → AreDone x x [] []
none-done x = record { each = tt; told = All-nil (StandsIn x.caller x.seen.entries); fits = tt; mine = λ held. sym (append-nil x.mine) }

module _ {tells : Type 0} (old mid new : Carried) (requests : List Request) (replies : List Reply) (request : Request)
    (was : AreDone old mid requests replies) (all : AllEntered replies) (goes : GoesOn tells mid new) where
  told-still : All (StandsIn new.caller new.seen.entries) replies
  told-still =
      let more = goes.seen.begins.entries in
      subst (λ (l : List Entry). All (StandsIn new.caller l) replies) (sym more.1)
      (subst (λ (c : ℕ). All (StandsIn c (mid.seen.entries ++ more.0)) replies) (sym goes.caller)
      (All-weaker (StandsIn mid.caller mid.seen.entries) (StandsIn mid.caller (mid.seen.entries ++ more.0))
      (λ r s. stands-on mid.caller mid.seen.entries more.0 r s) replies was.told))

  fits-still : AreReplied new.sectors new.seen.entries (done_of requests replies)
  fits-still =
      let more = goes.seen.begins.entries in
      subst (λ (l : List Entry). AreReplied new.sectors l (done_of requests replies)) (sym more.1)
      (subst (λ (n : ℕ). AreReplied n (mid.seen.entries ++ more.0) (done_of requests replies)) (sym goes.sectors)
      (still-replied mid.sectors mid.seen.entries more.0 (done_of requests replies) was.fits))

  pub done-short : (rest : List Request) → new.mine ≡ mid.mine → AreDone old new (requests ++ request ∷ rest) (replies ++ Short ∷ [])
  done-short rest same =
      let of = of-short requests replies request rest was.each all in
      record {
        each = each-short requests replies request rest was.each all;
        told = All-append (StandsIn new.caller new.seen.entries) replies (Short ∷ []) told-still
            (All-cons (StandsIn new.caller new.seen.entries) Short [] tt (All-nil (StandsIn new.caller new.seen.entries)));
        fits = subst (λ (l : List (Request × ℕ)). AreReplied new.sectors new.seen.entries l) (sym of) fits-still;
        mine = λ held. same ∙ was.mine (held-before mid new goes held) ∙ ap (λ (l : List (Request × ℕ)). old.mine ++ l) (sym of);
      }

  module _ (at : ℕ) (event : Event) (k : IsEntered tells mid request at event new) where
    behind : new.seen.entries ≡ (k.found.entries ++ k.called.inner) ++ k.called.reply ∷ []
    behind = k.called.is ∙ sym (append_assoc k.found.entries k.called.inner (k.called.reply ∷ []))

    place-is : at ≡ length (k.found.entries ++ k.called.inner)
    place-is =
        let long = ap (λ (l : List Entry). length l) behind ∙ length-append (k.found.entries ++ k.called.inner) (k.called.reply ∷ []) in
        let place = k.place in
        omega (arith, long, place)

    pub told-new : StandsIn new.caller new.seen.entries (Done at event)
    told-new =
        subst (λ (l : List Entry). MatchOption (slice_get l at) ⊥ (λ e. (e.caller ≡ new.caller) × (e.event ≡ event))) (sym behind)
        (subst (λ (n : ℕ). MatchOption (slice_get ((k.found.entries ++ k.called.inner) ++ k.called.reply ∷ []) n) ⊥ (λ e. (e.caller ≡ new.caller) × (e.event ≡ event))) (sym place-is)
        (subst (λ (found : Option Entry). MatchOption found ⊥ (λ e. (e.caller ≡ new.caller) × (e.event ≡ event)))
        (sym (reads (k.found.entries ++ k.called.inner) k.called.reply))
        (k.called.last.0 ∙ sym goes.caller, k.event_is)))

    fits-new : MatchOption (slice_get new.seen.entries at) ⊥ (λ e. IsReplyTo new.sectors (take at new.seen.entries) e request)
    fits-new =
        let place = k.place in
        subst (λ (n : ℕ). MatchOption (slice_get new.seen.entries n) ⊥ (λ e. IsReplyTo new.sectors (take n new.seen.entries) e request)) (omega (arith, place))
        (replied-new new.sectors [] k.found.entries k.found.entries new.seen.entries (next_call mid.caller k.found.entries) request refl k.called)

    pub done-more : AreDone old new (requests ++ request ∷ []) (replies ++ Done at event ∷ [])
    done-more =
        let of = of-more requests replies request at event was.each all in
        record {
          each = each-more requests replies request at event was.each all;
          told = All-append (StandsIn new.caller new.seen.entries) replies (Done at event ∷ []) told-still
              (All-cons (StandsIn new.caller new.seen.entries) (Done at event) [] told-new (All-nil (StandsIn new.caller new.seen.entries)));
          fits = subst (λ (l : List (Request × ℕ)). AreReplied new.sectors new.seen.entries l) (sym of)
              (reply-more new.sectors new.seen.entries (done_of requests replies) request at fits-still fits-new);
          mine = λ held. k.mine held ∙ ap (λ (l : List (Request × ℕ)). l ++ (request, at) ∷ []) (was.mine (held-before mid new goes held))
              ∙ append_assoc old.mine (done_of requests replies) ((request, at) ∷ []) ∙ ap (λ (l : List (Request × ℕ)). old.mine ++ l) (sym of);
        }

  -- a request was answered, and no other is made where memory was short
  pub done-one : (reply : Reply) → IsAnswered tells mid request reply new → AreDone old new (requests ++ request ∷ []) (replies ++ reply ∷ [])
  done-one (Done at event) k = done-more at event k
  done-one Short same = done-short [] same
