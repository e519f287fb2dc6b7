-- What passes that are back tell of the array.
use Rattle.std.proofs.Common.{◌≡◌, ◌≢◌, ℕ, ◌≤◌, Bool, if◌then◌else◌, List, [], ◌∷◌, ◌++◌, length, refl, sym, ap, ◌∙◌, subst, MatchOption, arith, length-append, eq-eqb, ne_eqb}
use Rattle.std.specs.List.{All}
use Rattle.std.proofs.lemmas.List.Elements.{All-weaker}
use Rattle.array_requests.specs.bank_the_Operation.{Operation}
use Rattle.array_requests.specs.bank_Given.{Given}
use Rattle.history_caller_laws.specs.history_the_Entry.{Entry}
use Rattle.history_caller_laws.specs.history_the_Request.{Request}
use Rattle.lane_shared.specs.array_specs_Parts.{RunningParts}
use Rattle.lane_shared.specs.array_requests_Entered.{HasEntered}
use Rattle.lane_shared.specs.array_requests_Going.{HasGoneOn}
use Rattle.lane_shared.specs.array_requests_the_Reply.{Reply}
use Rattle.lane_lock.specs.declared.call.Call.{Call}
use Rattle.lane_lock.specs.declared.lock.Pass.{Pass}
use Rattle.lane_lock.specs.declared.view.View.{View}
use Rattle.lane_lock.specs.Turns.{mine_of, fresh, resting}
use Rattle.lane_lock.specs.Passes.{LockId, AreNew, calls_by, Ended}
use Rattle.lane_shared.specs.history_caller_laws_Callers.{AreReplied, HasCalled}
use Rattle.lane_shared.proofs.history_caller_laws_PlaceLaws.{still-replied}
use Rattle.lane_shared.specs.declared.worker.Worked.{Worked}
use Rattle.lane_shared.specs.Lane.{StandsIn, done_of}
use Rattle.lane_shared.specs.Serving.{most_entries, sectors_of, IsEarlier, IsSound, HasMade, requests_of, array_ways}
use Rattle.lane_shared.specs.Lanes.{known_of, own_requests, carried_by}
use Rattle.lane_shared.specs.Threads.{HasPassed, HasWorkedBy}
use Rattle.lane_shared.specs.Blocks.{HasRun}
use Rattle.lane_shared.proofs.Done.{stands-on}
use Rattle.lane_shared.proofs.Carried.{known-has}

-- what is so of one way of making requests is so of another
pub worked-by : (One Other : List Request → List Reply → Type 0) (answers : ℕ → ℕ → ℕ → Type 0) (left : ℕ) (worked : Worked)
    → ((requests : List Request) (replies : List Reply) → One requests replies → Other requests replies)
    → HasWorkedBy One answers left worked → HasWorkedBy Other answers left worked
worked-by One Other answers left worked so was = record {
  turns = was.turns;
  made = so _ _ was.made;
  asked = was.asked;
  count = was.count;
  done = was.done;
  last = was.last;
  ended = was.ended;
  at_most = was.at_most;
  few = was.few;
}

module _ {B : Type 0} where
  calls-of : (c : ℕ) (p : Pass (RunningParts B) Request) (ps : List (Pass (RunningParts B) Request)) → p.caller ≡ c → calls_by c (p ∷ ps) ≡ mine_of p.seat.me.0.hands
  calls-of c p ps is = ap (λ (t : Bool). if t then mine_of p.seat.me.0.hands else calls_by c ps) (eq-eqb p.caller c is)

  calls-past : (c : ℕ) (p : Pass (RunningParts B) Request) (ps : List (Pass (RunningParts B) Request)) → p.caller ≢ c → calls_by c (p ∷ ps) ≡ calls_by c ps
  calls-past c p ps ne = ap (λ (t : Bool). if t then mine_of p.seat.me.0.hands else calls_by c ps) (ne_eqb p.caller c ne)

module _ {B : Type 0} {tells : Type 0} {given : B → Given} {tape : B → List Operation} {faults : B → ℕ → ℕ} (start now : RunningParts B) (caller : ℕ) (old new : Pass (RunningParts B) Request)
    (whose : old.caller ≡ caller) (none : own_requests old ≡ []) (begun : (known_of old.seat.me.0.known old.live).start ≡ start) (requests : List Request) (replies : List Reply)
    (passed : HasPassed tells (carried_by given tape old) (carried_by given tape new) requests replies) (mine : List (Call Request)) (own : mine ≡ mine_of new.seat.me.0.hands)
    (earlier : IsEarlier tells given tape (known_of new.seat.me.0.known new.live).seen now) (made : HasMade tells given tape faults start now caller mine) where
  abbrev seen : RunningParts B
  seen = (known_of new.seat.me.0.known new.live).seen

  abbrev more : List Entry
  more = earlier.before.begins.entries.0

  abbrev calls : List (Request × ℕ)
  calls = done_of requests replies

  -- the list as it was when the lock was begun
  abbrev first : ℕ
  first = sectors_of (known_of new.seat.me.0.known new.live).start

  first-is : first ≡ sectors_of start
  first-is = passed.later.sectors ∙ ap (λ (x : RunningParts B). sectors_of x) begun

  told : All (StandsIn caller now.parts.entries) replies
  told =
      subst (λ (l : List Entry). All (StandsIn caller l) replies) (sym earlier.before.begins.entries.1)
      (All-weaker (StandsIn caller seen.parts.entries) (StandsIn caller (seen.parts.entries ++ more)) (λ r s. stands-on caller seen.parts.entries more r s) replies
      (subst (λ (c : ℕ). All (StandsIn c seen.parts.entries) replies) (passed.later.caller ∙ whose) passed.done.told))

  fits : AreReplied (sectors_of start) now.parts.entries calls
  fits =
      subst (λ (l : List Entry). AreReplied (sectors_of start) l calls) (sym earlier.before.begins.entries.1)
      (subst (λ (n : ℕ). AreReplied n (seen.parts.entries ++ more) calls) first-is
      (still-replied first seen.parts.entries more calls passed.done.fits))

  called : length now.parts.entries ≤ most_entries → HasCalled (sectors_of start) start.parts.entries now.parts.entries caller calls
  called few =
      let long = ap (λ (l : List Entry). length l) earlier.before.begins.entries.1 ∙ length-append seen.parts.entries more in
      let is : requests_of mine ≡ calls =
      ap requests_of own ∙ (passed.done.mine (omega (arith, few, long)) ∙ ap (λ (l : List (Request × ℕ)). l ++ calls) none) in
      subst (λ (l : List (Request × ℕ)). HasCalled (sectors_of start) start.parts.entries now.parts.entries caller l) is (made.called few)

  pub has-run : HasRun start now caller requests replies
  has-run = record { each = passed.done.each; told = told; fits = fits; made = called }

module _ {B : Type 0} {tells : Type 0} {given : B → Given} {tape : B → List Operation} {faults : B → ℕ → ℕ} (id : LockId) (start now : RunningParts B)
    (x y z a b c : Pass (RunningParts B) Request) (new : AreNew id start (1 ∷ 2 ∷ 255 ∷ []) (x ∷ y ∷ z ∷ []))
    (ended : Ended (array_ways tells given tape faults) start (a ∷ b ∷ c ∷ []) now)
    (same : (a.caller ≡ x.caller) × (b.caller ≡ y.caller) × (c.caller ≡ z.caller)) where
  abbrev back : List (Pass (RunningParts B) Request)
  back = a ∷ b ∷ c ∷ []

  -- a new pass has seen the start, and has no calls of its own
  begun-with : (p : Pass (RunningParts B) Request) (n : ℕ) → p.seat.me.0 ≡ resting start start (fresh (n ∷ [])) → (known_of p.seat.me.0.known p.live).start ≡ start
  begun-with p n is =
      known-has p.seat.me.0.known p.live (λ k. k.start ≡ start) (subst (λ (v : View (RunningParts B) Request). MatchOption v.known ⊥ (λ k. k.start ≡ start)) (sym is) refl)

  none-yet : (p : Pass (RunningParts B) Request) (n : ℕ) → p.seat.me.0 ≡ resting start start (fresh (n ∷ [])) → own_requests p ≡ []
  none-yet p n is = ap (λ v. requests_of (mine_of v.hands)) is

  later-than : (p : Pass (RunningParts B) Request) → MatchOption p.seat.me.0.known ⊥ (λ k. IsEarlier tells given tape k.seen now)
      → IsEarlier tells given tape (known_of p.seat.me.0.known p.live).seen now
  later-than p at = known-has p.seat.me.0.known p.live (λ k. IsEarlier tells given tape k.seen now) at

  is-1 : a.caller ≡ 1
  is-1 = same.0 ∙ new.0

  is-2 : b.caller ≡ 2
  is-2 = same.1 ∙ new.3.0

  is-255 : c.caller ≡ 255
  is-255 = same.2 ∙ new.3.3.0

  pub first-ran : (requests : List Request) (replies : List Reply) → HasPassed tells (carried_by given tape x) (carried_by given tape a) requests replies → HasRun start now 1 requests replies
  first-ran requests replies passed =
      has-run start now 1 x a new.0 (none-yet x 1 new.2) (begun-with x 1 new.2) requests replies passed (calls_by 1 back) (calls-of 1 a (b ∷ c ∷ []) is-1)
      (later-than a ended.seen.0) (ended.made 1)

  pub second-ran : (requests : List Request) (replies : List Reply) → HasPassed tells (carried_by given tape y) (carried_by given tape b) requests replies → HasRun start now 2 requests replies
  second-ran requests replies passed =
      has-run start now 2 y b new.3.0 (none-yet y 2 new.3.2) (begun-with y 2 new.3.2) requests replies passed (calls_by 2 back)
      (calls-past 2 a (b ∷ c ∷ []) (λ e. absurd (apart (sym is-1 ∙ e))) ∙ calls-of 2 b (c ∷ []) is-2)
      (later-than b ended.seen.1.0) (ended.made 2)
    where
      apart : ◌≡◌ {A = ℕ} 1 2 → ⊥
      apart e = omega (arith, e)

  pub worker-ran : (requests : List Request) (replies : List Reply) → HasPassed tells (carried_by given tape z) (carried_by given tape c) requests replies → HasRun start now 255 requests replies
  worker-ran requests replies passed =
      has-run start now 255 z c new.3.3.0 (none-yet z 255 new.3.3.2) (begun-with z 255 new.3.3.2) requests replies passed (calls_by 255 back)
      (calls-past 255 a (b ∷ c ∷ []) (λ e. absurd (apart (sym is-1 ∙ e))) ∙ (calls-past 255 b (c ∷ []) (λ e. absurd (apart' (sym is-2 ∙ e))) ∙ calls-of 255 c [] is-255))
      (later-than c ended.seen.1.1.0) (ended.made 255)
    where
      apart : ◌≡◌ {A = ℕ} 1 255 → ⊥
      apart e = omega (arith, e)

      apart' : ◌≡◌ {A = ℕ} 2 255 → ⊥
      apart' e = omega (arith, e)

  -- who has no pass has made no call
  pub none-else : (n : ℕ) → n ≢ 1 → n ≢ 2 → n ≢ 255 → HasMade tells given tape faults start now n []
  none-else n one two worker =
      subst (λ (l : List (Call Request)). HasMade tells given tape faults start now n l)
      (calls-past n a (b ∷ c ∷ []) (λ e. one (sym e ∙ is-1)) ∙ (calls-past n b (c ∷ []) (λ e. two (sym e ∙ is-2)) ∙ calls-past n c [] (λ e. worker (sym e ∙ is-255))))
      (ended.made n)

-- what the passes of a block tell
pub record AreTold {B : Type 0} (tells : Type 0) (given : B → Given) (tape : B → List Operation) (faults : B → ℕ → ℕ) (start now : RunningParts B)
    (asked other : List Request) (one two : List Reply) (answers : ℕ → ℕ → ℕ → Type 0) (left : ℕ) (did : Worked) : Type 0 where
  pub later : IsEarlier tells given tape start now
  pub went : HasGoneOn tells given tape faults start now
  pub entered : HasEntered start now
  pub ended : IsSound tells tape now
  pub first : HasRun start now 1 asked one
  pub second : HasRun start now 2 other two
  pub worked : HasWorkedBy (HasRun start now 255) answers left did
  pub others : (caller : ℕ) → caller ≢ 1 → caller ≢ 2 → caller ≢ 255 → HasMade tells given tape faults start now caller []

pub all-told : {B : Type 0} {tells : Type 0} {given : B → Given} {tape : B → List Operation} {faults : B → ℕ → ℕ} (id : LockId) (key start now : RunningParts B)
    (x y z a b c : Pass (RunningParts B) Request) (asked other : List Request) (one two : List Reply) (answers : ℕ → ℕ → ℕ → Type 0) (found left : ℕ) (did : Worked)
    → key ≡ start → AreNew id start (1 ∷ 2 ∷ 255 ∷ []) (x ∷ y ∷ z ∷ []) → Ended (array_ways tells given tape faults) key (a ∷ b ∷ c ∷ []) now
    → HasPassed tells (carried_by given tape x) (carried_by given tape a) asked one → HasPassed tells (carried_by given tape y) (carried_by given tape b) other two
    → found ≡ left → HasWorkedBy (HasPassed tells (carried_by given tape z) (carried_by given tape c)) answers found did
    → AreTold tells given tape faults start now asked other one two answers left did
all-told {B} {tells} {given} {tape} {faults} id key start now x y z a b c asked other one two answers found left did key-is new ended p q left-is w =
    let at-end : Ended (array_ways tells given tape faults) start (a ∷ b ∷ c ∷ []) now =
    subst (λ (v : RunningParts B). Ended (array_ways tells given tape faults) v (a ∷ b ∷ c ∷ []) now) key-is ended in
    let same : (a.caller ≡ x.caller) × (b.caller ≡ y.caller) × (c.caller ≡ z.caller) = (p.later.caller, q.later.caller, w.made.later.caller) in
    record {
      later = at-end.begins;
      went = (at-end.made 1).went;
      entered = (at-end.made 1).entered;
      ended = at-end.sound;
      first = first-ran id start now x y z a b c new at-end same asked one p;
      second = second-ran id start now x y z a b c new at-end same other two q;
      worked = worked-by (HasPassed tells (carried_by given tape z) (carried_by given tape c)) (HasRun start now 255) answers left did
          (λ requests replies. worker-ran id start now x y z a b c new at-end same requests replies)
          (subst (λ (n : ℕ). HasWorkedBy (HasPassed tells (carried_by given tape z) (carried_by given tape c)) answers n did) left-is w);
      others = none-else id start now x y z a b c new at-end same;
    }
