-- The laws of an array, for a lock.
use Rattle.std.proofs.Common.{◌≡◌, ◌≢◌, ◌⊎◌, inl, inr, ℕ, ◌-◌, ◌<◌, ◌≤◌, min, Bool, true, false, Option, List, [], ◌∷◌, ◌++◌, length, refl, sym, ap, ◌∙◌, subst, arith, append-nil, length-append, drop}
use Rattle.std.proofs.Math.Seq.{drop-append_seam}
use Rattle.std.proofs.lemmas.List.{map-append}
use Rattle.std.proofs.lemmas.Bool.{cases_lt}
use Rattle.std.proofs.lemmas.List.Elements.{All-nil, All-cons, All-append, All-weaker}
use Rattle.std.specs.List.{All}
use Rattle.std.specs.Prelude.{MatchBool}
use Rattle.std.specs.Option.{option_map_or}
use Rattle.array_requests.specs.raid_types_the_Who.{Who}
use Rattle.array_requests.specs.raid_types_the_Status.{Status}
use Rattle.array_requests.specs.bank_the_Operation.{Operation}
use Rattle.array_requests.specs.bank_Given.{Given, sizes}
use Rattle.array_requests.specs.sb_specs_Reading.{is_reshaping}
use Rattle.history_caller_laws.specs.history_the_Entry.{Entry}
use Rattle.history_caller_laws.specs.history_the_Event.{Event}
use Rattle.history_caller_laws.specs.history_the_Request.{Request}
use Rattle.history_caller_laws.specs.history_the_Request_TheVariants.{Show as AsksShow}
use Rattle.history_caller_laws.specs.history_Flat.{next_number, length_of, limit_of, visible_of}
use Rattle.history_caller_laws.specs.history_OneShape.{IsOfCall}
use Rattle.history_caller_laws.specs.history_Seen.{BeginsWith}
use Rattle.array_requests.specs.array_specs_Parts.{RunningParts, visible_in}
use Rattle.array_requests.specs.array_specs_Calls.{IsStatusFor}
use Rattle.array_requests.specs.array_specs_Still.{IsStillStatus}
use Rattle.array_requests.specs.array_Calls.{IsShownAs as IsShownOf}
use Rattle.array_requests.specs.Going.{HasGoneOn}
use Rattle.array_requests.specs.Replies.{TellsSizes, IsPerformed}
use Rattle.array_requests.proofs.Sizes.{length-since, fits-since}
use Rattle.array_requests.proofs.Entered.{entered-none, none-more, entered-then, then-more}
use Rattle.array_requests.proofs.GoneOn.{gone-none, gone-then}
use Rattle.array_requests.specs.declared.reply.Reply.{Reply}
use Rattle.array_requests.specs.declared.reply.Reply.TheVariants.{Done, NoMemory as Short}
use Rattle.lane_lock.specs.declared.call.Call.{Call}
use Rattle.lane_lock.specs.Ways.{IsLawful}
use Rattle.history_caller_laws.specs.Callers.{IsShownAs, HasCalled, IsCalled}
use Rattle.history_caller_laws.proofs.PlaceLaws.{none-has_called, counted, unmoved}
use Rattle.history_caller_laws.proofs.BeforeLaws.{seen-self, seen-on, shorter-before, calls-later}
use Rattle.lane_shared.specs.Carried.{next_call}
use Rattle.lane_shared.specs.Serving.{most_entries, sectors_of, size_of, seen_of, IsEarlier, IsSound, IsServed, requests_of, HasMade, array_ways}

-- ---- earlier and later

module _ {B : Type 0} {tells : Type 0} {given : B → Given} {tape : B → List Operation} where
  pub earlier-on : (x y z : RunningParts B) → IsEarlier tells given tape x y → IsEarlier tells given tape y z → IsEarlier tells given tape x z
  earlier-on x y z p q = record {
    before = seen-on (seen_of given tape x) (seen_of given tape y) (seen_of given tape z) p.before q.before;
    given_is = q.given_is ∙ p.given_is;
    full = λ full. q.full (subst (λ (l : List Entry). most_entries ≤ length l) (sym (p.full full)) full) ∙ p.full full;
  }

  -- the one with fewer entries is the earlier one
  fewer : (x y now : RunningParts B) → IsEarlier tells given tape x now → IsEarlier tells given tape y now → size_of x ≤ size_of y → length x.parts.entries ≤ length y.parts.entries
  fewer x y now p q le = by (cases_lt (length y.parts.entries) most_entries)
    where
      long : length x.parts.entries ≤ length now.parts.entries
      long =
          let is = ap (λ (l : List Entry). length l) p.before.begins.entries.1 in
          let sum = length-append x.parts.entries p.before.begins.entries.0 in
          omega (arith, is, sum)

      by : (length y.parts.entries < most_entries) ⊎ (most_entries ≤ length y.parts.entries) → length x.parts.entries ≤ length y.parts.entries
      by (inl lt) = omega (arith, lt, le)
      by (inr full) = let same = ap (λ (l : List Entry). length l) (q.full full) in omega (arith, same, long)

  earlier-of : (x y now : RunningParts B) → IsSound tells tape x → IsSound tells tape y → IsEarlier tells given tape x now → IsEarlier tells given tape y now → size_of x ≤ size_of y → IsEarlier tells given tape x y
  earlier-of x y now whole whole' p q le =
      let few = fewer x y now p q le in
      record {
        before = shorter-before (seen_of given tape x) (seen_of given tape y) (seen_of given tape now) whole whole' p.before q.before few;
        given_is = sym q.given_is ∙ p.given_is;
        full = λ full. sym (q.full (omega (arith, full, few))) ∙ p.full full;
      }

-- ---- a call

-- a status of the array tells the list's length, and how much of it can be read and written
shown-sizes : {B : Type 0} (array : RunningParts B) (status : Status) → IsShownOf array status → (status.length ≡ sectors_of array) × (status.visible ≡ visible_in array)
shown-sizes array status = of (is_reshaping array.parts.members.newest)
  where
    of : (b : Bool) → MatchBool b (IsStatusFor array status) (IsStillStatus array status) → (status.length ≡ sectors_of array) × (status.visible ≡ visible_in array)
    of true shown = (shown.length, shown.visible)
    of false shown = (shown.length, shown.visible)

-- as much can be read and written as entries tell that tell this length and limit
visible-told : (size long : ℕ) (limit : Option ℕ) (entries : List Entry) → length_of size entries ≡ long → limit_of entries ≡ limit → visible_of size entries ≡ option_map_or (λ most. min most long) limit long
visible-told size long limit entries sized limited i = option_map_or (λ most. min most (sized i)) (limited i) (sized i)

-- what is told of a call is one call of the history, which ends with that event, over a list that had so many sectors at a start
pub performed-called : {B : Type 0} (size : ℕ) (request : Request) (who : Who) (old : RunningParts B) (new : List Entry) (event : Event) → who.number ≡ next_number who.caller old.parts.entries
    → length_of size old.parts.entries ≡ sectors_of old → TellsSizes old → IsPerformed request who old new event → (c : IsCalled size who request old.parts.entries new) × (c.reply.event ≡ event)
performed-called size AsksShow who old new event number sized told shown =
    let shows = shown-sizes old shown.status shown.told in (
      record {
        inner = [];
        reply = record { caller = who.caller; number = who.number; end = shown.end; event = event };
        number = number;
        own = All-nil (IsOfCall who);
        last = (refl, refl);
        is = shown.is;
        answers = subst (λ (l : List Entry). IsShownAs (length_of size l) (visible_of size l) event) (sym (append-nil old.parts.entries))
            (subst (λ (e : Event). IsShownAs (length_of size old.parts.entries) (visible_of size old.parts.entries) e) (sym shown.event_is)
            (shows.0 ∙ sym sized, shows.1 ∙ sym (visible-told size (sectors_of old) old.limit old.parts.entries sized told.limited)));
      },
      refl,
    )
performed-called size request who old new event number sized told performed = (
  record {
    inner = performed.inner;
    reply = record { caller = who.caller; number = who.number; end = performed.end; event = event };
    number = number;
    own = performed.own;
    last = (refl, refl);
    is = performed.is;
    answers = fits-since (sectors_of old) size old.parts.entries performed.inner (record { caller = who.caller; number = who.number; end = performed.end; event = event }) request
        (told.sized ∙ sym sized) performed.fits;
  },
  refl,
)

module _ {B : Type 0} {tells : Type 0} {given : B → Given} {tape : B → List Operation} {faults : B → ℕ → ℕ} where
  served-called : (size : ℕ) (old new : RunningParts B) (caller : ℕ) (request : Request) (reply : Reply) → length_of size old.parts.entries ≡ sectors_of old
      → IsServed tells given tape faults old new caller request reply → IsCalled size (next_call caller old.parts.entries) request old.parts.entries new.parts.entries
  served-called size old new caller request (Done at event) sized served =
      (performed-called size request (next_call caller old.parts.entries) old new.parts.entries event refl sized served.sizes served.replied.0).0
  served-called size old new caller request Short sized served = absurd (no served.done)
    where
      no : false ≡ true → ⊥
      no e = cc

  -- by the list as it was found
  found-called : (old new : RunningParts B) (caller : ℕ) (request : Request) (reply : Reply) → IsServed tells given tape faults old new caller request reply
      → IsCalled (sectors_of old) (next_call caller old.parts.entries) request old.parts.entries new.parts.entries
  found-called old new caller request reply served = served-called (sectors_of old) old new caller request reply served.sizes.sized served

  longer : (old new : RunningParts B) (caller : ℕ) (request : Request) (reply : Reply) → IsServed tells given tape faults old new caller request reply
      → length old.parts.entries < length new.parts.entries
  longer old new caller request reply served =
      let c = found-called old new caller request reply served in
      let is = ap (λ (l : List Entry). length l) c.is in
      let sum = length-append old.parts.entries (c.inner ++ c.reply ∷ []) in
      let more = length-append c.inner (c.reply ∷ []) in
      omega (arith, is, sum, more)

  -- ---- the same bank

  begins-with : (old new : RunningParts B) (caller : ℕ) (request : Request) (reply : Reply) → IsServed tells given tape faults old new caller request reply
      → BeginsWith tells (seen_of given tape old) (seen_of given tape new)
  begins-with old new caller request reply served =
      let went = served.went in
      let c = found-called old new caller request reply served in
      record {
        scope = λ i. record { uuid = went.same.uuid i; given = went.same.given i; backup = went.same.backup i; sizes = sizes (went.given_is i) };
        first = went.same.first;
        start = λ t. ap (λ (g : Given). g.start) went.given_is;
        tape = went.grows.more;
        entries = (c.inner ++ c.reply ∷ [], c.is);
      }

  pub earlier : (old new : RunningParts B) (caller : ℕ) (request : Request) (reply : Reply) → IsServed tells given tape faults old new caller request reply
      → IsEarlier tells given tape old new
  earlier old new caller request reply served = record {
    before = calls-later (sectors_of old) (seen_of given tape old) (seen_of given tape new) (next_call caller old.parts.entries) request
        (found-called old new caller request reply served)
        (begins-with old new caller request reply served) served.ended;
    given_is = served.went.given_is;
    full = λ full. absurd (omega (arith, full, served.fits));
  }

  -- ---- own calls

  -- by the list as it was at the start, the history tells how long it is now
  pub sized-since : (start x : RunningParts B) → HasGoneOn tells given tape faults start x → TellsSizes x → length_of (sectors_of start) x.parts.entries ≡ sectors_of x
  sized-since start x went told =
      ap (λ (l : List Entry). length_of (sectors_of start) l) went.grown ∙ length-since (sectors_of start) (sectors_of x) start.parts.entries went.more went.sized
      ∙ ap (λ (l : List Entry). length_of (sectors_of x) l) (sym went.grown) ∙ told.sized

  -- the entries of a call are its caller's
  callers : (old new : RunningParts B) (caller : ℕ) (request : Request) (reply : Reply) (served : IsServed tells given tape faults old new caller request reply) → All (λ e. e.caller ≡ caller) served.entered.more
  callers old new caller request reply served =
      let c = found-called old new caller request reply served in
      let who = next_call caller old.parts.entries in
      let is : c.inner ++ c.reply ∷ [] ≡ served.entered.more =
      sym (drop-append_seam old.parts.entries (c.inner ++ c.reply ∷ [])) ∙ ap (drop (length old.parts.entries)) (sym c.is ∙ served.entered.grown) ∙ drop-append_seam old.parts.entries served.entered.more in
      subst (λ (l : List Entry). All (λ e. e.caller ≡ caller) l) is
      (All-weaker (IsOfCall who) (λ e. e.caller ≡ caller) (λ e own. own.0) (c.inner ++ c.reply ∷ [])
      (All-append (IsOfCall who) c.inner (c.reply ∷ []) c.own (All-cons (IsOfCall who) c.reply [] c.last (All-nil (IsOfCall who)))))

  own : (start x y : RunningParts B) (caller : ℕ) (request : Request) (reply : Reply) (mine : List (Call Request))
      → IsServed tells given tape faults x y caller request reply
      → HasMade tells given tape faults start x caller mine → HasMade tells given tape faults start y caller (mine ++ record { request = request; at = size_of y - 1 } ∷ [])
  own start x y caller request reply mine served made = record {
    went = gone-then tells given tape faults start x y made.went served.went;
    entered = entered-then start x y made.entered served.entered;
    silent = λ none. absurd (some mine (record { request = request; at = size_of y - 1 }) none);
    called = λ few.
        let more = longer x y caller request reply served in
        let before : length x.parts.entries ≤ most_entries = omega (arith, more, few) in
        let at : size_of y - 1 ≡ length y.parts.entries - 1 = omega (arith, few) in
        subst (λ (l : List (Request × ℕ)). HasCalled (sectors_of start) start.parts.entries y.parts.entries caller l)
        (sym (map-append (λ (c : Call Request). (c.request, c.at)) mine (record { request = request; at = size_of y - 1 } ∷ [])
        ∙ ap (λ (n : ℕ). requests_of mine ++ (request, n) ∷ []) at))
        (counted (sectors_of start) start.parts.entries made.went.more x.parts.entries y.parts.entries (next_call caller x.parts.entries) request made.went.grown
        (served-called (sectors_of start) x y caller request reply (sized-since start x made.went served.sizes) served) (requests_of mine) (made.called before));
  }
    where
      some : (calls : List (Call Request)) (call : Call Request) → calls ++ call ∷ [] ≡ [] → ⊥
      some [] call none = cc
      some (first ∷ calls) call none = cc

  others : (start x y : RunningParts B) (caller other : ℕ) (request : Request) (reply : Reply) (mine : List (Call Request))
      → IsServed tells given tape faults x y caller request reply
      → other ≢ caller → HasMade tells given tape faults start x other mine → HasMade tells given tape faults start y other mine
  others start x y caller other request reply mine served ne made = record {
    went = gone-then tells given tape faults start x y made.went served.went;
    entered = entered-then start x y made.entered served.entered;
    silent = λ none. subst (λ (l : List Entry). All (λ e. e.caller ≢ other) l) (sym (then-more start x y made.entered served.entered))
        (All-append (λ e. e.caller ≢ other) made.entered.more served.entered.more (made.silent none)
        (All-weaker (λ e. e.caller ≡ caller) (λ e. e.caller ≢ other) (λ e is same. ne (sym same ∙ is)) served.entered.more (callers x y caller request reply served)));
    called = λ few.
        let more = longer x y caller request reply served in
        let before : length x.parts.entries ≤ most_entries = omega (arith, more, few) in
        unmoved (sectors_of start) start.parts.entries made.went.more x.parts.entries y.parts.entries (next_call caller x.parts.entries) request made.went.grown
        (served-called (sectors_of start) x y caller request reply (sized-since start x made.went served.sizes) served) other (requests_of mine) ne (made.called before);
  }

pub array_lawful : {B : Type 0} (tells : Type 0) (given : B → Given) (tape : B → List Operation) (faults : B → ℕ → ℕ) → IsLawful (array_ways tells given tape faults)
array_lawful tells given tape faults = record {
  same = λ x sound. record { before = seen-self (seen_of given tape x); given_is = refl; full = λ full. refl };
  further = λ x y z p q. earlier-on x y z p q;
  either = λ x y now sx sy sn p q le. earlier-of x y now sx sy p q le;
  grows = λ x y caller request reply sound served. (
    served.ended,
    earlier x y caller request reply served,
    (let more = longer x y caller request reply served in let fits = served.fits in omega (arith, more, fits)),
  );
  none = λ x caller sound. record {
    went = gone-none tells given tape faults x;
    entered = entered-none x;
    silent = λ none. subst (λ (l : List Entry). All (λ e. e.caller ≢ caller) l) (sym (none-more x)) (All-nil (λ e. e.caller ≢ caller));
    called = λ few. none-has_called (sectors_of x) x.parts.entries caller;
  };
  own = λ start x y caller request reply mine sound begins served made. own start x y caller request reply mine served made;
  others = λ start x y caller other request reply mine sound begins served ne made. others start x y caller other request reply mine served ne made;
}
