-- Calls of the script, which go on with none of the former ones.
use Rattle.std.proofs.Common.{◌≡◌, ◌≢◌, inl, ℕ, ◌+◌, ◌*◌, min, ◌<◌, ◌≤◌, Bool, Option, List, [], ◌∷◌, ◌++◌, fold, refl, sym, ◌∙◌, ap, subst, arith, append_assoc, append-nil, ne_eqb}
use Rattle.std.proofs.lemmas.List.Sums.{fold-append}
use Rattle.std.proofs.lemmas.List.Elements.{All-nil, All-cons, All-append, All-head, All-tail, All-weaker}
use Rattle.std.specs.Prelude.{if◌then◌else◌}
use Rattle.std.specs.List.{All}
use Rattle.std.specs.Option.{option_map_or}
use Rattle.run_specs.specs.history_the_Entry.{Entry}
use Rattle.run_specs.specs.history_Flat.{rest_of_call, next_number, number_after, length_of, limit_of, visible_of}
use Rattle.run_specs.specs.history_OneShape.{IsOfCall}
use Rattle.run_specs.specs.raid_types_Shapes.{data_disks}
use Rattle.run_specs.specs.bank_the_Operation.{Operation}
use Rattle.run_specs.specs.bank_Given.{Given}
use Rattle.run_specs.specs.sb_specs_Reading.{list_length}
use Rattle.run_specs.specs.history_World.{World}
use Rattle.run_specs.specs.array_specs_Parts.{RunningParts, visible_in}
use Rattle.run_specs.specs.array_specs_Calls.{IsCalled, IsSameReshape}
use Rattle.run_specs.specs.array_specs_Adding.{IsAddCalled}
use Rattle.run_specs.specs.array_reply_specs_Going.{IsSameEpoch, HasRunOn}
use Rattle.run_specs.specs.array_reply_specs_Replies.{IsAnsweredWith, IsRepliedWith, HasToldBy}
use Rattle.run_specs.specs.raid_types_the_NoMemory.{NoMemory}
use Rattle.run_specs.specs.raid_types_the_Fault.{Fault}
use Rattle.run_specs.specs.raid_types_the_Fault_TheVariants.{Refused as IsRefusedWith, NoMemory as WantsMemory}
use Rattle.run_specs.specs.raid_types_the_Who.{Who}
use Rattle.run_specs.specs.history_the_Event.{Event}
use Rattle.run_specs.specs.history_the_Event_TheVariants.{Refused}
use Rattle.run_specs.specs.history_the_Request.{Request}
use Rattle.std.specs.Prelude.{Result, Ok, Err, IfErr}
use Rattle.run_specs.specs.array_call_specs_Calls.{AreLossesBy}
use Rattle.run_specs.specs.Asked.{IsSizedBy}
use Rattle.run_specs.specs.States.{running_history}
use Rattle.run_specs.proofs.Losses.{IsSameOpening, IsHistoryLater, AreHeldOn, on-steps}
use Rattle.run_specs.specs.script_the_Line.{Line}
use Rattle.run_specs.specs.script_the_Lane.{Lane}
use Rattle.run_specs.specs.script_the_Lane_TheVariants.{Script as InScript, A as InA, B as InB, Worker as InWorker}
use Rattle.run_specs.specs.Blocks.{caller_of}
use Rattle.run_specs.specs.Replies.{with_script, calls_behind}
use Rattle.run_specs.specs.Asked.{script_who, IsAskedAt}
use Rattle.run_specs.specs.Histories.{History}
use Rattle.run_specs.specs.array_requests_Entered.{IsOfNewCall}
use Rattle.run_specs.specs.States.{IsGrown, IsCaller, AreByScript, IsByScript}
use Rattle.run_requests.proofs.Apart.{apart-all, own-all}
use Rattle.run_specs.proofs.AskLaws.{one, with_reply}

-- the entry is of a call of the script, of one of these numbers
abbrev pub IsCalledBetween : ℕ → ℕ → Entry → Type 0
IsCalledBetween low high e = (e.caller ≡ 0) × (low ≤ e.number) × (e.number < high)

-- More entries stand behind the old ones, of the script's next calls.
pub record HasCalled (old new : List Entry) : Type 0 where
  pub more : List Entry
  pub grown : new ≡ old ++ more
  pub calls : All (λ e. IsCalledBetween (next_number 0 old) (next_number 0 new) e) more
  pub rises : next_number 0 old ≤ next_number 0 new

pub called_none : {old new : List Entry} → new ≡ old → HasCalled old new
called_none {old = old} {new = new} same = record {
  more = [];
  grown = same ∙ sym (append-nil old);
  calls = All-nil (λ e. IsCalledBetween (next_number 0 old) (next_number 0 new) e);
  rises = omega (arith, ap (λ (l : List Entry). next_number 0 l) same);
}

pub called_then : {old mid new : List Entry} → HasCalled old mid → HasCalled mid new → HasCalled old new
called_then {old = old} {mid = mid} {new = new} one two = record {
  more = one.more ++ two.more;
  grown = two.grown ∙ ap (λ (l : List Entry). l ++ two.more) one.grown ∙ append_assoc old one.more two.more;
  calls = All-append (λ e. IsCalledBetween (next_number 0 old) (next_number 0 new) e) one.more two.more
      (All-weaker (λ e. IsCalledBetween (next_number 0 old) (next_number 0 mid) e) (λ e. IsCalledBetween (next_number 0 old) (next_number 0 new) e) (λ e is. (is.0, is.1, omega (arith, is.2, two.rises))) one.more one.calls)
      (All-weaker (λ e. IsCalledBetween (next_number 0 mid) (next_number 0 new) e) (λ e. IsCalledBetween (next_number 0 old) (next_number 0 new) e) (λ e is. (is.0, omega (arith, is.1, one.rises), is.2)) two.more two.calls);
  rises = omega (arith, one.rises, two.rises);
}

-- ---- one call

pub number_more : {size : ℕ} {line : Line} {old new : List Entry} {place : ℕ} (asked : IsAskedAt size line old new place) → next_number 0 new ≡ next_number 0 old + 1
number_more {old = old} asked = ap (λ (l : List Entry). next_number 0 l) (with_reply asked) ∙ fold-append (number_after 0) 0 (old ++ asked.inner) (one (script_who old) asked.end asked.event ∷ [])

pub called_once : {size : ℕ} {line : Line} {old new : List Entry} {place : ℕ} → IsAskedAt size line old new place → HasCalled old new
called_once {old = old} {new = new} asked =
    let P : Entry → Type 0 = λ e. IsCalledBetween (next_number 0 old) (next_number 0 new) e in
    let e = one (script_who old) asked.end asked.event in
    let more = number_more asked in
    record {
      more = asked.inner ++ e ∷ [];
      grown = asked.is;
      calls = All-append P asked.inner (e ∷ [])
          (All-weaker (λ e. IsOfCall (script_who old) e) P (λ e own. (own.0, omega (arith, own.1), omega (arith, own.1, more))) asked.inner asked.own)
          (All-cons P e [] (refl, omega arith, omega (arith, more)) (All-nil P));
      rises = omega (arith, more);
    }

-- nobody else has called
none-other : (c n : ℕ) (more : List Entry) → 0 ≢ c → All (λ e. e.caller ≡ 0) more → fold (number_after c) n more ≡ n
none-other c n [] ne all = refl
none-other c n (e ∷ more) ne all =
    ap (λ (b : Bool). fold (number_after c) (if b then e.number + 1 else n) more) (ne_eqb e.caller c (λ is. ne (sym (All-head (λ x. x.caller ≡ 0) e more all) ∙ is)))
    ∙ none-other c n more ne (All-tail (λ x. x.caller ≡ 0) e more all)

others_still : {old new : List Entry} (c : ℕ) → 0 ≢ c → HasCalled old new → next_number c new ≡ next_number c old
others_still {old = old} {new = new} c ne called =
    ap (λ (l : List Entry). next_number c l) called.grown ∙ fold-append (number_after c) 0 old called.more
    ∙ none-other c (next_number c old) called.more ne
    (All-weaker (λ e. IsCalledBetween (next_number 0 old) (next_number 0 new) e) (λ e. e.caller ≡ 0) (λ e is. is.0) called.more called.calls)

-- the next numbers of all callers
abbrev pub calls_in : List Entry → Lane → ℕ
calls_in entries lane = next_number (caller_of lane) entries

-- behind calls of the script, the last of which is this
pub calls_more : {size : ℕ} {line : Line} {old mid new : List Entry} {place : ℕ} (asked : IsAskedAt size line mid new place) → HasCalled old new
    → calls_in new ≡ calls_behind (calls_in old) (one (script_who mid) asked.end asked.event)
calls_more {old = old} {mid = mid} {new = new} asked called = λ i lane. by lane i
  where
    by : (lane : Lane) → next_number (caller_of lane) new ≡ number_after (caller_of lane) (next_number (caller_of lane) old) (one (script_who mid) asked.end asked.event)
    by InScript = number_more asked
    by InA = others_still 1 (λ is. absurd (omega (arith, is))) called
    by InB = others_still 2 (λ is. absurd (omega (arith, is))) called
    by InWorker = others_still 255 (λ is. absurd (omega (arith, is))) called

-- behind some calls of it
pub calls_cut : {old new : List Entry} → HasCalled old new → calls_in new ≡ with_script (next_number 0 new) (calls_in old)
calls_cut {old = old} {new = new} called = λ i lane. by lane i
  where
    by : (lane : Lane) → next_number (caller_of lane) new ≡ with_script (next_number 0 new) (calls_in old) lane
    by InScript = refl
    by InA = others_still 1 (λ is. absurd (omega (arith, is))) called
    by InB = others_still 2 (λ is. absurd (omega (arith, is))) called
    by InWorker = others_still 255 (λ is. absurd (omega (arith, is))) called

-- ---- the history stays the script's, and its calls apart

pub called_new : {old new : List Entry} (called : HasCalled old new) → All (IsOfNewCall old new) called.more
called_new {old = old} {new = new} called =
    All-weaker (λ e. IsCalledBetween (next_number 0 old) (next_number 0 new) e) (IsOfNewCall old new)
    (λ e is.
    let low = ap (λ (c : ℕ). next_number c old) is.0 in
    let high = ap (λ (c : ℕ). next_number c new) is.0 in
    (omega (arith, is.1, low), omega (arith, is.2, high)))
    called.more called.calls

called_callers : {old new : List Entry} (called : HasCalled old new) → All (λ e. IsCaller e.caller) called.more
called_callers {old = old} {new = new} called =
    All-weaker (λ e. IsCalledBetween (next_number 0 old) (next_number 0 new) e) (λ e. IsCaller e.caller) (λ e is. inl is.0) called.more called.calls

pub called_apart : {old new : List Entry} (called : HasCalled old new) → AreByScript old old → All (λ e. rest_of_call e called.more ≡ []) old
called_apart {old = old} {new = new} called was = apart-all old new called.more called.grown (called_new called) (called_callers called) was

pub called_own : {old new : List Entry} → HasCalled old new → AreByScript old old → AreByScript new new
called_own {old = old} {new = new} called was = own-all old new called.more called.grown (called_new called) (called_callers called) was

pub called_grown : (old new : History) → HasCalled old.entries new.entries → new.uuid ≡ old.uuid → new.given ≡ old.given → new.first ≡ old.first → IsByScript old → IsGrown old new
called_grown old new called uuid given first was = record { uuid = uuid; given = given; first = first; more = called.more; grown = called.grown; later = called_apart called was }

-- ---- the length of the list

-- the same array in the same reshape has a list of the same length
pub reshape-length : {B tells : Type 0} {before after : World} {old new : RunningParts B} → IsSameReshape tells old new before after → list_length new.parts.members.newest ≡ list_length old.parts.members.newest
reshape-length same = λ i. min (data_disks (same.array.shape i)) (data_disks (same.final i)) * same.array.size i

pub called-length : {B tells : Type 0} {given : Given} {tape tape' : List Operation} {before after : ℕ → ℕ} {old new : RunningParts B} → IsCalled tells given tape tape' before after old new
    → list_length new.parts.members.newest ≡ list_length old.parts.members.newest
called-length called = reshape-length called.same

pub added-length : {B tells : Type 0} {given : Given} {tape tape' : List Operation} {before after : ℕ → ℕ} {slot : ℕ} {old new : RunningParts B} → IsAddCalled tells given tape tape' before after slot old new
    → list_length new.parts.members.newest ≡ list_length old.parts.members.newest
added-length called = reshape-length called.same

-- and it is of the same epoch
pub same-epoch : {B tells : Type 0} {before after : World} {old new : RunningParts B} → IsSameReshape tells old new before after → IsSameEpoch old new
same-epoch same = record { uuid = same.array.uuid; given = same.array.given; first = same.array.first; backup = same.array.backup }

pub epoch-opening : {B : Type 0} {old new : RunningParts B} → IsSameEpoch old new → IsSameOpening (running_history old.parts) (running_history new.parts)
epoch-opening same = record { uuid = same.uuid; given = same.given; first = same.first }

pub epoch-later : {B : Type 0} {Had : ℕ → ℕ → Type 0} {Was : ℕ → Type 0} {f g : ℕ → ℕ} {old new : RunningParts B} → IsSameEpoch old new → AreLossesBy Had Was f g old.parts.entries new.parts.entries
    → IsHistoryLater (running_history old.parts) (running_history new.parts)
epoch-later same lost = record { same = epoch-opening same; more = lost.more; grown = lost.grown }

-- ---- steps

pub ran-later : {B tells : Type 0} {given : B → Given} {tape : B → List Operation} {faults : B → ℕ → ℕ} {old new : RunningParts B} → HasRunOn tells given tape faults old new → IsHistoryLater (running_history old.parts) (running_history new.parts)
ran-later went = record { same = epoch-opening went.same; more = went.more; grown = went.grown }

pub ran-sized : {B tells : Type 0} {given : B → Given} {tape : B → List Operation} {faults : B → ℕ → ℕ} {old new : RunningParts B} → HasRunOn tells given tape faults old new
    → IsSizedBy (list_length old.parts.members.newest) (list_length new.parts.members.newest) old.parts.entries new.parts.entries
ran-sized went = record { more = went.more; grown = went.grown; sized = went.sized }

pub ran-on : {B tells : Type 0} {given : B → Given} {tape : B → List Operation} {faults : B → ℕ → ℕ} {old new : RunningParts B} → HasRunOn tells given tape faults old new → AreHeldOn old.parts.members new.parts.members new.parts.entries
ran-on {old = old} {new = new} went =
    subst (λ (l : List Entry). AreHeldOn old.parts.members new.parts.members l) (sym went.grown) (on-steps old.parts.entries went.more went.held)

-- what is unchanged where memory was short
pub parts-unchanged : {B : Type 0} (old new : RunningParts B) (r : Result ℕ NoMemory) → IfErr r (λ none. new ≡ old) → IfErr r (λ none. new.parts ≡ old.parts)
parts-unchanged old new (Ok place) same = tt
parts-unchanged {B = B} old new (Err none) same = ap (λ (a : RunningParts B). a.parts) same

-- what is told by a backup that is the run's
pub told-backup : {backup other : Option ℕ} {before now : ℕ → ℕ} {old new : List Entry} → backup ≡ other → HasToldBy backup before now old new → HasToldBy other before now old new
told-backup {before = before} {now = now} {old = old} {new = new} same told = subst (λ (b : Option ℕ). HasToldBy b before now old new) same told

-- the script's next call has the next number
pub script-numbered : (entries : List Entry) (who : Who) → who ≡ script_who entries → who.number ≡ next_number who.caller entries
script-numbered entries who is = ap (λ (w : Who). w.number) is ∙ ap (λ (w : Who). next_number w.caller entries) (sym is)

-- what can be read and written by the entries is what the array says
pub all-seen : {B : Type 0} (array : RunningParts B) → length_of (list_length array.parts.members.newest) array.parts.entries ≡ list_length array.parts.members.newest → limit_of array.parts.entries ≡ array.limit
    → visible_of (list_length array.parts.members.newest) array.parts.entries ≡ visible_in array
all-seen array sized limited = λ i. option_map_or (λ most. min most (sized i)) (limited i) (sized i)

-- ---- one entry

-- the answer is a reply, unless memory was short
pub replied-some : {T : Type 0} (size : ℕ) (request : Request) (who : Who) (old new : List Entry) (event : Event) (r : Result T Fault) → IsRepliedWith size request who old new event r → r ≢ Err WantsMemory → (e : Event) × IsAnsweredWith size request who old new e
replied-some size request who old new event (Ok x) was some = (event, was)
replied-some size request who old new event (Err (IsRefusedWith refusal)) was some = (Refused refusal, was)
replied-some size request who old new event (Err WantsMemory) was some = absurd (some refl)

pub replied-none : {T : Type 0} (size : ℕ) (request : Request) (who : Who) (old new : List Entry) (event : Event) (r : Result T Fault) → IsRepliedWith size request who old new event r → r ≡ Err WantsMemory → new ≡ old
replied-none {T = T} size request who old new event r was is = subst (λ (x : Result T Fault). IsRepliedWith size request who old new event x) is was
