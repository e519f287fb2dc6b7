-- A line that was answered by an array, and the place of its reply in the history.
use Rattle.std.proofs.Common.{◌≡◌, ◌≢◌, ◌⊎◌, inl, inr, ℕ, zero, suc, ◌+◌, ◌/◌, ◌≤◌, ◌||◌, ◌==◌, Bool, true, false, Option, Some, List, [], ◌∷◌, ◌++◌, length, take, drop, Result, Ok, Err, refl, sym, ◌∙◌, ap, subst, arith, append_assoc, append-nil, length-append}
use Rattle.std.proofs.lemmas.List.{take_at}
use Rattle.std.proofs.lemmas.List.Elements.{All-nil, All-cons, All-weaker}
use Rattle.std.proofs.lemmas.Bool.Decides.{nat_tests}
use Rattle.std.proofs.lemmas.List.Folds.{list_any-append}
use Rattle.std.specs.Prelude.{slice_get, IsTrue, MatchBool, nat_lt}
use Rattle.std.specs.List.{All, list_any}
use Rattle.array_requests.specs.raid_types_the_Who.{Who}
use Rattle.array_requests.specs.raid_types_the_Fault.{Fault}
use Rattle.array_requests.specs.raid_types_the_Fault_TheVariants.{Refused as IsRefusedWith, NoMemory}
use Rattle.array_requests.specs.raid_types_Sectors.{Sector, sectors_of}
use Rattle.array_requests.proofs.raid_types_SectorLaws.{length-sectors_of}
use Rattle.array_requests.proofs.raid_types_Tabulated.{length-tabulate}
use Rattle.script.specs.history_the_Entry.{Entry}
use Rattle.script.specs.history_the_Event.{Event}
use Rattle.script.specs.history_the_Event_TheVariants.{Wrote, Added, Stopped, Halted, Refused}
use Rattle.script.specs.history_Fits.{FitsStop, IsWriteRefused, AreTornOf}
use Rattle.script.specs.history_Transfers.{IsPastEnd}
use Rattle.array_requests.specs.bank_the_Operation.{Operation}
use Rattle.array_requests.specs.raid_types_the_Refusal.{Refusal}
use Rattle.array_requests.specs.raid_types_the_Refusal_TheVariants.{PastEnd, SlotFault, BackupFault}
use Rattle.array_requests.specs.sb_specs_the_Members.{Members}
use Rattle.array_requests.specs.sb_specs_Reads.{has_spare}
use Rattle.array_requests.specs.bank_Given.{Given}
use Rattle.array_requests.specs.array_members_Parts.{Parts}
use Rattle.array_requests.specs.history_append_Losing.{losses_of}
use Rattle.array_requests.proofs.history_append_CallLaws.{losses-are}
use Rattle.array_requests.proofs.array_call_specs_ReplyLaws.{inside-losses, none-inside, none_before}
use Rattle.script.specs.history_the_Request.{Request}
use Rattle.script.specs.history_the_Request_TheVariants.{Write as AsksWrite, Add as AsksAdd}
use Rattle.array_requests.specs.array_reshaping_laws_Writing.{IsRepliedBehind, IsWriteReplied}
use Rattle.script.specs.history_Flat.{rest_of_call, next_number, visible_of}
use Rattle.script.specs.history_Plain.{entries_of}
use Rattle.script.specs.history_OneShape.{IsOfCall, OneShapeFits}
use Rattle.array_requests.specs.array_members_Lacking.{AreTooMany}
use Rattle.script.specs.history_Legal.{MayBeInner}
use Rattle.array_requests.specs.array_reply_specs_Replies.{RunningFits, IsAnsweredWith}
use Rattle.array_requests.proofs.array_reply_specs_Fitting.{inside-inner, fits-write}
use Rattle.array_requests.specs.array_call_specs_Calls.{OnNoMemory, StandsInside, IsReplied, IsAnswered, IsAddedFor, IsCausedBy, IsEntered, IsBehind, IsRefusedFor}
use Rattle.script.specs.declared.lines.Line.TheVariants.{Wait, Stop, Halt}
use Rattle.script.specs.declared.lines.Line.{Line}
use Rattle.script.specs.Seeds.{seeded, seed_sector}
use Rattle.run_specs.specs.Asked.{script_who, IsAskedAt}
use Rattle.run_specs.specs.Making.{is_added}
use Rattle.run_specs.specs.Replies.{FitsLine, IsReplyAt, IsRepliedAt}
use Rattle.array_requests.proofs.history_laws_OneShapeGrowing.{entries-both}

-- the entry of an event of a call
abbrev pub one : Who → ℕ → Event → Entry
one who end event = record { caller = who.caller; number = who.number; end = end; event = event }

-- the entries of a call's events are of that call
own_call : (who : Who) (end : ℕ) (events : List Event) → All (λ e. IsOfCall who e) (entries_of who end events)
own_call who end [] = All-nil (λ e. IsOfCall who e)
own_call who end (event ∷ events) = All-cons (λ e. IsOfCall who e) (one who end event) (entries_of who end events) (refl, refl) (own_call who end events)

-- the last of them stands alone
last_alone : {new : List Entry} (old : List Entry) (who : Who) (end : ℕ) (inner : List Event) (event : Event) → new ≡ old ++ entries_of who end (inner ++ event ∷ []) → new ≡ old ++ (entries_of who end inner ++ one who end event ∷ [])
last_alone old who end inner event is = is ∙ ap (λ (l : List Entry). old ++ l) (entries-both who end inner (event ∷ []))

-- something stands behind the former entries
longer : {new : List Entry} (old inner : List Entry) (e : Entry) → new ≡ old ++ (inner ++ e ∷ []) → 1 ≤ length new
longer old inner e is = let long = ap (λ (l : List Entry). length l) is ∙ length-append old (inner ++ e ∷ []) in let last = length-append inner (e ∷ []) in omega (arith, long, last)

-- the history before the reply, and with it
pub with_reply : {size : ℕ} {line : Line} {old new : List Entry} {place : ℕ} (was : IsAskedAt size line old new place) → new ≡ (old ++ was.inner) ++ one (script_who old) was.end was.event ∷ []
with_reply {old = old} was = was.is ∙ sym (append_assoc old was.inner (one (script_who old) was.end was.event ∷ []))

reply_length : {size : ℕ} {line : Line} {old new : List Entry} {place : ℕ} (was : IsAskedAt size line old new place) → length new ≡ length (old ++ was.inner) + 1
reply_length {old = old} was = ap (λ (l : List Entry). length l) (with_reply was) ∙ length-append (old ++ was.inner) (one (script_who old) was.end was.event ∷ [])

-- a call that was answered made the history longer
pub grew : {size : ℕ} {request : Request} {who : Who} {old new : List Entry} {event : Event} → IsReplied size request who old new event → 1 ≤ length new
grew {who = who} {old = old} {event = event} was = longer old (entries_of who was.end was.inner) (one who was.end event) (last_alone old who was.end was.inner event was.is)

-- what may stand inside a call of an array of one shape may stand inside any
pub inner-inside : (entries : List Entry) → All (λ e. StandsInside e.event) entries → All (λ e. MayBeInner e.event) entries
inner-inside entries inside = All-weaker (λ e. StandsInside e.event) (λ e. MayBeInner e.event) (λ e is. inside-inner e.event is) entries inside

-- a request of a running array that was answered is a line that was
pub asked_with : {size : ℕ} {request : Request} {who : Who} {old new : List Entry} {event : Event} (line : Line) (place : ℕ) → IsAnsweredWith size request who old new event
    → ((before : List Entry) (e : Entry) → RunningFits size before e request → FitsLine size before e line) → who ≡ script_who old → place + 1 ≡ length new → IsAskedAt size line old new place
asked_with {size = size} {request = request} {old = old} {new = new} {event = event} line place was fits script at_end =
    let now = subst (λ (w : Who). IsAnsweredWith size request w old new event) script was in record {
      inner = now.inner;
      event = event;
      end = now.end;
      own = now.own;
      inside = now.inside;
      is = now.is;
      fits = fits (old ++ now.inner) (one (script_who old) now.end event) now.fits;
      at_end = at_end;
    }

-- it made the history longer
pub with-grew : {size : ℕ} {request : Request} {who : Who} {old new : List Entry} {event : Event} → IsAnsweredWith size request who old new event → 1 ≤ length new
with-grew {who = who} {old = old} {event = event} was = longer old was.inner (one who was.end event) was.is

-- ---- a write, which may finish a window first, or is refused for the backup

-- a reply behind such entries is one of a running array
behind_with : {size : ℕ} {at : ℕ} {body : List (List ℕ)} {who : Who} {old new : List Entry} {event : Event} → IsRepliedBehind size (AsksWrite at body) who old new event → IsAnsweredWith size (AsksWrite at body) who old new event
behind_with {size = size} {at = at} {body = body} {who = who} {old = old} {event = event} was = record {
  inner = was.call;
  end = was.end;
  own = All-weaker (λ e. IsOfCall who e × StandsInside e.event) (λ e. IsOfCall who e) (λ e is. is.0) was.call was.own;
  inside = All-weaker (λ e. IsOfCall who e × StandsInside e.event) (λ e. MayBeInner e.event) (λ e is. inside-inner e.event is.1) was.call was.own;
  is = was.is;
  fits = fits-write size (old ++ was.call) (one who was.end event) at body was.fits;
}

-- and so is a refusal for the backup, which stands alone, where the write doesn't go past the end
barred_with : {size : ℕ} {at : ℕ} {body : List (List ℕ)} {who : Who} {old new : List Entry} (end : ℕ) → who.number ≡ next_number who.caller old → at + length body ≤ visible_of size old → new ≡ old ++ one who end (Refused BackupFault) ∷ []
    → IsAnsweredWith size (AsksWrite at body) who old new (Refused BackupFault)
barred_with {size = size} {at = at} {body = body} {who = who} {old = old} end number within is = record {
  inner = [];
  end = end;
  own = All-nil (λ e. IsOfCall who e);
  inside = All-nil (λ e. MayBeInner e.event);
  is = is;
  fits = subst (λ (l : List Entry). RunningFits size l (one who end (Refused BackupFault)) (AsksWrite at body)) (sym (append-nil old)) (record {
    answers = by (nat_lt (visible_of size old) (at + length body)) (grind (arith, nat_tests, within));
    torn = subst (λ (call : List Entry). AreTornOf (AsksWrite at body) call) (sym (none_before old who end (Refused BackupFault) number)) tt;
  });
}
  where
    by : (b : Bool) → b ≡ false → MatchBool b (IsPastEnd BackupFault) (IsWriteRefused BackupFault × (IsPastEnd BackupFault → ⊥))
    by true is = absurd (cc)
    by false is = (tt, λ past. past)

-- its answer is a reply, unless memory was short
pub written_reply : (size at : ℕ) (body : List (List ℕ)) (who : Who) (old new : List Entry) (r : Result (Unit {0}) Fault) → who.number ≡ next_number who.caller old
    → (r ≡ Err (IsRefusedWith BackupFault) → at + length body ≤ visible_of size old) → IsWriteReplied size at body who old new r → r ≢ Err NoMemory → (e : Event) × IsAnsweredWith size (AsksWrite at body) who old new e
written_reply size at body who old new (Ok x) number within was some = (Wrote at body, behind_with was)
written_reply size at body who old new (Err (IsRefusedWith BackupFault)) number within was some = (Refused BackupFault, barred_with (was.0) number (within refl) (was.1))
written_reply size at body who old new (Err (IsRefusedWith refusal)) number within was some = (Refused refusal, behind_with was)
written_reply size at body who old new (Err NoMemory) number within was some = absurd (some refl)

pub written_none : (size at : ℕ) (body : List (List ℕ)) (who : Who) (old new : List Entry) (r : Result (Unit {0}) Fault) → IsWriteReplied size at body who old new r → r ≡ Err NoMemory → new ≡ old
written_none size at body who old new r was is = subst (λ (x : Result (Unit {0}) Fault). IsWriteReplied size at body who old new x) is was

-- what a write that was refused for the backup says of its end
pub barred_within : {T : Type 0} (size to : ℕ) (why : Members → Refusal → Type 0) (members after : Members) (r : Result T Fault) → IsCausedBy size to why members after r → r ≡ Err (IsRefusedWith BackupFault) → to ≤ size
barred_within {T = T} size to why members after r caused is = (subst (λ (x : Result T Fault). IsCausedBy size to why members after x) is caused).0

-- a request that was answered is a line that was
pub asked_at : {size : ℕ} {request : Request} {who : Who} {old new : List Entry} {event : Event} (line : Line) (place : ℕ) → IsReplied size request who old new event
    → ((before : List Entry) (e : Entry) → OneShapeFits size before e request → FitsLine size before e line) → who ≡ script_who old → place + 1 ≡ length new → IsAskedAt size line old new place
asked_at {size = size} {request = request} {old = old} {new = new} {event = event} line place was fits script at_end =
    let now = subst (λ (w : Who). IsReplied size request w old new event) script was in record {
      inner = entries_of (script_who old) now.end now.inner;
      event = event;
      end = now.end;
      own = own_call (script_who old) now.end now.inner;
      inside = inner-inside (entries_of (script_who old) now.end now.inner) now.inside;
      is = last_alone old (script_who old) now.end now.inner event now.is;
      fits = fits (old ++ entries_of (script_who old) now.end now.inner) (one (script_who old) now.end event) now.fits;
      at_end = at_end;
    }

pub get-last : (xs : List Entry) (e : Entry) → slice_get (xs ++ e ∷ []) (length xs) ≡ Some e
get-last [] e = refl
get-last (x ∷ xs) e = get-last xs e

-- the entry of the reply
pub entry_there : {size : ℕ} {line : Line} {old new : List Entry} {place : ℕ} (asked : IsAskedAt size line old new place) → slice_get new place ≡ Some (one (script_who old) asked.end asked.event)
entry_there {old = old} {new = new} {place = place} asked =
    let e = one (script_who old) asked.end asked.event in
    let before : List Entry = old ++ asked.inner in
    let at : place ≡ length before = omega (arith, asked.at_end, reply_length asked) in
    ap (λ (l : List Entry). slice_get l place) (with_reply asked) ∙ ap (λ (n : ℕ). slice_get (before ++ e ∷ []) n) at ∙ get-last before e

pub reply_at : {size : ℕ} {line : Line} {old new : List Entry} {place : ℕ} → IsAskedAt size line old new place → IsReplyAt size new place (next_number 0 old) line
reply_at {size = size} {line = line} {old = old} {new = new} {place = place} asked =
    let e = one (script_who old) asked.end asked.event in
    let before : List Entry = old ++ asked.inner in
    let at : place ≡ length before = omega (arith, asked.at_end, reply_length asked) in
    record {
      entry = e;
      there = entry_there asked;
      caller = refl;
      numbered = refl;
      last = ap (λ (l : List Entry). rest_of_call e l) (drop_past (place + 1) new (omega (arith, asked.at_end)));
      fits = subst (λ (l : List Entry). FitsLine size l e line) (sym (ap (λ (l : List Entry). take place l) (with_reply asked) ∙ take_at before (e ∷ []) place (sym at))) asked.fits;
    }
  where
    drop_past : (n : ℕ) (l : List Entry) → length l ≤ n → drop n l ≡ []
    drop_past n [] le = drop_nothing n
      where
        drop_nothing : (n : ℕ) → ◌≡◌ {A = List Entry} (drop n []) []
        drop_nothing zero = refl
        drop_nothing (suc n) = refl
    drop_past zero (x ∷ l) le = absurd (omega (arith, le))
    drop_past (suc n) (x ∷ l) le = drop_past n l (omega (arith, le))

-- each line but a wait has one call
pub replied_at : {size : ℕ} {old new : List Entry} {place : ℕ} (line : Line) → IsAskedAt size line old new place → IsRepliedAt size new place (next_number 0 old) line
replied_at Wait asked = absurd asked.fits
replied_at line asked = reply_at asked

-- an answer that isn't want of memory is a reply
pub answered_reply : (size : ℕ) (request : Request) (who : Who) (old new : List Entry) (event : Event) (r : Result (Unit {0}) Fault) → IsAnswered size request who old new event r → r ≢ Err NoMemory
    → (e : Event) × IsReplied size request who old new e
answered_reply size request who old new event (Ok x) was some = (event, was)
answered_reply size request who old new event (Err (IsRefusedWith refusal)) was some = (Refused refusal, was)
answered_reply size request who old new event (Err NoMemory) was some = absurd (some refl)

-- want of memory entered nothing
pub answered_none : (size : ℕ) (request : Request) (who : Who) (old new : List Entry) (event : Event) (r : Result (Unit {0}) Fault) → IsAnswered size request who old new event r → r ≡ Err NoMemory
    → new ≡ old
answered_none size request who old new event r was is = subst (λ (x : Result (Unit {0}) Fault). IsAnswered size request who old new event x) is was

-- ---- a slot was made a spare

-- a reply's event stands in the history
told_last : {size : ℕ} {request : Request} {who : Who} {old new : List Entry} {event : Event} → IsReplied size request who old new event → (passes : Event → Bool) → passes event ≡ true → IsTrue (list_any (λ e. passes e.event) new)
told_last {who = who} {old = old} {event = event} was passes here =
    let q : Entry → Bool = λ e. passes e.event in
    let xs = entries_of who was.end was.inner in
    ap (λ (l : List Entry). list_any q l) (last_alone old who was.end was.inner event was.is)
    ∙ list_any-append q old (xs ++ one who was.end event ∷ [])
    ∙ ap (λ (b : Bool). list_any q old || b) (list_any-append q xs (one who was.end event ∷ []) ∙ ap (λ (b : Bool). list_any q xs || (b || false)) here ∙ or_true (list_any q xs))
    ∙ or_true (list_any q old)
  where
    or_true : (b : Bool) → (b || true) ≡ true
    or_true true = refl
    or_true false = refl

-- each spare behind an add was one, or is told added
pub spares_told : (size slot : ℕ) (who : Who) (given : Given) (backup : Option ℕ) (old new : List Entry) (before after : Members) (faults later : ℕ → ℕ) (r : Result (Unit {0}) Fault)
    → IsAnswered size (AsksAdd slot) who old new (Added slot) r → IsAddedFor given backup slot before after faults later r → r ≢ Err NoMemory
    → ((s : ℕ) → has_spare after.spares s ≡ true → (has_spare before.spares s ≡ true) ⊎ (s ≡ slot))
    → (s : ℕ) → has_spare after.spares s ≡ true → (has_spare before.spares s ≡ true) ⊎ IsTrue (list_any (λ e. is_added s e.event) new)
spares_told size slot who given backup old new before after faults later (Ok x) told added some spares s is = by_spare (spares s is)
  where
    same : (n : ℕ) → (n == n) ≡ true
    same n = grind (arith, nat_tests)

    by_spare : (has_spare before.spares s ≡ true) ⊎ (s ≡ slot) → (has_spare before.spares s ≡ true) ⊎ IsTrue (list_any (λ e. is_added s e.event) new)
    by_spare (inl was) = inl was
    by_spare (inr at) = inr (subst (λ (n : ℕ). IsTrue (list_any (λ e. is_added n e.event) new)) (sym at) (told_last told (λ event. is_added slot event) (same slot)))
spares_told size slot who given backup old new before after faults later (Err (IsRefusedWith (SlotFault failed))) told added some spares s is = by_spare (spares s is)
  where
    by_spare : (has_spare before.spares s ≡ true) ⊎ (s ≡ slot) → (has_spare before.spares s ≡ true) ⊎ IsTrue (list_any (λ e. is_added s e.event) new)
    by_spare (inl was) = inl was
    by_spare (inr at) = absurd (let none : has_spare after.spares slot ≡ false = added.3 in let there : has_spare after.spares slot ≡ true = subst (λ (n : ℕ). has_spare after.spares n ≡ true) at is in cc)
spares_told size slot who given backup old new before after faults later (Err (IsRefusedWith refusal)) told added some spares s is = inl (subst (λ (m : Members). has_spare m.spares s ≡ true) added.1 is)
spares_told size slot who given backup old new before after faults later (Err NoMemory) told added some spares s is = absurd (some refl)

-- memory was short for it
pub spares_short : {B : Type 0} (old new : Parts B) → new ≡ old → (s : ℕ) → has_spare new.members.spares s ≡ true → (has_spare old.members.spares s ≡ true) ⊎ IsTrue (list_any (λ e. is_added s e.event) new.entries)
spares_short {B = B} old new same s is = inl (subst (λ (a : Parts B). has_spare a.members.spares s ≡ true) same is)

-- the sectors that a seed gives
pub seeded_count : (bytes : List ℕ) (seed at count : ℕ) → sectors_of bytes ≡ seeded seed at count → length bytes / 512 ≡ count
seeded_count bytes seed at count is = sym (length-sectors_of bytes) ∙ ap (λ (l : List Sector). length l) is ∙ length-tabulate count (λ k. seed_sector seed (at + k))

-- ---- the line ends the array

pub asked_halt : {tells : Type 0} {tape : List Operation} {old new : List Entry} (size place : ℕ) (who : Who) → who ≡ script_who old → IsEntered tells tape who old new (Halted ∷ []) → place + 1 ≡ length new → (asked : IsAskedAt size Halt old new place) × (asked.event ≡ Halted) × (tells → asked.end ≡ length tape)
asked_halt {tells = tells} {tape = tape} {old = old} {new = new} size place who script was at_end =
    let now = subst (λ (w : Who). IsEntered tells tape w old new (Halted ∷ [])) script was in
    (record { inner = []; event = Halted; end = now.end; own = All-nil (λ e. IsOfCall (script_who old) e); inside = inner-inside [] none-inside; is = now.is; fits = tt; at_end = at_end }, refl, now.at_end)

pub asked_stop : {old new : List Entry} (size place : ℕ) (who : Who) → who ≡ script_who old → IsBehind who old new Stopped → place + 1 ≡ length new → (asked : IsAskedAt size Stop old new place) × (asked.event ≡ Stopped)
asked_stop {old = old} {new = new} size place who script was at_end =
    let now = subst (λ (w : Who). IsBehind w old new Stopped) script was in (
      record {
        inner = entries_of (script_who old) now.end (losses_of now.roles now.spares);
        event = Stopped;
        end = now.end;
        own = own_call (script_who old) now.end (losses_of now.roles now.spares);
        inside = inner-inside (entries_of (script_who old) now.end (losses_of now.roles now.spares)) (inside-losses (script_who old) now.end (losses_of now.roles now.spares) (losses-are now.roles now.spares));
        is = last_alone old (script_who old) now.end (losses_of now.roles now.spares) Stopped now.is;
        fits = tt;
        at_end = at_end;
      },
      refl,
    )

-- a stop is refused where too many roles are missing
fits_refused : (visible : ℕ) (old new : Members) (refusal : Refusal) → IsRefusedFor visible 0 AreTooMany old new refusal → FitsStop (Refused refusal)
fits_refused visible old new (PastEnd told) (same, past, kept) = absurd (omega (arith, past))
fits_refused visible old new refusal is = by is.1
  where
    by : AreTooMany new refusal → FitsStop (Refused refusal)
    by (inl many) = subst (λ (r : Refusal). FitsStop (Refused r)) (sym many.told) tt
    by (inr many) = subst (λ (r : Refusal). FitsStop (Refused r)) (sym many.1.told) tt

pub asked_unstopped : {old new : List Entry} (size place visible : ℕ) (before after : Members) (who : Who) (refusal : Refusal) → who ≡ script_who old → IsBehind who old new (Refused refusal) → IsRefusedFor visible 0 AreTooMany before after refusal → place + 1 ≡ length new → (asked : IsAskedAt size Stop old new place) × (asked.event ≡ Refused refusal)
asked_unstopped {old = old} {new = new} size place visible before after who refusal script was why at_end =
    let now = subst (λ (w : Who). IsBehind w old new (Refused refusal)) script was in (
      record {
        inner = entries_of (script_who old) now.end (losses_of now.roles now.spares);
        event = Refused refusal;
        end = now.end;
        own = own_call (script_who old) now.end (losses_of now.roles now.spares);
        inside = inner-inside (entries_of (script_who old) now.end (losses_of now.roles now.spares)) (inside-losses (script_who old) now.end (losses_of now.roles now.spares) (losses-are now.roles now.spares));
        is = last_alone old (script_who old) now.end (losses_of now.roles now.spares) (Refused refusal) now.is;
        fits = fits_refused visible before after refusal why;
        at_end = at_end;
      },
      refl,
    )

-- a call that entered something made the history longer
pub behind_grew : {old new : List Entry} {event : Event} (who : Who) → IsBehind who old new event → 1 ≤ length new
behind_grew {old = old} {event = event} who was =
    longer old (entries_of who was.end (losses_of was.roles was.spares)) (one who was.end event) (last_alone old who was.end (losses_of was.roles was.spares) event was.is)

pub halt_grew : {tells : Type 0} {tape : List Operation} {old new : List Entry} (who : Who) → IsEntered tells tape who old new (Halted ∷ []) → 1 ≤ length new
halt_grew {old = old} who was = longer old [] (one who was.end Halted) was.is

-- what holds where memory was short
pub on_no_memory : {fact T : Type 0} (r : Result T Fault) → OnNoMemory r fact → r ≡ Err NoMemory → fact
on_no_memory {fact = fact} {T = T} r was is = subst (λ (x : Result T Fault). OnNoMemory x fact) is was
