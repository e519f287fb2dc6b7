-- What the entries of a line tell of a reshape: whether one may be active behind them, or ahead; and that its reply tells none of what only a reshape can where there is none.
use Rattle.std.proofs.Common.{◌≡◌, ◌≢◌, ℕ, ◌+◌, ◌||◌, ◌==◌, Bool, true, false, is_some, Option, Some, List, [], ◌∷◌, ◌++◌, length, take, drop, Result, Ok, Err, refl, sym, ◌∙◌, ap, subst, arith, append_assoc, append-nil, length-append, All, MatchBool, MatchOption, IsTrue}
use Rattle.std.proofs.Math.Seq.{drop-append_seam}
use Rattle.std.proofs.lemmas.List.{take_at}
use Rattle.std.proofs.lemmas.Bool.Decides.{nat_tests}
use Rattle.std.proofs.lemmas.List.Folds.{list_any-append}
use Rattle.std.proofs.lemmas.List.Sums.{fold-append}
use Rattle.std.proofs.lemmas.List.Elements.{All-push}
use Rattle.std.specs.Prelude.{slice_get, nat_lt}
use Rattle.std.specs.List.{list_any}
use Rattle.array_requests.specs.raid_types_the_Fault.{Fault}
use Rattle.array_requests.specs.raid_types_the_Fault_TheVariants.{Refused as IsRefusedWith, NoMemory}
use Rattle.array_requests.specs.raid_types_the_Refusal.{Refusal}
use Rattle.array_requests.specs.raid_types_the_Refusal_TheVariants.{BackupFault}
use Rattle.array_requests.specs.raid_types_the_Who.{Who}
use Rattle.array_requests.specs.raid_types_the_Status.{Status}
use Rattle.array_requests.specs.raid_types_the_Phase.{Phase}
use Rattle.array_requests.specs.bank_the_Operation.{Operation}
use Rattle.array_requests.specs.bank_Given.{Given}
use Rattle.array_requests.specs.sb_specs_Reading.{is_reshaping}
use Rattle.script.specs.history_the_Entry.{Entry}
use Rattle.script.specs.history_the_Event.{Event}
use Rattle.script.specs.history_the_Event_TheVariants.{Wrote, Planned, Step, Stepped, Shown, Refused}
use Rattle.script.specs.history_the_StepKind_TheVariants.{Begun}
use Rattle.script.specs.history_the_Request.{Request}
use Rattle.script.specs.history_the_Request_TheVariants.{Read as AsksRead, Write as AsksWrite, Flush as AsksFlush, Fail as AsksFail, Add as AsksAdd, Visible as AsksVisible, Grow as AsksGrow, Steps as AsksSteps, Show as AsksShow}
use Rattle.script.specs.history_Flat.{visible_of}
use Rattle.script.specs.history_Fits.{IsReadRefused, FitsStop, FitsHalt}
use Rattle.script.specs.history_Legal.{call_before}
use Rattle.script.specs.history_Reshaped.{is_planned}
use Rattle.script.specs.history_Transfers.{IsRefusedAt, IsPastEnd}
use Rattle.array_requests.specs.history_invariant_Recorded.{entry_of}
use Rattle.array_requests.specs.reshape_request_Left.{phases_of}
use Rattle.array_requests.specs.array_reshaping_laws_Writing.{IsWriteReplied}
use Rattle.array_requests.specs.array_specs_Parts.{RunningParts}
use Rattle.array_requests.specs.array_reply_specs_Going.{is_begin, HasNoReshape, HasRunOn}
use Rattle.array_requests.specs.array_reply_specs_Replies.{MayTellBy, RunningAnswers, RunningFits, IsAnsweredWith}
use Rattle.array_requests.proofs.array_reply_specs_Fitting.{tell-more}
use Rattle.array_requests.specs.array_Calls.{running_left}
use Rattle.script.specs.declared.lines.Line.{Line}
use Rattle.run_specs.specs.Asked.{script_who, IsAskedAt}
use Rattle.run_specs.specs.Replies.{FitsLine}
use Rattle.run_specs.specs.Showing.{IsShown}
use Rattle.array_requests.specs.Turning.{active_after, may_be_active, may_be_ahead, IsTellable, IsTurningTold}
use Rattle.array_requests.proofs.Turned.{none_left, TellsSome, both-none, active-before, ahead-before, active-unbegun, ahead-unplanned, inside-some}
use Rattle.run_specs.proofs.AskLaws.{one, get-last}
use Rattle.array_requests.proofs.Entered.{is_steps, unstepped}

-- ---- the reply at its place

-- the last entry is there, behind those before it
module _ (old new inner : List Entry) (e : Entry) (place : ℕ) (is : new ≡ old ++ (inner ++ e ∷ [])) (at_end : place + 1 ≡ length new) where
  abbrev before-last : List Entry
  before-last = old ++ inner

  whole : new ≡ before-last ++ e ∷ []
  whole = is ∙ sym (append_assoc old inner (e ∷ []))

  at-last : place ≡ length before-last
  at-last = let long = ap (λ (l : List Entry). length l) whole ∙ length-append before-last (e ∷ []) in omega (arith, at_end, long)

  pub last-there : slice_get new place ≡ Some e
  last-there = ap (λ (l : List Entry). slice_get l place) whole ∙ ap (λ (n : ℕ). slice_get (before-last ++ e ∷ []) n) at-last ∙ get-last before-last e

  pub last-before : take place new ≡ old ++ inner
  last-before = ap (λ (l : List Entry). take place l) whole ∙ take_at before-last (e ∷ []) place (sym at-last)

-- it is one that its history may tell
tellable-last : (old new inner : List Entry) (e : Entry) (place : ℕ) → new ≡ old ++ (inner ++ e ∷ []) → place + 1 ≡ length new
    → MayTellBy (IsTrue (may_be_active (old ++ inner))) (IsTrue (may_be_ahead (old ++ inner))) e.event → IsTellable new place
tellable-last old new inner e place is at_end may =
    subst (λ (o : Option Entry). MatchOption o ⊥ (λ x. MayTellBy (IsTrue (may_be_active (take place new))) (IsTrue (may_be_ahead (take place new))) x.event)) (sym (last-there old new inner e place is at_end))
    (subst (λ (l : List Entry). MayTellBy (IsTrue (may_be_active l)) (IsTrue (may_be_ahead l)) e.event) (sym (last-before old new inner e place is at_end)) may)

pub asked-tellable : {size place : ℕ} {line : Line} {old new : List Entry} (asked : IsAskedAt size line old new place) → ((Active Ahead : Type 0) → MayTellBy Active Ahead asked.event) → IsTellable new place
asked-tellable {place = place} {old = old} {new = new} asked may =
    tellable-last old new asked.inner (one (script_who old) asked.end asked.event) place asked.is asked.at_end (may (IsTrue (may_be_active (old ++ asked.inner))) (IsTrue (may_be_ahead (old ++ asked.inner))))

-- ---- what is told behind a call

-- the same array
pub told-same : {size place : ℕ} {line : Line} {old new : List Entry} {active later : Bool} {ahead behind : List Phase} (asked : IsAskedAt size line old new place) → none_left asked.event ≡ false → later ≡ active → behind ≡ ahead
    → IsTurningTold active ahead old → IsTurningTold later behind new
told-same {old = old} {new = new} asked some same_active same_ahead was =
    let e = one (script_who old) asked.end asked.event in
    let more = asked.inner ++ e ∷ [] in
    let all = All-push TellsSome asked.inner e (inside-some asked.inner asked.inside) some in
    record {
      active_told = λ none. same_active ∙ was.active_told (active-before old more all (sym (ap (λ (l : List Entry). may_be_active l) asked.is) ∙ none));
      ahead_told = λ none. same_ahead ∙ was.ahead_told (ahead-before old more all (sym (ap (λ (l : List Entry). may_be_ahead l) asked.is) ∙ none));
    }

-- nothing was entered
pub told-alike : {old new : List Entry} {active later : Bool} {ahead behind : List Phase} → new ≡ old → later ≡ active → behind ≡ ahead → IsTurningTold active ahead old → IsTurningTold later behind new
told-alike same same_active same_ahead was = record {
  active_told = λ none. same_active ∙ was.active_told (ap (λ (l : List Entry). may_be_active l) (sym same) ∙ none);
  ahead_told = λ none. same_ahead ∙ was.ahead_told (ap (λ (l : List Entry). may_be_ahead l) (sym same) ∙ none);
}

-- it is the array that it was
pub told-still : {B : Type 0} {old new : RunningParts B} → new ≡ old → IsTurningTold (is_reshaping old.parts.members.newest) (phases_of old.ahead) old.parts.entries → IsTurningTold (is_reshaping new.parts.members.newest) (phases_of new.ahead) new.parts.entries
told-still same was = subst (λ a. IsTurningTold (is_reshaping a.parts.members.newest) (phases_of a.ahead) a.parts.entries) (sym same) was

-- as steps leave it, where none of their entries tells that none is left
module _ {B : Type 0} (tells : Type 0) (given : B → Given) (tape : B → List Operation) (faults : B → ℕ → ℕ) (old new : RunningParts B) (went : HasRunOn tells given tape faults old new)
    (was : IsTurningTold (is_reshaping old.parts.members.newest) (phases_of old.ahead) old.parts.entries) where
  more-is : (rest : List Entry) → new.parts.entries ≡ old.parts.entries ++ rest → went.more ≡ rest
  more-is rest is = sym (drop-append_seam old.parts.entries went.more) ∙ ap (drop (length old.parts.entries)) (sym went.grown ∙ is) ∙ drop-append_seam old.parts.entries rest

  told-went : (rest : List Entry) → new.parts.entries ≡ old.parts.entries ++ rest → All TellsSome rest → IsTurningTold (is_reshaping new.parts.members.newest) (phases_of new.ahead) new.parts.entries
  told-went rest is all = record {
    active_told = λ none.
        let now = sym (ap (λ (l : List Entry). may_be_active l) is) ∙ none in
        went.active (was.active_told (active-before old.parts.entries rest all now)) (ap (list_any (λ e. is_begin e.event)) (more-is rest is) ∙ active-unbegun old.parts.entries rest all now);
    ahead_told = λ none.
        let now = sym (ap (λ (l : List Entry). may_be_ahead l) is) ∙ none in
        went.ahead (was.ahead_told (ahead-before old.parts.entries rest all now)) (ap (list_any (λ e. is_planned e.event)) (more-is rest is) ∙ ahead-unplanned old.parts.entries rest all now);
  }

  -- a plan, or why it isn't made
  pub told-grown : {size place : ℕ} {line : Line} (asked : IsAskedAt size line old.parts.entries new.parts.entries place) → none_left asked.event ≡ false
      → IsTurningTold (is_reshaping new.parts.members.newest) (phases_of new.ahead) new.parts.entries
  told-grown asked some =
      let e = one (script_who old.parts.entries) asked.end asked.event in
      told-went (asked.inner ++ e ∷ []) asked.is (All-push TellsSome asked.inner e (inside-some asked.inner asked.inside) some)

  -- the reply to a request for steps, which may tell that none is left
  module _ {size most : ℕ} {who : Who} {event : Event} (replied : IsAnsweredWith size (AsksSteps most) who old.parts.entries new.parts.entries event) where
    pub told-steps : ((done left : ℕ) (ended : Option Refusal) → event ≡ Stepped done left ended → left ≡ running_left new) → (running_left new ≡ 0 → HasNoReshape new)
        → IsTurningTold (is_reshaping new.parts.members.newest) (phases_of new.ahead) new.parts.entries
    told-steps left_is rest = by event refl
      where
        on : none_left event ≡ false → IsTurningTold (is_reshaping new.parts.members.newest) (phases_of new.ahead) new.parts.entries
        on some = told-went (replied.inner ++ one who replied.end event ∷ []) replied.is (All-push TellsSome replied.inner (one who replied.end event) (inside-some replied.inner replied.inside) some)

        zero : (n : ℕ) → (n == 0) ≡ true → n ≡ 0
        zero n is = grind (arith, nat_tests, is)

        over : (left : ℕ) → left ≡ running_left new → (b : Bool) → (left == 0) ≡ b → (none_left event ≡ (left == 0)) → IsTurningTold (is_reshaping new.parts.members.newest) (phases_of new.ahead) new.parts.entries
        over left now true is none = let at = rest (sym now ∙ zero left is) in record { active_told = λ told. at.active; ahead_told = λ told. at.ahead }
        over left now false is none = on (none ∙ is)

        by : (x : Event) → event ≡ x → IsTurningTold (is_reshaping new.parts.members.newest) (phases_of new.ahead) new.parts.entries
        by (Stepped done left ended) is = over left (left_is done left ended is) (left == 0) refl (ap none_left is)
        by x is = on (ap none_left is)

    -- it tells nothing that a reshape alone could
    unturned : (x : Event) → RunningAnswers size (old.parts.entries ++ replied.inner) (call_before (old.parts.entries ++ replied.inner) (one who replied.end event)) (AsksSteps most) x → (is_begin x ≡ false) × (is_planned x ≡ false)
    unturned (Step Begun left) is = absurd is
    unturned (Planned left wish) is = absurd is
    unturned x is = (refl, refl)

    last-none : (p : Event → Bool) → list_any (λ e. p e.event) replied.inner ≡ false → p event ≡ false → list_any (λ e. p e.event) (replied.inner ++ one who replied.end event ∷ []) ≡ false
    last-none p inner last = list_any-append (λ e. p e.event) replied.inner (one who replied.end event ∷ []) ∙ both-none (list_any (λ e. p e.event) replied.inner) (p event || false) inner (both-none (p event) false last refl)

    all : All TellsSome replied.inner
    all = inside-some replied.inner replied.inside

    active-told : is_reshaping new.parts.members.newest ≡ true → IsTrue (may_be_active (old.parts.entries ++ replied.inner))
    active-told is = by (may_be_active (old.parts.entries ++ replied.inner)) refl
      where
        by : (b : Bool) → may_be_active (old.parts.entries ++ replied.inner) ≡ b → IsTrue b
        by true told = refl
        by false none = absurd (let still = went.active (was.active_told (active-before old.parts.entries replied.inner all none))
            (ap (list_any (λ e. is_begin e.event)) (more-is (replied.inner ++ one who replied.end event ∷ []) replied.is)
            ∙ last-none is_begin (active-unbegun old.parts.entries replied.inner all none) (unturned event replied.fits.answers).0) in let clash : true ≡ false = sym is ∙ still in cc)

    ahead-told : phases_of new.ahead ≢ [] → IsTrue (may_be_ahead (old.parts.entries ++ replied.inner))
    ahead-told some = by (may_be_ahead (old.parts.entries ++ replied.inner)) refl
      where
        by : (b : Bool) → may_be_ahead (old.parts.entries ++ replied.inner) ≡ b → IsTrue b
        by true told = refl
        by false none = absurd (some (went.ahead (was.ahead_told (ahead-before old.parts.entries replied.inner all none))
            (ap (list_any (λ e. is_planned e.event)) (more-is (replied.inner ++ one who replied.end event ∷ []) replied.is)
            ∙ last-none is_planned (ahead-unplanned old.parts.entries replied.inner all none) (unturned event replied.fits.answers).1)))

    pub steps-tellable : (place : ℕ) → place + 1 ≡ length new.parts.entries → MayTellBy (is_reshaping new.parts.members.newest ≡ true) (phases_of new.ahead ≢ []) event → IsTellable new.parts.entries place
    steps-tellable place at_end may =
        tellable-last old.parts.entries new.parts.entries replied.inner (one who replied.end event) place replied.is at_end
        (tell-more (is_reshaping new.parts.members.newest ≡ true) (phases_of new.ahead ≢ []) (IsTrue (may_be_active (old.parts.entries ++ replied.inner))) (IsTrue (may_be_ahead (old.parts.entries ++ replied.inner))) active-told ahead-told event may)

-- ---- the replies to the lines that ask no step

abbrev pub is_write : Request → Bool
is_write (AsksWrite at body) = true
is_write request = false

-- none is refused for the backup, but a write
pub unbarred : (visible to : ℕ) → IsRefusedAt visible to IsReadRefused BackupFault → ⊥
unbarred visible to is = by (nat_lt visible to) is
  where
    by : (b : Bool) → MatchBool b (IsPastEnd BackupFault) (IsReadRefused BackupFault × (IsPastEnd BackupFault → ⊥)) → ⊥
    by true is = is
    by false is = is.0

told-by : (size : ℕ) (before call : List Entry) (request : Request) (event : Event) → is_steps request ≡ false → is_write request ≡ false → RunningAnswers size before call request event → (Active Ahead : Type 0) → MayTellBy Active Ahead event
told-by size before call (AsksSteps most) event unasked other is Active Ahead = absurd (cc)
told-by size before call (AsksWrite at body) event unasked other is Active Ahead = absurd (cc)
told-by size before call (AsksRead at count) (Refused BackupFault) unasked other is Active Ahead = absurd (unbarred (visible_of size before) (at + count) is)
told-by size before call AsksFlush (Refused BackupFault) unasked other is Active Ahead = absurd is
told-by size before call (AsksFail role) (Refused BackupFault) unasked other is Active Ahead = absurd is
told-by size before call (AsksAdd slot) (Refused BackupFault) unasked other is Active Ahead = absurd is
told-by size before call (AsksVisible limit) (Refused BackupFault) unasked other is Active Ahead = absurd is
told-by size before call (AsksGrow wish) (Refused BackupFault) unasked other is Active Ahead = absurd is
told-by size before call AsksShow (Refused BackupFault) unasked other is Active Ahead = absurd is
told-by size before call (AsksRead at count) (Stepped done left ended) unasked other is Active Ahead = absurd is
told-by size before call AsksFlush (Stepped done left ended) unasked other is Active Ahead = absurd is
told-by size before call (AsksFail role) (Stepped done left ended) unasked other is Active Ahead = absurd is
told-by size before call (AsksAdd slot) (Stepped done left ended) unasked other is Active Ahead = absurd is
told-by size before call (AsksVisible limit) (Stepped done left ended) unasked other is Active Ahead = absurd is
told-by size before call (AsksGrow wish) (Stepped done left ended) unasked other is Active Ahead = absurd is
told-by size before call AsksShow (Stepped done left ended) unasked other is Active Ahead = absurd is
told-by size before call request event unasked other is Active Ahead = tt

-- by the lines
pub asked-unstepped : {size place : ℕ} {old new : List Entry} (request : Request) (line : Line) (asked : IsAskedAt size line old new place) → is_steps request ≡ false
    → (FitsLine size (old ++ asked.inner) (one (script_who old) asked.end asked.event) line → RunningFits size (old ++ asked.inner) (one (script_who old) asked.end asked.event) request) → none_left asked.event ≡ false
asked-unstepped {size = size} {old = old} request line asked unasked fitting =
    unstepped size (old ++ asked.inner) (call_before (old ++ asked.inner) (one (script_who old) asked.end asked.event)) request asked.event unasked (fitting asked.fits).answers

pub asked-told : {size place : ℕ} {old new : List Entry} (request : Request) (line : Line) (asked : IsAskedAt size line old new place) → is_steps request ≡ false → is_write request ≡ false
    → (FitsLine size (old ++ asked.inner) (one (script_who old) asked.end asked.event) line → RunningFits size (old ++ asked.inner) (one (script_who old) asked.end asked.event) request) → IsTellable new place
asked-told {size = size} {old = old} request line asked unasked other fitting =
    asked-tellable asked (told-by size (old ++ asked.inner) (call_before (old ++ asked.inner) (one (script_who old) asked.end asked.event)) request asked.event unasked other (fitting asked.fits).answers)

-- a status, and an end
pub shown-unstepped : (size : ℕ) (before : List Entry) (event : Event) → IsShown size before event → none_left event ≡ false
shown-unstepped size before (Stepped done left ended) is = absurd is
shown-unstepped size before event is = refl

pub shown-told : (size : ℕ) (before : List Entry) (event : Event) → IsShown size before event → (Active Ahead : Type 0) → MayTellBy Active Ahead event
shown-told size before (Refused BackupFault) is Active Ahead = absurd is
shown-told size before (Stepped done left ended) is Active Ahead = absurd is
shown-told size before event is Active Ahead = tt

pub stop-unstepped : (event : Event) → FitsStop event → none_left event ≡ false
stop-unstepped (Stepped done left ended) is = absurd is
stop-unstepped event is = refl

pub stop-told : (event : Event) → FitsStop event → (Active Ahead : Type 0) → MayTellBy Active Ahead event
stop-told (Refused BackupFault) is Active Ahead = absurd is
stop-told (Stepped done left ended) is Active Ahead = absurd is
stop-told event is Active Ahead = tt

pub halt-told : (event : Event) → FitsHalt event → (Active Ahead : Type 0) → MayTellBy Active Ahead event
halt-told (Refused BackupFault) is Active Ahead = absurd is
halt-told (Stepped done left ended) is Active Ahead = absurd is
halt-told event is Active Ahead = tt

-- ---- a write, which is refused for the backup only in a reshape

pub write-tellable : (size at : ℕ) (body : List (List ℕ)) (who : Who) (old new : List Entry) (r : Result (Unit {0}) Fault) (place : ℕ) → IsWriteReplied size at body who old new r → r ≢ Err NoMemory
    → (r ≡ Err (IsRefusedWith BackupFault) → IsTrue (may_be_active old)) → place + 1 ≡ length new → IsTellable new place
write-tellable size at body who old new (Ok x) place was some active at_end = tellable-last old new was.call (entry_of who was.end (Wrote at body)) place was.is at_end tt
write-tellable size at body who old new (Err (IsRefusedWith BackupFault)) place was some active at_end =
    tellable-last old new [] (entry_of who (was.0) (Refused BackupFault)) place was.1 at_end (subst (λ (l : List Entry). IsTrue (may_be_active l)) (sym (append-nil old)) (active refl))
write-tellable size at body who old new (Err (IsRefusedWith refusal)) place was some active at_end = tellable-last old new was.call (entry_of who was.end (Refused refusal)) place was.is at_end tt
write-tellable size at body who old new (Err NoMemory) place was some active at_end = absurd (some refl)

-- by what its history tells
pub told-active : (active : Bool) (ahead : List Phase) (entries : List Entry) → IsTurningTold active ahead entries → active ≡ true → IsTrue (may_be_active entries)
told-active active ahead entries was is = by (may_be_active entries) refl
  where
    by : (b : Bool) → may_be_active entries ≡ b → IsTrue b
    by true told = refl
    by false none = absurd (let still = was.active_told none in let clash : true ≡ false = sym is ∙ still in cc)

-- ---- an array that was opened

-- what an opening told of losses, and its status
pub found-told : (active : Bool) (ahead : List Phase) (losses : List Entry) (e : Entry) (status : Status) → e.event ≡ Shown status → (is_some status.target ≡ false → active ≡ false) → ahead ≡ []
    → IsTurningTold active ahead (losses ++ e ∷ [])
found-told active ahead losses e status is target none = record {
  active_told = λ told. target (second (may_be_active losses) (is_some status.target)
      (sym (ap (λ (x : Event). active_after (may_be_active losses) x) is) ∙ sym (fold-append (λ active e. active_after active e.event) false losses (e ∷ [])) ∙ told));
  ahead_told = λ told. none;
}
  where
    second : (a b : Bool) → (a || b) ≡ false → b ≡ false
    second false b is = is
    second true b is = absurd (cc)
