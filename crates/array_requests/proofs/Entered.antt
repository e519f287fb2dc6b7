-- What a call enters, by how it was answered.
use Rattle.std.proofs.Common.{◌≡◌, ℕ, ◌+◌, ◌≤◌, ◌==◌, Bool, true, false, List, [], ◌∷◌, ◌++◌, length, drop, refl, sym, ◌∙◌, ap, subst, arith, append_assoc, append-nil, fold, eq-eqb}
use Rattle.std.proofs.Math.Seq.{drop-append_seam}
use Rattle.std.proofs.lemmas.Bool.Decides.{nat_tests}
use Rattle.std.proofs.lemmas.List.Elements.{All-nil, All-cons, All-append, All-push, All-weaker, All-head, All-tail}
use Rattle.std.proofs.lemmas.List.Sums.{fold-append}
use Rattle.std.specs.Prelude.{if◌then◌else◌}
use Rattle.std.specs.List.{All, list_any}
use Rattle.array_call_specs.specs.raid_types_the_Who.{Who}
use Rattle.bank.specs.declared.bank.Operation.{Operation}
use Rattle.bank.specs.Given.{Given}
use Rattle.array_open.specs.sb_specs_Reading.{list_length}
use Rattle.history_append.specs.history_the_Entry.{Entry}
use Rattle.history_append.specs.history_the_Event.{Event}
use Rattle.history_append.specs.history_the_Event_TheVariants.{Stepped, Stopped, Halted}
use Rattle.history_append.specs.history_the_Request.{Request}
use Rattle.history_append.specs.history_the_Request_TheVariants.{Read as AsksRead, Write as AsksWrite, Flush as AsksFlush, Fail as AsksFail, Add as AsksAdd, Visible as AsksVisible, Grow as AsksGrow, Steps as AsksSteps, Show as AsksShow}
use Rattle.history_append.specs.history_Flat.{next_number, number_after}
use Rattle.history_append.specs.history_Legal.{MayBeInner, call_before}
use Rattle.history_append.specs.history_OneShape.{IsOfCall}
use Rattle.history_append.specs.history_Reshaped.{is_planned}
use Rattle.history_append.proofs.PlainLaws.{one}
use Rattle.array_open.specs.array_Calls.{running_left}
use Rattle.array_open.specs.array_reply_specs_Going.{is_begin, HasNoReshape}
use Rattle.array_open.specs.array_reply_specs_Replies.{RunningAnswers, IsAnsweredWith}
use Rattle.array_open.specs.array_steps_Steps.{IsStepCount}
use Rattle.array_open.specs.array_specs_Parts.{RunningParts}
use Rattle.array_requests.specs.Entered.{GoesOn, IsOfNewCall, TellsTurning, HasEntered, RestsBehind}
use Rattle.array_requests.specs.Going.{HasGoneOn}
use Rattle.array_requests.specs.Replies.{IsShownBy, IsPerformed, IsCountedBy}
use Rattle.array_requests.specs.Turning.{may_be_active, may_be_ahead}
use Rattle.array_requests.proofs.Turned.{none_left, TellsSome, active-before, ahead-before, active-unbegun, ahead-unplanned, inside-some}

-- ---- one after another

-- a caller's next number only rises by new calls
number-rises : (c low n : ℕ) (entries : List Entry) → low ≤ n → All (λ e. e.caller ≡ c → low ≤ e.number) entries → low ≤ fold (number_after c) n entries
number-rises c low n [] le all = le
number-rises c low n (e ∷ entries) le all =
    number-rises c low (number_after c n e) entries (by (e.caller == c) refl) (All-tail (λ e. e.caller ≡ c → low ≤ e.number) e entries all)
  where
    by : (b : Bool) → (e.caller == c) ≡ b → low ≤ (if b then e.number + 1 else n)
    by true is = let at = All-head (λ e. e.caller ≡ c → low ≤ e.number) e entries all (grind (arith, nat_tests, is)) in omega (arith, at)
    by false is = le

pub never-falls : (c : ℕ) (old more now : List Entry) → now ≡ old ++ more → All (IsOfNewCall old now) more → next_number c old ≤ next_number c now
never-falls c old more now is calls =
    let at = number-rises c (next_number c old) (next_number c old) more (omega arith)
    (All-weaker (IsOfNewCall old now) (λ e. e.caller ≡ c → next_number c old ≤ e.number) (λ e new same. subst (λ (k : ℕ). next_number k old ≤ e.number) same new.0) more calls) in
    let long = ap (λ (l : List Entry). next_number c l) is ∙ fold-append (number_after c) 0 old more in
    omega (arith, at, long)

module _ {B : Type 0} where
  pub entered-none : (array : RunningParts B) → HasEntered array array
  entered-none array = record {
    more = [];
    grown = sym (append-nil array.parts.entries);
    calls = All-nil (IsOfNewCall array.parts.entries array.parts.entries);
    going = All-nil (λ e. GoesOn e.event);
    turning = λ was. was;
  }

  pub none-more : (array : RunningParts B) → (entered-none array).more ≡ []
  unfolding entered-none
  none-more array = refl

  pub entered-same : (old new : RunningParts B) → new ≡ old → HasEntered old new
  entered-same old new same = subst (λ (a : RunningParts B). HasEntered old a) (sym same) (entered-none old)

  pub entered-then : (old mid new : RunningParts B) → HasEntered old mid → HasEntered mid new → HasEntered old new
  entered-then old mid new first second = record {
    more = first.more ++ second.more;
    grown = second.grown ∙ ap (λ (l : List Entry). l ++ second.more) first.grown ∙ append_assoc old.parts.entries first.more second.more;
    calls = All-append (IsOfNewCall old.parts.entries new.parts.entries) first.more second.more
        (All-weaker (IsOfNewCall old.parts.entries mid.parts.entries) (IsOfNewCall old.parts.entries new.parts.entries) (λ e is. earlier e is) first.more first.calls)
        (All-weaker (IsOfNewCall mid.parts.entries new.parts.entries) (IsOfNewCall old.parts.entries new.parts.entries) (λ e is. later e is) second.more second.calls);
    going = All-append (λ e. GoesOn e.event) first.more second.more first.going second.going;
    turning = λ was. second.turning (first.turning was);
  }
    where
      earlier : (e : Entry) → IsOfNewCall old.parts.entries mid.parts.entries e → IsOfNewCall old.parts.entries new.parts.entries e
      earlier e is = let rises = never-falls e.caller mid.parts.entries second.more new.parts.entries second.grown second.calls in (is.0, omega (arith, is.1, rises))

      later : (e : Entry) → IsOfNewCall mid.parts.entries new.parts.entries e → IsOfNewCall old.parts.entries new.parts.entries e
      later e is = let rises = never-falls e.caller old.parts.entries first.more mid.parts.entries first.grown first.calls in (omega (arith, is.0, rises), is.1)

  pub then-more : (old mid new : RunningParts B) (first : HasEntered old mid) (second : HasEntered mid new) → (entered-then old mid new first second).more ≡ first.more ++ second.more
  unfolding entered-then
  then-more old mid new first second = refl

-- ---- one call

inner-goes : (event : Event) → MayBeInner event → GoesOn event
inner-goes Stopped is = absurd is
inner-goes Halted is = absurd is
inner-goes event is = tt

answer-goes : (size : ℕ) (before call : List Entry) (request : Request) (event : Event) → RunningAnswers size before call request event → GoesOn event
answer-goes size before call (AsksRead at count) Stopped is = absurd is
answer-goes size before call (AsksRead at count) Halted is = absurd is
answer-goes size before call (AsksWrite at body) Stopped is = absurd is
answer-goes size before call (AsksWrite at body) Halted is = absurd is
answer-goes size before call AsksFlush Stopped is = absurd is
answer-goes size before call AsksFlush Halted is = absurd is
answer-goes size before call (AsksFail role) Stopped is = absurd is
answer-goes size before call (AsksFail role) Halted is = absurd is
answer-goes size before call (AsksAdd slot) Stopped is = absurd is
answer-goes size before call (AsksAdd slot) Halted is = absurd is
answer-goes size before call (AsksVisible limit) Stopped is = absurd is
answer-goes size before call (AsksVisible limit) Halted is = absurd is
answer-goes size before call (AsksGrow wish) Stopped is = absurd is
answer-goes size before call (AsksGrow wish) Halted is = absurd is
answer-goes size before call (AsksSteps most) Stopped is = absurd is
answer-goes size before call (AsksSteps most) Halted is = absurd is
answer-goes size before call AsksShow Stopped is = absurd is
answer-goes size before call AsksShow Halted is = absurd is
answer-goes size before call request event is = tt

-- the request asks for steps
abbrev pub is_steps : Request → Bool
is_steps (AsksSteps most) = true
is_steps request = false

pub unstepped : (size : ℕ) (before call : List Entry) (request : Request) (event : Event) → is_steps request ≡ false → RunningAnswers size before call request event → none_left event ≡ false
unstepped size before call (AsksSteps most) event unasked is = absurd (cc)
unstepped size before call (AsksRead at count) (Stepped done left ended) unasked is = absurd is
unstepped size before call (AsksWrite at body) (Stepped done left ended) unasked is = absurd is
unstepped size before call AsksFlush (Stepped done left ended) unasked is = absurd is
unstepped size before call (AsksFail role) (Stepped done left ended) unasked is = absurd is
unstepped size before call (AsksAdd slot) (Stepped done left ended) unasked is = absurd is
unstepped size before call (AsksVisible limit) (Stepped done left ended) unasked is = absurd is
unstepped size before call (AsksGrow wish) (Stepped done left ended) unasked is = absurd is
unstepped size before call AsksShow (Stepped done left ended) unasked is = absurd is
unstepped size before call request event unasked is = refl

module _ {B : Type 0} (tells : Type 0) (given : B → Given) (tape : B → List Operation) (faults : B → ℕ → ℕ) (old new : RunningParts B) (went : HasGoneOn tells given tape faults old new) where
  more-is : (rest : List Entry) → new.parts.entries ≡ old.parts.entries ++ rest → went.more ≡ rest
  more-is rest is = sym (drop-append_seam old.parts.entries went.more) ∙ ap (drop (length old.parts.entries)) (sym went.grown ∙ is) ∙ drop-append_seam old.parts.entries rest

  -- none of the entries tells that no step is left
  turned : (rest : List Entry) → new.parts.entries ≡ old.parts.entries ++ rest → All TellsSome rest → TellsTurning old → TellsTurning new
  turned rest is all was = record {
    active_told = λ none.
        let now = sym (ap (λ (l : List Entry). may_be_active l) is) ∙ none in
        went.active (was.active_told (active-before old.parts.entries rest all now)) (ap (list_any (λ e. is_begin e.event)) (more-is rest is) ∙ active-unbegun old.parts.entries rest all now);
    ahead_told = λ none.
        let now = sym (ap (λ (l : List Entry). may_be_ahead l) is) ∙ none in
        went.ahead (was.ahead_told (ahead-before old.parts.entries rest all now)) (ap (list_any (λ e. is_planned e.event)) (more-is rest is) ∙ ahead-unplanned old.parts.entries rest all now);
  }

  module _ (who : Who) (event : Event) (number : who.number ≡ next_number who.caller old.parts.entries) where
    -- the caller's next number behind the call
    next : (inner : List Entry) (end : ℕ) → new.parts.entries ≡ old.parts.entries ++ (inner ++ one who end event ∷ []) → next_number who.caller new.parts.entries ≡ who.number + 1
    next inner end is =
        ap (λ (l : List Entry). next_number who.caller l) (is ∙ sym (append_assoc old.parts.entries inner (one who end event ∷ [])))
        ∙ fold-append (number_after who.caller) 0 (old.parts.entries ++ inner) (one who end event ∷ [])
        ∙ ap (λ (b : Bool). if b then who.number + 1 else next_number who.caller (old.parts.entries ++ inner)) (eq-eqb who.caller who.caller refl)

    new-call : next_number who.caller new.parts.entries ≡ who.number + 1 → (e : Entry) → IsOfCall who e → IsOfNewCall old.parts.entries new.parts.entries e
    new-call last e own =
        let low = ap (λ (c : ℕ). next_number c old.parts.entries) own.0 in
        let high = ap (λ (c : ℕ). next_number c new.parts.entries) own.0 in
        (omega (arith, number, own.1, low), omega (arith, last, own.1, high))

    -- the entries of the call, by what its last one tells of steps
    entered : (inner : List Entry) (end : ℕ) → All (λ e. IsOfCall who e) inner → All (λ e. MayBeInner e.event) inner → new.parts.entries ≡ old.parts.entries ++ (inner ++ one who end event ∷ [])
        → GoesOn event → (TellsTurning old → TellsTurning new) → HasEntered old new
    entered inner end own inside is goes turning = record {
      more = inner ++ one who end event ∷ [];
      grown = is;
      calls = All-push (IsOfNewCall old.parts.entries new.parts.entries) inner (one who end event)
          (All-weaker (λ e. IsOfCall who e) (IsOfNewCall old.parts.entries new.parts.entries) (λ e own. new-call (next inner end is) e own) inner own)
          (new-call (next inner end is) (one who end event) (refl, refl));
      going = All-push (λ e. GoesOn e.event) inner (one who end event) (All-weaker (λ e. MayBeInner e.event) (λ e. GoesOn e.event) (λ e is. inner-goes e.event is) inner inside) goes;
      turning = turning;
    }

    entered-shown : IsShownBy who old new.parts.entries event → HasEntered old new
    entered-shown shown =
        entered [] shown.end (All-nil (λ e. IsOfCall who e)) (All-nil (λ e. MayBeInner e.event)) shown.is (subst (λ (x : Event). GoesOn x) (sym shown.event_is) tt)
        (turned (one who shown.end event ∷ []) shown.is (All-cons TellsSome (one who shown.end event) [] (ap none_left shown.event_is) (All-nil TellsSome)))

    module _ (request : Request) (answered : IsAnsweredWith (list_length old.parts.members.newest) request who old.parts.entries new.parts.entries event) where
      abbrev before : List Entry
      before = old.parts.entries ++ answered.inner

      goes : GoesOn event
      goes = answer-goes (list_length old.parts.members.newest) before (call_before before (one who answered.end event)) request event answered.fits.answers

      all-some : none_left event ≡ false → All TellsSome (answered.inner ++ one who answered.end event ∷ [])
      all-some some = All-push TellsSome answered.inner (one who answered.end event) (inside-some answered.inner answered.inside) some

      on : none_left event ≡ false → TellsTurning old → TellsTurning new
      on some = turned (answered.inner ++ one who answered.end event ∷ []) answered.is (all-some some)

      entered-plain : is_steps request ≡ false → HasEntered old new
      entered-plain unasked =
          entered answered.inner answered.end answered.own answered.inside answered.is goes
          (on (unstepped (list_length old.parts.members.newest) before (call_before before (one who answered.end event)) request event unasked answered.fits.answers))

      -- the reply to a request for steps, which may tell that none is left
      module _ (counted : IsStepCount old.parts.entries new.parts.entries (running_left old) (running_left new) event) (rest : running_left new ≡ 0 → HasNoReshape new) where
        zero : (n : ℕ) → (n == 0) ≡ true → n ≡ 0
        zero n is = grind (arith, nat_tests, is)

        over : (left : ℕ) → left ≡ running_left new → (b : Bool) → (left == 0) ≡ b → (none_left event ≡ (left == 0)) → TellsTurning old → TellsTurning new
        over left now true is none was = let at = rest (sym now ∙ zero left is) in record { active_told = λ told. at.active; ahead_told = λ told. at.ahead }
        over left now false is none was = on (none ∙ is) was

        by : (x : Event) → event ≡ x → TellsTurning old → TellsTurning new
        by (Stepped done left ended) is was =
            over left (subst (λ (e : Event). IsStepCount old.parts.entries new.parts.entries (running_left old) (running_left new) e) is counted).0 (left == 0) refl (ap none_left is) was
        by x is was = on (ap none_left is) was

        entered-steps : HasEntered old new
        entered-steps = entered answered.inner answered.end answered.own answered.inside answered.is goes (by event refl)

    pub entered-of : (request : Request) → IsPerformed request who old new.parts.entries event → IsCountedBy request old new event → RestsBehind request new → HasEntered old new
    entered-of AsksShow done counted rest = entered-shown done
    entered-of (AsksRead at count) done counted rest = entered-plain (AsksRead at count) done refl
    entered-of (AsksWrite at body) done counted rest = entered-plain (AsksWrite at body) done refl
    entered-of AsksFlush done counted rest = entered-plain AsksFlush done refl
    entered-of (AsksFail role) done counted rest = entered-plain (AsksFail role) done refl
    entered-of (AsksAdd slot) done counted rest = entered-plain (AsksAdd slot) done refl
    entered-of (AsksVisible limit) done counted rest = entered-plain (AsksVisible limit) done refl
    entered-of (AsksGrow wish) done counted rest = entered-plain (AsksGrow wish) done refl
    entered-of (AsksSteps most) done counted rest = entered-steps (AsksSteps most) done counted rest
