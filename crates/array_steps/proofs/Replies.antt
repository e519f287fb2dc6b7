-- The reply to a request for steps.
use Rattle.std.proofs.Common.{◌≡◌, ◌⊎◌, inl, inr, ℕ, ◌+◌, ◌<◌, ◌≤◌, ◌==◌, ◌&&◌, ◌||◌, ◌++◌, Bool, true, false, not, cond, Option, Some, None, Err, List, [], ◌∷◌, length, drop, refl, sym, ◌∙◌, ap, subst, arith, append_assoc, append-nil}
use Rattle.std.proofs.Math.Seq.{drop-append_seam}
use Rattle.std.proofs.lemmas.Bool.Decides.{nat_tests}
use Rattle.std.proofs.lemmas.List.{reverse-append}
use Rattle.std.proofs.lemmas.List.Elements.{All-nil, All-cons, All-append, All-head, All-tail, All-weaker}
use Rattle.std.proofs.lemmas.List.Folds.{list_any-append}
use Rattle.std.proofs.lemmas.List.Sums.{fold-append}
use Rattle.std.specs.Prelude.{reverse, count_by, IfSome, IsSome, IsTrue, MatchOption, ⊤}
use Rattle.std.specs.List.{All, list_any}
use Rattle.array.specs.raid_types_the_Fault_TheVariants.{Refused as IsRefusedWith}
use Rattle.array.specs.raid_types_the_Refusal.{Refusal}
use Rattle.array.specs.raid_types_the_Refusal_TheVariants.{Nothing}
use Rattle.array.specs.raid_types_the_Who.{Who}
use Rattle.array.specs.bank_the_Operation.{Operation}
use Rattle.array.specs.bank_Given.{Given, NeverFalls}
use Rattle.array.specs.sb_specs_the_Members.{Members}
use Rattle.array.specs.sb_specs_Reading.{is_reshaping, list_length}
use Rattle.array.specs.sb_specs_Reads.{has_spare}
use Rattle.array.specs.history_the_Entry.{Entry}
use Rattle.array.specs.history_the_Event.{Event}
use Rattle.array.specs.history_the_Event_TheVariants.{Lost, SpareLost, Rebuilt, Resized, Step, Stepped, Refused}
use Rattle.array.specs.history_the_LostCause_TheVariants.{Fault}
use Rattle.array.specs.history_the_Request_TheVariants.{Steps as AsksSteps}
use Rattle.array.specs.history_the_StepKind_TheVariants.{Finished}
use Rattle.array.specs.history_Fits.{IsTornOf, AreTornOf, is_step_event, is_lost_event}
use Rattle.array.specs.history_Flat.{rest_of_call, next_number, length_of, length_after}
use Rattle.array.specs.history_Legal.{MayBeInner, call_before}
use Rattle.array.specs.history_OneShape.{IsOfCall}
use Rattle.array.specs.history_Plain.{entries_of}
use Rattle.array.specs.history_Reshaped.{is_planned}
use Rattle.array.proofs.history_append_PlainLaws.{one}
use Rattle.array.proofs.history_append_CallLaws.{torn-reverse}
use Rattle.array.specs.array_members_the_Work.{Work}
use Rattle.array.specs.array_members_Moving.{Grows}
use Rattle.array.specs.array_members_Rebuilding.{Held}
use Rattle.array.specs.array_call_specs_Calls.{IsEntered, IsLossBy, AreStepsFewer, IsBehind, TellNoRoleLoss}
use Rattle.array.proofs.array_call_specs_ReplyLaws.{none_before}
use Rattle.array.specs.reshape_request_Left.{phases_of}
use Rattle.array.specs.reshape_request_the_PhasesLeft.{PhasesLeft}
use Rattle.array.specs.reshape_progress_the_Course.{Course}
use Rattle.array.specs.history_invariant_Recorded.{MayGoOn}
use Rattle.array.specs.array_specs_Parts.{RunningParts, left_in, still_left}
use Rattle.array.specs.array_fixed_laws_Steps.{MayAnswer}
use Rattle.array.specs.array_reply_specs_Replies.{may_end_early, DidRunningSteps, EndsRunningSteps, IsRefusalBy, IsRefusalToldBy, HasToldBy, IsAnsweredWith}
use Rattle.array.specs.array_reply_specs_Going.{is_finish, is_begin, MayHoldBehind, WasSpareOrHolder, AreLossesAlong, HasNoReshape, HasRunOn, IsSameEpoch}
use Rattle.array.proofs.array_reply_specs_GoneOn.{refusal-wider, told-then, along-append, may-then, spares-then, none-first, gone-then}
use Rattle.array.specs.Calls.{running_left}
use Rattle.array_steps.specs.Steps.{IsOpenFor, KeepsItsWay, IsStepDone, IsStepRefused, IsStepAnswered, AreStepsOf, has_finished}
use Rattle.array_steps.proofs.Events.{count-both}
use Rattle.array_steps.proofs.Ways.{TellsNoLoss, way-then, way-roomy, way-members}

-- ---- what stands in a call before its reply

rest-own : (who : Who) (e : Entry) (xs tail : List Entry) → IsOfCall who e → All (IsOfCall who) xs → rest_of_call e tail ≡ [] → rest_of_call e (xs ++ tail) ≡ xs
rest-own who e [] tail is own none = none
rest-own who e (x ∷ xs) tail is own none =
    let first : IsOfCall who x = All-head (IsOfCall who) x xs own in
    ap (λ (b : Bool). cond b (x ∷ rest_of_call e (xs ++ tail)) []) (same e.caller x.caller e.number x.number (is.0 ∙ sym first.0) (is.1 ∙ sym first.1))
    ∙ ap (λ (l : List Entry). x ∷ l) (rest-own who e xs tail is (All-tail (IsOfCall who) x xs own) none)
  where
    same : (c d n m : ℕ) → c ≡ d → n ≡ m → ((c == d) && (n == m)) ≡ true
    same c d n m callers numbers = grind (arith, nat_tests, callers, numbers)

own-reverse : (who : Who) (xs : List Entry) → All (IsOfCall who) xs → All (IsOfCall who) (reverse xs)
own-reverse who [] own = own
own-reverse who (x ∷ xs) own =
    subst (λ (l : List Entry). All (IsOfCall who) l) (sym (reverse-append (x ∷ []) xs))
    (All-append (IsOfCall who) (reverse xs) (x ∷ []) (own-reverse who xs (All-tail (IsOfCall who) x xs own))
    (All-cons (IsOfCall who) x [] (All-head (IsOfCall who) x xs own) (All-nil (IsOfCall who))))

-- its entries, the last one first
call-is : (who : Who) (end : ℕ) (event : Event) (old inner : List Entry) → who.number ≡ next_number who.caller old → All (IsOfCall who) inner → call_before (old ++ inner) (one who end event) ≡ reverse inner
call-is who end event old inner number own =
    ap (λ (l : List Entry). rest_of_call (one who end event) l) (reverse-append old inner)
    ∙ rest-own who (one who end event) (reverse inner) (reverse old) (refl, refl) (own-reverse who inner own) (none_before old who end event number)

count-reverse : (p : Event → Bool) (xs : List Entry) → count_by (λ e. p e.event) (reverse xs) ≡ count_by (λ e. p e.event) xs
count-reverse p [] = refl
count-reverse p (x ∷ xs) =
    ap (λ (l : List Entry). count_by (λ e. p e.event) l) (reverse-append (x ∷ []) xs)
    ∙ omega (arith, count-both p (reverse xs) (x ∷ []), count-both p (x ∷ []) xs, count-reverse p xs)

any-reverse : (p : Event → Bool) (xs : List Entry) → list_any (λ e. p e.event) (reverse xs) ≡ list_any (λ e. p e.event) xs
any-reverse p [] = refl
any-reverse p (x ∷ xs) =
    ap (λ (l : List Entry). list_any (λ e. p e.event) l) (reverse-append (x ∷ []) xs)
    ∙ list_any-append (λ e. p e.event) (reverse xs) (x ∷ []) ∙ ap (λ (b : Bool). b || (p x.event || false)) (any-reverse p xs) ∙ turn (list_any (λ e. p e.event) xs) (p x.event)
  where
    turn : (a b : Bool) → (a || (b || false)) ≡ (b || a)
    turn true true = refl
    turn true false = refl
    turn false true = refl
    turn false false = refl

-- ---- what may go on may stand inside, and is no torn write

goes-inside : (event : Event) → MayGoOn event → MayBeInner event
goes-inside (Resized n) goes = tt
goes-inside (Step kind left) goes = tt
goes-inside (Lost role Fault) goes = tt
goes-inside (SpareLost slot) goes = tt
goes-inside (Rebuilt role) goes = tt
goes-inside (Refused refusal) goes = tt
goes-inside event goes = absurd goes

none-torn : (most : ℕ) (event : Event) → MayGoOn event → IsTornOf (AsksSteps most) event
none-torn most (Resized n) goes = tt
none-torn most (Step kind left) goes = tt
none-torn most (Lost role Fault) goes = tt
none-torn most (SpareLost slot) goes = tt
none-torn most (Rebuilt role) goes = tt
none-torn most (Refused refusal) goes = tt
none-torn most event goes = absurd goes

all-untorn : (most : ℕ) (who : Who) (xs : List Entry) → All (λ e. IsOfCall who e × MayGoOn e.event) xs → AreTornOf (AsksSteps most) xs
all-untorn most who [] own = tt
all-untorn most who (x ∷ xs) own =
    let first : IsOfCall who x × MayGoOn x.event = All-head (λ e. IsOfCall who e × MayGoOn e.event) x xs own in
    (none-torn most x.event first.1, all-untorn most who xs (All-tail (λ e. IsOfCall who e × MayGoOn e.event) x xs own))

-- ---- what may end a request early: the loss of a role, or the end of a reshape

either-none : (a b : Bool) → (a || b) ≡ false → (a ≡ false) × (b ≡ false)
either-none false b is = (refl, is)
either-none true b is = absurd (cc)

neither : (a b : Bool) → a ≡ false → b ≡ false → (a || b) ≡ false
neither false b first second = second
neither true b first second = absurd (cc)

not-early : (event : Event) → may_end_early event ≡ false → (is_lost_event event ≡ false) × (is_finish event ≡ false)
not-early (Lost role cause) none = absurd (cc)
not-early (Step Finished left) none = absurd (cc)
not-early (Step kind left) none = (refl, refl)
not-early event none = (refl, refl)

none-early : (xs : List Entry) → list_any (λ e. may_end_early e.event) xs ≡ false → (list_any (λ e. is_lost_event e.event) xs ≡ false) × (list_any (λ e. is_finish e.event) xs ≡ false)
none-early [] none = (refl, refl)
none-early (x ∷ xs) none =
    let parts = either-none (may_end_early x.event) (list_any (λ e. may_end_early e.event) xs) none in
    let here = not-early x.event parts.0 in
    let rest = none-early xs parts.1 in
    (neither (is_lost_event x.event) (list_any (λ e. is_lost_event e.event) xs) here.0 rest.0, neither (is_finish x.event) (list_any (λ e. is_finish e.event) xs) here.1 rest.1)

finish-early : (xs : List Entry) → list_any (λ e. is_finish e.event) xs ≡ true → list_any (λ e. may_end_early e.event) xs ≡ true
finish-early xs told = by (list_any (λ e. may_end_early e.event) xs) refl
  where
    by : (b : Bool) → list_any (λ e. may_end_early e.event) xs ≡ b → b ≡ true
    by true is = refl
    by false is = absurd (let none = (none-early xs is).1 in let e : true ≡ false = sym told ∙ none in cc)

-- ---- nothing was left to do

pub answered-nothing : {tells : Type 0} {tape : List Operation} {who : Who} {old begun new : List Entry} (size most : ℕ) → begun ≡ old → who.number ≡ next_number who.caller old
    → IsEntered tells tape who begun new (Refused Nothing ∷ []) → IsAnsweredWith size (AsksSteps most) who old new (Refused Nothing)
answered-nothing {who = who} {old = old} size most same number was = record {
  inner = [];
  end = was.end;
  own = All-nil (λ e. IsOfCall who e);
  inside = All-nil (λ e. MayBeInner e.event);
  is = was.is ∙ ap (λ (l : List Entry). l ++ one who was.end (Refused Nothing) ∷ []) same;
  fits = record {
    answers = tt;
    torn = subst (λ (l : List Entry). AreTornOf (AsksSteps most) l) (sym (call-is who was.end (Refused Nothing) old [] number (All-nil (IsOfCall who)))) tt;
  };
}

-- ---- some steps were done, or one was refused

-- How many steps a call did, of so many that were left: as many as were to be done, unless none is left, one is refused or a reshape ended.
pub record AreDone (most start left count done : ℕ) (over : Bool) (ended : Option Refusal) : Type 0 where
  pub few : count ≤ most
  pub all : (count ≡ most) ⊎ (count ≡ start)
  pub within : done ≤ count
  pub until : MatchOption ended ((done ≡ count) ⊎ (left ≡ 0) ⊎ (over ≡ true)) (λ refusal. done < count)
  pub begun : MatchOption ended (1 ≤ done) (λ refusal. ⊤)

-- where none was refused
all-done : (most start left count done : ℕ) (over : Bool) → AreDone most start left count done over None → (early : Bool) → (over ≡ true → early ≡ true) → (early ≡ false → left + done ≤ start)
    → (done ≡ most) ⊎ (left ≡ 0) ⊎ IsSome {T = Refusal} None ⊎ IsTrue early
all-done most start left count done over are true ends fewer = inr (inr (inr refl))
all-done most start left count done over are false ends fewer = elim are.until [
  | inl done_all ↦ elim are.all [
    | inl as_asked ↦ inl (done_all ∙ as_asked)
    | inr as_left ↦ let falls = fewer refl in inr (inl (omega (arith, falls, done_all, as_left)))
  ]
  | inr rest ↦ elim rest [
    | inl none_left ↦ inr (inl none_left)
    | inr finished ↦ inr (inr (inr (ends finished)))
  ]
]

did : (call : List Entry) (most start left count done : ℕ) (over : Bool) (ended : Option Refusal) → AreDone most start left count done over ended → (over ≡ true → list_any (λ e. may_end_early e.event) call ≡ true)
    → (ended ≡ None → list_any (λ e. may_end_early e.event) call ≡ false → left + done ≤ start)
    → count_by (λ e. is_step_event e.event) call ≤ done → done ≤ count_by (λ e. is_step_event e.event) call + count_by (λ e. is_lost_event e.event) call → DidRunningSteps call most done left ended
did call most start left count done over None are ends fewer counted not_more = record {
  at_most = omega (arith, are.within, are.few);
  all_done = all-done most start left count done over are (list_any (λ e. may_end_early e.event) call) ends (fewer refl);
  some_done = inl are.begun;
  counted = counted;
  not_more = not_more;
}
did call most start left count done over (Some refusal) are ends fewer counted not_more = record {
  at_most = omega (arith, are.within, are.few);
  all_done = inr (inr (inl refl));
  some_done = inr refl;
  counted = counted;
  not_more = not_more;
}

pub answered-stepped : {tells : Type 0} {tape : List Operation} {who : Who} {old begun mid new : List Entry} {done left : ℕ} {ended : Option Refusal} (size most start count : ℕ)
    → begun ≡ old → who.number ≡ next_number who.caller old → AreStepsOf who begun mid done → IsEntered tells tape who mid new (Stepped done left ended ∷ [])
    → AreDone most start left count done (has_finished begun mid) ended → (TellNoRoleLoss begun mid → has_finished begun mid ≡ false → ended ≡ None → left + done ≤ start) → IfSome ended EndsRunningSteps
    → IsAnsweredWith size (AsksSteps most) who old new (Stepped done left ended)
answered-stepped {who = who} {old = old} {begun = begun} {mid = mid} {done = done} {left = left} {ended = ended} size most start count same number so was are fewer why = record {
  inner = so.inner;
  end = was.end;
  own = own;
  inside = All-weaker (λ e. IsOfCall who e × MayGoOn e.event) (λ e. MayBeInner e.event) (λ e is. goes-inside e.event is.1) so.inner so.own;
  is = was.is ∙ ap (λ (l : List Entry). l ++ one who was.end (Stepped done left ended) ∷ []) (so.is ∙ ap (λ (l : List Entry). l ++ so.inner) same) ∙ append_assoc old so.inner (one who was.end (Stepped done left ended) ∷ []);
  fits = record {
    answers = (
      subst (λ (l : List Entry). DidRunningSteps l most done left ended) (sym call)
          (did (reverse so.inner) most start left count done (has_finished begun mid) ended are
          (λ over. any-reverse may_end_early so.inner ∙ finish-early so.inner (sym (told is_finish) ∙ over))
          (λ none quiet. let parts = none-early so.inner (sym (any-reverse may_end_early so.inner) ∙ quiet) in fewer (ap not (told is_lost_event ∙ parts.0)) (told is_finish ∙ parts.1) none)
          (let steps = count-reverse is_step_event so.inner in omega (arith, so.counted, steps))
          (let steps = count-reverse is_step_event so.inner in let lost = count-reverse is_lost_event so.inner in omega (arith, so.not_more, steps, lost))),
      why,
    );
    torn = subst (λ (l : List Entry). AreTornOf (AsksSteps most) l) (sym call) (torn-reverse (AsksSteps most) so.inner (all-untorn most who so.inner so.own));
  };
}
  where
    own : All (λ e. IsOfCall who e) so.inner
    own = All-weaker (λ e. IsOfCall who e × MayGoOn e.event) (λ e. IsOfCall who e) (λ e is. is.0) so.inner so.own

    call : call_before (old ++ so.inner) (one who was.end (Stepped done left ended)) ≡ reverse so.inner
    call = call-is who was.end (Stepped done left ended) old so.inner number own

    -- what is told behind the old entries
    told : (p : Event → Bool) → list_any (λ e. p e.event) (drop (length begun) mid) ≡ list_any (λ e. p e.event) so.inner
    told p = ap (list_any (λ e. p e.event)) (ap (drop (length begun)) so.is ∙ drop-append_seam begun so.inner)

-- ---- what steps leave, with the reply behind them

module _ {B : Type 0} (tells : Type 0) (given : B → Given) (tape : B → List Operation) (faults : B → ℕ → ℕ) where
  -- the same array with other room
  pub gone-room : (old new : RunningParts B) (n : ℕ) → new ≡ record old { parts = record old.parts { steps = n } } → HasRunOn tells given tape faults old new
  gone-room old new n is = subst (λ (a : RunningParts B). HasRunOn tells given tape faults old a) (sym is) (record {
    more = [];
    grown = sym (append-nil old.parts.entries);
    sized = refl;
    held = record { roles = λ role slot had. inl (inl had); spares = λ slot spare. inl spare };
    losses = tt;
    refusals = record { more = []; grown = sym (append-nil old.parts.entries); told = All-nil (λ e. IsRefusalToldBy old.parts.backup (faults old.parts.bank) (faults old.parts.bank) e.event) };
    grows = record { more = λ t. ([], sym (append-nil (tape old.parts.bank))) };
    never_falls = λ s. omega arith;
    given_is = refl;
    same = record { uuid = refl; given = refl; first = refl; backup = refl };
    active = λ still none. still;
    ahead = λ empty none. empty;
  })

  -- the reply changes no length, and tells no loss; what it tells to be refused has its cause
  pub gone-answered : (old mid new : RunningParts B) (who : Who) (event : Event) (end : ℕ) → HasRunOn tells given tape faults old mid → new.parts.entries ≡ mid.parts.entries ++ entries_of who end (event ∷ [])
      → new.parts.bank ≡ mid.parts.bank → new.parts.members ≡ mid.parts.members → new.ahead ≡ mid.ahead → IsSameEpoch mid new → ((n : ℕ) → length_after n event ≡ n) → ((Had : ℕ → ℕ → Type 0) (Was : ℕ → Type 0) (before now : ℕ → ℕ) → IsLossBy Had Was before now event)
      → IsRefusalToldBy old.parts.backup (faults old.parts.bank) (faults mid.parts.bank) event → HasRunOn tells given tape faults old new
  gone-answered old mid new who event end was entered bank members ahead epoch lengthless lossless cause = record {
    more = was.more ++ last;
    grown = entered ∙ ap (λ (l : List Entry). l ++ last) was.grown ∙ append_assoc old.parts.entries was.more last;
    sized = ap (λ (m : Members). list_length m.newest) members ∙ was.sized ∙ sym (fold-append (λ n e. length_after n e.event) (list_length old.parts.members.newest) was.more last ∙ lengthless (length_of (list_length old.parts.members.newest) was.more));
    held = record {
      roles = λ role slot has. may-then old.parts.members mid.parts.members was.more was.held last role slot (inl (inl (subst (λ (m : Members). Held m role slot) members has)));
      spares = λ slot spare. spares-then old.parts.members mid.parts.members was.more was.held last slot (inl (subst (λ (m : Members). has_spare m.spares slot ≡ true) members spare));
    };
    losses = subst (λ (b : B). AreLossesAlong old.parts.members (faults old.parts.bank) (faults b) [] (was.more ++ last)) (sym bank)
        (along-append old.parts.members (faults old.parts.bank) (faults mid.parts.bank) [] was.more last was.losses (lossless (MayHoldBehind old.parts.members was.more) (WasSpareOrHolder old.parts.members) (faults old.parts.bank) (faults mid.parts.bank), tt));
    refusals = subst (λ (b : B). HasToldBy old.parts.backup (faults old.parts.bank) (faults b) old.parts.entries new.parts.entries) (sym bank)
        (told-then was.refusals (record {
          more = last;
          grown = entered;
          told = All-cons (λ e. IsRefusalToldBy old.parts.backup (faults old.parts.bank) (faults mid.parts.bank) e.event) (one who end event) [] cause (All-nil (λ e. IsRefusalToldBy old.parts.backup (faults old.parts.bank) (faults mid.parts.bank) e.event));
        }));
    grows = subst (λ (b : B). Grows tells (tape old.parts.bank) (tape b)) (sym bank) was.grows;
    never_falls = subst (λ (b : B). NeverFalls (faults old.parts.bank) (faults b)) (sym bank) was.never_falls;
    given_is = ap given bank ∙ was.given_is;
    same = record { uuid = epoch.uuid ∙ was.same.uuid; given = epoch.given ∙ was.same.given; first = epoch.first ∙ was.same.first; backup = epoch.backup ∙ was.same.backup };
    active = λ still none. ap (λ (m : Members). is_reshaping m.newest) members ∙ was.active still (none-first (λ e. is_begin e.event) was.more last none);
    ahead = λ empty none. ap (λ (p : PhasesLeft). phases_of p) ahead ∙ was.ahead empty (none-first (λ e. is_planned e.event) was.more last none);
  }
    where
      last : List Entry
      last = entries_of who end (event ∷ [])

-- ---- what the reply tells of a reshape

-- the steps that are left, by what the array is
running-same : {B : Type 0} (mid new : RunningParts B) → new.parts.members ≡ mid.parts.members → new.parts.work ≡ mid.parts.work → new.course ≡ mid.course → new.ahead ≡ mid.ahead → running_left new ≡ running_left mid
running-same mid new members work course ahead =
    ap (λ (m : Members). left m new.parts.work new.course new.ahead) members ∙ ap (λ (w : Work). left mid.parts.members w new.course new.ahead) work
    ∙ ap (λ (c : Course). left mid.parts.members mid.parts.work c new.ahead) course ∙ ap (λ (p : PhasesLeft). left mid.parts.members mid.parts.work mid.course p) ahead
  where
    left : Members → Work → Course → PhasesLeft → ℕ
    left m w c p = cond (is_reshaping m.newest) (left_in w m c p) (still_left w m p)

-- where none is left behind it, no reshape is active, and none is ahead
pub rest-answered : {B : Type 0} (mid new : RunningParts B) → new.parts.members ≡ mid.parts.members → new.parts.work ≡ mid.parts.work → new.course ≡ mid.course → new.ahead ≡ mid.ahead
    → (running_left mid ≡ 0 → HasNoReshape mid) → running_left new ≡ 0 → HasNoReshape new
rest-answered mid new members work course ahead rest none =
    let was = rest (sym (running-same mid new members work course ahead) ∙ none) in
    record { active = ap (λ (m : Members). is_reshaping m.newest) members ∙ was.active; ahead = ap (λ (p : PhasesLeft). phases_of p) ahead ∙ was.ahead }

-- the reply may close the plans that are open
pub may-answer : (entries : List Entry) (work : Work) (members : Members) (ahead : PhasesLeft) (done left : ℕ) (ended : Option Refusal) → (ended ≡ None → MayAnswer entries work members ahead (Stepped done left None))
    → MayAnswer entries work members ahead (Stepped done left ended)
may-answer entries work members ahead done left None closes = closes refl
may-answer entries work members ahead done left (Some refusal) closes = tt

-- a refusal's cause in some of the steps is one in all of them
pub cause-later : {B : Type 0} (tells : Type 0) (given : B → Given) (tape : B → List Operation) (faults : B → ℕ → ℕ) (old mid new : RunningParts B) → HasRunOn tells given tape faults old mid → HasRunOn tells given tape faults mid new → (refusal : Refusal)
    → IsRefusalBy mid.parts.backup (faults mid.parts.bank) (faults new.parts.bank) refusal → IsRefusalBy old.parts.backup (faults old.parts.bank) (faults new.parts.bank) refusal
cause-later tells given tape faults old mid new one two refusal was =
    refusal-wider one.never_falls two.never_falls (λ s. omega arith) old.parts.backup refusal
    (subst (λ (b : Option ℕ). IsRefusalBy b (faults mid.parts.bank) (faults new.parts.bank) refusal) one.same.backup was)

-- some steps and more of them keep what both do
pub way-on : {B : Type 0} (tells : Type 0) (given : B → Given) (tape : B → List Operation) (faults : B → ℕ → ℕ) (old mid new : RunningParts B) → HasRunOn tells given tape faults old mid → HasRunOn tells given tape faults mid new
    → KeepsItsWay (faults old.parts.bank) (faults mid.parts.bank) old mid → KeepsItsWay (faults mid.parts.bank) (faults new.parts.bank) mid new → KeepsItsWay (faults old.parts.bank) (faults new.parts.bank) old new
way-on tells given tape faults old mid new one two = way-then old mid new (faults old.parts.bank) (faults mid.parts.bank) (faults new.parts.bank) one.more two.more one.grown two.grown one.never_falls two.never_falls

-- and so does the reply behind them
pub way-answered : {B : Type 0} (faults : B → ℕ → ℕ) (old mid new : RunningParts B) (more last : List Entry) → mid.parts.entries ≡ old.parts.entries ++ more → new.parts.entries ≡ mid.parts.entries ++ last → All (λ e. TellsNoLoss e.event) last
    → NeverFalls (faults old.parts.bank) (faults mid.parts.bank)
    → new.parts.bank ≡ mid.parts.bank → new.parts.members ≡ mid.parts.members → new.ahead ≡ mid.ahead → new.limit ≡ mid.limit → KeepsItsWay (faults old.parts.bank) (faults mid.parts.bank) old mid → KeepsItsWay (faults old.parts.bank) (faults new.parts.bank) old new
way-answered {B = B} faults old mid new more last grown entered quiet rises bank members ahead limit was = subst (λ (b : B). KeepsItsWay (faults old.parts.bank) (faults b) old new) (sym bank)
    (way-then old mid new (faults old.parts.bank) (faults mid.parts.bank) (faults mid.parts.bank) more last grown entered rises (λ s. omega arith) was (way-members (faults mid.parts.bank) (faults mid.parts.bank) mid new last entered quiet members ahead limit))

-- ---- a step, or some, that had room made for them

module _ {B : Type 0} (tells : Type 0) (given : B → Given) (tape : B → List Operation) (faults : B → ℕ → ℕ) (old mid new : RunningParts B) (n : ℕ) (room : mid ≡ record old { parts = record old.parts { steps = n } }) where
  pub gone-behind : HasRunOn tells given tape faults mid new → HasRunOn tells given tape faults old new
  gone-behind was = gone-then tells given tape faults old mid new (gone-room tells given tape faults old mid n room) was

  pub way-behind : KeepsItsWay (faults mid.parts.bank) (faults new.parts.bank) mid new → KeepsItsWay (faults old.parts.bank) (faults new.parts.bank) old new
  way-behind was = way-roomy (faults old.parts.bank) (faults new.parts.bank) old mid new n room (subst (λ (a : RunningParts B). KeepsItsWay (faults a.parts.bank) (faults new.parts.bank) mid new) room was)

  pub done-behind : (who : Who) (over : Bool) → IsStepDone tells given tape faults who mid new over → IsStepDone tells given tape faults who old new over
  done-behind who over was = record {
    inner = was.inner;
    is = was.is ∙ ap (λ (a : RunningParts B). a.parts.entries ++ was.inner) room;
    own = was.own;
    told = was.told;
    one = was.one;
    over_told = was.over_told;
    left = λ none. subst (λ (a : RunningParts B). AreStepsFewer a.parts.entries new.parts.entries (running_left a) (running_left new)) room (was.left none);
    next_open = λ none some kept. was.next_open none some (subst (λ (a : RunningParts B). IsOpenFor a who) (sym room) kept);
    going = was.going;
    closable = was.closable;
    went = gone-behind was.went;
    kept = way-behind was.kept;
    ended = was.ended;
  }

  pub refused-behind : (who : Who) (refusal : Refusal) → IsStepRefused tells given tape faults who mid new refusal → IsStepRefused tells given tape faults who old new refusal
  refused-behind who refusal was = record {
    behind = subst (λ (a : RunningParts B). IsBehind who a.parts.entries new.parts.entries (Refused refusal)) room was.behind;
    why = was.why;
    cause = subst (λ (a : RunningParts B). IsRefusalBy a.parts.backup (faults a.parts.bank) (faults new.parts.bank) refusal) room was.cause;
    right = was.right;
    going = was.going;
    went = gone-behind was.went;
    kept = way-behind was.kept;
    ended = was.ended;
  }

  pub answered-refused : (who : Who) (refusal : Refusal) → IsStepRefused tells given tape faults who mid new refusal → IsStepAnswered {T = ⊤} tells given tape faults who old new (Err (IsRefusedWith refusal))
  answered-refused who refusal was = by refusal was.why (refused-behind who refusal was)
    where
      by : (r : Refusal) → EndsRunningSteps r → IsStepRefused tells given tape faults who old new r → IsStepAnswered {T = ⊤} tells given tape faults who old new (Err (IsRefusedWith r))
      by Nothing why refused = absurd why
      by r why refused = refused
