-- A reply to a request to grow, or to limit the list, is one of a running array, whatever its superblocks say, and leaves it running.
use Rattle.std.proofs.Common.{◌≡◌, inl, ℕ, ◌||◌, nat_lt, Bool, true, false, Option, Some, None, Result, Ok, Err, List, length, [], ◌∷◌, ◌++◌, OnErr, refl, sym, ◌∙◌, ap, subst, append-nil, arith}
use Rattle.std.proofs.lemmas.List.Elements.{All-nil, All-cons}
use Rattle.std.specs.Prelude.{if◌then◌else◌}
use Rattle.std.specs.Option.{option_map_or}
use Rattle.array_reply_specs.specs.raid_types_the_BusyKind_TheVariants.{Reshape, Plan}
use Rattle.array_reply_specs.specs.raid_types_the_Fault.{Fault}
use Rattle.array_reply_specs.specs.raid_types_the_Fault_TheVariants.{Refused as IsRefusedWith, NoMemory}
use Rattle.array_reply_specs.specs.raid_types_the_Refusal.{Refusal}
use Rattle.array_reply_specs.specs.raid_types_the_Refusal_TheVariants.{Busy, Degraded, SameShape, BadShape, SizeNotMultiple, NeedSpares, NeedBackup, BackupTooSmall, ArraySizeFirst, BackupFault, SlotFault, PastSize}
use Rattle.array_reply_specs.specs.raid_types_the_Who.{Who}
use Rattle.array_reply_specs.specs.raid_types_the_Wish.{Wish}
use Rattle.array_reply_specs.specs.bank_the_Operation.{Operation}
use Rattle.array_reply_specs.specs.bank_Given.{Given}
use Rattle.array_transition.specs.sb_specs_the_Members.{Members}
use Rattle.array_transition.specs.sb_specs_Reading.{is_reshaping, list_length}
use Rattle.array_transition.specs.sb_specs_Reads.{has_spare}
use Rattle.array_reply_specs.specs.history_the_Entry.{Entry}
use Rattle.array_reply_specs.specs.history_the_Event.{Event}
use Rattle.array_reply_specs.specs.history_the_Event_TheVariants.{Visible, Planned, Refused}
use Rattle.array_reply_specs.specs.history_the_Request.{Request}
use Rattle.array_reply_specs.specs.history_the_Request_TheVariants.{Visible as AsksVisible, Grow as AsksGrow}
use Rattle.array_transition.specs.history_Fits.{AreTornOf}
use Rattle.array_reply_specs.specs.history_Flat.{next_number, length_of, visible_of, length_after}
use Rattle.array_reply_specs.specs.history_Legal.{MayBeInner}
use Rattle.array_reply_specs.specs.history_OneShape.{IsOfCall}
use Rattle.array_transition.specs.history_Plain.{entries_of}
use Rattle.array_transition.specs.history_Reshaped.{is_planned}
use Rattle.array_transition.specs.history_World.{World}
use Rattle.array_transition.specs.array_members_Rebuilding.{Held}
use Rattle.array_reply_specs.specs.array_call_specs_Calls.{IsLossBy}
use Rattle.array_reply_specs.proofs.array_call_specs_ReplyLaws.{none_before}
use Rattle.array_transition.specs.reshape_request_Asked.{Asked, IsUngrowable}
use Rattle.array_transition.specs.reshape_request_Left.{phases_of}
use Rattle.array_transition.specs.reshape_request_the_PhasesLeft.{PhasesLeft}
use Rattle.array_transition.specs.history_invariant_Recorded.{entry_of}
use Rattle.array_transition.specs.array_specs_Parts.{RunningParts}
use Rattle.array_reply_specs.specs.array_specs_Visible.{visible_refusal, IsVisibleJudged}
use Rattle.array_reply_specs.specs.Limits.{limit_refusal}
use Rattle.array_reply_specs.specs.Replies.{MayRefuseGrow, MayRefuseLimit, RunningAnswers, RunningFits, IsAnsweredWith, IsRepliedWith, IsRefusalBy, IsRefusalToldBy}
use Rattle.array_reply_specs.specs.Going.{MayHoldBehind, WasSpareOrHolder, HasRunOn}
use Rattle.array_grow.specs.Planned.{IsReplied, IsGrowJudged, IsGrowAnswered, IsAsBefore}
use Rattle.array_grow.specs.Replied.{IsGrowReplied}
use Rattle.array_grow.proofs.Fitting.{first-of}
use Rattle.array_grow.proofs.Kept.{is-below}

-- ---- the reply

same-refusal : (a b : Refusal) → ◌≡◌ {A = Option Refusal} (Some a) (Some b) → a ≡ b
same-refusal a b is = cc

-- what is true of an array may refuse it
grow-may : (a : Asked) (wish : Wish) (visible : ℕ) (refusal : Refusal) → a.visible ≡ visible → IsUngrowable a wish refusal → MayRefuseGrow visible refusal
grow-may a wish visible (Busy kind) same is = tt
grow-may a wish visible (Degraded role) same is = tt
grow-may a wish visible SameShape same is = tt
grow-may a wish visible (BadShape field) same is = tt
grow-may a wish visible (SizeNotMultiple size chunk) same is = tt
grow-may a wish visible (NeedSpares have want) same is = is.2
grow-may a wish visible NeedBackup same is = tt
grow-may a wish visible (BackupTooSmall have want) same is = is.2
grow-may a wish visible (ArraySizeFirst told least) same is = (is.0 ∙ same, is.2)
grow-may a wish visible refusal same is = absurd is

-- so it is with what may refuse a limit
limit-may : (reshaping : Bool) (phases size sectors : ℕ) (limit : Option ℕ) (refusal : Refusal) → sectors ≡ size → (if reshaping then Some (Busy Reshape) else visible_refusal phases size limit) ≡ Some refusal → MayRefuseLimit sectors limit refusal
limit-may true phases size sectors limit refusal same is = subst (MayRefuseLimit sectors limit) (same-refusal (Busy Reshape) refusal is) tt
limit-may false phases size sectors limit refusal same is = by (nat_lt 0 phases) limit is
  where
    past : (wished : ℕ) (b : Bool) → nat_lt size wished ≡ b → (if b then Some (PastSize size) else None) ≡ Some refusal → MayRefuseLimit sectors (Some wished) refusal
    past wished true lt is = subst (MayRefuseLimit sectors (Some wished)) (same-refusal (PastSize size) refusal is) (sym same, is-below size wished lt)
    past wished false lt is = absurd cc

    by : (b : Bool) (limit : Option ℕ) → (if b then Some (Busy Plan) else option_map_or (λ wished. if nat_lt size wished then Some (PastSize size) else None) limit None) ≡ Some refusal → MayRefuseLimit sectors limit refusal
    by true limit is = subst (MayRefuseLimit sectors limit) (same-refusal (Busy Plan) refusal is) tt
    by false None is = absurd cc
    by false (Some wished) is = past wished (nat_lt size wished) refl is

-- a reply that is the only entry of its call
replied-alone : {old new : List Entry} (size : ℕ) (request : Request) (who : Who) (end : ℕ) (event : Event) → who.number ≡ next_number who.caller old → new ≡ old ++ entry_of who end event ∷ [] → RunningAnswers size old [] request event
    → IsAnsweredWith size request who old new event
replied-alone {old = old} {new = new} size request who end event number is answers = record {
  inner = [];
  end = end;
  own = All-nil (λ e. IsOfCall who e);
  inside = All-nil (λ e. MayBeInner e.event);
  is = is;
  fits = subst (λ (l : List Entry). RunningFits size l (entry_of who end event) request) (sym (append-nil old)) (record {
    answers = subst (λ (call : List Entry). RunningAnswers size old call request event) (sym (none_before old who end event number)) answers;
    torn = subst (AreTornOf request) (sym (none_before old who end event number)) tt;
  });
}

pub grow-replied : {T : Type 0} (tells : Type 0) (world : World) (a : Asked) (size : ℕ) (wish : Wish) (who : Who) (old new : List Entry) (left : ℕ) (result : Result T Fault) → who.number ≡ next_number who.caller old
    → visible_of size old ≡ a.visible → IsGrowAnswered tells world a wish who old new (Planned left wish) result → IsGrowJudged a wish result → IsGrowReplied size wish who old new left result
grow-replied tells world a size wish who old new left (Ok x) number visible is judged = replied-alone size (AsksGrow wish) who is.end (Planned left wish) number is.is refl
grow-replied tells world a size wish who old new left (Err (IsRefusedWith refusal)) number visible is judged =
    replied-alone size (AsksGrow wish) who is.end (Refused refusal) number is.is (grow-may a wish (visible_of size old) refusal (sym visible) (first-of a wish refusal judged).holds)
grow-replied tells world a size wish who old new left (Err NoMemory) number visible is judged = is

-- so is one to a request to limit the list
pub limit-replied : {B : Type 0} (array : RunningParts B) (tells : Type 0) (world : World) (phases : ℕ) (members : Members) (size : ℕ) (limit : Option ℕ) (who : Who) (old new : List Entry) (visible count : ℕ) (result : Result ℕ Fault)
    → who.number ≡ next_number who.caller old → length_of size old ≡ list_length array.parts.members.newest → IsReplied tells world phases members (AsksVisible limit) who old new (Visible limit count) result
    → IsVisibleJudged (limit_refusal array limit) visible result → IsRepliedWith size (AsksVisible limit) who old new (Visible limit count) result
limit-replied array tells world phases members size limit who old new visible count (Ok x) number sized is judged = replied-alone size (AsksVisible limit) who is.end (Visible limit count) number is.is refl
limit-replied array tells world phases members size limit who old new visible count (Err (IsRefusedWith refusal)) number sized is judged =
    replied-alone size (AsksVisible limit) who is.end (Refused refusal) number is.is
    (limit-may (is_reshaping array.parts.members.newest) (length (phases_of array.ahead)) (list_length array.parts.members.newest) (length_of size old) limit refusal sized judged)
limit-replied array tells world phases members size limit who old new visible count (Err NoMemory) number sized is judged = is

-- ---- what it leaves

-- it blames no slot
grow-blames : (a : Asked) (wish : Wish) (backup : Option ℕ) (before now : ℕ → ℕ) (refusal : Refusal) → IsUngrowable a wish refusal → IsRefusalBy backup before now refusal
grow-blames a wish backup before now (SlotFault slot) is = absurd is
grow-blames a wish backup before now BackupFault is = absurd is
grow-blames a wish backup before now refusal is = tt

limit-blames : (sectors : ℕ) (limit backup : Option ℕ) (before now : ℕ → ℕ) (refusal : Refusal) → MayRefuseLimit sectors limit refusal → IsRefusalBy backup before now refusal
limit-blames sectors limit backup before now (SlotFault slot) is = absurd is
limit-blames sectors limit backup before now BackupFault is = absurd is
limit-blames sectors limit backup before now refusal is = tt

module _ {B : Type 0} (tells : Type 0) (given : B → Given) (tape : B → List Operation) (faults : B → ℕ → ℕ) (old new : RunningParts B) (before : IsAsBefore old new) where
  still-same : is_reshaping old.parts.members.newest ≡ false → is_reshaping new.parts.members.newest ≡ false
  still-same still = ap (λ (m : Members). is_reshaping m.newest) before.members ∙ still

  -- One event alone was entered, which tells no loss and changes no length; unless it tells a plan, the same is ahead.
  went-alone : (who : Who) (end : ℕ) (event : Event) → new.parts.entries ≡ old.parts.entries ++ entries_of who end (event ∷ []) → ((n : ℕ) → length_after n event ≡ n)
      → IsLossBy (MayHoldBehind old.parts.members []) (WasSpareOrHolder old.parts.members) (faults old.parts.bank) (faults new.parts.bank) event → IsRefusalToldBy old.parts.backup (faults old.parts.bank) (faults new.parts.bank) event
      → (is_planned event ≡ false → new.ahead ≡ old.ahead) → HasRunOn tells given tape faults old new
  went-alone who end event is kept loss told ahead = record {
    more = entries_of who end (event ∷ []);
    grown = is;
    sized = ap (λ (m : Members). list_length m.newest) before.members ∙ sym (kept (list_length old.parts.members.newest));
    held = record {
      roles = λ role slot had. inl (inl (subst (λ (m : Members). Held m role slot) before.members had));
      spares = λ slot spare. inl (subst (λ (m : Members). has_spare m.spares slot ≡ true) before.members spare);
    };
    losses = (loss, tt);
    refusals = record {
      more = entries_of who end (event ∷ []);
      grown = is;
      told = All-cons (λ e. IsRefusalToldBy old.parts.backup (faults old.parts.bank) (faults new.parts.bank) e.event) (entry_of who end event) [] told
          (All-nil (λ e. IsRefusalToldBy old.parts.backup (faults old.parts.bank) (faults new.parts.bank) e.event));
    };
    grows = record { more = λ t. ([], ap tape before.bank ∙ sym (append-nil (tape old.parts.bank))) };
    never_falls = λ slot. (let same : faults new.parts.bank slot ≡ faults old.parts.bank slot = ap (λ b. faults b slot) before.bank in omega (arith, same));
    given_is = ap given before.bank;
    same = record { uuid = before.uuid; given = before.given; first = before.first; backup = before.backup };
    active = λ still none. still-same still;
    ahead = λ none unplanned. ap (λ (p : PhasesLeft). phases_of p) (ahead (unplanned-event (is_planned event) unplanned)) ∙ none;
  }
    where
      unplanned-event : (b : Bool) → (b || false) ≡ false → b ≡ false
      unplanned-event false is = refl
      unplanned-event true is = absurd (cc)

  -- nothing was entered
  went-none : new.parts.entries ≡ old.parts.entries → new.ahead ≡ old.ahead → HasRunOn tells given tape faults old new
  went-none is ahead = record {
    more = [];
    grown = is ∙ sym (append-nil old.parts.entries);
    sized = ap (λ (m : Members). list_length m.newest) before.members;
    held = record {
      roles = λ role slot had. inl (inl (subst (λ (m : Members). Held m role slot) before.members had));
      spares = λ slot spare. inl (subst (λ (m : Members). has_spare m.spares slot ≡ true) before.members spare);
    };
    losses = tt;
    refusals = record {
      more = [];
      grown = is ∙ sym (append-nil old.parts.entries);
      told = All-nil (λ e. IsRefusalToldBy old.parts.backup (faults old.parts.bank) (faults new.parts.bank) e.event);
    };
    grows = record { more = λ t. ([], ap tape before.bank ∙ sym (append-nil (tape old.parts.bank))) };
    never_falls = λ slot. (let same : faults new.parts.bank slot ≡ faults old.parts.bank slot = ap (λ b. faults b slot) before.bank in omega (arith, same));
    given_is = ap given before.bank;
    same = record { uuid = before.uuid; given = before.given; first = before.first; backup = before.backup };
    active = λ still none. still-same still;
    ahead = λ none unplanned. ap (λ (p : PhasesLeft). phases_of p) ahead ∙ none;
  }

  pub grow-went : {T : Type 0} (world : World) (a : Asked) (wish : Wish) (who : Who) (left : ℕ) (result : Result T Fault)
      → IsGrowAnswered tells world a wish who old.parts.entries new.parts.entries (Planned left wish) result → IsGrowJudged a wish result → OnErr result (new.ahead ≡ old.ahead) → HasRunOn tells given tape faults old new
  grow-went world a wish who left (Ok x) is judged ahead = went-alone who is.end (Planned left wish) is.is (λ n. refl) tt tt (λ unplanned. absurd (cc))
  grow-went world a wish who left (Err (IsRefusedWith refusal)) is judged ahead =
      went-alone who is.end (Refused refusal) is.is (λ n. refl) tt (grow-blames a wish old.parts.backup (faults old.parts.bank) (faults new.parts.bank) refusal (first-of a wish refusal judged).holds) (λ unplanned. ahead)
  grow-went world a wish who left (Err NoMemory) is judged ahead = went-none is ahead

  pub limit-went : (world : World) (phases : ℕ) (members : Members) (limit : Option ℕ) (who : Who) (visible count : ℕ) (result : Result ℕ Fault)
      → IsReplied tells world phases members (AsksVisible limit) who old.parts.entries new.parts.entries (Visible limit count) result → IsVisibleJudged (limit_refusal old limit) visible result → new.ahead ≡ old.ahead → HasRunOn tells given tape faults old new
  limit-went world phases members limit who visible count (Ok x) is judged ahead = went-alone who is.end (Visible limit count) is.is (λ n. refl) tt tt (λ unplanned. ahead)
  limit-went world phases members limit who visible count (Err (IsRefusedWith refusal)) is judged ahead =
      went-alone who is.end (Refused refusal) is.is (λ n. refl) tt (limit-blames (list_length old.parts.members.newest) limit old.parts.backup (faults old.parts.bank) (faults new.parts.bank) refusal
      (limit-may (is_reshaping old.parts.members.newest) (length (phases_of old.ahead)) (list_length old.parts.members.newest) (list_length old.parts.members.newest) limit refusal refl judged)) (λ unplanned. ahead)
  limit-went world phases members limit who visible count (Err NoMemory) is judged ahead = went-none is ahead
