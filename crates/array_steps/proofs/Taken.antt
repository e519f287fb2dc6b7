-- A step by which the level is taken over, or can't be.
use Rattle.std.proofs.Common.{◌≡◌, ◌⊎◌, inl, inr, ℕ, Bool, true, false, List, [], ◌∷◌, refl, sym, ◌∙◌, ap, subst, arith}
use Rattle.std.specs.Prelude.{MatchBool}
use Rattle.std.specs.List.{All, list_any}
use Rattle.std.proofs.lemmas.List.Elements.{All-nil, All-cons, All-weaker}
use Rattle.array.specs.raid_types_the_Refusal.{Refusal}
use Rattle.array.specs.raid_types_the_Who.{Who}
use Rattle.array.specs.raid_types_the_Shape.{Shape}
use Rattle.array.specs.raid_types_the_Phase.{Phase}
use Rattle.array.specs.raid_types_the_Phase_TheVariants.{UpTo6, DownTo5}
use Rattle.array.specs.bank_the_Operation.{Operation}
use Rattle.array.specs.bank_Given.{Given, NeverFalls}
use Rattle.array.specs.sb_specs_the_Members.{Members}
use Rattle.array.specs.sb_specs_Reading.{is_reshaping, list_length}
use Rattle.array.specs.sb_specs_Reads.{has_spare}
use Rattle.array.specs.history_the_Entry.{Entry}
use Rattle.array.specs.history_the_Event.{Event}
use Rattle.array.specs.history_the_Event_TheVariants.{Step, Refused}
use Rattle.array.specs.history_the_StepKind_TheVariants.{TakenOver}
use Rattle.array.specs.history_OneShape.{IsOfCall}
use Rattle.array.specs.history_Plain.{entries_of}
use Rattle.array.specs.history_Reshaped.{is_done}
use Rattle.array.specs.reshape_sb_takeover_TakingOver.{taken_plan}
use Rattle.array.specs.array_takeover_TakenOver.{IsTakeoverNext, IsUntaken, IsLevelTaken, IsUntouched, StaysItself}
use Rattle.array.proofs.array_takeover_TakenFrom.{WasSpareOrHeld, plan-may, taken-roles, taken-spares}
use Rattle.array.specs.history_append_Losing.{losses_of}
use Rattle.array.proofs.history_append_PlainLaws.{one}
use Rattle.array.proofs.array_members_MovedLaws.{grows-none}
use Rattle.array.specs.array_members_Rebuilding.{Held}
use Rattle.array.specs.array_call_specs_Calls.{IsLossBy, WasSpare, IsEndOf}
use Rattle.array.proofs.array_call_specs_LossLaws.{behind-alone}
use Rattle.array.specs.reshape_request_the_PhasesLeft.{PhasesLeft}
use Rattle.array.specs.reshape_request_Left.{phases_of}
use Rattle.array.specs.history_invariant_Recorded.{MayGoOn, IsCallGoing}
use Rattle.array.specs.array_specs_Parts.{RunningParts, still_left}
use Rattle.array.specs.array_fixed_laws_Steps.{IsClosable}
use Rattle.array.specs.array_transition_Begun.{is_resize, HasKeptLength}
use Rattle.array.specs.array_reply_specs_Replies.{EndsRunningSteps, IsRefusalBy, IsRefusalToldBy}
use Rattle.array.specs.array_reply_specs_Going.{is_finish, MayBeDropped, IsSameEpoch}
use Rattle.array.specs.Calls.{running_left, MayEndSteps}
use Rattle.array_steps.specs.Steps.{TellsLeft, IsOpenFor, IsStepDone, IsStepRefused}
use Rattle.array_steps.proofs.Events.{EachOf, each-losses, each-own, any-none, count-one, IsNoStep, IsOfStep, of-goes, of-told, of-lengthless, of-unfinished, of-undone, of-unrefused, long-kept, going-more, kept-more}
use Rattle.array_steps.proofs.Went.{held-same, losses-along}
use Rattle.array.proofs.Kept.{aim-taken}
use Rattle.array_steps.proofs.Ways.{turn-told, TellsNoLoss, way-members}
use Rattle.array_steps.proofs.Plain.{open-still, fewer-as, plain-refused}
use Rattle.array.proofs.Answered.{left-still}

epoch-taken : {B : Type 0} (old new : RunningParts B) → StaysItself old new → IsSameEpoch old new
epoch-taken old new same = record { uuid = same.uuid; given = same.given; first = same.first; backup = same.backup }

-- no reshape is active, so the call that goes on has kept the length
still-open : {B : Type 0} (array : RunningParts B) (who : Who) → is_reshaping array.parts.members.newest ≡ false → IsOpenFor array who → HasKeptLength array.parts.entries who
still-open array who still kept = subst (λ (b : Bool). MatchBool b (IsCallGoing array.parts.entries who) (HasKeptLength array.parts.entries who)) still kept

-- ---- it is done

module _ {B : Type 0} (tells : Type 0) (given : B → Given) (tape : B → List Operation) (faults : B → ℕ → ℕ) (who : Who) (old new : RunningParts B) where
  pub take-done : (to : Shape) (behind : PhasesLeft) → IsTakeoverNext (phases_of old.ahead) to (phases_of behind) → is_reshaping old.parts.members.newest ≡ false → IsCallGoing old.parts.entries who
      → IsLevelTaken tells (given old.parts.bank) (tape old.parts.bank) (tape new.parts.bank) (faults old.parts.bank) (faults new.parts.bank) who to behind old new → given new.parts.bank ≡ given old.parts.bank
      → IsClosable new → IsStepDone tells given tape faults who old new false
  take-done to behind next still open_ was given_is closes = record {
    inner = inner;
    is = was.entered.is;
    own = own;
    told = All-weaker (λ e. IsOfCall who e × IsOfStep (running_left new) e.event) (λ e. TellsLeft (running_left new) e.event) (λ e is. of-told (running_left new) e.event is.1) inner so;
    one = inl (count-one who end [] (Step TakenOver left) (losses_of roles spares) tt refl (each-losses IsNoStep (λ role. refl) (λ slot. refl) roles spares));
    over_told = sym (any-none is_finish (IsOfStep (running_left new)) (of-unfinished (running_left new)) inner each);
    left = λ none. fewer-as old.parts.entries new.parts.entries (still_left old.parts.work old.parts.members old.ahead) (still_left new.parts.work new.parts.members new.ahead) (running_left old) (running_left new)
        (left-still old still) runs was.left;
    next_open = λ none some kept. open-still new who was.newest.still
        (kept-more inner (still-open old who still kept) was.entered.is own lengthless (any-none is_done (IsOfStep (running_left new)) (of-undone (running_left new) some) inner each));
    going = going-more inner open_ was.entered.is own;
    closable = λ none. closes;
    went = record {
      more = inner;
      grown = was.entered.is;
      sized = was.long ∙ sym (long-kept inner lengthless (list_length old.parts.members.newest));
      held = record {
        roles = λ role slot has. inl (taken-roles old.parts.members to was.slot was.chosen new.parts.members was.held role slot has);
        spares = λ slot is. spared slot (taken-spares old.parts.members to was.slot was.chosen new.parts.members was.spares slot is);
      };
      losses = losses-along old.parts.members (faults old.parts.bank) (faults new.parts.bank) (Held (taken_plan old.parts.members to was.slot)) (WasSpare (taken_plan old.parts.members to was.slot)) (plan-may old.parts.members to was.slot was.chosen)
          (λ slot is. taken-spares old.parts.members to was.slot was.chosen (taken_plan old.parts.members to was.slot) (λ s spare. spare) slot is) old.parts.entries new.parts.entries inner
          was.entered.is was.losses;
      refusals = record {
        more = inner;
        grown = was.entered.is;
        told = All-weaker (λ e. IsOfStep (running_left new) e.event) (λ e. IsRefusalToldBy old.parts.backup (faults old.parts.bank) (faults new.parts.bank) e.event)
            (λ e is. of-unrefused (running_left new) old.parts.backup (faults old.parts.bank) (faults new.parts.bank) e.event is) inner each;
      };
      grows = was.grows;
      never_falls = was.never_falls;
      given_is = given_is;
      same = epoch-taken old new was.same;
      active = λ none begun. was.newest.still;
      ahead = λ none unplanned. absurd (ahead-some next none);
    };
    kept = record {
      aim = aim-taken old new to behind still was.newest.still was.newest.shape was.ahead next;
      size = was.newest.size;
      limit = was.same.limit;
      unturned = turn-told old.parts.entries new.parts.entries inner was.entered.is refl;
      roles = λ before. turn-told old.parts.entries new.parts.entries inner was.entered.is refl;
      failed = λ before. turn-told old.parts.entries new.parts.entries inner was.entered.is refl;
      lost = λ before. turn-told old.parts.entries new.parts.entries inner was.entered.is refl;
    };
    ended = was.ended;
  }
    where
      end : ℕ
      end = was.entered.end

      roles : ℕ
      roles = was.entered.roles

      spares : ℕ
      spares = was.entered.spares

      left : ℕ
      left = still_left new.parts.work new.parts.members new.ahead

      events : List Event
      events = Step TakenOver left ∷ losses_of roles spares

      inner : List Entry
      inner = entries_of who end events

      runs : running_left new ≡ left
      runs = left-still new was.newest.still

      of-step : EachOf (IsOfStep (running_left new)) events
      of-step = (sym runs, each-losses (IsOfStep (running_left new)) (λ role. tt) (λ slot. tt) roles spares)

      so : All (λ e. IsOfCall who e × IsOfStep (running_left new) e.event) inner
      so = each-own (IsOfStep (running_left new)) who end events of-step

      each : All (λ e. IsOfStep (running_left new) e.event) inner
      each = All-weaker (λ e. IsOfCall who e × IsOfStep (running_left new) e.event) (λ e. IsOfStep (running_left new) e.event) (λ e is. is.1) inner so

      own : All (λ e. IsOfCall who e × MayGoOn e.event) inner
      own = All-weaker (λ e. IsOfCall who e × IsOfStep (running_left new) e.event) (λ e. IsOfCall who e × MayGoOn e.event) (λ e is. (is.0, of-goes (running_left new) e.event is.1)) inner so

      lengthless : list_any (λ e. is_resize e.event) inner ≡ false
      lengthless = any-none is_resize (IsOfStep (running_left new)) (of-lengthless (running_left new)) inner each

      -- the slot of the role that is dropped is a spare
      spared : (slot : ℕ) → WasSpareOrHeld old.parts.members slot → (has_spare old.parts.members.spares slot ≡ true) ⊎ MayBeDropped old.parts.members inner slot
      spared slot (inl spare) = inl spare
      spared slot (inr (role, held)) = inr (refl, role, held)

      ahead-some : IsTakeoverNext (phases_of old.ahead) to (phases_of behind) → phases_of old.ahead ≡ [] → ⊥
      ahead-some (inl up) none = absurd (let clash : ◌≡◌ {A = List Phase} [] (UpTo6 to ∷ phases_of behind) = sym none ∙ up in cc)
      ahead-some (inr down) none = absurd (let clash : ◌≡◌ {A = List Phase} [] (DownTo5 to ∷ phases_of behind) = sym none ∙ down in cc)

  -- ---- it isn't

  take-ends : (to : Shape) (refusal : Refusal) → IsUntaken old.parts.members to refusal → EndsRunningSteps refusal
  take-ends to refusal (inl (role, lowest, told)) = subst EndsRunningSteps (sym told) tt
  take-ends to refusal (inr (whole, six, none, told)) = subst EndsRunningSteps (sym told) (omega arith)

  take-cause : (before now : ℕ → ℕ) (to : Shape) (refusal : Refusal) → IsUntaken old.parts.members to refusal → IsRefusalBy old.parts.backup before now refusal
  take-cause before now to refusal (inl (role, lowest, told)) = subst (IsRefusalBy old.parts.backup before now) (sym told) tt
  take-cause before now to refusal (inr (whole, six, none, told)) = subst (IsRefusalBy old.parts.backup before now) (sym told) tt

  pub take-refused : (to : Shape) (refusal : Refusal) → IsCallGoing old.parts.entries who → IsUntouched tells (tape old.parts.bank) who refusal old new → IsUntaken old.parts.members to refusal → MayEndSteps new refusal
      → IsStepRefused tells given tape faults who old new refusal
  take-refused to refusal goes back caused right =
      plain-refused tells given tape faults who old new (Held old.parts.members) refusal
      (record {
        long = ap (λ (m : Members). list_length m.newest) back.members;
        held = held-same old.parts.members new.parts.members back.members;
        had = λ role slot has. inl has;
        losses = record {
          more = entries_of who back.end (Refused refusal ∷ []);
          grown = back.entered;
          failed = All-cons (λ e. IsLossBy (Held old.parts.members) (WasSpare old.parts.members) (faults old.parts.bank) (faults new.parts.bank) e.event) (one who back.end (Refused refusal)) [] tt (All-nil (λ e. IsLossBy (Held old.parts.members) (WasSpare old.parts.members) (faults old.parts.bank) (faults new.parts.bank) e.event));
        };
        grows = grows-none (λ t. ap tape back.bank);
        never_falls = same-faults back.bank;
        given_is = ap given back.bank;
        epoch = epoch-taken old new back.same;
        active = λ still. ap (λ (m : Members). is_reshaping m.newest) back.members ∙ still;
        ahead = back.ahead;
        kept = way-members (faults old.parts.bank) (faults new.parts.bank) old new (entries_of who back.end (Refused refusal ∷ [])) back.entered (All-cons (λ e. TellsNoLoss e.event) (one who back.end (Refused refusal)) [] tt (All-nil (λ e. TellsNoLoss e.event))) back.members back.ahead back.same.limit;
        ended = later back.bank back.ended;
      })
      (behind-alone who back.end (Refused refusal) refl back.entered) goes (take-ends to refusal caused) (take-cause (faults old.parts.bank) (faults new.parts.bank) to refusal caused) right
    where
      same-faults : new.parts.bank ≡ old.parts.bank → NeverFalls (faults old.parts.bank) (faults new.parts.bank)
      same-faults same slot = let is = ap (λ (b : B). faults b slot) same in omega (arith, is)

      later : new.parts.bank ≡ old.parts.bank → IsEndOf tells new.parts.first new.parts.entries (tape old.parts.bank) → IsEndOf tells new.parts.first new.parts.entries (tape new.parts.bank)
      later same ended = subst (λ (l : List Operation). IsEndOf tells new.parts.first new.parts.entries l) (sym (ap tape same)) ended
