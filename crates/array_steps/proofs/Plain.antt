-- A step that neither begins nor ends a reshape, and one that is refused.
use Rattle.std.proofs.Common.{◌≡◌, inl, ℕ, ◌<◌, ◌++◌, Bool, true, false, List, [], ◌∷◌, MatchBool, refl, sym, ◌∙◌, ap, subst, arith, append-nil}
use Rattle.std.proofs.lemmas.List.Elements.{All-nil, All-weaker}
use Rattle.std.specs.List.{All, list_any}
use Rattle.array.specs.raid_types_the_Refusal.{Refusal}
use Rattle.array.specs.raid_types_the_Who.{Who}
use Rattle.array.specs.bank_the_Operation.{Operation}
use Rattle.array.specs.bank_Given.{Given, NeverFalls}
use Rattle.array.specs.sb_specs_Reading.{is_reshaping, list_length}
use Rattle.array.specs.history_the_Entry.{Entry}
use Rattle.array.specs.history_the_Event.{Event}
use Rattle.array.specs.history_the_Event_TheVariants.{Refused}
use Rattle.array.specs.history_Flat.{next_number}
use Rattle.array.specs.history_OneShape.{IsOfCall}
use Rattle.array.specs.history_Plain.{entries_of}
use Rattle.array.specs.history_Reshaped.{is_done}
use Rattle.array.specs.history_append_Losing.{losses_of}
use Rattle.array.specs.array_members_Moving.{Grows}
use Rattle.array.specs.array_members_Rebuilding.{MayHold}
use Rattle.array.specs.array_call_specs_Calls.{AreHeldOrSpare, WasSpare, AreLossesBy, AreStepsFewer, IsBehind, IsEndOf}
use Rattle.array.specs.reshape_request_Left.{phases_of}
use Rattle.array.specs.reshape_request_the_PhasesLeft.{PhasesLeft}
use Rattle.array.specs.history_invariant_Recorded.{MayGoOn, IsCallGoing}
use Rattle.array.specs.array_specs_Parts.{RunningParts}
use Rattle.array.specs.array_fixed_laws_Steps.{IsClosable}
use Rattle.array.specs.array_transition_Begun.{is_resize, HasKeptLength}
use Rattle.array.specs.array_reply_specs_Replies.{EndsRunningSteps, IsRefusalBy, IsRefusalToldBy}
use Rattle.array.specs.array_reply_specs_Going.{is_finish, IsSameEpoch}
use Rattle.array.specs.Calls.{running_left, MayEndSteps}
use Rattle.array_steps.specs.Steps.{IsOpenFor, TellsLeft, KeepsItsWay, IsStepDone, IsStepRefused}
use Rattle.array_steps.proofs.Events.{each-behind, each-entry, any-none, IsOfStep, of-goes, of-told, of-lengthless, of-unfinished, of-undone, of-unrefused, IsStepEntries, long-kept, going-more, kept-more, refused-own}
use Rattle.array_steps.proofs.Went.{held-behind, losses-along}

-- ---- a call that goes on

open-going : (entries : List Entry) (who : Who) (b : Bool) → MatchBool b (IsCallGoing entries who) (HasKeptLength entries who) → IsCallGoing entries who
open-going entries who true was = was
open-going entries who false was = was.goes

pub going-of : {B : Type 0} (array : RunningParts B) (who : Who) → IsOpenFor array who → IsCallGoing array.parts.entries who
going-of array who was = open-going array.parts.entries who (is_reshaping array.parts.members.newest) was

pub open-moving : {B : Type 0} (array : RunningParts B) (who : Who) → is_reshaping array.parts.members.newest ≡ true → IsCallGoing array.parts.entries who → IsOpenFor array who
open-moving array who active goes = subst (λ (b : Bool). MatchBool b (IsCallGoing array.parts.entries who) (HasKeptLength array.parts.entries who)) (sym active) goes

pub open-still : {B : Type 0} (array : RunningParts B) (who : Who) → is_reshaping array.parts.members.newest ≡ false → HasKeptLength array.parts.entries who → IsOpenFor array who
open-still array who still kept = subst (λ (b : Bool). MatchBool b (IsCallGoing array.parts.entries who) (HasKeptLength array.parts.entries who)) (sym still) kept

-- a call that begins
pub open-begins : {B : Type 0} (array : RunningParts B) (who : Who) → who.number ≡ next_number who.caller array.parts.entries → IsOpenFor array who
open-begins array who number = by (is_reshaping array.parts.members.newest)
  where
    goes : IsCallGoing array.parts.entries who
    goes = record { before = array.parts.entries; call = []; is = sym (append-nil array.parts.entries); own = All-nil (λ e. IsOfCall who e × MayGoOn e.event); number = number }

    by : (b : Bool) → MatchBool b (IsCallGoing array.parts.entries who) (HasKeptLength array.parts.entries who)
    by true = goes
    by false = record { goes = goes; lengths = refl; steps = refl }

-- ---- the steps that are left

pub fewer-as : (old new : List Entry) (a b c d : ℕ) → c ≡ a → d ≡ b → AreStepsFewer old new a b → AreStepsFewer old new c d
fewer-as old new a b c d first second was = record {
  one = λ quiet. let one = was.one quiet in omega (arith, one, first, second);
  some = λ quiet. let some = was.some quiet in omega (arith, some, first, second);
}

-- ---- what each kind of step leaves, beside what it enters

-- The bank went on, members may have lost slots, or given roles to spares, and it is the array of the same epoch.
pub record IsPlainStep {B : Type 0} (tells : Type 0) (given : B → Given) (tape : B → List Operation) (faults : B → ℕ → ℕ) (Had : ℕ → ℕ → Type 0) (old new : RunningParts B) : Type 0 where
  pub long : list_length new.parts.members.newest ≡ list_length old.parts.members.newest
  pub held : AreHeldOrSpare old.parts.members new.parts.members
  pub had : (role slot : ℕ) → Had role slot → MayHold old.parts.members role slot
  pub losses : AreLossesBy Had (WasSpare old.parts.members) (faults old.parts.bank) (faults new.parts.bank) old.parts.entries new.parts.entries
  pub grows : Grows tells (tape old.parts.bank) (tape new.parts.bank)
  pub never_falls : NeverFalls (faults old.parts.bank) (faults new.parts.bank)
  pub given_is : given new.parts.bank ≡ given old.parts.bank
  pub epoch : IsSameEpoch old new
  pub active : is_reshaping old.parts.members.newest ≡ false → is_reshaping new.parts.members.newest ≡ false
  pub ahead : new.ahead ≡ old.ahead
  pub kept : KeepsItsWay (faults old.parts.bank) (faults new.parts.bank) old new
  pub ended : IsEndOf tells new.parts.first new.parts.entries (tape new.parts.bank)

module _ {B : Type 0} (tells : Type 0) (given : B → Given) (tape : B → List Operation) (faults : B → ℕ → ℕ) (who : Who) (old new : RunningParts B) where
  pub plain-done : (Had : ℕ → ℕ → Type 0) → IsPlainStep tells given tape faults Had old new → IsStepEntries who old.parts.entries new.parts.entries (running_left new) → IsCallGoing old.parts.entries who
      → is_reshaping new.parts.members.newest ≡ is_reshaping old.parts.members.newest → AreStepsFewer old.parts.entries new.parts.entries (running_left old) (running_left new)
      → (is_reshaping new.parts.members.newest ≡ false → IsClosable new) → IsStepDone tells given tape faults who old new false
  plain-done Had did so goes same fewer closable = record {
    inner = so.inner;
    is = so.is;
    own = own;
    told = All-weaker (λ e. IsOfCall who e × IsOfStep (running_left new) e.event) (λ e. TellsLeft (running_left new) e.event) (λ e is. of-told (running_left new) e.event is.1) so.inner so.own;
    one = so.one;
    over_told = sym (any-none is_finish (IsOfStep (running_left new)) (of-unfinished (running_left new)) so.inner each);
    left = λ still. fewer;
    next_open = λ still some kept. subst (λ (b : Bool). MatchBool b (IsCallGoing new.parts.entries who) (HasKeptLength new.parts.entries who)) (sym same) (by (is_reshaping old.parts.members.newest) kept some);
    going = going;
    closable = closable;
    went = record {
      more = so.inner;
      grown = so.is;
      sized = did.long ∙ sym (long-kept so.inner lengthless (list_length old.parts.members.newest));
      held = held-behind old.parts.members new.parts.members so.inner did.held;
      losses = losses-along old.parts.members (faults old.parts.bank) (faults new.parts.bank) Had (WasSpare old.parts.members) did.had (λ slot was. inl was) old.parts.entries new.parts.entries so.inner so.is did.losses;
      refusals = record {
        more = so.inner;
        grown = so.is;
        told = All-weaker (λ e. IsOfStep (running_left new) e.event) (λ e. IsRefusalToldBy old.parts.backup (faults old.parts.bank) (faults new.parts.bank) e.event)
            (λ e is. of-unrefused (running_left new) old.parts.backup (faults old.parts.bank) (faults new.parts.bank) e.event is) so.inner each;
      };
      grows = did.grows;
      never_falls = did.never_falls;
      given_is = did.given_is;
      same = did.epoch;
      active = λ still none. did.active still;
      ahead = λ empty none. ap (λ (p : PhasesLeft). phases_of p) did.ahead ∙ empty;
    };
    kept = did.kept;
    ended = did.ended;
  }
    where
      each : All (λ e. IsOfStep (running_left new) e.event) so.inner
      each = All-weaker (λ e. IsOfCall who e × IsOfStep (running_left new) e.event) (λ e. IsOfStep (running_left new) e.event) (λ e is. is.1) so.inner so.own

      own : All (λ e. IsOfCall who e × MayGoOn e.event) so.inner
      own = All-weaker (λ e. IsOfCall who e × IsOfStep (running_left new) e.event) (λ e. IsOfCall who e × MayGoOn e.event) (λ e is. (is.0, of-goes (running_left new) e.event is.1)) so.inner so.own

      lengthless : list_any (λ e. is_resize e.event) so.inner ≡ false
      lengthless = any-none is_resize (IsOfStep (running_left new)) (of-lengthless (running_left new)) so.inner each

      going : IsCallGoing new.parts.entries who
      going = going-more so.inner goes so.is own

      by : (b : Bool) → MatchBool b (IsCallGoing old.parts.entries who) (HasKeptLength old.parts.entries who) → 0 < running_left new → MatchBool b (IsCallGoing new.parts.entries who) (HasKeptLength new.parts.entries who)
      by true was some = going
      by false was some = kept-more so.inner was so.is own lengthless (any-none is_done (IsOfStep (running_left new)) (of-undone (running_left new) some) so.inner each)

  pub plain-refused : (Had : ℕ → ℕ → Type 0) (refusal : Refusal) → IsPlainStep tells given tape faults Had old new → IsBehind who old.parts.entries new.parts.entries (Refused refusal) → IsCallGoing old.parts.entries who
      → EndsRunningSteps refusal → IsRefusalBy old.parts.backup (faults old.parts.bank) (faults new.parts.bank) refusal → MayEndSteps new refusal → IsStepRefused tells given tape faults who old new refusal
  plain-refused Had refusal did behind goes why cause right = record {
    behind = behind;
    why = why;
    cause = cause;
    right = right;
    going = going-more inner goes behind.is (refused-own who behind.end behind.roles behind.spares refusal);
    went = record {
      more = inner;
      grown = behind.is;
      sized = did.long ∙ sym (long-kept inner lengthless (list_length old.parts.members.newest));
      held = held-behind old.parts.members new.parts.members inner did.held;
      losses = losses-along old.parts.members (faults old.parts.bank) (faults new.parts.bank) Had (WasSpare old.parts.members) did.had (λ slot was. inl was) old.parts.entries new.parts.entries inner behind.is did.losses;
      refusals = record {
        more = inner;
        grown = behind.is;
        told = each-entry (IsRefusalToldBy old.parts.backup (faults old.parts.bank) (faults new.parts.bank)) who behind.end events
            (each-behind (IsRefusalToldBy old.parts.backup (faults old.parts.bank) (faults new.parts.bank)) (λ role. tt) (λ slot. tt) behind.roles behind.spares (Refused refusal ∷ []) (cause, tt));
      };
      grows = did.grows;
      never_falls = did.never_falls;
      given_is = did.given_is;
      same = did.epoch;
      active = λ still none. did.active still;
      ahead = λ empty none. ap (λ (p : PhasesLeft). phases_of p) did.ahead ∙ empty;
    };
    kept = did.kept;
    ended = did.ended;
  }
    where
      events : List Event
      events = losses_of behind.roles behind.spares ++ Refused refusal ∷ []

      inner : List Entry
      inner = entries_of who behind.end events

      lengthless : list_any (λ e. is_resize e.event) inner ≡ false
      lengthless = any-none is_resize (λ event. is_resize event ≡ false) (λ event is. is) inner
          (each-entry (λ event. is_resize event ≡ false) who behind.end events (each-behind (λ event. is_resize event ≡ false) (λ role. refl) (λ slot. refl) behind.roles behind.spares (Refused refusal ∷ []) (refl, tt)))
