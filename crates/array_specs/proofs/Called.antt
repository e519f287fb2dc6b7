-- What each call leaves that is done or refused, from what it did, whether a reshape is active or not.
use Rattle.std.proofs.Common.{◌≡◌, ◌≢◌, ℕ, ◌≤◌, ◌==◌, Option, Some, List, [], ◌∷◌, ◌++◌, length, refl, ◌∙◌, ap, subst, arith}
use Rattle.std.proofs.lemmas.List.Elements.{All-nil, All-cons}
use Rattle.std.specs.Prelude.{IsFalse, MatchOption, ⊤}
use Rattle.std.proofs.lemmas.Bool.Decides.{nat_tests}
use Rattle.array_reshaping_state.specs.bank_the_Operation.{Operation}
use Rattle.array_reshaping_state.specs.bank_Given.{Given, NeverFalls}
use Rattle.history_invariant_laws.specs.raid_types_the_Refusal.{Refusal}
use Rattle.history_invariant_laws.specs.raid_types_the_Who.{Who}
use Rattle.array_reshaping_state.specs.sb_specs_the_Members.{Members}
use Rattle.array_reshaping_state.specs.history_the_Entry.{Entry}
use Rattle.array_reshaping_state.specs.history_the_Event.{Event}
use Rattle.array_reshaping_state.specs.history_Plain.{entries_of}
use Rattle.array_reshaping_state.proofs.history_append_PlainLaws.{one}
use Rattle.array_reshaping_state.specs.crash_safety_laws_Safety.{IsRisen}
use Rattle.array_reshaping_state.specs.array_members_Lacking.{AreTooMany}
use Rattle.array_reshaping_state.specs.array_members_Rebuilding.{Held}
use Rattle.array_reshaping_state.specs.array_members_Moving.{Grows, IsMoved}
use Rattle.array_reshaping_state.specs.array_call_specs_Kept.{scope_in}
use Rattle.array_reshaping_state.specs.array_call_specs_Calls.{IsLossBy, WasSpare, AreLossesOf, IsEndOf}
use Rattle.array_reshaping_state.proofs.array_call_specs_ReadyLaws.{list-same}
use Rattle.array_specs.specs.Parts.{RunningParts}
use Rattle.array_specs.specs.Calls.{IsCalled}

-- no caller of the methods is the opening
pub not_254 : (n : ℕ) → n ≢ 254 → IsFalse (n == 254)
not_254 n ne = grind (arith, nat_tests, ne)

-- What a call does over the same bank: members may lose slots, and the epoch, the work, the phases ahead and the limit are those that they were.
pub record KeepsEpoch {B : Type 0} (old new : RunningParts B) : Type 0 where
  pub uuid : new.parts.uuid ≡ old.parts.uuid
  pub given : new.parts.given ≡ old.parts.given
  pub first : new.parts.first ≡ old.parts.first
  pub backup : new.parts.backup ≡ old.parts.backup
  pub work : new.parts.work ≡ old.parts.work
  pub ahead : new.ahead ≡ old.ahead
  pub limit : new.limit ≡ old.limit

pub called : {B : Type 0} {tells : Type 0} {given : Given} {tape tape' : List Operation} {before after : ℕ → ℕ} {old new : RunningParts B}
    → Grows tells tape tape' → IsMoved given old.parts.members new.parts.members → IsEndOf tells new.parts.first new.parts.entries tape'
    → AreLossesOf old.parts.members before after old.parts.entries new.parts.entries → NeverFalls before after → KeepsEpoch old new → (tells → old.parts.first ≤ length tape)
    → IsCalled tells given tape tape' before after old new
called {given = given} {old = old} {new = new} grows moved ended losses rises epoch begun = record {
  grows = grows;
  ended = ended;
  held = moved.held;
  spares = moved.fewer;
  losses = losses;
  never_falls = rises;
  work = epoch.work;
  same = record {
    array = record {
      uuid = epoch.uuid;
      given = epoch.given;
      first = epoch.first;
      backup = epoch.backup;
      shape = moved.shape;
      size = moved.size;
      list = list-same given (scope_in given old.parts.uuid old.parts.given old.parts.backup) old.parts.first refl
          (λ i. scope_in given (epoch.uuid i) (epoch.given i) (epoch.backup i)) epoch.first grows begun;
    };
    final = moved.reshape.final;
    backward = moved.reshape.backward;
    ahead = epoch.ahead;
    limit = epoch.limit;
  };
}

-- an event alone that tells of no loss
pub alone-lossless : (members : Members) (before after : ℕ → ℕ) (entries mid new : List Entry) (who : Who) (end : ℕ) (event : Event) → IsLossBy (Held members) (WasSpare members) before after event
    → mid ≡ entries → new ≡ mid ++ entries_of who end (event ∷ []) → AreLossesOf members before after entries new
alone-lossless members before after entries mid new who end event none mid_is is = record {
  more = entries_of who end (event ∷ []);
  grown = is ∙ ap (λ (l : List Entry). l ++ entries_of who end (event ∷ [])) mid_is;
  failed = All-cons (λ e. IsLossBy (Held members) (WasSpare members) before after e.event) (one who end event) [] none (All-nil (λ e. IsLossBy (Held members) (WasSpare members) before after e.event));
}

-- ---- what a call did

pub risen-told : {tells : Type 0} {old new : Members} {before after : List Operation} → IsRisen tells old new before after → tells → IsRisen ⊤ old new before after
risen-told rise t = record { left = rise.left; events = λ none live. rise.events t live }

pub many-of : (m : Members) (o : Option Refusal) (refusal : Refusal) → o ≡ Some refusal → MatchOption o ⊤ (AreTooMany m) → AreTooMany m refusal
many-of m o refusal is many = subst (λ (o : Option Refusal). MatchOption o ⊤ (AreTooMany m)) is many
