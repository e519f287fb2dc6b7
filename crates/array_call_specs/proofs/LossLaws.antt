-- What a history tells of losses, and where it ended.
use Rattle.std.proofs.Common.{◌≡◌, ◌||◌, inl, inr, ℕ, drop, Bool, true, false, Some, List, [], ◌∷◌, ◌++◌, length, refl, sym, ◌∙◌, ap, subst, arith}
use Rattle.std.proofs.lemmas.List.Elements.{All-nil, All-cons}
use Rattle.std.specs.Prelude.{IsFalse}
use Rattle.std.proofs.lemmas.Bool.Decides.{nat_tests}
use Rattle.std.proofs.lemmas.List.Folds.{list_any-append}
use Rattle.std.specs.List.{All, list_any}
use Rattle.raid_types.specs.Sectors.{Sector}
use Rattle.raid_types.specs.declared.answers.Who.{Who}
use Rattle.raid_types.specs.declared.answers.Refusal.{Refusal}
use Rattle.history_append.specs.bank_the_Operation.{Operation}
use Rattle.history_append.specs.sb_specs_the_Members.{Members}
use Rattle.history_append.specs.sb_specs_Reading.{role_state, holder}
use Rattle.history_append.specs.stripe_row_Rows.{reading_of}
use Rattle.history_append.specs.history_the_Entry.{Entry}
use Rattle.history_append.specs.history_the_Event.{Event}
use Rattle.history_append.specs.history_the_Event_TheVariants.{Torn, Lost, Failed, Refused}
use Rattle.history_append.specs.history_the_LostCause_TheVariants.{Command}
use Rattle.history_append.specs.history_Plain.{entries_of}
use Rattle.history_append.specs.history_Transfers.{last_end_from}
use Rattle.history_append.specs.array_members_Placed.{AreStillHeld}
use Rattle.history_append.specs.Losing.{losses_of, failure_events}
use Rattle.history_append.specs.array_members_Lacking.{AreLostSince}
use Rattle.array_call_specs.specs.Calls.{IsLossBy, WasSpare, AreLossesBy, AreLossesOf, IsEndOf, IsBehind, AreSparesFewer, IsSettling, is_torn, has_torn}
use Rattle.history_append.specs.array_members_Rebuilding.{Held}
use Rattle.history_append.proofs.PlainLaws.{one}
use Rattle.history_append.proofs.LosingLaws.{entries-both, no-losses}
use Rattle.history_append.proofs.CallLaws.{all-losses, last_end-behind}

-- Losses, and events behind them that tell of none; each role that was lost was held by a slot that may have had it, and each slot was a spare that may have been one.
module _ (Had : ℕ → ℕ → Type 0) (Was : ℕ → Type 0) (old after : Members) (had : (role slot : ℕ) → Held old role slot → Had role slot) (was : (slot : ℕ) → WasSpare old slot → Was slot) (before now : ℕ → ℕ) (entries mid new : List Entry) (who : Who) (end roles spares : ℕ)
    (since : AreLostSince old after roles spares before now) (mid_is : mid ≡ entries) where
  pub losses-tail : (tail : List Event) → All (λ e. IsLossBy Had Was before now e.event) (entries_of who end tail) → new ≡ mid ++ entries_of who end (losses_of roles spares ++ tail) → AreLossesBy Had Was before now entries new
  losses-tail tail rest is = record {
    more = entries_of who end (losses_of roles spares ++ tail);
    grown = is ∙ ap (λ (l : List Entry). l ++ entries_of who end (losses_of roles spares ++ tail)) mid_is;
    failed = all-losses (λ event. IsLossBy Had Was before now event) who end roles spares tail (λ role has. let lost = since.held role has in (lost.0, had role lost.0 lost.1, lost.2))
        (λ slot has. (was slot (since.were slot has), since.failed slot has)) rest;
  }

  pub losses-before : (event : Event) → IsLossBy Had Was before now event → new ≡ mid ++ entries_of who end (losses_of roles spares ++ event ∷ []) → AreLossesBy Had Was before now entries new
  losses-before event none is =
      losses-tail (event ∷ []) (All-cons (λ e. IsLossBy Had Was before now e.event) (one who end event) [] none (All-nil (λ e. IsLossBy Had Was before now e.event))) is

-- where roles are only lost
pub losses-behind : (old after : Members) (before now : ℕ → ℕ) (entries mid new : List Entry) (who : Who) (end roles spares : ℕ) (event : Event) → AreLostSince old after roles spares before now
    → IsLossBy (Held old) (WasSpare old) before now event → mid ≡ entries → new ≡ mid ++ entries_of who end (losses_of roles spares ++ event ∷ []) → AreLossesOf old before now entries new
losses-behind old after before now entries mid new who end roles spares event since none mid_is is =
    losses-before (Held old) (WasSpare old) old after (λ role slot held. held) (λ slot is. is) before now entries mid new who end roles spares since mid_is event none is

assoc : (xs : List Event) (x y : Event) → (xs ++ x ∷ []) ++ y ∷ [] ≡ xs ++ x ∷ y ∷ []
assoc [] x y = refl
assoc (z ∷ xs) x y = ap (λ (l : List Event). z ∷ l) (assoc xs x y)

pub losses-failure : (old after : Members) (before now : ℕ → ℕ) (entries mid new : List Entry) (who : Who) (end roles spares : ℕ) (torn : Bool) (at : ℕ) (body : List Sector) (refusal : Refusal)
    → AreLostSince old after roles spares before now → mid ≡ entries → new ≡ mid ++ entries_of who end (failure_events roles spares torn at body refusal) → AreLossesOf old before now entries new
losses-failure old after before now entries mid new who end roles spares true at body refusal since mid_is is =
    losses-tail (Held old) (WasSpare old) old after (λ role slot held. held) (λ slot is. is) before now entries mid new who end roles spares since mid_is (Torn at body ∷ Refused refusal ∷ [])
    (All-cons (λ e. IsLossBy (Held old) (WasSpare old) before now e.event) (one who end (Torn at body)) (one who end (Refused refusal) ∷ []) tt
    (All-cons (λ e. IsLossBy (Held old) (WasSpare old) before now e.event) (one who end (Refused refusal)) [] tt (All-nil (λ e. IsLossBy (Held old) (WasSpare old) before now e.event))))
    (is ∙ ap (λ (l : List Event). mid ++ entries_of who end l) (assoc (losses_of roles spares) (Torn at body) (Refused refusal)))
losses-failure old after before now entries mid new who end roles spares false at body refusal since mid_is is =
    losses-behind old after before now entries mid new who end roles spares (Refused refusal) since tt mid_is is

-- a role that was taken out by command, and what was lost while it was named
pub losses-failed : (old out after : Members) (before now : ℕ → ℕ) (entries mid new : List Entry) (who : Who) (end role slot roles spares : ℕ) → AreStillHeld old out → AreSparesFewer old out → AreLostSince out after roles spares before now
    → holder (role_state (reading_of old) role) ≡ Some slot → mid ≡ entries → new ≡ mid ++ entries_of who end ((Lost role Command ∷ losses_of roles spares) ++ Failed role ∷ []) → AreLossesOf old before now entries new
losses-failed old out after before now entries mid new who end role slot roles spares still fewer since held mid_is is = record {
  more = entries_of who end ((Lost role Command ∷ losses_of roles spares) ++ Failed role ∷ []);
  grown = is ∙ ap (λ (l : List Entry). l ++ entries_of who end ((Lost role Command ∷ losses_of roles spares) ++ Failed role ∷ [])) mid_is;
  failed = All-cons (λ e. IsLossBy (Held old) (WasSpare old) before now e.event) (one who end (Lost role Command)) (entries_of who end (losses_of roles spares ++ Failed role ∷ [])) (slot, held)
      (all-losses (λ event. IsLossBy (Held old) (WasSpare old) before now event) who end roles spares (Failed role ∷ []) (λ r has. let h = since.held r has in (h.0, still r h.0 h.1, h.2))
      (λ s has. (fewer s (since.were s has), since.failed s has))
      (All-cons (λ e. IsLossBy (Held old) (WasSpare old) before now e.event) (one who end (Failed role)) [] tt (All-nil (λ e. IsLossBy (Held old) (WasSpare old) before now e.event))));
}

-- ---- where a call ended

pub ended-behind : {tells : Type 0} {new : List Entry} (tape : List Operation) (first : ℕ) (old : List Entry) (who : Who) (end : ℕ) (inner : List Event) (event : Event)
    → new ≡ old ++ entries_of who end (inner ++ event ∷ []) → (tells → end ≡ length tape) → IsEndOf tells first new tape
ended-behind tape first old who end inner event is at_end told = ap (λ (l : List Entry). last_end_from first l) is ∙ last_end-behind first old who end inner event ∙ at_end told

pub ended-failure : {tells : Type 0} {new : List Entry} (tape : List Operation) (first : ℕ) (old : List Entry) (who : Who) (end roles spares : ℕ) (torn : Bool) (at : ℕ) (body : List Sector) (refusal : Refusal)
    → new ≡ old ++ entries_of who end (failure_events roles spares torn at body refusal) → (tells → end ≡ length tape) → IsEndOf tells first new tape
ended-failure tape first old who end roles spares true at body refusal is at_end = ended-behind tape first old who end (losses_of roles spares ++ Torn at body ∷ []) (Refused refusal) is at_end
ended-failure tape first old who end roles spares false at body refusal is at_end = ended-behind tape first old who end (losses_of roles spares) (Refused refusal) is at_end

-- ---- what a call answered

pub behind-alone : {old mid new : List Entry} (who : Who) (end : ℕ) (event : Event) → mid ≡ old → new ≡ mid ++ entries_of who end (event ∷ []) → IsBehind who old new event
behind-alone {old = old} {mid = mid} who end event mid_is is = record {
  roles = 0;
  spares = 0;
  end = end;
  is = is ∙ ap (λ (l : List Entry). l ++ entries_of who end (event ∷ [])) mid_is ∙ ap (λ (l : List Event). old ++ entries_of who end (l ++ event ∷ [])) (sym no-losses);
}

pub settling-no-loss : (members : Members) (before now : ℕ → ℕ) (event : Event) → IsSettling event → IsLossBy (Held members) (WasSpare members) before now event
settling-no-loss members before now event (inl is) = subst (IsLossBy (Held members) (WasSpare members) before now) (sym is) tt
settling-no-loss members before now event (inr is) = subst (IsLossBy (Held members) (WasSpare members) before now) (sym is) tt

-- ---- torn writes

drop-past : (xs ys : List Entry) → drop (length xs) (xs ++ ys) ≡ ys
drop-past [] ys = refl
drop-past (x ∷ xs) ys = drop-past xs ys

pub torn-told : {old mid new : List Entry} (who : Who) (end roles spares : ℕ) (torn : Bool) (at : ℕ) (body : List Sector) (refusal : Refusal) → mid ≡ old
    → new ≡ mid ++ entries_of who end (failure_events roles spares torn at body refusal) → IsFalse (has_torn old new) → torn ≡ false
torn-told who end roles spares false at body refusal mid_is is none = refl
torn-told {old = old} {mid = mid} who end roles spares true at body refusal mid_is is none = absurd (
    let whole = is ∙ ap (λ (l : List Entry). l ++ entries_of who end (failure_events roles spares true at body refusal)) mid_is in
    let here = ap (λ (l : List Entry). has_torn old l) whole
    ∙ ap (λ (l : List Entry). list_any (λ e. is_torn e.event) l) (drop-past old (entries_of who end (failure_events roles spares true at body refusal)))
    ∙ ap (λ (l : List Event). list_any (λ e. is_torn e.event) (entries_of who end l)) (assoc (losses_of roles spares) (Torn at body) (Refused refusal))
    ∙ ap (λ (l : List Entry). list_any (λ e. is_torn e.event) l) (entries-both who end (losses_of roles spares) (Torn at body ∷ Refused refusal ∷ []))
    ∙ list_any-append (λ e. is_torn e.event) (entries_of who end (losses_of roles spares)) (entries_of who end (Torn at body ∷ Refused refusal ∷ []))
    ∙ last (list_any (λ e. is_torn e.event) (entries_of who end (losses_of roles spares))) in
    cc
    )
  where
    last : (b : Bool) → (b || true) ≡ true
    last b = grind (arith, nat_tests)
