-- A running array that was asked what it tells of itself.
use Rattle.std.proofs.Common.{◌≡◌, ℕ, ◌+◌, ◌≤◌, Bool, true, false, Option, List, [], ◌∷◌, ◌++◌, length, append-nil, refl, sym, ◌∙◌, subst}
use Rattle.std.proofs.lemmas.List.Elements.{All-nil}
use Rattle.std.specs.Prelude.{MatchOption, MatchBool}
use Rattle.run_specs.specs.bank_the_Operation.{Operation}
use Rattle.run_specs.specs.raid_types_the_Who.{Who}
use Rattle.run_specs.specs.raid_types_the_Status.{Status}
use Rattle.run_specs.specs.history_the_Entry.{Entry}
use Rattle.run_specs.specs.history_the_Event.{Event}
use Rattle.run_specs.specs.history_the_Event_TheVariants.{Shown}
use Rattle.run_specs.specs.history_Flat.{length_of, limit_of}
use Rattle.run_specs.specs.history_OneShape.{IsOfCall}
use Rattle.run_specs.specs.sb_specs_Reading.{is_reshaping, list_length}
use Rattle.run_specs.specs.array_specs_Parts.{RunningParts, visible_in}
use Rattle.run_specs.specs.array_specs_Calls.{IsStatusFor}
use Rattle.run_specs.specs.array_specs_Still.{IsStillStatus}
use Rattle.run_specs.specs.array_Calls.{IsShownAs}
use Rattle.run_specs.specs.array_call_specs_Calls.{IsEntered}
use Rattle.run_specs.proofs.array_call_specs_ReplyLaws.{none-inside}
use Rattle.run_specs.specs.script_the_Line.{Line}
use Rattle.run_specs.specs.script_the_Line_TheVariants.{Detail, Mdstat}
use Rattle.run_specs.specs.Asked.{script_who, IsAskedAt}
use Rattle.run_specs.specs.Histories.{is_end}
use Rattle.run_specs.specs.Replies.{FitsLine}
use Rattle.run_specs.specs.Showing.{IsShown, TellsArray, IsToldAt}
use Rattle.run_specs.proofs.AskLaws.{one, entry_there, inner-inside}
use Rattle.run_requests.proofs.Called.{all-seen}

-- the call entered its status alone, which fits the line
shown_at : {tells : Type 0} {tape : List Operation} {old new : List Entry} (size place : ℕ) (line : Line) (who : Who) (status : Status) → who ≡ script_who old → IsEntered tells tape who old new (Shown status ∷ []) → place + 1 ≡ length new
    → ((e : Entry) → e.event ≡ Shown status → FitsLine size old e line) → IsAskedAt size line old new place
shown_at {tells = tells} {tape = tape} {old = old} {new = new} size place line who status script was at_end fits =
    let now = subst (λ (w : Who). IsEntered tells tape w old new (Shown status ∷ [])) script was in
    record { inner = []; event = Shown status; end = now.end; own = All-nil (λ e. IsOfCall (script_who old) e); inside = inner-inside [] none-inside; is = now.is; fits = subst (λ (before : List Entry). FitsLine size before (one (script_who old) now.end (Shown status)) line) (sym (append-nil old)) (fits (one (script_who old) now.end (Shown status)) refl); at_end = at_end }

module _ {B : Type 0} {tells : Type 0} {tape : List Operation} (array : RunningParts B) (new : List Entry) (place : ℕ) (who : Who) (status : Status) (script : who ≡ script_who array.parts.entries)
    (entered : IsEntered tells tape who array.parts.entries new (Shown status ∷ [])) (told : IsShownAs array status) (at_end : place + 1 ≡ length new)
    (sized : length_of (list_length array.parts.members.newest) array.parts.entries ≡ list_length array.parts.members.newest) (limited : limit_of array.parts.entries ≡ array.limit)
    (roles : length status.roles ≤ 16) (spares : length status.spares ≤ 32) where
  fits : (e : Entry) → e.event ≡ Shown status → IsShown (list_length array.parts.members.newest) array.parts.entries e.event
  fits e is = subst (λ (event : Event). IsShown (list_length array.parts.members.newest) array.parts.entries event) (sym is)
      (sizes.0, sizes.1 ∙ sym (all-seen array sized limited), roles, spares)
    where
      of : (b : Bool) → MatchBool b (IsStatusFor array status) (IsStillStatus array status) → (status.length ≡ list_length array.parts.members.newest) × (status.visible ≡ visible_in array)
      of true shown = (shown.length, shown.visible)
      of false shown = (shown.length, shown.visible)

      sizes : (status.length ≡ list_length array.parts.members.newest) × (status.visible ≡ visible_in array)
      sizes = of (is_reshaping array.parts.members.newest) told

  pub shown_detail : IsAskedAt (list_length array.parts.members.newest) Detail array.parts.entries new place
  shown_detail = shown_at (list_length array.parts.members.newest) place Detail who status script entered at_end fits

  pub shown_mdstat : IsAskedAt (list_length array.parts.members.newest) Mdstat array.parts.entries new place
  shown_mdstat = shown_at (list_length array.parts.members.newest) place Mdstat who status script entered at_end fits

  pub shown_told : IsToldAt array new place
  unfolding shown_detail shown_at
  shown_told = subst (λ (o : Option Entry). MatchOption o ⊥ (λ e. TellsArray array e.event)) (sym (entry_there shown_detail)) told

goes_shown : (size : ℕ) (before : List Entry) (event : Event) → IsShown size before event → is_end event ≡ false
goes_shown size before (Shown status) is = refl
goes_shown size before event is = absurd is

pub going_detail : {size place : ℕ} {old new : List Entry} (asked : IsAskedAt size Detail old new place) → is_end asked.event ≡ false
going_detail {size = size} {old = old} asked = goes_shown size (old ++ asked.inner) asked.event asked.fits

pub going_mdstat : {size place : ℕ} {old new : List Entry} (asked : IsAskedAt size Mdstat old new place) → is_end asked.event ≡ false
going_mdstat {size = size} {old = old} asked = goes_shown size (old ++ asked.inner) asked.event asked.fits
