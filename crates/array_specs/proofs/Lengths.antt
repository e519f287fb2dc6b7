-- Entries of a call that leave the length of the list, and how much of it is visible.
use Rattle.std.proofs.Common.{◌≡◌, ℕ, Bool, true, false, Option, List, [], ◌∷◌, ◌++◌, refl, sym, ◌∙◌, subst, append_assoc}
use Rattle.std.specs.Prelude.{fold}
use Rattle.array_reshaping_state.specs.raid_types_Sectors.{Sector}
use Rattle.history_invariant_laws.specs.raid_types_the_Refusal.{Refusal}
use Rattle.history_invariant_laws.specs.raid_types_the_Who.{Who}
use Rattle.array_reshaping_state.specs.history_the_Entry.{Entry}
use Rattle.array_reshaping_state.specs.history_the_Event.{Event}
use Rattle.array_reshaping_state.specs.history_the_Event_TheVariants.{Torn, Refused}
use Rattle.array_reshaping_state.specs.history_Flat.{length_after, limit_after}
use Rattle.array_reshaping_state.specs.history_Plain.{entries_of}
use Rattle.array_reshaping_state.specs.history_append_Losing.{losses_of, failure_events}
use Rattle.array_reshaping_state.proofs.history_append_CallLaws.{losses-are, length-losses, limit-losses}

-- these entries change neither
pub record IsLengthKept (added : List Entry) : Type 0 where
  pub long : (n : ℕ) → fold (λ m e. length_after m e.event) n added ≡ n
  pub free : (limit : Option ℕ) → fold (λ (limit : Option ℕ) e. limit_after limit e.event) limit added ≡ limit

-- those of one event
pub alone-keeps : (who : Who) (end : ℕ) (event : Event) → ((n : ℕ) → length_after n event ≡ n) → ((limit : Option ℕ) → limit_after limit event ≡ limit) → IsLengthKept (entries_of who end (event ∷ []))
alone-keeps who end event long free = record { long = long; free = free }

-- and those of some behind losses
pub behind-keeps : (who : Who) (end roles spares : ℕ) (events : List Event) → IsLengthKept (entries_of who end events) → IsLengthKept (entries_of who end (losses_of roles spares ++ events))
behind-keeps who end roles spares events kept = record {
  long = λ n. length-losses who end (losses_of roles spares) events (losses-are roles spares) n ∙ kept.long n;
  free = λ limit. limit-losses who end (losses_of roles spares) events (losses-are roles spares) limit ∙ kept.free limit;
}

-- so does a call that wasn't done, with a torn write or without
pub failure-keeps : (who : Who) (end roles spares : ℕ) (torn : Bool) (at : ℕ) (body : List Sector) (refusal : Refusal) → IsLengthKept (entries_of who end (failure_events roles spares torn at body refusal))
failure-keeps who end roles spares false at body refusal = behind-keeps who end roles spares (Refused refusal ∷ []) (alone-keeps who end (Refused refusal) (λ n. refl) (λ limit. refl))
failure-keeps who end roles spares true at body refusal =
    subst (λ (l : List Event). IsLengthKept (entries_of who end l)) (sym (append_assoc (losses_of roles spares) (Torn at body ∷ []) (Refused refusal ∷ [])))
    (behind-keeps who end roles spares (Torn at body ∷ Refused refusal ∷ []) (record { long = λ n. refl; free = λ limit. refl }))
