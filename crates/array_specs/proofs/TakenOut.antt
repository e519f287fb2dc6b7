-- A slot that is taken out of an array, and the naming of what is missing then: what is lost of the members, and how it stands in the history.
use Rattle.std.proofs.Common.{◌≡◌, ◌⊎◌, inl, inr, ℕ, ◌<◌, ◌==◌, true, Some, List, [], ◌∷◌, ◌++◌, sym, ◌∙◌, ap, append_assoc}
use Rattle.array_reshaping_state.specs.raid_types_Shapes.{has_slot}
use Rattle.history_invariant_laws.specs.raid_types_the_Who.{Who}
use Rattle.array_reshaping_state.specs.bank_Given.{Given}
use Rattle.array_reshaping_state.specs.sb_specs_the_Members.{Members}
use Rattle.array_reshaping_state.specs.sb_specs_Reading.{role_count, role_state, holder}
use Rattle.array_reshaping_state.specs.stripe_row_Rows.{reading_of, is_missing, members_without}
use Rattle.array_reshaping_state.specs.history_the_Entry.{Entry}
use Rattle.array_reshaping_state.specs.history_the_Event.{Event}
use Rattle.array_reshaping_state.specs.history_Plain.{entries_of}
use Rattle.array_reshaping_state.specs.crash_safety_laws_Steady.{AreUnlost}
use Rattle.array_reshaping_state.specs.array_members_Lacking.{HaveFailedSince, AreLostSince}
use Rattle.array_reshaping_state.specs.array_members_Moving.{IsMoved}
use Rattle.array_reshaping_state.specs.array_members_Placed.{IsPlaced}
use Rattle.array_reshaping_state.proofs.array_members_Fit.{count-alike}
use Rattle.array_reshaping_state.proofs.array_members_HeldRows.{missing-before, vacant-missing}
use Rattle.array_reshaping_state.proofs.array_members_LackingLaws.{AreVacant, AreNewlyVacant, lost-since}
use Rattle.array_reshaping_state.proofs.array_members_MovedLaws.{moved-then}
use Rattle.array_reshaping_state.proofs.history_append_PlainLaws.{one}
use Rattle.array_call_laws.proofs.FailedLaws.{placed-out, moved-out, out-only}
use Rattle.history_invariant_laws.proofs.Failed.{IsFailedOrAmong}

-- an event, and others of its call behind it
pub behind-loss : (old mid new : List Entry) (who : Who) (end : ℕ) (event : Event) (events : List Event) → mid ≡ old ++ entries_of who end (event ∷ []) → new ≡ mid ++ entries_of who end events → new ≡ old ++ entries_of who end (event ∷ events)
behind-loss old mid new who end event events is more = more ∙ ap (λ (l : List Entry). l ++ entries_of who end events) is ∙ append_assoc old (one who end event ∷ []) (entries_of who end events)

module _ (given : Given) (old mid new : Members) (lost slot role : ℕ) (was : IsPlaced given old) (unlost : AreUnlost old) (is : mid ≡ members_without lost old) (alone : (s : ℕ) → has_slot lost s ≡ (slot == s))
    (held : holder (role_state (reading_of old) role) ≡ Some slot) (moved : IsMoved given mid new) where
  out : IsMoved given old mid
  out = moved-out given old mid lost slot role was unlost is alone held

  pub moved-all : IsMoved given old new
  moved-all = moved-then given old mid new out moved

  module _ (count before_set roles spares : ℕ) (before after : ℕ → ℕ) (failed : HaveFailedSince mid new spares before after) (count_is : count ≡ role_count old.newest)
      (vacant : AreVacant mid count before_set) (newly : AreNewlyVacant new count before_set roles) where
    -- what was lost while it was named
    pub since-out : AreLostSince mid new roles spares before after
    since-out = lost-since given mid new count before_set roles spares before after (placed-out given old mid lost slot role was unlost is alone held) moved failed
        (count_is ∙ sym (count-alike old.newest mid.newest out.reshape out.shape out.size)) vacant newly

    -- what is missing was so before, or it is the role that was taken out, or it was lost besides
    pub missing-out : (other : ℕ) → other < role_count new.newest → is_missing (reading_of new) other ≡ true → (is_missing (reading_of old) other ≡ true) ⊎ IsFailedOrAmong role roles other
    missing-out other lt gone = elim (missing-before moved-all other gone) [
      | inl was_gone ↦ inl was_gone
      | inr none ↦ elim (since-out.vacant other lt none) [
        | inl former ↦ elim (out-only given old mid lost slot role was unlost is alone held other former) [
          | inl first ↦ inl (vacant-missing (reading_of old) other first)
          | inr same ↦ inr (inl same)
        ]
        | inr has ↦ inr (inr has)
      ]
    ]
