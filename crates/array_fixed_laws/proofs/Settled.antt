-- A flush or a stop of an array without an active reshape, from what `flush_and_mark` says of it.
use Rattle.std.proofs.Common.{◌≡◌, inl, inr, ℕ, ◌<◌, ◌≤◌, ◌==◌, Bool, true, false, not, Option, Some, List, [], ◌∷◌, ◌++◌, length, drop, get_or, refl, sym, ◌∙◌, ap, subst, arith}
use Rattle.std.specs.Prelude.{IsFalse, is_some}
use Rattle.std.proofs.Math.Seq.{drop-append_seam}
use Rattle.std.proofs.lemmas.Bool.{cases_lt}
use Rattle.std.proofs.lemmas.List.{get_or_past}
use Rattle.array_fixed_invariant.specs.raid_types_the_Who.{Who}
use Rattle.array_fixed_invariant.specs.raid_types_the_Role.{Role}
use Rattle.array_fixed_invariant.specs.raid_types_the_Role_TheVariants.{Whole, Recovering, Missing}
use Rattle.array_fixed_invariant.specs.bank_the_Operation.{Operation}
use Rattle.array_fixed_invariant.specs.bank_Given.{Given}
use Rattle.array_fixed_invariant.specs.sb_specs_the_Members.{Members}
use Rattle.array_fixed_invariant.specs.sb_specs_Reading.{Scope, role_count, role_state, holder}
use Rattle.array_fixed_invariant.specs.stripe_row_Rows.{reading_of}
use Rattle.array_fixed_invariant.specs.history_the_Entry.{Entry}
use Rattle.array_fixed_invariant.specs.history_the_Event.{Event}
use Rattle.array_fixed_invariant.specs.history_the_Event_TheVariants.{Flushed, Stopped}
use Rattle.array_fixed_invariant.specs.history_OneShape.{is_lost}
use Rattle.array_fixed_invariant.specs.history_Plain.{entries_of}
use Rattle.array_fixed_invariant.specs.crash_safety_laws_Safety.{HasLiveSlot}
use Rattle.array_fixed_invariant.specs.array_members_the_Work.{Work}
use Rattle.array_fixed_invariant.specs.array_members_Lacking.{AreLostSince, AreHoldersFlushed}
use Rattle.array_fixed_invariant.specs.array_members_Moving.{IsMoved}
use Rattle.array_fixed_invariant.specs.array_members_Placed.{IsPlaced}
use Rattle.array_fixed_invariant.proofs.array_members_Fit.{count-alike}
use Rattle.array_fixed_invariant.specs.history_append_Losing.{losses_of}
use Rattle.array_fixed_invariant.proofs.history_append_CallLaws.{told-losses}
use Rattle.array_fixed_invariant.specs.array_call_specs_Calls.{IsSettling}
use Rattle.array_fixed_invariant.specs.history_invariant_Recorded.{IsCallGoing}
use Rattle.array_fixed_invariant.specs.Still.{IsStill}
use Rattle.array_fixed_invariant.proofs.Flushing.{IsFlushedStill, IsSettledStill, flushed-stands, stopped-stands}
use Rattle.array_specs.specs.Still.{AreLeftSettled}
use Rattle.array_specs.proofs.Lengths.{IsLengthKept, alone-keeps}
use Rattle.array_fixed_invariant.proofs.array_call_laws_SettledLaws.{all-mended}

-- a flush and a stop leave the length of the list
pub settling-keeps : (who : Who) (end : ℕ) (event : Event) → IsSettling event → IsLengthKept (entries_of who end (event ∷ []))
settling-keeps who end event (inl is) = subst (λ (e : Event). IsLengthKept (entries_of who end (e ∷ []))) (sym is) (alone-keeps who end Flushed (λ n. refl) (λ limit. refl))
settling-keeps who end event (inr is) = subst (λ (e : Event). IsLengthKept (entries_of who end (e ∷ []))) (sym is) (alone-keeps who end Stopped (λ n. refl) (λ limit. refl))

-- each of them keeps the record
pub settled-stands : {tells : Type 0} {given : Given} {tape tape' : List Operation} {scope : Scope} {first : ℕ} {entries : List Entry} {old new : Members} {work : Work} {left : ℕ} {roles spares : ℕ} {before after : ℕ → ℕ} {unsynced : Bool}
    (left' : ℕ) (who : Who) (end : ℕ) (event : Event) → IsSettling event → IsStill tells given tape scope first entries old work left → HasLiveSlot old → IsCallGoing entries who → IsFalse (who.caller == 254) → (tells → end ≡ length tape')
    → unsynced ≡ is_some work.resync → IsFlushedStill tells given tape tape' old new roles spares before after unsynced → IsSettledStill tells given tape tape' old new unsynced → (losses_of roles spares ≡ [] → left' ≡ left)
    → IsStill tells given tape' scope first (entries ++ entries_of who end (losses_of roles spares ++ event ∷ [])) new work left'
settled-stands {tells = tells} {given = given} {tape = tape} {tape' = tape'} {scope = scope} {first = first} {entries = entries} {old = old} {new = new} {work = work} {left = left} {roles = roles} {spares = spares} {before = before} {after = after} {unsynced = unsynced}
    left' who end event (inl is) was live goes caller at_end pends did done alike =
    subst (λ (e : Event). IsStill tells given tape' scope first (entries ++ entries_of who end (losses_of roles spares ++ e ∷ [])) new work left') (sym is)
    (flushed-stands tells given tape tape' scope first entries old new work left who end roles spares before after unsynced was live goes caller at_end (all-mended old work.resync unsynced pends) did left' done pends alike)
settled-stands {tells = tells} {given = given} {tape = tape} {tape' = tape'} {scope = scope} {first = first} {entries = entries} {old = old} {new = new} {work = work} {left = left} {roles = roles} {spares = spares} {before = before} {after = after} {unsynced = unsynced}
    left' who end event (inr is) was live goes caller at_end pends did done alike =
    subst (λ (e : Event). IsStill tells given tape' scope first (entries ++ entries_of who end (losses_of roles spares ++ e ∷ [])) new work left') (sym is)
    (stopped-stands tells given tape tape' scope first entries old new work left who end roles spares before after unsynced was live goes caller at_end (all-mended old work.resync unsynced pends) did left' done pends alike)

-- each role that isn't told lost has the slot that it had, which is flushed
pub left-settled : (given : Given) (old new : Members) (entries mid entries' : List Entry) (who : Who) (end roles spares : ℕ) (event : Event) (before after : ℕ → ℕ) (tape : List Operation)
    → IsPlaced given old → IsMoved given old new → role_count new.newest ≤ 16 → AreLostSince old new roles spares before after
    → mid ≡ entries → entries' ≡ mid ++ entries_of who end (losses_of roles spares ++ event ∷ []) → AreHoldersFlushed (reading_of new) given tape → AreLeftSettled old entries entries' given tape
left-settled given old new entries mid entries' who end roles spares event before after tape was moved few since mid_is is flushed role slot k held kept other = flushed role slot k (by (role_state (reading_of new) role) refl) other
  where
    below : role < role_count new.newest
    below = subst (λ (n : ℕ). role < n) (sym (count-alike old.newest new.newest moved.reshape moved.shape moved.size)) (elim (cases_lt role (role_count old.newest)) [
      | inl lt ↦ lt
      | inr above ↦ absurd (let past : get_or old.roles role Missing ≡ Missing = get_or_past old.roles role Missing (let n = was.roles in omega (arith, above, n)) in
          let no : is_some (holder Missing) ≡ true = ap (λ (s : Role). is_some (holder s)) (sym past) ∙ ap is_some held in cc)
    ])

    quiet : is_lost (entries_of who end (losses_of roles spares ++ event ∷ [])) role ≡ false
    quiet = subst (λ (l : List Entry). is_lost l role ≡ false)
        (ap (drop (length entries)) (is ∙ ap (λ (l : List Entry). l ++ entries_of who end (losses_of roles spares ++ event ∷ [])) mid_is) ∙ drop-append_seam entries (entries_of who end (losses_of roles spares ++ event ∷ []))) kept

    by : (state : Role) → role_state (reading_of new) role ≡ state → holder (role_state (reading_of new) role) ≡ Some slot
    by (Whole s) at = ap holder (moved.states role s (ap holder at)) ∙ held
    by (Recovering s) at = ap holder (moved.states role s (ap holder at)) ∙ held
    by Missing at = absurd (elim (since.vacant role below (ap (λ (s : Role). not (is_some (holder s))) at)) [
      | inl gone ↦ let no : true ≡ false = sym gone ∙ ap (λ (o : Option ℕ). not (is_some o)) held in cc
      | inr has ↦ let no : true ≡ false = sym (told-losses role roles spares who end (event ∷ []) (omega (arith, below, few)) has) ∙ quiet in cc
    ])
