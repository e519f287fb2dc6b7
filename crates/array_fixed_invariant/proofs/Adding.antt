-- A call behind which the list may have changed: a write, or one that is refused once it was begun.
use Rattle.std.proofs.Common.{◌≡◌, ◌⊎◌, inl, inr, ℕ, ◌==◌, true, false, List, [], ◌∷◌, ◌++◌, length, refl, sym, ◌∙◌, ap, subst}
use Rattle.std.specs.Prelude.{IsFalse, IfSome, IsSome}
use Rattle.std.specs.List.{list_any}
use Rattle.array_reshaping_invariant.specs.raid_types_the_Who.{Who}
use Rattle.array_reshaping_invariant.specs.raid_types_the_Shape.{Shape}
use Rattle.array_reshaping_invariant.specs.bank_the_Operation.{Operation}
use Rattle.array_reshaping_invariant.specs.bank_Given.{Given}
use Rattle.array_reshaping_invariant.specs.sb_specs_the_Members.{Members}
use Rattle.array_reshaping_invariant.specs.sb_specs_Reading.{Scope, is_clean}
use Rattle.array_reshaping_invariant.proofs.sb_specs_ValidFields.{few-roles}
use Rattle.array_reshaping_invariant.specs.stripe_row_Rows.{present}
use Rattle.array_reshaping_invariant.specs.history_the_Entry.{Entry}
use Rattle.array_reshaping_invariant.specs.history_the_Event.{Event}
use Rattle.array_reshaping_invariant.specs.history_Flat.{now}
use Rattle.array_reshaping_invariant.specs.history_Legal.{told_left}
use Rattle.array_reshaping_invariant.specs.history_Losses.{is_resync_end, unsettles}
use Rattle.array_reshaping_invariant.specs.history_Plain.{entries_of}
use Rattle.array_reshaping_invariant.specs.history_Sound.{OpensFit}
use Rattle.array_reshaping_invariant.specs.history_World.{opening_list}
use Rattle.array_reshaping_invariant.specs.crash_views_Regions.{DoWithout}
use Rattle.array_reshaping_invariant.specs.crash_safety_laws_Safety.{HasLiveSlot}
use Rattle.array_reshaping_invariant.specs.array_members_the_Work.{Work}
use Rattle.array_reshaping_invariant.specs.array_members_Moving.{Grows, IsMoved}
use Rattle.array_reshaping_invariant.specs.array_members_Numbers.{bears}
use Rattle.array_reshaping_invariant.proofs.array_members_Fit.{list-alike}
use Rattle.array_reshaping_invariant.specs.history_invariant_Recorded.{IsCallGoing}
use Rattle.array_reshaping_invariant.specs.history_invariant_Safe.{world_in, IsFilledRight}
use Rattle.array_reshaping_invariant.proofs.history_invariant_Entered.{adds_only, settle-none}
use Rattle.array_reshaping_invariant.proofs.history_invariant_laws_Behind.{AreFirst, AreLostOrMissing, and-true}
use Rattle.array_reshaping_invariant.proofs.history_invariant_laws_Quiet.{IsLeftBehind}
use Rattle.array_reshaping_invariant.proofs.history_invariant_laws_Adding.{IsAdding, ChangesEarly, changing-leaves}
use Rattle.array_reshaping_invariant.proofs.array_call_specs_LedgerLaws.{none-ends, unsynced-more}
use Rattle.array_fixed_invariant.specs.Still.{HasListStood, IsStill}
use Rattle.array_fixed_invariant.proofs.Leaving.{safe-over, safe-now, rest-moved, none-taken, leaves-stands}
use Rattle.array_fixed_invariant.proofs.Staying.{progress-same}

pub changing-stands : (tells : Type 0) (given : Given) (tape tape' : List Operation) (scope : Scope) (first : ℕ) (entries : List Entry) (old new : Members) (work : Work) (left left' : ℕ)
    (who : Who) (end : ℕ) (early : List Event) (IsTaken : ℕ → Type 0) (event : Event)
    → IsStill tells given tape scope first entries old work left → HasLiveSlot old → IsCallGoing entries who → IsFalse (who.caller == 254) → (tells → end ≡ length tape') → Grows tells tape tape' → IsAdding event
    → IsMoved given old new → AreFirst early IsTaken → AreLostOrMissing old new IsTaken
    → (is_clean new.newest ≡ false → (is_clean old.newest ≡ false) ⊎ (list_any (λ e. unsettles e.event) (entries_of who end (early ++ event ∷ [])) ≡ true))
    → (DoWithout new → IsSome work.resync → is_clean new.newest ≡ false)
    → IfSome (told_left (entries ++ entries_of who end (early ++ event ∷ []))) (λ n. n ≡ left')
    → (tells → DoWithout new → IsFilledRight (world_in given tape scope first) entries
    → HasListStood (OpensFit (world_in given tape scope first)) work new (present given tape') (now (opening_list (world_in given tape scope first)) (entries ++ entries_of who end (early ++ event ∷ []))))
    → (tells → ChangesEarly given tape scope first entries old new (bears work) false who early event tape' end)
    → IsStill tells given tape' scope first (entries ++ entries_of who end (early ++ event ∷ [])) new work left'
changing-stands tells given tape tape' scope first entries old new work left left' who end early IsTaken event was live goes caller at_end grows adding moved are missing clean dirty told listed call =
    leaves-stands tells given tape tape' scope first entries (entries ++ added) old new work work left left' was grows (rest-moved given old new moved was.members_are) (ap (λ (s : Shape). s.level) moved.shape)
    (list-alike old.newest new.newest moved.reshape moved.shape moved.size) told
    (progress-same moved work.resync was.progress)
    (λ t. unsynced-more (world_in given tape scope first) entries added ends ∙ was.pending t)
    dirty listed
    (none-taken tells given tape tape' scope first entries old new who end (early ++ event ∷ []) IsTaken grows (λ u. (was.recorded u).ends) (few-roles new.newest moved.placed.fit.valid) missing
    (λ role lt has. are.lost who end (event ∷ []) role lt has) was.full)
    leaves
  where
    added : List Entry
    added = entries_of who end (early ++ event ∷ [])

    ends : list_any (λ e. is_resync_end e.event) (entries_of who end (early ++ event ∷ [])) ≡ false
    ends = none-ends (entries_of who end (early ++ event ∷ [])) (settle-none (entries_of who end (early ++ event ∷ [])) (are.adds who end (event ∷ []) (and-true (adds_only event) true adding.adds refl)))

    Then : List Operation → ℕ → Type 0
    Then l e = ChangesEarly given tape scope first entries old new (bears work) false who early event l e
        → (is_clean new.newest ≡ false → (is_clean old.newest ≡ false) ⊎ (list_any (λ e. unsettles e.event) (entries_of who e (early ++ event ∷ [])) ≡ true))
        → IsLeftBehind given tape scope first entries (entries ++ entries_of who e (early ++ event ∷ [])) new (bears work) false l

    leaves : tells → IsLeftBehind given tape scope first entries (entries ++ entries_of who end (early ++ event ∷ [])) new (bears work) false tape'
    leaves t =
        let g = grows.more t in
        subst (λ (l : List Operation). Then l end) (sym g.1)
        (subst (Then (tape ++ g.0)) (sym (at_end t ∙ ap (λ (l : List Operation). length l) g.1))
        (λ call_to marked. changing-leaves given tape scope first entries old new (bears work) false who early IsTaken event g.0 are goes caller adding (few-roles new.newest moved.placed.fit.valid) missing
        (list-alike old.newest new.newest moved.reshape moved.shape moved.size)
        (λ is. elim (marked is) [
          | inl before ↦ inl (was.unclean t before)
          | inr wrote ↦ inr wrote
        ]) was.sizes_are
        (was.gone t) (was.unclean t) (was.recorded t) (safe-over was live t) (safe-now was live t) call_to))
        (call t) clean
