-- An event that ends no reshape, and leaves steps or closes the plans that are open, ends right what it ends.
use Rattle.std.proofs.Common.{◌≡◌, ◌⊎◌, inl, inr, ℕ, ◌≤◌, Bool, true, false, Option, None, List, [], ◌∷◌, ◌++◌, length, sym, ◌∙◌, ap, subst, append_assoc}
use Rattle.std.specs.Prelude.{⊤}
use Rattle.std.specs.Bool.{OnTrue}
use Rattle.std.specs.List.{list_any, list_all}
use Rattle.array_reshaping_invariant.specs.raid_types_Sectors.{Sector}
use Rattle.array_reshaping_invariant.specs.raid_types_the_Who.{Who}
use Rattle.array_reshaping_invariant.specs.bank_the_Operation.{Operation}
use Rattle.array_reshaping_invariant.specs.bank_Given.{Given}
use Rattle.array_reshaping_invariant.specs.sb_specs_the_Members.{Members}
use Rattle.array_reshaping_invariant.specs.sb_specs_Reading.{Scope, shape_of}
use Rattle.array_reshaping_invariant.specs.stripe_row_Rows.{present}
use Rattle.array_reshaping_invariant.specs.history_the_Entry.{Entry}
use Rattle.array_reshaping_invariant.specs.history_the_Event.{Event}
use Rattle.array_reshaping_invariant.specs.history_the_Event_TheVariants.{Step}
use Rattle.array_reshaping_invariant.specs.history_the_StepKind_TheVariants.{Finished}
use Rattle.array_reshaping_invariant.specs.history_Growing.{EndBy}
use Rattle.array_reshaping_invariant.specs.history_Plain.{entries_of}
use Rattle.array_reshaping_invariant.specs.history_Reshaped.{behind, comes_with_finish, comes_with_step, IsConsistentAt, IsFinishedRight, is_done, open_plans, ArePlansDone, IsReshapedBy}
use Rattle.array_reshaping_invariant.specs.history_Sound.{OpensFit}
use Rattle.array_reshaping_invariant.specs.history_World.{World}
use Rattle.array_reshaping_invariant.proofs.history_SoundLaws.{fit-before}
use Rattle.array_reshaping_invariant.specs.crash_views_Regions.{DoWithout}
use Rattle.array_reshaping_invariant.specs.array_members_the_Work.{Work}
use Rattle.array_reshaping_invariant.specs.array_members_Lacking.{RowsStandBelow, synced_rows}
use Rattle.array_reshaping_invariant.specs.array_members_Moving.{Grows}
use Rattle.array_reshaping_invariant.proofs.history_append_CallLaws.{AreLossEvents}
use Rattle.array_reshaping_invariant.proofs.history_append_LosingLaws.{entries-both}
use Rattle.array_reshaping_invariant.proofs.history_append_StepLaws.{faults-are}
use Rattle.array_reshaping_invariant.specs.history_invariant_Recorded.{IsReshapedCall, entry_of, ends_reshape}
use Rattle.array_reshaping_invariant.specs.history_invariant_Safe.{world_in, IsSafeHistory}
use Rattle.array_reshaping_invariant.proofs.history_invariant_Growing.{room-before}
use Rattle.array_reshaping_invariant.proofs.history_invariant_Reshapes.{call-ends_none, ends-none, reshaped-losses, unplanned}
use Rattle.array_reshaping_invariant.proofs.history_invariant_Turned.{filled-before}
use Rattle.array_reshaping_invariant.specs.history_invariant_laws_Reliable.{IsReliable, AreToldGone}
use Rattle.array_reshaping_invariant.proofs.history_invariant_laws_Quiet.{EndsRight}
use Rattle.array_reshaping_invariant.proofs.history_invariant_laws_Plans.{ArePlannedTo, behind-all, plans-behind, plans-done}
use Rattle.array_fixed_invariant.specs.Still.{AreAtRest, IsNamedOrClean}
use Rattle.array_fixed_invariant.proofs.Closing.{closing-consistent}

abbrev pub is_finish : Event → Bool
is_finish (Step Finished left) = true
is_finish event = false

-- It is no finish; each plan that is open goes to the shape of the members behind it, none of whose rows waits for a resync, and what is missing of them can be told.
pub record ClosesPlans (tells : Type 0) (world : World) (entries : List Entry) (new : Members) (work : Work) (event : Event) : Type 0 where
  pub other : is_finish event ≡ false
  pub plans : tells → IsReliable world entries → ArePlannedTo world (shape_of new.newest) (open_plans entries)
  pub synced : work.resync ≡ None
  pub named : DoWithout new → IsNamedOrClean new

-- it ends no reshape, and leaves steps; or it is no finish, and no plan is open; or it closes those that are
abbrev pub EndsPlans : Type 0 → World → List Entry → Members → Work → Event → Type 0
EndsPlans tells world entries new work event = (ends_reshape event ≡ false) ⊎ (((open_plans entries ≡ []) × (is_finish event ≡ false)) ⊎ ClosesPlans tells world entries new work event)

free-finish : (world : World) (before : List Entry) (e : Entry) (rest : List Entry) (event : Event) → is_finish event ≡ false → IsFinishedRight world before e rest event
free-finish world before e rest (Step Finished left) none = absurd (cc)
free-finish world before e rest event none = tt

-- So it is of a call that enters losses before it, and behind it what comes with a step.
module _ (tells : Type 0) (given : Given) (tape : List Operation) (scope : Scope) (first : ℕ) (entries : List Entry) (new : Members) (work : Work) (carried : ℕ → ℕ → Bool) (reshaping : Bool)
    (who : Who) (xs : List Event) (event : Event) (tail : List Event) (are : AreLossEvents xs) (comes : list_all comes_with_step tail ≡ true) (last : list_any ends_reshape tail ≡ false)
    (ends : EndsPlans tells (world_in given tape scope first) entries new work event) (rest : AreAtRest given new) (begun : tells → first ≤ length tape) (made : tells → EndBy (length tape) entries) (list : ℕ → Sector) where
  abbrev world : World
  world = world_in given tape scope first

  module _ (ops : List Operation) (t : tells)
      (stand : DoWithout new → IsReliable (world_in given tape scope first) entries → OpensFit (world_in given tape scope first) → RowsStandBelow (synced_rows work.resync new) new (present given (tape ++ ops)) list)
      (right : IsReliable (world_in given (tape ++ ops) scope first) (entries ++ entries_of who (length (tape ++ ops)) (xs ++ event ∷ tail)))
      (told : AreToldGone (world_in given (tape ++ ops) scope first) (entries ++ entries_of who (length (tape ++ ops)) (xs ++ event ∷ tail)) new)
      (safe : IsSafeHistory ⊤ (world_in given (tape ++ ops) scope first) given new carried reshaping (entries ++ entries_of who (length (tape ++ ops)) (xs ++ event ∷ tail)))
      (fit : OpensFit (world_in given (tape ++ ops) scope first)) where
    abbrev later : World
    later = world_in given (tape ++ ops) scope first

    abbrev end : ℕ
    end = length (tape ++ ops)

    abbrev before : List Entry
    before = entries ++ entries_of who (length (tape ++ ops)) xs

    abbrev e : Entry
    e = entry_of who (length (tape ++ ops)) event

    abbrev behind_it : List Entry
    behind_it = entries_of who (length (tape ++ ops)) tail

    path : entries ++ entries_of who (length (tape ++ ops)) (xs ++ event ∷ tail) ≡ (entries ++ entries_of who (length (tape ++ ops)) xs) ++ entry_of who (length (tape ++ ops)) event ∷ entries_of who (length (tape ++ ops)) tail
    path = ap (λ (l : List Entry). entries ++ l) (entries-both who end xs (event ∷ tail)) ∙ sym (append_assoc entries (entries_of who end xs) (e ∷ behind_it))

    reliable : IsReliable (world_in given tape scope first) entries
    reliable = record {
      fills = filled-before world ops entries (entries_of who end (xs ++ event ∷ tail)) (begun t) (made t) right.fills;
      room = room-before world ops (begun t) right.room;
    }

    module _ (closes : ClosesPlans tells (world_in given tape scope first) entries new work event) where
      consistent : IsConsistentAt later ((entries ++ entries_of who (length (tape ++ ops)) xs) ++ entry_of who (length (tape ++ ops)) event ∷ entries_of who (length (tape ++ ops)) tail) (length (tape ++ ops)) (shape_of new.newest)
      consistent = subst (λ (l : List Entry). IsConsistentAt later l end (shape_of new.newest)) path
          (closing-consistent given (tape ++ ops) scope first (entries ++ entries_of who end (xs ++ event ∷ tail)) new carried reshaping list rest told safe closes.named fit
          (λ does. subst (λ (o : Option ℕ). RowsStandBelow (synced_rows o new) new (present given (tape ++ ops)) list) closes.synced (stand does reliable (fit-before world ops (begun t) fit))))

      done : (b : Bool) → OnTrue b (ArePlansDone later before e (behind comes_with_step e behind_it) (open_plans before))
      done false = tt
      done true =
          subst (λ (l : List Entry). ArePlansDone later before e l (open_plans before)) (sym (behind-all comes_with_step who end event tail comes))
          (subst (λ (plans : List Entry). ArePlansDone later before e behind_it plans) (sym (plans-behind entries who end xs are))
          (plans-done world ops before e behind_it (shape_of new.newest) consistent entries (made t) (closes.plans t reliable)))

    step-right : IsReshapedBy later before e behind_it
    step-right = elim ends [
      | inl none ↦ ends-none later before e behind_it none
      | inr (inl free) ↦ record {
        finished = free-finish later before e (behind comes_with_finish e behind_it) event free.1;
        plans = unplanned later before e (behind comes_with_step e behind_it) (is_done event) (plans-behind entries who end xs are ∙ free.0);
      }
      | inr (inr closes) ↦ record { finished = free-finish later before e (behind comes_with_finish e behind_it) event closes.other; plans = done closes (is_done event) }
    ]

    call-right : IsReshapedCall later entries who end (xs ++ event ∷ tail)
    call-right = reshaped-losses later entries who end xs (event ∷ tail) (faults-are xs are) (step-right, call-ends_none later (before ++ e ∷ []) who end tail last)

  -- over the tape that the call leaves, and at its end
  Then : List Operation → ℕ → Type 0
  Then l n = (DoWithout new → IsReliable (world_in given tape scope first) entries → OpensFit (world_in given tape scope first) → RowsStandBelow (synced_rows work.resync new) new (present given l) list)
      → EndsRight given l scope first entries new carried reshaping who n (xs ++ event ∷ tail)

  pub ends-right : {tape' : List Operation} (end : ℕ) → Grows tells tape tape' → (tells → end ≡ length tape')
      → (tells → DoWithout new → IsReliable (world_in given tape scope first) entries → OpensFit (world_in given tape scope first) → RowsStandBelow (synced_rows work.resync new) new (present given tape') list)
      → tells → EndsRight given tape' scope first entries new carried reshaping who end (xs ++ event ∷ tail)
  unfolding Then
  ends-right end grows at_end stand t =
      let g = grows.more t in
      subst (λ (l : List Operation). Then l end) (sym g.1)
      (subst (Then (tape ++ g.0)) (sym (at_end t ∙ ap (λ (l : List Operation). length l) g.1))
      (λ stands. call-right g.0 t stands))
      (stand t)
