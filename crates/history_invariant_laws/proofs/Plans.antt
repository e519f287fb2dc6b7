-- The plans that are open go to one shape, and an event that leaves no step closes them; and what stands behind an event in its call.
use Rattle.std.proofs.Common.{◌≡◌, ℕ, ◌≤◌, Bool, true, false, cond, Option, Some, option_map, List, [], ◌∷◌, ◌++◌, length, fold, MatchOption, refl, sym, ◌∙◌, ap, subst}
use Rattle.std.specs.Prelude.{⊤}
use Rattle.std.specs.List.{list_all}
use Rattle.std.proofs.lemmas.List.Sums.{fold-append}
use Rattle.history_invariant.specs.raid_types_the_Who.{Who}
use Rattle.history_invariant.specs.raid_types_the_Shape.{Shape}
use Rattle.history_invariant.specs.bank_the_Operation.{Operation}
use Rattle.history_invariant.specs.sb_specs_Reading.{Reading, shape_of}
use Rattle.history_invariant.specs.reshape_plan_Plans.{target}
use Rattle.history_invariant.specs.history_the_Entry.{Entry}
use Rattle.history_invariant.specs.history_the_Event.{Event}
use Rattle.history_invariant.specs.history_the_Event_TheVariants.{Lost, SpareLost, Planned}
use Rattle.history_invariant.specs.history_the_LostCause_TheVariants.{Fault}
use Rattle.history_invariant.specs.history_Flat.{is_same_call}
use Rattle.history_invariant.specs.history_Growing.{grown, EndBy}
use Rattle.history_invariant.specs.history_Plain.{entries_of}
use Rattle.history_invariant.specs.history_Reshaped.{behind, is_done, is_planned, plans_after, open_plans, planned_shape, IsConsistentAt, ArePlansDone}
use Rattle.history_invariant.specs.history_World.{World}
use Rattle.history_invariant.proofs.history_LegalLaws.{both}
use Rattle.history_invariant.proofs.history_append_CallLaws.{AreLossEvents}
use Rattle.history_invariant.specs.Recorded.{entry_of}
use Rattle.history_invariant.proofs.Growing.{reading-grown}
use Rattle.history_invariant.proofs.Records.{same-call}
use Rattle.history_invariant_laws.proofs.Behind.{and-true}

-- ---- what comes with an event

-- all that stands behind it in its call, where all of that sort
pub behind-all : (sort : Event → Bool) (who : Who) (end : ℕ) (event : Event) (events : List Event) → list_all sort events ≡ true
    → behind sort (entry_of who end event) (entries_of who end events) ≡ entries_of who end events
behind-all sort who end event [] all = refl
behind-all sort who end event (x ∷ events) all =
    let parts = both (sort x) (list_all sort events) all in
    ap (λ (b : Bool). cond b (entry_of who end x ∷ behind sort (entry_of who end event) (entries_of who end events)) [])
    (and-true (sort x) (is_same_call (entry_of who end event) (entry_of who end x)) parts.0 (same-call who (entry_of who end event) (entry_of who end x) (refl, refl) (refl, refl)))
    ∙ ap (λ (l : List Entry). entry_of who end x ∷ l) (behind-all sort who end event events parts.1)

-- ---- plans

-- each of these plans goes to this shape
abbrev pub ArePlannedTo : World → Shape → List Entry → Type 0
ArePlannedTo world shape [] = ⊤
ArePlannedTo world shape (plan ∷ plans) = (planned_shape world plan.end plan.event ≡ Some shape) × ArePlannedTo world shape plans

-- losses leave the same plans open
pub plans-behind : (before : List Entry) (who : Who) (end : ℕ) (xs : List Event) → AreLossEvents xs → open_plans (before ++ entries_of who end xs) ≡ open_plans before
plans-behind before who end xs are = fold-append plans_after [] before (entries_of who end xs) ∙ of (open_plans before) xs are
  where
    of : (plans : List Entry) (xs : List Event) → AreLossEvents xs → fold plans_after plans (entries_of who end xs) ≡ plans
    of plans [] are = refl
    of plans (Lost role Fault ∷ xs) are = of plans xs are
    of plans (SpareLost slot ∷ xs) are = of plans xs are
    of plans (event ∷ xs) are = absurd are

-- a plan ends where one of the entries does
pub plans-end : (mark : ℕ) (plans xs : List Entry) → EndBy mark plans → EndBy mark xs → EndBy mark (fold plans_after plans xs)
plans-end mark plans [] made ends = made
plans-end mark plans (x ∷ xs) made ends = plans-end mark (plans_after plans x) xs (of (is_done x.event) (is_planned x.event)) ends.1
  where
    of : (a b : Bool) → EndBy mark (cond a [] (cond b (x ∷ plans) plans))
    of true b = tt
    of false true = (ends.0, made)
    of false false = made

-- a plan goes to the same shape whatever is done after it
pub planned-grown : (world : World) (ops : List Operation) (end : ℕ) (event : Event) → end ≤ length world.tape → planned_shape (grown world ops) end event ≡ planned_shape world end event
planned-grown world ops end (Planned left wish) made = ap (λ (found : Option Reading). option_map (λ r. target (shape_of r.newest) wish) found) (reading-grown world ops end made)
planned-grown world ops end event made = refl

module _ (world : World) (ops : List Operation) (before : List Entry) (e : Entry) (rest : List Entry) (shape : Shape) (consistent : IsConsistentAt (grown world ops) (before ++ e ∷ rest) e.end shape) where
  done : (plans : List Entry) → EndBy (length world.tape) plans → ArePlannedTo world shape plans → ArePlansDone (grown world ops) before e rest plans
  done [] made to = tt
  done (plan ∷ plans) made to = (
    subst (λ (o : Option Shape). MatchOption o ⊥ (IsConsistentAt (grown world ops) (before ++ e ∷ rest) e.end)) (sym (planned-grown world ops plan.end plan.event made.0 ∙ to.0)) consistent,
    done plans made.1 to.1,
  )

  -- where the open plans go to a shape that is consistent, they are met
  pub plans-done : (entries : List Entry) → EndBy (length world.tape) entries → ArePlannedTo world shape (open_plans entries) → ArePlansDone (grown world ops) before e rest (open_plans entries)
  plans-done entries ends to = done (open_plans entries) (plans-end (length world.tape) [] entries tt ends) to
