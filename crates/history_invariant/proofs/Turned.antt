-- Which roles are gone behind a step that turns the shape, and when what is filled in is right.
use Rattle.std.proofs.Common.{◌≡◌, inl, inr, ℕ, ◌==◌, ◌<◌, ◌≤◌, ◌&&◌, ◌||◌, Bool, true, false, not, Option, Some, None, List, [], ◌∷◌, ◌++◌, length, nat_le, refl, sym, ◌∙◌, ap, ap₂, subst, arith, append_assoc}
use Rattle.std.specs.Prelude.{IfSome, IsTrue}
use Rattle.std.specs.List.{list_any}
use Rattle.std.proofs.lemmas.Bool.Decides.{nat_tests}
use Rattle.std.proofs.lemmas.List.Folds.{list_any-append}
use Rattle.array_call_specs.specs.bank_the_Operation.{Operation}
use Rattle.array_call_specs.specs.bank_Tape.{IsIn}
use Rattle.array_call_specs.specs.sb_specs_Reading.{Reading, reading, is_reshaping, shape_of}
use Rattle.array_call_specs.specs.history_the_Entry.{Entry}
use Rattle.array_call_specs.specs.history_the_Event.{Event}
use Rattle.array_call_specs.specs.history_the_Event_TheVariants.{Rebuilt, Step}
use Rattle.array_call_specs.specs.history_the_StepKind_TheVariants.{Begun}
use Rattle.array_call_specs.specs.history_Growing.{grown, EndBy}
use Rattle.array_call_specs.specs.history_Flat.{length_of, values_of}
use Rattle.array_call_specs.specs.history_Losses.{takes, gives_back, loses, settles, unsettles, is_gone_after, is_unsynced}
use Rattle.array_call_specs.specs.history_OneShape.{is_unsettled}
use Rattle.array_call_specs.specs.history_Opened.{IsSound}
use Rattle.array_call_specs.specs.history_Sound.{OpensFit}
use Rattle.array_call_specs.specs.history_World.{World, contents_at, reading_at, opening_list}
use Rattle.array_call_specs.proofs.history_SoundLaws.{fit-before}
use Rattle.array_call_specs.specs.crash_safety_laws_Steady.{IsMoreTold, given_back}
use Rattle.history_invariant.specs.Recorded.{gives_some}
use Rattle.history_invariant.specs.Safe.{is_taken_over, IsReshapeFit, OpensOnCourse, IsFilledRight}
use Rattle.history_invariant.specs.Told.{told_now, told_by}
use Rattle.history_invariant.proofs.Entered.{adds_only, AreAdding, length-adding, values-adding, settle-none}
use Rattle.history_invariant.proofs.Longer.{regains-none}
use Rattle.history_invariant.proofs.Growing.{course-before, takes-grown}
use Rattle.history_invariant.proofs.Ledgers.{any-gone, gone-behind, unclean-now}
use Rattle.history_invariant.proofs.Tests.{none-before}

-- ---- a reshape begins

module _ (world : World) (entries : List Entry) (e : Entry) (left : ℕ) (r : Reading) (is : e.event ≡ Step Begun left) (found : reading_at world e.end ≡ Some r) where
  -- what it does to a role
  turned : (role : ℕ) → is_gone_after world (entries ++ e ∷ []) role ≡ (is_gone_after world entries role && not (nat_le (shape_of r.newest).disks role) || false)
  turned role =
      gone-behind world role entries (e ∷ [])
      ∙ ap₂ (λ (o : Option Reading) (event : Event). is_gone_after world entries role && not (gives_back o role event) || takes o role event) found is

  below-old : (old role : ℕ) → role < old → nat_le old role ≡ false
  below-old old role lt = grind (arith, nat_tests, lt)

  kept : (b : Bool) → (b && true || false) ≡ b
  kept true = refl
  kept false = refl

  -- a role of the old shape is gone as before
  pub begun-old : (role : ℕ) → role < (shape_of r.newest).disks → is_gone_after world (entries ++ e ∷ []) role ≡ is_gone_after world entries role
  begun-old role lt = turned role ∙ ap (λ (b : Bool). is_gone_after world entries role && not b || false) (below-old (shape_of r.newest).disks role lt) ∙ kept (is_gone_after world entries role)

-- ---- a role is rebuilt

-- Behind events that only add, it isn't told gone any more, and what else a call told is told at its end.
pub told-rebuilt : (world : World) (carried : ℕ → ℕ → Bool) (reshaping : Bool) (entries more : List Entry) (e : Entry) (role : ℕ) → e.event ≡ Rebuilt role → AreAdding more → list_any (λ e. gives_some e.event) more ≡ false
    → IsMoreTold (given_back role (told_by world carried reshaping entries more)) (told_now world carried reshaping (entries ++ (more ++ e ∷ [])))
told-rebuilt world carried reshaping entries more e role is adds none = record {
  size = sym (ap (λ (l : List Entry). length_of (length (opening_list world)) l) whole ∙ length-adding (length (opening_list world)) (entries ++ more) (e ∷ []) one-adds);
  values = λ x lt v may. subst (λ (l : List Entry). IsIn (values_of (opening_list world) l x) v) (sym whole) (values-adding (opening_list world) (entries ++ more) (e ∷ []) one-adds x v may);
  gone = λ r was.
      let p = parts (is_gone_after world entries r || list_any (loses world r) more) (r == role) was in
      ap (λ (l : List Entry). is_gone_after world l r) whole ∙ gone-behind world r (entries ++ more) (e ∷ [])
      ∙ ap₂ (λ (b : Bool) (event : Event). b && not (gives_back (reading_at world e.end) r event) || takes (reading_at world e.end) r event) (any-gone world r entries more (regains-none world r more none) p.0) is
      ∙ ap (λ (b : Bool). not b || false) (turn r role p.1);
  unclean = λ was. unclean-now world entries (more ++ e ∷ []) settled (with_it was);
  reshaping = λ was. was;
  carried = λ slot number was. was;
}
  where
    whole : entries ++ (more ++ e ∷ []) ≡ (entries ++ more) ++ e ∷ []
    whole = sym (append_assoc entries more (e ∷ []))

    one-adds : AreAdding (e ∷ [])
    one-adds = ap (λ (event : Event). adds_only event && true) is

    parts : (a b : Bool) → (a && not b) ≡ true → (a ≡ true) × (b ≡ false)
    parts true false was = (refl, refl)
    parts true true was = absurd (cc)
    parts false b was = absurd (cc)

    turn : (a b : ℕ) → (a == b) ≡ false → (b == a) ≡ false
    turn a b apart = grind (arith, nat_tests, apart)

    settled : list_any (λ e. settles e.event) (more ++ e ∷ []) ≡ false
    settled = list_any-append (λ e. settles e.event) more (e ∷ []) ∙ ap₂ (λ (a b : Bool). a || b) (settle-none more adds) (settle-none (e ∷ []) one-adds)

    three : (a b c d : Bool) → (a || (b || c)) ≡ true → (a || (b || (c || d))) ≡ true
    three true b c d was = refl
    three false true c d was = refl
    three false false true d was = refl
    three false false false d was = absurd (cc)

    with_it : (is_unsynced world entries || (is_unsettled entries || list_any (λ e. unsettles e.event) more)) ≡ true
        → (is_unsynced world entries || (is_unsettled entries || list_any (λ e. unsettles e.event) (more ++ e ∷ []))) ≡ true
    with_it was =
        ap (λ (b : Bool). is_unsynced world entries || (is_unsettled entries || b)) (list_any-append (λ e. unsettles e.event) more (e ∷ []))
        ∙ three (is_unsynced world entries) (is_unsettled entries) (list_any (λ e. unsettles e.event) more) (list_any (λ e. unsettles e.event) (e ∷ [])) was

-- ---- what is filled in

-- a sound opening finds a reshape on its course
pub fit-on_course : (world : World) → OpensFit world → OpensOnCourse world
unfolding reading_at
fit-on_course world fit = by (reading world.scope (contents_at world world.first)) fit
  where
    by : (found : Option Reading) → IfSome found (IsSound world.scope (contents_at world world.first))
        → IfSome found (λ r. IsTrue (is_reshaping r.newest) → IsReshapeFit world.scope (contents_at world world.first) r)
    by (Some r) sound = λ active. record { sections = sound.sections active; tail = sound.tail active }
    by None sound = tt

-- so does one whose fills are right
pub fills-on_course : (world : World) (entries : List Entry) → IsFilledRight world entries → OpensOnCourse world
fills-on_course world entries (inl none) = none.1
fills-on_course world entries (inr fit) = fit-on_course world fit

-- it is right before more entries
pub filled-before : (world : World) (ops : List Operation) (entries added : List Entry) → world.first ≤ length world.tape → EndBy (length world.tape) entries → IsFilledRight (grown world ops) (entries ++ added) → IsFilledRight world entries
filled-before world ops entries added within ends (inl none) =
    inl (λ role. sym (takes-grown world ops entries role ends) ∙ none-before (loses (grown world ops) role) entries added (none.0 role), course-before world ops within none.1, none-before (λ e. is_taken_over e.event) entries added none.2)
filled-before world ops entries added within ends (inr fit) = inr (fit-before world ops within fit)
