-- Where a history keeps its shape, no level is taken over, and what is filled in is right by the words that also serve a reshape.
use Rattle.std.proofs.Common.{◌≡◌, inl, inr, ◌||◌, Bool, true, false, List, [], ◌∷◌, refl, ◌∙◌, ap}
use Rattle.std.specs.List.{list_any, list_all}
use Rattle.std.proofs.lemmas.Bool.{and_parts}
use Rattle.array_fixed_invariant.specs.history_the_Entry.{Entry}
use Rattle.array_fixed_invariant.specs.history_the_Event.{Event}
use Rattle.array_fixed_invariant.specs.history_the_Event_TheVariants.{Step}
use Rattle.array_fixed_invariant.specs.history_the_StepKind_TheVariants.{TakenOver}
use Rattle.array_fixed_invariant.specs.history_OneShape.{keeps_shape_event, KeepShape}
use Rattle.array_fixed_invariant.specs.history_Sound.{FillsRight}
use Rattle.array_fixed_invariant.specs.history_World.{World}
use Rattle.array_fixed_invariant.specs.history_invariant_Safe.{is_taken_over, KeepsLevel, OpensOnCourse, IsFilledRight}
use Rattle.array_fixed_invariant.proofs.history_invariant_Growing.{takes-lost}

-- no level is taken over
one-level : (event : Event) → keeps_shape_event event ≡ true → is_taken_over event ≡ false
one-level (Step TakenOver left) keeps = absurd (cc)
one-level event keeps = refl

keeps-level : (entries : List Entry) → KeepShape entries → KeepsLevel entries
keeps-level [] keep = refl
keeps-level (e ∷ entries) keep =
    let parts = and_parts (keeps_shape_event e.event) (list_all (λ e. keeps_shape_event e.event) entries) keep in
    ap (λ (b : Bool). b || list_any (λ e. is_taken_over e.event) entries) (one-level e.event parts.0) ∙ keeps-level entries parts.1

pub filled-alike : (world : World) (entries : List Entry) → KeepShape entries → OpensOnCourse world → FillsRight world entries → IsFilledRight world entries
filled-alike world entries keep on (inl none) = inl (λ role. takes-lost world role entries keep ∙ none role, on, keeps-level entries keep)
filled-alike world entries keep on (inr fit) = inr fit
