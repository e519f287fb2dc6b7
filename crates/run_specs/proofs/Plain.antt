-- An array that kept its shape: where its history fills in right, it can be relied on.
use Rattle.std.proofs.Common.{◌≡◌, inl, inr, ℕ, ◌||◌, Bool, false, Option, Some, None, List, [], ◌∷◌, refl, sym, ◌∙◌, ap, true≢false}
use Rattle.std.specs.Prelude.{MatchOption, IfSome, IsTrue, ⊤}
use Rattle.std.specs.List.{list_any}
use Rattle.array_requests.specs.sb_specs_Reading.{Reading, is_reshaping}
use Rattle.script.specs.history_the_Entry.{Entry}
use Rattle.script.specs.history_the_Event.{Event}
use Rattle.script.specs.history_the_Event_TheVariants.{Step}
use Rattle.script.specs.history_the_StepKind_TheVariants.{TakenOver}
use Rattle.script.specs.history_Losses.{takes, loses}
use Rattle.script.specs.history_OneShape.{is_lost}
use Rattle.script.specs.history_Plain.{loses_role}
use Rattle.script.specs.history_Sound.{FillsRight}
use Rattle.script.specs.history_World.{World, contents_at, reading_at}
use Rattle.array_requests.specs.history_invariant_Safe.{is_taken_over, KeepsLevel, IsReshapeFit, IsFilledRight}
use Rattle.array_requests.specs.array_specs_Plans.{turns_shape, KeepsShape}
use Rattle.run_specs.proofs.PlainReplies.{neither}

-- an event that tells no reshape takes a role's holder away only where it tells that lost
takes-told : (r : Option Reading) (role : ℕ) (event : Event) → turns_shape event ≡ false → takes r role event ≡ loses_role role event
takes-told r role (Step TakenOver left) keeps = absurd (true≢false keeps)
takes-told r role event keeps = refl

takes-none : (world : World) (role : ℕ) (entries : List Entry) → list_any (λ e. turns_shape e.event) entries ≡ false → is_lost entries role ≡ false → list_any (loses world role) entries ≡ false
takes-none world role [] keeps none = refl
takes-none world role (e ∷ entries) keeps none =
    let kept = neither (turns_shape e.event) (list_any (λ e. turns_shape e.event) entries) keeps in
    let lost = neither (loses_role role e.event) (is_lost entries role) none in
    ap (λ (b : Bool). b || list_any (loses world role) entries) (takes-told (reading_at world e.end) role e.event (kept.0) ∙ lost.0) ∙ takes-none world role entries (kept.1) (lost.1)

on-course : (world : World) (o : Option Reading) → MatchOption o ⊤ (λ r. is_reshaping r.newest ≡ false) → IfSome o (λ r. IsTrue (is_reshaping r.newest) → IsReshapeFit world.scope (contents_at world world.first) r)
on-course world None found = tt
on-course world (Some r) found = λ moving. absurd (true≢false (sym moving ∙ found))

-- no level is taken over
one-level : (event : Event) → turns_shape event ≡ false → is_taken_over event ≡ false
one-level (Step TakenOver left) keeps = absurd (true≢false keeps)
one-level event keeps = refl

keeps-level : (entries : List Entry) → list_any (λ e. turns_shape e.event) entries ≡ false → KeepsLevel entries
keeps-level [] keeps = refl
keeps-level (e ∷ entries) keeps =
    let kept = neither (turns_shape e.event) (list_any (λ e. turns_shape e.event) entries) keeps in
    ap (λ (b : Bool). b || list_any (λ e. is_taken_over e.event) entries) (one-level e.event kept.0) ∙ keeps-level entries kept.1

-- what is filled in is right
pub kept-fills : (world : World) (entries : List Entry) → KeepsShape world entries → FillsRight world entries → IsFilledRight world entries
kept-fills world entries keeps (inl none) = inl (λ role. takes-none world role entries keeps.none (none role), on-course world (reading_at world world.first) keeps.found, keeps-level entries keeps.none)
kept-fills world entries keeps (inr fit) = inr fit
