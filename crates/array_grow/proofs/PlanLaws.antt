-- What is kept of plans as a plan is entered, and what the backup has room for.
use Rattle.std.proofs.Common.{◌≡◌, ℕ, ◌+◌, ◌<◌, ◌≤◌, Option, Some, List, [], ◌∷◌, ◌++◌, length, sym, ◌∙◌, ap, subst, arith}
use Rattle.std.specs.Prelude.{option_map}
use Rattle.std.specs.List.{All}
use Rattle.std.proofs.lemmas.List.Elements.{All-nil, All-cons}
use Rattle.std.proofs.lemmas.List.Sums.{fold-append}
use Rattle.array_reply_specs.specs.raid_types_the_Who.{Who}
use Rattle.array_reply_specs.specs.raid_types_the_Shape.{Shape}
use Rattle.array_reply_specs.specs.raid_types_the_Phase.{Phase}
use Rattle.array_reply_specs.specs.raid_types_the_Phase_TheVariants.{Reshape}
use Rattle.array_reply_specs.specs.raid_types_the_Wish.{Wish}
use Rattle.array_reply_specs.specs.bank_the_Operation.{Operation}
use Rattle.array_reply_specs.specs.bank_Given.{Given}
use Rattle.array_transition.specs.reshape_plan_Plans.{phases, phase_window, largest_window, last_shape, target}
use Rattle.array_transition.proofs.reshape_plan_Sound.{phases_lead}
use Rattle.array_transition.specs.sb_specs_the_Members.{Members}
use Rattle.array_transition.specs.sb_specs_Reading.{Scope, Reading, shape_of}
use Rattle.array_reply_specs.specs.history_the_Entry.{Entry}
use Rattle.array_reply_specs.specs.history_the_Event_TheVariants.{Planned}
use Rattle.array_transition.specs.history_Plain.{entries_of}
use Rattle.array_transition.specs.history_Reshaped.{plans_after, open_plans, planned_shape}
use Rattle.array_transition.specs.history_World.{reading_at}
use Rattle.array_transition.specs.array_members_the_Work.{Work}
use Rattle.array_transition.specs.history_invariant_Recorded.{entry_of}
use Rattle.array_transition.specs.history_invariant_Safe.{world_in}
use Rattle.array_reply_specs.specs.history_invariant_laws_Reliable.{IsReliable}
use Rattle.array_transition.specs.array_fixed_invariant_Still.{AreNoneMissing, IsStill}
use Rattle.array_transition.specs.array_specs_Plans.{GoTo}
use Rattle.array_grow.specs.Planned.{HasWideBackup}
use Rattle.array_grow.proofs.Fitting.{right-before}
use Rattle.array_grow.proofs.Read.{read-whole}

-- the backup has room for the windows of the reshape that is to begin
pub begin-backed : (given : Given) (backup : Option ℕ) (shape to : Shape) (size : ℕ) (behind : List Phase) → 0 < phase_window shape size (Reshape to) → HasWideBackup given backup (largest_window shape size (Reshape to ∷ behind))
    → (slot : ℕ) × (backup ≡ Some slot) × (slot < given.slots) × (8 + phase_window shape size (Reshape to) ≤ given.sectors slot)
begin-backed given backup shape to size behind some was =
    let wide = was (omega (arith, some)) in
    let room = wide.3 in
    (wide.0, wide.1, wide.2, omega (arith, room))

-- ---- a plan is entered

pub plan-open : (entries : List Entry) (who : Who) (end left : ℕ) (wish : Wish) → open_plans entries ≡ [] → open_plans (entries ++ entries_of who end (Planned left wish ∷ [])) ≡ entry_of who end (Planned left wish) ∷ []
plan-open entries who end left wish none = fold-append plans_after [] entries (entries_of who end (Planned left wish ∷ [])) ∙ ap (λ (l : List Entry). entry_of who end (Planned left wish) ∷ l) none

pub planned-goes : {tells : Type 0} {given : Given} {tape : List Operation} {scope : Scope} {first : ℕ} {entries : List Entry} {m : Members} {work : Work} {before : ℕ} (who : Who) (end : ℕ) (wish : Wish) (left : ℕ) (ahead : List Phase)
    → IsStill tells given tape scope first entries m work before → AreNoneMissing m → (tells → end ≡ length tape) → ahead ≡ phases (shape_of m.newest) wish → open_plans entries ≡ []
    → tells → IsReliable (world_in given tape scope first) (entries ++ entries_of who end (Planned left wish ∷ []))
    → GoTo (world_in given tape scope first) (last_shape (shape_of m.newest) ahead) (entries ++ entries_of who end (Planned left wish ∷ []))
planned-goes {given = given} {tape = tape} {scope = scope} {first = first} {entries = entries} {m = m} who end wish left ahead was whole at_end is none t right =
    let world = world_in given tape scope first in
    let recorded = was.recorded t in
    let found = read-whole was t (right-before world entries (entries_of who end (Planned left wish ∷ [])) recorded.begun recorded.ends right) whole in
    let goes : planned_shape world end (Planned left wish) ≡ Some (last_shape (shape_of m.newest) ahead) =
    ap (λ (n : ℕ). option_map (λ r. target (shape_of r.newest) wish) (reading_at world n)) (at_end t)
    ∙ ap (λ (o : Option Reading). option_map (λ r. target (shape_of r.newest) wish) o) found.1
    ∙ ap (λ (s : Shape). Some (target s wish)) found.2.shape
    ∙ ap (λ (s : Shape). Some s) (sym (phases_lead (shape_of m.newest) wish))
    ∙ ap (λ (l : List Phase). Some (last_shape (shape_of m.newest) l)) (sym is) in
    subst (λ (l : List Entry). All (λ plan. planned_shape world plan.end plan.event ≡ Some (last_shape (shape_of m.newest) ahead)) l) (sym (plan-open entries who end left wish none))
    (All-cons (λ plan. planned_shape world plan.end plan.event ≡ Some (last_shape (shape_of m.newest) ahead)) (entry_of who end (Planned left wish)) [] goes
    (All-nil (λ plan. planned_shape world plan.end plan.event ≡ Some (last_shape (shape_of m.newest) ahead))))
