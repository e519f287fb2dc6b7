-- A step, or a reply, that leaves none: each plan that is open goes to the array's shape then, and nothing waits.
use Rattle.std.proofs.Common.{◌≡◌, ℕ, ◌+◌, ◌-◌, ◌*◌, ◌≤◌, ◌==◌, min, inl, inr, Bool, true, false, Option, Some, None, List, [], ◌∷◌, refl, sym, ◌∙◌, subst, arith}
use Rattle.std.specs.Prelude.{if◌then◌else◌}
use Rattle.std.specs.List.{All}
use Rattle.std.proofs.lemmas.Bool.Decides.{nat_tests}
use Rattle.std.proofs.lemmas.List.Elements.{All-head, All-tail}
use Rattle.array_fixed_invariant.specs.raid_types_the_Shape.{Shape}
use Rattle.array_specs.specs.raid_types_the_Phase.{Phase}
use Rattle.array_fixed_invariant.specs.raid_types_the_Phase_TheVariants.{Reshape, UpTo6, DownTo5}
use Rattle.array_fixed_invariant.specs.reshape_plan_Plans.{phase_steps, phases_steps, last_shape}
use Rattle.array_fixed_invariant.specs.sb_specs_the_Members.{Members}
use Rattle.array_fixed_invariant.specs.sb_specs_Reading.{is_reshaping, shape_of, final_shape}
use Rattle.array_fixed_invariant.specs.history_the_Entry.{Entry}
use Rattle.array_fixed_invariant.specs.history_the_Event.{Event}
use Rattle.array_fixed_invariant.specs.history_Reshaped.{open_plans, planned_shape}
use Rattle.array_fixed_invariant.specs.history_World.{World}
use Rattle.array_fixed_invariant.specs.crash_views_Regions.{DoWithout}
use Rattle.array_fixed_invariant.specs.array_members_the_Work.{Work}
use Rattle.array_fixed_invariant.specs.array_members_Status.{stripes_of, vacant_count, spare_count, resync_left, recovery_left}
use Rattle.array_fixed_invariant.specs.reshape_request_the_PhasesLeft.{PhasesLeft}
use Rattle.array_fixed_invariant.specs.reshape_request_Left.{phases_of}
use Rattle.array_fixed_invariant.specs.history_invariant_Recorded.{ends_reshape}
use Rattle.array_fixed_invariant.specs.history_invariant_laws_Reliable.{IsReliable}
use Rattle.array_fixed_invariant.proofs.history_invariant_laws_Plans.{ArePlannedTo}
use Rattle.array_fixed_invariant.specs.Still.{IsNamedOrClean}
use Rattle.array_fixed_invariant.proofs.Ends.{is_finish, EndsPlans}
use Rattle.array_specs.specs.Parts.{still_left}
use Rattle.array_specs.specs.Plans.{GoTo}

-- ---- where the plans go

-- each plan that is open goes where the phases lead that are ahead of these members, or behind the reshape that is active in them
abbrev pub LeadTo : Type 0 → World → List Entry → Members → PhasesLeft → Type 0
LeadTo tells world entries m ahead = tells → IsReliable world entries → GoTo world (last_shape (if is_reshaping m.newest then final_shape m.newest else shape_of m.newest) (phases_of ahead)) entries

pub plans-of : (world : World) (shape : Shape) (plans : List Entry) → All (λ plan. planned_shape world plan.end plan.event ≡ Some shape) plans → ArePlannedTo world shape plans
plans-of world shape [] to = tt
plans-of world shape (plan ∷ plans) to = (All-head (λ plan. planned_shape world plan.end plan.event ≡ Some shape) plan plans to, plans-of world shape plans (All-tail (λ plan. planned_shape world plan.end plan.event ≡ Some shape) plan plans to))

-- ---- nothing is left

-- each phase has a step
phase-some : (now : Shape) (size : ℕ) (phase : Phase) → 1 ≤ phase_steps now size phase
phase-some now size (Reshape to) = omega arith
phase-some now size (UpTo6 to) = omega arith
phase-some now size (DownTo5 to) = omega arith

phases-none : (now : Shape) (size : ℕ) (ahead : List Phase) → phases_steps now size ahead ≡ 0 → ahead ≡ []
phases-none now size [] none = refl
phases-none now size (phase ∷ ahead) none = absurd (let some = phase-some now size phase in omega (arith, some, none))

-- so none is ahead where no step is left
pub ahead-none : (now : Shape) (size left : ℕ) (ahead : List Phase) → left + phases_steps now size ahead ≡ 0 → ahead ≡ []
ahead-none now size left ahead none = phases-none now size ahead (omega (arith, none))

-- nor is a resync pending
resync-none : (resync : Option ℕ) (m : Members) (recovery waiting more : ℕ) → (resync_left resync m + recovery + waiting) + more ≡ 0 → resync ≡ None
resync-none None m recovery waiting more none = refl
resync-none (Some mended) m recovery waiting more none = absurd (none-of (stripes_of m) mended recovery waiting more none)
  where
    none-of : (stripes mended recovery waiting more : ℕ) → (stripes - mended + 1 + recovery + waiting) + more ≡ 0 → ⊥
    none-of stripes mended recovery waiting more none = omega (arith, none)

pub resync-over : (work : Work) (m : Members) (ahead : PhasesLeft) → still_left work m ahead ≡ 0 → work.resync ≡ None
resync-over work m ahead none =
    resync-none work.resync m (recovery_left work m (shape_of m.newest).disks) (min (vacant_count m) (spare_count m) * (stripes_of m + 2)) (phases_steps (shape_of m.newest) m.newest.size (phases_of ahead)) none

-- ---- the event

zero-is : (n : ℕ) → (n == 0) ≡ true → n ≡ 0
zero-is n is = grind (arith, nat_tests, is)

-- An event that tells how many steps are left ends no reshape, and leaves some or closes the plans.
pub leaves-or-closes : {tells : Type 0} {world : World} {entries : List Entry} {work : Work} (old new : Members) (ahead : PhasesLeft) (event : Event) (left : ℕ)
    → LeadTo tells world entries old ahead → is_reshaping old.newest ≡ false → shape_of new.newest ≡ shape_of old.newest → left ≡ still_left work new ahead
    → is_finish event ≡ false → ends_reshape event ≡ (left == 0) → (left ≡ 0 → DoWithout new → IsNamedOrClean new) → EndsPlans tells world entries new work event
leaves-or-closes {tells = tells} {world = world} {entries = entries} {work = work} old new ahead event left lead still same told other ends named = of (left == 0) refl
  where
    of : (b : Bool) → (left == 0) ≡ b → EndsPlans tells world entries new work event
    of false is = inl (ends ∙ is)
    of true is = inr (inr (record {
      other = other;
      plans = λ t right. plans-of world (shape_of new.newest) (open_plans entries) (subst (λ (s : Shape). GoTo world s entries) there (lead t right));
      synced = resync-over work new ahead none;
      named = named (zero-is left is);
    }))
      where
        none : still_left work new ahead ≡ 0
        none = sym told ∙ zero-is left is

        there : last_shape (if is_reshaping old.newest then final_shape old.newest else shape_of old.newest) (phases_of ahead) ≡ shape_of new.newest
        there =
            (λ i. last_shape (if still i then final_shape old.newest else shape_of old.newest) (ahead-none (shape_of new.newest) new.newest.size _ (phases_of ahead) none i)) ∙ sym same
