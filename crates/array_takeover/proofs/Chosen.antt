-- The next phase of a plan is a takeover: which way it goes, and that the array's level can be taken over so.
use Rattle.std.proofs.Common.{◌≡◌, ◌⊎◌, inl, inr, ℕ, not, false, List, [], ◌∷◌, refl, sym, ◌∙◌, ap, subst, arith}
use Rattle.std.specs.Prelude.{IsTrue}
use Rattle.array_takeover_laws.specs.raid_types_Shapes.{is_valid_shape}
use Rattle.array_takeover_laws.specs.raid_types_the_Shape.{Shape}
use Rattle.array_takeover_laws.specs.raid_types_the_Role.{Role}
use Rattle.array_takeover_laws.specs.raid_types_the_Role_TheVariants.{Whole, Recovering, Missing}
use Rattle.array_takeover_laws.specs.raid_types_the_Phase.{Phase}
use Rattle.array_takeover_laws.specs.raid_types_the_Phase_TheVariants.{UpTo6, DownTo5}
use Rattle.array_fixed_sync.specs.reshape_plan_Plans.{AreSound, taken_up}
use Rattle.array_fixed_sync.specs.sb_specs_the_Members.{Members}
use Rattle.array_fixed_sync.specs.sb_specs_Reading.{is_whole, shape_of}
use Rattle.array_fixed_sync.specs.sb_specs_Reads.{has_spare}
use Rattle.reshape_sb_takeover.specs.TakingOver.{CanTakeOver}
use Rattle.array_fixed_sync.proofs.Lowest.{lowest-found}
use Rattle.array_takeover.specs.TakenOver.{IsTakeoverNext, IsTakenSlot}

-- from level 5 to 6, or back
abbrev pub IsWay : Shape → Shape → Type 0
IsWay now to = ((now.level ≡ 5) × (to ≡ taken_up now)) ⊎ ((to.level ≡ 5) × (now ≡ taken_up to))

-- what is sound of such a phase
pub record IsSoundNext (now to : Shape) (size : ℕ) (behind : List Phase) : Type 0 where
  pub valid : IsTrue (is_valid_shape to)
  pub way : IsWay now to
  pub rest : AreSound to size behind

pub sound-next : (now to : Shape) (size : ℕ) (all behind : List Phase) → AreSound now size all → IsTakeoverNext all to behind → IsSoundNext now to size behind
sound-next now to size all behind sound (inl up) =
    let s = subst (λ (l : List Phase). AreSound now size l) up sound in
    record { valid = s.0.new_valid; way = inl s.1; rest = s.2 }
sound-next now to size all behind sound (inr down) =
    let s = subst (λ (l : List Phase). AreSound now size l) down sound in
    record { valid = s.0.new_valid; way = inr s.1; rest = s.2 }

five-six : (n : ℕ) → n ≡ 5 → n ≡ 6 → ⊥
five-six n five six = omega (arith, five, six)

-- so the level can be taken over by that slot
pub can-take : (m : Members) (to : Shape) (slot : ℕ) → IsWay (shape_of m.newest) to → IsTakenSlot m to slot → CanTakeOver m to slot
can-take m to slot (inl up) (inl (six, first)) = inl (record { five = up.0; shape = up.1; spare = (lowest-found 32 (has_spare m.spares) slot first).1 })
can-take m to slot (inl up) (inr (five, last)) = absurd (five-six to.level five (ap (λ (s : Shape). s.level) up.1))
can-take m to slot (inr down) (inl (six, first)) = absurd (five-six to.level down.0 six)
can-take m to slot (inr down) (inr (five, last)) = inr (record { five = down.0; shape = down.1; last = last })

-- a plan was told where phases are ahead
pub told-ahead : {Told : Type 0} (ahead behind : List Phase) (to : Shape) → (ahead ≡ []) ⊎ Told → IsTakeoverNext ahead to behind → Told
told-ahead ahead behind to (inr told) next = told
told-ahead ahead behind to (inl none) (inl up) = absurd (let clash : ◌≡◌ {A = List Phase} [] (UpTo6 to ∷ behind) = sym none ∙ up in cc)
told-ahead ahead behind to (inl none) (inr down) = absurd (let clash : ◌≡◌ {A = List Phase} [] (DownTo5 to ∷ behind) = sym none ∙ down in cc)

-- a role that isn't missing has a holder
pub whole-slot : (state : Role) → not (is_whole state) ≡ false → (slot : ℕ) × (state ≡ Whole slot)
whole-slot (Whole slot) e = (slot, refl)
whole-slot (Recovering slot) e = absurd (cc)
whole-slot Missing e = absurd (cc)
