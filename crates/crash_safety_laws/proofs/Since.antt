-- Superblocks that are held as members had them before they lost slots.
use Rattle.std.proofs.Common.{◌≡◌, ℕ, ◌||◌, Bool, true, false, cond, bit_or, map, List, [], ◌∷◌, refl, sym, ◌∙◌, ap, ap₂}
use Rattle.crash_views.specs.raid_types_Sectors.{Sector}
use Rattle.crash_views.specs.raid_types_Shapes.{has_slot}
use Rattle.crash_views.specs.raid_types_the_Role.{Role}
use Rattle.crash_views.specs.raid_types_the_Role_TheVariants.{Whole, Recovering, Missing}
use Rattle.crash_views.specs.sb_specs_the_Members.{Members}
use Rattle.crash_views.specs.sb_specs_Reading.{Scope}
use Rattle.crash_views.proofs.sb_specs_SlotSets.{same_set}
use Rattle.crash_views.specs.stripe_row_Rows.{role_without, members_without}
use Rattle.crash_safety_laws.specs.Held.{IsHeldBy}
use Rattle.crash_safety_laws.specs.Rounds.{IsHeldSince}
use Rattle.crash_safety_laws.proofs.Without.{in-both, without-none}

-- where none was lost, they are held as the members say
pub since-none : (scope : Scope) (members : Members) (d : ℕ → ℕ → List Sector) → IsHeldBy scope members d → IsHeldSince scope members members d
since-none scope members d held = record { gone = 0; since = sym (without-none members); held = held }

-- where more are lost, they stay so
pub since-more : (scope : Scope) (former members : Members) (lost : ℕ) (d : ℕ → ℕ → List Sector) → IsHeldSince scope former members d → IsHeldSince scope former (members_without lost members) d
since-more scope former members lost d h = record {
  gone = bit_or h.gone lost;
  since = ap (members_without lost) h.since ∙ (λ i. record former { roles = all-roles former.roles i; lost = all-lost i });
  held = h.held;
}
  where
    or_joined : (a b c : Bool) → ((a || b) || c) ≡ (a || (b || c))
    or_joined true b c = refl
    or_joined false b c = refl

    all-lost : bit_or (bit_or former.lost h.gone) lost ≡ bit_or former.lost (bit_or h.gone lost)
    all-lost = same_set (bit_or (bit_or former.lost h.gone) lost) (bit_or former.lost (bit_or h.gone lost)) (λ s.
        in-both (bit_or former.lost h.gone) lost s ∙ ap (λ (b : Bool). b || has_slot lost s) (in-both former.lost h.gone s)
        ∙ or_joined (has_slot former.lost s) (has_slot h.gone s) (has_slot lost s)
        ∙ ap (λ (b : Bool). has_slot former.lost s || b) (sym (in-both h.gone lost s)) ∙ sym (in-both former.lost (bit_or h.gone lost) s))

    whole : (slot : ℕ) (gone : Bool) → has_slot h.gone slot ≡ gone → role_without lost (cond gone Missing (Whole slot)) ≡ cond (has_slot (bit_or h.gone lost) slot) Missing (Whole slot)
    whole slot true is = sym (ap (λ (b : Bool). cond b Missing (Whole slot)) (in-both h.gone lost slot ∙ ap (λ (b : Bool). b || has_slot lost slot) is))
    whole slot false is = sym (ap (λ (b : Bool). cond b Missing (Whole slot)) (in-both h.gone lost slot ∙ ap (λ (b : Bool). b || has_slot lost slot) is))

    recovering : (slot : ℕ) (gone : Bool) → has_slot h.gone slot ≡ gone → role_without lost (cond gone Missing (Recovering slot)) ≡ cond (has_slot (bit_or h.gone lost) slot) Missing (Recovering slot)
    recovering slot true is = sym (ap (λ (b : Bool). cond b Missing (Recovering slot)) (in-both h.gone lost slot ∙ ap (λ (b : Bool). b || has_slot lost slot) is))
    recovering slot false is = sym (ap (λ (b : Bool). cond b Missing (Recovering slot)) (in-both h.gone lost slot ∙ ap (λ (b : Bool). b || has_slot lost slot) is))

    all-state : (state : Role) → role_without lost (role_without h.gone state) ≡ role_without (bit_or h.gone lost) state
    all-state (Whole slot) = whole slot (has_slot h.gone slot) refl
    all-state (Recovering slot) = recovering slot (has_slot h.gone slot) refl
    all-state Missing = refl

    all-roles : (roles : List Role) → map (role_without lost) (map (role_without h.gone) roles) ≡ map (role_without (bit_or h.gone lost)) roles
    all-roles [] = refl
    all-roles (state ∷ roles) = ap₂ (λ (r : Role) (l : List Role). r ∷ l) (all-state state) (all-roles roles)
