-- Where the newest superblock gives no device below 128 a vacant role, the superblocks are held as the members are: each that is held bears such a number.
use Rattle.std.proofs.Common.{◌≡◌, ℕ, ◌<◌, ◌==◌, ◌&&◌, Bool, true, false, not, cond, map, List, length, get_or, Option, Some, None, is_some, refl, sym, ◌∙◌, ap, subst, arith}
use Rattle.std.specs.Option.{option_map_or}
use Rattle.std.proofs.lemmas.Bool.Decides.{nat_tests}
use Rattle.std.proofs.lemmas.List.{length-map}
use Rattle.array_reshaping_invariant.specs.raid_types_Sectors.{Sector}
use Rattle.array_reshaping_invariant.specs.raid_types_Shapes.{has_slot}
use Rattle.array_reshaping_invariant.specs.raid_types_the_Role.{Role}
use Rattle.array_call_laws.proofs.raid_types_Tabulated.{get_or-tabulate}
use Rattle.array_reshaping_invariant.specs.raid_types_the_Role_TheVariants.{Missing}
use Rattle.array_reshaping_invariant.specs.sb_codec_the_Sb.{Sb}
use Rattle.array_reshaping_invariant.specs.bank_Given.{Given}
use Rattle.array_reshaping_invariant.specs.sb_specs_the_Members.{Members}
use Rattle.array_reshaping_invariant.specs.sb_specs_Reading.{Scope, is_fresh, entry_of, holder, holder_from, role_count, state_of}
use Rattle.array_reshaping_invariant.specs.sb_specs_Reads.{held_in}
use Rattle.array_reshaping_invariant.specs.sb_specs_Update.{own_in}
use Rattle.array_reshaping_invariant.specs.sb_specs_Held.{known_of, IsKnown}
use Rattle.array_reshaping_invariant.proofs.sb_specs_ReadLists.{held-here}
use Rattle.array_reshaping_invariant.proofs.sb_read_laws_SaidSlots.{below-length, role-below, role-known, role-said}
use Rattle.array_reshaping_invariant.specs.stripe_row_Rows.{role_without, members_without}
use Rattle.array_reshaping_invariant.specs.crash_safety_laws_Held.{IsHeldBy}
use Rattle.array_reshaping_invariant.specs.array_members_Placed.{IsPlaced}
use Rattle.array_reshaping_invariant.specs.crash_views_Views.{Ledger}
use Rattle.array_reshaping_invariant.specs.crash_safety_laws_Steady.{IsSteady, IsNamedNow}
use Rattle.array_reshaping_invariant.proofs.array_members_PlacedLaws.{kept-roles}
use Rattle.array_reshaping_invariant.specs.sb_safe_updates_Named.{AreNamedMissing}
use Rattle.array_reshaping_invariant.proofs.crash_safety_laws_Without.{state-without}

-- a slot's superblock that holds a role has the role's entry
holds-entry : (newest : Sb) (role slot : ℕ) (sb : Sb) (state : Role) → held_in newest role slot (Some sb) ≡ Some state → entry_of newest sb.dev_number ≡ role
holds-entry newest role slot sb state is = by (is_fresh newest sb) (entry_of newest sb.dev_number == role) refl is
  where
    by : (fresh same : Bool) → (entry_of newest sb.dev_number == role) ≡ same → cond (fresh && same) (Some (state_of slot sb)) None ≡ Some state → entry_of newest sb.dev_number ≡ role
    by true true e found = grind (arith, nat_tests, e)
    by true false e found = absurd (cc)
    by false same e found = absurd (cc)

-- a role that members hold has a device, by the superblocks that are held
held-named : (scope : Scope) (m : Members) (d : ℕ → ℕ → List Sector) (role slot : ℕ) → IsHeldBy scope m d → holder (get_or m.roles role Missing) ≡ Some slot
    → (device : ℕ) × (device < 128) × (entry_of m.newest device ≡ role)
held-named scope m d role slot h holds =
    let there = role-known scope h.known m h.said role slot holds in
    let known : IsKnown scope m.newest (own_in m.own slot) slot d = h.updated.held.each slot there.0 in
    let same : known.sb ≡ there.1 = some-same known.sb there.1 (sym known.own ∙ there.2) in
    let number : there.1.dev_number < 128 = subst (λ (sb : Sb). sb.dev_number < 128) same known.number in
    (there.1.dev_number, number, entry there.1 there.3)
  where
    some-same : (a b : Sb) → ◌≡◌ {A = Option Sb} (Some a) (Some b) → a ≡ b
    some-same a b e = cc

    here : (state : Role) × (held_in m.newest role slot (get_or (known_of scope h.known m.own) slot None) ≡ Some state)
    here = held-here m.newest role (known_of scope h.known m.own) slot (ap holder (sym
        (role-said scope h.known m h.said role
        ∙ get_or-tabulate (role_count m.newest) (λ role. holder_from m.newest role 0 (known_of scope h.known m.own)) role Missing (role-below scope h.known m h.said role slot holds))) ∙ holds)

    entry : (sb : Sb) → get_or (known_of scope h.known m.own) slot None ≡ Some sb → entry_of m.newest sb.dev_number ≡ role
    entry sb is = holds-entry m.newest role slot sb here.0 (ap (held_in m.newest role slot) (sym is) ∙ here.1)

-- so no slot that held one was lost
module _ (scope : Scope) (given : Given) (former : Members) (gone : ℕ) (d : ℕ → ℕ → List Sector) (held : IsHeldBy scope former d)
    (placed : IsPlaced given (members_without gone former)) (named : AreNamedMissing (members_without gone former)) where
  still-there : (role slot : ℕ) → holder (get_or former.roles role Missing) ≡ Some slot → has_slot gone slot ≡ false
  still-there role slot holds = by (has_slot gone slot) refl
    where
      below : role < role_count former.newest
      below =
          let long = below-length former.roles role slot holds in
          let same : length (map (role_without gone) former.roles) ≡ length former.roles = length-map former.roles (role_without gone) in
          let count = placed.roles in
          omega (arith, long, same, count)

      lost : has_slot gone slot ≡ true → get_or (map (role_without gone) former.roles) role Missing ≡ Missing
      lost is = state-without gone former.roles role
          ∙ ap (λ (o : Option ℕ). cond (option_map_or (has_slot gone) o false) Missing (get_or former.roles role Missing)) holds
          ∙ ap (λ (b : Bool). cond b Missing (get_or former.roles role Missing)) is

      by : (b : Bool) → has_slot gone slot ≡ b → b ≡ false
      by true is = absurd (
          let device = held-named scope former d role slot held holds in
          named role below (ap (λ (s : Role). not (is_some (holder s))) (lost is)) device.0 device.1 device.2)
      by false is = refl

  roles-same : former.roles ≡ map (role_without gone) former.roles
  roles-same = sym (kept-roles gone former.roles still-there)

pub missing-named : {sound : Type 0} {scope : Scope} {given : Given} {told : Ledger} (m : Members) (d : ℕ → ℕ → List Sector) → IsPlaced given m → AreNamedMissing m
    → IsSteady sound scope given told m d → IsNamedNow sound scope given told m d
missing-named {scope = scope} {given = given} m d placed missing steady = record {
  steady = steady;
  roles = roles-same scope given steady.former steady.since.gone d steady.since.held
      (subst (λ (n : Members). IsPlaced given n) steady.since.since placed) (subst AreNamedMissing steady.since.since missing)
      ∙ ap (λ (n : Members). n.roles) (sym steady.since.since);
}
