-- Roles without lost slots, by what the known superblocks say: no slot holds two of them.
use Rattle.std.proofs.Common.{◌≡◌, ℕ, ◌<◌, ◌==◌, ◌&&◌, Bool, true, false, cond, List, get_or, Option, Some, None, refl, sym, ◌∙◌, ap, arith}
use Rattle.std.proofs.lemmas.Bool.Decides.{nat_tests}
use Rattle.sb_safe_updates.specs.raid_types_Sectors.{Sector}
use Rattle.sb_safe_updates.specs.raid_types_Shapes.{has_slot}
use Rattle.sb_safe_updates.specs.raid_types_the_Role.{Role}
use Rattle.sb_safe_updates.specs.raid_types_the_Role_TheVariants.{Whole, Recovering, Missing}
use Rattle.sb_safe_updates.proofs.raid_types_Tabulated.{get_or-tabulate}
use Rattle.sb_safe_updates.specs.sb_codec_the_Sb.{Sb}
use Rattle.sb_safe_updates.specs.sb_specs_the_Members.{Members}
use Rattle.sb_safe_updates.specs.sb_specs_Reading.{Scope, is_fresh, entry_of, holds_role, state_of, role_count, holder, holder_from}
use Rattle.sb_safe_updates.specs.sb_specs_Reads.{held_in}
use Rattle.sb_safe_updates.specs.sb_specs_Held.{known_of}
use Rattle.sb_safe_updates.proofs.sb_read_laws_SaidLists.{state-here}
use Rattle.sb_safe_updates.proofs.sb_read_laws_SaidSlots.{role-said, role-below, role-known}
use Rattle.sb_safe_updates.specs.stripe_row_Rows.{role_without}
use Rattle.sb_safe_updates.specs.crash_safety_laws_Held.{IsHeldBy}
use Rattle.sb_add_spare.proofs.Ready.{known-small}

both : (a b : Bool) → (a && b) ≡ true → (a ≡ true) × (b ≡ true)
both true b e = (refl, e)
both false b e = absurd (cc)

equal : (a b : ℕ) → (a == b) ≡ true → a ≡ b
equal a b h = grind (arith, nat_tests)

held-role : (newest : Sb) (role slot : ℕ) (found : Option Sb) (sb : Sb) (state : Role) → found ≡ Some sb → held_in newest role slot found ≡ Some state → entry_of newest sb.dev_number ≡ role
held-role newest role slot found sb state is held =
    equal (entry_of newest sb.dev_number) role (both (is_fresh newest sb) (entry_of newest sb.dev_number == role) (of (holds_role newest role sb) (sym (ap (held_in newest role slot) is) ∙ held))).1
  where
    of : (b : Bool) → cond b (Some (state_of slot sb)) None ≡ Some state → b ≡ true
    of true e = refl
    of false e = absurd (cc)

-- a slot that holds a role still held it before
pub without-holder : (lost : ℕ) (state : Role) (slot : ℕ) → holder (role_without lost state) ≡ Some slot → holder state ≡ Some slot
without-holder lost (Whole s) slot is = by (has_slot lost s) is
  where
    by : (b : Bool) → holder (cond b Missing (Whole s)) ≡ Some slot → holder (Whole s) ≡ Some slot
    by true e = absurd (cc)
    by false e = e
without-holder lost (Recovering s) slot is = by (has_slot lost s) is
  where
    by : (b : Bool) → holder (cond b Missing (Recovering s)) ≡ Some slot → holder (Recovering s) ≡ Some slot
    by true e = absurd (cc)
    by false e = e
without-holder lost Missing slot is = is

module _ (scope : Scope) (former : Members) (gone resync : ℕ) (d : ℕ → ℕ → List Sector) (held : IsHeldBy scope former d) where
  -- ---- the former roles

  -- no slot holds two of them
  pub apart : (a b slot : ℕ) → holder (get_or former.roles a Missing) ≡ Some slot → holder (get_or former.roles b Missing) ≡ Some slot → a ≡ b
  apart a b slot one two =
      let own = role-known scope held.known former held.said a slot one in
      sym (held-role former.newest a slot (get_or (known_of scope held.known former.own) slot None) own.1 (holder_from former.newest a 0 (known_of scope held.known former.own)) own.3 (at a one))
      ∙ held-role former.newest b slot (get_or (known_of scope held.known former.own) slot None) own.1 (holder_from former.newest b 0 (known_of scope held.known former.own)) own.3 (at b two)
    where
      at : (role : ℕ) → holder (get_or former.roles role Missing) ≡ Some slot
          → held_in former.newest role slot (get_or (known_of scope held.known former.own) slot None) ≡ Some (holder_from former.newest role 0 (known_of scope held.known former.own))
      at role is =
          let state = get_or-tabulate (role_count former.newest) (λ role. holder_from former.newest role 0 (known_of scope held.known former.own)) role Missing (role-below scope held.known former held.said role slot is) in
          state-here former.newest role (known_of scope held.known former.own) slot (ap holder (sym (role-said scope held.known former held.said role ∙ state)) ∙ is)

  pub small : (role slot : ℕ) → holder (get_or former.roles role Missing) ≡ Some slot → slot < 32
  small role slot is = known-small scope former gone resync d held slot (role-known scope held.known former held.said role slot is).0
