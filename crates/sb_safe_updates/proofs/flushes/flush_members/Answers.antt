use Rattle.std.proofs.Common.{◌≡◌, ◌<◌, ℕ, inl, inr, Bool, true, false, not, ◌&&◌, Some, None, Option, List, length, get_or, sym, ap, ◌∙◌, arith, refl}
use Rattle.std.specs.Prelude.{◌^◌, ◌-◌}
use Rattle.std.proofs.lemmas.Bool.{cases_lt, agree_below_at}
use Rattle.std.proofs.lemmas.List.{get_or_past}
use Rattle.raid_layout.specs.raid_types_Shapes.{has_slot}
use Rattle.raid_layout.specs.raid_types_the_Role.{Role}
use Rattle.raid_layout.specs.raid_types_the_Role_TheVariants.{Missing}
use Rattle.sb_update.specs.sb_specs_Reading.{role_count, holder}
use Rattle.sb_update.proofs.sb_specs_SlotSets.{none_above}
use Rattle.array_members.proofs.Fit.{few}
use Rattle.sb_safe_updates.proofs.flushes.flush_members.Goals as goal

pub holders-requires-clause-small : goal.holders-requires-clause-small
holders-requires-clause-small g c = λ role slot is. (c.requires.placed.holders role slot is).small

all_there : (s : ℕ) → s < 32 → has_slot (2 ^ 32 - 1) s ≡ true
all_there s below = agree_below_at (λ s. has_slot (2 ^ 32 - 1) s) (λ s. true) 32 s refl below

out : (a b : Bool) → (a && not b) ≡ false → b ≡ false → a ≡ false
out true b e f = absurd (cc)
out false b e f = refl

inside : (a b : Bool) → (a && not b) ≡ true → (a ≡ true) × (b ≡ false)
inside true true e = absurd (cc)
inside true false e = (refl, refl)
inside false b e = absurd (cc)

kept : (b : Bool) → (true && not b) ≡ false → b ≡ true
kept true e = refl
kept false e = absurd (cc)

role-below : (roles : List Role) (disks role slot : ℕ) → length roles ≡ disks → holder (get_or roles role Missing) ≡ Some slot → role < disks
role-below roles disks role slot long is = elim (cases_lt role disks) [
  | inl below ↦ below
  | inr past ↦
      let none : holder (get_or roles role Missing) ≡ None = ap holder (get_or_past roles role Missing (omega (arith, long, past))) in absurd (falsum (sym none ∙ is))
]
  where
    falsum : ◌≡◌ {A = Option ℕ} None (Some slot) → ⊥
    falsum e = absurd (cc)

pub returns-clause-flushed : goal.returns-clause-flushed
returns-clause-flushed g c = λ told role slot is gone k.
    let here = c.requires.placed.holders role slot is in
    let held : has_slot c.holders.result slot ≡ true = c.holders.ensures.all role slot is in
    let other : has_slot c.without-others.result slot ≡ false =
    c.without-others.ensures slot here.small ∙ ap (λ (b : Bool). has_slot (2 ^ 32 - 1) slot && not b) held ∙ none (has_slot (2 ^ 32 - 1) slot) in
    c.flush_slots-failed.ensures.tried.flushed told slot k here.known
    (out (has_slot c.flush_slots-failed.result slot) (has_slot c.without-others.result slot) (sym (c.without.ensures slot here.small) ∙ gone) other)
  where
    none : (b : Bool) → (b && not true) ≡ false
    none true = refl
    none false = refl

pub returns-clause-failed : goal.returns-clause-failed
returns-clause-failed g c = λ s has.
    let small : s < 32 = elim (cases_lt s 32) [ inl below ↦ below | inr above ↦ absurd (falsum (sym (none_above c.without.result s c.without.type_inv above) ∙ has)) ] in
    let parts : (has_slot c.flush_slots-failed.result s ≡ true) × (has_slot c.without-others.result s ≡ false) =
    inside (has_slot c.flush_slots-failed.result s) (has_slot c.without-others.result s) (sym (c.without.ensures s small) ∙ has) in
    let held : has_slot c.holders.result s ≡ true =
    kept (has_slot c.holders.result s) (ap (λ (b : Bool). b && not (has_slot c.holders.result s)) (sym (all_there s small)) ∙ sym (c.without-others.ensures s small) ∙ parts.1) in
    let role = c.holders.ensures.only s held in (
      c.flush_slots-failed.ensures.tried.failed s parts.0 parts.1,
      role.0,
      role-below c.args.members.now.roles (role_count c.args.members.now.newest) role.0 s c.requires.placed.roles role.1,
      role.1,
    )
  where
    falsum : false ≡ true → ⊥
    falsum e = absurd (cc)

pub holders-requires-clause-few : goal.holders-requires-clause-few
holders-requires-clause-few g c = let most = few (g.B.Bank.given c.args.bank.now) c.args.members.now c.requires.placed in omega (arith, most)
