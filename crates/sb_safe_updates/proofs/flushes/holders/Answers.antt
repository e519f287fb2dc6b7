use Rattle.std.proofs.Common.{◌≡◌, ◌⊎◌, ℕ, inl, inr, Bool, true, false, ◌||◌, Some, None, Option, length, get_or, sym, ap, ◌∙◌, arith, refl}
use Rattle.std.proofs.lemmas.Bool.{cases_eq, cases_lt}
use Rattle.std.proofs.lemmas.List.{get_or_past}
use Rattle.raid_layout.specs.raid_types_Shapes.{has_slot}
use Rattle.raid_layout.specs.raid_types_the_Role_TheVariants.{Missing}
use Rattle.sb_update.specs.sb_specs_Reading.{holder}
use Rattle.sb_update.specs.sb_specs_Update.{is_held_by}
use Rattle.array_members.proofs.MarkLaws.{held-holder, holder-held}
use Rattle.sb_safe_updates.proofs.flushes.holders.Goals as goal

or-cases : (a b : Bool) → (a || b) ≡ true → (a ≡ true) ⊎ (b ≡ true)
or-cases true b e = inl refl
or-cases false b e = inr e

or-right : (a b : Bool) → b ≡ true → (a || b) ≡ true
or-right true b e = refl
or-right false b e = e

or-left : (a b : Bool) → a ≡ true → (a || b) ≡ true
or-left true b e = refl
or-left false b e = absurd (cc)

pub loop-role-preserved : goal.loop-role-preserved
loop-role-preserved c =
    let was = c.loop-role.invariant in
    let step = c.with_holder-set.ensures in
    let state = c.get.result in
    let at : c.get.result ≡ get_or c.args.members.now.roles c.loop-role.role Missing = c.get.ensures in
    record {
      all = λ role slot below is. step slot ∙ elim (cases_eq role c.loop-role.role) [
        | inl same ↦
            let here : holder c.get.result ≡ Some slot = ap holder at ∙ ap (λ (k : ℕ). holder (get_or c.args.members.now.roles k Missing)) (sym same) ∙ is in
            or-right (has_slot c.loop-role.set slot) (is_held_by slot c.get.result) (holder-held slot c.get.result here)
        | inr other ↦ or-left (has_slot c.loop-role.set slot) (is_held_by slot c.get.result) (was.all role slot (omega (arith, below, other)) is)
      ];
      only = λ slot has. elim (or-cases (has_slot c.loop-role.set slot) (is_held_by slot c.get.result) (sym (step slot) ∙ has)) [
        | inl before ↦ was.only slot before
        | inr here ↦ (c.loop-role.role, sym (ap holder at) ∙ held-holder slot c.get.result here)
      ];
    }

pub returns : goal.returns
returns c =
    let was = c.loop-role.invariant in
    let roles = c.args.members.now.roles in
    record {
      all = λ role slot is. elim (cases_lt role (length roles)) [
        | inl below ↦ was.all role slot (omega (arith, c.loop-role-test.false, below)) is
        | inr past ↦
            let none : holder (get_or roles role Missing) ≡ None = ap holder (get_or_past roles role Missing past) in
            absurd (falsum slot (sym none ∙ is))
      ];
      only = was.only;
    }
  where
    falsum : (slot : ℕ) → ◌≡◌ {A = Option ℕ} None (Some slot) → ⊥
    falsum slot e = absurd (cc)
