-- Behind a mark the newest superblock gives no device a role that no slot holds.
use Rattle.std.proofs.Common.{◌≡◌, ⊎_elim, ℕ, ◌<◌, ◌≤◌, Bool, true, false, not, cond, nat_lt, max, get_or, replicate, List, length, Option, Some, None, is_some, sym, ◌∙◌, ap, arith}
use Rattle.std.specs.Option.{option_map_or}
use Rattle.raid_layout.specs.raid_types_Shapes.{has_slot}
use Rattle.raid_layout.specs.raid_types_the_Role.{Role}
use Rattle.raid_layout.specs.raid_types_the_Role_TheVariants.{Missing}
use Rattle.sb_update.specs.bank_Given.{Given}
use Rattle.sb_update.proofs.sb_specs_ValidFields.{few-roles}
use Rattle.sb_update.specs.sb_codec_the_Sb.{Sb}
use Rattle.sb_update.specs.sb_specs_the_Give.{Give}
use Rattle.sb_update.specs.sb_specs_the_Give_TheVariants.{Same}
use Rattle.sb_update.specs.sb_specs_the_Members.{Members}
use Rattle.sb_update.specs.sb_specs_Reading.{entry_of, role_count, holder}
use Rattle.sb_update.specs.sb_specs_Update.{give_of, planned_role, is_planned_spare, entry_for, with_roles}
use Rattle.sb_update.specs.sb_specs_Updating.{AreNamed}
use Rattle.array_members.proofs.sb_read_laws_PlanFits.{length-any, roles-at, entry-is}
use Rattle.array_members.proofs.sb_read_laws_SaidLists.{role-holder}
use Rattle.array_members.specs.stripe_row_Rows.{role_without}
use Rattle.sb_safe_updates.specs.Named.{AreNamedMissing}
use Rattle.array_members.specs.crash_safety_laws_Marking.{marking}
use Rattle.array_members.specs.Placed.{IsPlaced, AreLess}
use Rattle.array_members.proofs.Fit.{count-alike}
use Rattle.array_members.proofs.crash_safety_laws_Kept.{give_of-same}
use Rattle.array_members.proofs.crash_safety_laws_Without.{state-without}

-- an entry that is a role's stands in the table
in-table : (newest : Sb) (dev role : ℕ) → role < 16 → entry_of newest dev ≡ role → get_or newest.dev_roles dev 0xfffe ≡ role
in-table newest dev role few is = by (nat_lt dev newest.max_dev) is
  where
    by : (b : Bool) → cond b (get_or newest.dev_roles dev 0xfffe) 0xfffe ≡ role → get_or newest.dev_roles dev 0xfffe ≡ role
    by true e = e
    by false e = absurd (omega (arith, e, few))

-- a slot that isn't lost holds what it held
still-held : (lost : ℕ) (state : Role) (slot : ℕ) → holder state ≡ Some slot → has_slot lost slot ≡ false → holder (role_without lost state) ≡ Some slot
still-held lost state slot held here =
    ap (λ (o : Option ℕ). holder (cond (option_map_or (has_slot lost) o false) Missing state)) held ∙ ap (λ (b : Bool). holder (cond b Missing state)) here ∙ held

module _ (given : Given) (clean : Bool) (old new : Members) (placed : IsPlaced given old) (less : AreLess new.lost old new) (long : length new.newest.dev_roles ≡ 384)
    (named : AreNamed old (marking old clean) old.lost new.lost new.newest) where
  few : (role : ℕ) → role < role_count new.newest → role < 16
  few role lt =
      let most = few-roles old.newest placed.fit.valid in
      let same = count-alike old.newest new.newest less.reshape less.shape less.size in
      omega (arith, lt, most, same)

  -- the slot that has the role's entry holds the role
  held-by : (slot role : ℕ) → entry_for old (marking old clean) old.lost new.lost slot ≡ Some role → role < 16 → holder (get_or new.roles role Missing) ≡ Some slot
  held-by slot role entered lt =
      let is = entry-is (has_slot old.lost slot) (has_slot new.lost slot) (planned_role old.roles (give_of (replicate 32 Same) slot) slot)
      (is_planned_spare old.spares None (give_of (replicate 32 Same) slot) slot) role entered (λ faulty. omega (arith, faulty, lt)) in
      ⊎_elim (λ planned.
      let held = role-holder slot old.roles role (ap (λ (g : Give). planned_role old.roles g slot) (sym (give_of-same 32 slot)) ∙ planned) in
      ap (λ (l : List Role). holder (get_or l role Missing)) less.roles ∙ ap holder (state-without new.lost old.roles role) ∙ still-held new.lost (get_or old.roles role Missing) slot held is.0)
      (λ spare. absurd (let e = spare.0 in omega (arith, e, lt))) is.1

  pub marked-missing : AreNamedMissing new
  marked-missing role lt vacant dev below entry =
      let small = few role lt in
      let table : get_or (with_roles old (marking old clean) old.lost new.lost named.0) dev 0xfffe ≡ role =
      ap (λ (l : List ℕ). get_or l dev 0xfffe) (sym named.1) ∙ in-table new.newest dev role small entry in
      let enough : 128 ≤ length named.0 = omega (arith, length-any old (marking old clean) old.lost new.lost named.0, ap (λ (l : List ℕ). length l) named.1, long) in
      ⊎_elim (λ faulty. absurd (not-faulty (get_or named.0 dev 0xfffe) role (sym faulty ∙ table) small))
      (λ entered. absurd (holds role vacant entered.0 (held-by entered.0 role (entered.3 ∙ ap (λ (e : ℕ). Some e) table) small)))
      (roles-at old (marking old clean) old.lost new.lost named.0 enough dev 0xfffe below)
    where
      not-faulty : (entry role : ℕ) → max entry 0xfffe ≡ role → role < 16 → ⊥
      not-faulty entry role e lt = omega (arith, e, lt)

      holds : (role : ℕ) → not (is_some (holder (get_or new.roles role Missing))) ≡ true → (slot : ℕ) → holder (get_or new.roles role Missing) ≡ Some slot → ⊥
      holds role vacant slot held = absurd (let both = ap (λ (o : Option ℕ). not (is_some o)) (sym held) ∙ vacant in cc)
