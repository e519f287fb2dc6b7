-- Behind an update the newest superblock gives no device a role that no slot holds.
use Rattle.std.proofs.Common.{◌≡◌, ◌<◌, ◌≤◌, ⊎_elim, ℕ, Bool, true, false, not, cond, nat_lt, max, get_or, List, length, Option, Some, is_some, sym, ◌∙◌, ap, arith}
use Rattle.sb_safe_updates.specs.raid_types_Shapes.{has_slot}
use Rattle.sb_safe_updates.specs.raid_types_the_Role.{Role}
use Rattle.sb_safe_updates.specs.raid_types_the_Role_TheVariants.{Missing}
use Rattle.sb_safe_updates.proofs.raid_types_Tabulated.{get_or-tabulate}
use Rattle.sb_safe_updates.specs.bank_Given.{Given}
use Rattle.sb_safe_updates.specs.sb_codec_the_Sb.{Sb}
use Rattle.sb_safe_updates.specs.sb_specs_the_Change.{Change}
use Rattle.sb_safe_updates.specs.sb_specs_the_Members.{Members}
use Rattle.sb_safe_updates.specs.sb_specs_Reading.{entry_of, role_count, holder}
use Rattle.sb_safe_updates.specs.sb_specs_Update.{give_of, planned_role, is_planned_spare, entry_for, with_roles}
use Rattle.sb_safe_updates.specs.sb_specs_Updating.{AreNamed}
use Rattle.sb_safe_updates.specs.sb_specs_Outcome.{planned_state}
use Rattle.sb_safe_updates.proofs.sb_specs_ValidFields.{few-roles}
use Rattle.sb_safe_updates.proofs.sb_read_laws_PlanFits.{length-any, roles-at, entry-is}
use Rattle.sb_safe_updates.specs.crash_safety_laws_Updates.{HasOneHolder}
use Rattle.sb_safe_updates.proofs.crash_safety_laws_PlannedRoles.{planned-held}
use Rattle.sb_safe_updates.specs.Named.{AreNamedMissing}
use Rattle.reshape_begin_end.proofs.Made.{IsMade, count-then}

-- an entry that is a role's stands in the table
in-table : (newest : Sb) (dev role : ℕ) → role < 16 → entry_of newest dev ≡ role → get_or newest.dev_roles dev 0xfffe ≡ role
in-table newest dev role few is = by (nat_lt dev newest.max_dev) is
  where
    by : (b : Bool) → cond b (get_or newest.dev_roles dev 0xfffe) 0xfffe ≡ role → get_or newest.dev_roles dev 0xfffe ≡ role
    by true e = e
    by false e = absurd (omega (arith, e, few))

module _ (given : Given) (old : Members) (change : Change) (new : Members) (made : IsMade given old change new) (one : HasOneHolder old change new.lost)
    (long : length new.newest.dev_roles ≡ 384) (named : AreNamed old change old.lost new.lost new.newest) where
  few : (role : ℕ) → role < role_count new.newest → role < 16
  few role lt = let most = few-roles new.newest made.fit.valid in omega (arith, lt, most)

  -- the slot that has the role's entry holds the role
  held-by : (slot role : ℕ) → slot < 32 → role < role_count new.newest → entry_for old change old.lost new.lost slot ≡ Some role → holder (get_or new.roles role Missing) ≡ Some slot
  held-by slot role small lt entered =
      let below = few role lt in
      let is = entry-is (has_slot old.lost slot) (has_slot new.lost slot) (planned_role old.roles (give_of change.gives slot) slot)
      (is_planned_spare old.spares change.added (give_of change.gives slot) slot) role entered (λ faulty. omega (arith, faulty, below)) in
      ⊎_elim (λ planned.
      let count = count-then given old change new made in
      ap (λ (l : List Role). holder (get_or l role Missing)) made.roles
      ∙ ap holder (get_or-tabulate (role_count change.shared) (planned_state old.roles change.gives new.lost) role Missing (omega (arith, count, lt)))
      ∙ planned-held old change new.lost one slot role small is.0 planned)
      (λ spare. absurd (let e = spare.0 in omega (arith, e, below))) is.1

  pub names-all : AreNamedMissing new
  names-all role lt vacant dev below entry =
      let small = few role lt in
      let table : get_or (with_roles old change old.lost new.lost named.0) dev 0xfffe ≡ role =
      ap (λ (l : List ℕ). get_or l dev 0xfffe) (sym named.1) ∙ in-table new.newest dev role small entry in
      let enough : 128 ≤ length named.0 = omega (arith, length-any old change old.lost new.lost named.0, ap (λ (l : List ℕ). length l) named.1, long) in
      ⊎_elim (λ faulty. absurd (not-faulty (get_or named.0 dev 0xfffe) role (sym faulty ∙ table) small))
      (λ entered. absurd (holds role vacant entered.0 (held-by entered.0 role entered.1 lt (entered.3 ∙ ap (λ (e : ℕ). Some e) table))))
      (roles-at old change old.lost new.lost named.0 enough dev 0xfffe below)
    where
      not-faulty : (entry role : ℕ) → max entry 0xfffe ≡ role → role < 16 → ⊥
      not-faulty entry role e lt = omega (arith, e, lt)

      holds : (role : ℕ) → not (is_some (holder (get_or new.roles role Missing))) ≡ true → (slot : ℕ) → holder (get_or new.roles role Missing) ≡ Some slot → ⊥
      holds role vacant slot held = absurd (let both = ap (λ (o : Option ℕ). not (is_some o)) (sym held) ∙ vacant in cc)
