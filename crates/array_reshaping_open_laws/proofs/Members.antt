-- The members that an opening finds of an array in a reshape, without the slots that recover a role.
use Rattle.std.proofs.Common.{◌≡◌, ℕ, ◌||◌, ◌&&◌, nat_lt, Bool, true, false, List, length, take, get_or, Option, Some, None, refl, sym, ◌∙◌, ap}
use Rattle.array_reshaping_invariant.specs.raid_types_the_Role_TheVariants.{Recovering}
use Rattle.array_reshaping_invariant.specs.raid_types_Shapes.{has_slot}
use Rattle.array_reshaping_invariant.specs.sb_codec_the_Sb.{Sb}
use Rattle.array_reshaping_invariant.specs.bank_Given.{Given, sizes}
use Rattle.array_reshaping_invariant.specs.sb_specs_the_Members.{Members}
use Rattle.array_reshaping_invariant.specs.sb_specs_Reading.{is_reshaping, role_state, holder}
use Rattle.array_reshaping_invariant.specs.sb_specs_Election.{reading_in}
use Rattle.array_reshaping_invariant.specs.sb_specs_Reads.{has_spare}
use Rattle.array_reshaping_invariant.specs.sb_specs_Update.{own_in, is_live}
use Rattle.array_reshaping_invariant.specs.sb_specs_Verdict.{fresh_from}
use Rattle.array_reshaping_invariant.specs.stripe_row_Rows.{reading_of, members_without}
use Rattle.array_reshaping_invariant.proofs.stripe_row_Losses.{state_after, state_kept}
use Rattle.array_reshaping_invariant.specs.history_Stands.{backup_absent}
use Rattle.array_reshaping_invariant.specs.crash_views_Regions.{AreShapesFit, ArePlaced}
use Rattle.array_reshaping_invariant.specs.crash_safety_laws_Marking.{marking}
use Rattle.array_reshaping_invariant.specs.crash_safety_laws_Steady.{AreUnlost}
use Rattle.array_reshaping_invariant.proofs.crash_safety_laws_Without.{live-of, in-both}
use Rattle.array_reshaping_invariant.specs.crash_reshape_laws_Plans.{HasNoneRecovering}
use Rattle.array_reshaping_invariant.specs.array_members_Moving.{IsMoved}
use Rattle.array_reshaping_invariant.specs.array_members_Placed.{IsPlaced}
use Rattle.array_reshaping_invariant.specs.array_members_Rebuilding.{IsFree, AreSparesFree}
use Rattle.array_reshaping_invariant.proofs.array_members_MemberLaws.{placed-without, less-without, unlost-without}
use Rattle.array_reshaping_invariant.proofs.array_members_MovedLaws.{moved-less}
use Rattle.array_reshaping_invariant.proofs.array_members_Still.{placed-two}
use Rattle.array_reshaping_invariant.specs.sb_safe_updates_Unused.{IsUnused}
use Rattle.array_reshaping_invariant.proofs.sb_safe_updates_Unused.{unused-moved}
use Rattle.array_reshaping_invariant.specs.Moving.{AreReshaping}
use Rattle.array_reshaping_invariant.proofs.MembersMove.{backed-moved}
use Rattle.array_found_laws.specs.Found.{AreElected}
use Rattle.array_found_laws.proofs.Elected.{elected-unrefused, elected-valid}
use Rattle.array_found_laws.proofs.Fit.{moving-fit}
use Rattle.array_found_laws.proofs.Placed.{few-spares, placed-found, unlost-found, free-found, live-there, holder-there-is}
use Rattle.array_open_window.specs.Recovering.{AreRecovering}
use Rattle.array_reshaping_open_laws.specs.Opening.{scope_of}

module _ (bank : Given) (given backup : ℕ) (former : Members) (are : AreElected bank given former) (aside : own_in former.own backup ≡ None) (active : is_reshaping former.newest ≡ true)
    (backed : backup_absent (scope_of bank given backup former) former.newest ≡ None) where
  abbrev sec : ℕ → ℕ
  sec = (sizes bank).sectors

  abbrev X : List (Option Sb)
  X = take bank.slots former.own

  pub fit-here : AreShapesFit former.newest
  fit-here =
      let u = elected-unrefused sec X former.lost former are.elected in
      moving-fit former.newest (fresh_from former.newest sec 0 (reading_in (length X) former).own) active (elected-valid sec X former.lost former are.elected) u.fields u.unit

  pub placed-here : IsPlaced bank former
  placed-here = placed-found bank given former are fit-here

  pub unlost-here : AreUnlost former
  unlost-here = unlost-found bank given former are fit-here

  pub free-here : AreSparesFree bank former
  free-here = free-found bank given former are fit-here

  -- the backup has no superblock of the array
  no-own : (slot : ℕ) (sb : Sb) → backup ≡ slot → get_or former.own slot None ≡ Some sb → ⊥
  no-own slot sb same there = absurd (let here : get_or former.own backup None ≡ Some sb = ap (λ (s : ℕ). get_or former.own s None) same ∙ there in let none = sym aside ∙ here in cc)

  pub backed-here : ArePlaced (scope_of bank given backup former) bank former
  backed-here = placed-two (scope_of bank given backup former) bank former placed-here backed (λ role slot held is.
      let found = holder-there-is bank given former are fit-here role slot held in
      no-own slot found.0 (one backup slot is) found.1)
    where
      one : (a b : ℕ) → Some a ≡ Some b → a ≡ b
      one a b e = cc

  idle : (b : Bool) → is_live former.roles former.spares backup ≡ b → b ≡ false
  idle true live = absurd (let found = live-there bank given former are fit-here backup live in no-own backup found.0 refl found.1)
  idle false live = refl

  pub aside-here : IsUnused former backup
  aside-here =
      live-of former (marking former false) refl backup
      ∙ ap (λ (b : Bool). nat_lt backup 32 && b) (idle (is_live former.roles former.spares backup) refl)
      ∙ never (nat_lt backup 32)
    where
      never : (b : Bool) → (b && false) ≡ false
      never true = refl
      never false = refl

  module _ (lost : ℕ) (recovering : AreRecovering former lost) where
    abbrev m : Members
    m = members_without lost former

    -- a spare recovers no role
    out : (slot : ℕ) → has_spare former.spares slot ≡ true → IsFree bank former slot → has_slot (members_without lost former).lost slot ≡ false
    out slot spare free = in-both former.lost lost slot ∙ ap (λ (b : Bool). b || has_slot lost slot) free.unlost ∙ of (has_slot lost slot) refl
      where
        of : (b : Bool) → has_slot lost slot ≡ b → has_slot lost slot ≡ false
        of true has = absurd (let found = recovering.only slot has in free.none found.0 (ap holder found.1))
        of false has = has

    pub moved-here : IsMoved bank former (members_without lost former)
    moved-here =
        moved-less bank lost former m (less-without former lost) placed-here (placed-without bank former lost placed-here) (unlost-without former lost unlost-here)
        (λ few. few) (λ slot has. has) (λ slot has free. out slot has free)

    none-recovering : HasNoneRecovering (members_without lost former)
    none-recovering role slot is =
        let kept = state_kept lost slot (role_state (reading_of former) role) (ap holder (sym (state_after former lost role) ∙ is)) in
        let was : role_state (reading_of former) role ≡ Recovering slot = sym kept.same ∙ sym (state_after former lost role) ∙ is in
        absurd (let has = recovering.each role slot was in let not = kept.here in cc)

    pub reshaping-here : AreReshaping (scope_of bank given backup former) bank (members_without lost former)
    reshaping-here = record {
      placed = placed-without bank former lost placed-here;
      backed = backed-moved (scope_of bank given backup former) bank former m moved-here backed-here;
      aside = unused-moved bank former m moved-here backup aside-here;
      active = active;
      whole = none-recovering;
      unlost = unlost-without former lost unlost-here;
      free = moved-here.free free-here;
      spares = few-spares bank former are.few are.elected;
    }
