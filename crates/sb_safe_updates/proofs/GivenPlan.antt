-- The view that an update plans which gives a role to a slot: the members with the role given, without the slots that are lost.
use Rattle.std.proofs.Common.{◌≡◌, inl, inr, ℕ, ◌<◌, ◌||◌, Bool, true, false, not, cond, map, List, length, get_or, Option, Some, None, is_some, option_map, refl, sym, ◌∙◌, ap, ap₂, subst, arith}
use Rattle.std.specs.List.{list_any}
use Rattle.std.specs.Option.{option_map_or}
use Rattle.std.proofs.lemmas.Bool.{cases_eq}
use Rattle.raid_layout.proofs.raid_types_Tabulated.{get_or-tabulate}
use Rattle.raid_layout.specs.raid_types_the_Role.{Role}
use Rattle.raid_layout.specs.raid_types_the_Role_TheVariants.{Whole, Recovering, Missing}
use Rattle.sb_update.specs.sb_codec_the_Sb.{Sb}
use Rattle.sb_update.specs.bank_Given.{Given}
use Rattle.sb_update.specs.sb_specs_the_Give.{Give}
use Rattle.sb_update.specs.sb_specs_the_Give_TheVariants.{Same}
use Rattle.sb_update.specs.sb_specs_the_Change.{Change}
use Rattle.sb_update.specs.sb_specs_the_Members.{Members}
use Rattle.sb_update.specs.sb_specs_Reading.{is_whole, shape_of, role_count, role_state, rows_held, holder}
use Rattle.sb_update.specs.sb_specs_Reads.{has_spare}
use Rattle.sb_update.specs.sb_specs_Update.{with_give, with_recovery, give_of, own_in, is_held_by}
use Rattle.sb_update.specs.sb_specs_Outcome.{is_in_update, AreLive, AreGivesOfLive, planned_roles}
use Rattle.sb_update.proofs.sb_specs_ReadAlike.{shape-same}
use Rattle.array_members.specs.stripe_row_Rows.{reading_of, role_without}
use Rattle.array_members.specs.Placed.{is_unassigned, IsPlaced, HaveSameReshape}
use Rattle.array_members.specs.Rebuilding.{AreSparesFree}
use Rattle.array_members.specs.crash_safety_laws_Marking.{giving}
use Rattle.array_members.specs.crash_safety_laws_Updates.{planned_view, IsLessView}
use Rattle.array_members.specs.crash_safety_laws_Giving as law
use Rattle.array_members.proofs.Gives.{give-here, give-other, roles-given}
use Rattle.array_members.proofs.GivenMembers.{IsReceiver, W, givable, own-here, own-other, placed-given}
use Rattle.array_members.proofs.crash_safety_laws_Without.{state-without, without-holder}
use Rattle.array_members.proofs.crash_safety_laws_ChangeViews.{planned-live}
use Rattle.array_members.proofs.crash_safety_laws_Kept.{without-less, still-missing}
use Rattle.array_members.proofs.crash_safety_laws_PlannedRoles.{says-shared}
use Rattle.array_members.proofs.Fit.{reshape-said, fit-alike, count-alike}

-- ---- a view that loses roles is placed, if its live slots can be written

pub less-placed : (given : Given) (m view : Members) → IsLessView m view → AreLive given view → IsPlaced given m → IsPlaced given view
less-placed given m view less live placed = record {
  fit = fit-alike m.newest view.newest reshape same (sym less.array.size) placed.fit;
  roles = less.roles ∙ placed.roles ∙ sym (count-alike m.newest view.newest reshape same (sym less.array.size));
  holders = λ role slot held.
      let k = placed.holders role slot (was role slot held) in
      let off = less.offsets role slot held in
      let size = less.array.size in
      let within = k.within in
      record { small = k.small; known = k.known; short = k.short; within = omega (arith, off, size, within) };
  behind = λ role slot held. let b = placed.behind role slot (was role slot held) in let off = less.offsets role slot held in omega (arith, b, off);
  apart = λ a b slot one two. placed.apart a b slot (was a slot one) (was b slot two);
  live = live;
}
  where
    same : shape_of view.newest ≡ shape_of m.newest
    same = sym (shape-same m.newest view.newest less.array)

    reshape : HaveSameReshape m.newest view.newest
    reshape = reshape-said m.newest view.newest less.array

    was : (role slot : ℕ) → holder (role_state (reading_of view) role) ≡ Some slot → holder (role_state (reading_of m) role) ≡ Some slot
    was role slot held = ap holder (sym (less.states role slot held)) ∙ held

-- ---- a spare that gets a vacant role

-- a spare may get a vacant role
pub receiver-of : (given : Given) (m : Members) (role slot : ℕ) → IsPlaced given m → AreSparesFree given m → role < role_count m.newest → is_unassigned (reading_of m) role ≡ true → has_spare m.spares slot ≡ true
    → IsReceiver given m role slot
receiver-of given m role slot placed free below vacant spare = record {
  room = (free slot spare).room;
  behind = (free slot spare).behind;
  member = placed.live slot live;
  live = live;
  only = λ r is. absurd ((free slot spare).none r is);
  others = λ s is. absurd (let e = sym (ap (λ (h : Option ℕ). not (is_some h)) is) ∙ vacant in cc);
  unlost = (free slot spare).unlost;
  below = let same = placed.roles in omega (arith, below, same);
}
  where
    or_true : (b : Bool) → (b || true) ≡ true
    or_true true = refl
    or_true false = refl

    live : (list_any (is_held_by slot) m.roles || has_spare m.spares slot) ≡ true
    live = ap (λ (b : Bool). list_any (is_held_by slot) m.roles || b) spare ∙ or_true (list_any (is_held_by slot) m.roles)

-- as the law of such an update has it
pub spare-receives : (given : Given) (m : Members) (role slot : ℕ) → IsPlaced given m → AreSparesFree given m → role < role_count m.newest → is_unassigned (reading_of m) role ≡ true → has_spare m.spares slot ≡ true
    → law.IsReceiver given m role slot
spare-receives given m role slot placed free below vacant spare = record {
  spare = spare;
  room = (free slot spare).room;
  behind = (free slot spare).behind;
  below = below;
  vacant = λ s is. absurd (let e = sym (ap (λ (h : Option ℕ). not (is_some h)) is) ∙ vacant in cc);
}

-- ---- the plan

module _ (given : Given) (old : Members) (placed : IsPlaced given old) (recovery : Option ℕ) (role slot : ℕ) (to : IsReceiver given old role slot) where
  abbrev Gives : Change
  Gives = giving old slot role recovery

  abbrev With : Members
  With = W given old placed recovery role slot to

  small : slot < 32
  small = to.room.small

  pub gives-live : AreGivesOfLive old (giving old slot role recovery)
  gives-live s isnt = elim (cases_eq s slot) [
    | inl same ↦ absurd (
        let live : is_in_update old Gives s ≡ true = ap (is_in_update old Gives) same ∙ ap (λ (b : Bool). b || false) to.live in
        let clash = sym isnt ∙ live in cc
        )
    | inr apart ↦ give-other slot role recovery s apart
  ]

  module _ (lost : ℕ) where
    abbrev Plan : Members
    Plan = planned_view old Gives lost

    roles-are : planned_roles old Gives lost ≡ map (role_without lost) With.roles
    roles-are = roles-given old.roles lost placed.apart (λ r s is. (placed.holders r s is).small) role slot recovery small (givable given old placed recovery role slot to lost)
        (role_count old.newest) (sym placed.roles) to.below

    state-is : (r : ℕ) → role_state (reading_of Plan) r ≡ role_without lost (role_state (reading_of With) r)
    state-is r = ap (λ (l : List Role). get_or l r Missing) roles-are ∙ state-without lost With.roles r

    pub given-state : (r : ℕ) → role_state (reading_of (planned_view old (giving old slot role recovery) lost)) r ≡ role_without lost (role_state (reading_of (W given old placed recovery role slot to)) r)
    given-state = state-is

    -- a role that a slot holds is as it was given
    state-same : (r s : ℕ) → holder (role_state (reading_of Plan) r) ≡ Some s → role_state (reading_of Plan) r ≡ role_state (reading_of With) r
    state-same r s held = state-is r ∙ without-holder lost (role_state (reading_of With) r) s (ap holder (sym (state-is r)) ∙ held)

    small-of : (r s : ℕ) → holder (role_state (reading_of Plan) r) ≡ Some s → s < 32
    small-of r s held = ((placed-given given old placed recovery role slot to).holders r s (ap holder (sym (state-same r s held)) ∙ held)).small

    -- and its slot has what it is given
    own-same : (s : ℕ) → s < 32 → own_in Plan.own s ≡ own_in With.own s
    own-same s lt = get_or-tabulate 32 (λ slot. option_map (with_give (give_of Gives.gives slot)) (own_in old.own slot)) s None lt ∙ elim (cases_eq s slot) [
      | inl same ↦ subst (λ (t : ℕ). option_map (with_give (give_of Gives.gives t)) (own_in old.own t) ≡ own_in With.own t) (sym same)
          (ap (λ (g : Give). option_map (with_give g) (own_in old.own slot)) (give-here slot role recovery small) ∙ ap (option_map (with_recovery recovery)) to.member.own ∙ sym (own-here given old placed recovery role slot to))
      | inr apart ↦ ap (λ (g : Give). option_map (with_give g) (own_in old.own s)) (give-other slot role recovery s apart) ∙ no-change (own_in old.own s) ∙ sym (own-other given old placed recovery role slot to s apart)
    ]
      where
        no-change : (o : Option Sb) → option_map (with_give Same) o ≡ o
        no-change None = refl
        no-change (Some sb) = refl

    rows-are : (r : ℕ) (state : Role) → role_state (reading_of Plan) r ≡ state → rows_held (reading_of Plan) state ≡ rows_held (reading_of With) state
    rows-are r (Whole s) is = refl
    rows-are r Missing is = refl
    rows-are r (Recovering s) is = ap₂ (λ (active : Bool) (n : ℕ). cond active 0 n) (sym (says-shared old Gives).reshaping)
        (ap (λ (o : Option Sb). option_map_or (λ sb. sb.recovery_offset) o 0) (own-same s (small-of r s (ap holder is))))

    pub given-less : IsLessView (W given old placed recovery role slot to) (planned_view old (giving old slot role recovery) lost)
    given-less = record {
      array = says-shared old Gives;
      roles = ap length roles-are ∙ (without-less With lost).roles;
      states = state-same;
      rows = λ r. rows-are r (role_state (reading_of Plan) r) refl;
      offsets = λ r s held. ap (λ (o : Option Sb). option_map_or (λ sb. sb.data_offset) o 0) (own-same s (small-of r s held));
      missing = λ r is. ap (λ (s : Role). not (is_whole s)) (state-is r) ∙ still-missing With lost (role_state (reading_of With) r) is;
    }

    pub given-placed : IsPlaced given (planned_view old (giving old slot role recovery) lost)
    given-placed = less-placed given With Plan given-less (planned-live given old Gives refl gives-live placed.live lost) (placed-given given old placed recovery role slot to)
