-- What an update of the superblocks leaves of the members, by the view that it plans.
use Rattle.std.proofs.Common.{◌≡◌, inl, inr, ℕ, ◌<◌, ◌≤◌, ◌&&◌, Bool, true, false, not, nat_lt, List, length, Option, Some, None, option_map, unwrap_or, refl, sym, ◌∙◌, ap, subst, arith}
use Rattle.std.specs.Option.{option_map_or}
use Rattle.std.proofs.lemmas.Bool.{cases_lt}
use Rattle.std.proofs.lemmas.Bool.Decides.{nat_tests}
use Rattle.std.proofs.lemmas.List.{get_or_past}
use Rattle.sb_safe_updates.specs.raid_types_Shapes.{has_slot}
use Rattle.sb_safe_updates.specs.raid_types_Search.{tabulate}
use Rattle.sb_safe_updates.specs.raid_types_the_Role.{Role}
use Rattle.sb_safe_updates.specs.raid_types_the_Role_TheVariants.{Whole, Recovering, Missing}
use Rattle.sb_safe_updates.proofs.raid_types_Tabulated.{length-tabulate, get_or-tabulate}
use Rattle.sb_safe_updates.specs.sb_codec_the_Sb.{Sb}
use Rattle.sb_safe_updates.specs.bank_Given.{Given}
use Rattle.sb_safe_updates.specs.sb_specs_the_Give.{Give}
use Rattle.sb_safe_updates.specs.sb_specs_the_Give_TheVariants.{Same, Spare}
use Rattle.sb_safe_updates.specs.sb_specs_the_Give_TheVariants as give
use Rattle.sb_safe_updates.specs.sb_specs_the_Change.{Change}
use Rattle.sb_safe_updates.specs.sb_specs_the_Members.{Members}
use Rattle.sb_safe_updates.specs.sb_specs_Reading.{role_count, role_state, holder, is_whole, data_offset_of}
use Rattle.sb_safe_updates.specs.sb_specs_Reads.{has_spare}
use Rattle.sb_safe_updates.specs.sb_specs_Update.{give_of, own_in, planned_role, is_planned_spare, with_give}
use Rattle.sb_safe_updates.specs.sb_specs_Updating.{IsLater, planned_newest}
use Rattle.sb_safe_updates.specs.sb_specs_Outcome.{live_set, is_left, AreLive, AreGivesOfLive, AreStored, IsPlannedOwn, planned_state, planned_roles, planned_spares}
use Rattle.sb_safe_updates.specs.sb_specs_Crash.{IsWithin}
use Rattle.sb_safe_updates.proofs.sb_specs_PlannedSb.{planned-of}
use Rattle.sb_safe_updates.proofs.sb_specs_ReadAlike.{count-same}
use Rattle.sb_safe_updates.proofs.sb_read_laws_SaidSlots.{has-slots_below}
use Rattle.sb_safe_updates.specs.stripe_row_Rows.{reading_of, is_missing, IsHolder}
use Rattle.sb_safe_updates.specs.crash_views_Regions.{AreShapesFit}
use Rattle.sb_safe_updates.proofs.crash_views_Alike.{shape-alike}
use Rattle.sb_safe_updates.specs.crash_safety_laws_Steady.{AreUnlost}
use Rattle.sb_safe_updates.specs.crash_safety_laws_Updates.{planned_view, IsLessView}
use Rattle.sb_safe_updates.proofs.crash_safety_laws_PlannedRoles.{count-planned, held-planned}
use Rattle.sb_safe_updates.specs.array_members_Placed.{places_of, AreWhole, IsPlaced}
use Rattle.sb_safe_updates.specs.array_members_Moving.{IsMoved}
use Rattle.sb_safe_updates.specs.array_members_Rebuilding.{AreSparesFree}
use Rattle.sb_safe_updates.proofs.array_members_Fit.{reshape-said}
use Rattle.sb_safe_updates.proofs.array_members_MarkLaws.{few-planned}

-- the slot has room for the rows of a role, behind its superblock
pub record IsRoomy (given : Given) (m : Members) (slot : ℕ) : Type 0 where
  pub room : IsHolder given (reading_of m) slot
  pub behind : 10 ≤ data_offset_of (reading_of m) slot

-- the slot holds no role by the change
abbrev pub HasNoRole : Members → Change → ℕ → Type 0
HasNoRole m change slot = (role : ℕ) → planned_role m.roles (give_of change.gives slot) slot ≡ Some role → ⊥

-- What is known of the members behind an update: what was stored, and that each slot that it makes a holder or a spare has room.
pub record IsMade (given : Given) (old : Members) (change : Change) (new : Members) : Type 0 where
  pub gives : AreGivesOfLive old change
  pub newest : IsLater (planned_newest change.shared old.newest) new.newest
  pub own : AreStored new.newest change.gives (is_left (live_set old change) new.lost) old.own new.own
  pub roles : new.roles ≡ planned_roles old change new.lost
  pub spares : new.spares ≡ planned_spares old change new.lost
  pub stay : IsWithin old.lost new.lost
  pub alive : AreLive given new
  pub less : IsLessView (planned_view old change old.lost) new
  pub fit : AreShapesFit new.newest
  pub size : change.shared.size ≡ old.newest.size
  pub long : length old.own ≡ 32
  pub holders : (slot role : ℕ) → slot < 32 → planned_role old.roles (give_of change.gives slot) slot ≡ Some role → IsRoomy given old slot
  pub idle : (slot : ℕ) → slot < 32 → is_planned_spare old.spares change.added (give_of change.gives slot) slot ≡ true → IsRoomy given old slot × HasNoRole old change slot

-- a spare by the plan, with these slots lost
pub spare-planned : (old : Members) (change : Change) (lost s : ℕ) → has_spare (planned_spares old change lost) s ≡ true
    → (s < 32) × (has_slot lost s ≡ false) × (is_planned_spare old.spares change.added (give_of change.gives s) s ≡ true)
spare-planned old change lost s has =
    parts (nat_lt s 32) (has_slot lost s) (is_planned_spare old.spares change.added (give_of change.gives s) s) refl
    (sym (has-slots_below (λ slot. not (has_slot lost slot) && is_planned_spare old.spares change.added (give_of change.gives slot) slot) s 32) ∙ has)
  where
    less-of : (a b : ℕ) → nat_lt a b ≡ true → a < b
    less-of a b e = grind (arith, nat_tests, e)

    parts : (below gone spare : Bool) → nat_lt s 32 ≡ below → (below && (not gone && spare)) ≡ true → (s < 32) × (gone ≡ false) × (spare ≡ true)
    parts false gone spare is e = absurd (cc)
    parts true true spare is e = absurd (cc)
    parts true false spare is e = (less-of s 32 is, refl, e)

pub planned-spare : (old : Members) (change : Change) (lost s : ℕ) → s < 32 → has_slot lost s ≡ false → is_planned_spare old.spares change.added (give_of change.gives s) s ≡ true
    → has_spare (planned_spares old change lost) s ≡ true
planned-spare old change lost s lt kept so =
    has-slots_below (λ slot. not (has_slot lost slot) && is_planned_spare old.spares change.added (give_of change.gives slot) slot) s 32 ∙ (λ i. is-less s 32 lt i && (not (kept i) && so i))
  where
    is-less : (a b : ℕ) → a < b → nat_lt a b ≡ true
    is-less a b lt = grind (arith, nat_tests, lt)

-- where rows begin by the plan
pub plan-offset : (old : Members) (change : Change) → length old.own ≡ 32 → (slot : ℕ) → data_offset_of (reading_of (planned_view old change old.lost)) slot ≡ data_offset_of (reading_of old) slot
plan-offset old change long32 slot = elim (cases_lt slot 32) [
  | inl lt ↦ ap (λ (o : Option Sb). option_map_or (λ sb. sb.data_offset) o 0) (get_or-tabulate 32 (λ s. option_map (with_give (give_of change.gives s)) (own_in old.own s)) slot None lt)
      ∙ with-same (own_in old.own slot) (give_of change.gives slot)
  | inr past ↦ ap (λ (o : Option Sb). option_map_or (λ sb. sb.data_offset) o 0)
      (get_or_past (tabulate 32 (λ s. option_map (with_give (give_of change.gives s)) (own_in old.own s))) slot None
      (let long = length-tabulate 32 (λ s. option_map (with_give (give_of change.gives s)) (own_in old.own s)) in omega (arith, long, past))
      ∙ sym (get_or_past old.own slot None (omega (arith, long32, past))))
]
  where
    with-same : (o : Option Sb) (g : Give) → option_map_or (λ sb. sb.data_offset) (option_map (with_give g) o) 0 ≡ option_map_or (λ sb. sb.data_offset) o 0
    with-same None g = refl
    with-same (Some sb) Same = refl
    with-same (Some sb) (give.Role role (Some offset)) = refl
    with-same (Some sb) (give.Role role None) = refl
    with-same (Some sb) Spare = refl

module _ (given : Given) (old : Members) (change : Change) (new : Members) (made : IsMade given old change new) where
  abbrev Plan : Members
  Plan = planned_view old change old.lost

  -- ---- its superblocks

  -- where rows begin stays
  pub offset-kept : (slot : ℕ) → data_offset_of (reading_of new) slot ≡ data_offset_of (reading_of old) slot
  offset-kept slot = by (is_left (live_set old change) new.lost slot) refl
    where
      stored : (before after : Option Sb) → IsPlannedOwn new.newest (give_of change.gives slot) before after → option_map_or (λ sb. sb.data_offset) after 0 ≡ option_map_or (λ sb. sb.data_offset) before 0
      stored None after is = absurd is
      stored (Some sb) after is = ap (λ (o : Option Sb). option_map_or (λ sb. sb.data_offset) o 0) is.own ∙ ap (λ (z : Sb). z.data_offset) is.fields ∙ (planned-of new.newest sb (give_of change.gives slot)).start

      by : (b : Bool) → is_left (live_set old change) new.lost slot ≡ b → data_offset_of (reading_of new) slot ≡ data_offset_of (reading_of old) slot
      by true is = stored (own_in old.own slot) (own_in new.own slot) (made.own.written slot is)
      by false is = ap (λ (o : Option Sb). option_map_or (λ sb. sb.data_offset) o 0) (made.own.others slot is)

  pub offset-planned : (slot : ℕ) → data_offset_of (reading_of new) slot ≡ data_offset_of (reading_of (planned_view old change old.lost)) slot
  offset-planned slot = offset-kept slot ∙ sym (plan-offset old change made.long slot)

  size-kept : new.newest.size ≡ old.newest.size
  size-kept = sym made.less.array.size ∙ made.size

  pub room-then : (slot : ℕ) → IsRoomy given old slot → IsHolder given (reading_of new) slot × (10 ≤ data_offset_of (reading_of new) slot)
  room-then slot roomy = (
    record {
      small = roomy.room.small;
      known = roomy.room.known;
      short = roomy.room.short;
      within = let within = roomy.room.within in let offset = offset-kept slot in let size = size-kept in omega (arith, within, offset, size);
    },
    (let behind = roomy.behind in let offset = offset-kept slot in omega (arith, behind, offset)),
  )

  -- ---- its roles

  pub held-then : (role slot : ℕ) → holder (role_state (reading_of new) role) ≡ Some slot → (slot < 32) × (has_slot new.lost slot ≡ false) × (planned_role old.roles (give_of change.gives slot) slot ≡ Some role)
  held-then role slot held = held-planned old new change made.gives made.roles made.spares role slot held

  pub count-then : role_count change.shared ≡ role_count new.newest
  count-then = count-planned old change ∙ count-same (planned_newest change.shared old.newest) new.newest made.less.array

  length-then : length new.roles ≡ role_count new.newest
  length-then = ap (λ (l : List Role). length l) made.roles ∙ length-tabulate (role_count change.shared) (planned_state old.roles change.gives new.lost) ∙ count-then

  pub new-placed : IsPlaced given new
  new-placed = record {
    fit = made.fit;
    roles = length-then;
    holders = λ role slot held. let p = held-then role slot held in (room-then slot (made.holders slot role p.0 p.2)).0;
    behind = λ role slot held. let p = held-then role slot held in (room-then slot (made.holders slot role p.0 p.2)).1;
    apart = λ a b slot one two. same a b slot (held-then a slot one).2 (held-then b slot two).2;
    live = made.alive;
  }
    where
      same : (a b slot : ℕ) → planned_role old.roles (give_of change.gives slot) slot ≡ Some a → planned_role old.roles (give_of change.gives slot) slot ≡ Some b → a ≡ b
      same a b slot one two = (let both : ◌≡◌ {A = Option ℕ} (Some a) (Some b) = sym one ∙ two in cc)

  pub new-unlost : AreUnlost new
  new-unlost role slot held = (held-then role slot held).1

  pub spare-then : (s : ℕ) → has_spare new.spares s ≡ true → (s < 32) × (has_slot new.lost s ≡ false) × (is_planned_spare old.spares change.added (give_of change.gives s) s ≡ true)
  spare-then s has = spare-planned old change new.lost s (ap (λ (l : List ℕ). has_spare l s) (sym made.spares) ∙ has)

  pub new-free : AreSparesFree given new
  new-free slot has =
      let p = spare-then slot has in
      let it = made.idle slot p.0 p.2 in
      let room = room-then slot it.0 in
      record {
        room = room.0;
        behind = room.1;
        none = λ role held. it.1 role (held-then role slot held).2;
        unlost = p.1;
      }

  -- ---- what the plan has

  unlost-before : (s : ℕ) → has_slot new.lost s ≡ false → has_slot old.lost s ≡ false
  unlost-before s kept = of (has_slot old.lost s) refl
    where
      of : (b : Bool) → has_slot old.lost s ≡ b → b ≡ false
      of true is = absurd (let e = made.stay s is in let clash = sym e ∙ kept in cc)
      of false is = refl

  whole-plan : AreWhole new → AreWhole (planned_view old change old.lost)
  whole-plan whole role below = of (is_missing (reading_of (planned_view old change old.lost)) role) refl
    where
      of : (b : Bool) → is_missing (reading_of (planned_view old change old.lost)) role ≡ b → b ≡ false
      of true is = absurd (
          let lt : role < role_count new.newest = subst (λ (n : ℕ). role < n) (count-same (planned_newest change.shared old.newest) new.newest made.less.array) below in
          let clash = sym (made.less.missing role is) ∙ whole role lt in cc)
      of false is = refl

  state-plan : AreWhole new → (role : ℕ) → role_state (reading_of new) role ≡ role_state (reading_of (planned_view old change old.lost)) role
  state-plan whole role = elim (cases_lt role (role_count new.newest)) [
    | inl lt ↦ of (role_state (reading_of new) role) refl (whole role lt)
    | inr past ↦ get_or_past new.roles role Missing (let long = length-then in omega (arith, long, past))
        ∙ sym (get_or_past (planned_roles old change old.lost) role Missing
        (let long = length-tabulate (role_count change.shared) (planned_state old.roles change.gives old.lost) in let count = count-then in omega (arith, long, count, past)))
  ]
    where
      of : (state : Role) → role_state (reading_of new) role ≡ state → not (is_whole (role_state (reading_of new) role)) ≡ false
          → role_state (reading_of new) role ≡ role_state (reading_of (planned_view old change old.lost)) role
      of (Whole slot) is w = made.less.states role slot (ap holder is)
      of (Recovering slot) is w = absurd (let clash = ap (λ (s : Role). not (is_whole s)) (sym is) ∙ w in cc)
      of Missing is w = absurd (let clash = ap (λ (s : Role). not (is_whole s)) (sym is) ∙ w in cc)

  places-plan : AreWhole new → places_of new ≡ places_of (planned_view old change old.lost)
  places-plan whole = λ i. record {
    shape = sym (shape-alike (planned_newest change.shared old.newest) new.newest made.less.array) i;
    size = sym made.less.array.size i;
    slot = λ role. unwrap_or (holder (state-plan whole role i)) 0;
    offset = λ role. offset-same role i;
  }
    where
      offset-same : (role : ℕ) → data_offset_of (reading_of new) (unwrap_or (holder (role_state (reading_of new) role)) 0)
          ≡ data_offset_of (reading_of (planned_view old change old.lost)) (unwrap_or (holder (role_state (reading_of (planned_view old change old.lost)) role)) 0)
      offset-same role = offset-planned (unwrap_or (holder (role_state (reading_of new) role)) 0)
          ∙ ap (λ (s : Role). data_offset_of (reading_of (planned_view old change old.lost)) (unwrap_or (holder s) 0)) (state-plan whole role)

  -- The members have what the plan has, but for the slots that were lost.
  pub new-moved : IsMoved given (planned_view old change old.lost) new
  new-moved = record {
    placed = new-placed;
    unlost = new-unlost;
    held = λ role slot held. sym (ap holder (made.less.states role slot held)) ∙ held;
    states = made.less.states;
    rows = made.less.rows;
    spares = λ few. subst (λ (l : List ℕ). length l ≤ 32) (sym made.spares) (few-planned old change new.lost);
    fewer = λ slot has. let p = spare-then slot has in planned-spare old change old.lost slot p.0 (unlost-before slot p.1) p.2;
    free = λ was. new-free;
    reshape = reshape-said (planned_newest change.shared old.newest) new.newest made.less.array;
    shape = sym (shape-alike (planned_newest change.shared old.newest) new.newest made.less.array);
    size = sym made.less.array.size;
    offsets = offset-planned;
    whole = whole-plan;
    same = places-plan;
  }
