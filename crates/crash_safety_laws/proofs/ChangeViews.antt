-- The view that an update plans, with more slots named, and the members at its end.
use Rattle.std.proofs.Common.{◌≡◌, ℕ, ◌<◌, ◌||◌, ◌&&◌, Bool, true, false, not, cond, List, length, get_or, Option, Some, None, option_map, refl, sym, ◌∙◌, ap, ap₂, subst, arith}
use Rattle.std.specs.Option.{option_map_or}
use Rattle.crash_views.specs.raid_types_Shapes.{has_slot}
use Rattle.crash_views.specs.raid_types_the_Role.{Role}
use Rattle.crash_views.specs.raid_types_the_Role_TheVariants.{Whole, Recovering, Missing}
use Rattle.crash_views.proofs.raid_types_Tabulated.{get_or-tabulate}
use Rattle.sb_update_laws.specs.sb_codec_the_Sb.{Sb}
use Rattle.sb_update_laws.specs.sb_codec_Superblock.{checksum}
use Rattle.sb_update_laws.specs.sb_codec_Writable.{IsWritable}
use Rattle.crash_views.specs.bank_Given.{Given}
use Rattle.crash_views.specs.bank_Tape.{Contents}
use Rattle.crash_views.specs.sb_specs_the_Give.{Give}
use Rattle.crash_views.specs.sb_specs_the_Give_TheVariants.{Same, Spare}
use Rattle.crash_views.specs.sb_specs_the_Give_TheVariants as give
use Rattle.crash_views.specs.sb_specs_the_Change.{Change}
use Rattle.crash_views.specs.sb_specs_the_Members.{Members}
use Rattle.crash_views.specs.sb_specs_Reading.{Scope, is_reshaping, role_state, rows_held, holder, own_of}
use Rattle.crash_views.specs.sb_specs_Reads.{SaysSame, IsReadAs, roles_refusal}
use Rattle.crash_views.specs.sb_specs_Update.{planned, with_give, give_of, own_in, is_live, is_added}
use Rattle.crash_views.specs.sb_specs_Updating.{planned_newest, IsLater}
use Rattle.crash_views.specs.sb_specs_Outcome.{live_set, is_left, IsStored, IsPlannedOwn, AreLive, AreStored, AreGivesOfLive, planned_roles, planned_spares}
use Rattle.crash_views.specs.sb_specs_Held.{IsStamped, known_of, said_by}
use Rattle.crash_views.specs.sb_specs_Stages.{AreLeft, AreKept}
use Rattle.crash_views.specs.sb_read_laws_Said.{AreSaid}
use Rattle.crash_views.proofs.sb_specs_ReadAlike.{count-same, refused-same}
use Rattle.crash_views.proofs.sb_read_laws_SaidSlots.{read-own, role-said, role-known}
use Rattle.crash_views.specs.stripe_row_Rows.{reading_of, is_missing}
use Rattle.crash_views.specs.history_Stands.{backup_absent}
use Rattle.crash_views.specs.Regions.{AreShapesFit, ArePlaced, IsReadOf}
use Rattle.crash_views.specs.Views.{Ledger}
use Rattle.crash_safety_laws.specs.Updates.{planned_view, IsLessView, HasOneHolder}
use Rattle.crash_safety_laws.specs.Steady.{AreGoneTold}
use Rattle.crash_safety_laws.proofs.UpdateViews.{offset-given, recovery-given, said-recovering}
use Rattle.crash_safety_laws.proofs.PlansLose.{plans-lose}
use Rattle.crash_safety_laws.proofs.PlannedRoles.{gets-live, held-planned, live-was}
use Rattle.crash_safety_laws.proofs.Without.{in-live}

-- ---- what says the same

pub says-itself : (a : Sb) → SaysSame a a
says-itself a = record { level = refl; layout = refl; size = refl; chunksize = refl; raid_disks = refl; new_level = refl; reshape_position = refl; delta_disks = refl; new_layout = refl; new_chunk = refl; resync_offset = refl; reshaping = refl; backward = refl }

pub later-says : (former newest : Sb) → IsLater former newest → SaysSame former newest
later-says former newest later = subst (SaysSame former) (sym later.same) (record { level = refl; layout = refl; size = refl; chunksize = refl; raid_disks = refl; new_level = refl; reshape_position = refl; delta_disks = refl; new_layout = refl; new_chunk = refl; resync_offset = refl; reshaping = refl; backward = refl })

pub later-fits : (former newest : Sb) → IsLater former newest → AreShapesFit former → AreShapesFit newest
later-fits former newest later fit = subst AreShapesFit (sym later.same) (record {
  valid = record { old = fit.valid.old; final = fit.valid.final };
  size = fit.size;
  final_size = fit.final_size;
  level = fit.level;
  unit = fit.unit;
  position = fit.position;
  delta = fit.delta;
  delta_back = fit.delta_back;
})

pub less-itself : (m : Members) → IsLessView m m
less-itself m = record { array = says-itself m.newest; roles = refl; states = λ role slot held. refl; rows = λ role. refl; offsets = λ role slot held. refl; missing = λ role is. is }

-- ---- members that say what is known are what is read

module _ (scope : Scope) (known : ℕ) (m : Members) (said : AreSaid scope known m) (lost : ℕ) (c : Contents) (read : IsReadAs scope lost (said_by scope known m.own m.newest) c) where
  roles-found : read.found.roles ≡ m.roles
  roles-found = read.same.roles ∙ sym said.roles

  found-holder : (role slot : ℕ) → holder (role_state (reading_of m) role) ≡ Some slot → holder (role_state read.found role) ≡ Some slot
  found-holder role slot is = ap (λ (l : List Role). holder (get_or l role Missing)) roles-found ∙ is

  said-holder : (role slot : ℕ) → holder (role_state (reading_of m) role) ≡ Some slot → holder (role_state (said_by scope known m.own m.newest) role) ≡ Some slot
  said-holder role slot is = ap holder (sym (role-said scope known m said role)) ∙ is

  rows-found : (role : ℕ) → rows_held read.found (role_state (reading_of m) role) ≡ rows_held (reading_of m) (role_state (reading_of m) role)
  rows-found role = of (role_state (reading_of m) role) refl
    where
      of : (state : Role) → role_state (reading_of m) role ≡ state → rows_held read.found state ≡ rows_held (reading_of m) state
      of (Whole slot) is = sym read.same.array.size
      of Missing is = refl
      of (Recovering slot) is =
          let k = role-known scope known m said role slot (ap holder is) in
          let mine = read-own scope c read.found role slot read.is (found-holder role slot (ap holder is)) in
          ap₂ (λ (active : Bool) (n : ℕ). cond active 0 n) (sym read.same.array.reshaping)
          (ap (λ (o : Option Sb). option_map_or (λ sb. sb.recovery_offset) o 0) mine.1
          ∙ (read.same.devices role slot (said-holder role slot (ap holder is))).recovery mine.0 k.1 mine.1 k.3
          (said-recovering scope.sizes.sectors (known_of scope known m.own) m.newest role slot k.1 (sym (role-said scope known m said role) ∙ is) k.3)
          ∙ sym (ap (λ (o : Option Sb). option_map_or (λ sb. sb.recovery_offset) o 0) k.2))

  pub known-read : IsReadOf scope m read.found
  known-read = record {
    array = read.same.array;
    roles = roles-found;
    rows = rows-found;
    offsets = λ role slot held.
        let k = role-known scope known m said role slot held in
        let mine = read-own scope c read.found role slot read.is (found-holder role slot held) in
        ap (λ (o : Option Sb). option_map_or (λ sb. sb.data_offset) o 0) mine.1
        ∙ (read.same.devices role slot (said-holder role slot held)).start mine.0 k.1 mine.1 k.3
        ∙ sym (ap (λ (o : Option Sb). option_map_or (λ sb. sb.data_offset) o 0) k.2);
    refused = read.same.refusal ∙ refused-same m.newest read.found.newest read.same.array (said_by scope known m.own m.newest).roles ∙ ap (roles_refusal read.found.newest) (sym read.same.roles);
  }

-- ---- a view that loses roles is placed

pub placed-less : (scope : Scope) (given : Given) (m view : Members) → IsLessView m view → AreShapesFit view.newest → backup_absent scope view.newest ≡ None → ArePlaced scope given m → ArePlaced scope given view
placed-less scope given m view less fit backup placed = record {
  fit = fit;
  roles = less.roles ∙ placed.roles ∙ count-same m.newest view.newest less.array;
  holders = λ role slot held.
      let k = placed.holders role slot (was role slot held) in
      let off = less.offsets role slot held in
      let size = less.array.size in
      let within = k.within in
      record { small = k.small; known = k.known; short = k.short; within = omega (arith, off, size, within) };
  behind = λ role slot held. let b = placed.behind role slot (was role slot held) in let off = less.offsets role slot held in omega (arith, b, off);
  members_own = λ role slot held is. placed.members_own role slot (was role slot held) is;
  apart = λ a b slot one two. placed.apart a b slot (was a slot one) (was b slot two);
  backup = backup;
}
  where
    was : (role slot : ℕ) → holder (role_state (reading_of view) role) ≡ Some slot → holder (role_state (reading_of m) role) ≡ Some slot
    was role slot held = ap holder (sym (less.states role slot held)) ∙ held

-- ---- what an update plans can be written

pub planned-live : (given : Given) (old : Members) (change : Change) → change.added ≡ None → AreGivesOfLive old change → AreLive given old → (named : ℕ) → AreLive given (planned_view old change named)
planned-live given old change none gives live named s is =
    let p = live-was old (planned_view old change named) change gives refl refl s is in
    let member = live s (or_none (is_live old.roles old.spares s) (sym (ap (λ (o : Option (ℕ × Sb)). is_live old.roles old.spares s || is_added o s) none) ∙ p.1)) in
    record {
      place = member.place;
      sb = with_give (give_of change.gives s) member.sb;
      own = get_or-tabulate 32 (λ slot. option_map (with_give (give_of change.gives slot)) (own_in old.own slot)) s None p.0 ∙ ap (option_map (with_give (give_of change.gives s))) member.own;
      writable = with-given (give_of change.gives s) member.sb member.writable;
    }
  where
    or_none : (b : Bool) → (b || false) ≡ true → b ≡ true
    or_none true e = refl
    or_none false e = absurd (cc)

    with-given : (g : Give) (sb : Sb) → IsWritable sb → IsWritable (with_give g sb)
    with-given Same sb w = w
    with-given (give.Role role (Some offset)) sb w = record { magic = w.magic; major = w.major; super_offset = w.super_offset; max_dev = w.max_dev }
    with-given (give.Role role None) sb w = record { magic = w.magic; major = w.major; super_offset = w.super_offset; max_dev = w.max_dev }
    with-given Spare sb w = w

-- ---- the plan, with more slots named

module _ (scope : Scope) (given : Given) (old : Members) (change : Change) (placed : ArePlaced scope given (planned_view old change old.lost)) (one : HasOneHolder old change old.lost) where
  pub plan-less : (named : ℕ) → ((s : ℕ) → has_slot old.lost s ≡ true → has_slot named s ≡ true) → IsLessView (planned_view old change old.lost) (planned_view old change named)
  plan-less named more = plans-lose old change old.lost named more one

  pub plan-placed : (named : ℕ) → ((s : ℕ) → has_slot old.lost s ≡ true → has_slot named s ≡ true) → ArePlaced scope given (planned_view old change named)
  plan-placed named more = placed-less scope given (planned_view old change old.lost) (planned_view old change named) (plan-less named more) placed.fit placed.backup placed

  -- what it misses is told, where what it misses with more named is
  pub plan-told : (told : Ledger) (named last : ℕ) → ((s : ℕ) → has_slot old.lost s ≡ true → has_slot named s ≡ true) → ((s : ℕ) → has_slot named s ≡ true → has_slot last s ≡ true)
      → AreGoneTold told (planned_view old change last) → AreGoneTold told (planned_view old change named)
  plan-told told named last more within gone role lt missing = gone role lt ((plans-lose old change named last within
      (λ s t role none none' is is'. one s t role (kept s none) (kept t none') is is')).missing role missing)
    where
      kept : (s : ℕ) → has_slot named s ≡ false → has_slot old.lost s ≡ false
      kept s none = of (has_slot old.lost s) refl
        where
          of : (b : Bool) → has_slot old.lost s ≡ b → b ≡ false
          of true is = absurd (let e = more s is in let clash = sym e ∙ none in cc)
          of false is = refl

-- ---- the members at the end

module _ (old new : Members) (change : Change) (gives : AreGivesOfLive old change) (later : IsLater (planned_newest change.shared old.newest) new.newest)
    (own : AreStored new.newest change.gives (is_left (live_set old change) new.lost) old.own new.own)
    (roles : new.roles ≡ planned_roles old change new.lost) (spares : new.spares ≡ planned_spares old change new.lost) where
  abbrev Plan : Members
  Plan = planned_view old change new.lost

  -- what is known of a slot that holds a role then
  record IsOwn (slot : ℕ) : Type 0 where
    pub mine : Sb
    pub sb : Sb
    pub is : own_of (reading_of new) slot ≡ Some mine
    pub plan : own_of (reading_of Plan) slot ≡ Some (with_give (give_of change.gives slot) sb)
    pub start : mine.data_offset ≡ (with_give (give_of change.gives slot) sb).data_offset
    pub recovery : mine.recovery_offset ≡ (with_give (give_of change.gives slot) sb).recovery_offset

  own-at : (slot : ℕ) → slot < 32 → is_left (live_set old change) new.lost slot ≡ true → IsOwn slot
  own-at slot small left = of (own_in old.own slot) refl (own.written slot left)
    where
      of : (was : Option Sb) → own_in old.own slot ≡ was → IsPlannedOwn new.newest (give_of change.gives slot) was (own_in new.own slot) → IsOwn slot
      of None e none = absurd none
      of (Some sb) e stored = record {
        mine = record (planned new.newest (give_of change.gives slot) sb) { sb_csum = checksum stored.bytes };
        sb = sb;
        is = stored.own ∙ ap (λ (z : Sb). Some z) stored.fields;
        plan = get_or-tabulate 32 (λ slot. option_map (with_give (give_of change.gives slot)) (own_in old.own slot)) slot None small ∙ ap (option_map (with_give (give_of change.gives slot))) e;
        start = offset-given new.newest (give_of change.gives slot) sb;
        recovery = recovery-given new.newest (give_of change.gives slot) sb;
      }

  own-of : (role slot : ℕ) → holder (role_state (reading_of new) role) ≡ Some slot → IsOwn slot
  own-of role slot held =
      let p = held-planned old new change gives roles spares role slot held in
      own-at slot p.0 (λ i. in-live old change slot p.0 (gets-live old change gives slot role p.2) i && not (p.1 i))

  state-is : (role : ℕ) → role_state (reading_of new) role ≡ role_state (reading_of Plan) role
  state-is role = ap (λ (l : List Role). get_or l role Missing) roles

  rows-are : (role : ℕ) → rows_held (reading_of new) (role_state (reading_of new) role) ≡ rows_held (reading_of Plan) (role_state (reading_of new) role)
  rows-are role = of (role_state (reading_of new) role) refl
    where
      of : (state : Role) → role_state (reading_of new) role ≡ state → rows_held (reading_of new) state ≡ rows_held (reading_of Plan) state
      of (Whole slot) is = ap (λ (z : Sb). z.size) later.same
      of Missing is = refl
      of (Recovering slot) is =
          let k = own-of role slot (ap holder is) in
          ap₂ (λ (active : Bool) (n : ℕ). cond active 0 n) (ap is_reshaping later.same)
          (ap (λ (o : Option Sb). option_map_or (λ sb. sb.recovery_offset) o 0) k.is ∙ k.recovery ∙ sym (ap (λ (o : Option Sb). option_map_or (λ sb. sb.recovery_offset) o 0) k.plan))

  pub new-less : IsLessView (planned_view old change new.lost) new
  new-less = record {
    array = later-says (planned_newest change.shared old.newest) new.newest later;
    roles = ap length roles;
    states = λ role slot held. state-is role;
    rows = rows-are;
    offsets = λ role slot held.
        let k = own-of role slot held in
        ap (λ (o : Option Sb). option_map_or (λ sb. sb.data_offset) o 0) k.is ∙ k.start ∙ sym (ap (λ (o : Option Sb). option_map_or (λ sb. sb.data_offset) o 0) k.plan);
    missing = λ role is. ap (λ (l : List Role). is_missing (record (reading_of new) { roles = l }) role) roles ∙ is;
  }

  -- of each slot that is left the planned superblock is kept
  pub new-kept : (left : ℕ) → AreLeft (live_set old change) new.lost left → AreKept new.newest change.gives old.own left new.own
  new-kept left are s sb is own_is = stamped (give_of change.gives s) (own_in new.own s)
      (subst (λ (o : Option Sb). IsPlannedOwn new.newest (give_of change.gives s) o (own_in new.own s)) own_is (own.written s (sym (are s) ∙ is)))
    where
      stamped : (g : Give) (stored : Option Sb) → IsStored (planned new.newest g sb) stored → IsStamped (planned new.newest g sb) stored
      stamped g stored st = (checksum st.bytes, st.own ∙ ap (λ (z : Sb). Some z) st.fields)
