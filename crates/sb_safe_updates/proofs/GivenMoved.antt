-- What an update leaves of the members that gives a role to a slot.
use Rattle.std.proofs.Common.{◌≡◌, ◌≢◌, ◌⊎◌, inl, inr, ⊎_elim, ℕ, ◌<◌, ◌≤◌, ◌==◌, ◌||◌, ◌&&◌, Bool, true, false, not, cond, nat_lt, List, map, length, get_or, Option, Some, None, refl, sym, ◌∙◌, ap, subst, arith}
use Rattle.std.specs.Prelude.{pos, ◌-ℤ◌}
use Rattle.std.specs.List.{list_any}
use Rattle.std.specs.Option.{option_map_or}
use Rattle.std.proofs.lemmas.Bool.{cases_eq}
use Rattle.std.proofs.lemmas.Bool.Decides.{nat_tests}
use Rattle.raid_layout.specs.raid_types_Shapes.{has_slot}
use Rattle.raid_layout.specs.raid_types_the_Role.{Role}
use Rattle.raid_layout.specs.raid_types_the_Role_TheVariants.{Whole, Recovering, Missing}
use Rattle.sb_update.specs.sb_codec_the_Sb.{Sb}
use Rattle.sb_update.specs.sb_codec_Superblock.{checksum}
use Rattle.sb_update.specs.bank_Given.{Given, IsFaulted}
use Rattle.sb_update.specs.sb_specs_the_Give.{Give}
use Rattle.sb_update.specs.sb_specs_the_Give_TheVariants.{Same}
use Rattle.sb_update.specs.sb_specs_the_Give_TheVariants as give
use Rattle.sb_update.specs.sb_specs_the_Members.{Members}
use Rattle.sb_update.specs.sb_specs_Reading.{count_of, is_reshaping, shape_of, final_shape, is_backward, role_count, role_state, holder, is_whole, data_offset_of}
use Rattle.sb_update.specs.sb_specs_Reads.{SaysSame, has_spare}
use Rattle.sb_update.specs.sb_specs_Update.{own_in, planned, give_of, is_held_by, is_live, is_planned_spare}
use Rattle.sb_update.specs.sb_specs_Updating.{IsLater, AreLosses, planned_newest}
use Rattle.sb_update.specs.sb_specs_Outcome.{live_set, is_left, AreLive, AreStored, IsPlannedOwn, planned_roles, planned_spares}
use Rattle.sb_update.proofs.sb_specs_ReadLists.{by_bool}
use Rattle.sb_update.proofs.sb_specs_PlannedSb.{planned-of}
use Rattle.array_members.proofs.sb_read_laws_SaidSlots.{has-slots_below}
use Rattle.array_members.specs.stripe_row_Rows.{reading_of, is_missing, role_without}
use Rattle.array_members.specs.Flushing.{AreHolders}
use Rattle.array_members.specs.Placed.{IsPlaced, AreLess, HaveSameReshape}
use Rattle.array_members.specs.crash_safety_laws_Steady.{AreUnlost}
use Rattle.array_members.specs.crash_safety_laws_Marking.{giving}
use Rattle.array_members.specs.Moving.{IsMoved}
use Rattle.array_members.specs.Lacking.{HaveFailedSince}
use Rattle.array_members.specs.Rebuilding.{AreSparesFree}
use Rattle.array_members.proofs.HeldRows.{recovered_of, rows-same}
use Rattle.array_members.proofs.LackingLaws.{holder-without}
use Rattle.array_members.proofs.MarkLaws.{few-planned}
use Rattle.array_members.proofs.MovedLaws.{moved-less}
use Rattle.array_members.proofs.PlacedLaws.{placed-less, less-unlost}
use Rattle.array_members.proofs.crash_safety_laws_Without.{state-without, any-holds, live-is, live-of}
use Rattle.sb_safe_updates.proofs.SparesLaws.{free-told}
use Rattle.array_members.proofs.Gives.{holder-given, gives_of, give-here, give-other, roles-given, given-lost}
use Rattle.sb_safe_updates.proofs.GivenAway.{moved-away}
use Rattle.array_members.proofs.GivenMembers.{offset_given, recovery-is, IsReceiver, W, givable, state-here, state-other, holder-then, offset-same, recovered-here, recovered-other, spare-then, spare-before, placed-given, unlost-given}
use Rattle.array_members.proofs.Fit.{reshape-said}

-- by its newest superblock, the superblocks that are kept, the roles and the spares
pub record IsGiven (given : Given) (recovery : Option ℕ) (role slot : ℕ) (old new : Members) : Type 0 where
  pub later : IsLater (planned_newest old.newest old.newest) new.newest
  pub own : AreStored new.newest (gives_of slot role recovery) (is_left (live_set old (giving old slot role recovery)) new.lost) old.own new.own
  pub roles : new.roles ≡ planned_roles old (giving old slot role recovery) new.lost
  pub spares : new.spares ≡ planned_spares old (giving old slot role recovery) new.lost
  pub live : AreLive given new

module _ (given : Given) (recovery : Option ℕ) (role slot : ℕ) (old new : Members) (placed : IsPlaced given old) (to : IsReceiver given old role slot) (did : IsGiven given recovery role slot old new) where
  abbrev gives : List Give
  gives = gives_of slot role recovery

  small : slot < 32
  small = to.room.small

  -- ---- what it says of the array

  says : SaysSame old.newest (planned old.newest Same old.newest)
  says = (planned-of old.newest old.newest Same).array

  same-reshape : HaveSameReshape old.newest new.newest
  same-reshape =
      let same = did.later.same in
      let r = reshape-said old.newest (planned old.newest Same old.newest) says in
      record {
        reshaping = ap is_reshaping same ∙ r.reshaping;
        final = ap final_shape same ∙ r.final;
        position = ap (λ (x : Sb). x.reshape_position) same ∙ r.position;
        backward = ap is_backward same ∙ r.backward;
      }

  pub reshaping-same : is_reshaping new.newest ≡ is_reshaping old.newest
  reshaping-same = ap is_reshaping did.later.same ∙ sym says.reshaping

  pub same-shape : shape_of new.newest ≡ shape_of old.newest
  same-shape = ap shape_of did.later.same ∙ ap (λ (b : Bool). record {
    level = old.newest.level;
    layout = old.newest.layout;
    chunk = old.newest.chunksize;
    disks = cond b (count_of (pos old.newest.raid_disks -ℤ old.newest.delta_disks)) old.newest.raid_disks;
  }) (sym says.reshaping)

  pub size-same : new.newest.size ≡ old.newest.size
  size-same = ap (λ (s : Sb). s.size) did.later.same

  -- ---- its superblocks

  -- a field that the plan for a slot leaves as it is
  own-kept : (f : Sb → ℕ) (slot' : ℕ) → ((sb : Sb) (csum : ℕ) → f (record (planned new.newest (give_of gives slot') sb) { sb_csum = csum }) ≡ f sb)
      → option_map_or f (own_in new.own slot') 0 ≡ option_map_or f (own_in old.own slot') 0
  own-kept f slot' same = by (is_left (live_set old (giving old slot role recovery)) new.lost slot') refl
    where
      stored : (before after : Option Sb) → IsPlannedOwn new.newest (give_of gives slot') before after → option_map_or f after 0 ≡ option_map_or f before 0
      stored None after is = absurd is
      stored (Some sb) after is = ap (λ (o : Option Sb). option_map_or f o 0) is.own ∙ ap f is.fields ∙ same sb (checksum is.bytes)

      by : (b : Bool) → is_left (live_set old (giving old slot role recovery)) new.lost slot' ≡ b → option_map_or f (own_in new.own slot') 0 ≡ option_map_or f (own_in old.own slot') 0
      by true is = stored (own_in old.own slot') (own_in new.own slot') (did.own.written slot' is)
      by false is = ap (λ (o : Option Sb). option_map_or f o 0) (did.own.others slot' is)

  pub starts-same : (s : ℕ) → data_offset_of (reading_of new) s ≡ data_offset_of (reading_of old) s
  starts-same s = own-kept (λ sb. sb.data_offset) s (λ sb csum. (planned-of new.newest sb (give_of gives s)).start)

  recovered-apart : (s : ℕ) → s ≢ slot → recovered_of (reading_of new) s ≡ recovered_of (reading_of old) s
  recovered-apart s apart = own-kept (λ sb. sb.recovery_offset) s (λ sb csum. ap (λ (g : Give). (planned new.newest g sb).recovery_offset) (give-other slot role recovery s apart))

  left-is : is_left (live_set old (giving old slot role recovery)) new.lost slot ≡ not (has_slot new.lost slot)
  left-is = ap (λ (b : Bool). b && not (has_slot new.lost slot)) (live-is old false slot ∙ (λ i. below i && (to.live i || false)))
    where
      below : nat_lt slot 32 ≡ true
      below = grind (arith, nat_tests, small)

  -- the slot's is as planned, or as it was, where it was lost
  pub recovered-kept : has_slot new.lost slot ≡ false → recovered_of (reading_of new) slot ≡ offset_given recovery
  recovered-kept kept = of (own_in old.own slot) (own_in new.own slot) (subst (λ (g : Give). IsPlannedOwn new.newest g (own_in old.own slot) (own_in new.own slot)) (give-here slot role recovery small)
      (did.own.written slot (left-is ∙ ap not kept)))
    where
      of : (before after : Option Sb) → IsPlannedOwn new.newest (give.Role role recovery) before after → option_map_or (λ sb. sb.recovery_offset) after 0 ≡ offset_given recovery
      of None after is = absurd is
      of (Some sb) after is = ap (λ (o : Option Sb). option_map_or (λ sb. sb.recovery_offset) o 0) is.own ∙ ap (λ (z : Sb). z.recovery_offset) is.fields ∙ recovery-is recovery _

  recovered-lost : has_slot new.lost slot ≡ true → recovered_of (reading_of new) slot ≡ recovered_of (reading_of old) slot
  recovered-lost gone = ap (λ (o : Option Sb). option_map_or (λ sb. sb.recovery_offset) o 0) (did.own.others slot (left-is ∙ ap not gone))

  -- ---- its roles

  pub roles-are : new.roles ≡ map (role_without new.lost) (W given old placed recovery role slot to).roles
  roles-are = did.roles ∙ roles-given old.roles new.lost placed.apart (λ r s is. (placed.holders r s is).small) role slot recovery small (givable given old placed recovery role slot to new.lost)
      (role_count old.newest) (sym placed.roles) to.below

  pub state-is : (r : ℕ) → role_state (reading_of new) r ≡ role_without new.lost (role_state (reading_of (W given old placed recovery role slot to)) r)
  state-is r = ap (λ (l : List Role). get_or l r Missing) roles-are ∙ state-without new.lost (W given old placed recovery role slot to).roles r

  -- where the slot isn't lost
  pub less-kept : has_slot new.lost slot ≡ false → AreLess new.lost (W given old placed recovery role slot to) new
  less-kept kept = record {
    reshape = same-reshape;
    shape = same-shape;
    size = size-same;
    roles = roles-are;
    offsets = λ s. starts-same s ∙ sym (offset-same given old placed recovery role slot to s);
    rows = rows-same (reading_of new) (reading_of (W given old placed recovery role slot to)) reshaping-same size-same (λ s. elim (cases_eq s slot) [
      | inl same ↦ ap (recovered_of (reading_of new)) same ∙ recovered-kept kept ∙ sym (recovered-here given old placed recovery role slot to)
          ∙ ap (recovered_of (reading_of (W given old placed recovery role slot to))) (sym same)
      | inr apart ↦ recovered-apart s apart ∙ sym (recovered-other given old placed recovery role slot to s apart)
    ]);
  }

  -- a role that no other slot held is lost with the slot
  none-held : has_slot new.lost slot ≡ true → role_without new.lost (get_or old.roles role Missing) ≡ Missing
  none-held gone = of (role_state (reading_of old) role) to.others
    where
      of : (state : Role) → ((s : ℕ) → holder state ≡ Some s → s ≡ slot) → role_without new.lost state ≡ Missing
      of (Whole s) only = ap (λ (b : Bool). cond b Missing (Whole s)) (ap (has_slot new.lost) (only s refl) ∙ gone)
      of (Recovering s) only = ap (λ (b : Bool). cond b Missing (Recovering s)) (ap (has_slot new.lost) (only s refl) ∙ gone)
      of Missing only = refl

  -- where it is
  pub less-lost : has_slot new.lost slot ≡ true → AreLess new.lost old new
  less-lost gone = record {
    reshape = same-reshape;
    shape = same-shape;
    size = size-same;
    roles = roles-are ∙ given-lost new.lost old.roles role slot recovery gone (none-held gone);
    offsets = starts-same;
    rows = rows-same (reading_of new) (reading_of old) reshaping-same size-same (λ s. elim (cases_eq s slot) [
      | inl same ↦ ap (recovered_of (reading_of new)) same ∙ recovered-lost gone ∙ ap (recovered_of (reading_of old)) (sym same)
      | inr apart ↦ recovered-apart s apart
    ]);
  }

  -- ---- where all stands

  pub new-placed : IsPlaced given new
  new-placed = ⊎_elim
      (λ gone. placed-less given new.lost old new (less-lost gone) placed did.live)
      (λ kept. placed-less given new.lost (W given old placed recovery role slot to) new (less-kept kept) (placed-given given old placed recovery role slot to) did.live)
      (by_bool (has_slot new.lost slot))

  pub new-unlost : AreUnlost new
  new-unlost = ⊎_elim
      (λ gone. less-unlost new.lost old new (less-lost gone) refl)
      (λ kept. less-unlost new.lost (W given old placed recovery role slot to) new (less-kept kept) refl)
      (by_bool (has_slot new.lost slot))

  -- ---- the spares

  spares-are : (s : ℕ) → has_spare new.spares s ≡ (nat_lt s 32 && (not (has_slot new.lost s) && is_planned_spare old.spares None (give_of gives s) s))
  spares-are s = ap (λ (l : List ℕ). has_spare l s) did.spares
      ∙ has-slots_below (λ s. not (has_slot new.lost s) && is_planned_spare old.spares None (give_of gives s) s) s 32

  pub spares-other : (s : ℕ) → s ≢ slot → has_spare new.spares s ≡ (nat_lt s 32 && (not (has_slot new.lost s) && (has_spare old.spares s || false)))
  spares-other s apart = spares-are s ∙ ap (λ (g : Give). nat_lt s 32 && (not (has_slot new.lost s) && is_planned_spare old.spares None g s)) (give-other slot role recovery s apart)

  pub spare-kept : (s : ℕ) → has_spare new.spares s ≡ true → (has_spare old.spares s ≡ true) × (s ≢ slot) × (has_slot new.lost s ≡ false)
  spare-kept s has = elim (cases_eq s slot) [
    | inl same ↦ absurd (
        let none = spares-are s ∙ ap (λ (t : ℕ). nat_lt s 32 && (not (has_slot new.lost s) && is_planned_spare old.spares None (give_of gives t) t)) same
        ∙ ap (λ (g : Give). nat_lt s 32 && (not (has_slot new.lost s) && is_planned_spare old.spares None g slot)) (give-here slot role recovery small)
        ∙ never (nat_lt s 32) (has_slot new.lost s) in let clash = sym has ∙ none in cc
        )
    | inr apart ↦ let p = parts (nat_lt s 32) (has_slot new.lost s) (has_spare old.spares s) (sym (spares-other s apart) ∙ has) in (p.0, apart, p.1)
  ]
    where
      never : (a b : Bool) → (a && (not b && false)) ≡ false
      never true true = refl
      never true false = refl
      never false b = refl

      parts : (below gone spare : Bool) → (below && (not gone && (spare || false))) ≡ true → (spare ≡ true) × (gone ≡ false)
      parts false gone spare e = absurd (cc)
      parts true true spare e = absurd (cc)
      parts true false true e = (refl, refl)
      parts true false false e = absurd (cc)

  below-all : (s : ℕ) → has_spare new.spares s ≡ true → s < 32
  below-all s has = is-less s 32 (first (nat_lt s 32) (not (has_slot new.lost s) && is_planned_spare old.spares None (give_of gives s) s) (sym (spares-are s) ∙ has))
    where
      first : (a b : Bool) → (a && b) ≡ true → a ≡ true
      first true b e = refl
      first false b e = e

      is-less : (a b : ℕ) → nat_lt a b ≡ true → a < b
      is-less a b is = grind (arith, nat_tests, is)

  fewer : (s : ℕ) → has_spare new.spares s ≡ true → has_spare (W given old placed recovery role slot to).spares s ≡ true
  fewer s has =
      let p = spare-kept s has in
      spare-then given old placed recovery role slot to s
      ∙ (λ i. below s 32 (below-all s has) i && (p.0 i && not (differ slot s (λ same. p.1 (sym same)) i)))
    where
      differ : (a b : ℕ) → a ≢ b → (a == b) ≡ false
      differ a b apart = grind (arith, nat_tests, apart)

      below : (a b : ℕ) → a < b → nat_lt a b ≡ true
      below a b lt = grind (arith, nat_tests, lt)

  few-spares : length new.spares ≤ 32
  few-spares = subst (λ (l : List ℕ). length l ≤ 32) (sym did.spares) (few-planned old (giving old slot role recovery) new.lost)

  -- ---- all

  -- a role that the slot held is missing, where it is lost
  gone-missing : has_slot new.lost slot ≡ true → is_missing (reading_of new) role ≡ true
  gone-missing gone = ap (λ (s : Role). not (is_whole s)) (ap (λ (l : List Role). get_or l role Missing) (less-lost gone).roles ∙ state-without new.lost old.roles role ∙ none-held gone)

  moved-lost : has_slot new.lost slot ≡ true → IsMoved given old new → IsMoved given (W given old placed recovery role slot to) new
  moved-lost gone moved = moved-away given old new placed recovery role slot to moved (record {
    holders = λ r s is same. absurd (let left = moved.unlost r s is in let clash = sym gone ∙ ap (has_slot new.lost) (sym same) ∙ left in cc);
    spares = λ s has. let p = spare-kept s has in (p.1, below-all s has, p.2);
    few = few-spares;
    missing = gone-missing gone;
  })

  pub moved-given : AreUnlost old → IsMoved given (W given old placed recovery role slot to) new
  moved-given unlost = ⊎_elim
      (λ gone. moved-lost gone (moved-less given new.lost old new (less-lost gone) placed new-placed new-unlost
      (λ few. few-spares) (λ s has. (spare-kept s has).0) (λ s has free. (spare-kept s has).2)))
      (λ kept. moved-less given new.lost (W given old placed recovery role slot to) new (less-kept kept) (placed-given given old placed recovery role slot to) new-placed new-unlost
      (λ few. few-spares) fewer (λ s has free. (spare-kept s has).2))
      (by_bool (has_slot new.lost slot))

  -- ---- what was lost

  -- the other spares are free still
  free-given : AreSparesFree given old → AreSparesFree given (W given old placed recovery role slot to)
  free-given all s has =
      let p = spare-before given old placed recovery role slot to s has in
      let free = all s p.0 in
      record {
        room = record {
          small = free.room.small;
          known = free.room.known;
          short = free.room.short;
          within = let within = free.room.within in let here = offset-same given old placed recovery role slot to s in omega (arith, within, here);
        };
        behind = subst (λ (n : ℕ). 10 ≤ n) (sym (offset-same given old placed recovery role slot to s)) free.behind;
        none = λ r is. ⊎_elim (λ here. p.1 here.1) (λ other. free.none r other.2) (holder-then given old placed recovery role slot to r s is);
        unlost = free.unlost;
      }

  -- the slots that hold a role then, of those that were lost in it those that hold none, and those that failed
  pub failed-given : (held lost told : ℕ) (before after : ℕ → ℕ) → AreUnlost old → AreSparesFree given old → AreHolders (reading_of (W given old placed recovery role slot to)) held
      → AreLosses (live_set old (giving old slot role recovery)) old.lost new.lost before after → ((s : ℕ) → has_slot lost s ≡ (has_slot new.lost s && not (has_slot old.lost s)))
      → ((s : ℕ) → has_slot told s ≡ (has_slot lost s && not (has_slot held s))) → HaveFailedSince (W given old placed recovery role slot to) new told before after
  failed-given held lost told before after unlost all holders losses is_lost is_told = record {
    roles = λ r s is. by r s is (has_slot new.lost s) refl;
    spares_are = λ s has.
        let one = both (has_slot lost s) (not (has_slot held s)) (sym (is_told s) ∙ has) in
        let two = both (has_slot new.lost s) (not (has_slot old.lost s)) (sym (is_lost s) ∙ one.0) in
        losses.failed s two.0 (flip (has_slot old.lost s) two.1);
    were = λ s has.
        let one = both (has_slot lost s) (not (has_slot held s)) (sym (is_told s) ∙ has) in
        let two = both (has_slot new.lost s) (not (has_slot old.lost s)) (sym (is_lost s) ∙ one.0) in
        was-spare s (losses.live s two.0 (flip (has_slot old.lost s) two.1)) (flip (has_slot held s) one.1);
    fewer = fewer;
    told = λ s has.
        let free = free-given all s has in
        let p = spare-before given old placed recovery role slot to s has in
        ⊎_elim
        (λ kept. inl (spares-other s p.1 ∙ stays (nat_lt s 32) (has_slot new.lost s) (has_spare old.spares s) (is-below s free.room.small) kept p.0))
        (λ is. inr is)
        (free-told (W given old placed recovery role slot to) held new.lost lost told s free holders (is_lost s) (is_told s));
  }
    where
      both : (a b : Bool) → (a && b) ≡ true → (a ≡ true) × (b ≡ true)
      both true b e = (refl, e)
      both false b e = absurd (cc)

      flip : (b : Bool) → not b ≡ true → b ≡ false
      flip true e = absurd (cc)
      flip false e = refl

      -- a slot that was live, and holds no role then, is another spare
      was-spare : (s : ℕ) → has_slot (live_set old (giving old slot role recovery)) s ≡ true → has_slot held s ≡ false → has_spare (W given old placed recovery role slot to).spares s ≡ true
      was-spare s live idle = of (list_any (is_held_by s) old.roles) refl parts.1
        where
          parts : (nat_lt s 32 ≡ true) × (is_live old.roles old.spares s ≡ true)
          parts = both (nat_lt s 32) (is_live old.roles old.spares s) (sym (live-of old (giving old slot role recovery) refl s) ∙ live)

          unheld : (r : ℕ) → holder (role_state (reading_of (W given old placed recovery role slot to)) r) ≡ Some s → ⊥
          unheld r is = absurd (let there = holders.all r s is in let clash = sym there ∙ idle in cc)

          apart : s ≢ slot
          apart same = unheld role (ap holder (state-here given old placed recovery role slot to) ∙ holder-given recovery slot ∙ ap (λ (n : ℕ). Some n) (sym same))

          differ : (a b : ℕ) → a ≢ b → (a == b) ≡ false
          differ a b apart = grind (arith, nat_tests, apart)

          of : (b : Bool) → list_any (is_held_by s) old.roles ≡ b → (b || has_spare old.spares s) ≡ true → has_spare (W given old placed recovery role slot to).spares s ≡ true
          of true holds e = absurd (
              let found = any-holds s old.roles holds in
              unheld found.0 (ap holder (state-other given old placed recovery role slot to found.0
              (λ same. apart (to.others s (subst (λ (r : ℕ). holder (role_state (reading_of old) r) ≡ Some s) same found.1)))) ∙ found.1))
          of false holds e = spare-then given old placed recovery role slot to s ∙ (λ i. parts.0 i && (e i && not (differ slot s (λ same. apart (sym same)) i)))

      is-below : (s : ℕ) → s < 32 → nat_lt s 32 ≡ true
      is-below s lt = grind (arith, nat_tests, lt)

      stays : (below gone spare : Bool) → below ≡ true → gone ≡ false → spare ≡ true → (below && (not gone && (spare || false))) ≡ true
      stays true false true one two three = refl
      stays below true spare one two three = absurd (cc)
      stays false gone spare one two three = absurd (cc)
      stays below gone false one two three = absurd (cc)

      by : (r s : ℕ) → holder (role_state (reading_of (W given old placed recovery role slot to)) r) ≡ Some s → (b : Bool) → has_slot new.lost s ≡ b
          → (holder (role_state (reading_of new) r) ≡ Some s) ⊎ IsFaulted s before after
      by r s is true gone = inr (losses.failed s gone (unlost-given given old placed recovery role slot to unlost r s is))
      by r s is false kept = inl (ap holder (state-is r) ∙ holder-without new.lost s (role_state (reading_of (W given old placed recovery role slot to)) r) is kept)

  -- ---- who is live

  -- ---- the slots that hold a role then

  pub holders-more : (held held' : ℕ) → AreHolders (reading_of old) held → ((s : ℕ) → has_slot held' s ≡ (has_slot held s || (slot == s))) → AreHolders (reading_of (W given old placed recovery role slot to)) held'
  holders-more held held' holders is = record {
    all = λ r s holds. is s ∙ ⊎_elim
        (λ here. ap (λ (b : Bool). has_slot held s || b) (self slot s (sym here.1)) ∙ or_true (has_slot held s))
        (λ other. ap (λ (b : Bool). b || (slot == s)) (holders.all r s other.2))
        (holder-then given old placed recovery role slot to r s holds);
    only = λ s has. elim (cases_eq s slot) [
      | inl same ↦ (role, ap holder (state-here given old placed recovery role slot to) ∙ holder-given recovery slot ∙ ap (λ (n : ℕ). Some n) (sym same))
      | inr apart ↦
          let found = holders.only s (first (has_slot held s) (slot == s) (differ slot s (λ same. apart (sym same))) (sym (is s) ∙ has)) in
          let other : found.0 ≢ role = (λ same. apart (to.others s (ap (λ (k : ℕ). holder (role_state (reading_of old) k)) (sym same) ∙ found.1))) in
          (found.0, ap holder (state-other given old placed recovery role slot to found.0 other) ∙ found.1)
    ];
  }
    where
      or_true : (b : Bool) → (b || true) ≡ true
      or_true true = refl
      or_true false = refl

      self : (a b : ℕ) → a ≡ b → (a == b) ≡ true
      self a b same = grind (arith, nat_tests, same)

      differ : (a b : ℕ) → a ≢ b → (a == b) ≡ false
      differ a b apart = grind (arith, nat_tests, apart)

      first : (a b : Bool) → b ≡ false → (a || b) ≡ true → a ≡ true
      first true b none e = refl
      first false b none e = absurd (let clash = sym none ∙ e in cc)
