-- What an update that makes a slot a spare leaves of the members.
use Rattle.std.proofs.Common.{◌≡◌, ◌⊎◌, inl, inr, ⊎_elim, ℕ, ◌<◌, ◌≤◌, ◌==◌, ◌&&◌, ◌||◌, Bool, true, false, not, cond, nat_lt, List, length, Option, Some, None, replicate, refl, sym, ◌∙◌, ap, subst, arith}
use Rattle.std.specs.Prelude.{pos, ◌-ℤ◌, MatchOption, ⊤}
use Rattle.std.specs.Option.{option_map_or}
use Rattle.std.proofs.lemmas.Bool.Decides.{nat_tests}
use Rattle.sb_safe_updates.specs.raid_types_Sectors.{Sector}
use Rattle.sb_safe_updates.specs.raid_types_Shapes.{has_slot}
use Rattle.sb_safe_updates.specs.sb_codec_the_Sb.{Sb}
use Rattle.sb_safe_updates.specs.sb_codec_Superblock.{checksum}
use Rattle.sb_safe_updates.specs.bank_the_Operation.{Operation}
use Rattle.sb_safe_updates.specs.bank_Given.{Given}
use Rattle.sb_safe_updates.specs.bank_Tape.{EachMark, IsIn, disk}
use Rattle.sb_safe_updates.proofs.bank_Laws.{kept_in}
use Rattle.sb_safe_updates.specs.sb_specs_the_Give.{Give}
use Rattle.sb_safe_updates.specs.sb_specs_the_Give_TheVariants.{Same}
use Rattle.sb_safe_updates.specs.sb_specs_the_Members.{Members}
use Rattle.sb_safe_updates.specs.sb_specs_Reading.{count_of, is_reshaping, shape_of, final_shape, is_backward, role_count}
use Rattle.sb_safe_updates.specs.sb_specs_Reads.{SaysSame, has_spare}
use Rattle.sb_safe_updates.specs.sb_specs_Update.{planned, give_of, own_in, is_planned_spare}
use Rattle.sb_safe_updates.specs.sb_specs_Updating.{IsUpdate, IsWrittenBy, AreLosses, AreNamed, IsLater, IsSomeLeft, RisesByOperations, planned_newest}
use Rattle.sb_safe_updates.specs.sb_specs_Outcome.{AreLive, AreStored, IsPlannedOwn, live_set, is_left, planned_roles, planned_spares, with_added}
use Rattle.sb_safe_updates.specs.sb_specs_Rounds.{round_at, IsInRounds, ArePast}
use Rattle.sb_safe_updates.proofs.sb_specs_PlannedSb.{planned-of}
use Rattle.sb_safe_updates.proofs.sb_specs_SlotSets.{slots-same}
use Rattle.sb_safe_updates.specs.stripe_row_Rows.{reading_of}
use Rattle.sb_safe_updates.specs.array_members_Placed.{IsPlaced, AreLess, HaveSameReshape}
use Rattle.sb_safe_updates.specs.crash_safety_laws_Steady.{AreUnlost}
use Rattle.sb_safe_updates.specs.array_members_Flushing.{AreHolders}
use Rattle.sb_safe_updates.specs.array_members_Lacking.{HaveFailedSince}
use Rattle.sb_safe_updates.specs.crash_safety_laws_Marking.{adding, marking}
use Rattle.sb_safe_updates.specs.array_members_Moving.{IsMoved}
use Rattle.sb_safe_updates.specs.array_members_Rebuilding.{AreSparesFree, IfOwn, with_spare}
use Rattle.sb_safe_updates.specs.array_members_Under.{IsRestKept}
use Rattle.sb_safe_updates.specs.crash_safety_laws_Safety.{HasLiveSlot, IsRisen}
use Rattle.sb_safe_updates.proofs.array_members_AddedMembers.{own-here, spares-with, live-with}
use Rattle.sb_safe_updates.proofs.array_members_HeldRows.{rows-same}
use Rattle.sb_safe_updates.proofs.array_members_LackingLaws.{since-less}
use Rattle.sb_safe_updates.proofs.MarkEnds.{left-in-mark}
use Rattle.sb_safe_updates.proofs.array_members_MarkLaws.{roles-kept, few-planned}
use Rattle.sb_safe_updates.proofs.crash_safety_laws_Kept.{give_of-same}
use Rattle.sb_safe_updates.proofs.array_members_MarkedSafe.{told-marks}
use Rattle.sb_safe_updates.proofs.array_members_MovedLaws.{moved-less}
use Rattle.sb_safe_updates.proofs.array_members_PlacedLaws.{placed-less, less-unlost}
use Rattle.sb_safe_updates.proofs.SparesLaws.{spare-left, spare-stays, free-told, told-were}
use Rattle.sb_safe_updates.proofs.array_members_Fit.{reshape-said}

is-below : (a b : ℕ) → a < b → nat_lt a b ≡ true
is-below a b lt = grind (arith, nat_tests)

-- what the update did
pub record IsAddedBy (tells : Type 0) (given : Given) (slot : ℕ) (sb : Sb) (old new : Members) (before after : List Operation) : Type 0 where
  pub update : IsUpdate tells (live_set old (adding old slot sb)) (with_spare slot sb old).lost new.lost (IsWrittenBy old.newest (adding old slot sb) (with_spare slot sb old).own) given.start before after
  pub named : IsSomeLeft (live_set old (adding old slot sb)) new.lost → AreNamed (with_added old (Some (slot, sb))) (adding old slot sb) (with_spare slot sb old).lost new.lost new.newest
  pub newest : IsLater (planned_newest old.newest old.newest) new.newest
  pub rounds : EachMark tells given.start before after
      (IsInRounds (with_added old (Some (slot, sb))) (adding old slot sb) (with_spare slot sb old).lost (live_set old (adding old slot sb)) new.lost new.newest.events (disk given.start before))
  pub past : tells → ArePast (with_added old (Some (slot, sb))) (adding old slot sb) (with_spare slot sb old).lost (live_set old (adding old slot sb)) (disk given.start before)
      (round_at new.newest new.lost given.start after)
  pub rise : RisesByOperations tells (live_set old (adding old slot sb)) new.lost old.newest.events new.newest.events before after
  pub stay : (s : ℕ) → has_slot (with_spare slot sb old).lost s ≡ true → has_slot new.lost s ≡ true
  pub live : (s : ℕ) → has_slot new.lost s ≡ true → has_slot (with_spare slot sb old).lost s ≡ false → has_slot (live_set old (adding old slot sb)) s ≡ true
  pub own : AreStored new.newest (replicate 32 Same) (is_left (live_set old (adding old slot sb)) new.lost) (with_spare slot sb old).own new.own
  pub held : AreLive given new
  pub roles : new.roles ≡ planned_roles old (adding old slot sb) new.lost
  pub spares : new.spares ≡ planned_spares old (adding old slot sb) new.lost

-- so it is over a bank that tells its contents
pub told-added : {tells : Type 0} {given : Given} {slot : ℕ} {sb : Sb} {old new : Members} {before after : List Operation} → tells → IsAddedBy tells given slot sb old new before after
    → IsAddedBy ⊤ given slot sb old new before after
told-added told did = record {
  update = record { marks = told-marks told did.update.marks; end = λ u. did.update.end told };
  named = did.named;
  newest = did.newest;
  rounds = told-marks told did.rounds;
  past = λ u. did.past told;
  rise = λ u. did.rise told;
  stay = did.stay;
  live = did.live;
  own = did.own;
  held = did.held;
  roles = did.roles;
  spares = did.spares;
}

-- ---- the members at its end, by those with the spare

module _ {tells : Type 0} {given : Given} {slot : ℕ} {sb : Sb} {old new : Members} {before after : List Operation} (did : IsAddedBy tells given slot sb old new before after) where
  says : SaysSame old.newest (planned old.newest Same old.newest)
  says = (planned-of old.newest old.newest Same).array

  same-reshape : HaveSameReshape old.newest new.newest
  same-reshape =
      let same = did.newest.same in
      let r = reshape-said old.newest (planned old.newest Same old.newest) says in
      record {
        reshaping = ap is_reshaping same ∙ r.reshaping;
        final = ap final_shape same ∙ r.final;
        position = ap (λ (x : Sb). x.reshape_position) same ∙ r.position;
        backward = ap is_backward same ∙ r.backward;
      }

  reshaping-same : is_reshaping new.newest ≡ is_reshaping old.newest
  reshaping-same = ap is_reshaping did.newest.same ∙ sym says.reshaping

  same-shape : shape_of new.newest ≡ shape_of old.newest
  same-shape = ap shape_of did.newest.same ∙ ap (λ (b : Bool). record {
    level = old.newest.level;
    layout = old.newest.layout;
    chunk = old.newest.chunksize;
    disks = cond b (count_of (pos old.newest.raid_disks -ℤ old.newest.delta_disks)) old.newest.raid_disks;
  }) (sym says.reshaping)

  -- a field of the planned superblock of a slot that is its own device's
  own-kept : (f : Sb → ℕ) → ((x : Sb) (csum : ℕ) → f (record (planned new.newest Same x) { sb_csum = csum }) ≡ f x)
      → (s : ℕ) → option_map_or f (own_in new.own s) 0 ≡ option_map_or f (own_in (with_spare slot sb old).own s) 0
  own-kept f same s = by (is_left (live_set old (adding old slot sb)) new.lost s) refl
    where
      stored : (first last : Option Sb) → IsPlannedOwn new.newest Same first last → option_map_or f last 0 ≡ option_map_or f first 0
      stored None last is = absurd is
      stored (Some x) last is = ap (λ (o : Option Sb). option_map_or f o 0) is.own ∙ ap f is.fields ∙ same x (checksum is.bytes)

      by : (b : Bool) → is_left (live_set old (adding old slot sb)) new.lost s ≡ b → option_map_or f (own_in new.own s) 0 ≡ option_map_or f (own_in (with_spare slot sb old).own s) 0
      by true is =
          stored (own_in (with_spare slot sb old).own s) (own_in new.own s)
          (subst (λ (g : Give). IsPlannedOwn new.newest g (own_in (with_spare slot sb old).own s) (own_in new.own s)) (give_of-same 32 s) (did.own.written s is))
      by false is = ap (λ (o : Option Sb). option_map_or f o 0) (did.own.others s is)

  pub added-less : IsPlaced given old → AreLess new.lost (with_spare slot sb old) new
  added-less placed = record {
    reshape = same-reshape;
    shape = same-shape;
    size = ap (λ (x : Sb). x.size) did.newest.same;
    roles = did.roles
        ∙ roles-kept old.roles new.lost placed.apart (λ role s is. (placed.holders role s is).small) (role_count old.newest) (sym placed.roles);
    offsets = own-kept (λ x. x.data_offset) (λ x csum. refl);
    rows = rows-same (reading_of new) (reading_of (with_spare slot sb old)) reshaping-same (ap (λ (x : Sb). x.size) did.newest.same) (own-kept (λ x. x.recovery_offset) (λ x csum. refl));
  }

  -- the spares are as a mark with it leaves them
  pub added-spares : (clean : Bool) → new.spares ≡ planned_spares (with_spare slot sb old) (marking (with_spare slot sb old) clean) new.lost
  added-spares clean = did.spares ∙ slots-same 32 (λ s. not (has_slot new.lost s) && is_planned_spare old.spares (Some (slot, sb)) (give_of (replicate 32 Same) s) s)
      (λ s. not (has_slot new.lost s) && is_planned_spare (with_spare slot sb old).spares None (give_of (replicate 32 Same) s) s)
      (λ s lt. ap (λ (g : Give). not (has_slot new.lost s) && is_planned_spare old.spares (Some (slot, sb)) g s) (give_of-same 32 s)
      ∙ ap (λ (b : Bool). not (has_slot new.lost s) && b) (same s lt)
      ∙ sym (ap (λ (g : Give). not (has_slot new.lost s) && is_planned_spare (with_spare slot sb old).spares None g s) (give_of-same 32 s)))
    where
      same : (s : ℕ) → s < 32 → (has_spare old.spares s || (slot == s)) ≡ (has_spare (with_spare slot sb old).spares s || false)
      same s lt = sym (ap (λ (b : Bool). b || false) (spares-with old slot sb s ∙ ap (λ (b : Bool). b && (has_spare old.spares s || (slot == s))) (is-below s 32 lt))
          ∙ none (has_spare old.spares s || (slot == s)))
        where
          none : (b : Bool) → ((true && b) || false) ≡ b
          none true = refl
          none false = refl

  -- a spare isn't lost
  pub lost-spare : (s : ℕ) → has_spare new.spares s ≡ true → has_slot new.lost s ≡ false
  lost-spare s is = (spare-left (with_spare slot sb old) false new.lost new.spares (added-spares false) s is).1

  -- a slot that is left was live in it
  pub left-in-adding : IsPlaced given old → HasLiveSlot new → IsSomeLeft (live_set old (adding old slot sb)) new.lost
  left-in-adding placed live =
      let some = left-in-mark false (with_spare slot sb old) new (added-less placed) (added-spares false) live in
      (some.0, live-with old slot sb false some.0 ∙ some.1, some.2)

  pub added-risen : IsPlaced given old → IsRisen tells (with_spare slot sb old) new before after
  added-risen placed = record {
    left = λ live. let some = left-in-mark false (with_spare slot sb old) new (added-less placed) (added-spares false) live in (some.0, some.1, of some.0 (has_slot (with_spare slot sb old).lost some.0) refl some.2);
    events = λ told live. did.rise told (inl (left-in-adding placed live));
  }
    where
      of : (s : ℕ) (b : Bool) → has_slot (with_spare slot sb old).lost s ≡ b → has_slot new.lost s ≡ false → b ≡ false
      of s true gone kept = absurd (let stays = did.stay s gone in let both = sym stays ∙ kept in cc)
      of s false left kept = refl

  -- ---- moved

  pub new-placed : IsPlaced given old → IsPlaced given (with_spare slot sb old) → AreLive given new → IsPlaced given new
  new-placed placed with_placed live = placed-less given new.lost (with_spare slot sb old) new (added-less placed) with_placed live

  pub new-unlost : IsPlaced given old → AreUnlost new
  new-unlost placed = less-unlost new.lost (with_spare slot sb old) new (added-less placed) refl

  pub added-moved : IsPlaced given old → IsPlaced given (with_spare slot sb old) → AreLive given new → IsMoved given (with_spare slot sb old) new
  added-moved placed with_placed live =
      moved-less given new.lost (with_spare slot sb old) new (added-less placed) with_placed (new-placed placed with_placed live) (new-unlost placed)
      (λ few. subst (λ (l : List ℕ). length l ≤ 32) (sym did.spares) (few-planned old (adding old slot sb) new.lost))
      (λ s is. (spare-left (with_spare slot sb old) false new.lost new.spares (added-spares false) s is).0)
      (λ s is free. lost-spare s is)

  -- nothing but superblocks of live slots and of this one is written
  pub added-rest : tells → IsRestKept (with_spare slot sb old) (disk given.start before) (disk given.start after)
  added-rest told s k v which may =
      let touched = (did.update.end told).touched in
      elim which [
        | inl other ↦ kept_in (disk given.start before s k) (disk given.start after s k) v (touched.elsewhere s k other) may
        | inr idle ↦ elim idle [
          | inl none ↦ subst (λ (l : List Sector). IsIn l v) (touched.others s k (live-with old slot sb false s ∙ none)) may
          | inr lost ↦ subst (λ (l : List Sector). IsIn l v) (touched.gone s k lost) may
        ]
      ]

  -- ---- what failed

  module _ (placed : IsPlaced given old) (unlost : AreUnlost (with_spare slot sb old)) (free : AreSparesFree given (with_spare slot sb old)) (held lost told : ℕ) (f g : ℕ → ℕ)
      (holders : AreHolders (reading_of old) held) (result : (s : ℕ) → has_slot lost s ≡ (has_slot new.lost s && not (has_slot (with_spare slot sb old).lost s)))
      (without : (s : ℕ) → s < 32 → has_slot told s ≡ (has_slot lost s && not (has_slot held s))) (small : (s : ℕ) → has_slot told s ≡ true → s < 32)
      (losses : AreLosses (live_set old (adding old slot sb)) (with_spare slot sb old).lost new.lost f g) where
    both : (a b : Bool) → (a && not b) ≡ true → (a ≡ true) × (b ≡ false)
    both true true e = absurd (cc)
    both true false e = (refl, refl)
    both false b e = absurd (cc)

    was-lost : (s : ℕ) → has_slot told s ≡ true → (has_slot new.lost s ≡ true) × (has_slot (with_spare slot sb old).lost s ≡ false)
    was-lost s is =
        let parts = both (has_slot lost s) (has_slot held s) (sym (without s (small s is)) ∙ is) in
        both (has_slot new.lost s) (has_slot (with_spare slot sb old).lost s) (sym (result s) ∙ parts.0)

    pub told-spare : (s : ℕ) → has_spare (with_spare slot sb old).spares s ≡ true → (has_spare new.spares s ≡ true) ⊎ (has_slot told s ≡ true)
    told-spare s is =
        let room = (free s is).room in
        ⊎_elim (λ kept. inl (spare-stays (with_spare slot sb old) false new.lost new.spares (added-spares false) s room.small kept is)) (λ gone. inr gone)
        (free-told (with_spare slot sb old) held new.lost lost told s (free s is) (record { all = holders.all; only = holders.only }) (result s) (without s room.small))

    pub added-failed : HaveFailedSince (with_spare slot sb old) new told f g
    added-failed = since-less new.lost told (with_spare slot sb old) new f g (added-less placed)
        (λ role s is gone. losses.failed s gone (unlost role s is))
        (λ s is. let parts = was-lost s is in losses.failed s parts.0 parts.1)
        (λ s is.
        let parts = both (has_slot lost s) (has_slot held s) (sym (without s (small s is)) ∙ is) in
        let gone = was-lost s is in
        told-were (with_spare slot sb old) (marking (with_spare slot sb old) false) held s refl (record { all = holders.all; only = holders.only })
        (sym (live-with old slot sb false s) ∙ losses.live s gone.0 gone.1) parts.1)
        (λ s is. (spare-left (with_spare slot sb old) false new.lost new.spares (added-spares false) s is).0)
        told-spare

    -- a slot that is told isn't a spare
    pub told-none : (s : ℕ) → has_slot told s ≡ true → has_spare new.spares s ≡ false
    told-none s is = by (has_spare new.spares s) refl
      where
        by : (b : Bool) → has_spare new.spares s ≡ b → b ≡ false
        by true spare = absurd (let kept = lost-spare s spare in let gone = (was-lost s is).0 in let e = sym gone ∙ kept in cc)
        by false none = refl

  -- the superblock that is kept of it has the number and the data offset that it was to have
  pub added-stored : slot < 32 → length old.own ≡ 32 → has_slot (live_set old (adding old slot sb)) slot ≡ true → has_slot new.lost slot ≡ false
      → IfOwn new slot (λ own. (own.dev_number ≡ sb.dev_number) × (own.data_offset ≡ sb.data_offset))
  added-stored below long live kept =
      of (own_in (with_spare slot sb old).own slot) (own_in new.own slot) (own-here old slot sb below long)
      (subst (λ (g : Give). IsPlannedOwn new.newest g (own_in (with_spare slot sb old).own slot) (own_in new.own slot)) (give_of-same 32 slot) (did.own.written slot (λ i. live i && not (kept i))))
    where
      of : (first last : Option Sb) → first ≡ Some (record sb { events = old.newest.events }) → IsPlannedOwn new.newest Same first last
          → MatchOption last ⊥ (λ own. (own.dev_number ≡ sb.dev_number) × (own.data_offset ≡ sb.data_offset))
      of None last is stored = absurd (cc)
      of (Some x) last is stored =
          let same : x ≡ record sb { events = old.newest.events } = cc in
          subst (λ (o : Option Sb). MatchOption o ⊥ (λ own. (own.dev_number ≡ sb.dev_number) × (own.data_offset ≡ sb.data_offset))) (sym stored.own)
          (ap (λ (y : Sb). y.dev_number) stored.fields ∙ ap (λ (y : Sb). y.dev_number) same, ap (λ (y : Sb). y.data_offset) stored.fields ∙ ap (λ (y : Sb). y.data_offset) same)
