-- An array's places after slots were lost, and after its superblocks were marked.
use Rattle.std.proofs.Common.{◌≡◌, ℕ, suc, ◌≤◌, Bool, true, false, cond, List, [], ◌∷◌, length, get_or, refl, sym, ap, ap₂, ◌∙◌, subst, Option, Some, None, map, replicate, unwrap_or}
use Rattle.std.specs.Prelude.{pos, ◌-ℤ◌}
use Rattle.std.specs.Option.{option_map_or}
use Rattle.crash_role_laws.specs.raid_types_Shapes.{has_slot}
use Rattle.crash_role_laws.specs.raid_types_the_Role.{Role}
use Rattle.crash_role_laws.specs.raid_types_the_Role_TheVariants.{Whole, Recovering, Missing}
use Rattle.crash_role_laws.specs.bank_Given.{Given}
use Rattle.crash_role_laws.specs.sb_codec_Superblock.{checksum}
use Rattle.crash_role_laws.specs.sb_codec_the_Sb.{Sb}
use Rattle.crash_role_laws.specs.sb_specs_the_Give_TheVariants.{Same}
use Rattle.crash_role_laws.specs.sb_specs_the_Members.{Members}
use Rattle.crash_role_laws.specs.sb_specs_Reading.{count_of, is_reshaping, shape_of, role_count, role_state, holder, data_offset_of, final_shape, is_backward, target_of}
use Rattle.crash_role_laws.specs.sb_specs_Reads.{SaysSame}
use Rattle.crash_role_laws.specs.sb_specs_Update.{own_in, planned}
use Rattle.crash_role_laws.specs.sb_specs_Updating.{IsLater, planned_newest}
use Rattle.crash_role_laws.specs.sb_specs_Outcome.{AreLive, AreStored, IsPlannedOwn, planned_roles}
use Rattle.crash_role_laws.proofs.sb_specs_SlotSets.{none_there}
use Rattle.crash_role_laws.proofs.sb_specs_PlannedSb.{planned-of}
use Rattle.crash_role_laws.specs.stripe_row_Rows.{reading_of, role_without, IsHolder}
use Rattle.crash_role_laws.proofs.crash_safety_laws_Without.{state-without}
use Rattle.array_members.specs.Placed.{places_of, IsPlaced, AreLess}
use Rattle.crash_role_laws.specs.crash_safety_laws_Steady.{AreUnlost}
use Rattle.crash_role_laws.specs.crash_safety_laws_Marking.{resync_of, marking}
use Rattle.array_members.proofs.MarkLaws.{roles-kept}
use Rattle.crash_role_laws.proofs.crash_safety_laws_Kept.{give_of-same}
use Rattle.array_members.proofs.HeldRows.{rows-same}
use Rattle.array_members.proofs.Fit.{fit-alike, count-alike}
use Rattle.crash_role_laws.specs.sb_specs_Verdict.{AreValidShapes}
use Rattle.crash_role_laws.proofs.sb_specs_ValidFields.{few-roles}

-- ---- a role whose slot may be lost

without-holder : (lost : ℕ) (state : Role) (slot : ℕ) → holder (role_without lost state) ≡ Some slot → holder state ≡ Some slot
without-holder lost (Whole s) slot is = by (has_slot lost s) is
  where
    by : (b : Bool) → holder (cond b Missing (Whole s)) ≡ Some slot → holder (Whole s) ≡ Some slot
    by true e = absurd (cc)
    by false e = e
without-holder lost (Recovering s) slot is = by (has_slot lost s) is
  where
    by : (b : Bool) → holder (cond b Missing (Recovering s)) ≡ Some slot → holder (Recovering s) ≡ Some slot
    by true e = absurd (cc)
    by false e = e
without-holder lost Missing slot is = is

length-without : (lost : ℕ) (roles : List Role) → length (map (role_without lost) roles) ≡ length roles
length-without lost [] = refl
length-without lost (state ∷ roles) = ap suc (length-without lost roles)

pub none-lost : (roles : List Role) → map (role_without 0) roles ≡ roles
none-lost [] = refl
none-lost (Whole slot ∷ roles) = ap₂ (λ (b : Bool) (l : List Role). cond b Missing (Whole slot) ∷ l) (no_slot slot) (none-lost roles)
  where
    no_slot : (slot : ℕ) → has_slot 0 slot ≡ false
    no_slot slot = none_there slot
none-lost (Recovering slot ∷ roles) = ap₂ (λ (b : Bool) (l : List Role). cond b Missing (Recovering slot) ∷ l) (none_there slot) (none-lost roles)
none-lost (Missing ∷ roles) = ap (λ (l : List Role). Missing ∷ l) (none-lost roles)

-- ---- the same array, with some slots lost

module _ (given : Given) (lost : ℕ) (old new : Members) (less : AreLess lost old new) where
  state-is : (role : ℕ) → role_state (reading_of new) role ≡ role_without lost (role_state (reading_of old) role)
  state-is role = ap (λ (l : List Role). get_or l role Missing) less.roles ∙ state-without lost old.roles role

  held-before : (role slot : ℕ) → holder (role_state (reading_of new) role) ≡ Some slot → holder (role_state (reading_of old) role) ≡ Some slot
  held-before role slot is = without-holder lost (role_state (reading_of old) role) slot (ap holder (sym (state-is role)) ∙ is)

  pub placed-less : IsPlaced given old → AreLive given new → IsPlaced given new
  placed-less placed live = record {
    fit = fit-alike old.newest new.newest less.reshape less.shape less.size placed.fit;
    roles = ap length less.roles ∙ length-without lost old.roles ∙ placed.roles ∙ sym (count-alike old.newest new.newest less.reshape less.shape less.size);
    holders = λ role slot is.
        let was : IsHolder given (reading_of old) slot = placed.holders role slot (held-before role slot is) in
        record { small = was.small; known = was.known; short = was.short; within = rw (less.offsets slot) (rw less.size was.within) };
    behind = λ role slot is. rw (less.offsets slot) (placed.behind role slot (held-before role slot is));
    apart = λ a b slot one two. placed.apart a b slot (held-before a slot one) (held-before b slot two);
    live = live;
  }

-- where none is lost, all stands where it stood
module _ (old new : Members) (less : AreLess 0 old new) where
  pub roles-same : new.roles ≡ old.roles
  roles-same = less.roles ∙ none-lost old.roles

  pub places-same : places_of new ≡ places_of old
  places-same = λ i. record {
    shape = less.shape i;
    size = less.size i;
    slot = λ role. unwrap_or (holder (get_or (roles-same i) role Missing)) 0;
    offset = λ role. offset-same role i;
  }
    where
      offset-same : (role : ℕ) → data_offset_of (reading_of new) (unwrap_or (holder (role_state (reading_of new) role)) 0)
          ≡ data_offset_of (reading_of old) (unwrap_or (holder (role_state (reading_of old) role)) 0)
      offset-same role =
          less.offsets (unwrap_or (holder (role_state (reading_of new) role)) 0)
          ∙ ap (λ (l : List Role). data_offset_of (reading_of old) (unwrap_or (holder (get_or l role Missing)) 0)) roles-same

-- what is left of roles that had lost no slot
kept-state : (lost : ℕ) (state : Role) → ((slot : ℕ) → holder state ≡ Some slot → has_slot lost slot ≡ false) → role_without lost state ≡ state
kept-state lost (Whole slot) kept = ap (λ (b : Bool). cond b Missing (Whole slot)) (kept slot refl)
kept-state lost (Recovering slot) kept = ap (λ (b : Bool). cond b Missing (Recovering slot)) (kept slot refl)
kept-state lost Missing kept = refl

pub kept-roles : (lost : ℕ) (roles : List Role) → ((role slot : ℕ) → holder (get_or roles role Missing) ≡ Some slot → has_slot lost slot ≡ false) → map (role_without lost) roles ≡ roles
kept-roles lost [] kept = refl
kept-roles lost (state ∷ roles) kept = ap₂ (λ (r : Role) (l : List Role). r ∷ l) (kept-state lost state (kept 0)) (kept-roles lost roles (λ role. kept (suc role)))

-- a slot that still holds its role isn't among those that were lost
gone-state : (lost : ℕ) (state : Role) (slot : ℕ) → holder (role_without lost state) ≡ Some slot → has_slot lost slot ≡ false
gone-state lost (Whole s) slot is = by (has_slot lost s) refl is
  where
    by : (b : Bool) → has_slot lost s ≡ b → holder (cond b Missing (Whole s)) ≡ Some slot → has_slot lost slot ≡ false
    by true gone e = absurd (cc)
    by false kept e = let same : s ≡ slot = cc in ap (has_slot lost) (sym same) ∙ kept
gone-state lost (Recovering s) slot is = by (has_slot lost s) refl is
  where
    by : (b : Bool) → has_slot lost s ≡ b → holder (cond b Missing (Recovering s)) ≡ Some slot → has_slot lost slot ≡ false
    by true gone e = absurd (cc)
    by false kept e = let same : s ≡ slot = cc in ap (has_slot lost) (sym same) ∙ kept
gone-state lost Missing slot is = absurd (cc)

pub less-unlost : (lost : ℕ) (old new : Members) → AreLess lost old new → new.lost ≡ lost → AreUnlost new
less-unlost lost old new less is role slot held =
    ap (λ (n : ℕ). has_slot n slot) is
    ∙ gone-state lost (role_state (reading_of old) role) slot
    (ap holder (sym (ap (λ (l : List Role). get_or l role Missing) less.roles ∙ state-without lost old.roles role)) ∙ held)

-- ---- the clean mark

module _ (old new : Members) (clean : Bool) (kept : ℕ → Bool)
    (later : IsLater (planned_newest (marking old clean).shared old.newest) new.newest)
    (own : AreStored new.newest (replicate 32 Same) kept old.own new.own) where
  abbrev shared : Sb
  shared = record old.newest { resync_offset = resync_of clean }

  says : SaysSame shared (planned shared Same old.newest)
  says = (planned-of shared old.newest Same).array

  reshaping-same : is_reshaping new.newest ≡ is_reshaping old.newest
  reshaping-same = ap is_reshaping later.same ∙ sym says.reshaping

  same-shape : shape_of new.newest ≡ shape_of old.newest
  same-shape = ap shape_of later.same ∙ ap (λ (b : Bool). record {
    level = old.newest.level;
    layout = old.newest.layout;
    chunk = old.newest.chunksize;
    disks = cond b (count_of (pos old.newest.raid_disks -ℤ old.newest.delta_disks)) old.newest.raid_disks;
  }) (sym says.reshaping)

  -- a field of the planned superblock of a slot that is its own device's
  own-kept : (f : Sb → ℕ) → ((sb : Sb) (csum : ℕ) → f (record (planned new.newest Same sb) { sb_csum = csum }) ≡ f sb)
      → (slot : ℕ) → option_map_or f (own_in new.own slot) 0 ≡ option_map_or f (own_in old.own slot) 0
  own-kept f same slot = by (kept slot) refl
    where
      stored : (before after : Option Sb) → IsPlannedOwn new.newest Same before after → option_map_or f after 0 ≡ option_map_or f before 0
      stored None after is = absurd is
      stored (Some sb) after is = ap (λ (o : Option Sb). option_map_or f o 0) is.own ∙ ap f is.fields ∙ same sb (checksum is.bytes)

      by : (b : Bool) → kept slot ≡ b → option_map_or f (own_in new.own slot) 0 ≡ option_map_or f (own_in old.own slot) 0
      by true is =
          stored (own_in old.own slot) (own_in new.own slot)
          (subst (λ g. IsPlannedOwn new.newest g (own_in old.own slot) (own_in new.own slot)) (give_of-same 32 slot) (own.written slot is))
      by false is = ap (λ (o : Option Sb). option_map_or f o 0) (own.others slot is)

  size-same : new.newest.size ≡ old.newest.size
  size-same = ap (λ (s : Sb). s.size) later.same

  target-same : target_of new.newest ≡ target_of old.newest
  target-same = ap target_of later.same ∙ ap (λ (b : Bool). cond b (Some (record { level = old.newest.new_level; layout = old.newest.new_layout; chunk = old.newest.new_chunk; disks = old.newest.raid_disks })) None) (sym says.reshaping)

  same-final : final_shape new.newest ≡ final_shape old.newest
  same-final i = unwrap_or (target-same i) (same-shape i)

  pub marked-less : (given : Given) (lost : ℕ) → IsPlaced given old → new.roles ≡ planned_roles old (marking old clean) lost → AreLess lost old new
  marked-less given lost placed roles = record {
    reshape = record { reshaping = reshaping-same; final = same-final; position = ap (λ (s : Sb). s.reshape_position) later.same; backward = ap is_backward later.same ∙ sym says.backward };
    shape = same-shape;
    size = size-same;
    roles = roles ∙ roles-kept old.roles lost placed.apart (λ role slot is. (placed.holders role slot is).small) (role_count old.newest) (sym placed.roles);
    offsets = own-kept (λ sb. sb.data_offset) (λ sb csum. refl);
    rows = rows-same (reading_of new) (reading_of old) reshaping-same size-same (own-kept (λ sb. sb.recovery_offset) (λ sb csum. refl));
  }

-- the mark's update has no more roles
pub marked-count : (old : Members) (clean : Bool) → AreValidShapes old.newest → role_count (marking old clean).shared ≤ 16
marked-count old clean valid = few-roles old.newest valid
