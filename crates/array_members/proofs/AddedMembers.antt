-- The members with a slot that is made a spare.
use Rattle.std.proofs.Common.{◌≡◌, ◌≢◌, inl, inr, ℕ, ◌<◌, ◌≤◌, ◌==◌, ◌&&◌, ◌||◌, Bool, true, false, not, nat_lt, length, Option, Some, None, refl, sym, ◌∙◌, ap, subst, arith}
use Rattle.std.specs.Option.{option_map_or}
use Rattle.std.specs.List.{list_any}
use Rattle.std.proofs.lemmas.Bool.{cases_eq}
use Rattle.std.proofs.lemmas.Bool.Decides.{nat_tests}
use Rattle.std.proofs.lemmas.List.{get_or-set_same}
use Rattle.crash_role_laws.specs.raid_types_Shapes.{has_slot}
use Rattle.crash_role_laws.specs.sb_codec_the_Sb.{Sb}
use Rattle.crash_role_laws.specs.sb_codec_Writable.{IsWritable}
use Rattle.crash_role_laws.specs.bank_Given.{Given}
use Rattle.crash_role_laws.specs.sb_specs_the_Members.{Members}
use Rattle.crash_role_laws.specs.sb_specs_Reading.{role_state, holder, data_offset_of}
use Rattle.crash_role_laws.specs.sb_specs_Reads.{has_spare}
use Rattle.crash_role_laws.specs.sb_specs_Update.{own_in, is_held_by, is_live}
use Rattle.crash_role_laws.specs.sb_specs_Writing.{IsMember}
use Rattle.crash_role_laws.specs.sb_specs_Outcome.{IsAddable, is_in_update, live_set}
use Rattle.crash_role_laws.proofs.sb_specs_SlotSets.{has-set_of}
use Rattle.crash_role_laws.proofs.sb_specs_StoredSlots.{set_apart}
use Rattle.crash_role_laws.proofs.sb_read_laws_SaidSlots.{has-slots_below}
use Rattle.crash_role_laws.specs.stripe_row_Rows.{reading_of}
use Rattle.array_members.specs.Placed.{IsPlaced}
use Rattle.crash_role_laws.specs.crash_safety_laws_Steady.{AreUnlost}
use Rattle.crash_role_laws.specs.crash_safety_laws_Marking.{adding, marking}
use Rattle.array_members.specs.Numbers.{IsSpareSb}
use Rattle.array_members.specs.Rebuilding.{IsFree, AreSparesFree, with_spare}
use Rattle.crash_role_laws.proofs.crash_safety_laws_Without.{live-is}

-- ---- tests

is-below : (a b : ℕ) → a < b → nat_lt a b ≡ true
is-below a b lt = grind (arith, nat_tests)

self : (a : ℕ) → (a == a) ≡ true
self a = grind (arith, nat_tests)

apart-from : (a b : ℕ) → b ≢ a → (a == b) ≡ false
apart-from a b other = grind (arith, nat_tests)

-- ---- what is kept of the slots

module _ (m : Members) (slot : ℕ) (sb : Sb) where
  pub own-here : slot < 32 → length m.own ≡ 32 → own_in (with_spare slot sb m).own slot ≡ Some (record sb { events = m.newest.events })
  own-here below long = get_or-set_same m.own slot (Some (record sb { events = m.newest.events })) None (omega (arith, below, long))

  pub own-other : (s : ℕ) → s ≢ slot → own_in (with_spare slot sb m).own s ≡ own_in m.own s
  own-other s other = set_apart m.own slot s (Some (record sb { events = m.newest.events })) (with_spare slot sb m).own refl other

  pub spares-with : (s : ℕ) → has_spare (with_spare slot sb m).spares s ≡ (nat_lt s 32 && (has_spare m.spares s || (slot == s)))
  spares-with s = has-slots_below (λ s. has_spare m.spares s || (slot == s)) s 32

  pub lost-with : (s : ℕ) → has_slot (with_spare slot sb m).lost s ≡ (nat_lt s 32 && (has_slot m.lost s && not (slot == s)))
  lost-with s = has-set_of 32 (λ s. has_slot m.lost s && not (slot == s)) s

  -- the slot isn't lost any more
  pub found-here : has_slot (with_spare slot sb m).lost slot ≡ false
  found-here = lost-with slot ∙ ap (λ (b : Bool). nat_lt slot 32 && (has_slot m.lost slot && not b)) (self slot) ∙ none (nat_lt slot 32) (has_slot m.lost slot)
    where
      none : (a b : Bool) → (a && (b && false)) ≡ false
      none true true = refl
      none true false = refl
      none false b = refl

  pub unlost-with : (s : ℕ) → has_slot m.lost s ≡ false → has_slot (with_spare slot sb m).lost s ≡ false
  unlost-with s kept = lost-with s ∙ ap (λ (b : Bool). nat_lt s 32 && (b && not (slot == s))) kept ∙ none (nat_lt s 32)
    where
      none : (a : Bool) → (a && false) ≡ false
      none true = refl
      none false = refl

  -- the same slots are live in the update that adds it, and in a mark with it
  pub live-with : (clean : Bool) (s : ℕ) → has_slot (live_set m (adding m slot sb)) s ≡ has_slot (live_set (with_spare slot sb m) (marking (with_spare slot sb m) clean)) s
  live-with clean s =
      has-set_of 32 (is_in_update m (adding m slot sb)) s
      ∙ same (nat_lt s 32) (list_any (is_held_by s) m.roles) (has_spare m.spares s) (slot == s)
      ∙ sym (live-is (with_spare slot sb m) clean s ∙ ap (λ (b : Bool). nat_lt s 32 && ((list_any (is_held_by s) m.roles || b) || false)) (spares-with s))
    where
      same : (a h p q : Bool) → (a && ((h || p) || q)) ≡ (a && ((h || (a && (p || q))) || false))
      same false h p q = refl
      same true true p q = refl
      same true false true q = refl
      same true false false true = refl
      same true false false false = refl

  pub live-here : slot < 32 → has_slot (live_set m (adding m slot sb)) slot ≡ true
  live-here below =
      has-set_of 32 (is_in_update m (adding m slot sb)) slot
      ∙ (λ i. is-below slot 32 below i && (is_live m.roles m.spares slot || self slot i))
      ∙ last (is_live m.roles m.spares slot)
    where
      last : (b : Bool) → (true && (b || true)) ≡ true
      last true = refl
      last false = refl

-- ---- the superblock that it gets

module _ (given : Given) (m : Members) (slot : ℕ) (sb : Sb) (made : IsSpareSb given m.newest slot sb) where
  pub writable-spare : IsWritable sb
  writable-spare = subst (λ (x : Sb). IsWritable x) (sym made.is) (record { magic = refl; major = refl; super_offset = refl; max_dev = omega arith })

  pub addable : slot < 32 → slot < given.slots → IsAddable given (slot, sb)
  addable below known = record {
    slot = below;
    place = record { known = known; some = omega arith; whole = refl; within = (let a = made.behind in let b = made.within in omega (arith, a, b)) };
    writable = writable-spare;
  }

  pub offset-here : slot < 32 → length m.own ≡ 32 → data_offset_of (reading_of (with_spare slot sb m)) slot ≡ made.offset
  offset-here below long =
      ap (λ (o : Option Sb). option_map_or (λ (x : Sb). x.data_offset) o 0) (own-here m slot sb below long)
      ∙ ap (λ (x : Sb). x.data_offset) made.is

  -- ---- the members with it

  module _ (placed : IsPlaced given m) (unlost : AreUnlost m) (free : AreSparesFree given m) (few : given.slots ≤ 32) (known : slot < given.slots) (long : length m.own ≡ 32)
      (untaken : (role : ℕ) → holder (role_state (reading_of m) role) ≡ Some slot → ⊥) where
    below : slot < 32
    below = omega (arith, few, known)

    other-holder : (role s : ℕ) → holder (role_state (reading_of m) role) ≡ Some s → s ≢ slot
    other-holder role s held same = untaken role (held ∙ ap (λ (n : ℕ). Some n) same)

    pub offset-holder : (role s : ℕ) → holder (role_state (reading_of m) role) ≡ Some s → data_offset_of (reading_of (with_spare slot sb m)) s ≡ data_offset_of (reading_of m) s
    offset-holder role s held = ap (λ (o : Option Sb). option_map_or (λ (x : Sb). x.data_offset) o 0) (own-other m slot sb s (other-holder role s held))

    live-other : (s : ℕ) → s ≢ slot → is_live m.roles (with_spare slot sb m).spares s ≡ true → is_live m.roles m.spares s ≡ true
    live-other s other is =
        of (list_any (is_held_by s) m.roles) (nat_lt s 32) (has_spare m.spares s) (slot == s) (apart-from slot s other)
        (ap (λ (b : Bool). list_any (is_held_by s) m.roles || b) (sym (spares-with m slot sb s)) ∙ is)
      where
        of : (h a p q : Bool) → q ≡ false → (h || (a && (p || q))) ≡ true → (h || p) ≡ true
        of true a p q none e = refl
        of false true true q none e = refl
        of false true false true none e = absurd (cc)
        of false true false false none e = absurd (cc)
        of false false p q none e = absurd (cc)

    pub placed-with : IsPlaced given (with_spare slot sb m)
    placed-with = record {
      fit = placed.fit;
      roles = placed.roles;
      holders = λ role s held.
          let was = placed.holders role s held in
          record { small = was.small; known = was.known; short = was.short; within = rw (offset-holder role s held) was.within };
      behind = λ role s held. rw (offset-holder role s held) (placed.behind role s held);
      apart = placed.apart;
      live = λ s is. elim (cases_eq s slot) [
        | inl same ↦ subst (λ (n : ℕ). IsMember given (own_in (with_spare slot sb m).own n) n) (sym same) (record {
          place = (addable below known).place;
          sb = record sb { events = m.newest.events };
          own = own-here m slot sb below long;
          writable = record { magic = writable-spare.magic; major = writable-spare.major; super_offset = writable-spare.super_offset; max_dev = writable-spare.max_dev };
        })
        | inr other ↦
            let was = placed.live s (live-other s other is) in
            record { place = was.place; sb = was.sb; own = own-other m slot sb s other ∙ was.own; writable = was.writable }
      ];
    }

    pub unlost-roles : AreUnlost (with_spare slot sb m)
    unlost-roles role s held = unlost-with m slot sb s (unlost role s held)

    spare-first : (s : ℕ) → s ≢ slot → has_spare (with_spare slot sb m).spares s ≡ true → has_spare m.spares s ≡ true
    spare-first s other is = of (nat_lt s 32) (has_spare m.spares s) (slot == s) (apart-from slot s other) (sym (spares-with m slot sb s) ∙ is)
      where
        of : (a p q : Bool) → q ≡ false → (a && (p || q)) ≡ true → p ≡ true
        of true true q none e = refl
        of true false true none e = absurd (cc)
        of true false false none e = absurd (cc)
        of false p q none e = absurd (cc)

    free-here : IsFree given (with_spare slot sb m) slot
    free-here = record {
      room = record { small = below; known = known; short = made.short; within = rw (offset-here below long) made.within };
      behind = rw (offset-here below long) made.behind;
      none = untaken;
      unlost = found-here m slot sb;
    }

    -- each spare is free, this one too
    pub free-with : AreSparesFree given (with_spare slot sb m)
    free-with s is = elim (cases_eq s slot) [
      | inl same ↦ subst (λ (n : ℕ). IsFree given (with_spare slot sb m) n) (sym same) free-here
      | inr other ↦
          let was = free s (spare-first s other is) in
          let offset : data_offset_of (reading_of (with_spare slot sb m)) s ≡ data_offset_of (reading_of m) s = ap (λ (o : Option Sb). option_map_or (λ (x : Sb). x.data_offset) o 0) (own-other m slot sb s other) in
          record {
            room = record { small = was.room.small; known = was.room.known; short = was.room.short; within = rw offset was.room.within };
            behind = rw offset was.behind;
            none = was.none;
            unlost = unlost-with m slot sb s was.unlost;
          }
    ]

    pub spare-with : has_spare (with_spare slot sb m).spares slot ≡ true
    spare-with = spares-with m slot sb slot ∙ (λ i. is-below slot 32 below i && (has_spare m.spares slot || self slot i)) ∙ last (has_spare m.spares slot)
      where
        last : (b : Bool) → (true && (b || true)) ≡ true
        last true = refl
        last false = refl
