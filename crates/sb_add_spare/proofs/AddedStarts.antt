-- The update that makes a slot a spare may start, where the superblocks are held as the members say, or did before slots were lost that aren't
-- named yet.
use Rattle.std.proofs.Common.{◌≡◌, ◌≢◌, inl, inr, ⊎_elim, ℕ, ◌+◌, ◌-◌, ◌^◌, ◌<◌, ◌≤◌, ◌==◌, ◌||◌, ◌&&◌, Bool, true, false, not, cond, nat_lt, nat_le, min, List, [], length, take, map, get_or, bit_and, bit_or, Option, Some, None, replicate, refl, sym, ◌∙◌, ap, subst, arith}
use Rattle.std.specs.Prelude.{find, bytes_eq}
use Rattle.std.specs.Int.{bit_at}
use Rattle.std.specs.Int.Bits.{and_zero_r}
use Rattle.std.specs.List.{list_any}
use Rattle.std.proofs.lemmas.Bool.{cases_lt}
use Rattle.std.proofs.lemmas.Bool.Decides.{nat_tests}
use Rattle.std.proofs.lemmas.List.{get_or_append_left, get_or-take, length-take-le}
use Rattle.std.proofs.lemmas.Nat.{and_assoc}
use Rattle.std.proofs.lemmas.Nat.Bits.{bit_at_and, bit_at-lt}
use Rattle.sb_safe_updates.specs.raid_types_Sectors.{Sector}
use Rattle.sb_safe_updates.specs.raid_types_Shapes.{has_slot}
use Rattle.sb_safe_updates.specs.raid_types_the_Role_TheVariants.{Missing}
use Rattle.sb_safe_updates.specs.sb_codec_the_Sb.{Sb}
use Rattle.sb_safe_updates.specs.sb_codec_Features.{refused_bits}
use Rattle.sb_safe_updates.specs.bank_Given.{Given, Sizes}
use Rattle.sb_safe_updates.specs.bank_Tape.{IsIn}
use Rattle.sb_safe_updates.specs.sb_specs_the_Give.{Give}
use Rattle.sb_safe_updates.specs.sb_specs_the_Give_TheVariants.{Same}
use Rattle.sb_safe_updates.specs.sb_specs_the_Members.{Members}
use Rattle.sb_safe_updates.specs.sb_specs_Reading.{Scope, role_count, is_negative, is_zero, lies_within, entry_of, holder}
use Rattle.sb_safe_updates.specs.sb_specs_Verdict.{judged_fields, is_role}
use Rattle.sb_safe_updates.specs.sb_specs_Update.{give_of, is_held_by, is_recovery, planned_role, is_planned_spare}
use Rattle.sb_safe_updates.specs.sb_specs_Updating.{IsLater, planned_newest}
use Rattle.sb_safe_updates.specs.sb_specs_Outcome.{is_in_update, live_set, with_added}
use Rattle.sb_safe_updates.specs.sb_specs_Reads.{SaysSame, HasNoLateRoles, IsSuited, has_spare}
use Rattle.sb_safe_updates.specs.sb_specs_Held.{IsSecondHalf, Shows, AreHeld}
use Rattle.sb_safe_updates.specs.sb_specs_Plans.{KeepsRecovery, IsFitChange}
use Rattle.sb_safe_updates.specs.sb_specs_Stages.{AreLeft}
use Rattle.sb_safe_updates.specs.sb_specs_Adding.{IsNewcomer, IsReadyToAdd}
use Rattle.sb_safe_updates.proofs.sb_specs_ValidFields.{few-events}
use Rattle.sb_safe_updates.proofs.sb_specs_ReadAlike.{count-same, fields-kept}
use Rattle.sb_safe_updates.proofs.sb_specs_PlannedSb.{planned-of}
use Rattle.sb_safe_updates.proofs.sb_read_laws_SaidLists.{role-holder}
use Rattle.sb_safe_updates.proofs.sb_read_laws_SaidSlots.{role-below}
use Rattle.sb_safe_updates.proofs.sb_specs_SlotSets.{has-set_of, none_above}
use Rattle.sb_safe_updates.proofs.sb_read_laws_RoundReads.{left_set, left-are}
use Rattle.sb_safe_updates.proofs.sb_read_laws_RoundsRead.{more-held}
use Rattle.sb_safe_updates.proofs.sb_update_laws_AddingStarts.{adding-ready}
use Rattle.sb_safe_updates.specs.stripe_row_Rows.{role_without, members_without}
use Rattle.sb_safe_updates.specs.crash_safety_laws_Held.{IsHeldBy}
use Rattle.sb_safe_updates.specs.crash_safety_laws_Marking.{adding, marking}
use Rattle.sb_safe_updates.specs.crash_safety_laws_Carried.{AreCarried}
use Rattle.sb_safe_updates.specs.array_members_Numbers.{IsSpareSb, IsOfScope, spare_sb}
use Rattle.sb_safe_updates.specs.array_members_Placed.{IsPlaced}
use Rattle.sb_safe_updates.specs.array_members_Rebuilding.{AreSparesFree, with_spare}
use Rattle.sb_safe_updates.proofs.array_members_AddedMembers.{lost-with, live-here}
use Rattle.sb_safe_updates.proofs.crash_safety_laws_Kept.{give_of-same}
use Rattle.sb_safe_updates.proofs.crash_safety_laws_Without.{state-without, any-holds, live-is, live-without}
use Rattle.sb_add_spare.proofs.Planned.{without-holder}
use Rattle.sb_add_spare.proofs.Ready.{none-judged, gone-lost, first-lost, live-known as first-live-known, known-live as first-known-live}
use Rattle.sb_safe_updates.proofs.crash_safety_laws_Spent.{live-holder}

-- ---- tests

both_ways : {b : Bool} → b ≡ true → b ≡ false → ⊥
both_ways is none = absurd (let both = sym is ∙ none in cc)

is-below : (a b : ℕ) → a < b → nat_lt a b ≡ true
is-below a b lt = grind (arith, nat_tests)

is-above : (a b : ℕ) → b ≤ a → nat_lt a b ≡ false
is-above a b le = grind (arith, nat_tests)

at-most : (a b : ℕ) → a ≤ b → nat_le a b ≡ true
at-most a b le = grind (arith, nat_tests)

below-of : (a b : ℕ) → nat_lt a b ≡ true → a < b
below-of a b e = grind (arith, nat_tests, e)

same-as : (a b : ℕ) → (a == b) ≡ true → a ≡ b
same-as a b is = grind (arith, nat_tests)

apart-from : (a b : ℕ) → b ≢ a → (a == b) ≡ false
apart-from a b other = grind (arith, nat_tests)

both : (a b : Bool) → (a && not b) ≡ true → (a ≡ true) × (b ≡ false)
both true true e = absurd (cc)
both true false e = (refl, refl)
both false b e = absurd (cc)

-- ---- the superblock that is planned

module _ (newest : Sb) where
  -- at any event count it says what the newest does
  pub says-still : (events : ℕ) → SaysSame newest (record (planned_newest newest newest) { events = events })
  says-still events =
      let a = (planned-of newest newest Same).array in
      record {
        level = refl;
        layout = refl;
        size = refl;
        chunksize = refl;
        raid_disks = refl;
        new_level = refl;
        reshape_position = refl;
        delta_disks = refl;
        new_layout = refl;
        new_chunk = refl;
        resync_offset = refl;
        reshaping = a.reshaping;
        backward = a.backward;
      }

  -- so does what is newest then
  pub says-later : (later : Sb) → IsLater (planned_newest newest newest) later → SaysSame newest later
  says-later later is = subst (SaysSame newest) (sym is.same) (record {
    level = refl;
    layout = refl;
    size = refl;
    chunksize = refl;
    raid_disks = refl;
    new_level = refl;
    reshape_position = refl;
    delta_disks = refl;
    new_layout = refl;
    new_chunk = refl;
    resync_offset = refl;
    reshaping = (says-still 0).reshaping;
    backward = (says-still 0).backward;
  })

  pub count-still : role_count newest ≡ role_count (planned_newest newest newest)
  count-still = count-same newest (planned_newest newest newest) (says-still (min (newest.events + 1) (2 ^ 64 - 1)))

  fields-at : (events : ℕ) → events < 2 ^ 62 → newest.events < 2 ^ 62 → find (λ f. f.1) (judged_fields newest []) ≡ None
      → find (λ f. f.1) (judged_fields (record (planned_newest newest newest) { events = events }) []) ≡ None
  fields-at events less now none = fields-kept newest (record (planned_newest newest newest) { events = events }) (says-still events) (is-below newest.events (2 ^ 62) now ∙ sym (is-below events (2 ^ 62) less)) none

-- ---- the superblock of the new spare

module _ (newest : Sb) (uuid : List ℕ) (number offset sectors : ℕ) (second : List ℕ) (events : ℕ) where
  abbrev New : Sb
  New = record (spare_sb newest uuid number offset sectors second) { events = events }

  shared-bit : (i : ℕ) → bit_at (4 + 32) i ≡ 1 → bit_at (bit_and newest.feature_map (4 + 32)) i ≡ bit_at newest.feature_map i
  shared-bit i one = bit_at_and newest.feature_map (4 + 32) i ∙ ap (min (bit_at newest.feature_map i)) one ∙ least (bit_at newest.feature_map i) (bit_at-lt newest.feature_map i)
    where
      least : (a : ℕ) → a < 2 → min a 1 ≡ a
      least a lt = omega arith

  says-new : SaysSame newest New
  says-new = record {
    level = refl;
    layout = refl;
    size = refl;
    chunksize = refl;
    raid_disks = refl;
    new_level = refl;
    reshape_position = refl;
    delta_disks = refl;
    new_layout = refl;
    new_chunk = refl;
    resync_offset = refl;
    reshaping = ap (λ (n : ℕ). n == 1) (sym (shared-bit 2 refl));
    backward = ap (λ (n : ℕ). is_negative newest.delta_disks || is_zero newest.delta_disks && (n == 1)) (sym (shared-bit 5 refl));
  }

  late-new : HasNoLateRoles New
  late-new dev late = ap (λ (b : Bool). is_role (cond b (get_or New.dev_roles dev 0xfffe) 0xfffe)) (is-above dev 128 late)

  entries-new : 128 ≤ newest.max_dev → 128 ≤ length newest.dev_roles → (dev : ℕ) → dev < 128 → entry_of newest dev ≡ entry_of New dev
  entries-new room long dev lt =
      ap (λ (b : Bool). cond b (get_or newest.dev_roles dev 0xfffe) 0xfffe) (is-below dev newest.max_dev (omega (arith, lt, room)))
      ∙ sym (ap (λ (b : Bool). cond b (get_or New.dev_roles dev 0xfffe) 0xfffe) (is-below dev 128 lt)
      ∙ get_or_append_left (take 128 newest.dev_roles) second 0xfffe dev (let count = length-take-le 128 newest.dev_roles long in omega (arith, lt, count))
      ∙ get_or-take 128 newest.dev_roles dev 0xfffe lt)

  bits-new : refused_bits New.feature_map ≡ 0
  bits-new = and_assoc (2 ^ 32 - 1 - (2 + 4 + 32)) newest.feature_map (4 + 32) ∙ and_zero_r newest.feature_map

  lies-new : 10 ≤ offset → offset + newest.size ≤ sectors → lies_within newest sectors New ≡ true
  lies-new behind within = (λ i. at-most 10 offset behind i && at-most (offset + newest.size) sectors within i)

  suited-new : 128 ≤ newest.max_dev → 128 ≤ length newest.dev_roles → events ≡ newest.events → 10 ≤ offset → offset + newest.size ≤ sectors → IsSuited newest sectors New
  suited-new room long same behind within = record {
    events = omega (arith, same);
    bits = λ fresh. bits-new;
    room = λ fresh. omega arith;
    within = λ fresh holds. lies-new behind within;
    late = λ fresh. late-new;
  }

-- ---- the start, where slots may be lost that aren't named yet, but not this one

module _ (scope : Scope) (given : Given) (told : ℕ → ℕ → Bool) (former : Members) (gone slot : ℕ) (sb : Sb) (d : ℕ → ℕ → List Sector) (held : IsHeldBy scope former d) (ungone : has_slot gone slot ≡ false)
    (placed : IsPlaced given (members_without gone former)) (free : AreSparesFree given (members_without gone former)) (few : given.slots ≤ 32) (there : slot < given.slots) (long : length former.own ≡ 32) (small : bit_or former.lost gone < 2 ^ 32)
    (untaken : (role : ℕ) → holder (get_or (map (role_without gone) former.roles) role Missing) ≡ Some slot → ⊥) (unspare : has_spare former.spares slot ≡ false)
    (made : IsSpareSb given former.newest slot sb) (of_scope : IsOfScope scope given slot sb) (carried : AreCarried scope told former.own d) (unknown : (s : ℕ) → told s sb.dev_number ≡ false)
    (second : (sector : Sector) → IsIn (d slot 9) sector → IsSecondHalf sb sector) where
  abbrev m : Members
  m = members_without gone former

  abbrev resync : ℕ
  resync = former.newest.resync_offset

  abbrev pub Live : ℕ
  Live = live_set m (adding m slot sb)

  below : slot < 32
  below = omega (arith, few, there)

  -- ---- who is live

  pub live-other : (s : ℕ) → s ≢ slot → has_slot Live s ≡ true → has_slot (live_set m (marking m false)) s ≡ true
  live-other s other is = live-is m false s ∙ of (nat_lt s 32) (list_any (is_held_by s) m.roles) (has_spare m.spares s) (slot == s) (apart-from slot s other) (sym (has-set_of 32 (is_in_update m (adding m slot sb)) s) ∙ is)
    where
      of : (a h p q : Bool) → q ≡ false → (a && ((h || p) || q)) ≡ true → (a && ((h || p) || false)) ≡ true
      of a h p true none e = absurd (cc)
      of a h p false none e = e

  pub live-still : (s : ℕ) → has_slot (live_set m (marking m false)) s ≡ true → has_slot Live s ≡ true
  live-still s is = has-set_of 32 (is_in_update m (adding m slot sb)) s ∙ of (nat_lt s 32) (list_any (is_held_by s) m.roles) (has_spare m.spares s) (slot == s) (sym (live-is m false s) ∙ is)
    where
      of : (a h p q : Bool) → (a && ((h || p) || false)) ≡ true → (a && ((h || p) || q)) ≡ true
      of false h p q e = absurd (cc)
      of true true p q e = refl
      of true false true q e = refl
      of true false false q e = absurd (cc)

  pub live-known : (s : ℕ) → s ≢ slot → has_slot Live s ≡ true → has_slot held.known s ≡ true
  live-known s other is = first-live-known scope former gone resync d held s (live-other s other is)

  -- a slot that isn't lost when the slot is found wasn't lost before
  lost-none : (s : ℕ) → s ≢ slot → has_slot (with_spare slot sb m).lost s ≡ false → has_slot (bit_or former.lost gone) s ≡ false
  lost-none s other none = elim (cases_lt s 32) [
    | inl lt ↦ of (nat_lt s 32) (has_slot (bit_or former.lost gone) s) (slot == s) (is-below s 32 lt) (apart-from slot s other) (sym (lost-with m slot sb s) ∙ none)
    | inr above ↦ none_above (bit_or former.lost gone) s small above
  ]
    where
      of : (a l e : Bool) → a ≡ true → e ≡ false → (a && (l && not e)) ≡ false → l ≡ false
      of true false e one two and = refl
      of true true false one two and = absurd (cc)
      of true true true one two and = absurd (cc)
      of false l e one two and = absurd (cc)

  ungone-of : (s : ℕ) → s ≢ slot → has_slot (with_spare slot sb m).lost s ≡ false → has_slot gone s ≡ false
  ungone-of s other none = of (has_slot gone s) refl
    where
      of : (b : Bool) → has_slot gone s ≡ b → b ≡ false
      of false is = refl
      of true is = absurd (both_ways (gone-lost scope former gone resync d held s is) (lost-none s other none))

  known-live : (s : ℕ) → s ≢ slot → has_slot (with_spare slot sb m).lost s ≡ false → has_slot held.known s ≡ true → has_slot Live s ≡ true
  known-live s other none is = live-still s (live-without former gone false s (ungone-of s other none) ∙ (first-known-live scope former gone resync d held s is).0)

  pub slot-unknown : has_slot held.known slot ≡ false
  slot-unknown = by (has_slot held.known slot) refl
    where
      of : (a h p : Bool) → list_any (is_held_by slot) m.roles ≡ h → has_spare m.spares slot ≡ p → (a && ((h || p) || false)) ≡ true → ⊥
      of true true p holds is e = let held_role = any-holds slot m.roles holds in untaken held_role.0 held_role.1
      of true false true none is e = absurd (let two = sym unspare ∙ is in cc)
      of true false false none isnt e = absurd (cc)
      of false h p holds is e = absurd (cc)

      by : (b : Bool) → has_slot held.known slot ≡ b → b ≡ false
      by false none = refl
      by true is = absurd (of (nat_lt slot 32) (list_any (is_held_by slot) m.roles) (has_spare m.spares slot) refl refl
          (sym (live-is m false slot) ∙ live-without former gone false slot ungone ∙ (first-known-live scope former gone resync d held slot is).0))

  -- ---- the slot itself

  length-here : scope.sizes.sectors slot ≡ given.sectors slot
  length-here = ap (λ (z : Sizes). z.sectors slot) of_scope.sizes_are ∙ ap (λ (b : Bool). cond b (given.sectors slot) 0) (is-below slot given.slots there)

  -- in no image has another slot its number
  numbers-apart : (s : ℕ) (a : Sb) → Shows scope held.known m.own d s a → a.dev_number ≡ sb.dev_number → ⊥
  numbers-apart s a shows same = absurd (let known = sym (ap (told s) same) ∙ ⊎_elim (λ kept. carried.kept s a kept.1) (λ shown. carried.shown s a shown.1) shows in let e = sym known ∙ unknown s in cc)

  abbrev Newcomer : Sb → Type 0
  Newcomer x = IsNewcomer scope held.known m.newest m.own slot (record x { events = m.newest.events }) d

  pub newcomer : Newcomer sb
  newcomer = subst Newcomer (sym made.is) (record {
    unknown = slot-unknown;
    events = refl;
    second = λ sector may. let half = subst (λ (x : Sb). IsSecondHalf x sector) made.is (second sector may) in record { long = half.long; bytes = half.bytes; entries = half.entries };
    seen = of_scope.seen;
    long = omega (arith, length-here, made.behind, made.within);
    there = subst (λ (z : Sizes). slot < z.slots) (sym of_scope.sizes_are) there;
    array = subst (λ (x : Sb). bytes_eq x.set_uuid scope.uuid ≡ true) made.is of_scope.array;
    number = made.few;
    late = late-new m.newest made.uuid made.number made.offset (given.sectors slot) made.second m.newest.events;
    lies = subst (λ (n : ℕ). lies_within m.newest n (record (spare_sb m.newest made.uuid made.number made.offset (given.sectors slot) made.second) { events = m.newest.events }) ≡ true) (sym length-here)
        (lies-new m.newest made.uuid made.number made.offset (given.sectors slot) made.second m.newest.events made.behind made.within);
    suited = subst (λ (n : ℕ). IsSuited m.newest n (record (spare_sb m.newest made.uuid made.number made.offset (given.sectors slot) made.second) { events = m.newest.events })) (sym length-here)
        (suited-new m.newest made.uuid made.number made.offset (given.sectors slot) made.second m.newest.events held.updated.held.sound.room (let table = held.updated.held.table in omega (arith, table)) refl made.behind made.within);
    apart = λ s a other shows fresh same. numbers-apart s a shows (same ∙ ap (λ (x : Sb). x.dev_number) (sym made.is));
  })

  -- ---- the change fits

  live-small : (s : ℕ) → has_slot Live s ≡ true → s < 32
  live-small s is = below-of s 32 (first (nat_lt s 32) (is_in_update m (adding m slot sb) s) (sym (has-set_of 32 (is_in_update m (adding m slot sb)) s) ∙ is))
    where
      first : (a b : Bool) → (a && b) ≡ true → a ≡ true
      first true b e = refl
      first false b e = absurd (cc)

  abbrev pub Left : ℕ
  Left = left_set 32 Live (with_spare slot sb m).lost

  left-is : AreLeft Live (with_spare slot sb m).lost Left
  left-is = left-are 32 Live (with_spare slot sb m).lost live-small

  of-live : (s : ℕ) → has_slot Live s ≡ true → has_slot (with_spare slot sb m).lost s ≡ false → has_slot Left s ≡ true
  of-live s live none = left-is s ∙ (λ i. live i && not (none i))

  -- a slot that gets a role held it
  holds : (s role : ℕ) → planned_role m.roles (give_of (replicate 32 Same) s) s ≡ Some role → holder (get_or m.roles role Missing) ≡ Some s
  holds s role is = role-holder s m.roles role (sym (ap (λ (g : Give). planned_role m.roles g s) (give_of-same 32 s)) ∙ is)

  -- and before
  holds-before : (s role : ℕ) → planned_role m.roles (give_of (replicate 32 Same) s) s ≡ Some role → holder (get_or former.roles role Missing) ≡ Some s
  holds-before s role is = without-holder gone (get_or former.roles role Missing) s (ap holder (sym (state-without gone former.roles role)) ∙ holds s role is)

  -- the superblocks are held where those slots are lost too
  held-first : AreHeld scope held.known (bit_or former.lost gone) former.newest former.own d
  held-first = more-held scope held.known former.lost (bit_or former.lost gone) former.newest former.own d (first-lost scope former gone resync d held) held.updated.held

  spare-live : (s : ℕ) → is_planned_spare m.spares (Some (slot, sb)) (give_of (replicate 32 Same) s) s ≡ true → has_slot Live s ≡ true
  spare-live s is = of (has_spare m.spares s) (slot == s) refl refl (sym (ap (λ (g : Give). is_planned_spare m.spares (Some (slot, sb)) g s) (give_of-same 32 s)) ∙ is)
    where
      or_true : (b : Bool) → (b || true) ≡ true
      or_true true = refl
      or_true false = refl

      of : (p q : Bool) → has_spare m.spares s ≡ p → (slot == s) ≡ q → (p || q) ≡ true → has_slot Live s ≡ true
      of true q spare here e = live-still s (live-is m false s ∙ (λ i. is-below s 32 (free s spare).room.small i && ((list_any (is_held_by s) m.roles || spare i) || false))
          ∙ ap (λ (b : Bool). true && (b || false)) (or_true (list_any (is_held_by s) m.roles)))
      of false true none here e = subst (λ (n : ℕ). has_slot Live n ≡ true) (same-as slot s here) (live-here m slot sb below)
      of false false none other e = absurd (cc)

  pub fits : m.newest.events + 1 < 2 ^ 62 → IsFitChange held.known (with_spare slot sb m).lost Left (with_added m (Some (slot, sb))) (adding m slot sb)
  fits room = record {
    role = λ s role none is. of-live s (live-still s (live-holder given m false role s placed.holders (holds s role is))) none;
    below = λ s role none is. let lt = role-below scope held.known former held.said role s (holds-before s role is) in omega (arith, lt, count-still m.newest);
    spare = λ s none is. of-live s (spare-live s is) none;
    one_holder = λ s t role none none' is is'. let same : Some s ≡ Some t = sym (holds s role is) ∙ holds t role is' in cc;
    fields = fields-at m.newest (min (m.newest.events + 1) (2 ^ 64 - 1)) (omega (arith, room)) (few-events m.newest [] held.updated.held.sound.fields) (none-judged m.newest held.updated.held.sound.fields);
    size = refl;
    written = λ s is none. of-live s (known-live s (λ same. both_ways (subst (λ (t : ℕ). has_slot held.known t ≡ true) same is) slot-unknown) none is) none;
    devices = λ s x is own. subst (λ (g : Give). KeepsRecovery g x) (sym (give_of-same 32 s)) tt;
    one = λ s t is is' recovers recovers'. absurd (let none = ap is_recovery (give_of-same 32 s) in let e = sym none ∙ recovers in cc);
  }

  idle : planned_role m.roles (give_of (replicate 32 Same) slot) slot ≡ None
  idle = of (planned_role m.roles (give_of (replicate 32 Same) slot) slot) refl
    where
      of : (found : Option ℕ) → planned_role m.roles (give_of (replicate 32 Same) slot) slot ≡ found → found ≡ None
      of None is = refl
      of (Some role) is = absurd (untaken role (holds slot role is))

  left-live : (s : ℕ) → has_slot Left s ≡ true → has_slot Live s ≡ true
  left-live s is = (both (has_slot Live s) (has_slot (with_spare slot sb m).lost s) (sym (left-is s) ∙ is)).0

  pub starts : m.newest.events + 1 < 2 ^ 62 → IsReadyToAdd scope held.known Left m.lost (with_added m (Some (slot, sb))) (adding m slot sb) Live slot d
  starts room = adding-ready scope held.known Left m (adding m slot sb) Live slot sb d (record {
    added = refl;
    below = below;
    count = long;
    few = small;
    held = held-first;
    new = newcomer;
    is_live = live-here m slot sb below;
    are = left-is;
    within = live-known;
    exact = λ s own at other is own_is may. held.updated.exact s own at (live-known s other (left-live s is)) own_is may;
    idle = idle;
    fits = fits room;
    fields = λ events less. fields-at m.newest events less (few-events m.newest [] held.updated.held.sound.fields) (none-judged m.newest held.updated.held.sound.fields);
  })
