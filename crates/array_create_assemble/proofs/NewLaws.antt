-- What is made is an array that opens, and whose rows can be read and written.
use Rattle.std.proofs.Common.{◌≡◌, inl, inr, ℕ, zero, suc, ◌^◌, ◌<◌, ◌≤◌, ◌==◌, Bool, true, false, cond, ◌||◌, not, nat_lt, nat_le, List, [], ◌∷◌, length, take, get_or, Option, Some, None, refl, sym, ◌∙◌, ap, ap₂, subst, arith}
use Rattle.std.specs.Prelude.{◌&&◌, is_some, bytes_eq}
use Rattle.std.specs.List.{list_any}
use Rattle.std.specs.Option.{option_or, option_map_or}
use Rattle.std.proofs.lemmas.Bool.{cases_lt}
use Rattle.std.proofs.lemmas.Bool.Decides.{nat_tests}
use Rattle.std.proofs.lemmas.Slice.Eq.{bytes_eq-Decides}
use Rattle.std.proofs.lemmas.List.{ext_get_or, get_or-take, get_or_past, length-take-le}
use Rattle.std.proofs.lemmas.List.Folds.{list_any-append}
use Rattle.array_found_laws.specs.raid_types_the_Role_TheVariants.{Whole, Missing}
use Rattle.array_found_laws.specs.raid_types_the_Shape.{Shape}
use Rattle.array_found_laws.specs.raid_types_Shapes.{has_slot, is_valid_shape, is_multiple}
use Rattle.array_found_laws.specs.raid_types_Search.{tabulate, least_below}
use Rattle.array_found_laws.proofs.raid_types_Tabulated.{length-tabulate, get_or-tabulate}
use Rattle.array_found_laws.specs.sb_codec_the_Sb.{Sb}
use Rattle.array_found_laws.specs.sb_codec_Superblock.{superblock_in}
use Rattle.array_found_laws.specs.reshape_geometry_Geometry.{is_size}
use Rattle.bank.specs.Given.{Given, sizes, IsFaulted}
use Rattle.bank.specs.Tape.{Contents, contents, AreFlushes}
use Rattle.array_found_laws.specs.sb_specs_the_Members.{Members}
use Rattle.array_found_laws.proofs.sb_specs_SlotSets.{none_there}
use Rattle.array_found_laws.specs.sb_specs_Reading.{Scope, reading, reading_of, seen_superblock, superblocks, of_array, is_backup, is_reshaping, is_clean, shape_of, role_state, holder, data_offset_of}
use Rattle.array_found_laws.specs.sb_specs_Election.{seen_superblocks, reading_in, IsElected}
use Rattle.array_found_laws.specs.sb_specs_Verdict.{members_verdict}
use Rattle.array_found_laws.specs.sb_specs_Update.{is_held_by}
use Rattle.array_found_laws.specs.sb_specs_Writing.{IsMember, AreWritable}
use Rattle.array_found_laws.specs.sb_specs_Found.{AreInSectors}
use Rattle.sb_add_spare.specs.stripe_row_Rows.{reading_of as members_reading}
use Rattle.sb_add_spare.specs.history_Stands.{verdict}
use Rattle.sb_add_spare.proofs.sb_safe_updates_RefusingLaws.{least-none}
use Rattle.array_create_assemble.specs.declared.spec.CreateSpec.{CreateSpec}
use Rattle.sb_add_spare.specs.array_members_Placed.{IsPlaced}
use Rattle.array_create_assemble.specs.Opening.{scope_of, IsOpened, AreGiven}
use Rattle.array_create_assemble.specs.Creating.{HasRoom, IsLastSlot, rows_end}
use Rattle.array_create_assemble.specs.Filling.{IsMade, AreFilled, AreStored, AreBelow, OnlyBelow, AreSlotsDone}
use Rattle.array_create_assemble.specs.Made.{is_used, used_slot, IsNew}
use Rattle.bank.specs.declared.bank.Operation.{Operation}
use Rattle.bank.specs.declared.bank.Operation.TheVariants.{Write, Flush}
use Rattle.sb_add_spare.specs.array_members_Flushing.{OnlyFlushesAdded}
use Rattle.sb_add_spare.proofs.array_members_Flushed.{contents-added}
use Rattle.sb_add_spare.proofs.array_members_Still.{count-still}
use Rattle.array_create_assemble.proofs.FillLaws.{present-same}
use Rattle.array_create_assemble.proofs.CreateLaws.{fewer, not-backup}
use Rattle.array_create_assemble.proofs.Judged.{verdict-for, still_none}
use Rattle.array_create_assemble.proofs.MadeLaws.{elected-made}
use Rattle.array_create_assemble.proofs.StillFit.{still-fit}

same-bytes : (u : List ℕ) → bytes_eq u u ≡ true
same-bytes u = (bytes_eq-Decides u u).1 refl

-- ---- the slots that are used

least-same : (n : ℕ) (f g : ℕ → Bool) → ((k : ℕ) → k < n → f k ≡ g k) → least_below n f ≡ least_below n g
unfolding least_below
least-same zero f g same = refl
least-same (suc n) f g same =
    ap₂ (λ a b. option_or a (cond b (Some n) None)) (least-same n f g (λ k h. same k (omega (arith, h)))) (same n (omega arith))

-- what the search in the superblocks that were found answers
pub used-is : (bank : Given) (backup : Option ℕ) (given n : ℕ) (uuid : List ℕ) (c : Contents) (seen : List (Option Sb))
    → take bank.slots seen ≡ seen_superblocks (scope_of bank backup given []) c
    → least_below bank.slots (λ s. nat_le n s && is_some (of_array uuid (get_or seen s None))) ≡ used_slot (scope_of bank backup given uuid) c n
used-is bank backup given n uuid c seen read =
    let f : ℕ → Option Sb = seen_superblock (scope_of bank backup given []) c in
    least-same bank.slots (λ s. nat_le n s && is_some (of_array uuid (get_or seen s None))) (is_used (scope_of bank backup given uuid) c n)
    (λ s h. ap (λ o. nat_le n s && is_some (of_array uuid o))
    (sym (get_or-take bank.slots seen s None h) ∙ ap (λ l. get_or l s None) read ∙ get_or-tabulate bank.slots f s None h))

pub used-answer : (bank : Given) (backup : Option ℕ) (given n slots : ℕ) (uuid : List ℕ) (before c : Contents) (seen : List (Option Sb)) (result : Option ℕ)
    → slots ≡ bank.slots → c ≡ before → take bank.slots seen ≡ seen_superblocks (scope_of bank backup given []) c
    → result ≡ least_below slots (λ s. nat_le n s && is_some (of_array uuid (get_or seen s None))) → used_slot (scope_of bank backup given uuid) before n ≡ result
used-answer bank backup given n slots uuid before c seen result count same read is =
    ap (λ c. used_slot (scope_of bank backup given uuid) c n) (sym same)
    ∙ sym (used-is bank backup given n uuid c seen read)
    ∙ ap (λ m. least_below m (λ s. nat_le n s && is_some (of_array uuid (get_or seen s None)))) (sym count) ∙ sym is

-- a slot that was lost is one of the bank's, and has failed
pub lost-slot : (bank : Given) (given lost slot : ℕ) (before after : ℕ → ℕ) → AreGiven bank given before after
    → ((s : ℕ) → has_slot lost s ≡ (nat_lt s bank.slots && not (has_slot given s))) → has_slot lost slot ≡ true → (slot < bank.slots) × IsFaulted slot before after
lost-slot bank given lost slot before after slots bits is =
    by (nat_lt slot bank.slots) (has_slot given slot) (at slot bank.slots) (sym (bits slot) ∙ is) (slots.failed slot)
  where
    at : (a b : ℕ) → nat_lt a b ≡ true → a < b
    at a b e = grind (arith, nat_tests, e)

    by : (a b : Bool) → (a ≡ true → slot < bank.slots) → (a && not b) ≡ true → (slot < bank.slots → b ≡ false → IsFaulted slot before after)
        → (slot < bank.slots) × IsFaulted slot before after
    by true true known e failed = absurd (cc)
    by true false known e failed = (known refl, failed (known refl) refl)
    by false b known e failed = absurd (cc)

-- flushes are no writes
pub flushes-below : (n : ℕ) (old new : List Operation) → OnlyFlushesAdded old new → OnlyBelow n old new
flushes-below n old new added = (added.0, none n added.0 added.1, added.2)
  where
    none : (n : ℕ) (ops : List Operation) → AreFlushes ops → AreBelow n ops
    none n [] only = tt
    none n (Flush t ∷ ops) only = none n ops only
    none n (Write t j w ∷ ops) only = absurd only

-- where all slots are given, what comes later says no more of them
pub all-given : (bank : Given) (given : ℕ) (before mid after : ℕ → ℕ) → ((s : ℕ) → has_slot given s ≡ nat_lt s bank.slots)
    → AreGiven bank given before mid → AreGiven bank given before after
all-given bank given before mid after all was = record {
  known = was.known;
  sound = was.sound;
  failed = λ s h out. absurd (contrary (nat_lt s bank.slots) (below s bank.slots h) (sym (all s) ∙ out));
}
  where
    below : (a b : ℕ) → a < b → nat_lt a b ≡ true
    below a b h = grind (arith, nat_tests, h)

    contrary : (b : Bool) → b ≡ true → b ≡ false → ⊥
    contrary b e e' = absurd (cc)

-- the slots that aren't written hold what they held
pub others-hold : (start : Contents) (n : ℕ) (old mid new : List Operation) → OnlyFlushesAdded old mid → AreSlotsDone start n mid new
    → (s k : ℕ) → n ≤ s → contents start new (length new) s k ≡ contents start old (length old) s k
others-hold start n old mid new flushed done s k h =
    present-same start mid new s k (done.others s k h) ∙ (λ i. contents-added start old mid flushed i s k)

-- ---- the members

held-below : (n slot : ℕ) → list_any (is_held_by slot) (tabulate n (λ role. Whole role)) ≡ true → slot < n
unfolding tabulate
held-below zero slot is = absurd (cc)
held-below (suc n) slot is =
    by (list_any (is_held_by slot) (tabulate n (λ role. Whole role))) (n == slot) (held-below n slot) (at n slot)
    (sym (list_any-append (is_held_by slot) (tabulate n (λ role. Whole role)) (Whole n ∷ [])) ∙ is)
  where
    at : (a b : ℕ) → (a == b) ≡ true → b ≡ a
    at a b e = grind (arith, nat_tests, e)

    by : (a b : Bool) → (a ≡ true → slot < n) → (b ≡ true → slot ≡ n) → (a || (b || false)) ≡ true → slot < suc n
    by true b lesser here is = omega (arith, lesser refl)
    by false true lesser here is = omega (arith, here refl)
    by false false lesser here is = absurd (cc)

either : (a b : Bool) → (a || b) ≡ true → b ≡ false → a ≡ true
either true b is none = refl
either false b is none = absurd (cc)

module _ (bank : Given) (backup : Option ℕ) (spec : CreateSpec) (room : HasRoom bank backup spec) (few : bank.slots ≤ 32) (members : Members) (filled : AreFilled bank spec members) where
  abbrev disks : ℕ
  disks = spec.shape.disks

  known : disks ≤ bank.slots
  known = fewer bank.slots disks backup room.known

  abbrev own : List (Option Sb)
  own = members.own

  some-first : 0 < disks
  some-first = omega (arith, room.two)

  one : (a b : Sb) → Some a ≡ Some b → a ≡ b
  one a b e = cc

  no : (sb : Sb) → ◌≡◌ {A = Option Sb} None (Some sb) → ⊥
  no sb e = absurd (cc)

  member-made : (s : ℕ) (sb : Sb) → get_or own s None ≡ Some sb → (s < disks) × IsMade spec s (bank.sectors s) sb
  member-made s sb at = elim (cases_lt s disks) [
    | inl lt ↦ (let found = filled.own.made s lt in (lt, subst (λ x. IsMade spec s (bank.sectors s) x) (one found.0 sb (sym found.1 ∙ at)) found.2))
    | inr past ↦ absurd (no sb (sym (filled.own.none s past) ∙ at))
  ]

  newest-made : IsMade spec 0 (bank.sectors 0) members.newest
  newest-made = (member-made 0 members.newest filled.newest).1

  pub shape-is : shape_of members.newest ≡ spec.shape
  shape-is = ap shape_of newest-made.made

  still-is : is_reshaping members.newest ≡ false
  still-is = ap is_reshaping newest-made.made

  size-is : members.newest.size ≡ spec.size
  size-is = ap (λ n. n.size) newest-made.made

  uuid-of : (s : ℕ) (sb : Sb) → get_or own s None ≡ Some sb → sb.set_uuid ≡ spec.uuid
  uuid-of s sb at = ap (λ n. n.set_uuid) (member-made s sb at).1.made

  writable-of : (s : ℕ) (sb : Sb) → get_or own s None ≡ Some sb → IsMember bank (Some sb) s
  writable-of s sb at =
      let found = member-made s sb at in
      let long : rows_end spec ≤ bank.sectors s = room.within s found.0 in
      record {
        place = record { known = omega (arith, found.0, known); some = omega arith; whole = refl; within = omega (arith, long, room.behind) };
        sb = sb;
        own = refl;
        writable = record {
          magic = ap (λ n. n.magic) found.1.made;
          major = ap (λ n. n.major) found.1.made;
          super_offset = ap (λ n. n.super_offset) found.1.made;
          max_dev = (let most : sb.max_dev ≡ 128 = ap (λ n. n.max_dev) found.1.made in omega (arith, most));
        };
      }

  pub are-writable : AreWritable bank members.own
  are-writable s sb at = writable-of s sb at

  pub in-sectors : (c : Contents) → AreStored bank disks members.own c → AreInSectors c members.own
  in-sectors c stored s sb at = (stored s (member-made s sb at).0).bytes

  offset-is : (s : ℕ) → s < disks → data_offset_of (members_reading members) s ≡ spec.offset
  offset-is s lt =
      let found = filled.own.made s lt in
      ap (λ o. option_map_or (λ sb. sb.data_offset) o 0) found.1 ∙ ap (λ n. n.data_offset) found.2.made

  state-is : (role : ℕ) → role < disks → role_state (members_reading members) role ≡ Whole role
  state-is role lt = ap (λ l. get_or l role Missing) filled.roles ∙ get_or-tabulate disks (λ role. Whole role) role Missing lt

  state-none : (role : ℕ) → disks ≤ role → role_state (members_reading members) role ≡ Missing
  state-none role past =
      ap (λ l. get_or l role Missing) filled.roles
      ∙ get_or_past (tabulate disks (λ role. Whole role)) role Missing (omega (arith, past, length-tabulate disks (λ role. Whole role)))

  held-by : (role slot : ℕ) → holder (role_state (members_reading members) role) ≡ Some slot → (role < disks) × (slot ≡ role)
  held-by role slot is = elim (cases_lt role disks) [
    | inl lt ↦ (lt, same role slot (ap holder (sym (state-is role lt)) ∙ is))
    | inr past ↦ absurd (none slot (ap holder (sym (state-none role past)) ∙ is))
  ]
    where
      same : (a b : ℕ) → Some a ≡ Some b → b ≡ a
      same a b e = cc

      none : (slot : ℕ) → ◌≡◌ {A = Option ℕ} None (Some slot) → ⊥
      none slot e = absurd (cc)

  place-of : (role slot : ℕ) → holder (role_state (members_reading members) role) ≡ Some slot → slot < disks
  place-of role slot is = let h = held-by role slot is in omega (arith, h.0, h.1)

  pub are-placed : IsPlaced bank members
  are-placed = record {
    fit = still-fit members.newest still-is (ap is_valid_shape shape-is ∙ room.valid) (ap₂ (λ n (s : Shape). is_size n s.chunk) size-is shape-is ∙ sized spec.size (is_multiple spec.size spec.shape.chunk) room.some room.short room.multiple);
    roles = ap (λ l. length l) filled.roles ∙ length-tabulate disks (λ role. Whole role) ∙ sym (ap (λ (s : Shape). s.disks) shape-is) ∙ sym (count-still members.newest still-is);
    holders = λ role slot is. (let lt : slot < disks = place-of role slot is in
        let off : data_offset_of (members_reading members) slot ≡ spec.offset = offset-is slot lt in
        let long : rows_end spec ≤ bank.sectors slot = room.within slot lt in
        record {
          small = omega (arith, lt, room.disks);
          known = omega (arith, lt, known);
          short = filled.own.short slot lt;
          within = omega (arith, off, size-is, long);
        });
    behind = λ role slot is. (let off : data_offset_of (members_reading members) slot ≡ spec.offset = offset-is slot (place-of role slot is) in omega (arith, off, room.behind));
    apart = λ a b slot is is'. (let h = held-by a slot is in let h' = held-by b slot is' in sym h.1 ∙ h'.1);
    live = λ slot is. (let lt : slot < disks = held-below disks slot (ap (λ l. list_any (is_held_by slot) l) (sym filled.roles)
        ∙ either (list_any (is_held_by slot) members.roles) (list_any (λ spare. spare == slot) members.spares) is
        (ap (λ l. list_any (λ spare. spare == slot) l) filled.spares)) in
        let found = filled.own.made slot lt in
        subst (λ o. IsMember bank o slot) (sym found.1) (writable-of slot found.0 found.1));
  }
    where
      sized : (n : ℕ) (b : Bool) → 1 ≤ n → n ≤ 2 ^ 48 → b ≡ true → (nat_le 1 n && nat_le n (2 ^ 48) && b) ≡ true
      sized n b some short whole = grind (arith, nat_tests, some, short, whole)

  pub is-new : (given : ℕ) → ((s : ℕ) → has_slot given s ≡ nat_lt s bank.slots) → IsNew bank spec (record { members = members; given = given })
  is-new given all = record {
    members = filled;
    given = all;
    placed = are-placed;
    uuid = uuid-of 0 members.newest filled.newest;
    shape = shape-is;
    size = size-is;
    events = ap (λ n. n.events) newest-made.made;
    clean = ap is_clean newest-made.made;
  }

  elected : IsElected (sizes bank).sectors (take bank.slots members.own) 0 members
  elected = elected-made bank backup spec room members.own few known some-first filled.own members.newest filled.newest members refl refl filled.roles filled.spares filled.lost

  -- ---- what is stored

  module _ (given : ℕ) (all : (s : ℕ) → has_slot given s ≡ nat_lt s bank.slots) (last : IsLastSlot bank.slots backup) where
    below : (a b : ℕ) → a < b → nat_lt a b ≡ true
    below a b h = grind (arith, nat_tests, h)

    lost-is : (s : ℕ) → has_slot members.lost s ≡ (nat_lt s bank.slots && not (has_slot given s))
    lost-is s = ap (λ n. has_slot n s) filled.lost ∙ none_there s ∙ sym (ap (λ b. nat_lt s bank.slots && not b) (all s) ∙ never (nat_lt s bank.slots))
      where
        never : (b : Bool) → (b && not b) ≡ false
        never true = refl
        never false = refl

    module _ (c before : Contents) (stored : AreStored bank disks members.own c) (others : (s k : ℕ) → disks ≤ s → c s k ≡ before s k)
        (free : used_slot (scope_of bank backup given spec.uuid) before disks ≡ None) where
      abbrev scope : Scope
      scope = scope_of bank backup given spec.uuid

      length-is : (s : ℕ) → s < bank.slots → (sizes bank).sectors s ≡ bank.sectors s
      length-is s h = ap (λ b. cond b (bank.sectors s) 0) (below s bank.slots h)

      of-uuid : (o : Option Sb) → ((sb : Sb) → o ≡ Some sb → sb.set_uuid ≡ spec.uuid) → of_array spec.uuid o ≡ o
      of-uuid None all = refl
      of-uuid (Some sb) all = ap (λ b. cond b (Some sb) None) (ap (λ u. bytes_eq u spec.uuid) (all sb refl) ∙ same-bytes spec.uuid)

      first-there : (s : ℕ) → s < disks → of_array spec.uuid (seen_superblock scope c s) ≡ get_or own s None
      first-there s lt =
          let within : s < bank.slots = omega (arith, lt, known) in
          ap (λ b. of_array spec.uuid (cond (b && not (is_backup backup s)) (superblock_in ((sizes bank).sectors s) (c s)) None)) (all s ∙ below s bank.slots within)
          ∙ ap (λ b. of_array spec.uuid (cond (not b) (superblock_in ((sizes bank).sectors s) (c s)) None)) (not-backup bank.slots disks s backup last room.two room.known lt)
          ∙ ap (λ n. of_array spec.uuid (superblock_in n (c s))) (length-is s within)
          ∙ ap (of_array spec.uuid) (stored s lt).there
          ∙ of-uuid (get_or own s None) (uuid-of s)

      none-of : (o : Option Sb) → is_some o ≡ false → o ≡ None
      none-of None e = refl
      none-of (Some sb) e = absurd (cc)

      from : (n s : ℕ) (b : Bool) → n ≤ s → (nat_le n s && b) ≡ false → b ≡ false
      from n s true h e = absurd (grind (arith, nat_tests, h, e))
      from n s false h e = refl

      other-none : (s : ℕ) → disks ≤ s → s < bank.slots → of_array spec.uuid (seen_superblock scope c s) ≡ get_or own s None
      other-none s past within =
          let same : c s ≡ before s = (λ i k. others s k past i) in
          ap (λ f. of_array spec.uuid (cond (has_slot given s && not (is_backup backup s)) (superblock_in ((sizes bank).sectors s) f) None)) same
          ∙ none-of (of_array spec.uuid (seen_superblock scope before s))
          (from disks s (is_some (of_array spec.uuid (seen_superblock scope before s))) past (least-none bank.slots (is_used scope before disks) free s within))
          ∙ sym (filled.own.none s past)

      are-stored : superblocks scope c ≡ take bank.slots own
      are-stored =
          let f : ℕ → Option Sb = λ s. of_array spec.uuid (seen_superblock scope c s) in
          let count : length (take bank.slots own) ≡ bank.slots = length-take-le bank.slots own (omega (arith, filled.own.count, few)) in
          ext_get_or None (tabulate bank.slots f) (take bank.slots own) (length-tabulate bank.slots f ∙ sym count)
          (λ i h. let within : i < bank.slots = omega (arith, h, length-tabulate bank.slots f) in
          get_or-tabulate bank.slots f i None within
          ∙ elim (cases_lt i disks) [
            | inl lt ↦ first-there i lt
            | inr past ↦ other-none i past within
          ] ∙ sym (get_or-take bank.slots own i None within))

      says : reading scope c ≡ Some (reading_in bank.slots members)
      unfolding reading
      says =
          let count : length (take bank.slots own) ≡ bank.slots = length-take-le bank.slots own (omega (arith, filled.own.count, few)) in
          ap (reading_of (sizes bank).sectors) are-stored ∙ elected.says ∙ ap (λ n. Some (reading_in n members)) count

      accepted : verdict scope c ≡ None
      accepted =
          verdict-for scope c (reading_in bank.slots members) says (ap (members_verdict (sizes bank).sectors) are-stored ∙ elected.accepted)
          ∙ still_none scope members.newest still-is

    pub is-opened : (tells : Type 0) (c before : Contents) → (tells → AreStored bank disks members.own c) → (tells → (s k : ℕ) → disks ≤ s → c s k ≡ before s k)
        → (tells → used_slot (scope_of bank backup given spec.uuid) before disks ≡ None)
        → IsOpened tells bank c backup (Some spec.uuid) (record { members = members; given = given })
    is-opened tells c before stored others free =
        let uuid : members.newest.set_uuid ≡ spec.uuid = uuid-of 0 members.newest filled.newest in
        record {
          elected = subst (λ n. IsElected (sizes bank).sectors (take bank.slots members.own) n members) (sym filled.lost) elected;
          lost = lost-is;
          still = still-is;
          array = λ told. uuid;
          says = λ told. subst (λ u. reading (scope_of bank backup given u) c ≡ Some (reading_in bank.slots members)) (sym uuid)
              (says c before (stored told) (others told) (free told));
          accepted = λ told. subst (λ u. verdict (scope_of bank backup given u) c ≡ None) (sym uuid) (accepted c before (stored told) (others told) (free told));
        }
