-- What the superblocks say that an update leaves which makes a slot a spare.
use Rattle.std.proofs.Common.{◌≡◌, ◌≢◌, ◌⊎◌, inl, inr, ⊎_elim, ℕ, ◌+◌, ◌-◌, ◌^◌, ◌<◌, ◌≤◌, ◌==◌, ◌||◌, ◌&&◌, Bool, true, false, not, cond, nat_lt, min, map, bit_or, List, [], ◌++◌, take, drop, length, get_or, Option, Some, None, replicate, refl, sym, ◌∙◌, ap, ap₂, subst, arith}
use Rattle.std.specs.Int.{bit_at}
use Rattle.std.specs.List.{list_any}
use Rattle.std.specs.Option.{option_map_or}
use Rattle.std.proofs.lemmas.Bool.{cases_eq, cases_lt}
use Rattle.std.proofs.lemmas.Bool.Decides.{nat_tests}
use Rattle.std.proofs.lemmas.List.{get_or_past}
use Rattle.std.proofs.lemmas.Nat.Bits.{bit_at_and}
use Rattle.sb_safe_updates.specs.raid_types_Sectors.{Sector}
use Rattle.sb_safe_updates.specs.raid_types_Search.{tabulate}
use Rattle.sb_safe_updates.specs.raid_types_Shapes.{has_slot}
use Rattle.sb_safe_updates.specs.raid_types_the_Role.{Role}
use Rattle.sb_safe_updates.specs.raid_types_the_Role_TheVariants.{Whole, Recovering, Missing}
use Rattle.sb_safe_updates.proofs.raid_types_Tabulated.{length-tabulate, get_or-tabulate}
use Rattle.sb_safe_updates.specs.sb_codec_the_Sb.{Sb}
use Rattle.sb_safe_updates.specs.bank_Given.{Given}
use Rattle.sb_safe_updates.specs.bank_Tape.{IsIn}
use Rattle.sb_safe_updates.specs.sb_specs_the_Give.{Give}
use Rattle.sb_safe_updates.specs.sb_specs_the_Give_TheVariants.{Same}
use Rattle.sb_safe_updates.specs.sb_specs_the_Members.{Members}
use Rattle.sb_safe_updates.specs.sb_specs_Reading.{Scope, is_reshaping, is_recovering, is_fresh, role_count, role_state, rows_held, entry_of, state_of, holder, holder_from, own_of}
use Rattle.sb_safe_updates.specs.sb_specs_Update.{planned, give_of, own_in, is_held_by, planned_role, is_planned_spare, slot_entry, entry_for, with_entries, faulty_role, with_roles}
use Rattle.sb_safe_updates.specs.sb_specs_Updating.{planned_newest, IsLater, AreNamed}
use Rattle.sb_safe_updates.specs.sb_specs_Outcome.{is_in_update, is_same, live_set, planned_spares, with_added}
use Rattle.sb_safe_updates.specs.sb_specs_Reads.{SaysSame, held_in, spare_in, has_spare}
use Rattle.sb_safe_updates.specs.sb_specs_Held.{IsKnown, Shows, AreHeld, known_of, said_by}
use Rattle.sb_safe_updates.specs.sb_specs_Plans.{IsFitChange}
use Rattle.sb_safe_updates.specs.sb_read_laws_Said.{AreSaid, AreSparesFit, AreSaidAsPlanned}
use Rattle.sb_safe_updates.specs.sb_specs_Stages.{AreLeft, AreKept}
use Rattle.sb_safe_updates.specs.sb_specs_Crash.{IsWithin}
use Rattle.sb_safe_updates.specs.sb_specs_Adding.{IsReadyToAdd}
use Rattle.sb_safe_updates.proofs.sb_specs_ReadLists.{by_bool, holder-same, spares-at}
use Rattle.sb_safe_updates.proofs.sb_specs_ReadAlike.{tabulate-same}
use Rattle.sb_safe_updates.proofs.sb_specs_HeldReads.{known_at}
use Rattle.sb_safe_updates.proofs.sb_specs_PlannedSb.{planned-of}
use Rattle.sb_safe_updates.proofs.sb_read_laws_SaidSlots.{holder-own, listed, roles-count}
use Rattle.sb_safe_updates.proofs.sb_specs_SlotSets.{has-set_of, slots-same, with_here, with_other, none_above}
use Rattle.sb_safe_updates.proofs.sb_read_laws_RoundReads.{left_set, left-are, planned_list, planned-in, kept-of}
use Rattle.sb_safe_updates.proofs.sb_update_laws_AddedReads.{put, put_ninth, of_put, none_read, known_put}
use Rattle.sb_safe_updates.proofs.sb_specs_UpdateReads.{fresh_less}
use Rattle.sb_safe_updates.proofs.sb_read_laws_Tied.{IsPlannedNewest, planned-said, held-other}
use Rattle.sb_safe_updates.specs.stripe_row_Rows.{reading_of, role_without, members_without}
use Rattle.sb_safe_updates.specs.crash_safety_laws_Held.{IsHeldBy}
use Rattle.sb_safe_updates.specs.crash_safety_laws_Marking.{adding}
use Rattle.sb_safe_updates.specs.array_members_Numbers.{IsSpareSb}
use Rattle.sb_safe_updates.specs.array_members_Placed.{IsPlaced}
use Rattle.sb_safe_updates.specs.array_members_Rebuilding.{with_spare}
use Rattle.sb_safe_updates.proofs.array_members_AddedMembers.{own-here, own-other, lost-with}
use Rattle.sb_add_spare.proofs.AddedStarts.{says-still, says-later, count-still}
use Rattle.sb_safe_updates.proofs.array_members_MarkLaws.{roles-kept}
use Rattle.sb_safe_updates.proofs.crash_safety_laws_Kept.{give_of-same}
use Rattle.sb_add_spare.proofs.Planned.{apart, small}
use Rattle.sb_add_spare.proofs.Ready.{gone-lost}
use Rattle.sb_safe_updates.proofs.crash_safety_laws_Without.{any-without, from-without, without-twice}
use Rattle.sb_safe_updates.proofs.sb_specs_ValidFields.{few-roles as valid-few}
use Rattle.sb_safe_updates.proofs.crash_safety_laws_UpdateViews.{said-recovering}
use Rattle.sb_add_spare.proofs.SaidReads.{IsSaidOf}

abbrev Disk : Type 0
Disk = ℕ → ℕ → List Sector

-- ---- tests

apart-from : (a b : ℕ) → b ≢ a → (a == b) ≡ false
apart-from a b other = grind (arith, nat_tests)

same-slot : (a b : ℕ) → (a == b) ≡ true → b ≡ a
same-slot a b e = grind (arith, nat_tests, e)

self : (a : ℕ) → (a == a) ≡ true
self a = grind (arith, nat_tests)

both : (a b : Bool) → (a && not b) ≡ true → (a ≡ true) × (b ≡ false)
both true true e = absurd (cc)
both true false e = (refl, refl)
both false b e = absurd (cc)

none_of : (set s : ℕ) → (has_slot set s ≡ true → ⊥) → has_slot set s ≡ false
none_of set s never = ⊎_elim (λ is. absurd (never is)) (λ none. none) (by_bool (has_slot set s))

both_ways : {b : Bool} → b ≡ true → b ≡ false → ⊥
both_ways is none = absurd (let both = sym is ∙ none in cc)

-- ---- as if the slot had nothing

module _ (scope : Scope) (m : Members) (slot : ℕ) (sb : Sb) (d : Disk) (known left live : ℕ) (ready : IsReadyToAdd scope known left m.lost (with_added m (Some (slot, sb))) (adding m slot sb) live slot d) where
  abbrev pub Wide : ℕ
  Wide = bit_or known (2 ^ slot)

  abbrev pub Emptied : Disk
  Emptied = put slot [] d

  abbrev Own : List (Option Sb)
  Own = (with_spare slot sb m).own

  wide-known : (s : ℕ) → s ≢ slot → has_slot Wide s ≡ true → has_slot known s ≡ true
  wide-known s other is = sym (with_other known slot s other) ∙ is

  wide-none : (s : ℕ) → has_slot Wide s ≡ false → (s ≢ slot) × (has_slot known s ≡ false)
  wide-none s none =
      let other : s ≢ slot = (λ same. both_ways (with_here known slot) (subst (λ (t : ℕ). has_slot Wide t ≡ false) same none)) in
      (other, sym (with_other known slot s other) ∙ none)

  slot-known : IsKnown scope m.newest (own_in Own slot) slot Emptied
  slot-known = record {
    sb = ready.sb;
    own = ready.is;
    reads = λ found may. absurd (none_read scope slot d slot found refl may);
    second = λ sector is_in. ready.new.second sector (subst (λ (l : List Sector). IsIn l sector) (put_ninth slot [] d slot) is_in);
    seen = ready.new.seen;
    long = ready.new.long;
    there = ready.new.there;
    array = ready.new.array;
    fresh = fresh_less m.newest.events ready.sb.events (omega (arith, ready.new.events));
    number = ready.new.number;
    late = ready.new.late;
    lies = ready.new.lies;
    suited = ready.new.suited;
  }

  own-new : (x : Sb) → own_in Own slot ≡ Some x → ready.sb ≡ x
  own-new x is = let both : Some ready.sb ≡ Some x = sym ready.is ∙ is in cc

  emptied-shows : (s : ℕ) (a : Sb) → Shows scope Wide Own Emptied s a → ((s ≡ slot) × (a ≡ ready.sb)) ⊎ ((s ≢ slot) × Shows scope known Own d s a)
  emptied-shows s a (inl (is, own_is)) = elim (cases_eq s slot) [
    | inl same ↦ inl (same, sym (own-new a (subst (λ (t : ℕ). own_in Own t ≡ Some a) same own_is)))
    | inr other ↦ inr (other, inl (wide-known s other is, own_is))
  ]
  emptied-shows s a (inr (none, may)) =
      let w = wide-none s none in
      inr (w.0, inr (w.1, of_put scope slot [] d s (Some a) w.0 may))

  pub emptied-held : AreHeld scope Wide m.lost m.newest Own Emptied
  emptied-held = record {
    sound = ready.held.sound;
    table = ready.held.table;
    each = λ s is. elim (cases_eq s slot) [
      | inl same ↦ subst (λ (t : ℕ). IsKnown scope m.newest (own_in Own t) t Emptied) (sym same) slot-known
      | inr other ↦ known_put scope m.newest (own_in Own s) slot [] d s other (ready.held.each s (wide-known s other is))
    ];
    others = λ s there none.
        let w = wide-none s none in
        let o = ready.held.others s there w.1 in
        record {
          suited = λ x may. o.suited x (of_put scope slot [] d s (Some x) w.0 may);
          role = λ role found lt may. o.role role found lt (of_put scope slot [] d s found w.0 may);
          spare = λ found kept may. o.spare found kept (of_put scope slot [] d s found w.0 may);
        };
    top = (
      ready.held.top.0,
      ready.held.top.1,
      λ found may. elim (cases_eq ready.held.top.0 slot) [
        | inl same ↦ absurd (none_read scope slot d ready.held.top.0 found same may)
        | inr other ↦ ready.held.top.2 found (of_put scope slot [] d ready.held.top.0 found other may)
      ],
    );
    first = λ s sb f. ready.held.first s sb (record {
      there = f.there;
      shown = f.shown;
      may = λ t low. of_put scope slot [] d t (f.shown t) (λ same. none_read scope slot d t (f.shown t) same (f.may t low)) (f.may t low);
      is = f.is;
      events = f.events;
      none = f.none;
    });
    apart = λ s t a b differ is is' fresh fresh'. of s t a b differ fresh fresh' (emptied-shows s a is) (emptied-shows t b is');
  }
    where
      of : (s t : ℕ) (a b : Sb) → s ≢ t → is_fresh m.newest a ≡ true → is_fresh m.newest b ≡ true → ((s ≡ slot) × (a ≡ ready.sb)) ⊎ ((s ≢ slot) × Shows scope known Own d s a)
          → ((t ≡ slot) × (b ≡ ready.sb)) ⊎ ((t ≢ slot) × Shows scope known Own d t b) → a.dev_number ≢ b.dev_number
      of s t a b differ fresh fresh' (inl here) (inl there) number = differ (here.0 ∙ sym there.0)
      of s t a b differ fresh fresh' (inl here) (inr other) number = ready.new.apart t b other.0 other.1 fresh' (sym number ∙ ap (λ (x : Sb). x.dev_number) here.1)
      of s t a b differ fresh fresh' (inr other) (inl there) number = ready.new.apart s a other.0 other.1 fresh (number ∙ ap (λ (x : Sb). x.dev_number) there.1)
      of s t a b differ fresh fresh' (inr one) (inr two) number = ready.held.apart s t a b differ one.1 two.1 fresh fresh' number

-- ---- what the update plans, by members whose spares the wider superblocks say

module _ (scope : Scope) (given : Given) (former : Members) (missed slot : ℕ) (sb : Sb) (d : Disk) (held : IsHeldBy scope former d) (unmissed : has_slot missed slot ≡ false) (placed : IsPlaced given (members_without missed former))
    (made : IsSpareSb given former.newest slot sb) (below : slot < 32) (long : length former.own ≡ 32) (all_small : bit_or former.lost missed < 2 ^ 32) (left : ℕ)
    (ready : IsReadyToAdd scope held.known left (bit_or former.lost missed) (with_added (members_without missed former) (Some (slot, sb))) (adding (members_without missed former) slot sb)
    (live_set (members_without missed former) (adding (members_without missed former) slot sb)) slot d) where
  abbrev m : Members
  m = members_without missed former

  -- with the roles as they were before those slots were lost
  abbrev First : Members
  First = record former { lost = bit_or former.lost missed }

  abbrev Kept : List (Option Sb)
  Kept = (with_spare slot sb m).own

  abbrev Wider : ℕ
  Wider = bit_or held.known (2 ^ slot)

  abbrev Live : ℕ
  Live = live_set m (adding m slot sb)

  abbrev Said : List ℕ
  Said = (said_by scope (bit_or held.known (2 ^ slot)) (with_spare slot sb m).own m.newest).spares

  abbrev By : Members
  By = record (with_added First (Some (slot, sb))) { spares = (said_by scope (bit_or held.known (2 ^ slot)) (with_spare slot sb m).own m.newest).spares }

  new-is : ready.sb ≡ record sb { events = m.newest.events }
  new-is = let two : Some ready.sb ≡ Some (record sb { events = m.newest.events }) = sym ready.is ∙ own-here m slot sb below long in cc

  -- each slot but that one has what it had
  at-other : (s : ℕ) → s ≢ slot → known_at Wider Kept s ≡ known_at held.known m.own s
  at-other s other = (λ i. cond (with_other held.known slot s other i) (own-other m slot sb s other i) None)

  list-other : (s : ℕ) → s ≢ slot → get_or (known_of scope Wider Kept) s None ≡ get_or (known_of scope held.known m.own) s None
  list-other s other = elim (cases_lt s scope.sizes.slots) [
    | inl below ↦ get_or-tabulate scope.sizes.slots (known_at Wider Kept) s None below ∙ at-other s other ∙ sym (get_or-tabulate scope.sizes.slots (known_at held.known m.own) s None below)
    | inr past ↦ get_or_past (tabulate scope.sizes.slots (known_at Wider Kept)) s None (omega (arith, past, length-tabulate scope.sizes.slots (known_at Wider Kept)))
        ∙ sym (get_or_past (tabulate scope.sizes.slots (known_at held.known m.own)) s None (omega (arith, past, length-tabulate scope.sizes.slots (known_at held.known m.own))))
  ]

  -- and that one holds no role
  held-none : (role : ℕ) (found : Option Sb) → role < 16 → (found ≡ None) ⊎ ((x : Sb) × (found ≡ Some x) × (x.dev_number ≡ sb.dev_number)) → held_in m.newest role slot found ≡ None
  held-none role found few (inl none) = ap (held_in m.newest role slot) none
  held-none role found few (inr (x, is, same)) = ap (held_in m.newest role slot) is ∙ of (is_fresh m.newest x)
    where
      other : (entry_of m.newest x.dev_number == role) ≡ false
      other =
          let free : 0xfffe ≤ entry_of m.newest x.dev_number = subst (λ (n : ℕ). 0xfffe ≤ entry_of m.newest n) (sym (same ∙ ap (λ (y : Sb). y.dev_number) made.is)) made.free in
          apart-from (entry_of m.newest x.dev_number) role (λ e. absurd (omega (arith, e, few, free)))

      of : (b : Bool) → cond (b && (entry_of m.newest x.dev_number == role)) (Some (state_of slot x)) None ≡ None
      of true = ap (λ (c : Bool). cond c (Some (state_of slot x)) None) other
      of false = refl

  wide-here : (found : Option Sb) → get_or (known_of scope Wider Kept) slot None ≡ found → (found ≡ None) ⊎ ((x : Sb) × (found ≡ Some x) × (x.dev_number ≡ sb.dev_number))
  wide-here None is = inl refl
  wide-here (Some x) is =
      let there = listed scope Wider Kept slot x is in
      let two : Some ready.sb ≡ Some x = sym ready.is ∙ there.1 in
      inr (x, refl, (let same : ready.sb ≡ x = cc in sym (ap (λ (y : Sb). y.dev_number) same) ∙ number))
    where
      number : ready.sb.dev_number ≡ sb.dev_number
      number = ap (λ (y : Sb). y.dev_number) new-is

  few-roles : role_count m.newest ≤ 16
  few-roles = valid-few m.newest placed.fit.valid

  role-same : (role : ℕ) → role < role_count m.newest → (s : ℕ) → held_in m.newest role (0 + s) (get_or (known_of scope held.known m.own) s None) ≡ held_in m.newest role (0 + s) (get_or (known_of scope Wider Kept) s None)
  role-same role lt s =
      subst (λ (t : ℕ). held_in m.newest role t (get_or (known_of scope held.known m.own) s None) ≡ held_in m.newest role t (get_or (known_of scope Wider Kept) s None)) at (elim (cases_eq s slot) [
        | inl same ↦ subst (λ (t : ℕ). held_in m.newest role t (get_or (known_of scope held.known m.own) t None) ≡ held_in m.newest role t (get_or (known_of scope Wider Kept) t None)) (sym same)
            (held-none role (get_or (known_of scope held.known m.own) slot None) few (inl (none-here (get_or (known_of scope held.known m.own) slot None) refl))
            ∙ sym (held-none role (get_or (known_of scope Wider Kept) slot None) few (wide-here (get_or (known_of scope Wider Kept) slot None) refl)))
        | inr other ↦ ap (held_in m.newest role s) (sym (list-other s other))
      ])
    where
      at : s ≡ 0 + s
      at = omega arith

      few : role < 16
      few = omega (arith, lt, few-roles)

      none-here : (found : Option Sb) → get_or (known_of scope held.known m.own) slot None ≡ found → found ≡ None
      none-here None is = refl
      none-here (Some x) is = absurd (both_ways (listed scope held.known m.own slot x is).0 ready.new.unknown)

  said-wider : AreSaid scope Wider By
  said-wider = record {
    roles = held.said.roles
        ∙ tabulate-same (role_count m.newest) (λ role. holder_from m.newest role 0 (known_of scope held.known m.own)) (λ role. holder_from m.newest role 0 (known_of scope Wider Kept))
        (λ role lt. holder-same m.newest m.newest role 0 (known_of scope held.known m.own) (known_of scope Wider Kept)
        (length-tabulate scope.sizes.slots (known_at held.known m.own) ∙ sym (length-tabulate scope.sizes.slots (known_at Wider Kept))) (role-same role lt));
    spares = refl;
  }

  -- the same slots are planned as spares
  spare-same : (s : ℕ) → (has_spare Said s || (slot == s)) ≡ (has_spare m.spares s || (slot == s))
  spare-same s = elim (cases_eq s slot) [
    | inl same ↦ ap (λ (b : Bool). has_spare Said s || b) (here same) ∙ or_true (has_spare Said s) ∙ sym (ap (λ (b : Bool). has_spare m.spares s || b) (here same) ∙ or_true (has_spare m.spares s))
    | inr other ↦ ap (λ (b : Bool). b || (slot == s))
        (let at : s ≡ 0 + s = omega arith in
        spares-at m.newest scope.sizes.sectors 0 s s (known_of scope Wider Kept) at
        ∙ ap (spare_in m.newest (scope.sizes.sectors s)) (list-other s other)
        ∙ sym (spares-at m.newest scope.sizes.sectors 0 s s (known_of scope held.known m.own) at)
        ∙ ap (λ (l : List ℕ). has_spare l s) (sym held.said.spares))
  ]
    where
      here : s ≡ slot → (slot == s) ≡ true
      here same = ap (λ (n : ℕ). slot == n) same ∙ self slot

      or_true : (b : Bool) → (b || true) ≡ true
      or_true true = refl
      or_true false = refl

  planned-same : (s : ℕ) → is_planned_spare Said (Some (slot, sb)) (give_of (replicate 32 Same) s) s ≡ is_planned_spare m.spares (Some (slot, sb)) (give_of (replicate 32 Same) s) s
  planned-same s = ap (λ (g : Give). is_planned_spare Said (Some (slot, sb)) g s) (give_of-same 32 s) ∙ spare-same s ∙ sym (ap (λ (g : Give). is_planned_spare m.spares (Some (slot, sb)) g s) (give_of-same 32 s))

  -- each slot that is missed is lost, since this one isn't missed
  missed-with : (s : ℕ) → has_slot missed s ≡ true → has_slot (with_spare slot sb m).lost s ≡ true
  missed-with s is = lost-with m slot sb s ∙ all (nat_lt s 32) (has_slot (bit_or former.lost missed) s) (slot == s) below-all lost (apart-from slot s (λ same. both_ways (subst (λ (t : ℕ). has_slot missed t ≡ true) same is) unmissed))
    where
      lost : has_slot (bit_or former.lost missed) s ≡ true
      lost = gone-lost scope former missed former.newest.resync_offset d held s is

      below-all : nat_lt s 32 ≡ true
      below-all = elim (cases_lt s 32) [
        | inl lt ↦ grind (arith, nat_tests, lt)
        | inr above ↦ absurd (both_ways lost (none_above (bit_or former.lost missed) s all_small above))
      ]

      all : (a b c : Bool) → a ≡ true → b ≡ true → c ≡ false → (a && (b && not c)) ≡ true
      all true true false one two three = refl
      all false b c one two three = absurd (cc)
      all true false c one two three = absurd (cc)
      all true true true one two three = absurd (cc)

  -- ---- a round that names these slots

  module _ (named rest : ℕ) (newest : Sb) (own : List (Option Sb)) (more : IsWithin (with_spare slot sb m).lost named) (since : (s : ℕ) → has_slot named s ≡ true → has_slot (with_spare slot sb m).lost s ≡ false → has_slot Live s ≡ true)
      (later : IsLater (planned_newest m.newest m.newest) newest) (plan : AreNamed (with_added m (Some (slot, sb))) (adding m slot sb) (with_spare slot sb m).lost named newest) (table : length newest.dev_roles ≡ 384)
      (are : AreLeft Live named rest) (kept : AreKept newest (replicate 32 Same) Kept rest own) where
    -- each slot that is missed is named
    missed-named : (s : ℕ) → has_slot missed s ≡ true → has_slot named s ≡ true
    missed-named s is = more s (missed-with s is)

    left-first : (s : ℕ) → has_slot named s ≡ false → has_slot missed s ≡ false
    left-first s none = none_of missed s (λ is. both_ways (missed-named s is) none)

    -- what isn't missed has its role as before
    role-as : (s : ℕ) → has_slot missed s ≡ false → planned_role former.roles (give_of (replicate 32 Same) s) s ≡ planned_role m.roles (give_of (replicate 32 Same) s) s
    role-as s none =
        ap (λ (g : Give). planned_role former.roles g s) (give_of-same 32 s)
        ∙ sym (from-without missed s 0 former.roles none)
        ∙ sym (ap (λ (g : Give). planned_role m.roles g s) (give_of-same 32 s))

    idle-first : planned_role former.roles (give_of (replicate 32 Same) slot) slot ≡ None
    idle-first = role-as slot unmissed ∙ ready.idle

    live-same : (s : ℕ) → has_slot missed s ≡ false → has_slot (live_set By (adding m slot sb)) s ≡ has_slot Live s
    live-same s none =
        has-set_of 32 (is_in_update By (adding m slot sb)) s
        ∙ ap (λ (b : Bool). nat_lt s 32 && b) (joined (list_any (is_held_by s) former.roles) (has_spare Said s) (slot == s)
        ∙ (λ i. held-still i || spare-same s i)
        ∙ sym (joined (list_any (is_held_by s) m.roles) (has_spare m.spares s) (slot == s)))
        ∙ sym (has-set_of 32 (is_in_update m (adding m slot sb)) s)
      where
        held-still : list_any (is_held_by s) former.roles ≡ list_any (is_held_by s) m.roles
        held-still = sym (any-without missed s former.roles ∙ ap (λ (b : Bool). not b && list_any (is_held_by s) former.roles) none)

        joined : (h p q : Bool) → ((h || p) || q) ≡ (h || (p || q))
        joined true p q = refl
        joined false p q = refl

    left-by : AreLeft (live_set By (adding m slot sb)) named rest
    left-by s = are s ∙ ⊎_elim
        (λ is. ap (λ (b : Bool). has_slot Live s && not b) is ∙ nothing (has_slot Live s) (has_slot (live_set By (adding m slot sb)) s) ∙ sym (ap (λ (b : Bool). has_slot (live_set By (adding m slot sb)) s && not b) is))
        (λ none. ap (λ (b : Bool). b && not (has_slot named s)) (sym (live-same s (left-first s none))))
        (by_bool (has_slot named s))
      where
        nothing : (a b : Bool) → (a && not true) ≡ (b && not true)
        nothing true true = refl
        nothing true false = refl
        nothing false true = refl
        nothing false false = refl

    -- the same entries are planned
    entry-same : (s : ℕ) → entry_for By (adding m slot sb) (with_spare slot sb m).lost named s ≡ entry_for (with_added m (Some (slot, sb))) (adding m slot sb) (with_spare slot sb m).lost named s
    entry-same s = ⊎_elim
        (λ is. (λ i. slot_entry (is i) (more s is i) (planned_role former.roles (give_of (replicate 32 Same) s) s) (planned-same s i))
        ∙ sym (λ i. slot_entry (is i) (more s is i) (planned_role m.roles (give_of (replicate 32 Same) s) s) (is_planned_spare m.spares (Some (slot, sb)) (give_of (replicate 32 Same) s) s)))
        (λ none. (λ i. slot_entry (has_slot (with_spare slot sb m).lost s) (has_slot named s) (role-as s (found-first s none) i) (planned-same s i)))
        (by_bool (has_slot (with_spare slot sb m).lost s))
      where
        found-first : (s : ℕ) → has_slot (with_spare slot sb m).lost s ≡ false → has_slot missed s ≡ false
        found-first s none = none_of missed s (λ is. both_ways (missed-with s is) none)

    roles-same : (t : List ℕ) → with_roles By (adding m slot sb) (with_spare slot sb m).lost named t ≡ with_roles (with_added m (Some (slot, sb))) (adding m slot sb) (with_spare slot sb m).lost named t
    roles-same t = ap (λ (entries : ℕ → Option ℕ). with_entries entries Kept 32 (map faulty_role (take 128 t) ++ drop 128 t)) (λ i s. entry-same s i)

    kept-first : (s : ℕ) → has_slot named s ≡ false → has_slot (with_spare slot sb m).lost s ≡ false
    kept-first s none = none_of (with_spare slot sb m).lost s (λ is. both_ways (more s is) none)

    live-wide : (s : ℕ) → has_slot Live s ≡ true → has_slot Wider s ≡ true
    live-wide s live = elim (cases_eq s slot) [
      | inl same ↦ subst (λ (t : ℕ). has_slot Wider t ≡ true) (sym same) (with_here held.known slot)
      | inr other ↦ with_other held.known slot s other ∙ ready.within s other live
    ]

    rest-live : (s : ℕ) → has_slot rest s ≡ true → has_slot Live s ≡ true
    rest-live s is = (both (has_slot Live s) (has_slot named s) (sym (are s) ∙ is)).0

    left-of : (s : ℕ) → has_slot rest s ≡ true → has_slot left s ≡ true
    left-of s is =
        let parts = both (has_slot Live s) (has_slot named s) (sym (are s) ∙ is) in
        ready.are s ∙ (λ i. parts.0 i && not (kept-first s parts.1 i))

    of-left : (s : ℕ) → has_slot named s ≡ false → has_slot left s ≡ true → has_slot rest s ≡ true
    of-left s none is =
        let live = (both (has_slot Live s) (has_slot (with_spare slot sb m).lost s) (sym (ready.are s) ∙ is)).0 in
        are s ∙ (λ i. live i && not (none i))

    fits : IsFitChange Wider named rest By (adding m slot sb)
    fits = record {
      role = λ s role none is. of-left s none (ready.fits.role s role (kept-first s none) (sym (role-as s (left-first s none)) ∙ is));
      below = λ s role none is. ready.fits.below s role (kept-first s none) (sym (role-as s (left-first s none)) ∙ is);
      spare = λ s none is. of-left s none (ready.fits.spare s (kept-first s none) (sym (planned-same s) ∙ is));
      one_holder = λ s t role none none' is is'.
          ready.fits.one_holder s t role (kept-first s none) (kept-first t none') (sym (role-as s (left-first s none)) ∙ is) (sym (role-as t (left-first t none')) ∙ is');
      fields = ready.fits.fields;
      size = refl;
      written = λ s is none. elim (cases_eq s slot) [
        | inl same ↦ are s ∙ (λ i. subst (λ (t : ℕ). has_slot Live t ≡ true) (sym same) ready.is_live i && not (none i))
        | inr other ↦ of-left s none (ready.fits.written s (sym (with_other held.known slot s other) ∙ is) (kept-first s none))
      ];
      devices = λ s x is own_is. ready.fits.devices s x (left-of s is) own_is;
      one = λ s t is is' one two. ready.fits.one s t (left-of s is) (left-of t is') one two;
    }

    planned-newest : IsPlannedNewest By (adding m slot sb) (with_spare slot sb m).lost named newest
    planned-newest = record {
      table = plan.0;
      roles = plan.1 ∙ sym (roles-same plan.0);
      long = table;
      room = ap (λ (z : Sb). z.max_dev) later.same;
      size = ap (λ (z : Sb). z.size) later.same;
      says = says-later m.newest newest later;
      count = ap role_count (sym later.same);
      few = (let count = ap role_count later.same in omega (arith, few-roles, count, count-still m.newest));
    }

    -- the new spare doesn't recover
    spares-fit : AreSparesFit rest By (adding m slot sb)
    spares-fit s x is own_is none spare =
        let here : s ≡ slot = at (has_spare Said s) (slot == s) refl none (sym (ap (λ (g : Give). is_planned_spare Said (Some (slot, sb)) g s) (give_of-same 32 s)) ∙ spare) in (
          fresh (subst (λ (t : ℕ). own_in Kept t ≡ Some x) here own_is),
          subst (λ (t : ℕ). planned_role former.roles (give_of (replicate 32 Same) t) t ≡ None) (sym here) idle-first,
        )
      where
        at : (p q : Bool) → (slot == s) ≡ q → p ≡ false → (p || q) ≡ true → s ≡ slot
        at true q e isnt or = absurd (cc)
        at false true e isnt or = same-slot slot s e
        at false false e isnt or = absurd (cc)

        fresh : own_in Kept slot ≡ Some x → is_recovering x ≡ false
        fresh there =
            let two : Some ready.sb ≡ Some x = sym ready.is ∙ there in
            let same : x ≡ record sb { events = m.newest.events } = (let first : ready.sb ≡ x = cc in sym first ∙ new-is) in
            ap is_recovering same ∙ ap is_recovering made.is
            ∙ ap (λ (n : ℕ). n == 1) (bit_at_and m.newest.feature_map (4 + 32) 1 ∙ least (bit_at m.newest.feature_map 1))
          where
            least : (n : ℕ) → min n 0 ≡ 0
            least n = omega arith

    said : AreSaidAsPlanned scope Wider named rest By (adding m slot sb) newest own
    said = planned-said scope Wider m.lost (with_spare slot sb m).lost named rest By (adding m slot sb) newest own (put slot [] d)
        (emptied-held scope m slot sb d held.known left Live ready) (λ s is. live-wide s (rest-live s is)) fits left-by
        (λ s none is. live-wide s (since s is none)) planned-newest kept said-wider spares-fit

    pub roles-are : (said_by scope rest own newest).roles ≡ map (role_without named) m.roles
    roles-are = said.roles
        ∙ roles-kept former.roles named (apart scope former missed former.newest.resync_offset d held) (small scope former missed former.newest.resync_offset d held) (role_count m.newest) (sym (roles-count scope held.known former held.said))
        ∙ sym (without-twice named missed missed-named former.roles)

    pub spares-are : (said_by scope rest own newest).spares ≡ planned_spares m (adding m slot sb) named
    spares-are = said.spares ∙ slots-same 32 (λ s. not (has_slot named s) && is_planned_spare Said (Some (slot, sb)) (give_of (replicate 32 Same) s) s)
        (λ s. not (has_slot named s) && is_planned_spare m.spares (Some (slot, sb)) (give_of (replicate 32 Same) s) s)
        (λ s lt. ap (λ (b : Bool). not (has_slot named s) && b) (planned-same s))

    -- the new spare holds no role
    pub slot-idle : (role : ℕ) → role < 16 → held_in newest role slot (known_at rest own slot) ≡ None
    slot-idle role few = held-other scope Wider m.lost (with_spare slot sb m).lost named rest By (adding m slot sb) newest own (put slot [] d)
        (emptied-held scope m slot sb d held.known left Live ready) (λ s is. live-wide s (rest-live s is)) fits left-by
        (λ s none is. live-wide s (since s is none)) planned-newest kept said-wider spares-fit role slot few
        (ap (λ (o : Option ℕ). not (has_slot named slot) && is_same role o) idle-first ∙ none (not (has_slot named slot)))
      where
        none : (b : Bool) → (b && false) ≡ false
        none true = refl
        none false = refl

  -- ---- what is read in the update

  -- An image that reads as planned reads of the members without the slots that are named, also where it doesn't have the new spare.
  module _ (named gone left' : ℕ) (newest : Sb) (own : List (Option Sb)) (more : IsWithin (with_spare slot sb m).lost named) (since : (s : ℕ) → has_slot named s ≡ true → has_slot (with_spare slot sb m).lost s ≡ false → has_slot Live s ≡ true)
      (later : IsLater (planned_newest m.newest m.newest) newest) (plan : AreNamed (with_added m (Some (slot, sb))) (adding m slot sb) (with_spare slot sb m).lost named newest) (table : length newest.dev_roles ≡ 384)
      (are : AreLeft Live gone left') (kept : AreKept newest (replicate 32 Same) Kept left' own) (within : IsWithin named gone) (unnamed : (s : ℕ) → has_slot gone s ≡ true → (has_slot named s ≡ true) ⊎ (s ≡ slot)) where
    live-small : (s : ℕ) → has_slot Live s ≡ true → s < 32
    live-small s is = of (nat_lt s 32) (is_in_update m (adding m slot sb) s) refl (sym (has-set_of 32 (is_in_update m (adding m slot sb)) s) ∙ is)
      where
        of : (a b : Bool) → nat_lt s 32 ≡ a → (a && b) ≡ true → s < 32
        of true b e and = grind (arith, nat_tests, e)
        of false b e and = absurd (cc)

    -- those that weren't named
    abbrev All : ℕ
    All = left_set 32 Live named

    abbrev Plans : List (Option Sb)
    Plans = planned_list newest (replicate 32 Same) Kept

    all-are : AreLeft Live named All
    all-are = left-are 32 Live named live-small

    kept-all : AreKept newest (replicate 32 Same) Kept All Plans
    kept-all = kept-of newest (replicate 32 Same) Kept Plans All (λ s x is own_is. planned-in newest (replicate 32 Same) Kept s x own_is)

    left-all : (s : ℕ) → has_slot left' s ≡ true → has_slot All s ≡ true
    left-all s is =
        let parts = both (has_slot Live s) (has_slot gone s) (sym (are s) ∙ is) in
        all-are s ∙ (λ i. parts.0 i && not (none_of named s (λ n. both_ways (within s n) parts.1) i))

    -- each has a superblock before
    was : (s : ℕ) → has_slot left' s ≡ true → (x : Sb) × (own_in Kept s ≡ Some x)
    was s is = elim (cases_eq s slot) [
      | inl same ↦ (ready.sb, ap (own_in Kept) same ∙ ready.is)
      | inr other ↦ let k = ready.held.each s (ready.within s other (both (has_slot Live s) (has_slot gone s) (sym (are s) ∙ is)).0) in (k.sb, k.own)
    ]

    part-same : (role : ℕ) → role < 16 → (s : ℕ) → held_in newest role s (known_at left' own s) ≡ held_in newest role s (known_at All Plans s)
    part-same role few s = of (has_slot left' s) refl (has_slot All s) refl
      where
        of : (a : Bool) → has_slot left' s ≡ a → (b : Bool) → has_slot All s ≡ b → held_in newest role s (known_at left' own s) ≡ held_in newest role s (known_at All Plans s)
        of true is b all =
            let x = was s is in
            let one = kept s x.0 is x.1 in
            let two = kept-all s x.0 (left-all s is) x.1 in
            ap (held_in newest role s) (ap (λ (b : Bool). cond b (own_in own s) None) is ∙ one.1)
            ∙ sym (ap (held_in newest role s) (ap (λ (b : Bool). cond b (own_in Plans s) None) (left-all s is) ∙ two.1))
        of false isnt false none = ap (λ (b : Bool). held_in newest role s (cond b (own_in own s) None)) isnt ∙ sym (ap (λ (b : Bool). held_in newest role s (cond b (own_in Plans s) None)) none)
        of false isnt true all =
            let parts = both (has_slot Live s) (has_slot named s) (sym (all-are s) ∙ all) in
            let lost : has_slot gone s ≡ true = not-left (has_slot Live s) (has_slot gone s) parts.0 (sym (are s) ∙ isnt) in
            let here : s ≡ slot = ⊎_elim (λ n. absurd (both_ways n parts.1)) (λ same. same) (unnamed s lost) in
            ap (λ (b : Bool). held_in newest role s (cond b (own_in own s) None)) isnt
            ∙ sym (subst (λ (t : ℕ). held_in newest role t (known_at All Plans t) ≡ None) (sym here) (slot-idle named All newest Plans more since later plan table all-are kept-all role few))
          where
            not-left : (a b : Bool) → a ≡ true → (a && not b) ≡ false → b ≡ true
            not-left true true e f = refl
            not-left true false e f = absurd (cc)
            not-left false b e f = absurd (cc)

    list-same : (role : ℕ) → role < 16 → (s : ℕ) → held_in newest role (0 + s) (get_or (known_of scope left' own) s None) ≡ held_in newest role (0 + s) (get_or (known_of scope All Plans) s None)
    list-same role few s = subst (λ (t : ℕ). held_in newest role t (get_or (known_of scope left' own) s None) ≡ held_in newest role t (get_or (known_of scope All Plans) s None)) at (elim (cases_lt s scope.sizes.slots) [
      | inl below ↦ ap (held_in newest role s) (get_or-tabulate scope.sizes.slots (known_at left' own) s None below) ∙ part-same role few s
          ∙ sym (ap (held_in newest role s) (get_or-tabulate scope.sizes.slots (known_at All Plans) s None below))
      | inr past ↦ ap (held_in newest role s) (get_or_past (tabulate scope.sizes.slots (known_at left' own)) s None (omega (arith, past, length-tabulate scope.sizes.slots (known_at left' own))))
          ∙ sym (ap (held_in newest role s) (get_or_past (tabulate scope.sizes.slots (known_at All Plans)) s None (omega (arith, past, length-tabulate scope.sizes.slots (known_at All Plans)))))
    ])
      where
        at : s ≡ 0 + s
        at = omega arith

    count-is : role_count newest ≡ role_count m.newest
    count-is = ap role_count later.same ∙ sym (count-still m.newest)

    roles-read : (said_by scope left' own newest).roles ≡ map (role_without named) m.roles
    roles-read =
        tabulate-same (role_count newest) (λ role. holder_from newest role 0 (known_of scope left' own)) (λ role. holder_from newest role 0 (known_of scope All Plans))
        (λ role lt. holder-same newest newest role 0 (known_of scope left' own) (known_of scope All Plans)
        (length-tabulate scope.sizes.slots (known_at left' own) ∙ sym (length-tabulate scope.sizes.slots (known_at All Plans))) (list-same role (omega (arith, lt, few-roles, count-is))))
        ∙ roles-are named All newest Plans more since later plan table all-are kept-all

    abbrev View : Members
    View = members_without named (with_spare slot sb m)

    state-is : (role : ℕ) → role_state (said_by scope left' own newest) role ≡ role_state (reading_of View) role
    state-is role = ap (λ (l : List Role). get_or l role Missing) roles-read

    -- a slot that holds a role has what it had
    own-is : (role s : ℕ) → holder (role_state (reading_of View) role) ≡ Some s
        → (x : Sb) × (y : Sb) × (own_of (said_by scope left' own newest) s ≡ Some y) × (own_in Kept s ≡ Some x) × (csum : ℕ) × (y ≡ record (planned newest (give_of (replicate 32 Same) s) x) { sb_csum = csum })
    own-is role s is =
        let found = holder-own scope.sizes.sectors (known_of scope left' own) newest role s (ap holder (state-is role) ∙ is) in
        let there = listed scope left' own s found.0 found.1 in
        let x = was s there.0 in
        let stamped = kept s x.0 there.0 x.1 in
        let two : Some (record (planned newest (give_of (replicate 32 Same) s) x.0) { sb_csum = stamped.0 }) ≡ Some found.0 = sym stamped.1 ∙ there.1 in
        (x.0, found.0, found.1, x.1, stamped.0, (let same : record (planned newest (give_of (replicate 32 Same) s) x.0) { sb_csum = stamped.0 } ≡ found.0 = cc in sym same))

    -- and as many rows of its role
    rows-are : (role : ℕ) → rows_held (said_by scope left' own newest) (role_state (reading_of View) role) ≡ rows_held (reading_of View) (role_state (reading_of View) role)
    rows-are role = of (role_state (reading_of View) role) refl
      where
        says : SaysSame m.newest (planned_newest m.newest m.newest)
        says = says-still m.newest (min (m.newest.events + 1) (2 ^ 64 - 1))

        of : (state : Role) → role_state (reading_of View) role ≡ state → rows_held (said_by scope left' own newest) state ≡ rows_held (reading_of View) state
        of (Whole s) is = ap (λ (z : Sb). z.size) later.same
        of Missing is = refl
        of (Recovering s) is =
            let o = own-is role s (ap holder is) in
            ap₂ (λ (active : Bool) (n : ℕ). cond active 0 n) (ap is_reshaping later.same ∙ sym says.reshaping)
            (ap (λ (o : Option Sb). option_map_or (λ sb. sb.recovery_offset) o 0) o.2 ∙ ap (λ (z : Sb). z.recovery_offset) o.5
            ∙ ap (λ (g : Give). (planned newest g o.0).recovery_offset) (give_of-same 32 s)
            ∙ sym (ap (λ (o : Option Sb). option_map_or (λ sb. sb.recovery_offset) o 0) o.3))

    pub said-added : IsSaidOf View (said_by scope left' own newest)
    said-added = record {
      array = says-later m.newest newest later;
      roles = roles-read;
      rows = rows-are;
      own = λ role s is.
          let o = own-is role s is in (
            o.1,
            o.2,
            ap (λ (z : Sb). z.data_offset) o.5 ∙ (planned-of newest o.0 (give_of (replicate 32 Same) s)).start
                ∙ sym (ap (λ (o : Option Sb). option_map_or (λ sb. sb.data_offset) o 0) o.3),
          );
      recovering = λ role s x is there. said-recovering scope.sizes.sectors (known_of scope left' own) newest role s x is there;
    }
