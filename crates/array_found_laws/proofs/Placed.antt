-- Where the rows of elected members stand, each role that is held on a slot of its own, and what room their spares have.
use Rattle.std.proofs.Common.{◌≡◌, inl, inr, ℕ, zero, suc, ◌+◌, ◌<◌, ◌≤◌, ◌==◌, Bool, true, false, cond, not, ◌||◌, ◌&&◌, nat_lt, nat_le, List, [], ◌∷◌, length, take, get_or, Option, Some, None, option_map, refl, sym, ◌∙◌, ap, subst, arith}
use Rattle.std.specs.Option.{option_map_or}
use Rattle.std.specs.List.{list_any}
use Rattle.std.proofs.lemmas.Bool.{cases_lt}
use Rattle.std.proofs.lemmas.Bool.Decides.{nat_tests}
use Rattle.std.proofs.lemmas.List.{get_or-take, get_or_past, length-take}
use Rattle.std.proofs.lemmas.List.Folds.{list_any-append}
use Rattle.array_call_specs.specs.raid_types_the_Role.{Role}
use Rattle.array_call_specs.specs.raid_types_the_Role_TheVariants.{Whole, Recovering, Missing}
use Rattle.array_call_specs.specs.raid_types_the_Refusal_TheVariants.{NoSuperblock}
use Rattle.array_call_specs.specs.raid_types_Shapes.{has_slot}
use Rattle.array_call_specs.specs.raid_types_Search.{tabulate}
use Rattle.array_call_specs.proofs.raid_types_Tabulated.{length-tabulate, get_or-tabulate}
use Rattle.array_call_specs.specs.sb_codec_the_Sb.{Sb}
use Rattle.array_call_specs.specs.bank_Given.{Given, sizes}
use Rattle.array_call_specs.specs.sb_specs_the_Members.{Members}
use Rattle.array_call_specs.specs.sb_specs_Reading.{Reading, reading_by, newest_of, holder_from, spares_from, holds_role, state_of, is_fresh, is_spare, is_recovering, lies_within, entry_of, role_count, role_state, holder, data_offset_of}
use Rattle.array_call_specs.specs.sb_specs_Verdict.{members_refusal}
use Rattle.array_call_specs.specs.sb_specs_Election.{reading_in, IsElected}
use Rattle.array_call_specs.specs.sb_specs_Update.{is_held_by, is_live}
use Rattle.array_call_specs.specs.sb_specs_Writing.{IsMember}
use Rattle.array_call_specs.proofs.sb_read_laws_Accepted.{IsAccepted, is-accepted}
use Rattle.array_call_specs.proofs.sb_specs_ValidFields.{few-roles}
use Rattle.array_call_specs.specs.stripe_row_Rows.{reading_of}
use Rattle.array_call_specs.proofs.stripe_row_Apart.{readings-are-apart}
use Rattle.array_call_specs.specs.array_members_Placed.{IsPlaced}
use Rattle.array_call_specs.specs.crash_safety_laws_Steady.{AreUnlost}
use Rattle.array_call_specs.specs.array_members_Rebuilding.{AreSparesFree}
use Rattle.array_call_specs.specs.crash_views_Regions.{AreShapesFit}
use Rattle.array_call_specs.proofs.array_members_MarkLaws.{held-holder}
use Rattle.array_call_specs.proofs.history_LegalLaws.{both}
use Rattle.array_found_laws.specs.Found.{AreElected}
use Rattle.array_found_laws.proofs.Elected.{elected-valid, reading-made}

-- ---- how many spares

fewer-spares : (N : Sb) (sectors : ℕ → ℕ) (slot : ℕ) (X : List (Option Sb)) → length (spares_from N sectors slot X) ≤ length X
fewer-spares N sectors slot [] = omega arith
fewer-spares N sectors slot (None ∷ X) = let rest = fewer-spares N sectors (slot + 1) X in omega (arith, rest)
fewer-spares N sectors slot (Some sb ∷ X) = by (is_spare N (sectors slot) sb) (fewer-spares N sectors (slot + 1) X)
  where
    by : (b : Bool) → length (spares_from N sectors (slot + 1) X) ≤ length X → length (cond b (slot ∷ spares_from N sectors (slot + 1) X) (spares_from N sectors (slot + 1) X)) ≤ suc (length X)
    by true rest = omega (arith, rest)
    by false rest = omega (arith, rest)

-- the members are what these superblocks say
said-by : (sec : ℕ → ℕ) (X : List (Option Sb)) (lost : ℕ) (m : Members) → IsElected sec X lost m → reading_by sec X m.newest ≡ reading_in (length X) m
said-by sec X lost m elected =
    one (reading_by sec X m.newest) (reading_in (length X) m) (sym (ap (option_map (reading_by sec X)) (reading-made sec X (reading_in (length X) m) elected.says).0) ∙ elected.says)
  where
    one : (a b : Reading) → Some a ≡ Some b → a ≡ b
    one a b e = cc

-- a bank has at most 32 slots, and each is a spare at most once
pub few-spares : (bank : Given) (m : Members) → bank.slots ≤ 32 → IsElected (sizes bank).sectors (take bank.slots m.own) m.lost m → length m.spares ≤ 32
few-spares bank m few elected =
    let X : List (Option Sb) = take bank.slots m.own in
    let are : m.spares ≡ spares_from m.newest (sizes bank).sectors 0 X = sym (ap (λ (q : Reading). q.spares) (said-by (sizes bank).sectors X m.lost m elected)) in
    omega (arith, few, ap length are, fewer-spares m.newest (sizes bank).sectors 0 X, length-take bank.slots m.own)

-- ---- whose superblock it is

-- the slot s, from slot i on in this list, holds the role
record IsHolderFrom (N : Sb) (role i : ℕ) (X : List (Option Sb)) (s : ℕ) : Type 0 where
  pub index : ℕ
  pub at : s ≡ i + index
  pub sb : Sb
  pub own : get_or X index None ≡ Some sb
  pub holds : holds_role N role sb ≡ true

held-slot : (sb : Sb) (i s : ℕ) → holder (state_of i sb) ≡ Some s → s ≡ i
held-slot sb i s e = by (is_recovering sb) e
  where
    by : (b : Bool) → holder (cond b (Recovering i) (Whole i)) ≡ Some s → s ≡ i
    by true e = cc
    by false e = cc

holder-there : (N : Sb) (role i : ℕ) (X : List (Option Sb)) (s : ℕ) → holder (holder_from N role i X) ≡ Some s → IsHolderFrom N role i X s
holder-there N role i [] s is = absurd (cc)
holder-there N role i (None ∷ X) s is =
    let found = holder-there N role (i + 1) X s is in
    record { index = suc found.index; at = omega (arith, found.at); sb = found.sb; own = found.own; holds = found.holds }
holder-there N role i (Some sb ∷ X) s is = by (holds_role N role sb) refl (λ e. holder-there N role (i + 1) X s e) is
  where
    by : (b : Bool) → holds_role N role sb ≡ b → (holder (holder_from N role (i + 1) X) ≡ Some s → IsHolderFrom N role (i + 1) X s)
        → holder (cond b (state_of i sb) (holder_from N role (i + 1) X)) ≡ Some s → IsHolderFrom N role i (Some sb ∷ X) s
    by true holds rest is = record { index = 0; at = held-slot sb i s is ∙ omega arith; sb = sb; own = refl; holds = holds }
    by false fails rest is =
        let found = rest is in
        record { index = suc found.index; at = omega (arith, found.at); sb = found.sb; own = found.own; holds = found.holds }

-- the slot s, from slot i on, has a superblock
record IsThere (i : ℕ) (X : List (Option Sb)) (s : ℕ) : Type 0 where
  pub index : ℕ
  pub at : s ≡ i + index
  pub sb : Sb
  pub own : get_or X index None ≡ Some sb

spare-there : (N : Sb) (sectors : ℕ → ℕ) (i : ℕ) (X : List (Option Sb)) (s : ℕ) → list_any (λ spare. spare == s) (spares_from N sectors i X) ≡ true
    → (found : IsThere i X s) × (is_spare N (sectors s) found.sb ≡ true)
spare-there N sectors i [] s is = absurd (cc)
spare-there N sectors i (None ∷ X) s is =
    let found = spare-there N sectors (i + 1) X s is in
    (record { index = suc found.0.index; at = omega (arith, found.0.at); sb = found.0.sb; own = found.0.own }, found.1)
spare-there N sectors i (Some sb ∷ X) s is = by (is_spare N (sectors i) sb) refl (λ e. later (spare-there N sectors (i + 1) X s e)) is
  where
    later : (found : IsThere (i + 1) X s) × (is_spare N (sectors s) found.sb ≡ true) → (found : IsThere i (Some sb ∷ X) s) × (is_spare N (sectors s) found.sb ≡ true)
    later found = (record { index = suc found.0.index; at = omega (arith, found.0.at); sb = found.0.sb; own = found.0.own }, found.1)

    equal : (a b : ℕ) → (a == b) ≡ true → b ≡ a + 0
    equal a b e = grind (arith, nat_tests, e)

    here : (b : Bool) → (i == s) ≡ b → is_spare N (sectors i) sb ≡ true
        → (list_any (λ spare. spare == s) (spares_from N sectors (i + 1) X) ≡ true → (found : IsThere i (Some sb ∷ X) s) × (is_spare N (sectors s) found.sb ≡ true))
        → (b || list_any (λ spare. spare == s) (spares_from N sectors (i + 1) X)) ≡ true
        → (found : IsThere i (Some sb ∷ X) s) × (is_spare N (sectors s) found.sb ≡ true)
    here true same spare rest is =
        let at : i ≡ s = sym (equal i s same ∙ omega arith) in
        (record { index = 0; at = equal i s same; sb = sb; own = refl }, subst (λ (n : ℕ). is_spare N (sectors n) sb ≡ true) at spare)
    here false other spare rest is = rest is

    by : (b : Bool) → is_spare N (sectors i) sb ≡ b
        → (list_any (λ spare. spare == s) (spares_from N sectors (i + 1) X) ≡ true → (found : IsThere i (Some sb ∷ X) s) × (is_spare N (sectors s) found.sb ≡ true))
        → list_any (λ spare. spare == s) (cond b (i ∷ spares_from N sectors (i + 1) X) (spares_from N sectors (i + 1) X)) ≡ true
        → (found : IsThere i (Some sb ∷ X) s) × (is_spare N (sectors s) found.sb ≡ true)
    by true spare rest is = here (i == s) refl spare rest is
    by false isnt rest is = rest is

held-any : (n : ℕ) (f : ℕ → Role) (s : ℕ) → list_any (is_held_by s) (tabulate n f) ≡ true → (role : ℕ) × (holder (f role) ≡ Some s)
unfolding tabulate
held-any zero f s is = absurd (cc)
held-any (suc n) f s is = by (list_any (is_held_by s) (tabulate n f)) (is_held_by s (f n)) (held-any n f s) (held-holder s (f n)) (sym (list_any-append (is_held_by s) (tabulate n f) (f n ∷ [])) ∙ is)
  where
    by : (a b : Bool) → (a ≡ true → (role : ℕ) × (holder (f role) ≡ Some s)) → (b ≡ true → holder (f n) ≡ Some s) → (a || (b || false)) ≡ true → (role : ℕ) × (holder (f role) ≡ Some s)
    by true b lesser here is = lesser refl
    by false true lesser here is = (n, here refl)
    by false false lesser here is = absurd (cc)

-- ---- the members

-- the last two of five
last-two : (a b c d e : Bool) → (a && b && c && d && e) ≡ true → (d ≡ true) × (e ≡ true)
last-two true true true d e is = both d e is
last-two true true false d e is = absurd (cc)
last-two true false c d e is = absurd (cc)
last-two false b c d e is = absurd (cc)

module _ (bank : Given) (given : ℕ) (m : Members) (are : AreElected bank given m) (fit : AreShapesFit m.newest) where
  abbrev X : List (Option Sb)
  X = take bank.slots m.own

  abbrev sec : ℕ → ℕ
  sec = (sizes bank).sectors

  count : length (take bank.slots m.own) ≤ bank.slots
  count = omega (arith, length-take bank.slots m.own)

  newest-is : newest_of (take bank.slots m.own) ≡ Some m.newest
  newest-is = (reading-made sec X (reading_in (length X) m) are.elected.says).0

  made : reading_by (sizes bank).sectors (take bank.slots m.own) m.newest ≡ reading_in (length (take bank.slots m.own)) m
  made = said-by sec X m.lost m are.elected

  roles-are : m.roles ≡ tabulate (role_count m.newest) (λ role. holder_from m.newest role 0 (take bank.slots m.own))
  roles-are = sym (ap (λ (q : Reading). q.roles) made)

  spares-are : m.spares ≡ spares_from m.newest (sizes bank).sectors 0 (take bank.slots m.own)
  spares-are = sym (ap (λ (q : Reading). q.spares) made)

  accepted : IsAccepted (sizes bank).sectors m.newest (take bank.slots m.own)
  accepted = is-accepted sec m.newest X
      (sym (ap (λ (found : Option Sb). option_map_or (members_refusal sec) (option_map (reading_by sec X) found) (Some NoSuperblock)) newest-is) ∙ are.elected.accepted)

  roles-long : length m.roles ≡ role_count m.newest
  roles-long = ap (λ (l : List Role). length l) roles-are ∙ length-tabulate (role_count m.newest) (λ role. holder_from m.newest role 0 X)

  own-at : (k : ℕ) (sb : Sb) → get_or (take bank.slots m.own) k None ≡ Some sb → (k < bank.slots) × (get_or m.own k None ≡ Some sb)
  own-at k sb e = elim (cases_lt k (length X)) [
    | inl within ↦ (let lt : k < bank.slots = omega (arith, within, count) in (lt, sym (get_or-take bank.slots m.own k None lt) ∙ e))
    | inr past ↦ absurd (none sb (sym (get_or_past X k None past) ∙ e))
  ]
    where
      none : (sb : Sb) → ◌≡◌ {A = Option Sb} None (Some sb) → ⊥
      none sb e = absurd (cc)

  -- the superblock of a role's holder, and where its rows are
  record IsHeldAt (role s : ℕ) : Type 0 where
    pub role_below : role < role_count m.newest
    pub known : s < bank.slots
    pub sb : Sb
    pub own : get_or m.own s None ≡ Some sb
    pub entry : entry_of m.newest sb.dev_number ≡ role
    pub behind : 10 ≤ sb.data_offset
    pub within : sb.data_offset + m.newest.size ≤ bank.sectors s

  equal : (a b : ℕ) → (a == b) ≡ true → a ≡ b
  equal a b e = grind (arith, nat_tests, e)

  less : (a b : ℕ) → a < b → nat_lt a b ≡ true
  less a b h = grind (arith, nat_tests, h)

  -- where the data of a slot's superblock lies
  data-lies : (s : ℕ) (sb : Sb) → s < bank.slots → lies_within m.newest (sec s) sb ≡ true → (10 ≤ sb.data_offset) × (sb.data_offset + m.newest.size ≤ bank.sectors s)
  data-lies s sb known is =
      let lies = both (nat_le 10 sb.data_offset) (nat_le (sb.data_offset + m.newest.size) (sec s)) is in
      let long : sec s ≡ bank.sectors s = ap (λ (b : Bool). cond b (bank.sectors s) 0) (less s bank.slots known) in (
        at_most 10 sb.data_offset lies.0,
        subst (λ (n : ℕ). sb.data_offset + m.newest.size ≤ n) long (at_most (sb.data_offset + m.newest.size) (sec s) lies.1),
      )
    where
      at_most : (a b : ℕ) → nat_le a b ≡ true → a ≤ b
      at_most a b e = grind (arith, nat_tests, e)

  held-at : (role s : ℕ) → holder (role_state (reading_of m) role) ≡ Some s → IsHeldAt role s
  held-at role s is = elim (cases_lt role (role_count m.newest)) [
    | inl lt ↦ of lt (holder-there m.newest role 0 X s
        (sym (ap (λ (l : List Role). holder (get_or l role Missing)) roles-are ∙ ap holder (get_or-tabulate (role_count m.newest) (λ role. holder_from m.newest role 0 X) role Missing lt)) ∙ is))
    | inr past ↦ absurd (none s (sym (ap (λ (l : List Role). holder (get_or l role Missing)) roles-are
        ∙ ap holder (get_or_past (tabulate (role_count m.newest) (λ role. holder_from m.newest role 0 X)) role Missing
        (omega (arith, past, length-tabulate (role_count m.newest) (λ role. holder_from m.newest role 0 X))))) ∙ is))
  ]
    where
      none : (s : ℕ) → ◌≡◌ {A = Option ℕ} None (Some s) → ⊥
      none s e = absurd (cc)

      of : role < role_count m.newest → IsHolderFrom m.newest role 0 (take bank.slots m.own) s → IsHeldAt role s
      of lt found =
          let same : found.index ≡ s = omega (arith, found.at) in
          let own : get_or X s None ≡ Some found.sb = subst (λ (k : ℕ). get_or X k None ≡ Some found.sb) same found.own in
          let there = own-at s found.sb own in
          let holds = both (is_fresh m.newest found.sb) (entry_of m.newest found.sb.dev_number == role) found.holds in
          let entry : entry_of m.newest found.sb.dev_number ≡ role = equal (entry_of m.newest found.sb.dev_number) role holds.1 in
          let lies = data-lies s found.sb there.0 (accepted.within s found.sb own holds.0 (less (entry_of m.newest found.sb.dev_number) (role_count m.newest) (omega (arith, lt, entry)))) in
          record {
            role_below = lt;
            known = there.0;
            sb = found.sb;
            own = there.1;
            entry = entry;
            behind = lies.0;
            within = lies.1;
          }

  offset-at : (s : ℕ) (sb : Sb) → get_or m.own s None ≡ Some sb → data_offset_of (reading_of m) s ≡ sb.data_offset
  offset-at s sb own = ap (λ (o : Option Sb). option_map_or (λ sb. sb.data_offset) o 0) own

  -- a slot with a superblock of the array is a given one, and so isn't lost
  not-lost : (s : ℕ) (sb : Sb) → get_or m.own s None ≡ Some sb → has_slot m.lost s ≡ false
  not-lost s sb there = are.lost s ∙ ap (λ (b : Bool). nat_lt s bank.slots && not b) (are.own s sb there) ∙ never (nat_lt s bank.slots)
    where
      never : (b : Bool) → (b && false) ≡ false
      never true = refl
      never false = refl

  pub unlost-found : AreUnlost m
  unlost-found role slot held = let found = held-at role slot held in not-lost slot found.sb found.own

  -- a spare's device number has no role's entry
  pub free-found : AreSparesFree bank m
  free-found slot is =
      let found = spare-there m.newest sec 0 X slot (sym (ap (λ (l : List ℕ). list_any (λ spare. spare == slot) l) spares-are) ∙ is) in
      let sb : Sb = found.0.sb in
      let same : found.0.index ≡ slot = omega (arith, found.0.at) in
      let there = own-at slot sb (subst (λ (k : ℕ). get_or X k None ≡ Some sb) same found.0.own) in
      let spare = last-two (is_fresh m.newest sb) (not (is_recovering sb)) (nat_lt sb.dev_number 128) (entry_of m.newest sb.dev_number == 0xffff) (lies_within m.newest (sec slot) sb) found.1 in
      let lies = data-lies slot sb there.0 spare.1 in
      let offset : data_offset_of (reading_of m) slot ≡ sb.data_offset = offset-at slot sb there.1 in
      let entry : entry_of m.newest sb.dev_number ≡ 0xffff = equal (entry_of m.newest sb.dev_number) 0xffff spare.0 in
      record {
        room = record {
          small = (let few = are.few in omega (arith, there.0, few));
          known = there.0;
          short = are.counted slot there.0;
          within = omega (arith, offset, lies.1);
        };
        behind = omega (arith, offset, lies.0);
        none = λ role held. (let holds = held-at role slot held in
            let other : entry_of m.newest sb.dev_number ≡ role = ap (λ (s : Sb). entry_of m.newest s.dev_number) (one sb holds.sb (sym there.1 ∙ holds.own)) ∙ holds.entry in
            let below : role_count m.newest ≤ 16 = few-roles m.newest (elected-valid sec X m.lost m are.elected) in
            absurd (let so : 0xffff < 16 = omega (arith, entry, other, holds.role_below, below) in omega (arith, so)));
        unlost = not-lost slot sb there.1;
      }
    where
      one : (a b : Sb) → Some a ≡ Some b → a ≡ b
      one a b e = cc

  -- a live slot has one
  pub live-there : (s : ℕ) → is_live m.roles m.spares s ≡ true → (sb : Sb) × (get_or m.own s None ≡ Some sb)
  live-there s is = by (list_any (is_held_by s) m.roles) refl is
    where
      spare : IsThere 0 (take bank.slots m.own) s → (sb : Sb) × (get_or m.own s None ≡ Some sb)
      spare found =
          let same : found.index ≡ s = omega (arith, found.at) in
          (found.sb, (own-at s found.sb (subst (λ (k : ℕ). get_or X k None ≡ Some found.sb) same found.own)).1)

      by : (b : Bool) → list_any (is_held_by s) m.roles ≡ b → (b || list_any (λ spare. spare == s) m.spares) ≡ true → (sb : Sb) × (get_or m.own s None ≡ Some sb)
      by true held is =
          let role = held-any (role_count m.newest) (λ role. holder_from m.newest role 0 X) s (sym (ap (λ (l : List Role). list_any (is_held_by s) l) roles-are) ∙ held) in
          let found = holder-there m.newest role.0 0 X s role.1 in
          spare (record { index = found.index; at = found.at; sb = found.sb; own = found.own })
      by false held is = spare (spare-there m.newest sec 0 X s (sym (ap (λ (l : List ℕ). list_any (λ spare. spare == s) l) spares-are) ∙ is)).0

  pub placed-found : IsPlaced bank m
  placed-found = record {
    fit = fit;
    roles = roles-long;
    holders = λ role slot is. (let found = held-at role slot is in
        record {
          small = (let few = are.few in omega (arith, found.known, few));
          known = found.known;
          short = are.counted slot found.known;
          within = omega (arith, offset-at slot found.sb found.own, found.within);
        });
    behind = λ role slot is. (let found = held-at role slot is in omega (arith, offset-at slot found.sb found.own, found.behind));
    apart = λ a b slot is is'. readings-are-apart sec X m.newest a b slot
        (sym (ap (λ (l : List Role). holder (get_or l a Missing)) roles-are) ∙ is) (sym (ap (λ (l : List Role). holder (get_or l b Missing)) roles-are) ∙ is');
    live = λ slot is. (let found = live-there slot is in
        subst (λ (o : Option Sb). IsMember bank o slot) (sym found.1) (are.writable slot found.0 found.1));
  }

  -- the superblock of a role's holder
  pub holder-there-is : (role slot : ℕ) → holder (role_state (reading_of m) role) ≡ Some slot → (sb : Sb) × (get_or m.own slot None ≡ Some sb)
  holder-there-is role slot is = let found = held-at role slot is in (found.sb, found.own)
