-- At each mark of an update in which no slot is lost an image reads as before it or as planned.
use Rattle.std.proofs.Common.{◌≡◌, ◌⊎◌, inl, inr, ⊎_elim, ℕ, zero, suc, ◌+◌, ◌<◌, ◌≤◌, ◌==◌, true, false, cond, not, ◌&&◌, nat_lt, List, [], length, Option, Some, None, refl, sym, ◌∙◌, ap, subst, arith}
use Rattle.std.specs.Prelude.{◌≢◌, nat_le}
use Rattle.std.proofs.lemmas.Bool.{cases_lt}
use Rattle.std.proofs.lemmas.Bool.Decides.{nat_tests}
use Rattle.bank.specs.raid_types_Sectors.{Sector}
use Rattle.bank.specs.raid_types_the_Role_TheVariants.{Whole, Recovering}
use Rattle.reshape_geometry.specs.raid_types_Shapes.{has_slot}
use Rattle.sb_codec.specs.declared.sb.Sb.{Sb}
use Rattle.bank.specs.Tape.{Contents, IsIn}
use Rattle.sb_specs.specs.declared.change.Give.{Give}
use Rattle.sb_specs.specs.declared.change.Give.TheVariants.{Same}
use Rattle.sb_specs.specs.Reading.{Scope, is_fresh, is_recovering, lies_within, entry_of, state_of, role_count}
use Rattle.sb_specs.specs.Update.{planned, give_of, own_in, is_recovery}
use Rattle.sb_specs.specs.Writing.{IsFirstSector}
use Rattle.sb_specs.specs.Reads.{IsNewestLike, HaveSamePart, IsSuited, IsSound, IsReadAs, held_in}
use Rattle.sb_specs.specs.Held.{own_at, MayRead, IsStamped, IsKnown, IsBefore, ReadsBefore, Shows, AreHeld, said_by}
use Rattle.sb_specs.specs.Stages.{IsDeviceKept, IsFitPlan, AreKept}
use Rattle.sb_specs.proofs.ReadLists.{by_bool}
use Rattle.sb_specs.proofs.HeldReads.{AreLike, read-like, stamped-suited, stamped-like, known_at, no-part}
use Rattle.sb_specs.proofs.PlannedSb.{planned-of, planned-new, planned-late, recovering-same}
use Rattle.sb_specs.proofs.WrittenReads.{planned-stamped}
use Rattle.sb_specs.proofs.ValidFields.{valid-shapes, few-roles}

abbrev Disk : Type 0
Disk = ℕ → ℕ → List Sector

-- ---- superblocks of one device

-- fresh both, and of the same device
pub record AreOneDevice (newest x y : Sb) : Type 0 where
  pub fresh : is_fresh newest x ≡ true
  pub fresh' : is_fresh newest y ≡ true
  pub number : x.dev_number ≡ y.dev_number
  pub start : x.data_offset ≡ y.data_offset
  pub recovering : is_recovering x ≡ is_recovering y
  pub offset : is_recovering y ≡ true → x.recovery_offset ≡ y.recovery_offset

pub part-of : (newest : Sb) (len lost slot : ℕ) (x y : Sb) → AreOneDevice newest x y → HaveSamePart newest len lost slot (Some x) (Some y)
part-of newest len lost slot x y one = record {
  role = λ role h i. cond ((one.fresh ∙ sym one.fresh') i && (entry_of newest (one.number i) == role)) (Some (cond (one.recovering i) (Recovering slot) (Whole slot))) None;
  spare = λ left i.
      (one.fresh ∙ sym one.fresh') i && not (one.recovering i) && nat_lt (one.number i) 128 && (entry_of newest (one.number i) == 0xffff)
      && (nat_le 10 (one.start i) && nat_le (one.start i + newest.size) len);
  device = λ role state is. record {
    start = λ a b ea eb. let p : x ≡ a = cc in let q : y ≡ b = cc in sym (ap (λ (z : Sb). z.data_offset) p) ∙ one.start ∙ ap (λ (z : Sb). z.data_offset) q;
    recovery = λ a b ea eb recovers.
        let p : x ≡ a = cc in let q : y ≡ b = cc in
        sym (ap (λ (z : Sb). z.recovery_offset) p) ∙ one.offset (ap is_recovering q ∙ recovers) ∙ ap (λ (z : Sb). z.recovery_offset) q;
  };
}

pub fresh_less : (n e : ℕ) → n ≤ e + 1 → nat_le n (e + 1) ≡ true
fresh_less n e h = grind (arith, nat_tests)

-- fresh beside the later newest, so beside the former one
pub fresh_back : (n m e : ℕ) → n ≡ m + 1 → nat_le n (e + 1) ≡ true → nat_le m (e + 1) ≡ true
fresh_back n m e later h = grind (arith, nat_tests)

-- ---- a superblock that a written slot may have at the former count

module _ (scope : Scope) (former : Sb) (held : Option Sb) (slot : ℕ) (d : Disk) (k : IsKnown scope former held slot d) (sound : IsSound former) (long : length former.dev_roles ≡ 384) where
  pub caught-before : IsBefore former k.sb (planned former Same k.sb)
  caught-before =
      let p = planned-of former k.sb Same in
      record {
        events = omega (arith, p.events);
        fresh = fresh_less former.events (planned former Same k.sb).events (omega (arith, p.events));
        number = p.number;
        start = p.start;
        table = p.table;
        refused = p.refused;
        recovering = recovering-same former k.sb;
        offset = λ recovers. refl;
        late = planned-late former k.sb (planned former Same k.sb) p (omega (arith, long)) k.late;
      }

  lies-before : (newest sb : Sb) → newest.size ≡ former.size → sb.data_offset ≡ k.sb.data_offset → lies_within newest (scope.sizes.sectors slot) sb ≡ true
  lies-before newest sb size start = (λ i. nat_le 10 (start i) && nat_le (start i + size i) (scope.sizes.sectors slot)) ∙ k.lies

  -- it is suited to the former newest one, and to one an event later
  pub before-suited : (sb : Sb) → IsBefore former k.sb sb → IsSuited former (scope.sizes.sectors slot) sb
  before-suited sb b = record {
    events = b.events;
    bits = λ fresh. b.refused ∙ k.suited.bits k.fresh;
    room = λ fresh. let h = k.suited.room k.fresh in omega (arith, h, b.table);
    within = λ fresh holds. lies-before former sb refl b.start;
    late = λ fresh. b.late;
  }

  pub before-later : (newest sb : Sb) → newest.events ≡ former.events + 1 → newest.size ≡ former.size → IsBefore former k.sb sb → IsSuited newest (scope.sizes.sectors slot) sb
  before-later newest sb later size b = record {
    events = omega (arith, b.events, later);
    bits = λ fresh. b.refused ∙ k.suited.bits k.fresh;
    room = λ fresh. let h = k.suited.room k.fresh in omega (arith, h, b.table);
    within = λ fresh holds. lies-before newest sb size b.start;
    late = λ fresh. b.late;
  }

  -- what is planned of it says the same as the newest
  pub planned-like : (newest : Sb) (g : Give) → 128 ≤ length newest.dev_roles → 128 ≤ newest.max_dev → IsNewestLike newest (planned newest g k.sb)
  planned-like newest g table room = planned-new newest k.sb (planned newest g k.sb) (planned-of newest k.sb g) table room (k.suited.room k.fresh) k.late

  pub planned-suited : (newest : Sb) (g : Give) → newest.size ≡ former.size → 128 ≤ length newest.dev_roles → IsSuited newest (scope.sizes.sectors slot) (planned newest g k.sb)
  planned-suited newest g size table =
      let p = planned-of newest k.sb g in
      let enough = k.suited.room k.fresh in
      record {
        events = omega (arith, p.events);
        bits = λ fresh. p.refused ∙ k.suited.bits k.fresh;
        room = λ fresh. omega (arith, enough, p.table);
        within = λ fresh holds. lies-before newest (planned newest g k.sb) size p.start;
        late = λ fresh. planned-late newest k.sb (planned newest g k.sb) p table k.late;
      }

  pub before-own : (sb : Sb) → IsBefore former k.sb sb → AreOneDevice former sb k.sb
  before-own sb b = record { fresh = b.fresh; fresh' = k.fresh; number = b.number; start = b.start; recovering = b.recovering; offset = b.offset }

  pub before-planned : (newest sb : Sb) (g : Give) → newest.events ≡ former.events + 1 → sb.events ≡ former.events → IsDeviceKept newest g k.sb → IsBefore former k.sb sb → AreOneDevice newest sb (planned newest g k.sb)
  before-planned newest sb g later level kept b =
      let p = planned-of newest k.sb g in
      record {
        fresh = fresh_less newest.events sb.events (omega (arith, later, level));
        fresh' = fresh_less newest.events (planned newest g k.sb).events (omega (arith, p.events));
        number = b.number ∙ sym p.number;
        start = b.start ∙ sym p.start;
        recovering = b.recovering ∙ sym kept.0;
        offset = λ recovers. b.offset (sym kept.0 ∙ recovers) ∙ sym (kept.1 (sym kept.0 ∙ recovers));
      }

-- another slot's superblock is suited to the later newest one too
pub other-later : (former newest : Sb) (len slot : ℕ) (sb : Sb) → IsSound newest → newest.events ≡ former.events + 1
    → ((role : ℕ) → role < 16 → held_in newest role slot (Some sb) ≡ None) → IsSuited former len sb → IsSuited newest len sb
other-later former newest len slot sb sound later idle s = record {
  events = omega (arith, s.events, later);
  bits = λ fresh. s.bits (fresh_back newest.events former.events sb.events later fresh);
  room = λ fresh. s.room (fresh_back newest.events former.events sb.events later fresh);
  within = λ fresh holds.
      let below : entry_of newest sb.dev_number < role_count newest = is_less (entry_of newest sb.dev_number) (role_count newest) holds in
      let few = few-roles newest (valid-shapes newest [] sound.fields) in
      absurd (let none = idle (entry_of newest sb.dev_number) (omega (arith, below, few)) in
      let some : held_in newest (entry_of newest sb.dev_number) slot (Some sb) ≡ Some (state_of slot sb) = (λ i. cond (fresh i && is_same (entry_of newest sb.dev_number) i) (Some (state_of slot sb)) None) in
      let both = sym none ∙ some in cc);
  late = λ fresh. s.late (fresh_back newest.events former.events sb.events later fresh);
}
  where
    is_less : (a b : ℕ) → nat_lt a b ≡ true → a < b
    is_less a b h = grind (arith, nat_tests)

    is_same : (a : ℕ) → (a == a) ≡ true
    is_same a = grind (arith, nat_tests)

-- ---- what an image has in a slot

-- of the slot, and as new as the newest
abbrev pub ReadsLevel : Sb → Sb → Option Sb → Type 0
ReadsLevel former own found = (sb : Sb) × IsStamped sb found × IsBefore former own sb × (sb.events ≡ former.events)

module _ (scope : Scope) (former : Sb) (held : Option Sb) (slot : ℕ) (d : Disk) (k : IsKnown scope former held slot d) (sound : IsSound former) (long : length former.dev_roles ≡ 384) where
  pub caught-reads : (at : ℕ → Sector) → IsFirstSector (planned former Same k.sb) (at 8) → IsIn (d slot 9) (at 9) → ReadsLevel former k.sb (own_at scope slot at)
  caught-reads at first ninth =
      let s = planned-stamped scope slot former k.sb Same at k.seen k.long k.array (omega (arith, long)) (k.second (at 9) ninth) first in
      (planned former Same k.sb, s, caught-before scope former held slot d k sound long, (planned-of former k.sb Same).events)

  -- brought to the newest count it says the same as the newest
  pub caught-like : (at : ℕ → Sector) (sb : Sb) → IsFirstSector (planned former Same k.sb) (at 8) → IsIn (d slot 9) (at 9) → own_at scope slot at ≡ Some sb → IsNewestLike former sb
  caught-like at sb first ninth reads =
      let p : Sb = planned former Same k.sb in
      let r = planned-stamped scope slot former k.sb Same at k.seen k.long k.array (omega (arith, long)) (k.second (at 9) ninth) first in
      let same : record p { sb_csum = r.0 } ≡ sb = (let both : Some (record p { sb_csum = r.0 }) ≡ Some sb = sym r.1 ∙ reads in cc) in
      subst (IsNewestLike former) same (stamped-like former r.0 p (planned-like scope former held slot d k sound long former Same (omega (arith, long)) sound.room))

  pub new-reads : (newest : Sb) (g : Give) (at : ℕ → Sector) → 128 ≤ length newest.dev_roles → IsFirstSector (planned newest g k.sb) (at 8) → IsIn (d slot 9) (at 9)
      → IsStamped (planned newest g k.sb) (own_at scope slot at)
  new-reads newest g at table first ninth = planned-stamped scope slot newest k.sb g at k.seen k.long k.array table (k.second (at 9) ninth) first

-- some number below n has the second of two properties, or all have the first
pub some-or-all : (n : ℕ) (P Q : ℕ → Type 0) → ((s : ℕ) → s < n → P s ⊎ Q s) → ((s : ℕ) × (s < n) × Q s) ⊎ ((s : ℕ) → s < n → P s)
some-or-all zero P Q each = inr (λ s h. absurd (omega (arith, h)))
some-or-all (suc n) P Q each = of (some-or-all n P Q (λ s h. each s (omega (arith, h)))) (each n (omega arith))
  where
    of : ((s : ℕ) × (s < n) × Q s) ⊎ ((s : ℕ) → s < n → P s) → P n ⊎ Q n → ((s : ℕ) × (s < suc n) × Q s) ⊎ ((s : ℕ) → s < suc n → P s)
    of (inl (s, h, q)) last = inl (s, omega (arith, h), q)
    of (inr all) (inr q) = inl (n, omega arith, q)
    of (inr all) (inl p) = inr (λ s h. elim (cases_lt s n) [
      | inl below ↦ all s below
      | inr past ↦ subst P (let same : n ≡ s = omega (arith, h, past) in same) p
    ])

-- ---- images that read as before

module _ (scope : Scope) (known lost : ℕ) (former : Sb) (own : List (Option Sb)) (d : Disk) (held : AreHeld scope known lost former own d) (c : Contents)
    (knowns : (slot : ℕ) (is : has_slot known slot ≡ true) → ReadsBefore former (held.each slot is).sb (own_at scope slot (c slot)))
    (others : (slot : ℕ) → has_slot known slot ≡ false → MayRead scope d slot (own_at scope slot (c slot)))
    (top : (sb : Sb) × (own_at scope held.top.0 (c held.top.0) ≡ Some sb) × (sb.events ≡ former.events))
    (first : (slot : ℕ) (sb : Sb) → slot < scope.sizes.slots → own_at scope slot (c slot) ≡ Some sb → sb.events ≡ former.events
    → ((s : ℕ) (b : Sb) → s < slot → own_at scope s (c s) ≡ Some b → b.events ≢ former.events) → IsNewestLike former sb) where
  suited-known : (slot : ℕ) (sb : Sb) → own_at scope slot (c slot) ≡ Some sb → has_slot known slot ≡ true → IsSuited former (scope.sizes.sectors slot) sb
  suited-known slot sb reads is =
      let k = held.each slot is in
      let r = knowns slot is in
      let same : record r.0 { sb_csum = r.1.0 } ≡ sb = (let both : Some (record r.0 { sb_csum = r.1.0 }) ≡ Some sb = sym r.1.1 ∙ reads in cc) in
      subst (IsSuited former (scope.sizes.sectors slot)) same
      (stamped-suited former (scope.sizes.sectors slot) r.1.0 r.0 (before-suited scope former (own_in own slot) slot d k held.sound held.table r.0 r.2))

  part-known : (slot : ℕ) → has_slot known slot ≡ true → HaveSamePart former (scope.sizes.sectors slot) lost slot (own_at scope slot (c slot)) (known_at known own slot)
  part-known slot is =
      let k = held.each slot is in
      let r = knowns slot is in
      let one = before-own scope former (own_in own slot) slot d k held.sound held.table r.0 r.2 in
      subst (λ (x : Option Sb). HaveSamePart former (scope.sizes.sectors slot) lost slot x (known_at known own slot)) (sym r.1.1)
      (subst (λ (y : Option Sb). HaveSamePart former (scope.sizes.sectors slot) lost slot (Some (record r.0 { sb_csum = r.1.0 })) y)
      (sym (ap (λ b. cond b (own_in own slot) None) is ∙ k.own))
      (part-of former (scope.sizes.sectors slot) lost slot (record r.0 { sb_csum = r.1.0 }) k.sb
      (record { fresh = one.fresh; fresh' = one.fresh'; number = one.number; start = one.start; recovering = one.recovering; offset = one.offset })))

  part-other : (slot : ℕ) → slot < scope.sizes.slots → has_slot known slot ≡ false → HaveSamePart former (scope.sizes.sectors slot) lost slot (own_at scope slot (c slot)) (known_at known own slot)
  part-other slot there none =
      let o = held.others slot there none in
      let m = others slot none in
      subst (λ (y : Option Sb). HaveSamePart former (scope.sizes.sectors slot) lost slot (own_at scope slot (c slot)) y) (sym (ap (λ b. cond b (own_in own slot) None) none))
      (no-part former (scope.sizes.sectors slot) lost slot (own_at scope slot (c slot)) (λ role h. o.role role (own_at scope slot (c slot)) h m) (λ left. o.spare (own_at scope slot (c slot)) left m))

  shows : (slot : ℕ) (a : Sb) → own_at scope slot (c slot) ≡ Some a → is_fresh former a ≡ true → (b : Sb) × Shows scope known own d slot b × (is_fresh former b ≡ true) × (b.dev_number ≡ a.dev_number)
  shows slot a reads fresh = ⊎_elim
      (λ is.
      let k = held.each slot is in
      let r = knowns slot is in
      let same : record r.0 { sb_csum = r.1.0 } ≡ a = (let both : Some (record r.0 { sb_csum = r.1.0 }) ≡ Some a = sym r.1.1 ∙ reads in cc) in
      (k.sb, inl (is, k.own), k.fresh, sym r.2.number ∙ ap (λ (z : Sb). z.dev_number) same))
      (λ none. (a, inr (none, subst (MayRead scope d slot) reads (others slot none)), fresh, refl)) (by_bool (has_slot known slot))

  suited : (slot : ℕ) (sb : Sb) → slot < scope.sizes.slots → own_at scope slot (c slot) ≡ Some sb → IsSuited former (scope.sizes.sectors slot) sb
  suited slot sb there reads = ⊎_elim (λ is. suited-known slot sb reads is)
      (λ none. (held.others slot there none).suited sb (subst (MayRead scope d slot) reads (others slot none))) (by_bool (has_slot known slot))

  before-like : AreLike scope.sizes.slots scope.sizes.sectors lost former (λ slot. own_at scope slot (c slot)) (known_at known own)
  before-like = record {
    top = (held.top.0, top.0, held.top.1, top.1, top.2);
    first = first;
    suited = suited;
    part = λ slot there. ⊎_elim (λ is. part-known slot is) (λ none. part-other slot there none) (by_bool (has_slot known slot));
    apart = λ s t a b there there' differ is is' fresh fresh'.
        let p = shows s a is fresh in
        let q = shows t b is' fresh' in
        let numbers = held.apart s t p.0 q.0 differ p.1 q.1 p.2 q.2 in
        λ same. numbers (p.3 ∙ same ∙ sym q.3);
  }

  pub before-reads : IsReadAs scope lost (said_by scope known own former) c
  before-reads = read-like scope lost former (known_at known own) c held.sound before-like

-- ---- images that read as planned

module _ (scope : Scope) (known lost : ℕ) (former : Sb) (own : List (Option Sb)) (d : Disk) (held : AreHeld scope known lost former own d)
    (newest : Sb) (gives : List Give) (left : ℕ) (fit : IsFitPlan scope lost former newest gives own left d) (sub : (s : ℕ) → has_slot left s ≡ true → has_slot known s ≡ true)
    (own' : List (Option Sb)) (kept : AreKept newest gives own left own') where
  abbrev pub ReadsNew : (s : ℕ) → has_slot left s ≡ true → Option Sb → Type 0
  ReadsNew s is found = IsStamped (planned newest (give_of gives s) (held.each s (sub s is)).sb) found

  table : 128 ≤ length newest.dev_roles
  table = omega (arith, fit.table)

  pub known_suited : (slot : ℕ) (sb : Sb) → slot < scope.sizes.slots → MayRead scope d slot (Some sb) → IsSuited former (scope.sizes.sectors slot) sb
  known_suited slot sb there m = ⊎_elim
      (λ is.
      let k = held.each slot is in
      let r = k.reads (Some sb) m in
      let same : record r.0 { sb_csum = r.1.0 } ≡ sb = (let both = r.1.1 in cc) in
      subst (IsSuited former (scope.sizes.sectors slot)) same
      (stamped-suited former (scope.sizes.sectors slot) r.1.0 r.0 (before-suited scope former (own_in own slot) slot d k held.sound held.table r.0 r.2)))
      (λ none. (held.others slot there none).suited sb m) (by_bool (has_slot known slot))

  pub new_suited : (s : ℕ) (is : has_slot left s ≡ true) (csum : ℕ) → IsSuited newest (scope.sizes.sectors s) (record (planned newest (give_of gives s) (held.each s (sub s is)).sb) { sb_csum = csum })
  new_suited s is csum =
      let k = held.each s (sub s is) in
      stamped-suited newest (scope.sizes.sectors s) csum (planned newest (give_of gives s) k.sb)
      (planned-suited scope former (own_in own s) s d k held.sound held.table newest (give_of gives s) fit.size table)

  pub other_suited : (s : ℕ) (sb : Sb) → s < scope.sizes.slots → has_slot left s ≡ false → MayRead scope d s (Some sb) → IsSuited newest (scope.sizes.sectors s) sb
  other_suited s sb there none m =
      other-later former newest (scope.sizes.sectors s) s sb fit.sound fit.later (λ role h. fit.role s role (Some sb) there none h m) (known_suited s sb there m)

  other_part : (s : ℕ) (found : Option Sb) → s < scope.sizes.slots → has_slot left s ≡ false → MayRead scope d s found → HaveSamePart newest (scope.sizes.sectors s) lost s found (known_at left own' s)
  other_part s found there none m =
      subst (λ (y : Option Sb). HaveSamePart newest (scope.sizes.sectors s) lost s found y) (sym (ap (λ b. cond b (own_in own' s) None) none))
      (no-part newest (scope.sizes.sectors s) lost s found (λ role h. fit.role s role found there none h m) (λ left_. fit.spare s found there none left_ m))

  -- a number that another slot's superblock has
  pub other_shows : (s : ℕ) (a : Sb) → MayRead scope d s (Some a) → is_fresh newest a ≡ true → (b : Sb) × Shows scope known own d s b × (is_fresh former b ≡ true) × (b.dev_number ≡ a.dev_number)
  other_shows s a m fresh = ⊎_elim
      (λ is.
      let k = held.each s is in
      let r = k.reads (Some a) m in
      let same : record r.0 { sb_csum = r.1.0 } ≡ a = (let both = r.1.1 in cc) in
      (k.sb, inl (is, k.own), k.fresh, sym r.2.number ∙ ap (λ (z : Sb). z.dev_number) same))
      (λ none. (a, inr (none, m), fresh_back newest.events former.events a.events fit.later fresh, refl)) (by_bool (has_slot known s))

  module _ (c : Contents)
      (each : (s : ℕ) (is : has_slot left s ≡ true) → ReadsLevel former (held.each s (sub s is)).sb (own_at scope s (c s)) ⊎ ReadsNew s is (own_at scope s (c s)))
      (others : (s : ℕ) → has_slot left s ≡ false → MayRead scope d s (own_at scope s (c s)))
      (first : (s : ℕ) (is : has_slot left s ≡ true) → is_recovery (give_of gives s) ≡ true → ReadsNew s is (own_at scope s (c s)))
      (some : (s : ℕ) × (is : has_slot left s ≡ true) × ReadsNew s is (own_at scope s (c s))) where
    left_suited : (s : ℕ) (sb : Sb) → own_at scope s (c s) ≡ Some sb → has_slot left s ≡ true → IsSuited newest (scope.sizes.sectors s) sb
    left_suited s sb reads is = ⊎_elim
        (λ level.
        let k = held.each s (sub s is) in
        let same : record level.0 { sb_csum = level.1.0 } ≡ sb = (let both : Some (record level.0 { sb_csum = level.1.0 }) ≡ Some sb = sym level.1.1 ∙ reads in cc) in
        subst (IsSuited newest (scope.sizes.sectors s)) same
        (stamped-suited newest (scope.sizes.sectors s) level.1.0 level.0 (before-later scope former (own_in own s) s d k held.sound held.table newest level.0 fit.later fit.size level.2)))
        (λ new.
        let k = held.each s (sub s is) in
        let p : Sb = planned newest (give_of gives s) k.sb in
        let same : record p { sb_csum = new.0 } ≡ sb = (let both : Some (record p { sb_csum = new.0 }) ≡ Some sb = sym new.1 ∙ reads in cc) in
        subst (IsSuited newest (scope.sizes.sectors s)) same (new_suited s is new.0))
        (each s is)

    new_part : (s : ℕ) (is : has_slot left s ≡ true) → ReadsNew s is (own_at scope s (c s)) → HaveSamePart newest (scope.sizes.sectors s) lost s (own_at scope s (c s)) (known_at left own' s)
    new_part s is new =
        let k = held.each s (sub s is) in
        let p : Sb = planned newest (give_of gives s) k.sb in
        let y = kept s k.sb is k.own in
        let fresh : is_fresh newest p ≡ true = fresh_less newest.events p.events (omega (arith, (planned-of newest k.sb (give_of gives s)).events)) in
        subst (λ (x : Option Sb). HaveSamePart newest (scope.sizes.sectors s) lost s x (known_at left own' s)) (sym new.1)
        (subst (λ (z : Option Sb). HaveSamePart newest (scope.sizes.sectors s) lost s (Some (record p { sb_csum = new.0 })) z)
        (sym (ap (λ b. cond b (own_in own' s) None) is ∙ y.1))
        (part-of newest (scope.sizes.sectors s) lost s (record p { sb_csum = new.0 }) (record p { sb_csum = y.0 })
        (record { fresh = fresh; fresh' = fresh; number = refl; start = refl; recovering = refl; offset = λ recovers. refl })))

    level_part : (s : ℕ) (is : has_slot left s ≡ true) → is_recovery (give_of gives s) ≡ false → ReadsLevel former (held.each s (sub s is)).sb (own_at scope s (c s))
        → HaveSamePart newest (scope.sizes.sectors s) lost s (own_at scope s (c s)) (known_at left own' s)
    level_part s is not_first level =
        let k = held.each s (sub s is) in
        let p : Sb = planned newest (give_of gives s) k.sb in
        let y = kept s k.sb is k.own in
        let one = before-planned scope former (own_in own s) s d k held.sound held.table newest level.0 (give_of gives s) fit.later level.3 (fit.devices s k.sb is k.own not_first) level.2 in
        subst (λ (x : Option Sb). HaveSamePart newest (scope.sizes.sectors s) lost s x (known_at left own' s)) (sym level.1.1)
        (subst (λ (z : Option Sb). HaveSamePart newest (scope.sizes.sectors s) lost s (Some (record level.0 { sb_csum = level.1.0 })) z)
        (sym (ap (λ b. cond b (own_in own' s) None) is ∙ y.1))
        (part-of newest (scope.sizes.sectors s) lost s (record level.0 { sb_csum = level.1.0 }) (record p { sb_csum = y.0 })
        (record { fresh = one.fresh; fresh' = one.fresh'; number = one.number; start = one.start; recovering = one.recovering; offset = one.offset })))

    left_part : (s : ℕ) → has_slot left s ≡ true → HaveSamePart newest (scope.sizes.sectors s) lost s (own_at scope s (c s)) (known_at left own' s)
    left_part s is = ⊎_elim (λ recovery. new_part s is (first s is recovery))
        (λ none. ⊎_elim (λ level. level_part s is none level) (λ new. new_part s is new) (each s is)) (by_bool (is_recovery (give_of gives s)))

    shows_later : (s : ℕ) (a : Sb) → own_at scope s (c s) ≡ Some a → is_fresh newest a ≡ true → (b : Sb) × Shows scope known own d s b × (is_fresh former b ≡ true) × (b.dev_number ≡ a.dev_number)
    shows_later s a reads fresh = ⊎_elim
        (λ is. ⊎_elim
        (λ level.
        let k = held.each s (sub s is) in
        let same : record level.0 { sb_csum = level.1.0 } ≡ a = (let both : Some (record level.0 { sb_csum = level.1.0 }) ≡ Some a = sym level.1.1 ∙ reads in cc) in
        (k.sb, inl (sub s is, k.own), k.fresh, sym level.2.number ∙ ap (λ (z : Sb). z.dev_number) same))
        (λ new.
        let k = held.each s (sub s is) in
        let p : Sb = planned newest (give_of gives s) k.sb in
        let same : record p { sb_csum = new.0 } ≡ a = (let both : Some (record p { sb_csum = new.0 }) ≡ Some a = sym new.1 ∙ reads in cc) in
        (k.sb, inl (sub s is, k.own), k.fresh, sym (planned-of newest k.sb (give_of gives s)).number ∙ ap (λ (z : Sb). z.dev_number) same))
        (each s is))
        (λ none. other_shows s a (subst (MayRead scope d s) reads (others s none)) fresh) (by_bool (has_slot left s))

    each_suited : (slot : ℕ) (sb : Sb) → slot < scope.sizes.slots → own_at scope slot (c slot) ≡ Some sb → IsSuited newest (scope.sizes.sectors slot) sb
    each_suited slot sb there reads = ⊎_elim (λ is. left_suited slot sb reads is)
        (λ none. other_suited slot sb there none (subst (MayRead scope d slot) reads (others slot none))) (by_bool (has_slot left slot))

    -- what is as new as the planned newest is planned itself
    each_like : (slot : ℕ) (sb : Sb) → slot < scope.sizes.slots → own_at scope slot (c slot) ≡ Some sb → sb.events ≡ newest.events → IsNewestLike newest sb
    each_like slot sb there reads same = ⊎_elim
        (λ is. ⊎_elim
        (λ level.
        let was : record level.0 { sb_csum = level.1.0 } ≡ sb = (let both : Some (record level.0 { sb_csum = level.1.0 }) ≡ Some sb = sym level.1.1 ∙ reads in cc) in
        let events : level.0.events ≡ sb.events = ap (λ (z : Sb). z.events) was in
        absurd (omega (arith, events, level.3, same, fit.later)))
        (λ new.
        let k = held.each slot (sub slot is) in
        let p : Sb = planned newest (give_of gives slot) k.sb in
        let is_planned : record p { sb_csum = new.0 } ≡ sb = (let both : Some (record p { sb_csum = new.0 }) ≡ Some sb = sym new.1 ∙ reads in cc) in
        subst (IsNewestLike newest) is_planned
        (stamped-like newest new.0 p (planned-like scope former (own_in own slot) slot d k held.sound held.table newest (give_of gives slot) table fit.sound.room)))
        (each slot is))
        (λ none.
        let was = known_suited slot sb there (subst (MayRead scope d slot) reads (others slot none)) in
        absurd (omega (arith, was.events, same, fit.later)))
        (by_bool (has_slot left slot))

    later-like : AreLike scope.sizes.slots scope.sizes.sectors lost newest (λ slot. own_at scope slot (c slot)) (known_at left own')
    later-like = record {
      top =
          let k = held.each some.0 (sub some.0 some.1) in
          (some.0, record (planned newest (give_of gives some.0) k.sb) { sb_csum = some.2.0 }, k.there, some.2.1, (planned-of newest k.sb (give_of gives some.0)).events);
      first = λ slot sb there reads same none. each_like slot sb there reads same;
      suited = each_suited;
      part = λ slot there. ⊎_elim (λ is. left_part slot is) (λ none. other_part slot (own_at scope slot (c slot)) there none (others slot none)) (by_bool (has_slot left slot));
      apart = λ s t a b there there' differ is is' fresh fresh'.
          let p = shows_later s a is fresh in
          let q = shows_later t b is' fresh' in
          let numbers = held.apart s t p.0 q.0 differ p.1 q.1 p.2 q.2 in
          λ same. numbers (p.3 ∙ same ∙ sym q.3);
    }

    pub later-reads : IsReadAs scope lost (said_by scope left own' newest) c
    later-reads = read-like scope lost newest (known_at left own') c fit.sound later-like
