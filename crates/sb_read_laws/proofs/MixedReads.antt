-- An image in which slots have former superblocks or such as are planned, and one slot has its own, as new or older.
use Rattle.std.proofs.Common.{◌≡◌, ◌≢◌, ◌⊎◌, inl, inr, ⊎_elim, ℕ, zero, suc, ◌+◌, ◌<◌, ◌≤◌, true, false, cond, ◌&&◌, List, length, Option, Some, None, refl, sym, ◌∙◌, ap, subst, arith}
use Rattle.std.specs.Prelude.{nat_le}
use Rattle.std.proofs.lemmas.Bool.{cases_eq, cases_lt}
use Rattle.sb_specs.specs.raid_types_Sectors.{Sector}
use Rattle.sb_specs.specs.raid_types_Shapes.{has_slot}
use Rattle.sb_specs.specs.sb_codec_the_Sb.{Sb}
use Rattle.sb_specs.specs.bank_Tape.{Contents}
use Rattle.sb_specs.specs.declared.change.Give.{Give}
use Rattle.sb_specs.specs.Reading.{Scope, is_fresh}
use Rattle.sb_specs.specs.Update.{planned, give_of, own_in, is_recovery}
use Rattle.sb_specs.specs.Reads.{IsNewestLike, HaveSamePart, IsSuited, IsReadAs, held_in, spare_in}
use Rattle.sb_specs.specs.Held.{own_at, MayRead, IsStamped, IsKnown, Shows, AreHeld, AreLevel, said_by}
use Rattle.sb_specs.specs.Stages.{IsDeviceKept, IsFitPlan, AreKept}
use Rattle.sb_specs.proofs.ReadLists.{by_bool}
use Rattle.sb_specs.proofs.HeldReads.{AreLike, read-like, stamped-suited, stamped-like, known_at, no-part}
use Rattle.sb_specs.proofs.PlannedSb.{planned-of, planned-late}
use Rattle.sb_read_laws.proofs.PlanFits.{shown-of}
use Rattle.sb_specs.proofs.UpdateReads.{part-of, fresh_less, fresh_back, before-later, before-planned, planned-like, known_suited, other_suited}

abbrev Disk : Type 0
Disk = ℕ → ℕ → List Sector

-- some number below n has the second of two properties, and all below it have the first, or all have it
pub least-or-all : (n : ℕ) (P Q : ℕ → Type 0) → ((s : ℕ) → s < n → P s ⊎ Q s) → ((t : ℕ) × (t < n) × Q t × ((s : ℕ) → s < t → P s)) ⊎ ((s : ℕ) → s < n → P s)
least-or-all zero P Q each = inr (λ s h. absurd (omega (arith, h)))
least-or-all (suc n) P Q each = of (least-or-all n P Q (λ s h. each s (omega (arith, h)))) (each n (omega arith))
  where
    of : ((t : ℕ) × (t < n) × Q t × ((s : ℕ) → s < t → P s)) ⊎ ((s : ℕ) → s < n → P s) → P n ⊎ Q n → ((t : ℕ) × (t < suc n) × Q t × ((s : ℕ) → s < t → P s)) ⊎ ((s : ℕ) → s < suc n → P s)
    of (inl (t, h, q, below)) last = inl (t, omega (arith, h), q, below)
    of (inr all) (inr q) = inl (n, omega arith, q, all)
    of (inr all) (inl p) = inr (λ s h. elim (cases_lt s n) [
      | inl below ↦ all s below
      | inr past ↦ subst P (let same : n ≡ s = omega (arith, h, past) in same) p
    ])

-- what is planned by one newest superblock fits another one that isn't older
pub planned-fitting : (scope : Scope) (former : Sb) (held : Option Sb) (slot : ℕ) (d : Disk) (k : IsKnown scope former held slot d) (other newest : Sb) (g : Give) (csum : ℕ)
    → 128 ≤ length other.dev_roles → other.events ≤ newest.events → newest.size ≡ former.size → IsSuited newest (scope.sizes.sectors slot) (record (planned other g k.sb) { sb_csum = csum })
planned-fitting scope former held slot d k other newest g csum wide le size =
    let p = planned-of other k.sb g in
    let enough = k.suited.room k.fresh in
    record {
      events = omega (arith, p.events, le);
      bits = λ fresh. p.refused ∙ k.suited.bits k.fresh;
      room = λ fresh. omega (arith, enough, p.table);
      within = λ fresh holds. (λ i. nat_le 10 (p.start i) && nat_le (p.start i + size i) (scope.sizes.sectors slot)) ∙ k.lies;
      late = λ fresh. planned-late other k.sb (planned other g k.sb) p wide k.late;
    }

module _ (scope : Scope) (known gone : ℕ) (former : Sb) (own : List (Option Sb)) (d : Disk) (held : AreHeld scope known gone former own d)
    (newest : Sb) (gives : List Give) (left : ℕ) (fit : IsFitPlan scope gone former newest gives own left d) (sub : (s : ℕ) → has_slot left s ≡ true → has_slot known s ≡ true)
    (own' : List (Option Sb)) (kept : AreKept newest gives own left own') (level : AreLevel scope left former d)
    (other : Sb) (as_late : other.events ≡ newest.events) (wide : 128 ≤ length other.dev_roles)
    (devices : (s : ℕ) (sb : Sb) → has_slot left s ≡ true → own_in own s ≡ Some sb → is_recovery (give_of gives s) ≡ false → IsDeviceKept other (give_of gives s) sb)
    (r : ℕ) (c : Contents) where
  -- what is planned by one of the newest superblocks
  abbrev pub By : Sb → (s : ℕ) → has_slot left s ≡ true → Type 0
  By by s is = IsStamped (planned by (give_of gives s) (held.each s (sub s is)).sb) (own_at scope s (c s))

  abbrev pub Old : ℕ → Type 0
  Old s = MayRead scope d s (own_at scope s (c s))

  -- the one slot, where it isn't written: it has no part in the array
  pub record IsOutside : Type 0 where
    pub out : has_slot left r ≡ false
    pub lost : has_slot gone r ≡ true
    pub fits : (sb : Sb) → own_at scope r (c r) ≡ Some sb → IsSuited newest (scope.sizes.sectors r) sb
    pub role : (role : ℕ) → role < 16 → held_in newest role r (own_at scope r (c r)) ≡ None
    pub apart : (sb : Sb) → own_at scope r (c r) ≡ Some sb → (t : ℕ) (b : Sb) → t ≢ r → Shows scope known own d t b → is_fresh former b ≡ true → b.dev_number ≢ sb.dev_number

  table : 128 ≤ length newest.dev_roles
  table = omega (arith, fit.table)

  pub old-less : (s : ℕ) (sb : Sb) → s < scope.sizes.slots → Old s → own_at scope s (c s) ≡ Some sb → sb.events < newest.events
  old-less s sb there old reads =
      let suits = (known_suited scope known gone former own d held newest gives left fit sub own' kept s sb there (subst (MayRead scope d s) reads old)).events in
      omega (arith, suits, fit.later)

  module _ (special : ((is : has_slot left r ≡ true) × By newest r is) ⊎ IsOutside)
      (each : (s : ℕ) → s < scope.sizes.slots → s ≢ r → Old s ⊎ ((is : has_slot left s ≡ true) × By other s is))
      (still : (s : ℕ) → s ≢ r → has_slot left s ≡ true → is_recovery (give_of gives s) ≡ false)
      (top : (t : ℕ) × (is : has_slot left t ≡ true) × By newest t is) (below : (s : ℕ) (sb : Sb) → s < top.0 → own_at scope s (c s) ≡ Some sb → sb.events < newest.events) where
    same_sb : (s : ℕ) (is is' : has_slot known s ≡ true) → (held.each s is).sb ≡ (held.each s is').sb
    same_sb s is is' = let k = held.each s is in let k' = held.each s is' in let both : Some k.sb ≡ Some k'.sb = sym k.own ∙ k'.own in cc

    by_is : (by : Sb) (s : ℕ) (is is' : has_slot left s ≡ true) → By by s is → By by s is'
    by_is by s is is' b = subst (λ (z : Sb). IsStamped (planned by (give_of gives s) z) (own_at scope s (c s))) (same_sb s (sub s is) (sub s is')) b

    stamped_is : (z sb : Sb) (s : ℕ) (y : IsStamped z (own_at scope s (c s))) → own_at scope s (c s) ≡ Some sb → record z { sb_csum = y.0 } ≡ sb
    stamped_is z sb s y reads = let both : Some (record z { sb_csum = y.0 }) ≡ Some sb = sym y.1 ∙ reads in cc

    old_suited : (s : ℕ) (sb : Sb) → s < scope.sizes.slots → own_at scope s (c s) ≡ Some sb → Old s → IsSuited newest (scope.sizes.sectors s) sb
    old_suited s sb there reads old = ⊎_elim
        (λ is.
        let k = held.each s (sub s is) in
        let z = k.reads (own_at scope s (c s)) old in
        subst (IsSuited newest (scope.sizes.sectors s)) (stamped_is z.0 sb s z.1 reads)
        (stamped-suited newest (scope.sizes.sectors s) z.1.0 z.0
        (before-later scope former (own_in own s) s d k held.sound held.table newest z.0 fit.later fit.size z.2)))
        (λ none. other_suited scope known gone former own d held newest gives left fit sub own' kept s sb there none (subst (MayRead scope d s) reads old))
        (by_bool (has_slot left s))

    by_suited : (by : Sb) (s : ℕ) (is : has_slot left s ≡ true) (sb : Sb) → 128 ≤ length by.dev_roles → by.events ≡ newest.events → own_at scope s (c s) ≡ Some sb → By by s is → IsSuited newest (scope.sizes.sectors s) sb
    by_suited by s is sb wide_by late reads b =
        let k = held.each s (sub s is) in
        subst (IsSuited newest (scope.sizes.sectors s)) (stamped_is (planned by (give_of gives s) k.sb) sb s b reads)
        (planned-fitting scope former (own_in own s) s d k by newest (give_of gives s) b.0 wide_by (omega (arith, late)) fit.size)

    suited : (s : ℕ) (sb : Sb) → s < scope.sizes.slots → own_at scope s (c s) ≡ Some sb → IsSuited newest (scope.sizes.sectors s) sb
    suited s sb there reads = elim (cases_eq s r) [
      | inl same ↦ subst (λ (t : ℕ). IsSuited newest (scope.sizes.sectors t) sb) (sym same) (at_r (subst (λ (t : ℕ). own_at scope t (c t) ≡ Some sb) same reads))
      | inr differ ↦ at_s (each s there differ)
    ]
      where
        at_r : own_at scope r (c r) ≡ Some sb → IsSuited newest (scope.sizes.sectors r) sb
        at_r it = ⊎_elim (λ b. by_suited newest r b.0 sb table refl it b.1) (λ o. o.fits sb it) special

        at_s : Old s ⊎ ((is : has_slot left s ≡ true) × By other s is) → IsSuited newest (scope.sizes.sectors s) sb
        at_s (inl old) = old_suited s sb there reads old
        at_s (inr (is, b)) = by_suited other s is sb wide as_late reads b

    first-new : (s : ℕ) (sb : Sb) → s < scope.sizes.slots → own_at scope s (c s) ≡ Some sb → sb.events ≡ newest.events
        → ((t : ℕ) (b : Sb) → t < s → own_at scope t (c t) ≡ Some b → b.events ≢ newest.events) → IsNewestLike newest sb
    first-new s sb there reads same none = elim (cases_lt s top.0) [
      | inl before ↦ absurd (
          let less = below s sb before reads in
          omega (arith, less, same))
      | inr past ↦
          let k = held.each top.0 (sub top.0 top.1) in
          let p : Sb = planned newest (give_of gives top.0) k.sb in
          let here : s ≡ top.0 = elim (cases_eq s top.0) [
            | inl is_top ↦ is_top
            | inr other ↦ absurd (none top.0 (record p { sb_csum = top.2.0 }) (omega (arith, past, other)) top.2.1 (planned-of newest k.sb (give_of gives top.0)).events)
          ] in
          let is : record p { sb_csum = top.2.0 } ≡ sb = stamped_is p sb top.0 top.2 (subst (λ (t : ℕ). own_at scope t (c t) ≡ Some sb) here reads) in
          subst (IsNewestLike newest) is
          (stamped-like newest top.2.0 p (planned-like scope former (own_in own top.0) top.0 d k held.sound held.table newest (give_of gives top.0) table fit.sound.room))
    ]

    -- ---- the part of each slot

    kept_at : (s : ℕ) (is : has_slot left s ≡ true) → IsStamped (planned newest (give_of gives s) (held.each s (sub s is)).sb) (known_at left own' s)
    kept_at s is = let k = held.each s (sub s is) in let y = kept s k.sb is k.own in (y.0, ap (λ b. cond b (own_in own' s) None) is ∙ y.1)

    same_part : (s : ℕ) (x y : Sb) (a b : ℕ) → own_at scope s (c s) ≡ Some (record x { sb_csum = a }) → known_at left own' s ≡ Some (record y { sb_csum = b })
        → HaveSamePart newest (scope.sizes.sectors s) gone s (Some (record x { sb_csum = a })) (Some (record y { sb_csum = b }))
        → HaveSamePart newest (scope.sizes.sectors s) gone s (own_at scope s (c s)) (known_at left own' s)
    same_part s x y a b is is' part = subst (λ (z : Option Sb). HaveSamePart newest (scope.sizes.sectors s) gone s z (known_at left own' s)) (sym is)
        (subst (λ (z : Option Sb). HaveSamePart newest (scope.sizes.sectors s) gone s (Some (record x { sb_csum = a })) z) (sym is') part)

    fresh_by : (by : Sb) (s : ℕ) (is : has_slot left s ≡ true) → by.events ≡ newest.events → is_fresh newest (planned by (give_of gives s) (held.each s (sub s is)).sb) ≡ true
    fresh_by by s is late =
        let k = held.each s (sub s is) in
        fresh_less newest.events (planned by (give_of gives s) k.sb).events (omega (arith, (planned-of by k.sb (give_of gives s)).events, late))

    old_part : (s : ℕ) (is : has_slot left s ≡ true) → is_recovery (give_of gives s) ≡ false → Old s → HaveSamePart newest (scope.sizes.sectors s) gone s (own_at scope s (c s)) (known_at left own' s)
    old_part s is none old =
        let k = held.each s (sub s is) in
        let p : Sb = planned newest (give_of gives s) k.sb in
        let y = kept_at s is in
        let z = k.reads (own_at scope s (c s)) old in
        let l = level s (own_at scope s (c s)) is old in
        let same : l.0 ≡ record z.0 { sb_csum = z.1.0 } = (let both : Some l.0 ≡ Some (record z.0 { sb_csum = z.1.0 }) = sym l.1 ∙ z.1.1 in cc) in
        let events : z.0.events ≡ former.events = ap (λ (x : Sb). x.events) (sym same) ∙ l.2 in
        let one = before-planned scope former (own_in own s) s d k held.sound held.table newest z.0 (give_of gives s) fit.later events (fit.devices s k.sb is k.own none) z.2 in
        same_part s z.0 p z.1.0 y.0 z.1.1 y.1 (part-of newest (scope.sizes.sectors s) gone s (record z.0 { sb_csum = z.1.0 }) (record p { sb_csum = y.0 })
        (record { fresh = one.fresh; fresh' = one.fresh'; number = one.number; start = one.start; recovering = one.recovering; offset = one.offset }))

    other_part : (s : ℕ) (is : has_slot left s ≡ true) → is_recovery (give_of gives s) ≡ false → By other s is → HaveSamePart newest (scope.sizes.sectors s) gone s (own_at scope s (c s)) (known_at left own' s)
    other_part s is none b =
        let k = held.each s (sub s is) in
        let o : Sb = planned other (give_of gives s) k.sb in
        let p : Sb = planned newest (give_of gives s) k.sb in
        let y = kept_at s is in
        let x = devices s k.sb is k.own none in
        let z = fit.devices s k.sb is k.own none in
        let of = planned-of other k.sb (give_of gives s) in
        let of' = planned-of newest k.sb (give_of gives s) in
        same_part s o p b.0 y.0 b.1 y.1 (part-of newest (scope.sizes.sectors s) gone s (record o { sb_csum = b.0 }) (record p { sb_csum = y.0 })
        (record {
          fresh = fresh_by other s is as_late;
          fresh' = fresh_by newest s is refl;
          number = of.number ∙ sym of'.number;
          start = of.start ∙ sym of'.start;
          recovering = x.0 ∙ sym z.0;
          offset = λ recovers. let it = sym z.0 ∙ recovers in x.1 it ∙ sym (z.1 it);
        }))

    new_part : (s : ℕ) (is : has_slot left s ≡ true) → By newest s is → HaveSamePart newest (scope.sizes.sectors s) gone s (own_at scope s (c s)) (known_at left own' s)
    new_part s is b =
        let k = held.each s (sub s is) in
        let p : Sb = planned newest (give_of gives s) k.sb in
        let y = kept_at s is in
        same_part s p p b.0 y.0 b.1 y.1 (part-of newest (scope.sizes.sectors s) gone s (record p { sb_csum = b.0 }) (record p { sb_csum = y.0 })
        (record { fresh = fresh_by newest s is refl; fresh' = fresh_by newest s is refl; number = refl; start = refl; recovering = refl; offset = λ recovers. refl }))

    none_part : (s : ℕ) → has_slot left s ≡ false → ((role : ℕ) → role < 16 → held_in newest role s (own_at scope s (c s)) ≡ None)
        → (has_slot gone s ≡ false → spare_in newest (scope.sizes.sectors s) (own_at scope s (c s)) ≡ false) → HaveSamePart newest (scope.sizes.sectors s) gone s (own_at scope s (c s)) (known_at left own' s)
    none_part s none role spare = subst (λ (y : Option Sb). HaveSamePart newest (scope.sizes.sectors s) gone s (own_at scope s (c s)) y) (sym (ap (λ b. cond b (own_in own' s) None) none))
        (no-part newest (scope.sizes.sectors s) gone s (own_at scope s (c s)) role spare)

    part : (s : ℕ) → s < scope.sizes.slots → HaveSamePart newest (scope.sizes.sectors s) gone s (own_at scope s (c s)) (known_at left own' s)
    part s there = elim (cases_eq s r) [
      | inl same ↦ subst (λ (t : ℕ). HaveSamePart newest (scope.sizes.sectors t) gone t (own_at scope t (c t)) (known_at left own' t)) (sym same) at_r
      | inr differ ↦ ⊎_elim
          (λ is. ⊎_elim (λ old. old_part s is (still s differ is) old) (λ b. other_part s is (still s differ is) (by_is other s b.0 is b.1)) (each s there differ))
          (λ none. ⊎_elim
          (λ old. none_part s none (λ role h. fit.role s role (own_at scope s (c s)) there none h old) (λ kept_. fit.spare s (own_at scope s (c s)) there none kept_ old))
          (λ b. absurd (let both = sym b.0 ∙ none in cc)) (each s there differ))
          (by_bool (has_slot left s))
    ]
      where
        at_r : HaveSamePart newest (scope.sizes.sectors r) gone r (own_at scope r (c r)) (known_at left own' r)
        at_r = ⊎_elim (λ b. new_part r b.0 b.1) (λ o. none_part r o.out o.role (λ kept_. absurd (let both = sym o.lost ∙ kept_ in cc))) special

    -- ---- the device numbers

    abbrev Shown : ℕ → Sb → Type 0
    Shown s a = (b : Sb) × Shows scope known own d s b × (is_fresh former b ≡ true) × (b.dev_number ≡ a.dev_number)

    by_shown : (by : Sb) (s : ℕ) (is : has_slot left s ≡ true) (a : Sb) → own_at scope s (c s) ≡ Some a → By by s is → Shown s a
    by_shown by s is a reads b =
        let k = held.each s (sub s is) in
        (k.sb, inl (sub s is, k.own), k.fresh, sym (planned-of by k.sb (give_of gives s)).number ∙ ap (λ (z : Sb). z.dev_number) (stamped_is (planned by (give_of gives s) k.sb) a s b reads))

    shown : (s : ℕ) (a : Sb) → s < scope.sizes.slots → s ≢ r → own_at scope s (c s) ≡ Some a → is_fresh newest a ≡ true → Shown s a
    shown s a there differ reads fresh = ⊎_elim
        (λ old. shown-of scope known gone former own d held s a (subst (MayRead scope d s) reads old) (fresh_back newest.events former.events a.events fit.later fresh))
        (λ b. by_shown other s b.0 a reads b.1) (each s there differ)

    -- the one slot's number is no other's
    apart_r : (a : Sb) → own_at scope r (c r) ≡ Some a → (t : ℕ) (b : Sb) → t < scope.sizes.slots → t ≢ r → own_at scope t (c t) ≡ Some b → is_fresh newest a ≡ true → is_fresh newest b ≡ true → b.dev_number ≢ a.dev_number
    apart_r a reads t b there differ reads' fresh fresh' =
        let q = shown t b there differ reads' fresh' in
        ⊎_elim
        (λ s.
        let p = by_shown newest r s.0 a reads s.1 in
        let numbers = held.apart t r q.0 p.0 differ q.1 p.1 q.2 p.2 in
        λ same. numbers (q.3 ∙ same ∙ sym p.3))
        (λ o. λ same. o.apart a reads t q.0 differ q.1 q.2 (q.3 ∙ same)) special

    mixed-like : AreLike scope.sizes.slots scope.sizes.sectors gone newest (λ slot. own_at scope slot (c slot)) (known_at left own')
    mixed-like = record {
      top =
          let k = held.each top.0 (sub top.0 top.1) in
          (top.0, record (planned newest (give_of gives top.0) k.sb) { sb_csum = top.2.0 }, k.there, top.2.1, (planned-of newest k.sb (give_of gives top.0)).events);
      first = first-new;
      suited = suited;
      part = part;
      apart = λ s t a b there there' differ is is' fresh fresh'. elim (cases_eq s r) [
        | inl here ↦ λ same. apart_r a (subst (λ (x : ℕ). own_at scope x (c x) ≡ Some a) here is) t b there' (λ e. differ (here ∙ sym e)) is' fresh fresh' (sym same)
        | inr other_s ↦ elim (cases_eq t r) [
          | inl here ↦ apart_r b (subst (λ (x : ℕ). own_at scope x (c x) ≡ Some b) here is') s a there other_s is fresh' fresh
          | inr other_t ↦
              let p = shown s a there other_s is fresh in
              let q = shown t b there' other_t is' fresh' in
              let numbers = held.apart s t p.0 q.0 differ p.1 q.1 p.2 q.2 in
              λ same. numbers (p.3 ∙ same ∙ sym q.3)
        ]
      ];
    }

    pub mixed-reads : IsReadAs scope gone (said_by scope left own' newest) c
    mixed-reads = read-like scope gone newest (known_at left own') c fit.sound mixed-like
