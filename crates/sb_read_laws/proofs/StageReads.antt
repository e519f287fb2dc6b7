-- The stages of an update, by what an image reads.
use Rattle.std.proofs.Common.{◌≡◌, ◌⊎◌, inl, inr, ⊎_elim, ℕ, ◌+◌, ◌≤◌, true, false, ◌&&◌, List, length, drop, Option, Some, refl, sym, ◌∙◌, ap, subst, arith}
use Rattle.std.specs.Prelude.{◌≢◌, ◌<◌, nat_le, bytes_eq}
use Rattle.std.proofs.lemmas.Bool.{cases_lt}
use Rattle.sb_specs.specs.raid_types_Sectors.{Sector}
use Rattle.sb_specs.specs.raid_types_Shapes.{has_slot}
use Rattle.sb_specs.specs.sb_codec_the_Sb.{Sb}
use Rattle.sb_specs.specs.bank_Tape.{Contents, IsIn}
use Rattle.sb_specs.specs.declared.change.Give.{Give}
use Rattle.sb_specs.specs.declared.change.Give.TheVariants.{Same}
use Rattle.sb_specs.specs.Reading.{Scope, is_fresh}
use Rattle.sb_specs.specs.Update.{planned, give_of, own_in, is_recovery}
use Rattle.sb_specs.specs.Writing.{IsFirstSector, IsPlanned}
use Rattle.sb_specs.specs.Reads.{IsNewestLike, IsReadAs}
use Rattle.sb_specs.specs.Held.{AreDrawn, own_at, MayRead, IsStamped, IsKnown, IsBefore, ReadsBefore, Shows, IsFirstAsNew, AreHeld, AreLevel, said_by}
use Rattle.sb_specs.specs.Stages.{IsCatchingUp, IsTaking, AreTaken, IsFitPlan, AreKept}
use Rattle.sb_specs.proofs.ReadLists.{by_bool}
use Rattle.sb_specs.proofs.HeldReads.{drawn-may_read, stamped-suited, stamped-like}
use Rattle.sb_specs.proofs.PlannedSb.{planned-of, planned-new, planned-late, joined_drop}
use Rattle.sb_specs.proofs.UpdateReads.{ReadsLevel, caught-reads, caught-like, new-reads, some-or-all, before-reads, later-reads, planned-like, planned-suited, before-planned, fresh_less, known_suited, other_suited, other_shows}

abbrev Disk : Type 0
Disk = ℕ → ℕ → List Sector

-- the superblock of a known slot
planned_here : (newest : Sb) (g : Give) (held : Option Sb) (sb : Sb) (v : Sector) → held ≡ Some sb → IsPlanned newest g held v → IsFirstSector (planned newest g sb) v
planned_here newest g held sb v is plan = subst (λ (h : Option Sb). IsPlanned newest g h v) is plan

module _ (scope : Scope) (known lost : ℕ) (former : Sb) (own : List (Option Sb)) (d : Disk) (held : AreHeld scope known lost former own d)
    (left : ℕ) (sub : (s : ℕ) → has_slot left s ≡ true → has_slot known s ≡ true) where
  before_of : {sb : Sb} {found : Option Sb} → ReadsLevel former sb found → ReadsBefore former sb found
  before_of (z, is, b, level) = (z, is, b)

  pub caught_of : (s : ℕ) (is : has_slot known s ≡ true) (at : ℕ → Sector) → IsPlanned former Same (own_in own s) (at 8) → IsIn (d s 9) (at 9) → ReadsLevel former (held.each s is).sb (own_at scope s at)
  caught_of s is at plan ninth =
      let k = held.each s is in
      caught-reads scope former (own_in own s) s d k held.sound held.table at (planned_here former Same (own_in own s) k.sb (at 8) k.own plan) ninth

  -- brought to the newest count, and saying the same as the newest
  abbrev pub IsCaught : (s : ℕ) → has_slot known s ≡ true → Option Sb → Type 0
  IsCaught s is found = ReadsLevel former (held.each s is).sb found × ((sb : Sb) → found ≡ Some sb → IsNewestLike former sb)

  is_caught : (s : ℕ) (is : has_slot known s ≡ true) (at : ℕ → Sector) → IsPlanned former Same (own_in own s) (at 8) → IsIn (d s 9) (at 9) → IsCaught s is (own_at scope s at)
  is_caught s is at plan ninth = (
    caught_of s is at plan ninth,
    λ sb reads.
        let k = held.each s is in
        caught-like scope former (own_in own s) s d k held.sound held.table at sb (planned_here former Same (own_in own s) k.sb (at 8) k.own plan) ninth reads,
  )

  same_sb : (s : ℕ) (is is' : has_slot known s ≡ true) → (held.each s is).sb ≡ (held.each s is').sb
  same_sb s is is' =
      let k = held.each s is in let k' = held.each s is' in
      let both : Some k.sb ≡ Some k'.sb = sym k.own ∙ k'.own in cc

  -- each slot has a former value, or was brought to the newest count
  module _ (c : Contents)
      (each : (s : ℕ) → (MayRead scope d s (own_at scope s (c s))) ⊎ ((is : has_slot known s ≡ true) × IsCaught s is (own_at scope s (c s)))) where
    knowns : (s : ℕ) (is : has_slot known s ≡ true) → ReadsBefore former (held.each s is).sb (own_at scope s (c s))
    knowns s is = ⊎_elim (λ m. (held.each s is).reads (own_at scope s (c s)) m)
        (λ l. subst (λ (sb : Sb). ReadsBefore former sb (own_at scope s (c s))) (same_sb s l.0 is) (before_of l.1.0)) (each s)

    others : (s : ℕ) → has_slot known s ≡ false → MayRead scope d s (own_at scope s (c s))
    others s none = ⊎_elim (λ m. m) (λ l. absurd (let both = sym l.0 ∙ none in cc)) (each s)

    top : (sb : Sb) × (own_at scope held.top.0 (c held.top.0) ≡ Some sb) × (sb.events ≡ former.events)
    top = ⊎_elim (λ m. held.top.2 (own_at scope held.top.0 (c held.top.0)) m)
        (λ l. let r = l.1.0 in (record r.0 { sb_csum = r.1.0 }, r.1.1, r.3)) (each held.top.0)

    -- the slots below the first that is as new weren't brought to the newest count
    first-new : (s : ℕ) (sb : Sb) → s < scope.sizes.slots → own_at scope s (c s) ≡ Some sb → sb.events ≡ former.events
        → ((t : ℕ) (b : Sb) → t < s → own_at scope t (c t) ≡ Some b → b.events ≢ former.events) → IsNewestLike former sb
    first-new s sb there reads same none = ⊎_elim
        (λ m. held.first s sb (record { there = there; shown = λ t. own_at scope t (c t); may = λ t low. may_before t low m; is = reads; events = same; none = none }))
        (λ l. l.1.1 sb reads) (each s)
      where
        may_before : (t : ℕ) → t ≤ s → MayRead scope d s (own_at scope s (c s)) → MayRead scope d t (own_at scope t (c t))
        may_before t low m = elim (cases_lt t s) [
          | inl before ↦ ⊎_elim (λ was. was) (λ l. absurd (let r = l.1.0 in none t (record r.0 { sb_csum = r.1.0 }) before r.1.1 r.3)) (each t)
          | inr past ↦ subst (λ (u : ℕ). MayRead scope d u (own_at scope u (c u))) (let here : s ≡ t = omega (arith, low, past) in here) m
        ]

    pub former-reads : IsReadAs scope lost (said_by scope known own former) c
    former-reads = before-reads scope known lost former own d held c knowns others top first-new

  pub held-reads : (c : Contents) → AreDrawn d c → IsReadAs scope lost (said_by scope known own former) c
  held-reads c drawn = former-reads c (λ s. inl (drawn-may_read scope d c s drawn))

  pub catching-reads : (e : Disk) (c : Contents) → IsCatchingUp former own left d e → AreDrawn e c → IsReadAs scope lost (said_by scope known own former) c
  catching-reads e c stage drawn = former-reads c (λ s. ⊎_elim
      (λ kept. inl (record { at = c s; eighth = kept; ninth = stage.ninth s (c s 9) (drawn s).1; is = refl }))
      (λ w. inr (sub s w.0, is_caught s (sub s w.0) (c s) w.1 (stage.ninth s (c s 9) (drawn s).1)))
      (stage.values s (c s 8) (drawn s).0))

  -- after it they are held as before
  module _ (e : Disk) (stage : IsCatchingUp former own left d e) where
    either_read : (s : ℕ) (found : Option Sb) → MayRead scope e s found → (MayRead scope d s found) ⊎ ((is : has_slot left s ≡ true) × IsCaught s (sub s is) found)
    either_read s found m = ⊎_elim
        (λ kept. inl (record { at = m.at; eighth = kept; ninth = stage.ninth s (m.at 9) m.ninth; is = m.is }))
        (λ w. inr (w.0, subst (IsCaught s (sub s w.0)) m.is (is_caught s (sub s w.0) m.at w.1 (stage.ninth s (m.at 9) m.ninth))))
        (stage.values s (m.at 8) m.eighth)

    pub other_read : (s : ℕ) (found : Option Sb) → has_slot known s ≡ false → MayRead scope e s found → MayRead scope d s found
    other_read s found none m = ⊎_elim (λ kept. kept) (λ w. absurd (let both = sym (sub s w.0) ∙ none in cc)) (either_read s found m)

    known-caught : (s : ℕ) → has_slot known s ≡ true → IsKnown scope former (own_in own s) s e
    known-caught s is =
        let k = held.each s is in
        record {
          sb = k.sb;
          own = k.own;
          reads = λ found m. ⊎_elim (λ kept. k.reads found kept)
              (λ w. subst (λ (sb : Sb). ReadsBefore former sb found) (same_sb s (sub s w.0) is) (before_of w.1.0)) (either_read s found m);
          second = λ sector is_in. k.second sector (stage.ninth s sector is_in);
          seen = k.seen;
          long = k.long;
          there = k.there;
          array = k.array;
          fresh = k.fresh;
          number = k.number;
          late = k.late;
          lies = k.lies;
          suited = k.suited;
        }

    shows_caught : (s : ℕ) (a : Sb) → Shows scope known own e s a → Shows scope known own d s a
    shows_caught s a (inl known_) = inl known_
    shows_caught s a (inr (none, m)) = inr (none, other_read s (Some a) none m)

    caught-first : (s : ℕ) (sb : Sb) → IsFirstAsNew scope former e s sb → IsNewestLike former sb
    caught-first s sb f = ⊎_elim
        (λ m. held.first s sb (record { there = f.there; shown = f.shown; may = λ t low. may_before t low m; is = f.is; events = f.events; none = f.none }))
        (λ w. w.1.1 sb f.is) (either_read s (f.shown s) (f.may s (omega arith)))
      where
        may_before : (t : ℕ) → t ≤ s → MayRead scope d s (f.shown s) → MayRead scope d t (f.shown t)
        may_before t low m = elim (cases_lt t s) [
          | inl before ↦ ⊎_elim (λ was. was) (λ w. absurd (let r = w.1.0 in f.none t (record r.0 { sb_csum = r.1.0 }) before r.1.1 r.3)) (either_read t (f.shown t) (f.may t low))
          | inr past ↦ subst (λ (u : ℕ). MayRead scope d u (f.shown u)) (let here : s ≡ t = omega (arith, low, past) in here) m
        ]

    pub caught-held : AreHeld scope known lost former own e
    caught-held = record {
      sound = held.sound;
      table = held.table;
      each = known-caught;
      others = λ s there none.
          let o = held.others s there none in
          record {
            suited = λ sb m. o.suited sb (other_read s (Some sb) none m);
            role = λ role found h m. o.role role found h (other_read s found none m);
            spare = λ found left_ m. o.spare found left_ (other_read s found none m);
          };
      top = (
        held.top.0,
        held.top.1,
        λ found m. ⊎_elim (λ kept. held.top.2 found kept)
            (λ w. let r = w.1.0 in (record r.0 { sb_csum = r.1.0 }, r.1.1, r.3)) (either_read held.top.0 found m),
      );
      first = caught-first;
      apart = λ s t a b differ p q fresh fresh'. held.apart s t a b differ (shows_caught s a p) (shows_caught t b q) fresh fresh';
    }

  -- ---- a round, in which what is planned is written

  module _ (level : AreLevel scope left former d) (newest : Sb) (gives : List Give) (fit : IsFitPlan scope lost former newest gives own left d)
      (own' : List (Option Sb)) (kept : AreKept newest gives own left own') where
    abbrev pub New : (s : ℕ) → has_slot left s ≡ true → Option Sb → Type 0
    New s is found = IsStamped (planned newest (give_of gives s) (held.each s (sub s is)).sb) found

    pub new_of : (s : ℕ) (is : has_slot left s ≡ true) (at : ℕ → Sector) → IsPlanned newest (give_of gives s) (own_in own s) (at 8) → IsIn (d s 9) (at 9) → New s is (own_at scope s at)
    new_of s is at plan ninth =
        let k = held.each s (sub s is) in
        new-reads scope former (own_in own s) s d k held.sound held.table newest (give_of gives s) at (omega (arith, fit.table)) (planned_here newest (give_of gives s) (own_in own s) k.sb (at 8) k.own plan) ninth

    level_of : (s : ℕ) (is : has_slot left s ≡ true) (found : Option Sb) → MayRead scope d s found → ReadsLevel former (held.each s (sub s is)).sb found
    level_of s is found m =
        let r = (held.each s (sub s is)).reads found m in
        let l = level s found is m in
        let same : l.0 ≡ record r.0 { sb_csum = r.1.0 } = (let both : Some l.0 ≡ Some (record r.0 { sb_csum = r.1.0 }) = sym l.1 ∙ r.1.1 in cc) in
        (r.0, r.1, r.2, ap (λ (z : Sb). z.events) (sym same) ∙ l.2)

    -- what a written slot may have is as new as the former newest, or planned
    round_read : (e : Disk) → IsTaking newest gives own left d e → (s : ℕ) (is : has_slot left s ≡ true) (found : Option Sb) → MayRead scope e s found
        → (MayRead scope d s found) ⊎ New s is found
    round_read e stage s is found m = ⊎_elim
        (λ former_. inl (record { at = m.at; eighth = former_; ninth = stage.ninth s (m.at 9) m.ninth; is = m.is }))
        (λ w. inr (subst (λ (x : Option Sb). New s is x) m.is (new_of s is m.at w.1 (stage.ninth s (m.at 9) m.ninth))))
        (stage.values s (m.at 8) m.eighth)

    round_other : (e : Disk) → IsTaking newest gives own left d e → (s : ℕ) (found : Option Sb) → has_slot left s ≡ false → MayRead scope e s found → MayRead scope d s found
    round_other e stage s found none m = ⊎_elim
        (λ former_. record { at = m.at; eighth = former_; ninth = stage.ninth s (m.at 9) m.ninth; is = m.is })
        (λ w. absurd (let both = sym w.0 ∙ none in cc))
        (stage.values s (m.at 8) m.eighth)

    module _ (e : Disk) (c : Contents) (stage : IsTaking newest gives own left d e) (drawn : AreDrawn e c) where
      either : (s : ℕ) (is : has_slot left s ≡ true) → ReadsLevel former (held.each s (sub s is)).sb (own_at scope s (c s)) ⊎ New s is (own_at scope s (c s))
      either s is = ⊎_elim (λ m. inl (level_of s is (own_at scope s (c s)) m)) (λ new. inr new) (round_read e stage s is (own_at scope s (c s)) (drawn-may_read scope e c s drawn))

      kept_other : (s : ℕ) → has_slot left s ≡ false → MayRead scope d s (own_at scope s (c s))
      kept_other s none = round_other e stage s (own_at scope s (c s)) none (drawn-may_read scope e c s drawn)

      abbrev AllLevel : ℕ → Type 0
      AllLevel s = has_slot left s ≡ true → MayRead scope d s (own_at scope s (c s))

      abbrev SomeNew : ℕ → Type 0
      SomeNew s = (is : has_slot left s ≡ true) × New s is (own_at scope s (c s))

      level_or_new : (s : ℕ) → AllLevel s ⊎ SomeNew s
      level_or_new s = ⊎_elim
          (λ is. ⊎_elim (λ m. inl (λ is'. m)) (λ new. inr (is, new)) (round_read e stage s is (own_at scope s (c s)) (drawn-may_read scope e c s drawn)))
          (λ none. inl (λ is. absurd (let both = sym is ∙ none in cc))) (by_bool (has_slot left s))

      clash : (r : ℕ) (is : has_slot left r ≡ true) → New r is (own_at scope r (c r)) → ReadsLevel former (held.each r (sub r is)).sb (own_at scope r (c r)) → ⊥
      clash r is new l =
          let k = held.each r (sub r is) in
          let p : Sb = planned newest (give_of gives r) k.sb in
          let same : record p { sb_csum = new.0 } ≡ record l.0 { sb_csum = l.1.0 } = (let both : Some (record p { sb_csum = new.0 }) ≡ Some (record l.0 { sb_csum = l.1.0 }) = sym new.1 ∙ l.1.1 in cc) in
          let events : p.events ≡ l.0.events = ap (λ (z : Sb). z.events) same in
          omega (arith, events, l.3, (planned-of newest k.sb (give_of gives r)).events, fit.later)

      -- where one is planned, so is the one that gets a recovery offset
      first : (r : ℕ) (is_r : has_slot left r ≡ true) → New r is_r (own_at scope r (c r)) → (s : ℕ) (is : has_slot left s ≡ true) → is_recovery (give_of gives s) ≡ true → New s is (own_at scope s (c s))
      first r is_r new s is recovery = ⊎_elim
          (λ others. ⊎_elim
          (λ first_r. same_slot (fit.one r s is_r is first_r recovery))
          (λ not_r. absurd (clash r is_r new (level_of r is_r (own_at scope r (c r))
          (record { at = c r; eighth = others r (c r 8) not_r (drawn r).0; ninth = stage.ninth r (c r 9) (drawn r).1; is = refl }))))
          (by_bool (is_recovery (give_of gives r))))
          (λ all. new_of s is (c s) (all s (c s 8) is recovery (drawn s).0) (stage.ninth s (c s 9) (drawn s).1)) stage.order
        where
          same_slot : r ≡ s → New s is (own_at scope s (c s))
          same_slot same =
              let k = held.each r (sub r is_r) in let k' = held.each s (sub s is) in
              let sbs : k.sb ≡ k'.sb = (let both : Some k.sb ≡ Some k'.sb = sym k.own ∙ ap (own_in own) same ∙ k'.own in cc) in
              subst (λ (sb : Sb). IsStamped (planned newest (give_of gives s) sb) (own_at scope s (c s))) sbs
              (subst (λ (t : ℕ). IsStamped (planned newest (give_of gives t) k.sb) (own_at scope t (c t))) same new)

      -- where some slot has what is planned
      pub taking-later : (r : ℕ) × (is : has_slot left r ≡ true) × New r is (own_at scope r (c r)) → IsReadAs scope lost (said_by scope left own' newest) c
      taking-later found = later-reads scope known lost former own d held newest gives left fit sub own' kept c either kept_other (first found.0 found.1 found.2) found

      pub taking-reads : IsReadAs scope lost (said_by scope known own former) c ⊎ IsReadAs scope lost (said_by scope left own' newest) c
      taking-reads = ⊎_elim
          (λ found. inr (taking-later (found.0, found.2.0, found.2.1)))
          (λ all. inl (former-reads c (λ s. ⊎_elim
          (λ is. inl (all s (held.each s (sub s is)).there is))
          (λ none. inl (kept_other s none)) (by_bool (has_slot left s)))))
          (some-or-all scope.sizes.slots AllLevel SomeNew (λ s h. level_or_new s))

    -- ---- after the round

    module _ (e : Disk) (stage : IsTaking newest gives own left d e) (taken lost' : ℕ) (whole : AreTaken newest gives own taken e) (some : (s : ℕ) × (has_slot taken s ≡ true))
        (taken_left : (s : ℕ) → has_slot taken s ≡ true → has_slot left s ≡ true) (first_taken : (s : ℕ) → has_slot left s ≡ true → is_recovery (give_of gives s) ≡ true → has_slot taken s ≡ true)
        (more : (s : ℕ) → has_slot lost s ≡ true → has_slot lost' s ≡ true) where
      pub taken_read : (s : ℕ) (is : has_slot left s ≡ true) (found : Option Sb) → has_slot taken s ≡ true → MayRead scope e s found → New s is found
      taken_read s is found is_taken m = subst (λ (x : Option Sb). New s is x) m.is (new_of s is m.at (whole s (m.at 8) is_taken m.eighth) (stage.ninth s (m.at 9) m.ninth))

      -- a planned superblock, whatever its checksum, beside the one that is kept
      planned-before : (s : ℕ) (is : has_slot left s ≡ true) (csum : ℕ) → IsBefore newest (record (planned newest (give_of gives s) (held.each s (sub s is)).sb) { sb_csum = csum }) (planned newest (give_of gives s) (held.each s (sub s is)).sb)
      planned-before s is csum =
          let k = held.each s (sub s is) in
          let p : Sb = planned newest (give_of gives s) k.sb in
          let of = planned-of newest k.sb (give_of gives s) in
          record {
            events = omega (arith, of.events);
            fresh = fresh_less newest.events p.events (omega (arith, of.events));
            number = refl;
            start = refl;
            table = refl;
            refused = refl;
            recovering = refl;
            offset = λ recovers. refl;
            late = planned-late newest k.sb p of (omega (arith, fit.table)) k.late;
          }

      level-before : (s : ℕ) (is : has_slot left s ≡ true) (csum : ℕ) (found : Option Sb) → is_recovery (give_of gives s) ≡ false → ReadsLevel former (held.each s (sub s is)).sb found
          → ReadsBefore newest (record (planned newest (give_of gives s) (held.each s (sub s is)).sb) { sb_csum = csum }) found
      level-before s is csum found none l =
          let k = held.each s (sub s is) in
          let of = planned-of newest k.sb (give_of gives s) in
          let one = before-planned scope former (own_in own s) s d k held.sound held.table newest l.0 (give_of gives s) fit.later l.3 (fit.devices s k.sb is k.own none) l.2 in (
            l.0,
            l.1,
            record {
              events = omega (arith, l.3, fit.later);
              fresh = one.fresh;
              number = one.number;
              start = one.start;
              table = l.2.table ∙ sym of.table;
              refused = l.2.refused ∙ sym of.refused;
              recovering = one.recovering;
              offset = one.offset;
              late = l.2.late;
            },
          )

      -- what is kept of a slot's superblock, and all that it is known for
      known-later : (s : ℕ) → has_slot left s ≡ true → IsKnown scope newest (own_in own' s) s e
      known-later s is =
          let k = held.each s (sub s is) in
          let p : Sb = planned newest (give_of gives s) k.sb in
          let of = planned-of newest k.sb (give_of gives s) in
          let y = kept s k.sb is k.own in
          let table : 128 ≤ length newest.dev_roles = omega (arith, fit.table) in
          let suits = planned-suited scope former (own_in own s) s d k held.sound held.table newest (give_of gives s) fit.size table in
          record {
            sb = record p { sb_csum = y.0 };
            own = y.1;
            reads = λ found m. ⊎_elim
                (λ recovery. (p, taken_read s is found (first_taken s is recovery) m, planned-before s is y.0))
                (λ none. ⊎_elim (λ former_. level-before s is y.0 found none (level_of s is found former_)) (λ new. (p, new, planned-before s is y.0)) (round_read e stage s is found m))
                (by_bool (is_recovery (give_of gives s)));
            second = λ sector is_in.
                let h = k.second sector (stage.ninth s sector is_in) in
                record { long = h.long; bytes = h.bytes; entries = h.entries ∙ sym (ap (drop 128) of.roles ∙ joined_drop newest.dev_roles k.sb.dev_roles table) };
            seen = k.seen;
            long = k.long;
            there = k.there;
            array = ap (λ u. bytes_eq u scope.uuid) of.uuid ∙ k.array;
            fresh = fresh_less newest.events p.events (omega (arith, of.events));
            number = omega (arith, k.number, of.number);
            late = (planned-new newest k.sb p of table fit.sound.room (k.suited.room k.fresh) k.late).late;
            lies = (λ i. nat_le 10 (of.start i) && nat_le (of.start i + fit.size i) (scope.sizes.sectors s)) ∙ k.lies;
            suited = stamped-suited newest (scope.sizes.sectors s) y.0 p suits;
          }

      pub shows-before : (s : ℕ) (a : Sb) → Shows scope left own' e s a → is_fresh newest a ≡ true → (b : Sb) × Shows scope known own d s b × (is_fresh former b ≡ true) × (b.dev_number ≡ a.dev_number)
      shows-before s a (inl (is, own_is)) fresh =
          let k = held.each s (sub s is) in
          let y = kept s k.sb is k.own in
          let p : Sb = planned newest (give_of gives s) k.sb in
          let same : record p { sb_csum = y.0 } ≡ a = (let both : Some (record p { sb_csum = y.0 }) ≡ Some a = sym y.1 ∙ own_is in cc) in
          (k.sb, inl (sub s is, k.own), k.fresh, sym (planned-of newest k.sb (give_of gives s)).number ∙ ap (λ (z : Sb). z.dev_number) same)
      shows-before s a (inr (none, m)) fresh = other_shows scope known lost former own d held newest gives left fit sub own' kept s a (round_other e stage s (Some a) none m) fresh

      not_more : (s : ℕ) → has_slot lost' s ≡ false → has_slot lost s ≡ false
      not_more s none = ⊎_elim (λ is. absurd (let both = sym (more s is) ∙ none in cc)) (λ is. is) (by_bool (has_slot lost s))

      -- what a slot may have that is as new as the planned newest is planned itself
      pub taken-like : (s : ℕ) (sb : Sb) → s < scope.sizes.slots → MayRead scope e s (Some sb) → sb.events ≡ newest.events → IsNewestLike newest sb
      taken-like s sb there m same = ⊎_elim
          (λ is. ⊎_elim
          (λ former_.
          let l = level_of s is (Some sb) former_ in
          let was : record l.0 { sb_csum = l.1.0 } ≡ sb = (let both = l.1.1 in cc) in
          let events : l.0.events ≡ sb.events = ap (λ (z : Sb). z.events) was in
          absurd (omega (arith, events, l.3, same, fit.later)))
          (λ new.
          let k = held.each s (sub s is) in
          let p : Sb = planned newest (give_of gives s) k.sb in
          let is_planned : record p { sb_csum = new.0 } ≡ sb = (let both = new.1 in cc) in
          subst (IsNewestLike newest) is_planned
          (stamped-like newest new.0 p (planned-like scope former (own_in own s) s d k held.sound held.table newest (give_of gives s) (omega (arith, fit.table)) fit.sound.room)))
          (round_read e stage s is (Some sb) m))
          (λ none.
          let was = known_suited scope known lost former own d held newest gives left fit sub own' kept s sb there (round_other e stage s (Some sb) none m) in
          absurd (omega (arith, was.events, same, fit.later)))
          (by_bool (has_slot left s))

      pub taken-held : AreHeld scope left lost' newest own' e
      taken-held = record {
        sound = fit.sound;
        table = fit.table;
        each = known-later;
        others = λ s there none. record {
          suited = λ sb m. other_suited scope known lost former own d held newest gives left fit sub own' kept s sb there none (round_other e stage s (Some sb) none m);
          role = λ role found h m. fit.role s role found there none h (round_other e stage s found none m);
          spare = λ found left_ m. fit.spare s found there none (not_more s left_) (round_other e stage s found none m);
        };
        top =
            let is = taken_left some.0 some.1 in
            let k = held.each some.0 (sub some.0 is) in (
              some.0,
              k.there,
              λ found m.
                  let new = taken_read some.0 is found some.1 m in
                  (record (planned newest (give_of gives some.0) k.sb) { sb_csum = new.0 }, new.1, (planned-of newest k.sb (give_of gives some.0)).events),
            );
        first = λ s sb f. taken-like s sb f.there (subst (MayRead scope e s) f.is (f.may s (omega arith))) f.events;
        apart = λ s t a b differ is is' fresh fresh'.
            let p = shows-before s a is fresh in
            let q = shows-before t b is' fresh' in
            let numbers = held.apart s t p.0 q.0 differ p.1 q.1 p.2 q.2 in
            λ same. numbers (p.3 ∙ same ∙ sym q.3);
      }

      -- those that were not lost are at the newest count
      pub taken-level : AreLevel scope taken newest e
      taken-level s found is_taken m =
          let is = taken_left s is_taken in
          let k = held.each s (sub s is) in
          let new = taken_read s is found is_taken m in
          (record (planned newest (give_of gives s) k.sb) { sb_csum = new.0 }, new.1, (planned-of newest k.sb (give_of gives s)).events)
