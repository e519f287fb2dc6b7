-- The round after one in which the slot that gets a recovery offset was lost in its own write, by what images read.
use Rattle.std.proofs.Common.{◌≡◌, ◌≢◌, ◌⊎◌, inl, inr, ⊎_elim, ℕ, ◌<◌, true, false, List, Option, Some, None, refl, sym, ◌∙◌, ap, subst, arith}
use Rattle.std.proofs.lemmas.Bool.{cases_eq}
use Rattle.sb_read_laws.specs.raid_types_Sectors.{Sector}
use Rattle.sb_read_laws.specs.raid_types_Shapes.{has_slot}
use Rattle.sb_read_laws.specs.sb_codec_the_Sb.{Sb}
use Rattle.sb_read_laws.specs.bank_Tape.{Contents, IsIn}
use Rattle.sb_read_laws.specs.sb_specs_the_Give.{Give}
use Rattle.sb_read_laws.specs.sb_specs_Reading.{Scope, Reading, is_fresh}
use Rattle.sb_read_laws.specs.sb_specs_Update.{planned, give_of, own_in, is_recovery}
use Rattle.sb_read_laws.specs.sb_specs_Writing.{IsPlanned}
use Rattle.sb_read_laws.specs.sb_specs_Reads.{IsSuited, IsReadAs, held_in, IsNewestLike}
use Rattle.sb_read_laws.specs.sb_specs_Held.{AreDrawn, own_at, MayRead, IsStamped, IsKnown, IsOther, Shows, AreHeld, AreLevel, said_by, IsFirstAsNew}
use Rattle.sb_read_laws.specs.sb_specs_Stages.{IsTaking, AreTaken, IsFitPlan}
use Rattle.sb_read_laws.specs.sb_specs_Crash.{IsRoundEnd}
use Rattle.sb_read_laws.specs.sb_specs_Losing.{IsLosing, IsLost, IsNamingAfter}
use Rattle.sb_read_laws.proofs.sb_specs_ReadLists.{by_bool}
use Rattle.sb_read_laws.proofs.sb_specs_PlannedSb.{planned-of}
use Rattle.sb_read_laws.proofs.StageReads.{new_of, taking-reads, taken-held, taken-level, shows-before, taken-like}
use Rattle.sb_update_laws.proofs.AddedReads.{put, put_is, put_here, put_slot, put_ninth, in_put, to_put}
use Rattle.sb_read_laws.proofs.MixedReads.{IsOutside, least-or-all, planned-fitting, old-less, mixed-reads}
use Rattle.sb_update_laws.proofs.LosingReads.{held, rest_apart, rest_left, rest_sub, rest_level, still, fit, narrow, new-reads}

abbrev Disk : Type 0
Disk = ℕ → ℕ → List Sector

-- with more lost slots
more-read : (scope : Scope) (lost lost' : ℕ) (q : Reading) (c : Contents) → ((s : ℕ) → has_slot lost s ≡ true → has_slot lost' s ≡ true) → IsReadAs scope lost q c → IsReadAs scope lost' q c
more-read scope lost lost' q c more r = record {
  found = r.found;
  is = r.is;
  same =
      let s = r.same in
      record {
        array = s.array;
        roles = s.roles;
        spares = λ slot kept. s.spares slot (⊎_elim (λ is. absurd (let both = sym (more slot is) ∙ kept in cc)) (λ none. none) (by_bool (has_slot lost slot)));
        devices = s.devices;
        refusal = s.refusal;
      };
}

module _ (scope : Scope) (known lost gone lost' left rest taken left' slot : ℕ) (former newest named next : Sb) (gives gives' : List Give) (own own' rest_own next_own : List (Option Sb)) (d m : Disk)
    (l : IsLosing scope known lost gone left rest slot former newest named gives own own' rest_own d) (over : IsLost rest gone lost' taken slot newest named gives own d m)
    (n : IsNamingAfter scope lost' left' taken slot newest named next gives gives' own rest_own next_own d m) where
  abbrev base : AreHeld scope known gone former own d
  base = held scope known lost gone left rest slot former newest named gives own own' rest_own d l

  abbrev sub_rest : (s : ℕ) → has_slot rest s ≡ true → has_slot known s ≡ true
  sub_rest = rest_sub scope known lost gone left rest slot former newest named gives own own' rest_own d l

  abbrev level_rest : AreLevel scope rest former d
  level_rest = rest_level scope known lost gone left rest slot former newest named gives own own' rest_own d l

  apart_rest : (s : ℕ) → has_slot rest s ≡ true → s ≢ slot
  apart_rest s is = rest_apart scope known lost gone left rest slot former newest named gives own own' rest_own d l s is

  still_rest : (s : ℕ) → has_slot rest s ≡ true → is_recovery (give_of gives s) ≡ false
  still_rest s is = still scope known lost gone left rest slot former newest named gives own own' rest_own d l s (apart_rest s is)
      (rest_left scope known lost gone left rest slot former newest named gives own own' rest_own d l s is)

  abbrev Mid : Disk
  Mid = put slot (d slot 8) m

  stage1 : IsTaking named gives own rest d Mid
  stage1 = narrow scope known lost gone left rest slot former newest named gives own own' rest_own d l m over.stage

  whole1 : AreTaken named gives own taken Mid
  whole1 s v is is_in = ⊎_elim (λ here. absurd (apart_rest s (over.within s is) here.0)) (λ other. over.whole s v is other.1) (in_put slot (d slot 8) m s v is_in)

  first1 : (s : ℕ) → has_slot rest s ≡ true → is_recovery (give_of gives s) ≡ true → has_slot taken s ≡ true
  first1 s is r = absurd (let none = still_rest s is in let both = sym r ∙ none in cc)

  mid_held : AreHeld scope rest lost' named rest_own Mid
  mid_held = taken-held scope known gone former own d base rest sub_rest level_rest named gives l.fit rest_own l.kept Mid stage1 taken lost' whole1 over.some over.within first1 over.more

  sub' : (s : ℕ) → has_slot left' s ≡ true → has_slot rest s ≡ true
  sub' s is = over.within s (n.within s is)

  level' : AreLevel scope left' named Mid
  level' s found is v = taken-level scope known gone former own d base rest sub_rest level_rest named gives l.fit rest_own l.kept Mid stage1 taken lost' whole1 over.some over.within first1 over.more s found (n.within s is) v

  fit' : IsFitPlan scope lost' named next gives' rest_own left' Mid
  fit' = subst (IsFitPlan scope lost' named next gives' rest_own left') (put_is slot d m) n.fit

  apart' : (s : ℕ) → has_slot left' s ≡ true → s ≢ slot
  apart' s is = apart_rest s (sub' s is)

  out' : has_slot left' slot ≡ false
  out' = ⊎_elim (λ is. absurd (apart' slot is refl)) (λ none. none) (by_bool (has_slot left' slot))

  abbrev Half : Sb
  Half = planned newest (give_of gives slot) (base.each slot (l.round.within slot l.is_left)).sb

  -- what the slot may have
  half_of : (at : ℕ → Sector) → IsPlanned newest (give_of gives slot) (own_in own slot) (at 8) → IsIn (d slot 9) (at 9) → IsStamped Half (own_at scope slot at)
  half_of at plan ninth = new_of scope known gone former own d base left l.round.within l.round.level newest gives
      (fit scope known lost gone left rest slot former newest named gives own own' rest_own d l) own' l.round.kept slot l.is_left at plan ninth

  half_fitting : (csum : ℕ) → IsSuited next (scope.sizes.sectors slot) (record Half { sb_csum = csum })
  half_fitting csum = planned-fitting scope former (own_in own slot) slot d (base.each slot (l.round.within slot l.is_left)) newest next (give_of gives slot) csum
      (omega (arith, (fit scope known lost gone left rest slot former newest named gives own own' rest_own d l).table)) (omega (arith, l.events, fit'.later)) (fit'.size ∙ l.fit.size)

  half_idle : (role csum : ℕ) → role < 16 → held_in next role slot (Some (record Half { sb_csum = csum })) ≡ None
  half_idle role csum h = let k = base.each slot (l.round.within slot l.is_left) in n.faulty k.sb role k.own h

  half_apart : (csum : ℕ) (t : ℕ) (b : Sb) → t ≢ slot → Shows scope rest rest_own Mid t b → is_fresh named b ≡ true → b.dev_number ≢ (record Half { sb_csum = csum }).dev_number
  half_apart csum t b differ shown fresh =
      let k = base.each slot (l.round.within slot l.is_left) in
      let p = shows-before scope known gone former own d base rest sub_rest level_rest named gives l.fit rest_own l.kept Mid stage1 taken lost' whole1 over.some over.within first1 over.more t b shown fresh in
      let numbers = base.apart t slot p.0 k.sb differ p.1 (inl (l.round.within slot l.is_left, k.own)) p.2 k.fresh in
      λ same. numbers (p.3 ∙ same ∙ (planned-of newest k.sb (give_of gives slot)).number)

  module _ (e : Disk) (stage : IsTaking next gives' rest_own left' m e) where
    abbrev Now : Disk
    Now = put slot (d slot 8) e

    -- with the slot's former sector alone
    narrow' : IsTaking next gives' rest_own left' Mid Now
    narrow' = record {
      values = λ s v is_in. ⊎_elim
          (λ here. inl (subst (λ (t : ℕ). IsIn (Mid t 8) v) (sym here.0) (subst (λ (x : List Sector). IsIn x v) (sym (put_here slot (d slot 8) m)) here.1)))
          (λ other. ⊎_elim (λ was. inl (subst (λ (x : List Sector). IsIn x v) (sym (put_slot slot (d slot 8) m s 8 other.0)) was)) (λ w. inr w) (stage.values s v other.1))
          (in_put slot (d slot 8) e s v is_in);
      order = inr (λ s v is r is_in. absurd (let none = n.none s is in let both = sym r ∙ none in cc));
      ninth = λ s v is_in. subst (λ (x : List Sector). IsIn x v) (sym (put_ninth slot (d slot 8) m s)) (stage.ninth s v (subst (λ (x : List Sector). IsIn x v) (put_ninth slot (d slot 8) e s) is_in));
    }

    -- what the slot has now: a former value, or its half
    slot_value : (v : Sector) → IsIn (e slot 8) v → IsIn (d slot 8) v ⊎ IsPlanned newest (give_of gives slot) (own_in own slot) v
    slot_value v is_in = ⊎_elim (λ was. over.stage.half v was) (λ w. absurd (let both = sym w.0 ∙ out' in cc)) (stage.values slot v is_in)

    slot_ninth : (v : Sector) → IsIn (e slot 9) v → IsIn (d slot 9) v
    slot_ninth v is_in = over.stage.ninth slot v (stage.ninth slot v is_in)

    module _ (c : Contents) (drawn : AreDrawn e c) where
      narrow_drawn : IsIn (d slot 8) (c slot 8) → AreDrawn Now c
      narrow_drawn was s = (
        elim (cases_eq s slot) [
          | inl same ↦ subst (λ (t : ℕ). IsIn (Now t 8) (c t 8)) (sym same) (subst (λ (x : List Sector). IsIn x (c slot 8)) (sym (put_here slot (d slot 8) e)) was)
          | inr other ↦ subst (λ (x : List Sector). IsIn x (c s 8)) (sym (put_slot slot (d slot 8) e s 8 other)) (drawn s).0
        ],
        subst (λ (x : List Sector). IsIn x (c s 9)) (sym (put_ninth slot (d slot 8) e s)) (drawn s).1,
      )

      module _ (plan : IsPlanned newest (give_of gives slot) (own_in own slot) (c slot 8)) where
        here : IsStamped Half (own_at scope slot (c slot))
        here = half_of (c slot) plan (slot_ninth (c slot 9) (drawn slot).1)

        old_of : (s : ℕ) → s ≢ slot → IsIn (m s 8) (c s 8) → MayRead scope Mid s (own_at scope s (c s))
        old_of s differ was = to_put scope slot (d slot 8) m s (own_at scope s (c s)) differ (record { at = c s; eighth = was; ninth = stage.ninth s (c s 9) (drawn s).1; is = refl })

        next_of : (s : ℕ) (is : has_slot left' s ≡ true) → IsPlanned next (give_of gives' s) (own_in rest_own s) (c s 8) → IsStamped (planned next (give_of gives' s) (mid_held.each s (sub' s is)).sb) (own_at scope s (c s))
        next_of s is p = new_of scope rest lost' named rest_own Mid mid_held left' sub' level' next gives' fit' next_own n.kept s is (c s) p
            (subst (λ (x : List Sector). IsIn x (c s 9)) (sym (put_ninth slot (d slot 8) m s)) (stage.ninth s (c s 9) (drawn s).1))

        outside : IsOutside scope rest lost' named rest_own Mid mid_held next gives' left' fit' sub' next_own n.kept level' next refl (omega (arith, fit'.table)) fit'.devices slot c
        outside = record {
          out = out';
          lost = over.more slot l.is_gone;
          fits = λ sb reads.
              let same : record Half { sb_csum = here.0 } ≡ sb = (let both : Some (record Half { sb_csum = here.0 }) ≡ Some sb = sym here.1 ∙ reads in cc) in
              subst (λ (z : Sb). IsSuited next (scope.sizes.sectors slot) z) same (half_fitting here.0);
          role = λ role h. ap (held_in next role slot) here.1 ∙ half_idle role here.0 h;
          apart = λ sb reads t b differ shown fresh number.
              let same : record Half { sb_csum = here.0 } ≡ sb = (let both : Some (record Half { sb_csum = here.0 }) ≡ Some sb = sym here.1 ∙ reads in cc) in
              half_apart here.0 t b differ shown fresh (number ∙ sym (ap (λ (z : Sb). z.dev_number) same));
        }

        half_less : (sb : Sb) → own_at scope slot (c slot) ≡ Some sb → sb.events < next.events
        half_less sb reads =
            let k = base.each slot (l.round.within slot l.is_left) in
            let same : record Half { sb_csum = here.0 } ≡ sb = (let both : Some (record Half { sb_csum = here.0 }) ≡ Some sb = sym here.1 ∙ reads in cc) in
            let events : newest.events ≡ sb.events = sym (planned-of newest k.sb (give_of gives slot)).events ∙ ap (λ (z : Sb). z.events) same in
            omega (arith, events, l.events, fit'.later)

        abbrev Kept : ℕ → Type 0
        Kept s = IsIn (m s 8) (c s 8)

        abbrev Changed : ℕ → Type 0
        Changed s = (has_slot left' s ≡ true) × IsPlanned next (give_of gives' s) (own_in rest_own s) (c s 8)

        later : (t : ℕ) → Changed t → ((s : ℕ) → s < t → Kept s) → IsReadAs scope lost' (said_by scope left' next_own next) c
        later t (is, p) below = mixed-reads scope rest lost' named rest_own Mid mid_held next gives' left' fit' sub' next_own n.kept level' next refl (omega (arith, fit'.table)) fit'.devices slot c (inr outside)
            (λ s there differ. ⊎_elim (λ was. inl (old_of s differ was)) (λ w. inr (w.0, next_of s w.0 w.1)) (stage.values s (c s 8) (drawn s).0))
            (λ s differ is'. n.none s is') (t, is, next_of t is p)
            (λ s sb low reads. elim (cases_eq s slot) [
              | inl same ↦ half_less sb (subst (λ (x : ℕ). own_at scope x (c x) ≡ Some sb) same reads)
              | inr differ ↦ old-less scope rest lost' named rest_own Mid mid_held next gives' left' fit' sub' next_own n.kept level' next refl (omega (arith, fit'.table)) fit'.devices slot c s sb
                  (let there = (mid_held.each t (sub' t is)).there in omega (arith, low, there)) (old_of s differ (below s low)) reads
            ])

        half_reads : IsReadAs scope lost' (said_by scope left own' newest) c ⊎ (IsReadAs scope lost' (said_by scope rest rest_own named) c ⊎ IsReadAs scope lost' (said_by scope left' next_own next) c)
        half_reads = of (least-or-all scope.sizes.slots Kept Changed (λ s there. stage.values s (c s 8) (drawn s).0))
          where
            all_drawn : ((s : ℕ) → s < scope.sizes.slots → Kept s) → AreDrawn m c
            all_drawn all s = (of_value (stage.values s (c s 8) (drawn s).0), stage.ninth s (c s 9) (drawn s).1)
              where
                of_value : IsIn (m s 8) (c s 8) ⊎ ((has_slot left' s ≡ true) × IsPlanned next (give_of gives' s) (own_in rest_own s) (c s 8)) → IsIn (m s 8) (c s 8)
                of_value (inl was) = was
                of_value (inr w) = all s (mid_held.each s (sub' s w.0)).there

            of : ((t : ℕ) × (t < scope.sizes.slots) × Changed t × ((s : ℕ) → s < t → Kept s)) ⊎ ((s : ℕ) → s < scope.sizes.slots → Kept s)
                → IsReadAs scope lost' (said_by scope left own' newest) c ⊎ (IsReadAs scope lost' (said_by scope rest rest_own named) c ⊎ IsReadAs scope lost' (said_by scope left' next_own next) c)
            of (inl (t, there, changed, below)) = inr (inr (later t changed below))
            of (inr all) = ⊎_elim
                (λ r. inl (more-read scope gone lost' (said_by scope left own' newest) c over.more r))
                (λ r. inr (inl (more-read scope gone lost' (said_by scope rest rest_own named) c over.more r)))
                (new-reads scope known lost gone left rest slot former newest named gives own own' rest_own d l m over.stage c (all_drawn all) plan)

      pub after-reads : IsReadAs scope lost' (said_by scope left own' newest) c ⊎ (IsReadAs scope lost' (said_by scope rest rest_own named) c ⊎ IsReadAs scope lost' (said_by scope left' next_own next) c)
      after-reads = ⊎_elim
          (λ was. inr (taking-reads scope rest lost' named rest_own Mid mid_held left' sub' level' next gives' fit' next_own n.kept Now c narrow' (narrow_drawn was)))
          (λ plan. half_reads plan)
          (slot_value (c slot 8) (drawn slot).0)

    -- ---- after the round

    slot_read : (found : Option Sb) → MayRead scope e slot found → MayRead scope Now slot found ⊎ IsStamped Half found
    slot_read found v = ⊎_elim
        (λ was. inl (record {
          at = v.at;
          eighth = subst (λ (x : List Sector). IsIn x (v.at 8)) (sym (put_here slot (d slot 8) e)) was;
          ninth = subst (λ (x : List Sector). IsIn x (v.at 9)) (sym (put_ninth slot (d slot 8) e slot)) v.ninth;
          is = v.is;
        }))
        (λ plan. inr (subst (λ (x : Option Sb). IsStamped Half x) v.is (half_of v.at plan (slot_ninth (v.at 9) v.ninth))))
        (slot_value (v.at 8) v.eighth)

    half_suited : (csum : ℕ) → IsSuited next (scope.sizes.sectors slot) (record Half { sb_csum = csum })
    half_suited csum =
        let f = half_fitting csum in
        let k = base.each slot (l.round.within slot l.is_left) in
        let events : Half.events ≡ newest.events = (planned-of newest k.sb (give_of gives slot)).events in
        record { events = f.events; bits = f.bits; room = f.room; within = f.within; late = f.late }

    module _ (lost'' taken' : ℕ) (whole : AreTaken next gives' rest_own taken' e) (some : (s : ℕ) × (has_slot taken' s ≡ true)) (within : (s : ℕ) → has_slot taken' s ≡ true → has_slot left' s ≡ true)
        (more : (s : ℕ) → has_slot lost' s ≡ true → has_slot lost'' s ≡ true) where
      whole' : AreTaken next gives' rest_own taken' Now
      whole' s v is is_in = ⊎_elim (λ here. absurd (apart' s (within s is) here.0)) (λ other. whole s v is other.1) (in_put slot (d slot 8) e s v is_in)

      first' : (s : ℕ) → has_slot left' s ≡ true → is_recovery (give_of gives' s) ≡ true → has_slot taken' s ≡ true
      first' s is r = absurd (let none = n.none s is in let both = sym r ∙ none in cc)

      now_held : AreHeld scope left' lost'' next next_own Now
      now_held = taken-held scope rest lost' named rest_own Mid mid_held left' sub' level' next gives' fit' next_own n.kept Now narrow' taken' lost'' whole' some within first' more

      end_level : AreLevel scope taken' next e
      end_level s found is v = taken-level scope rest lost' named rest_own Mid mid_held left' sub' level' next gives' fit' next_own n.kept Now narrow' taken' lost'' whole' some within first' more
          s found is (to_put scope slot (d slot 8) e s found (apart' s (within s is)) v)

      slot_gone : has_slot lost'' slot ≡ true
      slot_gone = more slot (over.more slot l.is_gone)

      not_that : (csum s : ℕ) (a : Sb) → s ≢ slot → Shows scope left' next_own Now s a → is_fresh next a ≡ true → a.dev_number ≢ (record Half { sb_csum = csum }).dev_number
      not_that csum s a differ shown fresh number =
          let b = shows-before scope rest lost' named rest_own Mid mid_held left' sub' level' next gives' fit' next_own n.kept Now narrow' taken' lost'' whole' some within first' more s a shown fresh in
          half_apart csum s b.0 differ b.1 b.2 (b.3 ∙ number)

      slot_other : IsOther scope next lost'' slot e
      slot_other =
          let there = (base.each slot (l.round.within slot l.is_left)).there in
          let o = now_held.others slot there out' in
          record {
            suited = λ sb v. ⊎_elim (λ was. o.suited sb was)
                (λ h. let same : record Half { sb_csum = h.0 } ≡ sb = (let both : Some (record Half { sb_csum = h.0 }) ≡ Some sb = sym h.1 in cc) in
                subst (IsSuited next (scope.sizes.sectors slot)) same (half_suited h.0)) (slot_read (Some sb) v);
            role = λ role found h v. ⊎_elim (λ was. o.role role found h was) (λ y. ap (held_in next role slot) y.1 ∙ half_idle role y.0 h) (slot_read found v);
            spare = λ found kept v. absurd (let both = sym slot_gone ∙ kept in cc);
          }

      shows_now : (s : ℕ) (a : Sb) → Shows scope left' next_own e s a → (Shows scope left' next_own Now s a) ⊎ ((s ≡ slot) × ((csum : ℕ) × (record Half { sb_csum = csum } ≡ a)))
      shows_now s a (inl is) = inl (inl is)
      shows_now s a (inr (none, v)) = elim (cases_eq s slot) [
        | inl same ↦ of same (slot_read (Some a) (subst (λ (t : ℕ). MayRead scope e t (Some a)) same v))
        | inr other ↦ inl (inr (none, to_put scope slot (d slot 8) e s (Some a) other v))
      ]
        where
          of : s ≡ slot → MayRead scope Now slot (Some a) ⊎ IsStamped Half (Some a) → (Shows scope left' next_own Now s a) ⊎ ((s ≡ slot) × ((csum : ℕ) × (record Half { sb_csum = csum } ≡ a)))
          of same (inl was) = inl (inr (none, subst (λ (t : ℕ). MayRead scope Now t (Some a)) (sym same) was))
          of same (inr (csum, h)) = inr (same, (csum, (let it : Some (record Half { sb_csum = csum }) ≡ Some a = sym h in cc)))

      end_each : (s : ℕ) → has_slot left' s ≡ true → IsKnown scope next (own_in next_own s) s e
      end_each s is =
          let other = apart' s is in
          let k = now_held.each s is in
          record {
            sb = k.sb;
            own = k.own;
            reads = λ found v. k.reads found (to_put scope slot (d slot 8) e s found other v);
            second = λ sector is_in. k.second sector (subst (λ (x : List Sector). IsIn x sector) (sym (put_ninth slot (d slot 8) e s)) is_in);
            seen = k.seen;
            long = k.long;
            there = k.there;
            array = k.array;
            fresh = k.fresh;
            number = k.number;
            late = k.late;
            lies = k.lies;
            suited = k.suited;
          }

      end_first : (s : ℕ) (sb : Sb) → IsFirstAsNew scope next e s sb → IsNewestLike next sb
      end_first s sb at = elim (cases_eq s slot) [
        | inl same ↦ of (slot_read (Some sb) (subst (λ (t : ℕ). MayRead scope e t (Some sb)) same here))
        | inr other ↦ like s (to_put scope slot (d slot 8) e s (Some sb) other here) at.there
      ]
        where
          here : MayRead scope e s (Some sb)
          here = subst (MayRead scope e s) at.is (at.may s (omega arith))

          like : (t : ℕ) → MayRead scope Now t (Some sb) → t < scope.sizes.slots → IsNewestLike next sb
          like t m there = taken-like scope rest lost' named rest_own Mid mid_held left' sub' level' next gives' fit' next_own n.kept Now narrow' taken' lost'' whole' some within first' more t sb there m at.events

          of : MayRead scope Now slot (Some sb) ⊎ IsStamped Half (Some sb) → IsNewestLike next sb
          of (inl was) = like slot was (base.each slot (l.round.within slot l.is_left)).there
          of (inr (csum, half)) =
              let k = base.each slot (l.round.within slot l.is_left) in
              let events : Half.events ≡ newest.events = (planned-of newest k.sb (give_of gives slot)).events in
              let is : record Half { sb_csum = csum } ≡ sb = (let both = half in cc) in
              let same : Half.events ≡ sb.events = ap (λ (z : Sb). z.events) is in
              absurd (omega (arith, same, at.events, events, l.events, fit'.later))

      end_held : AreHeld scope left' lost'' next next_own e
      end_held = record {
        sound = now_held.sound;
        table = now_held.table;
        each = end_each;
        others = λ s there none. elim (cases_eq s slot) [
          | inl same ↦ subst (λ (t : ℕ). IsOther scope next lost'' t e) (sym same) slot_other
          | inr other ↦
              let o = now_held.others s there none in
              record {
                suited = λ sb v. o.suited sb (to_put scope slot (d slot 8) e s (Some sb) other v);
                role = λ role found h v. o.role role found h (to_put scope slot (d slot 8) e s found other v);
                spare = λ found kept v. o.spare found kept (to_put scope slot (d slot 8) e s found other v);
              }
        ];
        top = (some.0, (mid_held.each some.0 (sub' some.0 (within some.0 some.1))).there, λ found v. end_level some.0 found some.1 v);
        first = end_first;
        apart = λ s t a b differ is is' fresh fresh'. ⊎_elim
            (λ was. ⊎_elim
            (λ was'. now_held.apart s t a b differ was was' fresh fresh')
            (λ h. λ number. not_that h.1.0 s a (λ same. differ (same ∙ sym h.0)) was fresh (number ∙ ap (λ (z : Sb). z.dev_number) (sym h.1.1)))
            (shows_now t b is'))
            (λ h. ⊎_elim
            (λ was'. λ number. not_that h.1.0 t b (λ same. differ (h.0 ∙ sym same)) was' fresh' (sym number ∙ ap (λ (z : Sb). z.dev_number) (sym h.1.1)))
            (λ h'. absurd (differ (h.0 ∙ sym h'.0)))
            (shows_now t b is'))
            (shows_now s a is);
      }

  pub after-end : (e : Disk) (lost'' taken' : ℕ) → IsRoundEnd lost' lost'' left' taken' next gives' rest_own m e → AreHeld scope left' lost'' next next_own e × AreLevel scope taken' next e
  after-end e lost'' taken' end = (
    end_held e end.stage lost'' taken' end.whole end.some end.within end.more,
    end_level e end.stage lost'' taken' end.whole end.some end.within end.more,
  )
