-- A round in which the slot that gets a recovery offset is lost in its own write, by what images read.
use Rattle.std.proofs.Common.{◌≡◌, ◌≢◌, ◌⊎◌, inl, inr, ⊎_elim, ℕ, ◌<◌, true, false, List, Option, Some, refl, sym, ◌∙◌, ap, subst, arith}
use Rattle.std.proofs.lemmas.Bool.{cases_eq}
use Rattle.sb_read_laws.specs.raid_types_Sectors.{Sector}
use Rattle.sb_read_laws.specs.raid_types_Shapes.{has_slot}
use Rattle.sb_read_laws.specs.sb_codec_the_Sb.{Sb}
use Rattle.sb_read_laws.specs.bank_Tape.{Contents, IsIn}
use Rattle.sb_read_laws.specs.sb_specs_the_Give.{Give}
use Rattle.sb_read_laws.specs.sb_specs_Reading.{Scope}
use Rattle.sb_read_laws.specs.sb_specs_Update.{planned, give_of, own_in, is_recovery}
use Rattle.sb_read_laws.specs.sb_specs_Writing.{IsPlanned}
use Rattle.sb_read_laws.specs.sb_specs_Reads.{IsSuited, IsReadAs, held_in}
use Rattle.sb_read_laws.specs.sb_specs_Held.{AreDrawn, own_at, MayRead, IsStamped, AreHeld, AreLevel, said_by}
use Rattle.sb_read_laws.specs.sb_specs_Stages.{IsTaking, IsFitPlan}
use Rattle.sb_read_laws.specs.sb_specs_Losing.{IsLosing, IsTakingWithout}
use Rattle.sb_read_laws.proofs.sb_specs_ReadLists.{by_bool}
use Rattle.sb_read_laws.proofs.sb_specs_PlannedSb.{planned-of}
use Rattle.sb_read_laws.proofs.StageReads.{new_of, taking-reads}
use Rattle.sb_read_laws.proofs.RoundsRead.{more-held}
use Rattle.sb_update_laws.proofs.AddedReads.{put, put_here, put_slot, put_ninth, in_put}
use Rattle.sb_read_laws.proofs.MixedReads.{IsOutside, least-or-all, planned-fitting, old-less, mixed-reads}

abbrev Disk : Type 0
Disk = ℕ → ℕ → List Sector

module _ (scope : Scope) (known lost gone left rest slot : ℕ) (former newest named : Sb) (gives : List Give) (own own' rest_own : List (Option Sb)) (d : Disk)
    (l : IsLosing scope known lost gone left rest slot former newest named gives own own' rest_own d) where
  pub held : AreHeld scope known gone former own d
  held = more-held scope known lost gone former own d l.more l.round.held

  pub rest_apart : (s : ℕ) → has_slot rest s ≡ true → s ≢ slot
  rest_apart s is same = absurd (let both = sym (subst (λ (t : ℕ). has_slot rest t ≡ true) same is) ∙ l.out in cc)

  pub rest_left : (s : ℕ) → has_slot rest s ≡ true → has_slot left s ≡ true
  rest_left s is = sym (l.others s (rest_apart s is)) ∙ is

  pub rest_sub : (s : ℕ) → has_slot rest s ≡ true → has_slot known s ≡ true
  rest_sub s is = l.round.within s (rest_left s is)

  pub rest_level : AreLevel scope rest former d
  rest_level s found is m = l.round.level s found (rest_left s is) m

  slot_there : slot < scope.sizes.slots
  slot_there = (held.each slot (l.round.within slot l.is_left)).there

  -- no other slot that is written gets a recovery offset
  pub still : (s : ℕ) → s ≢ slot → has_slot left s ≡ true → is_recovery (give_of gives s) ≡ false
  still s differ is = ⊎_elim (λ r. absurd (differ (l.round.fit.one s slot is l.is_left r l.recovery))) (λ none. none) (by_bool (is_recovery (give_of gives s)))

  pub fit : IsFitPlan scope gone former newest gives own left d
  fit = record {
    sound = l.round.fit.sound;
    table = l.round.fit.table;
    later = l.round.fit.later;
    size = l.round.fit.size;
    role = l.round.fit.role;
    spare = λ s found there none kept m. l.round.fit.spare s found there none (⊎_elim (λ is. absurd (let both = sym (l.more s is) ∙ kept in cc)) (λ no. no) (by_bool (has_slot lost s))) m;
    devices = l.round.fit.devices;
    one = l.round.fit.one;
  }

  same_sb : (s : ℕ) (is is' : has_slot known s ≡ true) → (held.each s is).sb ≡ (held.each s is').sb
  same_sb s is is' = let k = held.each s is in let k' = held.each s is' in let both : Some k.sb ≡ Some k'.sb = sym k.own ∙ k'.own in cc

  module _ (e : Disk) (stage : IsTakingWithout newest named gives own rest slot d e) where
    -- with the slot's former sector alone
    pub narrow : IsTaking named gives own rest d (put slot (d slot 8) e)
    narrow = record {
      values = λ s v is_in. ⊎_elim (λ here. inl (subst (λ (t : ℕ). IsIn (d t 8) v) (sym here.0) here.1)) (λ other. stage.values s v other.0 other.1) (in_put slot (d slot 8) e s v is_in);
      order = inr (λ s v is r is_in. absurd (let none = still s (rest_apart s is) (rest_left s is) in let both = sym r ∙ none in cc));
      ninth = λ s v is_in. stage.ninth s v (subst (λ (x : List Sector). IsIn x v) (put_ninth slot (d slot 8) e s) is_in);
    }

  module _ (e : Disk) (stage : IsTakingWithout newest named gives own rest slot d e) (c : Contents) (drawn : AreDrawn e c) where
    ninth : (s : ℕ) → IsIn (d s 9) (c s 9)
    ninth s = stage.ninth s (c s 9) (drawn s).1

    narrow_drawn : IsIn (d slot 8) (c slot 8) → AreDrawn (put slot (d slot 8) e) c
    narrow_drawn was s = (
      elim (cases_eq s slot) [
        | inl same ↦ subst (λ (t : ℕ). IsIn (put slot (d slot 8) e t 8) (c t 8)) (sym same) (subst (λ (x : List Sector). IsIn x (c slot 8)) (sym (put_here slot (d slot 8) e)) was)
        | inr other ↦ subst (λ (x : List Sector). IsIn x (c s 8)) (sym (put_slot slot (d slot 8) e s 8 other)) (drawn s).0
      ],
      subst (λ (x : List Sector). IsIn x (c s 9)) (sym (put_ninth slot (d slot 8) e s)) (drawn s).1,
    )

    -- with its new one
    module _ (plan : IsPlanned newest (give_of gives slot) (own_in own slot) (c slot 8)) where
      pub new_here : IsStamped (planned newest (give_of gives slot) (held.each slot (l.round.within slot l.is_left)).sb) (own_at scope slot (c slot))
      new_here = new_of scope known gone former own d held left l.round.within l.round.level newest gives fit own' l.round.kept slot l.is_left (c slot) plan (ninth slot)

      old_of : (s : ℕ) → IsIn (d s 8) (c s 8) → MayRead scope d s (own_at scope s (c s))
      old_of s is_in = record { at = c s; eighth = is_in; ninth = ninth s; is = refl }

      rest_of : (s : ℕ) (is : has_slot rest s ≡ true) → IsPlanned named (give_of gives s) (own_in own s) (c s 8) → IsStamped (planned named (give_of gives s) (held.each s (rest_sub s is)).sb) (own_at scope s (c s))
      rest_of s is p = new_of scope known gone former own d held rest rest_sub rest_level named gives l.fit rest_own l.kept s is (c s) p (ninth s)

      left_of : (s : ℕ) (is : has_slot rest s ≡ true) → IsPlanned named (give_of gives s) (own_in own s) (c s 8) → IsStamped (planned named (give_of gives s) (held.each s (l.round.within s (rest_left s is))).sb) (own_at scope s (c s))
      left_of s is p = subst (λ (z : Sb). IsStamped (planned named (give_of gives s) z) (own_at scope s (c s))) (same_sb s (rest_sub s is) (l.round.within s (rest_left s is))) (rest_of s is p)

      abbrev Kept : ℕ → Type 0
      Kept s = (s ≢ slot) × IsIn (d s 8) (c s 8)

      abbrev Changed : ℕ → Type 0
      Changed s = (s ≡ slot) ⊎ ((s ≢ slot) × (has_slot rest s ≡ true) × IsPlanned named (give_of gives s) (own_in own s) (c s 8))

      each : (s : ℕ) → s < scope.sizes.slots → Kept s ⊎ Changed s
      each s there = elim (cases_eq s slot) [
        | inl same ↦ inr (inl same)
        | inr differ ↦ by_value differ (stage.values s (c s 8) differ (drawn s).0)
      ]
        where
          by_value : s ≢ slot → IsIn (d s 8) (c s 8) ⊎ ((has_slot rest s ≡ true) × IsPlanned named (give_of gives s) (own_in own s) (c s 8)) → Kept s ⊎ Changed s
          by_value differ (inl was) = inl (differ, was)
          by_value differ (inr w) = inr (inr (differ, w.0, w.1))

      -- where it is the lowest that is as new, the slot recovers
      recovering : ((s : ℕ) → s < slot → Kept s) → IsReadAs scope gone (said_by scope left own' newest) c
      recovering below = mixed-reads scope known gone former own d held newest gives left fit l.round.within own' l.round.kept l.round.level named l.events (omega (arith, l.fit.table))
          (λ s sb is own_is none. l.fit.devices s sb (l.others s (λ same. absurd (let r = subst (λ (t : ℕ). is_recovery (give_of gives t) ≡ false) same none in let both = sym l.recovery ∙ r in cc)) ∙ is) own_is none)
          slot c (inl (l.is_left, new_here))
          (λ s there differ. ⊎_elim (λ was. inl (old_of s was)) (λ w. inr (rest_left s w.0, left_of s w.0 w.1)) (stage.values s (c s 8) differ (drawn s).0))
          still (slot, l.is_left, new_here)
          (λ s sb low reads. old-less scope known gone former own d held newest gives left fit l.round.within own' l.round.kept l.round.level named l.events (omega (arith, l.fit.table))
          (λ s sb is own_is none. l.fit.devices s sb (l.others s (λ same. absurd (let r = subst (λ (t : ℕ). is_recovery (give_of gives t) ≡ false) same none in let both = sym l.recovery ∙ r in cc)) ∙ is) own_is none)
          slot c s sb (let there = slot_there in omega (arith, low, there)) (old_of s (below s low).1) reads)

      -- else it is named
      outside : IsOutside scope known gone former own d held named gives rest l.fit rest_sub rest_own l.kept rest_level named refl (omega (arith, l.fit.table)) l.fit.devices slot c
      outside =
          let k = held.each slot (l.round.within slot l.is_left) in
          let p : Sb = planned newest (give_of gives slot) k.sb in
          record {
            out = l.out;
            lost = l.is_gone;
            fits = λ sb reads.
                let same : record p { sb_csum = new_here.0 } ≡ sb = (let both : Some (record p { sb_csum = new_here.0 }) ≡ Some sb = sym new_here.1 ∙ reads in cc) in
                subst (λ (z : Sb). IsSuited named (scope.sizes.sectors slot) z) same
                (planned-fitting scope former (own_in own slot) slot d k newest named (give_of gives slot) new_here.0 (omega (arith, fit.table)) (omega (arith, l.events)) l.fit.size);
            role = λ role h. ap (held_in named role slot) new_here.1 ∙ l.faulty k.sb role k.own h;
            apart = λ sb reads t b differ shown fresh number.
                let same : record p { sb_csum = new_here.0 } ≡ sb = (let both : Some (record p { sb_csum = new_here.0 }) ≡ Some sb = sym new_here.1 ∙ reads in cc) in
                held.apart t slot b k.sb differ shown (inl (l.round.within slot l.is_left, k.own)) fresh k.fresh
                (number ∙ sym (ap (λ (z : Sb). z.dev_number) same) ∙ (planned-of newest k.sb (give_of gives slot)).number);
          }

      without : (t : ℕ) (is : has_slot rest t ≡ true) → IsPlanned named (give_of gives t) (own_in own t) (c t 8) → ((s : ℕ) → s < t → Kept s) → IsReadAs scope gone (said_by scope rest rest_own named) c
      without t is p below = mixed-reads scope known gone former own d held named gives rest l.fit rest_sub rest_own l.kept rest_level named refl (omega (arith, l.fit.table)) l.fit.devices slot c (inr outside)
          (λ s there differ. ⊎_elim (λ was. inl (old_of s was)) (λ w. inr (w.0, rest_of s w.0 w.1)) (stage.values s (c s 8) differ (drawn s).0))
          (λ s differ is'. still s differ (rest_left s is')) (t, is, rest_of t is p)
          (λ s sb low reads. old-less scope known gone former own d held named gives rest l.fit rest_sub rest_own l.kept rest_level named refl (omega (arith, l.fit.table)) l.fit.devices slot c s sb
          (let there = (held.each t (rest_sub t is)).there in omega (arith, low, there)) (old_of s (below s low).1) reads)

      pub new-reads : IsReadAs scope gone (said_by scope left own' newest) c ⊎ IsReadAs scope gone (said_by scope rest rest_own named) c
      new-reads = of (least-or-all scope.sizes.slots Kept Changed each)
        where
          of : ((t : ℕ) × (t < scope.sizes.slots) × Changed t × ((s : ℕ) → s < t → Kept s)) ⊎ ((s : ℕ) → s < scope.sizes.slots → Kept s)
              → IsReadAs scope gone (said_by scope left own' newest) c ⊎ IsReadAs scope gone (said_by scope rest rest_own named) c
          of (inl (t, there, inl same, below)) = inl (recovering (λ s low. below s (subst (λ (x : ℕ). s < x) (sym same) low)))
          of (inl (t, there, inr (differ, is, p), below)) = inr (without t is p below)
          of (inr all) = absurd ((all slot slot_there).0 refl)

    pub losing-reads : (IsIn (d slot 8) (c slot 8) × (IsReadAs scope gone (said_by scope known own former) c ⊎ IsReadAs scope gone (said_by scope rest rest_own named) c))
        ⊎ (IsReadAs scope gone (said_by scope left own' newest) c ⊎ IsReadAs scope gone (said_by scope rest rest_own named) c)
    losing-reads = ⊎_elim
        (λ was. inl (was, taking-reads scope known gone former own d held rest rest_sub rest_level named gives l.fit rest_own l.kept (put slot (d slot 8) e) c (narrow e stage) (narrow_drawn was)))
        (λ plan. inr (new-reads plan))
        (stage.half (c slot 8) (drawn slot).0)
