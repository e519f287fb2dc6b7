-- One slot after the other is filled.
use Rattle.std.proofs.Common.{◌≡◌, ◌≢◌, inl, inr, ℕ, ◌+◌, ◌^◌, ◌<◌, ◌≤◌, List, [], ◌∷◌, length, set, get_or, replicate, Option, Some, None, refl, sym, ap, ◌∙◌, subst, arith, length-set, get_or-set_same, get_or-set_other}
use Rattle.std.proofs.lemmas.Bool.{cases_eq, cases_lt}
use Rattle.std.proofs.lemmas.List.{get_or-replicate, get_or_past, length-replicate}
use Rattle.array_found_laws.specs.raid_types_Sectors.{zero_sector}
use Rattle.array_found_laws.specs.sb_codec_the_Sb.{Sb}
use Rattle.bank.specs.declared.bank.Operation.{Operation}
use Rattle.bank.specs.Given.{Given, IsFaulted}
use Rattle.bank.specs.Tape.{Contents, contents, disk}
use Rattle.bank.proofs.Causes.{faulted_longer}
use Rattle.array_create_assemble.specs.declared.spec.CreateSpec.{CreateSpec}
use Rattle.array_create_assemble.specs.Filling.{IsSlotDone, IsMade, AreFirst, AreSlotsDone, OnlyFirstFail, AreZeros, IsStored, AreStored}
use Rattle.array_create_assemble.proofs.FillLaws.{present-same, flushed-same}

-- ---- what the slots hold

pub slots-none : (start : Contents) (tape : List Operation) → AreSlotsDone start 0 tape tape
slots-none start tape = record { flushed = λ given was. was; others = λ s k h. refl }

module _ (start : Contents) (n : ℕ) (old mid new : List Operation) where
  pub slots-more : AreSlotsDone start n old mid → IsSlotDone start mid new n → AreSlotsDone start (n + 1) old new
  slots-more was done = record {
    flushed = λ given then s k is. elim (cases_eq s n) [
      | inl same ↦ subst (λ m. disk start new m k ≡ contents start new (length new) m k ∷ []) (sym same) (done.flushed k)
      | inr other ↦ flushed-same start mid new s k (done.others s k other) (was.flushed given then s k is)
    ];
    others = λ s k h. done.others s k (λ e. absurd (omega (arith, e, h))) ∙ was.others s k (omega (arith, h));
  }

  pub slots-both : AreSlotsDone start n old mid → AreSlotsDone start n mid new → AreSlotsDone start n old new
  slots-both first second = record {
    flushed = λ given was. second.flushed given (first.flushed given was);
    others = λ s k h. second.others s k h ∙ first.others s k h;
  }

pub slot-first : (start : Contents) (old new : List Operation) → IsSlotDone start old new 0 → AreSlotsDone start 1 old new
slot-first start old new done = slots-more start 0 old old new (slots-none start old) done

pub apart-present : (start : Contents) (old new : List Operation) (slot s k : ℕ) → IsSlotDone start old new slot → s ≢ slot
    → contents start new (length new) s k ≡ contents start old (length old) s k
apart-present start old new slot s k done other = present-same start old new s k (done.others s k other)

pub zeros-none : (spec : CreateSpec) (c : Contents) → AreZeros 0 spec c
zeros-none spec c slot row h = absurd (omega (arith, h))

pub zeros-more : (spec : CreateSpec) (n : ℕ) (c c' : Contents) → AreZeros n spec c → ((row : ℕ) → row < spec.size → c' n (spec.offset + row) ≡ zero_sector)
    → ((s k : ℕ) → s ≢ n → c' s k ≡ c s k) → AreZeros (n + 1) spec c'
zeros-more spec n c c' was here others slot row h lt = elim (cases_eq slot n) [
  | inl same ↦ subst (λ s. c' s (spec.offset + row) ≡ zero_sector) (sym same) (here row lt)
  | inr other ↦ others slot (spec.offset + row) other ∙ was slot row (omega (arith, h, other)) lt
]

-- ---- which counts rose

pub counts-none : (faults : ℕ → ℕ) → OnlyFirstFail 0 faults faults
counts-none faults = record { never_falls = λ s. omega arith; others = λ s h. refl }

module _ (n : ℕ) (before mid after : ℕ → ℕ) where
  pub counts-more : OnlyFirstFail n before mid → ((s : ℕ) → mid s ≤ after s) → ((s : ℕ) → s ≢ n → after s ≡ mid s) → OnlyFirstFail (n + 1) before after
  counts-more was rises others = record {
    never_falls = λ s. omega (arith, was.never_falls s, rises s);
    others = λ s h. others s (λ e. absurd (omega (arith, e, h))) ∙ was.others s (omega (arith, h));
  }

pub counts-wider : (n m : ℕ) (before after : ℕ → ℕ) → n ≤ m → OnlyFirstFail n before after → OnlyFirstFail m before after
counts-wider n m before after le was = record { never_falls = was.never_falls; others = λ s h. was.others s (omega (arith, le, h)) }

pub fault-later : (s : ℕ) (before mid after : ℕ → ℕ) → before s ≤ mid s → mid s ≤ after s → IsFaulted s mid after → IsFaulted s before after
fault-later s before mid after rose rises failed = faulted_longer s before mid after after rose (omega arith) rises failed

-- ---- the superblocks

pub first-none : (bank : Given) (spec : CreateSpec) (own : List (Option Sb)) → own ≡ replicate 32 None → AreFirst bank spec 0 own
first-none bank spec own none = record {
  count = ap (λ l. length l) none ∙ length-replicate {A = Option Sb} 32 None;
  made = λ s h. absurd (omega (arith, h));
  none = λ s h. ap (λ l. get_or l s None) none ∙ empty s;
  short = λ s h. absurd (omega (arith, h));
}
  where
    empty : (s : ℕ) → ◌≡◌ {A = Option Sb} (get_or (replicate 32 None) s None) None
    empty s = elim (cases_lt s 32) [ inl below ↦ get_or-replicate 32 s None None below | inr past ↦ get_or_past (replicate 32 None) s None past ]

module _ (bank : Given) (spec : CreateSpec) (n : ℕ) (own own' : List (Option Sb)) (sb : Sb) (few : n < 32) (was : AreFirst bank spec n own) (is : own' ≡ set own n (Some sb)) where
  pub set-here : get_or own' n None ≡ Some sb
  set-here = ap (λ l. get_or l n None) is ∙ get_or-set_same own n (Some sb) None (omega (arith, few, was.count))

  pub set-other : (s : ℕ) → s ≢ n → get_or own' s None ≡ get_or own s None
  set-other s other = ap (λ l. get_or l s None) is ∙ get_or-set_other own n s (Some sb) None other

  pub first-more : IsMade spec n (bank.sectors n) sb → bank.sectors n < 2 ^ 64 → AreFirst bank spec (n + 1) own'
  first-more made short = record {
    count = ap (λ l. length l) is ∙ length-set own n (Some sb) ∙ was.count;
    made = λ s h. elim (cases_eq s n) [
      | inl same ↦ subst (λ m. (sb : Sb) × (get_or own' m None ≡ Some sb) × IsMade spec m (bank.sectors m) sb) (sym same) (sb, set-here, made)
      | inr other ↦ (let found = was.made s (omega (arith, h, other)) in (found.0, set-other s other ∙ found.1, found.2))
    ];
    none = λ s h. set-other s (λ e. absurd (omega (arith, e, h))) ∙ was.none s (omega (arith, h));
    short = λ s h. elim (cases_eq s n) [
      | inl same ↦ subst (λ m. bank.sectors m < 2 ^ 64) (sym same) short
      | inr other ↦ was.short s (omega (arith, h, other))
    ];
  }

pub stored-none : (bank : Given) (own : List (Option Sb)) (c : Contents) → AreStored bank 0 own c
stored-none bank own c slot h = absurd (omega (arith, h))

pub stored-more : (bank : Given) (n : ℕ) (own own' : List (Option Sb)) (c c' : Contents) → AreStored bank n own c
    → IsStored (bank.sectors n) (c' n) (get_or own' n None)
    → ((s : ℕ) → s ≢ n → get_or own' s None ≡ get_or own s None) → ((s k : ℕ) → s ≢ n → c' s k ≡ c s k) → AreStored bank (n + 1) own' c'
stored-more bank n own own' c c' was here kept others slot h = elim (cases_eq slot n) [
  | inl same ↦ subst (λ s. IsStored (bank.sectors s) (c' s) (get_or own' s None)) (sym same) here
  | inr other ↦ (let same : c' slot ≡ c slot = (λ i k. others slot k other i) in
      subst (λ f. IsStored (bank.sectors slot) f (get_or own' slot None)) (sym same)
      (subst (λ o. IsStored (bank.sectors slot) (c slot) o) (sym (kept slot other)) (was slot (omega (arith, h, other)))))
]
