-- What flushes leave as it was, and the slots flushed one after another.
use Rattle.std.proofs.Common.{◌≡◌, ◌≢◌, inl, inr, ℕ, ◌+◌, ◌<◌, ◌≤◌, Bool, true, false, cond, List, [], ◌∷◌, ◌++◌, length, take, refl, sym, ap, ◌∙◌, subst, arith, take_all, le_refl, append_assoc, eqb}
use Rattle.std.proofs.lemmas.Bool.{cases_eq}
use Rattle.crash_role_laws.specs.raid_types_Shapes.{has_slot}
use Rattle.crash_role_laws.specs.raid_types_Sectors.{Sector}
use Rattle.crash_role_laws.specs.bank_the_Operation.{Operation}
use Rattle.crash_role_laws.specs.bank_the_Operation_TheVariants.{Write, Flush}
use Rattle.crash_role_laws.specs.bank_Given.{Given, IsFaulted}
use Rattle.crash_role_laws.specs.bank_Tape.{Contents, contents, disk, value_after, choices, AreFlushes}
use Rattle.crash_role_laws.proofs.bank_Laws.{value_after-append, choices-append, disk-flushed}
use Rattle.crash_role_laws.proofs.bank_Causes.{faulted_longer}
use Rattle.array_members.specs.Flushing.{OnlyFlushesAdded, OnlyItsSlotsFail}
use Rattle.array_members.specs.Flushing.{AreTried}

-- ---- flushes

value-flushed : (s k : ℕ) (v : Sector) (ops : List Operation) → AreFlushes ops → value_after s k v ops ≡ v
value-flushed s k v [] only = refl
value-flushed s k v (Flush t ∷ ops) only = value-flushed s k v ops only
value-flushed s k v (Write t j w ∷ ops) only = absurd only

one-flushed : (s k : ℕ) (v : Sector) (ops : List Operation) → AreFlushes ops → choices s k (v ∷ []) ops ≡ v ∷ []
one-flushed s k v [] only = refl
one-flushed s k v (Flush t ∷ ops) only = ap (λ l. choices s k l ops) (either (eqb t s)) ∙ one-flushed s k v ops only
  where
    either : (b : Bool) → cond b (take 1 (v ∷ [])) (v ∷ []) ≡ v ∷ []
    either true = refl
    either false = refl
one-flushed s k v (Write t j w ∷ ops) only = absurd only

flushes-both : (xs ys : List Operation) → AreFlushes xs → AreFlushes ys → AreFlushes (xs ++ ys)
flushes-both [] ys only more = more
flushes-both (Flush t ∷ xs) ys only more = flushes-both xs ys only more
flushes-both (Write t j w ∷ xs) ys only more = absurd only

pub added-both : (old mid new : List Operation) → OnlyFlushesAdded old mid → OnlyFlushesAdded mid new → OnlyFlushesAdded old new
added-both old mid new first second = (
  first.0 ++ second.0,
  flushes-both first.0 second.0 first.1 second.1,
  second.2 ∙ ap (λ l. l ++ second.0) first.2 ∙ append_assoc old first.0 second.0,
)

-- the contents at the tape's end
present-is : (start : Contents) (tape : List Operation) (s k : ℕ) → contents start tape (length tape) s k ≡ value_after s k (start s k) tape
present-is start tape s k = ap (λ l. value_after s k (start s k) l) (take_all (length tape) tape (le_refl (length tape)))

present-added : (start : Contents) (old new : List Operation) → OnlyFlushesAdded old new → (s k : ℕ)
    → contents start new (length new) s k ≡ contents start old (length old) s k
present-added start old new added s k =
    present-is start new s k
    ∙ ap (λ l. value_after s k (start s k) l) added.2
    ∙ value_after-append s k (start s k) old added.0
    ∙ value-flushed s k (value_after s k (start s k) old) added.0 added.1
    ∙ sym (present-is start old s k)

pub contents-added : (start : Contents) (old new : List Operation) → OnlyFlushesAdded old new
    → contents start new (length new) ≡ contents start old (length old)
contents-added start old new added = λ i s k. present-added start old new added s k i

-- what was flushed stays so
flushed-added : (start : Contents) (old new : List Operation) (s k : ℕ) → OnlyFlushesAdded old new
    → disk start old s k ≡ contents start old (length old) s k ∷ [] → disk start new s k ≡ contents start new (length new) s k ∷ []
flushed-added start old new s k added was =
    ap (λ l. disk start l s k) added.2
    ∙ choices-append s k (start s k ∷ []) old added.0
    ∙ ap (λ l. choices s k l added.0) was
    ∙ one-flushed s k (contents start old (length old) s k) added.0 added.1
    ∙ ap (λ v. v ∷ []) (sym (present-added start old new added s k))

flushed-here : (start : Contents) (old new : List Operation) (s k : ℕ) → new ≡ old ++ Flush s ∷ []
    → disk start new s k ≡ contents start new (length new) s k ∷ []
flushed-here start old new s k is =
    ap (λ l. disk start l s k) is ∙ disk-flushed start old s k
    ∙ ap (λ v. v ∷ []) (sym (present-is start old s k) ∙ sym (present-added start old new (Flush s ∷ [], tt, is) s k))

-- ---- slot after slot

-- another slot is passed over, flushed, or fails
module _ (tells : Type 0) (bank : Given) (tape tape' : List Operation) (n old lost lost' : ℕ) (before mid after : ℕ → ℕ)
    (was : AreTried tells bank tape n old lost before mid) (stays : has_slot lost n ≡ true → has_slot lost' n ≡ true)
    (others : (s : ℕ) → s ≢ n → has_slot lost' s ≡ has_slot lost s)
    (added : tells → OnlyFlushesAdded tape tape')
    (flushed : tells → has_slot lost' n ≡ false → tape' ≡ tape ++ Flush n ∷ [])
    (sound : has_slot lost' n ≡ false → mid n ≡ 0)
    (failed : has_slot lost' n ≡ true → has_slot lost n ≡ false → IsFaulted n mid after)
    (rose : (s : ℕ) → before s ≤ mid s) (rises : (s : ℕ) → mid s ≤ after s) where
  not_yet : (b : Bool) → has_slot lost n ≡ b → has_slot old n ≡ false → b ≡ false
  not_yet false is isn't = refl
  not_yet true is isn't = let h : n < n = was.known n is isn't in absurd (omega (arith, h))

  pub tried-step : AreTried tells bank tape' (n + 1) old lost' before after
  tried-step = record {
    flushed = λ told s k h out. elim (cases_eq s n) [
      | inl same ↦ subst (λ m. disk bank.start tape' m k ≡ contents bank.start tape' (length tape') m k ∷ []) (sym same)
          (flushed-here bank.start tape tape' n k (flushed told (subst (λ m. has_slot lost' m ≡ false) same out)))
      | inr apart ↦ flushed-added bank.start tape tape' s k (added told) (was.flushed told s k (omega arith) (sym (others s apart) ∙ out))
    ];
    sound = λ s h out. elim (cases_eq s n) [
      | inl same ↦ let none : mid n ≡ 0 = sound (subst (λ m. has_slot lost' m ≡ false) same out) in
          let none_before : before n ≡ 0 = omega (arith, none, rose n) in subst (λ m. before m ≡ 0) (sym same) none_before
      | inr apart ↦ was.sound s (omega arith) (sym (others s apart) ∙ out)
    ];
    stay = λ s is. elim (cases_eq s n) [
      | inl same ↦ subst (λ m. has_slot lost' m ≡ true) (sym same) (stays (was.stay n (subst (λ m. has_slot old m ≡ true) same is)))
      | inr apart ↦ others s apart ∙ was.stay s is
    ];
    known = λ s is isn't. elim (cases_eq s n) [
      | inl same ↦ omega arith
      | inr apart ↦ let h : s < n = was.known s (sym (others s apart) ∙ is) isn't in omega arith
    ];
    failed = λ s is isn't. elim (cases_eq s n) [
      | inl same ↦ subst (λ m. IsFaulted m before after) (sym same)
          (faulted_longer n before mid after after (rose n) (omega arith) (rises n) (failed (subst (λ m. has_slot lost' m ≡ true) same is)
          (not_yet (has_slot lost n) refl (subst (λ m. has_slot old m ≡ false) same isn't))))
      | inr apart ↦ faulted_longer s before before mid after (omega arith) (rises s) (rose s) (was.failed s (sym (others s apart) ∙ is) isn't)
    ];
  }

pub counts-on : (bank : Given) (n : ℕ) (before mid after : ℕ → ℕ) → n < bank.slots → OnlyItsSlotsFail bank before mid
    → ((s : ℕ) → mid s ≤ after s) → ((s : ℕ) → s ≢ n → after s ≡ mid s) → OnlyItsSlotsFail bank before after
counts-on bank n before mid after known was rises others = record {
  never_falls = λ s. omega (arith, was.never_falls s, rises s);
  others = λ s h. others s (λ e. absurd (omega (arith, e, h, known))) ∙ was.others s h;
}
