-- The slots whose superblocks were kept so far, and one more.
use Rattle.std.proofs.Common.{◌≡◌, ◌≢◌, inl, inr, ℕ, ◌+◌, ◌<◌, ◌≤◌, Bool, true, false, List, Option, None, slice_set, refl, sym, ◌∙◌, ap, subst, arith}
use Rattle.std.proofs.lemmas.Bool.{cases_eq}
use Rattle.std.proofs.lemmas.List.{get_or-set_other}
use Rattle.sb_codec.specs.declared.sb.Sb.{Sb}
use Rattle.sb_specs.specs.declared.change.Give.{Give}
use Rattle.sb_specs.specs.Update.{give_of, own_in}
use Rattle.sb_specs.specs.Outcome.{IsPlannedOwn, AreStored}

pub record Keeping (newest : Sb) (gives : List Give) (kept : ℕ → Bool) (old now : List (Option Sb)) (slot : ℕ) : Type 0 where
  pub written : (s : ℕ) → s < slot → kept s ≡ true → IsPlannedOwn newest (give_of gives s) (own_in old s) (own_in now s)
  pub others : (s : ℕ) → kept s ≡ false → own_in now s ≡ own_in old s
  pub after : (s : ℕ) → slot ≤ s → own_in now s ≡ own_in old s

pub keeping-first : (newest : Sb) (gives : List Give) (kept : ℕ → Bool) (old : List (Option Sb)) → Keeping newest gives kept old old 0
keeping-first newest gives kept old = record { written = λ s lt is. absurd (omega (arith, lt)); others = λ s is. refl; after = λ s le. refl }

-- a set leaves the other places
pub set_apart : (own : List (Option Sb)) (slot s : ℕ) (sb : Option Sb) (new : List (Option Sb)) → new ≡ slice_set own slot sb → s ≢ slot → own_in new s ≡ own_in own s
set_apart own slot s sb new is apart = ap (λ (l : List (Option Sb)). own_in l s) is ∙ get_or-set_other own slot s sb None apart

module _ {newest : Sb} {gives : List Give} {kept : ℕ → Bool} {old now : List (Option Sb)} {slot : ℕ} where
  keeping-more : (new : List (Option Sb)) (give : Give) → Keeping newest gives kept old now slot → kept slot ≡ true → give ≡ give_of gives slot
      → IsPlannedOwn newest give (own_in now slot) (own_in new slot) → new ≡ slice_set now slot (own_in new slot) → Keeping newest gives kept old new (slot + 1)
  keeping-more new give k is given here set = record {
    written = λ s lt is_s. elim (cases_eq s slot) [
      | inl same ↦ subst (λ (x : ℕ). IsPlannedOwn newest (give_of gives x) (own_in old x) (own_in new x)) (sym same)
          (subst (λ (g : Give). IsPlannedOwn newest g (own_in old slot) (own_in new slot)) given
          (subst (λ (o : Option Sb). IsPlannedOwn newest give o (own_in new slot)) (k.after slot (omega arith)) here))
      | inr apart ↦ subst (λ (o : Option Sb). IsPlannedOwn newest (give_of gives s) (own_in old s) o) (sym (set_apart now slot s (own_in new slot) new set apart)) (k.written s (omega (arith, lt, apart)) is_s)
    ];
    others = λ s none. elim (cases_eq s slot) [
      | inl same ↦ absurd (let both = sym is ∙ ap kept (sym same) ∙ none in cc)
      | inr apart ↦ set_apart now slot s (own_in new slot) new set apart ∙ k.others s none
    ];
    after = λ s le. set_apart now slot s (own_in new slot) new set (λ eq. omega (arith, le, eq)) ∙ k.after s (omega (arith, le));
  }

  pub keeping-set : (now' new : List (Option Sb)) → Keeping newest gives kept old now slot → kept slot ≡ true → now' ≡ new
      → IsPlannedOwn newest (give_of gives slot) (own_in now slot) (own_in new slot) → new ≡ slice_set now slot (own_in new slot) → Keeping newest gives kept old now' (slot + 1)
  keeping-set now' new k is same here set = subst (λ (l : List (Option Sb)). Keeping newest gives kept old l (slot + 1)) (sym same) (keeping-more new (give_of gives slot) k is refl here set)

  pub keeping-none : (new : List (Option Sb)) → Keeping newest gives kept old now slot → kept slot ≡ false → new ≡ now → Keeping newest gives kept old new (slot + 1)
  keeping-none new k none same = subst (λ (l : List (Option Sb)). Keeping newest gives kept old l (slot + 1)) (sym same) (record {
    written = λ s lt is. elim (cases_eq s slot) [
      | inl eq ↦ absurd (let both = sym is ∙ ap kept eq ∙ none in cc)
      | inr apart ↦ k.written s (omega (arith, lt, apart)) is
    ];
    others = k.others;
    after = λ s le. k.after s (omega (arith, le));
  })

  pub keeping-all : Keeping newest gives kept old now slot → ((s : ℕ) → kept s ≡ true → s < slot) → AreStored newest gives kept old now
  keeping-all k all = record { written = λ s is. k.written s (all s is) is; others = k.others }
