-- The device numbers that slots may bear, once one is made a spare.
use Rattle.std.proofs.Common.{◌≡◌, inl, inr, ℕ, ◌<◌, ◌==◌, ◌||◌, ◌&&◌, Bool, true, false, nat_lt, Option, Some, refl, sym, ◌∙◌, ap, subst, arith}
use Rattle.std.specs.Prelude.{MatchOption, IfSome}
use Rattle.std.specs.List.{list_any}
use Rattle.std.proofs.lemmas.Bool.{cases_eq}
use Rattle.std.proofs.lemmas.Bool.Decides.{nat_tests}
use Rattle.array_call_specs.specs.bank_Given.{Given}
use Rattle.array_call_specs.specs.sb_codec_the_Sb.{Sb}
use Rattle.array_call_specs.specs.sb_specs_the_Members.{Members}
use Rattle.array_call_specs.specs.sb_specs_Reads.{has_spare}
use Rattle.array_call_specs.specs.sb_specs_Update.{is_held_by}
use Rattle.array_call_specs.specs.crash_safety_laws_Carried.{BearsOwn, AreToldAnew}
use Rattle.array_call_specs.proofs.crash_safety_laws_Without.{live-is}
use Rattle.array_call_specs.specs.array_members_the_Work.{Work}
use Rattle.array_call_specs.specs.array_members_Numbers.{bears, bearing, free_number}
use Rattle.array_call_specs.specs.array_members_Rebuilding.{AreSparesFree, IfOwn}
use Rattle.array_call_specs.specs.Calls.{IsWorkAdded}
use Rattle.array_call_specs.proofs.history_append_BearerLaws.{bears-new, bears-other, bears-among, bears-one}

-- with the new number no more is told than is by the work that knows it
pub told-with : (slot number : ℕ) (work : Work) (s n : ℕ) (was : Bool) → slot < 32 → (was ≡ true → bears (bearing false slot number work) s n ≡ true) → (was || ((s == slot) && (n == number))) ≡ true
    → bears (bearing false slot number work) s n ≡ true
told-with slot number work s n was below before is = by was (s == slot) (n == number) before refl refl is
  where
    same-as : (a b : ℕ) → (a == b) ≡ true → a ≡ b
    same-as a b e = grind (arith, nat_tests, e)

    by : (a b c : Bool) → (a ≡ true → bears (bearing false slot number work) s n ≡ true) → (s == slot) ≡ b → (n == number) ≡ c → (a || (b && c)) ≡ true → bears (bearing false slot number work) s n ≡ true
    by true b c told here there is' = told refl
    by false true true told here there is' = (λ i. bears (bearing false slot number work) (same-as s slot here i) (same-as n number there i)) ∙ bears-new false slot number work below
    by false true false told here there is' = absurd (cc)
    by false false c told here there is' = absurd (cc)

-- once it is a spare, and its new superblock is kept, it bears the new number alone
pub told-anew : (given : Given) (new : Members) (slot number : ℕ) (sb : Sb) (work : Work) → slot < 32 → AreSparesFree given new → has_spare new.spares slot ≡ true
    → IfOwn new slot (λ own. (own.dev_number ≡ sb.dev_number) × (own.data_offset ≡ sb.data_offset)) → sb.dev_number ≡ number
    → AreToldAnew new (bears (bearing false slot number work)) (bears (bearing true slot number work))
told-anew given new slot number sb work below free has stored is s = elim (cases_eq s slot) [
  | inl same ↦ inr (subst (BearsOwn new (bears (bearing true slot number work))) (sym same) here)
  | inr other ↦ inl (λ n was. bears-other true slot number work s n other ∙ sym (bears-other false slot number work s n other) ∙ was)
]
  where
    live : (a : Bool) (t : ℕ) → t < 32 → (nat_lt t 32 && ((a || true) || false)) ≡ true
    live true t lt = grind (arith, nat_tests, lt)
    live false t lt = grind (arith, nat_tests, lt)

    here : BearsOwn new (bears (bearing true slot number work)) slot
    here = record {
      live = live-is new false slot ∙ ap (λ (b : Bool). nat_lt slot 32 && ((list_any (is_held_by slot) new.roles || b) || false)) has ∙ live (list_any (is_held_by slot) new.roles) slot below;
      there = (free slot has).unlost;
      own = λ own kept.
          let fact = subst (λ (o : Option Sb). MatchOption o ⊥ (λ own. (own.dev_number ≡ sb.dev_number) × (own.data_offset ≡ sb.data_offset))) kept stored in
          ap (bears (bearing true slot number work) slot) (fact.0 ∙ is) ∙ bears-new true slot number work below;
    }

-- ---- what a call says of them

-- nothing is done
pub work-kept : (newest : Sb) (slot : ℕ) (work : Work) → IsWorkAdded newest slot work work
work-kept newest slot work = record { resync = refl; rebuilt = refl; others = λ s number other. refl; one = λ number is. inl is }

-- the slot may bear one number more, which was free
pub work-added : (only : Bool) (newest : Sb) (slot number : ℕ) (work : Work) → free_number newest work ≡ Some number → IsWorkAdded newest slot work (bearing only slot number work)
work-added only newest slot number work free = record {
  resync = refl;
  rebuilt = refl;
  others = λ s n other. bears-other only slot number work s n other;
  one = λ n is. elim (bears-among only slot number work n is) [ inl was ↦ inl was | inr same ↦ inr (free ∙ ap (λ (k : ℕ). Some k) (sym same)) ];
}

-- or bears that one only
pub bears-free : (newest : Sb) (slot number : ℕ) (work : Work) → free_number newest work ≡ Some number → slot < 32 → IfSome (free_number newest work) (λ free. (n : ℕ) → n < 128 → bears (bearing true slot number work) slot n ≡ (n == free))
bears-free newest slot number work is below =
    subst (λ (o : Option ℕ). IfSome o (λ free. (n : ℕ) → n < 128 → bears (bearing true slot number work) slot n ≡ (n == free))) (sym is) (bears-one slot number work below)
