-- The slots that may bear device numbers, as they are worked out number by number.
use Rattle.std.proofs.Common.{◌≡◌, inl, inr, ℕ, ◌+◌, ◌^◌, ◌<◌, ◌≤◌, ◌==◌, ◌&&◌, ◌||◌, Bool, true, false, not, nat_lt, List, length, length-set, slice_set, refl, sym, ◌∙◌, ap, subst, arith}
use Rattle.std.specs.Prelude.{slice_index, if◌then◌else◌}
use Rattle.std.proofs.lemmas.Bool.{cases_eq, cases_lt}
use Rattle.std.proofs.lemmas.Bool.Decides.{nat_tests}
use Rattle.std.proofs.lemmas.List.{get_or-set_same, get_or-set_other, ext_get_or}
use Rattle.sb_safe_updates.specs.raid_types_Shapes.{has_slot}
use Rattle.sb_safe_updates.specs.raid_types_Search.{tabulate}
use Rattle.sb_safe_updates.proofs.raid_types_Tabulated.{length-tabulate, get_or-tabulate}
use Rattle.sb_safe_updates.specs.sb_specs_Outcome.{set_of}
use Rattle.sb_safe_updates.proofs.sb_specs_SlotSets.{none_above, is-set_of}
use Rattle.sb_safe_updates.specs.array_members_Numbers.{bearers}

-- ---- one number

-- a set that has these of its 32 slots
set-by : (set : ℕ) (test : ℕ → Bool) → set < 2 ^ 32 → ((s : ℕ) → s < 32 → has_slot set s ≡ test s) → set ≡ set_of 32 test
set-by set test small is = is-set_of set test (λ s. elim (cases_lt s 32) [
  | inl below ↦ is s below ∙ inside s (test s) below
  | inr above ↦ none_above set s small above ∙ outside s (test s) above
])
  where
    inside : (s : ℕ) (b : Bool) → s < 32 → b ≡ (nat_lt s 32 && b)
    inside s b lt = grind (arith, nat_tests, lt)

    outside : (s : ℕ) (b : Bool) → 32 ≤ s → false ≡ (nat_lt s 32 && b)
    outside s b le = grind (arith, nat_tests, le)

-- the slot bears it now
pub bearers-with : (only : Bool) (slot set with_it : ℕ) → with_it < 2 ^ 32 → ((s : ℕ) → has_slot with_it s ≡ (has_slot set s || (slot == s))) → with_it ≡ bearers only slot true set
bearers-with only slot set with_it small is = set-by with_it (λ s. if s == slot then true || (not only && has_slot set s) else has_slot set s) small
    (λ s lt. is s ∙ of s (has_slot set s) (not only && has_slot set s))
  where
    of : (s : ℕ) (h o : Bool) → (h || (slot == s)) ≡ (if s == slot then true || o else h)
    of s true o = elim (cases_eq s slot) [ inl same ↦ grind (arith, nat_tests, same) | inr other ↦ grind (arith, nat_tests, other) ]
    of s false o = elim (cases_eq s slot) [ inl same ↦ grind (arith, nat_tests, same) | inr other ↦ grind (arith, nat_tests, other) ]

-- it bears another one only
pub bearers-without : (slot set one rest : ℕ) → rest < 2 ^ 32 → ((s : ℕ) → has_slot one s ≡ (slot == s)) → ((s : ℕ) → s < 32 → has_slot rest s ≡ (has_slot set s && not (has_slot one s))) → rest ≡ bearers true slot false set
bearers-without slot set one rest small alone is = set-by rest (λ s. if s == slot then false || (not true && has_slot set s) else has_slot set s) small
    (λ s lt. is s lt ∙ ap (λ (b : Bool). has_slot set s && not b) (alone s) ∙ of s (has_slot set s))
  where
    of : (s : ℕ) (h : Bool) → (h && not (slot == s)) ≡ (if s == slot then false || (not true && h) else h)
    of s true = elim (cases_eq s slot) [ inl same ↦ grind (arith, nat_tests, same) | inr other ↦ grind (arith, nat_tests, other) ]
    of s false = elim (cases_eq s slot) [ inl same ↦ grind (arith, nat_tests, same) | inr other ↦ grind (arith, nat_tests, other) ]

-- or may bear another one too
pub bearers-still : (slot set : ℕ) → set < 2 ^ 32 → set ≡ bearers false slot false set
bearers-still slot set small = set-by set (λ s. if s == slot then false || (not false && has_slot set s) else has_slot set s) small (λ s lt. of (s == slot) (has_slot set s))
  where
    of : (b h : Bool) → h ≡ (if b then false || (not false && h) else h)
    of true h = refl
    of false h = refl

-- ---- all of them

-- of the numbers below this one these are the slots
pub record AreBearersOf (f : ℕ → ℕ) (done : ℕ) (carried : List ℕ) : Type 0 where
  pub long : length carried ≡ 128
  pub each : (number : ℕ) → number < done → slice_index carried number ≡ f number

pub bearers-set : (f : ℕ → ℕ) (number slots : ℕ) (carried : List ℕ) → AreBearersOf f number carried → number < 128 → slots ≡ f number → AreBearersOf f (number + 1) (slice_set carried number slots)
bearers-set f number slots carried found lt same = record {
  long = length-set carried number slots ∙ found.long;
  each = λ other below. elim (cases_eq other number) [
    | inl here ↦
        let long = found.long in
        subst (λ (n : ℕ). slice_index (slice_set carried number slots) n ≡ f n) (sym here) (get_or-set_same carried number slots 0 (omega (arith, lt, long)) ∙ same)
    | inr apart ↦ get_or-set_other carried number other slots 0 apart ∙ found.each other (omega (arith, below, apart))
  ];
}

pub bearers-all : (f : ℕ → ℕ) (carried : List ℕ) → AreBearersOf f 128 carried → carried ≡ tabulate 128 f
bearers-all f carried found =
    let long = found.long in
    ext_get_or 0 carried (tabulate 128 f) (long ∙ sym (length-tabulate 128 f))
    (λ number lt. found.each number (omega (arith, lt, long)) ∙ sym (get_or-tabulate 128 f number 0 (omega (arith, lt, long))))
