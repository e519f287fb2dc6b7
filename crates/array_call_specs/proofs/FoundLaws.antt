-- What is under way in an array that is found.
use Rattle.std.proofs.Common.{◌≡◌, ◌≢◌, inl, inr, ℕ, ◌+◌, ◌<◌, nat_lt, Bool, true, false, cond, List, length, Option, slice_set, refl, sym, ◌∙◌, ap, subst, arith, length-set}
use Rattle.std.specs.Prelude.{slice_index}
use Rattle.std.proofs.lemmas.Bool.{cases_eq}
use Rattle.std.proofs.lemmas.Bool.Decides.{nat_tests}
use Rattle.std.proofs.lemmas.List.{get_or-set_same, get_or-set_other, ext_get_or}
use Rattle.raid_types.specs.Search.{tabulate}
use Rattle.raid_types.proofs.Tabulated.{length-tabulate, get_or-tabulate}
use Rattle.history_append.specs.sb_codec_the_Sb.{Sb}
use Rattle.history_append.specs.sb_specs_Reading.{Reading, role_state}
use Rattle.array_call_specs.specs.Adopting.{stripes_held, found_stripes, bearers_of}

-- ---- the stripes of each role

-- so many stripes of the first roles
pub record AreStripesFound (r : Reading) (chunk disks : ℕ) (rebuilt : List ℕ) : Type 0 where
  pub long : length rebuilt ≡ 16
  pub each : (role : ℕ) → role < 16 → slice_index rebuilt role ≡ found_stripes r chunk disks role

pub no-stripes : (r : Reading) (chunk : ℕ) (rebuilt : List ℕ) → length rebuilt ≡ 16 → ((role : ℕ) → role < 16 → slice_index rebuilt role ≡ 0) → AreStripesFound r chunk 0 rebuilt
no-stripes r chunk rebuilt long none = record { long = long; each = λ role lt. none role lt ∙ nothing (nat_lt role 0) (stripes_held r chunk (role_state r role)) (grind (arith, nat_tests)) }
  where
    nothing : (b : Bool) (n : ℕ) → b ≡ false → 0 ≡ cond b n 0
    nothing true n is = absurd (cc)
    nothing false n is = refl

-- one role more, of which these are
pub stripes-more : (r : Reading) (chunk role : ℕ) (rebuilt rebuilt' : List ℕ) → AreStripesFound r chunk role rebuilt → length rebuilt' ≡ 16 → role < 16
    → slice_index rebuilt' role ≡ stripes_held r chunk (role_state r role) → ((other : ℕ) → other ≢ role → slice_index rebuilt' other ≡ slice_index rebuilt other)
    → AreStripesFound r chunk (role + 1) rebuilt'
stripes-more r chunk role rebuilt rebuilt' found long lt here others = record {
  long = long;
  each = λ other o. elim (cases_eq other role) [
    | inl same ↦ subst (λ (x : ℕ). slice_index rebuilt' x ≡ found_stripes r chunk (role + 1) x) (sym same) (here ∙ within (nat_lt role (role + 1)) (stripes_held r chunk (role_state r role)) (grind (arith, nat_tests)))
    | inr apart ↦ others other apart ∙ found.each other o ∙ ap (λ (b : Bool). cond b (stripes_held r chunk (role_state r other)) 0) (alike other role apart)
  ];
}
  where
    within : (b : Bool) (n : ℕ) → b ≡ true → n ≡ cond b n 0
    within true n is = refl
    within false n is = absurd (cc)

    alike : (a b : ℕ) → a ≢ b → nat_lt a b ≡ nat_lt a (b + 1)
    alike a b apart = grind (arith, nat_tests, apart)

-- these are set
pub stripes-set : (r : Reading) (chunk role held : ℕ) (rebuilt : List ℕ) → AreStripesFound r chunk role rebuilt → role < 16 → held ≡ stripes_held r chunk (role_state r role)
    → AreStripesFound r chunk (role + 1) (slice_set rebuilt role held)
stripes-set r chunk role held rebuilt found lt is =
    let long = found.long in
    stripes-more r chunk role rebuilt (slice_set rebuilt role held) found (length-set rebuilt role held ∙ long) lt (get_or-set_same rebuilt role held 0 (omega (arith, lt, long)) ∙ is)
    (λ other apart. get_or-set_other rebuilt role other held 0 apart)

-- it has none
pub stripes-none : (r : Reading) (chunk role : ℕ) (rebuilt : List ℕ) → AreStripesFound r chunk role rebuilt → role < 16 → stripes_held r chunk (role_state r role) ≡ 0 → AreStripesFound r chunk (role + 1) rebuilt
stripes-none r chunk role rebuilt found lt none =
    stripes-more r chunk role rebuilt rebuilt found found.long lt (found.each role lt ∙ beyond (nat_lt role role) (stripes_held r chunk (role_state r role)) (grind (arith, nat_tests)) ∙ sym none) (λ other apart. refl)
  where
    beyond : (b : Bool) (n : ℕ) → b ≡ false → cond b n 0 ≡ 0
    beyond true n is = absurd (cc)
    beyond false n is = refl

pub stripes-all : (r : Reading) (chunk disks : ℕ) (rebuilt : List ℕ) → AreStripesFound r chunk disks rebuilt → rebuilt ≡ tabulate 16 (found_stripes r chunk disks)
stripes-all r chunk disks rebuilt found =
    let long = found.long in
    ext_get_or 0 rebuilt (tabulate 16 (found_stripes r chunk disks)) (long ∙ sym (length-tabulate 16 (found_stripes r chunk disks)))
    (λ role lt. found.each role (omega (arith, lt, long)) ∙ sym (get_or-tabulate 16 (found_stripes r chunk disks) role 0 (omega (arith, lt, long))))

-- ---- the numbers of the superblocks

-- so it is of the numbers below this one
pub record AreNumbersFound (own : List (Option Sb)) (numbers : ℕ) (carried : List ℕ) : Type 0 where
  pub long : length carried ≡ 128
  pub each : (number : ℕ) → number < numbers → slice_index carried number ≡ bearers_of own number

-- one number more
pub numbers-set : (own : List (Option Sb)) (number : ℕ) (carried : List ℕ) (slots : ℕ) → AreNumbersFound own number carried → number < 128 → slots ≡ bearers_of own number
    → AreNumbersFound own (number + 1) (slice_set carried number slots)
numbers-set own number carried slots found lt same = record {
  long = length-set carried number slots ∙ found.long;
  each = λ other below. elim (cases_eq other number) [
    | inl here ↦
        let long = found.long in
        subst (λ (n : ℕ). slice_index (slice_set carried number slots) n ≡ bearers_of own n) (sym here) (get_or-set_same carried number slots 0 (omega (arith, lt, long)) ∙ same)
    | inr apart ↦ get_or-set_other carried number other slots 0 apart ∙ found.each other (omega (arith, below, apart))
  ];
}

pub numbers-all : (own : List (Option Sb)) (carried : List ℕ) → AreNumbersFound own 128 carried → carried ≡ tabulate 128 (bearers_of own)
numbers-all own carried found =
    let long = found.long in
    ext_get_or 0 carried (tabulate 128 (bearers_of own)) (long ∙ sym (length-tabulate 128 (bearers_of own)))
    (λ number lt. found.each number (omega (arith, lt, long)) ∙ sym (get_or-tabulate 128 (bearers_of own) number 0 (omega (arith, lt, long))))
