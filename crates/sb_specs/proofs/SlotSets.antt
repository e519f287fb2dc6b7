-- Sets of slots that are built slot by slot, and lists of the slots that pass a test.
use Rattle.std.proofs.Common.{◌≡◌, ◌≢◌, inl, inr, ℕ, zero, suc, ◌+◌, ◌^◌, ◌<◌, ◌≤◌, ◌==◌, Bool, true, false, not, ◌&&◌, ◌||◌, nat_lt, max, bit_or, List, [], ◌∷◌, ◌++◌, Option, Some, if◌then◌else◌, refl, sym, ◌∙◌, ap, subst, arith}
use Rattle.std.specs.Int.{bit_at}
use Rattle.std.specs.List.{list_any}
use Rattle.std.specs.Option.{is_some}
use Rattle.std.proofs.lemmas.Bool.{cases_eq, cases_lt}
use Rattle.std.proofs.lemmas.Bool.Decides.{nat_tests}
use Rattle.std.proofs.lemmas.Nat.Bits.{bit_at_or, bit_at-lt, bit_at-zero, bit_at_above, bit_at-pow_same, bit_at-pow_other, same_from_bits}
use Rattle.reshape_geometry.specs.raid_types_Shapes.{has_slot}
use Rattle.bank.specs.raid_types_the_Role.{Role}
use Rattle.sb_specs.specs.Update.{is_held_by, role_from}
use Rattle.sb_specs.specs.Outcome.{set_of, slots_below}

-- ---- two sets of the same slots are the same

same_bit : (a b : ℕ) → a < 2 → b < 2 → (a == 1) ≡ (b == 1) → a ≡ b
same_bit zero zero la lb is = refl
same_bit zero (suc zero) la lb is = absurd (cc)
same_bit (suc zero) zero la lb is = absurd (cc)
same_bit (suc zero) (suc zero) la lb is = refl
same_bit (suc (suc a)) b la lb is = absurd (omega (arith, la))
same_bit zero (suc (suc b)) la lb is = absurd (omega (arith, lb))
same_bit (suc zero) (suc (suc b)) la lb is = absurd (omega (arith, lb))

pub same_set : (a b : ℕ) → ((s : ℕ) → has_slot a s ≡ has_slot b s) → a ≡ b
same_set a b same = same_from_bits a b (λ s. same_bit (bit_at a s) (bit_at b s) (bit_at-lt a s) (bit_at-lt b s) (same s))

-- a set has no slot from 32 on
pub none_above : (set s : ℕ) → set < 2 ^ 32 → 32 ≤ s → has_slot set s ≡ false
none_above set s small above = ap (λ (n : ℕ). n == 1) (bit_at_above set 32 s small above)

pub none_there : (s : ℕ) → has_slot 0 s ≡ false
none_there s = ap (λ (n : ℕ). n == 1) (bit_at-zero s)

-- ---- the slots of a set that is given by a test

at_last : (b t : Bool) (n : ℕ) → t ≡ true → b ≡ true → b ≡ (nat_lt n (suc n) && t)
at_last b t n passes is = grind (arith, nat_tests)

at_last_none : (b t : Bool) (n : ℕ) → t ≡ false → b ≡ (nat_lt n n && t) → b ≡ (nat_lt n (suc n) && t)
at_last_none b true n fails is = absurd (cc)
at_last_none b false n fails is = grind (arith, nat_tests)

before_last : (b t : Bool) (n s : ℕ) → s ≢ n → b ≡ (nat_lt s n && t) → b ≡ (nat_lt s (suc n) && t)
before_last b t n s apart is = grind (arith, nat_tests)

one_of : (m a b : ℕ) → m ≡ max a b → b ≡ 1 → a < 2 → (m == 1) ≡ true
one_of m a b is one small = grind (arith, nat_tests)

other_of : (m a b : ℕ) → m ≡ max a b → b ≡ 0 → (m == 1) ≡ (a == 1)
other_of m a b is none = ap (λ (n : ℕ). n == 1) (omega (arith, is, none))

-- a set with one slot more
pub with_here : (set t : ℕ) → has_slot (bit_or set (2 ^ t)) t ≡ true
with_here set t = one_of _ (bit_at set t) (bit_at (2 ^ t) t) (bit_at_or set (2 ^ t) t) (bit_at-pow_same t) (bit_at-lt set t)

pub with_other : (set t s : ℕ) → s ≢ t → has_slot (bit_or set (2 ^ t)) s ≡ has_slot set s
with_other set t s apart = other_of _ (bit_at set s) (bit_at (2 ^ t) s) (bit_at_or set (2 ^ t) s) (bit_at-pow_other t s apart)

step : (b : Bool) (test : ℕ → Bool) (n s : ℕ) → test n ≡ b → has_slot (set_of n test) s ≡ (nat_lt s n && test s)
    → has_slot (if b then bit_or (set_of n test) (2 ^ n) else set_of n test) s ≡ (nat_lt s (suc n) && test s)
step true test n s here ih = elim (cases_eq s n) [
  | inl same ↦ rw same (at_last _ (test n) n here (one_of _ (bit_at (set_of n test) n) (bit_at (2 ^ n) n) (bit_at_or (set_of n test) (2 ^ n) n) (bit_at-pow_same n) (bit_at-lt (set_of n test) n)))
  | inr apart ↦ before_last _ (test s) n s apart
      (other_of _ (bit_at (set_of n test) s) (bit_at (2 ^ n) s) (bit_at_or (set_of n test) (2 ^ n) s) (bit_at-pow_other n s apart) ∙ ih)
]
step false test n s here ih = elim (cases_eq s n) [
  | inl same ↦ subst (λ (m : ℕ). has_slot (set_of n test) m ≡ (nat_lt m (suc n) && test m)) (sym same)
      (at_last_none _ (test n) n here (subst (λ (m : ℕ). has_slot (set_of n test) m ≡ (nat_lt m n && test m)) same ih))
  | inr apart ↦ before_last _ (test s) n s apart ih
]

pub has-set_of : (n : ℕ) (test : ℕ → Bool) (s : ℕ) → has_slot (set_of n test) s ≡ (nat_lt s n && test s)
unfolding set_of
has-set_of zero test s = none_there s ∙ nothing (test s)
  where
    nothing : (t : Bool) → false ≡ (nat_lt s zero && t)
    nothing t = grind (arith, nat_tests)
has-set_of (suc n) test s = step (test n) test n s refl (has-set_of n test s)

pub in-set_of : (test : ℕ → Bool) (s : ℕ) → s < 32 → has_slot (set_of 32 test) s ≡ test s
in-set_of test s below = has-set_of 32 test s ∙ inside (test s)
  where
    inside : (t : Bool) → (nat_lt s 32 && t) ≡ t
    inside t = grind (arith, nat_tests)

-- of the slots below n it has those that pass, and of the others none
pub set_of-below : (n : ℕ) (test : ℕ → Bool) (s : ℕ) → s < n → has_slot (set_of n test) s ≡ test s
set_of-below n test s below = has-set_of n test s ∙ inside (test s)
  where
    inside : (t : Bool) → (nat_lt s n && t) ≡ t
    inside t = grind (arith, nat_tests)

pub set_of-past : (n : ℕ) (test : ℕ → Bool) (s : ℕ) → n ≤ s → has_slot (set_of n test) s ≡ false
set_of-past n test s past = has-set_of n test s ∙ outside (test s)
  where
    outside : (t : Bool) → (nat_lt s n && t) ≡ false
    outside t = grind (arith, nat_tests)

-- a set that has these slots is the set of them
pub is-set_of : (set : ℕ) (test : ℕ → Bool) → ((s : ℕ) → has_slot set s ≡ (nat_lt s 32 && test s)) → set ≡ set_of 32 test
is-set_of set test is = same_set set (set_of 32 test) (λ s. is s ∙ sym (has-set_of 32 test s))

-- one slot more was looked at, which passes or doesn't
pub one_more : (set set' slot : ℕ) (test : ℕ → Bool) → ((s : ℕ) → has_slot set s ≡ (nat_lt s slot && test s)) → test slot ≡ true
    → ((s : ℕ) → has_slot set' s ≡ (has_slot set s || (slot == s))) → (s : ℕ) → has_slot set' s ≡ (nat_lt s (slot + 1) && test s)
one_more set set' slot test is passes more s = more s ∙ ap (λ (b : Bool). b || (slot == s)) (is s) ∙ elim (cases_eq s slot) [
  | inl same ↦ there (test s) s same (ap test same ∙ passes)
  | inr apart ↦ kept (test s) s apart
]
  where
    there : (t : Bool) (s : ℕ) → s ≡ slot → t ≡ true → ((nat_lt s slot && t) || (slot == s)) ≡ (nat_lt s (slot + 1) && t)
    there t s same is' = grind (arith, nat_tests)

    kept : (t : Bool) (s : ℕ) → s ≢ slot → ((nat_lt s slot && t) || (slot == s)) ≡ (nat_lt s (slot + 1) && t)
    kept true s apart = grind (arith, nat_tests)
    kept false s apart = grind (arith, nat_tests)

pub none_more : (set slot : ℕ) (test : ℕ → Bool) → ((s : ℕ) → has_slot set s ≡ (nat_lt s slot && test s)) → test slot ≡ false
    → (s : ℕ) → has_slot set s ≡ (nat_lt s (slot + 1) && test s)
none_more set slot test is fails s = is s ∙ elim (cases_eq s slot) [
  | inl same ↦ there (test s) s same (ap test same ∙ fails)
  | inr apart ↦ kept (test s) s apart
]
  where
    there : (t : Bool) (s : ℕ) → s ≡ slot → t ≡ false → (nat_lt s slot && t) ≡ (nat_lt s (slot + 1) && t)
    there true s same is' = absurd (cc)
    there false s same is' = grind (arith, nat_tests)

    kept : (t : Bool) (s : ℕ) → s ≢ slot → (nat_lt s slot && t) ≡ (nat_lt s (slot + 1) && t)
    kept t s apart = grind (arith, nat_tests)

-- the slot that is taken in isn't lost any more
pub without_one : (lost rest one slot : ℕ) → lost < 2 ^ 32 → rest < 2 ^ 32 → ((s : ℕ) → has_slot one s ≡ (has_slot 0 s || (slot == s)))
    → ((s : ℕ) → s < 32 → has_slot rest s ≡ (has_slot lost s && not (has_slot one s))) → rest ≡ set_of 32 (λ s. has_slot lost s && not (slot == s))
without_one lost rest one slot small small' is rest_is = is-set_of rest _ (λ s. elim (cases_lt s 32) [
  | inl below ↦ rest_is s below ∙ ap (λ (b : Bool). has_slot lost s && not b) (is s ∙ ap (λ (b : Bool). b || (slot == s)) (none_there s)) ∙ inside s (has_slot lost s && not (slot == s)) below
  | inr above ↦ none_above rest s small' above ∙ outside s (has_slot lost s && not (slot == s)) above
])
  where
    inside : (s : ℕ) (t : Bool) → s < 32 → t ≡ (nat_lt s 32 && t)
    inside s t below = grind (arith, nat_tests)

    outside : (s : ℕ) (t : Bool) → 32 ≤ s → false ≡ (nat_lt s 32 && t)
    outside s t above = grind (arith, nat_tests)

-- ---- the slots that pass, as a list

pub slots-same : (n : ℕ) (f g : ℕ → Bool) → ((s : ℕ) → s < n → f s ≡ g s) → slots_below n f ≡ slots_below n g
unfolding slots_below
slots-same zero f g same = refl
slots-same (suc n) f g same =
    ap (λ (l : List ℕ). l ++ (if f n then n ∷ [] else [])) (slots-same n f g (λ s lt. same s (omega (arith, lt))))
    ∙ ap (λ (b : Bool). slots_below n g ++ (if b then n ∷ [] else [])) (same n (omega arith))

pub slots-first : (f : ℕ → Bool) → slots_below 0 f ≡ []
unfolding slots_below
slots-first f = refl

pub slots-suc : (f : ℕ → Bool) (n : ℕ) → slots_below (suc n) f ≡ slots_below n f ++ (if f n then n ∷ [] else [])
unfolding slots_below
slots-suc f n = refl

pub slots-more : (f : ℕ → Bool) (n : ℕ) → f n ≡ true → slots_below (n + 1) f ≡ slots_below n f ++ n ∷ []
slots-more f n passes =
    let next : n + 1 ≡ suc n = omega arith in
    ap (λ (m : ℕ). slots_below m f) next ∙ slots-suc f n ∙ ap (λ (b : Bool). slots_below n f ++ (if b then n ∷ [] else [])) passes

nothing_more : (l : List ℕ) → l ++ [] ≡ l
nothing_more [] = refl
nothing_more (x ∷ l) = ap (λ (r : List ℕ). x ∷ r) (nothing_more l)

pub slots-none : (f : ℕ → Bool) (n : ℕ) → f n ≡ false → slots_below (n + 1) f ≡ slots_below n f
slots-none f n fails =
    let next : n + 1 ≡ suc n = omega arith in
    ap (λ (m : ℕ). slots_below m f) next ∙ slots-suc f n ∙ ap (λ (b : Bool). slots_below n f ++ (if b then n ∷ [] else [])) fails ∙ nothing_more (slots_below n f)

-- ---- who holds a role

some_if : (b rest : Bool) (i : ℕ) (found : Option ℕ) → is_some found ≡ rest → is_some (if b then Some i else found) ≡ (b || rest)
some_if true rest i found is = refl
some_if false rest i found is = is

-- a slot that has a role holds one
pub some_role : (slot i : ℕ) (roles : List Role) → is_some (role_from slot i roles) ≡ list_any (is_held_by slot) roles
some_role slot i [] = refl
some_role slot i (state ∷ roles) = some_if (is_held_by slot state) (list_any (is_held_by slot) roles) i (role_from slot (i + 1) roles) (some_role slot (i + 1) roles)
