-- Lost slots that aren't named yet: their number falls, and at the end no live slot is left or all are named.
use Rattle.std.proofs.Common.{◌≡◌, ◌≢◌, ◌⊎◌, inl, inr, ⊎_elim, Bool, ℕ, zero, suc, ◌-◌, ◌^◌, ◌<◌, ◌≤◌, ◌==◌, true, false, not, ◌&&◌, min, bit_and, refl, sym, ◌∙◌, ap, subst, arith}
use Rattle.std.specs.Int.{bit_at, w32}
use Rattle.std.proofs.lemmas.Bool.{cases_eq, cases_lt, eqb-true}
use Rattle.std.proofs.lemmas.Nat.{and_le_l}
use Rattle.std.proofs.lemmas.Nat.Bits.{bit_at_and, bit_at_not, bit_at-lt, bit_at-zero, bit_at_above, same_from_bits}
use Rattle.sb_specs.specs.raid_types_Shapes.{has_slot}
use Rattle.sb_specs.specs.Updating.{IsSomeLeft}
use Rattle.sb_update.proofs.Passes.{slot_below}
use Rattle.sb_specs.proofs.SlotSets.{same_set, none_above, none_there}
use Rattle.sb_specs.proofs.UpdateReads.{some-or-all}

-- the live slots that aren't in this set of lost ones
abbrev pub left_of : ℕ → ℕ → ℕ
left_of live lost = bit_and live (2 ^ 32 - 1 - lost)

-- there are none
pub none_left : (live lost left : ℕ) → live < 2 ^ 32 → ((s : ℕ) → s < 32 → has_slot left s ≡ (has_slot live s && not (has_slot lost s))) → left ≡ 0
    → (s : ℕ) → has_slot live s ≡ true → has_slot lost s ≡ false → ⊥
none_left live lost left small is none s is_live not_lost =
    let there : has_slot left s ≡ true = is s (slot_below live s small is_live) ∙ (λ j. is_live j && not (not_lost j)) in
    let zero_there : has_slot left s ≡ false = ap (λ (n : ℕ). has_slot n s) none ∙ ap (λ (n : ℕ). n == 1) (bit_at-zero s) in
    absurd (let both = sym there ∙ zero_there in cc)

-- else there is one
pub some_left : (live lost left : ℕ) → left < 2 ^ 32 → ((s : ℕ) → s < 32 → has_slot left s ≡ (has_slot live s && not (has_slot lost s))) → left ≢ 0 → IsSomeLeft live lost
some_left live lost left small is some = ⊎_elim
    (λ found.
    let there = sym (is found.0 found.1) ∙ found.2 in
    (found.0, left_live (has_slot live found.0) (has_slot lost found.0) there, left_kept (has_slot live found.0) (has_slot lost found.0) there))
    (λ none. absurd (some (same_set left 0 (λ s. elim (cases_lt s 32) [
      | inl below ↦ none s below ∙ sym (none_there s)
      | inr past ↦ none_above left s small past ∙ sym (none_there s)
    ]))))
    (some-or-all 32 (λ s. has_slot left s ≡ false) (λ s. has_slot left s ≡ true) (λ s below. either (has_slot left s)))
  where
    either : (b : Bool) → (b ≡ false) ⊎ (b ≡ true)
    either true = inr refl
    either false = inl refl

    left_live : (a b : Bool) → (a && not b) ≡ true → a ≡ true
    left_live true b e = refl
    left_live false b e = e

    left_kept : (a b : Bool) → (a && not b) ≡ true → b ≡ false
    left_kept true true e = absurd (cc)
    left_kept true false e = refl
    left_kept false b e = absurd (cc)

-- bits by their values
bit_le : (n l : ℕ) → n < 2 → l < 2 → ((n == 1) ≡ true → (l == 1) ≡ true) → n ≤ l
bit_le zero l a b f = omega arith
bit_le (suc zero) l a b f = let one = eqb-true l 1 (f refl) in omega (arith, one)
bit_le (suc (suc n)) l a b f = absurd (omega (arith, a))

bit_kept : (v n l bn bl : ℕ) → n ≤ l → bn ≡ min v (1 - n) → bl ≡ min v (1 - l) → min bn bl ≡ bl
bit_kept v n l bn bl le is is' = omega (arith, le, is, is')

bit_agrees : (v n l bn bl : ℕ) → n < 2 → l < 2 → n ≤ l → (l ≡ 1 → n ≡ 0 → v ≡ 1) → bn ≡ min v (1 - n) → bl ≡ min v (1 - l) → bl ≡ bn → l ≡ n
bit_agrees v zero zero bn bl a b le f is is' same = refl
bit_agrees v (suc zero) (suc zero) bn bl a b le f is is' same = refl
bit_agrees v zero (suc zero) bn bl a b le f is is' same = absurd (let one = f refl refl in omega (arith, one, is, is', same))
bit_agrees v (suc zero) zero bn bl a b le f is is' same = absurd (omega (arith, le))
bit_agrees v (suc (suc n)) l bn bl a b le f is is' same = absurd (omega (arith, a))
bit_agrees v n (suc (suc l)) bn bl a b le f is is' same = absurd (omega (arith, b))

module _ (live named lost : ℕ) (small : live < 2 ^ 32) (small_named : named < 2 ^ 32) (small_lost : lost < 2 ^ 32)
    (known : (s : ℕ) → has_slot named s ≡ true → has_slot lost s ≡ true) (since : (s : ℕ) → has_slot lost s ≡ true → has_slot named s ≡ false → has_slot live s ≡ true) where
  bit_of : (x s : ℕ) → x < 2 ^ 32 → s < 32 → bit_at (left_of live x) s ≡ min (bit_at live s) (1 - bit_at x s)
  bit_of x s small_x below = bit_at_and live (2 ^ 32 - 1 - x) s ∙ ap (min (bit_at live s)) (bit_at_not w32 x s small_x below)

  bit_past : (x s : ℕ) → 32 ≤ s → bit_at (left_of live x) s ≡ 0
  bit_past x s past =
      let none = bit_at_above live 32 s small past in
      let is = bit_at_and live (2 ^ 32 - 1 - x) s in
      omega (arith, none, is)

  le : (s : ℕ) → bit_at named s ≤ bit_at lost s
  le s = bit_le (bit_at named s) (bit_at lost s) (bit_at-lt named s) (bit_at-lt lost s) (known s)

  kept : bit_and (left_of live named) (left_of live lost) ≡ left_of live lost
  kept = same_from_bits (bit_and (left_of live named) (left_of live lost)) (left_of live lost) (λ s. elim (cases_lt s 32) [
    | inl below ↦ bit_at_and (left_of live named) (left_of live lost) s
        ∙ bit_kept (bit_at live s) (bit_at named s) (bit_at lost s) (bit_at (left_of live named) s) (bit_at (left_of live lost) s) (le s) (bit_of named s small_named below) (bit_of lost s small_lost below)
    | inr past ↦
        let both = bit_at_and (left_of live named) (left_of live lost) s in
        let none = bit_past lost s past in
        omega (arith, both, none)
  ])

  agrees : left_of live lost ≡ left_of live named → lost ≡ named
  agrees same = same_from_bits lost named (λ s. elim (cases_lt s 32) [
    | inl below ↦ bit_agrees (bit_at live s) (bit_at named s) (bit_at lost s) (bit_at (left_of live named) s) (bit_at (left_of live lost) s) (bit_at-lt named s) (bit_at-lt lost s) (le s)
        (λ one none. eqb-true (bit_at live s) 1 (since s (ap (λ (n : ℕ). n == 1) one) (ap (λ (n : ℕ). n == 1) none))) (bit_of named s small_named below) (bit_of lost s small_lost below) (ap (λ (n : ℕ). bit_at n s) same)
    | inr past ↦ bit_at_above lost 32 s small_lost past ∙ sym (bit_at_above named 32 s small_named past)
  ])

  pub left_less : lost ≢ named → left_of live lost < left_of live named
  left_less differ = elim (cases_eq (left_of live lost) (left_of live named)) [
    | inl same ↦ absurd (differ (agrees same))
    | inr apart ↦
        let no_more : left_of live lost ≤ left_of live named = subst (λ (n : ℕ). n ≤ left_of live named) kept (and_le_l (left_of live named) (left_of live lost)) in
        omega (arith, no_more, apart)
  ]
