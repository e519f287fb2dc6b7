-- The numbers that slots may bear, once one of them bears a new number.
use Rattle.std.proofs.Common.{◌≡◌, ◌≢◌, ◌⊎◌, inl, inr, ℕ, ◌<◌, ◌≤◌, ◌==◌, ◌||◌, ◌&&◌, Bool, true, false, not, nat_lt, nat_le, length, get_or, refl, sym, ◌∙◌, ap, subst, arith}
use Rattle.std.specs.Prelude.{if◌then◌else◌, slice_index}
use Rattle.std.proofs.lemmas.Bool.{cases_eq, cases_lt}
use Rattle.std.proofs.lemmas.Bool.Decides.{nat_tests}
use Rattle.std.proofs.lemmas.List.{get_or_default, get_or_past}
use Rattle.array_members.specs.raid_types_Shapes.{has_slot}
use Rattle.array_members.proofs.raid_types_Tabulated.{get_or-tabulate}
use Rattle.array_members.proofs.sb_specs_SlotSets.{none_there, in-set_of}
use Rattle.array_members.specs.declared.work.Work.{Work}
use Rattle.array_members.specs.Numbers.{bears, is_carried, bearers, bearing}

-- a number that none may bear
pub uncarried : (work : Work) (number : ℕ) → number < 128 → is_carried work number ≡ false → (slot : ℕ) → bears work slot number ≡ false
uncarried work number below none slot =
    let nothing : get_or work.carried number 1 ≡ 0 = of (get_or work.carried number 1) none in
    let within : number < length work.carried = inside nothing (cases_lt number (length work.carried)) in
    let empty : slice_index work.carried number ≡ 0 = sym (get_or_default work.carried number 1 0 within) ∙ nothing in
    ap (λ (b : Bool). nat_le 128 number || (nat_lt slot 32 && b)) (ap (λ (set : ℕ). has_slot set slot) empty ∙ none_there slot)
    ∙ by (nat_lt slot 32) number below
  where
    of : (set : ℕ) → not (set == 0) ≡ false → set ≡ 0
    of set is = grind (arith, nat_tests, is)

    inside : get_or work.carried number 1 ≡ 0 → (number < length work.carried) ⊎ (length work.carried ≤ number) → number < length work.carried
    inside nothing (inl lt) = lt
    inside nothing (inr past) = absurd (let one = sym nothing ∙ get_or_past work.carried number 1 past in omega (arith, one))

    by : (b : Bool) (n : ℕ) → n < 128 → (nat_le 128 n || (b && false)) ≡ false
    by true n lt = grind (arith, nat_tests, lt)
    by false n lt = grind (arith, nat_tests, lt)

module _ (only : Bool) (slot number : ℕ) (work : Work) where
  -- of these slots, one that may bear the number n then
  abbrev then_in : ℕ → ℕ → ℕ → Bool
  then_in set s n = if s == slot then (n == number) || (not only && has_slot set s) else has_slot set s

  set-then : (s n : ℕ) → n < 128 → s < 32 → has_slot (slice_index (bearing only slot number work).carried n) s ≡ then_in (slice_index work.carried n) s n
  set-then s n below few =
      ap (λ (set : ℕ). has_slot set s) (get_or-tabulate 128 (λ k. bearers only slot (k == number) (slice_index work.carried k)) n 0 below)
      ∙ in-set_of (λ t. if t == slot then (n == number) || (not only && has_slot (slice_index work.carried n) t) else has_slot (slice_index work.carried n) t) s few

  then-bears : (s n : ℕ) → bears (bearing only slot number work) s n ≡ (nat_le 128 n || (nat_lt s 32 && then_in (slice_index work.carried n) s n))
  then-bears s n = elim (cases_lt n 128) [
    | inl below ↦ elim (cases_lt s 32) [
      | inl few ↦ ap (λ (b : Bool). nat_le 128 n || (nat_lt s 32 && b)) (set-then s n below few)
      | inr past ↦ outside (has_slot (slice_index (bearing only slot number work).carried n) s) (then_in (slice_index work.carried n) s n) (nat_le 128 n) s past
    ]
    | inr above ↦ counts (nat_lt s 32 && has_slot (slice_index (bearing only slot number work).carried n) s) (nat_lt s 32 && then_in (slice_index work.carried n) s n) n above
  ]
    where
      outside : (a b c : Bool) (t : ℕ) → 32 ≤ t → (c || (nat_lt t 32 && a)) ≡ (c || (nat_lt t 32 && b))
      outside a b c t past = ap (λ (x : Bool). c || (x && a)) (none t past) ∙ sym (ap (λ (x : Bool). c || (x && b)) (none t past))
        where
          none : (u : ℕ) → 32 ≤ u → nat_lt u 32 ≡ false
          none u le = grind (arith, nat_tests, le)

      counts : (a b : Bool) (m : ℕ) → 128 ≤ m → (nat_le 128 m || a) ≡ (nat_le 128 m || b)
      counts a b m le = ap (λ (x : Bool). x || a) (all m le) ∙ sym (ap (λ (x : Bool). x || b) (all m le))
        where
          all : (k : ℕ) → 128 ≤ k → nat_le 128 k ≡ true
          all k le' = grind (arith, nat_tests, le')

  -- of another slot it is as before
  pub bears-other : (s n : ℕ) → s ≢ slot → bears (bearing only slot number work) s n ≡ bears work s n
  bears-other s n other = then-bears s n
      ∙ ap (λ (b : Bool). nat_le 128 n || (nat_lt s 32 && (if b then (n == number) || (not only && has_slot (slice_index work.carried n) s) else has_slot (slice_index work.carried n) s))) (apart s other)
    where
      apart : (t : ℕ) → t ≢ slot → (t == slot) ≡ false
      apart t differ = grind (arith, nat_tests, differ)

  -- of the slot itself
  bears-here : (n : ℕ) → bears (bearing only slot number work) slot n ≡ (nat_le 128 n || (nat_lt slot 32 && ((n == number) || (not only && has_slot (slice_index work.carried n) slot))))
  bears-here n = then-bears slot n
      ∙ ap (λ (b : Bool). nat_le 128 n || (nat_lt slot 32 && (if b then (n == number) || (not only && has_slot (slice_index work.carried n) slot) else has_slot (slice_index work.carried n) slot))) (same slot)
    where
      same : (t : ℕ) → (t == t) ≡ true
      same t = grind (arith, nat_tests)

  -- it may bear the new one
  pub bears-new : slot < 32 → bears (bearing only slot number work) slot number ≡ true
  bears-new few = bears-here number ∙ of (nat_le 128 number) (not only && has_slot (slice_index work.carried number) slot) number slot few
    where
      of : (a b : Bool) (n s : ℕ) → s < 32 → (a || (nat_lt s 32 && ((n == n) || b))) ≡ true
      of true b n s lt = refl
      of false b n s lt = ap (λ (x : Bool). x && ((n == n) || b)) (below s lt) ∙ ap (λ (x : Bool). x || b) (same n)
        where
          below : (t : ℕ) → t < 32 → nat_lt t 32 ≡ true
          below t lt' = grind (arith, nat_tests, lt')

          same : (t : ℕ) → (t == t) ≡ true
          same t = grind (arith, nat_tests)

  -- and no other one that it might not before
  pub bears-among : (n : ℕ) → bears (bearing only slot number work) slot n ≡ true → (bears work slot n ≡ true) ⊎ (n ≡ number)
  bears-among n is = of (nat_le 128 n) (nat_lt slot 32) (n == number) only (has_slot (slice_index work.carried n) slot) refl (sym (bears-here n) ∙ is)
    where
      eq : (a b : ℕ) → (a == b) ≡ true → a ≡ b
      eq a b e = grind (arith, nat_tests, e)

      of : (a b c o h : Bool) → (n == number) ≡ c → (a || (b && (c || (not o && h)))) ≡ true → ((a || (b && h)) ≡ true) ⊎ (n ≡ number)
      of true b c o h e t = inl refl
      of false false c o h e t = absurd (cc)
      of false true true o h e t = inr (eq n number e)
      of false true false true h e t = absurd (cc)
      of false true false false h e t = inl t

-- it may bear those that it might before
pub bears-more : (slot number : ℕ) (work : Work) (s n : ℕ) → bears work s n ≡ true → bears (bearing false slot number work) s n ≡ true
bears-more slot number work s n is = elim (cases_eq s slot) [
  | inl same ↦ subst (λ (t : ℕ). bears (bearing false slot number work) t n ≡ true) (sym same)
      (bears-here false slot number work n
      ∙ of (nat_le 128 n) (nat_lt slot 32) (n == number) (has_slot (slice_index work.carried n) slot) (subst (λ (t : ℕ). bears work t n ≡ true) same is))
  | inr other ↦ bears-other false slot number work s n other ∙ is
]
  where
    or_true : (c : Bool) → (c || true) ≡ true
    or_true true = refl
    or_true false = refl

    of : (a b c h : Bool) → (a || (b && h)) ≡ true → (a || (b && (c || h))) ≡ true
    of true b c h t = refl
    of false true c true t = or_true c
    of false true c false t = absurd (cc)
    of false false c h t = absurd (cc)

-- or it bears the new one alone
pub bears-one : (slot number : ℕ) (work : Work) → slot < 32 → (n : ℕ) → n < 128 → bears (bearing true slot number work) slot n ≡ (n == number)
bears-one slot number work few n below = bears-here true slot number work n ∙ of (n == number) n slot below few
  where
    of : (c : Bool) (m s : ℕ) → m < 128 → s < 32 → (nat_le 128 m || (nat_lt s 32 && (c || false))) ≡ c
    of true m s lt lt' = grind (arith, nat_tests, lt, lt')
    of false m s lt lt' = grind (arith, nat_tests, lt, lt')
