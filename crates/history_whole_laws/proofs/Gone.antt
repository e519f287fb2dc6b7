-- How many roles are gone where none is told lost: at most one for each takeover.
use Rattle.std.proofs.Common.{◌≡◌, ℕ, zero, suc, ◌+◌, ◌≤◌, ◌==◌, Bool, true, false, not, ◌&&◌, ◌||◌, cond, List, [], ◌∷◌, fold, refl, arith, Option, None, Some, eqb-true}
use Rattle.std.specs.List.{All, list_any}
use Rattle.std.proofs.lemmas.List.Elements.{All-head, All-tail}
use Rattle.std.proofs.lemmas.List.Sums.{sum_by-cons}
use Rattle.history.specs.raid_types_Search.{count_below}
use Rattle.history.specs.sb_specs_Reading.{Reading}
use Rattle.history.specs.declared.events.Event.{Event}
use Rattle.history.specs.declared.events.Event.TheVariants.{Lost, Step}
use Rattle.history.specs.declared.events.StepKind.TheVariants.{TakenOver}
use Rattle.history.specs.declared.events.Entry.{Entry}
use Rattle.history.specs.Losses.{is_this, left_without, takes, loses, regains, gone_surely, is_gone_after}
use Rattle.history.specs.World.{World, reading_at}
use Rattle.history_whole_laws.specs.Whole.{LosesNone, is_takeover, takeovers}

-- ---- counts of roles

none-count : (n : ℕ) → count_below n (λ k. false) ≡ 0
unfolding count_below
none-count zero = refl
none-count (suc n) = let rest : count_below n (λ k. false) ≡ 0 = none-count n in omega (arith, rest)

-- where each of these passes one of two tests, they are at most as many as pass the one and the other
either-count : (n : ℕ) (f g h : ℕ → Bool) → ((k : ℕ) → f k ≡ true → (g k || h k) ≡ true) → count_below n f ≤ count_below n g + count_below n h
unfolding count_below
either-count zero f g h implied = omega arith
either-count (suc n) f g h implied = by (f n) (g n) (h n) (either-count n f g h implied) (implied n)
  where
    by : (a b c : Bool) → count_below n f ≤ count_below n g + count_below n h → (a ≡ true → (b || c) ≡ true)
        → count_below n f + cond a 1 0 ≤ (count_below n g + cond b 1 0) + (count_below n h + cond c 1 0)
    by true true c le follows = by_other c
      where
        by_other : (c : Bool) → count_below n f + 1 ≤ (count_below n g + 1) + (count_below n h + cond c 1 0)
        by_other true = omega (arith, le)
        by_other false = omega (arith, le)
    by true false true le follows = omega (arith, le)
    by true false false le follows = absurd (let e = follows refl in cc)
    by false b c le follows = by_both b c
      where
        by_both : (b c : Bool) → count_below n f + 0 ≤ (count_below n g + cond b 1 0) + (count_below n h + cond c 1 0)
        by_both true true = omega (arith, le)
        by_both true false = omega (arith, le)
        by_both false true = omega (arith, le)
        by_both false false = omega (arith, le)

-- only one number is this one
module _ (this : ℕ) where
  none-below : (n : ℕ) → n ≤ this → count_below n (λ k. this == k) ≡ 0
  unfolding count_below
  none-below zero le = refl
  none-below (suc n) le = by (this == n) refl (none-below n (omega (arith, le)))
    where
      by : (b : Bool) → (this == n) ≡ b → count_below n (λ k. this == k) ≡ 0 → count_below n (λ k. this == k) + cond b 1 0 ≡ 0
      by true e none = absurd (let same : this ≡ n = eqb-true this n e in omega (arith, le, same))
      by false e none = omega (arith, none)

  one-below : (n : ℕ) → count_below n (λ k. this == k) ≤ 1
  unfolding count_below
  one-below zero = omega arith
  one-below (suc n) = by (this == n) refl (one-below n)
    where
      by : (b : Bool) → (this == n) ≡ b → count_below n (λ k. this == k) ≤ 1 → count_below n (λ k. this == k) + cond b 1 0 ≤ 1
      by true e le =
          let same : this ≡ n = eqb-true this n e in
          let none : count_below n (λ k. this == k) ≡ 0 = none-below n (omega (arith, same)) in
          omega (arith, none)
      by false e le = omega (arith, le)

this-count : (n : ℕ) (this : Option ℕ) → count_below n (is_this this) ≤ 1
this-count n None = let none : count_below n (λ k. false) ≡ 0 = none-count n in omega (arith, none)
this-count n (Some this) = one-below this n

-- ---- what is gone

source : (was gives takes rest : Bool) → ((was && not gives || takes) || rest) ≡ true → (was || (takes || rest)) ≡ true
source true gives takes rest h = refl
source false gives true rest h = refl
source false gives false rest h = h

or-false : (b : Bool) → b ≡ true → (b || false) ≡ true
or-false true h = refl
or-false false h = absurd (cc)

module _ (world : World) where
  -- a role that is gone was gone before, or one of these entries loses it
  gone-source : (role : ℕ) (was : Bool) (xs : List Entry) → fold (gone_surely world role) was xs ≡ true → (was || list_any (loses world role) xs) ≡ true
  gone-source role was [] gone = or-false was gone
  gone-source role was (x ∷ xs) gone =
      source was (regains world role x) (loses world role x) (list_any (loses world role) xs) (gone-source role (gone_surely world role was x) xs gone)

  -- an entry that tells no role lost takes at most one away, and that only by a takeover
  one-lost : (found : Option Reading) (event : Event) → LosesNone event → count_below 32 (λ role. takes found role event) ≤ cond (is_takeover event) 1 0
  one-lost found (Lost role cause) none = absurd none
  one-lost found (Step TakenOver left) none = this-count 32 (left_without found)
  one-lost found event none = let zero-count : count_below 32 (λ k. false) ≡ 0 = none-count 32 in omega (arith, zero-count)

  lost-count : (xs : List Entry) → All (λ e. LosesNone e.event) xs → count_below 32 (λ role. list_any (loses world role) xs) ≤ takeovers xs
  lost-count [] none = let zero-count : count_below 32 (λ k. false) ≡ 0 = none-count 32 in omega (arith, zero-count)
  lost-count (x ∷ xs) none =
      let both : count_below 32 (λ role. list_any (loses world role) (x ∷ xs)) ≤ count_below 32 (λ role. loses world role x) + count_below 32 (λ role. list_any (loses world role) xs) =
      either-count 32 (λ role. list_any (loses world role) (x ∷ xs)) (λ role. loses world role x) (λ role. list_any (loses world role) xs) (λ role h. h) in
      let first : count_below 32 (λ role. loses world role x) ≤ cond (is_takeover x.event) 1 0 = one-lost (reading_at world x.end) x.event (All-head (λ e. LosesNone e.event) x xs none) in
      let rest : count_below 32 (λ role. list_any (loses world role) xs) ≤ takeovers xs = lost-count xs (All-tail (λ e. LosesNone e.event) x xs none) in
      let sum : takeovers (x ∷ xs) ≡ cond (is_takeover x.event) 1 0 + takeovers xs = sum_by-cons (λ e. cond (is_takeover e.event) 1 0) x xs in
      omega (arith, both, first, rest, sum)

  -- at most one role for each takeover
  pub gone-count : (xs : List Entry) → All (λ e. LosesNone e.event) xs → count_below 32 (is_gone_after world xs) ≤ takeovers xs
  unfolding is_gone_after
  gone-count xs none =
      let implied : count_below 32 (is_gone_after world xs) ≤ count_below 32 (λ role. list_any (loses world role) xs) + count_below 32 (λ k. false) =
      either-count 32 (is_gone_after world xs) (λ role. list_any (loses world role) xs) (λ k. false) (λ role gone. or-false (list_any (loses world role) xs) (gone-source role false xs gone)) in
      let zero-count : count_below 32 (λ k. false) ≡ 0 = none-count 32 in
      let few : count_below 32 (λ role. list_any (loses world role) xs) ≤ takeovers xs = lost-count xs none in
      omega (arith, implied, zero-count, few)

  keeps : (found : Option Reading) (role : ℕ) (event : Event) → LosesNone event → cond (is_takeover event) 1 0 ≤ 0 → takes found role event ≡ false
  keeps found role (Lost lost cause) none kept = absurd none
  keeps found role (Step TakenOver left) none kept = absurd (omega (arith, kept))
  keeps found role event none kept = refl

  -- no entry loses it
  pub none-lost : (role : ℕ) (xs : List Entry) → All (λ e. LosesNone e.event) xs → takeovers xs ≡ 0 → list_any (loses world role) xs ≡ false
  none-lost role [] none kept = refl
  none-lost role (x ∷ xs) none kept =
      let sum : takeovers (x ∷ xs) ≡ cond (is_takeover x.event) 1 0 + takeovers xs = sum_by-cons (λ e. cond (is_takeover e.event) 1 0) x xs in
      by (loses world role x) (keeps (reading_at world x.end) role x.event (All-head (λ e. LosesNone e.event) x xs none) (omega (arith, sum, kept)))
      (none-lost role xs (All-tail (λ e. LosesNone e.event) x xs none) (omega (arith, sum, kept)))
    where
      by : (b : Bool) → b ≡ false → list_any (loses world role) xs ≡ false → (b || list_any (loses world role) xs) ≡ false
      by true e rest = absurd (cc)
      by false e rest = rest

  -- without one, none
  pub gone-none : (role : ℕ) (xs : List Entry) → All (λ e. LosesNone e.event) xs → takeovers xs ≡ 0 → is_gone_after world xs role ≡ false
  unfolding is_gone_after
  gone-none role xs none kept = by (fold (gone_surely world role) false xs) refl
    where
      by : (b : Bool) → fold (gone_surely world role) false xs ≡ b → b ≡ false
      by true e = absurd (let lost = gone-source role false xs e in let kept = none-lost role xs none kept in cc)
      by false e = refl
