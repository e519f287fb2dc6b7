use Rattle.std.proofs.Common.{◌≡◌, ◌⊎◌, ◌+◌, ◌-◌, ◌<◌, ◌≤◌, ℕ, Option, Some, None, inl, inr, ◌∙◌, ap, arith}
use Rattle.stripe_row.specs.raid_parity_Rows.{sector_of}
use Rattle.stripe_list.proofs.rows.change_role.Goals.{else-first-x-via-then-first-x+else-x-first, else-first-x-via-else-first-x}
use Rattle.stripe_list.proofs.rows.change_role.Goals as goal

none-some : {A X : Type 0} {x : A} → ◌≡◌ {A = Option A} None (Some x) → X
none-some e = absurd (cc)

some-same : {x y : ℕ} → ◌≡◌ {A = Option ℕ} (Some x) (Some y) → x ≡ y
some-same e = cc

-- a sector among those that are put is none of the others
inside : {X : Type 0} (first x count : ℕ) → first ≤ x → x - first < count → (x < first) ⊎ (first + count ≤ x) → X
inside first x count low high (inl under) = absurd (omega (arith, low, under))
inside first x count low high (inr past) = absurd (omega (arith, low, high, past))

-- a sector that isn't put is none of them
below : {X : Type 0} (first x y : ℕ) → x ≡ y → first ≤ y → x < first → X
below first x y same low under = absurd (omega (arith, same, low, under))

behind : {X : Type 0} (first x y count : ℕ) → x ≡ y → y < first + count → first ≤ x → count ≤ x - first → X
behind first x y count same high low past = absurd (omega (arith, same, high, low, past))

pub returns-in_default-clause-changed : goal.returns-in_default-clause-changed
returns-in_default-clause-changed c = λ y placed low high. none-some (c.in_default.ensures.back y placed)

pub returns-then-x-first-clause-changed : goal.returns-then-x-first-clause-changed
returns-then-x-first-clause-changed c = λ y placed low high.
    c.copy_sector.ensures.here ∙ ap (λ (z : ℕ). sector_of c.args.from.now (z - c.args.first)) (some-same (c.in-Some.ensures.back y placed))

pub returns-then-x-first-clause-kept : goal.returns-then-x-first-clause-kept
returns-then-x-first-clause-kept c = λ apart. inside c.args.first c.in-Some.x _ c.if-first-x.true c.if-x-first.true (apart c.in-Some.x c.in-Some.ensures.stands)

pub returns-else-first-x-clause-changed : goal.returns-else-first-x-clause-changed
returns-else-first-x-clause-changed c = λ y placed low high. elim c.else-first-x.branch [
  | else-first-x-via-then-first-x+else-x-first w ↦ behind c.args.first c.in-Some.x y _ (some-same (c.in-Some.ensures.back y placed)) high w.if-first-x.true w.if-x-first.false
  | else-first-x-via-else-first-x w ↦ below c.args.first c.in-Some.x y (some-same (c.in-Some.ensures.back y placed)) low w.if-first-x.false
]
