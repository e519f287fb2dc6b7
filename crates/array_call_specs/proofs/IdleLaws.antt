-- Where no step is left, nothing is left to do.
use Rattle.std.proofs.Common.{◌≡◌, ◌⊎◌, inl, inr, ℕ, zero, suc, ◌+◌, ◌-◌, ◌*◌, ◌<◌, ◌≤◌, min, Bool, true, false, cond, Option, Some, None, is_some, refl, sym, ◌∙◌, ap, subst, arith}
use Rattle.std.proofs.Math.Nat.{suc-mul, le-min}
use Rattle.std.proofs.lemmas.Bool.{cases_lt}
use Rattle.raid_types.specs.Search.{count_below}
use Rattle.raid_types.specs.declared.status.Role.TheVariants.{Recovering}
use Rattle.history_append.specs.sb_specs_the_Members.{Members}
use Rattle.history_append.specs.sb_specs_Reading.{role_state}
use Rattle.history_append.specs.stripe_row_Rows.{reading_of}
use Rattle.history_append.specs.array_members_the_Work.{Work}
use Rattle.history_append.specs.array_members_Status.{stripes_of, rebuilt_of, resync_left, role_left, recovery_left}

pub counted-none : (n : ℕ) (f : ℕ → Bool) → count_below n f ≡ 0 → (k : ℕ) → k < n → f k ≡ true → ⊥
unfolding count_below
counted-none zero f none k lt is = omega (arith, lt)
counted-none (suc n) f none k lt is = elim (cases_lt k n) [
  | inl below ↦ counted-none n f (let low : count_below n f ≤ 0 = omega (arith, none) in omega (arith, low)) k below is
  | inr above ↦
      let same : k ≡ n = omega (arith, lt, above) in
      let one : ◌≡◌ {A = ℕ} (cond (f n) 1 0) 1 = ap (λ (b : Bool). cond b 1 0) (ap f (sym same) ∙ is) in
      omega (arith, none, one)
]

pub recovered-none : (work : Work) (members : Members) (n : ℕ) → recovery_left work members n ≡ 0 → (role slot : ℕ) → role < n → role_state (reading_of members) role ≡ Recovering slot → ⊥
unfolding recovery_left
recovered-none work members zero none role slot lt is = omega (arith, lt)
recovered-none work members (suc n) none role slot lt is = elim (cases_lt role n) [
  | inl below ↦ recovered-none work members n (let low : recovery_left work members n ≤ 0 = omega (arith, none) in omega (arith, low)) role slot below is
  | inr above ↦
      let same : role ≡ n = omega (arith, lt, above) in
      let some : role_left (stripes_of members) (rebuilt_of work n) (role_state (reading_of members) n) ≡ stripes_of members - rebuilt_of work n + 1 =
      ap (role_left (stripes_of members) (rebuilt_of work n)) (subst (λ (r : ℕ). role_state (reading_of members) r ≡ Recovering slot) same is) in
      omega (arith, none, some)
]

pub times-none : (a k : ℕ) → a * (k + 2) ≡ 0 → a ≡ 0
times-none zero k none = refl
times-none (suc n) k none = absurd (let more = suc-mul n (k + 2) in omega (arith, none, more))

pub min-none : (a b : ℕ) → min a b ≡ 0 → (a ≡ 0) ⊎ (b ≡ 0)
min-none a b none = elim (cases_lt a b) [
  | inl below ↦ inl (let low : a ≤ min a b = le-min (omega arith) (omega (arith, below)) in omega (arith, low, none))
  | inr above ↦ inr (let low : b ≤ min a b = le-min above (omega arith) in omega (arith, low, none))
]

pub no-resync : (resync : Option ℕ) (members : Members) → resync_left resync members ≡ 0 → is_some resync ≡ false
no-resync None members none = refl
no-resync (Some mended) members none = absurd (omega (arith, none))
