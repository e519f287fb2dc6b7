use Rattle.std.proofs.Common.{◌≡◌, ◌≢◌, ◌+◌, ◌&&◌, ◌||◌, ◌==◌, ℕ, Bool, true, false, not, nat_lt, cond, List, inl, inr, refl, sym, ◌∙◌, ap, ap₂, subst, arith}
use Rattle.std.proofs.lemmas.Bool.{cases_eq}
use Rattle.std.proofs.lemmas.Bool.Decides.{nat_tests}
use Rattle.sb_safe_updates.specs.raid_types_Shapes.{has_slot}
use Rattle.sb_safe_updates.specs.raid_types_Search.{count_below}
use Rattle.sb_safe_updates.specs.sb_specs_Reads.{has_spare}
use Rattle.sb_safe_updates.proofs.sb_specs_SlotSets.{none_there}
use Rattle.reshape_sb_updates.specs.Beginning.{new_role}
use Rattle.reshape_sb_updates.proofs.Counts.{count-none, count-more, count-most, as-many, byte-is}
use Rattle.reshape_begin_end.proofs.beginning.idle_spares.Goals as goal

less-self : (n : ℕ) → nat_lt n n ≡ false
less-self n = grind (arith, nat_tests)

less-next : (n : ℕ) → nat_lt n (n + 1) ≡ true
less-next n = grind (arith, nat_tests)

less-apart : (s n : ℕ) → s ≢ n → nat_lt s (n + 1) ≡ nat_lt s n
less-apart s n apart = grind (arith, nat_tests, apart)

same-self : (n : ℕ) → (n == n) ≡ true
same-self n = grind (arith, nat_tests)

differ : (a b : ℕ) → b ≢ a → (a == b) ≡ false
differ a b apart = grind (arith, nat_tests, apart)

here : (x : Bool) → ((false && x) || (x && true)) ≡ (true && x)
here true = refl
here false = refl

there : (a b : Bool) → (a || (b && false)) ≡ a
there true b = refl
there false true = refl
there false false = refl

abbrev is_past : List ℕ → ℕ → ℕ → ℕ → Bool
is_past spares first disks s = has_spare spares s && not (nat_lt (new_role spares first s) disks)

pub loop-slot-init : goal.loop-slot-init
loop-slot-init c = ((let none = count-none (has_spare c.args.spares.now) in omega (arith, none)), λ s. none_there s ∙ sym (ap (λ (b : Bool). b && (has_spare c.args.spares.now s && not (nat_lt (new_role c.args.spares.now c.args.first s) c.args.disks))) (none s)))
  where
    none : (s : ℕ) → nat_lt s 0 ≡ false
    none s = grind (arith, nat_tests)

pub overflow_add-role : goal.overflow_add-role
overflow_add-role c =
    let so-far = c.loop-slot.invariant.0 in
    let most = count-most c.loop-slot.slot (has_spare c.args.spares.now) in
    let one = as-many c.contains-is_spare.result c.from-role.result (c.from-role.ensures ∙ byte-is c.contains-is_spare.result) in
    let first = c.requires in
    let more = c.loop-slot-test.true in
    omega (arith, so-far, most, one, first, more)

pub loop-slot-preserved : goal.loop-slot-preserved
loop-slot-preserved c = (
  ap₂ (λ (a b : ℕ). a + b) c.loop-slot.invariant.0 (c.from-role.ensures ∙ byte-is c.contains-is_spare.result) ∙ next,
  λ s. c.with_idle-idle.ensures s ∙ (λ i. c.loop-slot.invariant.1 s i || (idle-is i && (c.loop-slot.slot == s))) ∙ elim (cases_eq s c.loop-slot.slot) [
    | inl same ↦ subst (λ (t : ℕ). ((nat_lt t c.loop-slot.slot && is_past c.args.spares.now c.args.first c.args.disks t) || (is_past c.args.spares.now c.args.first c.args.disks c.loop-slot.slot && (c.loop-slot.slot == t))) ≡ (nat_lt t (c.loop-slot.slot + 1) && is_past c.args.spares.now c.args.first c.args.disks t)) (sym same)
        ((λ i. (less-self c.loop-slot.slot i && is_past c.args.spares.now c.args.first c.args.disks c.loop-slot.slot) || (is_past c.args.spares.now c.args.first c.args.disks c.loop-slot.slot && same-self c.loop-slot.slot i)) ∙ here (is_past c.args.spares.now c.args.first c.args.disks c.loop-slot.slot)
        ∙ sym (ap (λ (b : Bool). b && is_past c.args.spares.now c.args.first c.args.disks c.loop-slot.slot) (less-next c.loop-slot.slot)))
    | inr apart ↦ ap (λ (b : Bool). (nat_lt s c.loop-slot.slot && is_past c.args.spares.now c.args.first c.args.disks s) || (is_past c.args.spares.now c.args.first c.args.disks c.loop-slot.slot && b)) (differ c.loop-slot.slot s apart)
        ∙ there (nat_lt s c.loop-slot.slot && is_past c.args.spares.now c.args.first c.args.disks s) (is_past c.args.spares.now c.args.first c.args.disks c.loop-slot.slot) ∙ sym (ap (λ (b : Bool). b && is_past c.args.spares.now c.args.first c.args.disks s) (less-apart s c.loop-slot.slot apart))
  ],
)
  where
    idle-is : (c.contains-is_spare.result && not (nat_lt c.loop-slot.role c.args.disks)) ≡ is_past c.args.spares.now c.args.first c.args.disks c.loop-slot.slot
    idle-is = (λ i. c.contains-is_spare.ensures i && not (nat_lt (c.loop-slot.invariant.0 i) c.args.disks))

    next : c.args.first + count_below c.loop-slot.slot (has_spare c.args.spares.now) + cond c.contains-is_spare.result 1 0 ≡ c.args.first + count_below (c.loop-slot.slot + 1) (has_spare c.args.spares.now)
    next =
        let more = count-more c.loop-slot.slot (has_spare c.args.spares.now) in
        let same : ◌≡◌ {A = ℕ} (cond c.contains-is_spare.result 1 0) (cond (has_spare c.args.spares.now c.loop-slot.slot) 1 0) = ap (λ (b : Bool). cond b 1 0) c.contains-is_spare.ensures in
        omega (arith, more, same)

pub returns : goal.returns
returns c =
    let all : c.loop-slot.slot ≡ 32 = omega arith in
    subst (λ (n : ℕ). (s : ℕ) → has_slot c.loop-slot.idle s ≡ (nat_lt s n && (has_spare c.args.spares.now s && not (nat_lt (new_role c.args.spares.now c.args.first s) c.args.disks)))) all c.loop-slot.invariant.1
