use Rattle.std.proofs.Common.{◌≡◌, ◌≢◌, ◌==◌, ◌||◌, ◌&&◌, ℕ, Bool, true, false, not, inl, inr, refl, sym, ◌∙◌, ap, arith}
use Rattle.std.proofs.lemmas.Bool.{cases_eq, cases_lt, and_parts}
use Rattle.std.proofs.lemmas.Bool.Decides.{nat_tests}
use Rattle.reshape_begin_end.specs.raid_types_Shapes.{has_slot}
use Rattle.reshape_begin_end.proofs.sb_specs_SlotSets.{none_above, none_there}
use Rattle.reshape_sb_takeover.proofs.TakenPlan.{other-holds, slot-holds, other-held, slot-idle}
use Rattle.reshape_sb_takeover.proofs.taking.holders_then.Goals as goal

eq-is : (a b : ℕ) → a ≡ b → (a == b) ≡ true
eq-is a b is = grind (arith, nat_tests, is)

apart-is : (a b : ℕ) → b ≢ a → (a == b) ≡ false
apart-is a b other = grind (arith, nat_tests, other)

first-of : (a b : Bool) → (a || b) ≡ true → b ≡ false → a ≡ true
first-of true b is none = is
first-of false true is none = absurd (cc)
first-of false false is none = is

second-so : (a b : Bool) → b ≡ true → (a || b) ≡ true
second-so true b is = refl
second-so false b is = is

first-so : (a b : Bool) → a ≡ true → (a || b) ≡ true
first-so true b is = refl
first-so false b is = absurd (cc)

kept-so : (a b : Bool) → a ≡ true → b ≡ false → (a && not b) ≡ true
kept-so true false is none = refl
kept-so true true is none = absurd (cc)
kept-so false b is none = absurd (cc)

differs : (a b : ℕ) → a ≢ b → (a == b) ≡ false
differs a b other = grind (arith, nat_tests, other)

pub returns-then-to-eq6-clause-only : goal.returns-then-to-eq6-clause-only
returns-then-to-eq6-clause-only c = λ s has. elim (cases_eq s c.args.slot) [
  | inl same ↦ slot-holds c.args.members.now c.args.to.now c.args.slot c.requires.slot (eq-is c.args.to.now.level 6 c.if-to-eq6.true) s same
  | inr apart ↦ (
      let held = c.holders-held.ensures.only s (first-of (has_slot c.holders-held.result s) (c.args.slot == s) (sym (c.with.ensures s) ∙ has) (apart-is c.args.slot s apart)) in
      other-holds c.args.members.now c.args.to.now c.args.slot c.requires.slot s held.0 apart held.1)
]

pub returns-then-to-eq6-clause-all : goal.returns-then-to-eq6-clause-all
returns-then-to-eq6-clause-all c = λ s role below is. elim (cases_eq s c.args.slot) [
  | inl same ↦ c.with.ensures s ∙ second-so (has_slot c.holders-held.result s) (c.args.slot == s) (eq-is c.args.slot s (sym same))
  | inr apart ↦ c.with.ensures s
      ∙ first-so (has_slot c.holders-held.result s) (c.args.slot == s) (c.holders-held.ensures.all role s (other-held c.args.members.now c.args.to.now c.args.slot c.requires.slot s role apart is))
]

pub returns-clause-only : goal.returns-clause-only
returns-clause-only c = λ s has. elim (cases_lt s 32) [
  | inr above ↦ absurd (let none = none_above c.without.result s (omega arith) above in let clash = sym none ∙ has in cc)
  | inl below ↦ (
      let parts = and_parts (has_slot c.holders-held.result s) (not (has_slot c.with-2.result s)) (sym (c.without.ensures s below) ∙ has) in
      let held = c.holders-held.ensures.only s parts.0 in
      elim (cases_eq s c.args.slot) [
        | inl same ↦ absurd (
            let there = c.with-2.ensures s ∙ second-so (has_slot 0 s) (c.args.slot == s) (eq-is c.args.slot s (sym same)) in
            let clash = sym (ap not there) ∙ parts.1 in cc)
        | inr apart ↦ other-holds c.args.members.now c.args.to.now c.args.slot c.requires.slot s held.0 apart held.1
      ])
]

pub returns-clause-all : goal.returns-clause-all
returns-clause-all c = λ s role below is. elim (cases_eq s c.args.slot) [
  | inl same ↦ absurd (slot-idle c.args.members.now c.args.to.now c.args.slot c.requires.slot (differs c.args.to.now.level 6 c.if-to-eq6.false) s role same is)
  | inr apart ↦ c.without.ensures s below
      ∙ kept-so (has_slot c.holders-held.result s) (has_slot c.with-2.result s)
      (c.holders-held.ensures.all role s (other-held c.args.members.now c.args.to.now c.args.slot c.requires.slot s role apart is))
      (c.with-2.ensures s ∙ (λ i. none_there s i || apart-is c.args.slot s apart i))
]
