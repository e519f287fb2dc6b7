use Rattle.std.proofs.Common.{◌≡◌, ◌||◌, ◌∙◌, ℕ, Bool, true, false, inl, inr, refl, sym, subst, arith}
use Rattle.std.proofs.lemmas.Bool.{cases_eq, cases_lt}
use Rattle.sb_specs.specs.declared.change.Give.TheVariants.{Same}
use Rattle.sb_specs.specs.Update.{IsRoleGive, give_of, is_live, is_added}
use Rattle.test_openings.proofs.checks.may_give.Goals as goal

pub loop-slot-preserved : goal.loop-slot-preserved
loop-slot-preserved c =
    let was = c.loop-slot.invariant in
    let gives = c.args.change.now.gives in
    let members = c.args.members.now in
    let may = c.if-not-may_get.false in
    record {
      gives = λ s low. elim (cases_eq s c.loop-slot.slot) [
        | inl same ↦ subst (λ (k : ℕ). IsRoleGive (give_of gives k)) (sym same) (c.may_get.ensures.role may)
        | inr apart ↦ was.gives s (omega (arith, low, apart))
      ];
      alone = λ s low live. elim (cases_eq s c.loop-slot.slot) [
        | inl same ↦ subst (λ (k : ℕ). give_of gives k ≡ Same) (sym same)
            (c.may_get.ensures.alone may (c.is_live.ensures ∙ subst (λ (k : ℕ). is_live members.roles members.spares k ≡ false) same live))
        | inr apart ↦ was.alone s (omega (arith, low, apart)) live
      ];
    }

left_false : (a b : Bool) → a || b ≡ false → a ≡ false
left_false true b is = is
left_false false b is = refl

pub returns-clause-alone : goal.returns-clause-alone
returns-clause-alone c = λ _ slot out.
    let change = c.args.change.now in
    let members = c.args.members.now in
    elim (cases_lt slot 32) [
      | inl low ↦ c.loop-slot.invariant.alone slot (omega (arith, low, c.loop-slot-test.false)) (left_false (is_live members.roles members.spares slot) (is_added change.added slot) out)
      | inr high ↦ c.know_the_end.ensures slot high
    ]
