use Rattle.std.proofs.Common.{◌≡◌, ◌<◌, ◌≤◌, ◌==◌, ◌&&◌, ℕ, Bool, true, false, not, nat_le, get_or, length, sym, ◌∙◌, ap, ap₂, arith, below_more}
use Rattle.std.proofs.lemmas.Bool.Decides.{nat_tests}
use Rattle.std.proofs.lemmas.List.{get_or_default}
use Rattle.sb_safe_updates.proofs.raid_types_Least.{least_below-none}
use Rattle.sb_safe_updates.specs.sb_specs_Reading.{entry_of}
use Rattle.sb_safe_updates.proofs.sb_specs_Searches.{least_below-first}
use Rattle.sb_safe_updates.specs.array_members_Numbers.{is_carried}
use Rattle.sb_add_spare.proofs.device.free_number.Goals as goal
use Rattle.sb_add_spare.proofs.device.free_number.Goals.{else-work-number-eq0-via-then-work-number-eq0+else-entry_of-ge65534, else-work-number-eq0-via-else-work-number-eq0}

at-most : (a b : ℕ) → a ≤ b → nat_le a b ≡ true
at-most a b le = grind (arith, nat_tests)

above : (a b : ℕ) → b < a → nat_le a b ≡ false
above a b lt = grind (arith, nat_tests)

not-last : (b : Bool) → (not b && false) ≡ false
not-last b = grind (arith)

some : (set : ℕ) → 0 < set → not (set == 0) ≡ true
some set lt = grind (arith, nat_tests, lt)

nothing : (set : ℕ) → set ≡ 0 → not (set == 0) ≡ false
nothing set is = grind (arith, nat_tests, is)

pub loop-number-preserved : goal.loop-number-preserved
loop-number-preserved c = below_more _ _ c.loop-number.invariant here
  where
    small : c.loop-number.number < length c.args.work.now.carried
    small = let lt = c.loop-number-test.true in omega (arith, lt)

    here : (not (is_carried c.args.work.now c.loop-number.number) && nat_le 0xfffe (entry_of c.args.newest.now c.loop-number.number)) ≡ false
    here = elim c.else-work-number-eq0.branch [
      | else-work-number-eq0-via-then-work-number-eq0+else-entry_of-ge65534 w ↦
          ap (λ (b : Bool). not (is_carried c.args.work.now c.loop-number.number) && b) (above 0xfffe (entry_of c.args.newest.now c.loop-number.number) (omega arith))
          ∙ not-last (is_carried c.args.work.now c.loop-number.number)
      | else-work-number-eq0-via-else-work-number-eq0 w ↦
          ap (λ (b : Bool). not b && nat_le 0xfffe (entry_of c.args.newest.now c.loop-number.number))
          (some (get_or c.args.work.now.carried c.loop-number.number 1) (let set = get_or_default c.args.work.now.carried c.loop-number.number 1 0 small in let differ = w.if-work-number-eq0.false in omega (arith, set, differ)))
    ]

pub returns-then-entry_of-ge65534-clause-number : goal.returns-then-entry_of-ge65534-clause-number
returns-then-entry_of-ge65534-clause-number c =
    let small : c.loop-number.number < length c.args.work.now.carried = (let lt = c.loop-number-test.true in omega (arith, lt)) in
    sym (least_below-first 128 (λ number. not (is_carried c.args.work.now number) && nat_le 0xfffe (entry_of c.args.newest.now number)) c.loop-number.number c.loop-number-test.true
    (ap₂ (λ (a b : Bool). not a && b) (nothing (get_or c.args.work.now.carried c.loop-number.number 1) (get_or_default c.args.work.now.carried c.loop-number.number 1 0 small ∙ c.if-work-number-eq0.true))
    (at-most 0xfffe (entry_of c.args.newest.now c.loop-number.number) (omega arith)))
    c.loop-number.invariant)

pub returns-clause-number : goal.returns-clause-number
returns-clause-number c =
    sym (least_below-none 128 (λ number. not (is_carried c.args.work.now number) && nat_le 0xfffe (entry_of c.args.newest.now number))
    (λ j lt. c.loop-number.invariant j (omega (arith, lt, c.loop-number-test.false))))
