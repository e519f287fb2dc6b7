use Rattle.std.proofs.Common.{◌≡◌, ◌&&◌, Bool, false, not, sym, ◌∙◌, ap, ap₂, arith, below_more}
use Rattle.raid_layout.proofs.raid_types_Least.{least_below-none}
use Rattle.raid_layout.specs.Layout.{is_parity_only}
use Rattle.sb_update.proofs.sb_specs_Searches.{least_below-first}
use Rattle.array_members.specs.stripe_row_Rows.{reading_of, is_missing}
use Rattle.sb_safe_updates.proofs.refusing.lowest_missing.Goals.{else-is_missing-via-then-is_missing+else-not-parity_only, else-is_missing-via-else-is_missing}
use Rattle.sb_safe_updates.proofs.refusing.lowest_missing.Goals as goal

not-last : (b : Bool) → (b && false) ≡ false
not-last b = grind (arith)

pub loop-role-preserved : goal.loop-role-preserved
loop-role-preserved c = below_more _ _ c.loop-role.invariant here
  where
    here : (is_missing (reading_of c.args.members.now) c.loop-role.role && not (is_parity_only c.args.shape.now c.loop-role.role)) ≡ false
    here = elim c.else-is_missing.branch [
      | else-is_missing-via-then-is_missing+else-not-parity_only w ↦
          ap (λ (b : Bool). is_missing (reading_of c.args.members.now) c.loop-role.role && not b)
          (sym w.parity_only.ensures.value ∙ w.if-not-parity_only.false)
          ∙ not-last (is_missing (reading_of c.args.members.now) c.loop-role.role)
      | else-is_missing-via-else-is_missing w ↦
          ap (λ (b : Bool). b && not (is_parity_only c.args.shape.now c.loop-role.role)) (sym c.is_missing.ensures ∙ w.if-is_missing.false)
    ]

pub returns-then-not-parity_only : goal.returns-then-not-parity_only
returns-then-not-parity_only c =
    let m = c.args.members.now in
    sym (least_below-first c.args.shape.now.disks (λ role. is_missing (reading_of m) role && not (is_parity_only c.args.shape.now role)) c.loop-role.role
    (let lt = c.loop-role-test.true in omega (arith, lt))
    (ap₂ (λ (a b : Bool). a && not b) (sym c.is_missing.ensures ∙ c.if-is_missing.true)
    (sym c.parity_only.ensures.value ∙ c.if-not-parity_only.true))
    c.loop-role.invariant)

pub returns : goal.returns
returns c =
    let m = c.args.members.now in
    sym (least_below-none c.args.shape.now.disks (λ role. is_missing (reading_of m) role && not (is_parity_only c.args.shape.now role))
    (λ j lt. c.loop-role.invariant j (omega (arith, lt, c.loop-role-test.false))))
