use Rattle.std.proofs.Common.{◌≡◌, ◌≤◌, ◌<◌, ◌+◌, ◌&&◌, ℕ, Bool, true, false, nat_le, Some, option_map, sym, ◌∙◌, ap, ap₂, arith, below_more}
use Rattle.std.proofs.lemmas.Bool.Decides.{nat_tests}
use Rattle.raid_layout.proofs.raid_types_Least.{least_below-none}
use Rattle.raid_layout.specs.raid_types_the_Place.{Place}
use Rattle.raid_layout.specs.Layout.{place}
use Rattle.sb_update.proofs.sb_specs_Searches.{least_below-first}
use Rattle.array_members.specs.stripe_row_Rows.{reading_of, is_missing}
use Rattle.sb_safe_updates.specs.First.{is_lacking}
use Rattle.sb_safe_updates.proofs.refusing.first_lacking.Goals.{else-at-mended-via-then-at-mended+else-is_missing, else-at-mended-via-else-at-mended}
use Rattle.sb_safe_updates.proofs.refusing.first_lacking.Goals as goal

at-most : (a b : ℕ) → a ≤ b → nat_le a b ≡ true
at-most a b le = grind (arith, nat_tests)

above : (a b : ℕ) → b < a → nat_le a b ≡ false
above a b lt = grind (arith, nat_tests)

not-last : (b : Bool) → (b && false) ≡ false
not-last b = grind (arith)

pub loop-i-preserved : goal.loop-i-preserved
loop-i-preserved c = below_more _ _ c.loop-i.invariant here
  where
    at : c.place-at.result ≡ place c.args.shape.now (c.args.first + c.loop-i.i)
    at = c.place-at.ensures.place

    here : is_lacking c.args.shape.now c.args.members.now c.args.mended (c.args.first + c.loop-i.i) ≡ false
    here = ap (λ (p : Place). nat_le c.args.mended p.row && is_missing (reading_of c.args.members.now) p.role) (sym at) ∙ elim c.else-at-mended.branch [
      | else-at-mended-via-then-at-mended+else-is_missing w ↦
          ap (λ (b : Bool). nat_le c.args.mended c.place-at.result.row && b) (sym w.is_missing.ensures ∙ w.if-is_missing.false) ∙ not-last (nat_le c.args.mended c.place-at.result.row)
      | else-at-mended-via-else-at-mended w ↦
          ap (λ (b : Bool). b && is_missing (reading_of c.args.members.now) c.place-at.result.role) (above c.args.mended c.place-at.result.row (omega (arith, w.if-at-mended.false)))
    ]

pub returns-then-is_missing : goal.returns-then-is_missing
returns-then-is_missing c =
    let m = c.args.members.now in
    let at : c.place-at.result ≡ place c.args.shape.now (c.args.first + c.loop-i.i) = c.place-at.ensures.place in
    let pass : is_lacking c.args.shape.now m c.args.mended (c.args.first + c.loop-i.i) ≡ true = ap (λ (p : Place). nat_le c.args.mended p.row && is_missing (reading_of m) p.role) (sym at)
    ∙ ap₂ (λ (a b : Bool). a && b) (at-most c.args.mended c.place-at.result.row (omega (arith, c.if-at-mended.true))) (sym c.is_missing.ensures ∙ c.if-is_missing.true) in
    sym (ap (option_map (λ i. (place c.args.shape.now (c.args.first + i)).role))
    (least_below-first c.args.count (λ i. is_lacking c.args.shape.now m c.args.mended (c.args.first + i)) c.loop-i.i c.loop-i-test.true pass c.loop-i.invariant)
    ∙ ap (λ (p : Place). Some p.role) (sym at))

pub returns : goal.returns
returns c =
    let m = c.args.members.now in
    sym (ap (option_map (λ i. (place c.args.shape.now (c.args.first + i)).role))
    (least_below-none c.args.count (λ i. is_lacking c.args.shape.now m c.args.mended (c.args.first + i)) (λ j lt. c.loop-i.invariant j (omega (arith, lt, c.loop-i-test.false)))))
