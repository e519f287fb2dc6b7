use Rattle.std.proofs.Common.{◌≡◌, Bool, true, false, sym, ◌∙◌, ap, subst, arith, ◌||◌, ◌==◌}
use Rattle.sb_safe_updates.proofs.sb_specs_SlotSets.{none_there}
use Rattle.sb_safe_updates.specs.array_members_Numbers.{bearers}
use Rattle.sb_add_spare.proofs.Bearers.{bearers-with, bearers-without, bearers-still}
use Rattle.sb_add_spare.proofs.device.bearers.Goals as goal

pub returns-then-is : goal.returns-then-is
returns-then-is c =
    subst (λ (b : Bool). c.with.result ≡ bearers c.args.only c.args.slot b c.args.slots) (sym c.if-is.true)
    (bearers-with c.args.only c.args.slot c.args.slots c.with.result (omega (arith, c.with.type_inv)) c.with.ensures)

pub returns-then-only : goal.returns-then-only
returns-then-only c =
    subst (λ (b : Bool). c.without.result ≡ bearers b c.args.slot c.args.is c.args.slots) (sym c.if-only.true)
    (subst (λ (b : Bool). c.without.result ≡ bearers true c.args.slot b c.args.slots) (sym c.if-is.false)
    (bearers-without c.args.slot c.args.slots c.with-then-only.result c.without.result (omega (arith, c.without.type_inv)) (λ s. c.with-then-only.ensures s ∙ ap (λ (b : Bool). b || (c.args.slot == s)) (none_there s)) c.without.ensures))

pub returns : goal.returns
returns c =
    subst (λ (b : Bool). c.args.slots ≡ bearers b c.args.slot c.args.is c.args.slots) (sym c.if-only.false)
    (subst (λ (b : Bool). c.args.slots ≡ bearers false c.args.slot b c.args.slots) (sym c.if-is.false)
    (bearers-still c.args.slot c.args.slots (omega (arith, c.ranges.slots.fits))))
