use Rattle.std.proofs.Common.{◌≡◌, ◌||◌, ◌==◌, ℕ, Bool, true, false, sym, ◌∙◌, refl, arith}
use Rattle.std.proofs.lemmas.Bool.Decides.{nat_tests}
use Rattle.sb_specs.specs.raid_types_Shapes.{has_slot}
use Rattle.sb_update.proofs.Turns.{turned-due}
use Rattle.sb_update.proofs.pass.turn.Goals as goal

itself : (h : Bool) (n : ℕ) → (h || (n == n)) ≡ true
itself true n = refl
itself false n = grind (arith, nat_tests)

pub returns-then-write_slot-clause-tape : goal.returns-then-write_slot-clause-tape
returns-then-write_slot-clause-tape g c = λ told.
    let wrote = c.write_slot.ensures.tape told in
    let lost : has_slot c.with-members.result c.args.slot ≡ c.write_slot.result =
    c.with-members.ensures c.args.slot ∙ itself (has_slot c.args.members.now.lost c.args.slot) c.args.slot ∙ sym c.if-write_slot.true in
    (wrote.0, wrote.1, turned-due _ c.args.slot _ _ _ _ _ wrote.0 (sym c.if-not-contains.ensures) (sym c.if-contains.ensures) lost wrote.2)
