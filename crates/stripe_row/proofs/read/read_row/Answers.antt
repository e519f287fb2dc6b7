use Rattle.stripe_row.specs.Rows.{present}
use Rattle.stripe_row.proofs.Losses.{row_read, small_after}
use Rattle.stripe_row.proofs.read.read_row.Goals as goal

pub lose_slots-requires-clause-small : goal.lose_slots-requires-clause-small
lose_slots-requires-clause-small g c = λ role slot is. (c.requires.row.holders role slot is).small

pub reconstruct_missing-requires-clause-small : goal.reconstruct_missing-requires-clause-small
reconstruct_missing-requires-clause-small g c =
    small_after c.args.members.now c.lose_slots.new.members c.read_held-lost.result c.lose_slots.ensures (λ role slot is. (c.requires.row.holders role slot is).small)

pub returns-clause-sectors : goal.returns-clause-sectors
returns-clause-sectors g c = λ told role lt.
    row_read c.args.members.now c.lose_slots.new.members c.read_held-lost.result c.lose_slots.ensures (present (g.B.Bank.given c.args.bank.now) (g.B.Bank.tape c.args.bank.now)) c.args.shape.now c.args.row
    c.read_held-lost.new.into c.reconstruct_missing.new.into (c.read_held-lost.ensures.sectors told) c.reconstruct_missing.ensures.held c.reconstruct_missing.ensures.lacking role lt
