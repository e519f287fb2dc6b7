use Rattle.std.proofs.Common.{◌+◌, ℕ}
use Rattle.raid_parity_simd.specs.Buffers.{buffered}
use Rattle.stripe_row.specs.Rows.{present}
use Rattle.stripe_row.proofs.Losses.{small_after}
use Rattle.stripe_runs.proofs.ReadLaws.{alike_after, row_read}
use Rattle.stripe_runs.proofs.reads.read_run.Goals as goal

pub lose_slots-requires-clause-small : goal.lose_slots-requires-clause-small
lose_slots-requires-clause-small g c = λ role slot is. (c.requires.rows.first.holders role slot is).small

pub reconstruct_run-requires-clause-small : goal.reconstruct_run-requires-clause-small
reconstruct_run-requires-clause-small g c =
    small_after c.args.members.now c.lose_slots.new.members c.read_held-lost.result c.lose_slots.ensures (λ role slot is. (c.requires.rows.first.holders role slot is).small)

pub reconstruct_run-requires-clause-alike : goal.reconstruct_run-requires-clause-alike
reconstruct_run-requires-clause-alike g c =
    alike_after c.args.members.now c.lose_slots.new.members c.read_held-lost.result c.args.shape.now c.args.run.row c.args.run.count c.lose_slots.ensures c.requires.rows.alike

pub returns-clause-sectors : goal.returns-clause-sectors
returns-clause-sectors g c = λ told role j lt within.
    let at : ℕ = c.args.run.at + j in
    row_read c.args.members.now c.lose_slots.new.members c.read_held-lost.result c.lose_slots.ensures (present (g.B.Bank.given c.args.bank.now) (g.B.Bank.tape c.args.bank.now)) c.args.shape.now (c.args.run.row + j)
    (buffered c.read_held-lost.new.buffer at) (buffered c.reconstruct_run.new.buffer at) (λ other l. c.read_held-lost.ensures.sectors told other j l within)
    (λ other l held. c.reconstruct_run.ensures.held other j l within held) (λ other l lacks. c.reconstruct_run.ensures.lacking other j l within lacks) role lt
