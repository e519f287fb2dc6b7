use Rattle.std.proofs.Common.{◌<◌, sym, subst}
use Rattle.stripe_row.specs.raid_parity_Rows.{sector_of}
use Rattle.stripe_row.specs.Rows.{present, reading_of}
use Rattle.stripe_row.specs.sb_specs_the_Members.{Members}
use Rattle.stripe_list.specs.Buffers.{HasData}
use Rattle.stripe_list.proofs.BufferLaws.{row_read}
use Rattle.stripe_list.proofs.ListLaws.{followed}
use Rattle.stripe_list.proofs.buffers.read_whole.Goals as goal

pub returns-in-Ok-clause-read : goal.returns-in-Ok-clause-read
returns-in-Ok-clause-read g c =
    let shape = c.args.shape.now in
    let old = c.args.members.now in
    let new = c.read_row.new.members in
    let before = present (g.B.Bank.given c.args.bank.now) (g.B.Bank.tape c.args.bank.now) in
    followed shape c.args.synced (reading_of new) (HasData shape) c.check.result (λ few whole told.
    row_read shape c.args.synced old new _ before c.args.row (sector_of c.read_row.new.into) c.requires.row.valid c.in-Ok.ensures.members
    (subst (λ (m : Members). c.args.row < m.newest.size) (sym c.in-Ok.ensures.members) c.requires.row.below) few whole (c.in-Ok.ensures.sectors told))
    c.check.ensures.answer c.check.ensures.whole
