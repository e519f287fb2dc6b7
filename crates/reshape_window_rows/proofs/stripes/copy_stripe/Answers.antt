use Rattle.std.proofs.Common.{◌+◌, ◌*◌, ◌<◌, ℕ, get_or, arith}
use Rattle.reshape_begin_end.specs.bank_Tape.{disk}
use Rattle.reshape_begin_end.proofs.bank_Marks.{each_mark-map}
use Rattle.reshape_begin_end.specs.stripe_row_Rows.{present, reading_of}
use Rattle.reshape_begin_end.specs.stripe_list_Writing.{AreSuperblocksKept}
use Rattle.reshape_begin_end.specs.crash_views_Windows.{IsCopying}
use Rattle.reshape_window_rows.specs.Copies.{tail_of}
use Rattle.reshape_window_rows.proofs.StripeLaws.{stripe_below, own_row, copying, superblocks_kept, own_whole, row_stands}
use Rattle.reshape_window_rows.proofs.stripes.copy_stripe.Goals as goal

pub put_stripe-requires-clause-below : goal.put_stripe-requires-clause-below
put_stripe-requires-clause-below g c = stripe_below c.args.members.now c.requires.fit c.args.shape.now c.requires.shape c.args.span.now c.requires.next c.args.stripe c.requires.stripe c.requires.rows.multiple

pub returns-clause-each_mark : goal.returns-clause-each_mark
returns-clause-each_mark g c =
    let m = c.args.members.now in
    let shape = c.args.shape.now in
    let first = c.args.stripe * shape.chunk in
    let d = disk (g.B.Bank.given c.args.bank.now).start (g.B.Bank.tape c.args.bank.now) in
    each_mark-map (λ e. IsCopying m c.args.span.now d e × AreSuperblocksKept d e)
    (λ told e changed. (
      copying m c.requires.fit shape c.requires.shape c.args.span.now c.requires.next c.args.stripe c.requires.stripe c.requires.rows.multiple d e changed,
      superblocks_kept (reading_of m) first (first + shape.chunk) d e c.requires.behind changed,
    )) c.put_stripe.ensures.each_mark

pub returns-clause-stands : goal.returns-clause-stands
returns-clause-stands g c = λ told list copied i low high.
    let m = c.args.members.now in
    let shape = c.args.shape.now in
    let span = c.args.span.now in
    let row = c.args.stripe * shape.chunk + i in
    let small : (at : ℕ) → get_or c.args.buffer.now at 0 < 256 = λ at. let h = c.type_inv.buffer at in omega (arith, h) in
    let own = own_row m c.requires.fit shape c.requires.shape span c.requires.next c.args.stripe c.requires.stripe c.requires.rows.multiple i (omega (arith, high, c.put_stripe.ensures.within)) in
    row_stands (reading_of c.put_stripe.new.members) (present (g.B.Bank.given c.put_stripe.new.bank) (g.B.Bank.tape c.put_stripe.new.bank)) shape list row
    (own_whole shape span c.args.buffer.now (tail_of m.newest) list row c.requires.buffer small own copied)
    (c.put_stripe.ensures.full (tail_of m.newest) list copied told i low high own)
