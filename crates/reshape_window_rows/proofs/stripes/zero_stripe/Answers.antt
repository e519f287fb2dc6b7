use Rattle.std.proofs.Common.{◌+◌, ◌*◌, [], refl, arith}
use Rattle.reshape_begin_end.specs.bank_Tape.{disk}
use Rattle.reshape_begin_end.proofs.bank_Marks.{each_mark-map}
use Rattle.reshape_begin_end.specs.stripe_row_Rows.{present, reading_of}
use Rattle.reshape_begin_end.specs.stripe_list_Writing.{AreSuperblocksKept}
use Rattle.reshape_begin_end.specs.crash_views_Windows.{IsWrittenAt}
use Rattle.reshape_begin_end.specs.crash_safety_laws_Updates.{IsPastPlace}
use Rattle.reshape_window_rows.specs.Copies.{tail_of}
use Rattle.reshape_window_rows.proofs.StripeLaws.{past_below, past_row, zeroing, superblocks_kept, nothing, own_whole, row_stands, nothing_copied}
use Rattle.reshape_window_rows.proofs.stripes.zero_stripe.Goals as goal

pub put_stripe-requires-clause-below : goal.put_stripe-requires-clause-below
put_stripe-requires-clause-below g c = past_below c.args.members.now c.args.shape.now c.requires.rows.valid c.requires.shape c.args.stripe c.requires.stripe c.requires.rows.multiple

pub returns-clause-each_mark : goal.returns-clause-each_mark
returns-clause-each_mark g c =
    let m = c.args.members.now in
    let shape = c.args.shape.now in
    let first = c.args.stripe * shape.chunk in
    let d = disk (g.B.Bank.given c.args.bank.now).start (g.B.Bank.tape c.args.bank.now) in
    each_mark-map (λ e. IsWrittenAt (IsPastPlace m) d e × AreSuperblocksKept d e)
    (λ told e changed. (
      zeroing m shape c.requires.rows.valid c.requires.shape c.args.stripe c.requires.stripe c.requires.rows.multiple d e changed,
      superblocks_kept (reading_of m) first (first + shape.chunk) d e c.requires.behind changed,
    )) c.put_stripe.ensures.each_mark

pub returns-clause-stands : goal.returns-clause-stands
returns-clause-stands g c = λ told list zero i low high.
    let m = c.args.members.now in
    let shape = c.args.shape.now in
    let row = c.args.stripe * shape.chunk + i in
    let copied = nothing_copied (tail_of m.newest) list [] zero in
    let own = past_row m shape c.requires.rows.valid c.requires.shape c.args.stripe c.requires.stripe c.requires.rows.multiple i (omega (arith, high, c.put_stripe.ensures.within)) in
    row_stands (reading_of c.put_stripe.new.members) (present (g.B.Bank.given c.put_stripe.new.bank) (g.B.Bank.tape c.put_stripe.new.bank)) shape list row
    (own_whole shape nothing [] (tail_of m.newest) list row refl (λ at. omega arith) own copied)
    (c.put_stripe.ensures.full (tail_of m.newest) list copied told i low high own)
