use Rattle.std.proofs.Common.{cond, nat_lt, refl, ap, ◌∙◌, arith}
use borrow.Rule.Slice.PartMut.{put_mid}
use Rattle.array_create_assemble.proofs.EntryLaws.{entries-first, entries-joined}
use Rattle.array_create_assemble.proofs.device.role_entries.Goals as goal

pub loop-number-init : goal.loop-number-init
loop-number-init c = record { long = refl; each = entries-first }

pub returns : goal.returns
returns c =
    ap (λ l. put_mid 128 256 c.loop-number.entries l) c.copy_from_slice.ensures.after
    ∙ entries-joined c.args.disks c.loop-number.entries c.args.second.now (omega (arith, c.requires.disks)) c.requires.second
    c.loop-number.invariant.long (λ i h. c.loop-number.invariant.each i h
    ∙ ap (λ n. cond (nat_lt i n) i 0xfffe) (omega (arith, c.loop-number.auto.number-end, c.loop-number-test.false)))
