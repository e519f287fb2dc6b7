use Rattle.std.proofs.Common.{refl, sym, ◌∙◌, subst}
use Rattle.sb_safe_updates.specs.bank_Given.{Given}
use Rattle.sb_safe_updates.specs.stripe_row_Rows.{present}
use Rattle.sb_safe_updates.specs.crash_safety_laws_Marking.{AreOthersPresent}
use Rattle.sb_safe_updates.proofs.array_members_MovedLaws.{moved-from}
use Rattle.sb_safe_updates.proofs.array_members_LackingLaws.{in-second}
use Rattle.sb_safe_updates.proofs.array_members_LackingWrites.{written-later}
use mathlib.Core.List.{not-mem-nil}
use Rattle.sb_safe_updates.proofs.array_members_LackingLists.{none-of}
use Rattle.sb_safe_updates.proofs.FrameLaws.{keeps-then, stands-on, safe-on}
use Rattle.stripe_io.proofs.putting.put_stretch.Goals as goal

pub returns-clause-written : goal.returns-clause-written
returns-clause-written g c = λ told.
    let given = g.B.Bank.given c.args.bank.now in
    let given1 = g.B.Bank.given c.write_stretch-next.new.bank in
    let tape1 = g.B.Bank.tape c.write_stretch-next.new.bank in
    let tape2 = g.B.Bank.tape c.record_missing-spares.new.bank in
    let n = c.write_stretch-next.new.members in
    let did = c.write_stretch-next.ensures in
    written-later given n c.record_missing-spares.new.members
    (moved-from given given1 n n c.record_missing-spares.new.members did.keeps.bank.same refl c.record_missing-spares.ensures.keeps.moved) did.keeps.moved.placed
    (present given tape1) (present given tape2)
    (subst (λ (b : Given). AreOthersPresent (present b tape1) (present b tape2)) did.keeps.bank.same (c.record_missing-spares.ensures.others told))
    c.args.shape.now c.args.first c.args.from.now c.args.rows.now c.args.start c.write_stretch-next.result.next (present given (g.B.Bank.tape c.args.bank.now)) c.args.buffer.now.items c.write_stretch-next.new.buffer.items
    (did.written told)

pub returns-then-is_some-clause-safe : goal.returns-then-is_some-clause-safe
returns-then-is_some-clause-safe g c = λ told world ledger room gone unclean dirty region list list' w has allowed zeros safe. c.write_stretch-next.ensures.safe told world ledger dirty region list list' w has allowed zeros safe

pub returns-clause-kept : goal.returns-clause-kept
returns-clause-kept g c = λ whole.
    let mid = c.record_missing-spares.ensures.keeps.moved.whole whole in
    c.record_missing-spares.ensures.kept mid ∙ c.write_stretch-next.ensures.kept mid

pub write_stretch-next-requires-clause-below : goal.write_stretch-next-requires-clause-below
write_stretch-next-requires-clause-below g c = c.requires.below

pub write_stretch-next-requires-clause-once : goal.write_stretch-next-requires-clause-once
write_stretch-next-requires-clause-once g c = c.requires.once

pub write_stretch-next-requires-clause-from : goal.write_stretch-next-requires-clause-from
write_stretch-next-requires-clause-from g c = c.requires.from

pub write_stretch-next-requires-clause-standing : goal.write_stretch-next-requires-clause-standing
write_stretch-next-requires-clause-standing g c = c.requires.standing

pub is_some-requires : goal.is_some-requires
is_some-requires g c κs a has = absurd (not-mem-nil has)

pub returns-then-is_some-clause-refused : goal.returns-then-is_some-clause-refused
returns-then-is_some-clause-refused g c = c.write_stretch-next.ensures.refused

pub returns-then-is_some-clause-written : goal.returns-then-is_some-clause-written
returns-then-is_some-clause-written g c = c.write_stretch-next.ensures.written

pub returns-then-is_some-clause-reached : goal.returns-then-is_some-clause-reached
returns-then-is_some-clause-reached g c = c.write_stretch-next.ensures.reached

pub returns-then-is_some-clause-within : goal.returns-then-is_some-clause-within
returns-then-is_some-clause-within g c = c.write_stretch-next.ensures.within

pub returns-then-is_some-clause-further : goal.returns-then-is_some-clause-further
returns-then-is_some-clause-further g c = c.write_stretch-next.ensures.further

pub returns-then-is_some-clause-clean : goal.returns-then-is_some-clause-clean
returns-then-is_some-clause-clean g c = c.write_stretch-next.ensures.clean

pub returns-then-is_some-clause-kept : goal.returns-then-is_some-clause-kept
returns-then-is_some-clause-kept g c = c.write_stretch-next.ensures.kept

pub returns-then-is_some-clause-size : goal.returns-then-is_some-clause-size
returns-then-is_some-clause-size g c = c.write_stretch-next.ensures.size

pub returns-clause-reached : goal.returns-clause-reached
returns-clause-reached g c = c.write_stretch-next.ensures.reached

pub returns-clause-within : goal.returns-clause-within
returns-clause-within g c = c.write_stretch-next.ensures.within

pub returns-clause-size : goal.returns-clause-size
returns-clause-size g c = c.write_stretch-next.ensures.size

pub returns-clause-further : goal.returns-clause-further
returns-clause-further g c none low = c.write_stretch-next.ensures.further (none-of c.write_stretch-next.result.refusal (sym c.is_some.ensures ∙ c.if-is_some.false)) low

pub returns-clause-clean : goal.returns-clause-clean
returns-clause-clean g c = c.record_missing-spares.ensures.clean ∙ c.write_stretch-next.ensures.clean

pub write_stretch-next-requires-clause-slots : goal.write_stretch-next-requires-clause-slots
write_stretch-next-requires-clause-slots g c = c.requires.stands.slots

pub write_stretch-next-requires-clause-placed : goal.write_stretch-next-requires-clause-placed
write_stretch-next-requires-clause-placed g c = c.requires.stands.placed

pub write_stretch-next-requires-clause-unlost : goal.write_stretch-next-requires-clause-unlost
write_stretch-next-requires-clause-unlost g c = c.requires.stands.unlost

pub record_missing-spares-requires : goal.record_missing-spares-requires
record_missing-spares-requires g c = record { stands = stands-on c.write_stretch-next.ensures.keeps c.requires.stands }

pub returns-then-is_some-clause-keeps : goal.returns-then-is_some-clause-keeps
returns-then-is_some-clause-keeps g c = c.write_stretch-next.ensures.keeps

pub returns-clause-keeps : goal.returns-clause-keeps
returns-clause-keeps g c =
    let did = c.record_missing-spares.ensures in
    keeps-then c.write_stretch-next.ensures.keeps did.keeps (in-second c.record_missing-spares.result)

pub returns-clause-safe : goal.returns-clause-safe
returns-clause-safe g c = λ told world ledger room gone unclean dirty region list list' w has allowed zeros safe.
    let did = c.record_missing-spares.ensures in
    let named = did.keeps in
    safe-on told world ledger c.write_stretch-next.ensures.keeps named room
    (λ early. c.write_stretch-next.ensures.safe told world ledger dirty region list list' w has allowed zeros safe)
    (λ late. did.safe told world ledger late gone (λ is. unclean))
