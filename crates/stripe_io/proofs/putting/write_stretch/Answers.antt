use Rattle.std.specs.Prelude.{MatchOption, ⊤, Option}
use Rattle.sb_safe_updates.specs.raid_types_the_Refusal.{Refusal}
use Rattle.std.proofs.Common.{inl, inr, List, sym, subst, ap}
use Rattle.sb_safe_updates.specs.bank_Given.{Given}
use Rattle.sb_safe_updates.specs.bank_Tape.{IsIn}
use Rattle.sb_safe_updates.specs.raid_types_Sectors.{Sector}
use Rattle.sb_safe_updates.proofs.stripe_row_Turns.{marks_last}
use Rattle.sb_safe_updates.specs.stripe_row_Rows.{present}
use Rattle.sb_safe_updates.specs.array_members_Placed.{AreLost}
use Rattle.sb_safe_updates.specs.array_members_Lacking.{AreRowsWritten, LacksTooMany}
use Rattle.sb_safe_updates.proofs.array_members_MemberLaws.{are_lost}
use Rattle.sb_safe_updates.proofs.array_members_MovedLaws.{lost-none}
use Rattle.sb_safe_updates.proofs.array_members_MarkedLaws.{grows-marks}
use Rattle.sb_safe_updates.proofs.array_members_LackingLaws.{too-many-answer}
use Rattle.sb_safe_updates.proofs.array_members_Fit.{has-rows, force-valid}
use Rattle.sb_safe_updates.proofs.array_members_LackingWrites.{list-in, list-in-is, list-with, list-with-is}
use Rattle.sb_safe_updates.specs.history_Sound.{OpensFit}
use Rattle.sb_safe_updates.proofs.array_members_SafeStretch.{safe-put}
use Rattle.sb_safe_updates.proofs.Unused.{unused-role}
use Rattle.stripe_io.proofs.CallLaws.{roles-left}
use Rattle.sb_safe_updates.specs.sb_specs_the_Members.{Members}
use Rattle.sb_safe_updates.specs.sb_specs_Reading.{is_clean}
use Rattle.sb_safe_updates.proofs.FrameLaws.{keeps-lost}
use Rattle.stripe_io.proofs.putting.write_stretch.Goals as goal

pub write_touched-written-requires-clause-rows : goal.write_touched-written-requires-clause-rows
write_touched-written-requires-clause-rows g c = has-rows (g.B.Bank.given c.args.bank.now) c.args.members.now c.requires.placed c.args.shape.now c.requires.shape

pub returns-clause-refused : goal.returns-clause-refused
returns-clause-refused g c =
    let n = c.write_touched-written.new.members in
    let did = c.write_touched-written.ensures in
    subst (λ (o : Option Refusal). MatchOption o ⊤ (LacksTooMany c.args.shape.now n)) (sym c.refused_by-refusal.ensures)
    (too-many-answer n c.args.shape.now c.write_touched-written.result.answer did.answer)

pub returns-clause-written : goal.returns-clause-written
returns-clause-written g c = λ told.
    let did = c.write_touched-written.ensures in
    let given = g.B.Bank.given c.args.bank.now in
    let tape0 = g.B.Bank.tape c.args.bank.now in
    let tape1 = g.B.Bank.tape c.write_touched-written.new.bank in
    subst (λ (b : Given). AreRowsWritten c.args.shape.now c.args.first c.args.from.now c.args.rows.now c.args.start c.write_touched-written.result.next_row c.write_touched-written.new.members
    (present given tape0) (present b tape1) c.args.buffer.now.items c.write_touched-written.new.buffer.items) did.given (record {
      full = λ list list' w has. did.full list list' w told has;
      rebuilt = λ list list' w has. did.rebuilt list list' w told has;
      others = λ row none role slot held. did.others told row none slot;
      rest = did.rest;
      standing = did.standing told;
    })

pub returns-clause-kept : goal.returns-clause-kept
returns-clause-kept g c = λ whole.
    let m = c.args.members.now in
    let n = c.write_touched-written.new.members in
    let given = g.B.Bank.given c.args.bank.now in
    let did = c.write_touched-written.ensures in
    let f0 = g.B.Bank.faults_of c.args.bank.now in
    let f1 = g.B.Bank.faults_of c.write_touched-written.new.bank in
    let r = c.write_touched-written.result.lost in
    let shape = c.args.shape.now in
    let lost : AreLost given shape m n r f0 f1 = are_lost given shape m n r f0 f1 c.requires.placed did.lost.members did.lost.failed did.lost.never_falls in
    lost.kept (lost-none given shape m n r f0 f1 lost c.requires.shape whole)

pub returns-clause-safe : goal.returns-clause-safe
returns-clause-safe g c = λ told world ledger dirty region list list' w has allowed zeros safe.
    let did = c.write_touched-written.ensures in
    let given = g.B.Bank.given c.args.bank.now in
    let tape0 = g.B.Bank.tape c.args.bank.now in
    let tape1 = g.B.Bank.tape c.write_touched-written.new.bank in
    safe-put (OpensFit world) world.scope given ledger c.args.members.now c.write_touched-written.new.members c.write_touched-written.result.lost c.args.shape.now list' c.args.rows.now tape0 tape1 told
    did.lost.members c.requires.placed dirty c.requires.unlost region allowed zeros
    (did.each_mark list list' w has) safe

pub refused_by-refusal-requires-clause-shape : goal.refused_by-refusal-requires-clause-shape
refused_by-refusal-requires-clause-shape g c = force-valid c.args.members.now.newest c.requires.placed.fit c.args.shape.now c.requires.shape

pub refused_by-refusal-requires-clause-roles : goal.refused_by-refusal-requires-clause-roles
refused_by-refusal-requires-clause-roles g c =
    roles-left (g.B.Bank.given c.args.bank.now) c.args.members.now c.write_touched-written.new.members c.write_touched-written.result.lost c.write_touched-written.ensures.lost.members c.requires.placed c.args.shape.now c.requires.shape

pub write_touched-written-requires-clause-below : goal.write_touched-written-requires-clause-below
write_touched-written-requires-clause-below g c = c.requires.below

pub write_touched-written-requires-clause-once : goal.write_touched-written-requires-clause-once
write_touched-written-requires-clause-once g c = c.requires.once

pub write_touched-written-requires-clause-from : goal.write_touched-written-requires-clause-from
write_touched-written-requires-clause-from g c = c.requires.from

pub write_touched-written-requires-clause-standing : goal.write_touched-written-requires-clause-standing
write_touched-written-requires-clause-standing g c = c.requires.standing

pub write_touched-written-requires-clause-behind : goal.write_touched-written-requires-clause-behind
write_touched-written-requires-clause-behind g c = c.requires.placed.behind

pub write_touched-written-requires-clause-apart : goal.write_touched-written-requires-clause-apart
write_touched-written-requires-clause-apart g c = c.requires.placed.apart

pub returns-clause-reached : goal.returns-clause-reached
returns-clause-reached g c = c.write_touched-written.ensures.reached

pub returns-clause-within : goal.returns-clause-within
returns-clause-within g c = c.write_touched-written.ensures.within

pub returns-clause-size : goal.returns-clause-size
returns-clause-size g c = c.write_touched-written.ensures.size

pub returns-clause-clean : goal.returns-clause-clean
returns-clause-clean g c = ap (λ (x : Members). is_clean x.newest) c.write_touched-written.ensures.lost.members

-- rows are written to slots that hold roles alone
pub returns-clause-keeps : goal.returns-clause-keeps
returns-clause-keeps g c =
    let m = c.args.members.now in
    let n = c.write_touched-written.new.members in
    let given = g.B.Bank.given c.args.bank.now in
    let did = c.write_touched-written.ensures in
    let f0 = g.B.Bank.faults_of c.args.bank.now in
    let f1 = g.B.Bank.faults_of c.write_touched-written.new.bank in
    let r = c.write_touched-written.result.lost in
    let shape = c.args.shape.now in
    let list = list-in shape c.args.rows.now c.args.buffer.now.items in
    let marks = did.each_mark list (list-with list c.args.first c.args.from.now) (list-with-is list c.args.first c.args.from.now)
    (λ told. list-in-is shape c.args.rows.now c.args.buffer.now.items c.args.start c.requires.once) in
    keeps-lost c.args.bank.now c.write_touched-written.new.bank shape m n r c.requires.placed c.requires.unlost
    (are_lost given shape m n r f0 f1 c.requires.placed did.lost.members did.lost.failed did.lost.never_falls) did.given (grows-marks marks)
    (λ told s k v unused may. elim ((marks_last marks told).0 s k) [
      | inl same ↦ subst (λ (l : List Sector). IsIn l v) same may
      | inr at ↦ absurd (unused-role given m c.requires.placed s unused at.role at.held)
    ])
