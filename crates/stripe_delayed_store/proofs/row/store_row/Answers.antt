use Rattle.std.proofs.Common.{ℕ, [], ◌∷◌, sym, subst}
use Rattle.std.specs.Prelude.{Contains}
use Rattle.sb_safe_updates.specs.bank_Tape.{disk}
use Rattle.sb_safe_updates.proofs.bank_Marks.{each_mark-map}
use Rattle.sb_safe_updates.specs.stripe_row_Rows.{reading_of, lost_of}
use Rattle.sb_safe_updates.specs.stripe_row_Writes.{IsWriting}
use Rattle.sb_safe_updates.proofs.stripe_row_Turns.{marks_last}
use Rattle.sb_safe_updates.specs.stripe_list_Calls.{AreLost}
use Rattle.sb_safe_updates.specs.stripe_list_Writing.{IsPutting, AreSuperblocksKept}
use Rattle.stripe_list.proofs.WriteLaws.{putting, others_kept, row_full, row_rebuilt}
use Rattle.sb_safe_updates.proofs.stripe_list_PutLaws.{superblocks_kept}
use Rattle.stripe_delayed_store.proofs.RowLaws.{out-full, out-unwritten, one-row}
use Rattle.stripe_delayed_store.proofs.row.store_row.Goals as goal

pub returns-clause-lost : goal.returns-clause-lost
returns-clause-lost g c =
    let did = c.write_row.ensures in
    subst (λ (lost : ℕ). AreLost c.args.shape.now c.args.members.now c.write_row.new.members lost (g.B.Bank.faults_of c.args.bank.now) (g.B.Bank.faults_of c.write_row.new.bank)) (sym c.lost_of.ensures)
    (record { members = did.members; failed = did.failed; never_falls = did.never_falls })

pub returns-clause-each_mark : goal.returns-clause-each_mark
returns-clause-each_mark g c = λ list own.
    let r = reading_of c.args.members.now in
    let d = disk (g.B.Bank.given c.args.bank.now).start (g.B.Bank.tape c.args.bank.now) in
    each_mark-map (λ e. IsPutting r c.args.shape.now list (Contains (c.args.row ∷ [])) d e × AreSuperblocksKept d e)
    (λ told e writing.
    let put = one-row r c.args.shape.now list c.args.row d e (putting r c.args.shape.now c.args.row c.args.bytes.now c.args.changed list d e
    (out-full c.args.shape.now c.args.row c.args.bytes.now list c.requires.row.valid (own told)) writing) in
    (put, superblocks_kept r c.args.shape.now list (Contains (c.args.row ∷ [])) d e c.requires.behind put))
    c.write_row.ensures.each_mark

pub returns-clause-full : goal.returns-clause-full
returns-clause-full g c = λ list told own.
    let given = g.B.Bank.given c.args.bank.now in
    let old = g.B.Bank.tape c.args.bank.now in
    let did = c.write_row.ensures in
    row_full c.args.members.now c.write_row.new.members (lost_of c.write_row.result) given (g.B.Bank.given c.write_row.new.bank) old (g.B.Bank.tape c.write_row.new.bank)
    c.args.shape.now c.args.row c.args.bytes.now c.args.changed list did.members did.given c.requires.apart
    (c.requires.others told)
    (marks_last {P = IsWriting (reading_of c.args.members.now) c.args.shape.now c.args.row c.args.bytes.now c.args.changed (disk given.start old)} did.each_mark told)
    (did.written told c.requires.tolerated)
    (out-full c.args.shape.now c.args.row c.args.bytes.now list c.requires.row.valid own)

pub returns-clause-rebuilt : goal.returns-clause-rebuilt
returns-clause-rebuilt g c = λ stored list told own differ.
    let given = g.B.Bank.given c.args.bank.now in
    let old = g.B.Bank.tape c.args.bank.now in
    let did = c.write_row.ensures in
    row_rebuilt c.args.members.now c.write_row.new.members (lost_of c.write_row.result) given (g.B.Bank.given c.write_row.new.bank) old (g.B.Bank.tape c.write_row.new.bank)
    c.args.shape.now c.args.row c.args.bytes.now c.args.changed stored list did.members did.given c.requires.apart
    (marks_last {P = IsWriting (reading_of c.args.members.now) c.args.shape.now c.args.row c.args.bytes.now c.args.changed (disk given.start old)} did.each_mark told)
    (did.written told c.requires.tolerated)
    (out-full c.args.shape.now c.args.row c.args.bytes.now list c.requires.row.valid own)
    (out-unwritten c.args.shape.now c.args.row c.args.changed stored list c.requires.row.valid differ)

pub returns-clause-others : goal.returns-clause-others
returns-clause-others g c = λ told.
    let given = g.B.Bank.given c.args.bank.now in
    let old = g.B.Bank.tape c.args.bank.now in
    others_kept (reading_of c.args.members.now) c.args.shape.now c.args.row c.args.bytes.now c.args.changed given (g.B.Bank.given c.write_row.new.bank) old (g.B.Bank.tape c.write_row.new.bank)
    c.write_row.ensures.given
    (marks_last {P = IsWriting (reading_of c.args.members.now) c.args.shape.now c.args.row c.args.bytes.now c.args.changed (disk given.start old)} c.write_row.ensures.each_mark told)
