use Rattle.std.proofs.Common.{◌≡◌, ℕ, sym, subst}
use Rattle.stripe_row.specs.bank_Tape.{disk}
use Rattle.stripe_row.proofs.bank_Marks.{each_mark-map}
use Rattle.stripe_row.specs.Rows.{present, reading_of, lost_of}
use Rattle.stripe_row.specs.Writes.{IsWriting}
use Rattle.stripe_row.proofs.Turns.{marks_last}
use Rattle.stripe_list.specs.Calls.{AreLost}
use Rattle.stripe_list.specs.Writing.{IsPutting}
use Rattle.stripe_list.proofs.WriteLaws.{IsRowChange, new_full, full_unwritten, others_stand, putting, others_kept, row_full, row_rebuilt}
use Rattle.stripe_list.proofs.rows.rewrite_row.Goals as goal

pub write_row-requires-clause-others : goal.write_row-requires-clause-others
write_row-requires-clause-others g c = λ told.
    let change : IsRowChange c.args.shape.now c.args.row c.args.first c.args.from.now c.args.bytes.now c.change_row.new.bytes c.changed_roles-changed.result =
    record { put = c.change_row.ensures.changed; kept = c.change_row.ensures.kept; there = c.changed_roles-changed.ensures.changed; left = c.changed_roles-changed.ensures.left } in
    others_stand c.args.shape.now c.requires.row.valid c.args.row c.args.first c.args.from.now c.args.bytes.now c.change_row.new.bytes c.changed_roles-changed.result change
    (reading_of c.args.members.now) (present (g.B.Bank.given c.args.bank.now) (g.B.Bank.tape c.args.bank.now)) (c.requires.standing told)

pub returns-clause-lost : goal.returns-clause-lost
returns-clause-lost g c =
    let did = c.write_row.ensures in
    subst (λ (lost : ℕ). AreLost c.args.shape.now c.args.members.now c.write_row.new.members lost (g.B.Bank.faults_of c.args.bank.now) (g.B.Bank.faults_of c.write_row.new.bank)) (sym c.lost_of.ensures)
    (record { members = did.members; failed = did.failed; never_falls = did.never_falls })

pub returns-clause-each_mark : goal.returns-clause-each_mark
returns-clause-each_mark g c = λ list list' written own.
    let given = g.B.Bank.given c.args.bank.now in
    let d = disk given.start (g.B.Bank.tape c.args.bank.now) in
    let change : IsRowChange c.args.shape.now c.args.row c.args.first c.args.from.now c.args.bytes.now c.change_row.new.bytes c.changed_roles-changed.result =
    record { put = c.change_row.ensures.changed; kept = c.change_row.ensures.kept; there = c.changed_roles-changed.ensures.changed; left = c.changed_roles-changed.ensures.left } in
    each_mark-map (IsPutting (reading_of c.args.members.now) c.args.shape.now list' (λ other. other ≡ c.args.row) d)
    (λ told e writing. putting (reading_of c.args.members.now) c.args.shape.now c.args.row c.change_row.new.bytes c.changed_roles-changed.result list' d e
    (new_full c.args.shape.now c.requires.row.valid c.args.row c.args.first c.args.from.now c.args.bytes.now c.change_row.new.bytes c.changed_roles-changed.result change list list' written (own told)) writing)
    c.write_row.ensures.each_mark

pub returns-clause-full : goal.returns-clause-full
returns-clause-full g c = λ list list' written told own.
    let given = g.B.Bank.given c.args.bank.now in
    let old = g.B.Bank.tape c.args.bank.now in
    let did = c.write_row.ensures in
    let change : IsRowChange c.args.shape.now c.args.row c.args.first c.args.from.now c.args.bytes.now c.change_row.new.bytes c.changed_roles-changed.result =
    record { put = c.change_row.ensures.changed; kept = c.change_row.ensures.kept; there = c.changed_roles-changed.ensures.changed; left = c.changed_roles-changed.ensures.left } in
    row_full c.args.members.now c.write_row.new.members (lost_of c.write_row.result) given (g.B.Bank.given c.write_row.new.bank) old (g.B.Bank.tape c.write_row.new.bank)
    c.args.shape.now c.args.row c.change_row.new.bytes c.changed_roles-changed.result list' did.members did.given c.requires.apart
    (others_stand c.args.shape.now c.requires.row.valid c.args.row c.args.first c.args.from.now c.args.bytes.now c.change_row.new.bytes c.changed_roles-changed.result change
    (reading_of c.args.members.now) (present given old) (c.requires.standing told))
    (marks_last {P = IsWriting (reading_of c.args.members.now) c.args.shape.now c.args.row c.change_row.new.bytes c.changed_roles-changed.result (disk given.start old)} did.each_mark told)
    (did.written told c.requires.tolerated)
    (new_full c.args.shape.now c.requires.row.valid c.args.row c.args.first c.args.from.now c.args.bytes.now c.change_row.new.bytes c.changed_roles-changed.result change list list' written own)

pub returns-clause-rebuilt : goal.returns-clause-rebuilt
returns-clause-rebuilt g c = λ list list' written told own.
    let given = g.B.Bank.given c.args.bank.now in
    let old = g.B.Bank.tape c.args.bank.now in
    let did = c.write_row.ensures in
    let change : IsRowChange c.args.shape.now c.args.row c.args.first c.args.from.now c.args.bytes.now c.change_row.new.bytes c.changed_roles-changed.result =
    record { put = c.change_row.ensures.changed; kept = c.change_row.ensures.kept; there = c.changed_roles-changed.ensures.changed; left = c.changed_roles-changed.ensures.left } in
    row_rebuilt c.args.members.now c.write_row.new.members (lost_of c.write_row.result) given (g.B.Bank.given c.write_row.new.bank) old (g.B.Bank.tape c.write_row.new.bank)
    c.args.shape.now c.args.row c.change_row.new.bytes c.changed_roles-changed.result list list' did.members did.given c.requires.apart
    (marks_last {P = IsWriting (reading_of c.args.members.now) c.args.shape.now c.args.row c.change_row.new.bytes c.changed_roles-changed.result (disk given.start old)} did.each_mark told)
    (did.written told c.requires.tolerated)
    (new_full c.args.shape.now c.requires.row.valid c.args.row c.args.first c.args.from.now c.args.bytes.now c.change_row.new.bytes c.changed_roles-changed.result change list list' written own)
    (full_unwritten c.args.shape.now c.requires.row.valid c.args.row c.args.first c.args.from.now c.args.bytes.now c.change_row.new.bytes c.changed_roles-changed.result change list list' written)

pub returns-clause-others : goal.returns-clause-others
returns-clause-others g c = λ told.
    let given = g.B.Bank.given c.args.bank.now in
    let old = g.B.Bank.tape c.args.bank.now in
    others_kept (reading_of c.args.members.now) c.args.shape.now c.args.row c.change_row.new.bytes c.changed_roles-changed.result given (g.B.Bank.given c.write_row.new.bank) old (g.B.Bank.tape c.write_row.new.bank)
    c.write_row.ensures.given
    (marks_last {P = IsWriting (reading_of c.args.members.now) c.args.shape.now c.args.row c.change_row.new.bytes c.changed_roles-changed.result (disk given.start old)} c.write_row.ensures.each_mark told)
