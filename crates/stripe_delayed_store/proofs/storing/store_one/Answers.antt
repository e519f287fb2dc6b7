use Rattle.std.proofs.Common.{◌≡◌, [], ◌∷◌, ◌≤◌, length, sym, subst, ap}
use Rattle.sb_safe_updates.specs.bank_Given.{Given}
use Rattle.sb_safe_updates.specs.stripe_row_Rows.{present, reading_of, members_without}
use Rattle.sb_safe_updates.specs.sb_specs_the_Members.{Members}
use Rattle.sb_safe_updates.specs.sb_specs_Reading.{is_clean}
use Rattle.sb_safe_updates.specs.stripe_list_Writing.{IsFull, StaysRebuilt}
use Rattle.sb_safe_updates.specs.array_members_Placed.{AreLost}
use Rattle.sb_safe_updates.specs.array_members_Lacking.{AreOtherRowsKept}
use Rattle.sb_safe_updates.specs.history_Sound.{OpensFit}
use Rattle.sb_safe_updates.proofs.array_members_MemberLaws.{are_lost}
use Rattle.sb_safe_updates.proofs.array_members_MovedLaws.{moved-lost}
use Rattle.sb_safe_updates.proofs.array_members_MarkedLaws.{grows-marks}
use Rattle.sb_safe_updates.proofs.array_members_LackingLaws.{since-lost}
use Rattle.sb_safe_updates.proofs.array_members_Fit.{has-rows, force-valid, disks-within}
use Rattle.sb_safe_updates.proofs.array_members_MemberLaws.{placed-without}
use Rattle.sb_safe_updates.proofs.crash_safety_laws_Risen.{risen-lost}
use Rattle.sb_safe_updates.proofs.array_members_SafeStretch.{safe-put}
use Rattle.stripe_delayed_store.proofs.StoredLaws.{list-of, list-of-is}
use Rattle.stripe_delayed_store.proofs.storing.store_one.Goals as goal

pub store_row-lost-requires-clause-row : goal.store_row-lost-requires-clause-row
store_row-lost-requires-clause-row g c =
    let h = has-rows (g.B.Bank.given c.args.bank.now) c.args.members.now c.requires.placed c.args.shape.now c.requires.shape in
    record { valid = h.valid; roles = h.roles; few = h.few; below = c.requires.row; short = h.short; holders = h.holders }

pub store_row-lost-requires-clause-apart : goal.store_row-lost-requires-clause-apart
store_row-lost-requires-clause-apart g c = c.requires.placed.apart

pub store_row-lost-requires-clause-behind : goal.store_row-lost-requires-clause-behind
store_row-lost-requires-clause-behind g c = c.requires.placed.behind

pub store_row-lost-requires-clause-tolerated : goal.store_row-lost-requires-clause-tolerated
store_row-lost-requires-clause-tolerated g c = c.requires.without

pub store_row-lost-requires-clause-size : goal.store_row-lost-requires-clause-size
store_row-lost-requires-clause-size g c = c.requires.size

pub store_row-lost-requires-clause-others : goal.store_row-lost-requires-clause-others
store_row-lost-requires-clause-others g c = c.requires.others

pub too_many_of-requires-clause-shape : goal.too_many_of-requires-clause-shape
too_many_of-requires-clause-shape g c = force-valid c.args.members.now.newest c.requires.placed.fit c.args.shape.now c.requires.shape

pub too_many_of-requires-clause-roles : goal.too_many_of-requires-clause-roles
too_many_of-requires-clause-roles g c =
    let given = g.B.Bank.given c.args.bank.now in
    let m = c.args.members.now in
    subst (λ (x : Members). c.args.shape.now.disks ≤ length x.roles) (sym c.store_row-lost.ensures.lost.members)
    (disks-within given (members_without c.store_row-lost.result m) (placed-without given m c.store_row-lost.result c.requires.placed) c.args.shape.now c.requires.shape)

pub returns-clause-moved : goal.returns-clause-moved
returns-clause-moved g c =
    let m = c.args.members.now in
    let n = c.store_row-lost.new.members in
    let given = g.B.Bank.given c.args.bank.now in
    let did = c.store_row-lost.ensures in
    let f0 = g.B.Bank.faults_of c.args.bank.now in
    let f1 = g.B.Bank.faults_of c.store_row-lost.new.bank in
    let lost : AreLost given c.args.shape.now m n c.store_row-lost.result f0 f1 = are_lost given c.args.shape.now m n c.store_row-lost.result f0 f1 c.requires.placed did.lost.members did.lost.failed did.lost.never_falls in
    moved-lost given c.args.shape.now m n c.store_row-lost.result f0 f1 c.requires.placed lost c.requires.unlost

pub returns-clause-failed : goal.returns-clause-failed
returns-clause-failed g c =
    let m = c.args.members.now in
    let n = c.store_row-lost.new.members in
    let given = g.B.Bank.given c.args.bank.now in
    let did = c.store_row-lost.ensures in
    let f0 = g.B.Bank.faults_of c.args.bank.now in
    let f1 = g.B.Bank.faults_of c.store_row-lost.new.bank in
    since-lost given c.args.shape.now m n c.store_row-lost.result f0 f1 (are_lost given c.args.shape.now m n c.store_row-lost.result f0 f1 c.requires.placed did.lost.members did.lost.failed did.lost.never_falls)

pub returns-clause-refused : goal.returns-clause-refused
returns-clause-refused g c = c.too_many_of.ensures

pub returns-clause-grows : goal.returns-clause-grows
returns-clause-grows g c =
    grows-marks (c.store_row-lost.ensures.each_mark (list-of c.args.shape.now c.args.bytes.now) (λ told. list-of-is c.args.shape.now c.args.row c.args.bytes.now))

pub returns-clause-full : goal.returns-clause-full
returns-clause-full g c = λ list told own.
    let did = c.store_row-lost.ensures in
    subst (λ (b : Given). IsFull (reading_of c.store_row-lost.new.members) (present b (g.B.Bank.tape c.store_row-lost.new.bank)) c.args.shape.now list c.args.row) did.given (did.full list told own)

pub returns-clause-rebuilt : goal.returns-clause-rebuilt
returns-clause-rebuilt g c = λ stored list told own differ.
    let did = c.store_row-lost.ensures in
    subst (λ (b : Given). StaysRebuilt (reading_of c.store_row-lost.new.members) (present (g.B.Bank.given c.args.bank.now) (g.B.Bank.tape c.args.bank.now)) (present b (g.B.Bank.tape c.store_row-lost.new.bank)) c.args.shape.now stored list c.args.row)
    did.given (did.rebuilt stored list told own differ)

pub returns-clause-others : goal.returns-clause-others
returns-clause-others g c = λ told.
    let did = c.store_row-lost.ensures in
    let before = present (g.B.Bank.given c.args.bank.now) (g.B.Bank.tape c.args.bank.now) in
    subst (λ (b : Given). AreOtherRowsKept (λ other. other ≡ c.args.row) (reading_of c.store_row-lost.new.members) before (present b (g.B.Bank.tape c.store_row-lost.new.bank))) did.given
    (subst (λ (x : Members). AreOtherRowsKept (λ other. other ≡ c.args.row) (reading_of x) before (present (g.B.Bank.given c.store_row-lost.new.bank) (g.B.Bank.tape c.store_row-lost.new.bank))) (sym did.lost.members)
    (λ row none role slot held. did.others told row none slot))

pub returns-clause-clean : goal.returns-clause-clean
returns-clause-clean g c = ap (λ (x : Members). is_clean x.newest) c.store_row-lost.ensures.lost.members

pub returns-clause-rise : goal.returns-clause-rise
returns-clause-rise g c =
    let did = c.store_row-lost.ensures in
    risen-lost c.args.members.now c.store_row-lost.new.members c.store_row-lost.result (g.B.Bank.tape c.args.bank.now) (g.B.Bank.tape c.store_row-lost.new.bank) did.lost.members
    (did.each_mark (list-of c.args.shape.now c.args.bytes.now) (λ told. list-of-is c.args.shape.now c.args.row c.args.bytes.now)).longer

pub returns-clause-safe : goal.returns-clause-safe
returns-clause-safe g c = λ told world ledger dirty region list own allowed zeros safe.
    let did = c.store_row-lost.ensures in
    let given = g.B.Bank.given c.args.bank.now in
    let tape0 = g.B.Bank.tape c.args.bank.now in
    let tape1 = g.B.Bank.tape c.store_row-lost.new.bank in
    safe-put (OpensFit world) world.scope given ledger c.args.members.now c.store_row-lost.new.members c.store_row-lost.result c.args.shape.now list (c.args.row ∷ []) tape0 tape1 told
    did.lost.members c.requires.placed dirty c.requires.unlost region allowed zeros
    (did.each_mark list (λ told. own)) safe

pub returns-clause-given : goal.returns-clause-given
returns-clause-given g c = c.store_row-lost.ensures.given

pub returns-clause-counts : goal.returns-clause-counts
returns-clause-counts g c = c.store_row-lost.ensures.lost.never_falls
