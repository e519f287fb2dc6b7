use Rattle.std.proofs.Common.{refl, sym, ◌∙◌, subst, ◌≤◌}
use Rattle.reshape_window_rows.specs.bank_Given.{Given}
use Rattle.reshape_window_rows.specs.bank_Tape.{EachMark, disk}
use Rattle.reshape_window_rows.proofs.bank_Laws.{kept_in}
use Rattle.reshape_window_rows.proofs.stripe_row_Turns.{marks_last}
use Rattle.reshape_window_rows.specs.stripe_row_Rows.{present, reading_of}
use Rattle.reshape_window_rows.specs.crash_views_Windows.{moved_past}
use Rattle.reshape_window_rows.specs.crash_safety_laws_Marking.{AreOthersPresent}
use Rattle.reshape_window_rows.proofs.crash_safety_laws_Risen.{risen-then}
use Rattle.reshape_window_rows.specs.array_members_Rebuilding.{AreSparesFree}
use Rattle.reshape_window_rows.specs.array_members_Under.{IsRestKept}
use Rattle.reshape_window_rows.proofs.array_members_LackingLaws.{since-then, in-either, holders-fewer, holders-at}
use Rattle.reshape_window_rows.proofs.array_members_SyncedParts.{safe-part}
use Rattle.reshape_window_rows.proofs.array_members_MovedLaws.{moved-then, moved-from}
use Rattle.reshape_window_rows.specs.sb_safe_updates_Named.{AreDataKept}
use Rattle.reshape_window_rows.proofs.sb_safe_updates_Unused.{rest-unused, unused-then}
use Rattle.reshape_window_steps.proofs.PastLaws.{free-moved}
use Rattle.reshape_window_rows.specs.array_members_Placed.{IsPlaced}
use Rattle.reshape_window_rows.proofs.sb_safe_updates_FrameLaws.{goes-then}
use Rattle.reshape_window_steps.proofs.recording.move_position.Goals as goal

pub record_missing-named-requires : goal.record_missing-named-requires
record_missing-named-requires g c =
    let did = c.put_position-put.ensures in
    let given = g.B.Bank.given c.args.bank.now in
    record {
      stands = record {
        slots = subst (λ (b : Given). b.slots ≤ 32) (sym c.put_position-put.ensures.bank.same) c.requires.stands.slots;
        placed = subst (λ (b : Given). IsPlaced b c.put_position-put.new.members) (sym c.put_position-put.ensures.bank.same) c.put_position-put.ensures.moved.placed;
        unlost = c.put_position-put.ensures.moved.unlost;
        free = subst (λ (b : Given). AreSparesFree b c.put_position-put.new.members) (sym did.bank.same) (free-moved given c.args.members.now c.put_position-put.new.members c.args.span.now did.moved c.requires.stands.free);
      };
    }

pub returns-clause-moved : goal.returns-clause-moved
returns-clause-moved g c =
    let given = g.B.Bank.given c.args.bank.now in
    let given1 = g.B.Bank.given c.put_position-put.new.bank in
    let n = c.put_position-put.new.members in
    moved-then given (moved_past c.args.span.now c.args.members.now) n c.record_missing-named.new.members c.put_position-put.ensures.moved
    (moved-from given given1 n n c.record_missing-named.new.members c.put_position-put.ensures.bank.same refl c.record_missing-named.ensures.keeps.moved)

pub returns-clause-failed : goal.returns-clause-failed
returns-clause-failed g c =
    let s = c.put_position-put.result in
    let t = c.record_missing-named.result in
    since-then c.args.members.now c.put_position-put.new.members c.record_missing-named.new.members s t _ (g.B.Bank.faults_of c.args.bank.now) (g.B.Bank.faults_of c.put_position-put.new.bank)
    (g.B.Bank.faults_of c.record_missing-named.new.bank) c.put_position-put.ensures.bank.counts c.record_missing-named.ensures.keeps.bank.counts c.put_position-put.ensures.failed c.record_missing-named.ensures.keeps.failed (in-either s t)

pub returns-clause-bank : goal.returns-clause-bank
returns-clause-bank g c = goes-then c.put_position-put.ensures.bank c.record_missing-named.ensures.keeps.bank

pub returns-clause-others : goal.returns-clause-others
returns-clause-others g c = λ told s k other.
    let tape1 = g.B.Bank.tape c.put_position-put.new.bank in
    let tape2 = g.B.Bank.tape c.record_missing-named.new.bank in
    subst (λ (b : Given). AreOthersPresent (present b tape1) (present b tape2)) c.put_position-put.ensures.bank.same (c.record_missing-named.ensures.others told) s k other
    ∙ c.put_position-put.ensures.others told s k other

pub returns-clause-flushed : goal.returns-clause-flushed
returns-clause-flushed g c = λ told flushed.
    let given = g.B.Bank.given c.args.bank.now in
    let given1 = g.B.Bank.given c.put_position-put.new.bank in
    let m = c.args.members.now in
    let n = c.put_position-put.new.members in
    let new = c.record_missing-named.new.members in
    let tape1 = g.B.Bank.tape c.put_position-put.new.bank in
    let tape2 = g.B.Bank.tape c.record_missing-named.new.bank in
    let did = c.put_position-put.ensures in
    let named = c.record_missing-named.ensures in
    holders-fewer given n new tape2 named.keeps.moved.held
    (holders-at (reading_of n) given1 given tape2 (sym did.bank.same)
    (named.flushed told (holders-at (reading_of n) given given1 tape1 did.bank.same (holders-fewer given m n tape1 did.moved.held (did.flushed told flushed)))))

pub returns-clause-fewer : goal.returns-clause-fewer
returns-clause-fewer g c = λ told s k v other may.
    let given = g.B.Bank.given c.args.bank.now in
    let tape1 = g.B.Bank.tape c.put_position-put.new.bank in
    let tape2 = g.B.Bank.tape c.record_missing-named.new.bank in
    let did = c.put_position-put.ensures in
    let kept = subst (λ (b : Given). EachMark g.B.Bank.tells b.start tape1 tape2 (AreDataKept (disk b.start tape1))) did.bank.same c.record_missing-named.ensures.«data» in
    did.fewer told s k v other (kept_in (disk given.start tape1 s k) (disk given.start tape2 s k) v (marks_last kept told s k other) may)

pub returns-clause-unused : goal.returns-clause-unused
returns-clause-unused g c = λ told.
    let given = g.B.Bank.given c.args.bank.now in
    let n = c.put_position-put.new.members in
    let tape1 = g.B.Bank.tape c.put_position-put.new.bank in
    let tape2 = g.B.Bank.tape c.record_missing-named.new.bank in
    let did = c.put_position-put.ensures in
    let named : IsRestKept n (disk given.start tape1) (disk given.start tape2) =
    subst (λ (b : Given). IsRestKept n (disk b.start tape1) (disk b.start tape2)) did.bank.same (c.record_missing-named.ensures.rest told) in
    unused-then given (moved_past c.args.span.now c.args.members.now) n (disk given.start (g.B.Bank.tape c.args.bank.now)) (disk given.start tape1) (disk given.start tape2) did.moved (did.unused told)
    (rest-unused n (disk given.start tape1) (disk given.start tape2) named)

pub returns-clause-clean : goal.returns-clause-clean
returns-clause-clean g c = c.record_missing-named.ensures.clean ∙ c.put_position-put.ensures.clean

pub returns-clause-rise : goal.returns-clause-rise
returns-clause-rise g c = risen-then c.put_position-put.ensures.rise c.record_missing-named.ensures.keeps.rise

pub returns-clause-safe : goal.returns-clause-safe
returns-clause-safe g c = λ told world ledger room gone unclean right safe.
    let given = g.B.Bank.given c.args.bank.now in
    let given1 = g.B.Bank.given c.put_position-put.new.bank in
    let m = c.args.members.now in
    let n = c.put_position-put.new.members in
    let new = c.record_missing-named.new.members in
    let tape0 = g.B.Bank.tape c.args.bank.now in
    let tape1 = g.B.Bank.tape c.put_position-put.new.bank in
    let tape2 = g.B.Bank.tape c.record_missing-named.new.bank in
    let did = c.put_position-put.ensures in
    let named = c.record_missing-named.ensures in
    safe-part world given given1 ledger m n new tape0 tape1 tape2 told did.bank.same did.moved.placed (moved-from given given1 n n new did.bank.same refl named.keeps.moved) named.keeps.bank.grows did.rise room gone
    (λ first gone1. did.safe told world ledger first gone1 right safe)
    (λ then now. named.safe told world ledger then gone (λ dirty. unclean (sym did.clean ∙ dirty)) now)

-- ---- what the searches would find too, for longer

pub put_position-put-requires-clause-stands : goal.put_position-put-requires-clause-stands
put_position-put-requires-clause-stands g c = c.requires.stands
