use Rattle.std.proofs.Common.{◌≡◌, ℕ, ◌<◌, refl, sym, ◌∙◌, ap, subst, arith, le_trans, true, false}
use Rattle.std.specs.Prelude.{bit_or, Contains}
use Rattle.stripe_region_read.specs.bank_Given.{Given}
use Rattle.stripe_region_read.specs.bank_Tape.{Contents}
use Rattle.stripe_region_read.specs.sb_codec_the_Sb.{Sb}
use Rattle.stripe_region_read.specs.sb_specs_the_Members.{Members}
use Rattle.stripe_region_read.specs.stripe_row_Rows.{reading_of, present, members_without}
use Rattle.stripe_region_read.specs.stripe_list_Calls.{HasRows}
use Rattle.stripe_region_read.specs.stripe_list_Buffers.{buffered, AreRead}
use Rattle.stripe_region_read.proofs.stripe_list_BufferLaws.{data_read}
use Rattle.stripe_region_read.proofs.stripe_list_ListLaws.{present_same}
use Rattle.stripe_region_read.proofs.stripe_list_LossLaws.{members_then}
use Rattle.stripe_region_read.specs.array_members_Placed.{AreLost, IsInForce}
use Rattle.stripe_region_read.specs.array_members_Moving.{IsMoved}
use Rattle.stripe_region_read.proofs.array_members_MovedLaws.{moved-lost, moved-then}
use Rattle.stripe_region_read.proofs.array_members_Fit.{has-rows}
use Rattle.stripe_region_read.proofs.array_members_LackingLaws.{since-lost, since-then, in-second}
use Rattle.stripe_region_read.proofs.array_members_LackingLists.{data-among-moved, among-moved}
use Rattle.stripe_region_read.proofs.array_members_LackingWrites.{lost-of, standing-later}
use Rattle.stripe_region_read.proofs.sb_safe_updates_RefusingLaws.{write-told, not-err}
use Rattle.stripe_region_write.specs.Runs.{IsRun}
use Rattle.stripe_region_write.proofs.RunLaws.{run-within, run-short, ok-err, err-ok}
use Rattle.stripe_region_write.proofs.writing.read_runs.Goals as goal

false-true : {X : Type 0} → false ≡ true → X
false-true is = absurd (cc)

pub read_touched-near-requires-clause-rows : goal.read_touched-near-requires-clause-rows
read_touched-near-requires-clause-rows g c =
    has-rows (g.B.Bank.given c.args.bank.now) c.args.members.now c.requires.placed c.args.low.now.shape c.requires.low.force

pub read_touched-near-requires-clause-within : goal.read_touched-near-requires-clause-within
read_touched-near-requires-clause-within g c =
    run-within c.args.members.now.newest c.requires.placed.fit c.args.low.now c.requires.low

pub read_touched-near-requires-clause-short : goal.read_touched-near-requires-clause-short
read_touched-near-requires-clause-short g c =
    run-short c.args.members.now.newest c.requires.placed.fit c.args.low.now c.requires.low

-- the second run is one of the members that are left
high-run : (P : Sb → Type 0) (m n : Members) (lost : ℕ) → n ≡ members_without lost m → P m.newest → P n.newest
high-run P m n lost is holds = subst (λ (x : Members). P x.newest) (sym is) holds

pub read_touched-far-requires-clause-rows : goal.read_touched-far-requires-clause-rows
read_touched-far-requires-clause-rows g c =
    let m = c.args.members.now in
    let n = c.read_touched-near.new.members in
    let given = g.B.Bank.given c.args.bank.now in
    let f0 = g.B.Bank.faults_of c.args.bank.now in
    let f1 = g.B.Bank.faults_of c.read_touched-near.new.bank in
    let r = c.read_touched-near.result.lost in
    let low = c.args.low.now in
    let did = c.read_touched-near.ensures in
    let lost1 : AreLost given low.shape m n r f0 f1 = lost-of given low.shape m n r f0 f1 c.requires.placed did.lost in
    let one : IsMoved given m n = moved-lost given low.shape m n r f0 f1 c.requires.placed lost1 c.requires.unlost in
    subst (λ (b : Given). HasRows b (reading_of n) c.args.high.now.shape) (sym did.given)
    (has-rows given n one.placed c.args.high.now.shape (high-run (λ sb. IsInForce sb c.args.high.now.shape) m n r did.lost.members c.requires.high.force))

pub read_touched-far-requires-clause-within : goal.read_touched-far-requires-clause-within
read_touched-far-requires-clause-within g c =
    let m = c.args.members.now in
    let n = c.read_touched-near.new.members in
    let given = g.B.Bank.given c.args.bank.now in
    let f0 = g.B.Bank.faults_of c.args.bank.now in
    let f1 = g.B.Bank.faults_of c.read_touched-near.new.bank in
    let r = c.read_touched-near.result.lost in
    let low = c.args.low.now in
    let did = c.read_touched-near.ensures in
    let lost1 : AreLost given low.shape m n r f0 f1 = lost-of given low.shape m n r f0 f1 c.requires.placed did.lost in
    let one : IsMoved given m n = moved-lost given low.shape m n r f0 f1 c.requires.placed lost1 c.requires.unlost in
    run-within n.newest one.placed.fit c.args.high.now (high-run (λ sb. IsRun sb c.args.high.now) m n r did.lost.members c.requires.high)

pub read_touched-far-requires-clause-short : goal.read_touched-far-requires-clause-short
read_touched-far-requires-clause-short g c =
    let m = c.args.members.now in
    let n = c.read_touched-near.new.members in
    let given = g.B.Bank.given c.args.bank.now in
    let f0 = g.B.Bank.faults_of c.args.bank.now in
    let f1 = g.B.Bank.faults_of c.read_touched-near.new.bank in
    let r = c.read_touched-near.result.lost in
    let low = c.args.low.now in
    let did = c.read_touched-near.ensures in
    let lost1 : AreLost given low.shape m n r f0 f1 = lost-of given low.shape m n r f0 f1 c.requires.placed did.lost in
    let one : IsMoved given m n = moved-lost given low.shape m n r f0 f1 c.requires.placed lost1 c.requires.unlost in
    run-short n.newest one.placed.fit c.args.high.now (high-run (λ sb. IsRun sb c.args.high.now) m n r did.lost.members c.requires.high)

pub returns-then-is_err-clause-moved : goal.returns-then-is_err-clause-moved
returns-then-is_err-clause-moved g c =
    let m = c.args.members.now in
    let n = c.read_touched-near.new.members in
    let given = g.B.Bank.given c.args.bank.now in
    let f0 = g.B.Bank.faults_of c.args.bank.now in
    let f1 = g.B.Bank.faults_of c.read_touched-near.new.bank in
    let r = c.read_touched-near.result.lost in
    let low = c.args.low.now in
    let did = c.read_touched-near.ensures in
    let lost1 : AreLost given low.shape m n r f0 f1 = lost-of given low.shape m n r f0 f1 c.requires.placed did.lost in
    let one : IsMoved given m n = moved-lost given low.shape m n r f0 f1 c.requires.placed lost1 c.requires.unlost in
    one

pub returns-then-is_err-clause-lost : goal.returns-then-is_err-clause-lost
returns-then-is_err-clause-lost g c =
    let r = c.read_touched-near.result.lost in
    let did = c.read_touched-near.ensures in
    (r, did.lost.members)

pub returns-then-is_err-clause-failed : goal.returns-then-is_err-clause-failed
returns-then-is_err-clause-failed g c =
    let m = c.args.members.now in
    let n = c.read_touched-near.new.members in
    let given = g.B.Bank.given c.args.bank.now in
    let f0 = g.B.Bank.faults_of c.args.bank.now in
    let f1 = g.B.Bank.faults_of c.read_touched-near.new.bank in
    let r = c.read_touched-near.result.lost in
    let low = c.args.low.now in
    let did = c.read_touched-near.ensures in
    let lost1 : AreLost given low.shape m n r f0 f1 = lost-of given low.shape m n r f0 f1 c.requires.placed did.lost in
    since-lost given low.shape m n r f0 f1 lost1

pub returns-then-is_err-clause-unread : goal.returns-then-is_err-clause-unread
returns-then-is_err-clause-unread g c =
    let n = c.read_touched-near.new.members in
    let low = c.args.low.now in
    let did = c.read_touched-near.ensures in
    λ no both. write-told n low.shape low.synced c.read_touched-near.result.answer (sym c.is_err.ensures.value ∙ c.if-is_err.true) did.answer both.0

pub returns-clause-moved : goal.returns-clause-moved
returns-clause-moved g c =
    let m = c.args.members.now in
    let n = c.read_touched-near.new.members in
    let given = g.B.Bank.given c.args.bank.now in
    let f0 = g.B.Bank.faults_of c.args.bank.now in
    let f1 = g.B.Bank.faults_of c.read_touched-near.new.bank in
    let r = c.read_touched-near.result.lost in
    let low = c.args.low.now in
    let did = c.read_touched-near.ensures in
    let lost1 : AreLost given low.shape m n r f0 f1 = lost-of given low.shape m n r f0 f1 c.requires.placed did.lost in
    let one : IsMoved given m n = moved-lost given low.shape m n r f0 f1 c.requires.placed lost1 c.requires.unlost in
    let p = c.read_touched-far.new.members in
    let f2 = g.B.Bank.faults_of c.read_touched-far.new.bank in
    let r2 = c.read_touched-far.result.lost in
    let high = c.args.high.now in
    let did2 = c.read_touched-far.ensures in
    let lost2 : AreLost given high.shape n p r2 f1 f2 = lost-of given high.shape n p r2 f1 f2 one.placed did2.lost in
    let two : IsMoved given n p = moved-lost given high.shape n p r2 f1 f2 one.placed lost2 one.unlost in
    moved-then given m n p one two

pub returns-clause-lost : goal.returns-clause-lost
returns-clause-lost g c =
    let m = c.args.members.now in
    let r = c.read_touched-near.result.lost in
    let did = c.read_touched-near.ensures in
    let r2 = c.read_touched-far.result.lost in
    let did2 = c.read_touched-far.ensures in
    (bit_or r r2, did2.lost.members ∙ ap (members_without r2) did.lost.members ∙ members_then r r2 m)

pub returns-clause-failed : goal.returns-clause-failed
returns-clause-failed g c =
    let m = c.args.members.now in
    let n = c.read_touched-near.new.members in
    let given = g.B.Bank.given c.args.bank.now in
    let f0 = g.B.Bank.faults_of c.args.bank.now in
    let f1 = g.B.Bank.faults_of c.read_touched-near.new.bank in
    let r = c.read_touched-near.result.lost in
    let low = c.args.low.now in
    let did = c.read_touched-near.ensures in
    let lost1 : AreLost given low.shape m n r f0 f1 = lost-of given low.shape m n r f0 f1 c.requires.placed did.lost in
    let one : IsMoved given m n = moved-lost given low.shape m n r f0 f1 c.requires.placed lost1 c.requires.unlost in
    let p = c.read_touched-far.new.members in
    let f2 = g.B.Bank.faults_of c.read_touched-far.new.bank in
    let r2 = c.read_touched-far.result.lost in
    let high = c.args.high.now in
    let did2 = c.read_touched-far.ensures in
    let lost2 : AreLost given high.shape n p r2 f1 f2 = lost-of given high.shape n p r2 f1 f2 one.placed did2.lost in
    since-then m n p 0 0 0 f0 f1 f2 did.lost.never_falls did2.lost.never_falls (since-lost given low.shape m n r f0 f1 lost1) (since-lost given high.shape n p r2 f1 f2 lost2) (in-second 0)

pub returns-clause-unread : goal.returns-clause-unread
returns-clause-unread g c =
    let p = c.read_touched-far.new.members in
    let high = c.args.high.now in
    let did2 = c.read_touched-far.ensures in
    λ no both. write-told p high.shape high.synced c.read_touched-far.result.answer (ok-err c.read_touched-far.result.answer (sym c.is_ok.ensures.value ∙ no)) did2.answer both.1

pub returns-clause-low : goal.returns-clause-low
returns-clause-low g c =
    let m = c.args.members.now in
    let n = c.read_touched-near.new.members in
    let given = g.B.Bank.given c.args.bank.now in
    let f0 = g.B.Bank.faults_of c.args.bank.now in
    let f1 = g.B.Bank.faults_of c.read_touched-near.new.bank in
    let r = c.read_touched-near.result.lost in
    let low = c.args.low.now in
    let did = c.read_touched-near.ensures in
    let lost1 : AreLost given low.shape m n r f0 f1 = lost-of given low.shape m n r f0 f1 c.requires.placed did.lost in
    let one : IsMoved given m n = moved-lost given low.shape m n r f0 f1 c.requires.placed lost1 c.requires.unlost in
    let p = c.read_touched-far.new.members in
    let f2 = g.B.Bank.faults_of c.read_touched-far.new.bank in
    let r2 = c.read_touched-far.result.lost in
    let high = c.args.high.now in
    let did2 = c.read_touched-far.ensures in
    let lost2 : AreLost given high.shape n p r2 f1 f2 = lost-of given high.shape n p r2 f1 f2 one.placed did2.lost in
    let two : IsMoved given n p = moved-lost given high.shape n p r2 f1 f2 one.placed lost2 one.unlost in
    λ yes told.
    let c0 = present given (g.B.Bank.tape c.args.bank.now) in
    let rows = c.read_touched-near.new.rows.items in
    let buffer = c.read_touched-near.new.buffer.items in
    let read : AreRead low.shape low.synced (reading_of m) (reading_of n) c0 rows buffer = not-err c.read_touched-near.result.answer (sym c.is_err.ensures.value ∙ c.if-is_err.false) did.read told in
    record {
      held = λ i lt. standing-later given n p two one.placed c0 c0 (λ s k other. refl) low.shape _ (buffered buffer i) (read i lt).held;
      listed = λ list stands full. data_read 0 low.shape low.synced (reading_of m) (reading_of n) c0 list rows buffer read
          (λ row has. stands row has (did.below row has))
          (λ synced row has. full synced row has (did.below row has));
    }

pub returns-clause-high : goal.returns-clause-high
returns-clause-high g c =
    let m = c.args.members.now in
    let n = c.read_touched-near.new.members in
    let given = g.B.Bank.given c.args.bank.now in
    let f0 = g.B.Bank.faults_of c.args.bank.now in
    let f1 = g.B.Bank.faults_of c.read_touched-near.new.bank in
    let r = c.read_touched-near.result.lost in
    let low = c.args.low.now in
    let did = c.read_touched-near.ensures in
    let lost1 : AreLost given low.shape m n r f0 f1 = lost-of given low.shape m n r f0 f1 c.requires.placed did.lost in
    let one : IsMoved given m n = moved-lost given low.shape m n r f0 f1 c.requires.placed lost1 c.requires.unlost in
    let p = c.read_touched-far.new.members in
    let high = c.args.high.now in
    let did2 = c.read_touched-far.ensures in
    λ yes told.
    let c0 = present given (g.B.Bank.tape c.args.bank.now) in
    let c1 = present (g.B.Bank.given c.read_touched-near.new.bank) (g.B.Bank.tape c.read_touched-near.new.bank) in
    let same : c1 ≡ c0 = present_same did.given (did.tape told) in
    let rows = c.read_touched-far.new.rows.items in
    let buffer = c.read_touched-far.new.buffer.items in
    let read : AreRead high.shape high.synced (reading_of n) (reading_of p) c0 rows buffer =
    subst (λ (k : Contents). AreRead high.shape high.synced (reading_of n) (reading_of p) k rows buffer) same
    (not-err c.read_touched-far.result.answer (err-ok c.read_touched-far.result.answer (sym c.is_ok.ensures.value ∙ yes)) did2.read told) in
    record {
      held = λ i lt. (read i lt).held;
      listed = λ list stands full. data_read 0 high.shape high.synced (reading_of n) (reading_of p) c0 list rows buffer read
          (λ row has. data-among-moved high.shape (Contains rows) given m n c0 c0 list one c.requires.placed (λ s k other. refl) stands row has (did2.below row has))
          (λ synced row has. among-moved high.shape (Contains rows) given m n c0 c0 list one c.requires.placed (λ s k other. refl) (full synced) row has (did2.below row has));
    }

pub returns-clause-low_rows : goal.returns-clause-low_rows
returns-clause-low_rows g c =
    let did = c.read_touched-near.ensures in
    λ yes. record { touched = did.touched; below = did.below; few = let few = did.few in omega (arith, few, c.requires.low_few) }

pub returns-clause-high_rows : goal.returns-clause-high_rows
returns-clause-high_rows g c =
    let did = c.read_touched-near.ensures in
    let did2 = c.read_touched-far.ensures in
    λ yes. record { touched = did2.touched; below = λ row has. subst (λ (x : Members). row < x.newest.size) did.lost.members (did2.below row has); few = let few = did2.few in omega (arith, few, c.requires.high_few) }

pub returns-clause-counts : goal.returns-clause-counts
returns-clause-counts g c =
    λ s. le_trans (c.read_touched-near.ensures.lost.never_falls s) (c.read_touched-far.ensures.lost.never_falls s)

pub read_touched-near-requires-clause-room : goal.read_touched-near-requires-clause-room
read_touched-near-requires-clause-room g c = c.requires.rows

pub read_touched-near-requires-clause-buffer : goal.read_touched-near-requires-clause-buffer
read_touched-near-requires-clause-buffer g c = c.requires.buffer

pub read_touched-far-requires-clause-room : goal.read_touched-far-requires-clause-room
read_touched-far-requires-clause-room g c = c.requires.far_rows

pub read_touched-far-requires-clause-buffer : goal.read_touched-far-requires-clause-buffer
read_touched-far-requires-clause-buffer g c = c.requires.far_buffer

pub returns-then-is_err-clause-tape : goal.returns-then-is_err-clause-tape
returns-then-is_err-clause-tape g c = c.read_touched-near.ensures.tape

pub returns-then-is_err-clause-given : goal.returns-then-is_err-clause-given
returns-then-is_err-clause-given g c = c.read_touched-near.ensures.given

pub returns-then-is_err-clause-counts : goal.returns-then-is_err-clause-counts
returns-then-is_err-clause-counts g c = c.read_touched-near.ensures.lost.never_falls

pub returns-then-is_err-clause-rows : goal.returns-then-is_err-clause-rows
returns-then-is_err-clause-rows g c = c.read_touched-near.ensures.capacity

pub returns-then-is_err-clause-buffer : goal.returns-then-is_err-clause-buffer
returns-then-is_err-clause-buffer g c = c.read_touched-near.ensures.size

pub returns-clause-tape : goal.returns-clause-tape
returns-clause-tape g c told = c.read_touched-far.ensures.tape told ∙ c.read_touched-near.ensures.tape told

pub returns-clause-given : goal.returns-clause-given
returns-clause-given g c = c.read_touched-far.ensures.given ∙ c.read_touched-near.ensures.given

pub returns-clause-rows : goal.returns-clause-rows
returns-clause-rows g c = c.read_touched-near.ensures.capacity

pub returns-clause-buffer : goal.returns-clause-buffer
returns-clause-buffer g c = c.read_touched-near.ensures.size

pub returns-clause-far_rows : goal.returns-clause-far_rows
returns-clause-far_rows g c = c.read_touched-far.ensures.capacity

pub returns-clause-far_buffer : goal.returns-clause-far_buffer
returns-clause-far_buffer g c = c.read_touched-far.ensures.size

pub returns-then-is_err-clause-low_rows : goal.returns-then-is_err-clause-low_rows
returns-then-is_err-clause-low_rows g c read = false-true read

pub returns-then-is_err-clause-high_rows : goal.returns-then-is_err-clause-high_rows
returns-then-is_err-clause-high_rows g c read = false-true read
