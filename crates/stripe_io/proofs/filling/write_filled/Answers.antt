use Rattle.std.proofs.Common.{◌≡◌, ◌+◌, ◌-◌, ◌*◌, ◌≤◌, ℕ, length, take, drop, inl, inr, sym, ◌∙◌, subst, arith, refl, le_trans, lt_of_lt_of_le, le_refl}
use Rattle.std.specs.Prelude.{slice_index, Contains}
use Rattle.sb_safe_updates.specs.bank_Given.{Given}
use Rattle.sb_safe_updates.proofs.raid_layout_Limits.{limited}
use Rattle.sb_safe_updates.specs.raid_parity_Rows.{sector_of}
use Rattle.sb_safe_updates.specs.stripe_row_Rows.{reading_of, present}
use Rattle.sb_safe_updates.specs.stripe_list_Buffers.{buffered}
use Rattle.sb_safe_updates.specs.stripe_list_Writing.{HasFull}
use Rattle.sb_safe_updates.proofs.stripe_list_PartBytes.{sector-part_other}
use Rattle.sb_safe_updates.proofs.stripe_list_PutLaws.{data_same}
use Rattle.sb_safe_updates.specs.array_members_Rebuilding.{IsFilledAmong, IsFilling}
use Rattle.sb_safe_updates.proofs.array_members_Elements.{contains-at}
use Rattle.sb_safe_updates.proofs.array_members_MovedLaws.{grows-then, grows-none}
use Rattle.sb_safe_updates.proofs.array_members_SyncedParts.{valid-in}
use Rattle.stripe_io.proofs.FillingLaws.{filled-then, marks-then, full-next, part-is, filled-none}
use Rattle.sb_safe_updates.specs.bank_Tape.{disk}
use Rattle.sb_safe_updates.proofs.bank_Causes.{faulted_longer}
use Rattle.sb_safe_updates.specs.array_members_Placed.{IsPlaced}
use Rattle.sb_safe_updates.proofs.array_members_LackingWrites.{marks-here}
use Rattle.stripe_io.proofs.filling.write_filled.Goals as goal

pub fill_row-requires-clause-below : goal.fill_row-requires-clause-below
fill_row-requires-clause-below g c = c.requires.below (slice_index c.args.rows.now c.loop-i.i) (contains-at c.args.rows.now c.loop-i.i c.loop-i-test.true)

pub returns-then-not-fill_row-clause-each_mark : goal.returns-then-not-fill_row-clause-each_mark
returns-then-not-fill_row-clause-each_mark g c =
    marks-then (g.B.Bank.given c.args.bank.now) (g.B.Bank.given c.loop-i.bank) c.loop-i.invariant.given c.args.members.now c.args.target.now.role c.args.target.now.slot
    (g.B.Bank.tape c.args.bank.now) (g.B.Bank.tape c.loop-i.bank) (g.B.Bank.tape c.fill_row.new.bank) c.loop-i.invariant.marks c.fill_row.ensures.each_mark

pub returns-then-not-fill_row-clause-bank : goal.returns-then-not-fill_row-clause-bank
returns-then-not-fill_row-clause-bank g c = record {
  same = c.fill_row.ensures.bank.same ∙ c.loop-i.invariant.given;
  grows = grows-then c.loop-i.invariant.grows c.fill_row.ensures.bank.grows;
  counts = λ s. le_trans (c.loop-i.invariant.never_falls s) (c.fill_row.ensures.bank.counts s);
}

pub loop-i-preserved : goal.loop-i-preserved
loop-i-preserved g c =
    let was = c.loop-i.invariant in
    let did = c.fill_row.ensures in
    let m = c.args.members.now in
    let role = c.args.target.now.role in
    let slot = c.args.target.now.slot in
    let shape = c.args.shape.now in
    let rows = c.args.rows.now in
    let i = c.loop-i.i in
    let row = slice_index rows i in
    let given = g.B.Bank.given c.args.bank.now in
    let given1 = g.B.Bank.given c.loop-i.bank in
    let tape0 = g.B.Bank.tape c.args.bank.now in
    let tape1 = g.B.Bank.tape c.loop-i.bank in
    let tape2 = g.B.Bank.tape c.fill_row.new.bank in
    let valid = valid-in given m c.requires.placed shape (inl c.requires.shape) in
    let few : shape.disks ≤ 16 = (limited shape valid).most in
    let within : 8192 * i + 512 * shape.disks ≤ length c.loop-i.buffer = omega (arith, c.loop-i.auto.buffer, c.requires.buffer, few, c.loop-i-test.true) in
    let filled : g.B.Bank.tells → IsFilledAmong m role slot (λ other. other ≡ row) (present given tape1) (present given tape2) =
    λ told. subst (λ (b : Given). IsFilledAmong m role slot (λ other. other ≡ row) (present b tape1) (present b tape2)) was.given (did.others told) in
    record {
      marks = marks-then given given1 was.given m role slot tape0 tape1 tape2 was.marks did.each_mark;
      done = λ told list own. full-next given m role slot shape list (present given tape1) (present given tape2) c.requires.placed c.requires.recovering rows c.requires.once c.args.target.now.held i c.loop-i-test.true
          (filled told) (was.done told list own) (λ high. subst (λ (b : Given). HasFull (reading_of m) (present b tape2) shape list row role slot) was.given
          (did.written c.if-not-fill_row.false told list
          (data_same shape list row (buffered c.args.buffer.now i) (sector_of (take (8192 * i + 512 * shape.disks - 8192 * i) (drop (8192 * i) c.loop-i.buffer))) valid
          (λ r lt. part-is c.loop-i.buffer c.args.buffer.now i shape.disks r lt (was.ahead i r (omega arith) c.loop-i-test.true lt)) (own i (omega arith) c.loop-i-test.true)) high));
      others = λ told. filled-then m role slot (Contains rows) (λ other. other ≡ row) (Contains rows) (present given tape0) (present given tape1) (present given tape2) (λ other has. has)
          (λ other same. subst (λ (r : ℕ). Contains rows r) (sym same) (contains-at rows i c.loop-i-test.true)) (was.others told) (filled told);
      ahead = λ j r le lt is.
          sector-part_other c.loop-i.buffer c.fill_row.new.bytes i (16 * j + r) (512 * shape.disks) (omega (arith, few)) within
          (omega (arith, c.fill_row.auto.bytes, within)) (inr (omega (arith, le)))
          ∙ was.ahead j r (omega (arith, le)) lt is;
      grows = grows-then was.grows did.bank.grows;
      given = did.bank.same ∙ was.given;
      never_falls = λ s. le_trans (was.never_falls s) (did.bank.counts s);
    }

pub loop-i-init : goal.loop-i-init
loop-i-init g c =
    let m = c.args.members.now in
    let role = c.args.target.now.role in
    let slot = c.args.target.now.slot in
    let start = (g.B.Bank.given c.args.bank.now).start in
    let tape0 = g.B.Bank.tape c.args.bank.now in
    record {
      marks = marks-here {P = IsFilling m role slot (disk start tape0)} g.B.Bank.tells start tape0 (λ s k. inl refl);
      done = λ told list own j low. absurd (omega (arith, low));
      others = λ told. filled-none m role slot (Contains c.args.rows.now) (present (g.B.Bank.given c.args.bank.now) tape0);
      ahead = λ j role low lt is. refl;
      grows = grows-none (λ told. refl);
      given = refl;
      never_falls = λ s. le_refl _;
    }

pub fill_row-requires-clause-placed : goal.fill_row-requires-clause-placed
fill_row-requires-clause-placed g c = subst (λ (b : Given). IsPlaced b c.args.members.now) (sym c.loop-i.invariant.given) c.requires.placed

pub fill_row-requires-clause-shape : goal.fill_row-requires-clause-shape
fill_row-requires-clause-shape g c = c.requires.shape

pub fill_row-requires-clause-role : goal.fill_row-requires-clause-role
fill_row-requires-clause-role g c = c.requires.role

pub fill_row-requires-clause-recovering : goal.fill_row-requires-clause-recovering
fill_row-requires-clause-recovering g c = c.requires.recovering

pub fill_row-requires-clause-offset : goal.fill_row-requires-clause-offset
fill_row-requires-clause-offset g c = c.requires.offset

pub fill_row-requires-clause-held : goal.fill_row-requires-clause-held
fill_row-requires-clause-held g c = c.requires.held

pub returns-then-not-fill_row-clause-others : goal.returns-then-not-fill_row-clause-others
returns-then-not-fill_row-clause-others g c told =
    let m = c.args.members.now in
    let role = c.args.target.now.role in
    let slot = c.args.target.now.slot in
    let rows = c.args.rows.now in
    let row = slice_index rows c.loop-i.i in
    let given = g.B.Bank.given c.args.bank.now in
    let tape1 = g.B.Bank.tape c.loop-i.bank in
    let tape2 = g.B.Bank.tape c.fill_row.new.bank in
    filled-then m role slot (Contains rows) (λ other. other ≡ row) (Contains rows) (present given (g.B.Bank.tape c.args.bank.now)) (present given tape1) (present given tape2) (λ other has. has)
    (λ other same. subst (λ (r : ℕ). Contains rows r) (sym same) (contains-at rows c.loop-i.i c.loop-i-test.true)) (c.loop-i.invariant.others told)
    (subst (λ (b : Given). IsFilledAmong m role slot (λ other. other ≡ row) (present b tape1) (present b tape2)) c.loop-i.invariant.given (c.fill_row.ensures.others told))

pub returns-then-not-fill_row-clause-failed : goal.returns-then-not-fill_row-clause-failed
returns-then-not-fill_row-clause-failed g c lost =
    let slot = c.args.target.now.slot in
    let f1 = g.B.Bank.faults_of c.loop-i.bank in
    let f2 = g.B.Bank.faults_of c.fill_row.new.bank in
    faulted_longer slot (g.B.Bank.faults_of c.args.bank.now) f1 f2 f2 (c.loop-i.invariant.never_falls slot) (le_refl _) (c.fill_row.ensures.bank.counts slot) (c.fill_row.ensures.failed c.if-not-fill_row.true)

pub returns-clause-each_mark : goal.returns-clause-each_mark
returns-clause-each_mark g c = c.loop-i.invariant.marks

pub returns-clause-written : goal.returns-clause-written
returns-clause-written g c done told list own i low held = c.loop-i.invariant.done told list own i (lt_of_lt_of_le low c.loop-i-test.false) held

pub returns-clause-others : goal.returns-clause-others
returns-clause-others g c = c.loop-i.invariant.others

pub returns-clause-bank : goal.returns-clause-bank
returns-clause-bank g c = record {
  same = c.loop-i.invariant.given;
  grows = c.loop-i.invariant.grows;
  counts = c.loop-i.invariant.never_falls;
}

pub slice_bounds-part-end : goal.slice_bounds-part-end
slice_bounds-part-end g c =
    let few = (limited c.args.shape.now (valid-in (g.B.Bank.given c.args.bank.now) c.args.members.now c.requires.placed c.args.shape.now (inl c.requires.shape))).most in
    omega (arith, c.loop-i.auto.buffer, c.requires.buffer, few, c.loop-i-test.true)
