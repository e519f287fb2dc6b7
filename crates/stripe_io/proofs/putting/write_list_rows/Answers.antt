use Rattle.std.proofs.Common.{◌-◌, ◌<◌, ◌≤◌, ℕ, refl, sym, ◌∙◌, subst, arith, le_antisymm}
use mathlib.Core.List.{not-mem-nil}
use Rattle.sb_safe_updates.specs.bank_Given.{Given}
use Rattle.sb_safe_updates.specs.stripe_row_Rows.{present, reading_of}
use Rattle.sb_safe_updates.specs.stripe_list_Buffers.{buffered, AreStanding}
use Rattle.sb_safe_updates.specs.array_members_Moving.{IsMoved}
use Rattle.sb_safe_updates.specs.array_members_Lacking.{AreRowsWritten}
use Rattle.sb_safe_updates.proofs.array_members_MovedLaws.{moved-from}
use Rattle.sb_safe_updates.proofs.array_members_LackingLaws.{in-either}
use Rattle.sb_safe_updates.proofs.array_members_LackingWrites.{written-then}
use Rattle.std.specs.Prelude.{Contains, slice_index}
use Rattle.sb_safe_updates.proofs.array_members_LackingLists.{none-of}
use Rattle.sb_safe_updates.proofs.array_members_Fit.{force-valid, alike-force}
use Rattle.sb_safe_updates.specs.history_Sound.{OpensFit}
use Rattle.sb_safe_updates.proofs.array_members_LackingWrites.{data-later}
use Rattle.sb_safe_updates.proofs.array_members_SafeStretch.{safe-none, allowed-later, zeros-later, region-later}
use Rattle.stripe_io.proofs.CallLaws.{some-none}
use Rattle.sb_safe_updates.proofs.FrameLaws.{keeps-none, keeps-then, stands-on, safe-on, gone-between}
use Rattle.stripe_io.proofs.putting.write_list_rows.Goals as goal

pub loop-next-init : goal.loop-next-init
loop-next-init g c =
    let m = c.args.members.now in
    let given = g.B.Bank.given c.args.bank.now in
    let tape0 = g.B.Bank.tape c.args.bank.now in
    record {
      keeps = keeps-none c.args.bank.now m c.requires.stands;
      written = λ told. record {
        full = λ list list' w has i low lt. absurd (omega (arith, lt));
        rebuilt = λ list list' w has i low lt. absurd (omega (arith, lt));
        others = λ row none role slot held. refl;
        rest = λ i role low lt below. refl;
        standing = λ i low lt. c.requires.standing told i lt;
      };
      within = omega arith;
      clean = refl;
      kept = λ whole. refl;
      safe = λ told world ledger room gone unclean dirty region list list' w has allowed zeros safe. safe-none (OpensFit world) world.scope given ledger m tape0 safe;
      size = refl;
    }

pub put_stretch-one-requires-clause-shape : goal.put_stretch-one-requires-clause-shape
put_stretch-one-requires-clause-shape g c =
    let was = c.loop-next.invariant.keeps.moved in
    alike-force c.args.members.now.newest c.loop-next.members.newest was.reshape was.shape was.size c.args.shape.now c.requires.shape

pub put_stretch-one-requires-clause-below : goal.put_stretch-one-requires-clause-below
put_stretch-one-requires-clause-below g c row has = subst (λ (n : ℕ). row < n) (sym c.loop-next.invariant.keeps.moved.size) (c.requires.below row has)

pub returns-then-is_some-clause-written : goal.returns-then-is_some-clause-written
returns-then-is_some-clause-written g c = λ told.
    let was = c.loop-next.invariant in
    let did = c.put_stretch-one.ensures in
    let given = g.B.Bank.given c.args.bank.now in
    let tape0 = g.B.Bank.tape c.args.bank.now in
    let tape1 = g.B.Bank.tape c.loop-next.bank in
    let tape2 = g.B.Bank.tape c.put_stretch-one.new.bank in
    let moved : IsMoved given c.loop-next.members c.put_stretch-one.new.members =
    moved-from given (g.B.Bank.given c.loop-next.bank) c.loop-next.members c.loop-next.members c.put_stretch-one.new.members was.keeps.bank.same refl did.keeps.moved in
    written-then given c.loop-next.members c.put_stretch-one.new.members moved was.keeps.moved.placed c.args.shape.now (alike-force c.args.members.now.newest c.loop-next.members.newest was.keeps.moved.reshape was.keeps.moved.shape was.keeps.moved.size c.args.shape.now c.requires.shape) c.args.first c.args.from.now c.args.rows.now c.requires.once
    0 c.loop-next.next c.put_stretch-one.result.next (omega arith) did.within (present given tape0) (present given tape1) (present given tape2)
    c.args.buffer.now.items c.loop-next.buffer.items c.put_stretch-one.new.buffer.items (was.written told)
    (subst (λ (b : Given). AreRowsWritten c.args.shape.now c.args.first c.args.from.now c.args.rows.now c.loop-next.next c.put_stretch-one.result.next c.put_stretch-one.new.members
    (present b tape1) (present b tape2) c.loop-next.buffer.items c.put_stretch-one.new.buffer.items) was.keeps.bank.same (did.written told)) did.reached

pub loop-next-preserved : goal.loop-next-preserved
loop-next-preserved g c =
    let was = c.loop-next.invariant in
    let did = c.put_stretch-one.ensures in
    let given = g.B.Bank.given c.args.bank.now in
    let tape0 = g.B.Bank.tape c.args.bank.now in
    let tape1 = g.B.Bank.tape c.loop-next.bank in
    let tape2 = g.B.Bank.tape c.put_stretch-one.new.bank in
    let moved : IsMoved given c.loop-next.members c.put_stretch-one.new.members =
    moved-from given (g.B.Bank.given c.loop-next.bank) c.loop-next.members c.loop-next.members c.put_stretch-one.new.members was.keeps.bank.same refl did.keeps.moved in
    record {
      keeps = keeps-then was.keeps did.keeps (in-either c.loop-next.spares c.put_stretch-one.result.spares);
      written = λ told. written-then given c.loop-next.members c.put_stretch-one.new.members moved was.keeps.moved.placed c.args.shape.now (alike-force c.args.members.now.newest c.loop-next.members.newest was.keeps.moved.reshape was.keeps.moved.shape was.keeps.moved.size c.args.shape.now c.requires.shape) c.args.first c.args.from.now c.args.rows.now c.requires.once
          0 c.loop-next.next c.put_stretch-one.result.next (omega arith) did.within (present given tape0) (present given tape1) (present given tape2)
          c.args.buffer.now.items c.loop-next.buffer.items c.put_stretch-one.new.buffer.items (was.written told)
          (subst (λ (b : Given). AreRowsWritten c.args.shape.now c.args.first c.args.from.now c.args.rows.now c.loop-next.next c.put_stretch-one.result.next c.put_stretch-one.new.members
          (present b tape1) (present b tape2) c.loop-next.buffer.items c.put_stretch-one.new.buffer.items) was.keeps.bank.same (did.written told)) did.reached;
      within = did.within;
      clean = did.clean ∙ was.clean;
      kept = λ whole. did.kept whole ∙ was.kept (moved.whole whole);
      safe = λ told world ledger room gone unclean dirty region list list' w has allowed zeros safe.
          let m = c.args.members.now in
          let n = c.loop-next.members in
          safe-on told world ledger was.keeps did.keeps room
          (λ early. was.safe told world ledger early (gone-between ledger was.keeps did.keeps gone) unclean dirty region list list' w has allowed zeros safe)
          (λ late. did.safe told world ledger late gone unclean (was.clean ∙ dirty) (region-later given m n c.args.shape.now (Contains c.args.rows.now) was.keeps.moved region) list list' w
          (λ told. data-later c.args.shape.now (force-valid m.newest c.requires.stands.placed.fit c.args.shape.now c.requires.shape) c.args.first c.args.from.now c.args.rows.now 0 c.loop-next.next (omega arith)
          n (present given tape0) (present given tape1) c.args.buffer.now.items c.loop-next.buffer.items list (was.written told) (has told))
          (allowed-later given m n was.keeps.moved ledger.values list' allowed) (λ fit. zeros-later given m n was.keeps.moved list' (zeros fit)));
      size = did.size ∙ was.size;
    }

-- ---- what the searches would find too, for longer

-- a row further on is nearer to the end
nearer : (n i j : ℕ) → i < n → i < j → n - j < n - i
nearer n i j low further = omega arith

pub put_stretch-one-requires-clause-buffer : goal.put_stretch-one-requires-clause-buffer
put_stretch-one-requires-clause-buffer g c = subst (λ (n : ℕ). 1048576 ≤ n) (sym c.loop-next.invariant.size) c.requires.buffer

pub put_stretch-one-requires-clause-standing : goal.put_stretch-one-requires-clause-standing
put_stretch-one-requires-clause-standing g c told i low lt =
    subst (λ (b : Given). AreStanding (reading_of c.loop-next.members) (present b (g.B.Bank.tape c.loop-next.bank)) c.args.shape.now (slice_index c.args.rows.now i) (buffered c.loop-next.buffer.items i))
    (sym c.loop-next.invariant.keeps.bank.same) ((c.loop-next.invariant.written told).standing i low lt)

pub is_some-requires : goal.is_some-requires
is_some-requires g c κs a has = absurd (not-mem-nil has)

pub returns-then-is_some-clause-done : goal.returns-then-is_some-clause-done
returns-then-is_some-clause-done g c none = some-none c.put_stretch-one.result.refusal (sym c.is_some.ensures ∙ c.if-is_some.true) none

pub returns-then-is_some-clause-clean : goal.returns-then-is_some-clause-clean
returns-then-is_some-clause-clean g c = c.put_stretch-one.ensures.clean ∙ c.loop-next.invariant.clean

pub returns-then-is_some-clause-kept : goal.returns-then-is_some-clause-kept
returns-then-is_some-clause-kept g c whole = c.put_stretch-one.ensures.kept whole ∙ c.loop-next.invariant.kept (c.put_stretch-one.ensures.keeps.moved.whole whole)

pub returns-then-is_some-clause-size : goal.returns-then-is_some-clause-size
returns-then-is_some-clause-size g c = c.put_stretch-one.ensures.size ∙ c.loop-next.invariant.size

pub loop-next-smaller : goal.loop-next-smaller
loop-next-smaller g c =
    nearer _ c.loop-next.next c.put_stretch-one.result.next c.loop-next-test.true
    (c.put_stretch-one.ensures.further (none-of c.put_stretch-one.result.refusal (sym c.is_some.ensures ∙ c.if-is_some.false)) c.loop-next-test.true)

pub returns-clause-done : goal.returns-clause-done
returns-clause-done g c none = le_antisymm c.loop-next.invariant.within c.loop-next-test.false

pub put_stretch-one-requires-clause-once : goal.put_stretch-one-requires-clause-once
put_stretch-one-requires-clause-once g c = c.requires.once

pub put_stretch-one-requires-clause-from : goal.put_stretch-one-requires-clause-from
put_stretch-one-requires-clause-from g c = c.requires.from

pub put_stretch-one-requires-clause-few : goal.put_stretch-one-requires-clause-few
put_stretch-one-requires-clause-few g c = c.requires.few

pub put_stretch-one-requires-clause-short : goal.put_stretch-one-requires-clause-short
put_stretch-one-requires-clause-short g c = c.requires.short

pub returns-then-is_some-clause-refused : goal.returns-then-is_some-clause-refused
returns-then-is_some-clause-refused g c = c.put_stretch-one.ensures.refused

pub returns-then-is_some-clause-within : goal.returns-then-is_some-clause-within
returns-then-is_some-clause-within g c = c.put_stretch-one.ensures.within

pub returns-clause-written : goal.returns-clause-written
returns-clause-written g c = c.loop-next.invariant.written

pub returns-clause-clean : goal.returns-clause-clean
returns-clause-clean g c = c.loop-next.invariant.clean

pub returns-clause-kept : goal.returns-clause-kept
returns-clause-kept g c = c.loop-next.invariant.kept

pub returns-clause-safe : goal.returns-clause-safe
returns-clause-safe g c = c.loop-next.invariant.safe

pub returns-clause-size : goal.returns-clause-size
returns-clause-size g c = c.loop-next.invariant.size

pub returns-then-is_some-clause-keeps : goal.returns-then-is_some-clause-keeps
returns-then-is_some-clause-keeps g c = keeps-then c.loop-next.invariant.keeps c.put_stretch-one.ensures.keeps (in-either c.loop-next.spares c.put_stretch-one.result.spares)

pub returns-clause-keeps : goal.returns-clause-keeps
returns-clause-keeps g c = c.loop-next.invariant.keeps

pub put_stretch-one-requires-clause-stands : goal.put_stretch-one-requires-clause-stands
put_stretch-one-requires-clause-stands g c = stands-on c.loop-next.invariant.keeps c.requires.stands

pub returns-then-is_some-clause-safe : goal.returns-then-is_some-clause-safe
returns-then-is_some-clause-safe g c =
    let was = c.loop-next.invariant in
    let did = c.put_stretch-one.ensures in
    let given = g.B.Bank.given c.args.bank.now in
    let tape0 = g.B.Bank.tape c.args.bank.now in
    let tape1 = g.B.Bank.tape c.loop-next.bank in
    λ told world ledger room gone unclean dirty region list list' w has allowed zeros safe.
    let m = c.args.members.now in
    let n = c.loop-next.members in
    safe-on told world ledger was.keeps did.keeps room
    (λ early. was.safe told world ledger early (gone-between ledger was.keeps did.keeps gone) unclean dirty region list list' w has allowed zeros safe)
    (λ late. did.safe told world ledger late gone unclean (was.clean ∙ dirty) (region-later given m n c.args.shape.now (Contains c.args.rows.now) was.keeps.moved region) list list' w
    (λ told. data-later c.args.shape.now (force-valid m.newest c.requires.stands.placed.fit c.args.shape.now c.requires.shape) c.args.first c.args.from.now c.args.rows.now 0 c.loop-next.next (omega arith)
    n (present given tape0) (present given tape1) c.args.buffer.now.items c.loop-next.buffer.items list (was.written told) (has told))
    (allowed-later given m n was.keeps.moved ledger.values list' allowed) (λ fit. zeros-later given m n was.keeps.moved list' (zeros fit)))
