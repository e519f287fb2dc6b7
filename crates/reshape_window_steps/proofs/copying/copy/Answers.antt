use Rattle.std.proofs.Common.{inl, inr, ◌+◌, ◌*◌, refl, sym, ◌∙◌, subst, arith}
use mathlib.Core.List.{not-mem-nil}
use Rattle.std.proofs.lemmas.Bool.{cases_lt}
use Rattle.reshape_window_rows.proofs.raid_layout_Places.{chunk_some}
use Rattle.reshape_window_rows.specs.bank_Given.{Given}
use Rattle.reshape_window_rows.specs.bank_Tape.{disk}
use Rattle.reshape_window_rows.specs.stripe_row_Rows.{present, reading_of}
use Rattle.reshape_window_rows.specs.stripe_list_Full.{RowStands}
use Rattle.reshape_window_rows.specs.history_Sound.{OpensFit}
use Rattle.reshape_window_rows.specs.crash_views_Windows.{IsCopyable}
use Rattle.reshape_window_rows.specs.array_members_Moving.{IsMoved}
use Rattle.reshape_window_rows.specs.array_members_Lacking.{AreOtherRowsKept}
use Rattle.reshape_window_rows.proofs.array_members_Fit.{force-valid}
use Rattle.reshape_window_rows.proofs.array_members_MovedLaws.{moved-from}
use Rattle.reshape_window_rows.proofs.array_members_LackingLaws.{in-either}
use Rattle.reshape_window_rows.proofs.array_members_LackingLists.{none-of}
use Rattle.reshape_window_rows.proofs.array_members_SafeStretch.{safe-none}
use Rattle.reshape_window_rows.proofs.array_members_SyncedParts.{safe-part}
use Rattle.reshape_window_steps.specs.Copying.{IsOfStripeFrom, AreHeadersKept}
use Rattle.reshape_window_steps.proofs.CopyLaws.{row-later, window-alike, tail-alike, refused-of, others-join}
use Rattle.reshape_window_rows.proofs.sb_safe_updates_FrameLaws.{keeps-none, keeps-then, stands-on}
use Rattle.reshape_window_steps.proofs.copying.copy.Goals as goal

pub loop-done-init : goal.loop-done-init
loop-done-init g c =
    let m = c.args.members.now in
    let given = g.B.Bank.given c.args.bank.now in
    let tape0 = g.B.Bank.tape c.args.bank.now in
    record {
      keeps = keeps-none c.args.bank.now c.args.members.now c.requires.stands;
      clean = refl;
      within = omega arith;
      named = λ some. absurd (omega (arith, some));
      stands = λ told list copied row at. absurd (let low = at.0 in let high = at.1 in omega (arith, low, high));
      others = λ told row out role slot held. refl;
      safe = λ told world ledger room gone unclean able safe. safe-none (OpensFit world) world.scope given ledger m tape0 safe;
      copyable = λ told world able. able;
      headers = λ told s v may. may;
    }

pub copy_part-part-requires-clause-stands : goal.copy_part-part-requires-clause-stands
copy_part-part-requires-clause-stands g c = stands-on c.loop-done.invariant.keeps c.requires.stands

pub copy_part-part-requires-clause-shape : goal.copy_part-part-requires-clause-shape
copy_part-part-requires-clause-shape g c = c.requires.shape ∙ sym c.loop-done.invariant.keeps.moved.reshape.final

pub copy_part-part-requires-clause-next : goal.copy_part-part-requires-clause-next
copy_part-part-requires-clause-next g c =
    let moved = c.loop-done.invariant.keeps.moved in
    window-alike c.args.members.now.newest c.loop-done.members.newest moved.reshape moved.shape moved.size ∙ c.requires.next

pub returns-then-is_some-clause-keeps : goal.returns-then-is_some-clause-keeps
returns-then-is_some-clause-keeps g c = keeps-then c.loop-done.invariant.keeps c.copy_part-part.ensures.keeps (in-either c.loop-done.spares c.copy_part-part.result.spares)

pub returns-then-is_some-clause-refused : goal.returns-then-is_some-clause-refused
returns-then-is_some-clause-refused g c = refused-of c.copy_part-part.new.members c.copy_part-part.result.refusal c.copy_part-part.ensures.refused

pub returns-then-is_some-clause-others : goal.returns-then-is_some-clause-others
returns-then-is_some-clause-others g c = λ told row out.
    let was = c.loop-done.invariant in
    let did = c.copy_part-part.ensures in
    let given = g.B.Bank.given c.args.bank.now in
    let given1 = g.B.Bank.given c.loop-done.bank in
    let n = c.loop-done.members in
    let new = c.copy_part-part.new.members in
    let tape0 = g.B.Bank.tape c.args.bank.now in
    let tape1 = g.B.Bank.tape c.loop-done.bank in
    let tape2 = g.B.Bank.tape c.copy_part-part.new.bank in
    others-join given c.args.shape.now c.args.stripe 0 c.args.shape.now.chunk c.loop-done.done c.args.shape.now.chunk (omega arith) (omega arith) n new (present given tape0) (present given tape1) (present given tape2)
    (moved-from given given1 n n new was.keeps.bank.same refl did.keeps.moved) (was.others told)
    (subst (λ (b : Given). AreOtherRowsKept (IsOfStripeFrom c.args.shape.now c.args.stripe c.loop-done.done c.args.shape.now.chunk) (reading_of new) (present b tape1) (present b tape2)) was.keeps.bank.same (did.others told))
    row (λ at. out (let low = at.0 in omega (arith, low), (let high = at.1 in omega (arith, high))))

pub returns-then-is_some-clause-safe : goal.returns-then-is_some-clause-safe
returns-then-is_some-clause-safe g c = λ told world ledger room gone unclean able safe.
    let was = c.loop-done.invariant in
    let did = c.copy_part-part.ensures in
    let given = g.B.Bank.given c.args.bank.now in
    let given1 = g.B.Bank.given c.loop-done.bank in
    let m = c.args.members.now in
    let n = c.loop-done.members in
    let new = c.copy_part-part.new.members in
    let tape0 = g.B.Bank.tape c.args.bank.now in
    let tape1 = g.B.Bank.tape c.loop-done.bank in
    let tape2 = g.B.Bank.tape c.copy_part-part.new.bank in
    safe-part world given given1 ledger m n new tape0 tape1 tape2 told was.keeps.bank.same was.keeps.moved.placed (moved-from given given1 n n new was.keeps.bank.same refl did.keeps.moved) did.keeps.bank.grows was.keeps.rise room gone
    (λ first gone1. was.safe told world ledger first gone1 unclean able safe)
    (λ then now. did.safe told world ledger then gone (λ dirty. unclean (sym was.clean ∙ dirty))
    (subst (λ (b : Given). IsCopyable world.scope n c.args.span.now (disk b.start tape1)) (sym was.keeps.bank.same) (was.copyable told world able)) now)

pub returns-then-is_some-clause-copyable : goal.returns-then-is_some-clause-copyable
returns-then-is_some-clause-copyable g c = λ told world able.
    let was = c.loop-done.invariant in
    let did = c.copy_part-part.ensures in
    let tape1 = g.B.Bank.tape c.loop-done.bank in
    let tape2 = g.B.Bank.tape c.copy_part-part.new.bank in
    subst (λ (b : Given). IsCopyable world.scope c.loop-done.members c.args.span.now (disk b.start tape1) → IsCopyable world.scope c.copy_part-part.new.members c.args.span.now (disk b.start tape2)) was.keeps.bank.same
    (did.copyable told world) (was.copyable told world able)

pub returns-then-is_some-clause-headers : goal.returns-then-is_some-clause-headers
returns-then-is_some-clause-headers g c = λ told s v may.
    let was = c.loop-done.invariant in
    let tape1 = g.B.Bank.tape c.loop-done.bank in
    let tape2 = g.B.Bank.tape c.copy_part-part.new.bank in
    was.headers told s v
    (subst (λ (b : Given). AreHeadersKept (disk b.start tape1) (disk b.start tape2)) was.keeps.bank.same (c.copy_part-part.ensures.headers told) s v may)

pub loop-done-smaller : goal.loop-done-smaller
loop-done-smaller g c =
    let did = c.copy_part-part.ensures in
    let none = none-of c.copy_part-part.result.refusal (sym c.is_some.ensures ∙ c.if-is_some.false) in
    let further = did.further none in
    let within = did.within in
    let same = c.from-chunk.ensures in
    omega (arith, further, within, same)

pub loop-done-preserved : goal.loop-done-preserved
loop-done-preserved g c =
    let was = c.loop-done.invariant in
    let did = c.copy_part-part.ensures in
    let given = g.B.Bank.given c.args.bank.now in
    let given1 = g.B.Bank.given c.loop-done.bank in
    let m = c.args.members.now in
    let n = c.loop-done.members in
    let new = c.copy_part-part.new.members in
    let tape0 = g.B.Bank.tape c.args.bank.now in
    let tape1 = g.B.Bank.tape c.loop-done.bank in
    let tape2 = g.B.Bank.tape c.copy_part-part.new.bank in
    let moved : IsMoved given n new = moved-from given given1 n n new was.keeps.bank.same refl did.keeps.moved in
    let kept : g.B.Bank.tells → AreOtherRowsKept (IsOfStripeFrom c.args.shape.now c.args.stripe c.loop-done.done c.args.shape.now.chunk) (reading_of new) (present given tape1) (present given tape2) =
    λ told. subst (λ (b : Given). AreOtherRowsKept (IsOfStripeFrom c.args.shape.now c.args.stripe c.loop-done.done c.args.shape.now.chunk) (reading_of new) (present b tape1) (present b tape2)) was.keeps.bank.same (did.others told) in
    record {
      keeps = keeps-then was.keeps did.keeps (in-either c.loop-done.spares c.copy_part-part.result.spares);
      clean = did.clean ∙ was.clean;
      named = λ some. did.named;
      within = let w = did.within in let same = c.from-chunk.ensures in omega (arith, w, same);
      stands = λ told list copied row at. elim (cases_lt row (c.args.stripe * c.args.shape.now.chunk + c.loop-done.done)) [
        | inl early ↦ row-later given n new moved c.args.shape.now list row (present given tape1) (present given tape2)
            (kept told row (λ late. let low = late.0 in omega (arith, low, early))) (was.stands told list copied row (at.0, early))
        | inr late ↦ subst (λ (b : Given). RowStands (reading_of new) (present b tape2) c.args.shape.now list row) was.keeps.bank.same
            (did.stands told list (tail-alike m.newest n.newest was.keeps.moved.reshape was.keeps.moved.shape was.keeps.moved.size c.args.span.now c.args.buffer.now list copied) row (late, at.1))
      ];
      others = λ told. others-join given c.args.shape.now c.args.stripe 0 c.args.shape.now.chunk c.loop-done.done c.args.shape.now.chunk (omega arith) (omega arith) n new (present given tape0) (present given tape1) (present given tape2) moved (was.others told) (kept told);
      safe = λ told world ledger room gone unclean able safe.
          safe-part world given given1 ledger m n new tape0 tape1 tape2 told was.keeps.bank.same was.keeps.moved.placed moved did.keeps.bank.grows was.keeps.rise room gone
          (λ first gone1. was.safe told world ledger first gone1 unclean able safe)
          (λ then now. did.safe told world ledger then gone (λ dirty. unclean (sym was.clean ∙ dirty))
          (subst (λ (b : Given). IsCopyable world.scope n c.args.span.now (disk b.start tape1)) (sym was.keeps.bank.same) (was.copyable told world able)) now);
      copyable = λ told world able.
          subst (λ (b : Given). IsCopyable world.scope n c.args.span.now (disk b.start tape1) → IsCopyable world.scope new c.args.span.now (disk b.start tape2)) was.keeps.bank.same (did.copyable told world) (was.copyable told world able);
      headers = λ told s v may. was.headers told s v
          (subst (λ (b : Given). AreHeadersKept (disk b.start tape1) (disk b.start tape2)) was.keeps.bank.same (did.headers told) s v may);
    }

pub returns-clause-stands : goal.returns-clause-stands
returns-clause-stands g c = λ none told list copied row at.
    let was = c.loop-done.invariant in
    let high = at.1 in
    let low = at.0 in
    let end = c.loop-done-test.false in
    let same = c.from-chunk.ensures in
    was.stands told list copied row ((omega (arith, low)), omega (arith, high, end, same))

pub returns-clause-others : goal.returns-clause-others
returns-clause-others g c = λ told row out.
    let was = c.loop-done.invariant in
    was.others told row (λ at. out ((let low = at.0 in omega (arith, low)), (let high = at.1 in omega (arith, high))))

pub returns-clause-named : goal.returns-clause-named
returns-clause-named g c =
    let end = c.loop-done-test.false in
    let same = c.from-chunk.ensures in
    let some = chunk_some c.args.shape.now (force-valid c.args.members.now.newest c.requires.stands.placed.fit c.args.shape.now (inr c.requires.shape)) in
    c.loop-done.invariant.named (omega (arith, end, same, some))

-- ---- what the searches would find too, for longer

pub returns-then-is_some-clause-clean : goal.returns-then-is_some-clause-clean
returns-then-is_some-clause-clean g c = c.copy_part-part.ensures.clean ∙ c.loop-done.invariant.clean

pub is_some-requires : goal.is_some-requires
is_some-requires g c κs a has = absurd (not-mem-nil has)

pub returns-clause-keeps : goal.returns-clause-keeps
returns-clause-keeps g c = c.loop-done.invariant.keeps
