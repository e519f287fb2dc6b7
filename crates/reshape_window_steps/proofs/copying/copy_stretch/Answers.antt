use Rattle.std.proofs.Common.{◌≡◌, inl, inr, ℕ, ◌+◌, ◌-◌, ◌*◌, List, sym, ap, subst, arith}
use Rattle.reshape_window_rows.specs.raid_types_Sectors.{Sector}
use Rattle.reshape_window_rows.specs.sb_codec_the_Sb.{Sb}
use Rattle.reshape_window_rows.specs.bank_Tape.{IsIn, disk}
use Rattle.reshape_window_rows.proofs.sb_safe_updates_Unused.{unused-role}
use Rattle.reshape_window_rows.proofs.stripe_row_Turns.{marks_last}
use Rattle.reshape_window_rows.specs.sb_specs_Reading.{shape_of, data_offset_of}
use Rattle.reshape_window_rows.specs.stripe_list_Full.{RowStands}
use Rattle.reshape_window_rows.specs.crash_views_Regions.{backup_of}
use Rattle.reshape_window_rows.specs.array_members_Placed.{HaveSameReshape}
use Rattle.reshape_window_rows.specs.bank_Given.{Given}
use Rattle.reshape_window_rows.specs.sb_specs_the_Members.{Members}
use Rattle.reshape_window_rows.specs.stripe_row_Rows.{present, reading_of}
use Rattle.reshape_window_rows.specs.history_Sound.{OpensFit}
use Rattle.reshape_window_rows.proofs.array_members_Fit.{has-rows, reshape-same}
use Rattle.reshape_window_rows.proofs.array_members_MemberLaws.{are_lost}
use Rattle.reshape_window_rows.proofs.array_members_MarkedLaws.{grows-marks}
use Rattle.reshape_window_steps.proofs.CopyLaws.{copyable-later, out-of, safe-copied}
use Rattle.reshape_window_rows.proofs.sb_safe_updates_FrameLaws.{keeps-lost}
use Rattle.reshape_window_steps.proofs.copying.copy_stretch.Goals as goal

pub copy_stripe-copied-requires-clause-rows : goal.copy_stripe-copied-requires-clause-rows
copy_stripe-copied-requires-clause-rows g c = has-rows (g.B.Bank.given c.args.bank.now) c.args.members.now c.requires.placed c.args.shape.now (inr c.requires.shape)

pub returns-clause-keeps : goal.returns-clause-keeps
returns-clause-keeps g c =
    let m = c.args.members.now in
    let n = c.copy_stripe-copied.new.members in
    let given = g.B.Bank.given c.args.bank.now in
    let did = c.copy_stripe-copied.ensures in
    let lost = are_lost given c.args.shape.now m n c.copy_stripe-copied.result.lost (g.B.Bank.faults_of c.args.bank.now) (g.B.Bank.faults_of c.copy_stripe-copied.new.bank)
    c.requires.placed did.lost.members did.lost.failed did.lost.never_falls in
    keeps-lost c.args.bank.now c.copy_stripe-copied.new.bank c.args.shape.now m n c.copy_stripe-copied.result.lost c.requires.placed c.requires.unlost lost did.given (grows-marks c.copy_stripe-copied.ensures.each_mark)
    (λ told s k v unused may.
    let kept = marks_last did.each_mark told in
    elim (kept.0 s k) [
      | inl same ↦ same v may
      | inr at ↦ absurd (unused-role given m c.requires.placed s unused at.role at.held)
    ])

pub returns-clause-safe : goal.returns-clause-safe
returns-clause-safe g c = λ told world ledger able safe.
    let did = c.copy_stripe-copied.ensures in
    safe-copied (OpensFit world) world.scope (g.B.Bank.given c.args.bank.now) ledger c.args.members.now c.copy_stripe-copied.new.members c.copy_stripe-copied.result.lost c.args.span.now
    (g.B.Bank.tape c.args.bank.now) (g.B.Bank.tape c.copy_stripe-copied.new.bank) told did.lost.members c.requires.placed.holders c.requires.unlost able did.each_mark safe

pub returns-clause-stands : goal.returns-clause-stands
returns-clause-stands g c = λ told list copied row at.
    let did = c.copy_stripe-copied.ensures in
    let given = g.B.Bank.given c.args.bank.now in
    let first : ℕ = c.args.stripe * c.args.shape.now.chunk in
    let i : ℕ = row - first in
    let low = at.0 in
    let high = at.1 in
    let here : first + i ≡ row = omega (arith, low) in
    subst (λ (r : ℕ). RowStands (reading_of c.copy_stripe-copied.new.members) (present given (g.B.Bank.tape c.copy_stripe-copied.new.bank)) c.args.shape.now list r) here
    (subst (λ (b : Given). RowStands (reading_of c.copy_stripe-copied.new.members) (present b (g.B.Bank.tape c.copy_stripe-copied.new.bank)) c.args.shape.now list (first + i)) did.given
    (did.stands told list copied i (omega (arith, low, here)) (omega (arith, high, here))))

pub returns-clause-others : goal.returns-clause-others
returns-clause-others g c = λ told row out role slot held.
    let did = c.copy_stripe-copied.ensures in
    let given = g.B.Bank.given c.args.bank.now in
    let tape0 = g.B.Bank.tape c.args.bank.now in
    let tape1 = g.B.Bank.tape c.copy_stripe-copied.new.bank in
    subst (λ (b : Given). present b tape1 slot (data_offset_of (reading_of c.copy_stripe-copied.new.members) slot + row) ≡ present given tape0 slot (data_offset_of (reading_of c.copy_stripe-copied.new.members) slot + row)) did.given
    (did.others told row (out-of (c.args.stripe * c.args.shape.now.chunk) c.args.done c.args.shape.now.chunk row out) slot)

pub returns-clause-copyable : goal.returns-clause-copyable
returns-clause-copyable g c = λ told world able.
    let did = c.copy_stripe-copied.ensures in
    let given = g.B.Bank.given c.args.bank.now in
    let m = c.args.members.now in
    let n = c.copy_stripe-copied.new.members in
    let tape0 = g.B.Bank.tape c.args.bank.now in
    let tape1 = g.B.Bank.tape c.copy_stripe-copied.new.bank in
    let same : n.newest ≡ m.newest = ap (λ (x : Members). x.newest) did.lost.members in
    let kept = marks_last did.each_mark told in
    copyable-later world.scope m n (subst (HaveSameReshape m.newest) (sym same) (reshape-same m.newest)) (ap shape_of same) (ap (λ (x : Sb). x.size) same) c.args.span.now (disk given.start tape0) (disk given.start tape1)
    (λ header may. subst (λ (l : List Sector). IsIn l header) (kept.1 (backup_of world.scope) 0 (omega arith)) may) able

pub returns-clause-headers : goal.returns-clause-headers
returns-clause-headers g c = λ told s v may.
    let kept = marks_last c.copy_stripe-copied.ensures.each_mark told in
    subst (λ (l : List Sector). IsIn l v) (kept.1 s 0 (omega arith)) may
