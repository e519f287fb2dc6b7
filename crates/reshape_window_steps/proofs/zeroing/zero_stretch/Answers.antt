use Rattle.std.proofs.Common.{◌≡◌, inl, inr, ℕ, ◌+◌, ◌-◌, ◌*◌, subst, arith, List}
use Rattle.reshape_window_rows.specs.sb_specs_Reading.{data_offset_of}
use Rattle.reshape_window_rows.specs.stripe_list_Full.{RowStands}
use Rattle.reshape_window_rows.specs.bank_Given.{Given}
use Rattle.reshape_window_rows.specs.stripe_row_Rows.{present, reading_of}
use Rattle.reshape_window_rows.specs.history_Sound.{OpensFit}
use Rattle.reshape_window_rows.proofs.array_members_Fit.{has-rows}
use Rattle.reshape_window_rows.proofs.array_members_MemberLaws.{are_lost}
use Rattle.reshape_window_rows.proofs.array_members_MarkedLaws.{grows-marks}
use Rattle.reshape_window_steps.proofs.CopyLaws.{out-of}
use Rattle.reshape_window_steps.proofs.ZeroLaws.{safe-zeroed}
use Rattle.reshape_window_rows.specs.raid_types_Sectors.{Sector}
use Rattle.reshape_window_rows.specs.bank_Tape.{IsIn}
use Rattle.reshape_window_rows.proofs.stripe_row_Turns.{marks_last}
use Rattle.reshape_window_rows.proofs.sb_safe_updates_Unused.{unused-role}
use Rattle.reshape_window_rows.proofs.sb_safe_updates_FrameLaws.{keeps-lost}
use Rattle.reshape_window_steps.proofs.zeroing.zero_stretch.Goals as goal

pub zero_stripe-zeroed-requires-clause-rows : goal.zero_stripe-zeroed-requires-clause-rows
zero_stripe-zeroed-requires-clause-rows g c = has-rows (g.B.Bank.given c.args.bank.now) c.args.members.now c.requires.placed c.args.shape.now (inr c.requires.shape)

pub returns-clause-keeps : goal.returns-clause-keeps
returns-clause-keeps g c =
    let m = c.args.members.now in
    let n = c.zero_stripe-zeroed.new.members in
    let given = g.B.Bank.given c.args.bank.now in
    let did = c.zero_stripe-zeroed.ensures in
    let lost = are_lost given c.args.shape.now m n c.zero_stripe-zeroed.result.lost (g.B.Bank.faults_of c.args.bank.now) (g.B.Bank.faults_of c.zero_stripe-zeroed.new.bank)
    c.requires.placed did.lost.members did.lost.failed did.lost.never_falls in
    keeps-lost c.args.bank.now c.zero_stripe-zeroed.new.bank c.args.shape.now m n c.zero_stripe-zeroed.result.lost c.requires.placed c.requires.unlost lost did.given (grows-marks c.zero_stripe-zeroed.ensures.each_mark)
    (λ told s k v unused may.
    let kept = marks_last did.each_mark told in
    elim (kept.0 s k) [
      | inl same ↦ same v may
      | inr at ↦ absurd (unused-role given m c.requires.placed s unused at.role at.held)
    ])

pub returns-clause-safe : goal.returns-clause-safe
returns-clause-safe g c = λ told world ledger safe.
    let did = c.zero_stripe-zeroed.ensures in
    safe-zeroed (OpensFit world) world.scope (g.B.Bank.given c.args.bank.now) ledger c.args.members.now c.zero_stripe-zeroed.new.members c.zero_stripe-zeroed.result.lost
    (g.B.Bank.tape c.args.bank.now) (g.B.Bank.tape c.zero_stripe-zeroed.new.bank) told did.lost.members c.requires.placed.holders c.requires.unlost c.requires.through did.each_mark safe

pub returns-clause-stands : goal.returns-clause-stands
returns-clause-stands g c = λ told list zeros row at.
    let did = c.zero_stripe-zeroed.ensures in
    let given = g.B.Bank.given c.args.bank.now in
    let first : ℕ = c.args.stripe * c.args.shape.now.chunk in
    let i : ℕ = row - first in
    let low = at.0 in
    let high = at.1 in
    let here : first + i ≡ row = omega (arith, low) in
    subst (λ (r : ℕ). RowStands (reading_of c.zero_stripe-zeroed.new.members) (present given (g.B.Bank.tape c.zero_stripe-zeroed.new.bank)) c.args.shape.now list r) here
    (subst (λ (b : Given). RowStands (reading_of c.zero_stripe-zeroed.new.members) (present b (g.B.Bank.tape c.zero_stripe-zeroed.new.bank)) c.args.shape.now list (first + i)) did.given
    (did.stands told list zeros i (omega (arith, low, here)) (omega (arith, high, here))))

pub returns-clause-others : goal.returns-clause-others
returns-clause-others g c = λ told row out role slot held.
    let did = c.zero_stripe-zeroed.ensures in
    let given = g.B.Bank.given c.args.bank.now in
    let tape0 = g.B.Bank.tape c.args.bank.now in
    let tape1 = g.B.Bank.tape c.zero_stripe-zeroed.new.bank in
    subst (λ (b : Given). present b tape1 slot (data_offset_of (reading_of c.zero_stripe-zeroed.new.members) slot + row) ≡ present given tape0 slot (data_offset_of (reading_of c.zero_stripe-zeroed.new.members) slot + row)) did.given
    (did.others told row (out-of (c.args.stripe * c.args.shape.now.chunk) c.args.done c.args.shape.now.chunk row out) slot)

pub returns-clause-headers : goal.returns-clause-headers
returns-clause-headers g c = λ told s v may. let kept = marks_last c.zero_stripe-zeroed.ensures.each_mark told in subst (λ (l : List Sector). IsIn l v) (kept.1 s 0 (omega arith)) may
