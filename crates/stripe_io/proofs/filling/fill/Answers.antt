use Rattle.std.proofs.Common.{◌≡◌, inl, inr, ℕ, ◌+◌, ◌*◌, ◌/◌, ◌<◌, ◌≤◌, refl, sym, ◌∙◌, ap, subst, arith, le_trans}
use Rattle.sb_safe_updates.specs.raid_types_Shapes.{data_disks}
use Rattle.sb_safe_updates.specs.raid_types_the_Shape.{Shape}
use Rattle.sb_safe_updates.specs.raid_types_the_Role_TheVariants.{Recovering}
use Rattle.sb_safe_updates.specs.bank_Given.{Given}
use Rattle.sb_safe_updates.specs.sb_specs_Reading.{role_state, rows_held, data_offset_of, holder}
use Rattle.sb_safe_updates.specs.stripe_row_Rows.{reading_of, present}
use Rattle.sb_safe_updates.specs.stripe_list_Buffers.{IsTouched}
use Rattle.sb_safe_updates.specs.stripe_list_Writing.{HasFull}
use Rattle.sb_safe_updates.specs.history_Sound.{OpensFit}
use Rattle.sb_safe_updates.specs.array_members_Moving.{IsMoved}
use Rattle.sb_safe_updates.specs.array_members_Lacking.{IsOfStripe, DataStandsAmong, RowsStandAmong}
use Rattle.sb_safe_updates.specs.array_members_Rebuilding.{IsFilledAmong}
use Rattle.sb_safe_updates.proofs.array_members_MovedLaws.{moved-from}
use Rattle.sb_safe_updates.proofs.array_members_LackingLaws.{in-either}
use Rattle.sb_safe_updates.proofs.array_members_LackingLists.{none-of}
use Rattle.sb_safe_updates.proofs.array_members_SafeStretch.{safe-none}
use Rattle.sb_safe_updates.proofs.array_members_SyncedParts.{IsInParts, valid-in, part-within, part-touches, safe-part}
use Rattle.stripe_io.proofs.FillingLaws.{filled-none, filled-then}
use Rattle.sb_safe_updates.proofs.array_members_FilledParts.{touched-in_parts, touched-late, parts-longer, parts-of_stripe, stripe-in_parts, found-in, none-found, recovered-alone, recovered-rows, filled-before, data-filled, row-filled, full-kept}
use Rattle.stripe_io.proofs.CallLaws.{some-none}
use Rattle.sb_safe_updates.proofs.FrameLaws.{members-none, members-stand-on, members-then}
use Rattle.stripe_io.proofs.filling.fill.Goals as goal

pub target_of-target-requires-clause-few : goal.target_of-target-requires-clause-few
target_of-target-requires-clause-few g c =
    (c.requires.stands.placed.holders c.args.role c.args.slot (ap holder c.requires.recovering)).small

pub overflow_mul-first : goal.overflow_mul-first
overflow_mul-first g c =
    let fits = part-within (g.B.Bank.given c.args.bank.now) c.args.members.now c.requires.stands.placed c.args.shape.now (inl c.requires.shape) c.args.stripe (subst (λ (s : Shape). c.args.stripe < c.args.members.now.newest.size / s.chunk) (sym c.requires.shape) c.requires.stripe) c.list_length.result c.list_length.ensures 0 0
    (omega arith) in
    omega (arith, fits.0, fits.1)

pub loop-done-init : goal.loop-done-init
loop-done-init g c =
    let m = c.args.members.now in
    let given = g.B.Bank.given c.args.bank.now in
    let tape0 = g.B.Bank.tape c.args.bank.now in
    let f0 = g.B.Bank.faults_of c.args.bank.now in
    record {
      keeps = members-none c.args.bank.now c.args.members.now c.requires.stands;
      clean = refl;
      within = omega arith;
      full = λ told list stands among recovers row at high. absurd (let low = at.0 in let end = at.1 in omega (arith, low, end));
      others = λ told. filled-none m c.args.role c.args.slot _ (present given tape0);
      safe = λ told world ledger room gone unclean safe. safe-none (OpensFit world) world.scope given ledger m tape0 safe;
      rows = omega arith;
      buffer = refl;
    }

pub overflow_add-first : goal.overflow_add-first
overflow_add-first g c =
    let fits = part-within (g.B.Bank.given c.args.bank.now) c.args.members.now c.requires.stands.placed c.args.shape.now (inl c.requires.shape) c.args.stripe (subst (λ (s : Shape). c.args.stripe < c.args.members.now.newest.size / s.chunk) (sym c.requires.shape) c.requires.stripe) c.list_length.result c.list_length.ensures c.loop-done.done 0
    (let within = c.loop-done.invariant.within in omega (arith, within)) in
    omega (arith, fits.0, fits.1)

pub fill_part-part-requires-clause-stands : goal.fill_part-part-requires-clause-stands
fill_part-part-requires-clause-stands g c = members-stand-on c.loop-done.invariant.keeps c.requires.stands

pub fill_part-part-requires-clause-recovering : goal.fill_part-part-requires-clause-recovering
fill_part-part-requires-clause-recovering g c =
    let was = c.loop-done.invariant in
    let n = c.loop-done.members in
    let role = c.args.role in
    let slot = c.args.slot in
    let t = c.target_of-target.result in
    let same_role : t.role ≡ role = c.target_of-target.ensures.role in
    let same_slot : t.slot ≡ slot = c.target_of-target.ensures.slot in
    let found = found-in c.recovering_slot.result _ (sym c.is_some.ensures ∙ c.if-is_some.true) c.recovering_slot.ensures.some in
    let recovers : role_state (reading_of n) role ≡ Recovering slot = subst (λ (s : ℕ). role_state (reading_of n) role ≡ Recovering s) (recovered-alone was.keeps.moved role slot found.0 c.requires.recovering found.1) found.1 in
    ap (role_state (reading_of n)) same_role ∙ recovers ∙ ap (λ (s : ℕ). Recovering s) (sym same_slot)

pub fill_part-part-requires-clause-offset : goal.fill_part-part-requires-clause-offset
fill_part-part-requires-clause-offset g c =
    let was = c.loop-done.invariant in
    let n = c.loop-done.members in
    let slot = c.args.slot in
    let t = c.target_of-target.result in
    let same_slot : t.slot ≡ slot = c.target_of-target.ensures.slot in
    c.target_of-target.ensures.offset ∙ sym (was.keeps.moved.offsets slot) ∙ ap (data_offset_of (reading_of n)) (sym same_slot)

pub fill_part-part-requires-clause-held : goal.fill_part-part-requires-clause-held
fill_part-part-requires-clause-held g c =
    let was = c.loop-done.invariant in
    let n = c.loop-done.members in
    let role = c.args.role in
    let slot = c.args.slot in
    let t = c.target_of-target.result in
    let same_slot : t.slot ≡ slot = c.target_of-target.ensures.slot in
    let found = found-in c.recovering_slot.result _ (sym c.is_some.ensures ∙ c.if-is_some.true) c.recovering_slot.ensures.some in
    let recovers : role_state (reading_of n) role ≡ Recovering slot = subst (λ (s : ℕ). role_state (reading_of n) role ≡ Recovering s) (recovered-alone was.keeps.moved role slot found.0 c.requires.recovering found.1) found.1 in
    c.target_of-target.ensures.held ∙ sym (recovered-rows was.keeps.moved role slot recovers) ∙ ap (λ (s : ℕ). rows_held (reading_of n) (Recovering s)) (sym same_slot)

pub fill_part-part-requires-clause-within : goal.fill_part-part-requires-clause-within
fill_part-part-requires-clause-within g c =
    let fits = part-within (g.B.Bank.given c.args.bank.now) c.args.members.now c.requires.stands.placed c.args.shape.now (inl c.requires.shape) c.args.stripe (subst (λ (s : Shape). c.args.stripe < c.args.members.now.newest.size / s.chunk) (sym c.requires.shape) c.requires.stripe) c.list_length.result c.list_length.ensures c.loop-done.done c.min-count.result
    (let count = c.min-count.ensures in let within = c.loop-done.invariant.within in omega (arith, count, within)) in
    let size = ap (λ (k : ℕ). data_disks c.args.shape.now * k) c.loop-done.invariant.keeps.moved.size in
    omega (arith, fits.0, size)

pub fill_part-part-requires-clause-short : goal.fill_part-part-requires-clause-short
fill_part-part-requires-clause-short g c =
    let fits = part-within (g.B.Bank.given c.args.bank.now) c.args.members.now c.requires.stands.placed c.args.shape.now (inl c.requires.shape) c.args.stripe (subst (λ (s : Shape). c.args.stripe < c.args.members.now.newest.size / s.chunk) (sym c.requires.shape) c.requires.stripe) c.list_length.result c.list_length.ensures c.loop-done.done c.min-count.result
    (let count = c.min-count.ensures in let within = c.loop-done.invariant.within in omega (arith, count, within)) in
    omega (arith, fits.0, fits.1)

pub returns-then-is_some-2-clause-keeps : goal.returns-then-is_some-2-clause-keeps
returns-then-is_some-2-clause-keeps g c = members-then c.loop-done.invariant.keeps c.fill_part-part.ensures.keeps (in-either c.loop-done.spares c.fill_part-part.result.spares)

pub returns-then-is_some-2-clause-others : goal.returns-then-is_some-2-clause-others
returns-then-is_some-2-clause-others g c =
    λ told.
    let was = c.loop-done.invariant in
    let m = c.args.members.now in
    let n = c.loop-done.members in
    let given = g.B.Bank.given c.args.bank.now in
    let given1 = g.B.Bank.given c.loop-done.bank in
    let role = c.args.role in
    let slot = c.args.slot in
    let t = c.target_of-target.result in
    let same_role : t.role ≡ role = c.target_of-target.ensures.role in
    let same_slot : t.slot ≡ slot = c.target_of-target.ensures.slot in
    let found = found-in c.recovering_slot.result _ (sym c.is_some.ensures ∙ c.if-is_some.true) c.recovering_slot.ensures.some in
    let recovers : role_state (reading_of n) role ≡ Recovering slot = subst (λ (s : ℕ). role_state (reading_of n) role ≡ Recovering s) (recovered-alone was.keeps.moved role slot found.0 c.requires.recovering found.1) found.1 in
    let did = c.fill_part-part.ensures in
    let new = c.fill_part-part.new.members in
    let moved : IsMoved given n new = moved-from given given1 n n new was.keeps.bank.same refl did.keeps.moved in
    let tape0 = g.B.Bank.tape c.args.bank.now in
    let tape1 = g.B.Bank.tape c.loop-done.bank in
    let tape2 = g.B.Bank.tape c.fill_part-part.new.bank in
    let shape = c.args.shape.now in
    let stripe = c.args.stripe in
    let done = c.loop-done.done in
    let count = c.min-count.result in
    let valid = valid-in given m c.requires.stands.placed shape (inl c.requires.shape) in
    let part : done + count ≤ shape.chunk = (let low = c.min-count.ensures in let within = was.within in omega (arith, low, within)) in
    let touched = IsTouched shape (stripe * c.list_length.result + done) count in
    let here = touched-in_parts shape valid stripe c.list_length.result c.list_length.ensures done count part in
    let filled : g.B.Bank.tells → IsFilledAmong n role slot touched (present given tape1) (present given tape2) =
    λ told. subst (λ (b : Given). IsFilledAmong n role slot touched (present b tape1) (present b tape2)) was.keeps.bank.same
    (subst (λ (r : ℕ). IsFilledAmong n r slot touched (present given1 tape1) (present given1 tape2)) same_role
    (subst (λ (s : ℕ). IsFilledAmong n t.role s touched (present given1 tape1) (present given1 tape2)) same_slot (did.others told))) in
    filled-then m role slot (IsInParts shape stripe done) (IsOfStripe shape stripe) (IsOfStripe shape stripe) (present given tape0) (present given tape1) (present given tape2)
    (λ row at. parts-of_stripe shape stripe done row was.within at) (λ row at. at) (was.others told)
    (filled-before was.keeps.moved role slot touched (IsOfStripe shape stripe) (present given tape1) (present given tape2) recovers (λ row at. parts-of_stripe shape stripe (done + count) row part (here row at)) (filled told))

pub returns-then-is_some-2-clause-safe : goal.returns-then-is_some-2-clause-safe
returns-then-is_some-2-clause-safe g c =
    let was = c.loop-done.invariant in
    let m = c.args.members.now in
    let n = c.loop-done.members in
    let given = g.B.Bank.given c.args.bank.now in
    let given1 = g.B.Bank.given c.loop-done.bank in
    let did = c.fill_part-part.ensures in
    let new = c.fill_part-part.new.members in
    let moved : IsMoved given n new = moved-from given given1 n n new was.keeps.bank.same refl did.keeps.moved in
    let tape0 = g.B.Bank.tape c.args.bank.now in
    let tape1 = g.B.Bank.tape c.loop-done.bank in
    let tape2 = g.B.Bank.tape c.fill_part-part.new.bank in
    λ told world ledger room gone unclean safe.
    safe-part world given given1 ledger m n new tape0 tape1 tape2 told was.keeps.bank.same was.keeps.moved.placed moved did.keeps.bank.grows was.keeps.rise room gone
    (λ first gone1. was.safe told world ledger first gone1 unclean safe)
    (λ then now. did.safe told world ledger then gone (λ dirty. unclean (sym was.clean ∙ dirty)) now)

pub loop-done-preserved : goal.loop-done-preserved
loop-done-preserved g c =
    let was = c.loop-done.invariant in
    let m = c.args.members.now in
    let n = c.loop-done.members in
    let given = g.B.Bank.given c.args.bank.now in
    let given1 = g.B.Bank.given c.loop-done.bank in
    let role = c.args.role in
    let slot = c.args.slot in
    let t = c.target_of-target.result in
    let same_role : t.role ≡ role = c.target_of-target.ensures.role in
    let same_slot : t.slot ≡ slot = c.target_of-target.ensures.slot in
    let found = found-in c.recovering_slot.result _ (sym c.is_some.ensures ∙ c.if-is_some.true) c.recovering_slot.ensures.some in
    let recovers : role_state (reading_of n) role ≡ Recovering slot = subst (λ (s : ℕ). role_state (reading_of n) role ≡ Recovering s) (recovered-alone was.keeps.moved role slot found.0 c.requires.recovering found.1) found.1 in
    let did = c.fill_part-part.ensures in
    let new = c.fill_part-part.new.members in
    let moved : IsMoved given n new = moved-from given given1 n n new was.keeps.bank.same refl did.keeps.moved in
    let tape0 = g.B.Bank.tape c.args.bank.now in
    let tape1 = g.B.Bank.tape c.loop-done.bank in
    let tape2 = g.B.Bank.tape c.fill_part-part.new.bank in
    let shape = c.args.shape.now in
    let stripe = c.args.stripe in
    let done = c.loop-done.done in
    let count = c.min-count.result in
    let valid = valid-in given m c.requires.stands.placed shape (inl c.requires.shape) in
    let part : done + count ≤ shape.chunk = (let low = c.min-count.ensures in let within = was.within in omega (arith, low, within)) in
    let touched = IsTouched shape (stripe * c.list_length.result + done) count in
    let here = touched-in_parts shape valid stripe c.list_length.result c.list_length.ensures done count part in
    let filled : g.B.Bank.tells → IsFilledAmong n role slot touched (present given tape1) (present given tape2) =
    λ told. subst (λ (b : Given). IsFilledAmong n role slot touched (present b tape1) (present b tape2)) was.keeps.bank.same
    (subst (λ (r : ℕ). IsFilledAmong n r slot touched (present given1 tape1) (present given1 tape2)) same_role
    (subst (λ (s : ℕ). IsFilledAmong n t.role s touched (present given1 tape1) (present given1 tape2)) same_slot (did.others told))) in
    let f0 = g.B.Bank.faults_of c.args.bank.now in
    let f1 = g.B.Bank.faults_of c.loop-done.bank in
    let f2 = g.B.Bank.faults_of c.fill_part-part.new.bank in
    record {
      keeps = members-then was.keeps did.keeps (in-either c.loop-done.spares c.fill_part-part.result.spares);
      clean = did.clean ∙ was.clean;
      within = part;
      full = λ told list stands among then row at high.
          let c1 = present given tape1 in
          let c2 = present given tape2 in
          elim (part-touches shape valid stripe c.list_length.result c.list_length.ensures done count part row at) [
            | inl early ↦ full-kept moved was.keeps.moved.placed role slot recovers touched c1 c2 (filled told) shape list role slot row then
                (λ same touch. touched-late shape valid stripe c.list_length.result c.list_length.ensures done count part row early touch) (was.full told list stands among recovers row early high)
            | inr late ↦
                let none = none-of c.fill_part-part.result.refusal (sym c.is_some-in-loop-done.ensures ∙ c.if-is_some-2.false) in
                let list1 : DataStandsAmong shape touched n c1 list = λ other touch below. data-filled was.keeps.moved c.requires.stands.placed role slot c.requires.recovering (IsInParts shape stripe done) (present given tape0) c1 (was.others told)
                shape (IsOfStripe shape stripe) list stands other (parts-of_stripe shape stripe (done + count) other part (here other touch)) below in
                let rows1 : RowsStandAmong shape touched n c1 list = λ other touch below. row-filled was.keeps.moved c.requires.stands.placed role slot c.requires.recovering (IsInParts shape stripe done) (present given tape0) c1 (was.others told) shape list other
                (among other (parts-of_stripe shape stripe (done + count) other part (here other touch)) (subst (λ (k : ℕ). other < k) was.keeps.moved.size below)) in
                let then_t : role_state (reading_of new) t.role ≡ Recovering t.slot = ap (role_state (reading_of new)) same_role ∙ then ∙ ap (λ (s : ℕ). Recovering s) (sym same_slot) in
                let high_t : t.held ≤ row = subst (λ (k : ℕ). k ≤ row) (sym c.target_of-target.ensures.held) high in
                let done_t : HasFull (reading_of new) (present given1 tape2) shape list row t.role t.slot = did.filled none then_t told list
                (subst (λ (b : Given). DataStandsAmong shape touched n (present b tape1) list) (sym was.keeps.bank.same) list1) (subst (λ (b : Given). RowsStandAmong shape touched n (present b tape1) list) (sym was.keeps.bank.same) rows1) row late high_t in
                subst (λ (b : Given). HasFull (reading_of new) (present b tape2) shape list row role slot) was.keeps.bank.same
                (subst (λ (r : ℕ). HasFull (reading_of new) (present given1 tape2) shape list row r slot) same_role
                (subst (λ (s : ℕ). HasFull (reading_of new) (present given1 tape2) shape list row t.role s) same_slot done_t))
          ];
      others = λ told.
          filled-then m role slot (IsInParts shape stripe done) (IsInParts shape stripe (done + count)) (IsInParts shape stripe (done + count)) (present given tape0) (present given tape1) (present given tape2)
          (λ row at. parts-longer shape stripe done count row at) (λ row at. at) (was.others told)
          (filled-before was.keeps.moved role slot touched (IsInParts shape stripe (done + count)) (present given tape1) (present given tape2) recovers here (filled told));
      safe = λ told world ledger room gone unclean safe.
          safe-part world given given1 ledger m n new tape0 tape1 tape2 told was.keeps.bank.same was.keeps.moved.placed moved did.keeps.bank.grows was.keeps.rise room gone
          (λ first gone1. was.safe told world ledger first gone1 unclean safe)
          (λ then now. did.safe told world ledger then gone (λ dirty. unclean (sym was.clean ∙ dirty)) now);
      rows = le_trans was.rows did.rows;
      buffer = did.buffer ∙ was.buffer;
    }

pub returns-else-is_some-clause-filled : goal.returns-else-is_some-clause-filled
returns-else-is_some-clause-filled g c =
    λ ok recovers. absurd (none-found c.recovering_slot.result _ (sym c.is_some.ensures ∙ c.if-is_some.false) c.recovering_slot.ensures.none c.args.slot recovers)

pub returns-else-is_some-clause-others : goal.returns-else-is_some-clause-others
returns-else-is_some-clause-others g c =
    λ told.
    let was = c.loop-done.invariant in
    let given = g.B.Bank.given c.args.bank.now in
    let c0 = present given (g.B.Bank.tape c.args.bank.now) in
    let c1 = present given (g.B.Bank.tape c.loop-done.bank) in
    let stripe = IsOfStripe c.args.shape.now c.args.stripe in
    filled-then c.args.members.now c.args.role c.args.slot (IsInParts c.args.shape.now c.args.stripe c.loop-done.done) stripe stripe c0 c1 c1
    (λ row at. parts-of_stripe c.args.shape.now c.args.stripe c.loop-done.done row was.within at) (λ row at. at) (was.others told) (filled-none c.args.members.now c.args.role c.args.slot stripe c1)

pub returns-after-loop-done-clause-filled : goal.returns-after-loop-done-clause-filled
returns-after-loop-done-clause-filled g c =
    λ ok recovers told list stands among row of high.
    c.loop-done.invariant.full told list stands among recovers row (stripe-in_parts c.args.shape.now c.args.stripe c.loop-done.done row c.loop-done-test.false of) high

pub returns-after-loop-done-clause-others : goal.returns-after-loop-done-clause-others
returns-after-loop-done-clause-others g c =
    λ told.
    let was = c.loop-done.invariant in
    let given = g.B.Bank.given c.args.bank.now in
    let c0 = present given (g.B.Bank.tape c.args.bank.now) in
    let c1 = present given (g.B.Bank.tape c.loop-done.bank) in
    let stripe = IsOfStripe c.args.shape.now c.args.stripe in
    filled-then c.args.members.now c.args.role c.args.slot (IsInParts c.args.shape.now c.args.stripe c.loop-done.done) stripe stripe c0 c1 c1
    (λ row at. parts-of_stripe c.args.shape.now c.args.stripe c.loop-done.done row was.within at) (λ row at. at) (was.others told) (filled-none c.args.members.now c.args.role c.args.slot stripe c1)

pub fill_part-part-requires-clause-shape : goal.fill_part-part-requires-clause-shape
fill_part-part-requires-clause-shape g c = c.requires.shape ∙ sym c.loop-done.invariant.keeps.moved.shape

pub fill_part-part-requires-clause-role : goal.fill_part-part-requires-clause-role
fill_part-part-requires-clause-role g c = subst (λ (r : ℕ). r < c.args.shape.now.disks) (sym c.target_of-target.ensures.role) c.requires.role

pub fill_part-part-requires-clause-rows : goal.fill_part-part-requires-clause-rows
fill_part-part-requires-clause-rows g c = le_trans c.requires.rows c.loop-done.invariant.rows

pub fill_part-part-requires-clause-buffer : goal.fill_part-part-requires-clause-buffer
fill_part-part-requires-clause-buffer g c = subst (λ (n : ℕ). 1048576 ≤ n) (sym c.loop-done.invariant.buffer) c.requires.buffer

pub returns-then-is_some-2-clause-refused : goal.returns-then-is_some-2-clause-refused
returns-then-is_some-2-clause-refused g c = c.fill_part-part.ensures.refused

pub returns-then-is_some-2-clause-clean : goal.returns-then-is_some-2-clause-clean
returns-then-is_some-2-clause-clean g c = c.fill_part-part.ensures.clean ∙ c.loop-done.invariant.clean

pub returns-then-is_some-2-clause-filled : goal.returns-then-is_some-2-clause-filled
returns-then-is_some-2-clause-filled g c none recovers told = absurd (some-none c.fill_part-part.result.refusal (sym c.is_some-in-loop-done.ensures ∙ c.if-is_some-2.true) none)

pub returns-then-is_some-2-clause-rows : goal.returns-then-is_some-2-clause-rows
returns-then-is_some-2-clause-rows g c = le_trans c.loop-done.invariant.rows c.fill_part-part.ensures.rows

pub returns-then-is_some-2-clause-buffer : goal.returns-then-is_some-2-clause-buffer
returns-then-is_some-2-clause-buffer g c = c.fill_part-part.ensures.buffer ∙ c.loop-done.invariant.buffer

pub returns-else-is_some-clause-keeps : goal.returns-else-is_some-clause-keeps
returns-else-is_some-clause-keeps g c = c.loop-done.invariant.keeps

pub returns-else-is_some-clause-clean : goal.returns-else-is_some-clause-clean
returns-else-is_some-clause-clean g c = c.loop-done.invariant.clean

pub returns-else-is_some-clause-safe : goal.returns-else-is_some-clause-safe
returns-else-is_some-clause-safe g c = c.loop-done.invariant.safe

pub returns-else-is_some-clause-rows : goal.returns-else-is_some-clause-rows
returns-else-is_some-clause-rows g c = c.loop-done.invariant.rows

pub returns-else-is_some-clause-buffer : goal.returns-else-is_some-clause-buffer
returns-else-is_some-clause-buffer g c = c.loop-done.invariant.buffer

pub returns-after-loop-done-clause-keeps : goal.returns-after-loop-done-clause-keeps
returns-after-loop-done-clause-keeps g c = c.loop-done.invariant.keeps

pub returns-after-loop-done-clause-clean : goal.returns-after-loop-done-clause-clean
returns-after-loop-done-clause-clean g c = c.loop-done.invariant.clean

pub returns-after-loop-done-clause-safe : goal.returns-after-loop-done-clause-safe
returns-after-loop-done-clause-safe g c = c.loop-done.invariant.safe

pub returns-after-loop-done-clause-rows : goal.returns-after-loop-done-clause-rows
returns-after-loop-done-clause-rows g c = c.loop-done.invariant.rows

pub returns-after-loop-done-clause-buffer : goal.returns-after-loop-done-clause-buffer
returns-after-loop-done-clause-buffer g c = c.loop-done.invariant.buffer
