use Rattle.std.proofs.Common.{◌<◌, ℕ, List, refl, sym, ◌∙◌, ap, subst}
use Rattle.sb_safe_updates.specs.bank_Given.{Given}
use Rattle.sb_safe_updates.specs.bank_the_Operation.{Operation}
use Rattle.sb_safe_updates.specs.sb_specs_the_Members.{Members}
use Rattle.sb_safe_updates.specs.stripe_row_Rows.{present, reading_of}
use Rattle.sb_safe_updates.specs.stripe_list_Buffers.{buffered}
use Rattle.sb_safe_updates.proofs.stripe_list_BufferLaws.{data_read}
use Rattle.sb_safe_updates.specs.array_members_Placed.{AreLost, IsInForce}
use Rattle.sb_safe_updates.specs.crash_safety_laws_Marking.{AreOthersPresent}
use Rattle.sb_safe_updates.specs.array_members_Moving.{IsMoved}
use Rattle.sb_safe_updates.proofs.array_members_MovedLaws.{moved-from, grows-none}
use Rattle.sb_safe_updates.proofs.array_members_Fit.{has-rows, force-valid, disks-within, alike-force}
use Rattle.sb_safe_updates.proofs.array_members_LackingLaws.{in-second}
use Rattle.sb_safe_updates.proofs.array_members_LackingWrites.{lost-of, standing-later}
use Rattle.sb_safe_updates.proofs.RefusingLaws.{write-cause, write-told, told-first, told-why, many-told, not-err}
use Rattle.sb_safe_updates.specs.history_Sound.{OpensFit}
use Rattle.sb_safe_updates.proofs.array_members_SafeStretch.{safe-lost}
use Rattle.stripe_io.proofs.UnusedReads.{read-unused}
use Rattle.stripe_io.proofs.CallLaws.{roles-left}
use Rattle.stripe_io.proofs.RefusedLaws.{lacking-unwritten}
use Rattle.sb_safe_updates.specs.sb_specs_Reading.{is_clean}
use Rattle.sb_safe_updates.specs.array_members_Lacking.{DoesWithout}
use Rattle.sb_safe_updates.specs.Frame.{Keeps}
use Rattle.sb_safe_updates.proofs.FrameLaws.{keeps-lost, keeps-then, stands-on, safe-on}
use Rattle.stripe_io.proofs.putting.prepare.Goals as goal

pub returns-then-is_err-clause-below : goal.returns-then-is_err-clause-below
returns-then-is_err-clause-below g c row has = subst (λ (x : Members). row < x.newest.size) (sym c.read_touched-read.ensures.lost.members) (c.read_touched-read.ensures.below row has)

pub returns-clause-read : goal.returns-clause-read
returns-clause-read g c = λ none told.
    let m = c.args.members.now in
    let n = c.read_touched-read.new.members in
    let given = g.B.Bank.given c.args.bank.now in
    let given1 = g.B.Bank.given c.read_touched-read.new.bank in
    let f0 = g.B.Bank.faults_of c.args.bank.now in
    let f1 = g.B.Bank.faults_of c.read_touched-read.new.bank in
    let r = c.read_touched-read.result.lost in
    let shape = c.args.shape.now in
    let did = c.read_touched-read.ensures in
    let c0 = present given (g.B.Bank.tape c.args.bank.now) in
    let rows = c.read_touched-read.new.rows.items in
    let buffer = c.read_touched-read.new.buffer.items in
    let lost : AreLost given shape m n r f0 f1 = lost-of given shape m n r f0 f1 c.requires.stands.placed did.lost in
    let moved : IsMoved given n c.mark_dirty-spares.new.members = moved-from given given1 n n c.mark_dirty-spares.new.members did.given refl c.mark_dirty-spares.ensures.keeps.moved in
    let read = not-err c.read_touched-read.result.answer (sym c.is_err.ensures.value ∙ c.if-is_err.false) did.read told in
    record {
      held = λ i lt. standing-later given n c.mark_dirty-spares.new.members moved lost.placed c0 c0 (λ s k other. refl) shape _ (buffered buffer i) (read i lt).held;
      listed = λ list stands full. data_read 0 shape c.args.synced (reading_of m) (reading_of n) c0 list rows buffer read
          (λ row has. stands row has (did.below row has))
          (λ synced row has. full synced row has (did.below row has));
    }

pub returns-clause-below : goal.returns-clause-below
returns-clause-below g c row has =
    subst (λ (n : ℕ). row < n) (sym c.mark_dirty-spares.ensures.keeps.moved.size) (subst (λ (x : Members). row < x.newest.size) (sym c.read_touched-read.ensures.lost.members) (c.read_touched-read.ensures.below row has))

pub returns-then-is_err-clause-safe : goal.returns-then-is_err-clause-safe
returns-then-is_err-clause-safe g c = λ told world ledger room gone unclean safe.
    let did = c.read_touched-read.ensures in
    safe-lost (OpensFit world) world.scope (g.B.Bank.given c.args.bank.now) ledger c.args.members.now c.read_touched-read.new.members c.read_touched-read.result.lost
    (g.B.Bank.tape c.args.bank.now) (g.B.Bank.tape c.read_touched-read.new.bank) did.lost.members (did.tape told) safe

pub returns-then-is_err-clause-first : goal.returns-then-is_err-clause-first
returns-then-is_err-clause-first g c = told-first c.first_write_refusal.result c.first_write_refusal.ensures

pub returns-then-is_err-clause-refused : goal.returns-then-is_err-clause-refused
returns-then-is_err-clause-refused g c = told-why c.first_write_refusal.result (write-cause c.args.shape.now c.args.synced c.read_touched-read.new.members) (told-first c.first_write_refusal.result c.first_write_refusal.ensures)

pub returns-then-is_err-clause-read : goal.returns-then-is_err-clause-read
returns-then-is_err-clause-read g c = λ none.
    let n = c.read_touched-read.new.members in
    let did = c.read_touched-read.ensures in
    absurd (write-told n c.args.shape.now c.args.synced c.read_touched-read.result.answer
    (sym c.is_err.ensures.value ∙ c.if-is_err.true) did.answer (sym c.first_write_refusal.ensures ∙ none))

pub returns-then-is_err-clause-dirty : goal.returns-then-is_err-clause-dirty
returns-then-is_err-clause-dirty g c = λ none.
    let n = c.read_touched-read.new.members in
    let did = c.read_touched-read.ensures in
    absurd (write-told n c.args.shape.now c.args.synced c.read_touched-read.result.answer
    (sym c.is_err.ensures.value ∙ c.if-is_err.true) did.answer (sym c.first_write_refusal.ensures ∙ none))

pub returns-clause-first : goal.returns-clause-first
returns-clause-first g c = many-told _ c.args.shape.now c.args.synced c.mark_dirty-spares.new.members c.too_many_of.result c.too_many_of.ensures

pub read_touched-read-requires-clause-rows : goal.read_touched-read-requires-clause-rows
read_touched-read-requires-clause-rows g c = has-rows (g.B.Bank.given c.args.bank.now) c.args.members.now c.requires.stands.placed c.args.shape.now c.requires.shape

pub too_many_of-requires-clause-shape : goal.too_many_of-requires-clause-shape
too_many_of-requires-clause-shape g c = force-valid c.args.members.now.newest c.requires.stands.placed.fit c.args.shape.now c.requires.shape

pub returns-clause-others : goal.returns-clause-others
returns-clause-others g c = λ told.
    let given = g.B.Bank.given c.args.bank.now in
    let tape1 = g.B.Bank.tape c.read_touched-read.new.bank in
    let tape2 = g.B.Bank.tape c.mark_dirty-spares.new.bank in
    subst (λ (l : List Operation). AreOthersPresent (present given l) (present given tape2)) (c.read_touched-read.ensures.tape told)
    (subst (λ (b : Given). AreOthersPresent (present b tape1) (present b tape2)) c.read_touched-read.ensures.given (c.mark_dirty-spares.ensures.others told))

pub read_touched-read-requires-clause-few : goal.read_touched-read-requires-clause-few
read_touched-read-requires-clause-few g c = c.requires.few

pub read_touched-read-requires-clause-within : goal.read_touched-read-requires-clause-within
read_touched-read-requires-clause-within g c = c.requires.within

pub read_touched-read-requires-clause-short : goal.read_touched-read-requires-clause-short
read_touched-read-requires-clause-short g c = c.requires.short

pub read_touched-read-requires-clause-buffer : goal.read_touched-read-requires-clause-buffer
read_touched-read-requires-clause-buffer g c = c.requires.buffer

pub read_touched-read-requires-clause-room : goal.read_touched-read-requires-clause-room
read_touched-read-requires-clause-room g c = c.requires.rows

pub first_write_refusal-requires-clause-shape : goal.first_write_refusal-requires-clause-shape
first_write_refusal-requires-clause-shape g c = force-valid c.args.members.now.newest c.requires.stands.placed.fit c.args.shape.now c.requires.shape

pub first_write_refusal-requires-clause-roles : goal.first_write_refusal-requires-clause-roles
first_write_refusal-requires-clause-roles g c =
    roles-left (g.B.Bank.given c.args.bank.now) c.args.members.now c.read_touched-read.new.members c.read_touched-read.result.lost c.read_touched-read.ensures.lost.members c.requires.stands.placed c.args.shape.now c.requires.shape

pub returns-then-is_err-clause-others : goal.returns-then-is_err-clause-others
returns-then-is_err-clause-others g c told s k other = ap (λ (l : List Operation). present (g.B.Bank.given c.args.bank.now) l s k) (c.read_touched-read.ensures.tape told)

pub returns-then-is_err-clause-stays : goal.returns-then-is_err-clause-stays
returns-then-is_err-clause-stays g c dirty = ap (λ (x : Members). is_clean x.newest) c.read_touched-read.ensures.lost.members ∙ dirty

pub returns-then-is_err-clause-touched : goal.returns-then-is_err-clause-touched
returns-then-is_err-clause-touched g c = c.read_touched-read.ensures.touched

pub returns-then-is_err-clause-few : goal.returns-then-is_err-clause-few
returns-then-is_err-clause-few g c = c.read_touched-read.ensures.few

pub returns-then-is_err-clause-rows : goal.returns-then-is_err-clause-rows
returns-then-is_err-clause-rows g c = c.read_touched-read.ensures.capacity

pub returns-then-is_err-clause-buffer : goal.returns-then-is_err-clause-buffer
returns-then-is_err-clause-buffer g c = c.read_touched-read.ensures.size

pub too_many_of-requires-clause-roles : goal.too_many_of-requires-clause-roles
too_many_of-requires-clause-roles g c =
    let did = c.mark_dirty-spares.ensures.keeps.moved in
    disks-within (g.B.Bank.given c.read_touched-read.new.bank) c.mark_dirty-spares.new.members did.placed c.args.shape.now
    (alike-force c.read_touched-read.new.members.newest c.mark_dirty-spares.new.members.newest did.reshape did.shape did.size c.args.shape.now (subst (λ (x : Members). IsInForce x.newest c.args.shape.now) (sym c.read_touched-read.ensures.lost.members) c.requires.shape))

pub returns-clause-refused : goal.returns-clause-refused
returns-clause-refused g c =
    lacking-unwritten (DoesWithout c.args.shape.now c.mark_dirty-spares.new.members) c.args.shape.now c.args.synced c.mark_dirty-spares.new.members c.too_many_of.result c.too_many_of.ensures

pub returns-clause-dirty : goal.returns-clause-dirty
returns-clause-dirty g c none = c.mark_dirty-spares.ensures.dirty

pub returns-clause-stays : goal.returns-clause-stays
returns-clause-stays g c dirty = c.mark_dirty-spares.ensures.dirty

pub returns-clause-touched : goal.returns-clause-touched
returns-clause-touched g c = c.read_touched-read.ensures.touched

pub returns-clause-few : goal.returns-clause-few
returns-clause-few g c = c.read_touched-read.ensures.few

pub returns-clause-rows : goal.returns-clause-rows
returns-clause-rows g c = c.read_touched-read.ensures.capacity

pub returns-clause-buffer : goal.returns-clause-buffer
returns-clause-buffer g c = c.read_touched-read.ensures.size

pub returns-then-is_err-clause-keeps : goal.returns-then-is_err-clause-keeps
returns-then-is_err-clause-keeps g c =
    let m = c.args.members.now in
    let n = c.read_touched-read.new.members in
    let given = g.B.Bank.given c.args.bank.now in
    let f0 = g.B.Bank.faults_of c.args.bank.now in
    let f1 = g.B.Bank.faults_of c.read_touched-read.new.bank in
    let r = c.read_touched-read.result.lost in
    let shape = c.args.shape.now in
    let did = c.read_touched-read.ensures in
    let read : Keeps g.B.Bank.tells g.B.Bank.given g.B.Bank.tape g.B.Bank.faults_of c.args.bank.now c.read_touched-read.new.bank m n 0 =
    keeps-lost c.args.bank.now c.read_touched-read.new.bank shape m n r c.requires.stands.placed c.requires.stands.unlost (lost-of given shape m n r f0 f1 c.requires.stands.placed did.lost) did.given (grows-none did.tape)
    (λ told. read-unused m given.start (g.B.Bank.tape c.args.bank.now) (g.B.Bank.tape c.read_touched-read.new.bank) (did.tape told)) in
    read

pub mark_dirty-spares-requires : goal.mark_dirty-spares-requires
mark_dirty-spares-requires g c =
    let m = c.args.members.now in
    let n = c.read_touched-read.new.members in
    let given = g.B.Bank.given c.args.bank.now in
    let f0 = g.B.Bank.faults_of c.args.bank.now in
    let f1 = g.B.Bank.faults_of c.read_touched-read.new.bank in
    let r = c.read_touched-read.result.lost in
    let shape = c.args.shape.now in
    let did = c.read_touched-read.ensures in
    let read : Keeps g.B.Bank.tells g.B.Bank.given g.B.Bank.tape g.B.Bank.faults_of c.args.bank.now c.read_touched-read.new.bank m n 0 =
    keeps-lost c.args.bank.now c.read_touched-read.new.bank shape m n r c.requires.stands.placed c.requires.stands.unlost (lost-of given shape m n r f0 f1 c.requires.stands.placed did.lost) did.given (grows-none did.tape)
    (λ told. read-unused m given.start (g.B.Bank.tape c.args.bank.now) (g.B.Bank.tape c.read_touched-read.new.bank) (did.tape told)) in
    record { stands = stands-on read c.requires.stands }

pub returns-clause-keeps : goal.returns-clause-keeps
returns-clause-keeps g c =
    let m = c.args.members.now in
    let n = c.read_touched-read.new.members in
    let given = g.B.Bank.given c.args.bank.now in
    let f0 = g.B.Bank.faults_of c.args.bank.now in
    let f1 = g.B.Bank.faults_of c.read_touched-read.new.bank in
    let r = c.read_touched-read.result.lost in
    let shape = c.args.shape.now in
    let did = c.read_touched-read.ensures in
    let read : Keeps g.B.Bank.tells g.B.Bank.given g.B.Bank.tape g.B.Bank.faults_of c.args.bank.now c.read_touched-read.new.bank m n 0 =
    keeps-lost c.args.bank.now c.read_touched-read.new.bank shape m n r c.requires.stands.placed c.requires.stands.unlost (lost-of given shape m n r f0 f1 c.requires.stands.placed did.lost) did.given (grows-none did.tape)
    (λ told. read-unused m given.start (g.B.Bank.tape c.args.bank.now) (g.B.Bank.tape c.read_touched-read.new.bank) (did.tape told)) in
    let raised = c.mark_dirty-spares.ensures in
    keeps-then read raised.keeps (in-second c.mark_dirty-spares.result)

pub returns-clause-safe : goal.returns-clause-safe
returns-clause-safe g c = λ told world ledger room gone unclean safe.
    let m = c.args.members.now in
    let n = c.read_touched-read.new.members in
    let given = g.B.Bank.given c.args.bank.now in
    let f0 = g.B.Bank.faults_of c.args.bank.now in
    let f1 = g.B.Bank.faults_of c.read_touched-read.new.bank in
    let r = c.read_touched-read.result.lost in
    let shape = c.args.shape.now in
    let did = c.read_touched-read.ensures in
    let read : Keeps g.B.Bank.tells g.B.Bank.given g.B.Bank.tape g.B.Bank.faults_of c.args.bank.now c.read_touched-read.new.bank m n 0 =
    keeps-lost c.args.bank.now c.read_touched-read.new.bank shape m n r c.requires.stands.placed c.requires.stands.unlost (lost-of given shape m n r f0 f1 c.requires.stands.placed did.lost) did.given (grows-none did.tape)
    (λ told. read-unused m given.start (g.B.Bank.tape c.args.bank.now) (g.B.Bank.tape c.read_touched-read.new.bank) (did.tape told)) in
    let raised = c.mark_dirty-spares.ensures in
    safe-on told world ledger read raised.keeps room
    (λ early. safe-lost (OpensFit world) world.scope given ledger m n r (g.B.Bank.tape c.args.bank.now) (g.B.Bank.tape c.read_touched-read.new.bank) did.lost.members (did.tape told) safe)
    (λ late. raised.safe told world ledger late gone unclean)
