use Rattle.std.proofs.Common.{◌≡◌, ℕ, ◌<◌, ◌≤◌, true, List, length, inl, inr, refl, sym, ◌∙◌, ap, subst, arith}
use Rattle.std.specs.Prelude.{MatchOption, ⊤, Option, Contains, is_some, slice_index}
use mathlib.Core.List.{not-mem-nil}
use Rattle.sb_safe_updates.specs.raid_types_the_Refusal.{Refusal}
use Rattle.sb_safe_updates.specs.bank_Given.{Given}
use Rattle.sb_safe_updates.specs.bank_the_Operation.{Operation}
use Rattle.sb_safe_updates.specs.sb_specs_the_Members.{Members}
use Rattle.sb_safe_updates.specs.sb_specs_Reading.{holder, is_clean, shape_of}
use Rattle.sb_safe_updates.specs.stripe_row_Rows.{present, reading_of}
use Rattle.sb_safe_updates.specs.stripe_list_Buffers.{AreDistinct, HasData, IsTouched}
use Rattle.sb_safe_updates.specs.stripe_list_Writing.{AreDataFrom, HasFull}
use Rattle.sb_safe_updates.proofs.stripe_list_BufferLaws.{data_read}
use Rattle.sb_safe_updates.specs.history_Sound.{OpensFit}
use Rattle.sb_safe_updates.specs.array_members_Placed.{AreLost}
use Rattle.sb_safe_updates.specs.crash_safety_laws_Marking.{AreOthersPresent}
use Rattle.sb_safe_updates.specs.array_members_Moving.{IsMoved}
use Rattle.sb_safe_updates.specs.crash_safety_laws_Safety.{IsRisen}
use Rattle.sb_safe_updates.specs.array_members_Lacking.{LacksTooMany, DoesWithout}
use Rattle.sb_safe_updates.specs.array_members_Rebuilding.{IsFilledAmong}
use Rattle.sb_safe_updates.specs.crash_safety_laws_Steady.{KeepsSafe, AreGoneTold, IsUncleanTold}
use Rattle.sb_safe_updates.proofs.array_members_MovedLaws.{moved-lost, moved-then, moved-from, grows-none}
use Rattle.sb_safe_updates.proofs.array_members_LackingLaws.{in-second, in-either}
use Rattle.sb_safe_updates.proofs.array_members_LackingWrites.{lost-of, ok-of}
use Rattle.sb_safe_updates.proofs.crash_safety_laws_Risen.{risen-lost, risen-then, room-first, room-then}
use Rattle.sb_safe_updates.proofs.array_members_SafeStretch.{safe-then, safe-lost, over-at, keeps-from, grows-longer, gone-before}
use Rattle.sb_safe_updates.proofs.array_members_Fit.{has-rows, force-valid, disks-within}
use Rattle.sb_safe_updates.proofs.array_members_LiveLeft.{holder-left}
use Rattle.stripe_io.proofs.CallLaws.{some-none, told-only, too-many-synced, roles-left, rows-room, written-length}
use Rattle.stripe_io.proofs.FillingLaws.{filled-none, filled-then, named-first, named-only, named-none}
use Rattle.sb_safe_updates.proofs.array_members_FilledParts.{recovered-alone, recovered-rows, filled-before, others-filled, at-touched}
use Rattle.sb_safe_updates.specs.Frame.{KeepsMembers}
use Rattle.sb_safe_updates.proofs.FrameLaws.{members-of, members-then, members-lost, members-stand-on}
use Rattle.stripe_io.proofs.filling.fill_part.Goals as goal

pub returns-then-is_some-clause-keeps : goal.returns-then-is_some-clause-keeps
returns-then-is_some-clause-keeps g c =
    let m = c.args.members.now in
    let n = c.read_touched-read.new.members in
    let r = c.read_touched-read.result.lost in
    let did = c.read_touched-read.ensures in
    let lost = lost-of (g.B.Bank.given c.args.bank.now) c.args.shape.now m n r (g.B.Bank.faults_of c.args.bank.now) (g.B.Bank.faults_of c.read_touched-read.new.bank) c.requires.stands.placed did.lost in
    let read : KeepsMembers g.B.Bank.tells g.B.Bank.given g.B.Bank.tape g.B.Bank.faults_of c.args.bank.now c.read_touched-read.new.bank m n 0 =
    members-lost c.args.bank.now c.read_touched-read.new.bank c.args.shape.now m n r c.requires.stands.placed c.requires.stands.unlost lost did.given (grows-none did.tape) in
    read

pub returns-then-is_some-clause-safe : goal.returns-then-is_some-clause-safe
returns-then-is_some-clause-safe g c =
    λ told world ledger room gone unclean safe.
    let m = c.args.members.now in
    let n = c.read_touched-read.new.members in
    let given = g.B.Bank.given c.args.bank.now in
    let f0 = g.B.Bank.faults_of c.args.bank.now in
    let f1 = g.B.Bank.faults_of c.read_touched-read.new.bank in
    let r = c.read_touched-read.result.lost in
    let shape = c.args.shape.now in
    let did = c.read_touched-read.ensures in
    let lost : AreLost given shape m n r f0 f1 = lost-of given shape m n r f0 f1 c.requires.stands.placed did.lost in
    let tape0 = g.B.Bank.tape c.args.bank.now in
    let tape1 = g.B.Bank.tape c.read_touched-read.new.bank in
    safe-lost (OpensFit world) world.scope given ledger m n r tape0 tape1 did.lost.members (did.tape told) safe

pub returns-then-is_some-clause-named : goal.returns-then-is_some-clause-named
returns-then-is_some-clause-named g c =
    λ still.
    named-none (g.B.Bank.given c.args.bank.now) (g.B.Bank.tape c.args.bank.now) (g.B.Bank.tape c.read_touched-read.new.bank) c.read_touched-read.ensures.tape

pub record_missing-named-requires : goal.record_missing-named-requires
record_missing-named-requires g c =
    let m = c.args.members.now in
    let n = c.read_touched-read.new.members in
    let r = c.read_touched-read.result.lost in
    let did = c.read_touched-read.ensures in
    let lost = lost-of (g.B.Bank.given c.args.bank.now) c.args.shape.now m n r (g.B.Bank.faults_of c.args.bank.now) (g.B.Bank.faults_of c.read_touched-read.new.bank) c.requires.stands.placed did.lost in
    let read : KeepsMembers g.B.Bank.tells g.B.Bank.given g.B.Bank.tape g.B.Bank.faults_of c.args.bank.now c.read_touched-read.new.bank m n 0 =
    members-lost c.args.bank.now c.read_touched-read.new.bank c.args.shape.now m n r c.requires.stands.placed c.requires.stands.unlost lost did.given (grows-none did.tape) in
    record { stands = members-stand-on read c.requires.stands }

pub returns-then-is_some-2-clause-keeps : goal.returns-then-is_some-2-clause-keeps
returns-then-is_some-2-clause-keeps g c =
    let m = c.args.members.now in
    let n = c.read_touched-read.new.members in
    let r = c.read_touched-read.result.lost in
    let did = c.read_touched-read.ensures in
    let lost = lost-of (g.B.Bank.given c.args.bank.now) c.args.shape.now m n r (g.B.Bank.faults_of c.args.bank.now) (g.B.Bank.faults_of c.read_touched-read.new.bank) c.requires.stands.placed did.lost in
    let read : KeepsMembers g.B.Bank.tells g.B.Bank.given g.B.Bank.tape g.B.Bank.faults_of c.args.bank.now c.read_touched-read.new.bank m n 0 =
    members-lost c.args.bank.now c.read_touched-read.new.bank c.args.shape.now m n r c.requires.stands.placed c.requires.stands.unlost lost did.given (grows-none did.tape) in
    members-then read (members-of c.record_missing-named.ensures.keeps) (in-second c.record_missing-named.result)

pub returns-then-is_some-2-clause-clean : goal.returns-then-is_some-2-clause-clean
returns-then-is_some-2-clause-clean g c =
    c.record_missing-named.ensures.clean ∙ ap (λ (x : Members). is_clean x.newest) c.read_touched-read.ensures.lost.members

pub returns-then-is_some-2-clause-named : goal.returns-then-is_some-2-clause-named
returns-then-is_some-2-clause-named g c =
    λ still.
    let given = g.B.Bank.given c.args.bank.now in
    let given1 = g.B.Bank.given c.read_touched-read.new.bank in
    let did = c.read_touched-read.ensures in
    let named = c.record_missing-named.ensures in
    let tape0 = g.B.Bank.tape c.args.bank.now in
    let tape1 = g.B.Bank.tape c.read_touched-read.new.bank in
    let tape2 = g.B.Bank.tape c.record_missing-named.new.bank in
    named-only given given1 tape0 tape1 tape2 did.given did.tape named.«data»

pub returns-then-is_some-2-clause-others : goal.returns-then-is_some-2-clause-others
returns-then-is_some-2-clause-others g c =
    λ told.
    let m = c.args.members.now in
    let given = g.B.Bank.given c.args.bank.now in
    let shape = c.args.shape.now in
    let did = c.read_touched-read.ensures in
    let named = c.record_missing-named.ensures in
    let role = c.args.target.now.role in
    let slot = c.args.target.now.slot in
    let tape0 = g.B.Bank.tape c.args.bank.now in
    let tape1 = g.B.Bank.tape c.read_touched-read.new.bank in
    let tape2 = g.B.Bank.tape c.record_missing-named.new.bank in
    let touched = IsTouched shape c.args.first c.args.count in
    others-filled m role slot touched (present given tape0) (present given tape0) (present given tape2) (filled-none m role slot touched (present given tape0))
    (subst (λ (l : List Operation). AreOthersPresent (present given l) (present given tape2)) (did.tape told)
    (subst (λ (b : Given). AreOthersPresent (present b tape1) (present b tape2)) did.given (named.others told)))

pub returns-then-is_some-2-clause-safe : goal.returns-then-is_some-2-clause-safe
returns-then-is_some-2-clause-safe g c =
    λ told world ledger room gone unclean safe.
    let m = c.args.members.now in
    let n = c.read_touched-read.new.members in
    let given = g.B.Bank.given c.args.bank.now in
    let given1 = g.B.Bank.given c.read_touched-read.new.bank in
    let f0 = g.B.Bank.faults_of c.args.bank.now in
    let f1 = g.B.Bank.faults_of c.read_touched-read.new.bank in
    let r = c.read_touched-read.result.lost in
    let shape = c.args.shape.now in
    let did = c.read_touched-read.ensures in
    let lost : AreLost given shape m n r f0 f1 = lost-of given shape m n r f0 f1 c.requires.stands.placed did.lost in
    let p = c.record_missing-named.new.members in
    let named = c.record_missing-named.ensures in
    let tape0 = g.B.Bank.tape c.args.bank.now in
    let tape1 = g.B.Bank.tape c.read_touched-read.new.bank in
    let tape2 = g.B.Bank.tape c.record_missing-named.new.bank in
    let risen1 : IsRisen g.B.Bank.tells m n tape0 tape1 = risen-lost m n r tape0 tape1 did.lost.members (λ told. let same = ap (λ (l : List Operation). length l) (did.tape told) in omega (arith, same)) in
    let first : KeepsSafe world given ledger n tape0 tape1 = safe-lost (OpensFit world) world.scope given ledger m n r tape0 tape1 did.lost.members (did.tape told) safe in
    let unclean1 : IsUncleanTold ledger n = λ dirty. unclean (sym (ap (λ (x : Members). is_clean x.newest) did.lost.members) ∙ dirty) in
    let second : KeepsSafe world given ledger p tape1 tape2 = keeps-from world given given1 ledger p tape1 tape2 did.given
    (named.safe told world ledger (room-then tape2 told room risen1) gone unclean1 (over-at world given given1 ledger n tape1 did.given first.next)) in
    safe-then (OpensFit world) world.scope given ledger n p tape0 tape1 tape2 first second

pub fill_rows-lost-requires-clause-stands : goal.fill_rows-lost-requires-clause-stands
fill_rows-lost-requires-clause-stands g c =
    let m = c.args.members.now in
    let n = c.read_touched-read.new.members in
    let r = c.read_touched-read.result.lost in
    let did = c.read_touched-read.ensures in
    let lost = lost-of (g.B.Bank.given c.args.bank.now) c.args.shape.now m n r (g.B.Bank.faults_of c.args.bank.now) (g.B.Bank.faults_of c.read_touched-read.new.bank) c.requires.stands.placed did.lost in
    let read : KeepsMembers g.B.Bank.tells g.B.Bank.given g.B.Bank.tape g.B.Bank.faults_of c.args.bank.now c.read_touched-read.new.bank m n 0 =
    members-lost c.args.bank.now c.read_touched-read.new.bank c.args.shape.now m n r c.requires.stands.placed c.requires.stands.unlost lost did.given (grows-none did.tape) in
    let named : KeepsMembers g.B.Bank.tells g.B.Bank.given g.B.Bank.tape g.B.Bank.faults_of c.args.bank.now c.record_missing-named.new.bank m c.record_missing-named.new.members c.record_missing-named.result =
    members-then read (members-of c.record_missing-named.ensures.keeps) (in-second c.record_missing-named.result) in
    members-stand-on named c.requires.stands

pub fill_rows-lost-requires-clause-named : goal.fill_rows-lost-requires-clause-named
fill_rows-lost-requires-clause-named g c =
    λ recovers.
    let n = c.read_touched-read.new.members in
    let given = g.B.Bank.given c.args.bank.now in
    let given1 = g.B.Bank.given c.read_touched-read.new.bank in
    let did = c.read_touched-read.ensures in
    let p = c.record_missing-named.new.members in
    let named = c.record_missing-named.ensures in
    let two : IsMoved given n p = moved-from given given1 n n p did.given refl named.keeps.moved in
    let role = c.args.target.now.role in
    let slot = c.args.target.now.slot in
    named.missing (holder-left given p role slot two.placed two.unlost (ap holder recovers))

pub fill_rows-lost-requires-clause-shape : goal.fill_rows-lost-requires-clause-shape
fill_rows-lost-requires-clause-shape g c =
    let m = c.args.members.now in
    let n = c.read_touched-read.new.members in
    let given = g.B.Bank.given c.args.bank.now in
    let given1 = g.B.Bank.given c.read_touched-read.new.bank in
    let f0 = g.B.Bank.faults_of c.args.bank.now in
    let f1 = g.B.Bank.faults_of c.read_touched-read.new.bank in
    let r = c.read_touched-read.result.lost in
    let shape = c.args.shape.now in
    let did = c.read_touched-read.ensures in
    let lost : AreLost given shape m n r f0 f1 = lost-of given shape m n r f0 f1 c.requires.stands.placed did.lost in
    let one : IsMoved given m n = moved-lost given shape m n r f0 f1 c.requires.stands.placed lost c.requires.stands.unlost in
    let p = c.record_missing-named.new.members in
    let named = c.record_missing-named.ensures in
    let two : IsMoved given n p = moved-from given given1 n n p did.given refl named.keeps.moved in
    let both : IsMoved given m p = moved-then given m n p one two in
    c.requires.shape ∙ sym both.shape

pub fill_rows-lost-requires-clause-recovering : goal.fill_rows-lost-requires-clause-recovering
fill_rows-lost-requires-clause-recovering g c =
    let m = c.args.members.now in
    let n = c.read_touched-read.new.members in
    let given = g.B.Bank.given c.args.bank.now in
    let given1 = g.B.Bank.given c.read_touched-read.new.bank in
    let f0 = g.B.Bank.faults_of c.args.bank.now in
    let f1 = g.B.Bank.faults_of c.read_touched-read.new.bank in
    let r = c.read_touched-read.result.lost in
    let shape = c.args.shape.now in
    let did = c.read_touched-read.ensures in
    let lost : AreLost given shape m n r f0 f1 = lost-of given shape m n r f0 f1 c.requires.stands.placed did.lost in
    let one : IsMoved given m n = moved-lost given shape m n r f0 f1 c.requires.stands.placed lost c.requires.stands.unlost in
    let p = c.record_missing-named.new.members in
    let named = c.record_missing-named.ensures in
    let two : IsMoved given n p = moved-from given given1 n n p did.given refl named.keeps.moved in
    let both : IsMoved given m p = moved-then given m n p one two in
    let role = c.args.target.now.role in
    let slot = c.args.target.now.slot in
    λ other recovers. recovered-alone both role slot other c.requires.recovering recovers

pub fill_rows-lost-requires-clause-offset : goal.fill_rows-lost-requires-clause-offset
fill_rows-lost-requires-clause-offset g c =
    let m = c.args.members.now in
    let n = c.read_touched-read.new.members in
    let given = g.B.Bank.given c.args.bank.now in
    let given1 = g.B.Bank.given c.read_touched-read.new.bank in
    let f0 = g.B.Bank.faults_of c.args.bank.now in
    let f1 = g.B.Bank.faults_of c.read_touched-read.new.bank in
    let r = c.read_touched-read.result.lost in
    let shape = c.args.shape.now in
    let did = c.read_touched-read.ensures in
    let lost : AreLost given shape m n r f0 f1 = lost-of given shape m n r f0 f1 c.requires.stands.placed did.lost in
    let one : IsMoved given m n = moved-lost given shape m n r f0 f1 c.requires.stands.placed lost c.requires.stands.unlost in
    let p = c.record_missing-named.new.members in
    let named = c.record_missing-named.ensures in
    let two : IsMoved given n p = moved-from given given1 n n p did.given refl named.keeps.moved in
    let both : IsMoved given m p = moved-then given m n p one two in
    let slot = c.args.target.now.slot in
    c.requires.offset ∙ sym (both.offsets slot)

pub fill_rows-lost-requires-clause-held : goal.fill_rows-lost-requires-clause-held
fill_rows-lost-requires-clause-held g c =
    let m = c.args.members.now in
    let n = c.read_touched-read.new.members in
    let given = g.B.Bank.given c.args.bank.now in
    let given1 = g.B.Bank.given c.read_touched-read.new.bank in
    let f0 = g.B.Bank.faults_of c.args.bank.now in
    let f1 = g.B.Bank.faults_of c.read_touched-read.new.bank in
    let r = c.read_touched-read.result.lost in
    let shape = c.args.shape.now in
    let did = c.read_touched-read.ensures in
    let lost : AreLost given shape m n r f0 f1 = lost-of given shape m n r f0 f1 c.requires.stands.placed did.lost in
    let one : IsMoved given m n = moved-lost given shape m n r f0 f1 c.requires.stands.placed lost c.requires.stands.unlost in
    let p = c.record_missing-named.new.members in
    let named = c.record_missing-named.ensures in
    let two : IsMoved given n p = moved-from given given1 n n p did.given refl named.keeps.moved in
    let both : IsMoved given m p = moved-then given m n p one two in
    let role = c.args.target.now.role in
    let slot = c.args.target.now.slot in
    λ recovers. c.requires.held ∙ sym (recovered-rows both role slot recovers)

pub fill_rows-lost-requires-clause-below : goal.fill_rows-lost-requires-clause-below
fill_rows-lost-requires-clause-below g c =
    λ row has.
    let m = c.args.members.now in
    let n = c.read_touched-read.new.members in
    let given = g.B.Bank.given c.args.bank.now in
    let given1 = g.B.Bank.given c.read_touched-read.new.bank in
    let f0 = g.B.Bank.faults_of c.args.bank.now in
    let f1 = g.B.Bank.faults_of c.read_touched-read.new.bank in
    let r = c.read_touched-read.result.lost in
    let shape = c.args.shape.now in
    let did = c.read_touched-read.ensures in
    let lost : AreLost given shape m n r f0 f1 = lost-of given shape m n r f0 f1 c.requires.stands.placed did.lost in
    let one : IsMoved given m n = moved-lost given shape m n r f0 f1 c.requires.stands.placed lost c.requires.stands.unlost in
    let p = c.record_missing-named.new.members in
    let named = c.record_missing-named.ensures in
    let two : IsMoved given n p = moved-from given given1 n n p did.given refl named.keeps.moved in
    let both : IsMoved given m p = moved-then given m n p one two in
    subst (λ (most : ℕ). row < most) (sym both.size) (did.below row (subst (λ (l : List ℕ). Contains l row) c.as_slice.ensures.value has))

pub returns-clause-keeps : goal.returns-clause-keeps
returns-clause-keeps g c =
    let m = c.args.members.now in
    let n = c.read_touched-read.new.members in
    let r = c.read_touched-read.result.lost in
    let did = c.read_touched-read.ensures in
    let lost = lost-of (g.B.Bank.given c.args.bank.now) c.args.shape.now m n r (g.B.Bank.faults_of c.args.bank.now) (g.B.Bank.faults_of c.read_touched-read.new.bank) c.requires.stands.placed did.lost in
    let read : KeepsMembers g.B.Bank.tells g.B.Bank.given g.B.Bank.tape g.B.Bank.faults_of c.args.bank.now c.read_touched-read.new.bank m n 0 =
    members-lost c.args.bank.now c.read_touched-read.new.bank c.args.shape.now m n r c.requires.stands.placed c.requires.stands.unlost lost did.given (grows-none did.tape) in
    let named : KeepsMembers g.B.Bank.tells g.B.Bank.given g.B.Bank.tape g.B.Bank.faults_of c.args.bank.now c.record_missing-named.new.bank m c.record_missing-named.new.members c.record_missing-named.result =
    members-then read (members-of c.record_missing-named.ensures.keeps) (in-second c.record_missing-named.result) in
    members-then named c.fill_rows-lost.ensures.keeps (in-either c.record_missing-named.result c.fill_rows-lost.result)

pub returns-clause-clean : goal.returns-clause-clean
returns-clause-clean g c =
    c.fill_rows-lost.ensures.clean ∙ c.record_missing-named.ensures.clean ∙ ap (λ (x : Members). is_clean x.newest) c.read_touched-read.ensures.lost.members

pub returns-clause-missing : goal.returns-clause-missing
returns-clause-missing g c =
    λ none live.
    let named = c.record_missing-named.ensures in
    let filled = c.fill_rows-lost.ensures in
    filled.missing (named.missing (filled.keeps.rise.left live)) live

pub returns-clause-named : goal.returns-clause-named
returns-clause-named g c =
    λ still.
    let given = g.B.Bank.given c.args.bank.now in
    let given1 = g.B.Bank.given c.read_touched-read.new.bank in
    let did = c.read_touched-read.ensures in
    let given2 = g.B.Bank.given c.record_missing-named.new.bank in
    let named = c.record_missing-named.ensures in
    let same2 : given2 ≡ given = named.keeps.bank.same ∙ did.given in
    let filled = c.fill_rows-lost.ensures in
    let tape0 = g.B.Bank.tape c.args.bank.now in
    let tape1 = g.B.Bank.tape c.read_touched-read.new.bank in
    let tape2 = g.B.Bank.tape c.record_missing-named.new.bank in
    let tape3 = g.B.Bank.tape c.fill_rows-lost.new.bank in
    named-first given given1 given2 tape0 tape1 tape2 tape3 did.given same2 did.tape named.«data» (filled.kept still)

pub returns-clause-filled : goal.returns-clause-filled
returns-clause-filled g c =
    λ none recovers told list stands full row at high.
    let m = c.args.members.now in
    let n = c.read_touched-read.new.members in
    let given = g.B.Bank.given c.args.bank.now in
    let shape = c.args.shape.now in
    let did = c.read_touched-read.ensures in
    let given2 = g.B.Bank.given c.record_missing-named.new.bank in
    let named = c.record_missing-named.ensures in
    let same2 : given2 ≡ given = named.keeps.bank.same ∙ did.given in
    let role = c.args.target.now.role in
    let slot = c.args.target.now.slot in
    let q = c.fill_rows-lost.new.members in
    let filled = c.fill_rows-lost.ensures in
    let tape0 = g.B.Bank.tape c.args.bank.now in
    let tape3 = g.B.Bank.tape c.fill_rows-lost.new.bank in
    let rows = c.read_touched-read.new.rows.items in
    let buffer = c.read_touched-read.new.buffer.items in
    let c0 = present given tape0 in
    let c3 = present given tape3 in
    let read = ok-of shape n c.read_touched-read.result.answer (ap (λ (o : Option Refusal). is_some o) (sym c.refused_by-refusal.ensures) ∙ sym c.is_some.ensures ∙ c.if-is_some.false) did.read told in
    let own = data_read 0 shape true (reading_of m) (reading_of n) c0 list rows buffer read
    (λ row has. stands row (did.touched.only row has) (did.below row has))
    (λ synced row has. full row (did.touched.only row has) (did.below row has)) in
    let done : (i : ℕ) → i < length rows → c.args.target.now.held ≤ slice_index rows i → HasFull (reading_of q) c3 shape list (slice_index rows i) role slot =
    subst (λ (l : List ℕ). (i : ℕ) → i < length l → c.args.target.now.held ≤ slice_index l i → HasFull (reading_of q) c3 shape list (slice_index l i) role slot) c.as_slice.ensures.value
    (subst (λ (b : Given). (i : ℕ) → i < length c.as_slice.result.now → c.args.target.now.held ≤ slice_index c.as_slice.result.now i → HasFull (reading_of q) (present b tape3) shape list (slice_index c.as_slice.result.now i) role slot) same2
    (filled.written recovers told list (subst (λ (l : List ℕ). AreDataFrom 0 shape list l c.as_mut_slice-bytes.result.now) (sym c.as_slice.ensures.value)
    (subst (λ (b : List ℕ). AreDataFrom 0 shape list rows b) (sym c.as_mut_slice-bytes.ensures.value) own)))) in
    at-touched shape c.args.first c.args.count rows did.touched (λ other. c.args.target.now.held ≤ other → HasFull (reading_of q) c3 shape list other role slot) done row at high

pub returns-clause-others : goal.returns-clause-others
returns-clause-others g c =
    λ told.
    let m = c.args.members.now in
    let n = c.read_touched-read.new.members in
    let given = g.B.Bank.given c.args.bank.now in
    let given1 = g.B.Bank.given c.read_touched-read.new.bank in
    let f0 = g.B.Bank.faults_of c.args.bank.now in
    let f1 = g.B.Bank.faults_of c.read_touched-read.new.bank in
    let r = c.read_touched-read.result.lost in
    let shape = c.args.shape.now in
    let did = c.read_touched-read.ensures in
    let lost : AreLost given shape m n r f0 f1 = lost-of given shape m n r f0 f1 c.requires.stands.placed did.lost in
    let one : IsMoved given m n = moved-lost given shape m n r f0 f1 c.requires.stands.placed lost c.requires.stands.unlost in
    let p = c.record_missing-named.new.members in
    let given2 = g.B.Bank.given c.record_missing-named.new.bank in
    let named = c.record_missing-named.ensures in
    let same2 : given2 ≡ given = named.keeps.bank.same ∙ did.given in
    let two : IsMoved given n p = moved-from given given1 n n p did.given refl named.keeps.moved in
    let both : IsMoved given m p = moved-then given m n p one two in
    let role = c.args.target.now.role in
    let slot = c.args.target.now.slot in
    let filled = c.fill_rows-lost.ensures in
    let tape0 = g.B.Bank.tape c.args.bank.now in
    let tape1 = g.B.Bank.tape c.read_touched-read.new.bank in
    let tape2 = g.B.Bank.tape c.record_missing-named.new.bank in
    let tape3 = g.B.Bank.tape c.fill_rows-lost.new.bank in
    let touched = IsTouched shape c.args.first c.args.count in
    let c0 = present given tape0 in
    let early : AreOthersPresent c0 (present given tape2) = subst (λ (l : List Operation). AreOthersPresent (present given l) (present given tape2)) (did.tape told)
    (subst (λ (b : Given). AreOthersPresent (present b tape1) (present b tape2)) did.given (named.others told)) in
    let first : IsFilledAmong m role slot touched c0 (present given tape2) = others-filled m role slot touched c0 c0 (present given tape2) (filled-none m role slot touched c0) early in
    elim (filled.others told) [
      | inl same ↦ subst (λ (l : List Operation). IsFilledAmong m role slot touched c0 (present given l)) (sym same) first
      | inr some ↦ filled-then m role slot touched touched touched c0 (present given tape2) (present given tape3) (λ row at. at) (λ row at. at) first
          (filled-before both role slot (Contains c.as_slice.result.now) touched (present given tape2) (present given tape3) some.0
          (λ row has. did.touched.only row (subst (λ (l : List ℕ). Contains l row) c.as_slice.ensures.value has))
          (subst (λ (b : Given). IsFilledAmong p role slot (Contains c.as_slice.result.now) (present b tape2) (present b tape3)) same2 some.1))
    ]

pub returns-clause-safe : goal.returns-clause-safe
returns-clause-safe g c =
    λ told world ledger room gone unclean safe.
    let m = c.args.members.now in
    let n = c.read_touched-read.new.members in
    let given = g.B.Bank.given c.args.bank.now in
    let given1 = g.B.Bank.given c.read_touched-read.new.bank in
    let f0 = g.B.Bank.faults_of c.args.bank.now in
    let f1 = g.B.Bank.faults_of c.read_touched-read.new.bank in
    let r = c.read_touched-read.result.lost in
    let shape = c.args.shape.now in
    let did = c.read_touched-read.ensures in
    let lost : AreLost given shape m n r f0 f1 = lost-of given shape m n r f0 f1 c.requires.stands.placed did.lost in
    let p = c.record_missing-named.new.members in
    let given2 = g.B.Bank.given c.record_missing-named.new.bank in
    let named = c.record_missing-named.ensures in
    let same2 : given2 ≡ given = named.keeps.bank.same ∙ did.given in
    let two : IsMoved given n p = moved-from given given1 n n p did.given refl named.keeps.moved in
    let q = c.fill_rows-lost.new.members in
    let filled = c.fill_rows-lost.ensures in
    let three : IsMoved given p q = moved-from given given2 p p q same2 refl filled.keeps.moved in
    let tape0 = g.B.Bank.tape c.args.bank.now in
    let tape1 = g.B.Bank.tape c.read_touched-read.new.bank in
    let tape2 = g.B.Bank.tape c.record_missing-named.new.bank in
    let tape3 = g.B.Bank.tape c.fill_rows-lost.new.bank in
    let risen1 : IsRisen g.B.Bank.tells m n tape0 tape1 = risen-lost m n r tape0 tape1 did.lost.members (λ told. let same = ap (λ (l : List Operation). length l) (did.tape told) in omega (arith, same)) in
    let risen2 : IsRisen g.B.Bank.tells m p tape0 tape2 = risen-then risen1 named.keeps.rise in
    let first : KeepsSafe world given ledger n tape0 tape1 = safe-lost (OpensFit world) world.scope given ledger m n r tape0 tape1 did.lost.members (did.tape told) safe in
    let unclean1 : IsUncleanTold ledger n = λ dirty. unclean (sym (ap (λ (x : Members). is_clean x.newest) did.lost.members) ∙ dirty) in
    let gone2 : AreGoneTold ledger p = gone-before given p q two.placed three ledger gone in
    let room2 = room-then tape3 told room risen1 in
    let second : KeepsSafe world given ledger p tape1 tape2 = keeps-from world given given1 ledger p tape1 tape2 did.given
    (named.safe told world ledger (room-first n tape1 tape2 tape3 room2 (grows-longer filled.keeps.bank.grows told)) gone2 unclean1 (over-at world given given1 ledger n tape1 did.given first.next)) in
    let unclean2 : IsUncleanTold ledger p = λ dirty. unclean1 (sym named.clean ∙ dirty) in
    let third : KeepsSafe world given ledger q tape2 tape3 = keeps-from world given given2 ledger q tape2 tape3 same2
    (filled.safe told world ledger (room-then tape3 told room risen2) gone unclean2 (over-at world given given2 ledger p tape2 same2 second.next)) in
    safe-then (OpensFit world) world.scope given ledger n q tape0 tape1 tape3 first (safe-then (OpensFit world) world.scope given ledger p q tape1 tape2 tape3 second third)

pub read_touched-read-requires-clause-rows : goal.read_touched-read-requires-clause-rows
read_touched-read-requires-clause-rows g c = has-rows (g.B.Bank.given c.args.bank.now) c.args.members.now c.requires.stands.placed c.args.shape.now (inl c.requires.shape)

pub refused_by-refusal-requires-clause-shape : goal.refused_by-refusal-requires-clause-shape
refused_by-refusal-requires-clause-shape g c = force-valid c.args.members.now.newest c.requires.stands.placed.fit c.args.shape.now (inl c.requires.shape)

pub refused_by-refusal-requires-clause-roles : goal.refused_by-refusal-requires-clause-roles
refused_by-refusal-requires-clause-roles g c =
    roles-left (g.B.Bank.given c.args.bank.now) c.args.members.now c.read_touched-read.new.members c.read_touched-read.result.lost c.read_touched-read.ensures.lost.members c.requires.stands.placed
    c.args.shape.now (inl c.requires.shape)

pub is_some-requires : goal.is_some-requires
is_some-requires g c κs a has = absurd (not-mem-nil has)

pub returns-then-is_some-clause-refused : goal.returns-then-is_some-clause-refused
returns-then-is_some-clause-refused g c =
    subst (λ (o : Option Refusal). MatchOption o ⊤ (LacksTooMany c.args.shape.now c.read_touched-read.new.members)) (sym c.refused_by-refusal.ensures)
    (too-many-synced c.read_touched-read.new.members c.args.shape.now (HasData c.args.shape.now) c.read_touched-read.result.answer c.read_touched-read.ensures.answer)

pub returns-then-is_some-clause-clean : goal.returns-then-is_some-clause-clean
returns-then-is_some-clause-clean g c = ap (λ (x : Members). is_clean x.newest) c.read_touched-read.ensures.lost.members

pub returns-then-is_some-clause-missing : goal.returns-then-is_some-clause-missing
returns-then-is_some-clause-missing g c none live role low vacant device small at = some-none c.refused_by-refusal.result (sym c.is_some.ensures ∙ c.if-is_some.true) none

pub returns-then-is_some-clause-filled : goal.returns-then-is_some-clause-filled
returns-then-is_some-clause-filled g c none still told list stands rows row touched held = absurd (some-none c.refused_by-refusal.result (sym c.is_some.ensures ∙ c.if-is_some.true) none)

pub returns-then-is_some-clause-others : goal.returns-then-is_some-clause-others
returns-then-is_some-clause-others g c told s k places =
    inl (ap (λ (l : List Operation). present (g.B.Bank.given c.args.bank.now) l s k) (c.read_touched-read.ensures.tape told))

pub too_many_of-refusal-requires-clause-shape : goal.too_many_of-refusal-requires-clause-shape
too_many_of-refusal-requires-clause-shape g c = force-valid c.args.members.now.newest c.requires.stands.placed.fit c.args.shape.now (inl c.requires.shape)

pub too_many_of-refusal-requires-clause-roles : goal.too_many_of-refusal-requires-clause-roles
too_many_of-refusal-requires-clause-roles g c =
    disks-within (g.B.Bank.given c.read_touched-read.new.bank) c.record_missing-named.new.members c.record_missing-named.ensures.keeps.moved.placed c.args.shape.now
    (inl (c.requires.shape ∙ sym (c.record_missing-named.ensures.keeps.moved.shape ∙ ap (λ (x : Members). shape_of x.newest) c.read_touched-read.ensures.lost.members)))

pub is_some-requires-2 : goal.is_some-requires-2
is_some-requires-2 g c κs a has = absurd (not-mem-nil has)

pub returns-then-is_some-2-clause-refused : goal.returns-then-is_some-2-clause-refused
returns-then-is_some-2-clause-refused g c =
    told-only (DoesWithout c.args.shape.now c.record_missing-named.new.members) (LacksTooMany c.args.shape.now c.record_missing-named.new.members) c.too_many_of-refusal.result c.too_many_of-refusal.ensures

pub returns-then-is_some-2-clause-filled : goal.returns-then-is_some-2-clause-filled
returns-then-is_some-2-clause-filled g c none still told list stands rows row touched held = absurd (some-none c.too_many_of-refusal.result (sym c.is_some-2.ensures ∙ c.if-is_some-2.true) none)

pub as_mut_slice-bytes-requires : goal.as_mut_slice-bytes-requires
as_mut_slice-bytes-requires g c κs = ((λ a has. absurd (not-mem-nil has)), (λ a has. absurd (not-mem-nil has)))

pub as_slice-requires : goal.as_slice-requires
as_slice-requires g c κs = ((λ a has. absurd (not-mem-nil has)), (λ a has. absurd (not-mem-nil has)))

pub fill_rows-lost-requires-clause-once : goal.fill_rows-lost-requires-clause-once
fill_rows-lost-requires-clause-once g c = subst (λ (l : List ℕ). AreDistinct l) (sym c.as_slice.ensures.value) c.read_touched-read.ensures.touched.once

pub fill_rows-lost-requires-clause-buffer : goal.fill_rows-lost-requires-clause-buffer
fill_rows-lost-requires-clause-buffer g c =
    rows-room c.read_touched-read.new.rows.items c.as_slice.result.now c.args.count c.as_mut_slice-bytes.result.now c.read_touched-read.new.buffer.items c.args.buffer.now.items
    c.as_slice.ensures.value c.read_touched-read.ensures.few c.requires.few c.as_mut_slice-bytes.ensures.value c.read_touched-read.ensures.size c.requires.buffer

pub returns-clause-buffer : goal.returns-clause-buffer
returns-clause-buffer g c =
    written-length c.read_touched-read.new.buffer.len c.read_touched-read.new.buffer.items c.fill_rows-lost.new.buffer
    (c.fill_rows-lost.ensures.size ∙ ap (λ (l : List ℕ). length l) c.as_mut_slice-bytes.ensures.value) c.read_touched-read.new.buffer.ok.0 ∙ c.read_touched-read.ensures.size

pub returns-then-is_some-clause-rows : goal.returns-then-is_some-clause-rows
returns-then-is_some-clause-rows g c = c.read_touched-read.ensures.capacity

pub returns-then-is_some-2-clause-rows : goal.returns-then-is_some-2-clause-rows
returns-then-is_some-2-clause-rows g c = c.read_touched-read.ensures.capacity

pub returns-clause-rows : goal.returns-clause-rows
returns-clause-rows g c = c.read_touched-read.ensures.capacity

pub returns-then-is_some-clause-buffer : goal.returns-then-is_some-clause-buffer
returns-then-is_some-clause-buffer g c = c.read_touched-read.ensures.size

pub returns-then-is_some-2-clause-buffer : goal.returns-then-is_some-2-clause-buffer
returns-then-is_some-2-clause-buffer g c = c.read_touched-read.ensures.size

pub returns-then-is_some-2-clause-missing : goal.returns-then-is_some-2-clause-missing
returns-then-is_some-2-clause-missing g c none = c.record_missing-named.ensures.missing

pub fill_rows-lost-requires-clause-role : goal.fill_rows-lost-requires-clause-role
fill_rows-lost-requires-clause-role g c = c.requires.role
