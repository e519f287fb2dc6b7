use Rattle.std.proofs.Common.{◌≡◌, ◌+◌, ◌/◌, ◌^◌, ◌<◌, ◌≤◌, List, length, inl, inr, refl, sym, ◌∙◌, subst, arith, ◌*◌, ap}
use Rattle.stripe_io.specs.bank_the_Operation.{Operation}
use Rattle.stripe_io.specs.bank_Given.{Given}
use Rattle.stripe_io.specs.sb_specs_the_Members.{Members}
use Rattle.stripe_io.specs.array_members_Placed.{AreWhole, AreLost}
use Rattle.stripe_io.proofs.array_members_MovedLaws.{lost-none, grows-none}
use Rattle.stripe_io.proofs.array_members_Fit.{force-valid, force-multiple, short}
use Rattle.stripe_io.specs.raid_layout_Layout.{place}
use Rattle.stripe_io.proofs.raid_layout_Places.{place-row_below}
use Rattle.stripe_io.specs.stripe_list_Buffers.{IsTouched}
use Rattle.stripe_io.proofs.raid_layout_Limits.{limited}
use Rattle.stripe_io.specs.raid_types_Shapes.{data_disks, is_multiple}
use Rattle.std.proofs.lemmas.Nat.{mul-le}
use Rattle.stripe_io.specs.stripe_row_Rows.{present}
use Rattle.stripe_io.specs.crash_safety_laws_Marking.{AreOthersPresent}
use Rattle.stripe_io.proofs.array_members_LackingLaws.{in-second}
use Rattle.stripe_io.proofs.array_members_LackingWrites.{lost-of}
use Rattle.stripe_io.proofs.sb_safe_updates_RefusingLaws.{read-cause, read-told, told-first, told-why, not-err}
use Rattle.stripe_io.specs.history_Sound.{OpensFit}
use Rattle.stripe_io.specs.crash_safety_laws_Steady.{IsUncleanTold}
use Rattle.stripe_io.proofs.array_members_SafeStretch.{safe-then, safe-lost, over-at, keeps-from}
use Rattle.stripe_io.proofs.crash_safety_laws_Risen.{risen-lost, room-then}
use Rattle.stripe_io.proofs.CallLaws.{roles-left}
use Rattle.stripe_io.specs.sb_specs_Reading.{is_clean}
use Rattle.std.specs.Prelude.{IsTrue}
use Rattle.stripe_io.specs.sb_safe_updates_Frame.{Keeps}
use Rattle.stripe_io.proofs.sb_safe_updates_FrameLaws.{keeps-lost, keeps-then, stands-on}
use Rattle.stripe_io.proofs.UnusedReads.{read-unused}
use Rattle.stripe_region_read.proofs.reading.read_listed.Goals as goal

pub returns-then-is_err-clause-keeps : goal.returns-then-is_err-clause-keeps
returns-then-is_err-clause-keeps g c =
    let m = c.args.members.now in
    let n = c.read_parts-read.new.members in
    let given = g.B.Bank.given c.args.bank.now in
    let did = c.read_parts-read.ensures in
    let r = c.read_parts-read.result.lost in
    let read : Keeps g.B.Bank.tells g.B.Bank.given g.B.Bank.tape g.B.Bank.faults_of c.args.bank.now c.read_parts-read.new.bank m n 0 =
    keeps-lost c.args.bank.now c.read_parts-read.new.bank c.args.shape.now m n r c.requires.stands.placed c.requires.stands.unlost
    (lost-of given c.args.shape.now m n r (g.B.Bank.faults_of c.args.bank.now) (g.B.Bank.faults_of c.read_parts-read.new.bank) c.requires.stands.placed did.lost) did.given (grows-none did.tape)
    (λ told. read-unused m given.start (g.B.Bank.tape c.args.bank.now) (g.B.Bank.tape c.read_parts-read.new.bank) (did.tape told)) in
    read

pub returns-then-is_err-clause-kept : goal.returns-then-is_err-clause-kept
returns-then-is_err-clause-kept g c = λ whole.
    let m = c.args.members.now in
    let n = c.read_parts-read.new.members in
    let given = g.B.Bank.given c.args.bank.now in
    let f0 = g.B.Bank.faults_of c.args.bank.now in
    let f1 = g.B.Bank.faults_of c.read_parts-read.new.bank in
    let r = c.read_parts-read.result.lost in
    let shape = c.args.shape.now in
    let lost : AreLost given shape m n r f0 f1 = lost-of given shape m n r f0 f1 c.requires.stands.placed c.read_parts-read.ensures.lost in
    lost.kept (lost-none given shape m n r f0 f1 lost c.requires.shape whole)

pub record_missing-spares-requires : goal.record_missing-spares-requires
record_missing-spares-requires g c =
    let m = c.args.members.now in
    let n = c.read_parts-read.new.members in
    let given = g.B.Bank.given c.args.bank.now in
    let did = c.read_parts-read.ensures in
    let r = c.read_parts-read.result.lost in
    let read : Keeps g.B.Bank.tells g.B.Bank.given g.B.Bank.tape g.B.Bank.faults_of c.args.bank.now c.read_parts-read.new.bank m n 0 =
    keeps-lost c.args.bank.now c.read_parts-read.new.bank c.args.shape.now m n r c.requires.stands.placed c.requires.stands.unlost
    (lost-of given c.args.shape.now m n r (g.B.Bank.faults_of c.args.bank.now) (g.B.Bank.faults_of c.read_parts-read.new.bank) c.requires.stands.placed did.lost) did.given (grows-none did.tape)
    (λ told. read-unused m given.start (g.B.Bank.tape c.args.bank.now) (g.B.Bank.tape c.read_parts-read.new.bank) (did.tape told)) in
    record { stands = stands-on read c.requires.stands }

pub returns-clause-keeps : goal.returns-clause-keeps
returns-clause-keeps g c =
    let m = c.args.members.now in
    let n = c.read_parts-read.new.members in
    let given = g.B.Bank.given c.args.bank.now in
    let did = c.read_parts-read.ensures in
    let r = c.read_parts-read.result.lost in
    let read : Keeps g.B.Bank.tells g.B.Bank.given g.B.Bank.tape g.B.Bank.faults_of c.args.bank.now c.read_parts-read.new.bank m n 0 =
    keeps-lost c.args.bank.now c.read_parts-read.new.bank c.args.shape.now m n r c.requires.stands.placed c.requires.stands.unlost
    (lost-of given c.args.shape.now m n r (g.B.Bank.faults_of c.args.bank.now) (g.B.Bank.faults_of c.read_parts-read.new.bank) c.requires.stands.placed did.lost) did.given (grows-none did.tape)
    (λ told. read-unused m given.start (g.B.Bank.tape c.args.bank.now) (g.B.Bank.tape c.read_parts-read.new.bank) (did.tape told)) in
    keeps-then read c.record_missing-spares.ensures.keeps (in-second c.record_missing-spares.result)

pub returns-then-is_err-clause-first : goal.returns-then-is_err-clause-first
returns-then-is_err-clause-first g c = told-first c.first_read_refusal-refusal.result c.first_read_refusal-refusal.ensures

pub returns-then-is_err-clause-refused : goal.returns-then-is_err-clause-refused
returns-then-is_err-clause-refused g c =
    told-why c.first_read_refusal-refusal.result (read-cause c.args.shape.now c.args.mended c.args.first (length c.args.into.now / 512) c.read_parts-read.new.members) (told-first c.first_read_refusal-refusal.result c.first_read_refusal-refusal.ensures)

pub returns-then-is_err-clause-holds : goal.returns-then-is_err-clause-holds
returns-then-is_err-clause-holds g c = λ none.
    let n = c.read_parts-read.new.members in
    let did = c.read_parts-read.ensures in
    absurd (read-told n c.args.shape.now c.args.mended c.args.first (length c.args.into.now / 512) c.read_parts-read.result.answer
    (sym c.is_err.ensures.value ∙ c.if-is_err.true) did.answer (sym c.first_read_refusal-refusal.ensures ∙ none))

pub returns-clause-holds : goal.returns-clause-holds
returns-clause-holds g c = λ ok told list stands fills i lt.
    let m = c.args.members.now in
    let shape = c.args.shape.now in
    let x = c.args.first + i in
    let touch : IsTouched shape c.args.first (length c.args.into.now / 512) (place shape x).row = (x, omega arith, omega (arith, lt), refl) in
    let below : (place shape x).row < m.newest.size = place-row_below shape (force-valid m.newest c.requires.stands.placed.fit shape c.requires.shape) x m.newest.size
    (force-multiple m.newest c.requires.stands.placed.fit shape c.requires.shape) (omega (arith, lt, c.requires.within)) in
    not-err c.read_parts-read.result.answer (sym c.is_err.ensures.value ∙ c.if-is_err.false) c.read_parts-read.ensures.sectors told list i lt (stands (place shape x).row touch below)
    (λ low. elim fills [ inl whole ↦ inl (c.record_missing-spares.ensures.keeps.moved.whole whole) | inr rows ↦ inr (rows (place shape x).row (touch, low) below) ])

pub returns-clause-kept : goal.returns-clause-kept
returns-clause-kept g c = λ whole.
    let m = c.args.members.now in
    let n = c.read_parts-read.new.members in
    let given = g.B.Bank.given c.args.bank.now in
    let f0 = g.B.Bank.faults_of c.args.bank.now in
    let f1 = g.B.Bank.faults_of c.read_parts-read.new.bank in
    let r = c.read_parts-read.result.lost in
    let shape = c.args.shape.now in
    let lost : AreLost given shape m n r f0 f1 = lost-of given shape m n r f0 f1 c.requires.stands.placed c.read_parts-read.ensures.lost in
    let mid : AreWhole n = c.record_missing-spares.ensures.keeps.moved.whole whole in
    c.record_missing-spares.ensures.kept mid ∙ lost.kept (lost-none given shape m n r f0 f1 lost c.requires.shape mid)

-- the reads make no operation
still-long : (before after : List Operation) → after ≡ before → length before ≤ length after
still-long before after same = subst (λ (l : List Operation). length before ≤ length l) (sym same) (omega arith)

pub returns-then-is_err-clause-safe : goal.returns-then-is_err-clause-safe
returns-then-is_err-clause-safe g c = λ tell world told room gone unclean now.
    let did = c.read_parts-read.ensures in
    safe-lost (OpensFit world) world.scope (g.B.Bank.given c.args.bank.now) told c.args.members.now c.read_parts-read.new.members c.read_parts-read.result.lost
    (g.B.Bank.tape c.args.bank.now) (g.B.Bank.tape c.read_parts-read.new.bank) did.lost.members (did.tape tell) now

pub returns-clause-safe : goal.returns-clause-safe
returns-clause-safe g c = λ tell world told room gone unclean now.
    let m = c.args.members.now in
    let n = c.read_parts-read.new.members in
    let given = g.B.Bank.given c.args.bank.now in
    let given1 = g.B.Bank.given c.read_parts-read.new.bank in
    let tape0 = g.B.Bank.tape c.args.bank.now in
    let tape1 = g.B.Bank.tape c.read_parts-read.new.bank in
    let tape2 = g.B.Bank.tape c.record_missing-spares.new.bank in
    let did = c.read_parts-read.ensures in
    let read = safe-lost (OpensFit world) world.scope given told m n c.read_parts-read.result.lost tape0 tape1 did.lost.members (did.tape tell) now in
    safe-then (OpensFit world) world.scope given told n c.record_missing-spares.new.members tape0 tape1 tape2 read
    (keeps-from world given given1 told c.record_missing-spares.new.members tape1 tape2 did.given
    (c.record_missing-spares.ensures.safe tell world told
    (room-then tape2 tell room (risen-lost m n c.read_parts-read.result.lost tape0 tape1 did.lost.members (λ t. still-long tape0 tape1 (did.tape t)))) gone
    (subst (λ (x : Members). IsUncleanTold told x) (sym did.lost.members) unclean) (over-at world given given1 told n tape1 did.given read.next)))

pub first_read_refusal-refusal-requires-clause-short : goal.first_read_refusal-refusal-requires-clause-short
first_read_refusal-refusal-requires-clause-short g c =
    let m = c.args.members.now in
    let given = g.B.Bank.given c.args.bank.now in
    let shape = c.args.shape.now in
    let most = (limited shape (force-valid m.newest c.requires.stands.placed.fit shape c.requires.shape)).most in
    let few : data_disks shape ≤ 16 = omega (arith, most) in
    let all = mul-le (data_disks shape) m.newest.size 16 (2 ^ 48) few (short given m c.requires.stands.placed) in
    omega (arith, all, c.requires.within)

pub returns-clause-others : goal.returns-clause-others
returns-clause-others g c = λ told.
    let given = g.B.Bank.given c.args.bank.now in
    let tape1 = g.B.Bank.tape c.read_parts-read.new.bank in
    let tape2 = g.B.Bank.tape c.record_missing-spares.new.bank in
    subst (λ (l : List Operation). AreOthersPresent (present given l) (present given tape2)) (c.read_parts-read.ensures.tape told)
    (subst (λ (b : Given). AreOthersPresent (present b tape1) (present b tape2)) c.read_parts-read.ensures.given (c.record_missing-spares.ensures.others told))

pub first_read_refusal-refusal-requires-clause-shape : goal.first_read_refusal-refusal-requires-clause-shape
first_read_refusal-refusal-requires-clause-shape g c = force-valid c.args.members.now.newest c.requires.stands.placed.fit c.args.shape.now c.requires.shape

pub first_read_refusal-refusal-requires-clause-multiple : goal.first_read_refusal-refusal-requires-clause-multiple
first_read_refusal-refusal-requires-clause-multiple g c =
    subst (λ (x : Members). IsTrue (is_multiple x.newest.size c.args.shape.now.chunk)) (sym c.read_parts-read.ensures.lost.members) (force-multiple c.args.members.now.newest c.requires.stands.placed.fit c.args.shape.now c.requires.shape)

pub first_read_refusal-refusal-requires-clause-roles : goal.first_read_refusal-refusal-requires-clause-roles
first_read_refusal-refusal-requires-clause-roles g c =
    roles-left (g.B.Bank.given c.args.bank.now) c.args.members.now c.read_parts-read.new.members c.read_parts-read.result.lost c.read_parts-read.ensures.lost.members c.requires.stands.placed c.args.shape.now c.requires.shape

pub first_read_refusal-refusal-requires-clause-within : goal.first_read_refusal-refusal-requires-clause-within
first_read_refusal-refusal-requires-clause-within g c =
    subst (λ (x : Members). c.args.first + length c.args.into.now / 512 ≤ data_disks c.args.shape.now * x.newest.size) (sym c.read_parts-read.ensures.lost.members) c.requires.within

pub returns-then-is_err-clause-others : goal.returns-then-is_err-clause-others
returns-then-is_err-clause-others g c told s k other = ap (λ (l : List Operation). present (g.B.Bank.given c.args.bank.now) l s k) (c.read_parts-read.ensures.tape told)

pub returns-then-is_err-clause-clean : goal.returns-then-is_err-clause-clean
returns-then-is_err-clause-clean g c = ap (λ (x : Members). is_clean x.newest) c.read_parts-read.ensures.lost.members

pub returns-then-is_err-clause-tape : goal.returns-then-is_err-clause-tape
returns-then-is_err-clause-tape g c whole = c.read_parts-read.ensures.tape

pub returns-clause-clean : goal.returns-clause-clean
returns-clause-clean g c = c.record_missing-spares.ensures.clean ∙ ap (λ (x : Members). is_clean x.newest) c.read_parts-read.ensures.lost.members

pub returns-clause-tape : goal.returns-clause-tape
returns-clause-tape g c whole told = c.record_missing-spares.ensures.tape (c.record_missing-spares.ensures.keeps.moved.whole whole) told ∙ c.read_parts-read.ensures.tape told
