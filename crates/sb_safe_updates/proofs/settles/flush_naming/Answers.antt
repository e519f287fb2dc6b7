use Rattle.std.proofs.Common.{sym, ◌∙◌, ap, subst, arith, inl, inr, ⊎_elim}
use Rattle.sb_update.specs.bank_Given.{Given}
use Rattle.sb_update.specs.bank_Tape.{Contents, disk}
use Rattle.sb_update.specs.sb_specs_Reading.{is_clean}
use Rattle.array_members.specs.stripe_row_Rows.{present, reading_of}
use Rattle.array_members.specs.Placed.{AreWhole, AreLost}
use Rattle.array_members.specs.crash_safety_laws_Marking.{AreOthersPresent}
use Rattle.array_members.proofs.Flushed.{contents-added}
use Rattle.array_members.proofs.MovedLaws.{moved-lost, lost-none}
use Rattle.array_members.proofs.LackingLaws.{in-second, holders-flushed, holders-fewer, holders-at}
use Rattle.array_members.specs.history_Sound.{OpensFit}
use Rattle.sb_update.specs.sb_specs_the_Members.{Members}
use Rattle.array_members.specs.crash_safety_laws_Steady.{IsNamedOver, IsUncleanTold}
use Rattle.array_members.proofs.MarkedSafe.{lost-safe, added-longer}
use Rattle.array_members.proofs.SafeStretch.{safe-then, over-at, keeps-from}
use Rattle.array_members.proofs.crash_safety_laws_Risen.{risen-lost, room-then}
use Rattle.array_members.proofs.Fit.{few}
use Rattle.sb_safe_updates.proofs.Under.{flushed-fewer, idle-without}
use Rattle.array_members.specs.Under.{IsRestKept, IsIdle}
use Rattle.sb_safe_updates.proofs.Widest.{widest, widest-force, lost-all}
use Rattle.sb_safe_updates.specs.Frame.{Keeps}
use Rattle.sb_safe_updates.proofs.FrameLaws.{keeps-lost, keeps-then, stands-on}
use Rattle.sb_safe_updates.proofs.settles.flush_naming.Goals as goal

pub lose_slots-requires-clause-small : goal.lose_slots-requires-clause-small
lose_slots-requires-clause-small g c role slot held = (c.requires.stands.placed.holders role slot held).small

pub record_missing-requires : goal.record_missing-requires
record_missing-requires g c =
    let m = c.args.members.now in
    let given = g.B.Bank.given c.args.bank.now in
    let did1 = c.flush_members-failed.ensures in
    let f0 = g.B.Bank.faults_of c.args.bank.now in
    let f1 = g.B.Bank.faults_of c.flush_members-failed.new.bank in
    let n = c.lose_slots.new.members in
    let lost : AreLost given (widest m.newest) m n c.flush_members-failed.result f0 f1 =
    lost-all given m n c.flush_members-failed.result f0 f1 c.requires.stands.placed c.lose_slots.ensures did1.failed did1.counts.never_falls in
    let flushed : Keeps g.B.Bank.tells g.B.Bank.given g.B.Bank.tape g.B.Bank.faults_of c.args.bank.now c.flush_members-failed.new.bank m n 0 =
    keeps-lost c.args.bank.now c.flush_members-failed.new.bank (widest m.newest) m n c.flush_members-failed.result c.requires.stands.placed c.requires.stands.unlost lost did1.given
    (record { more = λ told. let added = did1.tape told in (added.0, added.2) })
    (λ told s k v idle may. flushed-fewer given.start (g.B.Bank.tape c.args.bank.now) (g.B.Bank.tape c.flush_members-failed.new.bank) (did1.tape told) s k v may) in
    record { stands = stands-on flushed c.requires.stands }

pub returns-clause-keeps : goal.returns-clause-keeps
returns-clause-keeps g c =
    let m = c.args.members.now in
    let given = g.B.Bank.given c.args.bank.now in
    let did1 = c.flush_members-failed.ensures in
    let f0 = g.B.Bank.faults_of c.args.bank.now in
    let f1 = g.B.Bank.faults_of c.flush_members-failed.new.bank in
    let n = c.lose_slots.new.members in
    let lost : AreLost given (widest m.newest) m n c.flush_members-failed.result f0 f1 =
    lost-all given m n c.flush_members-failed.result f0 f1 c.requires.stands.placed c.lose_slots.ensures did1.failed did1.counts.never_falls in
    let flushed : Keeps g.B.Bank.tells g.B.Bank.given g.B.Bank.tape g.B.Bank.faults_of c.args.bank.now c.flush_members-failed.new.bank m n 0 =
    keeps-lost c.args.bank.now c.flush_members-failed.new.bank (widest m.newest) m n c.flush_members-failed.result c.requires.stands.placed c.requires.stands.unlost lost did1.given
    (record { more = λ told. let added = did1.tape told in (added.0, added.2) })
    (λ told s k v idle may. flushed-fewer given.start (g.B.Bank.tape c.args.bank.now) (g.B.Bank.tape c.flush_members-failed.new.bank) (did1.tape told) s k v may) in
    keeps-then flushed c.record_missing.ensures.keeps (in-second c.record_missing.result)

pub returns-clause-others : goal.returns-clause-others
returns-clause-others g c = λ told s k other.
    let given = g.B.Bank.given c.args.bank.now in
    let did1 = c.flush_members-failed.ensures in
    let tape0 = g.B.Bank.tape c.args.bank.now in
    let tape1 = g.B.Bank.tape c.flush_members-failed.new.bank in
    let tape2 = g.B.Bank.tape c.record_missing.new.bank in
    subst (λ (b : Given). AreOthersPresent (present b tape1) (present b tape2)) did1.given (c.record_missing.ensures.others told) s k other
    ∙ ap (λ (d : Contents). d s k) (contents-added given.start tape0 tape1 (did1.tape told))

pub returns-clause-flushed : goal.returns-clause-flushed
returns-clause-flushed g c = λ told.
    let m = c.args.members.now in
    let given = g.B.Bank.given c.args.bank.now in
    let did1 = c.flush_members-failed.ensures in
    let f0 = g.B.Bank.faults_of c.args.bank.now in
    let f1 = g.B.Bank.faults_of c.flush_members-failed.new.bank in
    let given1 = g.B.Bank.given c.flush_members-failed.new.bank in
    let tape1 = g.B.Bank.tape c.flush_members-failed.new.bank in
    let tape2 = g.B.Bank.tape c.record_missing.new.bank in
    let n = c.lose_slots.new.members in
    let lost : AreLost given (widest m.newest) m n c.flush_members-failed.result f0 f1 =
    lost-all given m n c.flush_members-failed.result f0 f1 c.requires.stands.placed c.lose_slots.ensures did1.failed did1.counts.never_falls in
    holders-fewer given n c.record_missing.new.members tape2 c.record_missing.ensures.keeps.moved.held
    (holders-at (reading_of n) given1 given tape2 (sym did1.given)
    (c.record_missing.ensures.flushed told (holders-at (reading_of n) given given1 tape1 did1.given
    (holders-flushed given (widest m.newest) m n tape1 c.flush_members-failed.result f0 f1 lost did1.flushed told))))

pub returns-clause-kept : goal.returns-clause-kept
returns-clause-kept g c = λ whole.
    let m = c.args.members.now in
    let given = g.B.Bank.given c.args.bank.now in
    let did1 = c.flush_members-failed.ensures in
    let f0 = g.B.Bank.faults_of c.args.bank.now in
    let f1 = g.B.Bank.faults_of c.flush_members-failed.new.bank in
    let n = c.lose_slots.new.members in
    let lost : AreLost given (widest m.newest) m n c.flush_members-failed.result f0 f1 =
    lost-all given m n c.flush_members-failed.result f0 f1 c.requires.stands.placed c.lose_slots.ensures did1.failed did1.counts.never_falls in
    let moved = moved-lost given (widest m.newest) m n c.flush_members-failed.result f0 f1 c.requires.stands.placed lost c.requires.stands.unlost in
    let mid : AreWhole n = c.record_missing.ensures.keeps.moved.whole whole in
    c.record_missing.ensures.kept mid ∙ lost.kept (lost-none given (widest m.newest) m n c.flush_members-failed.result f0 f1 lost (widest-force m.newest) mid)

pub returns-clause-clean : goal.returns-clause-clean
returns-clause-clean g c = c.record_missing.ensures.clean ∙ ap (λ (x : Members). is_clean x.newest) c.lose_slots.ensures

pub returns-clause-safe : goal.returns-clause-safe
returns-clause-safe g c = λ tell world told room gone unclean now.
    let m = c.args.members.now in
    let n = c.lose_slots.new.members in
    let given = g.B.Bank.given c.args.bank.now in
    let given1 = g.B.Bank.given c.flush_members-failed.new.bank in
    let tape0 = g.B.Bank.tape c.args.bank.now in
    let tape1 = g.B.Bank.tape c.flush_members-failed.new.bank in
    let tape2 = g.B.Bank.tape c.record_missing.new.bank in
    let failed = c.flush_members-failed.result in
    let did1 = c.flush_members-failed.ensures in
    let is = c.lose_slots.ensures in
    let flushed = lost-safe (OpensFit world) world.scope given told m n failed tape0 tape1 is (did1.tape tell) now in
    safe-then (OpensFit world) world.scope given told n c.record_missing.new.members tape0 tape1 tape2 flushed
    (keeps-from world given given1 told c.record_missing.new.members tape1 tape2 did1.given
    (c.record_missing.ensures.safe tell world told
    (room-then tape2 tell room (risen-lost m n failed tape0 tape1 is (λ t. added-longer tape0 tape1 (did1.tape t)))) gone
    (subst (λ (x : Members). IsUncleanTold told x) (sym is) unclean) (over-at world given given1 told n tape1 did1.given flushed.next)))

pub returns-clause-named : goal.returns-clause-named
returns-clause-named g c = λ tell world told room gone unclean now left.
    let m = c.args.members.now in
    let n = c.lose_slots.new.members in
    let given = g.B.Bank.given c.args.bank.now in
    let given1 = g.B.Bank.given c.flush_members-failed.new.bank in
    let tape0 = g.B.Bank.tape c.args.bank.now in
    let tape1 = g.B.Bank.tape c.flush_members-failed.new.bank in
    let tape2 = g.B.Bank.tape c.record_missing.new.bank in
    let failed = c.flush_members-failed.result in
    let did1 = c.flush_members-failed.ensures in
    let is = c.lose_slots.ensures in
    let flushed = lost-safe (OpensFit world) world.scope given told m n failed tape0 tape1 is (did1.tape tell) now in
    subst (λ (b : Given). IsNamedOver world b told c.record_missing.new.members tape2) did1.given
    (c.record_missing.ensures.named tell world told
    (room-then tape2 tell room (risen-lost m n failed tape0 tape1 is (λ t. added-longer tape0 tape1 (did1.tape t)))) gone
    (subst (λ (x : Members). IsUncleanTold told x) (sym is) unclean) (over-at world given given1 told n tape1 did1.given flushed.next) left)

pub lose_slots-requires-clause-few : goal.lose_slots-requires-clause-few
lose_slots-requires-clause-few g c = let most = few (g.B.Bank.given c.args.bank.now) c.args.members.now c.requires.stands.placed in omega (arith, most)

pub returns-clause-rest : goal.returns-clause-rest
returns-clause-rest g c = λ tell s k v why may.
    let m = c.args.members.now in
    let given = g.B.Bank.given c.args.bank.now in
    let given1 = g.B.Bank.given c.flush_members-failed.new.bank in
    let tape0 = g.B.Bank.tape c.args.bank.now in
    let tape1 = g.B.Bank.tape c.flush_members-failed.new.bank in
    let tape2 = g.B.Bank.tape c.record_missing.new.bank in
    let did1 = c.flush_members-failed.ensures in
    let rest : IsRestKept c.lose_slots.new.members (disk given.start tape1) (disk given.start tape2) =
    subst (λ (b : Given). IsRestKept c.lose_slots.new.members (disk b.start tape1) (disk b.start tape2)) did1.given (c.record_missing.ensures.rest tell) in
    flushed-fewer given.start tape0 tape1 (did1.tape tell) s k v (rest s k v (⊎_elim (λ other. inl other) (λ idle. inr (
    subst (λ (n : Members). IsIdle n s) (sym c.lose_slots.ensures) (idle-without m c.flush_members-failed.result s idle))) why) may)

pub flush_members-failed-requires-clause-slots : goal.flush_members-failed-requires-clause-slots
flush_members-failed-requires-clause-slots g c = c.requires.stands.slots

pub flush_members-failed-requires-clause-placed : goal.flush_members-failed-requires-clause-placed
flush_members-failed-requires-clause-placed g c = c.requires.stands.placed

pub returns-clause-missing : goal.returns-clause-missing
returns-clause-missing g c = c.record_missing.ensures.missing
