use Rattle.std.proofs.Common.{◌≡◌, ◌<◌, get_or, List, Option, Some, None, refl, sym, subst, ap₂, ◌∙◌, cond, arith, length}
use Rattle.sb_specs.specs.sb_codec_the_Sb.{Sb}
use Rattle.sb_specs.specs.sb_codec_Superblock.{superblock_in}
use Rattle.sb_specs.specs.bank_the_Operation.{Operation}
use Rattle.sb_specs.specs.bank_Given.{Given}
use Rattle.sb_specs.specs.bank_Tape.{contents}
use Rattle.sb_specs.specs.Reading.{is_backup}
use Rattle.sb_specs.specs.Found.{IsInSectors, AreInSectors}
use Rattle.sb_specs.specs.Writing.{IsMember, AreWritable}
use Rattle.sb_election.proofs.Looked.{sectors-none, sectors-found, writable-none, writable-found, aside-none, aside-found, read-none, read-found, read-lost, read-seen, read-rest, read-as}
use Rattle.sb_election.proofs.reads.read_superblocks.Goals as goal
use Rattle.sb_election.proofs.reads.read_superblocks.Goals.{in-Ok, in-Err}

pub loop-slot-init : goal.loop-slot-init
loop-slot-init g c = record {
  same_tape = λ told. refl;
  same_given = refl;
  writable = subst (λ seen. AreWritable (g.B.Bank.given c.args.bank.now) seen) (sym c.in_ok-seen.ensures) (writable-none (g.B.Bank.given c.args.bank.now));
  aside = λ s is. subst (λ seen. get_or seen s None ≡ None) (sym c.in_ok-seen.ensures) (aside-none c.args.backup s is);
  sectors = λ told. subst (λ seen. AreInSectors (contents (g.B.Bank.given c.args.bank.now).start (g.B.Bank.tape c.args.bank.now) (length (g.B.Bank.tape c.args.bank.now))) seen) (sym c.in_ok-seen.ensures)
      (sectors-none (contents (g.B.Bank.given c.args.bank.now).start (g.B.Bank.tape c.args.bank.now) (length (g.B.Bank.tape c.args.bank.now))));
  read = read-as c.in_ok-seen.ensures refl
      (read-none g.B.Bank.tells (g.B.Bank.given c.args.bank.now) c.args.backup _ (g.B.Bank.faults_of c.args.bank.now));
}

pub loop-slot-preserved : goal.loop-slot-preserved
loop-slot-preserved g c =
    let was = c.loop-slot.invariant in
    let given : Given = g.B.Bank.given c.args.bank.now in
    let tape : List Operation = g.B.Bank.tape c.args.bank.now in
    let at : Given → List Operation → Option Sb = λ given tape.
    cond (is_backup c.args.backup c.loop-slot.slot) None (superblock_in (given.sectors c.loop-slot.slot) (contents given.start tape (length tape) c.loop-slot.slot)) in
    let known : c.loop-slot.slot < given.slots = omega (arith, c.slots-slot-end.ensures) in
    let cause = c.read_member.ensures.cause in
    record {
      same_tape = λ told. c.read_member.ensures.tape told ∙ was.same_tape told;
      same_given = c.read_member.ensures.given ∙ was.same_given;
      writable = elim c.match-read_member.branch [
        | in-Ok w ↦ subst (λ seen. AreWritable given seen) (sym (w.seen-is ∙ w.set.ensures.own))
            (writable-found given c.loop-slot.seen c.loop-slot.slot w.in-Ok.superblock (omega (arith, was.read.count)) was.writable
            (λ sb e. subst (λ (b : Given). IsMember b (Some sb) c.loop-slot.slot) was.same_given (w.in-Ok.ensures.writable sb e)))
        | in-Err w ↦ subst (λ seen. AreWritable given seen) (sym w.seen-is) was.writable
      ];
      aside = λ s is. elim c.match-read_member.branch [
        | in-Ok w ↦ subst (λ seen. get_or seen s None ≡ None) (sym (w.seen-is ∙ w.set.ensures.own))
            (aside-found c.args.backup c.loop-slot.slot c.loop-slot.seen w.in-Ok.superblock (omega (arith, was.read.count, c.requires, known)) was.aside w.in-Ok.ensures.aside s is)
        | in-Err w ↦ subst (λ seen. get_or seen s None ≡ None) (sym w.seen-is) (was.aside s is)
      ];
      sectors = λ told. elim c.match-read_member.branch [
        | in-Ok w ↦ subst (λ seen. AreInSectors (contents given.start tape (length tape)) seen) (sym (w.seen-is ∙ w.set.ensures.own))
            (sectors-found (contents given.start tape (length tape)) c.loop-slot.seen c.loop-slot.slot w.in-Ok.superblock (omega (arith, was.read.count)) (was.sectors told)
            (λ sb e. subst (λ (t : List Operation). IsInSectors (contents given.start t (length t) c.loop-slot.slot)) (was.same_tape told)
            (subst (λ (b : Given). IsInSectors (contents b.start (g.B.Bank.tape c.loop-slot.bank) (length (g.B.Bank.tape c.loop-slot.bank)) c.loop-slot.slot)) was.same_given (w.in-Ok.ensures.sectors told sb e))))
        | in-Err w ↦ subst (λ seen. AreInSectors (contents given.start tape (length tape)) seen) (sym w.seen-is) (was.sectors told)
      ];
      read = elim c.match-read_member.branch [
        | in-Ok w ↦ read-as (w.seen-is ∙ w.set.ensures.own) w.lost-is
            (read-found _ _ _ _ c.loop-slot.slot c.loop-slot.seen c.loop-slot.lost _ _ _ w.in-Ok.superblock (omega arith) (omega arith) known was.read
            (λ told. w.in-Ok.ensures.found told ∙ ap₂ at was.same_given (was.same_tape told)) cause.never_falls cause.others c.read_member.ensures.backup)
        | in-Err w ↦ read-as w.seen-is w.lost-is
            (read-lost _ _ _ _ c.loop-slot.slot c.loop-slot.seen c.loop-slot.lost _ _ _ (omega arith) (omega arith) known c.requires was.read
            cause.never_falls cause.others (w.in-Err.ensures.cause.failed refl) w.in-Err.ensures.member)
      ];
    }

pub returns-clause-seen : goal.returns-clause-seen
returns-clause-seen g c = read-seen c.requires (omega (arith, c.slots-slot-end.ensures)) c.loop-slot.invariant.read

pub returns-clause-rest : goal.returns-clause-rest
returns-clause-rest g c = read-rest c.requires (omega (arith, c.slots-slot-end.ensures)) c.loop-slot.invariant.read

pub returns-clause-sectors : goal.returns-clause-sectors
returns-clause-sectors g c = λ told. c.loop-slot.invariant.sectors told
