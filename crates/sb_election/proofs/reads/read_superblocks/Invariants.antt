use Rattle.std.proofs.Common.{◌≡◌, ℕ, None, IsTrue, get_or, length}
use Rattle.sb_specs.specs.bank_Tape.{contents}
use Rattle.sb_specs.specs.Found.{AreInSectors}
use Rattle.sb_specs.specs.Reading.{is_backup}
use Rattle.sb_specs.specs.Writing.{AreWritable}
use Rattle.sb_election.proofs.Looked.{IsRead}
use Rattle.sb_election.proofs.reads.read_superblocks.Given as goal

abbrev pub invariant-loop-slot : goal.invariant-loop-slot
invariant-loop-slot g l =
    let given = g.B.Bank.given l.fn.bank in
    let tape = g.B.Bank.tape l.fn.bank in
    record {
      same_tape : g.B.Bank.tells → g.B.Bank.tape l.bank ≡ tape;
      writable : AreWritable given l.seen;
      sectors : g.B.Bank.tells → AreInSectors (contents given.start tape (length tape)) l.seen;
      aside : (s : ℕ) → IsTrue (is_backup l.backup s) → get_or l.seen s None ≡ None;
      same_given : g.B.Bank.given l.bank ≡ given;
      read : IsRead g.B.Bank.tells given l.backup (contents given.start tape (length tape)) l.slot l.seen l.lost (g.B.Bank.faults_of l.fn.bank) (g.B.Bank.faults_of l.bank);
    }
