use Rattle.sb_update_laws.proofs.AddedReads.{added-before}
use Rattle.std.proofs.Common.{◌≡◌}
use Rattle.sb_read_laws.specs.bank_Tape.{IsIn}
use Rattle.sb_update_laws.proofs.AddedRounds.{in-first-reads, rounds-read, wider}
use Rattle.sb_update_laws.proofs.update_adding_reads.Goals as goal

pub returns : goal.returns
returns c = λ scope known left lost members change before live last slot d e ready. (
  λ stage image drawn. added-before scope members change before live known left lost slot d ready e image stage drawn,
  λ at within image drawn. wider scope known members change before live slot d (λ s. (s ≡ slot) × IsIn (d slot 8) (image slot 8)) at.mid.lost last image within
      (in-first-reads scope members change before live known left lost slot d ready e image at drawn),
  λ first past at within small image drawn. wider scope known members change before live slot d (λ s. s ≡ slot) at.start.lost last image within
      (rounds-read scope members change before live known left lost slot d ready first e image past at small drawn),
)
