use Rattle.sb_read_laws.proofs.RoundReads.{wider}
use Rattle.sb_read_laws.proofs.RoundsRead.{before-reads, in-first-reads, rounds-read}
use Rattle.sb_read_laws.proofs.update_in_rounds_reads.Goals as goal

pub returns : goal.returns
returns c = λ scope known left members change before live last d e ready. (
  λ stage image drawn. before-reads scope members change before live known left d ready last e image stage drawn,
  λ at within image drawn. wider scope known members change before live at.mid.lost last image within (in-first-reads scope members change before live known left d ready e image at drawn),
  λ first past at within small image drawn. wider scope known members change before live at.start.lost last image within
      (rounds-read scope members change before live known left d ready first e image past at small drawn),
)
