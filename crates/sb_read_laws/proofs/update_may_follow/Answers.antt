use Rattle.sb_read_laws.proofs.RoundReads.{fit-of}
use Rattle.sb_read_laws.proofs.RoundsRead.{rounds-end}
use Rattle.sb_read_laws.proofs.Following.{next-held}
use Rattle.sb_read_laws.proofs.update_may_follow.Goals as goal

pub returns : goal.returns
returns c = λ scope known left members change before live d last ready past small some named own stored rest are.
    let at = rounds-end scope members change before live known left d ready past.first last past.named.0 past.past past.named.1 small some in
    next-held scope members change before live known left (λ s. ⊥) (fit-of scope known left members change live d ready) past.named.0 last at named own stored rest are
