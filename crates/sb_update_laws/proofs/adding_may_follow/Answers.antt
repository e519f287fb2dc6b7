use Rattle.std.proofs.Common.{◌≡◌}
use Rattle.sb_update_laws.proofs.AddedReads.{added-fit}
use Rattle.sb_update_laws.proofs.AddedRounds.{rounds-end}
use Rattle.sb_read_laws.proofs.Following.{next-held}
use Rattle.sb_update_laws.proofs.adding_may_follow.Goals as goal

pub returns : goal.returns
returns c = λ scope known left lost members change before live slot d last ready past small some named own stored rest are.
    let at = rounds-end scope members change before live known left lost slot d ready past.first last past.named.0 past.past past.named.1 small some in
    next-held scope members change before live known left (λ s. s ≡ slot) (added-fit scope members change before live known left lost slot d ready) past.named.0 last at named own stored rest are
