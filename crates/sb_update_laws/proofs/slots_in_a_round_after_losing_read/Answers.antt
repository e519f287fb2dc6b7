use Rattle.sb_update_laws.proofs.AfterLosing.{after-reads}
use Rattle.sb_update_laws.proofs.slots_in_a_round_after_losing_read.Goals as goal

pub returns : goal.returns
returns c = λ scope known lost gone lost' left rest taken left' slot former newest named next gives gives' own own' rest_own next_own d m e l over n stage image drawn.
    after-reads scope known lost gone lost' left rest taken left' slot former newest named next gives gives' own own' rest_own next_own d m l over n e stage image drawn
