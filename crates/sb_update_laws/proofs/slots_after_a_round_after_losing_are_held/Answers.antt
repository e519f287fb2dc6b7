use Rattle.sb_update_laws.proofs.AfterLosing.{after-end}
use Rattle.sb_update_laws.proofs.slots_after_a_round_after_losing_are_held.Goals as goal

pub returns : goal.returns
returns c = λ scope known lost gone lost' lost'' left rest taken left' taken' slot former newest named next gives gives' own own' rest_own next_own d m e l over n end.
    after-end scope known lost gone lost' left rest taken left' slot former newest named next gives gives' own own' rest_own next_own d m l over n e lost'' taken' end
