use Rattle.history_laws.proofs.OneShapeGoing.{going-on, open-numbered}
use Rattle.history_laws.proofs.one_shape_histories_go_on.Goals as goal

pub returns-clause-go_on : goal.returns-clause-go_on
returns-clause-go_on c = going-on

pub returns-clause-numbered : goal.returns-clause-numbered
returns-clause-numbered c = open-numbered
