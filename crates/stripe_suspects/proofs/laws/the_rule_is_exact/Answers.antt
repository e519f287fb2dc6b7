use Rattle.stripe_suspects.proofs.Exact.{the-rule-is-exact}
use Rattle.stripe_suspects.proofs.laws.the_rule_is_exact.Goals as goal

pub returns : goal.returns
returns c = the-rule-is-exact
