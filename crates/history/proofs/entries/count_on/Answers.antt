use Rattle.std.proofs.Common.{rules}
use Rattle.history.proofs.CounterLaws.{counted_own-set, counted_other-set, counted_own-push, counted_other-push}
use Rattle.history.proofs.entries.count_on.Goals as goal

pub returns-then-place-len-clause-own : goal.returns-then-place-len-clause-own
returns-then-place-len-clause-own c = search (rules, counted_own-set)

pub returns-then-place-len-clause-others : goal.returns-then-place-len-clause-others
returns-then-place-len-clause-others c = search (rules, counted_other-set)

pub returns-else-place-len-clause-own : goal.returns-else-place-len-clause-own
returns-else-place-len-clause-own c = search (rules, counted_own-push)

pub returns-else-place-len-clause-others : goal.returns-else-place-len-clause-others
returns-else-place-len-clause-others c = search (rules, counted_other-push)
