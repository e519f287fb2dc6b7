use Rattle.history_laws.proofs.NumberLaws.{numbers-count}
use Rattle.history_laws.proofs.numbers_count_calls.Goals as goal

pub returns : goal.returns
returns c = numbers-count
