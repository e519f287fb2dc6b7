use Rattle.history.proofs.GivenLaws.{only-given-seen}
use Rattle.history.proofs.laws.only_given_slots_are_seen.Goals as goal

pub returns : goal.returns
returns c = only-given-seen
