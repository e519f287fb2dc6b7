use Rattle.lane_shared.proofs.starting.ran.Goals as goal

pub at_once-requires-clause-locks : goal.at_once-requires-clause-locks
at_once-requires-clause-locks g c κs lives = c.requires.locks

pub at_once-requires-clause-callers : goal.at_once-requires-clause-callers
at_once-requires-clause-callers g c κs lives = c.requires.callers

pub returns-clause-locks : goal.returns-clause-locks
returns-clause-locks g c = c.at_once.ensures.locks

pub returns-clause-first : goal.returns-clause-first
returns-clause-first g c = c.at_once.ensures.first

pub returns-clause-second : goal.returns-clause-second
returns-clause-second g c = c.at_once.ensures.second

pub returns-clause-worked : goal.returns-clause-worked
returns-clause-worked g c = c.at_once.ensures.worked
