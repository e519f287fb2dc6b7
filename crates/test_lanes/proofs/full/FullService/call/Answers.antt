use Rattle.std.proofs.Common.{refl}
use Rattle.lane_shared.proofs.history_caller_laws_BeforeLaws.{seen-self}
use Rattle.test_lanes.specs.Tickets.{nothing_seen}
use Rattle.test_lanes.proofs.full.FullService.call.Goals as goal

pub returns-clause-later : goal.returns-clause-later
returns-clause-later g c = record { caller = refl; sectors = refl; start = refl; seen = seen-self nothing_seen }
