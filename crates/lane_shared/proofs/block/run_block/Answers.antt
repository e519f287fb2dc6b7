use Rattle.lane_shared.specs.array_Calls.{running_left}
use Rattle.lane_shared.specs.Pace.{Paces, asked_by}
use Rattle.lane_shared.proofs.Ends.{AreTold, all-told}
use Rattle.lane_shared.proofs.block.run_block.Given.{Over}
use Rattle.lane_shared.proofs.block.run_block.Goals as goal

told : (g : Over) (c : goal.After-closed g)
    → AreTold g.B.Bank.tells g.B.Bank.given g.B.Bank.tape g.B.Bank.faults_of c.args.array c.closed.result c.args.first.items c.args.second.items c.ran-passes.result.1.0.items c.ran-passes.result.1.1.items
    (Paces (goal.F-post g (asked_by c.args.pace.now))) (running_left c.args.array) c.ran-passes.result.1.2
told g c =
    let start = c.in_ok-shared in
    let run = c.ran-passes in
    let ends = run.result in
    all-told start.shared.lock.table.shared.table_id start.shared.lock.table.shared.key.value c.args.array c.closed.result start.passes.0 start.passes.1 start.passes.2 ends.0.0 ends.0.1 ends.0.2
    c.args.first.items c.args.second.items ends.1.0.items ends.1.1.items (Paces (goal.F-post g (asked_by c.args.pace.now))) c.left-left.result (running_left c.args.array) ends.1.2
    start.ensures.lock start.ensures.passes c.closed.ensures run.ensures.first run.ensures.second c.left-left.ensures.exact run.ensures.worked

pub returns-clause-later : goal.returns-clause-later
returns-clause-later g c = (told g c).later

pub returns-clause-went : goal.returns-clause-went
returns-clause-went g c = (told g c).went

pub returns-clause-entered : goal.returns-clause-entered
returns-clause-entered g c = (told g c).entered

pub returns-clause-ended : goal.returns-clause-ended
returns-clause-ended g c = (told g c).ended

pub returns-clause-first : goal.returns-clause-first
returns-clause-first g c = (told g c).first

pub returns-clause-second : goal.returns-clause-second
returns-clause-second g c = (told g c).second

pub returns-clause-worked : goal.returns-clause-worked
returns-clause-worked g c = (told g c).worked

pub returns-clause-others : goal.returns-clause-others
returns-clause-others g c = (told g c).others
