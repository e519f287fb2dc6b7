use Rattle.lane_shared.proofs.Ran.{all-of}
use Rattle.lane_shared.proofs.threads.lane.Goals as goal

pub returns-clause-ran : goal.returns-clause-ran
returns-clause-ran g c = record {
  later = c.run_lane-pass.ensures.later;
  done = all-of (g.S.Service.carried c.args.pass) (g.S.Service.carried c.run_lane-pass.result) c.args.requests.items c.args.replies.items
      c.run_lane-pass.ensures.done.0 c.run_lane-pass.new.replies.items c.requires.empty c.run_lane-pass.ensures.done.1 c.run_lane-pass.ensures.done.3;
}
