use Rattle.lane_shared.proofs.threads.work.Goals as goal

pub returns-clause-worked : goal.returns-clause-worked
returns-clause-worked g c = record {
  turns = c.run_worker.ensures.worked.turns;
  made = record { later = c.run_worker.ensures.later; done = c.run_worker.ensures.worked.made };
  asked = c.run_worker.ensures.worked.asked;
  count = c.run_worker.ensures.worked.count;
  done = c.run_worker.ensures.worked.done;
  last = c.run_worker.ensures.worked.last;
  ended = c.run_worker.ensures.ended;
  at_most = c.run_worker.ensures.at_most;
  few = c.run_worker.ensures.few;
}
