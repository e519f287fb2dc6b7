use Rattle.script_io.proofs.Pulls.{pulled_ok}
use Rattle.script_io.proofs.memory.MemorySourceSource.pull.Goals as goal

pub returns-clause-pulled : goal.returns-clause-pulled
returns-clause-pulled c = pulled_ok c.args.self.now.bytes.items c.deref-2.result.now c.args.into.now _ c.args.self.now.position c.copy_front-count.result c.deref-2.ensures.value c.requires c.copy_front-count.ensures.count c.copy_front-count.ensures.after
