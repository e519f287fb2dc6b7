use Rattle.std.proofs.Common.{length}
use Rattle.array.proofs.Both.{both-roomy}
use Rattle.array.proofs.state.Running.make_room.Goals as goal

pub invariant_of-self : goal.invariant_of-self
invariant_of-self g c =
    let did = c.make_room.ensures in
    both-roomy g.B.Bank.given g.B.Bank.tape (length c.self.inside.window.items) c.args.steps c.self.inside.array c.make_room.new.array c.make_room.result did.room did.unchanged c.self.invariant

pub returns-clause-room : goal.returns-clause-room
returns-clause-room g c = rw (← c.self.view_is) c.make_room.ensures.room

pub returns-clause-unchanged : goal.returns-clause-unchanged
returns-clause-unchanged g c = rw (← c.self.view_is) c.make_room.ensures.unchanged
