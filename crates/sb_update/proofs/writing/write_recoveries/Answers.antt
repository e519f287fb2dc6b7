use Rattle.std.proofs.Common.{rules, refl}
use Rattle.sb_specs.specs.declared.change.Part.TheVariants.{Recoveries}
use Rattle.sb_update.proofs.Passes.{due-here}
use Rattle.sb_specs.proofs.Updates.{part-update, part-planned, part-kept, stays_left}
use Rattle.sb_update.proofs.writing.write_recoveries.Goals as goal
use Rattle.sb_specs.proofs.Exact.{part-exact, due_of}

pub returns-clause-update : goal.returns-clause-update
returns-clause-update g c =
    part-update _ _ _ Recoveries c.args.members.now.newest c.args.members.now.newest c.args.gives.now c.args.members.now.own c.args.members.now.own c.args.live
    c.args.members.now.lost c.args.members.now.lost c.write_slots.new.members.lost (search rules) refl refl c.write_slots.ensures.each_mark c.write_slots.ensures.written

pub returns-clause-first : goal.returns-clause-first
returns-clause-first g c = part-kept Recoveries c.args.members.now.newest c.args.gives.now c.args.members.now.own c.args.live c.args.members.now.lost c.write_slots.new.members.lost _ _ _ _ (λ s none. none) c.write_slots.ensures.each_mark

pub returns-clause-written : goal.returns-clause-written
returns-clause-written g c = λ told s is left recovery.
    part-planned Recoveries c.args.members.now.newest c.args.members.now.newest c.args.gives.now c.args.members.now.own c.args.members.now.own c.args.live c.args.members.now.lost _ refl refl (c.write_slots.ensures.written told)
    s is (stays_left _ _ s (c.write_slots.ensures.lost.stay s) left) recovery left

pub returns-clause-exact : goal.returns-clause-exact
returns-clause-exact g c =
    part-exact _ _ _ Recoveries c.args.members.now.newest c.args.gives.now c.args.members.now.own c.args.live c.args.members.now.lost c.write_slots.new.members.lost
    c.write_slots.ensures.each_mark c.write_slots.ensures.written

pub returns-clause-who : goal.returns-clause-who
returns-clause-who g c = λ s is none. due_of _ _ _ (c.write_slots.ensures.lost.due s is none)

pub returns-clause-grows : goal.returns-clause-grows
returns-clause-grows g c = λ told s is left recovery.
    c.write_slots.ensures.grows told s (due-here Recoveries c.args.members.now.newest c.args.gives.now c.args.members.now.own c.args.live c.args.members.now.lost s is (stays_left _ _ s (c.write_slots.ensures.lost.stay s) left) recovery) left
