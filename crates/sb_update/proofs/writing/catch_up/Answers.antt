use Rattle.std.proofs.Common.{◌≡◌, rules, false, refl, replicate}
use Rattle.sb_specs.specs.Update.{is_behind, own_in}
use Rattle.sb_specs.specs.declared.change.Give.TheVariants.{Same}
use Rattle.sb_specs.specs.declared.change.Part.TheVariants.{Behind}
use Rattle.sb_specs.proofs.Updates.{part-update, part-kept}
use Rattle.sb_update.proofs.writing.catch_up.Goals as goal
use Rattle.sb_specs.proofs.Exact.{part-exact, levelled, due_of}

pub returns-clause-update : goal.returns-clause-update
returns-clause-update g c =
    part-update _ _ _ Behind c.args.members.now.newest c.args.members.now.newest (replicate 32 Same) c.args.members.now.own c.args.members.now.own c.args.live
    c.args.members.now.lost c.args.members.now.lost c.write_slots.new.members.lost (search rules) refl refl c.write_slots.ensures.each_mark c.write_slots.ensures.written

pub returns-clause-exact : goal.returns-clause-exact
returns-clause-exact g c =
    part-exact _ _ _ Behind c.args.members.now.newest (replicate 32 Same) c.args.members.now.own c.args.live c.args.members.now.lost c.write_slots.new.members.lost
    c.write_slots.ensures.each_mark c.write_slots.ensures.written

pub returns-clause-level : goal.returns-clause-level
returns-clause-level g c = λ told s is left.
    levelled c.args.members.now.newest c.args.members.now.own c.args.live c.args.members.now.lost c.write_slots.new.members.lost c.write_slots.ensures.lost.stay (c.write_slots.ensures.written told) s is left

pub returns-clause-still : goal.returns-clause-still
returns-clause-still g c =
    part-kept Behind c.args.members.now.newest (replicate 32 Same) c.args.members.now.own c.args.live c.args.members.now.lost c.write_slots.new.members.lost _ _ _
    (λ s. is_behind c.args.members.now.newest (own_in c.args.members.now.own s) ≡ false) (λ s none. none) c.write_slots.ensures.each_mark

pub returns-clause-who : goal.returns-clause-who
returns-clause-who g c = λ s is none. due_of _ _ _ (c.write_slots.ensures.lost.due s is none)
