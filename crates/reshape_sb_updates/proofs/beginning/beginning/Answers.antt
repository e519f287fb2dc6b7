use Rattle.std.proofs.Common.{◌≤◌, sym, subst}
use Rattle.sb_update.specs.raid_types_the_Shape.{Shape}
use Rattle.sb_update.proofs.raid_layout_Limits.{limited}
use Rattle.sb_update.specs.sb_specs_Reading.{shape_of}
use Rattle.reshape_sb_updates.proofs.beginning.beginning.Goals as goal

pub new_gives-requires-clause-first : goal.new_gives-requires-clause-first
new_gives-requires-clause-first c = subst (λ (s : Shape). s.disks ≤ 16) (sym c.shape_of-now.ensures) (limited (shape_of c.args.members.now.newest) c.requires.in_force.old_valid).most

pub new_gives-requires-clause-disks : goal.new_gives-requires-clause-disks
new_gives-requires-clause-disks c = (limited c.args.to.now c.requires.in_force.new_valid).most
