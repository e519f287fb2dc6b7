use Rattle.std.proofs.Common.{◌≤◌, sym, subst}
use Rattle.sb_update.specs.raid_types_the_Shape.{Shape}
use Rattle.sb_update.proofs.raid_layout_Limits.{limited}
use Rattle.sb_update.specs.sb_specs_Reading.{shape_of}
use Rattle.reshape_sb_updates.proofs.beginning.with_reshape.Goals as goal

pub difference-requires-clause-count : goal.difference-requires-clause-count
difference-requires-clause-count c = (limited c.args.to.now c.requires.in_force.new_valid).most

pub difference-requires-clause-less : goal.difference-requires-clause-less
difference-requires-clause-less c = subst (λ (s : Shape). s.disks ≤ 16) (sym c.shape_of-now.ensures) (limited (shape_of c.args.sb.now) c.requires.in_force.old_valid).most
