use Rattle.std.proofs.Common.{not, is_some, sym, ◌∙◌, ap, arith}
use Rattle.array_fixed_io.specs.raid_types_the_Role.{Role}
use Rattle.array_fixed_io.proofs.raid_types_Least.{least_below-none}
use Rattle.array_fixed_io.specs.sb_specs_Reading.{shape_of, holder}
use Rattle.array_fixed_io.specs.stripe_row_Rows.{reading_of}
use Rattle.array_fixed_io.specs.array_members_Placed.{is_unassigned}
use Rattle.array_fixed_io.proofs.array_type_Lowest.{lowest-reached}
use Rattle.array_fixed_sync.proofs.choosing.first_unassigned.Goals as goal

pub returns-in-Missing : goal.returns-in-Missing
returns-in-Missing c =
    sym (lowest-reached (shape_of c.args.members.now.newest).disks (is_unassigned (reading_of c.args.members.now)) c.loop-role.role (omega (arith, c.requires.disks, c.loop-role-test.true)) c.loop-role.invariant
    (ap (λ (state : Role). not (is_some (holder state))) (sym c.get.ensures ∙ c.in-Missing.is)))

pub returns : goal.returns
returns c =
    sym (least_below-none (shape_of c.args.members.now.newest).disks (is_unassigned (reading_of c.args.members.now)) (λ role lt. c.loop-role.invariant role (omega (arith, lt, c.requires.disks, c.loop-role-test.false))))
