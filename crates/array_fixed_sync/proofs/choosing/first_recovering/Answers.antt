use Rattle.std.proofs.Common.{sym, ◌∙◌, ap, arith}
use Rattle.array_fixed_io.proofs.raid_types_Least.{least_below-none}
use Rattle.array_fixed_io.specs.sb_specs_Reading.{shape_of, role_state}
use Rattle.array_fixed_io.specs.stripe_row_Rows.{reading_of}
use Rattle.array_fixed_io.specs.array_type_Rebuilding.{recovers}
use Rattle.array_fixed_io.proofs.array_type_Lowest.{lowest-reached}
use Rattle.array_fixed_sync.proofs.choosing.first_recovering.Goals as goal

pub returns-in-Recovering : goal.returns-in-Recovering
returns-in-Recovering c =
    sym (lowest-reached (shape_of c.args.members.now.newest).disks (λ role. recovers (role_state (reading_of c.args.members.now) role)) c.loop-role.role (omega (arith, c.requires.disks, c.loop-role-test.true)) c.loop-role.invariant
    (ap recovers (sym c.get.ensures ∙ c.in-Recovering.is)))

pub returns : goal.returns
returns c =
    sym (least_below-none (shape_of c.args.members.now.newest).disks (λ role. recovers (role_state (reading_of c.args.members.now) role)) (λ role lt. c.loop-role.invariant role (omega (arith, lt, c.requires.disks, c.loop-role-test.false))))
