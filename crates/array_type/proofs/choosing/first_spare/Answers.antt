use Rattle.std.proofs.Common.{sym, ◌∙◌, arith}
use Rattle.array_state.proofs.raid_types_Least.{least_below-none}
use Rattle.sb_election.specs.sb_specs_Reads.{has_spare}
use Rattle.array_type.proofs.Lowest.{lowest-reached}
use Rattle.array_type.proofs.choosing.first_spare.Goals as goal

pub returns-then-is_spare : goal.returns-then-is_spare
returns-then-is_spare c =
    sym (lowest-reached 32 (has_spare c.args.members.now.spares) c.loop-slot.slot c.loop-slot-test.true c.loop-slot.invariant (sym c.is_spare.ensures ∙ c.if-is_spare.true))

pub returns : goal.returns
returns c = sym (least_below-none 32 (has_spare c.args.members.now.spares) (λ slot lt. c.loop-slot.invariant slot (omega (arith, lt, c.loop-slot-test.false))))
