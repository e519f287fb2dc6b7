use Rattle.std.proofs.Common.{◌<◌, length, subst, arith, sym}
use Rattle.std.specs.Prelude.{◌^◌}
use Rattle.array_type.specs.bank_Given.{Given}
use Rattle.array_type.specs.sb_specs_the_Members.{Members}
use Rattle.array_type.specs.array_members_Lacking.{AreUnnamed}
use Rattle.array_type.specs.array_members_Placed.{IsPlaced}
use Rattle.array_type.proofs.array_members_Fit.{few}
use Rattle.array_type.proofs.Alike.{alike}
use Rattle.array_calls.proofs.adding.is_held_up.Goals as goal

few-roles : (given : Given) (m : Members) → IsPlaced given m → length m.roles < 2 ^ 32
few-roles given m placed = let most = few given m placed in omega (arith, most)

pub has_unnamed-requires-clause-few : goal.has_unnamed-requires-clause-few
has_unnamed-requires-clause-few g c =
    few-roles (g.B.Bank.given c.array.inside.bank) c.array.inside.members (alike c.array.invariant).kept.members_are.placed

pub returns-then-faults-eq0 : goal.returns-then-faults-eq0
returns-then-faults-eq0 g c =
    record { fresh = λ out lost none. subst (λ p. AreUnnamed p.parts.members) c.array.view_is (c.has_unnamed.ensures.none out) }

pub faults-requires : goal.faults-requires
faults-requires g c =
    subst (λ p. c.args.slot < (g.B.Bank.given p.parts.bank).slots) (sym c.array.view_is) c.requires.slot
