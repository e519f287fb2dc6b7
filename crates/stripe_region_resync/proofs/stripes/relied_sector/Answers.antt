use Rattle.std.proofs.Common.{◌≤◌, ℕ, IfSome, Option, subst, arith}
use Rattle.stripe_region_resync.specs.Mends.{resync_stripes}
use Rattle.stripe_region_resync.proofs.ReliedLaws.{relied-within}
use Rattle.stripe_region_resync.proofs.stripes.relied_sector.Goals as goal

pub returns-in-Some-clause-within : goal.returns-in-Some-clause-within
returns-in-Some-clause-within c =
    let newest = c.args.members.now.newest in
    let few : c.in-Some.mended ≤ resync_stripes newest = subst (λ (o : Option ℕ). IfSome o (λ mended. mended ≤ resync_stripes newest)) c.in-Some.is c.requires.progress in
    let within = relied-within newest c.requires.fit c.in-Some.mended few in
    let same = c.synced_sector.ensures in
    omega (arith, within, same)
