use Rattle.std.proofs.Common.{◌≡◌, ◌*◌, ℕ, Some, ap, sym, ◌∙◌, subst, arith}
use Rattle.std.specs.Prelude.{IsTrue}
use Rattle.reshape_request.specs.raid_types_Shapes.{is_valid_shape, stripe_sectors}
use Rattle.stripe_region_resync.specs.declared.stripes.Stripe.{Stripe}
use Rattle.stripe_region_resync.specs.Mends.{relied_sector}
use Rattle.stripe_region_write.proofs.Sides.{list-few}
use Rattle.stripe_region_resync.proofs.ReliedLaws.{behind-valid, relied-within}
use Rattle.stripe_region_resync.proofs.stripes.synced_sector.Goals as goal

pub stripe_sectors-requires : goal.stripe_sectors-requires
stripe_sectors-requires c =
    subst (λ (s : Stripe). IsTrue (is_valid_shape s.shape)) (sym c.stripe_after-next.ensures) (behind-valid c.args.members.now.newest c.requires.fit c.args.mended)

pub overflow_mul-result : goal.overflow_mul-result
overflow_mul-result c =
    let newest = c.args.members.now.newest in
    let same : c.stripe_after-next.result.at * c.stripe_sectors.result ≡ relied_sector newest (Some c.args.mended) =
    ap (λ (n : ℕ). c.stripe_after-next.result.at * n) c.stripe_sectors.ensures.value ∙ ap (λ (s : Stripe). s.at * stripe_sectors s.shape) c.stripe_after-next.ensures in
    let within = relied-within newest c.requires.fit c.args.mended c.requires.mended in
    let few = list-few newest c.requires.fit in
    omega (arith, same, within, few)

pub returns : goal.returns
returns c = ap (λ (n : ℕ). c.stripe_after-next.result.at * n) c.stripe_sectors.ensures.value ∙ ap (λ (s : Stripe). s.at * stripe_sectors s.shape) c.stripe_after-next.ensures
