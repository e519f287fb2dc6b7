use Rattle.std.proofs.Common.{◌≤◌, false, Option, sym, ◌∙◌, ap, subst, arith}
use Rattle.std.specs.Prelude.{IsTrue, length}
use Rattle.reshape_request.specs.raid_types_Shapes.{is_valid_shape}
use Rattle.reshape_request.specs.raid_types_the_Refusal.{Refusal}
use Rattle.stripe_region_write.proofs.array_members_Fit.{force-valid, force-disks}
use Rattle.stripe_region_write.specs.sb_safe_updates_First.{write_refusal}
use Rattle.stripe_region_resync.specs.declared.stripes.Stripe.{Stripe}
use Rattle.stripe_region_resync.specs.Mends.{lacking_or, resync_shape}
use Rattle.stripe_region_resync.proofs.StripeLaws.{is-next}
use Rattle.stripe_region_resync.proofs.RefusalLaws.{told-before}
use Rattle.stripe_region_resync.proofs.mending.first_resync_refusal.Goals as goal

pub stripe_after-next-requires-clause-mended : goal.stripe_after-next-requires-clause-mended
stripe_after-next-requires-clause-mended c = let pending = c.requires.pending in omega (arith, pending)

pub first_write_refusal-requires-clause-shape : goal.first_write_refusal-requires-clause-shape
first_write_refusal-requires-clause-shape c =
    let newest = c.args.members.now.newest in
    subst (λ (s : Stripe). IsTrue (is_valid_shape s.shape)) (sym c.stripe_after-next.ensures)
    (force-valid newest c.requires.fit (resync_shape newest c.args.mended) (is-next newest c.requires.fit c.args.mended c.requires.pending).force)

pub first_write_refusal-requires-clause-roles : goal.first_write_refusal-requires-clause-roles
first_write_refusal-requires-clause-roles c =
    let newest = c.args.members.now.newest in
    let few = force-disks newest c.requires.fit (resync_shape newest c.args.mended) (is-next newest c.requires.fit c.args.mended c.requires.pending).force in
    let roles = c.requires.roles in
    subst (λ (s : Stripe). s.shape.disks ≤ length c.args.members.now.roles) (sym c.stripe_after-next.ensures) (omega (arith, few, roles))

pub returns-clause-first : goal.returns-clause-first
returns-clause-first c =
    let m = c.args.members.now in
    c.lacking_or.ensures ∙ ap (λ (o : Option Refusal). lacking_or m o) (c.first_write_refusal.ensures ∙ ap (λ (s : Stripe). write_refusal s.shape false m) c.stripe_after-next.ensures)

pub returns-clause-why : goal.returns-clause-why
returns-clause-why c =
    let m = c.args.members.now in
    told-before m (resync_shape m.newest c.args.mended) (is-next m.newest c.requires.fit c.args.mended c.requires.pending).force c.lacking_or.result
    (c.lacking_or.ensures ∙ ap (λ (o : Option Refusal). lacking_or m o) (c.first_write_refusal.ensures ∙ ap (λ (s : Stripe). write_refusal s.shape false m) c.stripe_after-next.ensures))
