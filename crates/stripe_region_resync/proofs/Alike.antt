-- Superblocks that say the same of the shapes and of a reshape have the same stripes.
use Rattle.std.proofs.Common.{◌≡◌, ℕ, ◌+◌, ◌-◌, ◌/◌, nat_lt, if◌then◌else◌, Option, Some, None, ◌∙◌, ap}
use Rattle.reshape_request.specs.raid_types_Shapes.{stripe_sectors}
use Rattle.reshape_request.specs.sb_codec_the_Sb.{Sb}
use Rattle.reshape_request.specs.sb_specs_Reading.{shape_of}
use Rattle.stripe_region_write.specs.history_Stands.{shape_for}
use Rattle.stripe_region_write.specs.array_members_Placed.{HaveSameReshape}
use Rattle.stripe_region_write.proofs.array_members_Fit.{for-alike, list-alike}
use Rattle.stripe_region_resync.specs.Mends.{low_end, high_shape, high_stripe, resync_stripes, stripe_after, first_sector, relied_sector}
use Rattle.stripe_region_write.proofs.LowRuns.{end-alike}
pub use Rattle.stripe_region_write.proofs.LowRuns.{low-alike, low-stripes-alike}
use Rattle.stripe_region_resync.proofs.StripeLaws.{stripe-at}

module _ (old new : Sb) (reshape : HaveSameReshape old new) (shape : shape_of new ≡ shape_of old) (size : new.size ≡ old.size) where
  high-alike : high_shape new ≡ high_shape old
  high-alike = for-alike old new reshape shape size (low_end new) ∙ ap (λ (x : ℕ). shape_for old x) (end-alike old new reshape shape size)

  high-stripe-alike : high_stripe new ≡ high_stripe old
  high-stripe-alike i = end-alike old new reshape shape size i / stripe_sectors (high-alike i)

  pub mends-alike : resync_stripes new ≡ resync_stripes old
  mends-alike i = low-stripes-alike old new reshape shape size i + (size i / (high-alike i).chunk - high-stripe-alike i)

  pub behind-alike : (mended : ℕ) → stripe_after new mended ≡ stripe_after old mended
  behind-alike mended i = if nat_lt mended (low-stripes-alike old new reshape shape size i) then stripe-at (low-alike old new reshape shape size i) mended else stripe-at (high-alike i) (high-stripe-alike i + (mended - low-stripes-alike old new reshape shape size i))

  pub relied-alike : (resync : Option ℕ) → relied_sector new resync ≡ relied_sector old resync
  relied-alike None = list-alike old new reshape shape size
  relied-alike (Some mended) = ap first_sector (behind-alike mended)
