-- The resync of an array in a reshape: the stripes of both regions in the order of the list, how far parity is relied on, and why a stripe isn't mended.
use Rattle.std.specs.Prelude.{◌⊎◌, ℕ, ◌+◌, ◌-◌, ◌*◌, ◌/◌, nat_lt, false, if◌then◌else◌, Option, Some, None}
use Rattle.reshape_request.specs.raid_types_the_Shape.{Shape}
use Rattle.reshape_request.specs.raid_types_the_Refusal.{Refusal}
use Rattle.reshape_request.specs.raid_types_Sectors.{Sector}
use Rattle.reshape_request.specs.raid_types_Shapes.{stripe_sectors}
use Rattle.reshape_request.specs.bank_Tape.{Contents}
use Rattle.reshape_request.specs.sb_codec_the_Sb.{Sb}
use Rattle.reshape_request.specs.sb_specs_the_Members.{Members}
use Rattle.reshape_request.specs.sb_specs_Reading.{shape_of, final_shape, list_length}
use Rattle.stripe_region_write.specs.crash_views_Regions.{DoWithout}
use Rattle.stripe_region_write.specs.array_members_Lacking.{DataStandsAmong, IsOfStripe, too_many, AreTooMany, IsNotResynced}
use Rattle.stripe_region_write.specs.sb_safe_updates_First.{are_too_many, write_refusal}
pub use Rattle.stripe_region_write.specs.Ends.{low_end, low_shape, high_shape, low_stripes, high_stripe, AreEndsStanding}
use Rattle.stripe_region_resync.specs.declared.stripes.Stripe.{Stripe}

-- ---- the stripes

-- a resync has so many: those of both regions
abbrev pub resync_stripes : Sb → ℕ
resync_stripes newest = low_stripes newest + (newest.size / (high_shape newest).chunk - high_stripe newest)

-- the one behind so many of them, in the order of the list
abbrev pub stripe_after : Sb → ℕ → Stripe
stripe_after newest mended =
    if nat_lt mended (low_stripes newest) then record { shape = low_shape newest; at = mended }
    else record { shape = high_shape newest; at = high_stripe newest + (mended - low_stripes newest) }

-- the one that is mended next, where so many are; none where all are
abbrev pub next_resync : Sb → ℕ → Option Stripe
next_resync newest mended = if nat_lt mended (resync_stripes newest) then Some (stripe_after newest mended) else None

-- where a stripe begins in the list
abbrev pub first_sector : Stripe → ℕ
first_sector stripe = stripe.at * stripe_sectors stripe.shape

-- parity is relied on below this sector of the list: where a resync is pending, below the first stripe that it hasn't mended
abbrev pub relied_sector : Sb → Option ℕ → ℕ
relied_sector newest None = list_length newest
relied_sector newest (Some mended) = first_sector (stripe_after newest mended)

-- the shape of the stripe behind so many, and a row of it
abbrev pub resync_shape : Sb → ℕ → Shape
resync_shape newest mended = (stripe_after newest mended).shape

abbrev pub IsResyncRow : Sb → ℕ → ℕ → Type 0
IsResyncRow newest mended row = IsOfStripe (resync_shape newest mended) (stripe_after newest mended).at row

-- the list stands in the data of its rows
abbrev pub ResyncStands : Sb → ℕ → Members → Contents → (ℕ → Sector) → Type 0
ResyncStands newest mended m c list = DataStandsAmong (resync_shape newest mended) (IsResyncRow newest mended) m c list

-- ---- why a stripe isn't mended

-- too many roles are missing of a shape in force, of the old one first; or else this
abbrev pub lacking_or : Members → Option Refusal → Option Refusal
lacking_or m rest = if are_too_many (shape_of m.newest) m then Some (too_many (shape_of m.newest) m)
    else if are_too_many (final_shape m.newest) m then Some (too_many (final_shape m.newest) m) else rest

-- the first of two causes: that, or the lowest missing role that has data in the stripe's shape
abbrev pub refusal_of_resync : Shape → Members → Option Refusal
refusal_of_resync shape m = lacking_or m (write_refusal shape false m)

-- a refusal tells one of them
abbrev pub IsNotSynced : Shape → Members → Refusal → Type 0
IsNotSynced shape m refusal = AreTooMany m refusal ⊎ (DoWithout m × IsNotResynced shape false m refusal)
