-- How a resync goes through the list of an array in a reshape.
use Rattle.std.specs.Prelude.{◌≡◌, ◌↔◌, ℕ, ◌+◌, ◌*◌, ◌/◌, ◌<◌, ◌≤◌, min, true, false, Option, Some, IfSome}
use Rattle.reshape_request.specs.raid_types_Shapes.{stripe_sectors}
use Rattle.reshape_request.specs.sb_codec_the_Sb.{Sb}
use Rattle.reshape_request.specs.reshape_geometry_Geometry.{ceiling}
use Rattle.reshape_request.specs.sb_specs_Reading.{is_reshaping, is_backward, shape_of, final_shape, list_length}
use Rattle.stripe_region_write.specs.history_Stands.{shape_for}
use Rattle.stripe_region_write.specs.crash_views_Regions.{AreShapesFit, place_by}
use Rattle.stripe_region_write.specs.array_members_Placed.{IsInForce}
use Rattle.stripe_region_write.specs.stripe_region_read_Stretches.{relied_rows}
use Rattle.stripe_region_resync.specs.declared.stripes.Stripe.{Stripe}
use Rattle.stripe_region_resync.specs.Mends.{resync_stripes, stripe_after, next_resync, first_sector, relied_sector, IsResyncRow}

-- The next stripe, where so many are mended, is one of a shape in force. It begins where parity is relied on so far; with it mended, that is so to its end, or to
-- the list's, a chunk further or more; and each sector between is placed by its shape.
pub record IsSyncedNext (newest : Sb) (mended : ℕ) (next : Stripe) : Type 0 where
  pub force : IsInForce newest next.shape
  pub below : next.at < newest.size / next.shape.chunk
  pub begins : relied_sector newest (Some mended) ≡ first_sector next
  pub ends : relied_sector newest (Some (mended + 1)) ≡ min (first_sector next + stripe_sectors next.shape) (list_length newest)
  pub chunk : first_sector next + next.shape.chunk ≤ relied_sector newest (Some (mended + 1))
  pub own : (x : ℕ) → first_sector next ≤ x → x < relied_sector newest (Some (mended + 1)) → shape_for newest x ≡ next.shape

abbrev pub ResyncsGoOn : Type 0
ResyncsGoOn = (newest : Sb) (mended : ℕ) (next : Stripe) → AreShapesFit newest → next_resync newest mended ≡ Some next → IsSyncedNext newest mended next

-- With more stripes mended, parity is relied on as far or further.
abbrev pub ReliedGrows : Type 0
ReliedGrows = (newest : Sb) (mended more : ℕ) → AreShapesFit newest → mended ≤ more → more ≤ resync_stripes newest
    → relied_sector newest (Some mended) ≤ relied_sector newest (Some more)

-- With none mended, it is nowhere; with all, in the whole list.
abbrev pub ReliedReaches : Type 0
ReliedReaches = (newest : Sb) → AreShapesFit newest
    → (relied_sector newest (Some 0) ≡ 0) × (relied_sector newest (Some (resync_stripes newest)) ≡ list_length newest)

-- It is so of exactly the sectors below: no stripe of either region is cut.
abbrev pub ReliedIsWhole : Type 0
ReliedIsWhole = (newest : Sb) (resync : Option ℕ) (x : ℕ) → AreShapesFit newest → IfSome resync (λ mended. mended ≤ resync_stripes newest) → x < list_length newest
    → ((place_by newest x).row < relied_rows newest (relied_sector newest resync) (shape_for newest x)) ↔ (x < relied_sector newest resync)

-- Once a forward reshape has gone through the list, each row that is mended is of a stripe of the new shape that has sectors of the list: none is one that is zeroed.
abbrev pub ResyncsAreListed : Type 0
ResyncsAreListed = (newest : Sb) (mended row : ℕ) → AreShapesFit newest → is_reshaping newest ≡ true → is_backward newest ≡ false → newest.reshape_position ≡ list_length newest
    → mended < resync_stripes newest → IsResyncRow newest mended row → row < ceiling (list_length newest) (stripe_sectors (final_shape newest)) * (final_shape newest).chunk

-- Without a reshape the stripes are those of the array, one after another.
abbrev pub StillResyncs : Type 0
StillResyncs = (newest : Sb) (mended : ℕ) → AreShapesFit newest → is_reshaping newest ≡ false
    → (resync_stripes newest ≡ newest.size / (shape_of newest).chunk) × (stripe_after newest mended ≡ record { shape = shape_of newest; at = mended })
