-- The steps that a pending resync of an array in a reshape has left.
use Rattle.std.specs.Prelude.{◌≡◌, ℕ, ◌+◌, ◌-◌, ◌/◌, ◌<◌, true, Bool, if◌then◌else◌, Option, Some, None}
use Rattle.reshape_request.specs.raid_types_the_Shape.{Shape}
use Rattle.reshape_request.specs.raid_types_the_Span.{Span}
use Rattle.reshape_request.specs.raid_types_Shapes.{stripe_sectors}
use Rattle.reshape_request.specs.bank_Given.{Given}
use Rattle.reshape_request.specs.sb_codec_the_Sb.{Sb}
use Rattle.reshape_request.specs.reshape_geometry_Geometry.{ceiling, beyond}
use Rattle.reshape_request.specs.sb_specs_the_Members.{Members}
use Rattle.reshape_request.specs.sb_specs_Reading.{is_reshaping, is_backward, shape_of, final_shape}
use Rattle.stripe_region_write.specs.crash_views_Regions.{AreShapesFit}
use Rattle.stripe_region_write.specs.crash_views_Windows.{moved_past}
use Rattle.stripe_region_write.specs.array_members_Moving.{IsMoved}
use Rattle.reshape_request.specs.declared.window.Window.{Window}
use Rattle.reshape_request.specs.declared.window.Window.TheVariants.{Closed, Entered, Unsure}
use Rattle.stripe_region_resync.specs.Mends.{resync_stripes}

-- the stripes that two shapes have below a position and from there on, over so many rows
abbrev pub stripes_beside : Shape → Shape → ℕ → ℕ → ℕ
stripes_beside low high size position = ceiling position (stripe_sectors low) + (size / high.chunk - position / stripe_sectors high)

-- those of a resync in a reshape at a position: forward the new ones below it and the old ones behind, backward the other way round
abbrev pub resyncs_at : Shape → Shape → ℕ → Bool → ℕ → ℕ
resyncs_at old new size back position = if back then stripes_beside old new size position else stripes_beside new old size position

-- the position behind the window under way, if one is entered
abbrev pub position_behind : Sb → Window → ℕ
position_behind newest Closed = newest.reshape_position
position_behind newest (Entered span copied sectioned) = beyond (is_backward newest) span
position_behind newest (Unsure span) = newest.reshape_position

-- one step for each stripe that isn't mended, counted for the position behind an entered window, and one for the end; none where no resync is pending
abbrev pub resync_left : Sb → Window → Option ℕ → ℕ
resync_left newest window None = 0
resync_left newest window (Some mended) = resyncs_at (shape_of newest) (final_shape newest) newest.size (is_backward newest) (position_behind newest window) - mended + 1

-- ---- laws

-- The stripes of a resync are so many.
abbrev pub ResyncsAreCounted : Type 0
ResyncsAreCounted = (newest : Sb) → AreShapesFit newest → is_reshaping newest ≡ true
    → resync_stripes newest ≡ resyncs_at (shape_of newest) (final_shape newest) newest.size (is_backward newest) newest.reshape_position

-- Members that lost slots have as many left; and a window that is recorded leaves as many.
abbrev pub ResyncLeftStays : Type 0
ResyncLeftStays = (given : Given) (old new : Members) (window : Window) (resync : Option ℕ) → IsMoved given old new → resync_left new.newest window resync ≡ resync_left old.newest window resync

abbrev pub RecordsLeaveResync : Type 0
RecordsLeaveResync = (given : Given) (old new : Members) (span : Span) (copied : ℕ) (sectioned : Bool) (resync : Option ℕ) → IsMoved given (moved_past span old) new
    → resync_left new.newest Closed resync ≡ resync_left old.newest (Entered span copied sectioned) resync

-- A stripe that is mended takes one, and its end the last.
abbrev pub ResyncingTakesOne : Type 0
ResyncingTakesOne = (given : Given) (old new : Members) (mended : ℕ) → AreShapesFit old.newest → is_reshaping old.newest ≡ true → mended < resync_stripes old.newest → IsMoved given old new
    → resync_left new.newest Closed (Some (mended + 1)) + 1 ≡ resync_left old.newest Closed (Some mended)

abbrev pub ResyncEndsLast : Type 0
ResyncEndsLast = (newest : Sb) → AreShapesFit newest → is_reshaping newest ≡ true → resync_left newest Closed (Some (resync_stripes newest)) ≡ 1
