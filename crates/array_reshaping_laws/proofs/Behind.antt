-- The position behind the window under way lies in the list.
use Rattle.std.proofs.Common.{◌≡◌, ◌<◌, ◌≤◌, Bool, true, false, arith}
use Rattle.reshape_window_backup.specs.sb_codec_the_Sb.{Sb}
use Rattle.reshape_window_backup.specs.reshape_geometry_Geometry.{beyond}
use Rattle.array_reshaping_resync_laws.specs.sb_specs_Reading.{is_reshaping, is_backward, list_length}
use Rattle.array_reshaping_resync_laws.specs.crash_views_Regions.{AreShapesFit}
use Rattle.array_reshaping_resync_laws.proofs.crash_views_Headers.{window-filled}
use Rattle.array_reshaping_resync_laws.proofs.crash_views_Stands.{window-inside}
use Rattle.array_reshaping_resync_laws.specs.reshape_request_the_Window.{Window}
use Rattle.array_reshaping_resync_laws.specs.reshape_request_the_Window_TheVariants.{Closed, Entered, Unsure}
use Rattle.array_reshaping_resync_laws.specs.reshape_request_Left.{IsWindowRight}
use Rattle.array_reshaping_resync_laws.specs.stripe_region_resync_Left.{position_behind}

pub position-within : (newest : Sb) (window : Window) → AreShapesFit newest → is_reshaping newest ≡ true → IsWindowRight newest window → position_behind newest window ≤ list_length newest
position-within newest Closed fit active is = fit.position active
position-within newest (Unsure span) fit active is = fit.position active
position-within newest (Entered span copied sectioned) fit active is = by (is_backward newest) (window-filled newest fit span is.0) (window-inside newest fit span is.0)
  where
    by : (back : Bool) → span.lo < span.hi → span.hi ≤ list_length newest → beyond back span ≤ list_length newest
    by true some inside = omega (arith, some, inside)
    by false some inside = inside
