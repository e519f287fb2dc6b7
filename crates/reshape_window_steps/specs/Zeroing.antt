-- Stripes behind the list are zeroed.
use Rattle.std.specs.Prelude.{◌≡◌, true, None}
use Rattle.reshape_window_rows.specs.sb_codec_the_Sb.{Sb}
use Rattle.reshape_window_rows.specs.sb_specs_Reading.{is_reshaping, next_window}
use Rattle.reshape_window_rows.specs.crash_safety_laws_Updates.{IsAtEnd}

-- A reshape has gone through the list: it is active, no window is left, and its position is the last one.
pub record IsThrough (newest : Sb) : Type 0 where
  pub active : is_reshaping newest ≡ true
  pub none : next_window newest ≡ None
  pub last : IsAtEnd newest
