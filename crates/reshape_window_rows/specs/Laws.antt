-- What members have that are placed by one shape or by two.
use Rattle.reshape_begin_end.specs.bank_Given.{Given}
use Rattle.reshape_begin_end.specs.sb_specs_the_Members.{Members}
use Rattle.reshape_begin_end.specs.sb_specs_Reading.{Scope, shape_of, final_shape}
use Rattle.reshape_begin_end.specs.stripe_row_Rows.{reading_of}
use Rattle.reshape_begin_end.specs.stripe_list_Calls.{HasRows}
use Rattle.reshape_begin_end.specs.crash_views_Regions.{ArePlaced}

-- They have the rows of both.
abbrev pub PlacedHaveRows : Type 0
PlacedHaveRows = (scope : Scope) (given : Given) (m : Members) → ArePlaced scope given m
    → HasRows given (reading_of m) (shape_of m.newest) × HasRows given (reading_of m) (final_shape m.newest)
