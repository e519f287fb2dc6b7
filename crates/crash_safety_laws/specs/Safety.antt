-- The room that marks need in the event count.
use Rattle.std.specs.Prelude.{◌+◌, ◌^◌, ◌<◌, ◌≤◌, false, List, length}
use Rattle.crash_views.specs.bank_the_Operation.{Operation}
use Rattle.crash_views.specs.sb_specs_the_Members.{Members}
use Rattle.crash_views.specs.sb_specs_Updating.{IsSomeLeft}
use Rattle.crash_views.specs.sb_specs_Outcome.{live_set}
use Rattle.crash_safety_laws.specs.Marking.{marking}

-- the event count may rise with each of the operations between
abbrev pub HasMarkRoom : Members → List Operation → List Operation → Type 0
HasMarkRoom members before after = members.newest.events + length after < 2 ^ 62 + length before

-- a live slot is left, which a mark is written to
abbrev pub HasLiveSlot : Members → Type 0
HasLiveSlot members = IsSomeLeft (live_set members (marking members false)) members.lost

-- the same, which matters only where a live slot is left
abbrev pub HasRoomLeft : Members → List Operation → List Operation → Type 0
HasRoomLeft members before after = HasLiveSlot members → HasMarkRoom members before after

-- Where a live slot is left, one was left before, and the event count rose by no more than there were operations.
pub record IsRisen (tells : Type 0) (old new : Members) (before after : List Operation) : Type 0 where
  pub left : HasLiveSlot new → HasLiveSlot old
  pub events : tells → HasLiveSlot new → new.newest.events + length before ≤ old.newest.events + length after
