-- The calls of a lane, by its requests and their replies.
use Rattle.std.specs.Prelude.{List, [], ◌∷◌, ⊤}
use Rattle.lane_lock.specs.declared.call.Call.{Call}
use Rattle.test_lane_lock.specs.declared.entry.Request.{Request}
use Rattle.test_lane_lock.specs.declared.entry.Reply.{Reply}
use Rattle.test_lane_lock.specs.declared.entry.Reply.TheVariants.{Done, NoRoom}

-- each request with the place of its reply, up to one for which there was no room
abbrev pub calls_made : List Request → List Reply → List (Call Request)
calls_made [] rs = []
calls_made (q ∷ qs) [] = []
calls_made (q ∷ qs) (Done at sum ∷ rs) = record { request = q; at = at } ∷ calls_made qs rs
calls_made (q ∷ qs) (NoRoom ∷ rs) = []

abbrev pub AreDone : List Reply → Type 0
AreDone [] = ⊤
AreDone (Done at sum ∷ rs) = AreDone rs
AreDone (NoRoom ∷ rs) = ⊥
