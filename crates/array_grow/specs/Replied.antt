-- A reply to a request to grow, as one to a running array.
use Rattle.std.specs.Prelude.{ℕ, List, Result}
use Rattle.array_reply_specs.specs.raid_types_the_Fault.{Fault}
use Rattle.array_reply_specs.specs.raid_types_the_Who.{Who}
use Rattle.array_reply_specs.specs.raid_types_the_Wish.{Wish}
use Rattle.array_reply_specs.specs.history_the_Entry.{Entry}
use Rattle.array_reply_specs.specs.history_the_Event_TheVariants.{Planned}
use Rattle.array_reply_specs.specs.history_the_Request_TheVariants.{Grow as AsksGrow}
use Rattle.array_reply_specs.specs.Replies.{IsRepliedWith}

-- the reply by the answer, with so many steps left; where memory was short, nothing was entered
abbrev pub IsGrowReplied : {T : Type 0} → ℕ → Wish → Who → List Entry → List Entry → ℕ → Result T Fault → Type 0
IsGrowReplied size wish who old new left result = IsRepliedWith size (AsksGrow wish) who old new (Planned left wish) result
