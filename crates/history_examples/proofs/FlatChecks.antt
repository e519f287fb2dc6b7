-- What a sector may hold along a history, computed.
use Rattle.std.proofs.Common.{◌≡◌, ℕ, ◌+◌, List, [], ◌∷◌, ◌++◌, drop, true, false, refl, Some, None}
use Rattle.history.specs.declared.events.Event.{Event}
use Rattle.history.specs.declared.events.Event.TheVariants.{Wrote, Torn, Flushed, Lost, Rebuilt, Resized, Visible}
use Rattle.history.specs.declared.events.LostCause.TheVariants.{Command}
use Rattle.history.specs.declared.events.Entry.{Entry}
use Rattle.history.specs.raid_types_Sectors.{Sector, zero_sector}
use Rattle.history.specs.Flat.{values_of, length_of, visible_of, next_number}
use Rattle.history.specs.World.{World}
use Rattle.history.specs.Losses.{is_gone}
use Rattle.history.specs.Seen.{reply_places}

abbrev list : List Sector
list = (10 ∷ []) ∷ (11 ∷ []) ∷ (12 ∷ []) ∷ []

-- entries of one caller, each a call of its own
abbrev numbered : ℕ → List Event → List Entry
numbered n [] = []
numbered n (event ∷ events) = record { caller = 0; number = n; end = n; event = event } ∷ numbered (n + 1) events

abbrev written : List Entry
written = numbered 0 (Wrote 1 ((21 ∷ []) ∷ (22 ∷ []) ∷ []) ∷ Wrote 1 ((31 ∷ []) ∷ []) ∷ [])

-- two writes of sector 1, none of sector 0
newest_first : values_of list written 1 ≡ (31 ∷ []) ∷ (21 ∷ []) ∷ (11 ∷ []) ∷ []
unfolding values_of
newest_first = refl

untouched : values_of list written 0 ≡ (10 ∷ []) ∷ []
unfolding values_of
untouched = refl

flushed : values_of list (written ++ numbered 2 (Flushed ∷ [])) 1 ≡ (31 ∷ []) ∷ []
unfolding values_of
flushed = refl

-- a torn write may be there after a stop, and isn't what the list holds
torn : values_of list (numbered 0 (Wrote 1 ((21 ∷ []) ∷ []) ∷ Torn 1 ((31 ∷ []) ∷ []) ∷ [])) 1 ≡ (21 ∷ []) ∷ (31 ∷ []) ∷ (11 ∷ []) ∷ []
unfolding values_of
torn = refl

-- a sector that the list lost and got again is zero
again : values_of list (written ++ numbered 2 (Resized 1 ∷ Resized 3 ∷ [])) 1 ≡ zero_sector ∷ []
unfolding values_of
again = refl

kept : values_of list (written ++ numbered 2 (Resized 2 ∷ Resized 3 ∷ [])) 1 ≡ (31 ∷ []) ∷ (21 ∷ []) ∷ (11 ∷ []) ∷ []
unfolding values_of
kept = refl

fourth : values_of list (numbered 0 (Resized 4 ∷ [])) 3 ≡ zero_sector ∷ []
unfolding values_of
fourth = refl

past : values_of list [] 3 ≡ []
unfolding values_of
past = refl

lengths : (length_of 3 (numbered 0 (Resized 4 ∷ [])) ∷ visible_of 3 (numbered 0 (Visible (Some 2) 2 ∷ [])) ∷ visible_of 3 (numbered 0 (Visible (Some 2) 2 ∷ Visible None 3 ∷ [])) ∷ []) ≡ 4 ∷ 2 ∷ 3 ∷ []
lengths = refl

next : next_number 0 written ≡ 2
next = refl

-- a loss counts up to j, a rebuild up to k
module _ (world : World) where
  lost_and_rebuilt : List Entry
  lost_and_rebuilt = numbered 0 (Lost 1 Command ∷ Rebuilt 1 ∷ Lost 2 Command ∷ [])

  after_one : is_gone world lost_and_rebuilt 1 2 1 ≡ true
  unfolding is_gone lost_and_rebuilt
  after_one = refl

  after_two : is_gone world lost_and_rebuilt 2 2 1 ≡ false
  unfolding is_gone lost_and_rebuilt
  after_two = refl

  perhaps_third : is_gone world lost_and_rebuilt 2 3 2 ≡ true
  unfolding is_gone lost_and_rebuilt
  perhaps_third = refl

-- two callers beside each other: the places of each one's replies, from the start and from the second entry on
abbrev entry : ℕ → ℕ → Event → Entry
entry caller number event = record { caller = caller; number = number; end = 0; event = event }

abbrev beside : List Entry
beside = entry 1 0 (Lost 1 Command) ∷ entry 1 0 Flushed ∷ entry 2 0 Flushed ∷ entry 1 1 Flushed ∷ []

replies : (reply_places 1 0 beside ∷ reply_places 2 0 beside ∷ reply_places 1 2 (drop 2 beside) ∷ []) ≡ (1 ∷ 3 ∷ []) ∷ (2 ∷ []) ∷ (3 ∷ []) ∷ []
replies = refl
