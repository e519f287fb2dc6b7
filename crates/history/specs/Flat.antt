-- The flat sector list that a history of entries keeps. Rows, delayed writes, shapes and windows don't occur here.
use Rattle.std.specs.Prelude.{ℕ, ◌+◌, ◌-◌, Bool, true, false, ◌&&◌, ◌==◌, nat_le, nat_lt, if◌then◌else◌, min, List, [], ◌∷◌, length, take, drop, slice_index_or, fold, Option, Some, None, unwrap_or}
use Rattle.std.specs.Option.{option_map_or}
use Rattle.history.specs.declared.events.Event.{Event}
use Rattle.history.specs.declared.events.Event.TheVariants.{Wrote, Torn, Flushed, Resized, Visible, Stopped}
use Rattle.history.specs.declared.events.Entry.{Entry}
use Rattle.raid_types.specs.Sectors.{Sector, zero_sector}
use Rattle.bank.specs.Tape.{IsIn}

-- ---- calls and groups

-- both entries are of one call
abbrev pub is_same_call : Entry → Entry → Bool
is_same_call a b = (a.caller == b.caller) && (a.number == b.number)

-- the entries from the front on that are of this entry's call
abbrev pub rest_of_call : Entry → List Entry → List Entry
rest_of_call entry [] = []
rest_of_call entry (e ∷ entries) = if is_same_call entry e then e ∷ rest_of_call entry entries else []

-- the last of these entries, if there is one
abbrev pub last_of : List Entry → Option Entry
last_of [] = None
last_of (e ∷ entries) = Some (unwrap_or (last_of entries) e)

-- the next number of a caller: one more than its last one
abbrev pub number_after : ℕ → ℕ → Entry → ℕ
number_after caller next e = if e.caller == caller then e.number + 1 else next

abbrev pub next_number : ℕ → List Entry → ℕ
next_number caller entries = fold (number_after caller) 0 entries

-- ---- the list

-- the list's length, after an event
abbrev pub length_after : ℕ → Event → ℕ
length_after n (Resized m) = m
length_after n event = n

abbrev pub length_of : ℕ → List Entry → ℕ
length_of n entries = fold (λ n e. length_after n e.event) n entries

-- the limit of the visible size, after an event
abbrev pub limit_after : Option ℕ → Event → Option ℕ
limit_after limit (Visible wished count) = wished
limit_after limit event = limit

abbrev pub limit_of : List Entry → Option ℕ
limit_of entries = fold (λ limit e. limit_after limit e.event) None entries

-- how many sectors can be read and written
abbrev pub visible_of : ℕ → List Entry → ℕ
visible_of n entries = option_map_or (λ limit. min limit (length_of n entries)) (limit_of entries) (length_of n entries)

-- the write of this body at a place covers the sector
abbrev pub covers : ℕ → List Sector → ℕ → Bool
covers at body x = nat_le at x && nat_lt x (at + length body)

abbrev pub sector_at : ℕ → List Sector → ℕ → Sector
sector_at at body x = slice_index_or body (x - at) []

-- a value behind the newest
abbrev pub behind : Sector → List Sector → List Sector
behind value [] = []
behind value (now ∷ values) = now ∷ value ∷ values

-- a sector that the list newly gets is zero, and one that it loses has no value
abbrev pub resized : Bool → List Sector → List Sector
resized false values = []
resized true [] = zero_sector ∷ []
resized true (now ∷ values) = now ∷ values

-- The values of one sector since the last flush: what it holds first, then those that a stop may still leave in its
-- place. None: the sector is past the list's end.
abbrev pub values_after : ℕ → List Sector → Event → List Sector
values_after x values (Wrote at body) = if covers at body x then sector_at at body x ∷ values else values
values_after x values (Torn at body) = if covers at body x then behind (sector_at at body x) values else values
values_after x values Flushed = take 1 values
values_after x values Stopped = take 1 values
values_after x values (Resized n) = resized (nat_lt x n) values
values_after x values event = values

-- the value of a sector at the opening
abbrev pub first_values : List Sector → ℕ → List Sector
first_values list x = take 1 (drop x list)

-- the values of a sector after these entries, over a list that stood at the opening
unfoldable pub values_of : List Sector → List Entry → ℕ → List Sector
values_of list entries x = fold (λ values e. values_after x values e.event) (first_values list x) entries

-- what a sector holds now
abbrev pub now : List Sector → List Entry → ℕ → Sector
now list entries x = slice_index_or (values_of list entries x) 0 []

-- a stop may leave this value
abbrev pub IsAllowed : List Sector → List Entry → ℕ → Sector → Type 0
IsAllowed list entries x value = IsIn (values_of list entries x) value
