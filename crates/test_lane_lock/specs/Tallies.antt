-- A tally with its history, as a lock sees it.
use Rattle.std.specs.Prelude.{◌≡◌, ℕ, ◌+◌, ◌==◌, Bool, true, false, if◌then◌else◌, List, [], ◌∷◌, ◌++◌, length, drop, ⊤}
use Rattle.lane_lock.specs.declared.call.Call.{Call}
use Rattle.lane_lock.specs.Ways.{Ways}
use Rattle.test_lane_lock.specs.declared.entry.Entry.{Entry}
use Rattle.test_lane_lock.specs.declared.entry.Request.{Request}
use Rattle.test_lane_lock.specs.declared.entry.Request.TheVariants.{Add, Read}
use Rattle.test_lane_lock.specs.declared.entry.Reply.{Reply}
use Rattle.test_lane_lock.specs.declared.entry.Reply.TheVariants.{Done, NoRoom}

-- the amounts, added up
abbrev pub sum_of : List Entry → ℕ
sum_of [] = 0
sum_of (e ∷ es) = e.amount + sum_of es

-- the second list begins with the first
abbrev pub IsBefore : List Entry → List Entry → Type 0
IsBefore xs ys = (zs : List Entry) × (xs ++ zs ≡ ys)

-- what a request adds to the sum
abbrev pub amount_of : Request → ℕ
amount_of (Add n) = n
amount_of Read = 0

-- a caller's calls in these entries, of which the first is at this place: the request's amount and its place
abbrev pub places_by : ℕ → ℕ → List Entry → List (ℕ × ℕ)
places_by caller place [] = []
places_by caller place (e ∷ es) = if e.caller == caller then (e.amount, place) ∷ places_by caller (place + 1) es else places_by caller (place + 1) es

abbrev pub calls_of : List (Call Request) → List (ℕ × ℕ)
calls_of [] = []
calls_of (c ∷ cs) = (amount_of c.request, c.at) ∷ calls_of cs

-- one entry, by this caller and with the request's amount, whose reply tells its place and the sum before
abbrev pub IsAdded : List Entry → List Entry → ℕ → Request → Reply → Type 0
IsAdded xs ys caller request (Done at sum) = (ys ≡ xs ++ record { caller = caller; amount = amount_of request } ∷ []) × (at ≡ length xs) × (sum ≡ sum_of xs)
IsAdded xs ys caller request NoRoom = ⊥

abbrev pub is_reply : Reply → Bool
is_reply (Done at sum) = true
is_reply NoRoom = false

-- since the start the caller has just these calls in the history
abbrev pub entered : ℕ → List Entry → List Entry → List (Call Request) → Type 0
entered caller start now mine = places_by caller (length start) (drop (length start) now) ≡ calls_of mine

abbrev pub tally_ways : Ways (List Entry) Request Reply
tally_ways = record {
  size = λ t. length t;
  IsSound = λ t. ⊤;
  Begins = λ s t. IsBefore s t;
  IsAskable = λ caller request. ⊤;
  is_done = is_reply;
  Adds = λ s t caller request reply. IsAdded s t caller request reply;
  Made = λ start t caller mine. entered caller start t mine;
}
