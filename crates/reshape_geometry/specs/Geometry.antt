-- A reshape goes from window to window. Sizes are in sectors; `back` says that it goes backward.
use Rattle.std.specs.Prelude.{◌≡◌, ◌≢◌, ◌≤◌, ◌<◌, ◌↔◌, ℕ, ◌+◌, ◌-◌, ◌*◌, ◌/◌, ◌%◌, ◌^◌, zero, suc, Bool, false, ◌&&◌, ◌==◌, nat_le, nat_lt, if◌then◌else◌, min, max, List, [], ◌∷◌, Option, Some, None, unwrap_or, sum_by, IsTrue, IfSome, MatchOption, ◌⊎◌}
use Rattle.std.specs.Option.{option_map_or}
use Rattle.std.specs.Int.{◌∣◌}
use Rattle.raid_types.specs.declared.places.Shape.{Shape}
use Rattle.raid_types.specs.declared.places.Span.{Span}
use Rattle.raid_types.specs.declared.places.Side.{Side}
use Rattle.raid_types.specs.declared.places.Side.TheVariants.{Old, New}
use Rattle.raid_types.specs.Shapes.{data_disks, stripe_sectors, is_multiple, is_valid_shape}
use Rattle.raid_types.specs.Search.{least_below}

-- the rows of each member: 1 to 2^48, a whole number of chunks
abbrev pub is_size : ℕ → ℕ → Bool
is_size size chunk = nat_le 1 size && nat_le size (2 ^ 48) && is_multiple size chunk

-- two valid shapes over members of one size, as they are in force while a reshape is active
pub record AreInForce (old new : Shape) (size : ℕ) : Type 0 where
  pub old_valid : IsTrue (is_valid_shape old)
  pub new_valid : IsTrue (is_valid_shape new)
  pub old_size : IsTrue (is_size size old.chunk)
  pub new_size : IsTrue (is_size size new.chunk)

-- the least common multiple of two positive numbers: the first multiple of a that b divides
abbrev pub common_multiple : ℕ → ℕ → ℕ
common_multiple a b = a * (unwrap_or (least_below b (λ k. is_multiple (a * (k + 1)) b)) 0 + 1)

-- the unit: the least common multiple of the two full data stripes
abbrev pub unit : Shape → Shape → ℕ
unit old new = common_multiple (stripe_sectors old) (stripe_sectors new)

-- the end: where the flat list ends while both shapes are in force
abbrev pub list_end : Shape → Shape → ℕ → ℕ
list_end old new size = min (data_disks old) (data_disks new) * size

-- forward, what lies below the position is new; backward, what lies at or above it
abbrev pub side : Bool → ℕ → ℕ → Side
side back position x = if (if back then nat_le position x else nat_lt x position) then New else Old

-- The next window from a position: up to one unit, ending at the end or at the position.
abbrev pub window : Shape → Shape → ℕ → Bool → ℕ → Option Span
window old new size back position =
    if back
    then (if position == 0 then None else Some (record { lo = ((position - 1) / unit old new) * unit old new; hi = position }))
    else (if nat_le (list_end old new size) position then None
    else Some (record { lo = position; hi = min (position + unit old new) (list_end old new size) }))

-- n divided by k, rounded up
abbrev pub ceiling : ℕ → ℕ → ℕ
ceiling n k = (n + (k - 1)) / k

-- how many stripes a span touches
abbrev pub stripes : Shape → ℕ → ℕ → ℕ
stripes shape lo hi = ceiling hi (stripe_sectors shape) - lo / stripe_sectors shape

-- the rows of the stripes that a span touches
abbrev pub rows : Shape → ℕ → ℕ → Span
rows shape lo hi = record { lo = (lo / stripe_sectors shape) * shape.chunk; hi = ceiling hi (stripe_sectors shape) * shape.chunk }

abbrev pub meets : Span → Span → Bool
meets a b = nat_lt (max a.lo b.lo) (min a.hi b.hi)

-- A window is critical where its new rows meet the rows of old sectors that still live: those from the position on
-- (forward, where the window begins at the position), or those below it (backward, where it ends there).
abbrev pub is_critical : Shape → Shape → ℕ → Bool → Span → Bool
is_critical old new size back span =
    meets (rows new span.lo span.hi)
    (if back then rows old 0 span.hi else rows old span.lo (list_end old new size))

-- where a window is begun, and where it leads: forward from its start to its end, backward from its end to its start
abbrev pub begun : Bool → Span → ℕ
begun back span = if back then span.hi else span.lo

abbrev pub beyond : Bool → Span → ℕ
beyond back span = if back then span.lo else span.hi

-- how many windows are left from a position
abbrev pub windows_left : Shape → Shape → ℕ → Bool → ℕ → ℕ
windows_left old new size back position =
    if back then ceiling position (unit old new) else ceiling (list_end old new size - position) (unit old new)

-- the next n windows from a position, one after another
abbrev pub next_windows : Shape → Shape → ℕ → Bool → ℕ → ℕ → List Span
next_windows old new size back zero position = []
next_windows old new size back (suc n) position =
    option_map_or (λ span. span ∷ next_windows old new size back n (beyond back span)) (window old new size back position) []

-- the windows that a reshape has left
abbrev pub windows : Shape → Shape → ℕ → Bool → ℕ → List Span
windows old new size back position = next_windows old new size back (windows_left old new size back position) position

-- a window's steps: it is entered, each of its new stripes is copied, and it is recorded
abbrev pub window_steps : Shape → Span → ℕ
window_steps new span = 2 + stripes new span.lo span.hi

-- the stripes of the new shape past the list's end, which a forward reshape zeroes
abbrev pub zeroed_stripes : Shape → Shape → ℕ → Bool → ℕ
zeroed_stripes old new size back =
    if back then 0 else size / new.chunk - ceiling (list_end old new size) (stripe_sectors new)

-- the steps that a reshape has left: its windows, its zeroed stripes and its end
abbrev pub steps_of : Shape → Shape → ℕ → Bool → ℕ → ℕ
steps_of old new size back position =
    sum_by (window_steps new) (windows old new size back position) + zeroed_stripes old new size back + 1

-- a whole reshape, its start among its steps
abbrev pub reshape_steps : Shape → Shape → ℕ → ℕ
reshape_steps old new size =
    let back = nat_lt (data_disks new) (data_disks old) in
    1 + steps_of old new size back (if back then list_end old new size else 0)

-- ---- what the unit and the windows promise

-- the least common multiple, as it is defined: both numbers divide it, and it is at most each number that both divide
pub record IsLeastCommonMultiple (a b multiple : ℕ) : Type 0 where
  pub positive : 0 < multiple
  pub first : a ∣ multiple
  pub second : b ∣ multiple
  pub least : (m : ℕ) → 0 < m → a ∣ m → b ∣ m → multiple ≤ m

-- the position at which a reshape has no window left: forward the end of the list, backward 0
abbrev pub final_position : Shape → Shape → ℕ → Bool → ℕ
final_position old new size back = if back then 0 else list_end old new size

-- a window from a position: it begins there, isn't empty, is at most one unit long, and lies in the list
pub record IsWindowAt (old new : Shape) (size : ℕ) (back : Bool) (position : ℕ) (span : Span) : Type 0 where
  pub begins : begun back span ≡ position
  pub filled : span.lo < span.hi
  pub longest : span.hi ≤ span.lo + unit old new
  pub inside : span.hi ≤ list_end old new size

-- spans that tile the way from a position to a last one: each begins where the former ended
abbrev pub Tile : Bool → ℕ → ℕ → List Span → Type 0
Tile back position last [] = position ≡ last
Tile back position last (span ∷ spans) = (begun back span ≡ position) × (span.lo < span.hi) × Tile back (beyond back span) last spans

-- a law of each position that a reshape may have, on the unit or off it
abbrev pub AtEachPosition : (Shape → Shape → ℕ → Bool → ℕ → Type 0) → Type 0
AtEachPosition P =
    (old new : Shape) (size : ℕ) (back : Bool) (position : ℕ) → AreInForce old new size → position ≤ list_end old new size
    → P old new size back position

-- the windows that are left tile the way from the position to where the reshape ends
abbrev pub WindowsTile : Type 0
WindowsTile =
    AtEachPosition (λ old new size back position.
    Tile back position (final_position old new size back) (windows old new size back position))

-- behind the next window the same windows are left but for that one
abbrev pub WindowsGoOn : Type 0
WindowsGoOn =
    AtEachPosition (λ old new size back position.
    MatchOption (window old new size back position) (windows old new size back position ≡ [])
    (λ span. windows old new size back position ≡ span ∷ windows old new size back (beyond back span)))

-- a window takes its own steps of those that are left, and in the end the zeroed stripes and the end are left
abbrev pub StepsFall : Type 0
StepsFall =
    AtEachPosition (λ old new size back position.
    MatchOption (window old new size back position) (steps_of old new size back position ≡ zeroed_stripes old new size back + 1)
    (λ span. steps_of old new size back position ≡ window_steps new span + steps_of old new size back (beyond back span)))

-- the position is a whole number of units, or the end of the list
abbrev pub IsOnUnit : Shape → Shape → ℕ → ℕ → Type 0
IsOnUnit old new size position = (unit old new ∣ position) ⊎ (position ≡ list_end old new size)

-- a window from a position on the unit leads to one on the unit
abbrev pub WindowsKeepTheUnit : Type 0
WindowsKeepTheUnit =
    AtEachPosition (λ old new size back position.
    IsOnUnit old new size position
    → IfSome (window old new size back position) (λ span. IsOnUnit old new size (beyond back span)))

-- the row of a sector: its stripe's rows, and its place in its chunk
abbrev pub row_at : Shape → ℕ → ℕ
row_at shape x = (x / shape.chunk) / data_disks shape * shape.chunk + x % shape.chunk

-- the number lies in the span
abbrev pub IsIn : ℕ → Span → Type 0
IsIn x span = (span.lo ≤ x) × (x < span.hi)

-- the old sectors that still live when the window at hand is begun
abbrev pub live_sectors : Shape → Shape → ℕ → Bool → Span → Span
live_sectors old new size back span =
    if back then record { lo = 0; hi = span.hi } else record { lo = span.lo; hi = list_end old new size }

-- each sector of a span stands in one of the span's rows
abbrev pub RowsHoldTheirSectors : Type 0
RowsHoldTheirSectors =
    (shape : Shape) (span : Span) (x : ℕ) → IsTrue (is_valid_shape shape) → IsIn x span
    → IsIn (row_at shape x) (rows shape span.lo span.hi)

-- a window that isn't critical is written to no row on which an old sector still lives
abbrev pub WritesAreApart : Type 0
WritesAreApart =
    (old new : Shape) (size : ℕ) (back : Bool) (span : Span) → AreInForce old new size
    → is_critical old new size back span ≡ false
    → (row y : ℕ) → IsIn row (rows new span.lo span.hi) → IsIn y (live_sectors old new size back span) → row_at old y ≢ row

-- a window is critical exactly where a row that it writes is a row of a stripe with old sectors that still live
abbrev pub CriticalIsShared : Type 0
CriticalIsShared =
    (old new : Shape) (size : ℕ) (back : Bool) (span : Span)
    → let live = live_sectors old new size back span in
    IsTrue (is_critical old new size back span)
    ↔ ((row : ℕ) × IsIn row (rows new span.lo span.hi) × IsIn row (rows old live.lo live.hi))
