-- A stripe of a window is copied, a part of its rows at a time.
use Rattle.std.specs.Prelude.{ℕ, ◌+◌, ◌*◌, ◌<◌, ◌≤◌}
use Rattle.reshape_window_rows.specs.raid_types_the_Shape.{Shape}
use Rattle.reshape_window_rows.specs.raid_types_Sectors.{Sector}
use Rattle.reshape_window_rows.specs.bank_Tape.{IsIn}
use Rattle.reshape_window_rows.specs.crash_views_Views.{Disk}

-- the row is one of the stripe's, from this one of them up to that
abbrev pub IsOfStripeFrom : Shape → ℕ → ℕ → ℕ → ℕ → Type 0
IsOfStripeFrom shape stripe from to row = (stripe * shape.chunk + from ≤ row) × (row < stripe * shape.chunk + to)

-- a stop leaves nothing new of the first sector of a slot, where the backup has its header
abbrev pub AreHeadersKept : Disk → Disk → Type 0
AreHeadersKept d e = (s : ℕ) (v : Sector) → IsIn (e s 0) v → IsIn (d s 0) v
