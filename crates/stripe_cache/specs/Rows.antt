-- The rows of a cache, and what its calls do with them.
use Rattle.std.specs.Prelude.{ℕ, ◌-◌, ◌==◌, nat_le, nat_lt, Bool, true, false, not, ◌&&◌, if◌then◌else◌, List, [], ◌∷◌, take, slice_get, Option, Some, None, bit_or}
use Rattle.std.specs.Option.{option_map_or}
use Rattle.std.specs.List.{find}
use Rattle.raid_types.specs.declared.places.Side.{Side}
use Rattle.raid_types.specs.declared.places.Side.TheVariants.{Old, New}
use Rattle.stripe_cache.specs.declared.cached.Cached.{Cached}
use Rattle.stripe_cache.specs.declared.cached.Delayed.{Delayed}
use Rattle.stripe_cache.specs.declared.cached.Delayed.TheVariants.{Anywhere, Within}

-- the rows that are held, the last used one first, and how many there may be
pub record Rows : Type 0 where
  pub held : List Cached
  pub room : ℕ

abbrev pub same_side : Side → Side → Bool
same_side Old Old = true
same_side New New = true
same_side Old New = false
same_side New Old = false

-- it is this row of this side
abbrev pub is_row : Side → ℕ → Cached → Bool
is_row side row cached = same_side side cached.side && (row == cached.row)

-- some roles are changed and not written yet
abbrev pub is_delayed : Cached → Bool
is_delayed cached = not (cached.changed == 0)

-- it is one of the delayed rows that are meant
abbrev pub is_meant : Delayed → Cached → Bool
is_meant Anywhere cached = is_delayed cached
is_meant (Within side rows) cached = is_delayed cached && same_side side cached.side && nat_le rows.lo cached.row && nat_lt cached.row rows.hi

-- the row, where it is held
abbrev pub held_row : Side → ℕ → Rows → Option Cached
held_row side row rows = find (is_row side row) rows.held

-- the rows without the first one that passes
abbrev pub without : (Cached → Bool) → List Cached → List Cached
without test [] = []
without test (cached ∷ held) = if test cached then held else cached ∷ without test held

-- the same rows after a use of this one
abbrev pub used : Side → ℕ → Rows → Rows
used side row rows = record rows { held = option_map_or (λ cached. cached ∷ without (is_row side row) rows.held) (held_row side row rows) rows.held }

-- the same rows with this one in front: in place of its older form, else where the cache is full in place of the last
abbrev pub kept : Cached → Rows → Rows
kept cached rows = record rows {
  held = option_map_or
      (λ old. record cached { changed = bit_or old.changed cached.changed } ∷ without (is_row cached.side cached.row) rows.held)
      (held_row cached.side cached.row rows)
      (cached ∷ take (rows.room - 1) rows.held);
}

-- the row that a new one pushes out
abbrev pub pushed_out : Rows → Option Cached
pushed_out rows = slice_get rows.held (rows.room - 1)

-- the row, where it is delayed
abbrev pub if_delayed : Option Cached → Option Cached
if_delayed None = None
if_delayed (Some cached) = if is_delayed cached then Some cached else None

-- the delayed row that keeping this one pushes out
abbrev pub leaving : Cached → Rows → Option Cached
leaving cached rows = option_map_or (λ old. None) (held_row cached.side cached.row rows) (if_delayed (pushed_out rows))
