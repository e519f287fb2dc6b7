-- What each cache keeps: no row stands twice in it, and there are at most as many as there may be.
use Rattle.std.specs.Prelude.{◌≡◌, ℕ, ◌<◌, ◌≤◌, List, [], ◌∷◌, length, None}
use Rattle.std.specs.List.{find}
use Rattle.stripe_cache.specs.declared.cached.Cached.{Cached}
use Rattle.stripe_cache.specs.Rows.{Rows, is_row}

-- no row has one of the same side and number behind it
abbrev pub IsApart : List Cached → Type 0
IsApart [] = Unit {0}
IsApart (cached ∷ rows) = (find (is_row cached.side cached.row) rows ≡ None) × IsApart rows

-- each row stands once, and there are at most as many as there may be
pub record IsCache (rows : Rows) : Type 0 where
  pub apart : IsApart rows.held
  pub fits : length rows.held ≤ rows.room
  pub some : 0 < rows.room
