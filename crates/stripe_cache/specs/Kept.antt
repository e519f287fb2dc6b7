-- What became of a row that was to be kept.
use Rattle.std.specs.Prelude.{◌≡◌, Some, None}
use Rattle.stripe_cache.specs.declared.cached.Cached.{Cached}
use Rattle.stripe_cache.specs.declared.cached.Kept.{Kept}
use Rattle.stripe_cache.specs.declared.cached.Kept.TheVariants.{Here, Evicted, NoMemory}
use Rattle.stripe_cache.specs.Rows.{Rows, held_row, kept, leaving}

-- the answer to keeping this row: without memory, which a held row never wants, nothing has changed
abbrev pub IsKept : Cached → Rows → Rows → Kept → Type 0
IsKept cached old new Here = (new ≡ kept cached old) × (leaving cached old ≡ None)
IsKept cached old new (Evicted gone) = (new ≡ kept cached old) × (leaving cached old ≡ Some gone)
IsKept cached old new NoMemory = (new ≡ old) × (held_row cached.side cached.row old ≡ None)
