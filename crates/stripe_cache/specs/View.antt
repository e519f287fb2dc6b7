-- The rows that a cache's entries are.
use Rattle.std.specs.Prelude.{ℕ, true, false, if◌then◌else◌, List, map}
use Rattle.raid_types.specs.declared.places.Side.{Side}
use Rattle.raid_types.specs.declared.places.Side.TheVariants.{Old, New}
use Rattle.stripe_cache.specs.declared.cached.Cached.{Cached}
use Rattle.stripe_cache.specs.declared.key.Key.{Key}
use Rattle.stripe_cache.specs.HeldRow.{HeldRow}
use Rattle.stripe_cache.specs.Rows.{Rows}

abbrev pub cached_of : Key × HeldRow → Cached
cached_of e = record { side = (if e.0.is_new then New else Old); row = e.0.row; body = e.1.body; changed = e.1.changed }

abbrev pub rows_of : List (Key × HeldRow) → ℕ → Rows
rows_of entries room = record { held = map cached_of entries; room = room }

abbrev pub key_of : Side → ℕ → Key
key_of Old row = record { is_new = false; row = row }
key_of New row = record { is_new = true; row = row }
