use Rattle.std.proofs.Common.{◌≡◌, map}
use Rattle.std.specs.List.{find}
use Rattle.stripe_cache.specs.Rows.{is_meant}
use Rattle.stripe_cache.specs.View.{cached_of}
use Rattle.stripe_cache.proofs.cache.Cache.first.Given as goal

abbrev pub invariant-loop-key : goal.invariant-loop-key
invariant-loop-key l = find (is_meant l.which) (map cached_of l.key-iterator) ≡ find (is_meant l.which) l.self.held
