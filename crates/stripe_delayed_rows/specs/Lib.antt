pub mod Overlay
pub mod Laws
pub use Rattle.stripe_cache.specs.Apart as stripe_cache_Apart
pub use Rattle.stripe_cache.specs.Rows as stripe_cache_Rows
pub use Rattle.stripe_cache.specs.declared.cached.Cached as stripe_cache_the_Cached
pub use Rattle.stripe_cache.specs.declared.cached.Delayed as stripe_cache_the_Delayed
