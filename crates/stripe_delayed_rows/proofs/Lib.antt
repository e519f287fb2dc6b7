pub mod RowLaws
pub mod OverlayLaws
pub use Rattle.stripe_cache.proofs.Laws as stripe_cache_Laws
pub use Rattle.stripe_cache.proofs.Views as stripe_cache_Views
