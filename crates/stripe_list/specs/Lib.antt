pub mod Full
pub mod Calls
pub mod Buffers
pub mod Writing
pub mod Laws
pub use Rattle.stripe_row.specs.Rows as stripe_row_Rows
pub use Rattle.stripe_row.specs.Writes as stripe_row_Writes
