pub mod Losses
pub mod Members
pub mod Regions
pub mod Rows
pub mod Listed
pub mod Right
pub mod Opens
pub use Rattle.array_found_laws.proofs.Causes as array_found_laws_Causes
pub use Rattle.array_found_laws.proofs.Elected as array_found_laws_Elected
pub use Rattle.array_found_laws.proofs.Placed as array_found_laws_Placed
pub use Rattle.array_reshaping_invariant.proofs.reshape_request_FirstLaws
