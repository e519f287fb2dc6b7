pub mod SectionLaws
pub mod StoredLaws
pub mod TriedLaws
pub mod WindowReads
pub use Rattle.reshape_progress.proofs.bank_Causes
pub use Rattle.reshape_progress.proofs.reshape_geometry_ClosedForms
pub use Rattle.reshape_progress.proofs.raid_layout_Places
