pub mod Judged
pub mod PlanChecks
pub mod Sound
pub use Rattle.reshape_geometry.proofs.ClosedForms as reshape_geometry_ClosedForms
pub use Rattle.reshape_geometry.proofs.Divisions as reshape_geometry_Divisions
pub use Rattle.reshape_geometry.proofs.GoingOn as reshape_geometry_GoingOn
pub use Rattle.reshape_geometry.proofs.Rows as reshape_geometry_Rows
pub use Rattle.reshape_geometry.proofs.Valid as reshape_geometry_Valid
