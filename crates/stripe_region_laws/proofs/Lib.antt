pub mod RegionLaws
pub use Rattle.reshape_geometry.proofs.Divisions as reshape_geometry_Divisions
pub use Rattle.reshape_geometry.proofs.Rows as reshape_geometry_Rows
